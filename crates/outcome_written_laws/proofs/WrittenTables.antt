-- The text of a table has the lines of the table.
use Rattle.std.proofs.Common.{◌≡◌, ℕ, suc, ◌+◌, ◌^◌, ◌<◌, ◌≤◌, true, false, List, [], ◌∷◌, ◌++◌, length, map, Option, Some, None, refl, sym, ap, ◌∙◌, subst, arith, append_assoc, append-nil}
use Rattle.std.specs.Prelude.{codes, decimal}
use Rattle.std.specs.List.{AllZip, AllByRecursion, list_all, flat_map, slice_index_or}
use Rattle.std.proofs.lemmas.List.Folds.{list_all-append}
use Rattle.std.proofs.lemmas.Bool.{and_from}
use Rattle.text_definitions.specs.Text.{Line, is_word_byte, is_skipped, pieces, line_of, lines_from, lines_of}
use Rattle.text_definitions.specs.Written.{spaced}
use Rattle.table_definitions.specs.Permutation.{IsPermutationOfFour, digits_of}
use Rattle.table_definitions.specs.Table.{max_tets, Gluing, Row, Face, glue, IsTable}
use Rattle.table_definitions.specs.TableText.{entry_text, table_text}
use Rattle.table_definitions.specs.Grammar.{IsEntry, IsRowLine, AreTriLines}
use Rattle.table_definitions.proofs.Permutations.{by_words}
use Rattle.text_definitions.proofs.Decimals.{decimal_digits, decimal_value-decimal}
use Rattle.table_definitions.proofs.WrittenWords.{IsText, behind_spaces, skipped_by_word, decimal_is_text, digits_kept}
use Rattle.table_definitions.proofs.WrittenLines.{written_line, line_words, BeginsWith, each_line}

-- a gluing that can be written
record IsPlain (g : Gluing) : Type 0 where
  permutes : IsPermutationOfFour g.perm
  narrow : g.tet < 2 ^ 32

abbrev IsPlainEntry : Option Gluing → Type 0
IsPlainEntry e = (g : Gluing) → e ≡ Some g → IsPlain g

digits_of_bytes : (p : List ℕ) → IsPermutationOfFour p → list_all is_word_byte (digits_of p) ≡ true
digits_of_bytes p h = by_words (λ q. list_all is_word_byte (digits_of q)) refl p h

some_more : (w rest : List ℕ) → 0 < length w → 0 < length (w ++ rest)
some_more [] rest l = absurd (omega arith)
some_more (b ∷ bs) rest l = omega arith

-- a word that begins no comment
record IsFirstText (w : List ℕ) : Type 0 where
  text : IsText w
  kept : is_skipped w ≡ false

-- a decimal followed by bytes of words
decimal_then : (t : ℕ) (more : List ℕ) → t < 10 ^ 64 → list_all is_word_byte more ≡ true → IsFirstText (decimal t ++ more)
decimal_then t more small h =
    let tet : IsText (decimal t) = decimal_is_text t small in
    record {
      text = record {
        bytes = list_all-append is_word_byte (decimal t) more ∙ and_from (list_all is_word_byte (decimal t)) (list_all is_word_byte more) tet.bytes h;
        some = some_more (decimal t) more tet.some;
      };
      kept = skipped_by_word (decimal t) more tet ∙ digits_kept (decimal t) (decimal_digits t small);
    }

plain_small : (g : Gluing) → IsPlain g → g.tet < 10 ^ 64
plain_small g h = let narrow : g.tet < 2 ^ 32 = h.narrow in omega arith

entry_is_text : (e : Option Gluing) → IsPlainEntry e → IsFirstText (entry_text e)
entry_is_text None h = record { text = record { bytes = refl; some = omega arith }; kept = refl }
entry_is_text (Some g) h =
    subst IsFirstText (sym (append_assoc (decimal g.tet) (codes ":") (digits_of g.perm)))
    (decimal_then g.tet (codes ":" ++ digits_of g.perm) (plain_small g (h g refl)) (digits_of_bytes g.perm (h g refl).permutes))

entry_is : (e : Option Gluing) → IsPlainEntry e → IsEntry (entry_text e) e
entry_is None h = refl
entry_is (Some g) h =
    let plain : IsPlain g = h g refl in
    let narrow : g.tet < 2 ^ 32 = plain.narrow in
    record { tet = decimal g.tet; number = record { value = decimal_value-decimal g.tet (plain_small g plain); up_to = omega arith }; permutes = plain.permutes; spelled = refl }

-- a row that can be written
record IsPlainRow (row : Row) : Type 0 where
  entries : AllByRecursion IsPlainEntry row
  four_faces : length row ≡ 4

entries_are_texts : (row : Row) → AllByRecursion IsPlainEntry row → AllByRecursion IsText (map entry_text row)
entries_are_texts [] h = tt
entries_are_texts (e ∷ row) h = ((entry_is_text e h.0).text, entries_are_texts row h.1)

entries_are : (row : Row) → AllByRecursion IsPlainEntry row → AllZip IsEntry (map entry_text row) row
entries_are [] h = tt
entries_are (e ∷ row) h = (entry_is e h.0, entries_are row h.1)

abbrev row_text : Row → List ℕ
row_text row = spaced (map entry_text row)

-- the text of a row is one line, which spells the row
row_line : (n : ℕ) (row : Row) (rest : List ℕ) → IsPlainRow row
    → (line : Line) × (lines_from n (pieces (row_text row ++ rest)) ≡ line ∷ lines_from (n + 1) (pieces rest)) × IsRowLine line row
row_line n [] rest h = absurd (let f = h.four_faces in omega arith)
row_line n (e ∷ row) rest h =
    let first : IsFirstText (entry_text e) = entry_is_text e h.entries.0 in
    let texts : AllByRecursion IsText (map entry_text row) = entries_are_texts row h.entries.1 in (
      line_of n (entry_text e ++ behind_spaces (map entry_text row)),
      written_line n (entry_text e) (map entry_text row) rest first.text texts first.kept,
      record {
        ws = map entry_text (e ∷ row);
        are_words = line_words n (entry_text e) (map entry_text row) first.text texts;
        entries = entries_are (e ∷ row) h.entries;
        four_faces = h.four_faces;
      },
    )

-- what holds at each index holds of each item
pub each_from_places : {A : Type 0} (P : A → Type 0) (d : A) (xs : List A) → ((k : ℕ) → k < length xs → P (slice_index_or xs k d)) → AllByRecursion P xs
each_from_places P d [] h = tt
each_from_places P d (x ∷ xs) h = (h 0 (omega arith), each_from_places P d xs (λ k l. h (suc k) (omega arith)))

module _ (rows : List Row) (table : IsTable rows) where
  gluing_plain : (x : Face) (g : Gluing) → glue rows x ≡ Some g → IsPlain g
  gluing_plain x g e =
      let limited : length rows ≤ max_tets = table.limited in
      let within : g.tet < length rows = table.in_range x g e in
      record { permutes = table.permutes x g e; narrow = omega arith }

  row_plain : (t : ℕ) → t < length rows → IsPlainRow (slice_index_or rows t [])
  row_plain t l = record {
    entries = each_from_places IsPlainEntry None (slice_index_or rows t []) (λ f m g e. gluing_plain (record { tet = t; face = f }) g e);
    four_faces = table.four_faces t [] l;
  }

  rows_plain : AllByRecursion IsPlainRow rows
  rows_plain = each_from_places IsPlainRow [] rows row_plain

  number_small : length rows < 10 ^ 64
  number_small = let limited : length rows ≤ max_tets = table.limited in omega arith

  tri_is_text : IsText (codes "tri")
  tri_is_text = record { bytes = refl; some = omega arith }

  -- the first line, and the bytes after it
  first_text : (rest : List ℕ) → table_text rows ++ rest ≡ spaced (codes "tri" ∷ decimal (length rows) ∷ []) ++ (flat_map row_text rows ++ rest)
  unfolding table_text
  first_text rest =
      ap (λ (bytes : List ℕ). codes "tri " ++ bytes)
      (append_assoc (decimal (length rows)) (10 ∷ flat_map row_text rows) rest ∙ sym (append_assoc (decimal (length rows)) (10 ∷ []) (flat_map row_text rows ++ rest)))

  -- the lines of a text that begins with a written table
  pub record BeginsWithTable (bytes rest : List ℕ) : Type 0 where
    pub lines : List Line
    pub split : lines_of bytes ≡ lines ++ lines_from (2 + length rows) (pieces rest)
    pub are : AreTriLines lines rows

  pub table_lines : (rest : List ℕ) → BeginsWithTable (table_text rows ++ rest) rest
  table_lines rest =
      let number : IsText (decimal (length rows)) = decimal_is_text (length rows) number_small in
      let head : Line = line_of 1 (codes "tri" ++ behind_spaces (decimal (length rows) ∷ [])) in
      let more : BeginsWith IsRowLine 2 (flat_map row_text rows ++ rest) rows rest = each_line IsRowLine row_text IsPlainRow row_line 2 rows rest rows_plain in
      record {
        lines = head ∷ more.lines;
        split = ap (λ (bytes : List ℕ). lines_of bytes) (first_text rest)
            ∙ written_line 1 (codes "tri") (decimal (length rows) ∷ []) (flat_map row_text rows ++ rest) tri_is_text (number, tt) refl
            ∙ ap (λ (ls : List Line). head ∷ ls) more.split;
        are = (
          decimal (length rows),
          line_words 1 (codes "tri") (decimal (length rows) ∷ []) tri_is_text (number, tt),
          decimal_value-decimal (length rows) number_small,
          more.are,
          table,
        );
      }

pub written_table : (rows : List Row) → IsTable rows → AreTriLines (lines_of (table_text rows)) rows
unfolding lines_from
written_table rows table =
    let b : BeginsWithTable rows table (table_text rows ++ []) [] = table_lines rows table [] in
    let all : lines_of (table_text rows) ≡ b.lines = ap (λ (bytes : List ℕ). lines_of bytes) (sym (append-nil (table_text rows))) ∙ b.split ∙ append-nil b.lines in
    subst (λ (ls : List Line). AreTriLines ls rows) (sym all) b.are
