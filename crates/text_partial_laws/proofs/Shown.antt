-- If symbols show the first entries of rows, they can be continued to lines of a table whose entries begin with these.
use Rattle.std.proofs.Common.{◌≡◌, ℕ, zero, suc, ◌+◌, ◌<◌, ◌≤◌, ◌^◌, List, [], ◌∷◌, ◌++◌, length, map, get_or, Option, Some, None, inl, inr, refl, sym, ap, ◌∙◌, subst, arith, ⊎_elim}
use Rattle.std.specs.Prelude.{⊤, nat_lt, decimal, if◌then◌else◌}
use Rattle.std.specs.List.{AllZip, AllByRecursion, range_with_len, slice_index_or}
use Rattle.std.proofs.lemmas.Bool.{cases_lt}
use Rattle.std.proofs.lemmas.List.{append_assoc, append-nil, get_or_past, length-append, map-append}
use Rattle.text_definitions.specs.Text.{Token, word, Line}
use Rattle.text_definitions.proofs.Decimals.{decimal_value-decimal}
use Rattle.table_definitions.specs.Lists.{below}
use Rattle.table_definitions.specs.Permutation.{four, IsPermutationOfFour}
use Rattle.table_definitions.specs.Table.{Gluing, Row, max_tets}
use Rattle.table_definitions.specs.TableText.{entry_text}
use Rattle.table_definitions.specs.Grammar.{AreWords, IsEntry, IsRowLine}
use Rattle.table_definitions.proofs.Listed.{all_mapped, below-among}
use Rattle.text_document_definitions.specs.Symbols.{Symbol, shown, line_end, Placed, plain}
use Rattle.text_document_laws.proofs.LocalLines.{rest_of_line}
use Rattle.text_document_laws.proofs.BehindTables.{lines_front}
use Rattle.text_partial_laws.specs.Partial.{IsPartialTable}
use Rattle.text_partial_laws.specs.Sound.{ShowRows}
use Rattle.text_partial_laws.proofs.Completed.{back_at, entry, row_of, completed, good}

-- a line of words
pub tokens_of : List (List ℕ) → List Token
tokens_of [] = []
tokens_of (w ∷ ws) = word 0 w ∷ tokens_of ws

abbrev pub line_with : List (List ℕ) → Line
line_with ws = record { number = 0; tokens = tokens_of ws; end = 0 }

pub are_words : (ws : List (List ℕ)) → AreWords (line_with ws).tokens ws
unfolding tokens_of
are_words [] = tt
are_words (w ∷ ws) = (refl, are_words ws)

words_shown : (ws : List (List ℕ)) (others : List Placed) → plain (rest_of_line 0 (tokens_of ws) 0 ++ others) ≡ map shown ws ++ line_end ∷ plain others
unfolding tokens_of rest_of_line
words_shown [] others = refl
words_shown (w ∷ ws) others = ap (λ (ss : List Symbol). shown w ∷ ss) (words_shown ws others)

pub line_shown : (ws : List (List ℕ)) (lines : List Line) → plain (lines_front (line_with ws ∷ lines)) ≡ map shown ws ++ line_end ∷ plain (lines_front lines)
unfolding lines_front
line_shown ws lines = words_shown ws (lines_front lines)

-- rows that can be written
abbrev IsWritten : Option Gluing → Type 0
IsWritten e = IsEntry (entry_text e) e

abbrev pub CanBeWritten : Row → Type 0
CanBeWritten row = AllByRecursion IsWritten row × (length row ≡ 4)

written : (row : Row) → AllByRecursion IsWritten row → AllZip IsEntry (map entry_text row) row
written [] h = tt
written (e ∷ row) h = (h.0, written row h.1)

entry_is : (e : Option Gluing) → ((g : Gluing) → e ≡ Some g → IsPermutationOfFour g.perm × (g.tet < 2 ^ 32)) → IsWritten e
entry_is None h = refl
entry_is (Some g) h =
    let p : IsPermutationOfFour g.perm × (g.tet < 2 ^ 32) = h g refl in
    let narrow : g.tet < 2 ^ 32 = p.1 in
    record { tet = decimal g.tet; number = record { value = decimal_value-decimal g.tet (omega (arith, narrow)); up_to = omega (arith, narrow) }; permutes = p.0; spelled = refl }

-- lines of rows whose symbols begin with ss
pub record ShowsFirst (table : List Row) (ss : List Symbol) : Type 0 where
  pub lines : List Line
  pub forms : AllZip IsRowLine lines table
  pub more : List Symbol
  pub there : plain (lines_front lines) ≡ ss ++ more

row_line : (ws : List (List ℕ)) (row : Row) → AllZip IsEntry ws row → length row ≡ 4 → IsRowLine (line_with ws) row
row_line ws row z l = record { ws = ws; are_words = are_words ws; entries = z; four_faces = l }

nothing_first : (table : List Row) → AllByRecursion CanBeWritten table → ShowsFirst table []
nothing_first [] h = record { lines = []; forms = tt; more = plain (lines_front []); there = refl }
nothing_first (row ∷ table) h =
    let s : ShowsFirst table [] = nothing_first table h.1 in
    let line : Line = line_with (map entry_text row) in
    record { lines = line ∷ s.lines; forms = (row_line (map entry_text row) row (written row (h.0).0) (h.0).1, s.forms); more = plain (lines_front (line ∷ s.lines)); there = refl }

-- each row of the first list is the beginning of the row at its index of the second
abbrev pub Begin : List Row → List Row → Type 0
Begin [] table = ⊤
Begin (row ∷ rows) [] = ⊥
Begin (row ∷ rows) (whole ∷ table) = ((more : Row) × (whole ≡ row ++ more)) × Begin rows table

joined : (ws us : List (List ℕ)) (xs ys : Row) → AllZip IsEntry ws xs → AllZip IsEntry us ys → AllZip IsEntry (ws ++ us) (xs ++ ys)
joined [] us [] ys z k = k
joined [] us (x ∷ xs) ys z k = absurd z
joined (w ∷ ws) us [] ys z k = absurd z
joined (w ∷ ws) us (x ∷ xs) ys z k = (z.0, joined ws us xs ys z.1 k)

last_of : (xs ys : Row) → AllByRecursion IsWritten (xs ++ ys) → AllByRecursion IsWritten ys
last_of [] ys h = h
last_of (x ∷ xs) ys h = last_of xs ys h.1

none_more : (row more : Row) → length row ≡ 4 → length (row ++ more) ≡ 4 → more ≡ []
none_more row [] l k = refl
none_more row (e ∷ more) l k =
    let parts : length (row ++ e ∷ more) ≡ length row + length (e ∷ more) = length-append row (e ∷ more) in
    absurd (omega (arith, parts, l, k))

-- the last row, which may be cut off
cut_off : (row more : Row) (table : List Row) (ws : List (List ℕ)) (ss : List Symbol) → AllZip IsEntry ws row → CanBeWritten (row ++ more) → ss ≡ map shown ws → ShowsFirst table [] → ShowsFirst ((row ++ more) ∷ table) ss
cut_off row more table ws ss z h e s =
    let us : List (List ℕ) = map entry_text more in
    let behind : List Symbol = line_end ∷ plain (lines_front s.lines) in
    record {
      lines = line_with (ws ++ us) ∷ s.lines;
      forms = (row_line (ws ++ us) (row ++ more) (joined ws us row more z (written more (last_of row more h.0))) h.1, s.forms);
      more = map shown us ++ behind;
      there =
          line_shown (ws ++ us) s.lines ∙ ap (λ (xs : List Symbol). xs ++ behind) (map-append shown ws us) ∙ append_assoc (map shown ws) (map shown us) behind
          ∙ ap (λ (xs : List Symbol). xs ++ (map shown us ++ behind)) (sym e);
    }

-- a whole row, and what follows it
followed : (row : Row) (table : List Row) (ws : List (List ℕ)) (ss next : List Symbol) → AllZip IsEntry ws row → length row ≡ 4 → ss ≡ map shown ws ++ line_end ∷ next → ShowsFirst table next → ShowsFirst (row ∷ table) ss
followed row table ws ss next z l e s = record {
  lines = line_with ws ∷ s.lines;
  forms = (row_line ws row z l, s.forms);
  more = s.more;
  there =
      line_shown ws s.lines ∙ ap (λ (xs : List Symbol). map shown ws ++ line_end ∷ xs) s.there ∙ sym (append_assoc (map shown ws) (line_end ∷ next) s.more)
      ∙ ap (λ (xs : List Symbol). xs ++ s.more) (sym e);
}

pub rows_first : (rows table : List Row) (ss : List Symbol) → Begin rows table → AllByRecursion CanBeWritten table → ShowRows rows ss → ShowsFirst table ss
rows_first [] table ss b h s = subst (λ (xs : List Symbol). ShowsFirst table xs) (sym s) (nothing_first table h)
rows_first (row ∷ rows) [] ss b h s = absurd b
rows_first (row ∷ rows) (whole ∷ table) ss b h (ws, z, inl last) =
    let can : CanBeWritten (row ++ (b.0).0) = subst CanBeWritten (b.0).1 h.0 in
    subst (λ (r : Row). ShowsFirst (r ∷ table) ss) (sym (b.0).1) (cut_off row (b.0).0 table ws ss z can last.1 (nothing_first table h.1))
rows_first (row ∷ rows) (whole ∷ table) ss b h (ws, z, inr next) =
    let long : length (row ++ (b.0).0) ≡ 4 = ap length (sym (b.0).1) ∙ (h.0).1 in
    let same : whole ≡ row = (b.0).1 ∙ ap (λ (xs : Row). row ++ xs) (none_more row (b.0).0 next.0 long) ∙ append-nil row in
    subst (λ (r : Row). ShowsFirst (r ∷ table) ss) (sym same) (followed row table ws ss (next.1).0 z next.0 (next.1).1 (rows_first rows table (next.1).0 b.1 h.1 (next.1).2))

-- the rows of the completed table begin with the given entries, and can be written
prefix_of : (row : Row) (other : ℕ → Option Gluing) → length row ≤ 4 → (more : Row) × (map (λ f. if nat_lt f (length row) then slice_index_or row f None else other f) four ≡ row ++ more)
prefix_of [] other l = (map other four, refl)
prefix_of (a ∷ []) other l = (other 1 ∷ other 2 ∷ other 3 ∷ [], refl)
prefix_of (a ∷ b ∷ []) other l = (other 2 ∷ other 3 ∷ [], refl)
prefix_of (a ∷ b ∷ c ∷ []) other l = (other 3 ∷ [], refl)
prefix_of (a ∷ b ∷ c ∷ d ∷ []) other l = ([], refl)
prefix_of (a ∷ b ∷ c ∷ d ∷ e ∷ row) other l = absurd (omega arith)

module _ (n : ℕ) (rows : List Row) (p : IsPartialTable n rows) where
  four_long : (t : ℕ) → length (get_or rows t []) ≤ 4
  four_long t =
      ⊎_elim (λ (l : t < length rows). p.four_faces t [] l)
      (λ (out : length rows ≤ t). (let none : length (get_or rows t []) ≡ 0 = ap length (get_or_past rows t [] out) in omega (arith, none)))
      (cases_lt t (length rows))

  begin_from : (rest : List Row) (k m : ℕ) → ((i : ℕ) → i < length rest → get_or rest i [] ≡ get_or rows (k + i) []) → length rest ≤ m → Begin rest (map (row_of rows) (range_with_len k m))
  begin_from [] k m same limited = tt
  begin_from (row ∷ rest) k zero same limited = absurd (omega (arith, limited))
  begin_from (row ∷ rest) k (suc m) same limited =
      let at : row ≡ get_or rows k [] = same 0 (omega arith) ∙ ap (λ (i : ℕ). get_or rows i []) (let e : k + 0 ≡ k = omega arith in e) in
      let q : (more : Row) × (row_of rows k ≡ get_or rows k [] ++ more) = prefix_of (get_or rows k []) (λ f. back_at rows (record { tet = k; face = f })) (four_long k) in (
        (q.0, q.1 ∙ ap (λ (r : Row). r ++ q.0) (sym at)),
        begin_from rest (k + 1) m (λ i l. same (suc i) (omega (arith, l)) ∙ ap (λ (j : ℕ). get_or rows j []) (let e : k + suc i ≡ k + 1 + i = omega arith in e)) (omega (arith, limited)),
      )

  pub begins : Begin rows (completed rows n)
  begins = begin_from rows 0 n (λ i l. ap (λ (j : ℕ). get_or rows j []) (let e : i ≡ 0 + i = omega arith in e)) p.many

  can_be_written : (t : ℕ) → t < n → CanBeWritten (row_of rows t)
  can_be_written t l = (
    all_mapped IsWritten (λ f. entry rows (record { tet = t; face = f })) four
        (λ f a. entry_is (entry rows (record { tet = t; face = f }))
        (λ g e. (let q = good rows n p (record { tet = t; face = f }) g e in
        let in_range : g.tet < n = q.in_range in
        let limited : n ≤ max_tets = p.limited in
        (q.permutes, omega (arith, in_range, limited))))),
    refl,
  )

  pub written_table : AllByRecursion CanBeWritten (completed rows n)
  written_table = all_mapped CanBeWritten (row_of rows) (below n) (λ t a. can_be_written t (below-among t n a))
