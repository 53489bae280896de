-- A file with a table and printed vectors after it are read as the table and the vectors.
use Rattle.std.proofs.Common.{◌≡◌, ℕ, ◌+◌, ◌<◌, ◌≤◌, Bool, true, false, cond, List, [], ◌∷◌, ◌++◌, length, Result, Ok, inl, sym, refl, ap, ◌∙◌, subst, arith, append-nil, Contains}
use Rattle.std.specs.Prelude.{if◌then◌else◌}
use Rattle.std.specs.List.{All, AllZip, onto_first, slice_index_or}
use Rattle.std.proofs.lemmas.List.Elements.{All-nil, All-cons, All-contains}
use Rattle.std.proofs.lemmas.List.Splits.{length-slice_split}
use Rattle.text_definitions.specs.Text.{Line, is_line_feed, is_skipped, without_cr, pieces, line_of, lines_from, lines_of}
use Rattle.text_definitions.specs.Reading.{Reading, start_of}
use Rattle.text_definitions.specs.Written.{limit}
use Rattle.table_definitions.specs.Table.{Row, IsTable}
use Rattle.table_definitions.specs.TableText.{table_text}
use Rattle.table_definitions.specs.Grammar.{IsDecimalUpTo}
use Rattle.cone_text_definitions.specs.VectorText.{list_text}
use Rattle.signature_definitions.specs.declared.InputFault.{InputFault}
use Rattle.signature_definitions.specs.Grammar.{AreTableLines}
use Rattle.surface_definitions.specs.Grammar.{IsVectorLine}
use Rattle.text_document_definitions.specs.Documents.{table_document, vectors_document}
use Rattle.text_document_definitions.specs.Grammar.{AreTableAndLines}
use Rattle.text_document_laws.specs.TableLaws.{ReadsTable}
use Rattle.text_document_laws.proofs.NextTables.{any_tables_read}
use Rattle.text_document_laws.proofs.Documents.{table_document_read, vectors_document_read}
use Rattle.outcome_definitions.specs.Enumerations.{AreUpTo}
use Rattle.outcome_laws.proofs.Certified.{table_alone}
use Rattle.outcome_written_laws.specs.Joined.{JoinedAreRead, JoinedPartsAreRead}
use Rattle.outcome_written_laws.proofs.WrittenTables.{BeginsWithTable, table_lines}
use Rattle.outcome_written_laws.proofs.WrittenVectors.{only_vectors}

-- the pieces of a text after a line feed are those after the ones before it
onto_first_part : (x : ℕ) (ps qs : List (List ℕ)) → 0 < length ps → onto_first x (ps ++ qs) ≡ onto_first x ps ++ qs
onto_first_part x [] qs some = absurd (omega arith)
onto_first_part x (p ∷ ps) qs some = refl

split_pieces : (front text : List ℕ) → pieces (front ++ 10 ∷ text) ≡ pieces front ++ pieces text
split_pieces [] text = refl
split_pieces (b ∷ bs) text = by (is_line_feed b) (split_pieces bs text)
  where
    some : 0 < length (pieces bs)
    some = omega (arith, length-slice_split is_line_feed bs)

    by : (feed : Bool) → pieces (bs ++ 10 ∷ text) ≡ pieces bs ++ pieces text
        → cond feed ([] ∷ pieces (bs ++ 10 ∷ text)) (onto_first b (pieces (bs ++ 10 ∷ text))) ≡ cond feed ([] ∷ pieces bs) (onto_first b (pieces bs)) ++ pieces text
    by true h = ap (λ (ps : List (List ℕ)). [] ∷ ps) h
    by false h = ap (onto_first b) h ∙ onto_first_part b (pieces bs) (pieces text) some

lines_append : (n : ℕ) (ps qs : List (List ℕ)) → lines_from n (ps ++ qs) ≡ lines_from n ps ++ lines_from (n + length ps) qs
unfolding lines_from
lines_append n [] qs = let e : n ≡ n + 0 = omega arith in ap (λ (m : ℕ). lines_from m qs) e
lines_append n (p ∷ ps) qs = by (is_skipped (without_cr p)) (lines_append (n + 1) ps qs ∙ ap (λ (m : ℕ). lines_from (n + 1) ps ++ lines_from m qs) further)
  where
    further : n + 1 + length ps ≡ n + length (p ∷ ps)
    further = omega arith

    by : (b : Bool) → lines_from (n + 1) (ps ++ qs) ≡ lines_from (n + 1) ps ++ lines_from (n + length (p ∷ ps)) qs
        → if◌then◌else◌ {A = List Line} b (lines_from (n + 1) (ps ++ qs)) (line_of n (without_cr p) ∷ lines_from (n + 1) (ps ++ qs))
        ≡ if◌then◌else◌ {A = List Line} b (lines_from (n + 1) ps) (line_of n (without_cr p) ∷ lines_from (n + 1) ps) ++ lines_from (n + length (p ∷ ps)) qs
    by true h = h
    by false h = ap (λ (ls : List Line). line_of n (without_cr p) ∷ ls) h

-- lines with other numbers are the same vectors
renumbered : (n m : ℕ) (ps list : List (List ℕ)) → AllZip IsVectorLine (lines_from n ps) list → AllZip IsVectorLine (lines_from m ps) list
unfolding lines_from
renumbered n m [] list h = h
renumbered n m (p ∷ ps) list h = by (is_skipped (without_cr p)) list h (λ others. renumbered (n + 1) (m + 1) ps others)
  where
    by : (b : Bool) (list : List (List ℕ)) → AllZip IsVectorLine (if◌then◌else◌ {A = List Line} b (lines_from (n + 1) ps) (line_of n (without_cr p) ∷ lines_from (n + 1) ps)) list
        → ((others : List (List ℕ)) → AllZip IsVectorLine (lines_from (n + 1) ps) others → AllZip IsVectorLine (lines_from (m + 1) ps) others)
        → AllZip IsVectorLine (if◌then◌else◌ {A = List Line} b (lines_from (m + 1) ps) (line_of m (without_cr p) ∷ lines_from (m + 1) ps)) list
    by true list h more = more list h
    by false [] h more = absurd h
    by false (x ∷ xs) h more = (record { ws = h.0.ws; are_words = h.0.are_words; entries = h.0.entries }, more xs h.1)

-- the entries of a vector that is read are within the limit
entries_within : (ws : List (List ℕ)) (x : List ℕ) → AllZip (IsDecimalUpTo limit) ws x → All (λ entry. entry ≤ limit) x
entries_within [] [] h = All-nil (λ entry. entry ≤ limit)
entries_within [] (n ∷ ns) h = absurd h
entries_within (w ∷ ws) [] h = absurd h
entries_within (w ∷ ws) (n ∷ ns) h = All-cons (λ entry. entry ≤ limit) n ns h.0.up_to (entries_within ws ns h.1)

lines_within : (lines : List Line) (list : List (List ℕ)) → AllZip IsVectorLine lines list → AreUpTo limit list
lines_within [] [] h = All-nil (λ (x : List ℕ). All (λ entry. entry ≤ limit) x)
lines_within [] (x ∷ xs) h = absurd h
lines_within (l ∷ ls) [] h = absurd h
lines_within (l ∷ ls) (x ∷ xs) h = All-cons (λ (v : List ℕ). All (λ entry. entry ≤ limit) v) x xs (entries_within h.0.ws x h.0.entries) (lines_within ls xs h.1)

pub vectors_within : (bytes : List ℕ) (rows : List Row) (list : List (List ℕ)) → vectors_document bytes ≡ Ok (rows, list) → AreUpTo limit list
vectors_within bytes rows list read = let h : AreTableAndLines IsVectorLine (lines_of bytes) rows list = (vectors_document_read bytes rows list).0 read in lines_within h.1 list h.4

-- the lines that follow a table are determined by it
one_rest : (c : Reading) (rows : List Row) (lines rest others more : List Line) → c.later ≡ lines ++ rest → AreTableLines lines rows → c.later ≡ others ++ more → AreTableLines others rows → rest ≡ more
one_rest c rows lines rest others more one table other again =
    let a : ReadsTable c rows rest = (any_tables_read c rows rest).1 (lines, one, table) in
    let b : ReadsTable c rows more = (any_tables_read c rows more).1 (others, other, again) in
    let same : ◌≡◌ {A = Result (List Row × Reading) InputFault} (Ok (rows, a.left)) (Ok (rows, b.left)) = sym a.read ∙ b.read in
    let left : (rows, a.left) ≡ (rows, b.left) = cc in
    sym a.later ∙ ap (λ (r : List Row × Reading). r.1.later) left ∙ b.later

module _ (front : List ℕ) (rows : List Row) (file : table_document (front ++ 10 ∷ []) ≡ Ok rows) where
  abbrev next : ℕ
  next = 1 + length (pieces front)

  front_lines : (text : List ℕ) → lines_of (front ++ 10 ∷ text) ≡ lines_of front ++ lines_from next (pieces text)
  front_lines text = ap (λ (ps : List (List ℕ)). lines_from 1 ps) (split_pieces front text) ∙ lines_append 1 (pieces front) (pieces text)

  front_table : AreTableLines (lines_of front) rows
  unfolding lines_from
  front_table = subst (λ (ls : List Line). AreTableLines ls rows) (front_lines [] ∙ append-nil (lines_of front)) ((table_document_read (front ++ 10 ∷ []) rows).0 file)

  after_front : (text : List ℕ) (list : List (List ℕ)) → AllZip IsVectorLine (lines_from next (pieces text)) list → vectors_document (front ++ 10 ∷ text) ≡ Ok (rows, list)
  after_front text list h = (vectors_document_read (front ++ 10 ∷ text) rows list).1 (lines_of front, lines_from next (pieces text), front_lines text, front_table, h)

  pub joined_read : (text : List ℕ) (list : List (List ℕ)) → vectors_document (table_text rows ++ text) ≡ Ok (rows, list) → vectors_document (front ++ 10 ∷ text) ≡ Ok (rows, list)
  joined_read text list read =
      let table : IsTable rows = table_alone (front ++ 10 ∷ []) rows file in
      let b : BeginsWithTable rows table (table_text rows ++ text) text = table_lines rows table text in
      let h : AreTableAndLines IsVectorLine (lines_of (table_text rows ++ text)) rows list = (vectors_document_read (table_text rows ++ text) rows list).0 read in
      let rest : h.1 ≡ lines_from (2 + length rows) (pieces text) = one_rest (start_of (table_text rows ++ text)) rows h.0 h.1 b.lines (lines_from (2 + length rows) (pieces text)) h.2 h.3 b.split (inl b.are) in
      after_front text list (renumbered (2 + length rows) next (pieces text) list (subst (λ (ls : List Line). AllZip IsVectorLine ls list) rest h.4))

  pub joined_part_read : (text : List ℕ) (list part : List (List ℕ)) → vectors_document (table_text rows ++ text) ≡ Ok (rows, list) → All (Contains list) part → vectors_document (front ++ 10 ∷ list_text part) ≡ Ok (rows, part)
  joined_part_read text list part read among = after_front (list_text part) part (only_vectors next part (λ i d l.
      All-contains (λ (x : List ℕ). All (λ entry. entry ≤ limit) x) list (slice_index_or part i d) (vectors_within (table_text rows ++ text) rows list read) (among i d l)))

pub joined_are_read_lem : JoinedAreRead
joined_are_read_lem front text rows list file read = joined_read front rows file text list read

pub joined_parts_are_read_lem : JoinedPartsAreRead
joined_parts_are_read_lem front text rows list part file read among = joined_part_read front rows file text list part read among
