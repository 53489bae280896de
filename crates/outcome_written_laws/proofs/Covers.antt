-- The lines after the table of a cover are comments, so the answer is a document of the cover.
use Rattle.std.proofs.Common.{◌≡◌, ℕ, zero, suc, ◌+◌, ◌*◌, ◌≤◌, Bool, true, false, List, [], ◌∷◌, ◌++◌, length, Ok, inl, refl, sym, ap, subst, ◌∙◌, arith, append_assoc, append-nil}
use Rattle.std.specs.Prelude.{codes, decimal, not}
use Rattle.std.proofs.lemmas.Bool.{and_from}
use Rattle.std.proofs.lemmas.List.Folds.{list_all-append}
use Rattle.text_definitions.specs.Text.{Line, is_line_feed, pieces, lines_from, lines_of}
use Rattle.text_definitions.specs.Written.{yes_or_no}
use Rattle.table_definitions.specs.Table.{max_tets, Row, IsTable}
use Rattle.table_definitions.specs.TableText.{table_text}
use Rattle.table_definitions.specs.Grammar.{AreTriLines}
use Rattle.cover_definitions.specs.Cover.{over, sheet, cover}
use Rattle.cover_laws.proofs.Covered.{cover_is_table}
use Rattle.text_document_definitions.specs.Documents.{table_document}
use Rattle.text_document_laws.proofs.Documents.{table_document_read}
use Rattle.text_definitions.proofs.Decimals.{has_no_feed, decimal_no_feed}
use Rattle.table_definitions.proofs.WrittenLines.{comment_line}
use Rattle.outcome_written_laws.proofs.WrittenTables.{BeginsWithTable, table_lines}
use Rattle.outcome_definitions.specs.Information.{classes_text, reported}
use Rattle.outcome_definitions.specs.Covers.{sheet_line, cover_text}

no_feed : (xs ys : List ℕ) → has_no_feed xs ≡ true → has_no_feed ys ≡ true → has_no_feed (xs ++ ys) ≡ true
no_feed xs ys h k = list_all-append (λ b. not (is_line_feed b)) xs ys ∙ and_from (has_no_feed xs) (has_no_feed ys) h k

-- the line of a tetrahedron, after its first sign
abbrev sheet_comment : ℕ → ℕ → List ℕ
sheet_comment n u = codes " tet " ++ decimal u ++ codes " over " ++ decimal (over n u) ++ codes " sheet " ++ decimal (sheet n u)

sheet_no_feed : (n u : ℕ) → has_no_feed (sheet_comment n u) ≡ true
sheet_no_feed n u =
    no_feed (codes " tet " ++ decimal u ++ codes " over " ++ decimal (over n u) ++ codes " sheet ") (decimal (sheet n u))
    (no_feed (codes " tet " ++ decimal u ++ codes " over " ++ decimal (over n u)) (codes " sheet ")
    (no_feed (codes " tet " ++ decimal u ++ codes " over ") (decimal (over n u))
    (no_feed (codes " tet " ++ decimal u) (codes " over ") (no_feed (codes " tet ") (decimal u) refl (decimal_no_feed u)) refl) (decimal_no_feed (over n u))) refl) (decimal_no_feed (sheet n u))

connected_no_feed : (b : Bool) → has_no_feed (codes " connected " ++ yes_or_no b) ≡ true
connected_no_feed true = refl
connected_no_feed false = refl

-- the lines of the tetrahedra are skipped
sheets_passed : (n m k : ℕ) (rest : List ℕ) → lines_from m (pieces (classes_text (sheet_line n) k ++ rest)) ≡ lines_from (m + k) (pieces rest)
unfolding classes_text
sheets_passed n m zero rest = ap (λ j. lines_from j (pieces rest)) (omega arith)
sheets_passed n m (suc k) rest =
    ap (λ (bytes : List ℕ). lines_from m (pieces bytes)) (append_assoc (classes_text (sheet_line n) k) (sheet_line n k) rest)
    ∙ sheets_passed n m k (sheet_line n k ++ rest)
    ∙ ap (λ (bytes : List ℕ). lines_from (m + k) (pieces bytes)) (append_assoc (35 ∷ sheet_comment n k) (10 ∷ []) rest)
    ∙ comment_line (m + k) (sheet_comment n k) rest (sheet_no_feed n k)
    ∙ ap (λ j. lines_from j (pieces rest)) (omega arith)

-- the last line is skipped as well
last_passed : (m : ℕ) (b : Bool) → lines_from m (pieces (reported (codes "# connected ") b)) ≡ []
unfolding lines_from
last_passed m b = comment_line m (codes " connected " ++ yes_or_no b) [] (connected_no_feed b)

pub cover_read : (rows : List Row) (connected : Bool) → IsTable rows → 2 * length rows ≤ max_tets → table_document (cover_text rows connected) ≡ Ok (cover rows)
cover_read rows connected table limited = (table_document_read (cover_text rows connected) (cover rows)).1 (inl (subst (λ (ls : List Line). AreTriLines ls (cover rows)) (sym all) b.are))
  where
    is_table : IsTable (cover rows)
    is_table = cover_is_table rows table limited

    b : BeginsWithTable (cover rows) is_table (table_text (cover rows) ++ (classes_text (sheet_line (length rows)) (2 * length rows) ++ reported (codes "# connected ") connected)) (classes_text (sheet_line (length rows)) (2 * length rows) ++ reported (codes "# connected ") connected)
    b = table_lines (cover rows) is_table (classes_text (sheet_line (length rows)) (2 * length rows) ++ reported (codes "# connected ") connected)

    passed : lines_from (2 + length (cover rows)) (pieces (classes_text (sheet_line (length rows)) (2 * length rows) ++ reported (codes "# connected ") connected)) ≡ []
    passed = sheets_passed (length rows) (2 + length (cover rows)) (2 * length rows) (reported (codes "# connected ") connected) ∙ last_passed (2 + length (cover rows) + 2 * length rows) connected

    all : lines_of (cover_text rows connected) ≡ b.lines
    all = ap (λ (bytes : List ℕ). lines_of bytes) (append_assoc (table_text (cover rows)) (classes_text (sheet_line (length rows)) (2 * length rows)) (reported (codes "# connected ") connected))
        ∙ b.split ∙ ap (λ (ls : List Line). b.lines ++ ls) passed ∙ append-nil b.lines
