-- The text of a value is read as this value.
use Rattle.std.proofs.Common.{◌≡◌, ℕ, ◌+◌, List, [], ◌∷◌, ◌++◌, length, Ok, inl, ap, ◌∙◌, append_assoc}
use Rattle.std.specs.Prelude.{codes, decimal}
use Rattle.text_definitions.specs.Text.{Line, pieces, lines_from}
use Rattle.text_definitions.specs.Written.{limit}
use Rattle.table_definitions.specs.Table.{Row, IsTable}
use Rattle.table_definitions.specs.TableText.{table_text}
use Rattle.text_document_definitions.specs.Documents.{table_document, vectors_document}
use Rattle.cone_text_definitions.specs.VectorText.{list_text}
use Rattle.text_document_laws.proofs.Documents.{table_document_read, vectors_document_read}
use Rattle.outcome_definitions.specs.Enumerations.{AreUpTo, listing}
use Rattle.text_definitions.proofs.Decimals.{decimal_no_feed}
use Rattle.table_definitions.proofs.WrittenLines.{comment_line}
use Rattle.outcome_written_laws.proofs.WrittenVectors.{only_vectors}
use Rattle.outcome_written_laws.proofs.WrittenTables.{BeginsWithTable, table_lines, written_table}

pub written_table_read : (rows : List Row) → IsTable rows → table_document (table_text rows) ≡ Ok rows
written_table_read rows table = (table_document_read (table_text rows) rows).1 (inl (written_table rows table))

-- the lines of the answer after its comment
answer_lines : (n : ℕ) (list : List (List ℕ)) → lines_from n (pieces (listing (codes "surfaces") list)) ≡ lines_from (n + 1) (pieces (list_text list))
answer_lines n list =
    ap (λ (bytes : List ℕ). lines_from n (pieces bytes)) (append_assoc (codes "# surfaces " ++ decimal (length list)) (10 ∷ []) (list_text list))
    ∙ comment_line n (codes " surfaces " ++ decimal (length list)) (list_text list) (decimal_no_feed (length list))

pub written_answer_read : (rows : List Row) (list : List (List ℕ)) → IsTable rows → AreUpTo limit list → vectors_document (table_text rows ++ listing (codes "surfaces") list) ≡ Ok (rows, list)
written_answer_read rows list table within =
    let b : BeginsWithTable rows table (table_text rows ++ listing (codes "surfaces") list) (listing (codes "surfaces") list) = table_lines rows table (listing (codes "surfaces") list) in
    let vectors : List Line = lines_from (2 + length rows + 1) (pieces (list_text list)) in
    (vectors_document_read (table_text rows ++ listing (codes "surfaces") list) rows list).1 (
      b.lines,
      vectors,
      b.split ∙ ap (λ (ls : List Line). b.lines ++ ls) (answer_lines (2 + length rows) list),
      inl b.are,
      only_vectors (2 + length rows + 1) list within,
    )
