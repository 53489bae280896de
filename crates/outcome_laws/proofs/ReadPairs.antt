-- Both tables of a document of two tables are tables, and so is the one of a document of a table and a vector.
use Rattle.std.proofs.Common.{◌≡◌, List, ap, subst, Result, Ok}
use Rattle.std.specs.Prelude.{ℕ}
use Rattle.text_definitions.specs.Reading.{Reading, ◌>>=◌, start_of, need_line_at}
use Rattle.text_definitions.proofs.Readers.{bind_ok}
use Rattle.table_definitions.specs.Table.{Row, IsTable}
use Rattle.signature_definitions.specs.declared.InputFault.{InputFault}
use Rattle.signature_definitions.specs.SignatureText.{any_table_at}
use Rattle.signature_text_laws.proofs.AnyTables.{any_table_read}
use Rattle.cone_text_definitions.specs.VectorText.{vector_at}
use Rattle.text_document_definitions.specs.Documents.{worded, next_table_at, no_line_at, two_tables_document, vector_document}

pub next_read : (c : Reading) (x : List Row × Reading) → next_table_at c ≡ Ok x → IsTable x.0
unfolding next_table_at
next_read c x e =
    let line = bind_ok (worded (need_line_at c)) any_table_at x e in
    (any_table_read line.0 x.0 x.1 line.2).table

pub both_are_tables : (bytes : List ℕ) (pair : List Row × List Row) → two_tables_document bytes ≡ Ok pair → IsTable pair.0 × IsTable pair.1
unfolding two_tables_document
both_are_tables bytes pair e =
    let first = bind_ok (next_table_at (start_of bytes)) (λ (a : List Row × Reading). next_table_at a.1 >>= λ (b : List Row × Reading). worded (no_line_at b.1) >>= λ (end : Reading). Ok (a.0, b.0)) pair e in
    let second = bind_ok (next_table_at (first.0).1) (λ (b : List Row × Reading). worded (no_line_at b.1) >>= λ (end : Reading). Ok ((first.0).0, b.0)) pair first.2 in
    let last = bind_ok (worded (no_line_at (second.0).1)) (λ (end : Reading). Ok ((first.0).0, (second.0).0)) pair second.2 in
    let same = same_both (first.0).0 (second.0).0 pair last.2 in
    (subst IsTable same.0 (next_read (start_of bytes) first.0 first.1), subst IsTable same.1 (next_read (first.0).1 second.0 second.1))
  where
    same_both : (a b : List Row) (p : List Row × List Row) → ◌≡◌ {A = Result (List Row × List Row) InputFault} (Ok (a, b)) (Ok p) → (a ≡ p.0) × (b ≡ p.1)
    same_both a b p e = let same : (a, b) ≡ p = cc in (ap (λ (q : List Row × List Row). q.0) same, ap (λ (q : List Row × List Row). q.1) same)

pub table_with_vector : (bytes : List ℕ) (pair : List Row × List ℕ) → vector_document bytes ≡ Ok pair → IsTable pair.0
unfolding vector_document
table_with_vector bytes pair e =
    let first = bind_ok (next_table_at (start_of bytes)) (λ (a : List Row × Reading). worded (need_line_at a.1) >>= λ (line : Reading). worded (vector_at line)
    >>= λ (vector : List ℕ × Reading). worded (no_line_at vector.1) >>= λ (end : Reading). Ok (a.0, vector.0)) pair e in
    let line = bind_ok (worded (need_line_at (first.0).1)) (λ (line : Reading). worded (vector_at line)
    >>= λ (vector : List ℕ × Reading). worded (no_line_at vector.1) >>= λ (end : Reading). Ok ((first.0).0, vector.0)) pair first.2 in
    let vector = bind_ok (worded (vector_at line.0)) (λ (vector : List ℕ × Reading). worded (no_line_at vector.1) >>= λ (end : Reading). Ok ((first.0).0, vector.0)) pair line.2 in
    let last = bind_ok (worded (no_line_at (vector.0).1)) (λ (end : Reading). Ok ((first.0).0, (vector.0).0)) pair vector.2 in
    subst IsTable (same_table (first.0).0 (vector.0).0 pair last.2) (next_read (start_of bytes) first.0 first.1)
  where
    same_table : (rows : List Row) (xs : List ℕ) (p : List Row × List ℕ) → ◌≡◌ {A = Result (List Row × List ℕ) InputFault} (Ok (rows, xs)) (Ok p) → rows ≡ p.0
    same_table rows xs p e = let same : (rows, xs) ≡ p = cc in ap (λ (q : List Row × List ℕ). q.0) same
