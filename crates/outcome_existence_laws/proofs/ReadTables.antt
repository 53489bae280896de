-- The document of an input holds a table, or tables alone, and the moves of steps have cores.
use Rattle.std.proofs.Common.{◌≡◌, List, [], ◌∷◌, Result, Ok, ap, subst}
use Rattle.std.specs.Prelude.{ℕ, ⊤}
use Rattle.std.specs.List.{AllZip, AllByRecursion}
use Rattle.text_definitions.specs.Text.{Line}
use Rattle.text_definitions.specs.Reading.{Reading, ◌>>=◌, start_of, begun}
use Rattle.text_definitions.proofs.Readers.{bind_ok}
use Rattle.table_definitions.specs.Table.{Row, IsTable}
use Rattle.move_definitions.specs.Moves.{IsCore}
use Rattle.move_definitions.specs.MoveText.{Step, play, undo, redo}
use Rattle.move_definitions.specs.Grammar.{IsStepLine}
use Rattle.move_laws.proofs.Cores.{move_lines_have_cores_lem}
use Rattle.signature_definitions.specs.declared.InputFault.{InputFault}
use Rattle.signature_definitions.specs.SignatureText.{any_table_at}
use Rattle.signature_text_laws.proofs.AnyTables.{any_table_read}
use Rattle.text_document_definitions.specs.Documents.{worded, next_table_at, tables_on, tables_from, tables_document, steps_document}
use Rattle.text_document_definitions.specs.Blocks.{Block, blocks_from, blocks_document}
use Rattle.text_document_laws.proofs.Lawful.{steps_laws}
use Rattle.outcome_laws.proofs.ReadPairs.{next_read}

abbrev AreAllTables : List (List Row) × Reading → Type 0
AreAllTables x = AllByRecursion IsTable x.0

-- tables to the end of the input
tables_on_read : (rest : List Line) (c : Reading) (more : Reading → Result (List (List Row) × Reading) InputFault) (x : List (List Row) × Reading)
    → ((d : Reading) (y : List (List Row) × Reading) → more d ≡ Ok y → AreAllTables y) → tables_on rest c more ≡ Ok x → AreAllTables x
tables_on_read [] c more x later e = subst AreAllTables (same x e) tt
  where
    same : (y : List (List Row) × Reading) → ◌≡◌ {A = Result (List (List Row) × Reading) InputFault} (Ok ([], c)) (Ok y) → ([], c) ≡ y
    same y f = cc
tables_on_read (l ∷ ls) c more x later e =
    let first = bind_ok (any_table_at (begun l ls c)) (λ (a : List Row × Reading). more a.1 >>= λ (others : List (List Row) × Reading). Ok (a.0 ∷ others.0, others.1)) x e in
    let others = bind_ok (more (first.0).1) (λ (others : List (List Row) × Reading). Ok ((first.0).0 ∷ others.0, others.1)) x first.2 in
    let table : IsTable (first.0).0 = (any_table_read (begun l ls c) (first.0).0 (first.0).1 first.1).table in
    subst AreAllTables (same ((first.0).0 ∷ (others.0).0) (others.0).1 x others.2) (table, later (first.0).1 others.0 others.1)
  where
    same : (tables : List (List Row)) (d : Reading) (y : List (List Row) × Reading) → ◌≡◌ {A = Result (List (List Row) × Reading) InputFault} (Ok (tables, d)) (Ok y) → (tables, d) ≡ y
    same tables d y f = cc

tables_read : (most : List Line) (c : Reading) (x : List (List Row) × Reading) → tables_from most c ≡ Ok x → AreAllTables x
unfolding tables_from
tables_read [] c x e = tables_on_read [] c (λ d. Ok ([], d)) x (λ d y f. subst AreAllTables (same d y f) tt) e
  where
    same : (d : Reading) (y : List (List Row) × Reading) → ◌≡◌ {A = Result (List (List Row) × Reading) InputFault} (Ok ([], d)) (Ok y) → ([], d) ≡ y
    same d y f = cc
tables_read (l ∷ most) c x e = tables_on_read c.later c (λ d. tables_from most d) x (λ d y f. tables_read most d y f) e

pub all_are_tables : (bytes : List ℕ) (tables : List (List Row)) → tables_document bytes ≡ Ok tables → AllByRecursion IsTable tables
unfolding tables_document
all_are_tables bytes tables e =
    let c : Reading = start_of bytes in
    let read = bind_ok (tables_from (start_of bytes).later (start_of bytes)) (λ (x : List (List Row) × Reading). Ok x.0) tables e in
    subst (AllByRecursion IsTable) (same (read.0).0 read.2) (tables_read (start_of bytes).later (start_of bytes) read.0 read.1)
  where
    same : (xs : List (List Row)) → ◌≡◌ {A = Result (List (List Row)) InputFault} (Ok xs) (Ok tables) → xs ≡ tables
    same xs f = cc

-- the document holds a table and blocks
pub table_with_blocks : (bytes : List ℕ) (d : List Row × List Block) → blocks_document bytes ≡ Ok d → IsTable d.0
unfolding blocks_document
table_with_blocks bytes d e =
    let first = bind_ok (next_table_at (start_of bytes)) (λ (t : List Row × Reading). worded (blocks_from t.1.later t.1) >>= λ (blocks : List Block × Reading). Ok (t.0, blocks.0)) d e in
    let last = bind_ok (worded (blocks_from (first.0).1.later (first.0).1)) (λ (blocks : List Block × Reading). Ok ((first.0).0, blocks.0)) d first.2 in
    subst IsTable (same (first.0).0 (last.0).0 last.2) (next_read (start_of bytes) first.0 first.1)
  where
    same : (t : List Row) (blocks : List Block) → ◌≡◌ {A = Result (List Row × List Block) InputFault} (Ok (t, blocks)) (Ok d) → t ≡ d.0
    same t blocks f = let both : (t, blocks) ≡ d = cc in ap (λ (q : List Row × List Block). q.0) both

-- the move of a step has a core
abbrev pub HasCore : Step → Type 0
HasCore (play m) = IsCore m.core
HasCore undo = ⊤
HasCore redo = ⊤

step_cores : (lines : List Line) (steps : List Step) → AllZip IsStepLine lines steps → AllByRecursion HasCore steps
step_cores [] [] h = tt
step_cores [] (s ∷ ss) h = absurd h
step_cores (l ∷ ls) [] h = absurd h
step_cores (l ∷ ls) (play m ∷ ss) h = (move_lines_have_cores_lem l m h.0, step_cores ls ss h.1)
step_cores (l ∷ ls) (undo ∷ ss) h = (tt, step_cores ls ss h.1)
step_cores (l ∷ ls) (redo ∷ ss) h = (tt, step_cores ls ss h.1)

pub steps_with_cores : (bytes : List ℕ) (d : List Row × List Step) → steps_document bytes ≡ Ok d → AllByRecursion HasCore d.1
steps_with_cores bytes d e = let lines = (steps_laws.reads bytes d).0 e in step_cores lines.1 d.1 lines.4
