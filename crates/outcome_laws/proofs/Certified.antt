-- The answers of `check` and `descend` are unique and exist.
use Rattle.std.proofs.Common.{◌≡◌, ℕ, List, [], ◌∷◌, Result, Ok, refl, sym, ap, ◌∙◌, subst}
use Rattle.std.specs.Prelude.{All}
use Rattle.std.specs.List.{AllZip, AllByRecursion}
use Rattle.std.proofs.lemmas.List.Elements.{All-from_recursion}
use Rattle.text_definitions.specs.Text.{Line}
use Rattle.text_definitions.specs.declared.LexFault.{LexFault}
use Rattle.text_definitions.specs.Reading.{Reading, ◌>>=◌, start_of}
use Rattle.text_definitions.proofs.Readers.{bind_ok}
use Rattle.table_definitions.specs.Table.{Row, IsTable}
use Rattle.move_definitions.specs.Moves.{Move, IsCore}
use Rattle.move_definitions.specs.MoveText.{move_at}
use Rattle.move_definitions.specs.Grammar.{IsMoveLine}
use Rattle.move_laws.proofs.Cores.{move_lines_have_cores_lem}
use Rattle.signature_definitions.specs.declared.InputFault.{InputFault}
use Rattle.text_document_definitions.specs.Documents.{worded, next_table_at, no_line_at, each_line_from, table_document, table_and_lines, moves_document}
use Rattle.text_document_laws.proofs.Lawful.{moves_laws}
use Rattle.certificate_laws.proofs.Checked.{answers_agree_lem}
use Rattle.certificate_laws.proofs.Answered.{answers_exist_lem}
use Rattle.certificate_laws.proofs.StayConnected.{descent_answers_exist_lem, descent_answers_agree_lem}
use Rattle.outcome_definitions.specs.Outcomes.{Outcome}
use Rattle.outcome_laws.proofs.ReadPairs.{next_read}
use Rattle.outcome_definitions.specs.Certificates.{check_outcome, IsCheckAnswer, descend_outcome, IsDescendAnswer}

pub one_check : (d : List Row × List Move) (o p : Outcome) → IsTable d.0 → IsCheckAnswer d o → IsCheckAnswer d p → o ≡ p
one_check d o p table h k = h.outcome ∙ ap check_outcome (answers_agree_lem d.0 d.1 h.reported k.reported table h.checked k.checked) ∙ sym k.outcome

pub some_check : (d : List Row × List Move) → IsTable d.0 → All (λ (m : Move). IsCore m.core) d.1 → (o : Outcome) × IsCheckAnswer d o
some_check d table cores =
    let a = answers_exist_lem d.0 d.1 table cores in (check_outcome a.0, record { reported = a.0; checked = a.1; outcome = refl })

pub one_descend : (rows : List Row) (o p : Outcome) → IsTable rows → IsDescendAnswer rows o → IsDescendAnswer rows p → o ≡ p
one_descend rows o p table h k = h.outcome ∙ ap descend_outcome (descent_answers_agree_lem rows h.reported k.reported table h.descended k.descended) ∙ sym k.outcome

pub some_descend : (rows : List Row) → IsTable rows → (o : Outcome) × IsDescendAnswer rows o
some_descend rows table =
    let a = descent_answers_exist_lem rows table in (descend_outcome a.0, record { reported = a.0; descended = a.1; outcome = refl })

-- the document holds a table, with moves that have cores

pub table_alone : (bytes : List ℕ) (rows : List Row) → table_document bytes ≡ Ok rows → IsTable rows
unfolding table_document
table_alone bytes rows e =
    let first = bind_ok (next_table_at (start_of bytes)) (λ (t : List Row × Reading). worded (no_line_at t.1) >>= λ (end : Reading). Ok t.0) rows e in
    let last = bind_ok (worded (no_line_at (first.0).1)) (λ (end : Reading). Ok (first.0).0) rows first.2 in
    subst IsTable (same_table (first.0).0 last.2) (next_read (start_of bytes) first.0 first.1)
  where
    same_table : (t : List Row) → ◌≡◌ {A = Result (List Row) InputFault} (Ok t) (Ok rows) → t ≡ rows
    same_table t e = cc

pub table_with_lines : {A : Type 0} (form : Reading → Result (A × Reading) LexFault) (bytes : List ℕ) (d : List Row × List A) → table_and_lines form bytes ≡ Ok d → IsTable d.0
unfolding table_and_lines
table_with_lines {A} form bytes d e =
    let first = bind_ok (next_table_at (start_of bytes)) (λ (t : List Row × Reading). worded (each_line_from form t.1.later t.1) >>= λ (lines : List A × Reading). Ok (t.0, lines.0)) d e in
    let last = bind_ok (worded (each_line_from form (first.0).1.later (first.0).1)) (λ (lines : List A × Reading). Ok ((first.0).0, lines.0)) d first.2 in
    subst IsTable (same_table (first.0).0 (last.0).0 last.2) (next_read (start_of bytes) first.0 first.1)
  where
    same_table : (t : List Row) (ms : List A) → ◌≡◌ {A = Result (List Row × List A) InputFault} (Ok (t, ms)) (Ok d) → t ≡ d.0
    same_table t ms e = let same : (t, ms) ≡ d = cc in ap (λ (q : List Row × List A). q.0) same

pub table_with_moves : (bytes : List ℕ) (d : List Row × List Move) → moves_document bytes ≡ Ok d → IsTable d.0
table_with_moves bytes d e = table_with_lines move_at bytes d e

line_cores : (lines : List Line) (moves : List Move) → AllZip IsMoveLine lines moves → AllByRecursion (λ (m : Move). IsCore m.core) moves
line_cores [] [] h = tt
line_cores [] (m ∷ ms) h = absurd h
line_cores (l ∷ ls) [] h = absurd h
line_cores (l ∷ ls) (m ∷ ms) h = (move_lines_have_cores_lem l m h.0, line_cores ls ms h.1)

pub moves_with_cores : (bytes : List ℕ) (d : List Row × List Move) → moves_document bytes ≡ Ok d → All (λ (m : Move). IsCore m.core) d.1
moves_with_cores bytes d e =
    let lines = (moves_laws.reads bytes d).0 e in
    All-from_recursion (λ (m : Move). IsCore m.core) d.1 (line_cores lines.1 d.1 lines.4)
