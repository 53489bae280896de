-- Each table with steps has an answer to `play`.
use Rattle.std.proofs.Common.{◌≡◌, ℕ, zero, suc, ◌+◌, ◌≤◌, inl, inr, List, [], ◌∷◌, ◌++◌, length, take, Option, Some, None, refl, arith}
use Rattle.std.specs.List.{AllByRecursion}
use Rattle.std.proofs.lemmas.Bool.{cases_lt}
use Rattle.std.proofs.lemmas.List.{length-take-le, length_push}
use Rattle.table_definitions.specs.Table.{Row, IsTable}
use Rattle.move_definitions.specs.declared.MoveFault.{MoveFault}
use Rattle.move_definitions.specs.Moves.{Move, play_fault, IsCore, PlaysAll}
use Rattle.move_definitions.specs.MoveText.{Step, play, undo, redo}
use Rattle.move_definitions.specs.Sessions.{Session, IsTableOf, begun, with_move, one_less, one_more, StepAnswer, done, illegal, undone, redone, nothing, IsSessionStep, AreSteps}
use Rattle.certificate_laws.proofs.Made.{accepted_leads}
use Rattle.move_laws.proofs.Played.{all_led_table, played_on}
use Rattle.outcome_definitions.specs.Outcomes.{Outcome}
use Rattle.outcome_definitions.specs.Scripts.{script_outcome, IsScriptAnswer}
use Rattle.outcome_existence_laws.proofs.ReadTables.{HasCore}

-- if all moves can be played, so can the first n
played_before : (rows : List Row) (moves : List Move) (last : List Row) (n : ℕ) → PlaysAll rows moves last → (table : List Row) × PlaysAll rows (take n moves) table
played_before rows [] last zero h = (rows, refl)
played_before rows [] last (suc n) h = (rows, refl)
played_before rows (m ∷ ms) last zero h = (rows, refl)
played_before rows (m ∷ ms) last (suc n) h = let rest = played_before h.0 ms last n h.2 in (rest.0, (h.0, h.1, rest.1))

-- the first table is one, and the moves of the session can be played on it
record IsSound (s : Session) : Type 0 where
  table : IsTable s.first
  in_range : s.played ≤ length s.moves
  led : (last : List Row) × PlaysAll s.first s.moves last

table_of : (s : Session) → IsSound s → (table : List Row) × IsTableOf s table
table_of s h = let b = played_before s.first s.moves h.led.0 s.played h.led.1 in (b.0, record { in_range = h.in_range; reached = b.1; others = h.led })

abbrev Answered : Session → Step → Type 0
Answered s step = (answer : StepAnswer) × (next : Session) × IsSessionStep s step answer next × IsSound next

play_step : (s : Session) (m : Move) → IsSound s → IsCore m.core → Answered s (play m)
play_step s m h core = by_fault (play_fault t.0 m) refl
  where
    t : (table : List Row) × IsTableOf s table
    t = table_of s h

    by_fault : (o : Option MoveFault) → play_fault t.0 m ≡ o → Answered s (play m)
    by_fault (Some fault) e = (illegal fault, s, ((t.0, t.1, e), refl), h)
    by_fault None e =
        let led = accepted_leads t.0 m (all_led_table s.first (take s.played s.moves) t.0 h.table t.1.reached) core e in
        let size : length (take s.played s.moves) ≡ s.played = length-take-le s.played s.moves h.in_range in
        let more : length (take s.played s.moves ++ m ∷ []) ≡ length (take s.played s.moves) + 1 = length_push (take s.played s.moves) m in (
          done,
          with_move s m,
          ((t.0, t.1, e), refl),
          record { table = h.table; in_range = omega arith; led = (led.0, played_on s.first (take s.played s.moves) t.0 m led.0 t.1.reached led.1) },
        )

some_step : (s : Session) (step : Step) → IsSound s → HasCore step → Answered s step
some_step s (play m) h core = play_step s m h core
some_step s undo h core = elim (cases_lt 0 s.played) [
  | inl some ↦ (undone, one_less s, (some, refl), record { table = h.table; in_range = (let l : s.played ≤ length s.moves = h.in_range in omega arith); led = h.led })
  | inr none ↦ (nothing, s, (omega arith, refl), h)
]
some_step s redo h core = elim (cases_lt s.played (length s.moves)) [
  | inl some ↦ (redone, one_more s, (some, refl), record { table = h.table; in_range = omega arith; led = h.led })
  | inr none ↦ (nothing, s, ((let l : s.played ≤ length s.moves = h.in_range in omega arith), refl), h)
]

some_steps : (s : Session) (steps : List Step) → IsSound s → AllByRecursion HasCore steps → (answers : List StepAnswer) × (last : Session) × AreSteps s steps answers last × IsSound last
some_steps s [] h cores = ([], s, refl, h)
some_steps s (step ∷ steps) h cores =
    let one = some_step s step h cores.0 in
    let rest = some_steps one.1 steps one.3 cores.1 in
    (one.0 ∷ rest.0, rest.1, (one.1, one.2, rest.2), rest.3)

pub some_script : (d : List Row × List Step) → IsTable d.0 → AllByRecursion HasCore d.1 → (o : Outcome) × IsScriptAnswer d o
some_script d table cores =
    let r = some_steps (begun d.0) d.1 (record { table = table; in_range = omega arith; led = (d.0, refl) }) cores in
    let t = table_of r.1 r.3 in
    (script_outcome r.0 t.0, (r.0, r.1, t.0, r.2, t.1, refl))
