-- Moves that are played end at the table that is printed, and equally many undos return to the first table.
use Rattle.std.proofs.Common.{◌≡◌, ◌+◌, ◌-◌, ◌≤◌, ℕ, zero, suc, List, [], ◌∷◌, ◌++◌, length, map, take, replicate, refl, sym, ◌∙◌, ap, subst, arith, take_all, take-take, length-take-le}
use Rattle.std.proofs.lemmas.List.{length_push, take-append-le}
use Rattle.table_definitions.specs.Table.{Row}
use Rattle.move_definitions.specs.Moves.{Move, Plays, PlaysAll}
use Rattle.move_definitions.specs.MoveText.{Step, play, undo, redo}
use Rattle.move_definitions.specs.Sessions.{Session, IsTableOf, begun, with_move, StepAnswer, done, illegal, undone, redone, nothing, IsSessionStep, AreSteps}
use Rattle.text_document_definitions.specs.Documents.{steps_document}
use Rattle.command_definitions.specs.declared.Request.TheVariants.{Play}
use Rattle.outcome_definitions.specs.Outcomes.{Outcome}
use Rattle.outcome_definitions.specs.Scripts.{script_outcome, IsScriptAnswer}
use Rattle.move_laws.proofs.Played.{played_on}
use Rattle.outcome_laws.proofs.Scripted.{one_script}
use Rattle.outcome_answer_laws.specs.Scripts.{MovesAreDone, MovesAreTakenBack, IsPlayed, ScriptsArePlayed}
use Rattle.outcome_answer_laws.proofs.Asked.{means_by}

-- ---- a step retains the first table, and plays at most one more move

record IsNext (s next : Session) : Type 0 where
  first : next.first ≡ s.first
  played : next.played ≤ s.played + 1

next_is : (s next after : Session) → next ≡ after → IsNext s after → IsNext s next
next_is s next after e h = subst (IsNext s) (sym e) h

one_step : (s : Session) (step : Step) (a : StepAnswer) (next : Session) → IsSessionStep s step a next → IsNext s next
one_step s (play m) done next h = next_is s next (with_move s m) h.1 (record { first = refl; played = omega arith })
one_step s (play m) (illegal fault) next h = next_is s next s h.1 (record { first = refl; played = omega arith })
one_step s (play m) undone next h = absurd h
one_step s (play m) redone next h = absurd h
one_step s (play m) nothing next h = absurd h
one_step s undo undone next h = next_is s next (record s { played = s.played - 1 }) h.1 (record { first = refl; played = omega arith })
one_step s undo nothing next h = next_is s next s h.1 (record { first = refl; played = omega arith })
one_step s undo done next h = absurd h
one_step s undo redone next h = absurd h
one_step s undo (illegal fault) next h = absurd h
one_step s redo redone next h = next_is s next (record s { played = s.played + 1 }) h.1 (record { first = refl; played = omega arith })
one_step s redo nothing next h = next_is s next s h.1 (record { first = refl; played = omega arith })
one_step s redo done next h = absurd h
one_step s redo undone next h = absurd h
one_step s redo (illegal fault) next h = absurd h

first_kept : (s : Session) (steps : List Step) (answers : List StepAnswer) (last : Session) → AreSteps s steps answers last → last.first ≡ s.first
first_kept s [] [] last h = ap (λ (t : Session). t.first) (sym h)
first_kept s [] (a ∷ answers) last h = absurd h
first_kept s (step ∷ steps) [] last h = absurd h
first_kept s (step ∷ steps) (a ∷ answers) last h = first_kept h.0 steps answers last h.2 ∙ (one_step s step a h.0 h.1).first

-- ---- undos

undo_step : (s : Session) (a : StepAnswer) (next : Session) → IsSessionStep s undo a next → next.played ≡ s.played - 1
undo_step s undone next h = ap (λ (t : Session). t.played) h.1
undo_step s nothing next h = let none : s.played ≡ 0 = h.0 in let same : next.played ≡ s.played = ap (λ (t : Session). t.played) h.1 in omega arith
undo_step s done next h = absurd h
undo_step s redone next h = absurd h
undo_step s (illegal fault) next h = absurd h

undos_left : (undos : ℕ) (s : Session) (answers : List StepAnswer) (last : Session) → AreSteps s (replicate undos undo) answers last → last.played ≡ s.played - undos
undos_left zero s [] last h = let same : last.played ≡ s.played = ap (λ (t : Session). t.played) (sym h) in omega arith
undos_left zero s (a ∷ answers) last h = absurd h
undos_left (suc undos) s [] last h = absurd h
undos_left (suc undos) s (a ∷ answers) last h =
    let one : h.0.played ≡ s.played - 1 = undo_step s a h.0 h.1 in
    let rest : last.played ≡ h.0.played - undos = undos_left undos h.0 answers last h.2 in omega arith

left_behind : (before : List Step) (undos : ℕ) (s : Session) (answers : List StepAnswer) (last : Session) → AreSteps s (before ++ replicate undos undo) answers last
    → last.played ≤ s.played + length before - undos
left_behind [] undos s answers last h = let e : last.played ≡ s.played - undos = undos_left undos s answers last h in omega arith
left_behind (step ∷ before) undos s [] last h = absurd h
left_behind (step ∷ before) undos s (a ∷ answers) last h =
    let one : h.0.played ≤ s.played + 1 = (one_step s step a h.0 h.1).played in
    let rest : last.played ≤ h.0.played + length before - undos = left_behind before undos h.0 answers last h.2 in omega arith

-- ---- moves

-- the table of the session after a move is the one that the move results in
moved_on : (s : Session) (table : List Row) (m : Move) (next : List Row) → IsTableOf s table → Plays table m next → IsTableOf (with_move s m) next
moved_on s table m next at p =
    let in_range : s.played ≤ length s.moves = at.in_range in
    let size : length (take s.played s.moves) ≡ s.played = length-take-le s.played s.moves in_range in
    let more : length (take s.played s.moves ++ m ∷ []) ≡ length (take s.played s.moves) + 1 = length_push (take s.played s.moves) m in
    let whole : take (s.played + 1) (take s.played s.moves ++ m ∷ []) ≡ take s.played s.moves ++ m ∷ [] = take_all (s.played + 1) (take s.played s.moves ++ m ∷ []) (omega arith) in
    let led : PlaysAll s.first (take s.played s.moves ++ m ∷ []) next = played_on s.first (take s.played s.moves) table m next at.reached p in
    record { in_range = omega arith; reached = subst (λ (moves : List Move). PlaysAll s.first moves next) (sym whole) led; others = (next, led) }

-- a move retains the moves played before it
kept_behind : (s : Session) (m : Move) → s.played ≤ length s.moves → take s.played (take s.played s.moves ++ m ∷ []) ≡ take s.played s.moves
kept_behind s m in_range =
    let size : length (take s.played s.moves) ≡ s.played = length-take-le s.played s.moves in_range in
    take-append-le s.played (take s.played s.moves) (m ∷ []) (omega arith) ∙ take-take s.played s.played s.moves (omega arith)

-- lists with an equal prefix have equal shorter prefixes
shorter : (n : ℕ) (a b : List Move) → take (n + 1) a ≡ take (n + 1) b → take n a ≡ take n b
shorter n a b e = sym (take-take n (n + 1) a (omega arith)) ∙ ap (λ (moves : List Move). take n moves) e ∙ take-take n (n + 1) b (omega arith)

-- the session once all moves are played, after those played before
record AreDone (s : Session) (moves : List Move) (end : List Row) : Type 0 where
  last : Session
  steps : AreSteps s (map play moves) (map (λ (m : Move). done) moves) last
  at : IsTableOf last end
  first : last.first ≡ s.first
  played : last.played ≡ s.played + length moves
  kept : take s.played last.moves ≡ take s.played s.moves

all_done : (s : Session) (table : List Row) (moves : List Move) (end : List Row) → IsTableOf s table → PlaysAll table moves end → AreDone s moves end
all_done s table [] end at led = record { last = s; steps = refl; at = subst (IsTableOf s) led at; first = refl; played = omega arith; kept = refl }
all_done s table (m ∷ moves) end at led =
    let rest : AreDone (with_move s m) moves end = all_done (with_move s m) led.0 moves end (moved_on s table m led.0 at led.1) led.2 in record {
      last = rest.last;
      steps = (with_move s m, ((table, at, led.1.accepted), refl), rest.steps);
      at = rest.at;
      first = rest.first;
      played = (let e : rest.last.played ≡ s.played + 1 + length moves = rest.played in omega arith);
      kept = shorter s.played rest.last.moves (take s.played s.moves ++ m ∷ []) rest.kept ∙ kept_behind s m at.in_range;
    }

-- ---- moves that are undone

abbrev played_to : Session → ℕ → Session
played_to s n = record s { played = n }

all_undone : (s : Session) (n : ℕ) (moves : List Move) → s.played ≡ n + length moves → AreSteps s (map (λ (m : Move). undo) moves) (map (λ (m : Move). undone) moves) (played_to s n)
all_undone s n [] e = let here : s.played ≡ n = omega arith in ap (played_to s) here
all_undone s n (m ∷ moves) e = (played_to s (s.played - 1), (omega arith, refl), all_undone (played_to s (s.played - 1)) n moves (omega arith))

steps_on : (s : Session) (steps more : List Step) (answers others : List StepAnswer) (next last : Session) → AreSteps s steps answers next → AreSteps next more others last
    → AreSteps s (steps ++ more) (answers ++ others) last
steps_on s [] more [] others next last h k = subst (λ (t : Session). AreSteps t more others last) (sym h) k
steps_on s [] more (a ∷ answers) others next last h k = absurd h
steps_on s (step ∷ steps) more [] others next last h k = absurd h
steps_on s (step ∷ steps) more (a ∷ answers) others next last h k = (h.0, h.1, steps_on h.0 steps more answers others next last h.2 k)

-- the session returned to the earlier number of moves has its earlier table
back_at : (s : Session) (table : List Row) (moves : List Move) (end : List Row) (a : AreDone s moves end) → IsTableOf s table → IsTableOf (played_to a.last s.played) table
back_at s table moves end a at = record {
  in_range = (let l : a.last.played ≤ length a.last.moves = a.at.in_range in let e : a.last.played ≡ s.played + length moves = a.played in omega arith);
  reached = subst (λ (rows : List Row). PlaysAll rows (take s.played a.last.moves) table) (sym a.first)
      (subst (λ (ms : List Move). PlaysAll s.first ms table) (sym a.kept) at.reached);
  others = a.at.others;
}

module _ (d : List Row × List Step) (o : Outcome) (h : IsScriptAnswer d o) where
  moves_are_done : MovesAreDone d o
  moves_are_done moves end e led =
      let a = all_done (begun d.0) d.0 moves end (record { in_range = omega arith; reached = refl; others = (d.0, refl) }) led in
      let steps : AreSteps (begun d.0) d.1 (map (λ (m : Move). done) moves) a.last =
      subst (λ (steps : List Step). AreSteps (begun d.0) steps (map (λ (m : Move). done) moves) a.last) (sym e) a.steps in
      one_script d o (script_outcome (map (λ (m : Move). done) moves) end) h (map (λ (m : Move). done) moves, a.last, end, steps, a.at, refl)

  moves_are_taken_back : MovesAreTakenBack d o
  moves_are_taken_back before answers session table moves end led at plays e =
      let a = all_done session table moves end at plays in
      let last : Session = played_to a.last session.played in
      let reported : List StepAnswer = answers ++ (map (λ (m : Move). done) moves ++ map (λ (m : Move). undone) moves) in
      let behind : AreSteps session (map play moves ++ map (λ (m : Move). undo) moves) (map (λ (m : Move). done) moves ++ map (λ (m : Move). undone) moves) last =
      steps_on session (map play moves) (map (λ (m : Move). undo) moves) (map (λ (m : Move). done) moves) (map (λ (m : Move). undone) moves) a.last last a.steps
      (all_undone a.last session.played moves a.played) in
      let all : AreSteps (begun d.0) (before ++ (map play moves ++ map (λ (m : Move). undo) moves)) reported last =
      steps_on (begun d.0) before (map play moves ++ map (λ (m : Move). undo) moves) answers (map (λ (m : Move). done) moves ++ map (λ (m : Move). undone) moves) session last led behind in
      let steps : AreSteps (begun d.0) d.1 reported last = subst (λ (steps : List Step). AreSteps (begun d.0) steps reported last) (sym e) all in
      one_script d o (script_outcome reported table) h (reported, last, table, steps, back_at session table moves end a at, refl)

  reached : PlaysAll d.0 (take h.1.played h.1.moves) h.2
  reached = subst (λ (rows : List Row). PlaysAll rows (take h.1.played h.1.moves) h.2) (first_kept (begun d.0) d.1 h.0 h.1 h.3) h.4.reached

  all_taken_back : (before : List Step) (undos : ℕ) → d.1 ≡ before ++ replicate undos undo → length before ≤ undos → h.2 ≡ d.0
  all_taken_back before undos e enough =
      let left : h.1.played ≤ 0 + length before - undos =
      left_behind before undos (begun d.0) h.0 h.1 (subst (λ (steps : List Step). AreSteps (begun d.0) steps h.0 h.1) e h.3) in
      let none : h.1.played ≡ 0 = omega arith in
      sym (subst (λ (n : ℕ). PlaysAll d.0 (take n h.1.moves) h.2) none reached)

  is_played : IsPlayed d o
  is_played = record {
    answers = h.0;
    last = h.1;
    answered = h.3;
    table = h.2;
    reached = reached;
    outcome = h.5;
    moves_done = moves_are_done;
    moves_taken_back = moves_are_taken_back;
    all_taken_back = all_taken_back;
  }

pub scripts_played : ScriptsArePlayed
scripts_played = means_by Play steps_document IsScriptAnswer IsPlayed (λ bytes o a. a) (λ bytes d o read a. is_played d o a)
