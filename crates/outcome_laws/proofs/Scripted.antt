-- A script has a unique answer: a session has one table, and a step one answer.
use Rattle.std.proofs.Common.{◌≡◌, List, [], ◌∷◌, take, Some, None, sym, ap, ap₂, ◌∙◌, subst, arith}
use Rattle.table_definitions.specs.Table.{Row}
use Rattle.move_definitions.specs.declared.MoveFault.{MoveFault}
use Rattle.move_definitions.specs.Moves.{Move, play_fault}
use Rattle.move_definitions.specs.MoveText.{Step, play, undo, redo}
use Rattle.move_definitions.specs.Sessions.{Session, IsTableOf, begun, IsRefused, IsAccepted, StepAnswer, done, illegal, undone, redone, nothing, IsSessionStep, AreSteps}
use Rattle.outcome_definitions.specs.Outcomes.{Outcome}
use Rattle.outcome_definitions.specs.Scripts.{script_outcome, IsScriptAnswer}
use Rattle.move_laws.proofs.Played.{all_played_same}

one_table : (s : Session) (t u : List Row) → IsTableOf s t → IsTableOf s u → t ≡ u
one_table s t u h k = all_played_same s.first (take s.played s.moves) t u h.reached k.reached

-- the error of a refused move is unique
one_fault : (s : Session) (m : Move) (e f : MoveFault) → IsRefused s m e → IsRefused s m f → e ≡ f
one_fault s m e f h k =
    let same : Some e ≡ Some f = sym h.2 ∙ ap (λ (t : List Row). play_fault t m) (one_table s h.0 k.0 h.1 k.1) ∙ k.2 in cc

not_both : (s : Session) (m : Move) (f : MoveFault) → IsAccepted s m → IsRefused s m f → ⊥
not_both s m f h k =
    let same : None ≡ Some f = sym h.2 ∙ ap (λ (t : List Row). play_fault t m) (one_table s h.0 k.0 h.1 k.1) ∙ k.2 in cc

-- a step has a unique answer and results in a unique session
one_step : (s : Session) (step : Step) (a b : StepAnswer) (n m : Session) → IsSessionStep s step a n → IsSessionStep s step b m → (a ≡ b) × (n ≡ m)
one_step s (play move) done done n m h k = (cc, h.1 ∙ sym k.1)
one_step s (play move) done (illegal f) n m h k = absurd (not_both s move f h.0 k.0)
one_step s (play move) done undone n m h k = absurd k
one_step s (play move) done redone n m h k = absurd k
one_step s (play move) done nothing n m h k = absurd k
one_step s (play move) (illegal e) done n m h k = absurd (not_both s move e k.0 h.0)
one_step s (play move) (illegal e) (illegal f) n m h k = (ap (λ g. illegal g) (one_fault s move e f h.0 k.0), h.1 ∙ sym k.1)
one_step s (play move) (illegal e) undone n m h k = absurd k
one_step s (play move) (illegal e) redone n m h k = absurd k
one_step s (play move) (illegal e) nothing n m h k = absurd k
one_step s (play move) undone b n m h k = absurd h
one_step s (play move) redone b n m h k = absurd h
one_step s (play move) nothing b n m h k = absurd h
one_step s undo undone undone n m h k = (cc, h.1 ∙ sym k.1)
one_step s undo undone nothing n m h k = absurd (let some = h.0 in let none = k.0 in omega arith)
one_step s undo undone done n m h k = absurd k
one_step s undo undone redone n m h k = absurd k
one_step s undo undone (illegal f) n m h k = absurd k
one_step s undo nothing undone n m h k = absurd (let some = k.0 in let none = h.0 in omega arith)
one_step s undo nothing nothing n m h k = (cc, h.1 ∙ sym k.1)
one_step s undo nothing done n m h k = absurd k
one_step s undo nothing redone n m h k = absurd k
one_step s undo nothing (illegal f) n m h k = absurd k
one_step s undo done b n m h k = absurd h
one_step s undo redone b n m h k = absurd h
one_step s undo (illegal e) b n m h k = absurd h
one_step s redo redone redone n m h k = (cc, h.1 ∙ sym k.1)
one_step s redo redone nothing n m h k = absurd (let some = h.0 in let none = k.0 in omega arith)
one_step s redo redone done n m h k = absurd k
one_step s redo redone undone n m h k = absurd k
one_step s redo redone (illegal f) n m h k = absurd k
one_step s redo nothing redone n m h k = absurd (let some = k.0 in let none = h.0 in omega arith)
one_step s redo nothing nothing n m h k = (cc, h.1 ∙ sym k.1)
one_step s redo nothing done n m h k = absurd k
one_step s redo nothing undone n m h k = absurd k
one_step s redo nothing (illegal f) n m h k = absurd k
one_step s redo done b n m h k = absurd h
one_step s redo undone b n m h k = absurd h
one_step s redo (illegal e) b n m h k = absurd h

one_run : (s : Session) (steps : List Step) (ones others : List StepAnswer) (n m : Session) → AreSteps s steps ones n → AreSteps s steps others m → (ones ≡ others) × (n ≡ m)
one_run s [] [] [] n m h k = (cc, sym h ∙ k)
one_run s [] [] (b ∷ others) n m h k = absurd k
one_run s [] (a ∷ ones) others n m h k = absurd h
one_run s (step ∷ steps) [] others n m h k = absurd h
one_run s (step ∷ steps) (a ∷ ones) [] n m h k = absurd k
one_run s (step ∷ steps) (a ∷ ones) (b ∷ others) n m h k =
    let first : (a ≡ b) × (h.0 ≡ k.0) = one_step s step a b h.0 k.0 h.1 k.1 in
    let more : (ones ≡ others) × (n ≡ m) = one_run k.0 steps ones others n m (subst (λ (t : Session). AreSteps t steps ones n) first.1 h.2) k.2 in
    (ap₂ (λ (x : StepAnswer) (rest : List StepAnswer). x ∷ rest) first.0 more.0, more.1)

pub one_script : (d : List Row × List Step) (o p : Outcome) → IsScriptAnswer d o → IsScriptAnswer d p → o ≡ p
one_script d o p h k =
    let same : (h.0 ≡ k.0) × (h.1 ≡ k.1) = one_run (begun d.0) d.1 h.0 k.0 h.1 k.1 h.3 k.3 in
    let table : h.2 ≡ k.2 = one_table k.1 h.2 k.2 (subst (λ (s : Session). IsTableOf s h.2) same.1 h.4) k.4 in
    h.5 ∙ ap₂ script_outcome same.0 table ∙ sym k.5
