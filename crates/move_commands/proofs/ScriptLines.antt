-- The lines of the answers to steps, one step after another.
use Rattle.std.proofs.Common.{◌≡◌, ◌≢◌, ℕ, ◌+◌, ◌<◌, List, [], ◌∷◌, ◌++◌, length, get_or, take, Result, Ok, Err, refl, sym, ap, ◌∙◌, subst, append-nil}
use Rattle.std.specs.Prelude.{OnOk, codes}
use Rattle.std.proofs.lemmas.Grind.{flat_map-append}
use Rattle.std.proofs.lemmas.List.{take_more, map-append}
use Rattle.text_definitions.specs.declared.LexFault.{LexFault}
use Rattle.text_definitions.specs.Reading.{Reading}
use Rattle.text_definitions.specs.Written.{line}
use Rattle.text_document_definitions.specs.Documents.{each_line_from}
use Rattle.move_definitions.specs.Moves as moves
use Rattle.move_definitions.specs.MoveText as text
use Rattle.move_definitions.specs.Sessions.{Session, StepAnswer, illegal, IsSessionStep, AreSteps, move_fault_text, step_answer_text}
use Rattle.move_definitions.specs.declared.MoveFault.{MoveFault}
use Rattle.move_undo.specs.declared.reader.Step.{Step}
use Rattle.move_undo.specs.declared.session.PlayFault.{PlayFault}
use Rattle.move_undo.specs.declared.session.PlayFault.TheVariants.{Illegal, NoMemory}
use Rattle.move_undo.specs.Faults.{IsRefusal}
use Rattle.move_undo.specs.Steps.{step_value}
use Rattle.outcome_definitions.specs.Scripts.{answers_text}
use Rattle.text_document_definitions.proofs.EachLine.{with_fronts}
use Rattle.move_commands.specs.Scripts.{all_steps, Steps, Plays}

-- what follows from a clause on success
pub on_ok : {E : Type 0} (r : Result (Unit {0}) E) (P Q : Type 0) → (P → Q) → OnOk r P → OnOk r Q
on_ok (Ok u) P Q f h = f h
on_ok (Err e) P Q f h = tt

-- the answer to a refused move is its error, and the session is unchanged
pub refused_step : (before after : Session) (m : moves.Move) (fault : MoveFault) (e : PlayFault) (written now : List ℕ) → e ≡ Illegal fault → (e ≢ NoMemory → IsRefusal before m e) → after ≡ before
    → now ≡ written ++ line (codes "illegal " ++ move_fault_text fault) → Steps before (text.play m) after written now
refused_step before after m fault e written now is refusal same grown =
    let r : IsRefusal before m e = refusal (λ n. (let wrong : Illegal fault ≡ NoMemory = sym is ∙ n in cc)) in
    let named : Illegal fault ≡ Illegal r.0 = sym is ∙ r.1 in
    let equal : fault ≡ r.0 = cc in
    (illegal r.0, (r.2, same), grown ∙ ap (λ (f : MoveFault). written ++ line (codes "illegal " ++ move_fault_text f)) equal)

-- no step has an answer yet
pub plays-none : (s : Session) (written : List ℕ) → written ≡ [] → Plays s [] s written
unfolding answers_text
plays-none s written e = ([], refl, e)

-- one more step
steps-more : (s : Session) (steps : List text.Step) (answers : List StepAnswer) (mid : Session) (step : text.Step) (a : StepAnswer) (last : Session) → AreSteps s steps answers mid → IsSessionStep mid step a last
    → AreSteps s (steps ++ step ∷ []) (answers ++ a ∷ []) last
steps-more s [] [] mid step a last h k = (last, subst (λ (t : Session). IsSessionStep t step a last) (sym h) k, refl)
steps-more s [] (b ∷ answers) mid step a last h k = absurd h
steps-more s (p ∷ steps) [] mid step a last h k = absurd h
steps-more s (p ∷ steps) (b ∷ answers) mid step a last h k = (h.0, h.1, steps-more h.0 steps answers mid step a last h.2 k)

answers_text-more : (answers : List StepAnswer) (a : StepAnswer) → answers_text (answers ++ a ∷ []) ≡ answers_text answers ++ line (step_answer_text a)
unfolding answers_text
answers_text-more answers a =
    flat_map-append (λ (b : StepAnswer). line (step_answer_text b)) answers (a ∷ []) ∙ ap (λ (t : List ℕ). answers_text answers ++ t) (append-nil (line (step_answer_text a)))

pub plays-more : (s mid last : Session) (steps : List Step) (i : ℕ) (step : Step) (written now : List ℕ) → Plays s (all_steps (take i steps)) mid written → Steps mid (step_value step) last written now
    → i < length steps → step ≡ get_or steps i step → Plays s (all_steps (take (i + 1) steps)) last now
plays-more s mid last steps i step written now h k within is =
    let before : all_steps (take (i + 1) steps) ≡ all_steps (take i steps) ++ step_value step ∷ [] =
    ap (λ (ps : List Step). all_steps ps) (take_more steps i step within ∙ ap (λ (p : Step). take i steps ++ p ∷ []) (sym is)) ∙ map-append step_value (take i steps) (step ∷ []) in (
      h.0 ++ k.0 ∷ [],
      subst (λ (ps : List text.Step). AreSteps s ps (h.0 ++ k.0 ∷ []) last) (sym before) (steps-more s (all_steps (take i steps)) h.0 mid (step_value step) k.0 last h.1 k.1),
      k.2 ∙ ap (λ (t : List ℕ). t ++ line (step_answer_text k.0)) h.2 ∙ sym (answers_text-more h.0 k.0),
    )

-- a further step that was read
pub steps_push : (before now : List Step) (s : Step) (d : Reading) (whole : Result (List text.Step × Reading) LexFault) → now ≡ before ++ s ∷ []
    → with_fronts (all_steps before ++ step_value s ∷ []) (each_line_from text.step_at d.later d) ≡ whole → with_fronts (all_steps now) (each_line_from text.step_at d.later d) ≡ whole
steps_push before now s d whole same h = rw same (rw (map-append step_value before (s ∷ [])) h)
