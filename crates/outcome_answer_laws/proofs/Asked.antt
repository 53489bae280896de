-- The outcome of accepted words is the answer to their request.
use Rattle.std.proofs.Common.{◌≡◌, ◌≤◌, ℕ, List, length, Bool, true, false, Option, Result, Ok, refl, ap, subst, arith, nat_lt}
use Rattle.std.specs.Prelude.{◌<◌, ◌&&◌}
use Rattle.std.proofs.lemmas.Bool.{ltb-true, false_from_ne_true}
use Rattle.std.specs.Bool.{MatchBool}
use Rattle.signature_definitions.specs.declared.InputFault.{InputFault}
use Rattle.command_definitions.specs.declared.Request.{Request}
use Rattle.command_definitions.specs.Requests.{reads_input}
use Rattle.outcome_definitions.specs.Outcomes.{Outcome, too_long_outcome, IsReadOutcome}
use Rattle.outcome_definitions.specs.Answers.{IsOutcomeOf, IsAnswerTo, is_too_long, most_bytes}
use Rattle.outcome_answer_laws.specs.Requests.{IsOutcomeTo, Means}

-- the outcome of an input that is not too long is an answer to the request
pub within : (b : Bool) (A : Type 0) (o : Outcome) → b ≡ false → MatchBool b (o ≡ too_long_outcome) A → A
within true A o e h = absurd (let z : true ≡ false = e in cc)
within false A o e h = h

pub not_long : (r : Request) (bytes : List ℕ) → length bytes ≤ most_bytes → is_too_long r bytes ≡ false
not_long r bytes l = and_false (reads_input r) (false_from_ne_true (nat_lt most_bytes (length bytes)) (λ long. let more : most_bytes < length bytes = ltb-true most_bytes (length bytes) long in omega arith))
  where
    and_false : (b : Bool) {c : Bool} → c ≡ false → (b && c) ≡ false
    and_false true e = e
    and_false false e = refl

pub answer_to : (r : Request) (words : List (List ℕ)) (bytes : List ℕ) (o : Outcome) → IsOutcomeTo r words bytes o → IsAnswerTo r bytes o
answer_to r words bytes o h =
    within (is_too_long r bytes) (IsAnswerTo r bytes o) o (not_long r bytes h.within) (subst (λ (asked : Option Request). IsOutcomeOf asked bytes o) h.accepted h.outcome)

-- the outcome of a document is an answer to the value that was read
pub answer_to_value : {A : Type 0} (document : Result A InputFault) (value : A) (IsAnswer : A → Outcome → Type 0) (o : Outcome) → document ≡ Ok value → IsReadOutcome document IsAnswer o → IsAnswer value o
answer_to_value document value IsAnswer o read h = subst (λ r. IsReadOutcome r IsAnswer o) read h

-- what follows from each answer to the value that was read holds of the outcome
pub means_by : {A : Type 0} (r : Request) (document : List ℕ → Result A InputFault) (IsAnswer IsMeant : A → Outcome → Type 0)
    → ((bytes : List ℕ) (o : Outcome) → IsAnswerTo r bytes o → IsReadOutcome (document bytes) IsAnswer o)
    → ((bytes : List ℕ) (d : A) (o : Outcome) → document bytes ≡ Ok d → IsAnswer d o → IsMeant d o) → Means r document IsMeant
means_by r document IsAnswer IsMeant answers follows words bytes o d asked read =
    follows bytes d o read (answer_to_value (document bytes) d IsAnswer o read (answers bytes o (answer_to r words bytes o asked)))

-- equal outcomes have one status
pub status_of : (o p : Outcome) → o ≡ p → o.status ≡ p.status
status_of o p e = ap (λ (q : Outcome). q.status) e
