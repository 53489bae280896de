-- The outcome of a request, for what was read, or for any input if nothing is read.
use Rattle.std.proofs.Common.{◌≡◌, ℕ, ◌≤◌, ◌<◌, ◌-◌, ◌^◌, Bool, true, false, inl, inr, List, ◌++◌, length, Option, Some, None, Result, Ok, Err, sym, ◌∙◌, ap, subst, true≢false, append-nil, arith}
use Rattle.std.specs.Prelude.{IfSome}
use Rattle.std.proofs.lemmas.Bool.{cases_order}
use Rattle.text_io.specs.Causes.{TakesBytes, IsEnded}
use Rattle.std.specs.Bool.{MatchBool}
use Rattle.command_definitions.specs.declared.Request.{Request}
use Rattle.command_definitions.specs.Requests.{reads_input}
use Rattle.outcome_definitions.specs.Outcomes.{Outcome, too_long_outcome}
use Rattle.outcome_definitions.proofs.OwnStatus.{answer_own}
use Rattle.workbench.specs.Runs.{IsCalm, IsReadWell}
use Rattle.outcome_definitions.specs.Answers.{IsAnswerTo, IsRequestOutcome, is_too_long, most_bytes}
use Rattle.outcome_answer_laws.proofs.Asked.{not_long}

module _ (request : Request) (o : Outcome) where
  by_length : (bytes : List ℕ) (b : Bool) → is_too_long request bytes ≡ b → MatchBool b (o ≡ too_long_outcome) (IsAnswerTo request bytes o) → IsRequestOutcome request bytes o
  by_length bytes b e h = subst (λ (c : Bool). MatchBool c (o ≡ too_long_outcome) (IsAnswerTo request bytes o)) (sym e) h

  pub answers_input : (bytes : List ℕ) → length bytes ≤ most_bytes → IsAnswerTo request bytes o → IsRequestOutcome request bytes o
  answers_input bytes limited h = by_length bytes false (not_long request bytes limited) h

-- a value is no error
pub no_error : {T E : Type 0} (x : T) (e : E) → (let r : Result T E = Ok x in r ≡ Err e) → ⊥
no_error x e same = absurd cc

-- a count that did not grow is the same
pub calm_of : (before now : ℕ) → (before < 2 ^ 64 - 1 → before < now → ⊥) → before ≤ now → IsCalm before now
calm_of before now never later small = elim (cases_order before now) [
  | inl e ↦ sym e
  | inr (inl less) ↦ absurd (never small less)
  | inr (inr more) ↦ absurd (omega arith)
]

-- the outcome of a request that reads an input, if the whole source was read
module _ (request : Request) (o : Outcome) (bytes : List ℕ) (reads : reads_input request ≡ true) (answer : IsAnswerTo request bytes o) (limited : length bytes ≤ most_bytes) where
  taken : (left rest : Option (List ℕ)) → TakesBytes left rest bytes → IsEnded rest → IfSome left (λ xs. IsRequestOutcome request xs o)
  taken None rest t e = tt
  taken (Some xs) None t e = absurd t
  taken (Some xs) (Some ys) t e = subst (λ (zs : List ℕ). IsRequestOutcome request zs o) (sym (t ∙ ap (λ (zs : List ℕ). bytes ++ zs) e ∙ append-nil bytes)) (answers_input request o bytes limited answer)

  pub read_well : (left rest : Option (List ℕ)) (before now : ℕ) → TakesBytes left rest bytes → IsEnded rest → IsCalm before now → IsReadWell request left rest before now o
  read_well left rest before now t e calm = record {
    outcome = taken left rest t e;
    alone = λ nothing. absurd (true≢false (sym reads ∙ nothing));
    own_status = answer_own request bytes o answer;
    end = λ r done. e;
    calm = calm;
  }
