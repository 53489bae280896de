-- One step through the vectors of a document.
use Rattle.std.proofs.Common.{◌≡◌, ℕ, ◌<◌, ◌+◌, List, length, take, get_or, Vec, Result, Ok, Err, sym, subst, ◌∙◌, arith}
use Rattle.std.specs.declared.alloc.Global.{Global}
use Rattle.out_of_memory.specs.declared.Failure.{Failure}
use Rattle.out_of_memory.specs.declared.Failure.TheVariants.{Fault}
use Rattle.out_of_memory.specs.Failures.{IfFault}
use Rattle.command_answers.specs.Reads.{all_entries}
use Rattle.surface_vector_definitions.specs.declared.Refusal.{Refusal}
use Rattle.surface_vector_definitions.specs.Answers.{IsFirstRefused}
use Rattle.vector_commands.specs.Telling.{AreAnsweredIn, AppendsAnswer}
use Rattle.vector_commands.proofs.TellingLaws.{one_more_told, first_refused}
use Rattle.vector_commands.proofs.VectorLists.{entries_more, entries_at, entries_front, as_many}

module _ {A : Type 0} (IsResult : List ℕ → Result A Refusal → Type 0) (line : A → List ℕ) (vs : List (Vec ℕ Global)) (v : ℕ) (x : Vec ℕ Global) (xs before now : List ℕ)
    (l : v < length vs) (e : x ≡ get_or vs v x) (same : xs ≡ x.items) (reported : AreAnsweredIn IsResult line (all_entries (take v vs)) before) where
  -- the vector has an answer, and so has each vector before it
  pub next_told : (u : Unit {0}) → AppendsAnswer IsResult line xs before now (Ok u) → AreAnsweredIn IsResult line (all_entries (take (v + 1) vs)) now
  next_told u h =
      subst (λ (ys : List (List ℕ)). AreAnsweredIn IsResult line ys now) (sym (entries_more vs v x l e))
      (one_more_told IsResult line (all_entries (take v vs)) x.items before now reported (subst (λ (ys : List ℕ). AppendsAnswer IsResult line ys before now (Ok u)) same h))

  -- the vector is refused, and no vector before it is
  pub next_refused : (failure : Failure Refusal) (refusal : Refusal) → failure ≡ Fault refusal → AppendsAnswer IsResult line xs before now (Err failure) → IsFirstRefused IsResult (all_entries vs) v refusal
  next_refused failure refusal is h =
      let count = as_many vs in
      first_refused IsResult line (all_entries vs) v before refusal (omega arith)
      (subst (λ (ys : List (List ℕ)). AreAnsweredIn IsResult line ys before) (entries_front vs v) reported)
      (subst (λ (ys : List ℕ). IsResult ys (Err refusal)) (same ∙ sym (entries_at vs v x l e)) (subst (λ (f : Failure Refusal). IfFault f (λ r. IsResult xs (Err r))) is h))
