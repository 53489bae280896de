use Rattle.std.proofs.Common.{◌≡◌, inl, inr, false, get_or, ap, ◌∙◌, arith}
use Rattle.std.proofs.lemmas.Bool.{cases_lt}
use Rattle.std.proofs.lemmas.List.{get_or_default}
use Rattle.support_table.specs.declared.candidates.Candidate.{Candidate}
use Rattle.support_table.proofs.minimal.has_selected.Goals as goal

pub loop-candidate-preserved : goal.loop-candidate-preserved
loop-candidate-preserved c k d less within =
    let list = c.args.list.now in
    let z : Candidate = record { place = 0; size = 0 } in
    elim (cases_lt k c.loop-candidate.candidate-index) [
      | inl old ↦ c.loop-candidate.invariant k d old within
      | inr exceeded ↦ let e : k ≡ c.loop-candidate.candidate-index = omega arith in
          ap (λ (r : Candidate). get_or c.args.selected.now r.place false) (get_or_default list k d z within) ∙ ap (λ j. get_or c.args.selected.now (get_or list j z).place false) e ∙ c.if-selected-candidate.false
    ]
