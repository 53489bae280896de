use Rattle.std.proofs.Common.{◌+◌, subst, sym, ap, ◌∙◌}
use Rattle.std.proofs.lemmas.Bool.{false≢true}
use Rattle.std.proofs.lemmas.List.{get_or_default}
use Rattle.support_table.specs.declared.candidates.Candidate.{Candidate}
use Rattle.support_table.specs.Groups.{AreSelectedAlone}
use Rattle.support_table.proofs.OtherLemmas.{alone_none, alone_push, alone_skip}
use Rattle.support_table.proofs.minimal.selected_alone.Goals.{then-is_selected_alone+in_ok-push, else-is_selected_alone}
use Rattle.support_table.proofs.minimal.selected_alone.Goals as goal

pub loop-candidate-init : goal.loop-candidate-init
loop-candidate-init c =
    let family = c.args.family in
    subst (AreSelectedAlone family.table.now.supports family.outer.now family.list.now c.args.selected.now c.args.list.now 0) (sym c.new-places.ensures.items)
    (alone_none family.table.now.supports family.outer.now family.list.now c.args.selected.now c.args.list.now)

pub loop-candidate-preserved : goal.loop-candidate-preserved
loop-candidate-preserved c =
    let family = c.args.family in
    let selected = c.args.selected.now in
    let candidates = c.args.list.now in
    let n = c.loop-candidate.candidate-index in
    let places = c.loop-candidate.places.items in
    elim c.if-is_selected_alone.branch [
      | then-is_selected_alone+in_ok-push w ↦ subst (AreSelectedAlone family.table.now.supports family.outer.now family.list.now selected candidates (n + 1)) (sym (ap (λ v. v.items) w.places-is ∙ w.in_ok-push.ensures.items))
          (alone_push family.table.now.supports family.outer.now family.list.now selected candidates n places c.loop-candidate.invariant _ c.loop-candidate-test.true (λ d. ap (λ (r : Candidate). r.place) (get_or_default candidates n d _ c.loop-candidate-test.true))
          (c.is_selected_alone.ensures.0 w.if-is_selected_alone.true))
      | else-is_selected_alone w ↦ subst (AreSelectedAlone family.table.now.supports family.outer.now family.list.now selected candidates (n + 1)) (sym (ap (λ v. v.items) w.places-is))
          (alone_skip family.table.now.supports family.outer.now family.list.now selected candidates n places c.loop-candidate.invariant _ (λ d. ap (λ (r : Candidate). r.place) (get_or_default candidates n d _ c.loop-candidate-test.true))
          (λ is. false≢true (sym w.if-is_selected_alone.false ∙ c.is_selected_alone.ensures.1 is)))
    ]
