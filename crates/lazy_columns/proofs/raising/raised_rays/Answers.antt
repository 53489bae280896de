use Rattle.std.proofs.Common.{inl, inr, All, length, subst, subst₂, sym, ap, ◌∙◌}
use Rattle.std.proofs.lemmas.Result.{err_from_is_err_and}
use Rattle.cone_arithmetic.specs.declared.numbers.TheConstants.{MAX_ENTRY}
use Rattle.ray_steps.specs.Rays.{rays_of}
use Rattle.ray_steps.specs.Signs.{IsBoundedSign, IsMadeUpTo}
use Rattle.ray_steps.specs.Faults.{IsFirstLargeValue}
use Rattle.ray_steps.specs.Steps.{IsFirstLargeEitherWay}
use Rattle.ray_steps.proofs.StepLemmas.{bounded_signs}
use Rattle.lazy_columns.specs.Fresh.{oriented}
use Rattle.lazy_columns.specs.Raised.{IsRaisedFrom}
use Rattle.lazy_columns.specs.Passing.{PassesAt}
use Rattle.lazy_columns.proofs.Passed.{fault_weaker, pair_either_way}
use Rattle.lazy_columns.proofs.Oriented.{room_of_rays}
use Rattle.lazy_columns.proofs.raising.raised_rays.Goals as goal

pub raise_all-requires-clause-count : goal.raise_all-requires-clause-count
raise_all-requires-clause-count g c = ap length c.deref.ensures.value ∙ c.in_ok-parts.ensures.ok.count

pub raise_all-requires-clause-room : goal.raise_all-requires-clause-room
raise_all-requires-clause-room g c =
    room_of_rays c.args.fresh.column c.in_ok-parts.parts.ray_list.items c.args.input.ray_list.items (c.in_ok-parts.ensures.ok.rays_are ∙ c.in_ok-step.ensures.ok.rays_are) c.requires.room

pub raise_all-requires-clause-bounded : goal.raise_all-requires-clause-bounded
raise_all-requires-clause-bounded g c =
    let step = c.in_ok-step.step in
    subst (All (IsBoundedSign MAX_ENTRY)) (sym (c.deref.ensures.value ∙ c.in_ok-parts.ensures.ok.signs_are))
    (bounded_signs MAX_ENTRY (oriented c.args.fresh.is_negated c.args.input.row.now) (rays_of c.args.input.ray_list.items) step.signs c.in_ok-step.ensures.ok.signed)

pub returns-clause-ok : goal.returns-clause-ok
returns-clause-ok g c =
    let step = c.in_ok-step.step in
    let h = c.in_ok-step.ensures.ok in
    let parts = c.in_ok-parts.parts in
    let p = c.in_ok-parts.ensures.ok in
    let ray_list = rays_of parts.ray_list.items in
    let made = rays_of parts.made.items in
    let signs = c.deref.ensures.value ∙ p.signs_are in
    let before = subst₂ (λ rs ss. IsMadeUpTo step.limit step.pairs rs ss (length parts.ray_list.items) 0 made) (sym p.rays_are) (sym signs)
    (subst (λ n. IsMadeUpTo step.limit step.pairs step.rays step.signs n 0 made) (ap length (sym p.signs_are) ∙ p.count) p.made.made) in
    let all = subst₂ (λ n ps. IsMadeUpTo n ps ray_list c.deref.result.now (length parts.ray_list.items) 0 made) h.limit_is h.pairs before in
    record {
      signs = step.signs;
      signed = h.signed;
      raised = subst₂ (λ rs ss. IsRaisedFrom MAX_ENTRY c.args.input.clashes.now.pairs rs ss c.args.fresh.column 0 (rays_of c.raise_all.new.next.items)) (p.rays_are ∙ h.rays_are) signs
          (c.in_ok-raise_all.ensures c.args.input.clashes.now.pairs all);
    }

pub returns-in_err-step-clause-err : goal.returns-in_err-step-clause-err
returns-in_err-step-clause-err g c =
    let rays = rays_of c.args.input.ray_list.items in
    let p = err_from_is_err_and c.from_residual.result c.from_residual.ensures.1 in
    rw (p.1, p.2) (fault_weaker (IsFirstLargeValue MAX_ENTRY c.args.input.row.now rays) (PassesAt c.args.input.clashes.now c.args.input.row.now rays) (λ named h. inl h) _ c.in_err-step.ensures.err)

pub returns-in_err-parts-clause-err : goal.returns-in_err-parts-clause-err
returns-in_err-parts-clause-err g c =
    let step = c.in_ok-step.step in
    let rays = rays_of c.args.input.ray_list.items in
    let clashes = c.args.input.clashes.now in
    let row = c.args.input.row.now in
    let p = err_from_is_err_and c.from_residual-in_err-parts.result c.from_residual-in_err-parts.ensures.1 in
    rw (p.1, p.2) (fault_weaker (IsFirstLargeEitherWay step) (PassesAt clashes row rays) (λ named h. inr (pair_either_way clashes row c.args.fresh.is_negated rays step c.in_ok-step.ensures.ok named h)) _
    c.in_err-parts.ensures.err)
