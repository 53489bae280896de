use Rattle.std.proofs.Common.{rules, ◌≡◌, ◌^◌, ◌+◌, w32, FitsSigned, get_or, pos, ap, ◌∙◌}
use Rattle.std.specs.Prelude.{unsigned_abs}
use Rattle.std.proofs.lemmas.Int.{to_z-of_z}
use Rattle.std.proofs.lemmas.List.{take_all}
use Rattle.cone_bound_laws.specs.Caps.{row_size}
use Rattle.number_bounds.proofs.Tallies.{size_more}
use Rattle.number_bounds.proofs.Past.{if_none, reached, size_past}
use Rattle.number_bounds.proofs.sizes.size_of.Goals as goal

pub loop-coefficient-preserved : goal.loop-coefficient-preserved
loop-coefficient-preserved c =
    let f : FitsSigned w32 (get_or c.args.row.now c.loop-coefficient.coefficient-index (0, pos 0)).1 = search rules in
    let same : c.from.result ≡ c.unsigned_abs.result = search rules in
    size_more c.args.row.now c.loop-coefficient.coefficient-index c.loop-coefficient.size c.in_ok-size.size c.from.result c.loop-coefficient-test.true c.loop-coefficient.invariant
    c.in_ok-size.ensures.1 (same ∙ c.unsigned_abs.ensures.value ∙ ap unsigned_abs (to_z-of_z w32 _ f))

pub returns-in_err-size-clause-none : goal.returns-in_err-size-clause-none
returns-in_err-size-clause-none c =
    let f : FitsSigned w32 (get_or c.args.row.now c.loop-coefficient.coefficient-index (0, pos 0)).1 = search rules in
    let same : c.from.result ≡ c.unsigned_abs.result = search rules in
    if_none c.from_residual.result (size_past c.args.row.now c.loop-coefficient.coefficient-index c.loop-coefficient.size c.from.result (2 ^ 64) c.loop-coefficient-test.true
    c.loop-coefficient.invariant (same ∙ c.unsigned_abs.ensures.value ∙ ap unsigned_abs (to_z-of_z w32 _ f)) (reached (c.loop-coefficient.size + c.from.result) (2 ^ 64) c.in_err-size.ensures))

pub returns-clause-some : goal.returns-clause-some
returns-clause-some c = c.loop-coefficient.invariant ∙ ap (λ r. row_size r) (take_all c.loop-coefficient.coefficient-index c.args.row.now c.loop-coefficient-test.false)
