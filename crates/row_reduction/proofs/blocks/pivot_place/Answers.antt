-- All rows are compared.
use Rattle.std.proofs.Common.{rules, ◌≡◌, length, subst}
use Rattle.row_reduction.specs.Eliminating.{IsPivotBelow}
use Rattle.row_reduction.proofs.blocks.pivot_place.Goals as goal

pub returns : goal.returns
returns c =
    let all : c.loop-place.place ≡ length c.args.rows.now = search rules in
    subst (λ n. IsPivotBelow c.args.column c.args.rows.now n c.loop-place.best) all c.loop-place.invariant
