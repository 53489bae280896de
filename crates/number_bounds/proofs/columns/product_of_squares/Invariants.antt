use Rattle.std.proofs.Common.{◌≡◌}
use Rattle.cone_bound_laws.specs.Caps.{caps_product}
use Rattle.number_bounds.specs.Columns.{cap_by}
use Rattle.number_bounds.proofs.columns.product_of_squares.Given as goal

abbrev pub invariant-loop-square : goal.invariant-loop-square
invariant-loop-square l = l.product ≡ caps_product (cap_by l.squares) l.square-index
