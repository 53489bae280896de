use Rattle.std.proofs.Common.{◌≡◌}
use Rattle.cone_bound_laws.specs.Caps.{caps_product}
use Rattle.number_bounds.specs.Triples.{triple_cap}
use Rattle.number_bounds.proofs.triples.product_of_triples.Given as goal

abbrev pub invariant-loop-group : goal.invariant-loop-group
invariant-loop-group l = l.product ≡ caps_product (triple_cap l.squares) l.group
