use Rattle.std.proofs.Common.{◌+◌, ◌*◌, ◌/◌, ℕ, List, ap, ◌∙◌, sym, slice_index}
use Rattle.skeleton_class_laws.specs.Crossings.{pair_number}
use Rattle.skeleton_class_laws.specs.Directions.{forward}
use Rattle.skeleton.proofs.edges.forward.Goals as goal

pub returns : goal.returns
unfolding forward
returns c = ap (λ k. 12 * (c.args.edge / 6) + k) (c.direction_number.ensures.value
    ∙ ap (λ (xs : List ℕ). pair_number (slice_index xs 0) (slice_index xs 1)) (sym c.edge_ends-lower.ensures.ends))
