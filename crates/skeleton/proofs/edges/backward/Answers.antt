use Rattle.std.proofs.Common.{◌+◌, ◌*◌, ◌/◌, ℕ, List, ap, ◌∙◌, sym, slice_index}
use Rattle.skeleton_class_laws.specs.Crossings.{pair_number}
use Rattle.skeleton_class_laws.specs.Directions.{backward}
use Rattle.skeleton.proofs.edges.backward.Goals as goal

pub returns : goal.returns
unfolding backward
returns c = ap (λ k. 12 * (c.args.edge / 6) + k) (c.direction_number.ensures.value
    ∙ ap (λ (xs : List ℕ). pair_number (slice_index xs 1) (slice_index xs 0)) (sym c.edge_ends-lower.ensures.ends))
