-- A gluing maps a vertex of a face to a vertex of the other face.
use Rattle.std.proofs.Common.{sym, ◌∙◌}
use Rattle.table_definitions.proofs.PermutationLaws.{images_apart}
use Rattle.surface_pieces.proofs.steps.across.Goals as goal

pub invariant_of-result : goal.invariant_of-result
invariant_of-result c = (
  c.image.ensures.in_range,
  c.image-2.ensures.in_range,
  λ e. images_apart c.glue.inside.perm c.arc.inside.vertex c.arc.inside.face c.image.ensures.permutes c.arc.invariant.1 c.arc.invariant.0 c.arc.invariant.2 (sym c.image-2.ensures.value ∙ e ∙ c.image.ensures.value),
)
