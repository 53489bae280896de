-- The condition on the image of the tetrahedron is that of the facet that is found.
use Rattle.std.proofs.Common.{ap, ◌∙◌, Some, None}
use Rattle.tri_build.specs.Steps.{PlayedMove}
use Rattle.tri_build.proofs.Found.{as_found}
use Rattle.tri_build.proofs.standing.image_at.Goals as goal

pub facet_image-requires : goal.facet_image-requires
facet_image-requires c =
    as_found c.args.step.now c.args.back.now c.args.on.now c.args.tet c.deref.result.now (Some c.in-Some.facet) (c.deref.ensures.0 ∙ ap (λ (s : PlayedMove). s.facets) c.step.view_is) c.in-Some.ensures c.requires

pub retained_image-requires : goal.retained_image-requires
retained_image-requires c =
    as_found c.args.step.now c.args.back.now c.args.on.now c.args.tet c.deref.result.now None (c.deref.ensures.0 ∙ ap (λ (s : PlayedMove). s.facets) c.step.view_is) c.in-None.ensures c.requires
