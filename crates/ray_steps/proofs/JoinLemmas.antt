-- The columns that clash with one of a ray.
use Rattle.std.proofs.Common.{◌≡◌, ℕ, ◌<◌, Bool, List, length, ltb, ◌∙◌}
use Rattle.std.proofs.lemmas.List.{length-map}
use Rattle.cone_definitions.specs.Surfaces.{Clash}
use Rattle.cone_definitions.specs.Vectors.{ray_at}
use Rattle.support_bits.specs.Columns.{support_of}
use Rattle.support_table.specs.Joins.{AreClashingColumns}
use Rattle.ray_steps.specs.declared.rays.RayWithSupport.{RayWithSupport}
use Rattle.ray_steps.specs.Rays.{rays_of, AreOfWidth}
use Rattle.ray_steps.proofs.RayLemmas.{ray_width}

pub joined_width : (pairs : List Clash) (ray_list : List RayWithSupport) (i columns : ℕ) (joined : List Bool) → i < length ray_list → AreOfWidth columns ray_list →
    AreClashingColumns pairs (support_of (ray_at (rays_of ray_list) i)) joined → length joined ≡ columns
joined_width pairs ray_list i columns joined within widths joins =
    joins.count ∙ length-map (ray_at (rays_of ray_list) i) (λ entry. ltb 0 entry) ∙ ray_width ray_list i columns within widths
