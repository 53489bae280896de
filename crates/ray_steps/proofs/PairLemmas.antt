-- The pair of the current indices.
use Rattle.std.proofs.Common.{◌≡◌, ℕ, ◌<◌, List, length, slice_index_or, arith}
use Rattle.cone_definitions.specs.Surfaces.{Clash}
use Rattle.ray_steps.specs.declared.rays.RayWithSupport.{RayWithSupport}
use Rattle.ray_steps.specs.declared.signs.Sign.{Sign}
use Rattle.ray_steps.specs.declared.signs.Sign.TheVariants.{Zero, Positive, Negative}
use Rattle.ray_steps.specs.Rays.{rays_of}
use Rattle.ray_steps.specs.Signs.{IsAdjacentPair, IsSignedPair}
use Rattle.ray_steps.proofs.RayLemmas.{length-rays_of}

-- the pair of these indices
abbrev pub the_pair : (pairs : List Clash) (ray_list : List RayWithSupport) (signs : List Sign) (i j at_u at_w : ℕ) → length signs ≡ length ray_list → i < length ray_list → j < length signs →
    slice_index_or signs i Zero ≡ Positive at_u → slice_index_or signs j Zero ≡ Negative at_w → IsAdjacentPair pairs (rays_of ray_list) i j → IsSignedPair pairs (rays_of ray_list) signs i j
the_pair pairs ray_list signs i j at_u at_w count i_in j_in positive negative face =
    let n = length-rays_of ray_list in
    record { u_in_range = omega arith; w_in_range = omega arith; at_u = at_u; at_w = at_w; positive = positive; negative = negative; face = face }

-- rays that are not adjacent are no pair
pub no_pair : (pairs : List Clash) (rays : List (List ℕ)) (signs : List Sign) (i j : ℕ) → ¬ IsAdjacentPair pairs rays i j → ¬ IsSignedPair pairs rays signs i j
no_pair pairs rays signs i j none p = none p.face
