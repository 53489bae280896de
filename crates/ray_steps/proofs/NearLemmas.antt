-- Lemmas on the negative rays that are ruled out for a positive one.
use Rattle.std.proofs.Common.{◌≡◌, ℕ, ◌<◌, ◌≤◌, ⊎_elim, List, Bool, length, get_or, [], subst, arith}
use Rattle.cone_definitions.specs.Surfaces.{Clash}
use Rattle.support_bits.specs.Columns.{support_of, Meets}
use Rattle.support_table.specs.Joins.{AreClashingColumns}
use Rattle.ray_steps.specs.declared.negatives.Negatives.{Negatives}
use Rattle.ray_steps.specs.declared.signs.Sign.{Sign}
use Rattle.cone_definitions.specs.Vectors.{ray_at}
use Rattle.ray_steps.specs.Signs.{IsAdjacentPair}
use Rattle.ray_steps.specs.declared.rays.RayWithSupport.{RayWithSupport}
use Rattle.ray_steps.specs.Rays.{rays_of, AreOfWidth}
use Rattle.ray_steps.specs.Unions.{HaveSmallUnions}
use Rattle.ray_steps.specs.Negatives.{AreNegatives, IsRuledOut, IsFirstNotRuledOut}
use Rattle.ray_steps.proofs.RayLemmas.{length-rays_of, ray_width}
use Rattle.ray_steps.proofs.RivalLemmas.{support_read, support_of_rival, count_of_rivals, not_face_clash}
use Rattle.ray_steps.proofs.PlaceLemmas.{HaveTaken, taken_to}
use Rattle.ray_steps.proofs.UnionLemmas.{not_face_large}

-- a ray that is ruled out is not adjacent
pub not_face_far : (pairs : List Clash) (rays : List (List ℕ)) (signs : List Sign) (i columns most k : ℕ) (joined : List Bool) (negatives : Negatives) (a : List Bool) →
    AreClashingColumns pairs (support_of (ray_at rays i)) joined → HaveSmallUnions columns most pairs rays → AreNegatives rays signs columns negatives → length signs ≡ length rays →
    i < length rays → length (ray_at rays i) ≡ columns → a ≡ support_of (ray_at rays i) → k < length negatives.places.items →
    IsRuledOut a joined most (get_or negatives.table.supports k []) → ¬ IsAdjacentPair pairs rays i (get_or negatives.places.items k 0)
not_face_far pairs rays signs i columns most k joined negatives a h small n count i_in wide a_is within far =
    let j = get_or negatives.places.items k 0 in
    let b_is = support_of_rival rays columns negatives.places.items negatives.table k n.table within in
    let j_in : j < length rays = let less = n.places.in_range k 0 within in omega (arith, count) in
    ⊎_elim
    (λ meets. not_face_clash pairs rays i j joined h (subst (λ s. Meets s joined) b_is meets))
    (λ large. not_face_large columns most pairs rays i j a (get_or negatives.table.supports k []) small i_in j_in a_is b_is wide large)
    far

-- the pairs up to the first ray that is not ruled out are done
pub near_taken : (limit : ℕ) (pairs : List Clash) (ray_list : List RayWithSupport) (signs : List Sign) (i columns most m n : ℕ) (joined : List Bool) (negatives : Negatives) (u : RayWithSupport) (made : List (List ℕ)) →
    AreClashingColumns pairs (support_of (ray_at (rays_of ray_list) i)) joined → HaveSmallUnions columns most pairs (rays_of ray_list) → AreNegatives (rays_of ray_list) signs columns negatives → length signs ≡ length ray_list →
    i < length ray_list → AreOfWidth columns ray_list → ray_at (rays_of ray_list) i ≡ u.ray → IsFirstNotRuledOut u.support joined most negatives.table.supports m n →
    HaveTaken limit pairs (rays_of ray_list) signs negatives.places.items i m made → (n ≤ length negatives.places.items) × HaveTaken limit pairs (rays_of ray_list) signs negatives.places.items i n made
near_taken limit pairs ray_list signs i columns most m n joined negatives u made h small neg count i_in widths read near taken =
    let rays = rays_of ray_list in
    let places = negatives.places.items in
    let all = length-rays_of ray_list in
    let same = count_of_rivals rays columns places negatives.table neg.table in
    let within : n ≤ length places = let w = near.within in omega (arith, same) in (
      within,
      taken_to limit pairs rays signs places i m n made neg.places near.least within
          (λ k low less p. not_face_far pairs rays signs i columns most k joined negatives u.support h small neg (omega (arith, count)) (omega arith)
          (ray_width ray_list i columns i_in widths) (support_read u (ray_at rays i) read) (omega arith) (near.earlier k low less) p.face)
          taken,
    )
