-- Lemmas on the rays of a list.
use Rattle.std.proofs.Common.{◌≡◌, ℕ, ◌+◌, ◌<◌, List, [], ◌∷◌, ◌++◌, length, get_or, ap, subst₂, sym, ◌∙◌, ◌≤◌, is_lt, false, nat_cmp, IsSorted, arith}
use Rattle.std.specs.Cmp.Lexicographic.{slice_cmp}
use Rattle.std.proofs.lemmas.List.{length-map, get_or-map, map-append}
use Rattle.cone_definitions.specs.Vectors.{ray_at}
use Rattle.ray_steps.specs.declared.rays.RayWithSupport.{RayWithSupport}
use Rattle.ray_steps.specs.Rays.{rays_of, AreOfWidth}

pub length-rays_of : (ray_list : List RayWithSupport) → length (rays_of ray_list) ≡ length ray_list
length-rays_of ray_list = length-map ray_list (λ kept. kept.ray)

pub ray_at-rays_of : (ray_list : List RayWithSupport) (k : ℕ) (d : RayWithSupport) → k < length ray_list → ray_at (rays_of ray_list) k ≡ (get_or ray_list k d).ray
ray_at-rays_of ray_list k d h = get_or-map (λ kept. kept.ray) ray_list k d [] h

-- the ray of an element that was read
pub ray_read : (ray_list : List RayWithSupport) (k : ℕ) (kept : RayWithSupport) → k < length ray_list → kept ≡ get_or ray_list k kept → ray_at (rays_of ray_list) k ≡ kept.ray
ray_read ray_list k kept h is = ray_at-rays_of ray_list k kept h ∙ sym (ap (λ x. x.ray) is)

pub rays_of-push : (ray_list : List RayWithSupport) (kept : RayWithSupport) → rays_of (ray_list ++ kept ∷ []) ≡ rays_of ray_list ++ kept.ray ∷ []
rays_of-push ray_list kept = map-append (λ x. x.ray) ray_list (kept ∷ [])

-- the width of a ray
pub ray_width : (ray_list : List RayWithSupport) (k columns : ℕ) → k < length ray_list → AreOfWidth columns ray_list → length (ray_at (rays_of ray_list) k) ≡ columns
ray_width [] k columns h widths = absurd (omega arith)
ray_width (kept ∷ ray_list) k columns h widths = ap length (ray_at-rays_of (kept ∷ ray_list) k kept h) ∙ widths k kept h

-- rays are sorted if their list is
pub sorted_rays : (ray_list : List RayWithSupport) → ((k : ℕ) (d : RayWithSupport) → 0 ≤ k → k + 1 < length ray_list → is_lt (slice_cmp nat_cmp (get_or ray_list (k + 1) d).ray (get_or ray_list k d).ray) ≡ false) →
    IsSorted (slice_cmp nat_cmp) (rays_of ray_list)
sorted_rays [] sorted k d low h = absurd (omega arith)
sorted_rays (kept ∷ ray_list) sorted k d low h =
    let n = length-rays_of (kept ∷ ray_list) in
    subst₂ (λ x y. is_lt (slice_cmp nat_cmp x y) ≡ false)
    (sym (get_or-map (λ k. k.ray) (kept ∷ ray_list) (k + 1) kept d (omega arith))) (sym (get_or-map (λ k. k.ray) (kept ∷ ray_list) k kept d (omega arith)))
    (sorted k kept low (omega arith))
