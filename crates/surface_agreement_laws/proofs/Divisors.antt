-- A divisor of the quads of a canonical solution divides its triangles: the remainders of the triangles are heights for
-- quads that are 0.
use Rattle.std.proofs.Common.{◌≡◌, ℕ, ◌+◌, ◌*◌, ◌/◌, ◌%◌, ◌-◌, ◌<◌, List, [], length, slice_index, refl, sym, ap, subst, ◌∙◌, arith}
use Rattle.std.specs.Int.{◌∣◌}
use Rattle.std.proofs.Math.Nat.{dvd-zero, mul-div_cancel', add-mul-mod_self_left, zero-mod}
use Rattle.std.proofs.lemmas.Nat.Gcd.{dvd_of_mod-eq-zero}
use Rattle.cone_definitions.specs.Vectors.{IsPrimitive}
use Rattle.cone_definitions.proofs.Entries.{entry_past, each_column}
use Rattle.table_definitions.specs.Permutation.{image}
use Rattle.skeleton_definitions.specs.Links.{vertex_number}
use Rattle.skeleton_definitions.specs.Skeleton.{Skeleton, IsSkeleton}
use Rattle.surface_definitions.specs.Coordinates.{quad_column, keeping}
use Rattle.surface_definitions.specs.declared.Coords.TheVariants.{Standard, Quad}
use Rattle.surface_definitions.specs.Lift.{projected}
use Rattle.surface_laws.specs.LiftLaws.{AreHeights, triangle_at}
use Rattle.surface_laws.proofs.Quads.{entry_quad}
use Rattle.surface_quad_laws.specs.SolutionLaws.{IsStandardSolution}
use Rattle.surface_quad_laws.proofs.Differences.{triangle_is, solution_heights, heights_differ}
use Rattle.surface_quad_laws.proofs.LinkSums.{by_column}
use Rattle.surface_quad_laws.specs.LinkLaws.{IsCanonical}

same_remainder : (d a b p q : ℕ) → d ∣ p → d ∣ q → a + p ≡ b + q → a % d ≡ b % d
same_remainder d a b p q hp hq e =
    sym (add-mul-mod_self_left a d (p / d)) ∙ ap (λ m. (a + m) % d) (mul-div_cancel' d hp) ∙ ap (λ m. m % d) e
    ∙ ap (λ m. (b + m) % d) (sym (mul-div_cancel' d hq)) ∙ add-mul-mod_self_left b d (q / d)

module _ (s : Skeleton) (k : IsSkeleton s) (ys : List ℕ) (solution : IsStandardSolution s ys) where
  abbrev n : ℕ
  n = length s.rows

  module _ (canonical : IsCanonical s Standard ys) (d : ℕ) (divides : (j : ℕ) → d ∣ slice_index (projected n ys) j) where
    remainders : (c : ℕ) → AreHeights s [] c (λ i. triangle_at ys i % d)
    remainders c x g v e lv off ch = ap (λ m. m + 0) (same_remainder d (triangle_at ys (vertex_number x.tet v)) (triangle_at ys (vertex_number g.tet (image g.perm v)))
        (slice_index (projected n ys) (quad_column Quad x.tet (keeping v x.face))) (slice_index (projected n ys) (quad_column Quad g.tet (keeping (image g.perm v) (image g.perm x.face))))
        (divides (quad_column Quad x.tet (keeping v x.face))) (divides (quad_column Quad g.tet (keeping (image g.perm v) (image g.perm x.face))))
        (solution_heights s k (projected n ys) ys c solution refl x g v e lv off ch))

    no_heights : (c : ℕ) → AreHeights s [] c (λ i. 0)
    no_heights c x g v e lv off ch = refl

    triangles : (i : ℕ) → i < 4 * n → d ∣ triangle_at ys i
    triangles i li =
        let c : ℕ = slice_index s.vertices.classes i in
        let m = canonical c ((k.vertices).in_range i li) in
        let e : triangle_at ys i % d + 0 ≡ 0 + triangle_at ys m.0 % d =
        heights_differ s k [] c (λ i. triangle_at ys i % d) (λ i. 0) (remainders c) (no_heights c) i m.0 li m.1 refl m.2 in
        let z : triangle_at ys m.0 % d ≡ 0 = ap (λ a. a % d) m.3 ∙ zero-mod d in
        dvd_of_mod-eq-zero d (omega arith)

    all_entries : (i : ℕ) → d ∣ slice_index ys i
    all_entries = each_column (7 * n) (λ i. d ∣ slice_index ys i)
        (by_column Standard tt n (λ i. d ∣ slice_index ys i)
        (λ t v lt lv. let li : vertex_number t v < 4 * n = omega arith in subst (λ m. d ∣ m) (triangle_is s k ys t v lv) (triangles (vertex_number t v) li))
        (λ i l high. subst (λ m. d ∣ m) (sym (entry_quad n ys i l high)) (divides (3 * (i / 7) + (i % 7 - 4)))))
        (λ i l. subst (λ m. d ∣ m) (sym (entry_past ys (7 * n) i solution.width l)) (dvd-zero d))

  pub quads_primitive : IsCanonical s Standard ys → IsPrimitive ys → IsPrimitive (projected n ys)
  quads_primitive canonical primitive d divides = primitive d (all_entries canonical d divides)
