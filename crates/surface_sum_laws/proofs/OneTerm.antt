-- A sum of different listed surfaces has one term if and only if it is a positive multiple of a listed one.
use Rattle.std.proofs.Common.{◌≡◌, ℕ, ◌+◌, ◌*◌, ◌<◌, ◌≤◌, inl, inr, List, [], ◌∷◌, length, slice_index, slice_index_or, Contains, refl, sym, ap, ◌∙◌, arith, lit<}
use Rattle.std.specs.Prelude.{◌↔◌}
use Rattle.std.proofs.lemmas.Bool.{cases_eq}
use Rattle.cone_definitions.specs.Rows.{Row as EquationRow}
use Rattle.cone_definitions.specs.Surfaces.{Clash, IsVertexSurface, IsSurfaceList}
use Rattle.cone_definitions.specs.Vectors.{IsNonzero, IsInside}
use Rattle.cone_definitions.proofs.Combined.{factor_zero}
use Rattle.cone_definitions.proofs.Entries.{entry-multiple, inside_trans}
use Rattle.cone_definitions.proofs.OneRay.{IsTimes, OneRay, one_ray, times_one, IsTimes-multiple, same_ray}
use Rattle.sum_definitions.specs.Adding.{sum_at}
use Rattle.sum_definitions.specs.Sums.{Term}
use Rattle.sum_laws.specs.Laws.{IsMultipleOfRay}
use Rattle.surface_sum_laws.specs.Laws.{IsSumOfListed}
use Rattle.surface_sum_laws.proofs.Solutions.{first_is, listed_surface, supports_inside}

module _ (columns : ℕ) (rows : List EquationRow) (pairs : List Clash) (surfaces : List (List ℕ)) (h : IsSurfaceList columns rows pairs surfaces) (x : List ℕ) (width : length x ≡ columns) (times : ℕ) where
  abbrev surface_at : (v : List ℕ) → Contains surfaces v → IsVertexSurface columns rows pairs v
  surface_at v c = listed_surface columns rows pairs surfaces h v c

  -- ---- one term

  one_multiple : (term : Term) → IsSumOfListed surfaces x times (term ∷ []) → IsMultipleOfRay surfaces x
  one_multiple term sum = record { ray = term.vector; listed = listed; count = r.b; some = some_b; is_multiple = IsTimes-multiple columns r.b x term.vector width ((v.extreme).solution).width is_times }
    where
      listed : Contains surfaces term.vector
      listed = sum.listed 0 term (lit< tt)

      v : IsVertexSurface columns rows pairs term.vector
      v = surface_at term.vector listed

      same : (j : ℕ) → term.count * slice_index term.vector j ≡ times * slice_index x j
      same j = let a : times * slice_index x j ≡ sum_at (term ∷ []) j = sum.equal j in
          let b : sum_at (term ∷ []) j ≡ term.count * slice_index term.vector j + 0 = first_is term [] j in omega arith

      r : OneRay columns term.vector x
      r = one_ray columns term.vector x ((v.extreme).solution).width width (v.extreme).nonzero (record { m = term.count; c = times; some_m = sum.counted 0 term (lit< tt); some_c = sum.some; same = same })

      is_times : IsTimes x r.b term.vector
      is_times j = r.y_is j ∙ ap (λ n. r.b * n) (sym (times_one term.vector r.a r.s v.primitive r.x_is j))

      some_b : 1 ≤ r.b
      some_b = elim (cases_eq r.b 0) [
        | inr some ↦ omega arith
        | inl z ↦ (let at = (v.extreme).nonzero in let f : slice_index x at.0 ≡ 0 = is_times at.0 ∙ rw z (omega arith) in
            absurd (at.1 (factor_zero term.count (slice_index term.vector at.0) (sum.counted 0 term (lit< tt)) (same at.0 ∙ rw f (omega arith)))))
      ]

  multiple_of_one : (terms : List Term) → IsSumOfListed surfaces x times terms → length terms ≡ 1 → IsMultipleOfRay surfaces x
  multiple_of_one [] sum e = absurd (omega arith)
  multiple_of_one (a ∷ b ∷ terms) sum e = absurd (omega arith)
  multiple_of_one (term ∷ []) sum e = one_multiple term sum

  -- ---- a multiple

  module _ (m : IsMultipleOfRay surfaces x) where
    entry : (j : ℕ) → slice_index x j ≡ m.count * slice_index m.ray j
    entry j = ap (λ y. slice_index y j) m.is_multiple ∙ entry-multiple m.count m.ray j

    multiple_inside : IsInside x m.ray
    multiple_inside j z = entry j ∙ rw z (omega arith)

    multiple_nonzero : IsNonzero x
    multiple_nonzero = let at = ((surface_at m.ray m.listed).extreme).nonzero in
        (at.0, λ z. at.1 (factor_zero m.count (slice_index m.ray at.0) m.some (sym (entry at.0) ∙ z)))

    term_is : (terms : List Term) → IsSumOfListed surfaces x times terms → (i : ℕ) (d : Term) → i < length terms → m.ray ≡ (slice_index_or terms i d).vector
    term_is terms sum i d l =
        let ray = surface_at m.ray m.listed in
        let v = surface_at (slice_index_or terms i d).vector (sum.listed i d l) in
        same_ray columns rows m.ray (slice_index_or terms i d).vector ray.extreme ray.primitive (v.extreme).solution (v.extreme).nonzero v.primitive
        (inside_trans (slice_index_or terms i d).vector x m.ray (supports_inside surfaces x times terms sum i d l) multiple_inside)

    one_of_multiple : (terms : List Term) → IsSumOfListed surfaces x times terms → length terms ≡ 1
    one_of_multiple [] sum = absurd ((multiple_nonzero).1 (factor_zero times (slice_index x (multiple_nonzero).0) sum.some (sum.equal (multiple_nonzero).0)))
    one_of_multiple (term ∷ []) sum = refl
    one_of_multiple (one ∷ other ∷ terms) sum = absurd (sum.different 0 1 one (omega arith) (omega arith)
        (sym (term_is (one ∷ other ∷ terms) sum 0 one (omega arith)) ∙ term_is (one ∷ other ∷ terms) sum 1 one (omega arith)))

  pub one_term : (terms : List Term) → IsSumOfListed surfaces x times terms → (length terms ≡ 1) ↔ IsMultipleOfRay surfaces x
  one_term terms sum = (multiple_of_one terms sum, λ m. one_of_multiple m terms sum)

  -- a nonzero vector has a term
  pub two_terms : IsNonzero x → ¬ IsMultipleOfRay surfaces x → (terms : List Term) → IsSumOfListed surfaces x times terms → 2 ≤ length terms
  two_terms some alone [] sum = absurd (some.1 (factor_zero times (slice_index x some.0) sum.some (sum.equal some.0)))
  two_terms some alone (term ∷ []) sum = absurd (alone (one_multiple term sum))
  two_terms some alone (one ∷ other ∷ terms) sum = omega arith
