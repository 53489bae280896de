-- A standard solution is the lift of its quads and, for each vertex class, as many links as the solution has triangles
-- where the lift has none.
use Rattle.std.proofs.Common.{◌≡◌, ℕ, ◌+◌, ◌*◌, ◌/◌, ◌%◌, ◌-◌, ◌<◌, ◌≤◌, List, length, ◌⊎◌, inl, inr, refl, sym, ap, ◌∙◌, subst, arith}
use Rattle.std.specs.Prelude.{slice_index}
use Rattle.std.proofs.lemmas.Bool.{cases_lt}
use Rattle.skeleton_definitions.specs.Links.{vertex_number}
use Rattle.skeleton_definitions.specs.Skeleton.{Skeleton, IsSkeleton}
use Rattle.surface_definitions.specs.Coordinates.{columns, tri_column, quad_column}
use Rattle.surface_definitions.specs.declared.Coords.TheVariants.{Standard}
use Rattle.surface_definitions.specs.Lift.{projected}
use Rattle.surface_laws.specs.LiftLaws.{IsLiftOf, triangle_at}
use Rattle.surface_laws.proofs.Heights.{heights_give, lifts_join}
use Rattle.surface_laws.proofs.LiftLemmas.{lift_solves, lift_projects}
use Rattle.surface_laws.proofs.Lifts.{one_lift}
use Rattle.surface_laws.proofs.Quads.{projected_at, length-projected}
use Rattle.surface_laws.proofs.Vertices.{number-vertex}
use Rattle.surface_quad_laws.specs.LinkLaws.{links_sum}
use Rattle.surface_quad_laws.specs.SolutionLaws.{IsStandardSolution, with_links, IsLiftWithLinks, HasOneLiftWithLinks}
use Rattle.surface_quad_laws.proofs.Differences.{triangle_is, solution_heights, triangles_differ}
use Rattle.surface_quad_laws.proofs.LinkSums.{triangles-sum, rest-sum, by_column}

module _ (s : Skeleton) (k : IsSkeleton s) where
  abbrev n : ℕ
  n = length s.rows

  abbrev class_of : ℕ → ℕ
  class_of i = slice_index s.vertices.classes i

  triangle_with : (times : ℕ → ℕ) (ys : List ℕ) (t v : ℕ) → t < n → v < 4 → with_links s times ys (tri_column Standard t v) ≡ slice_index ys (tri_column Standard t v) + times (class_of (vertex_number t v))
  triangle_with times ys t v lt lv = ap (λ z. slice_index ys (tri_column Standard t v) + z) (triangles-sum s k Standard tt times t v lt lv)

  quad_with : (times : ℕ → ℕ) (ys : List ℕ) (t j : ℕ) → t < n → j < 3 → with_links s times ys (quad_column Standard t j) ≡ slice_index ys (quad_column Standard t j)
  quad_with times ys t j lt lj = ap (λ z. slice_index ys (quad_column Standard t j) + z) (rest-sum s k Standard tt times (quad_column Standard t j) (omega arith) (omega arith)) ∙ omega arith

  -- each column is that of a triangle or of a quad
  by_columns : (P : ℕ → Type 0) → ((t v : ℕ) → t < n → v < 4 → P (tri_column Standard t v)) → ((t j : ℕ) → t < n → j < 3 → P (quad_column Standard t j)) → (i : ℕ) → i < 7 * n → P i
  by_columns P triangles quads = by_column Standard tt n P triangles
      (λ i l high. let at : quad_column Standard (i / 7) (i % 7 - 4) ≡ i = omega arith in subst P at (quads (i / 7) (i % 7 - 4) (omega arith) (omega arith)))

  module _ (ys : List ℕ) (solution : IsStandardSolution s ys) where
    abbrev xs : List ℕ
    xs = projected n ys

    lifted : (zs : List ℕ) × IsLiftOf s xs zs
    lifted = lifts_join s k xs (length-projected ys n) (λ c lc. heights_give s k xs (length-projected ys n) c lc (triangle_at ys) (solution_heights s k xs ys c solution refl))

    module _ (zs : List ℕ) (is_lift : IsLiftOf s xs zs) where
      lift_solution : IsStandardSolution s zs
      lift_solution = lift_solves s.rows k.table s.vertices.classes s.vertices.count k.vertices xs zs is_lift

      same_quads : projected n zs ≡ xs
      same_quads = lift_projects s.rows k.table s.vertices.classes s.vertices.count k.vertices xs zs (length-projected ys n) is_lift

      -- a member of class c at which the lift has no triangle
      abbrev low_of : (c : ℕ) → c < s.vertices.count → ℕ
      low_of c lc = ((is_lift.each c lc).least).0

      times_by : (c : ℕ) → (c < s.vertices.count) ⊎ (s.vertices.count ≤ c) → ℕ
      times_by c (inl lc) = triangle_at ys (low_of c lc)
      times_by c (inr exceeded) = 0

      times : ℕ → ℕ
      times c = times_by c (cases_lt c s.vertices.count)

      raised : (i : ℕ) → i < 4 * n → triangle_at ys i ≡ triangle_at zs i + times (class_of i)
      unfolding times times_by
      raised i li = go (cases_lt (class_of i) s.vertices.count)
        where
          go : (o : (class_of i < s.vertices.count) ⊎ (s.vertices.count ≤ class_of i)) → triangle_at ys i ≡ triangle_at zs i + times_by (class_of i) o
          go (inl lc) =
              let l = (is_lift.each (class_of i) lc).least in
              let d : triangle_at ys i + triangle_at zs l.0 ≡ triangle_at zs i + triangle_at ys l.0 =
              triangles_differ s k ys zs (class_of i) solution lift_solution (sym same_quads) i l.0 li (let m = l.1 in let e = (k.vertices).one_each in omega arith) refl l.2 in
              let z : triangle_at zs l.0 ≡ 0 = l.3 in omega arith
          go (inr exceeded) = absurd (let lc = (k.vertices).in_range i li in omega arith)

      adds : (column : ℕ) → column < 7 * n → slice_index ys column ≡ with_links s times zs column
      adds = by_columns (λ i. slice_index ys i ≡ with_links s times zs i)
          (λ t v lt lv.
          let li : vertex_number t v < 4 * n = omega arith in
          sym (triangle_is s k ys t v lv) ∙ raised (vertex_number t v) li ∙ ap (λ z. z + times (class_of (vertex_number t v))) (triangle_is s k zs t v lv) ∙ sym (triangle_with times zs t v lt lv))
          (λ t j lt lj. sym (projected_at ys n t j lt lj) ∙ ap (λ w. slice_index w (3 * t + j)) (sym same_quads) ∙ projected_at zs n t j lt lj ∙ sym (quad_with times zs t j lt lj))

      are_links : IsLiftWithLinks s ys zs times
      are_links = record { is_lift = is_lift; adds = adds }

    pub same_lift : (zs ws : List ℕ) → IsLiftOf s xs zs → IsLiftOf s xs ws → ws ≡ zs
    same_lift zs ws f g = one_lift s.rows k.table s.vertices.classes s.vertices.count k.vertices xs ws zs g f

    -- where the lift has no triangle, the triangles of the vector are those of the links
    number_told : (zs : List ℕ) (many : ℕ → ℕ) → (h : IsLiftWithLinks s ys zs many) → (c : ℕ) (lc : c < s.vertices.count) → (i : ℕ) → i < 4 * n → class_of i ≡ c → triangle_at zs i ≡ 0 → triangle_at ys i ≡ many c
    number_told zs many h c lc i li ci z =
        let lt : i / 4 < n = omega arith in
        let lv : i % 4 < 4 = omega arith in
        let lcol : tri_column Standard (i / 4) (i % 4) < columns Standard n = omega arith in
        h.adds (tri_column Standard (i / 4) (i % 4)) lcol ∙ triangle_with many zs (i / 4) (i % 4) lt lv
        ∙ ap (λ a. a + many (class_of (vertex_number (i / 4) (i % 4)))) z ∙ ap (λ d. 0 + many d) (ap class_of (number-vertex i) ∙ ci) ∙ omega arith

    same_number : (zs ws : List ℕ) (limited many : ℕ → ℕ) → IsLiftWithLinks s ys zs limited → IsLiftWithLinks s ys ws many → (c : ℕ) → c < s.vertices.count → many c ≡ limited c
    same_number zs ws limited many a b c lc =
        let l = (((a.is_lift).each c lc).least) in
        let li : l.0 < 4 * n = let m = l.1 in let e = (k.vertices).one_each in omega arith in
        sym (number_told ws many b c lc l.0 li l.2 (ap (λ us. triangle_at us l.0) (same_lift zs ws a.is_lift b.is_lift) ∙ l.3)) ∙ number_told zs limited a c lc l.0 li l.2 l.3

    pub one_lift_with_links : HasOneLiftWithLinks s ys
    one_lift_with_links = record {
      lift = lifted.0;
      times = times lifted.0 lifted.1;
      are = are_links lifted.0 lifted.1;
      one_lift = λ other many h. same_lift lifted.0 other lifted.1 h.is_lift;
      one_number = λ other many h c lc. same_number lifted.0 other (times lifted.0 lifted.1) many (are_links lifted.0 lifted.1) h c lc;
    }

  -- two solutions with the same quads have the same lift
  exchanged : (a b l m f : ℕ) → a ≡ l + f → b ≡ l + m → a + m ≡ b + f
  exchanged a b l m f ea eb = omega arith

  pub differ_by_links : (ys zs : List ℕ) → IsStandardSolution s ys → IsStandardSolution s zs → projected n ys ≡ projected n zs
      → (many limited : ℕ → ℕ) × ((column : ℕ) → column < columns Standard n → with_links s many ys column ≡ with_links s limited zs column)
  differ_by_links ys zs one other e =
      let a : HasOneLiftWithLinks s ys = one_lift_with_links ys one in
      let b : HasOneLiftWithLinks s zs = one_lift_with_links zs other in
      let moved : IsLiftOf s (projected n zs) a.lift = subst (λ ws. IsLiftOf s ws a.lift) e (a.are).is_lift in
      let same : b.lift ≡ a.lift = same_lift zs other a.lift b.lift moved (b.are).is_lift in (
        b.times,
        a.times,
        λ i l. exchanged (slice_index ys i) (slice_index zs i) (slice_index a.lift i) (links_sum s Standard b.times i)
            (links_sum s Standard a.times i) ((a.are).adds i l) ((b.are).adds i l ∙ ap (λ us. with_links s b.times us i) same),
      )
