-- The lift of a quad vertex surface is a standard one: a solution inside it has a multiple that is a multiple of it.
use Rattle.std.proofs.Common.{◌≡◌, ℕ, ◌+◌, ◌-◌, ◌*◌, ◌/◌, ◌%◌, ◌<◌, inl, inr, List, length, slice_index, refl, sym, ap, subst, ◌∙◌, arith, ext_get_or}
use Rattle.std.specs.Int.{◌∣◌}
use Rattle.std.proofs.Math.Nat.{dvd-zero}
use Rattle.cone_definitions.specs.Vectors.{IsNonzero, IsInside, IsPrimitive, multiple}
use Rattle.cone_definitions.specs.Rows.{Row as EquationRow, IsSolution}
use Rattle.cone_definitions.proofs.Combined.{factor_zero}
use Rattle.cone_definitions.proofs.Entries.{entry-multiple, entry_past, zero_or_nonzero, nonzero_before, each_column}
use Rattle.cone_definitions.proofs.OneRay.{proportional}
use Rattle.cone_definitions.proofs.Solutions.{multiple_solution}
use Rattle.skeleton_definitions.specs.Links.{vertex_number}
use Rattle.skeleton_definitions.specs.Skeleton.{Skeleton, IsSkeleton}
use Rattle.surface_definitions.specs.Coordinates.{columns, tri_column, quad_column}
use Rattle.surface_definitions.specs.declared.Coords.TheVariants.{Standard, Quad}
use Rattle.surface_definitions.specs.Lift.{projected}
use Rattle.surface_definitions.specs.QuadEquations.{AreEquations}
use Rattle.surface_laws.specs.LiftLaws.{IsLiftOf, triangle_at}
use Rattle.surface_laws.proofs.LiftLemmas.{lift_solves, lift_projects, quads_admissible}
use Rattle.surface_laws.proofs.Quads.{length-projected, quad_entry, entry_quad}
use Rattle.surface_quad_laws.specs.SolutionLaws.{IsStandardSolution}
use Rattle.surface_quad_laws.proofs.Differences.{triangle_is, triangles_differ}
use Rattle.surface_quad_laws.proofs.LinkSums.{by_column}
use Rattle.surface_quad_laws.proofs.QuadRows.{quads_solve}
use Rattle.surface_quad_laws.specs.LinkLaws.{IsCanonical}
use Rattle.surface_quad_laws.proofs.Canonical.{lift_canonical}
use Rattle.surface_agreement_laws.specs.VertexSurfaces.{IsVertexSurfaceBy, IsVertexSurfaceOf}

-- the case that both heights at the vertex without triangles are 0
no_difference : (a b y z y' z' : ℕ) → y' ≡ 0 → z' ≡ 0 → a * z + b * y' ≡ b * y + a * z' → a * z ≡ b * y
no_difference a b y z y' z' ey ez e = omega (arith, ap (λ m. b * m) ey, ap (λ m. a * m) ez)

pub quads_inside : (n : ℕ) (ys zs : List ℕ) → IsInside zs ys → IsInside (projected n zs) (projected n ys)
quads_inside n ys zs inside = each_column (3 * n) (λ j. slice_index (projected n ys) j ≡ 0 → slice_index (projected n zs) j ≡ 0)
    (λ j l z. quad_entry n zs j l ∙ inside (quad_column Standard (j / 3) (j % 3)) (sym (quad_entry n ys j l) ∙ z))
    (λ j l z. entry_past (projected n zs) (3 * n) j (length-projected zs n) l)

module _ (s : Skeleton) (k : IsSkeleton s) where
  abbrev n : ℕ
  n = length s.rows

  -- z is inside y, which has no triangle at some vertex of each class: if a times the quads of z are b times those of
  -- y, a times z is b times y
  module _ (ys zs : List ℕ) (sy : IsStandardSolution s ys) (sz : IsStandardSolution s zs) (canonical : IsCanonical s Standard ys) (inside : IsInside zs ys)
      (a b : ℕ) (quads : (j : ℕ) → a * slice_index (projected n zs) j ≡ b * slice_index (projected n ys) j) where
    same_quads : projected n (multiple a zs) ≡ projected n (multiple b ys)
    same_quads = ext_get_or 0 (projected n (multiple a zs)) (projected n (multiple b ys)) (length-projected (multiple a zs) n ∙ sym (length-projected (multiple b ys) n))
        (λ j l. let low : j < 3 * n = omega (arith, length-projected (multiple a zs) n) in
        quad_entry n (multiple a zs) j low ∙ entry-multiple a zs (quad_column Standard (j / 3) (j % 3)) ∙ ap (λ m. a * m) (sym (quad_entry n zs j low)) ∙ quads j
        ∙ ap (λ m. b * m) (quad_entry n ys j low) ∙ sym (entry-multiple b ys (quad_column Standard (j / 3) (j % 3))) ∙ sym (quad_entry n (multiple b ys) j low))

    triangles : (i : ℕ) → i < 4 * n → a * triangle_at zs i ≡ b * triangle_at ys i
    triangles i li =
        let c : ℕ = slice_index s.vertices.classes i in
        let m = canonical c ((k.vertices).in_range i li) in
        let e : triangle_at (multiple a zs) i + triangle_at (multiple b ys) m.0 ≡ triangle_at (multiple b ys) i + triangle_at (multiple a zs) m.0 =
        triangles_differ s k (multiple a zs) (multiple b ys) c (multiple_solution _ _ a zs sz) (multiple_solution _ _ b ys sy) same_quads i m.0 li m.1 refl m.2 in
        let e1 : triangle_at (multiple a zs) i ≡ a * triangle_at zs i = entry-multiple a zs (tri_column Standard (i / 4) (i % 4)) in
        let e2 : triangle_at (multiple b ys) i ≡ b * triangle_at ys i = entry-multiple b ys (tri_column Standard (i / 4) (i % 4)) in
        let e3 : triangle_at (multiple a zs) m.0 ≡ a * triangle_at zs m.0 = entry-multiple a zs (tri_column Standard (m.0 / 4) (m.0 % 4)) in
        let e4 : triangle_at (multiple b ys) m.0 ≡ b * triangle_at ys m.0 = entry-multiple b ys (tri_column Standard (m.0 / 4) (m.0 % 4)) in
        no_difference a b (triangle_at ys i) (triangle_at zs i) (triangle_at ys m.0) (triangle_at zs m.0) m.3 (inside (tri_column Standard (m.0 / 4) (m.0 % 4)) m.3) (omega arith)

    pub whole_times : (i : ℕ) → a * slice_index zs i ≡ b * slice_index ys i
    whole_times = each_column (7 * n) (λ i. a * slice_index zs i ≡ b * slice_index ys i)
        (by_column Standard tt n (λ i. a * slice_index zs i ≡ b * slice_index ys i)
        (λ t v lt lv. let li : vertex_number t v < 4 * n = omega arith in
        ap (λ m. a * m) (sym (triangle_is s k zs t v lv)) ∙ triangles (vertex_number t v) li ∙ ap (λ m. b * m) (triangle_is s k ys t v lv))
        (λ i l high. ap (λ m. a * m) (entry_quad n zs i l high) ∙ quads (3 * (i / 7) + (i % 7 - 4)) ∙ ap (λ m. b * m) (sym (entry_quad n ys i l high))))
        (λ i l. ap (λ m. a * m) (entry_past zs (7 * n) i sz.width l) ∙ nothing a b ∙ ap (λ m. b * m) (sym (entry_past ys (7 * n) i sy.width l)))
      where
        nothing : (p q : ℕ) → p * 0 ≡ q * 0
        nothing p q = omega arith

  module _ (quad_rows : List EquationRow) (equations : AreEquations Quad s.rows quad_rows) (xs ys : List ℕ) (vertex : IsVertexSurfaceBy s Quad quad_rows xs) (lift : IsLiftOf s xs ys) where
    solution : IsStandardSolution s ys
    solution = lift_solves s.rows k.table s.vertices.classes s.vertices.count k.vertices xs ys lift

    over : projected n ys ≡ xs
    over = lift_projects s.rows k.table s.vertices.classes s.vertices.count k.vertices xs ys ((vertex.extreme).solution).width lift

    at_quad : (j : ℕ) → j < 3 * n → slice_index xs j ≡ slice_index ys (quad_column Standard (j / 3) (j % 3))
    at_quad j l = ap (λ ws. slice_index ws j) (sym over) ∙ quad_entry n ys j l

    nonzero : IsNonzero ys
    nonzero =
        let m = (vertex.extreme).nonzero in
        (quad_column Standard (m.0 / 3) (m.0 % 3), λ z. m.1 (at_quad m.0 (nonzero_before xs (3 * n) m.0 ((vertex.extreme).solution).width m.1) ∙ z))

    primitive : IsPrimitive ys
    primitive d divides = vertex.primitive d (each_column (3 * n) (λ j. d ∣ slice_index xs j)
        (λ j l. subst (λ m. d ∣ m) (sym (at_quad j l)) (divides (quad_column Standard (j / 3) (j % 3))))
        (λ j l. subst (λ m. d ∣ m) (sym (entry_past xs (3 * n) j ((vertex.extreme).solution).width l)) (dvd-zero d)))

    module _ (zs : List ℕ) (sz : IsStandardSolution s zs) (some : IsNonzero zs) (inside : IsInside zs ys) where
      quads_in : IsInside (projected n zs) xs
      quads_in = subst (IsInside (projected n zs)) over (quads_inside n ys zs inside)

      quads_solution : IsSolution (columns Quad n) quad_rows (projected n zs)
      quads_solution = quads_solve s.rows zs k.table sz quad_rows equations

      quads_times : (a b : ℕ) → ((j : ℕ) → a * slice_index (projected n zs) j ≡ b * slice_index xs j) → (i : ℕ) → a * slice_index zs i ≡ b * slice_index ys i
      quads_times a b e = whole_times ys zs solution sz (lift_canonical s k xs ys lift) inside a b (λ j. e j ∙ ap (λ ws. b * slice_index ws j) (sym over))

      -- with no quads it would be 0
      some_quads : ((j : ℕ) → slice_index (projected n zs) j ≡ 0) → ⊥
      some_quads none = some.1 (let e : 1 * slice_index zs some.0 ≡ 0 * slice_index ys some.0 = quads_times 1 0 (λ j. let z : slice_index (projected n zs) j ≡ 0 = none j in omega arith) some.0 in omega arith)

      around : IsInside ys zs
      around i z = elim (zero_or_nonzero (projected n zs)) [
        | inl none ↦ absurd (some_quads none)
        | inr quads ↦ let p = proportional (columns Quad n) quad_rows xs (projected n zs) vertex.extreme quads_solution quads quads_in in
            let e : p.c * slice_index zs i ≡ p.m * slice_index ys i = quads_times p.c p.m (λ j. sym (p.same j)) i in
            factor_zero p.m (slice_index ys i) p.some_m (sym e ∙ rw z (omega arith))
      ]

    pub lift_vertex : IsVertexSurfaceOf s Standard ys
    lift_vertex = record {
      extreme = record { solution = solution; nonzero = nonzero; least = λ zs sz some inside. around zs sz some inside };
      admissible = quads_admissible n xs ys over vertex.admissible;
      primitive = primitive;
    }
