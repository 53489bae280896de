-- A vertex surface is connected: each of its components is a multiple of it.
use Rattle.std.proofs.Common.{◌≡◌, ◌≢◌, ℕ, ◌+◌, ◌-◌, ◌*◌, ◌<◌, ◌≤◌, inl, inr, List, [], ◌∷◌, length, refl, ap, ◌∙◌, subst, arith}
use Rattle.std.proofs.Math.Nat.{mul-le-mul_right}
use Rattle.std.specs.Prelude.{slice_index, sum_by}
use Rattle.std.specs.List.{slice_index_or}
use Rattle.std.proofs.lemmas.Bool.{cases_lt, eq-eqb}
use Rattle.std.proofs.lemmas.List.Sums.{sum_by-cons}
use Rattle.cone_definitions.specs.Vectors.{IsNonzero}
use Rattle.std.specs.Prelude.{cond}
use Rattle.cone_definitions.proofs.OneRay.{proportional, OneRay, one_ray, times_one}
use Rattle.cone_definitions.proofs.Entries.{nonzero_before}
use Rattle.cone_definitions.proofs.Rays.{times_some}
use Rattle.table_definitions.specs.Lists.{below}
use Rattle.table_definitions.specs.Table.{IsTable}
use Rattle.skeleton_definitions.specs.Skeleton.{Skeleton}
use Rattle.surface_definitions.specs.Coordinates.{columns}
use Rattle.surface_definitions.specs.declared.Coords.{Coords}
use Rattle.surface_definitions.specs.Equations.{matching_rows}
use Rattle.surface_definitions.specs.Pieces.{NormalDisc, discs_of, disc_number, AreComponents, component_vector}
use Rattle.surface_laws.specs.MatchingLaws.{HasTriangles}
use Rattle.surface_laws.specs.PieceLaws.{IsSurface, HasComponents, IsPieceOf}
use Rattle.surface_laws.proofs.PieceNumbers.{piece_at, no_piece, number-piece, IsFound, piece_found, listed_piece}
use Rattle.surface_laws.proofs.ComponentCounts.{belongs, in_column, component_count, component_inside, components_add_up}
use Rattle.surface_laws.proofs.ComponentSurfaces.{component_surface}
use Rattle.surface_laws.proofs.ComponentsFound.{components_found}
use Rattle.surface_laws.proofs.Counting.{below_sum, term_most}
use Rattle.surface_efficiency_laws.specs.Laws.{IsConnectedSurface}
use Rattle.surface_agreement_laws.specs.VertexSurfaces.{IsVertexSurfaceOf}

-- two terms of a sum over at least two numbers
two_terms : (f : ℕ → ℕ) (n : ℕ) → 1 < n → f 0 + f 1 ≤ sum_by f (below n)
two_terms f n l =
    let e : 2 + (n - 2) ≡ n = omega arith in
    let first : sum_by f (below 2) ≡ f 0 + (f 1 + 0) = sum_by-cons f 0 (1 ∷ []) ∙ ap (λ z. f 0 + z) (sum_by-cons f 1 []) in
    let whole : sum_by f (below (2 + (n - 2))) ≡ sum_by f (below 2) + sum_by (λ j. f (2 + j)) (below (n - 2)) = below_sum f 2 (n - 2) in
    let same : sum_by f (below (2 + (n - 2))) ≡ sum_by f (below n) = ap (λ m. sum_by f (below m)) e in
    omega arith

module _ (s : Skeleton) (coords : Coords) (xs components : List ℕ) (count : ℕ) (numbered : AreComponents s.rows coords xs components count) where
  -- each component is nonzero
  pub component_nonzero : (i : ℕ) → i < count → IsNonzero (component_vector xs components i)
  component_nonzero i l =
      let m = numbered.none_empty i l in
      let p : NormalDisc = slice_index_or (discs_of xs) m.0 no_piece in
      let h : IsPieceOf xs p = listed_piece xs m.0 no_piece m.1 in
      let at : slice_index components (disc_number xs p) ≡ i = ap (slice_index components) (number-piece xs m.0 no_piece m.1) ∙ m.2 in
      let one : belongs xs components i (piece_at p.column p.number) ≡ 1 = ap (λ b. cond b 1 0) (eq-eqb (slice_index components (disc_number xs p)) i at) in
      let most : belongs xs components i (piece_at p.column p.number) ≤ in_column xs components i p.column = term_most (λ j. belongs xs components i (piece_at p.column j)) (slice_index xs p.column) p.number h.number in
      let entry : slice_index (component_vector xs components i) p.column ≡ in_column xs components i p.column = component_count xs components numbered.one_each i p.column in
      (p.column, λ z. absurd (omega arith))

  module _ (w : IsSurface s.rows coords xs) (v : IsVertexSurfaceOf s coords xs) where
    -- each component is a multiple of the vertex surface, so no entry of the surface exceeds the component's
    whole_in_each : (i : ℕ) → i < count → (j : ℕ) → slice_index xs j ≤ slice_index (component_vector xs components i) j
    whole_in_each i l j =
        let n : ℕ = columns coords (length s.rows) in
        let ys : List ℕ = component_vector xs components i in
        let some : IsNonzero ys = component_nonzero i l in
        let y : IsSurface s.rows coords ys = component_surface s.rows coords xs w components count numbered i in
        let r : OneRay n xs ys = one_ray n xs ys w.solves.width y.solves.width v.extreme.nonzero
        (proportional n (matching_rows coords s.rows) xs ys v.extreme y.solves some (component_inside xs components numbered.one_each i)) in
        let e : slice_index xs j ≡ slice_index r.s j = times_one xs r.a r.s v.primitive r.x_is j in
        let f : slice_index ys j ≡ r.b * slice_index r.s j = r.y_is j in
        let m : 1 * slice_index r.s j ≤ r.b * slice_index r.s j = mul-le-mul_right (slice_index r.s j) (times_some ys r.s r.b r.y_is some) in
        omega arith

    -- so there is exactly one component
    pub one_component : count ≡ 1
    one_component =
        let c : ℕ = v.extreme.nonzero.0 in
        let some : slice_index xs c ≢ 0 = v.extreme.nonzero.1 in
        let f : IsFound xs (piece_at c 0) = piece_found xs (piece_at c 0) (record { column = nonzero_before xs (length xs) c refl some; number = omega arith }) in
        let low : slice_index components (disc_number xs (piece_at c 0)) < count = numbered.in_range (disc_number xs (piece_at c 0)) f.in_range in
        elim (cases_lt 1 count) [
          | inr most ↦ omega arith
          | inl more ↦ absurd (
              let a : slice_index xs c ≤ slice_index (component_vector xs components 0) c = whole_in_each 0 (omega arith) c in
              let b : slice_index xs c ≤ slice_index (component_vector xs components 1) c = whole_in_each 1 more c in
              let two : slice_index (component_vector xs components 0) c + slice_index (component_vector xs components 1) c ≤ sum_by (λ j. slice_index (component_vector xs components j) c) (below count) =
              two_terms (λ j. slice_index (component_vector xs components j) c) count more in
              let all : sum_by (λ j. slice_index (component_vector xs components j) c) (below count) ≡ slice_index xs c = components_add_up s.rows coords xs components count numbered c in
              omega arith)
        ]

pub vertex_surface_connected : (s : Skeleton) (coords : Coords) (xs : List ℕ) → IsTable s.rows → HasTriangles coords
    → IsVertexSurfaceOf s coords xs → IsConnectedSurface s coords xs
vertex_surface_connected s coords xs table h v =
    let w : IsSurface s.rows coords xs = record { table = table; triangles = h; solves = v.extreme.solution; admissible = v.admissible } in
    let c : HasComponents s.rows coords xs = components_found s.rows coords xs w in
    record {
      surface = w;
      components = c.components;
      one = subst (AreComponents s.rows coords xs c.components) (one_component s coords xs c.components c.count c.are w v) c.are;
    }
