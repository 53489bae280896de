-- How often a vector meets an edge: the arcs of a face around one end of it, and those around the other.
use Rattle.std.proofs.Common.{◌≡◌, ℕ, zero, suc, ◌+◌, ◌<◌, List, [], ◌∷◌, arith}
use Rattle.std.specs.Prelude.{sum_by, slice_index}
use Rattle.std.proofs.lemmas.List.Sums.{sum_by-cons}
use Rattle.surface_definitions.specs.Coordinates.{tri_column, quad_column, oct_column}
use Rattle.surface_definitions.specs.Characteristic.{crossings}
use Rattle.surface_definitions.specs.declared.Coords.{Coords}
use Rattle.surface_definitions.specs.declared.Coords.TheVariants.{Standard, Quad, Octagon}
use Rattle.surface_definitions.specs.Pieces.{arcs_around}
use Rattle.surface_laws.specs.MatchingLaws.{HasTriangles}
use Rattle.skeleton_class_laws.proofs.Cases.{low, high}

module _ (g : ℕ → ℕ) where
  two_terms : (a c : ℕ) → sum_by g (a ∷ c ∷ []) ≡ g a + g c
  two_terms a c = omega (arith, sum_by-cons g a (c ∷ []), sum_by-cons g c [])

  four_terms : (a b c d : ℕ) → sum_by g (a ∷ b ∷ c ∷ d ∷ []) ≡ g a + g b + g c + g d
  four_terms a b c d = omega (arith, sum_by-cons g a (b ∷ c ∷ d ∷ []), sum_by-cons g b (c ∷ d ∷ []), two_terms c d)

  eight_terms : (a b c d p q r s : ℕ) → sum_by g (a ∷ b ∷ c ∷ d ∷ p ∷ q ∷ r ∷ s ∷ []) ≡ g a + g b + g c + g d + g p + g q + g r + g s
  eight_terms a b c d p q r s = omega (arith, sum_by-cons g a (b ∷ c ∷ d ∷ p ∷ q ∷ r ∷ s ∷ []), sum_by-cons g b (c ∷ d ∷ p ∷ q ∷ r ∷ s ∷ []), sum_by-cons g c (d ∷ p ∷ q ∷ r ∷ s ∷ []), sum_by-cons g d (p ∷ q ∷ r ∷ s ∷ []), four_terms p q r s)

  in_two : (a b c d : ℕ) → sum_by g (a ∷ b ∷ c ∷ d ∷ []) ≡ sum_by g (a ∷ c ∷ []) + sum_by g (b ∷ d ∷ [])
  in_two a b c d = omega (arith, four_terms a b c d, two_terms a c, two_terms b d)

  -- the octagons of the edge's type meet the edge twice, and the others once
  in_two_0 : (a b c d x y z : ℕ) → sum_by g (a ∷ b ∷ c ∷ d ∷ x ∷ x ∷ y ∷ z ∷ []) ≡ sum_by g (a ∷ c ∷ x ∷ z ∷ []) + sum_by g (b ∷ d ∷ x ∷ y ∷ [])
  in_two_0 a b c d x y z = omega (arith, eight_terms a b c d x x y z, four_terms a c x z, four_terms b d x y)

  in_two_1 : (a b c d x y z : ℕ) → sum_by g (a ∷ b ∷ c ∷ d ∷ y ∷ x ∷ y ∷ z ∷ []) ≡ sum_by g (a ∷ c ∷ y ∷ z ∷ []) + sum_by g (b ∷ d ∷ x ∷ y ∷ [])
  in_two_1 a b c d x y z = omega (arith, eight_terms a b c d y x y z, four_terms a c y z, four_terms b d x y)

  in_two_2 : (a b c d x y z : ℕ) → sum_by g (a ∷ b ∷ c ∷ d ∷ z ∷ x ∷ y ∷ z ∷ []) ≡ sum_by g (a ∷ c ∷ y ∷ z ∷ []) + sum_by g (b ∷ d ∷ x ∷ z ∷ [])
  in_two_2 a b c d x y z = omega (arith, eight_terms a b c d z x y z, four_terms a c y z, four_terms b d x z)

-- a face at each edge of a tetrahedron
abbrev pub face_by : ℕ → ℕ
face_by zero = 2
face_by (suc zero) = 1
face_by (suc (suc zero)) = 1
face_by (suc (suc (suc e))) = 0

module _ (xs : List ℕ) (t : ℕ) where
  abbrev pub AtEdge : Coords → ℕ → Type 0
  AtEdge coords e = sum_by (slice_index xs) (crossings coords t (low e) (high e)) ≡ arcs_around coords xs t (face_by e) (low e) + arcs_around coords xs t (face_by e) (high e)

  in_standard : (e : ℕ) → e < 6 → AtEdge Standard e
  in_standard zero l = in_two (slice_index xs) (tri_column Standard t 0) (tri_column Standard t 1) (quad_column Standard t 1) (quad_column Standard t 2)
  in_standard (suc zero) l = in_two (slice_index xs) (tri_column Standard t 0) (tri_column Standard t 2) (quad_column Standard t 0) (quad_column Standard t 2)
  in_standard (suc (suc zero)) l = in_two (slice_index xs) (tri_column Standard t 0) (tri_column Standard t 3) (quad_column Standard t 0) (quad_column Standard t 1)
  in_standard (suc (suc (suc zero))) l = in_two (slice_index xs) (tri_column Standard t 1) (tri_column Standard t 2) (quad_column Standard t 0) (quad_column Standard t 1)
  in_standard (suc (suc (suc (suc zero)))) l = in_two (slice_index xs) (tri_column Standard t 1) (tri_column Standard t 3) (quad_column Standard t 0) (quad_column Standard t 2)
  in_standard (suc (suc (suc (suc (suc zero))))) l = in_two (slice_index xs) (tri_column Standard t 2) (tri_column Standard t 3) (quad_column Standard t 1) (quad_column Standard t 2)
  in_standard (suc (suc (suc (suc (suc (suc e)))))) l = absurd (omega arith)

  abbrev o : ℕ → ℕ
  o i = oct_column Octagon t i

  in_octagon : (e : ℕ) → e < 6 → AtEdge Octagon e
  in_octagon zero l = in_two_0 (slice_index xs) (tri_column Octagon t 0) (tri_column Octagon t 1) (quad_column Octagon t 1) (quad_column Octagon t 2) (o 0) (o 1) (o 2)
  in_octagon (suc zero) l = in_two_1 (slice_index xs) (tri_column Octagon t 0) (tri_column Octagon t 2) (quad_column Octagon t 0) (quad_column Octagon t 2) (o 0) (o 1) (o 2)
  in_octagon (suc (suc zero)) l = in_two_2 (slice_index xs) (tri_column Octagon t 0) (tri_column Octagon t 3) (quad_column Octagon t 0) (quad_column Octagon t 1) (o 0) (o 1) (o 2)
  in_octagon (suc (suc (suc zero))) l = in_two_2 (slice_index xs) (tri_column Octagon t 1) (tri_column Octagon t 2) (quad_column Octagon t 0) (quad_column Octagon t 1) (o 0) (o 1) (o 2)
  in_octagon (suc (suc (suc (suc zero)))) l = in_two_1 (slice_index xs) (tri_column Octagon t 1) (tri_column Octagon t 3) (quad_column Octagon t 0) (quad_column Octagon t 2) (o 0) (o 1) (o 2)
  in_octagon (suc (suc (suc (suc (suc zero))))) l = in_two_0 (slice_index xs) (tri_column Octagon t 2) (tri_column Octagon t 3) (quad_column Octagon t 1) (quad_column Octagon t 2) (o 0) (o 1) (o 2)
  in_octagon (suc (suc (suc (suc (suc (suc e)))))) l = absurd (omega arith)

  pub at_edge : (coords : Coords) → HasTriangles coords → (e : ℕ) → e < 6 → AtEdge coords e
  at_edge Standard h e l = in_standard e l
  at_edge Quad h e l = absurd h
  at_edge Octagon h e l = in_octagon e l

-- the face has the edge
pub record IsFaceAt (e : ℕ) : Type 0 where
  pub face : face_by e < 4
  pub lower : low e < 4
  pub higher : high e < 4
  pub off_lower : low e ≡ face_by e → ⊥
  pub off_higher : high e ≡ face_by e → ⊥

pub face_at_edge : (e : ℕ) → e < 6 → IsFaceAt e
face_at_edge zero l = record { face = omega arith; lower = omega arith; higher = omega arith; off_lower = λ e. omega arith; off_higher = λ e. omega arith }
face_at_edge (suc zero) l = record { face = omega arith; lower = omega arith; higher = omega arith; off_lower = λ e. omega arith; off_higher = λ e. omega arith }
face_at_edge (suc (suc zero)) l = record { face = omega arith; lower = omega arith; higher = omega arith; off_lower = λ e. omega arith; off_higher = λ e. omega arith }
face_at_edge (suc (suc (suc zero))) l = record { face = omega arith; lower = omega arith; higher = omega arith; off_lower = λ e. omega arith; off_higher = λ e. omega arith }
face_at_edge (suc (suc (suc (suc zero)))) l = record { face = omega arith; lower = omega arith; higher = omega arith; off_lower = λ e. omega arith; off_higher = λ e. omega arith }
face_at_edge (suc (suc (suc (suc (suc zero))))) l = record { face = omega arith; lower = omega arith; higher = omega arith; off_lower = λ e. omega arith; off_higher = λ e. omega arith }
face_at_edge (suc (suc (suc (suc (suc (suc e)))))) l = absurd (omega arith)
