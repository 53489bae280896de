-- A component that has a triangle at each vertex of a class is the link of the class, so each component is a vertex
-- link or canonical.
use Rattle.std.proofs.Common.{◌≡◌, ◌≢◌, ℕ, zero, suc, ◌+◌, ◌*◌, ◌/◌, ◌%◌, ◌<◌, ◌≤◌, ◌⊎◌, inl, inr, cond, List, length, ap, ◌∙◌, arith}
use Rattle.std.specs.Prelude.{slice_index}
use Rattle.std.proofs.lemmas.Bool.{cases_lt, cases_eq, ne_eqb}
use Rattle.cone_definitions.proofs.Below.{all_or_one}
use Rattle.table_definitions.specs.Lists.{below}
use Rattle.table_definitions.proofs.Listed.{below-among}
use Rattle.skeleton_definitions.specs.Links.{vertex_number}
use Rattle.skeleton_definitions.specs.Skeleton.{Skeleton, IsSkeleton}
use Rattle.surface_definitions.specs.Coordinates.{tri_column}
use Rattle.surface_definitions.specs.declared.Coords.{Coords}
use Rattle.surface_definitions.specs.Pieces.{discs_of, disc_number, AreComponents, component_vector}
use Rattle.surface_laws.specs.PieceLaws.{IsSurface}
use Rattle.surface_laws.proofs.ComponentCounts.{belongs, component_count}
use Rattle.surface_laws.proofs.Counting.{sum_by-none}
use Rattle.surface_laws.proofs.PieceNumbers.{piece_at}
use Rattle.surface_laws.proofs.Vertices.{number-vertex}
use Rattle.surface_quad_laws.specs.LinkLaws.{link_of, IsCanonical, IsVertexLink}
use Rattle.surface_quad_laws.proofs.Canonical.{canonical_or_full}
use Rattle.surface_efficiency_laws.proofs.Levels.{IsOfClass, IsDeep}
use Rattle.surface_efficiency_laws.proofs.LevelComponents.{level_is_link}

-- ---- a piece of a component

module _ (xs components : List ℕ) (i : ℕ) where
  -- if a component is not 0 in a column, one of the column's pieces belongs to it
  pub piece_there : length components ≡ length (discs_of xs) → (col : ℕ) → slice_index (component_vector xs components i) col ≢ 0
      → (j : ℕ) × (j < slice_index xs col) × (slice_index components (disc_number xs (piece_at col j)) ≡ i)
  piece_there one_each col some = elim (all_or_one (λ j. slice_index components (disc_number xs (piece_at col j)) ≡ i → ⊥) (λ j. slice_index components (disc_number xs (piece_at col j)) ≡ i) decide (slice_index xs col)) [
    | inl none ↦ absurd (some (component_count xs components one_each i col ∙ sum_by-none (λ j. belongs xs components i (piece_at col j)) (below (slice_index xs col))
        (λ j a. ap (λ b. cond b 1 0) (ne_eqb (slice_index components (disc_number xs (piece_at col j))) i (none j (below-among j (slice_index xs col) a))))))
    | inr found ↦ found
  ]
    where
      decide : (j : ℕ) → (slice_index components (disc_number xs (piece_at col j)) ≡ i → ⊥) ⊎ (slice_index components (disc_number xs (piece_at col j)) ≡ i)
      decide j = elim (cases_eq (slice_index components (disc_number xs (piece_at col j))) i) [ inl e ↦ inr e | inr off ↦ inl off ]

module _ (s : Skeleton) (k : IsSkeleton s) (coords : Coords) (xs : List ℕ) (w : IsSurface s.rows coords xs) where
  abbrev n : ℕ
  n = length s.rows

  abbrev class_of : ℕ → ℕ
  class_of i = slice_index s.vertices.classes i

  abbrev triangles : List ℕ → ℕ → ℕ
  triangles ys i = slice_index ys (tri_column coords (i / 4) (i % 4))

  of_class : (c i : ℕ) → i < 4 * n → class_of i ≡ c → IsOfClass s c (i / 4) (i % 4)
  of_class c i l e = record { tet = omega arith; below_four = omega arith; chosen = ap (slice_index s.vertices.classes) (number-vertex i) ∙ e }

  triangles_at : (ys : List ℕ) (t v : ℕ) → v < 4 → triangles ys (vertex_number t v) ≡ slice_index ys (tri_column coords t v)
  triangles_at ys t v l =
      let d : vertex_number t v / 4 ≡ t = omega arith in
      let r : vertex_number t v % 4 ≡ v = omega arith in
      λ i. slice_index ys (tri_column coords (d i) (r i))

  module _ (components : List ℕ) (count i : ℕ) (numbered : AreComponents s.rows coords xs components count) where
    abbrev ys : List ℕ
    ys = component_vector xs components i

    -- the component has a triangle at each vertex of the class
    abbrev IsFull : ℕ → Type 0
    IsFull c = (m : ℕ) → m < 4 * n → class_of m ≡ c → triangles (component_vector xs components i) m ≢ 0

    -- the triangle of the component with index j around vertex m
    record HasTriangle (c j m : ℕ) : Type 0 where
      in_range : m < 4 * n
      chosen : class_of m ≡ c
      place : j < triangles xs m
      mine : slice_index components (disc_number xs (piece_at (tri_column coords (m / 4) (m % 4)) j)) ≡ i

    is_deep : (c j : ℕ) → ((m : ℕ) → m < 4 * n → class_of m ≡ c → j < triangles xs m) → IsDeep s coords xs c j
    is_deep c j all t v h =
        let l : vertex_number t v < 4 * n = let x = h.tet in let y = h.below_four in omega arith in
        let e : triangles xs (vertex_number t v) ≡ slice_index xs (tri_column coords t v) = triangles_at xs t v h.below_four in
        let d : j < triangles xs (vertex_number t v) = all (vertex_number t v) l h.chosen in
        omega arith

    -- from one index to a smaller one, until each vertex of the class has a triangle with this index
    link_by : (fuel c j m : ℕ) → j < fuel → IsFull c → HasTriangle c j m → component_vector xs components i ≡ link_of s coords c
    link_by zero c j m l full h = absurd (omega arith)
    link_by (suc fuel) c j m l full h =
        elim (all_or_one (λ u. class_of u ≡ c → j < triangles xs u) (λ u. (class_of u ≡ c) × (triangles xs u ≤ j)) decide (4 * n)) [
          | inl all ↦ level_is_link s k coords xs w c j (is_deep c j all) components count i numbered (m / 4) (m % 4) (of_class c m h.in_range h.chosen) h.mine
          | inr found ↦ (let p = piece_there xs components i numbered.one_each (tri_column coords (found.0 / 4) (found.0 % 4)) (full found.0 found.1 found.2.0) in
              let limited : triangles xs found.0 ≤ j = found.2.1 in
              let place : p.0 < triangles xs found.0 = p.1 in
              link_by fuel c p.0 found.0 (omega arith) full (record { in_range = found.1; chosen = found.2.0; place = p.1; mine = p.2 }))
        ]
      where
        decide : (u : ℕ) → (class_of u ≡ c → j < triangles xs u) ⊎ ((class_of u ≡ c) × (triangles xs u ≤ j))
        decide u = elim (cases_eq (class_of u) c) [
          | inr off ↦ inl (λ e. absurd (off e))
          | inl e ↦ elim (cases_lt j (triangles xs u)) [ inl less ↦ inl (λ x. less) | inr most ↦ inr (e, most) ]
        ]

    pub full_is_link : (c : ℕ) → c < s.vertices.count → IsFull c → component_vector xs components i ≡ link_of s coords c
    full_is_link c lc full =
        let m = (k.vertices).none_empty c lc in
        let p = piece_there xs components i numbered.one_each (tri_column coords (m.0 / 4) (m.0 % 4)) (full m.0 m.1 m.2) in
        link_by (p.0 + 1) c p.0 m.0 (omega arith) full (record { in_range = m.1; chosen = m.2; place = p.1; mine = p.2 })

    pub link_or_canonical : IsVertexLink s coords (component_vector xs components i) ⊎ IsCanonical s coords (component_vector xs components i)
    link_or_canonical = elim (canonical_or_full s coords (component_vector xs components i)) [
      | inl canonical ↦ inr canonical
      | inr full ↦ inl (full.0, full.1, full_is_link full.0 full.1 full.2)
    ]
