-- Points, arcs and pieces are linear in the vector.
use Rattle.std.proofs.Common.{◌≡◌, ℕ, ◌+◌, ◌<◌, ◌/◌, ◌%◌, ◌*◌, ◌≤◌, pos, ◌<ℤ◌, ◌≤ℤ◌, List, length, filter, sum_by, sum, slice_index, refl, sym, ap, ◌∙◌, arith}
use Rattle.std.proofs.lemmas.Int.{ints}
use Rattle.cone_definitions.proofs.Linear.{IsLinear, entry_linear, sum_linear, plus_is_linear}
use Rattle.table_definitions.specs.Lists.{below}
use Rattle.table_definitions.specs.Permutation.{others}
use Rattle.table_definitions.specs.Places.{ends}
use Rattle.table_definitions.specs.Classes.{least}
use Rattle.table_definitions.specs.Table.{Face, glue, faces}
use Rattle.skeleton_definitions.specs.Links.{is_first_side, euler_of as euler}
use Rattle.skeleton_definitions.specs.Skeleton.{Skeleton}
use Rattle.surface_definitions.specs.Coordinates.{arc_columns}
use Rattle.surface_definitions.specs.declared.Coords.{Coords}
use Rattle.surface_definitions.specs.Pieces.{arcs_around}
use Rattle.surface_definitions.specs.Characteristic.{crossings, weight, points, arcs_in, arcs}
use Rattle.surface_laws.proofs.Counting.{over_places}
use Rattle.surface_efficiency_laws.specs.Laws.{IsPositive}
use Rattle.surface_vector_definitions.specs.Properties.{characteristic}

-- the sum over some columns
pub columns_linear : (cs : List ℕ) → IsLinear (λ xs. sum_by (slice_index xs) cs)
columns_linear cs = sum_linear (λ c xs. slice_index xs c) entry_linear cs

module _ (s : Skeleton) (coords : Coords) where
  points_linear : IsLinear (λ xs. points coords xs s.edges.classes s.edges.count)
  points_linear =
      sum_linear (λ c xs. weight coords xs (least s.edges.classes c))
      (λ c. columns_linear (crossings coords (least s.edges.classes c / 6) (slice_index (ends (least s.edges.classes c % 6)) 0) (slice_index (ends (least s.edges.classes c % 6)) 1))) (below s.edges.count)

  pub arcs_linear : IsLinear (λ xs. arcs s.rows coords xs)
  arcs_linear =
      sum_linear (λ (x : Face) xs. arcs_in coords xs x)
      (λ x. sum_linear (λ v xs. arcs_around coords xs x.tet x.face v) (λ v. columns_linear (arc_columns coords x.tet x.face v)) (others x.face))
      (filter (λ x. is_first_side x (glue s.rows x)) (faces (length s.rows)))

  -- points and pieces of a vector of n columns
  abbrev pub points_and_pieces : ℕ → List ℕ → ℕ
  points_and_pieces n xs = points coords xs s.edges.classes s.edges.count + sum_by (slice_index xs) (below n)

  pub points_and_pieces_linear : (n : ℕ) → IsLinear (points_and_pieces n)
  points_and_pieces_linear n = plus_is_linear (λ xs. points coords xs s.edges.classes s.edges.count) (λ xs. sum_by (slice_index xs) (below n)) points_linear (columns_linear (below n))

  module _ (n : ℕ) (xs : List ℕ) (width : length xs ≡ n) where
    pub pieces_are : sum_by (slice_index xs) (below n) ≡ sum xs
    pieces_are = ap (λ k. sum_by (slice_index xs) (below k)) (sym width) ∙ over_places (λ (k : ℕ). k) (slice_index xs) 0 xs (λ i l. refl)

    more_is : (p a r : ℕ) → pos 0 <ℤ euler p a r → a < p + r
    more_is p a r h = omega (arith, ints)

    is_more : (p a r : ℕ) → a < p + r → pos 0 <ℤ euler p a r
    is_more p a r h = omega (arith, ints)

    -- the Euler characteristic is positive if and only if there are more points and pieces than arcs
    pub positive_is : IsPositive s coords xs → arcs s.rows coords xs < points_and_pieces n xs
    positive_is h =
        let e : sum_by (slice_index xs) (below n) ≡ sum xs = pieces_are in
        let l : arcs s.rows coords xs < points coords xs s.edges.classes s.edges.count + sum xs = more_is (points coords xs s.edges.classes s.edges.count) (arcs s.rows coords xs) (sum xs) h in
        omega arith

    pub is_positive : arcs s.rows coords xs < points_and_pieces n xs → IsPositive s coords xs
    is_positive h =
        let e : sum_by (slice_index xs) (below n) ≡ sum xs = pieces_are in
        is_more (points coords xs s.edges.classes s.edges.count) (arcs s.rows coords xs) (sum xs) (omega arith)

    twice_is : (o p a r : ℕ) → pos (2 * o) ≤ℤ euler p a r → a + 2 * o ≤ p + r
    twice_is o p a r h = omega (arith, ints)

    is_twice : (o p a r : ℕ) → a + 2 * o ≤ p + r → pos (2 * o) ≤ℤ euler p a r
    is_twice o p a r h = omega (arith, ints)

    -- the Euler characteristic is at least 2 o if and only if there are at least 2 o more points and pieces than arcs
    pub at_least_twice : (o : ℕ) → pos (2 * o) ≤ℤ characteristic s coords xs → arcs s.rows coords xs + 2 * o ≤ points_and_pieces n xs
    at_least_twice o h =
        let e : sum_by (slice_index xs) (below n) ≡ sum xs = pieces_are in
        let l : arcs s.rows coords xs + 2 * o ≤ points coords xs s.edges.classes s.edges.count + sum xs = twice_is o (points coords xs s.edges.classes s.edges.count) (arcs s.rows coords xs) (sum xs) h in
        omega arith

    pub twice_at_least : (o : ℕ) → arcs s.rows coords xs + 2 * o ≤ points_and_pieces n xs → pos (2 * o) ≤ℤ characteristic s coords xs
    twice_at_least o h =
        let e : sum_by (slice_index xs) (below n) ≡ sum xs = pieces_are in
        is_twice o (points coords xs s.edges.classes s.edges.count) (arcs s.rows coords xs) (sum xs) (omega arith)
