-- Sums over columns of vectors that add up.
use Rattle.std.proofs.Common.{◌≡◌, ℕ, ◌/◌, ◌%◌, List, length, filter, refl, sym, ap, ◌∙◌}
use Rattle.std.specs.Prelude.{sum_by, slice_index, sum}
use Rattle.table_definitions.specs.Lists.{below}
use Rattle.table_definitions.specs.Permutation.{others}
use Rattle.table_definitions.specs.Places.{ends}
use Rattle.table_definitions.specs.Classes.{least}
use Rattle.table_definitions.specs.Table.{Row, Face, glue, faces}
use Rattle.skeleton_definitions.specs.Links.{is_first_side}
use Rattle.skeleton_definitions.specs.Skeleton.{Skeleton}
use Rattle.surface_definitions.specs.Coordinates.{arc_columns}
use Rattle.surface_definitions.specs.declared.Coords.{Coords}
use Rattle.surface_definitions.specs.Pieces.{arcs_around, AreComponents, component_vector}
use Rattle.surface_definitions.specs.Characteristic.{crossings, weight, points, arcs_in, arcs}
use Rattle.surface_laws.specs.CharacteristicLaws.{ComponentSumsAre}
use Rattle.surface_laws.proofs.Counting.{sum_by_same, sum_swap, over_places}
use Rattle.surface_laws.proofs.ComponentCounts.{components_add_up, component_width}

module _ (part : ℕ → List ℕ) (count : ℕ) (xs : List ℕ) (adds : (c : ℕ) → sum_by (λ i. slice_index (part i) c) (below count) ≡ slice_index xs c) where
  -- a function of vectors whose values at the components add up
  abbrev AddsUp : (List ℕ → ℕ) → Type 0
  AddsUp f = sum_by (λ i. f (part i)) (below count) ≡ f xs

  over_columns : (cs : List ℕ) → AddsUp (λ ys. sum_by (slice_index ys) cs)
  over_columns cs =
      sum_swap (λ i c. slice_index (part i) c) (below count) cs ∙ sum_by_same (λ c. sum_by (λ i. slice_index (part i) c) (below count)) (slice_index xs) cs (λ c a. adds c)

  over_many : {A : Type 0} (f : A → List ℕ → ℕ) (us : List A) → ((a : A) → AddsUp (f a)) → AddsUp (λ ys. sum_by (λ a. f a ys) us)
  over_many f us each =
      sum_swap (λ i a. f a (part i)) (below count) us ∙ sum_by_same (λ a. sum_by (λ i. f a (part i)) (below count)) (λ a. f a xs) us (λ a m. each a)

  parts_points : (coords : Coords) (classes : List ℕ) (edges : ℕ) → AddsUp (λ ys. points coords ys classes edges)
  parts_points coords classes edges =
      over_many (λ c ys. weight coords ys (least classes c)) (below edges)
      (λ c. over_columns (crossings coords (least classes c / 6) (slice_index (ends (least classes c % 6)) 0) (slice_index (ends (least classes c % 6)) 1)))

  parts_arcs : (coords : Coords) (rows : List Row) → AddsUp (λ ys. arcs rows coords ys)
  parts_arcs coords rows =
      over_many (λ (z : Face) ys. arcs_in coords ys z) (filter (λ z. is_first_side z (glue rows z)) (faces (length rows)))
      (λ z. over_many (λ v ys. arcs_around coords ys z.tet z.face v) (others z.face) (λ v. over_columns (arc_columns coords z.tet z.face v)))

  sum_is : (ys : List ℕ) → length ys ≡ length xs → sum ys ≡ sum_by (slice_index ys) (below (length xs))
  sum_is ys w = sym (ap (λ n. sum_by (slice_index ys) (below n)) (sym w) ∙ over_places (λ (k : ℕ). k) (slice_index ys) 0 ys (λ i l. refl))

  parts_pieces : ((i : ℕ) → length (part i) ≡ length xs) → AddsUp (λ ys. sum ys)
  parts_pieces widths =
      sum_by_same (λ i. sum (part i)) (λ i. sum_by (slice_index (part i)) (below (length xs))) (below count) (λ i a. sum_is (part i) (widths i))
      ∙ over_columns (below (length xs)) ∙ sym (sum_is xs refl)

pub component_sums : (s : Skeleton) (coords : Coords) (xs components : List ℕ) (count : ℕ) → AreComponents s.rows coords xs components count → ComponentSumsAre s coords xs components count
component_sums s coords xs components count h = record {
  points = parts_points (component_vector xs components) count xs (components_add_up s.rows coords xs components count h) coords s.edges.classes s.edges.count;
  arcs = parts_arcs (component_vector xs components) count xs (components_add_up s.rows coords xs components count h) coords s.rows;
  pieces = parts_pieces (component_vector xs components) count xs (components_add_up s.rows coords xs components count h) (λ i. component_width xs components h.one_each i);
}
