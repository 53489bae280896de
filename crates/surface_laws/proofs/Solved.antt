-- The solutions of the matching rows are the vectors with equally many arcs on both sides of each gluing.
use Rattle.std.proofs.Common.{◌≡◌, ℕ, ◌<◌, true, not, List, length, map, filter, Some, Contains, arith}
use Rattle.std.specs.Prelude.{◌==◌, ⊤}
use Rattle.std.specs.List.{AllByRecursion}
use Rattle.std.proofs.lemmas.Bool.{eqb-false, not-true}
use Rattle.std.proofs.lemmas.List.Elements.{All-from_recursion, recursion_from_All}
use Rattle.cone_definitions.specs.Rows.{Row as EquationRow, IsZeroAt, IsSolution}
use Rattle.table_definitions.specs.Permutation.{four, others, image}
use Rattle.table_definitions.specs.Table.{Gluing, Row, Face, glue, IsTable}
use Rattle.table_definitions.proofs.TableLaws.{Among, Among-map, four-among}
use Rattle.table_definitions.proofs.PermutationLaws.{image_below, images_apart}
use Rattle.surface_definitions.specs.Coordinates.{columns, keeping, arc_columns}
use Rattle.surface_definitions.specs.declared.Coords.{Coords}
use Rattle.surface_definitions.specs.Equations.{Equation, Holds, glued_pairs, matching, matching_equations, matching_rows, row_of}
use Rattle.surface_definitions.proofs.EquationLaws.{row_is_zero, zero_row}
use Rattle.surface_laws.specs.MatchingLaws.{HasTriangles}
use Rattle.surface_laws.proofs.ColumnKinds.{column_below, quad_below, octagons_below}
use Rattle.surface_laws.proofs.Glued.{IsGlued, glued_is}
use Rattle.surface_laws.proofs.Turns.{keeping_below}
use Rattle.surface_laws.proofs.Matched.{pair_glued, matched}
use Rattle.table_definitions.proofs.Listed.{contains_among, among_contains, filter-among, all_mapped, all_flat, all_at, Among-flat_map}

pub other_is : (f v : ℕ) → Among v (others f) → (v < 4) × (v ≡ f → ⊥)
other_is f v h =
    let m : Among v four × (not (v == f) ≡ true) = filter-among (λ w. not (w == f)) v four h in
    (four-among v m.0, eqb-false v f (not-true (v == f) m.1))

-- the columns of arcs are columns of the table
pub arcs_in_range : (coords : Coords) (n t f v : ℕ) → HasTriangles coords → t < n → f < 4 → v < 4 → (v ≡ f → ⊥) → AllByRecursion (λ c. c < columns coords n) (arc_columns coords t f v)
arcs_in_range coords n t f v h lt lf lv off =
    (column_below coords h n t v lt lv, (quad_below coords n t (keeping v f) lt (keeping_below v f lv lf off), octagons_below coords n t f v lt))

module _ (rows : List Row) (coords : Coords) (ys : List ℕ) (table : IsTable rows) (triangles : HasTriangles coords) where
  -- both sides of an equation consist of columns of the table
  record IsInRange (y : Face × Gluing) (v : ℕ) : Type 0 where
    left : AllByRecursion (λ c. c < columns coords (length rows)) (matching coords y.0 y.1 v).left
    right : AllByRecursion (λ c. c < columns coords (length rows)) (matching coords y.0 y.1 v).right

  in_range : (y : Face × Gluing) (v : ℕ) → Among y (glued_pairs rows) → Among v (others (y.0).face) → IsInRange y v
  in_range y v cy cv =
      let a : IsGlued rows y.0 y.1 = glued_is rows y.0 y.1 table (pair_glued rows y cy) in
      let o : (v < 4) × (v ≡ (y.0).face → ⊥) = other_is (y.0).face v cv in
      record {
        left = arcs_in_range coords (length rows) (y.0).tet (y.0).face v triangles a.tet a.face o.0 o.1;
        right = arcs_in_range coords (length rows) (y.1).tet (image (y.1).perm (y.0).face) (image (y.1).perm v) triangles a.other_tet a.other_face (image_below (y.1).perm v a.permutes o.0) (images_apart (y.1).perm v (y.0).face a.permutes o.0 a.face o.1);
      }

  -- if all equations hold, the rows are 0
  pub rows_zero : ((y : Face × Gluing) (v : ℕ) → Contains (glued_pairs rows) y → Contains (others (y.0).face) v → Holds (matching coords y.0 y.1 v) ys)
      → length ys ≡ columns coords (length rows) → IsSolution (columns coords (length rows)) (matching_rows coords rows) ys
  unfolding matching_equations
  rows_zero h w = record {
    width = w;
    zero = All-from_recursion (λ (row : EquationRow). IsZeroAt row ys) (matching_rows coords rows)
        (all_mapped (λ (row : EquationRow). IsZeroAt row ys) (row_of (columns coords (length rows))) (matching_equations coords rows)
        (λ e m. all_at (λ (e : Equation). IsZeroAt (row_of (columns coords (length rows)) e) ys) (matching_equations coords rows) e each m));
  }
    where
      each : AllByRecursion (λ (e : Equation). IsZeroAt (row_of (columns coords (length rows)) e) ys) (matching_equations coords rows)
      each = all_flat (λ (e : Equation). IsZeroAt (row_of (columns coords (length rows)) e) ys) (λ (y : Face × Gluing). map (matching coords y.0 y.1) (others (y.0).face)) (glued_pairs rows)
          (λ y cy. all_mapped (λ (e : Equation). IsZeroAt (row_of (columns coords (length rows)) e) ys) (matching coords y.0 y.1) (others (y.0).face)
          (λ v cv. let r : IsInRange y v = in_range y v cy cv in
          zero_row (matching coords y.0 y.1 v) ys (columns coords (length rows)) r.left r.right (h y v (contains_among y (glued_pairs rows) cy) (contains_among v (others (y.0).face) cv))))

  -- at a solution each equation holds, read from either side
  pub solved : IsSolution (columns coords (length rows)) (matching_rows coords rows) ys → (x : Face) (g : Gluing) (v : ℕ) → glue rows x ≡ Some g → v < 4 → (v ≡ x.face → ⊥) → Holds (matching coords x g v) ys
  unfolding matching_equations
  solved s x g v e lv off = matched rows coords ys table (λ t w. ⊤) (λ x g v e lv off c. tt) at_pairs x g v e lv off tt
    where
      zero_each : AllByRecursion (λ (row : EquationRow). IsZeroAt row ys) (matching_rows coords rows)
      zero_each = recursion_from_All (λ (row : EquationRow). IsZeroAt row ys) (matching_rows coords rows) s.zero

      at_pairs : (y : Face × Gluing) (v : ℕ) → Contains (glued_pairs rows) y → Contains (others (y.0).face) v → ⊤ → Holds (matching coords y.0 y.1 v) ys
      at_pairs y v cy cv c =
          let ay : Among y (glued_pairs rows) = among_contains y (glued_pairs rows) cy in
          let av : Among v (others (y.0).face) = among_contains v (others (y.0).face) cv in
          let r : IsInRange y v = in_range y v ay av in
          let there : Among (matching coords y.0 y.1 v) (matching_equations coords rows) =
          Among-flat_map (λ (y : Face × Gluing). map (matching coords y.0 y.1) (others (y.0).face)) y (matching coords y.0 y.1 v) (glued_pairs rows) ay (Among-map (matching coords y.0 y.1) v (others (y.0).face) av) in
          row_is_zero (matching coords y.0 y.1 v) ys (columns coords (length rows)) r.left r.right
          (all_at (λ (row : EquationRow). IsZeroAt row ys) (matching_rows coords rows) (row_of (columns coords (length rows)) (matching coords y.0 y.1 v)) zero_each
          (Among-map (row_of (columns coords (length rows))) (matching coords y.0 y.1 v) (matching_equations coords rows) there))
