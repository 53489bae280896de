-- The matching equations. A row is the list of the columns whose coefficient is not 0, ascending, each with its
-- coefficient.
use Rattle.std.specs.Prelude.{ℕ, ◌==◌, ℤ, pos, ◌-ℤ◌, List, length, map, Option, Some, None, if◌then◌else◌, ◌≡◌, sum_by, slice_index}
use Rattle.std.specs.List.{filter_map, flat_map}
use Rattle.table_definitions.specs.Lists.{below, times_in}
use Rattle.table_definitions.specs.Permutation.{image, others}
use Rattle.table_definitions.specs.Table.{Gluing, Row, Face, glue, other_side, faces, is_face_before}
use Rattle.surface_definitions.specs.Coordinates.{columns, arc_columns}
use Rattle.surface_definitions.specs.declared.Coords.{Coords}
use Rattle.cone_definitions.specs.Rows.{Row as EquationRow}

-- an equation: the entries in the columns of one list have the same sum as those of the other, each column counted as
-- often as it occurs
pub record Equation : Type 0 where
  pub left : List ℕ
  pub right : List ℕ

-- both sides of an equation add up to the same
abbrev pub Holds : Equation → List ℕ → Type 0
Holds e ys = sum_by (slice_index ys) e.left ≡ sum_by (slice_index ys) e.right

-- the coefficient of a column
abbrev pub coefficient : Equation → ℕ → ℤ
coefficient e c = pos (times_in e.left c) -ℤ pos (times_in e.right c)

abbrev pub term_of : Equation → ℕ → Option (ℕ × ℤ)
term_of e c = if times_in e.left c == times_in e.right c then None else Some (c, coefficient e c)

-- the row of an equation in n columns
abbrev pub row_of : ℕ → Equation → EquationRow
row_of n e = filter_map (term_of e) (below n)

abbrev pub smaller_side : Face → Option Gluing → Option (Face × Gluing)
smaller_side x None = None
smaller_side x (Some g) = if is_face_before x (other_side x g) then Some (x, g) else None

-- the glued pairs of faces, each by its first side, ascending
unfoldable pub glued_pairs : List Row → List (Face × Gluing)
glued_pairs rows = filter_map (λ x. smaller_side x (glue rows x)) (faces (length rows))

-- as many arcs around v on one side of a glued face as around its image on the other side
abbrev pub matching : Coords → Face → Gluing → ℕ → Equation
matching coords x g v = record {
  left = arc_columns coords x.tet x.face v;
  right = arc_columns coords g.tet (image g.perm x.face) (image g.perm v);
}

-- one equation for each glued pair and each vertex of its first face, ascending; in standard and octagon coordinates
unfoldable pub matching_equations : Coords → List Row → List Equation
matching_equations coords rows =
    flat_map (λ (y : Face × Gluing). map (matching coords y.0 y.1) (others (y.0).face)) (glued_pairs rows)

abbrev pub matching_rows : Coords → List Row → List EquationRow
matching_rows coords rows = map (row_of (columns coords (length rows))) (matching_equations coords rows)
