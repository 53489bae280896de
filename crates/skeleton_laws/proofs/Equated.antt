-- Each table has equations in any coordinates: in quad coordinates the tour around each internal edge gives a row.
use Rattle.std.proofs.Common.{◌≡◌, ℕ, ◌<◌, Bool, true, false, not, List, length, slice_index, refl, subst}
use Rattle.std.specs.Prelude.{MatchBool}
use Rattle.std.proofs.lemmas.Bool.{not-true}
use Rattle.std.proofs.lemmas.List.Elements.{Contains-get_or}
use Rattle.cone_definitions.specs.Rows.{Row as EquationRow}
use Rattle.table_definitions.specs.Lists.{below}
use Rattle.table_definitions.specs.Table.{Row, IsTable}
use Rattle.table_definitions.specs.Places.{is_boundary_edge}
use Rattle.table_definitions.proofs.TableLaws.{Among}
use Rattle.skeleton_definitions.specs.Corners.{internal_edges}
use Rattle.skeleton_definitions.specs.Skeleton.{Skeleton, IsSkeleton}
use Rattle.surface_definitions.specs.Coordinates.{has_triangles, columns}
use Rattle.surface_definitions.specs.declared.Coords.{Coords}
use Rattle.surface_definitions.specs.declared.Coords.TheVariants.{Quad}
use Rattle.surface_definitions.specs.Equations.{row_of, matching_rows}
use Rattle.surface_definitions.specs.QuadEquations.{quad_equation, IsQuadRow, AreQuadEquations, AreEquations}
use Rattle.skeleton_class_laws.proofs.EdgeCorners.{IsRound, round_of}
use Rattle.table_definitions.proofs.Listed.{among_contains, filter-among, below-among}
use Rattle.skeleton_class_laws.proofs.Around.{zip_exists, some_around}
use Rattle.skeleton_laws.proofs.Skeletons.{some_skeleton}

module _ (s : Skeleton) (k : IsSkeleton s) where
  abbrev inner : List ℕ
  inner = internal_edges s.rows s.edges.classes s.edges.count

  inner_at : (i : ℕ) → i < length inner → (slice_index inner i < s.edges.count) × (is_boundary_edge s.rows s.edges.classes (slice_index inner i) ≡ false)
  inner_at i l =
      let h : Among (slice_index inner i) (below s.edges.count) × (not (is_boundary_edge s.rows s.edges.classes (slice_index inner i)) ≡ true) =
      filter-among (λ c. not (is_boundary_edge s.rows s.edges.classes c)) (slice_index inner i) (below s.edges.count)
      (among_contains (slice_index inner i) inner (Contains-get_or inner i 0 l)) in
      (below-among (slice_index inner i) s.edges.count h.0, not-true (is_boundary_edge s.rows s.edges.classes (slice_index inner i)) h.1)

  row_at : (i : ℕ) → i < length inner → (row : EquationRow) × IsQuadRow s.rows s.edges.classes (slice_index inner i) row
  row_at i l =
      let a = inner_at i l in
      let w = some_around s k (slice_index inner i) a.0 in
      let r : IsRound s (slice_index inner i) w.0 = round_of s (slice_index inner i) w.0 k a.0 a.1 w.1 in
      (row_of (columns Quad (length s.rows)) (quad_equation w.0), (w.0, r.all, refl))

  quad_rows : (rows : List EquationRow) × AreQuadEquations s.rows rows
  quad_rows = let z = zip_exists (IsQuadRow s.rows s.edges.classes) inner row_at in
      (z.0, record { classes = s.edges.classes; count = s.edges.count; numbered = k.edges; each = z.1 })

pub some_equations : (coords : Coords) (rows : List Row) → IsTable rows → (equations : List EquationRow) × AreEquations coords rows equations
some_equations coords rows table = go (has_triangles coords)
  where
    go : (t : Bool) → (equations : List EquationRow) × MatchBool t (equations ≡ matching_rows coords rows) (AreQuadEquations rows equations)
    go true = (matching_rows coords rows, refl)
    go false =
        let s = some_skeleton rows table in
        let q = quad_rows s.0 s.2 in
        (q.0, subst (λ (r : List Row). AreQuadEquations r q.0) s.1 q.1)
