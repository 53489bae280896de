use Rattle.std.proofs.Common.{◌≡◌, ◌≤◌, length}
use Rattle.std.specs.List.{AllZip}
use Rattle.surface_definitions.specs.Coordinates.{columns}
use Rattle.surface_definitions.specs.declared.Coords.TheVariants.{Quad}
use Rattle.surface_definitions.specs.QuadEquations.{IsQuadRow}
use Rattle.skeleton_definitions.specs.Corners.{internal_edges}
use Rattle.skeleton_definitions.specs.Skeleton.{IsSkeleton}
use Rattle.matching_equations.proofs.quads.quad_system.Given as goal

abbrev pub invariant-loop-class : goal.invariant-loop-class
invariant-loop-class l = record {
  skeleton : IsSkeleton l.skeleton;
  columns : l.system.columns ≡ columns Quad (length l.skeleton.rows);
  rows : AllZip (IsQuadRow l.skeleton.rows l.skeleton.edges.classes) (internal_edges l.skeleton.rows l.skeleton.edges.classes l.class) l.system.rows;
  limited : length l.system.rows ≤ l.class;
}
