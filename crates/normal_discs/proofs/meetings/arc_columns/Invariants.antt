-- The triangle and the quad, and the octagons so far.
use Rattle.std.proofs.Common.{◌≡◌, ◌+◌, ◌∷◌, take}
use Rattle.arrayvec.specs.ArrayVec.{array_vec_len}
use Rattle.surface_definitions.specs.Coordinates.{tri_column, quad_column, keeping}
use Rattle.normal_discs.proofs.meetings.arc_columns.Given as goal

abbrev pub invariant-loop-column : goal.invariant-loop-column
invariant-loop-column l = record {
  items : l.columns.items ≡ tri_column l.fn.coords.system l.fn.tet l.fn.vertex ∷ quad_column l.fn.coords.system l.fn.tet (keeping l.fn.vertex l.fn.face) ∷ take l.column-index l.column-items;
  size : array_vec_len l.columns ≡ 2 + l.column-index;
}
