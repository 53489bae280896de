-- The crushed table is computed by following each face of a tetrahedron that stays.
use Rattle.surface_definitions.proofs.SurfaceEvaluators.{crushed}
use Rattle.surface_laws.proofs.CrushedRows.{crushed_once, crushed_is_table, crushed_are}
use Rattle.surface_laws.proofs.crushing_makes_tables.Goals as goal

pub returns : goal.returns
returns c = λ rows xs table. record {
  new = crushed rows xs;
  crushed = crushed_are rows xs table;
  table = crushed_is_table rows xs table (crushed rows xs) (crushed_are rows xs table);
  only = λ other h. crushed_once rows xs table other (crushed rows xs) h (crushed_are rows xs table);
}
