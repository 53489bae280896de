-- Examples of the relations: tables and relabellings.
use Rattle.std.proofs.Common.{[], ◌∷◌, refl}
use Rattle.table_definitions.specs.Table.{IsTable}
use Rattle.table_definitions.specs.Relabelling.{Relabelling, Carries}
use Rattle.table_definitions.proofs.Computed.{computed}
use Rattle.table_definitions.proofs.Tests.{Carries-passed, table_from}
use Rattle.table_definitions.proofs.Tables.{sphere, other_sphere, four_tets}

pub sphere_table : IsTable sphere
unfolding computed
sphere_table = table_from sphere refl refl refl

pub four_tets_table : IsTable four_tets
unfolding computed
four_tets_table = table_from four_tets refl refl refl

-- a relabelling that carries the one sphere to the other
by_0132 : Relabelling
by_0132 = record { images = 0 ∷ []; perms = (0 ∷ 1 ∷ 3 ∷ 2 ∷ []) ∷ [] }

carried : Carries by_0132 other_sphere sphere
unfolding computed by_0132
carried = Carries-passed by_0132 other_sphere sphere refl refl refl
