-- The projective plane in a triangulation of projective space, and its double.
use Rattle.surface_definitions.proofs.Computed.{computed}
use Rattle.std.proofs.Common.{ℕ, zero, suc, ◌<◌, [], ◌∷◌, refl, sym, subst, arith}
use Rattle.std.proofs.lemmas.Bool.{ltb-true}
use Rattle.basic_lemmas.proofs.Truths.{not_itself}
use Rattle.table_definitions.specs.Table.{Gluing, IsTable}
use Rattle.table_definitions.proofs.Tests.{table_from}
use Rattle.surface_definitions.specs.declared.Coords.TheVariants.{Standard}
use Rattle.surface_definitions.specs.Pieces.{Meets, SamePiece, AreComponents, IsTwoSided}
use Rattle.surface_laws.specs.PieceLaws.{IsSurface}
use Rattle.surface_laws.proofs.MeetingArcs.{arc_at}
use Rattle.surface_laws.proofs.PieceTests.{surface_by, lead_by, one_component}
use Rattle.surface_double_laws.specs.WorkedPlane.{projective_space, projective_plane, PlaneIsOneSided, PlaneHasConnectedDouble}
use Rattle.surface_double_laws.proofs.DoublePieces.{double_connected}

space_table : IsTable projective_space
unfolding computed
space_table = table_from projective_space refl refl refl

plane_surface : IsSurface projective_space Standard projective_plane
unfolding computed
plane_surface = surface_by projective_space Standard projective_plane space_table tt refl

plane_joined : (i : ℕ) → i < 3 → SamePiece projective_space Standard projective_plane 0 i
unfolding computed
plane_joined zero l = ([], refl)
plane_joined (suc zero) l = (arc_at 0 1 0 0 ∷ arc_at 1 3 1 0 ∷ [], lead_by projective_space Standard projective_plane (arc_at 0 1 0 0 ∷ arc_at 1 3 1 0 ∷ []) (record { column = 0; number = 0 }) (record { column = 1; number = 0 }) refl)
plane_joined (suc (suc zero)) l = (arc_at 0 1 0 0 ∷ [], lead_by projective_space Standard projective_plane (arc_at 0 1 0 0 ∷ []) (record { column = 0; number = 0 }) (record { column = 12; number = 0 }) refl)
plane_joined (suc (suc (suc i))) l = absurd (omega arith)

plane_connected : AreComponents projective_space Standard projective_plane (0 ∷ 0 ∷ 0 ∷ []) 1
unfolding computed
plane_connected = one_component projective_space Standard projective_plane plane_surface (ltb-true 0 3 refl) plane_joined

-- the quad meets itself so that sides are exchanged
abbrev over : Gluing
over = record { tet = 1; perm = 1 ∷ 2 ∷ 3 ∷ 0 ∷ [] }

meets_itself : Meets projective_space Standard projective_plane (arc_at 1 0 2 0) over
unfolding computed
meets_itself = record { in_range = ltb-true 1 2 refl; is_vertex = ltb-true 2 4 refl; off_vertex = (λ e. absurd (omega arith)); there = ltb-true 0 1 refl; glued = refl }

plane_one_sided : ¬ IsTwoSided projective_space Standard projective_plane (0 ∷ 0 ∷ 0 ∷ []) 0
unfolding computed
plane_one_sided sides = not_itself (sides.0 2) (sides.1 (arc_at 1 0 2 0) over meets_itself refl)

pub plane_is_one_sided : PlaneIsOneSided
plane_is_one_sided s e = (
  record {
    surface = subst (λ rows. IsSurface rows Standard projective_plane) (sym e) plane_surface;
    components = 0 ∷ 0 ∷ 0 ∷ [];
    one = subst (λ rows. AreComponents rows Standard projective_plane (0 ∷ 0 ∷ 0 ∷ []) 1) (sym e) plane_connected;
  },
  subst (λ rows. ¬ IsTwoSided rows Standard projective_plane (0 ∷ 0 ∷ 0 ∷ []) 0) (sym e) plane_one_sided,
)

pub plane_has_double : PlaneHasConnectedDouble
plane_has_double s e = let plane = plane_is_one_sided s e in double_connected s Standard projective_plane plane.0 plane.1
