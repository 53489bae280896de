-- The octagonal sphere in a triangulation of the 3-sphere.
use Rattle.surface_definitions.proofs.Computed.{computed}
use Rattle.std.proofs.Common.{◌≡◌, ℕ, zero, suc, ◌<◌, Bool, true, false, [], ◌∷◌, refl, sym, ap, ◌∙◌, subst, arith}
use Rattle.std.proofs.lemmas.Bool.{ltb-true}
use Rattle.table_definitions.specs.Table.{IsTable}
use Rattle.table_definitions.proofs.Tests.{table_from}
use Rattle.surface_definitions.specs.Characteristic.{meets_boundary}
use Rattle.surface_definitions.specs.declared.Coords.TheVariants.{Octagon}
use Rattle.surface_definitions.specs.Pieces.{SamePiece, AreComponents, IsOrientableComponent}
use Rattle.surface_laws.specs.PieceLaws.{IsSurface}
use Rattle.surface_laws.proofs.MeetingArcs.{arc_at}
use Rattle.surface_laws.proofs.PieceTests.{surface_by, lead_by, one_component, signs_by}
use Rattle.surface_double_laws.specs.WorkedOctagon.{one_tetrahedron, octagonal_sphere, OctagonIsOrientable}

table : IsTable one_tetrahedron
unfolding computed
table = table_from one_tetrahedron refl refl refl

surface : IsSurface one_tetrahedron Octagon octagonal_sphere
unfolding computed
surface = surface_by one_tetrahedron Octagon octagonal_sphere table tt refl

joined : (i : ℕ) → i < 3 → SamePiece one_tetrahedron Octagon octagonal_sphere 0 i
unfolding computed
joined zero l = ([], refl)
joined (suc zero) l = (arc_at 0 3 2 0 ∷ arc_at 0 3 0 0 ∷ [], lead_by one_tetrahedron Octagon octagonal_sphere (arc_at 0 3 2 0 ∷ arc_at 0 3 0 0 ∷ []) (record { column = 2; number = 0 }) (record { column = 3; number = 0 }) refl)
joined (suc (suc zero)) l = (arc_at 0 3 2 0 ∷ [], lead_by one_tetrahedron Octagon octagonal_sphere (arc_at 0 3 2 0 ∷ []) (record { column = 2; number = 0 }) (record { column = 7; number = 0 }) refl)
joined (suc (suc (suc i))) l = absurd (omega arith)

connected : AreComponents one_tetrahedron Octagon octagonal_sphere (0 ∷ 0 ∷ 0 ∷ []) 1
unfolding computed
connected = one_component one_tetrahedron Octagon octagonal_sphere surface (ltb-true 0 3 refl) joined

one_sign : ℕ → Bool
one_sign x = true

orientable : IsOrientableComponent one_tetrahedron Octagon octagonal_sphere (0 ∷ 0 ∷ 0 ∷ []) 0
unfolding computed one_sign
orientable = signs_by one_tetrahedron Octagon octagonal_sphere (0 ∷ 0 ∷ 0 ∷ []) 0 _ one_sign table refl

off_boundary : meets_boundary one_tetrahedron Octagon octagonal_sphere ≡ false
unfolding computed
off_boundary = refl

pub octagon_is_orientable : OctagonIsOrientable
octagon_is_orientable s e = (
  record {
    surface = subst (λ rows. IsSurface rows Octagon octagonal_sphere) (sym e) surface;
    components = 0 ∷ 0 ∷ 0 ∷ [];
    one = subst (λ rows. AreComponents rows Octagon octagonal_sphere (0 ∷ 0 ∷ 0 ∷ []) 1) (sym e) connected;
  },
  ap (λ rows. meets_boundary rows Octagon octagonal_sphere) e ∙ off_boundary,
  subst (λ rows. IsOrientableComponent rows Octagon octagonal_sphere (0 ∷ 0 ∷ 0 ∷ []) 0) (sym e) orientable,
)
