-- Components of worked surfaces: examples that fulfil the relations.
use Rattle.surface_definitions.proofs.Computed.{computed}
use Rattle.std.proofs.Common.{ℕ, zero, suc, ◌<◌, Bool, true, false, List, [], ◌∷◌, Ok, refl, arith}
use Rattle.std.proofs.lemmas.Bool.{ltb-true, leb-true}
use Rattle.table_definitions.specs.Table.{Row, IsTable}
use Rattle.table_definitions.proofs.RelationExamples.{sphere_table}
use Rattle.table_definitions.proofs.Tables.{sphere, table_jj, row, by, free}
use Rattle.table_definitions.proofs.Tests.{table_from}
use Rattle.surface_definitions.specs.declared.Coords.TheVariants.{Standard, Octagon}
use Rattle.surface_definitions.specs.Crushing.{IsCrushed}
use Rattle.surface_definitions.specs.Pieces.{SamePiece}
use Rattle.surface_vector_definitions.specs.Components.{IsComponent, IsPiecesAnswer}
use Rattle.surface_laws.proofs.CrushedRows.{crushed_are}
use Rattle.surface_laws.proofs.MeetingArcs.{arc_at}
use Rattle.surface_laws.proofs.PieceTests.{surface_by, lead_by, one_component, signs_by}

jj_table : IsTable table_jj
unfolding computed
jj_table = table_from table_jj refl refl refl

abbrev two_quads : List ℕ
two_quads = 0 ∷ 0 ∷ 0 ∷ 0 ∷ 0 ∷ 2 ∷ 0 ∷ []

-- the two quads meet, and each turns to the other the side that the other turns away
two_joined : (i : ℕ) → i < 2 → SamePiece table_jj Standard two_quads 0 i
unfolding computed
two_joined zero l = ([], refl)
two_joined (suc zero) l = (arc_at 0 0 2 0 ∷ [], lead_by table_jj Standard two_quads (arc_at 0 0 2 0 ∷ []) (record { column = 5; number = 0 }) (record { column = 5; number = 1 }) refl)
two_joined (suc (suc i)) l = absurd (omega arith)

-- a sign of each of two pieces
one_each : ℕ → Bool
one_each zero = true
one_each (suc i) = false

two_component : IsComponent table_jj Standard two_quads (0 ∷ 0 ∷ []) 0 (record { vector = two_quads; two_sided = true; orientable = true })
unfolding computed one_each
two_component = record {
  vector = refl;
  two_sided = ((λ e. signs_by table_jj Standard two_quads (0 ∷ 0 ∷ []) 0 _ one_each jj_table refl), (λ h. refl));
  orientable = ((λ e. signs_by table_jj Standard two_quads (0 ∷ 0 ∷ []) 0 _ one_each jj_table refl), (λ h. refl));
}

two_answer : IsPiecesAnswer table_jj Standard two_quads (Ok (record { vector = two_quads; two_sided = true; orientable = true } ∷ []))
unfolding computed
two_answer = (
  leb-true 2 100000 refl,
  record {
    classes = 0 ∷ 0 ∷ [];
    count = 1;
    numbered = one_component table_jj Standard two_quads (surface_by table_jj Standard two_quads jj_table tt refl) (ltb-true 0 2 refl) two_joined;
    each = (two_component, tt);
  },
)

-- all signs true, and those of the triangles alone
all_true : ℕ → Bool
all_true i = true

first_two : ℕ → Bool
first_two zero = true
first_two (suc zero) = true
first_two (suc (suc i)) = false

-- an octagon with two triangles
abbrev octagon : List ℕ
octagon = 0 ∷ 0 ∷ 1 ∷ 1 ∷ 0 ∷ 0 ∷ 0 ∷ 1 ∷ 0 ∷ 0 ∷ []

octagon_joined : (i : ℕ) → i < 3 → SamePiece sphere Octagon octagon 0 i
unfolding computed
octagon_joined zero l = ([], refl)
octagon_joined (suc zero) l = (arc_at 0 3 2 0 ∷ arc_at 0 3 0 0 ∷ [], lead_by sphere Octagon octagon (arc_at 0 3 2 0 ∷ arc_at 0 3 0 0 ∷ []) (record { column = 2; number = 0 }) (record { column = 3; number = 0 }) refl)
octagon_joined (suc (suc zero)) l = (arc_at 0 3 2 0 ∷ [], lead_by sphere Octagon octagon (arc_at 0 3 2 0 ∷ []) (record { column = 2; number = 0 }) (record { column = 7; number = 0 }) refl)
octagon_joined (suc (suc (suc i))) l = absurd (omega arith)

octagon_component : IsComponent sphere Octagon octagon (0 ∷ 0 ∷ 0 ∷ []) 0 (record { vector = octagon; two_sided = true; orientable = true })
unfolding computed all_true
octagon_component = record {
  vector = refl;
  two_sided = ((λ e. signs_by sphere Octagon octagon (0 ∷ 0 ∷ 0 ∷ []) 0 _ all_true sphere_table refl), (λ h. refl));
  orientable = ((λ e. signs_by sphere Octagon octagon (0 ∷ 0 ∷ 0 ∷ []) 0 _ all_true sphere_table refl), (λ h. refl));
}

octagon_answer : IsPiecesAnswer sphere Octagon octagon (Ok (record { vector = octagon; two_sided = true; orientable = true } ∷ []))
unfolding computed
octagon_answer = (
  leb-true 3 100000 refl,
  record {
    classes = 0 ∷ 0 ∷ 0 ∷ [];
    count = 1;
    numbered = one_component sphere Octagon octagon (surface_by sphere Octagon octagon sphere_table tt refl) (ltb-true 0 3 refl) octagon_joined;
    each = (octagon_component, tt);
  },
)

-- the link of a vertex
abbrev link : List ℕ
link = 1 ∷ 1 ∷ 1 ∷ 1 ∷ 0 ∷ 0 ∷ 0 ∷ []

link_joined : (i : ℕ) → i < 4 → SamePiece table_jj Standard link 0 i
unfolding computed
link_joined zero l = ([], refl)
link_joined (suc zero) l = (arc_at 0 2 0 0 ∷ [], lead_by table_jj Standard link (arc_at 0 2 0 0 ∷ []) (record { column = 0; number = 0 }) (record { column = 1; number = 0 }) refl)
link_joined (suc (suc zero)) l = (arc_at 0 1 0 0 ∷ arc_at 0 1 3 0 ∷ [], lead_by table_jj Standard link (arc_at 0 1 0 0 ∷ arc_at 0 1 3 0 ∷ []) (record { column = 0; number = 0 }) (record { column = 2; number = 0 }) refl)
link_joined (suc (suc (suc zero))) l = (arc_at 0 1 0 0 ∷ [], lead_by table_jj Standard link (arc_at 0 1 0 0 ∷ []) (record { column = 0; number = 0 }) (record { column = 3; number = 0 }) refl)
link_joined (suc (suc (suc (suc i)))) l = absurd (omega arith)

link_component : IsComponent table_jj Standard link (0 ∷ 0 ∷ 0 ∷ 0 ∷ []) 0 (record { vector = link; two_sided = true; orientable = true })
unfolding computed all_true
link_component = record {
  vector = refl;
  two_sided = ((λ e. signs_by table_jj Standard link (0 ∷ 0 ∷ 0 ∷ 0 ∷ []) 0 _ all_true jj_table refl), (λ h. refl));
  orientable = ((λ e. signs_by table_jj Standard link (0 ∷ 0 ∷ 0 ∷ 0 ∷ []) 0 _ all_true jj_table refl), (λ h. refl));
}

link_answer : IsPiecesAnswer table_jj Standard link (Ok (record { vector = link; two_sided = true; orientable = true } ∷ []))
unfolding computed
link_answer = (
  leb-true 4 100000 refl,
  record {
    classes = 0 ∷ 0 ∷ 0 ∷ 0 ∷ [];
    count = 1;
    numbered = one_component table_jj Standard link (surface_by table_jj Standard link jj_table tt refl) (ltb-true 0 4 refl) link_joined;
    each = (link_component, tt);
  },
)

-- two triangles and a quad
abbrev torus : List ℕ
torus = 1 ∷ 1 ∷ 0 ∷ 0 ∷ 1 ∷ 0 ∷ 0 ∷ []

torus_joined : (i : ℕ) → i < 3 → SamePiece sphere Standard torus 0 i
unfolding computed
torus_joined zero l = ([], refl)
torus_joined (suc zero) l = (arc_at 0 1 0 0 ∷ [], lead_by sphere Standard torus (arc_at 0 1 0 0 ∷ []) (record { column = 0; number = 0 }) (record { column = 1; number = 0 }) refl)
torus_joined (suc (suc zero)) l = (arc_at 0 3 0 0 ∷ [], lead_by sphere Standard torus (arc_at 0 3 0 0 ∷ []) (record { column = 0; number = 0 }) (record { column = 4; number = 0 }) refl)
torus_joined (suc (suc (suc i))) l = absurd (omega arith)

torus_component : IsComponent sphere Standard torus (0 ∷ 0 ∷ 0 ∷ []) 0 (record { vector = torus; two_sided = true; orientable = true })
unfolding computed first_two
torus_component = record {
  vector = refl;
  two_sided = ((λ e. signs_by sphere Standard torus (0 ∷ 0 ∷ 0 ∷ []) 0 _ first_two sphere_table refl), (λ h. refl));
  orientable = ((λ e. signs_by sphere Standard torus (0 ∷ 0 ∷ 0 ∷ []) 0 _ first_two sphere_table refl), (λ h. refl));
}

torus_answer : IsPiecesAnswer sphere Standard torus (Ok (record { vector = torus; two_sided = true; orientable = true } ∷ []))
unfolding computed
torus_answer = (
  leb-true 3 100000 refl,
  record {
    classes = 0 ∷ 0 ∷ 0 ∷ [];
    count = 1;
    numbered = one_component sphere Standard torus (surface_by sphere Standard torus sphere_table tt refl) (ltb-true 0 3 refl) torus_joined;
    each = (torus_component, tt);
  },
)

-- the crushed tables of worked vectors
none_kept : IsCrushed sphere (1 ∷ 1 ∷ 0 ∷ 0 ∷ 1 ∷ 0 ∷ 0 ∷ []) []
unfolding computed
none_kept = crushed_are sphere (1 ∷ 1 ∷ 0 ∷ 0 ∷ 1 ∷ 0 ∷ 0 ∷ []) sphere_table

all_kept : IsCrushed sphere (1 ∷ 1 ∷ 1 ∷ 1 ∷ 0 ∷ 0 ∷ 0 ∷ []) sphere
unfolding computed
all_kept = crushed_are sphere (1 ∷ 1 ∷ 1 ∷ 1 ∷ 0 ∷ 0 ∷ 0 ∷ []) sphere_table

-- face 0 of the kept tetrahedron is followed through the one that is taken out to face 1
abbrev two_tets : List Row
two_tets = row (by 1 0) (by 1 0) free free ∷ row (by 0 0) (by 0 0) free free ∷ []

abbrev along_quad : List ℕ
along_quad = 1 ∷ 1 ∷ 0 ∷ 0 ∷ 0 ∷ 0 ∷ 0 ∷ 0 ∷ 0 ∷ 0 ∷ 0 ∷ 1 ∷ 0 ∷ 0 ∷ []

two_tets_table : IsTable two_tets
unfolding computed
two_tets_table = table_from two_tets refl refl refl

followed_through : IsCrushed two_tets along_quad (row (by 0 6) (by 0 6) free free ∷ [])
unfolding computed
followed_through = crushed_are two_tets along_quad two_tets_table
