-- Runs of `describe` that together have the listed surfaces decide 0-efficiency: the described ones of positive Euler
-- characteristic are the links if and only if they are linking.
use Rattle.std.proofs.Common.{◌≡◌, ◌↔◌, ℕ, pos, ◌<ℤ◌, List, All, Contains, sym, ◌∙◌, subst}
use Rattle.std.specs.List.{AllZip, slice_index_or}
use Rattle.std.proofs.lemmas.List.Elements.{All-contains, Contains-get_or}
use Rattle.table_definitions.proofs.Listed.{among_contains, contains_among}
use Rattle.skeleton_definitions.specs.Skeleton.{Skeleton, IsSkeleton}
use Rattle.skeleton_definitions.specs.Links.{euler_of as euler}
use Rattle.surface_definitions.specs.declared.Coords.{Coords}
use Rattle.surface_vector_definitions.specs.Answers.{Description}
use Rattle.surface_vector_definitions.specs.Properties.{characteristic, AreProperties}
use Rattle.surface_laws.specs.MatchingLaws.{HasTriangles}
use Rattle.surface_agreement_laws.specs.VertexSurfaces.{IsVertexSurfaceOf, IsSurfaceListOf}
use Rattle.surface_agreement_laws.proofs.LinkSurfaces.{linking_is_link, link_is_linking}
use Rattle.surface_efficiency_laws.specs.Laws.{PositiveAreLinks}
use Rattle.surface_efficiency_laws.proofs.Efficiency.{list_decides}
use Rattle.command_definitions.specs.declared.Request.TheVariants.{Describe}
use Rattle.outcome_list_laws.specs.Runs.{HaveSameVectors, vectors_of}
use Rattle.outcome_list_laws.specs.Efficiency.{IsLinkingWherePositive}
use Rattle.outcome_list_laws.specs.Parts.{PartsDecideEfficiency, FilePartsDecideEfficiency}
use Rattle.outcome_list_laws.proofs.Runs.{IsResult, Parts, parts_of, are_printed, joined, listed_skeleton, listed_of, file_runs_lem}
use Rattle.outcome_list_laws.proofs.Zipped.{zip_back, zip_on}

module _ (s : Skeleton) (coords : Coords) where
  pub properties : (v : List ℕ) (d : Description) → IsResult s coords v d → AreProperties s coords v d.properties
  properties v d t = t.2.1

  pub euler_printed : (v : List ℕ) (d : Description) → AreProperties s coords v d.properties → d.properties.euler ≡ characteristic s coords v
  euler_printed v d p = p.euler ∙ (λ i. euler (p.points i) (p.arcs i) (p.pieces i))

  pub euler_is : (v : List ℕ) (d : Description) → IsResult s coords v d → d.properties.euler ≡ characteristic s coords v
  euler_is v d t = euler_printed v d (properties v d t)

  -- each description is of a vector
  pub told_of : (list : List (List ℕ)) (reported : List Description) → AllZip (IsResult s coords) list reported → (d : Description) → Contains reported d → (v : List ℕ) × Contains list v × IsResult s coords v d
  told_of list reported zipped d c = let m = zip_back (IsResult s coords) list reported zipped d (among_contains d reported c) in (m.0, contains_among m.0 list m.1, m.2)

  -- each vector is described
  pub told_as : (list : List (List ℕ)) (reported : List Description) → AllZip (IsResult s coords) list reported → (v : List ℕ) → Contains list v → (d : Description) × Contains reported d × IsResult s coords v d
  told_as list reported zipped v c = let m = zip_on (IsResult s coords) list reported zipped v (among_contains v list c) in (m.0, contains_among m.0 reported m.1, m.2)

  module _ (k : IsSkeleton s) (triangles : HasTriangles coords) (listed list : List (List ℕ)) (reported : List Description) (surfaces : IsSurfaceListOf s coords listed) (same : HaveSameVectors listed list)
      (zipped : AllZip (IsResult s coords) list reported) where
    told_linking : PositiveAreLinks s coords → All IsLinkingWherePositive reported
    told_linking h i e l positive =
        let d : Description = slice_index_or reported i e in
        let m = told_of list reported zipped d (Contains-get_or reported i e l) in
        let link = (list_decides s k coords triangles listed surfaces).0 h m.0 (All-contains (Contains listed) list m.0 same.1 m.1) (subst (λ z. pos 0 <ℤ z) (euler_is m.0 d m.2) positive) in
        (properties m.0 d m.2).linking ∙ link_is_linking s k coords triangles m.0 link

    linking_decides : All IsLinkingWherePositive reported → PositiveAreLinks s coords
    linking_decides h = (list_decides s k coords triangles listed surfaces).1 (λ v c positive.
        let m = told_as list reported zipped v (All-contains (Contains list) listed v same.0 c) in
        let at : IsLinkingWherePositive m.0 = All-contains IsLinkingWherePositive reported m.0 h m.1 in
        let linking = at (subst (λ z. pos 0 <ℤ z) (sym (euler_is v m.0 m.2)) positive) in
        linking_is_link s k coords triangles v (All-contains (IsVertexSurfaceOf s coords) listed v surfaces.vertex_surfaces c) (sym (properties v m.0 m.2).linking ∙ linking))

    pub decided : PositiveAreLinks s coords ↔ All IsLinkingWherePositive reported
    decided = (told_linking, linking_decides)

pub parts_decide_lem : PartsDecideEfficiency
parts_decide_lem coords rows list runs triangles listed done same =
    let k = listed_skeleton coords rows list listed in
    let surfaces : IsSurfaceListOf k.0 coords list = listed_of coords rows list listed k.0 k.1 triangles in
    let all : Parts k.0 coords k.2 triangles rows k.1 runs = parts_of k.0 coords k.2 triangles rows k.1 runs done in
    record {
      skeleton = k.0;
      of_rows = k.1;
      is_skeleton = k.2;
      printed = joined all.parts;
      are_printed = are_printed k.0 coords k.2 triangles rows k.1 runs all;
      surfaces = surfaces;
      decides = decided k.0 coords k.2 triangles list (vectors_of runs) (joined all.parts) surfaces same all.zipped;
    }

pub file_parts_decide_lem : FilePartsDecideEfficiency
file_parts_decide_lem coords front rows list runs triangles file listed are same =
    parts_decide_lem coords rows list runs triangles listed (file_runs_lem (Describe coords) front listed.outcome.text rows list runs file listed.printed are same.1) same
