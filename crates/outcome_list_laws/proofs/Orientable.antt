-- No edge of an orientable table is invalid, so the lines that decide 0-efficiency decide it by spheres in each closed
-- orientable table.
use Rattle.std.proofs.Common.{◌≡◌, ◌↔◌, ℕ, true, List, All, Contains, sym, ap, ◌∙◌, subst}
use Rattle.std.specs.List.{AllZip, slice_index_or}
use Rattle.std.proofs.lemmas.List.Elements.{All-contains, Contains-get_or}
use Rattle.table_definitions.specs.Places.{is_closed}
use Rattle.table_definitions.specs.Table.{Row, IsTable}
use Rattle.skeleton_definitions.specs.Orientation.{IsOrientable}
use Rattle.skeleton_definitions.specs.Skeleton.{Skeleton, IsSkeleton}
use Rattle.skeleton_orientation_laws.proofs.Valid.{edges_valid}
use Rattle.surface_definitions.specs.declared.Coords.{Coords}
use Rattle.surface_definitions.specs.declared.Coords.TheVariants.{Standard}
use Rattle.surface_vector_definitions.specs.Answers.{Description}
use Rattle.outcome_definitions.specs.Outcomes.{Outcome}
use Rattle.surface_laws.specs.MatchingLaws.{HasTriangles}
use Rattle.surface_agreement_laws.specs.VertexSurfaces.{IsVertexSurfaceOf, IsSurfaceListOf}
use Rattle.surface_agreement_laws.proofs.LinkSurfaces.{linking_is_link, link_is_linking}
use Rattle.surface_double_laws.specs.Laws.{SpheresAreLinks}
use Rattle.surface_double_laws.proofs.Orientable.{closed_spheres, closed_listed}
use Rattle.command_definitions.specs.declared.Request.TheVariants.{Describe}
use Rattle.outcome_list_laws.specs.Runs.{HaveSameVectors, vectors_of}
use Rattle.outcome_list_laws.specs.Efficiency.{DecidesLinks}
use Rattle.outcome_list_laws.specs.Spheres.{DecidesSpheres}
use Rattle.outcome_list_laws.specs.Orientable.{IsLinkingSphere, OrientableInputsDecideSpheres, OrientableListsDecideSpheres, OrientablePartsDecideSpheres, OrientableFilePartsDecideSpheres, OrientableLiftsDecideSpheres}
use Rattle.outcome_list_laws.proofs.DescribedSpheres.{by_spheres}
use Rattle.outcome_list_laws.proofs.Described.{inputs_decide_lem, described_lists_decide_lem}
use Rattle.outcome_list_laws.proofs.Parts.{properties, euler_is, told_of, told_as, decided}
use Rattle.outcome_list_laws.proofs.Quads.{lifts_decide_lem}
use Rattle.outcome_list_laws.proofs.Runs.{IsResult, Parts, parts_of, are_printed, joined, listed_skeleton, listed_of, file_runs_lem}

-- if the one holds if and only if the second does, and the second if and only if the third does
both : {A B C : Type 0} → A ↔ B → A ↔ C → C ↔ B
both one two = (λ c. one.0 (two.1 c), λ b. two.0 (one.1 b))

-- the table is closed and orientable, and so is that of its skeleton
record IsClosedOrientable (s : Skeleton) : Type 0 where
  skeleton : IsSkeleton s
  closed : is_closed s.rows ≡ true
  orientable : IsOrientable s.rows

closed_orientable : (s : Skeleton) (rows : List Row) → s.rows ≡ rows → IsSkeleton s → is_closed rows ≡ true → IsOrientable rows → IsClosedOrientable s
closed_orientable s rows of_rows k closed orientable = record { skeleton = k; closed = ap is_closed of_rows ∙ closed; orientable = subst IsOrientable (sym of_rows) orientable }

by_orientable : (coords : Coords) (rows : List Row) (p : Outcome) → is_closed rows ≡ true → IsOrientable rows → DecidesLinks coords rows p → DecidesSpheres coords rows p
by_orientable coords rows p closed orientable r = by_spheres coords rows p (edges_valid rows (subst IsTable r.of_rows (r.is_skeleton).table) orientable) closed orientable r

pub orientable_inputs_lem : OrientableInputsDecideSpheres
orientable_inputs_lem coords rows list asked input p closed orientable triangles listed read described done =
    by_orientable coords rows p closed orientable (inputs_decide_lem coords rows list asked input p triangles listed read described done)

pub orientable_lists_lem : OrientableListsDecideSpheres
orientable_lists_lem words asked bytes o p coords order most rows closed orientable triangles listed read done described done_too =
    by_orientable coords rows p closed orientable (described_lists_decide_lem words asked bytes o p coords order most rows triangles listed read done described done_too)

module _ (s : Skeleton) (coords : Coords) (h : IsClosedOrientable s) (triangles : HasTriangles coords) (listed list : List (List ℕ)) (reported : List Description) (surfaces : IsSurfaceListOf s coords listed)
    (same : HaveSameVectors listed list) (zipped : AllZip (IsResult s coords) list reported) where
  printed_spheres : SpheresAreLinks s coords → All IsLinkingSphere reported
  printed_spheres spheres i e l =
      let d : Description = slice_index_or reported i e in
      let m = told_of s coords list reported zipped (slice_index_or reported i e) (Contains-get_or reported i e l) in
      let at = (closed_listed s coords listed h.skeleton h.closed h.orientable triangles surfaces).0 spheres m.0 (All-contains (Contains listed) list m.0 same.1 m.1) in
      let euler = euler_is s coords m.0 d m.2 in (
        λ one. at.0 (sym euler ∙ one),
        λ two. (properties s coords m.0 d m.2).linking ∙ link_is_linking s h.skeleton coords triangles m.0 (at.1 (sym euler ∙ two)),
      )

  by_printed : All IsLinkingSphere reported → SpheresAreLinks s coords
  by_printed all = (closed_listed s coords listed h.skeleton h.closed h.orientable triangles surfaces).1 (λ v c.
      let m = told_as s coords list reported zipped v (All-contains (Contains list) listed v same.0 c) in
      let at : IsLinkingSphere m.0 = All-contains IsLinkingSphere reported m.0 all m.1 in
      let euler = euler_is s coords v m.0 m.2 in (
        λ one. at.0 (euler ∙ one),
        λ two. linking_is_link s h.skeleton coords triangles v (All-contains (IsVertexSurfaceOf s coords) listed v surfaces.vertex_surfaces c)
            (sym (properties s coords v m.0 m.2).linking ∙ at.1 (euler ∙ two)),
      ))

pub orientable_parts_lem : OrientablePartsDecideSpheres
orientable_parts_lem coords rows list runs closed orientable triangles listed done same =
    let k = listed_skeleton coords rows list listed in
    let surfaces : IsSurfaceListOf k.0 coords list = listed_of coords rows list listed k.0 k.1 triangles in
    let all : Parts k.0 coords k.2 triangles rows k.1 runs = parts_of k.0 coords k.2 triangles rows k.1 runs done in
    let h = closed_orientable k.0 rows k.1 k.2 closed orientable in
    record {
      skeleton = k.0;
      of_rows = k.1;
      is_skeleton = k.2;
      printed = joined all.parts;
      are_printed = are_printed k.0 coords k.2 triangles rows k.1 runs all;
      surfaces = surfaces;
      positive = both (decided k.0 coords k.2 triangles list (vectors_of runs) (joined all.parts) surfaces same all.zipped) (closed_spheres k.0 coords h.skeleton h.closed h.orientable);
      spheres = (
        printed_spheres k.0 coords h triangles list (vectors_of runs) (joined all.parts) surfaces same all.zipped,
        by_printed k.0 coords h triangles list (vectors_of runs) (joined all.parts) surfaces same all.zipped,
      );
    }

pub orientable_files_lem : OrientableFilePartsDecideSpheres
orientable_files_lem coords front rows list runs closed orientable triangles file listed are same =
    orientable_parts_lem coords rows list runs closed orientable triangles listed (file_runs_lem (Describe coords) front listed.outcome.text rows list runs file listed.printed are same.1) same

pub orientable_lifts_lem : OrientableLiftsDecideSpheres
orientable_lifts_lem rows quads lifted runs closed orientable spheres listed are passed done described =
    let r = lifts_decide_lem rows quads lifted runs spheres listed are passed done described in
    let h = closed_orientable r.skeleton rows r.of_rows r.is_skeleton closed orientable in
    let links = closed_spheres r.skeleton Standard h.skeleton h.closed h.orientable in
    record {
      skeleton = r.skeleton;
      of_rows = r.of_rows;
      is_skeleton = r.is_skeleton;
      printed = r.printed;
      are_printed = r.are_printed;
      linking = both r.linking links;
      none = both r.none links;
    }
