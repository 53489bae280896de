-- In closed orientable tables without invalid edges, the lines that decide 0-efficiency decide it by spheres.
use Rattle.std.proofs.Common.{◌≡◌, true, List, sym, ap, ◌∙◌, subst}
use Rattle.table_definitions.specs.Places.{HasValidEdges, is_closed}
use Rattle.table_definitions.specs.Table.{Row}
use Rattle.skeleton_definitions.specs.Orientation.{IsOrientable}
use Rattle.surface_definitions.specs.declared.Coords.{Coords}
use Rattle.outcome_definitions.specs.Outcomes.{Outcome}
use Rattle.surface_double_laws.proofs.Spheres.{spheres_decide}
use Rattle.surface_euler_laws.proofs.AtMostTwo.{no_first_invalid}
use Rattle.outcome_list_laws.specs.Efficiency.{DecidesLinks}
use Rattle.outcome_list_laws.specs.Spheres.{DecidesSpheres, InputsDecideSpheres, DescribedListsDecideSpheres}
use Rattle.outcome_list_laws.proofs.Described.{inputs_decide_lem, described_lists_decide_lem}

pub by_spheres : (coords : Coords) (rows : List Row) (p : Outcome) → HasValidEdges rows → is_closed rows ≡ true → IsOrientable rows → DecidesLinks coords rows p → DecidesSpheres coords rows p
by_spheres coords rows p valid closed orientable r =
    let both = spheres_decide r.skeleton coords r.is_skeleton (no_first_invalid r.skeleton r.is_skeleton (subst HasValidEdges (sym r.of_rows) valid)) (ap is_closed r.of_rows ∙ closed) (subst IsOrientable (sym r.of_rows) orientable) in
    record {
      skeleton = r.skeleton;
      of_rows = r.of_rows;
      is_skeleton = r.is_skeleton;
      printed = r.reported;
      outcome = r.outcome;
      decides = (λ spheres. (r.decides).0 (both.1 spheres), λ all. both.0 ((r.decides).1 all));
    }

pub inputs_decide_spheres_lem : InputsDecideSpheres
inputs_decide_spheres_lem coords rows list asked input p valid closed orientable triangles listed read described done =
    by_spheres coords rows p valid closed orientable (inputs_decide_lem coords rows list asked input p triangles listed read described done)

pub described_spheres_lem : DescribedListsDecideSpheres
described_spheres_lem words asked bytes o p coords order most rows valid closed orientable triangles listed read done described done_too =
    by_spheres coords rows p valid closed orientable (described_lists_decide_lem words asked bytes o p coords order most rows triangles listed read done described done_too)
