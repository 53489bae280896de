-- Along the path to its end at tetrahedron 0.
use Rattle.std.proofs.Common.{◌≡◌, ◌<◌, not, length, sym, ap, subst, ◌∙◌}
use Rattle.std.specs.Bool.{beq}
use Rattle.table_definitions.specs.Table.{Face}
use Rattle.table_definitions.proofs.TableLaws.{glued_tet}
use Rattle.presentation_definitions.specs.Trees.{IsTreeFace}
use Rattle.edge_group.specs.Searches.{mark_of}
use Rattle.presentation_laws.proofs.Marking.{tree_face_is, tree_root_is, tree_face_inside}
use Rattle.edge_group.proofs.Paths.{IsPathOn, distance_or, differ_is, path_steps, path_ends, path_falls}
use Rattle.edge_group.proofs.turning.is_path_odd.Goals as goal

-- the tree face of the tetrahedron that the path has reached
pub invariant_of-is_even : goal.invariant_of-is_even
invariant_of-is_even c =
    let on : IsTreeFace c.args.at.table.now c.path.tet c.in-Some.face = tree_face_is c.args.at.table.now c.args.tree.now.faces.items c.path.tet c.index.result.now c.in-Some.face c.requires.tree
    (subst (λ n. c.path.tet < n) (sym c.requires.tree.one_each) c.path.invariant.in_range) (sym c.index.ensures ∙ c.in-Some.is) in
    record { in_range = glued_tet c.args.at.table.now c.in-Some.face on.leads.gluing on.leads.glued }

-- the tetrahedron of this face, and the tree face as it was read
module _ (c : goal.After-face) where
  there : c.face.inside.tet ≡ c.in-Some.face.tet
  there = ap (λ (x : Face). x.tet) c.face.view_is

  tree_face : IsTreeFace c.args.at.table.now c.path.tet c.in-Some.face
  tree_face = tree_face_is c.args.at.table.now c.args.tree.now.faces.items c.path.tet c.index.result.now c.in-Some.face c.requires.tree
      (subst (λ n. c.path.tet < n) (sym c.requires.tree.one_each) c.path.invariant.in_range) (sym c.index.ensures ∙ c.in-Some.is)

pub path-smaller : goal.path-smaller
path-smaller c = subst (λ t. distance_or (mark_of c.args.tree.now.distances.items t) < distance_or (mark_of c.args.tree.now.distances.items c.path.tet)) (sym (there c))
    (path_falls c.args.at.table.now c.args.tree.now.distances.items c.path.tet c.in-Some.face c.is_even-odd.ensures.is_table c.requires.distances (tree_face c))

pub path-preserved : goal.path-preserved
path-preserved c = record {
  in_range = subst (λ t. t < length c.args.at.table.now) (sym (there c)) (tree_face_inside c.args.at.table.now c.path.tet c.in-Some.face c.is_even-odd.ensures.is_table (tree_face c)).0;
  on = subst (λ t. IsPathOn c.args.at.table.now c.args.at.tet t (not (beq c.path.odd c.is_even-odd.result))) (sym (there c))
      (path_steps c.args.at.table.now c.args.at.tet c.path.tet c.in-Some.face c.path.odd c.is_even-odd.result (not (beq c.path.odd c.is_even-odd.result)) (tree_face c) c.is_even-odd.ensures.value (differ_is c.path.odd c.is_even-odd.result) c.path.invariant.on);
}

pub returns : goal.returns
returns c = path_ends c.args.at.table.now c.args.at.tet c.path.tet c.path.odd
    (tree_root_is c.args.at.table.now c.args.tree.now.faces.items c.path.tet c.index.result.now c.requires.tree
    (subst (λ n. c.path.tet < n) (sym c.requires.tree.one_each) c.path.invariant.in_range) (sym c.index.ensures ∙ c.in_default.is)) c.path.invariant.on
