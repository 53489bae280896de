-- One more face, and in the end all four.
use Rattle.std.proofs.Common.{◌<◌, arith}
use Rattle.edge_group.specs.Searches.{IsFaceBelow}
use Rattle.edge_group.proofs.Grown.{has_nothing, faces_more, faces_all}
use Rattle.edge_group.proofs.distances.mark_neighbours.Goals as goal

pub loop-face-init : goal.loop-face-init
loop-face-init c = record {
  grown = has_nothing c.args.at.table.now (IsFaceBelow c.args.at.tet 0) c.args.distance c.args.marks.now c.args.next.now.items (λ x g below e. absurd (let l : x.face < 0 = below.1 in omega arith));
  is_table = λ l. absurd (omega (arith, l));
}

pub loop-face-preserved : goal.loop-face-preserved
loop-face-preserved c = record {
  grown = faces_more c.args.at.table.now c.args.at.tet c.loop-face.face c.args.distance c.args.marks.now c.loop-face.marks c.cross_face.new.marks c.args.next.now.items c.loop-face.next.items c.cross_face.new.next.items
      c.loop-face.invariant.grown c.in_ok-cross_face.ensures.grown;
  is_table = λ _. c.in_ok-cross_face.ensures.is_table;
}

pub returns : goal.returns
returns c =
    faces_all c.args.at.table.now c.args.at.tet c.loop-face.face c.args.distance c.args.marks.now c.loop-face.marks c.args.next.now.items c.loop-face.next.items (c.loop-face.invariant.is_table (omega (arith, c.loop-face-test.false))) c.loop-face-test.false
    c.loop-face.invariant.grown
