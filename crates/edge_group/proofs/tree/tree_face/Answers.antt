-- One more face, and in the end all four.
use Rattle.std.proofs.Common.{◌≡◌, arith, subst}
use Rattle.edge_group.specs.Across.{IsLeastCloser}
use Rattle.edge_group.proofs.Closer.{least_more}
use Rattle.edge_group.proofs.tree.tree_face.Goals as goal

pub loop-face-preserved : goal.loop-face-preserved
loop-face-preserved c =
    least_more c.args.at.table.now c.args.at.tet c.loop-face.face c.loop-face.least c.closer_face.result c.smaller-least.result c.loop-face.invariant c.closer_face.ensures c.smaller-least.ensures

pub returns : goal.returns
returns c = let all : c.loop-face.face ≡ 4 = omega arith in
    subst (λ n. IsLeastCloser c.args.at.table.now c.args.at.tet n c.loop-face.least) all c.loop-face.invariant
