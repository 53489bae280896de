use Rattle.std.proofs.Common.{ℕ, List, Bool, subst₂, arith}
use Rattle.skeleton_class_laws.specs.Tallies.{AreTallies}
use Rattle.vertex_links.proofs.SideLemmas.{tally_corners}
use Rattle.vertex_links.proofs.link.corner_tally.Goals as goal

pub returns-clause-vertices : goal.returns-clause-vertices
returns-clause-vertices c = tally_corners c.args.corners.skeleton.now.vertices.classes c.args.directions.now.classes.items c.args.directions.now.firsts.items c.in_ok-passes.passes.items c.args.corners.owners.now
    c.in_ok-tallies.tallies.items c.args.corners.skeleton.now.vertices.count
    (subst₂ (λ (passes : List Bool) (n : ℕ). AreTallies passes c.args.corners.owners.now n c.in_ok-tallies.tallies.items) c.deref.ensures.value c.vertices.ensures.count c.in_ok-tallies.ensures)
    (omega (arith, c.args.corners.one_each, c.requires.numbering.one_each)) c.requires.least_members c.in_ok-passes.ensures.passes (λ j m. c.args.corners.owned j (omega (arith, c.args.corners.one_each)))
