-- The accepted moves of one more tetrahedron are appended.
use Rattle.move_definitions.specs.Certificates.{is_accepted}
use Rattle.tri_build.proofs.Listed.{accepted_more}
use Rattle.tri_build.proofs.candidates.append_accepted.Goals as goal

pub loop-tet-preserved : goal.loop-tet-preserved
loop-tet-preserved c =
    accepted_more (is_accepted c.args.table.now) c.args.cores.now c.loop-tet.tet c.loop-tet.moves.items c.args.moves.now.items _ c.loop-tet.invariant c.in_ok-append_at.ensures
