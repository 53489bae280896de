-- A drawn move is accepted.
use Rattle.std.proofs.Common.{sym, ap, ◌∙◌}
use Rattle.move_definitions.specs.Certificates.{drawn}
use Rattle.certificate_laws.proofs.Made.{drawn_accepted}
use Rattle.tri_build.proofs.steps.draw_step.Goals as goal

pub play_step-requires : goal.play_step-requires
play_step-requires c =
    drawn_accepted c.args.state c.args.table.now c.in-Some.m (sym (c.in-Some.ensures ∙ ap (drawn c.args.state) (c.deref.ensures.value ∙ c.in_ok-moves.ensures)))
