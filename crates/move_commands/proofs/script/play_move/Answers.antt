-- The answer to a refused move is its error.
use Rattle.move_commands.proofs.ScriptLines.{on_ok, refused_step}
use Rattle.move_commands.proofs.script.play_move.Goals as goal

pub returns-in-Err-Illegal : goal.returns-in-Err-Illegal
returns-in-Err-Illegal c =
    on_ok c.append_illegal.result _ _
    (λ grown. refused_step c.args.session.now c.play.new.self c.args.m c.in-Err-Illegal.fault c.in-Err-Illegal.field-0 c.args.out.now.items c.append_illegal.new.out.items c.in-Err-Illegal.field-0-is
    c.in-Err-Illegal.ensures.fault c.in-Err-Illegal.ensures.left grown) c.append_illegal.ensures
