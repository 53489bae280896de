-- The parts are the text.
use Rattle.std.proofs.Common.{ap}
use Rattle.move_definitions.specs.Moves.{Move}
use Rattle.move_undo.proofs.WrittenParts.{put_together}
use Rattle.move_undo.proofs.writer.text_of.Goals as goal

pub returns : goal.returns
returns c =
    put_together c.args.m c.size.result c.m.inside.core c.new-text.result.items c.append_head.new.out.items c.append_core.new.out.items c.append.new.out.items c.m.inside.tet
    (ap (λ (m : Move). m.tet) c.m.view_is) (ap (λ (m : Move). m.core) c.m.view_is) c.size.ensures.value c.size.ensures.some c.size.ensures.most c.size.ensures.core
    c.new-text.ensures.items c.in_ok-append_head.ensures c.in_ok-append_core.ensures c.in_ok-append.ensures.ok
