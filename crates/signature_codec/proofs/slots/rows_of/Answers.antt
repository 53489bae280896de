use Rattle.signature_text_laws.proofs.SlotLaws.{slot_rows-more}
use Rattle.signature_codec.proofs.slots.rows_of.Goals as goal

pub loop-tet-preserved : goal.loop-tet-preserved
loop-tet-preserved c = let h = c.in_ok-push.ensures.items in let r = c.row_of.ensures in let i = c.loop-tet.invariant in let m = slot_rows-more c.loop-tet.tet c.args.read_faces.now in cc
