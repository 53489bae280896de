-- One slot more.
use Rattle.std.proofs.Common.{◌≡◌, None, ◌∙◌, subst, arith}
use Rattle.std.proofs.lemmas.List.{length-replicate}
use Rattle.surface_pieces.specs.Joinings.{IsJoinedUpTo}
use Rattle.surface_pieces.specs.Slots.{slots_each}
use Rattle.surface_pieces.proofs.RowsOfPieces.{slot_next}
use Rattle.surface_pieces.proofs.rows.joined_row.Goals as goal

pub loop-slot-init : goal.loop-slot-init
loop-slot-init g c = record { size = length-replicate g.row.N None ∙ c.requires; some = λ s j l e. absurd (omega arith); none = λ s l e. absurd (omega arith) }

pub loop-slot-preserved : goal.loop-slot-preserved
loop-slot-preserved g c =
    slot_next c.args.disc.now.pieces.surface.table.now c.args.disc.now.pieces.surface.coords.system c.args.disc.now.pieces.surface.entries.now c.args.disc.now.piece c.loop-slot.slot c.loop-slot.row c.joined_at.result (omega (arith, c.loop-slot-test.true, c.requires))
    c.loop-slot.invariant (c.joined_at.ensures.some, c.joined_at.ensures.none)

pub returns : goal.returns
returns g c =
    let whole : c.loop-slot.slot ≡ slots_each c.args.disc.now.pieces.surface.coords.system = omega (arith, c.loop-slot-test.false, c.requires) in
    subst (λ n. IsJoinedUpTo c.args.disc.now.pieces.surface.table.now c.args.disc.now.pieces.surface.coords.system c.args.disc.now.pieces.surface.entries.now c.args.disc.now.piece n c.loop-slot.row) whole c.loop-slot.invariant
