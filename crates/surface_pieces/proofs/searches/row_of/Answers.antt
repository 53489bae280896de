-- One slot more.
use Rattle.std.proofs.Common.{◌≡◌, ◌+◌, ◌<◌, ℕ, List, length, Option, None, inl, inr, set, sym, ap, ◌∙◌, subst, arith}
use Rattle.std.specs.List.{slice_index_or}
use Rattle.std.proofs.lemmas.Bool.{cases_eq}
use Rattle.std.proofs.lemmas.List.{length-set, length-replicate, get_or-set_same, get_or-set_other, get_or_default}
use Rattle.surface_pieces.specs.Across.{Across}
use Rattle.surface_pieces.specs.declared.joined.SearchKind.{SearchKind}
use Rattle.surface_pieces.specs.Readings.{IsReadUpTo, read_at}
use Rattle.surface_pieces.proofs.searches.row_of.Goals as goal

read_next : (kind : SearchKind) (k slot : ℕ) (joined : List (Option Across)) (row : List (Option ℕ)) (o : Option ℕ) → slot < length joined → IsReadUpTo kind k slot joined row → o ≡ read_at kind k (slice_index_or joined slot None)
    → IsReadUpTo kind k (slot + 1) joined (set row slot o)
read_next kind k slot joined row o l u e = record {
  size = length-set row slot o ∙ u.size;
  each = λ s ls. elim (cases_eq s slot) [
    | inl same ↦ ap (λ t. slice_index_or (set row slot o) t None) same ∙ get_or-set_same row slot o None (omega (arith, u.size)) ∙ e ∙ ap (λ t. read_at kind k (slice_index_or joined t None)) (sym same)
    | inr separate ↦ get_or-set_other row slot s o None separate ∙ u.each s (omega arith)
  ];
}

pub loop-slot-init : goal.loop-slot-init
loop-slot-init g c = record { size = length-replicate g.row.N None ∙ sym c.type_inv.joined; each = λ s l. absurd (omega arith) }

pub loop-slot-preserved : goal.loop-slot-preserved
loop-slot-preserved g c = read_next c.args.kind c.args.number c.loop-slot.slot c.args.joined.now c.loop-slot.row c.number_at.result (omega (arith, c.type_inv.joined, c.loop-slot-test.true)) c.loop-slot.invariant
    (c.number_at.ensures ∙ ap (read_at c.args.kind c.args.number) (get_or_default c.args.joined.now c.loop-slot.slot c.index-joined-slot.result None (omega (arith, c.type_inv.joined, c.loop-slot-test.true))))

pub returns : goal.returns
returns g c =
    let whole : c.loop-slot.slot ≡ length c.args.joined.now = omega (arith, c.loop-slot-test.false, c.type_inv.joined) in
    subst (λ n. IsReadUpTo c.args.kind c.args.number n c.args.joined.now c.loop-slot.row) whole c.loop-slot.invariant
