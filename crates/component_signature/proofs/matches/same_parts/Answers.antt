-- Components with equal signatures are matched, and the relabelling written from them carries the one table to the
-- other.
use Rattle.std.proofs.Common.{◌≡◌, List, length, ap, subst, subst₂, sym, ◌∙◌}
use Rattle.std.specs.Prelude.{IsTrue}
use Rattle.table_definitions.specs.Relabelling.{Relabelling, IsRelabelling}
use Rattle.signature_definitions.specs.Labellings.{Relabels}
use Rattle.component_definitions.specs.SameParts.{IsSameParts}
use Rattle.component_signature.specs.declared.order.PartSignature.{PartSignature}
use Rattle.component_signature.specs.Entries.{entries_of}
use Rattle.component_laws.specs.Ordered.{texts_of}
use Rattle.component_laws.proofs.MatchLemmas.{differ}
use Rattle.component_signature.proofs.DraftsOfParts.{relabelling_of, told_of, relabels_of}
use Rattle.component_signature.proofs.matches.same_parts.Goals as goal

-- the signatures of both
abbrev Agree : List PartSignature → List PartSignature → Type 0
Agree first second = texts_of (entries_of first) ≡ texts_of (entries_of second)

pub returns-then-not-agree-clause-none : goal.returns-then-not-agree-clause-none
returns-then-not-agree-clause-none c =
    differ c.args.first.now c.args.second.now c.in_ok-parts.parts.parts.items c.in_ok-others.others.parts.items (entries_of c.in_ok-parts.parts.signed.items) (entries_of c.in_ok-others.others.signed.items)
    c.in_ok-parts.ensures.is_table c.in_ok-others.ensures.is_table c.in_ok-parts.ensures.parts c.in_ok-others.ensures.parts c.in_ok-parts.ensures.order c.in_ok-others.ensures.order
    (λ e. let t : IsTrue c.agree.result = c.agree.ensures.1 (subst₂ Agree (sym c.deref.ensures.value) (sym c.deref-2.ensures.value) e) in let f = c.if-not-agree.true in cc)

pub relabelling-requires : goal.relabelling-requires
relabelling-requires c =
    let agree : Agree c.in_ok-parts.parts.signed.items c.in_ok-others.others.signed.items = subst₂ Agree c.deref.ensures.value c.deref-2.ensures.value (c.agree.ensures.0 (let f = c.if-not-agree.false in cc)) in
    subst (λ n. IsRelabelling n c.in_ok-draft.draft) (sym (c.in_ok-draft.ensures.images ∙ c.len.ensures.value))
    (relabelling_of c.args.first.now c.args.second.now c.in_ok-parts.parts.parts.items c.in_ok-others.others.parts.items c.in_ok-parts.parts.signed.items c.in_ok-others.others.signed.items
    c.in_ok-parts.ensures.is_table c.in_ok-others.ensures.is_table c.in_ok-parts.ensures.parts c.in_ok-others.ensures.parts c.in_ok-parts.ensures.order c.in_ok-others.ensures.order agree
    c.in_ok-draft.draft (c.in_ok-draft.ensures.images ∙ c.len.ensures.value) (c.in_ok-draft.ensures.perms ∙ c.len.ensures.value) c.in_ok-draft.ensures.written)

pub returns-clause-reported : goal.returns-clause-reported
returns-clause-reported c =
    let agree : Agree c.in_ok-parts.parts.signed.items c.in_ok-others.others.signed.items = subst₂ Agree c.deref.ensures.value c.deref-2.ensures.value (c.agree.ensures.0 (let f = c.if-not-agree.false in cc)) in
    subst (IsSameParts c.args.first.now c.args.second.now) (sym c.relabelling.ensures)
    (told_of c.args.first.now c.args.second.now c.in_ok-parts.parts.parts.items c.in_ok-others.others.parts.items c.in_ok-parts.parts.signed.items c.in_ok-others.others.signed.items
    c.in_ok-parts.ensures.is_table c.in_ok-others.ensures.is_table c.in_ok-parts.ensures.parts c.in_ok-others.ensures.parts c.in_ok-parts.ensures.order c.in_ok-others.ensures.order agree
    c.in_ok-draft.draft (c.in_ok-draft.ensures.images ∙ c.len.ensures.value) (c.in_ok-draft.ensures.perms ∙ c.len.ensures.value) c.in_ok-draft.ensures.written)

pub returns-clause-relabels : goal.returns-clause-relabels
returns-clause-relabels c =
    let agree : Agree c.in_ok-parts.parts.signed.items c.in_ok-others.others.signed.items = subst₂ Agree c.deref.ensures.value c.deref-2.ensures.value (c.agree.ensures.0 (let f = c.if-not-agree.false in cc)) in
    subst (Relabels c.args.first.now c.args.second.now) (sym c.relabelling.ensures)
    (relabels_of c.args.first.now c.args.second.now c.in_ok-parts.parts.parts.items c.in_ok-others.others.parts.items c.in_ok-parts.parts.signed.items c.in_ok-others.others.signed.items
    c.in_ok-parts.ensures.is_table c.in_ok-others.ensures.is_table c.in_ok-parts.ensures.parts c.in_ok-others.ensures.parts c.in_ok-parts.ensures.order c.in_ok-others.ensures.order agree
    c.in_ok-draft.draft (c.in_ok-draft.ensures.images ∙ c.len.ensures.value) (c.in_ok-draft.ensures.perms ∙ c.len.ensures.value) c.in_ok-draft.ensures.written)

pub returns-clause-size : goal.returns-clause-size
returns-clause-size c = ap (λ (by : Relabelling). length by.images) c.relabelling.ensures ∙ c.in_ok-draft.ensures.images ∙ c.len.ensures.value
