use Rattle.std.proofs.Common.{◌≡◌, ℕ, List, ap}
use Rattle.std.proofs.lemmas.Result.{IfOk-weaker}
use Rattle.table_definitions.specs.Lists.{is_list_before}
use Rattle.signature_laws.specs.Starts.{IsTextFrom}
use Rattle.gluing_table.specs.declared.probe.Probe.{Probe}
use Rattle.canonical_labelling.proofs.Compared.{told_some, told_none}
use Rattle.canonical_labelling.proofs.Searching.{lesser_equal, lesser_before, lesser_behind, equal_by, value_by}
use Rattle.canonical_labelling.proofs.signatures.smaller_text.Goals as goal

pub tie-requires-clause-equal : goal.tie-requires-clause-equal
tie-requires-clause-equal c = equal_by c.args.traversal.now.table.now c.new-probe.result.rows c.args.traversal.now.start c.args.best.text.items c.deref.result.now (ap (λ (p : Probe). p.rows) c.new-probe.ensures) c.deref.ensures.value
    (told_none c.in_ok-before.field-0 _ c.in_default.is c.in_ok-before.ensures.equal)

pub returns-in_default-clause-lesser : goal.returns-in_default-clause-lesser
returns-in_default-clause-lesser c = (lesser_equal c.args.traversal.now.table.now c.args.traversal.now.start c.args.best.text.items
    (equal_by c.args.traversal.now.table.now c.new-probe.result.rows c.args.traversal.now.start c.args.best.text.items c.deref.result.now (ap (λ (p : Probe). p.rows) c.new-probe.ensures) c.deref.ensures.value
    (told_none c.in_ok-before.field-0 _ c.in_default.is c.in_ok-before.ensures.equal)))

pub returns-then-before-clause-lesser : goal.returns-then-before-clause-lesser
returns-then-before-clause-lesser c = IfOk-weaker c.text_from.result _ _
    (λ new h. (lesser_before c.args.traversal.now.table.now c.args.traversal.now.start c.args.best.text.items new.text.items new.by c.in-Some.before c.if-before.true value h))
    c.text_from.ensures
  where
    value : (text : List ℕ) → IsTextFrom c.args.traversal.now.table.now c.args.traversal.now.start text → c.in-Some.before ≡ is_list_before text c.args.best.text.items
    value = value_by c.args.traversal.now.table.now c.new-probe.result.rows c.args.traversal.now.start c.args.best.text.items c.deref.result.now c.in-Some.before (ap (λ (p : Probe). p.rows) c.new-probe.ensures) c.deref.ensures.value
        (told_some c.in_ok-before.field-0 c.in-Some.before (λ b. (text : List ℕ) → IsTextFrom c.new-probe.result.rows c.args.traversal.now.start text → b ≡ is_list_before text c.deref.result.now) c.in-Some.is c.in_ok-before.ensures.value)

pub returns-then-before-clause-found : goal.returns-then-before-clause-found
returns-then-before-clause-found c = IfOk-weaker c.text_from.result _ _
    (λ new h. (c.args.traversal.now.start, h))
    c.text_from.ensures

pub returns-clause-lesser : goal.returns-clause-lesser
returns-clause-lesser c = (lesser_behind c.args.traversal.now.table.now c.args.traversal.now.start c.args.best.text.items c.in-Some.before c.if-before.false value)
  where
    value : (text : List ℕ) → IsTextFrom c.args.traversal.now.table.now c.args.traversal.now.start text → c.in-Some.before ≡ is_list_before text c.args.best.text.items
    value = value_by c.args.traversal.now.table.now c.new-probe.result.rows c.args.traversal.now.start c.args.best.text.items c.deref.result.now c.in-Some.before (ap (λ (p : Probe). p.rows) c.new-probe.ensures) c.deref.ensures.value
        (told_some c.in_ok-before.field-0 c.in-Some.before (λ b. (text : List ℕ) → IsTextFrom c.new-probe.result.rows c.args.traversal.now.start text → b ≡ is_list_before text c.deref.result.now) c.in-Some.is c.in_ok-before.ensures.value)
