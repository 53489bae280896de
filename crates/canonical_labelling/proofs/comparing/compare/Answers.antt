-- The head is compared with the bound, then the types, and then the whole text.
use Rattle.std.proofs.Common.{◌≡◌, ℕ, List, ◌-◌, length, ap, sym, ◌∙◌}
use Rattle.table_definitions.specs.Table.{Row, Gluing}
use Rattle.signature_laws.specs.Starts.{IsTextFrom}
use Rattle.canonical_labelling.specs.Comparisons.{reported, head_text, IsDecided, IsUndecided, comparison_view}
use Rattle.canonical_labelling.proofs.Compared.{head_tells, told_some, told_none, types_tell, whole_of, whole_is, whole_tells, whole_equals, not_true, reads_all}
use Rattle.canonical_labelling.proofs.comparing.compare.Goals as goal

pub returns-in-Some-clause-value : goal.returns-in-Some-clause-value
returns-in-Some-clause-value c =
    let rows : List Row = c.args.probe.now.rows in
    let text : c.deref.result.now ≡ head_text (length rows) = c.deref.ensures.value ∙ c.requires.space.head in
    head_tells rows c.args.start c.args.bound.now c.in-Some.before (ap (λ t. reported t c.args.bound.now) (sym text) ∙ sym c.compare_head.ensures ∙ c.in-Some.is)

pub returns-in-Some-2-clause-value : goal.returns-in-Some-2-clause-value
returns-in-Some-2-clause-value c =
    types_tell c.args.probe.now.rows c.args.start c.args.bound.now (c.compare_types.new.probe.taken - c.args.probe.now.taken) c.in-Some-2.before
    (told_some c.in_ok-before.field-0 c.in-Some-2.before (IsDecided c.args.probe.now.rows c.args.start c.args.bound.now (c.compare_types.new.probe.taken - c.args.probe.now.taken)) c.in-Some-2.is c.in_ok-before.ensures.reported)

pub returns-in-Some-2-clause-limited : goal.returns-in-Some-2-clause-limited
returns-in-Some-2-clause-limited c = λ e.
    (told_some c.in_ok-before.field-0 c.in-Some-2.before (IsDecided c.args.probe.now.rows c.args.start c.args.bound.now (c.compare_types.new.probe.taken - c.args.probe.now.taken)) c.in-Some-2.is c.in_ok-before.ensures.reported).limited
    (not_true c.in-Some-2.before e)

pub returns-clause-value : goal.returns-clause-value
returns-clause-value c = whole_tells c.args.probe.now.rows c.args.start c.args.bound.now c.deref-2.result.now c.order.result whole c.order.ensures.before
  where
    whole : (text : List ℕ) → IsTextFrom c.args.probe.now.rows c.args.start text → c.deref-2.result.now ≡ text
    whole text t =
        let rows : List Row = c.args.probe.now.rows in
        let types : List ℕ = c.compare_types.new.space.comparison.types.items in
        let gs : List Gluing = c.compare_types.new.space.comparison.gluings.items in
        let untold = told_none c.in_ok-before.field-0 (IsUndecided rows c.args.start c.args.bound.now (comparison_view c.compare_types.new.space.comparison)) c.in_default-2.is c.in_ok-before.ensures.untold in
        let is : c.in_ok-text.text.items ≡ whole_of (length rows) types gs =
        c.in_ok-text.ensures ∙ ap (λ n. whole_of n types gs) (c.len.ensures ∙ ap (λ (r : List Row). length r) c.in_ok-before.ensures.rows) in
        whole_is rows c.args.start c.args.bound.now (comparison_view c.compare_types.new.space.comparison) c.deref-2.result.now untold (c.deref-2.ensures.value ∙ is) text t

pub returns-clause-equal : goal.returns-clause-equal
returns-clause-equal c = whole_equals c.args.probe.now.rows c.args.start c.args.bound.now c.deref-2.result.now c.order.result whole c.order.ensures.equal
  where
    whole : (text : List ℕ) → IsTextFrom c.args.probe.now.rows c.args.start text → c.deref-2.result.now ≡ text
    whole text t =
        let rows : List Row = c.args.probe.now.rows in
        let types : List ℕ = c.compare_types.new.space.comparison.types.items in
        let gs : List Gluing = c.compare_types.new.space.comparison.gluings.items in
        let untold = told_none c.in_ok-before.field-0 (IsUndecided rows c.args.start c.args.bound.now (comparison_view c.compare_types.new.space.comparison)) c.in_default-2.is c.in_ok-before.ensures.untold in
        let is : c.in_ok-text.text.items ≡ whole_of (length rows) types gs =
        c.in_ok-text.ensures ∙ ap (λ n. whole_of n types gs) (c.len.ensures ∙ ap (λ (r : List Row). length r) c.in_ok-before.ensures.rows) in
        whole_is rows c.args.start c.args.bound.now (comparison_view c.compare_types.new.space.comparison) c.deref-2.result.now untold (c.deref-2.ensures.value ∙ is) text t

pub returns-clause-limited : goal.returns-clause-limited
returns-clause-limited c = λ e.
    reads_all c.args.probe.now.rows c.args.start c.args.bound.now (comparison_view c.compare_types.new.space.comparison) (c.compare_types.new.probe.taken - c.args.probe.now.taken)
    (told_none c.in_ok-before.field-0 (IsUndecided c.args.probe.now.rows c.args.start c.args.bound.now (comparison_view c.compare_types.new.space.comparison)) c.in_default-2.is c.in_ok-before.ensures.untold)
