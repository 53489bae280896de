use Rattle.std.proofs.Common.{◌≡◌, ◌<◌, ◌/◌, ◌%◌, subst, Some, None, length, arith, ap, sym, ◌∙◌}
use Rattle.table_definitions.specs.Table.{glue}
use Rattle.signature_laws.specs.Orders.{face_from}
use Rattle.signature_laws.proofs.Marking.{start_is}
use Rattle.canonical_labelling.specs.Traces.{AreBelow}
use Rattle.canonical_labelling.proofs.TraceLemmas.{IsCompared, target_none, not_boundary, glued_agrees, none_by_test}
use Rattle.canonical_labelling.proofs.tracing.agrees_at.Goals as goal

pub returns-in_default-clause-agrees : goal.returns-in_default-clause-agrees
returns-in_default-clause-agrees c = λ by r numbers.
    let low : c.args.place / 4 < length c.args.trace.now.order.items = omega (arith, c.if-number-len.false, c.len.ensures, c.args.trace.now.order.ok) in
    let h : IsCompared c.args.table.now c.args.target.now c.args.trace.now.order.items c.args.place c.index-from.result.now = record {
      table = c.glue.ensures.is_table;
      below = subst (λ n. AreBelow n c.args.trace.now.order.items) c.requires.size c.args.trace.now.below;
      numbered = low;
      is = start_is c.args.trace.now.order.items (c.args.place / 4) c.index-from.result.now low c.index-from.ensures;
      permutes = c.face_from.ensures.permutes;
    } in
    let there : glue c.args.table.now (face_from c.index-from.result.now (c.args.place % 4)) ≡ None = ap (glue c.args.table.now) (sym c.face_from.ensures.value) ∙ sym c.glue.ensures.value ∙ c.in_default.is in
    let none = target_none c.args.table.now c.args.target.now c.args.trace.now.order.items c.args.place c.index-from.result.now h by r numbers there in
    (none_by_test c.glue-expected.result c.is_none.result (c.glue-expected.ensures.value ∙ none) c.is_none.ensures, numbers)

pub returns-in_default-expected-clause-agrees : goal.returns-in_default-expected-clause-agrees
returns-in_default-expected-clause-agrees c = λ by r numbers.
    let low : c.args.place / 4 < length c.args.trace.now.order.items = omega (arith, c.if-number-len.false, c.len.ensures, c.args.trace.now.order.ok) in
    let h : IsCompared c.args.table.now c.args.target.now c.args.trace.now.order.items c.args.place c.index-from.result.now = record {
      table = c.glue.ensures.is_table;
      below = subst (λ n. AreBelow n c.args.trace.now.order.items) c.requires.size c.args.trace.now.below;
      numbered = low;
      is = start_is c.args.trace.now.order.items (c.args.place / 4) c.index-from.result.now low c.index-from.ensures;
      permutes = c.face_from.ensures.permutes;
    } in
    let there : glue c.args.table.now (face_from c.index-from.result.now (c.args.place % 4)) ≡ Some c.in-Some.glue = ap (glue c.args.table.now) (sym c.face_from.ensures.value) ∙ sym c.glue.ensures.value ∙ c.in-Some.is in
    absurd (not_boundary c.args.table.now c.args.target.now c.args.trace.now.order.items c.args.place c.index-from.result.now h by r numbers c.in-Some.glue there (sym c.glue-expected.ensures.value ∙ c.in_default-expected.is))

pub returns-clause-agrees : goal.returns-clause-agrees
returns-clause-agrees c =
    let low : c.args.place / 4 < length c.args.trace.now.order.items = omega (arith, c.if-number-len.false, c.len.ensures, c.args.trace.now.order.ok) in
    let h : IsCompared c.args.table.now c.args.target.now c.args.trace.now.order.items c.args.place c.index-from.result.now = record {
      table = c.glue.ensures.is_table;
      below = subst (λ n. AreBelow n c.args.trace.now.order.items) c.requires.size c.args.trace.now.below;
      numbered = low;
      is = start_is c.args.trace.now.order.items (c.args.place / 4) c.index-from.result.now low c.index-from.ensures;
      permutes = c.face_from.ensures.permutes;
    } in
    let there : glue c.args.table.now (face_from c.index-from.result.now (c.args.place % 4)) ≡ Some c.in-Some.glue = ap (glue c.args.table.now) (sym c.face_from.ensures.value) ∙ sym c.glue.ensures.value ∙ c.in-Some.is in
    glued_agrees c.args.table.now c.args.target.now c.args.trace.now.order.items c.agrees_glued.new.trace.order.items c.args.place (length c.args.trace.now.numbers.items) c.index-from.result.now c.in-Some.glue c.in-Some-expected.expected c.agrees_glued.result
    h c.requires.size there (sym c.glue-expected.ensures.value ∙ c.in-Some-expected.is) c.agrees_glued.ensures.agrees
