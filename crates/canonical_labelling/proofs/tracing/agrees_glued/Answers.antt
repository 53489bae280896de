use Rattle.std.proofs.Common.{rules, ◌≡◌, ◌<◌, ◌∷◌, [], ◌++◌, List, length, arith, refl, subst, sym, ap, ◌∙◌}
use Rattle.table_definitions.specs.Permutation.{identity}
use Rattle.table_definitions.specs.Table.{Gluing}
use Rattle.signature_definitions.specs.Labellings.{Start}
use Rattle.signature_laws.specs.Orders.{start_at, Numbers}
use Rattle.signature_laws.proofs.Marking.{start_is}
use Rattle.canonical_labelling.proofs.TraceLemmas.{mapped, visited_numbers}
use Rattle.canonical_labelling.proofs.tracing.agrees_glued.Goals as goal

pub returns-then-number-len-clause-agrees : goal.returns-then-number-len-clause-agrees
returns-then-number-len-clause-agrees c = λ by h.
    let tet : c.expected.inside.tet ≡ c.args.expected.tet = ap (λ (g : Gluing). g.tet) c.expected.view_is in
    let low : c.expected.inside.tet < length c.args.trace.now.order.items = omega (arith, c.if-number-len.true, c.len.ensures, c.args.trace.now.order.ok) in
    let is = start_is c.args.trace.now.order.items c.expected.inside.tet c.index.result.now low c.index.ensures in
    let m = mapped _ c.args.trace.now.order.items c.args.from c.args.glue c.args.expected by h c.args.trace.now.below c.index.result.now (is ∙ ap (start_at c.args.trace.now.order.items) tet) (omega (arith, low, tet)) in
    (c.maps_to.ensures m.0 m.1, h.numbers)

pub returns-clause-agrees : goal.returns-clause-agrees
returns-clause-agrees c = λ by h. (
  refl,
  subst (λ (order : List Start). Numbers order by) (sym (c.in_ok-push.ensures.items ∙ ap (λ s. c.args.trace.now.order.items ++ s ∷ []) c.start_across.ensures))
      (visited_numbers _ c.args.trace.now.order.items c.args.from c.args.glue c.args.expected by h c.args.trace.now.below next identical),
)
  where
    next : c.args.expected.tet ≡ length c.args.trace.now.order.items
    next =
        let tet : c.expected.inside.tet ≡ c.args.expected.tet = ap (λ (g : Gluing). g.tet) c.expected.view_is in
        omega (arith, tet, c.if-number-len.false, c.if-number-len-2.false, c.len.ensures, c.len-2.ensures, c.args.trace.now.order.ok)

    identical : c.args.expected.perm ≡ identity
    identical = search rules
