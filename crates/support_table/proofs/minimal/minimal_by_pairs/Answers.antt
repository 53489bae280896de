use Rattle.std.proofs.Common.{ℕ, List, Bool, ◌≤◌, length, subst, sym, ◌∙◌, arith}
use Rattle.std.specs.Prelude.{IfOk}
use Rattle.std.specs.List.{All}
use Rattle.std.proofs.lemmas.Bool.{eqb-true}
use Rattle.std.proofs.lemmas.Result.{IfOk-weaker}
use Rattle.support_table.specs.declared.candidates.Candidate.{Candidate}
use Rattle.support_table.specs.Candidates.{AreCandidates, AreFound, HasUnionSize}
use Rattle.support_table.specs.Residuals.{AreMinimalOf}
use Rattle.support_table.specs.Groups.{AreAloneAmong}
use Rattle.support_table.proofs.PairLemmas.{none_tested, minimal_tested, found_tested, sized_tested, found_kept, sized_kept}
use Rattle.support_table.proofs.minimal.minimal_by_pairs.Goals as goal

pub returns-then-is_empty : goal.returns-then-is_empty
returns-then-is_empty c joined own most h =
    let found = c.args.pairs.found in
    let selected = c.args.selected.now in
    subst (AreMinimalOf found.table.now.supports found.outer.now joined own most selected) (sym c.new.ensures.items)
    (none_tested found.table.now.supports found.outer.now joined own most found.list.now h selected c.fill_tested.new.tested.items c.in_ok-fill_tested.ensures
    (let e = eqb-true _ 0 (sym c.is_empty.ensures ∙ c.if-is_empty.true) in omega (arith, e, c.fill_tested.new.tested.ok.0)))

pub invariant_of-kept : goal.invariant_of-kept
invariant_of-kept c =
    let found = c.args.pairs.found in
    let supports = found.table.now.supports in
    let outer = found.outer.now in
    let kept = c.fill_kept.new.kept.items in
    record {
      columns = found.columns;
      found = subst (AreFound supports) (sym c.deref-2.ensures.value) (found_kept supports outer found.list.now c.greatest_size.result (length found.list.now) kept c.in_ok-fill_kept.ensures found.found);
      sized = subst (All (HasUnionSize supports outer)) (sym c.deref-2.ensures.value) (sized_kept supports outer found.list.now c.greatest_size.result (length found.list.now) kept c.in_ok-fill_kept.ensures found.sized);
    }

pub alone_among-requires-clause-found : goal.alone_among-requires-clause-found
alone_among-requires-clause-found c =
    let found = c.args.pairs.found in
    subst (AreFound found.table.now.supports) (sym c.deref-3.ensures.value)
    (found_tested found.table.now.supports found.outer.now found.list.now c.args.selected.now (length found.list.now) c.fill_tested.new.tested.items c.in_ok-fill_tested.ensures found.found)

pub alone_among-requires-clause-sized : goal.alone_among-requires-clause-sized
alone_among-requires-clause-sized c =
    let found = c.args.pairs.found in
    subst (All (HasUnionSize found.table.now.supports found.outer.now)) (sym c.deref-3.ensures.value)
    (sized_tested found.table.now.supports found.outer.now found.list.now c.args.selected.now (length found.list.now) c.fill_tested.new.tested.items c.in_ok-fill_tested.ensures found.sized)

pub returns : goal.returns
returns c =
    let found = c.args.pairs.found in
    let supports = found.table.now.supports in
    let outer = found.outer.now in
    let selected = c.args.selected.now in
    let tested = c.fill_tested.new.tested.items in
    let kept = c.fill_kept.new.kept.items in
    let answer = c.alone_among.result in
    let greatest = subst (λ rs. All (λ (r : Candidate). r.size ≤ c.greatest_size.result) rs) c.deref.ensures.value c.greatest_size.ensures in
    IfOk-weaker answer (λ places. AreAloneAmong supports outer kept selected tested places.items)
    (λ places. (joined : List Bool) (own most : ℕ) → AreCandidates supports outer joined own most found.list.now → AreMinimalOf supports outer joined own most selected places.items)
    (λ places a joined own most candidates. minimal_tested supports outer joined own most found.list.now candidates selected tested c.in_ok-fill_tested.ensures c.greatest_size.result greatest kept c.in_ok-fill_kept.ensures a.list a.grouped places.items a.alone)
    (subst (λ rs. IfOk answer (λ places. AreAloneAmong supports outer rs selected tested places.items)) c.deref-2.ensures.value
    (subst (λ rs. IfOk answer (λ places. AreAloneAmong supports outer c.deref-2.result.now selected rs places.items)) c.deref-3.ensures.value c.alone_among.ensures))
