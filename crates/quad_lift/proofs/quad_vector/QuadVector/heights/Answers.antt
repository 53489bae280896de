-- Each vertex without a height begins the search of its class.
use Rattle.std.proofs.Common.{◌≡◌, ℕ, ◌+◌, ◌*◌, ◌<◌, List, Bool, Vec, Global, false, true, length, replicate, sym, ap, ◌∙◌, subst, subst₂, arith, below_more}
use Rattle.std.specs.List.{slice_index_or}
use Rattle.std.proofs.lemmas.List.{get_or_default, with_items_is, length-replicate}
use Rattle.table_walk_laws.specs.Search.{IsMarked, IsClosed}
use Rattle.table_walk_laws.proofs.SearchLemmas.{none_is_closed, none_marked}
use Rattle.quad_lift.specs.Spreads.{vertices_around, AreSpread}
use Rattle.quad_lift.proofs.SpreadLemmas.{none_spread, all_spread}
use Rattle.quad_lift.proofs.quad_vector.QuadVector.heights.Goals as goal
use Rattle.quad_lift.proofs.quad_vector.QuadVector.heights.Goals.{then-not-index+in_ok-spread, else-not-index}

pub loop-root-init : goal.loop-root-init
loop-root-init c = record {
  spread = none_spread c.args.self.now.skeleton.now c.args.self.now.entries.now c.in_ok-marked.marked.items c.in_ok-heights.heights.items (ap length fresh ∙ length-replicate (4 * c.len-count.result) false ∙ size)
      (ap length start ∙ length-replicate (4 * c.len-count.result) c.args.self.now.start ∙ size) (λ i. ap (λ (ms : List Bool). slice_index_or ms i false) fresh ∙ none_marked (4 * c.len-count.result) i);
  closed = subst (IsClosed (vertices_around c.args.self.now.skeleton.now.rows)) (sym fresh) (none_is_closed (vertices_around c.args.self.now.skeleton.now.rows) (4 * c.len-count.result));
  passed = λ i l. absurd (omega arith);
}
  where
    fresh : c.in_ok-marked.marked.items ≡ replicate (4 * c.len-count.result) false
    fresh = c.in_ok-marked.ensures.items_if_clones_equal (λ y e. e)

    start : c.in_ok-heights.heights.items ≡ replicate (4 * c.len-count.result) c.args.self.now.start
    start = c.in_ok-heights.ensures.items_if_clones_equal (λ y e. e)

    size : 4 * c.len-count.result ≡ 4 * length c.args.self.now.skeleton.now.rows
    size = ap (λ n. 4 * n) (c.len-count.ensures.value ∙ ap length c.table.ensures.rows)

pub loop-root-preserved : goal.loop-root-preserved
loop-root-preserved c = elim c.if-not-index.branch [
  | then-not-index+in_ok-spread w ↦
      let em : c.if-not-index.marked.items ≡ w.spread.new.marked = ap (λ (v : Vec Bool Global). v.items) w.marked-is ∙
      with_items_is c.loop-root.marked w.spread.new.marked (w.spread.auto.marked ∙ ap length w.deref_mut.ensures.value ∙ sym c.loop-root.marked.ok.0) in
      let eh : c.if-not-index.heights.items ≡ w.spread.new.heights = ap (λ (v : Vec ℕ Global). v.items) w.heights-is ∙
      with_items_is c.loop-root.heights w.spread.new.heights (w.spread.auto.heights ∙ ap length w.deref_mut-then-not-index.ensures.value ∙ sym c.loop-root.heights.ok.0) in
      record {
        spread = subst₂ (AreSpread c.args.self.now.skeleton.now c.args.self.now.entries.now) (sym em) (sym eh) w.in_ok-spread.ensures.spread;
        closed = subst (IsClosed (vertices_around c.args.self.now.skeleton.now.rows)) (sym em) w.in_ok-spread.ensures.closed;
        passed = subst (λ (ms : List Bool). (i : ℕ) → i < c.loop-root.root + 1 → IsMarked ms i) (sym em) (below_more (λ i. IsMarked w.spread.new.marked i) c.loop-root.root
            (λ i l. w.in_ok-spread.ensures.kept i (subst (λ (ms : List Bool). IsMarked ms i) (sym w.deref_mut.ensures.value) (c.loop-root.invariant.passed i l))) w.in_ok-spread.ensures.root);
      }
  | else-not-index w ↦
      let marked : slice_index_or c.loop-root.marked.items c.loop-root.root false ≡ true =
      get_or_default c.loop-root.marked.items c.loop-root.root false c.index.result.now inside ∙ sym c.index.ensures ∙ w.if-not-index.false in
      let em : c.if-not-index.marked.items ≡ c.loop-root.marked.items = ap (λ (v : Vec Bool Global). v.items) w.marked-is in
      let eh : c.if-not-index.heights.items ≡ c.loop-root.heights.items = ap (λ (v : Vec ℕ Global). v.items) w.heights-is in
      record {
        spread = subst₂ (AreSpread c.args.self.now.skeleton.now c.args.self.now.entries.now) (sym em) (sym eh) c.loop-root.invariant.spread;
        closed = subst (IsClosed (vertices_around c.args.self.now.skeleton.now.rows)) (sym em) c.loop-root.invariant.closed;
        passed = subst (λ (ms : List Bool). (i : ℕ) → i < c.loop-root.root + 1 → IsMarked ms i) (sym em) (below_more (λ i. IsMarked c.loop-root.marked.items i) c.loop-root.root c.loop-root.invariant.passed marked);
      }
]
  where
    inside : c.loop-root.root < length c.loop-root.marked.items
    inside = omega (arith, c.loop-root-test.true, c.loop-root.invariant.spread.one_mark, c.len-count.ensures.value, ap length c.table.ensures.rows)

pub returns : goal.returns
returns c =
    all_spread c.args.self.now.skeleton.now c.args.self.now.entries.now c.args.self.now.width c.loop-root.marked.items c.loop-root.heights.items c.loop-root.invariant.spread
    (λ i l. c.loop-root.invariant.passed i (omega (arith, c.loop-root-test.false, c.len-count.ensures.value, ap length c.table.ensures.rows)))
