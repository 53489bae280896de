-- A smaller height becomes the least.
use Rattle.std.proofs.Common.{◌≡◌, ℕ, ◌+◌, List, Vec, Global, set, length, replicate, sym, ap, ◌∙◌, subst, arith}
use Rattle.std.specs.Prelude.{slice_index}
use Rattle.std.proofs.lemmas.List.{length-replicate, get_or-replicate, get_or_default}
use Rattle.quad_lift.proofs.LeastHeights.{most, AreLowsBefore, lows_start, lows_stay, lows_fall, lows_all}
use Rattle.quad_lift.proofs.quad_vector.Heights.lows.Goals as goal
use Rattle.quad_lift.proofs.quad_vector.Heights.lows.Goals.{then-self-vertex, else-self-vertex}

pub returns : goal.returns
returns c =
    lows_all c.args.self.now.vector.skeleton.now c.args.self.now.values.now c.vertices.ensures.skeleton c.loop-vertex.vertex c.loop-vertex.lows.items
    (omega (arith, c.loop-vertex-test.false, c.loop-vertex.auto.vertex-end, c.len-vertex-end.ensures.value, ap length c.table.ensures.rows)) (λ i l. omega (arith, c.args.self.now.vector.fits, c.args.self.now.spread.high i l)) c.loop-vertex.invariant

pub loop-vertex-init : goal.loop-vertex-init
loop-vertex-init c =
    lows_start c.args.self.now.vector.skeleton.now c.args.self.now.values.now c.in_ok-lows.lows.items (ap length fresh ∙ length-replicate c.vertices.result most ∙ c.vertices.ensures.count)
    (λ k l. ap (λ (ls : List ℕ). slice_index ls k) fresh ∙ get_or-replicate c.vertices.result k most 0 (omega (arith, c.vertices.ensures.count)))
  where
    fresh : c.in_ok-lows.lows.items ≡ replicate c.vertices.result most
    fresh = c.in_ok-lows.ensures.items_if_clones_equal (λ y e. e)

pub loop-vertex-preserved : goal.loop-vertex-preserved
loop-vertex-preserved c = elim c.if-self-vertex.branch [
  | then-self-vertex w ↦ subst (AreLowsBefore c.args.self.now.vector.skeleton.now c.args.self.now.values.now (c.loop-vertex.vertex + 1))
      (sym (ap (λ (v : Vec ℕ Global). v.items) w.lows-is ∙ ap (λ k. set c.loop-vertex.lows.items k (slice_index c.args.self.now.values.now c.loop-vertex.vertex)) class))
      (lows_fall c.args.self.now.vector.skeleton.now c.args.self.now.values.now c.loop-vertex.vertex c.loop-vertex.lows.items c.loop-vertex.invariant (omega (arith, class, c.vertex_class-class.ensures.below)) (omega (arith, read, w.if-self-vertex.true)))
  | else-self-vertex w ↦ subst (AreLowsBefore c.args.self.now.vector.skeleton.now c.args.self.now.values.now (c.loop-vertex.vertex + 1)) (sym (ap (λ (v : Vec ℕ Global). v.items) w.lows-is))
      (lows_stay c.args.self.now.vector.skeleton.now c.args.self.now.values.now c.loop-vertex.vertex c.loop-vertex.lows.items c.loop-vertex.invariant (omega (arith, read, w.if-self-vertex.false)))
]
  where
    class : c.vertex_class-class.result ≡ slice_index c.args.self.now.vector.skeleton.now.vertices.classes c.loop-vertex.vertex
    class = c.vertex_class-class.ensures.class ∙ ap (slice_index c.args.self.now.vector.skeleton.now.vertices.classes) (omega arith)

    read : slice_index c.loop-vertex.lows.items (slice_index c.args.self.now.vector.skeleton.now.vertices.classes c.loop-vertex.vertex) ≡ c.index.result.now
    read = ap (slice_index c.loop-vertex.lows.items) (sym class)
        ∙ get_or_default c.loop-vertex.lows.items c.vertex_class-class.result 0 c.index.result.now (omega (arith, c.vertex_class-class.ensures.below, c.loop-vertex.invariant.one_each)) ∙ sym c.index.ensures
