-- The search begins at the root, whose class has no heights yet, and ends with all of its class.
use Rattle.std.proofs.Common.{◌≡◌, ◌+◌, [], ◌∷◌, ◌++◌, true, set, length, refl, sym, ap, ◌∙◌, subst, arith}
use Rattle.std.proofs.lemmas.List.{length-append, nil_from_length}
use Rattle.basic_lemmas.proofs.Members.{contains_at}
use Rattle.table_walk_laws.specs.Search.{IsSearch}
use Rattle.table_walk_laws.proofs.SearchLemmas.{search_begins, search_ends, turn_starts, marked_is}
use Rattle.quad_lift.specs.Spreads.{vertices_around}
use Rattle.quad_lift.proofs.SpreadLemmas.{spread_root}
use Rattle.quad_lift.proofs.quad_vector.QuadVector.spread.Goals as goal

pub loop-vertex-init : goal.loop-vertex-init
loop-vertex-init c = record {
  spread = spread_root c.args.self.now.skeleton.now c.requires.skeleton c.args.self.now.entries.now c.args.self.now.width c.args.marked.now c.args.heights.now c.requires.spread c.requires.closed c.args.root c.requires.in_range c.requires.unmarked c.args.self.now.start c.args.self.now.four_times;
  search = subst (IsSearch (vertices_around c.args.self.now.skeleton.now.rows) (set c.args.marked.now c.args.root true) (set c.args.marked.now c.args.root true)) (sym first)
      (search_begins (vertices_around c.args.self.now.skeleton.now.rows) c.args.marked.now c.args.root c.requires.closed (omega (arith, c.requires.spread.one_mark, c.requires.in_range)));
}
  where
    first : c.push.new.self.items ≡ c.args.root ∷ []
    first = c.in_ok-push.ensures.items ∙ ap (λ xs. xs ++ c.args.root ∷ []) c.new-pending.ensures.items

pub cross_all-requires-clause-marked : goal.cross_all-requires-clause-marked
cross_all-requires-clause-marked c =
    (turn_starts (vertices_around c.args.self.now.skeleton.now.rows) (set c.args.marked.now c.args.root true) c.in-Some.vertex c.loop-vertex.marked c.loop-vertex.pending.items c.pop.new.self.items
    c.loop-vertex.invariant.search c.in-Some.ensures.items).search.pending_marked c.in-Some.vertex (contains_at (c.in-Some.vertex ∷ c.pop.new.self.items) 0 c.in-Some.vertex (omega arith) refl)

pub loop-vertex-smaller : goal.loop-vertex-smaller
loop-vertex-smaller c =
    let fewer : length c.loop-vertex.pending.items ≡ length c.pop.new.self.items + 1 = ap length c.in-Some.ensures.items ∙ length-append c.pop.new.self.items (c.in-Some.vertex ∷ []) in
    omega (arith, c.in_ok-cross_all.ensures.work)

pub loop-vertex-preserved : goal.loop-vertex-preserved
loop-vertex-preserved c = record {
  spread = c.in_ok-cross_all.ensures.spread;
  search = c.in_ok-cross_all.ensures.turn (set c.args.marked.now c.args.root true)
      (turn_starts (vertices_around c.args.self.now.skeleton.now.rows) (set c.args.marked.now c.args.root true) c.in-Some.vertex c.loop-vertex.marked c.loop-vertex.pending.items c.pop.new.self.items
      c.loop-vertex.invariant.search c.in-Some.ensures.items);
}

pub returns-clause-closed : goal.returns-clause-closed
returns-clause-closed c =
    let none : c.loop-vertex.pending.items ≡ [] = nil_from_length c.loop-vertex.pending.items (sym c.loop-vertex.pending.ok.0 ∙ c.in_default.ensures.cases.0) in
    (search_ends (vertices_around c.args.self.now.skeleton.now.rows) (set c.args.marked.now c.args.root true) c.loop-vertex.marked
    (subst (IsSearch (vertices_around c.args.self.now.skeleton.now.rows) (set c.args.marked.now c.args.root true) c.loop-vertex.marked) none c.loop-vertex.invariant.search)).closed

pub returns-clause-root : goal.returns-clause-root
returns-clause-root c = c.loop-vertex.invariant.search.kept c.args.root (marked_is c.args.marked.now c.args.root (omega (arith, c.requires.spread.one_mark, c.requires.in_range)))
