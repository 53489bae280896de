-- Each entry by its lemma.
use Rattle.std.proofs.Common.{◌≡◌, ◌<◌, ℕ, Vec, Global, None, Some, length, ap, subst, ◌∙◌, arith}
use Rattle.std.specs.List.{slice_index_or}
use Rattle.std.proofs.lemmas.List.{take_all}
use Rattle.table_walk_laws.specs.Joined.{present}
use Rattle.finite_walks.specs.Rows.{IsRowMarked}
use Rattle.table_walk_laws.proofs.Rows.{present_contains}
use Rattle.finite_walks.proofs.RowMarks.{none_done, marks_one, passes_one, skips_one}
use Rattle.finite_walks.proofs.mark_row.Goals as goal
use Rattle.finite_walks.proofs.mark_row.Goals.{in-Some+then-not-marked-other+in_ok-push, in-Some+else-not-marked-other, in_default}

pub bounds-marked-other : goal.bounds-marked-other
bounds-marked-other c = omega (arith, c.loop-neighbour.invariant.size, c.requires c.in-Some.other (present_contains c.args.row.now c.loop-neighbour.neighbour-index c.in-Some.other c.in-Some.is))

pub bounds-marked-other-then-not-marked-other : goal.bounds-marked-other-then-not-marked-other
bounds-marked-other-then-not-marked-other c =
    omega (arith, c.loop-neighbour.invariant.size, c.requires c.in-Some.other (present_contains c.args.row.now c.loop-neighbour.neighbour-index c.in-Some.other c.in-Some.is))

pub loop-neighbour-preserved : goal.loop-neighbour-preserved
loop-neighbour-preserved c = elim c.match-neighbour.branch [
  | in-Some+then-not-marked-other+in_ok-push w ↦
      marks_one c.args.row.now c.loop-neighbour.neighbour-index c.loop-neighbour-test.true c.args.marked.now c.loop-neighbour.marked c.args.pending.now.items c.loop-neighbour.pending.items
      c.loop-neighbour.invariant c.match-neighbour.marked c.match-neighbour.pending.items w.in-Some.other w.in-Some.is (below w.in-Some.other w.in-Some.is) w.if-not-marked-other.true
      w.marked-is (ap (λ (v : Vec ℕ Global). v.items) w.pending-is ∙ w.in_ok-push.ensures.items)
  | in-Some+else-not-marked-other w ↦
      passes_one c.args.row.now c.loop-neighbour.neighbour-index c.loop-neighbour-test.true c.args.marked.now c.loop-neighbour.marked c.args.pending.now.items c.loop-neighbour.pending.items
      c.loop-neighbour.invariant c.match-neighbour.marked c.match-neighbour.pending.items w.marked-is (ap (λ (v : Vec ℕ Global). v.items) w.pending-is) w.in-Some.other w.in-Some.is w.if-not-marked-other.false
  | in_default w ↦
      skips_one c.args.row.now c.loop-neighbour.neighbour-index c.loop-neighbour-test.true c.args.marked.now c.loop-neighbour.marked c.args.pending.now.items c.loop-neighbour.pending.items
      c.loop-neighbour.invariant c.match-neighbour.marked c.match-neighbour.pending.items w.marked-is (ap (λ (v : Vec ℕ Global). v.items) w.pending-is) w.in_default.is
]
  where
    below : (other : ℕ) → slice_index_or c.args.row.now c.loop-neighbour.neighbour-index None ≡ Some other → other < length c.loop-neighbour.marked
    below other e = omega (arith, c.loop-neighbour.invariant.size, c.requires other (present_contains c.args.row.now c.loop-neighbour.neighbour-index other e))

pub loop-neighbour-init : goal.loop-neighbour-init
loop-neighbour-init c = none_done (present c.args.row.now) c.args.marked.now c.args.pending.now.items

pub returns : goal.returns
returns c = subst (λ row. IsRowMarked (present c.args.row.now) (present row) c.args.marked.now c.loop-neighbour.marked c.args.pending.now.items c.loop-neighbour.pending.items)
    (take_all c.loop-neighbour.neighbour-index c.args.row.now c.loop-neighbour-test.false) c.loop-neighbour.invariant
