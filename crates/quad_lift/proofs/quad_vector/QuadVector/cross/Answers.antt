-- The vertex across the face is skipped, or gets the height that follows from the crossing.
use Rattle.std.proofs.Common.{set, true, ap, ◌∙◌, arith}
use Rattle.table_walk_laws.specs.Search.{work_left}
use Rattle.table_walk_laws.proofs.SearchLemmas.{has_few_turns}
use Rattle.quad_lift.proofs.SpreadLemmas.{met, fits_up, fits_down, spread_on}
use Rattle.quad_lift.proofs.RoundTurns.{turn_skips, turn_finds, turn_adds}
use Rattle.quad_lift.proofs.quad_vector.QuadVector.cross.Goals as goal

pub returns-in_default-clause-turn : goal.returns-in_default-clause-turn
returns-in_default-clause-turn c = λ first t.
    turn_skips c.args.self.now.skeleton.now.rows first c.args.at.vertex c.args.at.face c.args.at.a_face c.args.marked.now c.args.pending.now.items t c.in_default.ensures.none

pub bounds-marked-other : goal.bounds-marked-other
bounds-marked-other c = omega (arith, (met c.args.self.now.skeleton.now c.across.ensures.skeleton c.args.self.now.entries.now c.args.marked.now c.args.heights.now c.requires.spread c.args.at.vertex c.args.at.face c.in-Some.step.other c.in-Some.step.up c.in-Some.step.down c.requires.marked c.in-Some.ensures.some).in_range, c.requires.spread.one_mark)

pub returns-then-marked-other-clause-turn : goal.returns-then-marked-other-clause-turn
returns-then-marked-other-clause-turn c = λ first t.
    turn_finds c.args.self.now.skeleton.now.rows first c.args.at.vertex c.args.at.face c.args.at.a_face c.args.marked.now c.args.pending.now.items t c.in-Some.step.other (met c.args.self.now.skeleton.now c.across.ensures.skeleton c.args.self.now.entries.now c.args.marked.now c.args.heights.now c.requires.spread c.args.at.vertex c.args.at.face c.in-Some.step.other c.in-Some.step.up c.in-Some.step.down c.requires.marked c.in-Some.ensures.some).crossed c.if-marked-other.true

pub overflow_add-heights : goal.overflow_add-heights
overflow_add-heights c = omega (arith, c.args.self.now.fits, fits_up c.args.self.now.skeleton.now c.across.ensures.skeleton c.args.self.now.entries.now c.args.self.now.width c.args.marked.now c.args.heights.now c.requires.spread c.args.at.vertex c.args.at.face c.in-Some.step.other c.in-Some.step.up c.in-Some.step.down c.requires.marked (met c.args.self.now.skeleton.now c.across.ensures.skeleton c.args.self.now.entries.now c.args.marked.now c.args.heights.now c.requires.spread c.args.at.vertex c.args.at.face c.in-Some.step.other c.in-Some.step.up c.in-Some.step.down c.requires.marked c.in-Some.ensures.some))

pub overflow_sub-heights : goal.overflow_sub-heights
overflow_sub-heights c = fits_down c.args.self.now.skeleton.now c.across.ensures.skeleton c.args.self.now.entries.now c.args.self.now.width c.args.marked.now c.args.heights.now c.requires.spread c.args.at.vertex c.args.at.face c.in-Some.step.other c.in-Some.step.up c.in-Some.step.down c.requires.marked (met c.args.self.now.skeleton.now c.across.ensures.skeleton c.args.self.now.entries.now c.args.marked.now c.args.heights.now c.requires.spread c.args.at.vertex c.args.at.face c.in-Some.step.other c.in-Some.step.up c.in-Some.step.down c.requires.marked c.in-Some.ensures.some) c.if-marked-other.false

pub bounds-heights-other : goal.bounds-heights-other
bounds-heights-other c = omega (arith, (met c.args.self.now.skeleton.now c.across.ensures.skeleton c.args.self.now.entries.now c.args.marked.now c.args.heights.now c.requires.spread c.args.at.vertex c.args.at.face c.in-Some.step.other c.in-Some.step.up c.in-Some.step.down c.requires.marked c.in-Some.ensures.some).in_range, c.requires.spread.one_height)

pub bounds-marked-other-2 : goal.bounds-marked-other-2
bounds-marked-other-2 c = omega (arith, (met c.args.self.now.skeleton.now c.across.ensures.skeleton c.args.self.now.entries.now c.args.marked.now c.args.heights.now c.requires.spread c.args.at.vertex c.args.at.face c.in-Some.step.other c.in-Some.step.up c.in-Some.step.down c.requires.marked c.in-Some.ensures.some).in_range, c.requires.spread.one_mark)

pub returns-clause-spread : goal.returns-clause-spread
returns-clause-spread c = spread_on c.args.self.now.skeleton.now c.across.ensures.skeleton c.args.self.now.entries.now c.args.self.now.width c.args.marked.now c.args.heights.now c.requires.spread c.args.at.vertex c.args.at.face c.in-Some.step.other c.in-Some.step.up c.in-Some.step.down c.requires.marked (met c.args.self.now.skeleton.now c.across.ensures.skeleton c.args.self.now.entries.now c.args.marked.now c.args.heights.now c.requires.spread c.args.at.vertex c.args.at.face c.in-Some.step.other c.in-Some.step.up c.in-Some.step.down c.requires.marked c.in-Some.ensures.some) c.if-marked-other.false

pub returns-clause-turn : goal.returns-clause-turn
returns-clause-turn c = λ first t.
    turn_adds c.args.self.now.skeleton.now.rows first c.args.at.vertex c.args.at.face c.args.at.a_face c.args.marked.now c.args.pending.now.items t c.in-Some.step.other c.push.new.self.items (met c.args.self.now.skeleton.now c.across.ensures.skeleton c.args.self.now.entries.now c.args.marked.now c.args.heights.now c.requires.spread c.args.at.vertex c.args.at.face c.in-Some.step.other c.in-Some.step.up c.in-Some.step.down c.requires.marked c.in-Some.ensures.some).crossed
    (omega (arith, (met c.args.self.now.skeleton.now c.across.ensures.skeleton c.args.self.now.entries.now c.args.marked.now c.args.heights.now c.requires.spread c.args.at.vertex c.args.at.face c.in-Some.step.other c.in-Some.step.up c.in-Some.step.down c.requires.marked c.in-Some.ensures.some).in_range, c.requires.spread.one_mark)) c.if-marked-other.false c.in_ok-push.ensures.items

pub returns-clause-work : goal.returns-clause-work
returns-clause-work c =
    ap (work_left (set c.args.marked.now c.in-Some.step.other true)) c.in_ok-push.ensures.items
    ∙ has_few_turns.mark c.args.marked.now c.args.pending.now.items c.in-Some.step.other (omega (arith, (met c.args.self.now.skeleton.now c.across.ensures.skeleton c.args.self.now.entries.now c.args.marked.now c.args.heights.now c.requires.spread c.args.at.vertex c.args.at.face c.in-Some.step.other c.in-Some.step.up c.in-Some.step.down c.requires.marked c.in-Some.ensures.some).in_range, c.requires.spread.one_mark)) c.if-marked-other.false
