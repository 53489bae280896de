-- The inverse moves are made from the last step to the first.
use Rattle.std.proofs.Common.{◌≡◌, length, refl, arith}
use Rattle.tri_build.proofs.Ways.{begun_as, next_as, no_items, arrived}
use Rattle.tri_build.proofs.inverse_moves.inverse_moves.Goals as goal

pub loop-step-init : goal.loop-step-init
loop-step-init c = λ first steps.
    begun_as first c.args.steps.items c.args.table.now c.in_ok-copy.field-0 (length c.args.table.now) c.in_ok-staying.field-0 c.new.result.items c.in_ok-copy.ensures.is_table c.in_ok-copy.ensures.same refl c.in_ok-staying.ensures c.new.ensures.items steps

pub go_back-requires : goal.go_back-requires
go_back-requires c =
    let n = next_as c.requires.0 c.args.steps.items c.args.table.now c.loop-step.steps.items c.pop.new.self.items c.in-Some.step c.loop-step.way.now c.loop-step.way.on c.loop-step.way.moves.items c.in-Some.ensures.items
    (c.loop-step.invariant c.requires.0 c.requires.1) in
    (n.old, n.before)

pub loop-step-preserved : goal.loop-step-preserved
loop-step-preserved c = λ first steps.
    (let n = next_as first c.args.steps.items c.args.table.now c.loop-step.steps.items c.pop.new.self.items c.in-Some.step c.loop-step.way.now c.loop-step.way.on c.loop-step.way.moves.items c.in-Some.ensures.items (c.loop-step.invariant first steps) in
    n.on_way c.go_back.new.self.moves.items c.go_back.new.self.now c.go_back.new.self.on (c.in_ok-go_back.ensures n.old n.before))

pub returns : goal.returns
returns c = λ first steps.
    (let ok = c.loop-step.steps.ok in
    let none = c.in_default.ensures.cases.0 in
    let empty : length c.loop-step.steps.items ≡ 0 = omega arith in
    arrived first c.args.steps.items c.args.table.now c.loop-step.steps.items c.loop-step.way.now c.loop-step.way.on c.loop-step.way.moves.items (no_items c.loop-step.steps.items empty) (c.loop-step.invariant first steps))
