-- The inverse move of the step is played.
use Rattle.std.proofs.Common.{ap}
use Rattle.tri_build.specs.Standing.{Back}
use Rattle.tri_build.proofs.Led.{led, pattern_back, not_refused, gone_back}
use Rattle.tri_build.proofs.inverse_moves.InverseMoves.go_back.Goals as goal

pub carry_back-requires : goal.carry_back-requires
carry_back-requires c =
    let l = led c.requires.0 c.args.step.now c.args.self.now.now c.args.self.now.on c.back_of-back.result c.requires.1 c.back_of-back.ensures in
    (l.by, l.image)

pub apply_legal-requires : goal.apply_legal-requires
apply_legal-requires c =
    pattern_back c.requires.0 c.args.step.now c.args.self.now.now c.args.self.now.on c.back_of-back.result c.back.inside.played c.back.inside.pattern.facets.items c.requires.1 c.back_of-back.ensures (ap (λ (b : Back). b.played) c.back.view_is)
    (ap (λ (b : Back). b.facets) c.back.view_is)

pub unreachable-requires : goal.unreachable-requires
unreachable-requires c =
    not_refused c.requires.0 c.args.step.now c.args.self.now.now c.args.self.now.on c.back_of-back.result c.back.inside.played c.in-Err.field-0 c.requires.1 c.back_of-back.ensures (ap (λ (b : Back). b.played) c.back.view_is) c.in-Err.ensures.fault

pub returns : goal.returns
returns c = λ old before.
    gone_back old c.args.step.now c.args.self.now.now c.args.self.now.on c.back_of-back.result c.back.inside.played c.args.self.now.moves.items c.push.new.self.items c.apply_legal.new.table c.in_ok-by.by before c.back_of-back.ensures
    (ap (λ (b : Back). b.played) c.back.view_is) c.in_ok-push.ensures.items c.in-Ok.ensures.moved c.in_ok-by.ensures
