use Rattle.std.proofs.Common.{◌≡◌, ℕ, ◌<◌, ◌++◌, Vec, Global, ap, sym, ◌∙◌, append-nil, arith}
use Rattle.quad_condition.proofs.Pairs.{partners_before, partners_start, partners_whole, pushed, skipped}
use Rattle.quad_condition.proofs.clashes.push_partners.Goals.{then-do_clash+in_ok-push, else-do_clash}
use Rattle.quad_condition.proofs.clashes.push_partners.Goals as goal

pub loop-second-init : goal.loop-second-init
loop-second-init c =
    sym (ap (λ r. c.args.clashes.now.items ++ r) (partners_start c.args.space.coords c.args.first) ∙ append-nil c.args.clashes.now.items)

pub loop-second-preserved : goal.loop-second-preserved
loop-second-preserved c =
    let less : c.args.first < c.loop-second.second = omega arith in
    elim c.if-do_clash.branch [
      | then-do_clash+in_ok-push w ↦
          ap (λ (v : Vec (ℕ × ℕ) Global). v.items) w.clashes-is
          ∙ pushed c.args.space.coords c.args.first c.loop-second.second _ c.loop-second.clashes.items _ less (sym w.if-do_clash.ensures) c.loop-second.invariant w.in_ok-push.ensures.items
      | else-do_clash w ↦
          ap (λ (v : Vec (ℕ × ℕ) Global). v.items) w.clashes-is
          ∙ skipped c.args.space.coords c.args.first c.loop-second.second _ _ (sym w.if-do_clash.ensures) c.loop-second.invariant
    ]

pub returns : goal.returns
returns c =
    let all : c.loop-second.second ≡ c.partners_end-second-end.result = omega arith in
    c.loop-second.invariant
    ∙ ap (λ k. c.args.clashes.now.items ++ partners_before c.args.space.coords c.args.first k) all
    ∙ ap (λ r. c.args.clashes.now.items ++ r) (partners_whole c.args.space.coords c.args.space.tets c.args.first _ c.partners_end-second-end.ensures.within c.partners_end-second-end.ensures.beyond)
