use Rattle.std.proofs.Common.{◌+◌, inl, inr, subst, sym, ap, ◌∙◌, arith}
use Rattle.std.proofs.lemmas.List.{get_or_default}
use Rattle.support_table.specs.Pairs.{AreKept}
use Rattle.support_table.proofs.PairLemmas.{kept_push, kept_skip}
use Rattle.support_table.proofs.pairs.fill_kept.Goals.{then-candidate-most+then-not-is_beyond_pair+in_ok-push, else-candidate-most, else-candidate-most-via-then-candidate-most+else-not-is_beyond_pair, else-candidate-most-via-else-candidate-most}
use Rattle.support_table.proofs.pairs.fill_kept.Goals as goal

pub loop-candidate-preserved : goal.loop-candidate-preserved
loop-candidate-preserved c =
    let found = c.args.pairs.found in
    let supports = found.table.now.supports in
    let outer = found.outer.now in
    let candidates = found.list.now in
    let n = c.loop-candidate.candidate-index in
    let kept = c.loop-candidate.kept.items in
    elim c.if-candidate-most.branch [
      | then-candidate-most+then-not-is_beyond_pair+in_ok-push w ↦ subst (AreKept supports outer c.args.most candidates (n + 1)) (sym (ap (λ v. v.items) w.kept-is ∙ w.in_ok-push.ensures.items))
          (kept_push supports outer candidates c.args.most n kept _ c.loop-candidate.invariant c.loop-candidate-test.true (λ d. get_or_default candidates n d _ c.loop-candidate-test.true))
      | else-candidate-most w ↦ subst (AreKept supports outer c.args.most candidates (n + 1)) (sym (ap (λ v. v.items) w.kept-is))
          (kept_skip supports outer candidates c.args.most n kept _ c.loop-candidate.invariant c.loop-candidate-test.true (λ d. get_or_default candidates n d _ c.loop-candidate-test.true)
          (elim w.else-candidate-most.branch [
            | else-candidate-most-via-then-candidate-most+else-not-is_beyond_pair w' ↦ inr (w'.is_beyond_pair.ensures w'.if-not-is_beyond_pair.false)
            | else-candidate-most-via-else-candidate-most w' ↦ inl (omega (arith, w'.if-candidate-most.false))
          ]))
    ]
