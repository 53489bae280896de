use Rattle.std.proofs.Common.{◌≡◌, ◌+◌, ◌-◌, ◌*◌, suc, arith, sym, ◌∙◌, subst, ap, List, ℕ, Result}
use Rattle.std.proofs.lemmas.Result.{err_from_is_err_and}
use Rattle.signature_definitions.specs.declared.SigFault.{SigFault}
use Rattle.signature_text_laws.specs.Faults.{Fails}
use Rattle.signature_text_laws.proofs.ReadLaws.{fails_fronted, numbers_in-unread, numbers_in-great, numbers_in-more, numbers_in-end, fronted}
use Rattle.signature_codec.proofs.numbers.numbers_in.Goals as goal

pub returns-in_err-value-clause-reads : goal.returns-in_err-value-clause-reads
returns-in_err-value-clause-reads c =
    let p = err_from_is_err_and c.from_residual.result c.from_residual.ensures.1 in
    let e = c.in_err-value.field-0.0 in
    let P : Result (List (ℕ × ℕ)) SigFault → Type 0 = λ q. Fails e q in
    let more : c.args.numbers.many - c.loop-i.i ≡ suc (c.args.numbers.many - (c.loop-i.i + 1)) = omega arith in
    rw (p.1, p.2) (subst P c.loop-i.invariant.1 (fails_fronted e c.loop-i.read.items _ (numbers_in-unread _ _ _ _ _ _ _ e more c.in_err-value.ensures.reads)))

pub returns-then-value-numbers-clause-reads : goal.returns-then-value-numbers-clause-reads
returns-then-value-numbers-clause-reads c =
    let more : c.args.numbers.many - c.loop-i.i ≡ suc (c.args.numbers.many - (c.loop-i.i + 1)) = omega arith in
    rw c.fault.ensures (λ other. sym c.loop-i.invariant.1 ∙ ap (fronted c.loop-i.read.items) (numbers_in-great _ _ _ _ _ _ _ _ more c.in_ok-value.ensures.reads c.if-value-numbers.true))

pub loop-i-preserved : goal.loop-i-preserved
loop-i-preserved c =
    let more : c.args.numbers.many - c.loop-i.i ≡ suc (c.args.numbers.many - (c.loop-i.i + 1)) = omega arith in
    let there : c.args.at + c.args.numbers.width * (c.loop-i.i + 1) ≡ c.args.at + c.args.numbers.width * c.loop-i.i + c.args.numbers.width = omega arith in
    (omega (arith, c.in_ok-value.ensures.in_text), rw c.in_ok-push.ensures.items (numbers_in-more _ _ _ _ _ _ _ _ _ _ more there c.in_ok-value.ensures.reads c.if-value-numbers.false ∙ c.loop-i.invariant.1))

pub returns-clause-reads : goal.returns-clause-reads
returns-clause-reads c =
    let none : c.args.numbers.many - c.loop-i.i ≡ 0 = omega arith in
    sym c.loop-i.invariant.1 ∙ numbers_in-end _ _ _ _ _ _ _ none
