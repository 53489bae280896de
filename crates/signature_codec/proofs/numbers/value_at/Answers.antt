use Rattle.std.proofs.Common.{ℕ, Option, length, sym, ap, ◌∙◌, arith}
use Rattle.std.proofs.lemmas.Option.{slice_get-get_or, slice_get_past}
use Rattle.signature_definitions.specs.declared.SigFault.TheVariants.{BadChar}
use Rattle.signature_definitions.specs.SignatureText.{value_or, value_in}
use Rattle.signature_codec.proofs.numbers.value_at.Goals as goal

pub returns-then-at-text-clause-reads : goal.returns-then-at-text-clause-reads
returns-then-at-text-clause-reads c = λ no_want. ap (λ (b : Option ℕ). value_in b (length c.args.text.now) c.args.at) (slice_get_past c.args.text.now c.args.at c.if-at-text.true)

pub bounds-text-at : goal.bounds-text-at
bounds-text-at c = c.if-at-text.false

pub overflow_cast-result : goal.overflow_cast-result
overflow_cast-result c = omega (arith, c.in-Some.ensures.in_range)

pub returns-in-Some-clause-reads : goal.returns-in-Some-clause-reads
returns-in-Some-clause-reads c =
    ap (λ (b : Option ℕ). value_in b (length c.args.text.now) c.args.at) (slice_get-get_or c.args.text.now c.args.at 0 c.if-at-text.false)
    ∙ ap (λ (v : Option ℕ). value_or v (BadChar c.args.at)) (sym c.in-Some.ensures.value)

pub returns-in-Some-clause-in_range : goal.returns-in-Some-clause-in_range
returns-in-Some-clause-in_range c = c.in-Some.ensures.in_range

pub returns-in-None-clause-reads : goal.returns-in-None-clause-reads
returns-in-None-clause-reads c = λ no_want.
    ap (λ (b : Option ℕ). value_in b (length c.args.text.now) c.args.at) (slice_get-get_or c.args.text.now c.args.at 0 c.if-at-text.false)
    ∙ ap (λ (v : Option ℕ). value_or v (BadChar c.args.at)) (sym c.in-None.ensures.value)
