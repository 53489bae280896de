use Rattle.std.proofs.Common.{arith}
use Rattle.std.proofs.lemmas.Result.{err_from_is_err_and}
use Rattle.signature_text_laws.proofs.ReadLaws.{number_in-low, number_in-high, number_in-both, wider, narrow}
use Rattle.signature_codec.proofs.numbers.+number_in.Goals as goal

pub returns-in_err-low-clause-reads : goal.returns-in_err-low-clause-reads
returns-in_err-low-clause-reads t c =
    let p = err_from_is_err_and c.from_residual.result c.from_residual.ensures.1 in
    rw (p.1, p.2) (number_in-low _ _ _ _ c.if-width-eq0.false c.in_err-low.ensures.reads)

pub returns-in_err-high-clause-reads : goal.returns-in_err-high-clause-reads
returns-in_err-high-clause-reads t c =
    let p = err_from_is_err_and c.from_residual-in_err-high.result c.from_residual-in_err-high.ensures.1 in
    rw (p.1, p.2) (number_in-high _ _ _ _ _ c.if-width-eq0.false c.in_ok-low.ensures.reads c.in_err-high.ensures.reads)

pub overflow_mul-result : goal.overflow_mul-result
overflow_mul-result t c = omega (arith, narrow c.args.width _ c.requires.narrow c.in_ok-high.ensures.in_range)

pub overflow_add-result : goal.overflow_add-result
overflow_add-result t c = omega (arith, c.in_ok-low.ensures.in_range, narrow c.args.width _ c.requires.narrow c.in_ok-high.ensures.in_range)

pub returns-clause-reads : goal.returns-clause-reads
returns-clause-reads t c = number_in-both _ _ _ _ _ c.if-width-eq0.false c.in_ok-low.ensures.reads c.in_ok-high.ensures.reads

pub returns-clause-in_range : goal.returns-clause-in_range
returns-clause-in_range t c = wider _ _ _ c.if-width-eq0.false c.in_ok-low.ensures.in_range c.in_ok-high.ensures.in_range
