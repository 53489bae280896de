use Rattle.std.proofs.Common.{rules}
use Rattle.std.proofs.lemmas.Bool.{false≢true}
use Rattle.ray_decompose.proofs.Comparing.{by_whole_parts, by_rests, no_first_rest, no_second_rest}
use Rattle.ray_decompose.proofs.fraction.+is_at_most.Goals as goal

pub returns-then-first_whole-second_whole : goal.returns-then-first_whole-second_whole
returns-then-first_whole-second_whole t c = by_whole_parts c.args.first.numerator c.args.first.denominator c.args.second.numerator c.args.second.denominator c.args.first.some c.args.second.some c.if-first_whole-second_whole.true

pub returns-then-first_rest-eq0 : goal.returns-then-first_rest-eq0
returns-then-first_rest-eq0 t c = let e = by_rests c.args.first.numerator c.args.first.denominator c.args.second.numerator c.args.second.denominator c.args.first.some c.args.second.some c.if-first_whole-second_whole.false in
    (λ i. e.0 (no_first_rest _ _ _ _ c.if-first_rest-eq0.true), λ l. search rules)

pub returns-then-second_rest-eq0 : goal.returns-then-second_rest-eq0
returns-then-second_rest-eq0 t c = let e = by_rests c.args.first.numerator c.args.first.denominator c.args.second.numerator c.args.second.denominator c.args.first.some c.args.second.some c.if-first_whole-second_whole.false in
    (λ i. absurd (false≢true i), λ l. absurd (no_second_rest _ _ _ _ c.args.second.some c.if-first_rest-eq0.false c.if-second_rest-eq0.true (e.1 l)))

pub returns : goal.returns
returns t c = let e = by_rests c.args.first.numerator c.args.first.denominator c.args.second.numerator c.args.second.denominator c.args.first.some c.args.second.some c.if-first_whole-second_whole.false in
    (λ i. e.0 (c.is_at_most.ensures.0 i), λ l. c.is_at_most.ensures.1 (e.1 l))
