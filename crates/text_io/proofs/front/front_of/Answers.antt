use Rattle.std.proofs.Common.{arith}
use Rattle.std.proofs.lemmas.Bool.Decides.{nat_tests}
use Rattle.std.proofs.lemmas.List.Sums.{prefix_len-le-length}
use Rattle.text_io.proofs.Blanks.{front_end, front_stray, front_word}
use Rattle.text_io.proofs.front.front_of.Goals as goal

pub returns-then-is_empty : goal.returns-then-is_empty
returns-then-is_empty c = front_end c.args.column _ _ c.without_blanks-unspaced.ensures.rest (grind (arith, nat_tests))

pub split_at-requires : goal.split_at-requires
split_at-requires c = rw c.word_len.ensures (prefix_len-le-length _ c.without_blanks-unspaced.result.now)

pub returns-then-is_empty-2 : goal.returns-then-is_empty-2
returns-then-is_empty-2 c =
    front_stray c.args.column _ _ c.without_blanks-unspaced.ensures.rest (grind (arith, nat_tests)) (grind (arith, nat_tests, c.split_at.ensures.front_len))

pub returns-else-is_empty-2 : goal.returns-else-is_empty-2
returns-else-is_empty-2 c =
    front_word c.args.column _ _ c.split_at.result.0 c.split_at.result.1 c.word_len.result
    c.without_blanks-unspaced.ensures.rest c.word_len.ensures c.split_at.ensures.front c.split_at.ensures.back (grind (arith, nat_tests))
