use Rattle.std.proofs.Common.{ℕ, ◌∙◌, arith}
use Rattle.std.proofs.lemmas.List.{take_all, drop-drop, length-drop}
use Rattle.std.proofs.lemmas.List.Sums.{prefix_len-le-length}
use Rattle.text_io.proofs.lines.split_line.Goals as goal

pub split_at-requires : goal.split_at-requires
split_at-requires c = rw c.line_len.ensures (prefix_len-le-length _ c.args.bytes.now)

pub returns-in-len1-up-clause-after : goal.returns-in-len1-up-clause-after
returns-in-len1-up-clause-after c =
    rw (c.split_at.ensures.back, c.line_len.ensures)
    (take_all _ _ (omega (arith, length-drop {A = ℕ})) ∙ drop-drop 1 _ c.args.bytes.now)
