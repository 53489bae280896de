-- The bytes in memory are those that were taken, there is room for the rest, and no call failed.
use Rattle.std.proofs.Common.{◌≡◌, ◌+◌, ◌-◌, ◌≤◌, vec_len, vec_capacity}
use Rattle.text_io.specs.Causes.{TakesBytes}
use Rattle.text_io.proofs.transfer.read_all.Given as goal

abbrev pub invariant-loop-bytes : goal.invariant-loop-bytes
invariant-loop-bytes g l = record {
  room : l.limit + 1 ≤ vec_capacity l.bytes;
  within : vec_len l.bytes ≤ l.limit + 1;
  taken : TakesBytes (g.S.Source.left l.fn.source) (g.S.Source.left l.source) l.bytes.items;
  calm : g.S.Source.faults l.source ≡ g.S.Source.faults l.fn.source;
}

abbrev pub decreases-loop-bytes : goal.decreases-loop-bytes
decreases-loop-bytes g l = l.limit + 1 - vec_len l.bytes
