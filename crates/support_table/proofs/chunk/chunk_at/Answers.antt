use Rattle.std.proofs.Common.{◌≡◌, ◌+◌, ◌-◌, take, drop, ap, arith}
use Rattle.support_table.proofs.PartLemmas.{chunk_from}
use Rattle.support_table.proofs.chunk.chunk_at.Goals as goal

pub returns-clause-from : goal.returns-clause-from
returns-clause-from c =
    let chosen = c.args.chosen.now in
    let start = c.args.start in
    let count = c.min-count.result in
    let e : start + count - start ≡ count = omega arith in
    chunk_from chosen (take (start + count - start) (drop start chosen)) start count (ap (λ n. take n (drop start chosen)) e) (omega (arith, c.min-count.ensures, c.requires))
