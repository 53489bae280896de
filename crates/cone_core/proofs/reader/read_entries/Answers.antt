-- One coefficient more is one entry more, or none; the first fault is that of the coefficients.
use Rattle.std.proofs.Common.{◌≡◌, ℤ, ◌≤◌, ◌++◌, sym, ap, ◌∙◌, arith, w32, to_z, of_z}
use Rattle.std.proofs.lemmas.Result.{err_from_is_err_and}
use Rattle.std.specs.Prelude.{unsigned_abs}
use Rattle.std.proofs.lemmas.Int.{ints, to_z-of_z}
use Rattle.cone_core.specs.ConeReads.{entries_of}
use Rattle.cone_core.proofs.ConeLemmas.{signed_at-within, with_entries-end, with_entries-fault, with_entries-more, sparse_more, in_range_more}
use Rattle.cone_core.proofs.reader.read_entries.Goals as goal

read_back : (z : ℤ) → unsigned_abs z ≤ 1000000 → to_z w32 (of_z w32 z) ≡ z
read_back z h = to_z-of_z w32 z (grind (arith, ints))

pub returns-in_err-coefficient-clause-gives : goal.returns-in_err-coefficient-clause-gives
returns-in_err-coefficient-clause-gives c =
    let p = err_from_is_err_and c.from_residual.result c.from_residual.ensures.1 in
    rw (p.1, p.2) (sym c.loop-column.invariant.reads ∙ with_entries-fault c.loop-column.entries.items c.loop-column.column c.args.columns c.loop-column.lexer _ c.loop-column-test.true c.in_err-coefficient.ensures)

pub loop-column-preserved : goal.loop-column-preserved
loop-column-preserved c =
    let within = signed_at-within 1000000 c.loop-column.lexer _ c.in_ok-coefficient.ensures in
    let row = c.loop-column.entries.items in
    let pushed = c.in_ok-push_coefficient.ensures ∙ ap (λ z. row ++ entries_of c.loop-column.column z) (read_back c.in_ok-coefficient.coefficient within) in
    rw pushed (record {
      reads = with_entries-more row c.loop-column.column c.args.columns c.loop-column.lexer _ c.loop-column-test.true c.in_ok-coefficient.ensures ∙ c.loop-column.invariant.reads;
      is_sparse = sparse_more row c.loop-column.column c.in_ok-coefficient.coefficient c.loop-column.invariant.is_sparse c.loop-column.invariant.in_range within;
      in_range = in_range_more row c.loop-column.column c.in_ok-coefficient.coefficient c.loop-column.invariant.in_range;
    })

pub returns-clause-gives : goal.returns-clause-gives
returns-clause-gives c = rw c.of.ensures (sym c.loop-column.invariant.reads ∙ with_entries-end c.loop-column.entries.items c.loop-column.column c.args.columns c.loop-column.lexer c.loop-column-test.false)
