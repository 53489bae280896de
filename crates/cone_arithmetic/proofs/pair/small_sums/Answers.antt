-- The words of the support name the columns, and the entries of at most 64 bits are those of the rays.
use Rattle.std.proofs.Common.{ℕ, ◌<◌, ◌^◌, length, ap, rules, sym, ◌∙◌, arith}
use Rattle.std.specs.Prelude.{slice_index}
use Rattle.cone_arithmetic.proofs.FillLemmas.{name_columns}
use Rattle.cone_arithmetic.proofs.pair.small_sums.Goals as goal

pub invariant_of-combination : goal.invariant_of-combination
invariant_of-combination c =
    let p = c.args.pair in
    let w_is = c.in-Some.ensures ∙ c.w.view_is in
    let u_is = c.in-Some-narrow_entries.ensures ∙ c.u.view_is in
    let fits : (k : ℕ) → slice_index c.words-words.result.now k < 2 ^ 64 = search rules in
    record {
      lengths = ap length u_is ∙ p.lengths ∙ ap length (sym w_is);
      width = let e = ap length w_is in omega (arith, e, p.lengths, (rw c.w.view_is at c.w.invariant).width);
      names = rw (w_is, u_is)
          (name_columns c.args.a c.args.b p.u.now p.w.now p.support.now c.words-words.result.now p.lengths p.width p.inside c.words-words.ensures fits);
    }
