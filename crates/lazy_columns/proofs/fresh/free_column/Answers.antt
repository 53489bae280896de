use Rattle.std.proofs.Common.{rules, ◌<◌, arith, w32, FitsSigned}
use Rattle.std.proofs.lemmas.Int.{to_z-of_z}
use Rattle.lazy_columns.proofs.Held.{seen_before}
use Rattle.lazy_columns.proofs.Coefficients.{has_one}
use Rattle.lazy_columns.proofs.fresh.free_column.Goals as goal

pub returns : goal.returns
returns g c =
    let step = c.args.step.now in
    let column = c.in_ok-column.column in
    let coefficient = c.in_ok-column.coefficient in
    let f : FitsSigned w32 coefficient = search rules in
    let seen = seen_before step.late.seen.items column c.in_ok-column.ensures.unseen in
    let within : column < step.clashes.now.columns = omega (arith, seen, step.late.width, step.width) in
    record {
      in_range = within;
      unseen = c.in_ok-column.ensures.unseen;
      one = has_one step.clashes.now.columns step.row.now column coefficient c.first_free.ensures.sparse within c.in_ok-column.ensures.term c.in_ok-is_negated.is_negated
          (simp to_z-of_z at c.in_ok-is_negated.ensures);
      free = c.in_ok-column.ensures.free;
    }
