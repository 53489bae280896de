-- A vector that is accepted has as many entries as the table has columns, so fewer than 2^32.
use Rattle.std.proofs.Common.{ℕ, ◌<◌, ◌≤◌, length, sym, ◌∙◌, subst}
use Rattle.surface_refusals.proofs.Columns.{few_columns}
use Rattle.surface_refusals.proofs.checks.check.Goals as goal

pub returns-clause-limited : goal.returns-clause-limited
returns-clause-limited c = λ ok.
    let accepted = c.check_vector.ensures.accepts.0 ok in
    let tets = subst (λ (n : ℕ). n ≤ 1000) c.len.ensures.value c.len.ensures.limited in
    subst (λ (n : ℕ). n < 4294967296) (sym (accepted.solves.width ∙ c.requires)) (few_columns c.args.coords (length c.args.table.now) tets)
