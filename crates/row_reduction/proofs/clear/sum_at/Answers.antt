-- The sum is that of row i.
use Rattle.std.proofs.Common.{[], sym, ◌∙◌, subst₂}
use Rattle.std.specs.Prelude.{IfOk}
use Rattle.std.proofs.lemmas.Int.{to_z-of_z}
use Rattle.std.proofs.lemmas.List.{get_or_default}
use Rattle.cone_definitions.specs.Rows.{Row}
use Rattle.cone_row_laws.specs.Operations.{IsSumWith}
use Rattle.row_reduction.proofs.RowLemmas.{sum_replaces}
use Rattle.row_reduction.proofs.clear.sum_at.Goals as goal

pub returns-clause-adds : goal.returns-clause-adds
returns-clause-adds c =
    let rows = c.args.list.now.rows.items in
    let h = c.ranges.factor in
    let row_is = c.entries.ensures.entries ∙ c.index.ensures ∙ sym (get_or_default rows c.args.i [] c.index.result.now c.requires.place) in
    sum_replaces c.args.list.now.columns rows c.args.i c.args.factor c.args.other.now c.add_multiple.result
    (subst₂ (λ (row : Row) (other : Row). IfOk c.add_multiple.result (IsSumWith row c.args.factor other)) row_is c.entries-2.ensures.entries (simp to_z-of_z at c.add_multiple.ensures.sum))
    c.add_multiple.ensures.in_range c.add_multiple.ensures.sparse
