-- One row more, and all of them.
use Rattle.std.proofs.Common.{◌≡◌, ℕ, ◌+◌, ◌<◌, List, [], ◌∷◌, ◌++◌, length, get_or, take, sym, ◌∙◌, take_all, arith}
use Rattle.std.proofs.lemmas.List.{take_more, get_or_read}
use Rattle.table_definitions.specs.Table.{Row}
use Rattle.gluing_table.proofs.table.copy_rows.Goals as goal

copied : (rows copy longer : List Row) (i : ℕ) (row new : Row) → i < length rows → row ≡ get_or rows i row → new ≡ row → copy ≡ take i rows → longer ≡ copy ++ new ∷ []
    → longer ≡ take (i + 1) rows
copied rows copy longer i row new inside is same so_far e =
    let read : new ≡ get_or rows i [] = same ∙ get_or_read rows i row inside is [] in
    e ∙ (λ j. so_far j ++ read j ∷ []) ∙ sym (take_more rows i [] inside)

pub loop-row-preserved : goal.loop-row-preserved
loop-row-preserved c = (
  copied c.args.rows.now c.loop-row.copy.items c.push.new.self.items c.loop-row.row-index c.row-item.result c.copy_row.result c.loop-row-test.true c.row-item.is c.copy_row.ensures
      c.loop-row.invariant.0 c.in_ok-push.ensures.items,
  omega (arith, c.loop-row.invariant.1, c.in_ok-push.ensures.capacity),
)

pub returns-clause-same : goal.returns-clause-same
returns-clause-same c = c.loop-row.invariant.0 ∙ take_all c.loop-row.row-index c.args.rows.now c.loop-row-test.false
