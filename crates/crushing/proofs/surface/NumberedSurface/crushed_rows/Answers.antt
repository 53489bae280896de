-- A tetrahedron that stays adds its row.
use Rattle.std.proofs.Common.{◌≡◌, length, sym, ◌∙◌, subst, arith}
use Rattle.crushing.specs.Rows.{AreCrushedBefore}
use Rattle.crushing.proofs.NewRows.{rows_on, rows_same}
use Rattle.crushing.proofs.surface.NumberedSurface.crushed_rows.Goals as goal
use Rattle.crushing.proofs.surface.NumberedSurface.crushed_rows.Goals.{then-not-is_removed+in_ok-push, else-not-is_removed}

pub returns-clause-rows : goal.returns-clause-rows
returns-clause-rows c =
    let all : c.loop-tet.tet ≡ length c.args.self.now.surface.table.now = omega (arith, c.loop-tet-test.false, c.loop-tet.auto.tet-end, c.len-tet-end.ensures.value) in
    subst (λ t. AreCrushedBefore c.args.self.now.surface.table.now c.args.self.now.surface.entries.now t c.loop-tet.rows.items) all c.loop-tet.invariant

pub loop-tet-preserved : goal.loop-tet-preserved
loop-tet-preserved c = elim c.if-not-is_removed.branch [
  | then-not-is_removed+in_ok-push w ↦ rw w.rows-is
      (rows_on c.args.self.now.surface.table.now c.args.self.now.surface.entries.now c.loop-tet.tet c.loop-tet.rows.items w.push.new.self.items w.crushed_row.result c.loop-tet.invariant (sym c.is_removed.ensures ∙ w.if-not-is_removed.true) w.crushed_row.ensures
      w.in_ok-push.ensures.items)
  | else-not-is_removed w ↦ rw w.rows-is (rows_same c.args.self.now.surface.table.now c.args.self.now.surface.entries.now c.loop-tet.tet c.loop-tet.rows.items c.loop-tet.invariant (sym c.is_removed.ensures ∙ w.if-not-is_removed.false))
]
