-- A tetrahedron that stays has the count of those before it for its number.
use Rattle.std.proofs.Common.{◌≡◌, ◌+◌, sym, ap, ◌∙◌, arith}
use Rattle.surface_definitions.specs.Crushing.{number_kept}
use Rattle.crushing.proofs.NewRows.{kept_fit, kept_more, gone_same, numbers_on}
use Rattle.crushing.proofs.surface.StandardSurface.new_numbers.Goals as goal
use Rattle.crushing.proofs.surface.StandardSurface.new_numbers.Goals.{then-not-is_removed, else-not-is_removed}

pub overflow_add-kept : goal.overflow_add-kept
overflow_add-kept c =
    let is : c.loop-tet.kept ≡ number_kept c.args.self.now.entries.now c.loop-tet.tet = c.loop-tet.invariant.1 in
    omega (arith, is, kept_fit c.args.self.now.entries.now c.loop-tet.tet, c.loop-tet-test.true, c.len-tet-end.ensures.limited)

pub loop-tet-preserved : goal.loop-tet-preserved
loop-tet-preserved c = (numbers_on c.args.self.now.entries.now c.loop-tet.numbers.items _ c.loop-tet.tet c.loop-tet.kept c.loop-tet.invariant.0 c.loop-tet.invariant.1 c.in_ok-push.ensures.items, kept)
  where
    kept : c.if-not-is_removed.kept ≡ number_kept c.args.self.now.entries.now (c.loop-tet.tet + 1)
    kept = elim c.if-not-is_removed.branch [
      | then-not-is_removed w ↦ w.kept-is ∙ ap (λ n. n + 1) c.loop-tet.invariant.1 ∙ sym (kept_more c.args.self.now.entries.now c.loop-tet.tet (sym c.is_removed.ensures ∙ w.if-not-is_removed.true))
      | else-not-is_removed w ↦ w.kept-is ∙ c.loop-tet.invariant.1 ∙ sym (gone_same c.args.self.now.entries.now c.loop-tet.tet (sym c.is_removed.ensures ∙ w.if-not-is_removed.false))
    ]
