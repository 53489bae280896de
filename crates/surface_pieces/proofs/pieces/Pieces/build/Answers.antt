-- The vector is one of a surface, with at most `MOST_PIECES` pieces.
use Rattle.std.proofs.Common.{◌≡◌, ℕ, List, sym, ap, ◌∙◌, subst, arith}
use Rattle.std.specs.Prelude.{sum}
use Rattle.table_definitions.specs.Table.{Row}
use Rattle.surface_laws.specs.PieceLaws.{IsSurface}
use Rattle.surface_pieces.proofs.pieces.Pieces.build.Goals as goal

pub invariant_of-surface : goal.invariant_of-surface
invariant_of-surface c = record {
  normal = ∣ whole ∣₁;
  limited = omega (arith, ap (λ (ys : List ℕ). sum ys) entries, c.total-count.ensures, c.if-count-gt-MOST_PIECES.false);
  bounded_tets = (whole.table).limited;
  width = (whole.solves).width;
}
  where
    entries : c.deref.result.now ≡ c.args.x.now
    entries = c.deref.ensures.value ∙ c.in_ok-entries.ensures

    whole : IsSurface c.table.result.now c.args.coords c.deref.result.now
    whole = subst (λ (rs : List Row). IsSurface rs c.args.coords c.deref.result.now) (sym c.table.ensures.rows) (subst (λ (ys : List ℕ). IsSurface c.args.skeleton.now.rows c.args.coords ys) (sym entries) c.requires.surface)
