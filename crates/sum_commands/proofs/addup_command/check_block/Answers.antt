-- The vector and the terms have the width of the table.
use Rattle.std.proofs.Common.{◌<◌, ℕ, List, length, refl, sym, ap, ◌∙◌, subst}
use Rattle.std.specs.List.{All}
use Rattle.ray_decompose.specs.declared.adding.Given.{Given}
use Rattle.ray_decompose.specs.Sums.{HasWidth}
use Rattle.sum_commands.proofs.AddedUp.{term_widths}
use Rattle.sum_commands.proofs.addup_command.check_block.Goals as goal

pub add_up-requires-clause-width : goal.add_up-requires-clause-width
add_up-requires-clause-width c =
    subst (λ (xs : List ℕ). length xs < 4294967296) (c.deref.ensures.value ∙ sym c.deref-3.ensures.value) (c.in_default.ensures.limited refl)

pub add_up-requires-clause-terms : goal.add_up-requires-clause-terms
add_up-requires-clause-terms c =
    let width = ap (λ (xs : List ℕ). length xs) (c.deref-3.ensures.value ∙ sym c.deref.ensures.value) ∙ c.in_default.ensures.width refl in
    subst (λ (gs : List Given). All (HasWidth (length c.deref-3.result.now)) gs) (c.deref-2.ensures.value ∙ sym c.deref-4.ensures.value)
    (term_widths c.args.equations.coords c.args.equations.table.now c.args.equations.system.now.rows c.deref-2.result.now (length c.deref-3.result.now) width c.in_default-check_terms.ensures)
