-- Each chain from the face has the end that was found.
use Rattle.std.proofs.Common.{◌∙◌, ap, sym, length, option_map}
use Rattle.surface_definitions.specs.Crushing.{renumbered}
use Rattle.crushing.proofs.NewRows.{end_renumbered}
use Rattle.crushing.proofs.surface.NumberedSurface.crushed_glue.Goals as goal

pub returns-in_err-end : goal.returns-in_err-end
returns-in_err-end c = λ end h. c.from_residual.ensures ∙ sym (ap (option_map (renumbered c.args.self.now.surface.entries.now)) (c.in_err-end.ensures.only end h))

pub returns : goal.returns
returns c = λ end h.
    end_renumbered c.args.self.now.surface.entries.now c.args.self.now.numbers.now (length c.args.self.now.surface.table.now) _ c.in_ok-end.end end c.args.self.now.numbered c.end.view_is c.in_ok-end.ensures.in_range (c.in_ok-end.ensures.only end h)
