-- A face that is not the first of its glued pair counts nothing.
use Rattle.std.proofs.Common.{sym, ap, ◌∙◌}
use Rattle.std.specs.Prelude.{if◌then◌else◌}
use Rattle.surface_definitions.specs.Characteristic.{arcs_in}
use Rattle.surface_properties.specs.Capped.{capped}
use Rattle.surface_properties.proofs.CappedSums.{capped_zero}
use Rattle.surface_properties.proofs.vectors.DiscVector.arcs_if_first.Goals as goal

pub returns-else-is_first_side : goal.returns-else-is_first_side
returns-else-is_first_side c =
    sym (ap (λ b. capped (if b then arcs_in c.args.self.now.coords.system c.args.self.now.entries.now c.args.face else 0)) (sym c.is_first_side.ensures ∙ c.if-is_first_side.false) ∙ capped_zero)
