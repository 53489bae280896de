-- The crushed table as an outcome.
use Rattle.std.specs.Prelude.{◌≡◌, ℕ, List}
use Rattle.table_definitions.specs.Table.{Row}
use Rattle.table_definitions.specs.TableText.{table_text}
use Rattle.surface_definitions.specs.Crushing.{IsCrushed}
use Rattle.outcome_definitions.specs.declared.Status.TheVariants.{Done}
use Rattle.outcome_definitions.specs.Outcomes.{Outcome}

-- the outcome is the table crushed along a vector
abbrev pub IsCrushOutcome : List Row → List ℕ → Outcome → Type 0
IsCrushOutcome rows xs o = (new : List Row) × IsCrushed rows xs new × (o ≡ record { status = Done; text = table_text new })
