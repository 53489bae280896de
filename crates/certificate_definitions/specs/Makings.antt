-- The making of a table with its certificate.
use Rattle.std.specs.Prelude.{ℕ, List}
use Rattle.table_definitions.specs.Table.{Row}
use Rattle.table_definitions.specs.Relabelling.{Relabelling}
use Rattle.move_definitions.specs.Moves.{Move}
use Rattle.move_definitions.specs.Certificates.{standard_sphere, IsMaking}
use Rattle.certificate_definitions.specs.CarriedBack.{AreCarriedBack}

-- Up to most moves are made from the standard sphere, from a seed; the certificate are the moves back.
abbrev pub IsMade : ℕ → ℕ → List Row → List Move → Type 0
IsMade seed most table certificate =
    (moves : List Move) × IsMaking most seed standard_sphere moves table × ((end : List Row) × (by : Relabelling) × AreCarriedBack standard_sphere moves table certificate end by)
