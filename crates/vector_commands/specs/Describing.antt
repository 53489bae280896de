-- The description of one vector.
use Rattle.std.specs.Prelude.{ℕ, List, Result, Ok, Err}
use Rattle.out_of_memory.specs.declared.Failure.{Failure}
use Rattle.out_of_memory.specs.Failures.{IfFault}
use Rattle.cone_definitions.specs.Rows.{Row as EquationRow}
use Rattle.skeleton_definitions.specs.Skeleton.{Skeleton}
use Rattle.surface_definitions.specs.declared.Coords.{Coords}
use Rattle.surface_vector_definitions.specs.declared.Refusal.{Refusal}
use Rattle.surface_vector_definitions.specs.Answers.{IsDescription}
use Rattle.vector_commands.specs.declared.describe_command.Description.{Description}

-- the vector is described, or refused; nothing is stated for out of memory
abbrev pub IsDescriptionResult : Skeleton → Coords → List EquationRow → List ℕ → Result Description (Failure Refusal) → Type 0
IsDescriptionResult s coords equations xs (Ok d) = IsDescription s coords equations xs (Ok (record { vector = xs; properties = d.properties; components = d.pieces }))
IsDescriptionResult s coords equations xs (Err e) = IfFault e (λ refusal. IsDescription s coords equations xs (Err refusal))
