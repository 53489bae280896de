-- What requests hold, and which of them read an input.
use Rattle.std.specs.Prelude.{◌≢◌, ℕ, ◌≤◌, Bool, true, false, ⊤}
use Rattle.text_definitions.specs.Written.{limit}
use Rattle.cone_definitions.specs.declared.Order.{Order}
use Rattle.cone_definitions.specs.declared.Order.TheVariants.{Free}
use Rattle.surface_definitions.specs.declared.Coords.TheVariants.{Quad}
use Rattle.command_definitions.specs.declared.Request.{Request}
use Rattle.command_definitions.specs.declared.Request.TheVariants.{Surfaces, Rays, Describe, Make, Bulk, Decompose}

-- whether a command reads its input; the answer of the others is one to the words alone
abbrev pub reads_input : Request → Bool
reads_input (Make seed moves) = false
reads_input (Bulk seed moves) = false
reads_input _ = true

abbrev pub most_moves : ℕ
most_moves = 1000

abbrev pub most_bulk_moves : ℕ
most_bulk_moves = 5

-- a limit on the numbers of an enumeration
pub record IsLimit (most : ℕ) : Type 0 where
  pub some : 1 ≤ most
  pub limited : most ≤ limit

-- an order that has a name, and a limit on the numbers of an enumeration
pub record IsInRange (order : Order) (most : ℕ) : Type 0 where
  pub named : order ≢ Free
  pub some : 1 ≤ most
  pub limited : most ≤ limit

-- what a request holds is in range
abbrev pub HoldsRange : Request → Type 0
HoldsRange (Surfaces coords order most) = IsInRange order most
HoldsRange (Rays order most) = IsInRange order most
HoldsRange (Describe coords) = coords ≢ Quad
HoldsRange (Decompose coords most) = IsLimit most
HoldsRange (Make seed moves) = moves ≤ most_moves
HoldsRange (Bulk seed moves) = moves ≤ most_bulk_moves
HoldsRange _ = ⊤
