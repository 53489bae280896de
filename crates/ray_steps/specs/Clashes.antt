-- Clashing pairs of columns, and unions of supports that contain none.
use Rattle.std.specs.Prelude.{◌≢◌, ℕ, ◌<◌, ◌⊎◌, List, Bool}
use Rattle.std.specs.List.{All}
use Rattle.cone_definitions.specs.Surfaces.{Clash}
use Rattle.support_bits.specs.Columns.{HasColumn}

-- the number of columns, and the clashing pairs
pub record ClashData : Type 0 where
  pub columns : ℕ
  pub pairs : List Clash

-- each pair consists of two different columns
abbrev pub AreClashes : ℕ → List Clash → Type 0
AreClashes columns clashes = All (λ pair. (pair.0 < columns) × (pair.1 < columns) × (pair.0 ≢ pair.1)) clashes

-- the column is in a or in b
abbrev pub IsInUnion : List Bool → List Bool → ℕ → Type 0
IsInUnion a b column = HasColumn a column ⊎ HasColumn b column

-- the union of a and b contains no listed pair
abbrev pub IsClashFree : List Clash → List Bool → List Bool → Type 0
IsClashFree clashes a b = All (λ pair. ¬ (IsInUnion a b pair.0 × IsInUnion a b pair.1)) clashes

-- the column clashes with no column
abbrev pub IsFree : List Clash → ℕ → Type 0
IsFree pairs column = All (λ pair. (pair.0 ≢ column) × (pair.1 ≢ column)) pairs
