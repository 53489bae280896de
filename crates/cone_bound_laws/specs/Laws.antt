-- Rays and numbers are bounded by what the equations have in their columns, whatever the order of the rows.
use Rattle.std.specs.Prelude.{ℕ, ◌*◌, ◌≤◌, Bool, List, length, slice_index}
use Rattle.std.specs.List.{range_with_len}
use Rattle.std.specs.List.Sorted.{IsPermutation}
use Rattle.cone_definitions.specs.Rows.{Row}
use Rattle.cone_definitions.specs.Surfaces.{Clash, IsVertexSurface}
use Rattle.cone_definitions.specs.Listings.{AreWithin}
use Rattle.cone_definitions.specs.Systems.{System}
use Rattle.cone_bound_laws.specs.Caps.{HasCaps, caps_product}

-- no entry of a vertex surface is above the product of the caps
abbrev pub EntriesAreBounded : Type 0
EntriesAreBounded = (columns : ℕ) (rows : List Row) (pairs : List Clash) (free : ℕ → Bool) (group cap : ℕ → ℕ) (groups size : ℕ) →
    HasCaps columns rows pairs free group cap groups size → (x : List ℕ) → IsVertexSurface columns rows pairs x → (j : ℕ) → slice_index x j ≤ caps_product cap groups

-- so no number of a step exceeds a limit that is at least the size of the rows times the square of that, in any order
-- of the rows
abbrev pub NumbersAreBounded : Type 0
NumbersAreBounded = (limit : ℕ) (system : System) (pairs : List Clash) (free : ℕ → Bool) (group cap : ℕ → ℕ) (groups size : ℕ) →
    HasCaps system.columns system.rows pairs free group cap groups size → size * (caps_product cap groups * caps_product cap groups) ≤ limit →
    (taken : List ℕ) → IsPermutation (range_with_len 0 (length system.rows)) taken → AreWithin limit system pairs taken
