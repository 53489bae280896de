-- A bound of the columns of a system bounds all numbers, in any order of its rows.
use Rattle.std.proofs.Common.{ℕ, []}
use Rattle.cone_definitions.specs.Systems.{System}
use Rattle.cone_definitions.specs.declared.Order.{Order}
use Rattle.cone_square_laws.proofs.Numbers.{are_within}
use Rattle.number_bounds.specs.Columns.{cap_by, AreColumnsBounded}
use Rattle.vertex_enumeration.specs.Lists.{AreAlwaysWithin}

pub always_within : (system : System) (order : Order) (limit : ℕ) → AreColumnsBounded system limit → AreAlwaysWithin limit system []
always_within system order limit h taken all =
    let b = h.bounded order in
    are_within limit system [] (λ column. column) (cap_by h.squares) system.columns h.size b.caps b.most taken all
