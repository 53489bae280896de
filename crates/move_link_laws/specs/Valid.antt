-- A legal move keeps valid edges valid, and invalid ones invalid.
use Rattle.std.specs.Prelude.{◌≡◌, ℕ, ◌<◌, ◌↔◌, List, length}
use Rattle.std.specs.List.{AllPairs, Contains}
use Rattle.table_definitions.specs.Table.{Row, IsTable}
use Rattle.table_definitions.specs.Classes.{least}
use Rattle.table_definitions.specs.Places.{IsInvalidEdge, HasValidEdges}
use Rattle.skeleton_definitions.specs.Skeleton.{Skeleton, IsSkeleton}
use Rattle.move_definitions.specs.Moves.{Move, IsMoved, PlaysAll}

-- a move leads from a table all of whose edges are valid to such a table, and from no other to one
abbrev pub MovesKeepValid : Type 0
MovesKeepValid = (old : List Row) (m : Move) (new : List Row) → IsTable old → IsMoved old m new → HasValidEdges old ↔ HasValidEdges new

-- and so do moves that are played one after another
abbrev pub PlaysKeepValid : Type 0
PlaysKeepValid = (old : List Row) (moves : List Move) (new : List Row) → PlaysAll old moves new → HasValidEdges old ↔ HasValidEdges new

-- the invalid edge classes, ascending
pub record AreInvalidClasses (s : Skeleton) (classes : List ℕ) : Type 0 where
  pub ascending : AllPairs ◌<◌ classes
  pub each : (c : ℕ) → Contains classes c ↔ ((c < s.edges.count) × IsInvalidEdge s.rows (least s.edges.classes c))

-- a move leaves their number
abbrev pub MovesKeepInvalid : Type 0
MovesKeepInvalid =
    (s : Skeleton) (m : Move) (s' : Skeleton) (before after : List ℕ) → IsSkeleton s → IsSkeleton s' → IsMoved s.rows m s'.rows → AreInvalidClasses s before → AreInvalidClasses s' after
    → length before ≡ length after
