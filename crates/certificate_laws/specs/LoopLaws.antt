-- Theorems on the states of a descent and of a making: the first one, the next one and the last one.
use Rattle.std.specs.Prelude.{◌≡◌, ℕ, ◌+◌, ◌<◌, ◌≤◌, ◌⊎◌, List, [], ◌∷◌, ◌++◌, length, take, drop, Some, None}
use Rattle.std.specs.List.{slice_index_or}
use Rattle.table_definitions.specs.Table.{Row}
use Rattle.table_definitions.specs.Relabelling.{Relabelling}
use Rattle.move_definitions.specs.Moves.{Move, play_fault, Plays, PlaysAll}
use Rattle.move_definitions.specs.declared.MoveFault.{MoveFault}
use Rattle.move_definitions.specs.Certificates.{IsStandard, descent_move, IsDescent, candidates, IsMaking}
use Rattle.certificate_definitions.specs.Answers.{IsRefusedAt}
use Rattle.certificate_definitions.specs.CarriedBack.{IsCarriedBack, move_back, AreCarriedBack}
use Rattle.certificate_definitions.specs.SoFar.{Descends, DescendsSoFar, Stage, Makes, MakesSoFar}

-- moves that are checked one after another
abbrev pub ChecksGoOn : Type 0
ChecksGoOn =
    (rows : List Row) (moves : List Move) (k : ℕ) (m : Move) (table next : List Row) → k < length moves → m ≡ slice_index_or moves k m → PlaysAll rows (take k moves) table → Plays table m next
    → PlaysAll rows (take (k + 1) moves) next

abbrev pub ChecksRefuse : Type 0
ChecksRefuse =
    (rows : List Row) (moves : List Move) (k : ℕ) (m : Move) (table : List Row) (fault : MoveFault) → k < length moves → m ≡ slice_index_or moves k m → PlaysAll rows (take k moves) table
    → play_fault table m ≡ Some fault → IsRefusedAt rows moves (k + 1) fault

-- a descent
abbrev pub DescentsGoOn : Type 0
DescentsGoOn = (rows : List Row) (moves : List Move) (table : List Row) (m : Move) (next : List Row) → DescendsSoFar rows moves table → Descends table m next → DescendsSoFar rows (moves ++ m ∷ []) next

abbrev pub DescentsAreDone : Type 0
DescentsAreDone = (rows : List Row) (moves : List Move) (table : List Row) → DescendsSoFar rows moves table → IsStandard table ⊎ (descent_move table ≡ None) → IsDescent rows moves table

-- a making
abbrev pub MakingsGoOn : Type 0
MakingsGoOn = (first : Stage) (moves : List Move) (now : Stage) (m : Move) (next : Stage) → MakesSoFar first moves now → Makes now m next → MakesSoFar first (moves ++ m ∷ []) next

abbrev pub MakingsAreDone : Type 0
MakingsAreDone =
    (most : ℕ) (first : Stage) (moves : List Move) (now : Stage) → MakesSoFar first moves now → length moves ≤ most → (length moves ≡ most) ⊎ (candidates now.table ≡ [])
    → IsMaking most first.state first.table moves now.table

-- a list of inverse moves, from the last move to the first
abbrev pub InversesExtend : Type 0
InversesExtend =
    (rows next : List Row) (moves : List Move) (k : ℕ) (m : Move) (last : List Row) (back : List Move) (now : List Row) (on : Relabelling) (end : List Row) (by : Relabelling)
    → k < length moves → m ≡ slice_index_or moves k m → Plays rows m next → AreCarriedBack next (drop (k + 1) moves) last back now on
    → Plays now (move_back rows m on) end → IsCarriedBack rows m now (move_back rows m on) on by → AreCarriedBack rows (drop k moves) last (back ++ move_back rows m on ∷ []) end by
