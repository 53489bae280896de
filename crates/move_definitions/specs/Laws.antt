-- Laws over moves.
use Rattle.std.specs.Prelude.{◌≡◌, ℕ, ◌≤◌, List, length, None}
use Rattle.text_definitions.specs.Text.{Line}
use Rattle.table_definitions.specs.Table.{max_tets, Row, IsTable}
use Rattle.table_definitions.specs.Relabelling.{AreIsomorphic}
use Rattle.move_definitions.specs.Moves.{Move, IsCore, move_fault, IsMoved, inverse_move, PlaysAll}
use Rattle.move_definitions.specs.Grammar.{IsMoveLine}
use Rattle.move_definitions.specs.Certificates.{IsDescent, IsMaking}

-- Theorem: a move without an error has a result, apart from the limit of tetrahedra
abbrev pub LegalMovesLeadOn : Type 0
LegalMovesLeadOn = (old : List Row) (m : Move) → IsTable old → IsCore m.core → move_fault old m ≡ None → (new : List Row) × IsMoved old m new

-- Theorem: a move has at most one resulting table
abbrev pub MovesAgree : Type 0
MovesAgree = (old : List Row) (m : Move) (new new' : List Row) → IsTable old → IsMoved old m new → IsMoved old m new' → new ≡ new'

-- Theorem: within the limit, the resulting rows are a table
abbrev pub MovesMakeTables : Type 0
MovesMakeTables = (old : List Row) (m : Move) (new : List Row) → IsTable old → length new ≤ max_tets → IsMoved old m new → IsTable new

-- Theorem: the inverse of a move has a core, and its result is a table isomorphic to the first, and nothing else
abbrev pub InversesHaveCores : Type 0
InversesHaveCores = (n : ℕ) (m : Move) → IsCore m.core → IsCore (inverse_move n m).core

abbrev pub InversesLeadBackUpToLabels : Type 0
InversesLeadBackUpToLabels =
    (old : List Row) (m : Move) (new : List Row) → IsTable old → IsMoved old m new
    → (back : List Row) × IsMoved new (inverse_move (length old) m) back × AreIsomorphic old back

abbrev pub InversesLeadOnlyBack : Type 0
InversesLeadOnlyBack =
    (old : List Row) (m : Move) (new back : List Row) → IsTable old → length new ≤ max_tets → IsMoved old m new
    → IsMoved new (inverse_move (length old) m) back → AreIsomorphic old back

-- a move that a line spells has a core
abbrev pub MoveLinesHaveCores : Type 0
MoveLinesHaveCores = (line : Line) (m : Move) → IsMoveLine line m → IsCore m.core

-- Theorem: a sequence of moves has at most one resulting table
abbrev pub PlaysAgree : Type 0
PlaysAgree =
    (old : List Row) (moves : List Move) (last last' : List Row) → IsTable old → PlaysAll old moves last → PlaysAll old moves last'
    → IsTable last × (last ≡ last')

-- a table has one descent, and a state of the generator one making
abbrev pub DescentsAgree : Type 0
DescentsAgree =
    (rows : List Row) (moves : List Move) (last : List Row) (moves' : List Move) (last' : List Row) → IsDescent rows moves last → IsDescent rows moves' last'
    → (moves ≡ moves') × (last ≡ last')

abbrev pub MakingsAgree : Type 0
MakingsAgree =
    (most state : ℕ) (rows : List Row) (moves : List Move) (last : List Row) (moves' : List Move) (last' : List Row) → IsMaking most state rows moves last
    → IsMaking most state rows moves' last' → (moves ≡ moves') × (last ≡ last')
