-- Laws of certificates.
use Rattle.std.specs.Prelude.{◌≡◌, ◌↔◌, ℕ, ◌+◌, ◌<◌, ◌≤◌, ◌⊎◌, List, length, None, Some, All}
use Rattle.table_definitions.specs.Table.{Row, IsTable}
use Rattle.table_definitions.specs.Places.{IsConnected}
use Rattle.table_definitions.specs.Relabelling.{Relabelling, IsRelabelling, Carries}
use Rattle.signature_definitions.specs.Spelling.{Spells, IsSignature}
use Rattle.move_definitions.specs.Moves.{Move, IsCore, move_fault, IsMoved, Plays, PlaysAll}
use Rattle.move_definitions.specs.Certificates.{standard_sphere, IsStandard, IsCertificate, descent_move, IsDescent}
use Rattle.certificate_definitions.specs.CarriedMoves.{move_under, CarriesAfterMove}
use Rattle.certificate_definitions.specs.CarriedBack.{IsCarriedBack, move_back, AreCarriedBack}
use Rattle.certificate_definitions.specs.Makings.{IsMade}
use Rattle.certificate_definitions.specs.Answers.{CheckAnswer, IsChecked, sphere_text, Descended, IsDescended, DescentAnswer, IsDescentAnswer}

-- Theorem: under a relabelling of the table, the move that corresponds to a legal move is legal, and its result
-- corresponds to the result of that move
abbrev pub MovesGoOn : Type 0
MovesGoOn =
    (by : Relabelling) (old other : List Row) (m : Move) (new : List Row) → IsTable old → IsRelabelling (length old) by → Carries by old other → IsMoved old m new
    → (next : List Row) × (on : Relabelling) × IsMoved other (move_under by m) next × CarriesAfterMove by old m other on × IsRelabelling (length new) on × Carries on new next

-- that relabelling is the only one
abbrev pub MovesGoOnOnce : Type 0
MovesGoOnOnce =
    (by : Relabelling) (old other : List Row) (m : Move) (new : List Row) (on on' : Relabelling) → IsTable old → IsRelabelling (length old) by → Carries by old other → IsMoved old m new
    → IsRelabelling (length new) on → IsRelabelling (length new) on' → CarriesAfterMove by old m other on → CarriesAfterMove by old m other on' → on ≡ on'

-- under a relabelling of the table, a move is legal if and only if the corresponding move is
abbrev pub IsLegalAlong : Relabelling → List Row → List Row → Type 0
IsLegalAlong by old other = (m : Move) → m.tet < length old → IsCore m.core → (move_fault old m ≡ None) ↔ (move_fault other (move_under by m) ≡ None)

abbrev pub LegalMovesGoAlong : Type 0
LegalMovesGoAlong = (by : Relabelling) (old other : List Row) → IsTable old → IsRelabelling (length old) by → Carries by old other → IsLegalAlong by old other

-- so a table has the legal moves of the table that its signature spells, along a relabelling that carries it there
abbrev pub SignaturesKeepLegalMoves : Type 0
SignaturesKeepLegalMoves =
    (rows spelled : List Row) (text : List ℕ) → IsTable rows → IsSignature rows text → Spells text spelled
    → (by : Relabelling) × IsRelabelling (length rows) by × Carries by rows spelled × IsLegalAlong by rows spelled

-- and the limit of tetrahedra is kept where it was
abbrev pub PlaysGoOn : Type 0
PlaysGoOn =
    (by : Relabelling) (old other : List Row) (m : Move) (new : List Row) → Plays old m new → IsRelabelling (length old) by → Carries by old other
    → (next : List Row) × Plays other (move_under by m) next

-- a step is carried back to the table to which the later steps were carried back
abbrev pub StepsGoBack : Type 0
StepsGoBack =
    (old : List Row) (m : Move) (new now : List Row) (on : Relabelling) → Plays old m new → IsRelabelling (length new) on → Carries on new now
    → (end : List Row) × (by : Relabelling) × Plays now (move_back old m on) end × IsCarriedBack old m now (move_back old m on) on by × Carries by old end

-- the inverses of moves that were played lead back, in exactly one way, to a relabelling of the first table
abbrev pub InversesReturn : Type 0
InversesReturn =
    (rows : List Row) (moves : List Move) (last : List Row) → IsTable rows → PlaysAll rows moves last
    → (back : List Move) × (end : List Row) × (by : Relabelling) × AreCarriedBack rows moves last back end by

abbrev pub InversesCarry : Type 0
InversesCarry =
    (rows : List Row) (moves : List Move) (last : List Row) (back : List Move) (end : List Row) (by : Relabelling) → IsTable rows → AreCarriedBack rows moves last back end by
    → PlaysAll last back end × IsRelabelling (length rows) by × Carries by rows end × (length back ≡ length moves)

abbrev pub InversesAgree : Type 0
InversesAgree =
    (rows : List Row) (moves : List Move) (last last' : List Row) (back back' : List Move) (end end' : List Row) (by by' : Relabelling) → IsTable rows
    → AreCarriedBack rows moves last back end by → AreCarriedBack rows moves last' back' end' by' → (back ≡ back') × (end ≡ end') × (by ≡ by')

-- each seed and number of moves make one table with one certificate, which certifies it
abbrev pub TablesAreMade : Type 0
TablesAreMade = (seed most : ℕ) → (table : List Row) × (certificate : List Move) × IsMade seed most table certificate

abbrev pub OneIsMade : Type 0
OneIsMade =
    (seed most : ℕ) (table table' : List Row) (certificate certificate' : List Move) → IsMade seed most table certificate → IsMade seed most table' certificate'
    → (table ≡ table') × (certificate ≡ certificate')

abbrev pub MadeAreCertified : Type 0
MadeAreCertified = (seed most : ℕ) (table : List Row) (certificate : List Move) → IsMade seed most table certificate → IsCertificate table certificate

-- the standard sphere is a table with this signature
abbrev pub SphereIsTable : Type 0
SphereIsTable = IsTable standard_sphere

abbrev pub SphereHasSignature : Type 0
SphereHasSignature = IsSignature standard_sphere sphere_text

-- Theorem: a table is isomorphic to the standard sphere if and only if its signature is this one
abbrev pub TextsDetermineStandard : Type 0
TextsDetermineStandard = (rows : List Row) (text : List ℕ) → IsTable rows → IsSignature rows text → (text ≡ sphere_text) ↔ IsStandard rows

-- a table and moves have at most one answer, and there is one if each move has a core
abbrev pub AnswersAgree : Type 0
AnswersAgree = (rows : List Row) (moves : List Move) (answer other : CheckAnswer) → IsTable rows → IsChecked rows moves answer → IsChecked rows moves other → answer ≡ other

abbrev pub AnswersExist : Type 0
AnswersExist = (rows : List Row) (moves : List Move) → IsTable rows → All (λ (m : Move). IsCore m.core) moves → (answer : CheckAnswer) × IsChecked rows moves answer

-- each move of a descent reduces the number of tetrahedra
abbrev pub DescentsLessen : Type 0
DescentsLessen = (rows : List Row) (m : Move) (next : List Row) → descent_move rows ≡ Some m → Plays rows m next → length next < length rows

abbrev pub DescentsEnd : Type 0
DescentsEnd = (rows : List Row) (moves : List Move) (last : List Row) → IsTable rows → IsDescent rows moves last → length last + length moves ≤ length rows

-- a descent that reaches the standard sphere has a certificate for its moves
abbrev pub DescentsCertify : Type 0
DescentsCertify = (rows : List Row) (moves : List Move) (last : List Row) → IsTable rows → IsDescent rows moves last → IsStandard last → IsCertificate rows moves

-- a table has one descent, and whether it is standard is decided
abbrev pub StandardOrNot : Type 0
StandardOrNot = (rows : List Row) → IsTable rows → IsStandard rows ⊎ (IsStandard rows → ⊥)

abbrev pub DescentsExist : Type 0
DescentsExist = (rows : List Row) → IsTable rows → (d : Descended) × IsDescended rows d

abbrev pub OneDescent : Type 0
OneDescent = (rows : List Row) (d d' : Descended) → IsTable rows → IsDescended rows d → IsDescended rows d' → d ≡ d'

-- a move keeps a table connected
abbrev pub MovesKeepConnected : Type 0
MovesKeepConnected = (old : List Row) (m : Move) (new : List Row) → Plays old m new → IsConnected old → IsConnected new

-- so moves that lead on keep it connected
abbrev pub WaysKeepConnected : Type 0
WaysKeepConnected = (rows : List Row) (moves : List Move) (last : List Row) → IsTable rows → PlaysAll rows moves last → IsConnected rows → IsConnected last

-- a table has one answer to its descent
abbrev pub DescentAnswersExist : Type 0
DescentAnswersExist = (rows : List Row) → IsTable rows → (answer : DescentAnswer) × IsDescentAnswer rows answer

abbrev pub DescentAnswersAgree : Type 0
DescentAnswersAgree = (rows : List Row) (answer other : DescentAnswer) → IsTable rows → IsDescentAnswer rows answer → IsDescentAnswer rows other → answer ≡ other
