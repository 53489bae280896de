-- The answers to a table and moves that may certify it, and to a table that is to be simplified.
use Rattle.std.specs.Prelude.{◌≡◌, ◌≢◌, ◌↔◌, ℕ, ◌+◌, Bool, true, List, ◌∷◌, ◌++◌, length, Some, Result, Ok, Err, codes}
use Rattle.table_definitions.specs.Table.{Row}
use Rattle.table_definitions.specs.Places.{IsConnected, IsLeastUnreached}
use Rattle.signature_definitions.specs.Spelling.{IsSignature}
use Rattle.move_definitions.specs.Moves.{Move, play_fault, PlaysAll}
use Rattle.move_definitions.specs.declared.MoveFault.{MoveFault}
use Rattle.move_definitions.specs.Certificates.{IsStandard, IsCertificate, IsDescent}
use Rattle.certificate_definitions.specs.declared.CheckFault.{CheckFault}
use Rattle.certificate_definitions.specs.declared.CheckFault.TheVariants.{Illegal, NotConnected, NotStandard}

-- the moves before one are played, and this one is refused
pub record IsRefusedAt (rows : List Row) (moves : List Move) (step : ℕ) (fault : MoveFault) : Type 0 where
  pub before : List Move
  pub refused : Move
  pub after : List Move
  pub all : moves ≡ before ++ refused ∷ after
  pub place : step ≡ length before + 1
  pub table : List Row
  pub led : PlaysAll rows before table
  pub refuses : play_fault table refused ≡ Some fault

abbrev pub sphere_text : List ℕ
sphere_text = codes "bkaagj"

-- the answer to a table and moves: they certify it, or the reason why not
abbrev pub CheckAnswer : Type 0
CheckAnswer = Result (Unit {0}) (CheckFault (List ℕ))

-- The moves are a certificate; or the first move that is refused, by its place from 1; or the last table has a
-- tetrahedron that is not reached; or it has this signature, which is not that of the standard sphere.
abbrev pub IsChecked : List Row → List Move → CheckAnswer → Type 0
IsChecked rows moves (Ok u) = IsCertificate rows moves
IsChecked rows moves (Err (Illegal step fault)) = IsRefusedAt rows moves step fault
IsChecked rows moves (Err (NotConnected t)) = (last : List Row) × PlaysAll rows moves last × IsLeastUnreached last t
IsChecked rows moves (Err (NotStandard text)) =
    (last : List Row) × PlaysAll rows moves last × IsConnected last × IsSignature last text × (text ≢ sphere_text)

-- the answer of a descent: whether it reached the standard sphere, its moves, and the table at which it ended
pub record Descended : Type 0 where
  pub reached : Bool
  pub moves : List Move
  pub table : List Row

pub record IsDescended (rows : List Row) (d : Descended) : Type 0 where
  pub descent : IsDescent rows d.moves d.table
  pub reached : (d.reached ≡ true) ↔ IsStandard d.table

-- the answer to a table that is to be simplified: its descent, or the least tetrahedron not joined to tetrahedron 0
abbrev pub DescentAnswer : Type 0
DescentAnswer = Result Descended ℕ

abbrev pub IsDescentAnswer : List Row → DescentAnswer → Type 0
IsDescentAnswer rows (Ok d) = IsConnected rows × IsDescended rows d
IsDescentAnswer rows (Err t) = IsLeastUnreached rows t
