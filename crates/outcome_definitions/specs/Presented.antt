-- What `pi1` is to answer: the generators and relators of a table.
use Rattle.std.specs.Prelude.{◌≡◌, ◌⊎◌, ℕ, ◌+◌, Bool, true, false, List, [], ◌++◌, length, slice_index, codes, decimal}
use Rattle.std.specs.List.{slice_index_or, flat_map}
use Rattle.table_definitions.specs.Table.{Row}
use Rattle.table_definitions.specs.Places.{IsConnected}
use Rattle.skeleton_definitions.specs.Skeleton.{Skeleton, IsSkeleton}
use Rattle.presentation_definitions.specs.declared.Letter.{Letter}
use Rattle.presentation_definitions.specs.Presentations.{Presentation, IsPresentation}
use Rattle.presentation_definitions.specs.Groups.{HasGroup}
use Rattle.text_definitions.specs.Written.{line, yes_or_no}
use Rattle.outcome_definitions.specs.Lines.{number_line}
use Rattle.outcome_definitions.specs.Outcomes.{Outcome}
use Rattle.outcome_definitions.specs.Information.{classes_text}
use Rattle.outcome_definitions.specs.Canonical.{done, IsNotConnected}
use Rattle.outcome_definitions.specs.Vectors.{IsInvalidAnswered}

-- a space, a minus sign for an inverse, and the number of the generator
abbrev pub sign_text : Bool → List ℕ
sign_text true = codes " -"
sign_text false = codes " "

abbrev pub letter_text : Letter → List ℕ
letter_text letter = sign_text letter.inverse ++ decimal letter.generator

-- the generator of number k + 1: its face class, and whether it reverses orientation
abbrev pub generator_line : ℕ → ℕ → Bool → List ℕ
generator_line k class turns = line (codes "generator " ++ decimal (k + 1) ++ codes " face " ++ decimal class ++ codes " turns " ++ yes_or_no turns)

-- a relator: its edge class, and its letters
abbrev pub relator_line : ℕ → List Letter → List ℕ
relator_line class letters = line (codes "relator " ++ decimal class ++ flat_map letter_text letters)

abbrev pub generator_text : Presentation → ℕ → List ℕ
generator_text p k = generator_line k (slice_index p.generators k) (slice_index_or p.turning k false)

abbrev pub relator_text : Presentation → ℕ → List ℕ
relator_text p r = relator_line (slice_index p.edges r) (slice_index_or p.relators r [])

abbrev pub presentation_text : Presentation → List ℕ
presentation_text p =
    number_line (codes "generators ") (length p.generators) ++ classes_text (generator_text p) (length p.generators)
    ++ number_line (codes "relators ") (length p.relators) ++ classes_text (relator_text p) (length p.relators)

-- the answer is the presentation of a table
abbrev pub IsPresented : Skeleton → Outcome → Type 0
IsPresented s o = (p : Presentation) × IsPresentation s p × (o ≡ done (presentation_text p))

-- the answer of `pi1` to a table: the table is to be connected, and then each edge class valid
pub record IsPresentationAnswer (rows : List Row) (o : Outcome) : Type 0 where
  pub skeleton : Skeleton
  pub of_rows : skeleton.rows ≡ rows
  pub is_skeleton : IsSkeleton skeleton
  pub reported : IsNotConnected 0 skeleton.rows o ⊎ (IsConnected skeleton.rows × IsInvalidAnswered skeleton o) ⊎ (HasGroup skeleton × IsPresented skeleton o)
