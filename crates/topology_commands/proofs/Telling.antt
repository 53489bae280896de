-- The outcome of a cover or a presentation is the answer of its command.
use Rattle.std.proofs.Common.{◌≡◌, ℕ, List, Option, None, Some, inl, inr, MatchOption, subst, sym}
use Rattle.out_of_memory.specs.declared.Failure.{Failure}
use Rattle.out_of_memory.specs.declared.Failure.TheVariants.{Fault}
use Rattle.out_of_memory.specs.Failures.{IfFault}
use Rattle.table_definitions.specs.Table.{Row}
use Rattle.table_definitions.specs.Places.{IsLeastUnreached}
use Rattle.skeleton_definitions.specs.Skeleton.{Skeleton, IsSkeleton}
use Rattle.cover_definitions.specs.declared.LargeCover.{LargeCover}
use Rattle.cover_definitions.specs.Cover.{cover_fault}
use Rattle.presentation_definitions.specs.declared.GroupFault.{GroupFault}
use Rattle.presentation_definitions.specs.declared.GroupFault.TheVariants.{NotConnected, InvalidEdge}
use Rattle.presentation_definitions.specs.Groups.{IsGroupFault}
use Rattle.surface_vector_definitions.specs.Texts.{invalid_edge_line}
use Rattle.outcome_definitions.specs.declared.Status.TheVariants.{Refused}
use Rattle.outcome_definitions.specs.Outcomes.{Outcome}
use Rattle.outcome_definitions.specs.Canonical.{not_connected_outcome}
use Rattle.outcome_definitions.specs.Covers.{large_cover_outcome, IsCoverAnswered, IsCoverAnswer}
use Rattle.outcome_definitions.specs.Presented.{IsPresentationAnswer}

-- ---- covers

pub cover_answer : (rows base : List Row) (o : Outcome) → base ≡ rows → cover_fault rows ≡ None → IsCoverAnswered base o → IsCoverAnswer rows o
cover_answer rows base o e fits t =
    subst (λ (f : Option LargeCover). MatchOption f (IsCoverAnswered rows o) (λ _. o ≡ large_cover_outcome)) (sym fits) (subst (λ (b : List Row). IsCoverAnswered b o) e t)

pub large_answer : (rows : List Row) (failure : Failure LargeCover) (fault : LargeCover) (o : Outcome) → failure ≡ Fault fault → IfFault failure (λ f. cover_fault rows ≡ Some f) → o ≡ large_cover_outcome → IsCoverAnswer rows o
large_answer rows failure fault o same is reported =
    subst (λ (f : Option LargeCover). MatchOption f (IsCoverAnswered rows o) (λ _. o ≡ large_cover_outcome)) (sym (subst (λ (e : Failure LargeCover). IfFault e (λ f. cover_fault rows ≡ Some f)) same is)) reported

-- ---- presentations

pub fault_of : (s : Skeleton) (failure : Failure GroupFault) (fault : GroupFault) → failure ≡ Fault fault → IfFault failure (IsGroupFault s) → IsGroupFault s fault
fault_of s failure fault same is = subst (λ (e : Failure GroupFault). IfFault e (IsGroupFault s)) same is

pub not_connected_answer : (rows : List Row) (s : Skeleton) (fault : GroupFault) (tet : ℕ) (o : Outcome) → s.rows ≡ rows → IsSkeleton s → fault ≡ NotConnected tet → IsGroupFault s fault
    → o ≡ not_connected_outcome 0 tet → IsPresentationAnswer rows o
not_connected_answer rows s fault tet o of_rows h same is reported = record { skeleton = s; of_rows = of_rows; is_skeleton = h; reported = inl (tet, least, reported) }
  where
    least : IsLeastUnreached s.rows tet
    least = subst (IsGroupFault s) same is

pub invalid_answer : (rows : List Row) (s : Skeleton) (fault : GroupFault) (class : ℕ) (o : Outcome) → s.rows ≡ rows → IsSkeleton s → fault ≡ InvalidEdge class → IsGroupFault s fault
    → o ≡ record { status = Refused; text = invalid_edge_line class } → IsPresentationAnswer rows o
invalid_answer rows s fault class o of_rows h same is reported = record { skeleton = s; of_rows = of_rows; is_skeleton = h; reported = inr (inl (found.0, (class, found.1, reported))) }
  where
    found : IsGroupFault s (InvalidEdge class)
    found = subst (IsGroupFault s) same is
