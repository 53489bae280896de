-- The status of an answer is one of accepted words.
use Rattle.std.proofs.Common.{◌≡◌, ℕ, List, Option, Some, None, Result, Ok, Err, inl, inr, sym, subst}
use Rattle.std.specs.Prelude.{codes, ◌⊎◌, MatchOption}
use Rattle.table_definitions.specs.Table.{Row}
use Rattle.table_definitions.specs.Places.{IsConnected}
use Rattle.skeleton_definitions.specs.Skeleton.{Skeleton}
use Rattle.surface_definitions.specs.declared.Coords.{Coords}
use Rattle.surface_definitions.specs.declared.VectorFault.{VectorFault}
use Rattle.cone_definitions.specs.Listings.{Enumeration}
use Rattle.signature_definitions.specs.declared.InputFault.{InputFault}
use Rattle.text_document_definitions.specs.Blocks.{Block}
use Rattle.command_definitions.specs.declared.Request.{Request}
use Rattle.command_definitions.specs.declared.Request.TheVariants.{Verify, Info, Surfaces, Rays, Describe, Lift, Crush, Play, Sig, Same, Group, Check, Descend, Make, Bulk, Decompose, Addup, Cover, Pi1, Csig, Csame}
use Rattle.outcome_definitions.specs.Outcomes.{Outcome, IsReadOutcome, IsOwnStatus, fault_outcome}
use Rattle.outcome_definitions.specs.Enumerations.{IsEnumerationAnswer, ray_enumeration, list_outcome, large_outcome}
use Rattle.outcome_definitions.specs.Canonical.{IsNotConnected, IsSignatureAnswer, IsCompared, IsSameAnswer, IsGroupAnswer}
use Rattle.surface_definitions.specs.declared.VectorFault.TheVariants as faults
use Rattle.surface_vector_definitions.specs.Answers.{Description}
use Rattle.sum_definitions.specs.declared.AddFault.TheVariants as adding
use Rattle.sum_definitions.specs.declared.AddFault.TheVariants.{ZeroTimes, NotEqual}
use Rattle.sum_definitions.specs.declared.LargeTurn.{LargeTurn}
use Rattle.cover_definitions.specs.Cover.{cover_fault}
use Rattle.cover_definitions.specs.declared.LargeCover.{LargeCover}
use Rattle.presentation_definitions.specs.Groups.{HasGroup}
use Rattle.surface_vector_definitions.specs.declared.Refusal.{Refusal}
use Rattle.surface_vector_definitions.specs.declared.Refusal.TheVariants.{Unfit, LargeSum, TooManyPieces, LargeLift, NoLift}
use Rattle.outcome_definitions.specs.Vectors.{refusal_outcome, crush_outcome, lift_outcome, describe_outcome, IsDescribeAnswer, IsInvalidAnswered}
use Rattle.outcome_definitions.specs.declared.SumRefusal.{SumRefusal}
use Rattle.outcome_definitions.specs.declared.SumRefusal.TheVariants as sums
use Rattle.outcome_definitions.specs.declared.SumRefusal.TheVariants.{UnfitTerm, LargeTimes, NoSum}
use Rattle.outcome_definitions.specs.Sums.{sum_refusal_outcome, sums_outcome, IsDecomposed, IsDecomposeAnswer, addup_outcome}
use Rattle.outcome_definitions.specs.Covers.{IsCoverAnswered, large_cover_outcome}
use Rattle.outcome_definitions.specs.Presented.{IsPresented}
use Rattle.outcome_definitions.specs.Parts.{IsSamePartsAnswer}
use Rattle.outcome_definitions.specs.Makings.{IsBulkAnswer}
use Rattle.outcome_definitions.proofs.CertificateStatus.{check_own, descend_own}
use Rattle.outcome_definitions.specs.Meanings.{CommandMeaning, Reads, Alone, IsOutcomeBy}
use Rattle.outcome_definitions.specs.Answers.{meaning_of, IsAnswerTo}

-- an outcome that equals one with a status of accepted words has such a status
is_own : (o p : Outcome) → o ≡ p → IsOwnStatus p.status → IsOwnStatus o.status
is_own o p e h = subst (λ (q : Outcome). IsOwnStatus q.status) (sym e) h

-- the outcome of a document has a status of accepted words if the answer to each value has
read_own : {A : Type 0} (document : Result A InputFault) (IsAnswer : A → Outcome → Type 0) (o : Outcome) →
    ((value : A) → IsAnswer value o → IsOwnStatus o.status) → IsReadOutcome document IsAnswer o → IsOwnStatus o.status
read_own (Ok value) IsAnswer o own h = own value h
read_own (Err fault) IsAnswer o own h = is_own o (fault_outcome fault) h tt

enumeration_own : (name : List ℕ) (e : Enumeration) (o : Outcome) → IsEnumerationAnswer name e o → IsOwnStatus o.status
enumeration_own name e o (inl h) = is_own o (list_outcome name h.1) h.3 tt
enumeration_own name e o (inr h) = is_own o (large_outcome h.0 h.1) h.3 tt

not_connected_own : (k : ℕ) (rows : List Row) (o : Outcome) → IsNotConnected k rows o → IsOwnStatus o.status
not_connected_own k rows o h = is_own o _ h.2 tt

signature_own : (rows : List Row) (o : Outcome) → IsSignatureAnswer rows o → IsOwnStatus o.status
signature_own rows o (inl h) = is_own o _ h.reported tt
signature_own rows o (inr h) = not_connected_own 0 rows o h

compared_own : (first second : List Row) (o : Outcome) → IsCompared first second o → IsOwnStatus o.status
compared_own first second o (inl h) = is_own o _ h.2 tt
compared_own first second o (inr h) = is_own o _ h.1 tt

same_own : (pair : List Row × List Row) (o : Outcome) → IsSameAnswer pair o → IsOwnStatus o.status
same_own pair o (inl h) = not_connected_own 0 pair.0 o h
same_own pair o (inr (inl h)) = not_connected_own 1 pair.1 o h.1
same_own pair o (inr (inr h)) = compared_own pair.0 pair.1 o h.2

group_own : (tables : List (List Row)) (o : Outcome) → IsGroupAnswer tables o → IsOwnStatus o.status
group_own tables o (inl h) = is_own o _ h.reported tt
group_own tables o (inr h) = not_connected_own h.table _ o h.reported

refusal_own : (v : ℕ) (r : Refusal) → IsOwnStatus (refusal_outcome v r).status
refusal_own v (Unfit (faults.Length n)) = tt
refusal_own v (Unfit (faults.Large i)) = tt
refusal_own v (Unfit (faults.NotSolution i)) = tt
refusal_own v (Unfit (faults.Clash a b)) = tt
refusal_own v (LargeSum s) = tt
refusal_own v (TooManyPieces n) = tt
refusal_own v LargeLift = tt
refusal_own v (NoLift c) = tt

crush_own : (reported : Result (List Row) Refusal) → IsOwnStatus (crush_outcome reported).status
crush_own (Ok rows) = tt
crush_own (Err r) = refusal_own 0 r

lift_own : (reported : Result (List (List ℕ)) (ℕ × Refusal)) → IsOwnStatus (lift_outcome reported).status
lift_own (Ok lifts) = tt
lift_own (Err p) = refusal_own p.0 p.1

describe_text_own : (s : Skeleton) (coords : Coords) (reported : Result (List Description) (ℕ × Refusal)) → IsOwnStatus (describe_outcome s coords reported).status
describe_text_own s coords (Ok descriptions) = tt
describe_text_own s coords (Err p) = refusal_own p.0 p.1

invalid_own : (s : Skeleton) (o : Outcome) → IsInvalidAnswered s o → IsOwnStatus o.status
invalid_own s o h = is_own o _ h.2 tt

describe_own : (coords : Coords) (d : List Row × List (List ℕ)) (o : Outcome) → IsDescribeAnswer coords d o → IsOwnStatus o.status
describe_own coords d o h = elim h.reported [
  | inl invalid ↦ invalid_own h.skeleton o invalid
  | inr g ↦ is_own o (describe_outcome h.skeleton coords (g.1).reported) (g.1).outcome (describe_text_own h.skeleton coords (g.1).reported)
]

sum_refusal_own : (v : ℕ) (r : SumRefusal) → IsOwnStatus (sum_refusal_outcome v r).status
sum_refusal_own v (sums.Unfit (faults.Length n)) = tt
sum_refusal_own v (sums.Unfit (faults.Large i)) = tt
sum_refusal_own v (sums.Unfit (faults.NotSolution i)) = tt
sum_refusal_own v (sums.Unfit (faults.Clash a b)) = tt
sum_refusal_own v (UnfitTerm i (faults.Length n)) = tt
sum_refusal_own v (UnfitTerm i (faults.Large j)) = tt
sum_refusal_own v (UnfitTerm i (faults.NotSolution j)) = tt
sum_refusal_own v (UnfitTerm i (faults.Clash a b)) = tt
sum_refusal_own v (LargeTimes turn column) = tt
sum_refusal_own v (NoSum ZeroTimes) = tt
sum_refusal_own v (NoSum (adding.Large column)) = tt
sum_refusal_own v (NoSum (NotEqual column)) = tt

sums_own : (rows : List Row) (reported : Result (List Block) (ℕ × LargeTurn)) → IsOwnStatus (sums_outcome rows reported).status
sums_own rows (Ok blocks) = tt
sums_own rows (Err large) = tt

decomposed_own : (most : ℕ) (e : Enumeration) (rows : List Row) (vectors : List (List ℕ)) (checked : Result (List (Unit {0})) (ℕ × VectorFault)) (o : Outcome)
    → IsDecomposed most e rows vectors checked o → IsOwnStatus o.status
decomposed_own most e rows vectors (Ok passed) o (inl h) = is_own o (sums_outcome rows h.reported) h.outcome (sums_own rows h.reported)
decomposed_own most e rows vectors (Ok passed) o (inr h) = is_own o _ h.3 tt
decomposed_own most e rows vectors (Err unfit) o h = is_own o _ h (sum_refusal_own unfit.0 (sums.Unfit unfit.1))

decompose_own : (coords : Coords) (most : ℕ) (d : List Row × List (List ℕ)) (o : Outcome) → IsDecomposeAnswer coords most d o → IsOwnStatus o.status
decompose_own coords most d o h = decomposed_own most _ d.0 d.1 h.checked o h.reported

addup_own : (reported : Result (List (Unit {0})) (ℕ × SumRefusal)) → IsOwnStatus (addup_outcome reported).status
addup_own (Ok accepted) = tt
addup_own (Err p) = sum_refusal_own p.0 p.1

cover_own : (fault : Option LargeCover) (rows : List Row) (o : Outcome) → MatchOption fault (IsCoverAnswered rows o) (λ _. o ≡ large_cover_outcome) → IsOwnStatus o.status
cover_own None rows o h = is_own o _ h.2 tt
cover_own (Some fault) rows o h = is_own o _ h tt

presented_own : (s : Skeleton) (o : Outcome) → IsNotConnected 0 s.rows o ⊎ (IsConnected s.rows × IsInvalidAnswered s o) ⊎ (HasGroup s × IsPresented s o) → IsOwnStatus o.status
presented_own s o (inl h) = not_connected_own 0 s.rows o h
presented_own s o (inr (inl h)) = invalid_own s o h.1
presented_own s o (inr (inr h)) = is_own o _ (h.1).2 tt

same_parts_own : (pair : List Row × List Row) (o : Outcome) → IsSamePartsAnswer pair o → IsOwnStatus o.status
same_parts_own pair o (inl h) = is_own o _ h.reported tt
same_parts_own pair o (inr h) = is_own o _ h.1 tt

bulk_own : (seed moves : ℕ) (o : Outcome) → IsBulkAnswer seed moves o → IsOwnStatus o.status
bulk_own seed moves o h = elim h.summary.reported [
  | inl g ↦ is_own o _ g.outcome tt
  | inr g ↦ is_own o _ g.3 tt
]

-- each right outcome by this meaning has one of the statuses of accepted words, unless no document was read
abbrev HasOwnStatus : CommandMeaning → Type 0
HasOwnStatus (Reads {A = A} document IsAnswer) = (value : A) (o : Outcome) → IsAnswer value o → IsOwnStatus o.status
HasOwnStatus (Alone IsAnswer) = (o : Outcome) → IsAnswer o → IsOwnStatus o.status

own_by : (meaning : CommandMeaning) → HasOwnStatus meaning → (bytes : List ℕ) (o : Outcome) → IsOutcomeBy meaning bytes o → IsOwnStatus o.status
own_by (Reads document IsAnswer) own bytes o h = read_own (document bytes) IsAnswer o (λ value. own value o) h
own_by (Alone IsAnswer) own bytes o h = own o h

-- the right outcomes of each command
each_own : (request : Request) → HasOwnStatus (meaning_of request)
each_own (Verify coords) = λ d o h. is_own o _ h.2 tt
each_own Info = λ rows o h. is_own o _ h.2 tt
each_own (Surfaces coords order most) = λ rows o h. enumeration_own (codes "surfaces") _ o h.2
each_own (Rays order most) = λ cone o h. enumeration_own (codes "rays") (ray_enumeration order most cone) o h
each_own (Describe coords) = describe_own coords
each_own Lift = λ d o h. is_own o (lift_outcome h.reported) h.outcome (lift_own h.reported)
each_own Crush = λ d o h. is_own o (crush_outcome h.reported) h.outcome (crush_own h.reported)
each_own Play = λ d o h. is_own o _ h.5 tt
each_own Sig = signature_own
each_own Same = same_own
each_own Group = group_own
each_own Check = check_own
each_own Descend = descend_own
each_own (Make seed moves) = λ o h. is_own o _ h.outcome tt
each_own (Bulk seed moves) = bulk_own seed moves
each_own (Decompose coords most) = decompose_own coords most
each_own (Addup coords) = λ d o h. is_own o (addup_outcome h.reported) h.outcome (addup_own h.reported)
each_own Cover = λ rows. cover_own (cover_fault rows) rows
each_own Pi1 = λ rows o h. presented_own h.skeleton o h.reported
each_own Csig = λ rows o h. is_own o _ h.reported tt
each_own Csame = same_parts_own

pub answer_own : (request : Request) (bytes : List ℕ) (o : Outcome) → IsAnswerTo request bytes o → IsOwnStatus o.status
answer_own request bytes o h = own_by (meaning_of request) (each_own request) bytes o h
