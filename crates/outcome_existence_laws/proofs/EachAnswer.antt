-- Each request has exactly one answer for all bytes, and all words and bytes have exactly one outcome.
use Rattle.std.proofs.Common.{◌≡◌, ℕ, Bool, true, false, List, Option, Some, None, Result, Ok, Err, refl, sym, ◌∙◌}
use Rattle.std.specs.Prelude.{codes}
use Rattle.std.specs.Bool.{MatchBool}
use Rattle.cone_text_definitions.specs.VectorText.{vector_at}
use Rattle.move_definitions.specs.MoveText.{step_at}
use Rattle.command_definitions.specs.declared.Request.{Request}
use Rattle.command_definitions.specs.declared.Request.TheVariants.{Verify, Info, Surfaces, Rays, Describe, Lift, Crush, Play, Sig, Same, Group, Check, Descend, Make, Bulk, Decompose, Addup, Cover, Pi1, Csig, Csame}
use Rattle.command_definitions.specs.Requests.{HoldsRange}
use Rattle.command_definitions.specs.Words.{accepted_request}
use Rattle.command_definitions.proofs.Accepted.{Holds, accepted_hold}
use Rattle.signature_definitions.specs.declared.InputFault.{InputFault}
use Rattle.outcome_definitions.specs.Enumerations.{ray_enumeration}
use Rattle.outcome_definitions.specs.Outcomes.{Outcome, IsReadOutcome, usage_outcome, too_long_outcome, fault_outcome}
use Rattle.outcome_definitions.specs.Meanings.{CommandMeaning, Reads, Alone, IsOutcomeBy}
use Rattle.outcome_definitions.specs.Answers.{is_too_long, meaning_of, IsAnswerTo, IsOutcomeOf, IsOutcome}
use Rattle.outcome_laws.proofs.Listed.{one_verdicts, one_surfaces}
use Rattle.outcome_laws.proofs.Enumerated.{one_enumeration}
use Rattle.outcome_laws.proofs.Informed.{one_information}
use Rattle.outcome_laws.proofs.Scripted.{one_script}
use Rattle.outcome_laws.proofs.Labelled.{one_signature_answer, one_same_answer, one_group_answer}
use Rattle.outcome_laws.proofs.Summed.{one_decompose, one_addup}
use Rattle.outcome_laws.proofs.Covered.{one_cover, some_cover}
use Rattle.outcome_laws.proofs.Presented.{one_presentation_answer}
use Rattle.outcome_laws.proofs.Parted.{one_component_answer, one_same_parts_answer}
use Rattle.outcome_laws.proofs.Certified.{one_check, one_descend, some_check, some_descend, moves_with_cores, table_with_moves, table_alone, table_with_lines}
use Rattle.outcome_laws.proofs.Making.{one_make, one_bulk, some_make}
use Rattle.outcome_laws.proofs.Vectored.{one_describe, one_crush, one_lifts}
use Rattle.outcome_laws.proofs.ReadPairs.{both_are_tables, table_with_vector}
use Rattle.outcome_existence_laws.proofs.Answers.{some_signature_answer, some_same_answer}
use Rattle.outcome_existence_laws.proofs.ReadTables.{all_are_tables, table_with_blocks, steps_with_cores}
use Rattle.outcome_existence_laws.proofs.SignedTables.{some_signature, some_same, some_group}
use Rattle.outcome_existence_laws.proofs.PlayedSteps.{some_script}
use Rattle.outcome_existence_laws.proofs.Enumerated.{some_rays, some_surfaces, some_verdicts}
use Rattle.outcome_existence_laws.proofs.AddedUp.{some_addup}
use Rattle.outcome_existence_laws.proofs.Decomposed.{some_decompose}
use Rattle.outcome_existence_laws.proofs.SummedUp.{some_bulk}
use Rattle.outcome_existence_laws.proofs.Vectored.{some_crush, some_lifts, some_describe}
use Rattle.outcome_existence_laws.proofs.Informed.{some_information, some_group_presentation}

-- the relation holds of exactly one outcome
record HasOneAnswer (IsAnswer : Outcome → Type 0) : Type 0 where
  once : (o p : Outcome) → IsAnswer o → IsAnswer p → o ≡ p
  some : (o : Outcome) × IsAnswer o

-- each value of its document has exactly one right outcome, or there is one where nothing is read
abbrev IsLawful : CommandMeaning → Type 0
IsLawful (Reads {A = A} document IsAnswer) = (bytes : List ℕ) (value : A) → document bytes ≡ Ok value → HasOneAnswer (IsAnswer value)
IsLawful (Alone IsAnswer) = HasOneAnswer IsAnswer

-- the right outcomes of each command
each_lawful : (request : Request) → HoldsRange request → IsLawful (meaning_of request)
each_lawful (Verify coords) range = λ bytes d read. record { once = one_verdicts coords d; some = some_verdicts coords d (table_with_lines vector_at bytes d read) }
each_lawful Info range = λ bytes rows read. record { once = one_information rows; some = some_information rows (table_alone bytes rows read) }
each_lawful (Surfaces coords order most) range = λ bytes rows read. record {
  once = λ o p. one_surfaces coords order most rows o p range.named;
  some = some_surfaces coords order most rows (table_alone bytes rows read);
}
each_lawful (Rays order most) range = λ bytes cone read. record {
  once = λ o p. one_enumeration (codes "rays") (ray_enumeration order most cone) o p range.named;
  some = some_rays order most cone;
}
each_lawful (Describe coords) range = λ bytes d read. record { once = one_describe coords d; some = some_describe coords d range (table_with_lines vector_at bytes d read) }
each_lawful Lift range = λ bytes d read. record { once = one_lifts d; some = some_lifts d (table_with_lines vector_at bytes d read) }
each_lawful Crush range = λ bytes d read. (let is = table_with_vector bytes d read in record { once = λ o p. one_crush d o p is; some = some_crush d is })
each_lawful Play range = λ bytes d read. record { once = one_script d; some = some_script d (table_with_lines step_at bytes d read) (steps_with_cores bytes d read) }
each_lawful Sig range = λ bytes rows read. record { once = one_signature_answer rows; some = some_signature rows (table_alone bytes rows read) }
each_lawful Same range = λ bytes pair read. (let are = both_are_tables bytes pair read in record { once = λ o p. one_same_answer pair o p are.0; some = some_same pair are.0 are.1 })
each_lawful Group range = λ bytes tables read. record { once = one_group_answer tables; some = some_group tables (all_are_tables bytes tables read) }
each_lawful Check range = λ bytes d read. record { once = λ o p. one_check d o p (table_with_moves bytes d read); some = some_check d (table_with_moves bytes d read) (moves_with_cores bytes d read) }
each_lawful Descend range = λ bytes rows read. record { once = λ o p. one_descend rows o p (table_alone bytes rows read); some = some_descend rows (table_alone bytes rows read) }
each_lawful (Make seed moves) range = record { once = one_make seed moves; some = some_make seed moves }
each_lawful (Bulk seed moves) range = record { once = one_bulk seed moves; some = some_bulk seed moves }
each_lawful (Decompose coords most) range = λ bytes d read. record { once = one_decompose coords most d; some = some_decompose coords most d (table_with_lines vector_at bytes d read) }
each_lawful (Addup coords) range = λ bytes d read. record { once = one_addup coords d; some = some_addup coords d (table_with_blocks bytes d read) }
each_lawful Cover range = λ bytes rows read. record { once = one_cover rows; some = some_cover rows (table_alone bytes rows read) }
each_lawful Pi1 range = λ bytes rows read. record { once = one_presentation_answer rows; some = some_group_presentation rows (table_alone bytes rows read) }
each_lawful Csig range = λ bytes rows read. (let is = table_alone bytes rows read in record { once = λ o p. one_component_answer rows o p is; some = some_signature_answer rows is })
each_lawful Csame range = λ bytes pair read. (let are = both_are_tables bytes pair read in record {
  once = λ o p. one_same_parts_answer pair o p are.0 are.1;
  some = some_same_answer pair.0 pair.1 are.0 are.1;
})

-- ---- at most one outcome

-- two outcomes of a document are equal if the answers to its value are
one_read : {A : Type 0} (document : Result A InputFault) (IsAnswer : A → Outcome → Type 0) (o p : Outcome) →
    ((value : A) → document ≡ Ok value → HasOneAnswer (IsAnswer value)) → IsReadOutcome document IsAnswer o → IsReadOutcome document IsAnswer p → o ≡ p
one_read (Ok value) IsAnswer o p has h k = (has value refl).once o p h k
one_read (Err fault) IsAnswer o p has h k = h ∙ sym k

one_by : (meaning : CommandMeaning) → IsLawful meaning → (bytes : List ℕ) (o p : Outcome) → IsOutcomeBy meaning bytes o → IsOutcomeBy meaning bytes p → o ≡ p
one_by (Reads document IsAnswer) has bytes o p h k = one_read (document bytes) IsAnswer o p (has bytes) h k
one_by (Alone IsAnswer) has bytes o p h k = has.once o p h k

one_answer : (request : Request) (bytes : List ℕ) (o p : Outcome) → HoldsRange request → IsAnswerTo request bytes o → IsAnswerTo request bytes p → o ≡ p
one_answer request bytes o p range h k = one_by (meaning_of request) (each_lawful request range) bytes o p h k

one_by_length : (long : Bool) (request : Request) (bytes : List ℕ) (o p : Outcome) → HoldsRange request → MatchBool long (o ≡ too_long_outcome) (IsAnswerTo request bytes o) →
    MatchBool long (p ≡ too_long_outcome) (IsAnswerTo request bytes p) → o ≡ p
one_by_length true request bytes o p range h k = h ∙ sym k
one_by_length false request bytes o p range h k = one_answer request bytes o p range h k

one_by_request : (request : Option Request) (bytes : List ℕ) (o p : Outcome) → Holds HoldsRange request → IsOutcomeOf request bytes o → IsOutcomeOf request bytes p → o ≡ p
one_by_request None bytes o p range h k = h ∙ sym k
one_by_request (Some request) bytes o p range h k = one_by_length (is_too_long request bytes) request bytes o p range h k

pub outcomes_agree_lem : (words : List (List ℕ)) (bytes : List ℕ) (o p : Outcome) → IsOutcome words bytes o → IsOutcome words bytes p → o ≡ p
outcomes_agree_lem words bytes o p h k = one_by_request (accepted_request words) bytes o p (accepted_hold words) h k

-- ---- some outcome

answered : {A : Type 0} (document : Result A InputFault) (IsAnswer : A → Outcome → Type 0) → ((value : A) → document ≡ Ok value → HasOneAnswer (IsAnswer value))
    → (o : Outcome) × IsReadOutcome document IsAnswer o
answered (Ok value) IsAnswer has = (has value refl).some
answered (Err fault) IsAnswer has = (fault_outcome fault, refl)

some_by : (meaning : CommandMeaning) → IsLawful meaning → (bytes : List ℕ) → (o : Outcome) × IsOutcomeBy meaning bytes o
some_by (Reads document IsAnswer) has bytes = answered (document bytes) IsAnswer (has bytes)
some_by (Alone IsAnswer) has bytes = has.some

pub some_answer_to : (request : Request) (bytes : List ℕ) → HoldsRange request → (o : Outcome) × IsAnswerTo request bytes o
some_answer_to request bytes range = some_by (meaning_of request) (each_lawful request range) bytes

by_length : (long : Bool) (request : Request) (bytes : List ℕ) → HoldsRange request → (o : Outcome) × MatchBool long (o ≡ too_long_outcome) (IsAnswerTo request bytes o)
by_length true request bytes range = (too_long_outcome, refl)
by_length false request bytes range = some_answer_to request bytes range

by_request : (request : Option Request) (bytes : List ℕ) → Holds HoldsRange request → (o : Outcome) × IsOutcomeOf request bytes o
by_request None bytes range = (usage_outcome, refl)
by_request (Some request) bytes range = by_length (is_too_long request bytes) request bytes range

pub some_outcome : (words : List (List ℕ)) (bytes : List ℕ) → (o : Outcome) × IsOutcome words bytes o
some_outcome words bytes = by_request (accepted_request words) bytes (accepted_hold words)

-- all words and bytes have one outcome only
pub one_outcome : (words : List (List ℕ)) (bytes : List ℕ) → (o : Outcome) × IsOutcome words bytes o × ((other : Outcome) → IsOutcome words bytes other → other ≡ o)
one_outcome words bytes = let o = some_outcome words bytes in (o.0, o.1, λ other h. outcomes_agree_lem words bytes other o.0 h o.1)
