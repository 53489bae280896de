-- What the outcome of words and of an input means, or that the run was cut short.
use Rattle.std.proofs.Common.{◌≡◌, ◌≤◌, ◌↔◌, ℕ, false, List, [], length, Option, Some, None, Result, Ok, inl, inr, sym, ◌∙◌}
use Rattle.std.specs.Prelude.{IfSome, All}
use Rattle.text_io.specs.Causes.{Grows}
use Rattle.signature_definitions.specs.declared.InputFault.{InputFault}
use Rattle.cone_definitions.specs.Rows.{Row as EquationRow}
use Rattle.table_definitions.specs.Table.{Row}
use Rattle.surface_definitions.specs.declared.Coords.TheVariants.{Quad}
use Rattle.surface_definitions.specs.QuadEquations.{AreEquations}
use Rattle.move_definitions.specs.Moves.{Move}
use Rattle.move_definitions.specs.Certificates.{IsCertificate}
use Rattle.text_document_definitions.specs.Documents.{vectors_document, moves_document}
use Rattle.command_definitions.specs.declared.Request.{Request}
use Rattle.command_definitions.specs.declared.Request.TheVariants.{Lift, Check}
use Rattle.command_definitions.specs.Requests.{reads_input}
use Rattle.command_definitions.specs.Words.{accepted_request}
use Rattle.outcome_definitions.specs.declared.Status.{Status}
use Rattle.outcome_definitions.specs.declared.Status.TheVariants.{Done}
use Rattle.outcome_definitions.specs.Outcomes.{Outcome}
use Rattle.outcome_definitions.specs.Answers.{IsAnswerTo, most_bytes}
use Rattle.outcome_answer_laws.specs.Requests.{IsOutcomeTo, Means}
use Rattle.outcome_answer_laws.specs.Lifts.{HasSphereAndDiscVertices, IsSmallSolution, AreLifted}
use Rattle.outcome_answer_laws.proofs.Lifts.{solutions_lifted}
use Rattle.outcome_answer_laws.proofs.Checks.{done_where_certified}
use Rattle.workbench.specs.Runs.{IsAnswered}
use Rattle.workbench.specs.Prints.{Writes, WritesOf, IsCutShort}
use Rattle.workbench.proofs.Headlines.{Tells}
use Rattle.workbench.proofs.Completeness.{answered_or_cut}

module _ (words : List (List ℕ)) (status : Status) (held grown : Option (List ℕ)) where
  -- the clause of `lift` for these bytes
  abbrev pub LiftsOn : List ℕ → Type 0
  LiftsOn bytes =
      (rows : List Row) (vectors : List (List ℕ)) (equations : List EquationRow) → length bytes ≤ most_bytes → vectors_document bytes ≡ Ok (rows, vectors) → HasSphereAndDiscVertices rows
      → AreEquations Quad rows equations → All (IsSmallSolution rows equations) vectors → Writes (AreLifted rows vectors) status held grown

  lifts_told : (bytes : List ℕ) → accepted_request words ≡ Some Lift → Tells words status held grown bytes → LiftsOn bytes
  lifts_told bytes e t = λ rows vectors equations limited read links of_table small.
      let asked : IsOutcomeTo Lift words bytes t.0 = record { accepted = e; within = limited; outcome = t.1 } in
      inl (t.0, solutions_lifted words bytes t.0 rows vectors equations asked read links of_table small, t.2, t.3)

  lifts_by : (left : Option (List ℕ)) → accepted_request words ≡ Some Lift → IsAnswered status → IfSome left (Tells words status held grown) → IfSome left LiftsOn
  lifts_by None e a t = tt
  lifts_by (Some bytes) e a t = lifts_told bytes e t

  lifts_cut : (left : Option (List ℕ)) → IsCutShort status → IfSome left LiftsOn
  lifts_cut None cut = tt
  lifts_cut (Some bytes) cut = λ rows vectors equations limited read links of_table small. inr cut

  pub all_lifts : (left : Option (List ℕ)) → (IsAnswered status → IfSome left (Tells words status held grown)) → accepted_request words ≡ Some Lift → IfSome left LiftsOn
  all_lifts left h e = elim (answered_or_cut status) [
    | inl reported ↦ lifts_by left e reported (h reported)
    | inr cut ↦ lifts_cut left cut
  ]

  -- the clause of `check` for these bytes
  abbrev pub ChecksOn : List ℕ → Type 0
  ChecksOn bytes = (rows : List Row) (moves : List Move) → length bytes ≤ most_bytes → moves_document bytes ≡ Ok (rows, moves) → (status ≡ Done) ↔ IsCertificate rows moves

  pub checks_told : (left : Option (List ℕ)) → IfSome left (Tells words status held grown) → accepted_request words ≡ Some Check → IfSome left ChecksOn
  checks_told None t e = tt
  checks_told (Some bytes) t e = λ rows moves limited read.
      let asked : IsOutcomeTo Check words bytes t.0 = record { accepted = e; within = limited; outcome = t.1 } in
      let d = done_where_certified words bytes t.0 rows moves asked read in
      ((λ done. d.0 (sym t.2 ∙ done)), (λ certificate. t.2 ∙ d.1 certificate))

  -- what the outcome means for a request that reads a document of this kind
  module _ {A : Type 0} (asked : Request) (document : List ℕ → Result A InputFault) (IsMeant : A → Outcome → Type 0) (means : Means asked document IsMeant) (e : accepted_request words ≡ Some asked) where
    told_of : (left : Option (List ℕ)) → IfSome left (Tells words status held grown) → WritesOf document IsMeant left status held grown
    told_of None t = tt
    told_of (Some bytes) t = λ d limited read. inl (t.0, means words bytes t.0 d (record { accepted = e; within = limited; outcome = t.1 }) read, t.2, t.3)

    cut_of : (left : Option (List ℕ)) → IsCutShort status → WritesOf document IsMeant left status held grown
    cut_of None cut = tt
    cut_of (Some bytes) cut = λ d limited read. inr cut

    pub writes_of : (left : Option (List ℕ)) → (IsAnswered status → IfSome left (Tells words status held grown)) → WritesOf document IsMeant left status held grown
    writes_of left h = elim (answered_or_cut status) [
      | inl reported ↦ told_of left (h reported)
      | inr cut ↦ cut_of left cut
    ]

-- what the outcome means for a command that reads no input
pub alone_told : (IsMeant : Outcome → Type 0) (asked : Request) → reads_input asked ≡ false → ((p : Outcome) → IsAnswerTo asked [] p → IsMeant p)
    → (status : Status) (held grown : Option (List ℕ)) → (IsAnswered status → (p : Outcome) × IsAnswerTo asked [] p × (status ≡ p.status) × Grows held grown p.text)
    → Writes IsMeant status held grown
alone_told IsMeant asked nothing means status held grown h = elim (answered_or_cut status) [
  | inl reported ↦ (let t = h reported in inl (t.0, means t.0 t.1, t.2, t.3))
  | inr cut ↦ inr cut
]
