-- The lines of two signatures are equal if and only if the tables are isomorphic.
use Rattle.std.proofs.Common.{◌≡◌, ◌↔◌, ℕ, List, [], ◌∷◌, inl, inr, sym, ◌∙◌, ap}
use Rattle.std.proofs.lemmas.List.{append_cancel_right}
use Rattle.text_definitions.specs.Written.{line}
use Rattle.table_definitions.specs.Table.{Row}
use Rattle.table_definitions.specs.Places.{IsConnected}
use Rattle.text_document_definitions.specs.Documents.{table_document}
use Rattle.command_definitions.specs.declared.Request.TheVariants.{Sig, Csig}
use Rattle.signature_laws.proofs.Uniqueness.{tells_tables}
use Rattle.component_laws.proofs.Signatures.{component_signatures_tell}
use Rattle.outcome_definitions.specs.Outcomes.{Outcome}
use Rattle.outcome_definitions.specs.Canonical.{done, IsSigned, IsSignatureAnswer}
use Rattle.outcome_definitions.specs.Parts.{IsComponentSignatureAnswer}
use Rattle.outcome_laws.proofs.Certified.{table_alone}
use Rattle.outcome_laws.proofs.Labelled.{not_both}
use Rattle.outcome_answer_laws.specs.Signatures.{IsTableOutcome, SignaturesDetermine, ComponentSignaturesDetermine}
use Rattle.outcome_answer_laws.proofs.Asked.{answer_to, answer_to_value}

-- lines are equal if and only if their texts are
same_lines : (text other : List ℕ) (o p : Outcome) → o ≡ done (line text) → p ≡ done (line other) → (o ≡ p) ↔ (text ≡ other)
same_lines text other o p reported determines = (
  (λ e. append_cancel_right text other (10 ∷ []) (ap (λ (q : Outcome). q.text) (sym reported ∙ e ∙ determines))),
  (λ e. reported ∙ ap (λ (xs : List ℕ). done (line xs)) e ∙ sym determines),
)

both_ways : {A B C : Type 0} → A ↔ B → B ↔ C → A ↔ C
both_ways f g = ((λ a. g.0 (f.0 a)), (λ c. f.1 (g.1 c)))

signed : (rows : List Row) (o : Outcome) → IsTableOutcome Sig rows o → IsConnected rows → IsSigned rows o
signed rows o h connected =
    let a : IsSignatureAnswer rows o = answer_to_value (table_document h.bytes) rows IsSignatureAnswer o h.spelled (answer_to Sig h.words h.bytes o h.asked) in
    elim a [
      | inl s ↦ s
      | inr u ↦ not_both 0 rows o connected u
    ]

pub signatures_tell : SignaturesDetermine
signatures_tell first second o p h k connected joined =
    let a : IsSigned first o = signed first o h connected in
    let b : IsSigned second p = signed second p k joined in
    both_ways (same_lines a.text b.text o p a.reported b.reported)
    (tells_tables first second a.text b.text (table_alone h.bytes first h.spelled) (table_alone k.bytes second k.spelled) a.signature b.signature)

component_signed : (rows : List Row) (o : Outcome) → IsTableOutcome Csig rows o → IsComponentSignatureAnswer rows o
component_signed rows o h = answer_to_value (table_document h.bytes) rows IsComponentSignatureAnswer o h.spelled (answer_to Csig h.words h.bytes o h.asked)

pub component_signatures_tell_lem : ComponentSignaturesDetermine
component_signatures_tell_lem first second o p h k =
    let a : IsComponentSignatureAnswer first o = component_signed first o h in
    let b : IsComponentSignatureAnswer second p = component_signed second p k in
    both_ways (same_lines a.text b.text o p a.reported b.reported)
    (component_signatures_tell first second a.text b.text (table_alone h.bytes first h.spelled) (table_alone k.bytes second k.spelled) a.signature b.signature)
