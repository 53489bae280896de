-- The answers about signatures, two tables and the classes of tables are unique.
use Rattle.std.proofs.Common.{◌≡◌, ℕ, ◌<◌, inl, inr, List, subst, sym, ap, ap₂, ◌∙◌}
use Rattle.std.proofs.lemmas.Bool.{cases_order}
use Rattle.table_definitions.specs.Table.{Row, IsTable}
use Rattle.table_definitions.specs.Places.{IsConnected}
use Rattle.table_definitions.specs.Relabelling.{Relabelling}
use Rattle.table_definitions.proofs.ChainLaws.{one_unreached, connected_or_not}
use Rattle.signature_definitions.specs.Census.{table_in}
use Rattle.signature_definitions.proofs.OneCensus.{one_census}
use Rattle.signature_laws.proofs.Uniqueness.{one_signature, one_least}
use Rattle.outcome_definitions.specs.Outcomes.{Outcome}
use Rattle.outcome_definitions.specs.Canonical.{done, not_connected_outcome, IsNotConnected, IsSignatureAnswer, relabelling_text, IsCompared, IsSameAnswer, census_text, IsGrouped, IsFirstNotConnected, IsGroupAnswer}
use Rattle.text_definitions.specs.Written.{line}

pub one_not_connected : (k : ℕ) (rows : List Row) (o p : Outcome) → IsNotConnected k rows o → IsNotConnected k rows p → o ≡ p
one_not_connected k rows o p h g = h.2 ∙ ap (not_connected_outcome k) (one_unreached rows h.0 g.0 h.1 g.1) ∙ sym g.2

pub not_both : {P : Type 0} (k : ℕ) (rows : List Row) (o : Outcome) → IsConnected rows → IsNotConnected k rows o → P
not_both k rows o connected h = absurd (connected_or_not rows h.0 connected h.1)

pub one_signature_answer : (rows : List Row) (o p : Outcome) → IsSignatureAnswer rows o → IsSignatureAnswer rows p → o ≡ p
one_signature_answer rows o p (inl h) (inl g) =
    h.reported ∙ ap (λ (text : List ℕ). done (line text)) (one_signature rows h.text g.text h.signature g.signature) ∙ sym g.reported
one_signature_answer rows o p (inl h) (inr g) = not_both 0 rows p h.connected g
one_signature_answer rows o p (inr h) (inl g) = not_both 0 rows o g.connected h
one_signature_answer rows o p (inr h) (inr g) = one_not_connected 0 rows o p h g

one_comparison : (first second : List Row) (o p : Outcome) → IsTable first → IsConnected first → IsCompared first second o → IsCompared first second p → o ≡ p
one_comparison first second o p table connected (inl h) (inl g) =
    h.2 ∙ ap (λ (by : Relabelling). done (relabelling_text by)) (one_least first second h.0 g.0 table connected h.1 g.1) ∙ sym g.2
one_comparison first second o p table connected (inl h) (inr g) = absurd (g.0 (h.0, h.1.relabels.0, h.1.relabels.1))
one_comparison first second o p table connected (inr h) (inl g) = absurd (h.0 (g.0, g.1.relabels.0, g.1.relabels.1))
one_comparison first second o p table connected (inr h) (inr g) = h.1 ∙ sym g.1

pub one_same_answer : (pair : List Row × List Row) (o p : Outcome) → IsTable pair.0 → IsSameAnswer pair o → IsSameAnswer pair p → o ≡ p
one_same_answer pair o p table (inl h) (inl g) = one_not_connected 0 pair.0 o p h g
one_same_answer pair o p table (inl h) (inr (inl g)) = not_both 0 pair.0 o g.0 h
one_same_answer pair o p table (inl h) (inr (inr g)) = not_both 0 pair.0 o g.0 h
one_same_answer pair o p table (inr (inl h)) (inl g) = not_both 0 pair.0 p h.0 g
one_same_answer pair o p table (inr (inl h)) (inr (inl g)) = one_not_connected 1 pair.1 o p h.1 g.1
one_same_answer pair o p table (inr (inl h)) (inr (inr g)) = not_both 1 pair.1 o g.1 h.1
one_same_answer pair o p table (inr (inr h)) (inl g) = not_both 0 pair.0 p h.0 g
one_same_answer pair o p table (inr (inr h)) (inr (inl g)) = not_both 1 pair.1 p h.1 g.1
one_same_answer pair o p table (inr (inr h)) (inr (inr g)) = one_comparison pair.0 pair.1 o p table h.0 h.2 g.2

one_grouping : (tables : List (List Row)) (o p : Outcome) → IsGrouped tables o → IsGrouped tables p → o ≡ p
one_grouping tables o p h g =
    let e = one_census one_signature tables h.classes g.classes h.signatures g.signatures h.census g.census in
    h.reported ∙ ap₂ (λ (classes : List ℕ) (signatures : List (List ℕ)). done (census_text classes signatures)) e.0 e.1 ∙ sym g.reported

not_grouped : {P : Type 0} (tables : List (List Row)) (o p : Outcome) → IsGrouped tables o → IsFirstNotConnected tables p → P
not_grouped tables o p h g = not_both g.table (table_in tables g.table) p (h.connected g.table g.in_range) g.reported

not_earlier : {P : Type 0} (tables : List (List Row)) (o p : Outcome) (h : IsFirstNotConnected tables o) (g : IsFirstNotConnected tables p) → h.table < g.table → P
not_earlier tables o p h g less = not_both h.table (table_in tables h.table) o (g.before h.table less) h.reported

one_first : (tables : List (List Row)) (o p : Outcome) → IsFirstNotConnected tables o → IsFirstNotConnected tables p → o ≡ p
one_first tables o p h g = elim (cases_order h.table g.table) [
  | inl e ↦ one_not_connected g.table (table_in tables g.table) o p (subst (λ (k : ℕ). IsNotConnected k (table_in tables k) o) e h.reported) g.reported
  | inr (inl less) ↦ not_earlier tables o p h g less
  | inr (inr more) ↦ not_earlier tables p o g h more
]

pub one_group_answer : (tables : List (List Row)) (o p : Outcome) → IsGroupAnswer tables o → IsGroupAnswer tables p → o ≡ p
one_group_answer tables o p (inl h) (inl g) = one_grouping tables o p h g
one_group_answer tables o p (inl h) (inr g) = not_grouped tables o p h g
one_group_answer tables o p (inr h) (inl g) = not_grouped tables p o g h
one_group_answer tables o p (inr h) (inr g) = one_first tables o p h g
