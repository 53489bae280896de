-- The answers for two tables, and for many, say which of them are isomorphic.
use Rattle.std.proofs.Common.{◌≡◌, ◌⊎◌, ℕ, List, slice_index, inl, inr, refl, sym, ◌∙◌, ap, arith}
use Rattle.table_definitions.specs.Table.{Row}
use Rattle.table_definitions.specs.Relabelling.{Relabelling, AreIsomorphic}
use Rattle.signature_definitions.specs.Labellings.{Relabels}
use Rattle.signature_definitions.specs.Census.{table_in}
use Rattle.text_document_definitions.specs.Documents.{two_tables_document, tables_document}
use Rattle.command_definitions.specs.declared.Request.TheVariants.{Same, Group}
use Rattle.outcome_definitions.specs.declared.Status.TheVariants.{Done, Refused}
use Rattle.outcome_definitions.specs.Outcomes.{Outcome}
use Rattle.outcome_definitions.specs.Canonical.{done, not_connected_outcome, IsNotConnected, relabelling_text, different_text, different_outcome, IsCompared, IsSameAnswer, census_text, IsGroupAnswer}
use Rattle.outcome_laws.proofs.Labelled.{not_both}
use Rattle.outcome_answer_laws.specs.Comparisons.{AreCompared, IsComparison, IsGrouping, ConnectedAreCompared, TablesAreGrouped}
use Rattle.outcome_answer_laws.proofs.Asked.{means_by, status_of}

-- the first letters differ
separate : {P : Type 0} (by : Relabelling) → done (relabelling_text by) ≡ different_outcome → P
unfolding different_text
separate by e = letters (slice_index (relabelling_text by) 0) (slice_index different_text 0) refl refl (ap (λ (q : Outcome). slice_index q.text 0) e)
  where
    letters : {Q : Type 0} (s d : ℕ) → s ≡ 115 → d ≡ 100 → s ≡ d → Q
    letters s d is_s is_d same = absurd (omega arith)

-- the answer is a relabelling, or the tables are not isomorphic
abbrev pub IsResult : List Row → List Row → Outcome → Type 0
IsResult first second o =
    ((by : Relabelling) × Relabels first second by × (o ≡ done (relabelling_text by))) ⊎ ((AreIsomorphic first second → ⊥) × (o ≡ different_outcome))

pub compared_by : (first second : List Row) (o : Outcome) → IsResult first second o → AreCompared first second o
compared_by first second o (inl h) = record {
  same = ((λ s. (h.0, h.1.0, h.1.1)), (λ r. (h.0, h.2)));
  different = ((λ e. separate h.0 (sym h.2 ∙ e)), (λ none. absurd (none (h.0, h.1.0, h.1.1))));
  reported = λ r. h;
}
compared_by first second o (inr h) = record {
  same = ((λ s. separate s.0 (sym s.1 ∙ h.1)), (λ r. absurd (h.0 r)));
  different = ((λ e. h.0), (λ none. h.1));
  reported = λ r. absurd (h.0 r);
}

least_told : (first second : List Row) (o : Outcome) → IsCompared first second o → IsResult first second o
least_told first second o (inl h) = inl (h.0, h.1.relabels, h.2)
least_told first second o (inr h) = inr h

told_is_done : (first second : List Row) (o : Outcome) → IsResult first second o → o.status ≡ Done
told_is_done first second o (inl h) = status_of o (done (relabelling_text h.0)) h.2
told_is_done first second o (inr h) = status_of o different_outcome h.1

-- the outcome for a table that is not connected is a refusal
refused : {P : Type 0} (k : ℕ) (rows : List Row) (o : Outcome) → IsNotConnected k rows o → o.status ≡ Done → P
refused k rows o h e = (let z : Refused ≡ Done = sym (status_of o (not_connected_outcome k h.0) h.2) ∙ e in absurd cc)

comparison : (pair : List Row × List Row) (o : Outcome) → IsSameAnswer pair o → IsComparison pair o
comparison pair o (inl h) = record {
  is_done = ((λ e. refused 0 pair.0 o h e), (λ both. not_both 0 pair.0 o both.0 h));
  compared = λ first second. not_both 0 pair.0 o first h;
}
comparison pair o (inr (inl h)) = record {
  is_done = ((λ e. refused 1 pair.1 o h.1 e), (λ both. not_both 1 pair.1 o both.1 h.1));
  compared = λ first second. not_both 1 pair.1 o second h.1;
}
comparison pair o (inr (inr h)) = record {
  is_done = ((λ e. (h.0, h.1)), (λ both. told_is_done pair.0 pair.1 o (least_told pair.0 pair.1 o h.2)));
  compared = λ first second. compared_by pair.0 pair.1 o (least_told pair.0 pair.1 o h.2);
}

pub connected_compared : ConnectedAreCompared
connected_compared = means_by Same two_tables_document IsSameAnswer IsComparison (λ bytes o a. a) (λ bytes pair o read a. comparison pair o a)

grouping : (tables : List (List Row)) (o : Outcome) → IsGroupAnswer tables o → IsGrouping tables o
grouping tables o (inl h) = record {
  is_done = ((λ e. h.connected), (λ all. status_of o (done (census_text h.classes h.signatures)) h.reported));
  classified = λ all. record {
    classes = h.classes;
    signatures = h.signatures;
    one_each = h.census.numbering.one_each;
    in_range = h.census.numbering.in_range;
    none_empty = h.census.numbering.none_empty;
    together = h.census.numbering.together;
    signed = h.census.signed;
    outcome = h.reported;
  };
}
grouping tables o (inr h) = record {
  is_done = ((λ e. refused h.table (table_in tables h.table) o h.reported e), (λ all. not_both h.table (table_in tables h.table) o (all h.table h.in_range) h.reported));
  classified = λ all. not_both h.table (table_in tables h.table) o (all h.table h.in_range) h.reported;
}

pub tables_grouped : TablesAreGrouped
tables_grouped = means_by Group tables_document IsGroupAnswer IsGrouping (λ bytes o a. a) (λ bytes tables o read a. grouping tables o a)
