-- The text of an answer with a list determines its status.
use Rattle.std.proofs.Common.{◌≡◌, ℕ, ◌⊎◌, inl, inr, List, get_or, refl, sym, ap, ◌∙◌, arith}
use Rattle.cone_definitions.specs.Elimination.{Named}
use Rattle.cone_definitions.specs.Listings.{Enumeration}
use Rattle.outcome_definitions.specs.declared.Status.TheVariants.{Done, Large}
use Rattle.outcome_definitions.specs.Outcomes.{Outcome}
use Rattle.outcome_definitions.specs.Enumerations.{listing, large_outcome, IsEnumerationAnswer}
use Rattle.outcome_text_laws.specs.Lists.{EnumerationTextsDetermineStatus}

-- the first byte of a text, or 0 of an empty one
abbrev first : List ℕ → ℕ
first text = get_or text 0 0

-- a list, which begins with `#`, or the line of a refusal, which begins with `r`
abbrev Kind : Outcome → Type 0
Kind o = ((first o.text ≡ 35) × (o.status ≡ Done)) ⊎ ((first o.text ≡ 114) × (o.status ≡ Large))

begins_list : (name : List ℕ) (list : List (List ℕ)) → first (listing name list) ≡ 35
begins_list name list = refl

begins_refusal : (taken : List ℕ) (kind : Named) → first (large_outcome taken kind).text ≡ 114
begins_refusal taken kind = refl

kind_of : (name : List ℕ) (e : Enumeration) (o : Outcome) → IsEnumerationAnswer name e o → Kind o
kind_of name e o (inl h) = inl (ap (λ (q : Outcome). first q.text) h.3 ∙ begins_list name h.1, ap (λ (q : Outcome). q.status) h.3)
kind_of name e o (inr h) = inr (ap (λ (q : Outcome). first q.text) h.3 ∙ begins_refusal h.0 h.1, ap (λ (q : Outcome). q.status) h.3)

different : (a b : List ℕ) → a ≡ b → first a ≡ 35 → first b ≡ 114 → ⊥
different a b e h k = (let z : first a ≡ first b = ap first e in omega arith)

statuses : (o p : Outcome) → Kind o → Kind p → o.text ≡ p.text → o.status ≡ p.status
statuses o p (inl h) (inl k) e = h.1 ∙ sym k.1
statuses o p (inl h) (inr k) e = absurd (different o.text p.text e h.0 k.0)
statuses o p (inr h) (inl k) e = absurd (different p.text o.text (sym e) k.0 h.0)
statuses o p (inr h) (inr k) e = h.1 ∙ sym k.1

pub list_statuses_told : EnumerationTextsDetermineStatus
list_statuses_told name e f o p h k same =
    let status : o.status ≡ p.status = statuses o p (kind_of name e o h) (kind_of name f p k) same in
    λ i. record { status = status i; text = same i }
