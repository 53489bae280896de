-- The answer of `cover` for a table is unique and exists.
use Rattle.std.proofs.Common.{◌≡◌, ℕ, ◌*◌, ◌<◌, ◌⊎◌, inl, inr, Bool, true, false, List, length, Option, None, Some, MatchOption, if◌then◌else◌, refl, sym, ap, subst, ◌∙◌, arith}
use Rattle.std.specs.Prelude.{nat_lt}
use Rattle.std.proofs.lemmas.Bool.{cases_lt, lt-ltb, le-ltb, false≢true}
use Rattle.table_definitions.specs.Table.{max_tets, Row, IsTable}
use Rattle.table_definitions.specs.Places.{whole, SameComponent, IsConnected}
use Rattle.table_definitions.proofs.ChainLaws.{joined_sym, joined_trans}
use Rattle.cover_definitions.specs.declared.LargeCover.{LargeCover}
use Rattle.cover_definitions.specs.Cover.{cover, too_large, cover_fault}
use Rattle.cover_laws.proofs.Covered.{cover_is_table}
use Rattle.cover_laws.proofs.Deciding.{all_or_one, decide_joined}
use Rattle.outcome_definitions.specs.Outcomes.{Outcome}
use Rattle.outcome_definitions.specs.Canonical.{done}
use Rattle.outcome_definitions.specs.Covers.{cover_text, large_cover_outcome, IsCoverAnswered, IsCoverAnswer}
use Rattle.outcome_laws.proofs.Informed.{same_test}

one_told : (rows : List Row) (o p : Outcome) → IsCoverAnswered rows o → IsCoverAnswered rows p → o ≡ p
one_told rows o p h k = h.2 ∙ ap (λ (b : Bool). done (cover_text rows b)) (same_test (IsConnected (cover rows)) h.0 k.0 h.1 k.1) ∙ sym k.2

pub one_cover : (rows : List Row) (o p : Outcome) → IsCoverAnswer rows o → IsCoverAnswer rows p → o ≡ p
one_cover rows o p h k = by_fault (cover_fault rows) h k
  where
    by_fault : (fault : Option LargeCover) → MatchOption fault (IsCoverAnswered rows o) (λ _. o ≡ large_cover_outcome) → MatchOption fault (IsCoverAnswered rows p) (λ _. p ≡ large_cover_outcome) → o ≡ p
    by_fault None a b = one_told rows o p a b
    by_fault (Some f) a b = a ∙ sym b

-- a table is connected or not
pub connected_or_not : (rows : List Row) → IsTable rows → IsConnected rows ⊎ (IsConnected rows → ⊥)
connected_or_not rows table = elim (all_or_one Reached Missed decide (length rows)) [
  | inl all ↦ inl (λ t u lt lu. joined_trans rows (whole t) (whole 0) (whole u) (joined_sym rows (whole 0) (whole t) table tt (all t lt lt)) (all u lu lu))
  | inr w ↦ inr (λ connected. let l : w.0 < length rows = w.1.0 in w.1.1 (connected 0 w.0 (omega arith) l))
]
  where
    Reached : ℕ → Type 0
    Reached t = t < length rows → SameComponent rows 0 t

    Missed : ℕ → Type 0
    Missed t = (t < length rows) × (SameComponent rows 0 t → ⊥)

    decide : (t : ℕ) → Reached t ⊎ Missed t
    decide t = elim (cases_lt t (length rows)) [
      | inr exceeded ↦ inl (λ l. absurd (omega arith))
      | inl l ↦ elim (decide_joined rows table 0 t) [ inl j ↦ inl (λ _. j) | inr never ↦ inr (l, never) ]
    ]

some_told : (rows : List Row) → IsTable (cover rows) → (o : Outcome) × IsCoverAnswered rows o
some_told rows table = elim (connected_or_not (cover rows) table) [
  | inl c ↦ (done (cover_text rows true), (true, (λ _. c, λ _. refl), refl))
  | inr never ↦ (done (cover_text rows false), (false, (λ t. absurd (false≢true t), λ c. absurd (never c)), refl))
]

-- each table has an answer
pub some_cover : (rows : List Row) → IsTable rows → (o : Outcome) × IsCoverAnswer rows o
some_cover rows table = elim (cases_lt max_tets (2 * length rows)) [
  | inl large ↦ (large_cover_outcome, many (lt-ltb max_tets (2 * length rows) large))
  | inr small ↦ let t = some_told rows (cover_is_table rows table small) in (t.0, few_enough t.0 t.1 (le-ltb max_tets (2 * length rows) small))
]
  where
    many : nat_lt max_tets (2 * length rows) ≡ true → IsCoverAnswer rows large_cover_outcome
    many e = subst (λ (b : Bool). MatchOption (if b then Some too_large else None) (IsCoverAnswered rows large_cover_outcome) (λ _. large_cover_outcome ≡ large_cover_outcome)) (sym e) refl

    few_enough : (o : Outcome) → IsCoverAnswered rows o → nat_lt max_tets (2 * length rows) ≡ false → IsCoverAnswer rows o
    few_enough o t e = subst (λ (b : Bool). MatchOption (if b then Some too_large else None) (IsCoverAnswered rows o) (λ _. o ≡ large_cover_outcome)) (sym e) t
