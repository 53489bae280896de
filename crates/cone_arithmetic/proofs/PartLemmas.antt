-- The positive and negative part of a row, with one more term.
use Rattle.std.proofs.Common.{◌≡◌, ℕ, zero, suc, ◌≤◌, ◌+◌, ◌*◌, ◌<◌, ℤ, pos, List, take, length, get_or, ap, sym, ◌∙◌, Result, Ok, Err, OnOk, OnErr, IsErr, ◌↔◌, ⊎_elim, refl, arith}
use Rattle.std.specs.Prelude.{slice_index}
use Rattle.std.proofs.lemmas.Bool.{false≢true}
use Rattle.std.proofs.lemmas.List.Sums.{sum_by_more}
use Rattle.cone_definitions.specs.Rows.{Row, positive_coefficient, negative_coefficient, plus_part, minus_part}
use Rattle.cone_definitions.specs.Elimination.{HasLargePart, HasPartsWithin}
use Rattle.cone_arithmetic.specs.Sparse.{IsSparse}

pub plus_more : (row : Row) (x : List ℕ) (i old new : ℕ) → i < length row → old ≡ plus_part (take i row) x →
    new ≡ old + positive_coefficient (get_or row i (0, pos 0)).1 * slice_index x (get_or row i (0, pos 0)).0 → new ≡ plus_part (take (i + 1) row) x
plus_more row x i old new l so_far is =
    is ∙ ap (λ n. n + positive_coefficient (get_or row i (0, pos 0)).1 * slice_index x (get_or row i (0, pos 0)).0) so_far ∙
    sym (sum_by_more (λ (term : ℕ × ℤ). positive_coefficient term.1 * slice_index x term.0) row i (0, pos 0) l)

pub minus_more : (row : Row) (x : List ℕ) (i old new : ℕ) → i < length row → old ≡ minus_part (take i row) x →
    new ≡ old + negative_coefficient (get_or row i (0, pos 0)).1 * slice_index x (get_or row i (0, pos 0)).0 → new ≡ minus_part (take (i + 1) row) x
minus_more row x i old new l so_far is =
    is ∙ ap (λ n. n + negative_coefficient (get_or row i (0, pos 0)).1 * slice_index x (get_or row i (0, pos 0)).0) so_far ∙
    sym (sum_by_more (λ (term : ℕ × ℤ). negative_coefficient term.1 * slice_index x term.0) row i (0, pos 0) l)

-- the index of a term is at most its column
pub index_le_column : (row : Row) → IsSparse row → (i : ℕ) → i < length row → i ≤ (get_or row i (0, pos 0)).0
index_le_column row sparse zero within = omega arith
index_le_column row sparse (suc i) within =
    let before = index_le_column row sparse i (omega arith) in
    let less = sparse.ascending i (suc i) (0, pos 0) (omega arith) within in
    omega (arith, before, less)

-- the result is an error if and only if a part exceeds the limit
pub err_iff_large : {T E : Type 0} (result : Result T E) (limit : ℕ) (row : Row) (x : List ℕ) → OnOk result (HasPartsWithin limit row x) → OnErr result (HasLargePart limit row x) →
    IsErr result ↔ HasLargePart limit row x
err_iff_large (Ok v) limit row x within _ = (λ h. absurd (false≢true h), λ large. absurd (⊎_elim (λ h. omega (arith, within.0)) (λ h. omega (arith, within.1)) large))
err_iff_large (Err e) limit row x _ large = (λ _. large, λ _. refl)
