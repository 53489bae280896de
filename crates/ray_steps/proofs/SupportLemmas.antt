-- Supports and their vectors.
use Rattle.std.proofs.Common.{◌≡◌, ℕ, ◌⊎◌, ◌↔◌, inl, inr, ⊎_elim, List, get_or}
use Rattle.std.proofs.lemmas.Bool.{cases_eq}
use Rattle.cone_definitions.specs.Vectors.{IsInsideUnion}
use Rattle.cone_definitions.specs.Surfaces.{Clash, IsAdmissibleUnion}
use Rattle.support_bits.specs.Columns.{support_of, IsInsideUnionOf}
use Rattle.support_table.proofs.JoinLemmas.{nonzero_from_column, column_from_nonzero}
use Rattle.ray_steps.specs.Clashes.{IsInUnion, IsClashFree}

-- a support lies inside a union if and only if its vector does
pub inside_iff : (v u w : List ℕ) → IsInsideUnionOf (support_of v) (support_of u) (support_of w) ↔ IsInsideUnion v u w
inside_iff v u w = (forth, back)
  where
    forth : IsInsideUnionOf (support_of v) (support_of u) (support_of w) → IsInsideUnion v u w
    forth inside column at_u at_w = ⊎_elim (λ none. none)
        (λ some. absurd (⊎_elim (λ h. nonzero_from_column u column h at_u) (λ h. nonzero_from_column w column h at_w) (inside column (column_from_nonzero v column some))))
        (cases_eq (get_or v column 0) 0)

    back : IsInsideUnion v u w → IsInsideUnionOf (support_of v) (support_of u) (support_of w)
    back inside column has = ⊎_elim
        (λ at_u. ⊎_elim (λ at_w. absurd (nonzero_from_column v column has (inside column at_u at_w))) (λ some. inr (column_from_nonzero w column some)) (cases_eq (get_or w column 0) 0))
        (λ some. inl (column_from_nonzero u column some))
        (cases_eq (get_or u column 0) 0)

-- both vectors are 0 at the column
abbrev AreZeroAt : List ℕ → List ℕ → ℕ → Type 0
AreZeroAt u w column = (get_or u column 0 ≡ 0) × (get_or w column 0 ≡ 0)

in_union_or_zero : (u w : List ℕ) (column : ℕ) → IsInUnion (support_of u) (support_of w) column ⊎ AreZeroAt u w column
in_union_or_zero u w column = ⊎_elim
    (λ at_u. ⊎_elim (λ at_w. inr (at_u, at_w)) (λ some. inl (inr (column_from_nonzero w column some))) (cases_eq (get_or w column 0) 0))
    (λ some. inl (inl (column_from_nonzero u column some)))
    (cases_eq (get_or u column 0) 0)

not_both : (u w : List ℕ) (column : ℕ) → AreZeroAt u w column → ¬ IsInUnion (support_of u) (support_of w) column
not_both u w column zero has = ⊎_elim (λ h. nonzero_from_column u column h zero.0) (λ h. nonzero_from_column w column h zero.1) has

-- a union of supports is free of clashing pairs if and only if that of the vectors is
pub clash_free_iff : (clashes : List Clash) (u w : List ℕ) → IsClashFree clashes (support_of u) (support_of w) ↔ IsAdmissibleUnion clashes u w
clash_free_iff clashes u w = (
  λ free k d h. choose (get_or clashes k d) (free k d h),
  λ admissible k d h both. ⊎_elim (λ z. not_both u w _ z both.0) (λ z. not_both u w _ z both.1) (admissible k d h),
)
  where
    choose : (pair : Clash) → ¬ (IsInUnion (support_of u) (support_of w) pair.0 × IsInUnion (support_of u) (support_of w) pair.1) → AreZeroAt u w pair.0 ⊎ AreZeroAt u w pair.1
    choose pair free = ⊎_elim
        (λ first. ⊎_elim (λ second. absurd (free (first, second))) (λ z. inr z) (in_union_or_zero u w pair.1))
        (λ z. inl z)
        (in_union_or_zero u w pair.0)
