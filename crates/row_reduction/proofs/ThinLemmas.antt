-- A multiple of another row of the list is added to a row.
use Rattle.std.proofs.Common.{◌≡◌, ℕ, ℤ, List, [], length, get_or, subst, sym, ap, ◌∙◌, ◌<◌}
use Rattle.std.proofs.lemmas.List.{get_or-set_other}
use Rattle.std.proofs.lemmas.List.Elements.{All-get_or}
use Rattle.cone_definitions.specs.Rows.{Row, IsZeroAt}
use Rattle.cone_row_laws.specs.Solutions.{HaveSameZeros}
use Rattle.row_reduction.specs.Clearing.{AreClearedBy, AddsMultipleAt}
use Rattle.row_reduction.proofs.RowLemmas.{cleared_at, count_at}

module _ (columns : ℕ) (rows : List Row) (i j : ℕ) (factor : ℤ) (other : Row) (new : List Row) (within : i < length rows) (other_within : j < length rows)
    (separate : i ≡ j → ⊥) (is : other ≡ get_or rows j []) (adds : AddsMultipleAt columns rows i factor other new) where
  cleared : AreClearedBy other rows new
  cleared = cleared_at columns other rows rows i factor new within adds (λ x p. (λ z. z, λ z. z))

  other_stays : get_or new j [] ≡ other
  other_stays = ap (λ r. get_or r j []) adds.replaced ∙ get_or-set_other rows i j adds.sum [] (λ e. separate (sym e)) ∙ sym is

  pub thinned_at : HaveSameZeros rows new
  thinned_at x = (
    λ z. (cleared x (subst (λ r. IsZeroAt r x) (sym is) (All-get_or (λ r. IsZeroAt r x) rows j [] other_within z))).0 z,
    λ z. (cleared x (subst (λ r. IsZeroAt r x) other_stays
        (All-get_or (λ r. IsZeroAt r x) new j [] (subst (λ n. j < n) (sym (count_at columns rows i factor other new adds)) other_within) z))).1 z,
  )
