-- Components that are marked piece by piece.
use Rattle.std.proofs.Common.{◌≡◌, ◌≢◌, ℕ, ◌+◌, ◌*◌, ◌<◌, ◌↔◌, inl, inr, Bool, true, false, List, length, set, slice_index, replicate, refl, sym, ap, ◌∙◌, subst, arith}
use Rattle.std.specs.Prelude.{if◌then◌else◌}
use Rattle.std.specs.List.{slice_index_or}
use Rattle.std.proofs.lemmas.Bool.{cases_eq, false≢true}
use Rattle.std.proofs.lemmas.List.{length-set, length-replicate, get_or-replicate, get_or-set_same, get_or-set_other}
use Rattle.surface_pieces.specs.Searches.{IsFreeUpTo}

pub record AreFreeUpTo (signed components : List ℕ) (count n : ℕ) (free : List Bool) : Type 0 where
  pub size : length free ≡ count
  pub each : (i : ℕ) → i < count → (slice_index_or free i true ≡ true) ↔ IsFreeUpTo signed components n i

pub free_start : (signed components : List ℕ) (count : ℕ) (free : List Bool) → free ≡ replicate count true → AreFreeUpTo signed components count 0 free
free_start signed components count free e = record {
  size = ap (λ (bs : List Bool). length bs) e ∙ length-replicate count true;
  each = λ i l. ((λ t p lp. absurd (omega arith)), (λ h. ap (λ (bs : List Bool). slice_index_or bs i true) e ∙ get_or-replicate count i true true l));
}

module _ (signed components : List ℕ) (count n : ℕ) (free : List Bool) (u : AreFreeUpTo signed components count n free) (in_range : slice_index components n < count) where
  abbrev here : ℕ
  here = slice_index components n

  free_same : slice_index signed (2 * n) ≡ slice_index signed (2 * n + 1) → AreFreeUpTo signed components count (n + 1) (set free here false)
  free_same e = record {
    size = length-set free here false ∙ u.size;
    each = λ i l. elim (cases_eq i here) [
      | inl at ↦ (
        (λ t. absurd (false≢true (sym (get_or-set_same free here false true (omega (arith, u.size))) ∙ ap (λ k. slice_index_or (set free here false) k true) (sym at) ∙ t))),
        (λ h. absurd (h n (omega arith) (sym at) e)),
      )
      | inr separate ↦ (
        (λ t p lp c. (u.each i l).0 (sym (get_or-set_other free here i false true separate) ∙ t) p (less i separate p lp c) c),
        (λ h. get_or-set_other free here i false true separate ∙ (u.each i l).1 (λ p lp c. h p (omega arith) c)),
      )
    ];
  }
    where
      less : (i : ℕ) → i ≢ here → (p : ℕ) → p < n + 1 → slice_index components p ≡ i → p < n
      less i separate p lp c = elim (cases_eq p n) [ inl same ↦ absurd (separate (sym c ∙ ap (slice_index components) same)) | inr other ↦ omega arith ]

  free_apart : slice_index signed (2 * n) ≢ slice_index signed (2 * n + 1) → AreFreeUpTo signed components count (n + 1) free
  free_apart out = record {
    size = u.size;
    each = λ i l. (
      (λ t p lp c. elim (cases_eq p n) [
        | inl same ↦ (λ f. out (ap (λ k. slice_index signed (2 * k)) (sym same) ∙ f ∙ ap (λ k. slice_index signed (2 * k + 1)) same))
        | inr other ↦ (u.each i l).0 t p (omega arith) c
      ]),
      (λ h. (u.each i l).1 (λ p lp c. h p (omega arith) c)),
    );
  }

  pub free_next : (same : Bool) (more : List Bool) → (same ≡ true → slice_index signed (2 * n) ≡ slice_index signed (2 * n + 1)) → (same ≡ false → slice_index signed (2 * n) ≢ slice_index signed (2 * n + 1))
      → more ≡ (if same then set free here false else free) → AreFreeUpTo signed components count (n + 1) more
  free_next true more is out e = subst (AreFreeUpTo signed components count (n + 1)) (sym e) (free_same (is refl))
  free_next false more is out e = subst (AreFreeUpTo signed components count (n + 1)) (sym e) (free_apart (out refl))
