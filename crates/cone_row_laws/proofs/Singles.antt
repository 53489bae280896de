-- A ray with a single column, and another ray.
use Rattle.std.proofs.Common.{◌≡◌, ℕ, ◌⊎◌, inl, inr, List, slice_index, sym, subst}
use Rattle.std.proofs.lemmas.Bool.{cases_eq}
use Rattle.cone_definitions.specs.Vectors.{IsInsideUnion}
use Rattle.cone_definitions.specs.Rows.{Row, IsPrimitiveExtreme}
use Rattle.cone_definitions.proofs.OneRay.{same_ray}
use Rattle.cone_row_laws.specs.Singles.{IsSingle}

pub no_third : (columns : ℕ) (rows : List Row) (column : ℕ) (u w v : List ℕ) → IsSingle column u → IsPrimitiveExtreme columns rows u → IsPrimitiveExtreme columns rows w →
    IsPrimitiveExtreme columns rows v → IsInsideUnion v u w → (v ≡ u) ⊎ (v ≡ w)
no_third columns rows column u w v single hu hw hv inside = elim (cases_eq (slice_index v column) 0) [
  | inl z ↦ inr (sym (same_ray columns rows w v hw.extreme hw.primitive hv.extreme.solution hv.extreme.nonzero hv.primitive (λ j e. elim (cases_eq j column) [
    | inl s ↦ subst (λ k. slice_index v k ≡ 0) (sym s) z
    | inr ne ↦ inside j (single j ne) e
  ])))
  | inr some ↦ inl (same_ray columns rows v u hv.extreme hv.primitive hu.extreme.solution hu.extreme.nonzero hu.primitive (λ j e. elim (cases_eq j column) [
    | inl s ↦ absurd (some (subst (λ k. slice_index v k ≡ 0) s e))
    | inr ne ↦ single j ne
  ]))
]
