-- A sum of listed surfaces is admissible if and only if they are pairwise compatible.
use Rattle.std.proofs.Common.{◌≡◌, ◌≢◌, ℕ, suc, ◌<◌, inl, inr, List, [], ◌∷◌, length, slice_index, slice_index_or, All, AllPairs, refl, subst, ◌∙◌, arith}
use Rattle.std.proofs.lemmas.Bool.{cases_eq, cases_order}
use Rattle.cone_definitions.specs.Rows.{Row as EquationRow}
use Rattle.cone_definitions.specs.Surfaces.{Clash, IsAdmissible, IsAdmissibleUnion, IsVertexSurface, IsSurfaceList}
use Rattle.cone_definitions.specs.Vectors.{IsInside}
use Rattle.cone_definitions.proofs.Unions.{inside_admissible_union}
use Rattle.sum_definitions.specs.Adding.{sum_at}
use Rattle.sum_definitions.specs.Sums.{Term}
use Rattle.surface_sum_laws.specs.Laws.{AreListed}
use Rattle.surface_sum_laws.proofs.Solutions.{first_is, listed_surface}

-- a term that is not 0 at the column
record HasTermAt (terms : List Term) (j : ℕ) : Type 0 where
  i : ℕ
  in_range : i < length terms
  some : (d : Term) → slice_index (slice_index_or terms i d).vector j ≢ 0

term_at : (terms : List Term) (j : ℕ) → sum_at terms j ≢ 0 → HasTermAt terms j
term_at [] j some = absurd (some refl)
term_at (term ∷ terms) j some = elim (cases_eq (slice_index term.vector j) 0) [
  | inr here ↦ record { i = 0; in_range = omega arith; some = λ d. here }
  | inl z ↦ (let more = term_at terms j (λ e. some (first_is term terms j ∙ rw (z, e) (omega arith))) in
      record { i = suc more.i; in_range = (let l : more.i < length terms = more.in_range in omega arith); some = more.some })
]

module _ (columns : ℕ) (rows : List EquationRow) (pairs : List Clash) (surfaces : List (List ℕ)) (h : IsSurfaceList columns rows pairs surfaces) where
  abbrev AreUnited : List Term → Type 0
  AreUnited terms = AllPairs (λ (term other : Term). IsAdmissibleUnion pairs term.vector other.vector) terms

  -- not both columns of a pair have a term
  not_both : (terms : List Term) → AreListed surfaces terms → AreUnited terms → (k : ℕ) (e : Clash) → k < length pairs
      → HasTermAt terms (slice_index_or pairs k e).0 → HasTermAt terms (slice_index_or pairs k e).1 → ⊥
  not_both terms listed united k e l a b = elim (cases_order a.i b.i) [
    | inl same ↦ (let v : IsVertexSurface columns rows pairs (slice_index_or terms a.i d).vector = listed_surface columns rows pairs surfaces h (slice_index_or terms a.i d).vector (listed a.i d a.in_range) in
        elim (v.admissible k e l) [
          | inl z ↦ a.some d z
          | inr z ↦ b.some d (subst (λ i. slice_index (slice_index_or terms i d).vector (slice_index_or pairs k e).1 ≡ 0) same z)
        ])
    | inr (inl less) ↦ elim (united a.i b.i d less b.in_range k e l) [ inl z ↦ a.some d z.0 | inr z ↦ b.some d z.1 ]
    | inr (inr more) ↦ elim (united b.i a.i d more a.in_range k e l) [ inl z ↦ a.some d z.1 | inr z ↦ b.some d z.0 ]
  ]
    where
      d : Term
      d = record { count = 0; vector = [] }

  -- a vector that is 0 where the sum is
  pub united_admissible : (terms : List Term) → AreListed surfaces terms → AreUnited terms → (x : List ℕ) → ((j : ℕ) → sum_at terms j ≡ 0 → slice_index x j ≡ 0) → IsAdmissible pairs x
  united_admissible terms listed united x zeros k e l = elim (cases_eq (sum_at terms (slice_index_or pairs k e).0) 0) [
    | inl z ↦ inl (zeros (slice_index_or pairs k e).0 z)
    | inr a ↦ elim (cases_eq (sum_at terms (slice_index_or pairs k e).1) 0) [
      | inl z ↦ inr (zeros (slice_index_or pairs k e).1 z)
      | inr b ↦ absurd (not_both terms listed united k e l (term_at terms (slice_index_or pairs k e).0 a) (term_at terms (slice_index_or pairs k e).1 b))
    ]
  ]

-- terms inside an admissible vector are compatible
pub inside_united : (pairs : List Clash) (terms : List Term) (x : List ℕ) → All (λ (term : Term). IsInside term.vector x) terms → IsAdmissible pairs x
    → AllPairs (λ (term other : Term). IsAdmissibleUnion pairs term.vector other.vector) terms
inside_united pairs terms x inside clear i j d less l =
    inside_admissible_union pairs (slice_index_or terms i d).vector (slice_index_or terms j d).vector x (inside i d (omega arith)) (inside j d l) clear
