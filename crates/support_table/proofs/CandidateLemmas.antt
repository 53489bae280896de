-- Lists of candidates among which are all of minimal residual.
use Rattle.std.proofs.Common.{ℕ, ◌<◌, ◌⊎◌, inl, inr, Bool, false, List, get_or, subst, sym, ◌∙◌, arith}
use Rattle.std.specs.List.{All, AllPairs}
use Rattle.std.proofs.lemmas.Bool.{cases_Bool, false≢true}
use Rattle.support_bits.specs.Columns.{IsInsideUnionOf}
use Rattle.support_table.specs.declared.candidates.Candidate.{Candidate}
use Rattle.support_table.specs.Near.{HasTwoOutside}
use Rattle.support_table.specs.Residuals.{support_at, IsResidualInside, IsCandidate}
use Rattle.support_table.specs.Singles.{IsSingle}
use Rattle.support_table.specs.Candidates.{IsSized, HasPlace, HasListedInside, IsHit, AreCandidates}
use Rattle.support_table.proofs.SizeLemmas.{single_column, single_inside}

-- the residual of s lies inside that of t if and only if s lies inside the union of t and the outer ray
pub inside_union : (outer s t : List Bool) → IsResidualInside outer s t → IsInsideUnionOf s outer t
inside_union outer s t inside column has = elim (cases_Bool (get_or outer column false)) [
  | inl e ↦ inl e
  | inr out ↦ inr (inside column has (λ is. false≢true (sym out ∙ is)))
]

pub inside_residual : (outer s t : List Bool) → IsInsideUnionOf s outer t → IsResidualInside outer s t
inside_residual outer s t inside column has outside = elim (inside column has) [ inl is ↦ absurd (outside is) | inr is ↦ is ]

-- ---- lists that lack only what is hit

-- candidates, ascending, among which are all that are not hit
pub record AreUnhit (supports : List (List Bool)) (outer joined : List Bool) (own most : ℕ) (list : List Candidate) : Type 0 where
  pub each : All (IsSized supports outer joined own most) list
  pub ascending : AllPairs (λ r s. r.place < s.place) list
  pub complete : (place : ℕ) → IsCandidate supports outer joined own most place → HasPlace list place ⊎ IsHit supports outer joined own most place

module _ (supports : List (List Bool)) (outer joined : List Bool) (own most : ℕ) where
  -- a residual of at most one column has not two
  not_two : (column : ℕ) (s : IsSingle supports outer joined own most column) → HasTwoOutside (support_at supports s.place) outer → ⊥
  not_two column s two =
      let is = λ (k : ℕ). single_column outer (support_at supports s.place) column k s.wide s.single s.has s.outside in
      let one = is two.one two.has_one two.lacks_one in
      let other = is two.other two.has_other two.lacks_other in
      let less = two.less in
      omega (arith, one, other, less)

  -- the single column that hits a ray lies inside each residual that contains that of the ray
  hit_inside : (place : ℕ) (t : List Bool) (hit : IsHit supports outer joined own most place) → IsInsideUnionOf (support_at supports place) outer t → IsInsideUnionOf (support_at supports hit.single.place) outer t
  hit_inside place t hit inside =
      let s = hit.single in
      single_inside outer (support_at supports s.place) t hit.column s.wide s.single s.has s.outside (elim (inside hit.column hit.has) [ inl out ↦ absurd (s.outside out) | inr is ↦ is ])

  -- a residual has two columns if one inside it has two
  two_inside : (s t : List Bool) → IsInsideUnionOf s outer t → HasTwoOutside s outer → HasTwoOutside t outer
  two_inside s t inside two = let within = inside_residual outer s t inside in record {
    one = two.one;
    other = two.other;
    less = two.less;
    has_one = within two.one two.has_one two.lacks_one;
    has_other = within two.other two.has_other two.lacks_other;
    lacks_one = two.lacks_one;
    lacks_other = two.lacks_other;
  }

  -- Theorem: candidates that have two columns outside the outer ray, one of which alone is a residual, may be left out
  pub unhit_candidates : (list : List Candidate) → AreUnhit supports outer joined own most list → AreCandidates supports outer joined own most list
  unhit_candidates list h = record {
    each = h.each;
    ascending = h.ascending;
    closed = λ r place listed candidate differs inside. elim (h.complete place candidate) [
      | inl t ↦ (t.0, t.1, (λ e. differs (sym t.2 ∙ e)), subst (λ k. IsInsideUnionOf (support_at supports k) outer (support_at supports r.place)) (sym t.2) inside)
      | inr hit ↦ single_listed r place hit inside (h.complete hit.single.place hit.single.candidate)
    ];
    complete = λ place minimal. elim (h.complete place minimal.candidate) [
      | inl t ↦ t
      | inr hit ↦ absurd (let s = hit.single in
          let same = minimal.minimal s.place s.candidate (inside_residual outer (support_at supports s.place) (support_at supports place)
          (hit_inside place (support_at supports place) hit (λ column has. inr has))) in
          not_two hit.column s (subst (λ k. HasTwoOutside (support_at supports k) outer) (sym same) hit.two))
    ];
  }
    where
      single_listed : (r : Candidate) (place : ℕ) (hit : IsHit supports outer joined own most place) → IsInsideUnionOf (support_at supports place) outer (support_at supports r.place) →
          HasPlace list hit.single.place ⊎ IsHit supports outer joined own most hit.single.place → HasListedInside supports outer list r
      single_listed r place hit inside found = elim found [
        | inl q ↦ (
          q.0,
          q.1,
          (λ e. not_two hit.column hit.single (subst (λ k. HasTwoOutside (support_at supports k) outer) (sym e ∙ q.2) (two_inside (support_at supports place) (support_at supports r.place) inside hit.two))),
          subst (λ k. IsInsideUnionOf (support_at supports k) outer (support_at supports r.place)) (sym q.2) (hit_inside place (support_at supports r.place) hit inside),
        )
        | inr other ↦ absurd (not_two hit.column hit.single other.two)
      ]
