-- Whether a residual contains that of another candidate, by groups, and the candidates that contain none.
use Rattle.std.proofs.Common.{◌≡◌, ℕ, suc, ◌+◌, ◌-◌, ◌*◌, ◌/◌, ◌%◌, ◌^◌, ◌<◌, ◌≤◌, min, inl, inr, List, Bool, true, false, eqb, [], ◌∷◌, ◌++◌, Contains, length, get_or, w64, bit_and, subst, sym, ap, ◌∙◌, arith}
use Rattle.std.specs.Int.{bit_at, bit_not, trailing_zeros}
use Rattle.std.specs.List.{All}
use Rattle.std.proofs.lemmas.Bool.{cases_eq, cases_lt, cases_Bool, false≢true}
use Rattle.std.proofs.lemmas.List.Elements.{All-contains, All-push, Contains-push, Contains-append_left}
use Rattle.std.proofs.lemmas.List.Quantifiers.{all_pairs_push}
use Rattle.std.proofs.lemmas.Nat.Bits.{bit_at-lt, bit_at-zero, bit_at_and, bit_at_not, bit_at-trailing_zeros}
use Rattle.support_bits.specs.Columns.{HasColumn}
use Rattle.support_bits.specs.Words.{bit_of, AreWordsOf}
use Rattle.support_bits.proofs.WordLemmas.{bit_after, is_one, within_words}
use Rattle.support_table.specs.Counts.{columns_in_either}
use Rattle.support_table.specs.declared.groups.Grouped.{Grouped}
use Rattle.support_table.specs.declared.groups.Ranges.{Ranges}
use Rattle.support_table.specs.declared.candidates.Candidate.{Candidate}
use Rattle.support_table.specs.Residuals.{support_at, AreMinimalOf}
use Rattle.support_table.specs.Candidates.{AreCandidates}
use Rattle.support_table.specs.Groups.{grouped_at, AreFamily, IsOtherInside, HasOtherInside, HasNoneOfGroup, IsSelectedAlone, AreSelectedAlone}
use Rattle.support_table.proofs.SizeLemmas.{size_within}

module _ (supports : List (List Bool)) (outer : List Bool) (list : List Grouped) (place : ℕ) where
  -- a group above all has no entry
  pub none_above : (ranges : Ranges) (group : ℕ) → AreFamily supports outer list ranges → length ranges.ends.items ≤ group → HasNoneOfGroup supports outer list place group
  none_above ranges group f exceeded k is other =
      let b = f.below k (record { place = 0; group = 0; size = 0 }) other.in_range in
      let n = f.hold.ends in
      omega (arith, b, n, is, exceeded)

  -- an entry of greater size than the ray is no such ray
  pub none_larger : (ranges : Ranges) (size k : ℕ) → AreFamily supports outer list ranges → size ≡ columns_in_either outer (support_at supports place) → size < (grouped_at list k).size →
      ¬ IsOtherInside supports outer list place k
  none_larger ranges size k f is more other =
      let s = (f.each k (record { place = 0; group = 0; size = 0 }) other.in_range).size in
      let within = size_within outer (support_at supports (grouped_at list k).place) (support_at supports place) other.inside in
      omega (arith, s, is, more, within)

  -- all entries of a group are in its range
  pub none_in_range : (ranges : Ranges) (group end : ℕ) → AreFamily supports outer list ranges → get_or ranges.ends.items group 0 ≤ end →
      ((k : ℕ) → get_or ranges.starts.items group 0 ≤ k → k < end → ¬ IsOtherInside supports outer list place k) → HasNoneOfGroup supports outer list place group
  none_in_range ranges group end f all none k is other =
      let low = f.hold.from k other.in_range in
      let high = f.hold.to k other.in_range in
      let s = ap (λ n. get_or ranges.starts.items n 0) is in
      let t = ap (λ n. get_or ranges.ends.items n 0) is in
      none k (omega (arith, low, s)) (omega (arith, high, t, all)) other

  -- ---- bit by bit

  -- the bits below the column are done, and those left are the others
  pub record AreDoneBits (first word column rest : ℕ) : Type 0 where
    pub low : first ≤ column
    pub left : (j : ℕ) → bit_at rest j ≡ bit_at word (column - first + j)
    pub done : (i : ℕ) → bit_at word i ≡ 1 → first + i < column → HasNoneOfGroup supports outer list place (first + i + 1)

  pub done_none : (first word : ℕ) → AreDoneBits first word first word
  done_none first word = record {
    low = omega arith;
    left = λ j. ap (bit_at word) (omega arith);
    done = λ i _ less. absurd (omega arith);
  }

  pub done_more : (first word column rest : ℕ) → AreDoneBits first word column rest → 0 < rest → rest < 2 ^ 64 → HasNoneOfGroup supports outer list place (column + trailing_zeros w64 rest + 1) →
      AreDoneBits first word (column + trailing_zeros w64 rest + 1) (rest / 2 ^ trailing_zeros w64 rest / 2)
  done_more first word column rest h some fits none = record {
    low = omega (arith, h.low);
    left = λ j. bit_after rest (trailing_zeros w64 rest) j ∙ h.left (trailing_zeros w64 rest + suc j) ∙ ap (bit_at word) (let l = h.low in omega arith);
    done = λ i one less. elim (cases_lt (first + i) column) [
      | inl before ↦ h.done i one before
      | inr exceeded ↦ elim (cases_lt (first + i - column) (trailing_zeros w64 rest)) [
        | inl skipped ↦ absurd (let z = (bit_at-trailing_zeros w64 rest some fits).2 (first + i - column) skipped in
            let e = h.left (first + i - column) ∙ ap (bit_at word) {x = column - first + (first + i - column)} {y = i} (let l = h.low in omega arith) in
            omega (arith, z, e, one))
        | inr at ↦ let e : column + trailing_zeros w64 rest + 1 ≡ first + i + 1 = omega arith in subst (HasNoneOfGroup supports outer list place) e none
      ]
    ];
  }

  pub done_all : (first word column : ℕ) → AreDoneBits first word column 0 → (i : ℕ) → bit_at word i ≡ 1 → HasNoneOfGroup supports outer list place (first + i + 1)
  done_all first word column h i one = elim (cases_lt (first + i) column) [
    | inl before ↦ h.done i one before
    | inr exceeded ↦ absurd (let z = bit_at-zero (first + i - column) in
        let e = h.left (first + i - column) ∙ ap (bit_at word) {x = column - first + (first + i - column)} {y = i} (let l = h.low in omega arith) in
        omega (arith, z, e, one))
  ]

  -- ---- word by word

  -- for each column below n that is set in the first words and not in the second, no entry of its group is such a ray
  abbrev pub HasNoneBelow : ℕ → List ℕ → List ℕ → Type 0
  HasNoneBelow n words outside = (column : ℕ) → column < n → bit_of words column ≡ true → bit_of outside column ≡ false → HasNoneOfGroup supports outer list place (column + 1)

  pub none_below_more : (k : ℕ) (words outside : List ℕ) → HasNoneBelow (64 * k) words outside → get_or outside k 0 < 2 ^ 64 →
      ((i : ℕ) → bit_at (bit_and (get_or words k 0) (bit_not w64 (get_or outside k 0))) i ≡ 1 → HasNoneOfGroup supports outer list place (64 * k + i + 1)) → HasNoneBelow (64 * (k + 1)) words outside
  none_below_more k words outside h fits none column less is out = elim (cases_lt column (64 * k)) [
    | inl old ↦ h column old is out
    | inr exceeded ↦
        let e : column / 64 ≡ k = omega arith in
        let c : 64 * k + column % 64 + 1 ≡ column + 1 = omega arith in
        let one = is_one (get_or words k 0) (column % 64) (ap (λ j. eqb (bit_at (get_or words j 0) (column % 64)) 1) (sym e) ∙ is) in
        let zero_is = not_one (get_or outside k 0) (column % 64) (ap (λ j. eqb (bit_at (get_or outside j 0) (column % 64)) 1) (sym e) ∙ out) in
        subst (HasNoneOfGroup supports outer list place) c (none (column % 64)
        (bit_at_and (get_or words k 0) (bit_not w64 (get_or outside k 0)) (column % 64) ∙ both (bit_at (get_or words k 0) (column % 64)) _ one
        (bit_at_not w64 (get_or outside k 0) (column % 64) fits (omega arith) ∙ ap (λ n. 1 - n) zero_is)))
  ]
    where
      not_one : (n i : ℕ) → eqb (bit_at n i) 1 ≡ false → bit_at n i ≡ 0
      not_one n i h = elim (cases_eq (bit_at n i) 1) [
        | inl e ↦ absurd (false≢true (sym h ∙ ap (λ b. eqb b 1) e))
        | inr other ↦ let l = bit_at-lt n i in omega (arith, l, other)
      ]

      both : (a b : ℕ) → a ≡ 1 → b ≡ 1 → min a b ≡ 1
      both a b one other = omega arith

  -- so no other has a residual inside
  pub none_inside : (ranges : Ranges) (words outside : List ℕ) (n : ℕ) → AreFamily supports outer list ranges → AreWordsOf (support_at supports place) words → AreWordsOf outer outside → length words ≤ n →
      HasNoneOfGroup supports outer list place 0 → HasNoneBelow (64 * n) words outside → ¬ HasOtherInside supports outer list place
  none_inside ranges words outside n f of_s of_outer all first none t =
      let z : Grouped = record { place = 0; group = 0; size = 0 } in
      let group : ℕ = (grouped_at list t.0).group in
      elim (cases_eq group 0) [
        | inl e ↦ first t.0 e t.1
        | inr some ↦
            let column : ℕ = group - 1 in
            let is : group ≡ column + 1 = omega arith in
            let g = (f.each t.0 z t.1.in_range).group column is in
            elim (t.1.inside column g.0) [
              | inl out ↦ g.1 out
              | inr has ↦ let set_is = of_s.bits column ∙ has in let w = within_words words column set_is in
                  none column (omega (arith, w, all)) set_is (of_outer.bits column ∙ absent outer column g.1) t.0 is t.1
            ]
      ]
    where
      absent : (s : List Bool) (column : ℕ) → ¬ HasColumn s column → get_or s column false ≡ false
      absent s column none = elim (cases_Bool (get_or s column false)) [ inl e ↦ absurd (none e) | inr e ↦ e ]

-- ---- those with the flag `true`, candidate by candidate

module _ (supports : List (List Bool)) (outer : List Bool) (list : List Grouped) (selected : List Bool) (candidates : List Candidate) where
  abbrev From : ℕ → ℕ → Type 0
  From n place = (k : ℕ) × (k < n) × (k < length candidates) × ((d : Candidate) → (get_or candidates k d).place ≡ place)

  pub alone_none : AreSelectedAlone supports outer list selected candidates 0 []
  alone_none = record {
    each = λ k d within. absurd (omega arith);
    from = λ k d within. absurd (omega arith);
    ascending = λ up i j d less within. absurd (omega arith);
    complete = λ k d less. absurd (omega arith);
  }

  module _ (n : ℕ) (places : List ℕ) (h : AreSelectedAlone supports outer list selected candidates n places) where
    still_from : All (From (n + 1)) places
    still_from k d within = let s = h.from k d within in (s.0, omega (arith, s.1), s.2, s.3)

    pub alone_push : (place : ℕ) → n < length candidates → ((d : Candidate) → (get_or candidates n d).place ≡ place) → IsSelectedAlone supports outer list selected place → AreSelectedAlone supports outer list selected candidates (n + 1) (places ++ place ∷ [])
    alone_push place within is alone = record {
      each = All-push (IsSelectedAlone supports outer list selected) places place h.each alone;
      from = All-push (From (n + 1)) places place still_from (n, omega arith, within, is);
      ascending = λ up. all_pairs_push (λ p q. p < q) places place (h.ascending up) (λ k d inside.
          let s = h.from k d inside in let z : Candidate = record { place = 0; size = 0 } in
          let before = up s.0 n z s.1 within in let one = s.3 z in let other = is z in omega (arith, before, one, other));
      complete = λ k d less inside fine. elim (cases_lt k n) [
        | inl old ↦ Contains-append_left places (place ∷ []) (get_or candidates k d).place (h.complete k d old inside fine)
        | inr exceeded ↦ let e : n ≡ k = omega arith in subst (Contains (places ++ place ∷ [])) (sym (is d) ∙ ap (λ j. (get_or candidates j d).place) e) (Contains-push places place)
      ];
    }

    pub alone_skip : (place : ℕ) → ((d : Candidate) → (get_or candidates n d).place ≡ place) → ¬ IsSelectedAlone supports outer list selected place → AreSelectedAlone supports outer list selected candidates (n + 1) places
    alone_skip place is none = record {
      each = h.each;
      from = still_from;
      ascending = h.ascending;
      complete = λ k d less inside fine. elim (cases_lt k n) [
        | inl old ↦ h.complete k d old inside fine
        | inr exceeded ↦ let e : k ≡ n = omega arith in absurd (none (subst (IsSelectedAlone supports outer list selected) (ap (λ j. (get_or candidates j d).place) e ∙ is d) fine))
      ];
    }

-- ---- the minimal ones

module _ (supports : List (List Bool)) (outer joined : List Bool) (own most : ℕ) (candidates : List Candidate) (c : AreCandidates supports outer joined own most candidates) where
  -- if no candidate has the flag `true`, no minimal one has it
  pub none_selected : (selected : List Bool) → All (λ (r : Candidate). get_or selected r.place false ≡ false) candidates → AreMinimalOf supports outer joined own most selected []
  none_selected selected none = record {
    each = λ k d within. absurd (omega arith);
    ascending = λ i j d less within. absurd (omega arith);
    complete = λ place minimal is. absurd (let t = c.complete place minimal in
        false≢true (sym (All-contains (λ (r : Candidate). get_or selected r.place false ≡ false) candidates t.0 none t.1) ∙ ap (λ k. get_or selected k false) t.2 ∙ is));
  }
