-- Groups of candidates: their columns, and the ranges of their indices.
use Rattle.std.proofs.Common.{◌≡◌, ◌≢◌, ℕ, suc, ◌+◌, ◌-◌, ◌*◌, ◌^◌, ◌<◌, ◌≤◌, ◌⊎◌, inl, inr, min, List, Bool, eqb, [], ◌∷◌, ◌++◌, length, get_or, set, length-set, get_or-set_same, get_or-set_other, w64, bit_and, subst, sym, ap, ◌∙◌, arith}
use native.Mathlib.Numerals.{unary_clauses}
use Rattle.std.specs.Int.{bit_at, bit_not, leading_zeros, trailing_zeros}
use Rattle.std.specs.List.{All}
use Rattle.std.specs.List.Sorted.{IsPermutation}
use Rattle.std.proofs.lemmas.Bool.{cases_eq, cases_lt, eq-eqb, false≢true}
use Rattle.std.proofs.lemmas.List.Elements.{All-push, Contains-push, Contains-append_left, Contains-get_or}
use Rattle.std.proofs.lemmas.List.Sorted.{All-permutation, Contains-permutation}
use Rattle.std.proofs.lemmas.Nat.{leading_top, div_below, le-div, and_le_l}
use Rattle.std.proofs.lemmas.Nat.Bits.{bit_at-lt, bit_at_and, bit_at_not, bit_at-trailing_zeros}
use Rattle.support_bits.specs.Columns.{HasColumn}
use Rattle.support_bits.specs.Words.{AreWordsOf}
use Rattle.support_bits.proofs.WordLemmas.{bit_of-column}
use Rattle.support_table.specs.declared.groups.Grouped.{Grouped}
use Rattle.support_table.specs.declared.groups.Ranges.{Ranges}
use Rattle.support_table.specs.declared.candidates.Candidate.{Candidate}
use Rattle.support_table.specs.Residuals.{support_at}
use Rattle.support_table.specs.Candidates.{HasPlace}
use Rattle.support_table.specs.Groups.{IsColumnOutside, IsGroup, IsGrouped, AreGrouped, grouped_at, AreRanges}
use Rattle.support_table.proofs.BitLemmas.{bit_within}
use Rattle.support_table.proofs.SizeLemmas.{column_within}

-- ---- the last bit of a word

top : (n j : ℕ) → 2 ^ j ≤ n → n < 2 * 2 ^ j → bit_at n j ≡ 1
top n j low high =
    let some : 0 < 2 ^ j = omega arith in
    let less = div_below n (2 ^ j) 2 some high in
    let more = le-div 1 n (2 ^ j) some (omega arith) in
    omega (arith, less, more)

pub top_bit : (n : ℕ) → 0 < n → n < 2 ^ 64 → (leading_zeros w64 n < 64) × (bit_at n (63 - leading_zeros w64 n) ≡ 1)
top_bit n some fits =
    let t = leading_top 64 n some fits in
    let e : leading_zeros w64 n + suc t.0 ≡ 64 = t.1 in
    let j : 63 - leading_zeros w64 n ≡ t.0 = omega (arith, e) in
    (omega (arith, e), ap (bit_at n) j ∙ top n t.0 t.2 (let h = simp unary_clauses at t.3 in omega (arith, h)))

two_bits : (y z : ℕ) → y < 2 → z < 2 → min y (1 - z) ≡ 1 → (y ≡ 1) × (z ≡ 0)
two_bits y z yl zl is = (omega arith, omega arith)

pub beside_bits : (b c i : ℕ) → c < 2 ^ 64 → i < 64 → bit_at (bit_and b (bit_not w64 c)) i ≡ 1 → (bit_at b i ≡ 1) × (bit_at c i ≡ 0)
beside_bits b c i fits within is = two_bits (bit_at b i) (bit_at c i) (bit_at-lt b i) (bit_at-lt c i)
    (sym (bit_at_and b (bit_not w64 c) i ∙ ap (min (bit_at b i)) (bit_at_not w64 c i fits within)) ∙ is)

pub column_beside : (words outer : List ℕ) (k n group : ℕ) → get_or outer k 0 < 2 ^ 64 → get_or words k 0 < 2 ^ 64 → n ≡ bit_and (get_or words k 0) (bit_not w64 (get_or outer k 0)) → 0 < n →
    group ≡ 64 * k + (64 - leading_zeros w64 n) → IsColumnOutside words outer group
column_beside words outer k n group outer_fits words_fit n_is some is =
    let least = and_le_l (get_or words k 0) (bit_not w64 (get_or outer k 0)) in
    let t = top_bit n some (omega (arith, n_is, least, words_fit)) in
    let i : ℕ = 63 - leading_zeros w64 n in
    let less : i < 64 = omega arith in
    let both = beside_bits (get_or words k 0) (get_or outer k 0) i outer_fits less (ap (λ m. bit_at m i) (sym n_is) ∙ t.1) in
    inr (64 * k + i, (let l = t.0 in omega (arith, is)), bit_of-column words k i less ∙ eq-eqb _ 1 both.0, bit_of-column outer k i less ∙ ap (λ b. eqb b 1) both.1)

pub column_first : (words outer : List ℕ) (k n group : ℕ) → get_or outer k 0 < 2 ^ 64 → get_or words k 0 < 2 ^ 64 → n ≡ bit_and (get_or words k 0) (bit_not w64 (get_or outer k 0)) → 0 < n →
    group ≡ 64 * k + trailing_zeros w64 n + 1 → IsColumnOutside words outer group
column_first words outer k n group outer_fits words_fit n_is some is =
    let least = and_le_l (get_or words k 0) (bit_not w64 (get_or outer k 0)) in
    let fits : n < 2 ^ 64 = omega (arith, n_is, least, words_fit) in
    let one = (bit_at-trailing_zeros w64 n some fits).1 in
    let i : ℕ = trailing_zeros w64 n in
    let less = bit_within n 64 i fits one in
    let both = beside_bits (get_or words k 0) (get_or outer k 0) i outer_fits less (ap (λ m. bit_at m i) (sym n_is) ∙ one) in
    inr (64 * k + i, omega (arith, is), bit_of-column words k i less ∙ eq-eqb _ 1 both.0, bit_of-column outer k i less ∙ ap (λ b. eqb b 1) both.1)

pub group_from_words : (outer s : List Bool) (words outer_words : List ℕ) (group : ℕ) → AreWordsOf s words → AreWordsOf outer outer_words → IsColumnOutside words outer_words group → IsGroup outer s group
group_from_words outer s words outer_words group of_s of_outer h column is = elim h [
  | inl e ↦ absurd (omega arith)
  | inr t ↦ let same : t.0 ≡ column = (let e = t.1 in omega arith) in
      subst (λ k. HasColumn s k × (¬ HasColumn outer k)) same (sym (of_s.bits t.0) ∙ t.2, λ has. false≢true (sym t.3 ∙ of_outer.bits t.0 ∙ has))
]

-- ---- candidate by candidate

pub grouped_push : (supports : List (List Bool)) (outer : List Bool) (candidates : List Candidate) (n : ℕ) (list : List Grouped) (it : Grouped) → AreGrouped supports outer candidates n list → n < length candidates →
    ((d : Candidate) → (get_or candidates n d).place ≡ it.place) → IsGrouped supports outer it → AreGrouped supports outer candidates (n + 1) (list ++ it ∷ [])
grouped_push supports outer candidates n list it h within is sized = record {
  each = All-push (IsGrouped supports outer) list it h.each sized;
  from = All-push (λ (it : Grouped). HasPlace candidates it.place) list it h.from
      (let z : Candidate = record { place = 0; size = 0 } in (get_or candidates n z, Contains-get_or candidates n z within, is z));
  complete = λ k d less inside. elim (cases_lt k n) [
    | inl old ↦ let e = h.complete k d old inside in (e.0, Contains-append_left list (it ∷ []) e.0 e.1, e.2)
    | inr exceeded ↦ let e : k ≡ n = omega arith in (it, Contains-push list it, sym (is d) ∙ ap (λ j. (get_or candidates j d).place) (sym e))
  ];
}

pub grouped_moved : (supports : List (List Bool)) (outer : List Bool) (candidates : List Candidate) (n : ℕ) (before after : List Grouped) → IsPermutation before after → AreGrouped supports outer candidates n before → AreGrouped supports outer candidates n after
grouped_moved supports outer candidates n before after moves h = record {
  each = All-permutation (IsGrouped supports outer) before after moves h.each;
  from = All-permutation (λ (it : Grouped). HasPlace candidates it.place) before after moves h.from;
  complete = λ k d less inside. let e = h.complete k d less inside in (e.0, Contains-permutation before after e.0 moves e.1, e.2);
}

-- ---- ranges

-- how the start of a group changes: at its first entry
abbrev pub IsStartSet : List ℕ → ℕ → ℕ → List ℕ → List ℕ → Type 0
IsStartSet ends group k old new = ((get_or ends group 0 ≡ 0) × (new ≡ set old group k)) ⊎ ((get_or ends group 0 ≢ 0) × (new ≡ old))

module _ (list : List Grouped) (groups k : ℕ) (old new : Ranges) (h : AreRanges list groups k old) (group : ℕ) (is : (grouped_at list k).group ≡ group) (below : group < groups)
    (ends : new.ends.items ≡ set old.ends.items group (k + 1)) (starts : IsStartSet old.ends.items group k old.starts.items new.starts.items) where
  end_same : get_or new.ends.items group 0 ≡ k + 1
  end_same = ap (λ (xs : List ℕ). get_or xs group 0) ends ∙ get_or-set_same old.ends.items group (k + 1) 0 (omega (arith, h.ends))

  end_other : (j : ℕ) → j ≢ group → get_or new.ends.items j 0 ≡ get_or old.ends.items j 0
  end_other j other = ap (λ (xs : List ℕ). get_or xs j 0) ends ∙ get_or-set_other old.ends.items group j (k + 1) 0 other

  start_other : (j : ℕ) → j ≢ group → get_or new.starts.items j 0 ≡ get_or old.starts.items j 0
  start_other j other = elim starts [
    | inl first ↦ ap (λ (xs : List ℕ). get_or xs j 0) first.1 ∙ get_or-set_other old.starts.items group j k 0 other
    | inr again ↦ ap (λ (xs : List ℕ). get_or xs j 0) again.1
  ]

  start_low : get_or new.starts.items group 0 ≤ k
  start_low = elim starts [
    | inl first ↦ let e = ap (λ (xs : List ℕ). get_or xs group 0) first.1 ∙ get_or-set_same old.starts.items group k 0 (omega (arith, h.starts)) in omega (arith, e)
    | inr again ↦ let e = ap (λ (xs : List ℕ). get_or xs group 0) again.1 in let l = h.low group in omega (arith, e, l)
  ]

  start_kept : get_or old.ends.items group 0 ≢ 0 → get_or new.starts.items group 0 ≡ get_or old.starts.items group 0
  start_kept seen = elim starts [
    | inl first ↦ absurd (seen first.0)
    | inr again ↦ ap (λ (xs : List ℕ). get_or xs group 0) again.1
  ]

  old_from : (j : ℕ) → j < k → get_or new.starts.items (grouped_at list j).group 0 ≤ j
  old_from j less = let low = h.from j less in let more = h.to j less in elim (cases_eq (grouped_at list j).group group) [
    | inl e ↦ let g = ap (λ n. get_or old.ends.items n 0) e in let s = ap (λ n. get_or new.starts.items n 0) e in let o = ap (λ n. get_or old.starts.items n 0) e in
        let kept = start_kept (λ none. omega (arith, g, more, none)) in omega (arith, s, o, kept, low)
    | inr other ↦ let e = start_other (grouped_at list j).group other in omega (arith, e, low)
  ]

  old_to : (j : ℕ) → j < k → j < get_or new.ends.items (grouped_at list j).group 0
  old_to j less = let more = h.to j less in elim (cases_eq (grouped_at list j).group group) [
    | inl e ↦ let s = ap (λ n. get_or new.ends.items n 0) e in let same = end_same in omega (arith, s, same)
    | inr other ↦ let e = end_other (grouped_at list j).group other in omega (arith, e, more)
  ]

  pub ranges_more : AreRanges list groups (k + 1) new
  ranges_more = record {
    starts = elim starts [ inl first ↦ ap length first.1 ∙ length-set old.starts.items group k ∙ h.starts | inr again ↦ ap length again.1 ∙ h.starts ];
    ends = ap length ends ∙ length-set old.ends.items group (k + 1) ∙ h.ends;
    low = λ j. elim (cases_eq j group) [
      | inl e ↦ let s = ap (λ n. get_or new.starts.items n 0) e in let l = start_low in omega (arith, s, l)
      | inr other ↦ let e = start_other j other in let l = h.low j in omega (arith, e, l)
    ];
    within = λ j. elim (cases_eq j group) [
      | inl e ↦ let s = ap (λ n. get_or new.ends.items n 0) e in let same = end_same in omega (arith, s, same)
      | inr other ↦ let e = end_other j other in let l = h.within j in omega (arith, e, l)
    ];
    from = λ j less. elim (cases_lt j k) [
      | inl before ↦ old_from j before
      | inr exceeded ↦ let e : j ≡ k = omega arith in let g = ap (λ n. (grouped_at list n).group) e ∙ is in let s = ap (λ n. get_or new.starts.items n 0) g in let l = start_low in omega (arith, s, l)
    ];
    to = λ j less. elim (cases_lt j k) [
      | inl before ↦ old_to j before
      | inr exceeded ↦ let e : j ≡ k = omega arith in let g = ap (λ n. (grouped_at list n).group) e ∙ is in let s = ap (λ n. get_or new.ends.items n 0) g in let same = end_same in omega (arith, s, same)
    ];
  }

-- each group is at most one more than the last column
pub groups_below : (supports : List (List Bool)) (outer : List Bool) (columns : ℕ) (list : List Grouped) → length outer ≡ columns → All (IsGrouped supports outer) list → All (λ (it : Grouped). it.group < columns + 1) list
groups_below supports outer columns list wide each k d within = elim (cases_eq (get_or list k d).group 0) [
  | inl e ↦ omega arith
  | inr some ↦
      let column : ℕ = (get_or list k d).group - 1 in
      let is : (get_or list k d).group ≡ column + 1 = omega arith in
      let it = each k d within in
      let less = column_within (support_at supports (get_or list k d).place) column (it.group column is).0 in
      let w = it.wide in
      omega (arith, less, w, wide, is)
]
