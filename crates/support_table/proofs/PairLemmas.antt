-- Pairs of columns that are the residual of a candidate, and the candidates that contain none.
use Rattle.std.proofs.Common.{◌≡◌, ◌≢◌, ℕ, ◌+◌, ◌-◌, ◌*◌, ◌/◌, ◌%◌, ◌^◌, ◌<◌, ◌≤◌, ◌⊎◌, inl, inr, List, Bool, true, false, [], ◌∷◌, ◌++◌, Contains, length, take, drop, get_or, get_or-take, set, length-set, get_or-set_same, get_or-set_other, bit_and, bit_or, mul-le-mul_right, subst, sym, ap, ◌∙◌, arith}
use Rattle.std.specs.Int.{bit_at}
use Rattle.std.specs.List.{All}
use Rattle.std.proofs.lemmas.Bool.{cases_eq, cases_lt, cases_Bool, eq-eqb, false≢true}
use Rattle.std.proofs.lemmas.List.{get_or_default, get_or_past, get_or-drop}
use Rattle.std.proofs.lemmas.List.Elements.{All-contains, All-push, Contains-push, Contains-get_or, Contains-append_left}
use Rattle.std.proofs.lemmas.List.Quantifiers.{all_pairs_push}
use Rattle.std.proofs.lemmas.Nat.Bits.{bit_at-zero, bit_at-pow_other}
use Rattle.support_bits.specs.Columns.{HasColumn, IsInsideUnionOf}
use Rattle.support_bits.specs.Words.{AreWordsOf, HaveCommon}
use Rattle.support_bits.proofs.WordLemmas.{bit_of-column, is_one, within_words}
use Rattle.support_table.specs.Counts.{columns_in_either}
use Rattle.support_table.specs.declared.groups.Grouped.{Grouped}
use Rattle.support_table.specs.declared.candidates.Candidate.{Candidate}
use Rattle.support_table.specs.Residuals.{support_at, IsCandidate, IsMinimal, AreMinimalOf}
use Rattle.support_table.specs.Candidates.{AreFound, HasUnionSize, HasPlace, IsSized, AreCandidates}
use Rattle.support_table.specs.Groups.{IsGroup, HasEntry, AreGrouped, grouped_at, HasOtherInside, IsSelectedAlone, AreSelectedAlone}
use Rattle.support_table.specs.Pairs.{pair_size, IsPair, ArePartners, HasPair, IsBeyondPair, AreTested, AreKept}
use Rattle.support_table.proofs.BitLemmas.{either_set, both_set, bit_within}
use Rattle.support_table.proofs.CandidateLemmas.{inside_union, inside_residual}
use Rattle.support_table.proofs.NearLemmas.{shifted_one}
use Rattle.support_table.proofs.SizeLemmas.{column_within, size_within, two_columns}
use Rattle.support_table.proofs.TableLemmas.{part_within}

-- ---- places of words

-- the words of different columns have different places
pub same_place : (width a b c d : ℕ) → b < width → d < width → a * width + b ≡ c * width + d → (a ≡ c) × (b ≡ d)
same_place width a b c d first second is = elim (cases_lt a c) [
  | inl less ↦ absurd (let w = part_within a c width less in omega (arith, w, first, is))
  | inr exceeded ↦ elim (cases_lt c a) [
    | inl more ↦ absurd (let w = part_within c a width more in omega (arith, w, second, is))
    | inr same ↦ let e : a ≡ c = omega arith in let f = ap (λ n. n * width) e in (e, omega (arith, f, is))
  ]
]

module _ (supports : List (List Bool)) (outer : List Bool) (candidates : List Candidate) where
  -- ---- the partners of columns

  pub pair_from : (r : Candidate) (last first : ℕ) → Contains candidates r → r.size ≡ pair_size outer → r.size ≡ columns_in_either outer (support_at supports r.place) → length (support_at supports r.place) ≡ length outer →
      HasColumn (support_at supports r.place) last × (¬ HasColumn outer last) → HasColumn (support_at supports r.place) first × (¬ HasColumn outer first) → first < last → IsPair supports outer candidates last first
  pair_from r last first listed size is wide last_is first_is less = record {
    candidate = r;
    listed = listed;
    size = size;
    columns = λ column has outside. two_columns outer (support_at supports r.place) last first column wide (omega (arith, size, is)) last_is.0 last_is.1 first_is.0 first_is.1 (λ e. omega (arith, e, less)) has outside;
  }

  -- the place of the first column of a residual among the words of its last
  pub place_within : (partners words : List ℕ) (place last first : ℕ) → length partners ≡ length outer * ((length outer + 63) / 64) → AreWordsOf (support_at supports place) words → length (support_at supports place) ≡ length outer →
      IsGroup outer (support_at supports place) last → 0 < first → first < last → (last - 1) * length words + (first - 1) / 64 < length partners
  place_within partners words place last first count of_s wide group some less =
      let has = (group (last - 1) (omega arith)).0 in
      let within = column_within (support_at supports place) (last - 1) has in
      let width : length words ≡ (length outer + 63) / 64 = of_s.count ∙ ap (λ n. (n + 63) / 64) wide in
      let row = part_within (last - 1) (length outer) (length words) (omega (arith, within, wide)) in
      let all = count ∙ ap (λ n. length outer * n) (sym width) in
      omega (arith, row, all, width, within, wide, less)

  -- the first column is in one of the words
  pub words_less : (words : List ℕ) (place last first : ℕ) → AreWordsOf (support_at supports place) words → length (support_at supports place) ≡ length outer → IsGroup outer (support_at supports place) last → 0 < first → first < last →
      (first - 1) / 64 < (length outer + 63) / 64
  words_less words place last first of_s wide group some less =
      let within = column_within (support_at supports place) (last - 1) (group (last - 1) (omega arith)).0 in
      omega (arith, within, wide, less)

  pub place_fits : (words : List ℕ) (place last first : ℕ) → length outer < 2 ^ 32 → AreWordsOf (support_at supports place) words → length (support_at supports place) ≡ length outer →
      IsGroup outer (support_at supports place) last → 0 < first → first < last → (last - 1) * length words + (first - 1) / 64 < 2 ^ 64
  place_fits words place last first short of_s wide group some less =
      let has = (group (last - 1) (omega arith)).0 in
      let within = column_within (support_at supports place) (last - 1) has in
      let width : length words ≡ (length outer + 63) / 64 = of_s.count ∙ ap (λ n. (n + 63) / 64) wide in
      let most : (last - 1) * length words ≤ 4294967296 * length words = mul-le-mul_right (length words) (omega (arith, within, wide, short)) in
      omega (arith, most, width, within, wide, less, short)

  pub partners_none : (partners : List ℕ) → length partners ≡ length outer * ((length outer + 63) / 64) → All (λ n. n ≡ 0) partners → ArePartners supports outer candidates partners
  partners_none partners count none = record {
    count = count;
    pairs = λ column other less one. absurd (let place : ℕ = column * ((length outer + 63) / 64) + other / 64 in
        let z : get_or partners place 0 ≡ 0 = elim (cases_lt place (length partners)) [ inl within ↦ none place 0 within | inr past ↦ get_or_past partners place 0 past ] in
        let e = ap (λ n. bit_at n (other % 64)) z ∙ bit_at-zero (other % 64) in omega (arith, e, one));
  }

  pub partners_set : (partners new : List ℕ) (column other place : ℕ) → ArePartners supports outer candidates partners → IsPair supports outer candidates column other → other / 64 < (length outer + 63) / 64 →
      place ≡ column * ((length outer + 63) / 64) + other / 64 → new ≡ set partners place (bit_or (get_or partners place 0) (1 * 2 ^ (other % 64) % 2 ^ 64)) → ArePartners supports outer candidates new
  partners_set partners new column other place h pair within is new_is = record {
    count = ap length new_is ∙ length-set partners place _ ∙ h.count;
    pairs = λ k j inside one. elim (cases_eq (k * width + j / 64) place) [
      | inl same ↦ elim (either_set (get_or partners place 0) (1 * 2 ^ (other % 64) % 2 ^ 64) (j % 64) (at_place k j same one)) [
        | inl old ↦ h.pairs k j inside (ap (λ n. bit_at (get_or partners n 0) (j % 64)) same ∙ old)
        | inr fresh ↦ let e = same_place width k (j / 64) column (other / 64) inside within (same ∙ is) in
            let low = same_bit (j % 64) fresh in let f : j ≡ other = omega (arith, e.1, low) in
            subst (λ n. IsPair supports outer candidates n j) (sym e.0) (subst (IsPair supports outer candidates column) (sym f) pair)
      ]
      | inr apart ↦ h.pairs k j inside (sym (ap (λ n. bit_at n (j % 64)) (ap (λ ws. get_or ws (k * width + j / 64) 0) new_is ∙ get_or-set_other partners place (k * width + j / 64) _ 0 apart)) ∙ one)
    ];
  }
    where
      width : ℕ
      width = (length outer + 63) / 64

      same_bit : (i : ℕ) → bit_at (1 * 2 ^ (other % 64) % 2 ^ 64) i ≡ 1 → i ≡ other % 64
      same_bit i one = elim (cases_eq i (other % 64)) [
        | inl e ↦ e
        | inr apart ↦ absurd (let small : 1 * 2 ^ (other % 64) % 2 ^ 64 ≡ 2 ^ (other % 64) = shifted_one (other % 64) (omega arith) in
            let z = ap (λ n. bit_at n i) small ∙ bit_at-pow_other (other % 64) i apart in omega (arith, z, one))
      ]

      at_place : (k j : ℕ) → k * width + j / 64 ≡ place → bit_at (get_or new (k * width + j / 64) 0) (j % 64) ≡ 1 → bit_at (bit_or (get_or partners place 0) (1 * 2 ^ (other % 64) % 2 ^ 64)) (j % 64) ≡ 1
      at_place k j same one = elim (cases_lt place (length partners)) [
        | inl less ↦ sym (ap (λ n. bit_at n (j % 64)) (ap (λ n. get_or new n 0) same ∙ ap (λ ws. get_or ws place 0) new_is ∙ get_or-set_same partners place _ 0 less)) ∙ one
        | inr past ↦ absurd (let z = get_or_past new (k * width + j / 64) 0 (let l = ap length new_is ∙ length-set partners place _ in omega (arith, l, same, past)) in
            let e = ap (λ n. bit_at n (j % 64)) z ∙ bit_at-zero (j % 64) in omega (arith, e, one))
      ]

  -- ---- a residual that contains a column and one of its partners

  -- the words of a column of a ray are within those of all
  pub row_within : (partners words : List ℕ) (place column : ℕ) → ArePartners supports outer candidates partners → AreWordsOf (support_at supports place) words → length (support_at supports place) ≡ length outer →
      HasColumn (support_at supports place) column → column * length words + length words ≤ length partners
  row_within partners words place column h of_s wide has =
      let less = column_within (support_at supports place) column has in
      let width : length words ≡ (length outer + 63) / 64 = of_s.count ∙ ap (λ n. (n + 63) / 64) wide in
      let within = part_within column (length outer) (length words) (omega (arith, less, wide)) in
      let all = h.count ∙ ap (λ n. length outer * n) (sym width) in
      omega (arith, within, all)

  pub pair_inside : (partners words : List ℕ) (place column : ℕ) → ArePartners supports outer candidates partners → AreWordsOf (support_at supports place) words → length words ≡ (length outer + 63) / 64 → HasColumn (support_at supports place) column →
      HaveCommon words (take (length words) (drop (column * length words) partners)) → HasPair supports outer candidates place
  pair_inside partners words place column h of_s wide has common = record {
    pair = p.candidate;
    listed = p.listed;
    size = p.size;
    inside = λ k is. elim (cases_Bool (get_or outer k false)) [
      | inl e ↦ inl e
      | inr lacks ↦ inr (elim (p.columns k is (λ out. false≢true (sym lacks ∙ out))) [
        | inl e ↦ subst (HasColumn (support_at supports place)) (sym e) has
        | inr e ↦ subst (HasColumn (support_at supports place)) (sym e) (sym (of_s.bits common.0) ∙ common.1)
      ])
    ];
  }
    where
      within : common.0 / 64 < length words
      within = let w = within_words words common.0 common.1 in omega (arith, w)

      p : IsPair supports outer candidates column common.0
      p = h.pairs column common.0 (omega (arith, within, wide))
          (subst (λ w. bit_at (get_or partners (column * w + common.0 / 64) 0) (common.0 % 64) ≡ 1) wide
          (sym (ap (λ n. bit_at n (common.0 % 64)) (get_or-take (length words) (drop (column * length words) partners) (common.0 / 64) 0 within ∙ get_or-drop (column * length words) partners (common.0 / 64) 0))
          ∙ is_one (get_or (take (length words) (drop (column * length words) partners)) (common.0 / 64) 0) (common.0 % 64) common.2))

  -- a bit that a word of a ray has in common with another is that of a column
  pub column_of_bit : (s : List Bool) (words : List ℕ) (k m i : ℕ) → AreWordsOf s words → get_or words k 0 < 2 ^ 64 → bit_at (bit_and (get_or words k 0) m) i ≡ 1 → HasColumn s (64 * k + i)
  column_of_bit s words k m i of_s fits one =
      let set_is = (both_set (get_or words k 0) m i one).0 in
      let less = bit_within (get_or words k 0) 64 i fits set_is in
      sym (of_s.bits (64 * k + i)) ∙ bit_of-column words k i less ∙ eq-eqb _ 1 set_is

  -- ---- those that are tested, candidate by candidate

  abbrev From : ℕ → Candidate → Type 0
  From n r = (k : ℕ) × (k < n) × (k < length candidates) × ((d : Candidate) → get_or candidates k d ≡ r)

  module _ (selected : List Bool) where
    pub tested_none : AreTested supports outer selected candidates 0 []
    tested_none = record {
      from = λ k d within. absurd (omega arith);
      ascending = λ up i j d less within. absurd (omega arith);
      complete = λ k d less. absurd (omega arith);
    }

    module _ (n : ℕ) (tested : List Candidate) (r : Candidate) (h : AreTested supports outer selected candidates n tested) (within : n < length candidates) (is : (d : Candidate) → get_or candidates n d ≡ r) where
      still_tested : All (From (n + 1)) tested
      still_tested k d inside = let s = h.from k d inside in (s.0, omega (arith, s.1), s.2, s.3)

      pub tested_push : AreTested supports outer selected candidates (n + 1) (tested ++ r ∷ [])
      tested_push = record {
        from = All-push (From (n + 1)) tested r still_tested (n, omega arith, within, is);
        ascending = λ up. all_pairs_push (λ (p q : Candidate). p.place < q.place) tested r (h.ascending up) (λ k d inside.
            let s = h.from k d inside in let before = up s.0 n d s.1 within in
            let one = ap (λ (p : Candidate). p.place) (s.3 d) in let other = ap (λ (p : Candidate). p.place) (is d) in omega (arith, before, one, other));
        complete = λ k d less inside flag. elim (cases_lt k n) [
          | inl old ↦ elim (h.complete k d old inside flag) [ inl found ↦ inl (Contains-append_left tested (r ∷ []) (get_or candidates k d) found) | inr beyond ↦ inr beyond ]
          | inr exceeded ↦ let e : n ≡ k = omega arith in inl (subst (Contains (tested ++ r ∷ [])) (sym (is d) ∙ ap (λ j. get_or candidates j d) e) (Contains-push tested r))
        ];
      }

      pub tested_skip : (get_or selected r.place false ≡ true → IsBeyondPair supports outer candidates r) → AreTested supports outer selected candidates (n + 1) tested
      tested_skip beyond = record {
        from = still_tested;
        ascending = h.ascending;
        complete = λ k d less inside flag. elim (cases_lt k n) [
          | inl old ↦ h.complete k d old inside flag
          | inr exceeded ↦ let e : k ≡ n = omega arith in let at = ap (λ j. get_or candidates j d) e ∙ is d in
              inr (subst (IsBeyondPair supports outer candidates) (sym at) (beyond (ap (λ (p : Candidate). get_or selected p.place false) (sym at) ∙ flag)))
        ];
      }

    -- what holds of all candidates holds of the tested ones
    from_tested : (P : Candidate → Type 0) (n : ℕ) (tested : List Candidate) → AreTested supports outer selected candidates n tested → All P candidates → All P tested
    from_tested P n tested h all k d inside = let s = h.from k d inside in subst P (s.3 d) (all s.0 d s.2)

    pub found_tested : (n : ℕ) (tested : List Candidate) → AreTested supports outer selected candidates n tested → AreFound supports candidates → AreFound supports tested
    found_tested n tested h found = from_tested (λ (r : Candidate). r.place < length supports) n tested h found

    pub sized_tested : (n : ℕ) (tested : List Candidate) → AreTested supports outer selected candidates n tested → All (HasUnionSize supports outer) candidates → All (HasUnionSize supports outer) tested
    sized_tested n tested h sized = from_tested (HasUnionSize supports outer) n tested h sized

  -- ---- those that are kept, candidate by candidate

  module _ (most : ℕ) where
    pub kept_none : AreKept supports outer most candidates 0 []
    kept_none = record {
      each = λ k d within. absurd (omega arith);
      complete = λ k d less. absurd (omega arith);
    }

    module _ (n : ℕ) (kept : List Candidate) (r : Candidate) (h : AreKept supports outer most candidates n kept) (within : n < length candidates) (is : (d : Candidate) → get_or candidates n d ≡ r) where
      pub kept_push : AreKept supports outer most candidates (n + 1) (kept ++ r ∷ [])
      kept_push = record {
        each = All-push (Contains candidates) kept r h.each (subst (Contains candidates) (is r) (Contains-get_or candidates n r within));
        complete = λ k d less inside. elim (cases_lt k n) [
          | inl old ↦ elim (h.complete k d old inside) [ inl found ↦ inl (Contains-append_left kept (r ∷ []) (get_or candidates k d) found) | inr other ↦ inr other ]
          | inr exceeded ↦ let e : n ≡ k = omega arith in inl (subst (Contains (kept ++ r ∷ [])) (sym (is d) ∙ ap (λ j. get_or candidates j d) e) (Contains-push kept r))
        ];
      }

      pub kept_skip : (most < r.size) ⊎ IsBeyondPair supports outer candidates r → AreKept supports outer most candidates (n + 1) kept
      kept_skip left = record {
        each = h.each;
        complete = λ k d less inside. elim (cases_lt k n) [
          | inl old ↦ h.complete k d old inside
          | inr exceeded ↦ let e : k ≡ n = omega arith in let at = ap (λ j. get_or candidates j d) e ∙ is d in
              inr (subst (λ (p : Candidate). (most < p.size) ⊎ IsBeyondPair supports outer candidates p) (sym at) left)
        ];
      }

    -- what holds of all candidates holds of the kept ones
    from_kept : (P : Candidate → Type 0) (n : ℕ) (kept : List Candidate) → AreKept supports outer most candidates n kept → All P candidates → All P kept
    from_kept P n kept h all k d inside = let t = h.each k d inside in subst P t.2 (all t.0 (get_or kept k d) t.1)

    pub found_kept : (n : ℕ) (kept : List Candidate) → AreKept supports outer most candidates n kept → AreFound supports candidates → AreFound supports kept
    found_kept n kept h found = from_kept (λ (r : Candidate). r.place < length supports) n kept h found

    pub sized_kept : (n : ℕ) (kept : List Candidate) → AreKept supports outer most candidates n kept → All (HasUnionSize supports outer) candidates → All (HasUnionSize supports outer) kept
    sized_kept n kept h sized = from_kept (HasUnionSize supports outer) n kept h sized

-- ---- the minimal ones

module _ (supports : List (List Bool)) (outer joined : List Bool) (own most : ℕ) (candidates : List Candidate) (c : AreCandidates supports outer joined own most candidates) where
  sized : (r : Candidate) → Contains candidates r → IsSized supports outer joined own most r
  sized r listed = All-contains (IsSized supports outer joined own most) candidates r c.each listed

  -- a minimal candidate is not beyond a pair
  minimal_not_beyond : (r : Candidate) → Contains candidates r → IsMinimal supports outer joined own most r.place → ¬ IsBeyondPair supports outer candidates r
  minimal_not_beyond r listed minimal beyond =
      let p = beyond.1 in
      let same = minimal.minimal p.pair.place (sized p.pair p.listed).candidate (inside_residual outer (support_at supports p.pair.place) (support_at supports r.place) p.inside) in
      let s = (sized p.pair p.listed).size in
      let t = (sized r listed).size in
      let e = ap (λ k. columns_in_either outer (support_at supports k)) same in
      omega (arith, p.size, s, t, e, beyond.0)

  module _ (selected : List Bool) (tested : List Candidate) (w : AreTested supports outer selected candidates (length candidates) tested) where
    -- a minimal candidate with the flag `true` is tested
    tested_at : (place : ℕ) → IsMinimal supports outer joined own most place → get_or selected place false ≡ true → HasPlace tested place
    tested_at place minimal flag =
        let t = c.complete place minimal in
        let at : get_or candidates t.1.0 t.0 ≡ t.0 = t.1.2 in
        let here = ap (λ (r : Candidate). r.place) at ∙ t.2 in
        elim (w.complete t.1.0 t.0 t.1.1 t.1.1 (ap (λ k. get_or selected k false) here ∙ flag)) [
          | inl found ↦ (get_or candidates t.1.0 t.0, found, here)
          | inr beyond ↦ absurd (minimal_not_beyond t.0 t.1 (subst (IsMinimal supports outer joined own most) (sym t.2) minimal) (subst (IsBeyondPair supports outer candidates) at beyond))
        ]

    -- if none is tested, no minimal one has the flag `true`
    pub none_tested : length tested ≡ 0 → AreMinimalOf supports outer joined own most selected []
    none_tested none = record {
      each = λ k d within. absurd (omega arith);
      ascending = λ i j d less within. absurd (omega arith);
      complete = λ place minimal flag. absurd (let t = tested_at place minimal flag in let inside = t.1.1 in omega (arith, none, inside));
    }

    listed_at : (r : Candidate) → Contains tested r → Contains candidates r
    listed_at r found = let s = w.from found.0 r found.1 in
        subst (Contains candidates) (s.3 r ∙ found.2) (Contains-get_or candidates s.0 r s.2)

    module _ (greatest : ℕ) (bounded : All (λ (r : Candidate). r.size ≤ greatest) tested) (kept : List Candidate) (k : AreKept supports outer greatest candidates (length candidates) kept) (list : List Grouped)
        (g : AreGrouped supports outer kept (length kept) list) where
      entry_at : (it : Grouped) → (t : Contains list it) → grouped_at list t.0 ≡ it
      entry_at it t = get_or_default list t.0 (record { place = 0; group = 0; size = 0 }) it t.1 ∙ t.2

      has_entry : (r : Candidate) → Contains kept r → HasEntry list r.place
      has_entry r t = let e = g.complete t.0 r t.1 t.1 in (e.0, e.1, e.2 ∙ ap (λ (p : Candidate). p.place) t.2)

      -- an entry whose residual lies inside that of a tested one is another such ray
      other_inside : (r s : Candidate) → Contains kept s → s.place ≢ r.place → IsInsideUnionOf (support_at supports s.place) outer (support_at supports r.place) → HasOtherInside supports outer list r.place
      other_inside r s found differs inside =
          let e = has_entry s found in
          let at = ap (λ (it : Grouped). it.place) (entry_at e.0 e.1) ∙ e.2 in (
            e.1.0,
            record {
              in_range = e.1.1;
              other = λ same. differs (sym at ∙ same);
              inside = subst (λ j. IsInsideUnionOf (support_at supports j) outer (support_at supports r.place)) (sym at) inside;
            },
          )

      -- a listed candidate inside the residual of a tested one has a kept one inside
      kept_inside : (r s : Candidate) → Contains tested r → Contains candidates s → s.place ≢ r.place → IsInsideUnionOf (support_at supports s.place) outer (support_at supports r.place) → HasOtherInside supports outer list r.place
      kept_inside r s found listed differs inside =
          let at : get_or candidates listed.0 s ≡ s = listed.2 in
          let r_size = (sized r (listed_at r found)).size in
          let s_size = (sized s listed).size in
          let smaller = size_within outer (support_at supports s.place) (support_at supports r.place) inside in
          let bound = All-contains (λ (p : Candidate). p.size ≤ greatest) tested r bounded found in
          elim (subst (λ p. Contains kept p ⊎ (greatest < p.size) ⊎ IsBeyondPair supports outer candidates p) at (k.complete listed.0 s listed.1 listed.1)) [
            | inl is ↦ other_inside r s is differs inside
            | inr out ↦ elim out [
              | inl large ↦ absurd (omega (arith, r_size, s_size, smaller, bound, large))
              | inr beyond ↦ pair_kept r s r_size s_size smaller bound beyond inside
            ]
          ]
        where
          pair_kept : (r s : Candidate) → r.size ≡ columns_in_either outer (support_at supports r.place) → s.size ≡ columns_in_either outer (support_at supports s.place) →
              columns_in_either outer (support_at supports s.place) ≤ columns_in_either outer (support_at supports r.place) → r.size ≤ greatest → IsBeyondPair supports outer candidates s →
              IsInsideUnionOf (support_at supports s.place) outer (support_at supports r.place) → HasOtherInside supports outer list r.place
          pair_kept r s r_size s_size smaller bound beyond inside =
              let p = beyond.1 in
              let at : get_or candidates p.listed.0 p.pair ≡ p.pair = p.listed.2 in
              let p_size = (sized p.pair p.listed).size in
              let apart : p.pair.place ≢ r.place = (λ e. let same = ap (λ j. columns_in_either outer (support_at supports j)) e in omega (arith, same, p.size, p_size, r_size, s_size, smaller, beyond.0)) in
              elim (subst (λ q. Contains kept q ⊎ (greatest < q.size) ⊎ IsBeyondPair supports outer candidates q) at (k.complete p.listed.0 p.pair p.listed.1 p.listed.1)) [
                | inl is ↦ other_inside r p.pair is apart (λ column has. elim (p.inside column has) [ inl out ↦ inl out | inr in_s ↦ inside column in_s ])
                | inr out ↦ absurd (elim out [
                  | inl large ↦ omega (arith, large, p.size, r_size, s_size, smaller, bound, beyond.0)
                  | inr other ↦ omega (arith, p.size, other.0)
                ])
              ]

      minimal_from_alone : (place : ℕ) → HasPlace tested place → ¬ HasOtherInside supports outer list place → IsMinimal supports outer joined own most place
      minimal_from_alone place t alone = record {
        candidate = subst (λ k. IsCandidate supports outer joined own most k) t.2 (sized t.0 (listed_at t.0 t.1)).candidate;
        minimal = λ k candidate inside. elim (cases_eq k place) [
          | inl e ↦ e
          | inr differ ↦ absurd (let covered = inside_union outer (support_at supports k) (support_at supports place) inside in
              let s = c.closed t.0 k (listed_at t.0 t.1) candidate (λ e. differ (e ∙ t.2)) (subst (λ j. IsInsideUnionOf (support_at supports k) outer (support_at supports j)) (sym t.2) covered) in
              alone (subst (HasOtherInside supports outer list) t.2 (kept_inside t.0 s.0 t.1 s.1 s.2 s.3)))
        ];
      }

      alone_if_minimal : (place : ℕ) → IsMinimal supports outer joined own most place → ¬ HasOtherInside supports outer list place
      alone_if_minimal place minimal other =
          let z : Grouped = record { place = 0; group = 0; size = 0 } in
          let t = g.from other.0 z other.1.in_range in
          other.1.other (minimal.minimal (grouped_at list other.0).place
          (subst (λ k. IsCandidate supports outer joined own most k) t.2 (sized t.0 (All-contains (Contains candidates) kept t.0 k.each t.1)).candidate)
          (inside_residual outer (support_at supports (grouped_at list other.0).place) (support_at supports place) other.1.inside))

      -- Theorem: the tested candidates inside whose residual lies that of no other kept one are the minimal ones
      pub minimal_tested : (places : List ℕ) → AreSelectedAlone supports outer list selected tested (length tested) places → AreMinimalOf supports outer joined own most selected places
      minimal_tested places h = record {
        each = λ k d within. let s = h.each k d within in let f = h.from k d within in let z : Candidate = record { place = 0; size = 0 } in
            (minimal_from_alone (get_or places k d) (get_or tested f.0 z, Contains-get_or tested f.0 z f.2, f.3 z) s.alone, s.is_selected);
        ascending = h.ascending (w.ascending c.ascending);
        complete = λ place minimal is. let t = tested_at place minimal is in
            let at = ap (λ (r : Candidate). r.place) t.1.2 ∙ t.2 in
            subst (Contains places) at (h.complete t.1.0 t.0 t.1.1 t.1.1
            (subst (IsSelectedAlone supports outer list selected) (sym at) (record { is_selected = is; alone = alone_if_minimal place minimal })));
      }
