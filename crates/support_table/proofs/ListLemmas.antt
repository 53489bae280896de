-- The lists of a chunk, ray by ray.
use Rattle.std.proofs.Common.{◌≡◌, ◌≢◌, ℕ, ◌+◌, ◌-◌, ◌*◌, ◌/◌, ◌^◌, ◌<◌, ◌≤◌, ◌⊎◌, inl, inr, Bool, List, [], ◌∷◌, ◌++◌, Vec, length, get_or, set, length-set, get_or-set_same, get_or-set_other, w64, bit_or, bit_and, refl, subst, sym, ap, ◌∙◌, arith}
use Rattle.std.specs.declared.alloc.Global.{Global}
use Rattle.std.specs.Int.{bit_at, bit_not, trailing_zeros}
use Rattle.std.specs.List.{All, AllPairs}
use Rattle.std.proofs.lemmas.Bool.{cases_eq, cases_lt}
use Rattle.std.proofs.lemmas.List.{get_or_default}
use Rattle.std.proofs.lemmas.List.Elements.{All-push, Contains-push, Contains-append_left}
use Rattle.std.proofs.lemmas.List.Quantifiers.{all_pairs_push}
use Rattle.std.proofs.lemmas.Nat.Bits.{bit_at-lt, bit_at-zero, bit_at_above, bit_at_or, bit_at_not, bit_at-trailing_zeros}
use Rattle.support_bits.specs.Columns.{HasColumn, Meets}
use Rattle.support_table.specs.declared.candidates.Candidate.{Candidate}
use Rattle.support_table.specs.declared.near.Near.{Near}
use Rattle.support_table.specs.declared.outer.Outer.{Outer}
use Rattle.support_table.specs.declared.part.Part.{Part}
use Rattle.support_table.specs.Candidates.{IsSized, HasPlace, IsHit, AreHits, IsCandidatePushed, ArePushedBelow, AreAllCandidates}
use Rattle.support_table.specs.Masks.{IsMarkOf, AreByteMasks}
use Rattle.support_table.specs.Near.{chosen_at, HasTwoOutside, IsNearOf, AreNearRays}
use Rattle.support_table.specs.Parts.{IsPart}
use Rattle.support_table.specs.Residuals.{support_at, IsCandidate}
use Rattle.support_table.specs.Singles.{AreAllSingles, AreSingleMasks}
use Rattle.support_table.specs.Tables.{Table}
use Rattle.support_table.proofs.BitLemmas.{AreFrom, either_set}
use Rattle.support_table.proofs.BlockLemmas.{common_bits}
use Rattle.support_table.proofs.CandidateLemmas.{AreUnhit, unhit_candidates}

-- ---- a ray is appended to the lists of some outer rays

module _ (supports : List (List Bool)) (outers : List Outer) (chosen : List ℕ) (most place word : ℕ) (old : List (Vec Candidate Global)) where
  pub pushed_none : ArePushedBelow supports outers chosen most place word 0 old old
  pushed_none = record {
    count = refl;
    pushed = λ b d less. absurd (omega arith);
    kept = λ b d unset. refl;
    after = λ b d more. refl;
  }

  -- the bits from n to before m are not set
  pub pushed_pass : (n m : ℕ) (new : List (Vec Candidate Global)) → ArePushedBelow supports outers chosen most place word n old new → n ≤ m →
      ((b : ℕ) → n ≤ b → b < m → bit_at word b ≢ 1) → ArePushedBelow supports outers chosen most place word m old new
  pushed_pass n m new h more unset = record {
    count = h.count;
    pushed = λ b d less within one. elim (cases_lt b n) [
      | inl earlier ↦ h.pushed b d earlier within one
      | inr exceeded ↦ absurd (unset b exceeded less one)
    ];
    kept = h.kept;
    after = λ b d exceeded. h.after b d (omega arith);
  }

  -- bit n is set
  pub pushed_set : (n : ℕ) (new : List (Vec Candidate Global)) (it d : Vec Candidate Global) → ArePushedBelow supports outers chosen most place word n old new → n < length old → bit_at word n ≡ 1 →
      IsCandidatePushed supports (chosen_at outers chosen n).support (chosen_at outers chosen n).joined (chosen_at outers chosen n).place most place (get_or new n d).items it.items →
      ArePushedBelow supports outers chosen most place word (n + 1) old (set new n it)
  pushed_set n new it d h within one pushed = record {
    count = length-set new n it ∙ h.count;
    pushed = λ b e less inside is. elim (cases_eq b n) [
      | inl same ↦ subst (λ k. Pushed k (get_or old k e) (get_or (set new n it) k e)) (sym same)
          (subst (λ (v : Vec Candidate Global). Pushed n (get_or old n e) v) (sym (get_or-set_same new n it e (omega (arith, within, h.count))))
          (subst (λ (v : Vec Candidate Global). Pushed n v it) (get_or_default new n d e (omega (arith, within, h.count)) ∙ h.after n e (omega arith)) pushed))
      | inr other ↦ subst (λ (v : Vec Candidate Global). Pushed b (get_or old b e) v) (sym (get_or-set_other new n b it e other)) (h.pushed b e (omega arith) inside is)
    ];
    kept = λ b e unset. get_or-set_other new n b it e (λ same. unset (ap (bit_at word) same ∙ one)) ∙ h.kept b e unset;
    after = λ b e more. get_or-set_other new n b it e (omega arith) ∙ h.after b e (omega arith);
  }
    where
      Pushed : ℕ → Vec Candidate Global → Vec Candidate Global → Type 0
      Pushed b v w = IsCandidatePushed supports (chosen_at outers chosen b).support (chosen_at outers chosen b).joined (chosen_at outers chosen b).place most place v.items w.items

-- ---- bit by bit

pub unset_before : (word bit rest : ℕ) → AreFrom word bit rest → 0 < rest → rest < 2 ^ 64 → (b : ℕ) → bit ≤ b → b < bit + trailing_zeros w64 rest → bit_at word b ≢ 1
unset_before word bit rest h some fits b low less one =
    let e = h (b - bit) ∙ ap (bit_at word) {x = bit + (b - bit)} {y = b} (omega arith) in
    let z = (bit_at-trailing_zeros w64 rest some fits).2 (b - bit) (omega arith) in
    omega (arith, e, z, one)

pub unset_from : (word bit : ℕ) → AreFrom word bit 0 → (b : ℕ) → bit ≤ b → bit_at word b ≢ 1
unset_from word bit h b low one =
    let e = h (b - bit) ∙ ap (bit_at word) {x = bit + (b - bit)} {y = b} (omega arith) in
    let z = bit_at-zero (b - bit) in
    omega (arith, e, z, one)

-- ---- the bits that two words lack

module _ (m n bits b : ℕ) (is : bits ≡ bit_or m n) (fits : bits < 2 ^ 64) where
  pub unset_either : b < 64 → bit_at (bit_not w64 bits) b ≢ 1 → (bit_at m b ≡ 1) ⊎ (bit_at n b ≡ 1)
  unset_either low unset = either_set m n b (ap (λ k. bit_at k b) (sym is) ∙ (let e = bit_at_not w64 bits b fits low in let l = bit_at-lt bits b in omega (arith, e, l, unset)))

  pub not_left : bit_at (bit_not w64 bits) b ≡ 1 → bit_at m b ≡ 0
  not_left one = elim (cases_lt b 64) [
    | inl low ↦ let e = bit_at_not w64 bits b fits low in let o = ap (λ k. bit_at k b) is ∙ bit_at_or m n b in let l = bit_at-lt m b in omega (arith, e, o, l, one)
    | inr high ↦ absurd (let z = bit_at_above (bit_not w64 bits) 64 b (omega arith) high in omega (arith, z, one))
  ]

-- ---- one list, ray by ray

module _ (supports : List (List Bool)) (outer joined : List Bool) (own most : ℕ) (at : ℕ → ℕ) where
  -- candidates, ascending, among the first m rays, with all of these that are not hit
  pub record IsListedTo (m : ℕ) (list : List Candidate) : Type 0 where
    pub each : All (IsSized supports outer joined own most) list
    pub from : All (λ (r : Candidate). (i : ℕ) × (i < m) × (r.place ≡ at i)) list
    pub ascending : AllPairs (λ (r s : Candidate). r.place < s.place) list
    pub complete : (i : ℕ) → i < m → IsCandidate supports outer joined own most (at i) → HasPlace list (at i) ⊎ IsHit supports outer joined own most (at i)

  pub listed_none : (list : List Candidate) → list ≡ [] → IsListedTo 0 list
  listed_none list is = let empty : length list ≡ 0 = ap length is in record {
    each = λ k d within. absurd (omega arith);
    from = λ k d within. absurd (omega arith);
    ascending = λ k l d less within. absurd (omega arith);
    complete = λ i less. absurd (omega arith);
  }

  module _ (m : ℕ) (list : List Candidate) (h : IsListedTo m list) where
    still_from : All (λ (r : Candidate). (i : ℕ) × (i < m + 1) × (r.place ≡ at i)) list
    still_from k d within = let s = h.from k d within in (s.0, omega (arith, s.1), s.2)

    pub listed_skip : (IsCandidate supports outer joined own most (at m) → IsHit supports outer joined own most (at m)) → IsListedTo (m + 1) list
    listed_skip hit = record {
      each = h.each;
      from = still_from;
      ascending = h.ascending;
      complete = λ i less candidate. elim (cases_lt i m) [
        | inl earlier ↦ h.complete i earlier candidate
        | inr exceeded ↦ let e : i ≡ m = omega arith in
            inr (subst (λ k. IsHit supports outer joined own most (at k)) (sym e) (hit (subst (λ k. IsCandidate supports outer joined own most (at k)) e candidate)))
      ];
    }

    listed_push : (r : Candidate) → r.place ≡ at m → IsSized supports outer joined own most r → ((i : ℕ) → i < m → at i < at m) → IsListedTo (m + 1) (list ++ r ∷ [])
    listed_push r is sized up = record {
      each = All-push (IsSized supports outer joined own most) list r h.each sized;
      from = All-push (λ (r : Candidate). (i : ℕ) × (i < m + 1) × (r.place ≡ at i)) list r still_from (m, omega arith, is);
      ascending = all_pairs_push (λ (r s : Candidate). r.place < s.place) list r h.ascending
          (λ k d within. let s = h.from k d within in let less = up s.0 s.1 in let e = s.2 in omega (arith, less, e, is));
      complete = λ i less candidate. elim (cases_lt i m) [
        | inl earlier ↦ elim (h.complete i earlier candidate) [
          | inl t ↦ inl (t.0, Contains-append_left list (r ∷ []) t.0 t.1, t.2)
          | inr hit ↦ inr hit
        ]
        | inr exceeded ↦ let e : m ≡ i = omega arith in inl (r, Contains-push list r, is ∙ ap at e)
      ];
    }

    pub listed_next : (new : List Candidate) → IsCandidatePushed supports outer joined own most (at m) list new → ((i : ℕ) → i < m → at i < at m) → IsListedTo (m + 1) new
    listed_next new pushed up = elim pushed [
      | inl none ↦ subst (IsListedTo (m + 1)) (sym none.1) (listed_skip (λ candidate. absurd (none.0 candidate)))
      | inr t ↦ subst (IsListedTo (m + 1)) (sym t.3) (listed_push t.0 t.1 t.2 up)
    ]

  pub listed_all : (m : ℕ) (list : List Candidate) → IsListedTo m list → ((place : ℕ) → IsCandidate supports outer joined own most place → (i : ℕ) × (i < m) × (at i ≡ place)) → AreUnhit supports outer joined own most list
  listed_all m list h all = record {
    each = h.each;
    ascending = h.ascending;
    complete = λ place candidate. let t = all place candidate in
        subst (λ k. HasPlace list k ⊎ IsHit supports outer joined own most k) t.2 (h.complete t.0 t.1 (subst (IsCandidate supports outer joined own most) (sym t.2) candidate));
  }

-- ---- all lists of a chunk

-- the index of the m-th ray of a list
abbrev pub near_place : List ℕ → List Near → ℕ → ℕ
near_place places near m = get_or places (get_or near m (record { place = 0; clash = 0; two = 0 })).place 0

module _ (rays : Table) (outers : List Outer) (chosen : List ℕ) (most : ℕ) (part : Part) (near : List Near) where
  abbrev pub at : ℕ → ℕ
  at m = near_place part.places.items near m

  -- the first m rays are listed for each outer ray
  pub record AreListedTo (m : ℕ) (lists : List (Vec Candidate Global)) : Type 0 where
    pub count : length lists ≡ length chosen
    pub each : (b : ℕ) (d : Vec Candidate Global) → b < length chosen →
        IsListedTo rays.supports (chosen_at outers chosen b).support (chosen_at outers chosen b).joined (chosen_at outers chosen b).place most at m (get_or lists b d).items

  pub lists_none : (lists : List (Vec Candidate Global)) → length lists ≡ length chosen → All (λ (list : Vec Candidate Global). list.items ≡ []) lists → AreListedTo 0 lists
  lists_none lists count empty = record {
    count = count;
    each = λ b d less. listed_none rays.supports (chosen_at outers chosen b).support (chosen_at outers chosen b).joined (chosen_at outers chosen b).place most at (get_or lists b d).items (empty b d (omega (arith, count)));
  }

  module _ (p : IsPart rays outers chosen part) (n : AreNearRays outers chosen part.table.supports near) where
    -- the indices ascend
    at_up : (i m : ℕ) → i < m → m < length near → at i < at m
    at_up i m less within =
        let z : Near = record { place = 0; clash = 0; two = 0 } in
        let range = (n.each m z within).in_range in
        let count = p.copied.count in
        p.separate.ascending (get_or near i z).place (get_or near m z).place 0 (n.ascending i m z less within) (omega (arith, range, count))

    -- each candidate is among the rays
    at_all : (b place : ℕ) → b < length chosen → IsCandidate rays.supports (chosen_at outers chosen b).support (chosen_at outers chosen b).joined (chosen_at outers chosen b).place most place →
        (i : ℕ) × (i < length near) × (at i ≡ place)
    at_all b place less candidate =
        let joined = (chosen_at outers chosen b).joined in
        let z : Near = record { place = 0; clash = 0; two = 0 } in
        let k = p.separate.complete b 0 less place candidate.in_range candidate.separate in
        let read = get_or_default part.places.items k.0 0 place k.1 ∙ k.2 in
        let same = p.copied.each k.0 0 k.1 ∙ ap (support_at rays.supports) read in
        let t = n.complete k.0 b (let count = p.copied.count in let inside = k.1 in omega (arith, count, inside)) less (λ meets. candidate.separate (subst (λ s. Meets s joined) same meets)) in
        let i = t.1 in
        (i.0, i.1, ap (λ (it : Near). get_or part.places.items it.place 0) (get_or_default near i.0 z t.0 i.1 ∙ i.2) ∙ ap (λ j. get_or part.places.items j 0) t.2 ∙ read)

    pub lists_all : (m : ℕ) (lists : List (Vec Candidate Global)) → AreListedTo m lists → length near ≤ m → AreAllCandidates rays.supports outers chosen most lists
    lists_all m lists h all = record {
      count = h.count;
      each = λ b d less. let it = chosen_at outers chosen b in let list = (get_or lists b d).items in
          unhit_candidates rays.supports it.support it.joined it.place most list
          (listed_all rays.supports it.support it.joined it.place most at m list (h.each b d less)
          (λ place candidate. let t = at_all b place less candidate in (t.0, (let inside = t.1 in omega (arith, inside, all)), t.2)));
    }

    module _ (table : List ℕ) (hits : AreHits rays outers chosen most table) (m : ℕ) (within : m < length near) (it : Near) (is : get_or near m (record { place = 0; clash = 0; two = 0 }) ≡ it) where
      abbrev pub place : ℕ
      place = get_or part.places.items it.place 0

      at_is : at m ≡ place
      at_is = ap (λ (r : Near). get_or part.places.items r.place 0) is

      near_is : IsNearOf outers chosen part.table.supports it
      near_is = subst (IsNearOf outers chosen part.table.supports) is (n.each m (record { place = 0; clash = 0; two = 0 }) within)

      same : support_at part.table.supports it.place ≡ support_at rays.supports place
      same = p.copied.each it.place 0 (let range = near_is.in_range in let count = p.copied.count in omega (arith, range, count))

      -- a ray whose bit is not set clashes or is hit
      unset_hit : (mark b : ℕ) → IsMarkOf hits.masks (support_at part.table.supports it.place) mark → b < length chosen → (bit_at it.clash b ≡ 1) ⊎ (bit_at (bit_and mark it.two) b ≡ 1) →
          IsCandidate rays.supports (chosen_at outers chosen b).support (chosen_at outers chosen b).joined (chosen_at outers chosen b).place most place →
          IsHit rays.supports (chosen_at outers chosen b).support (chosen_at outers chosen b).joined (chosen_at outers chosen b).place most place
      unset_hit mark b marked less either candidate = elim either [
        | inl clash ↦ absurd (candidate.separate (subst (λ s. Meets s (chosen_at outers chosen b).joined) same ((near_is.clash b less).0 clash)))
        | inr hit ↦ let both = common_bits mark it.two (bit_and mark it.two) b refl hit in let column = (marked b).0 both.0 in record {
          two = subst (λ s. HasTwoOutside s (chosen_at outers chosen b).support) same (near_is.two b less both.1);
          column = column.0;
          has = subst (λ s. HasColumn s column.0) same column.1;
          single = hits.singles column.0 b less column.2;
        }
      ]

      pub lists_next : (mark bits : ℕ) (old new : List (Vec Candidate Global)) → AreListedTo m old → IsMarkOf hits.masks (support_at part.table.supports it.place) mark → length chosen ≤ 64 → bits ≡ bit_or it.clash (bit_and mark it.two) → bits < 2 ^ 64 →
          ArePushedBelow rays.supports outers chosen most place (bit_not w64 bits) (length chosen) old new → AreListedTo (m + 1) new
      lists_next mark bits old new h marked short bits_are fits pushed = record {
        count = pushed.count ∙ h.count;
        each = λ b d less.
            let o = chosen_at outers chosen b in
            elim (cases_eq (bit_at (bit_not w64 bits) b) 1) [
              | inl one ↦ listed_next rays.supports o.support o.joined o.place most at m (get_or old b d).items (h.each b d less) (get_or new b d).items
                  (subst (λ k. IsCandidatePushed rays.supports o.support o.joined o.place most k (get_or old b d).items (get_or new b d).items) (sym at_is) (pushed.pushed b d less (omega (arith, h.count)) one))
                  (λ i earlier. at_up i m earlier within)
              | inr unset ↦ subst (λ (v : Vec Candidate Global). IsListedTo rays.supports o.support o.joined o.place most at (m + 1) v.items) (sym (pushed.kept b d unset))
                  (listed_skip rays.supports o.support o.joined o.place most at m (get_or old b d).items (h.each b d less)
                  (subst (λ k. IsCandidate rays.supports o.support o.joined o.place most k → IsHit rays.supports o.support o.joined o.place most k) (sym at_is)
                  (unset_hit mark b marked less (unset_either it.clash (bit_and mark it.two) bits b bits_are fits (omega arith) unset))))
            ];
      }

-- ---- the columns that alone are residuals

module _ (rays : Table) (outers : List Outer) (chosen : List ℕ) (most : ℕ) (singles : List (List Bool)) (s : AreAllSingles rays outers chosen most singles) where
  pub singles_wide : (columns : ℕ) → columns ≡ rays.columns → All (λ (single : List Bool). length single ≡ columns) singles
  singles_wide columns is k d within = ap length (get_or_default singles k d [] within) ∙ s.columns k (omega (arith, s.count)) ∙ sym is

  pub hits_of : (columns n : ℕ) (masks table : List ℕ) → columns ≡ rays.columns → AreSingleMasks singles columns n masks → AreByteMasks masks (8 * ((length masks + 63) / 64)) table → AreHits rays outers chosen most table
  hits_of columns n masks table is m bytes = record {
    masks = masks;
    bytes = subst (λ k. AreByteMasks masks (8 * ((k + 63) / 64)) table) (m.count ∙ is) bytes;
    singles = λ column b less set_is. s.each b less column ((m.each column b).0 set_is).1;
  }
