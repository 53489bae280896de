-- Rays among which the rays adjacent to some outer rays are looked for.
use Rattle.std.proofs.Common.{◌≡◌, ℕ, bit_and, ◌+◌, ◌/◌, ◌%◌, ◌<◌, ◌≤◌, inl, inr, Bool, true, eqb, List, [], ◌∷◌, ◌++◌, Contains, length, length-append, length-take, length-drop, take, drop, get_or, get_or-take, set, length-set, get_or-set_same, get_or-set_other, refl, subst, sym, ap, ◌∙◌, arith}
use Rattle.std.specs.Prelude.{None, IfSome}
use Rattle.std.specs.List.{All}
use Rattle.std.specs.Int.{bit_at}
use Rattle.std.proofs.lemmas.Bool.{cases_eq, cases_lt, eq-eqb, false≢true}
use Rattle.std.proofs.lemmas.List.{get_or_default, get_or_past, get_or_append_left, get_or-append-add, get_or-drop}
use Rattle.std.proofs.lemmas.Option.{IfSome_then}
use Rattle.std.proofs.lemmas.List.Elements.{All-push, All-contains, Contains-push, Contains-append_left}
use Rattle.std.proofs.lemmas.List.Quantifiers.{all_pairs_push}
use Rattle.std.proofs.lemmas.Nat.Bits.{bit_at-zero}
use Rattle.support_bits.specs.Columns.{HasColumn}
use Rattle.support_bits.specs.Words.{bit_of, AreWordsOf}
use Rattle.support_bits.proofs.WordLemmas.{is_one}
use Rattle.support_table.specs.Blocks.{KeepsCommon}
use Rattle.support_table.specs.Parts.{outer_at, AreAllBelow, AreCopied, HasAllAvoiding, ArePartRays, AreColumnsOf, AreCommonColumns, HasOneOf, AreLeft, IsPart, IsWithout, IsFoundFor, AreFoundFor}
use Rattle.support_table.specs.Residuals.{support_at, AreMinimalOf}
use Rattle.support_table.specs.declared.outer.Outer.{Outer}
use Rattle.support_table.specs.declared.part.Part.{Part}
use Rattle.support_table.specs.declared.parts.Found.{Found}
use Rattle.support_table.specs.Tables.{Table}
use Rattle.support_table.proofs.BlockLemmas.{common_bits}

same_at : (places : List ℕ) (k m d e : ℕ) → k ≡ m → m < length places → get_or places k d ≡ get_or places m e
same_at places k m d e is within = ap (λ j. get_or places j d) is ∙ get_or_default places m d e within

-- ---- columns that several outer rays clash with

kept_at : (words old new : List ℕ) (j : ℕ) → KeepsCommon 0 (length words) words old new → j < length words → get_or new j 0 ≡ bit_and (get_or old j 0) (get_or words j 0)
kept_at words old new j keeps less = let e : 0 + j ≡ j = omega arith in subst (λ n. get_or new n 0 ≡ bit_and (get_or old n 0) (get_or words j 0)) e (keeps.kept j less)

kept_bits : (words old new : List ℕ) → KeepsCommon 0 (length words) words old new → length words ≡ length old → (column : ℕ) → bit_of new column ≡ true → (bit_of old column ≡ true) × (bit_of words column ≡ true)
kept_bits words old new keeps long column is =
    let j = column / 64 in
    let i = column % 64 in
    elim (cases_lt j (length words)) [
      | inl less ↦ let both = common_bits (get_or old j 0) (get_or words j 0) (get_or new j 0) i (kept_at words old new j keeps less) (is_one _ _ is) in (eq-eqb _ 1 both.0, eq-eqb _ 1 both.1)
      | inr exceeded ↦ let count = keeps.count in
          let nothing : get_or new j 0 ≡ 0 = get_or_past new j 0 (omega (arith, count, long)) in
          absurd (false≢true (sym (ap (λ m. eqb (bit_at m i) 1) nothing ∙ ap (λ m. eqb m 1) (bit_at-zero i)) ∙ is))
    ]

-- the columns that each of the first n chosen outer rays clashes with
pub record AreCommonTo (outers : List Outer) (chosen : List ℕ) (n columns : ℕ) (words : List ℕ) : Type 0 where
  pub count : length words ≡ (columns + 63) / 64
  pub each : (i d : ℕ) → i < n → i < length chosen → AreColumnsOf (outer_at outers (get_or chosen i d)).joined words

module _ (outers : List Outer) (chosen : List ℕ) (columns : ℕ) where
  pub common_none : (words : List ℕ) → length words ≡ (columns + 63) / 64 → AreCommonTo outers chosen 0 columns words
  common_none words count = record { count = count; each = λ i d less. absurd (omega arith) }

  pub common_next : (n : ℕ) (old new words : List ℕ) (it : Outer) → AreCommonTo outers chosen n columns old → n < length chosen → outer_at outers (get_or chosen n 0) ≡ it → length it.joined ≡ columns → AreWordsOf it.joined words →
      KeepsCommon 0 (length words) words old new → AreCommonTo outers chosen (n + 1) columns new
  common_next n old new words it h within it_is wide of_words keeps =
      let long : length words ≡ length old = of_words.count ∙ ap (λ c. (c + 63) / 64) wide ∙ sym h.count in record {
        count = keeps.count ∙ h.count;
        each = λ i d less l column is. let both = kept_bits words old new keeps long column is in elim (cases_lt i n) [
          | inl early ↦ h.each i d early l column both.0
          | inr last ↦ let e : i ≡ n = omega arith in
              subst (λ (o : Outer). HasColumn o.joined column) (sym (ap (outer_at outers) (same_at chosen i n d 0 e within) ∙ it_is)) (sym (of_words.bits column) ∙ both.1)
        ];
      }

-- ---- rays that contain none of some columns

module _ (supports : List (List Bool)) (words places : List ℕ) where
  pub left_none : (left : List ℕ) → left ≡ [] → AreLeft supports words places 0 left
  left_none left none = let empty : length left ≡ 0 = ap length none in record {
    from = λ k d within. absurd (omega (arith, empty));
    ascending = λ _ k l d less within. absurd (omega (arith, empty));
    complete = λ k d less. absurd (omega arith);
  }

  still_from : (n : ℕ) (left : List ℕ) → AreLeft supports words places n left → All (λ place. (k : ℕ) × (k < n + 1) × (k < length places) × ((d : ℕ) → get_or places k d ≡ place)) left
  still_from n left h k d within = let s = h.from k d within in (s.0, omega (arith, s.1), s.2, s.3)

  pub left_push : (n : ℕ) (left : List ℕ) → AreLeft supports words places n left → n < length places → (p : ℕ) → ((d : ℕ) → get_or places n d ≡ p) → AreLeft supports words places (n + 1) (left ++ p ∷ [])
  left_push n left h within p is = record {
    from = All-push (λ place. (k : ℕ) × (k < n + 1) × (k < length places) × ((d : ℕ) → get_or places k d ≡ place)) left p (still_from n left h) (n, omega arith, within, is);
    ascending = λ up. all_pairs_push (λ one other. one < other) left p (h.ascending up)
        (λ k d inside. let s = h.from k d inside in let b = up s.0 n 0 s.1 within in let one = s.3 0 in let other = is 0 in omega arith);
    complete = λ k d less l none. elim (cases_lt k n) [
      | inl old ↦ Contains-append_left left (p ∷ []) (get_or places k d) (h.complete k d old l none)
      | inr last ↦ let e : k ≡ n = omega arith in subst (Contains (left ++ p ∷ [])) (sym (is d) ∙ ap (λ j. get_or places j d) (sym e)) (Contains-push left p)
    ];
  }

  pub left_skip : (n : ℕ) (left : List ℕ) → AreLeft supports words places n left → (p : ℕ) → ((d : ℕ) → get_or places n d ≡ p) → HasOneOf (support_at supports p) words → AreLeft supports words places (n + 1) left
  left_skip n left h p is has = record {
    from = still_from n left h;
    ascending = h.ascending;
    complete = λ k d less l none. elim (cases_lt k n) [
      | inl old ↦ h.complete k d old l none
      | inr last ↦ let e : k ≡ n = omega arith in absurd (none (subst (λ q. HasOneOf (support_at supports q) words) (sym (is d) ∙ ap (λ j. get_or places j d) (sym e)) has))
    ];
  }

-- ---- copies of supports

pub copied_none : (rays : Table) (places : List ℕ) (table : Table) → places ≡ [] → table ≡ record { columns = rays.columns; supports = [] } → AreCopied rays places table
copied_none rays places table none is = record {
  columns = ap (λ (t : Table). t.columns) is;
  count = ap (λ (t : Table). length t.supports) is ∙ sym (ap length none);
  each = λ k d within. let empty : length places ≡ 0 = ap length none in absurd (omega (arith, empty));
}

pub copied_push : (rays : Table) (places more : List ℕ) (table new : Table) (place : ℕ) (support : List Bool) → AreCopied rays places table → more ≡ places ++ place ∷ [] →
    new ≡ record { columns = table.columns; supports = table.supports ++ support ∷ [] } → support ≡ support_at rays.supports place → AreCopied rays more new
copied_push rays places more table new place support h more_is new_is support_is =
    let supports = table.supports in
    let all = supports ++ support ∷ [] in
    let n = length places in
    let count = h.count in
    let at_new : new.supports ≡ all = ap (λ (t : Table). t.supports) new_is in
    let longer : length more ≡ n + 1 = ap length more_is ∙ length-append places (place ∷ []) in record {
      columns = ap (λ (t : Table). t.columns) new_is ∙ h.columns;
      count = ap length at_new ∙ length-append supports (support ∷ []) ∙ ap (λ m. m + 1) count ∙ sym longer;
      each = λ k d within. ap (λ ss. support_at ss k) at_new ∙ elim (cases_lt k n) [
        | inl old ↦ get_or_append_left supports (support ∷ []) [] k (omega (arith, count)) ∙ h.each k d old ∙
            ap (support_at rays.supports) (sym (ap (λ ps. get_or ps k d) more_is ∙ get_or_append_left places (place ∷ []) d k old))
        | inr exceeded ↦ let at : k ≡ length supports + 0 = omega (arith, longer, count) in let at_place : k ≡ n + 0 = omega (arith, longer) in
            ap (λ j. get_or all j []) at ∙ get_or-append-add supports (support ∷ []) 0 [] ∙ support_is ∙
            ap (support_at rays.supports) (sym (ap (λ ps. get_or ps k d) more_is ∙ ap (λ j. get_or (places ++ place ∷ []) j d) at_place ∙ get_or-append-add places (place ∷ []) 0 d))
      ];
    }

-- ---- parts

pub chosen_push : (chosen part : List ℕ) (n p : ℕ) → All (Contains chosen) part → n < length chosen → ((d : ℕ) → get_or chosen n d ≡ p) → All (Contains chosen) (part ++ p ∷ [])
chosen_push chosen part n p h within is = All-push (Contains chosen) part p h (n, within, is p)

module _ (supports : List (List Bool)) (outers : List Outer) where
  -- some of the outer rays
  pub part_of : (chosen some places : List ℕ) → ArePartRays supports outers chosen places → All (Contains chosen) some → ArePartRays supports outers some places
  part_of chosen some places h from = record {
    are_outers = λ k d within. All-contains (λ j. j < length outers) chosen (get_or some k d) h.are_outers (from k d within);
    in_range = h.in_range;
    ascending = h.ascending;
    complete = λ k d within. All-contains (λ j. HasAllAvoiding supports (outer_at outers j).joined places) chosen (get_or some k d) h.complete (from k d within);
  }

  -- Theorem: rays that contain a column with which all outer rays clash may be left out
  pub part_left : (chosen places left words : List ℕ) (columns n : ℕ) → ArePartRays supports outers chosen places → AreCommonColumns outers chosen columns words → length places ≤ n → AreLeft supports words places n left → ArePartRays supports outers chosen left
  part_left chosen places left words columns n h common all l = record {
    are_outers = h.are_outers;
    in_range = λ k d within. let s = l.from k d within in subst (λ p. p < length supports) (s.3 0) (h.in_range s.0 0 s.2);
    ascending = l.ascending h.ascending;
    complete = λ k d within place inside separate.
        let c = h.complete k d within place inside separate in
        let free : ¬ HasOneOf (support_at supports place) words = (λ has. separate (has.0, has.1, common.each k d within has.0 has.2)) in
        subst (Contains left) c.2 (l.complete c.0 place (let less = c.1 in omega arith) c.1 (subst (λ p. ¬ HasOneOf (support_at supports p) words) (sym c.2) free));
  }

module _ (rays : Table) (outers : List Outer) where
  pub part_of_some : (chosen some : List ℕ) (part : Part) → IsPart rays outers chosen part → All (Contains chosen) some → IsPart rays outers some part
  part_of_some chosen some part h from = record {
    separate = part_of rays.supports outers chosen some part.places.items h.separate from;
    copied = h.copied;
  }

  -- Theorem: rays of a part that contain a column with which all outer rays clash may be left out
  pub part_without : (chosen words : List ℕ) (part left : Part) → IsPart rays outers chosen part → AreCommonColumns outers chosen rays.columns words → IsWithout rays words part.places.items (length part.places.items) left → IsPart rays outers chosen left
  part_without chosen words part left h common l = record {
    separate = part_left rays.supports outers chosen part.places.items left.places.items words rays.columns (length part.places.items) h.separate common (omega arith) l.left;
    copied = l.copied;
  }

-- ---- what was found

module _ (supports : List (List Bool)) (outers : List Outer) (selected : List Bool) (most : ℕ) where
  pub found_set : (found new : List Found) (k : ℕ) (it : Outer) (entry : Found) → AreFoundFor supports outers selected most found → k < length outers → outer_at outers k ≡ it → it.place < length supports →
      IfSome entry.places (λ list. AreMinimalOf supports it.support it.joined it.place most selected list.items) → new ≡ set found it.place entry → AreFoundFor supports outers selected most new
  found_set found new k it entry h within it_is inside minimal is = record {
    count = ap length is ∙ length-set found it.place entry ∙ h.count;
    each = λ place d less. elim (cases_eq place it.place) [
      | inl e ↦ subst (IsFoundFor supports outers selected most place) (sym (ap (λ fs. get_or fs place d) is ∙ ap (λ p. get_or (set found it.place entry) p d) e ∙ get_or-set_same found it.place entry d (omega (arith, inside, h.count)))) (rest place e)
      | inr other ↦ subst (IsFoundFor supports outers selected most place) (sym (ap (λ fs. get_or fs place d) is ∙ get_or-set_other found it.place place entry d other))
          (h.each place d (let n = ap length is ∙ length-set found it.place entry in omega arith))
    ];
  }
    where
      rest : (place : ℕ) → place ≡ it.place → IsFoundFor supports outers selected most place entry
      rest place e = subst (λ p. IsFoundFor supports outers selected most p entry) (sym e) (IfSome_then entry.places minimal
          (λ list m. (k, within, ap (λ (o : Outer). o.place) it_is, subst (λ (o : Outer). AreMinimalOf supports o.support o.joined it.place most selected list.items) (sym it_is) m)))

-- nothing was found yet
pub found_none : (supports : List (List Bool)) (outers : List Outer) (selected : List Bool) (most : ℕ) (found : List Found) → length found ≡ length supports → All (λ (it : Found). it.places ≡ None) found → AreFoundFor supports outers selected most found
found_none supports outers selected most found count none = record {
  count = count;
  each = λ place d less. subst (λ o. IfSome o (λ list. (k : ℕ) × (k < length outers) × ((outer_at outers k).place ≡ place) × AreMinimalOf supports (outer_at outers k).support (outer_at outers k).joined place most selected list.items))
      (sym (none place d less)) tt;
}

-- ---- all rays

pub below_none : AreAllBelow 0 []
below_none = record { count_is = refl; each = λ k d less. absurd (omega arith) }

pub below_push : (n : ℕ) (places : List ℕ) → AreAllBelow n places → AreAllBelow (n + 1) (places ++ n ∷ [])
below_push n places h = record {
  count_is = omega (arith, h.count_is, length-append places (n ∷ []));
  each = λ k d less. elim (cases_lt k n) [
    | inl old ↦ get_or_append_left places (n ∷ []) d k (omega (arith, h.count_is)) ∙ h.each k d old
    | inr exceeded ↦ let at : k ≡ length places + 0 = omega (arith, h.count_is) in let e : n ≡ k = omega arith in
        ap (λ j. get_or (places ++ n ∷ []) j d) at ∙ get_or-append-add places (n ∷ []) 0 d ∙ e
  ];
}

pub part_of_all : (supports : List (List Bool)) (outers : List Outer) (chosen places : List ℕ) → AreAllBelow (length outers) chosen → AreAllBelow (length supports) places → ArePartRays supports outers chosen places
part_of_all supports outers chosen places c p = record {
  are_outers = λ k d within. let n = c.count_is in let is = c.each k d (omega (arith, n)) in omega (arith, is, n);
  in_range = λ k d within. let n = p.count_is in let is = p.each k d (omega (arith, n)) in omega (arith, is, n);
  ascending = λ k l d less within. let n = p.count_is in let one = p.each k d (omega (arith, n)) in let other = p.each l d (omega (arith, n)) in omega (arith, one, other);
  complete = λ k d within place inside separate. (place, (let n = p.count_is in omega (arith, n)), p.each place place inside);
}

-- ---- some of the outer rays

pub chunk_from : (chosen part : List ℕ) (start count : ℕ) → part ≡ take count (drop start chosen) → start + count ≤ length chosen → All (Contains chosen) part
chunk_from chosen part start count is all k d less =
    let long : length part ≡ count = ap length is ∙ omega (arith, length-take count (drop start chosen), length-drop start chosen) in
    let within : start + k < length chosen = omega (arith, long) in
    let at : get_or part k d ≡ get_or chosen (start + k) d = ap (λ ks. get_or ks k d) is ∙ get_or-take count (drop start chosen) k d (omega (arith, long)) ∙ get_or-drop start chosen k d in
    (start + k, within, get_or_default chosen (start + k) (get_or part k d) d within ∙ sym at)
