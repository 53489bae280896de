-- The rays of a part that do not clash with all outer rays of a chunk.
use Rattle.std.proofs.Common.{◌≡◌, ℕ, ◌+◌, ◌-◌, ◌*◌, ◌/◌, ◌%◌, ◌^◌, ◌<◌, ◌≤◌, inl, inr, Bool, List, [], ◌∷◌, ◌++◌, length, replicate, bit_and, refl, subst, sym, ap, ◌∙◌, arith}
use Rattle.std.specs.Prelude.{None, Some}
use Rattle.std.specs.Int.{bit_at}
use Rattle.std.specs.List.{All}
use Rattle.std.proofs.Math.Pow.{pow-lt}
use Rattle.std.proofs.lemmas.Bool.{cases_lt}
use Rattle.std.proofs.lemmas.List.Elements.{All-push, Contains-push, Contains-append_left}
use Rattle.std.proofs.lemmas.List.Quantifiers.{all_pairs_push}
use Rattle.std.proofs.lemmas.Nat.Bits.{bit_at-lt, bit_at_and, bit_at_ones, bit_at_ones_above}
use Rattle.std.proofs.lemmas.Option.{none-some}
use Rattle.support_bits.specs.Columns.{HasColumn}
use Rattle.support_bits.specs.Words.{AreWordsOf, HaveCommon}
use Rattle.support_table.specs.declared.near.Near.{Near}
use Rattle.support_table.specs.declared.outer.Outer.{Outer}
use Rattle.support_table.specs.Masks.{IsBitSet, IsOutsideAdded, IsMarkOf}
use Rattle.support_table.specs.Outside.{HaveTwo}
use Rattle.support_table.specs.Near.{chosen_at, AreClashMasks, AreFullColumns, AreLackMasks, IsNearBy, AreNearBy, AreNearRays}
use Rattle.support_table.specs.Residuals.{support_at}
use Rattle.support_table.specs.Parts.{AreCommonColumns}
use Rattle.support_table.proofs.BitLemmas.{common_marks}
use Rattle.support_table.proofs.MaskLemmas.{masks_none}

-- ---- the lowest bits

pub ones_below : (count b : ℕ) → (bit_at (2 ^ count - 1) b ≡ 1 → b < count) × (b < count → bit_at (2 ^ count - 1) b ≡ 1)
ones_below count b = (
  λ one. elim (cases_lt b count) [
    | inl less ↦ less
    | inr exceeded ↦ absurd (let z = bit_at_ones_above count b exceeded in omega (arith, z, one))
  ],
  λ less. bit_at_ones count b less,
)

pub shifted_one : (count : ℕ) → count < 64 → 1 * 2 ^ count % 2 ^ 64 ≡ 2 ^ count
shifted_one count less = let fits : 2 ^ count < 2 ^ 64 = pow-lt less in omega (arith, fits)

-- if all bits of low are set in a mark, so is each of them
pub low_is_set : (mark low b : ℕ) → bit_and mark low ≡ low → bit_at low b ≡ 1 → bit_at mark b ≡ 1
low_is_set mark low b is one = let e = bit_at_and mark low b in let same = ap (λ n. bit_at n b) is in let l = bit_at-lt mark b in omega (arith, e, same, one, l)

-- the number of bytes of a support, by its columns and by its words
pub byte_count : (support : List Bool) (words : List ℕ) (columns : ℕ) → AreWordsOf support words → length support ≡ columns → 8 * ((columns + 63) / 64) ≡ 8 * length words
byte_count support words columns of wide = sym (ap (λ n. 8 * n) (of.count ∙ ap (λ n. (n + 63) / 64) wide))

-- ---- the columns that outer rays lack

module _ (outers : List Outer) (chosen : List ℕ) (columns : ℕ) where
  pub lack_none : (masks : List ℕ) → masks ≡ replicate columns 0 → AreLackMasks outers chosen columns 0 masks
  lack_none masks is =
      let none = masks_none (λ _. []) columns masks is in
      record {
        count = none.count;
        each = λ column b one. absurd (let l = ((none.each column b).0 one).0 in omega (arith, l));
      }

  pub lack_next : (n : ℕ) (masks new : List ℕ) (support : List Bool) → AreLackMasks outers chosen columns n masks → (chosen_at outers chosen n).support ≡ support → IsOutsideAdded support n masks new → AreLackMasks outers chosen columns (n + 1) new
  lack_next n masks new support h is add = record {
    count = add.count ∙ h.count;
    each = λ column b one. elim (add.found column b one) [
      | inl old ↦ let f = h.each column b old in ((let l = f.0 in omega (arith, l)), f.1)
      | inr last ↦ (
        (let e = last.0 in omega (arith, e)),
        λ has. last.1 (subst (λ s. HasColumn s column) (ap (λ j. (chosen_at outers chosen j).support) last.0 ∙ is) has),
      )
    ];
  }

-- ---- ray by ray

module _ (clashing lacking : List ℕ) (supports : List (List Bool)) (count : ℕ) where
  pub near_if_all : (place : ℕ) → ((b : ℕ) → b < count → b < 64 → (column : ℕ) × HasColumn (support_at supports place) column × IsBitSet clashing column b) → IsNearBy clashing lacking supports count place None
  near_if_all place all = record { none = λ _. all; some = tt }

  pub near_if_some : (place : ℕ) (it : Near) → it.place ≡ place → IsMarkOf clashing (support_at supports place) it.clash → HaveTwo lacking (support_at supports place) it.two → IsNearBy clashing lacking supports count place (Some it)
  near_if_some place it is mark two = record { none = λ none. absurd (none-some it (sym none)); some = (is, mark, two) }

  -- Theorem: a ray that contains a column whose mask has all bits set has all bits of its mark set
  pub near_if_common : (place : ℕ) (words common : List ℕ) → AreWordsOf (support_at supports place) words → AreFullColumns clashing count common → HaveCommon words common → IsNearBy clashing lacking supports count place None
  near_if_common place words common of full has = let t = (common_marks (support_at supports place) words common of).0 has in
      near_if_all place (λ b less _. (t.0, t.1, full t.0 b t.2 less))

  pub near_none : AreNearBy clashing lacking supports count 0 []
  near_none = record {
    below = λ k d within. absurd (omega arith);
    marks = λ k d within. absurd (omega arith);
    twos = λ k d within. absurd (omega arith);
    ascending = λ i j d less within. absurd (omega arith);
    complete = λ place b less. absurd (omega arith);
  }

  module _ (n : ℕ) (near : List Near) (h : AreNearBy clashing lacking supports count n near) where
    still_below : All (λ (it : Near). it.place < n + 1) near
    still_below k d within = let less = h.below k d within in omega (arith, less)

    pub near_push : (it : Near) → IsNearBy clashing lacking supports count n (Some it) → AreNearBy clashing lacking supports count (n + 1) (near ++ it ∷ [])
    near_push it by = record {
      below = All-push (λ (it : Near). it.place < n + 1) near it still_below (let e = by.some.0 in omega (arith, e));
      marks = All-push (λ (it : Near). IsMarkOf clashing (support_at supports it.place) it.clash) near it h.marks
          (subst (λ k. IsMarkOf clashing (support_at supports k) it.clash) (sym by.some.0) by.some.1);
      twos = All-push (λ (it : Near). HaveTwo lacking (support_at supports it.place) it.two) near it h.twos
          (subst (λ k. HaveTwo lacking (support_at supports k) it.two) (sym by.some.0) by.some.2);
      ascending = all_pairs_push (λ (one other : Near). one.place < other.place) near it h.ascending
          (λ k d within. let less = h.below k d within in let e = by.some.0 in omega (arith, less, e));
      complete = λ place b less in_range fits none. elim (cases_lt place n) [
        | inl old ↦ let t = h.complete place b old in_range fits none in (t.0, Contains-append_left near (it ∷ []) t.0 t.1, t.2)
        | inr last ↦ (it, Contains-push near it, (let e = by.some.0 in omega (arith, e, less, last)))
      ];
    }

    pub near_skip : IsNearBy clashing lacking supports count n None → AreNearBy clashing lacking supports count (n + 1) near
    near_skip by = record {
      below = still_below;
      marks = h.marks;
      twos = h.twos;
      ascending = h.ascending;
      complete = λ place b less in_range fits none. elim (cases_lt place n) [
        | inl old ↦ h.complete place b old in_range fits none
        | inr last ↦ let e : n ≡ place = omega (arith, less, last) in
            absurd (none (subst (λ k. (column : ℕ) × HasColumn (support_at supports k) column × IsBitSet clashing column b) e (by.none refl b in_range fits)))
      ];
    }

-- what was made of masks of all columns, with its size by the number of columns
pub table_for : {T : Type 0} (P : List ℕ → ℕ → List T → Type 0) (masks read : List ℕ) (table slice : List T) (columns : ℕ) → read ≡ masks → slice ≡ table → length masks ≡ columns → P read (8 * ((length read + 63) / 64)) table →
    P masks (8 * ((columns + 63) / 64)) slice
table_for P masks read table slice columns read_is slice_is count h =
    subst (P masks (8 * ((columns + 63) / 64))) (sym slice_is) (subst (λ n. P masks (8 * ((n + 63) / 64)) table) count (subst (λ ms. P ms (8 * ((length ms + 63) / 64)) table) read_is h))

-- a column with which all outer rays clash has all of their bits set in its mask
pub common_full : (outers : List Outer) (chosen clashing words : List ℕ) (columns : ℕ) → AreClashMasks outers chosen columns (length chosen) clashing → AreCommonColumns outers chosen columns words → AreFullColumns clashing (length chosen) words
common_full outers chosen clashing words columns c common column b is less = (c.each column b).1 (less, common.each b 0 less column is)

-- Theorem: a ray clashes with an outer ray if and only if one of its columns does
pub near_rays_of : (outers : List Outer) (chosen clashing lacking : List ℕ) (columns : ℕ) (supports : List (List Bool)) (near : List Near) → length chosen ≤ 64 →
    AreClashMasks outers chosen columns (length chosen) clashing → AreLackMasks outers chosen columns (length chosen) lacking → AreNearBy clashing lacking supports (length chosen) (length supports) near →
    AreNearRays outers chosen supports near
near_rays_of outers chosen clashing lacking columns supports near short c l h = record {
  each = λ k d within. record {
    in_range = h.below k d within;
    clash = λ b less. (
      λ one. (let t = (h.marks k d within b).0 one in (t.0, t.1, ((c.each t.0 b).0 t.2).1)),
      λ meets. (h.marks k d within b).1 (meets.0, meets.1, (c.each meets.0 b).1 (less, meets.2)),
    );
    two = λ b less one. let t = h.twos k d within b one in record {
      one = t.0;
      other = t.1;
      less = t.2;
      has_one = t.3;
      has_other = t.4;
      lacks_one = (l.each t.0 b t.5).1;
      lacks_other = (l.each t.1 b t.6).1;
    };
  };
  ascending = h.ascending;
  complete = λ place b less in_range none. h.complete place b less in_range (omega (arith, in_range, short)) (λ t. none (t.0, t.1, ((c.each t.0 b).0 t.2).1));
}
