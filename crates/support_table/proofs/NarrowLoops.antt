-- The columns in use, and supports with these alone, one after another.
use Rattle.std.proofs.Common.{◌≡◌, ℕ, ◌+◌, ◌/◌, ◌<◌, ◌≤◌, inl, inr, Bool, true, false, cond, List, [], ◌∷◌, ◌++◌, map, filter, length, get_or, set, length-set, get_or-set_same, get_or-set_other, replicate, take, take_all, refl, subst, sym, ap, ap₂, ◌∙◌, arith}
use Rattle.std.specs.List.{All, range_with_len}
use Rattle.std.proofs.lemmas.Bool.{cases_eq, cases_lt, or_left, or_right}
use Rattle.std.proofs.lemmas.List.{ext_get_or, get_or-map, get_or-replicate, get_or_default, get_or_past, length-map, length-replicate, map-id, map_more, append-nil}
use Rattle.std.proofs.lemmas.List.Elements.{filter-append}
use Rattle.std.proofs.lemmas.List.FromFn.{map-range_with_len_more}
use Rattle.support_bits.specs.Words.{bit_of, AreEither, AreWordsOf}
use Rattle.support_table.specs.declared.outer.Outer.{Outer}
use Rattle.support_table.specs.Narrow.{columns_of, narrowed, narrowed_table, IsMarkedIn, AreColumnsMarked}
use Rattle.support_table.specs.Parts.{outer_at}
use Rattle.support_table.specs.Residuals.{support_at}
use Rattle.support_table.specs.Tables.{Table}
use Rattle.support_table.proofs.SizeLemmas.{column_within}

-- ---- marks

still_marked : (columns : ℕ) (old added new : List ℕ) (s : List Bool) → AreEither old added new → IsMarkedIn columns old s → IsMarkedIn columns new s
still_marked columns old added new s either h column has = let m = h column has in (m.0, either.bits column ∙ or_left (bit_of old column) (bit_of added column) m.1)

now_marked : (columns : ℕ) (old added new : List ℕ) (s : List Bool) → AreEither old added new → AreWordsOf s added → length s ≡ columns → IsMarkedIn columns new s
now_marked columns old added new s either of wide column has = (
  (let l = column_within s column has in omega (arith, l, wide)),
  either.bits column ∙ or_right (bit_of old column) (bit_of added column) (of.bits column ∙ has),
)

-- the columns of the first n sets are marked
pub record AreMarkedBelow (columns : ℕ) (sets : ℕ → List Bool) (n : ℕ) (words : List ℕ) : Type 0 where
  pub count : length words ≡ (columns + 63) / 64
  pub each : (k : ℕ) → k < n → IsMarkedIn columns words (sets k)

module _ (columns : ℕ) (sets : ℕ → List Bool) where
  pub marked_none : (words : List ℕ) → length words ≡ (columns + 63) / 64 → AreMarkedBelow columns sets 0 words
  marked_none words count = record { count = count; each = λ k less. absurd (omega arith) }

  pub marked_more : (n : ℕ) (old added new : List ℕ) → AreMarkedBelow columns sets n old → AreEither old added new → AreWordsOf (sets n) added → length (sets n) ≡ columns → AreMarkedBelow columns sets (n + 1) new
  marked_more n old added new h either of wide = record {
    count = either.count ∙ h.count;
    each = λ k less. elim (cases_lt k n) [
      | inl early ↦ still_marked columns old added new (sets k) either (h.each k early)
      | inr last ↦ let e : n ≡ k = omega arith in subst (λ i. IsMarkedIn columns new (sets i)) e (now_marked columns old added new (sets n) either of wide)
    ];
  }

-- the marks of rays stay
pub rays_still_marked : (columns : ℕ) (supports : List (List Bool)) (old added new : List ℕ) → AreColumnsMarked columns supports old → AreEither old added new → AreColumnsMarked columns supports new
rays_still_marked columns supports old added new h either = record {
  count = either.count ∙ h.count;
  each = λ k d less. still_marked columns old added new (get_or supports k d) either (h.each k d less);
}

pub rays_marked : (columns n : ℕ) (supports : List (List Bool)) (words : List ℕ) → AreMarkedBelow columns (support_at supports) n words → length supports ≤ n → AreColumnsMarked columns supports words
rays_marked columns n supports words h all = record {
  count = h.count;
  each = λ k d less. subst (IsMarkedIn columns words) (get_or_default supports k [] d less) (h.each k (omega arith));
}

pub outers_marked : (columns n : ℕ) (outers : List Outer) (words : List ℕ) → AreMarkedBelow columns (λ k. (outer_at outers k).support) n words → length outers ≤ n → All (λ (it : Outer). IsMarkedIn columns words it.support) outers
outers_marked columns n outers words h all k d less =
    subst (λ (it : Outer). IsMarkedIn columns words it.support) (get_or_default outers k (record { place = 0; support = []; joined = [] }) d less) (h.each k (omega arith))

-- ---- the columns that are marked

module _ (words : List ℕ) where
  range_more : (n : ℕ) → range_with_len 0 (n + 1) ≡ range_with_len 0 n ++ n ∷ []
  range_more n = sym (map-id (range_with_len 0 (n + 1))) ∙ map-range_with_len_more (λ k. k) 0 n n (omega arith) ∙ ap (λ ks. ks ++ n ∷ []) (map-id (range_with_len 0 n))

  columns_more : (n : ℕ) → columns_of (n + 1) words ≡ columns_of n words ++ cond (bit_of words n) (n ∷ []) []
  columns_more n = ap (filter (bit_of words)) (range_more n) ∙ filter-append (bit_of words) (range_with_len 0 n) (n ∷ [])

  pub columns_push : (n : ℕ) → bit_of words n ≡ true → columns_of n words ++ n ∷ [] ≡ columns_of (n + 1) words
  columns_push n is = sym (columns_more n ∙ ap (λ b. columns_of n words ++ cond b (n ∷ []) []) is)

  pub columns_skip : (n : ℕ) → bit_of words n ≡ false → columns_of n words ≡ columns_of (n + 1) words
  columns_skip n is = sym (columns_more n ∙ ap (λ b. columns_of n words ++ cond b (n ∷ []) []) is ∙ append-nil (columns_of n words))

-- ---- a support with some of its columns alone

pub narrowed_from_words : (words used : List ℕ) (s : List Bool) → AreWordsOf s words → map (bit_of words) used ≡ narrowed used s
narrowed_from_words words [] s of = refl
narrowed_from_words words (column ∷ used) s of = ap₂ (λ b bs. b ∷ bs) (of.bits column) (narrowed_from_words words used s of)

module _ (words used : List ℕ) where
  -- the first n columns are copied
  pub record IsNarrowedBelow (n : ℕ) (support : List Bool) : Type 0 where
    pub count : length support ≡ length used
    pub each : (i : ℕ) → i < n → get_or support i false ≡ bit_of words (get_or used i 0)
    pub after : (i : ℕ) → n ≤ i → get_or support i false ≡ false

  pub narrowed_none : (support : List Bool) → support ≡ replicate (length used) false → IsNarrowedBelow 0 support
  narrowed_none support is = record {
    count = ap length is ∙ length-replicate (length used) false;
    each = λ i less. absurd (omega arith);
    after = λ i more. ap (λ s. get_or s i false) is ∙ elim (cases_lt i (length used)) [
      | inl less ↦ get_or-replicate (length used) i false false less
      | inr exceeded ↦ get_or_past (replicate (length used) false) i false (omega (arith, exceeded, length-replicate (length used) false))
    ];
  }

  pub narrowed_set : (n : ℕ) (support : List Bool) → IsNarrowedBelow n support → n < length used → bit_of words (get_or used n 0) ≡ true → IsNarrowedBelow (n + 1) (set support n true)
  narrowed_set n support h within is = record {
    count = length-set support n true ∙ h.count;
    each = λ i less. elim (cases_eq i n) [
      | inl e ↦ ap (λ k. get_or (set support n true) k false) e ∙ get_or-set_same support n true false (let c = h.count in omega (arith, c, within)) ∙ sym (ap (λ k. bit_of words (get_or used k 0)) e ∙ is)
      | inr other ↦ get_or-set_other support n i true false other ∙ h.each i (omega arith)
    ];
    after = λ i more. get_or-set_other support n i true false (λ e. omega (arith, e, more)) ∙ h.after i (omega arith);
  }

  pub narrowed_skip : (n : ℕ) (support : List Bool) → IsNarrowedBelow n support → bit_of words (get_or used n 0) ≡ false → IsNarrowedBelow (n + 1) support
  narrowed_skip n support h is = record {
    count = h.count;
    each = λ i less. elim (cases_lt i n) [
      | inl early ↦ h.each i early
      | inr last ↦ let e : n ≡ i = omega arith in h.after i (omega arith) ∙ sym (ap (λ k. bit_of words (get_or used k 0)) (sym e) ∙ is)
    ];
    after = λ i more. h.after i (omega arith);
  }

  pub narrowed_all : (n : ℕ) (support : List Bool) → IsNarrowedBelow n support → length used ≤ n → support ≡ map (bit_of words) used
  narrowed_all n support h all =
      ext_get_or false support (map (bit_of words) used) (h.count ∙ sym (length-map used (bit_of words)))
      (λ i less. let within : i < length used = (let c = h.count in omega (arith, c, less)) in h.each i (omega arith) ∙ sym (get_or-map (bit_of words) used i 0 false within))

-- ---- a table of such supports

-- the table of the first n rays
abbrev pub narrowed_below : List ℕ → Table → ℕ → Table
narrowed_below used rays n = record { columns = length used; supports = map (narrowed used) (take n rays.supports) }

pub table_more : (used : List ℕ) (rays : Table) (n : ℕ) (old new : Table) (support : List Bool) → old ≡ narrowed_below used rays n → n < length rays.supports → support ≡ narrowed used (support_at rays.supports n) →
    new ≡ record { columns = old.columns; supports = old.supports ++ support ∷ [] } → new ≡ narrowed_below used rays (n + 1)
table_more used rays n old new support is within support_is pushed =
    pushed ∙ ap₂ (λ (t : Table) (s : List Bool). record { columns = t.columns; supports = t.supports ++ s ∷ [] }) is support_is
    ∙ ap (λ ss. record { columns = length used; supports = ss }) (sym (map_more (narrowed used) rays.supports n [] within))

pub table_all : (used : List ℕ) (rays : Table) (n : ℕ) (table : Table) → table ≡ narrowed_below used rays n → length rays.supports ≤ n → table ≡ narrowed_table used rays
table_all used rays n table is all = is ∙ ap (λ ss. record { columns = length used; supports = map (narrowed used) ss }) (take_all n rays.supports all)
