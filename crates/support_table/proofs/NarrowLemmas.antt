-- Supports with some of their columns alone: those in use.
use Rattle.std.proofs.Common.{◌≡◌, ℕ, zero, suc, ◌+◌, ◌<◌, ◌≤◌, ◌||◌, inl, inr, Bool, true, false, cond, List, [], ◌∷◌, map, filter, length, get_or, refl, subst, sym, ap, ap₂, ◌∙◌, arith}
use Rattle.std.specs.List.{All, count_by, range_with_len}
use Rattle.std.proofs.lemmas.Bool.{cases_Bool, false≢true}
use Rattle.std.proofs.lemmas.List.{get_or-map, length-map}
use Rattle.std.proofs.lemmas.List.Elements.{All-filter, All-map}
use Rattle.std.proofs.lemmas.List.FromFn.{length-range_with_len, get_or-range_with_len}
use Rattle.std.proofs.lemmas.List.Sums.{length-filter, count_by-le-length}
use Rattle.std.proofs.lemmas.Option.{IfSome_then}
use Rattle.cone_laws.proofs.Counts.{count_cons}
use Rattle.support_bits.specs.Columns.{HasColumn, Meets}
use Rattle.support_bits.specs.Words.{bit_of}
use Rattle.support_table.specs.Counts.{columns_in_either}
use Rattle.support_table.specs.declared.outer.Outer.{Outer}
use Rattle.support_table.specs.declared.parts.Found.{Found}
use Rattle.support_table.specs.Narrow.{columns_of, narrowed, narrowed_outer, IsMarkedIn, AreColumnsBelow, AreUsed}
use Rattle.support_table.specs.Parts.{outer_at, AreOuters, AreFoundFor}
use Rattle.support_table.specs.Residuals.{support_at, IsResidualInside, IsCandidate, IsMinimal, AreMinimalOf}
use Rattle.support_table.specs.Tables.{Table}
use Rattle.support_table.proofs.SizeLemmas.{column_within}

-- ---- items that a filter keeps

-- the item has an index in the list
abbrev pub HasIndex : List ℕ → ℕ → Type 0
HasIndex xs x = (i : ℕ) × (i < length xs) × (get_or xs i 0 ≡ x)

kept_before : (b : Bool) (y x : ℕ) (ys : List ℕ) → HasIndex ys x → HasIndex (cond b (y ∷ ys) ys) x
kept_before true y x ys h = (suc h.0, (let l = h.1 in omega (arith, l)), h.2)
kept_before false y x ys h = h

kept_first : (b : Bool) (x : ℕ) (ys : List ℕ) → b ≡ true → HasIndex (cond b (x ∷ ys) ys) x
kept_first true x ys is = (0, omega arith, refl)
kept_first false x ys is = absurd (false≢true is)

pub kept : (p : ℕ → Bool) (xs : List ℕ) (k : ℕ) → k < length xs → p (get_or xs k 0) ≡ true → HasIndex (filter p xs) (get_or xs k 0)
kept p [] k less passes = absurd (omega arith)
kept p (x ∷ xs) zero less passes = kept_first (p x) x (filter p xs) passes
kept p (x ∷ xs) (suc k) less passes = kept_before (p x) x (get_or xs k 0) (filter p xs) (kept p xs k (omega arith) passes)

-- ---- counts over a filtered list

count_first : (q : ℕ → Bool) (b : Bool) (x : ℕ) (ys : List ℕ) → (q x ≡ true → b ≡ true) → count_by q (cond b (x ∷ ys) ys) ≡ cond (q x) 1 0 + count_by q ys
count_first q true x ys h = count_cons q x ys
count_first q false x ys h = elim (cases_Bool (q x)) [
  | inl passes ↦ absurd (false≢true (h passes))
  | inr fails ↦ let e = ap (λ b. cond {A = ℕ} b 1 0) fails in omega (arith, e)
]

count_kept : (p q : ℕ → Bool) (xs : List ℕ) → ((x : ℕ) → q x ≡ true → p x ≡ true) → count_by q (filter p xs) ≡ count_by q xs
count_kept p q [] h = refl
count_kept p q (x ∷ xs) h = let e = count_first q (p x) x (filter p xs) (h x) in omega (arith, e, count_kept p q xs h, count_cons q x xs)

count_indices : (g p : ℕ → Bool) (a : ℕ) (xs : List ℕ) → ((i : ℕ) → i < length xs → p (a + i) ≡ g (get_or xs i 0)) → count_by p (range_with_len a (length xs)) ≡ count_by g xs
count_indices g p a [] h = refl
count_indices g p a (x ∷ xs) h =
    let first : p a ≡ g x = (let e : a ≡ a + 0 = omega arith in ap p e) ∙ h 0 (omega arith) in
    let e : cond {A = ℕ} (p a) 1 0 ≡ cond (g x) 1 0 = ap (λ b. cond {A = ℕ} b 1 0) first in
    let rest = count_indices g p (a + 1) xs (λ i less. (let f : a + 1 + i ≡ a + suc i = omega arith in ap p f) ∙ h (suc i) (omega arith)) in
    omega (arith, e, rest, count_cons p a (range_with_len (a + 1) (length xs)), count_cons g x xs)

-- ---- supports

module _ (used : List ℕ) (s : List Bool) where
  narrowed_at : (i : ℕ) → i < length used → get_or (narrowed used s) i false ≡ get_or s (get_or used i 0) false
  narrowed_at i less = get_or-map (λ column. get_or s column false) used i 0 false less

  pub length-narrowed : length (narrowed used s) ≡ length used
  length-narrowed = length-map used (λ column. get_or s column false)

  -- a column of the narrowed support is the index of a column of the support
  from_index : (i : ℕ) → HasColumn (narrowed used s) i → (i < length used) × HasColumn s (get_or used i 0)
  from_index i has =
      let less : i < length used = (let l = column_within (narrowed used s) i has in omega (arith, l, length-narrowed)) in
      (less, sym (narrowed_at i less) ∙ has)

  to_index : (i : ℕ) → i < length used → HasColumn s (get_or used i 0) → HasColumn (narrowed used s) i
  to_index i less has = narrowed_at i less ∙ has

module _ (columns : ℕ) (words used : List ℕ) (is : used ≡ columns_of columns words) where
  -- a column that is marked has an index
  index_of : (s : List Bool) (column : ℕ) → IsMarkedIn columns words s → HasColumn s column → HasIndex used column
  index_of s column marked has =
      let m = marked column has in
      let at : get_or (range_with_len 0 columns) column 0 ≡ column = get_or-range_with_len 0 columns column 0 m.0 ∙ omega arith in
      let found = kept (bit_of words) (range_with_len 0 columns) column (let l = m.0 in omega (arith, l, length-range_with_len 0 columns)) (ap (bit_of words) at ∙ m.1) in
      subst (λ us. HasIndex us column) (sym is) (subst (HasIndex (columns_of columns words)) at found)

  at_index : (s : List Bool) (column : ℕ) → IsMarkedIn columns words s → HasColumn s column → (i : ℕ) × (i < length used) × (get_or used i 0 ≡ column) × HasColumn (narrowed used s) i
  at_index s column marked has =
      let h = index_of s column marked has in
      (h.0, h.1, h.2, to_index used s h.0 h.1 (subst (HasColumn s) (sym h.2) has))

  pub meets_narrowed : (s t : List Bool) → IsMarkedIn columns words s → Meets s t → Meets (narrowed used s) (narrowed used t)
  meets_narrowed s t marked m =
      let h = at_index s m.0 marked m.1 in
      (h.0, h.3, to_index used t h.0 h.1 (subst (HasColumn t) (sym h.2) m.2))

  pub meets_from_narrowed : (s t : List Bool) → Meets (narrowed used s) (narrowed used t) → Meets s t
  meets_from_narrowed s t m = (get_or used m.0 0, (from_index used s m.0 m.1).1, (from_index used t m.0 m.2).1)

  pub inside_narrowed : (o s t : List Bool) → IsResidualInside o s t → IsResidualInside (narrowed used o) (narrowed used s) (narrowed used t)
  inside_narrowed o s t inside i has lacks =
      let h = from_index used s i has in
      to_index used t i h.0 (inside (get_or used i 0) h.1 (λ in_o. lacks (to_index used o i h.0 in_o)))

  pub inside_from_narrowed : (o s t : List Bool) → IsMarkedIn columns words s → IsResidualInside (narrowed used o) (narrowed used s) (narrowed used t) → IsResidualInside o s t
  inside_from_narrowed o s t marked inside column has lacks =
      let h = at_index s column marked has in
      subst (HasColumn t) h.2 (from_index used t h.0 (inside h.0 h.3 (λ in_o. lacks (subst (HasColumn o) h.2 (from_index used o h.0 in_o).1)))).1

  -- a column of one of two supports is marked if both are
  either_marked : (a b : List Bool) (column : ℕ) → IsMarkedIn columns words a → IsMarkedIn columns words b → (get_or a column false || get_or b column false) ≡ true → bit_of words column ≡ true
  either_marked a b column a_marked b_marked e = elim (cases_Bool (get_or a column false)) [
    | inl has ↦ (a_marked column has).1
    | inr lacks ↦ (b_marked column (ap (λ x. x || get_or b column false) (sym lacks) ∙ e)).1
  ]

  pub either_narrowed : (a b : List Bool) → length a ≡ columns → IsMarkedIn columns words a → IsMarkedIn columns words b → columns_in_either (narrowed used a) (narrowed used b) ≡ columns_in_either a b
  either_narrowed a b wide a_marked b_marked =
      let g : ℕ → Bool = λ column. get_or a column false || get_or b column false in
      let p : ℕ → Bool = λ i. get_or (narrowed used a) i false || get_or (narrowed used b) i false in
      ap (λ n. count_by p (range_with_len 0 n)) (length-narrowed used a)
      ∙ count_indices g p 0 used (λ i less. (let e : 0 + i ≡ i = omega arith in ap p e) ∙ ap₂ (λ x y. x || y) (narrowed_at used a i less) (narrowed_at used b i less))
      ∙ ap (count_by g) is
      ∙ count_kept (bit_of words) g (range_with_len 0 columns) (λ column e. either_marked a b column a_marked b_marked e)
      ∙ ap (λ n. count_by g (range_with_len 0 n)) (sym wide)

  -- ---- candidates

  module _ (supports : List (List Bool)) (marked : All (IsMarkedIn columns words) supports) (o j : List Bool) (wide : length o ≡ columns) (o_marked : IsMarkedIn columns words o) (own most : ℕ) where
    abbrev narrowed_supports : List (List Bool)
    narrowed_supports = map (narrowed used) supports

    at : (place : ℕ) → place < length supports → support_at narrowed_supports place ≡ narrowed used (support_at supports place)
    at place less = get_or-map (narrowed used) supports place [] [] less

    fewer : (place : ℕ) → place < length narrowed_supports → place < length supports
    fewer place less = omega (arith, less, length-map supports (narrowed used))

    to_candidate : (place : ℕ) → IsCandidate supports o j own most place → IsCandidate narrowed_supports (narrowed used o) (narrowed used j) own most place
    to_candidate place h = let less = h.in_range in record {
      in_range = omega (arith, less, length-map supports (narrowed used));
      other = h.other;
      separate = λ meets. h.separate (meets_from_narrowed (support_at supports place) j (subst (λ s. Meets s (narrowed used j)) (at place less) meets));
      near = subst (λ n. n ≤ most) (sym (ap (columns_in_either (narrowed used o)) (at place less) ∙ either_narrowed o (support_at supports place) wide o_marked (marked place [] less))) h.near;
    }

    from_candidate : (place : ℕ) → IsCandidate narrowed_supports (narrowed used o) (narrowed used j) own most place → IsCandidate supports o j own most place
    from_candidate place h = let less = fewer place h.in_range in record {
      in_range = less;
      other = h.other;
      separate = λ meets. h.separate (subst (λ s. Meets s (narrowed used j)) (sym (at place less)) (meets_narrowed (support_at supports place) j (marked place [] less) meets));
      near = subst (λ n. n ≤ most) (ap (columns_in_either (narrowed used o)) (at place less) ∙ either_narrowed o (support_at supports place) wide o_marked (marked place [] less)) h.near;
    }

    to_minimal : (place : ℕ) → IsMinimal supports o j own most place → IsMinimal narrowed_supports (narrowed used o) (narrowed used j) own most place
    to_minimal place h = record {
      candidate = to_candidate place h.candidate;
      minimal = λ k candidate inside.
          let c = from_candidate k candidate in
          h.minimal k c (inside_from_narrowed o (support_at supports k) (support_at supports place) (marked k [] c.in_range)
          (subst (λ s. IsResidualInside (narrowed used o) s (narrowed used (support_at supports place))) (at k c.in_range)
          (subst (IsResidualInside (narrowed used o) (support_at narrowed_supports k)) (at place h.candidate.in_range) inside)));
    }

    from_minimal : (place : ℕ) → IsMinimal narrowed_supports (narrowed used o) (narrowed used j) own most place → IsMinimal supports o j own most place
    from_minimal place h = let c = from_candidate place h.candidate in record {
      candidate = c;
      minimal = λ k candidate inside. h.minimal k (to_candidate k candidate)
          (subst (λ s. IsResidualInside (narrowed used o) s (support_at narrowed_supports place)) (sym (at k candidate.in_range))
          (subst (IsResidualInside (narrowed used o) (narrowed used (support_at supports k))) (sym (at place c.in_range))
          (inside_narrowed o (support_at supports k) (support_at supports place) inside)));
    }

    pub minimal_from_narrowed : (selected : List Bool) (places : List ℕ) → AreMinimalOf narrowed_supports (narrowed used o) (narrowed used j) own most selected places → AreMinimalOf supports o j own most selected places
    minimal_from_narrowed selected places h = record {
      each = λ k d less. let e = h.each k d less in (from_minimal (get_or places k d) e.0, e.1);
      ascending = h.ascending;
      complete = λ place minimal is_selected. h.complete place (to_minimal place minimal) is_selected;
    }

-- ---- a search

used_within : (columns : ℕ) (words used : List ℕ) → used ≡ columns_of columns words → AreColumnsBelow columns used
used_within columns words used is = subst (AreColumnsBelow columns) (sym is) record {
  count = omega (arith, length-filter (bit_of words) (range_with_len 0 columns), count_by-le-length (bit_of words) (range_with_len 0 columns), length-range_with_len 0 columns);
  each = All-filter (bit_of words) (λ column. column < columns) (range_with_len 0 columns)
      (λ k d less. let long = length-range_with_len 0 columns in omega (arith, less, long, get_or-range_with_len 0 columns k d (omega (arith, less, long))));
}

module _ (rays : Table) (outers : List Outer) (used : List ℕ) where
  pub used_below : AreUsed rays outers used → AreColumnsBelow rays.columns used
  used_below h = used_within rays.columns h.words used h.is

  -- the narrowed outer rays are such of the narrowed rays
  pub outers_narrowed : AreOuters rays.columns (length rays.supports) outers → AreOuters (length used) (length (map (narrowed used) rays.supports)) (map (narrowed_outer used) outers)
  outers_narrowed h = record {
    places = All-map (λ (it : Outer). it.place < length (map (narrowed used) rays.supports)) (narrowed_outer used) outers (λ k d less. let p = h.places k d less in omega (arith, p, length-map rays.supports (narrowed used)));
    supports = All-map (λ (it : Outer). length it.support ≡ length used) (narrowed_outer used) outers (λ k d less. length-narrowed used (get_or outers k d).support);
    joined = All-map (λ (it : Outer). length it.joined ≡ length used) (narrowed_outer used) outers (λ k d less. length-narrowed used (get_or outers k d).joined);
  }

  -- what is right of the narrowed rays is right of the rays
  pub found_from_narrowed : AreUsed rays outers used → AreOuters rays.columns (length rays.supports) outers → (selected : List Bool) (most : ℕ) (found : List Found) →
      AreFoundFor (map (narrowed used) rays.supports) (map (narrowed_outer used) outers) selected most found → AreFoundFor rays.supports outers selected most found
  found_from_narrowed u o selected most found h = record {
    count = h.count ∙ length-map rays.supports (narrowed used);
    each = λ place d less. IfSome_then (get_or found place d).places (h.each place d less) (λ list f. one place list.items f);
  }
    where
      none : Outer
      none = record { place = 0; support = []; joined = [] }

      one : (place : ℕ) (list : List ℕ) →
          ((k : ℕ) × (k < length (map (narrowed_outer used) outers)) × ((outer_at (map (narrowed_outer used) outers) k).place ≡ place) ×
          AreMinimalOf (map (narrowed used) rays.supports) (outer_at (map (narrowed_outer used) outers) k).support (outer_at (map (narrowed_outer used) outers) k).joined place most selected list) →
          (k : ℕ) × (k < length outers) × ((outer_at outers k).place ≡ place) × AreMinimalOf rays.supports (outer_at outers k).support (outer_at outers k).joined place most selected list
      one place list f =
          let k = f.0 in
          let within : k < length outers = (let l = f.1 in omega (arith, l, length-map outers (narrowed_outer used))) in
          let at : outer_at (map (narrowed_outer used) outers) k ≡ narrowed_outer used (outer_at outers k) = get_or-map (narrowed_outer used) outers k none none within in
          let it = outer_at outers k in (
            k,
            within,
            sym (ap (λ (x : Outer). x.place) at) ∙ f.2,
            minimal_from_narrowed rays.columns u.words used u.is rays.supports u.rays_marked it.support it.joined (o.supports k none within) (u.outers_marked k none within) place most selected list
                (subst (λ (x : Outer). AreMinimalOf (map (narrowed used) rays.supports) x.support x.joined place most selected list) at f.3),
          )
