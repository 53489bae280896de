-- Lists with the same elements: one has the entries of the other in another order; two such lists that are sorted are
-- equal.
use Rattle.std.proofs.Common.{◌≡◌, ◌≢◌, ℕ, zero, suc, ◌<◌, ◌≤◌, inl, inr, Bool, false, List, [], ◌∷◌, length, map, swap, slice_set, slice_index_or, get_or, AllPairs, Contains, IsPermutation, subst, sym, ap, ap₂, refl, ◌∙◌, arith, ext_get_or}
use Rattle.std.specs.Prelude.{slice_index, ◌-◌, if◌then◌else◌, ◌==◌}
use Rattle.std.proofs.Common.{subst₂}
use Rattle.std.proofs.lemmas.Bool.{cases_order}
use Rattle.std.proofs.lemmas.Bool.{cases_eq}
use Rattle.std.proofs.lemmas.List.{get_or-map, length-map}
use Rattle.std.proofs.lemmas.List.FromFn.{length-range_with_len, get_or-range_with_len}
use Rattle.std.proofs.lemmas.List.Sorted.{IsPermutation-refl, IsPermutation-sym, IsPermutation-trans, IsPermutation-swap, IsPermutation-keeps, IsPermutation-map, length_permutation, Contains-permutation}
use Rattle.table_definitions.specs.Lists.{below, is_list_before}
use Rattle.table_definitions.proofs.Bijections.{onto, IsDistinct-from_before}
use Rattle.table_definitions.proofs.Carried.{permutation_below, permutation_apart}
use Rattle.table_definitions.proofs.ListLaws.{not_before_itself}
use Rattle.signature_laws.proofs.Uniqueness.{neither_before}
use Rattle.component_laws.proofs.Numbers.{fits}

abbrev pub Texts : Type 0
Texts = List (List ℕ)

abbrev pub text_at : Texts → ℕ → List ℕ
text_at texts i = slice_index_or texts i []

-- ---- entries in another order

map-set : (f : ℕ → List ℕ) (xs : List ℕ) (i x : ℕ) → map f (slice_set xs i x) ≡ slice_set (map f xs) i (f x)
map-set f [] i x = refl
map-set f (y ∷ xs) zero x = refl
map-set f (y ∷ xs) (suc i) x = ap (λ zs. f y ∷ zs) (map-set f xs i x)

entry-map : (f : ℕ → List ℕ) (xs : List ℕ) (i d : ℕ) → slice_index_or (map f xs) i (f d) ≡ f (slice_index_or xs i d)
entry-map f [] i d = refl
entry-map f (y ∷ xs) zero d = refl
entry-map f (y ∷ xs) (suc i) d = entry-map f xs i d

map-swap : (f : ℕ → List ℕ) (xs : List ℕ) (i j : ℕ) → map f (swap xs i j) ≡ swap (map f xs) i j
map-swap f [] i j = refl
map-swap f (d ∷ ys) i j = map-set f (slice_set (d ∷ ys) i (slice_index_or (d ∷ ys) j d)) j (slice_index_or (d ∷ ys) i d)
    ∙ ap₂ (λ zs z. slice_set zs j z) (map-set f (d ∷ ys) i (slice_index_or (d ∷ ys) j d) ∙ ap (slice_set (map f (d ∷ ys)) i) (sym (entry-map f (d ∷ ys) j d))) (sym (entry-map f (d ∷ ys) i d))

-- the indices of the entries of xs in the order of ys
pub record Reorders (xs ys : Texts) : Type 0 where
  pub order : List ℕ
  pub permutes : IsPermutation (below (length xs)) order
  pub is : ys ≡ map (text_at xs) order

map-below : (xs : Texts) → map (text_at xs) (below (length xs)) ≡ xs
map-below xs = ext_get_or [] (map (text_at xs) (below (length xs))) xs long (λ i l. let m : i < length xs = subst (λ n. i < n) long l in
    get_or-map (text_at xs) (below (length xs)) i 0 [] (subst (λ n. i < n) (sym (length-range_with_len 0 (length xs))) m) ∙ ap (text_at xs) (get_or-range_with_len 0 (length xs) i 0 m ∙ omega arith))
  where
    long : length (map (text_at xs) (below (length xs))) ≡ length xs
    long = length-map (below (length xs)) (text_at xs) ∙ length-range_with_len 0 (length xs)

reorders_more : (xs l : Texts) (i j : ℕ) → i < length l → j < length l → Reorders xs l → Reorders xs (swap l i j)
reorders_more xs l i j li lj r = record {
  order = swap r.order i j;
  permutes = IsPermutation-trans (below (length xs)) r.order (swap r.order i j) r.permutes (IsPermutation-swap r.order (swap r.order i j) i j (subst (λ n. i < n) long li) (subst (λ n. j < n) long lj) refl);
  is = ap (λ zs. swap zs i j) r.is ∙ sym (map-swap (text_at xs) r.order i j);
}
  where
    long : length l ≡ length r.order
    long = ap length r.is ∙ length-map r.order (text_at xs)

pub reordered : (xs ys : Texts) → IsPermutation xs ys → Reorders xs ys
reordered xs ys p = IsPermutation-keeps xs (Reorders xs) (record { order = below (length xs); permutes = IsPermutation-refl (below (length xs)); is = sym (map-below xs) }) (reorders_more xs) ys p

-- entry i of ys is an entry of xs, different ones for different i
pub record TakenFrom (xs ys : Texts) : Type 0 where
  pub to : ℕ → ℕ
  pub in_range : (i : ℕ) → i < length ys → to i < length xs
  pub separate : (i j : ℕ) → i < length ys → j < length ys → to i ≡ to j → i ≡ j
  pub same : (i : ℕ) → i < length ys → text_at ys i ≡ text_at xs (to i)

pub taken_from : (xs ys : Texts) → IsPermutation xs ys → TakenFrom xs ys
taken_from xs ys p = record {
  to = slice_index r.order;
  in_range = λ i l. permutation_below (length xs) r.order back i (subst (λ n. i < n) long l);
  separate = λ i j li lj e. elim (cases_order i j) [
    | inl same ↦ same
    | inr (inl less) ↦ absurd (permutation_apart (length xs) r.order back i j less (subst (λ n. j < n) long lj) e)
    | inr (inr more) ↦ absurd (permutation_apart (length xs) r.order back j i more (subst (λ n. i < n) long li) (sym e))
  ];
  same = λ i l. ap (λ zs. text_at zs i) r.is ∙ get_or-map (text_at xs) r.order i 0 [] (subst (λ n. i < n) long l);
}
  where
    r : Reorders xs ys
    r = reordered xs ys p

    long : length ys ≡ length r.order
    long = ap length r.is ∙ length-map r.order (text_at xs)

    back : IsPermutation r.order (below (length xs))
    back = IsPermutation-sym (below (length xs)) r.order r.permutes

-- if the entries of ys are different entries of xs, and as many, the lists have the same elements
pub permuted_from : (xs ys : Texts) → TakenFrom xs ys → length xs ≤ length ys → IsPermutation xs ys
permuted_from xs ys t l = subst₂ IsPermutation (map-below xs) there (IsPermutation-map (text_at xs) (below (length xs)) places (IsPermutation-sym places (below (length xs))
    (onto (length xs) places (long ∙ same_length) (λ k m. let k' : k < length ys = subst (λ n. k < n) (sym same_length) m in subst (λ v. v < length xs) (sym (at k k')) (t.in_range k k'))
    (IsDistinct-from_before places (λ i j less m e. let lj : j < length ys = subst (λ n. j < n) long m in let li : i < length ys = omega arith in
    let same : i ≡ j = t.separate i j li lj (sym (at i li) ∙ e ∙ at j lj) in absurd (omega arith))))))
  where
    places : List ℕ
    places = map t.to (below (length ys))

    long : length places ≡ length ys
    long = length-map (below (length ys)) t.to ∙ length-range_with_len 0 (length ys)

    same_length : length ys ≡ length xs
    same_length = let m : length ys ≤ length xs = fits (length ys) (length xs) t.to t.in_range t.separate in omega arith

    at : (k : ℕ) → k < length ys → get_or places k 0 ≡ t.to k
    at k m = get_or-map t.to (below (length ys)) k 0 0 (subst (λ n. k < n) (sym (length-range_with_len 0 (length ys))) m) ∙ ap t.to (get_or-range_with_len 0 (length ys) k 0 m ∙ omega arith)

    there : map (text_at xs) places ≡ ys
    there = ext_get_or [] (map (text_at xs) places) ys (length-map places (text_at xs) ∙ long) (λ i m. let k : i < length ys = subst (λ n. i < n) (length-map places (text_at xs) ∙ long) m in
        get_or-map (text_at xs) places i 0 [] (subst (λ n. i < n) (sym long) k) ∙ ap (text_at xs) (at i k) ∙ sym (t.same i k))

-- ---- lists in order

abbrev pub InOrder : Texts → Type 0
InOrder texts = AllPairs (λ text later. is_list_before later text ≡ false) texts

-- no element is before the head
head_first : (x y : List ℕ) (xs : Texts) → InOrder (x ∷ xs) → Contains (x ∷ xs) y → is_list_before y x ≡ false
head_first x y xs h c = go c.0 c.1 c.2
  where
    go : (k : ℕ) → k < length (x ∷ xs) → slice_index_or (x ∷ xs) k y ≡ y → is_list_before y x ≡ false
    go zero l e = subst (λ z. is_list_before z x ≡ false) e (not_before_itself x)
    go (suc k) l e = subst (λ z. is_list_before z x ≡ false) e (h 0 (suc k) y (omega arith) l)

tail_in_order : (x : List ℕ) (xs : Texts) → InOrder (x ∷ xs) → InOrder xs
tail_in_order x xs h i j d less l = h (suc i) (suc j) d (omega arith) (omega arith)

head_in : (x : List ℕ) (xs : Texts) → Contains (x ∷ xs) x
head_in x xs = (0, omega arith, refl)

-- the lists without their common head
module _ (x : List ℕ) (xs ys : Texts) (t : TakenFrom (x ∷ xs) (x ∷ ys)) where
  abbrev moved : ℕ → ℕ → ℕ
  moved first n = if n == 0 then first - 1 else n - 1

  moved_zero : (first n : ℕ) → n ≡ 0 → moved first n ≡ first - 1
  moved_zero first n z = rw z refl

  moved_some : (first n : ℕ) → n ≢ 0 → moved first n ≡ n - 1
  moved_some first zero some = absurd (some refl)
  moved_some first (suc n) some = pick (suc n == 0) (differs n)
    where
      differs : (k : ℕ) → (suc k == 0) ≡ false
      differs k = grind arith

      pick : (b : Bool) → b ≡ false → (if b then first - 1 else suc n - 1) ≡ suc n - 1
      pick b e = rw e refl

  entry_behind : (zs : Texts) (n : ℕ) → n ≢ 0 → text_at (x ∷ zs) n ≡ text_at zs (n - 1)
  entry_behind zs zero some = absurd (some refl)
  entry_behind zs (suc n) some = ap (text_at zs) (omega arith)

  first_some : (i : ℕ) → i < length ys → t.to (suc i) ≡ 0 → t.to 0 ≢ 0
  first_some i l z y = let e : 0 ≡ suc i = t.separate 0 (suc i) (omega arith) (omega arith) (y ∙ sym z) in absurd (omega arith)

  to_less : ℕ → ℕ
  to_less i = moved (t.to 0) (t.to (suc i))

  less_range : (i : ℕ) → i < length ys → to_less i < length xs
  unfolding to_less
  less_range i l = elim (cases_eq (t.to (suc i)) 0) [
    | inl z ↦ subst (λ n. n < length xs) (sym (moved_zero (t.to 0) (t.to (suc i)) z)) (let some : t.to 0 ≢ 0 = first_some i l z in let m : t.to 0 < length (x ∷ xs) = t.in_range 0 (omega arith) in omega arith)
    | inr some ↦ subst (λ n. n < length xs) (sym (moved_some (t.to 0) (t.to (suc i)) some)) (let m : t.to (suc i) < length (x ∷ xs) = t.in_range (suc i) (omega arith) in omega arith)
  ]

  less_apart : (i j : ℕ) → i < length ys → j < length ys → to_less i ≡ to_less j → i ≡ j
  unfolding to_less
  less_apart i j li lj e = elim (cases_eq (t.to (suc i)) 0) [
    | inl z ↦ elim (cases_eq (t.to (suc j)) 0) [
      | inl y ↦ let f : suc i ≡ suc j = t.separate (suc i) (suc j) (omega arith) (omega arith) (z ∙ sym y) in omega arith
      | inr some ↦ let a : t.to 0 - 1 ≡ t.to (suc j) - 1 = sym (moved_zero (t.to 0) (t.to (suc i)) z) ∙ e ∙ moved_some (t.to 0) (t.to (suc j)) some in
          let first : t.to 0 ≢ 0 = first_some i li z in let f : 0 ≡ suc j = t.separate 0 (suc j) (omega arith) (omega arith) (omega arith) in absurd (omega arith)
    ]
    | inr some ↦ elim (cases_eq (t.to (suc j)) 0) [
      | inl y ↦ let a : t.to (suc i) - 1 ≡ t.to 0 - 1 = sym (moved_some (t.to 0) (t.to (suc i)) some) ∙ e ∙ moved_zero (t.to 0) (t.to (suc j)) y in
          let first : t.to 0 ≢ 0 = first_some j lj y in let f : 0 ≡ suc i = t.separate 0 (suc i) (omega arith) (omega arith) (omega arith) in absurd (omega arith)
      | inr other ↦ let a : t.to (suc i) - 1 ≡ t.to (suc j) - 1 = sym (moved_some (t.to 0) (t.to (suc i)) some) ∙ e ∙ moved_some (t.to 0) (t.to (suc j)) other in
          let f : suc i ≡ suc j = t.separate (suc i) (suc j) (omega arith) (omega arith) (omega arith) in omega arith
    ]
  ]

  less_same : (i : ℕ) → i < length ys → text_at ys i ≡ text_at xs (to_less i)
  unfolding to_less
  less_same i l = elim (cases_eq (t.to (suc i)) 0) [
    | inl z ↦ t.same (suc i) (omega arith) ∙ ap (text_at (x ∷ xs)) z ∙ t.same 0 (omega arith) ∙ entry_behind xs (t.to 0) (first_some i l z) ∙ ap (text_at xs) (sym (moved_zero (t.to 0) (t.to (suc i)) z))
    | inr some ↦ t.same (suc i) (omega arith) ∙ entry_behind xs (t.to (suc i)) some ∙ ap (text_at xs) (sym (moved_some (t.to 0) (t.to (suc i)) some))
  ]

  taken_less : TakenFrom xs ys
  taken_less = record { to = to_less; in_range = less_range; separate = less_apart; same = less_same }

one_less : (x : List ℕ) (xs ys : Texts) → IsPermutation (x ∷ xs) (x ∷ ys) → IsPermutation xs ys
one_less x xs ys p = permuted_from xs ys (taken_less x xs ys (taken_from (x ∷ xs) (x ∷ ys) p)) (let e : length (x ∷ ys) ≡ length (x ∷ xs) = length_permutation (x ∷ xs) (x ∷ ys) p in omega arith)

pub one_order : (xs ys : Texts) → InOrder xs → InOrder ys → IsPermutation xs ys → xs ≡ ys
one_order [] [] a b p = refl
one_order [] (y ∷ ys) a b p = let e : length (y ∷ ys) ≡ 0 = length_permutation [] (y ∷ ys) p in absurd (omega arith)
one_order (x ∷ xs) [] a b p = let e : 0 ≡ length (x ∷ xs) = length_permutation (x ∷ xs) [] p in absurd (omega arith)
one_order (x ∷ xs) (y ∷ ys) a b p = ap₂ (λ z zs. z ∷ zs) same (one_order xs ys (tail_in_order x xs a) (tail_in_order y ys b)
    (one_less x xs ys (subst (λ z. IsPermutation (x ∷ xs) (z ∷ ys)) (sym same) p)))
  where
    same : x ≡ y
    same = neither_before x y (head_first y x ys b (Contains-permutation (x ∷ xs) (y ∷ ys) x p (head_in x xs))) (head_first x y xs a (Contains-permutation (y ∷ ys) (x ∷ xs) y (IsPermutation-sym (x ∷ xs) (y ∷ ys) p) (head_in y ys)))
