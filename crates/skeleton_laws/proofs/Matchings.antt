-- Lists whose members correspond one to one have the same length.
use Rattle.std.proofs.Common.{◌≡◌, ℕ, suc, ◌+◌, ◌<◌, ◌≤◌, Bool, true, List, [], ◌∷◌, ◌++◌, length, map, filter, ◌⊎◌, inl, inr, refl, sym, ap, ◌∙◌, subst, arith}
use Rattle.std.specs.Prelude.{count_by}
use Rattle.std.proofs.lemmas.List.{length-map, length-append}
use Rattle.std.proofs.lemmas.List.Sums.{length-filter}
use Rattle.table_definitions.specs.Lists.{below}
use Rattle.table_definitions.proofs.TableLaws.{Among, Among-map, Among-left, Among-right, Among-below}
use Rattle.table_definitions.proofs.Listed.{map-among, appended-among, filter-among, Among-filter, below-among}
use Rattle.table_definitions.proofs.DistinctLists.{AreApart, apart_append, map_apart, apart_filter, apart_below, apart_short}

module _ {A B : Type 0} (R : A → B → Type 0) (ys : List B) where
  -- for each member one that corresponds to it, different ones for different members
  record Chosen (xs : List A) : Type 0 where
    list : List B
    long : length list ≡ length xs
    separate : AreApart list
    within : (y : B) → Among y list → Among y ys
    of : (y : B) → Among y list → (x : A) × Among x xs × R x y

  chosen : (xs : List A) → AreApart xs → ((x : A) → Among x xs → (y : B) × Among y ys × R x y) → ((x x' : A) (y : B) → Among x xs → Among x' xs → R x y → R x' y → x ≡ x') → Chosen xs
  chosen [] separate all once = record { list = []; long = refl; separate = tt; within = λ y a. absurd a; of = λ y a. absurd a }
  chosen (x ∷ xs) separate all once =
      let rest : Chosen xs = chosen xs separate.1 (λ z a. all z (inr a)) (λ z z' y a b. once z z' y (inr a) (inr b)) in
      let here = all x (inl refl) in
      record {
        list = here.0 ∷ rest.list;
        long = ap suc rest.long;
        separate = ((λ a. let z = rest.of here.0 a in separate.0 (subst (λ (u : A). Among u xs) (once z.0 x here.0 (inr z.1) (inl refl) z.2 here.2) z.1)), rest.separate);
        within = λ y a. elim a [ inl e ↦ subst (λ (u : B). Among u ys) (sym e) here.1 | inr b ↦ rest.within y b ];
        of = λ y a. elim a [ inl e ↦ (x, inl refl, subst (λ (u : B). R x u) (sym e) here.2) | inr b ↦ (let z = rest.of y b in (z.0, inr z.1, z.2)) ];
      }

  pub related_short : (xs : List A) → AreApart xs → ((x : A) → Among x xs → (y : B) × Among y ys × R x y) → ((x x' : A) (y : B) → Among x xs → Among x' xs → R x y → R x' y → x ≡ x') → length xs ≤ length ys
  related_short xs separate all once =
      let c : Chosen xs = chosen xs separate all once in
      let s : length c.list ≤ length ys = apart_short c.list ys c.separate c.within in
      let l : length c.list ≡ length xs = c.long in
      omega arith

pub related_same : {A B : Type 0} (R : A → B → Type 0) (xs : List A) (ys : List B) → AreApart xs → AreApart ys
    → ((x : A) → Among x xs → (y : B) × Among y ys × R x y) → ((y : B) → Among y ys → (x : A) × Among x xs × R x y)
    → ((x x' : A) (y : B) → Among x xs → Among x' xs → R x y → R x' y → x ≡ x') → ((x : A) (y y' : B) → Among y ys → Among y' ys → R x y → R x y' → y ≡ y') → length xs ≡ length ys
related_same {A} {B} R xs ys ax ay forth back once once' =
    let first : length xs ≤ length ys = related_short R ys xs ax forth once in
    let other : length ys ≤ length xs = related_short (λ (y : B) (x : A). R x y) xs ys ay back (λ y y' x a b r s. once' x y y' a b r s) in
    omega arith

-- the numbers below n that pass a test
abbrev pub passing : (ℕ → Bool) → ℕ → List ℕ
passing p n = filter p (below n)

pub length-passing : (p : ℕ → Bool) (n : ℕ) → length (passing p n) ≡ count_by p (below n)
length-passing p n = length-filter p (below n)

pub passing_apart : (p : ℕ → Bool) (n : ℕ) → AreApart (passing p n)
passing_apart p n = apart_filter p (below n) (apart_below n)

pub passing_is : (p : ℕ → Bool) (n i : ℕ) → Among i (passing p n) → (i < n) × (p i ≡ true)
passing_is p n i a = let f = filter-among p i (below n) a in (below-among i n f.0, f.1)

pub is_passing : (p : ℕ → Bool) (n i : ℕ) → i < n → p i ≡ true → Among i (passing p n)
is_passing p n i l t = Among-filter p i (below n) (Among-below i n l) t

-- numbers of two kinds
abbrev pub one : ℕ → ℕ ⊎ ℕ
one x = inl x

abbrev pub two : ℕ → ℕ ⊎ ℕ
two y = inr y

abbrev pub both : List ℕ → List ℕ → List (ℕ ⊎ ℕ)
both xs ys = map one xs ++ map two ys

pub length-both : (xs ys : List ℕ) → length (both xs ys) ≡ length xs + length ys
length-both xs ys = length-append (map one xs) (map two ys) ∙ (λ i. length-map xs one i + length-map ys two i)

pub first_kind : (xs ys : List ℕ) (x : ℕ) → Among x xs → Among {A = ℕ ⊎ ℕ} (inl x) (both xs ys)
first_kind xs ys x a = Among-left (inl x) (map one xs) (map two ys) (Among-map one x xs a)

pub second_kind : (xs ys : List ℕ) (y : ℕ) → Among y ys → Among {A = ℕ ⊎ ℕ} (inr y) (both xs ys)
second_kind xs ys y a = Among-right (inr y) (map one xs) (map two ys) (Among-map two y ys a)

pub is_first_kind : (xs ys : List ℕ) (x : ℕ) → Among {A = ℕ ⊎ ℕ} (inl x) (both xs ys) → Among x xs
is_first_kind xs ys x a = elim (appended-among {A = ℕ ⊎ ℕ} (inl x) (map one xs) (map two ys) a) [
  | inl b ↦ (let m = map-among one (inl x) xs b in let q : one x ≡ inl m.0 = m.2 in let e : x ≡ m.0 = cc in subst (λ u. Among u xs) (sym e) m.1)
  | inr b ↦ (let m = map-among two (inl x) ys b in let q : one x ≡ inr m.0 = m.2 in absurd cc)
]

pub is_second_kind : (xs ys : List ℕ) (y : ℕ) → Among {A = ℕ ⊎ ℕ} (inr y) (both xs ys) → Among y ys
is_second_kind xs ys y a = elim (appended-among {A = ℕ ⊎ ℕ} (inr y) (map one xs) (map two ys) a) [
  | inl b ↦ (let m = map-among one (inr y) xs b in let q : two y ≡ inl m.0 = m.2 in absurd cc)
  | inr b ↦ (let m = map-among two (inr y) ys b in let q : two y ≡ inr m.0 = m.2 in let e : y ≡ m.0 = cc in subst (λ u. Among u ys) (sym e) m.1)
]

pub both_apart : (xs ys : List ℕ) → AreApart xs → AreApart ys → AreApart (both xs ys)
both_apart xs ys a b =
    apart_append (map one xs) (map two ys)
    (map_apart one xs a (λ x y m n e. (let q : one x ≡ inl y = e in cc)))
    (map_apart two ys b (λ x y m n e. (let q : two x ≡ inr y = e in cc)))
    (λ z m n. (let u = map-among one z xs m in let v = map-among two z ys n in
    let q : one u.0 ≡ inr v.0 = sym u.2 ∙ v.2 in absurd cc))
