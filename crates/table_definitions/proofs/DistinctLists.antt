-- Lists in which no item occurs twice.
use Rattle.std.proofs.Common.{◌≡◌, ◌≢◌, ℕ, zero, suc, ◌+◌, ◌<◌, ◌≤◌, Bool, true, false, cond, List, [], ◌∷◌, ◌++◌, length, get_or, map, filter, ◌⊎◌, inl, inr, ⊎_elim, refl, sym, ap, ◌∙◌, subst, arith}
use Rattle.std.specs.Prelude.{⊤, sum_by}
use Rattle.std.specs.List.{range_with_len}
use Rattle.std.proofs.lemmas.List.{get_or_default}
use Rattle.std.proofs.lemmas.List.Sums.{sum_by-cons}
use Rattle.table_definitions.specs.Lists.{below}
use Rattle.table_definitions.proofs.TableLaws.{Among}
use Rattle.table_definitions.proofs.Listed.{contains_among, map-among, appended-among, filter-among, range-among}

-- no item occurs twice in the list
abbrev pub AreApart : {A : Type 0} → List A → Type 0
AreApart [] = ⊤
AreApart (x ∷ xs) = (Among x xs → ⊥) × AreApart xs

-- if items at different places are different, no item occurs twice
pub apart_from : {A : Type 0} (d : A) (xs : List A) → ((i j : ℕ) → i < j → j < length xs → get_or xs i d ≢ get_or xs j d) → AreApart xs
apart_from d [] once = tt
apart_from d (x ∷ xs) once = (
  (λ a. let c = contains_among x xs a in once 0 (suc c.0) (omega arith) (omega (arith, c.1)) (sym (get_or_default xs c.0 d x c.1 ∙ c.2))),
  apart_from d xs (λ i j l m. once (suc i) (suc j) (omega arith) (omega arith)),
)

pub apart_append : {A : Type 0} (xs ys : List A) → AreApart xs → AreApart ys → ((x : A) → Among x xs → Among x ys → ⊥) → AreApart (xs ++ ys)
apart_append [] ys a b off = b
apart_append (x ∷ xs) ys a b off = (
  (λ h. ⊎_elim (λ g. a.0 g) (λ g. off x (inl refl) g) (appended-among x xs ys h)),
  apart_append xs ys a.1 b (λ z g h. off z (inr g) h),
)

pub map_apart : {A B : Type 0} (h : A → B) (xs : List A) → AreApart xs → ((x y : A) → Among x xs → Among y xs → h x ≡ h y → x ≡ y) → AreApart (map h xs)
map_apart h [] separate one = tt
map_apart {A} h (x ∷ xs) separate one = (
  (λ a. let m = map-among h (h x) xs a in separate.0 (subst (λ (u : A). Among u xs) (sym (one x m.0 (inl refl) (inr m.1) m.2)) m.1)),
  map_apart h xs separate.1 (λ y z a b e. one y z (inr a) (inr b) e),
)

apart_if : {A : Type 0} (b : Bool) (x : A) (xs : List A) → (Among x xs → ⊥) → AreApart xs → AreApart (cond b (x ∷ xs) xs)
apart_if true x xs off a = (off, a)
apart_if false x xs off a = a

pub apart_filter : {A : Type 0} (p : A → Bool) (xs : List A) → AreApart xs → AreApart (filter p xs)
apart_filter p [] a = tt
apart_filter p (x ∷ xs) a = apart_if (p x) x (filter p xs) (λ h. a.0 (filter-among p x xs h).0) (apart_filter p xs a.1)

apart_range : (a n : ℕ) → AreApart (range_with_len a n)
apart_range a zero = tt
apart_range a (suc n) = ((λ h. let l = (range-among a (a + 1) n h).0 in absurd (omega arith)), apart_range (a + 1) n)

pub apart_below : (n : ℕ) → AreApart (below n)
apart_below n = apart_range 0 n

-- a list without one occurrence of x
pub record IsWithout {A : Type 0} (x : A) (xs less : List A) : Type 0 where
  pub sums : (f : A → ℕ) → sum_by f xs ≡ f x + sum_by f less
  pub shorter : length xs ≡ suc (length less)
  pub others : (y : A) → Among y xs → (y ≡ x) ⊎ Among y less

pub taken_out : {A : Type 0} (x : A) (xs : List A) → Among x xs → (less : List A) × IsWithout x xs less
taken_out x [] h = absurd h
taken_out x (y ∷ ys) (inl e) = (
  ys,
  record {
    sums = λ f. sum_by-cons f y ys ∙ ap (λ a. f a + sum_by f ys) (sym e);
    shorter = refl;
    others = λ z h. ⊎_elim (λ q. inl (q ∙ sym e)) (λ g. inr g) h;
  },
)
taken_out x (y ∷ ys) (inr h) =
    let r = taken_out x ys h in
    let w = r.1 in (
      y ∷ r.0,
      record {
        sums = λ f. omega (arith, sum_by-cons f y ys, sum_by-cons f y r.0, w.sums f);
        shorter = omega (arith, w.shorter);
        others = λ z a. ⊎_elim (λ q. inr (inl q)) (λ g. ⊎_elim (λ q. inl q) (λ d. inr (inr d)) (w.others z g)) a;
      },
    )

-- a list of different items that all occur in another list is not longer than that list
pub apart_short : {A : Type 0} (xs ys : List A) → AreApart xs → ((x : A) → Among x xs → Among x ys) → length xs ≤ length ys
apart_short [] ys separate inside = omega arith
apart_short {A} (x ∷ xs) ys separate inside =
    let r = taken_out x ys (inside x (inl refl)) in
    let w : IsWithout x ys r.0 = r.1 in
    let more : length xs ≤ length r.0 = apart_short xs r.0 separate.1 (λ z a. ⊎_elim (λ q. absurd (separate.0 (subst (λ (u : A). Among u xs) q a))) (λ g. g) (w.others z (inside z (inr a)))) in
    omega (arith, w.shorter)
