-- If no two columns of a list that are not free are in the same group, the product of the caps of their groups is at
-- most that of all groups.
use Rattle.std.proofs.Common.{◌≡◌, ◌≢◌, ℕ, zero, suc, ◌*◌, ◌<◌, ◌≤◌, inl, inr, List, [], ◌∷◌, Bool, true, false, cond, sym, subst, arith, ap, ap₂, refl, true≢false, ◌∙◌, mul-le-mul, mul-le-mul_left}
use Rattle.std.specs.Prelude.{◌==◌}
use Rattle.cone_bound_laws.specs.Caps.{caps_product}
use Rattle.std.proofs.lemmas.Bool.{cases_eq, cases_Bool, eq-eqb, ne_eqb}

-- no column of the list that is not free is in this group
unfoldable pub Alone : (ℕ → Bool) → (ℕ → ℕ) → ℕ → List ℕ → Type 0
Alone free group k [] = Unit {0}
Alone free group k (j ∷ js) = (free j ≡ false → group j ≢ k) × Alone free group k js

unfoldable pub OwnGroups : (ℕ → Bool) → (ℕ → ℕ) → List ℕ → Type 0
OwnGroups free group [] = Unit {0}
OwnGroups free group (j ∷ js) = (free j ≡ false → Alone free group (group j) js) × OwnGroups free group js

unfoldable pub GroupsBelow : (ℕ → Bool) → (ℕ → ℕ) → ℕ → List ℕ → Type 0
GroupsBelow free group n [] = Unit {0}
GroupsBelow free group n (j ∷ js) = (free j ≡ false → group j < n) × GroupsBelow free group n js

-- the product of the caps of the columns that are not free
unfoldable pub bound_product : (ℕ → Bool) → (ℕ → ℕ) → (ℕ → ℕ) → List ℕ → ℕ
bound_product free group cap [] = 1
bound_product free group cap (j ∷ js) = cond (free j) 1 (cap (group j)) * bound_product free group cap js

-- free, or in group m
freed : (ℕ → Bool) → (ℕ → ℕ) → ℕ → ℕ → Bool
freed free group m j = cond (group j == m) true (free j)

freed_in : (free : ℕ → Bool) (group : ℕ → ℕ) (m j : ℕ) → group j ≡ m → freed free group m j ≡ true
unfolding freed
freed_in free group m j e = ap (λ b. cond b true (free j)) (eq-eqb (group j) m e)

freed_out : (free : ℕ → Bool) (group : ℕ → ℕ) (m j : ℕ) → group j ≢ m → freed free group m j ≡ free j
unfolding freed
freed_out free group m j ne = ap (λ b. cond b true (free j)) (ne_eqb (group j) m ne)

freed_free : (free : ℕ → Bool) (group : ℕ → ℕ) (m j : ℕ) → free j ≡ true → freed free group m j ≡ true
freed_free free group m j e = elim (cases_eq (group j) m) [ inl g ↦ freed_in free group m j g | inr ne ↦ freed_out free group m j ne ∙ e ]

not_freed : (free : ℕ → Bool) (group : ℕ → ℕ) (m j : ℕ) → freed free group m j ≡ false → (free j ≡ false) × (group j ≢ m)
not_freed free group m j e = elim (cases_eq (group j) m) [
  | inl g ↦ absurd (true≢false (sym (freed_in free group m j g) ∙ e))
  | inr ne ↦ (sym (freed_out free group m j ne) ∙ e, ne)
]

alone_freed : (free : ℕ → Bool) (group : ℕ → ℕ) (m k : ℕ) (js : List ℕ) → Alone free group k js → Alone (freed free group m) group k js
unfolding Alone
alone_freed free group m k [] h = tt
alone_freed free group m k (j ∷ js) h = (λ e. h.0 (not_freed free group m j e).0, alone_freed free group m k js h.1)

own_freed : (free : ℕ → Bool) (group : ℕ → ℕ) (m : ℕ) (js : List ℕ) → OwnGroups free group js → OwnGroups (freed free group m) group js
unfolding OwnGroups
own_freed free group m [] h = tt
own_freed free group m (j ∷ js) h = (λ e. alone_freed free group m (group j) js (h.0 (not_freed free group m j e).0), own_freed free group m js h.1)

below_freed : (free : ℕ → Bool) (group : ℕ → ℕ) (m : ℕ) (js : List ℕ) → GroupsBelow free group (suc m) js → GroupsBelow (freed free group m) group m js
unfolding GroupsBelow
below_freed free group m [] h = tt
below_freed free group m (j ∷ js) h = (λ e. let f = not_freed free group m j e in let l : group j < suc m = h.0 f.0 in let ne : group j ≢ m = f.1 in omega arith, below_freed free group m js h.1)

product_alone : (free : ℕ → Bool) (group cap : ℕ → ℕ) (m : ℕ) (js : List ℕ) → Alone free group m js → bound_product free group cap js ≡ bound_product (freed free group m) group cap js
unfolding Alone bound_product
product_alone free group cap m [] h = refl
product_alone free group cap m (j ∷ js) h = let r : bound_product free group cap js ≡ bound_product (freed free group m) group cap js = product_alone free group cap m js h.1 in
    let e : free j ≡ freed free group m j = elim (cases_Bool (free j)) [
      | inl t ↦ t ∙ sym (freed_free free group m j t)
      | inr f ↦ sym (freed_out free group m j (h.0 f))
    ] in ap₂ (λ a b. a * b) (ap (λ b. cond {A = ℕ} b 1 (cap (group j))) e) r

factor_is : (b c : Bool) (n : ℕ) → b ≡ c → cond {A = ℕ} b 1 n ≡ cond {A = ℕ} c 1 n
factor_is b c n e = ap (λ a. cond {A = ℕ} a 1 n) e

one_group : (c p q : ℕ) → p ≡ q → c * p ≤ c * (1 * q)
one_group c p q e = let f : c * p ≡ c * q = ap (λ n. c * n) e in omega (arith, f)

other_groups : (a c p q : ℕ) → p ≤ c * q → a * p ≤ c * (a * q)
other_groups a c p q l = omega (arith, mul-le-mul_left a l)

product_freed : (free : ℕ → Bool) (group cap : ℕ → ℕ) (m : ℕ) → 1 ≤ cap m → (js : List ℕ) → OwnGroups free group js → bound_product free group cap js ≤ cap m * bound_product (freed free group m) group cap js
unfolding OwnGroups bound_product
product_freed free group cap m some [] h = omega (arith, some)
product_freed free group cap m some (j ∷ js) h = elim (cases_Bool (free j)) [
  | inl t ↦ let e : cond {A = ℕ} (free j) 1 (cap (group j)) ≡ 1 = factor_is (free j) true (cap (group j)) t in
      let f : cond {A = ℕ} (freed free group m j) 1 (cap (group j)) ≡ 1 = factor_is (freed free group m j) true (cap (group j)) (freed_free free group m j t) in
      rw (e, f) (omega (arith, product_freed free group cap m some js h.1))
  | inr n ↦ elim (cases_eq (group j) m) [
    | inl g ↦ let e : cond {A = ℕ} (free j) 1 (cap (group j)) ≡ cap m = factor_is (free j) false (cap (group j)) n ∙ ap cap g in
        let f : cond {A = ℕ} (freed free group m j) 1 (cap (group j)) ≡ 1 = factor_is (freed free group m j) true (cap (group j)) (freed_in free group m j g) in
        rw (e, f) (one_group (cap m) (bound_product free group cap js) (bound_product (freed free group m) group cap js) (product_alone free group cap m js (subst (λ k. Alone free group k js) g (h.0 n))))
    | inr ne ↦ let e : cond {A = ℕ} (freed free group m j) 1 (cap (group j)) ≡ cond {A = ℕ} (free j) 1 (cap (group j)) = factor_is (freed free group m j) (free j) (cap (group j)) (freed_out free group m j ne) in
        rw e (other_groups (cond {A = ℕ} (free j) 1 (cap (group j))) (cap m) (bound_product free group cap js) (bound_product (freed free group m) group cap js) (product_freed free group cap m some js h.1))
  ]
]

none_below : (free : ℕ → Bool) (group cap : ℕ → ℕ) (js : List ℕ) → GroupsBelow free group zero js → bound_product free group cap js ≡ 1
unfolding GroupsBelow bound_product
none_below free group cap [] h = refl
none_below free group cap (j ∷ js) h = elim (cases_Bool (free j)) [
  | inl t ↦ let e : cond {A = ℕ} (free j) 1 (cap (group j)) ≡ 1 = factor_is (free j) true (cap (group j)) t in rw e (omega (arith, none_below free group cap js h.1))
  | inr f ↦ absurd (let l : group j < 0 = h.0 f in omega arith)
]

pub product_in_groups : (n : ℕ) (free : ℕ → Bool) (group cap : ℕ → ℕ) → ((g : ℕ) → g < n → 1 ≤ cap g) → (js : List ℕ) → OwnGroups free group js → GroupsBelow free group n js →
    bound_product free group cap js ≤ caps_product cap n
unfolding caps_product
product_in_groups zero free group cap some js o b = omega (arith, none_below free group cap js b)
product_in_groups (suc m) free group cap some js o b =
    let l : bound_product (freed free group m) group cap js ≤ caps_product cap m = product_in_groups m (freed free group m) group cap (λ g h. some g (omega arith)) js (own_freed free group m js o) (below_freed free group m js b) in
    omega (arith, product_freed free group cap m (some m (omega arith)) js o, mul-le-mul_left (cap m) l)

pub caps_some : (n : ℕ) (cap : ℕ → ℕ) → ((g : ℕ) → g < n → 1 ≤ cap g) → 1 ≤ caps_product cap n
unfolding caps_product
caps_some zero cap some = omega arith
caps_some (suc m) cap some = let l : 1 * 1 ≤ cap m * caps_product cap m = mul-le-mul (some m (omega arith)) (caps_some m cap (λ g h. some g (omega arith))) in omega (arith, l)
