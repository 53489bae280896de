-- The members of lists of numbers; an ascending list is determined by them.
use Rattle.std.proofs.Common.{◌≡◌, ℕ, zero, suc, ◌<◌, ◌⊎◌, inl, inr, List, [], ◌∷◌, length, AllPairs, Contains, slice_index_or, subst, sym, ap₂, refl, arith, slice_index, ◌∙◌}
use Rattle.std.proofs.lemmas.List.{get_or_default}

pub contains_nil : (y : ℕ) → Contains [] y → ⊥
contains_nil y h = let l : h.0 < 0 = h.1 in omega arith

pub contains_head : (x : ℕ) (xs : List ℕ) → Contains (x ∷ xs) x
contains_head x xs = (0, omega arith, refl)

pub contains_tail : (x y : ℕ) (xs : List ℕ) → Contains xs y → Contains (x ∷ xs) y
contains_tail x y xs h = (suc h.0, omega (arith, h.1), h.2)

pub contains_cases : (x y : ℕ) (xs : List ℕ) → Contains (x ∷ xs) y → (x ≡ y) ⊎ Contains xs y
contains_cases x y xs h = go h.0 h.1 h.2
  where
    go : (k : ℕ) → k < length (x ∷ xs) → slice_index_or (x ∷ xs) k y ≡ y → (x ≡ y) ⊎ Contains xs y
    go zero l e = inl e
    go (suc k) l e = inr (k, omega arith, e)

-- a list of one number
pub contains_one : (x y : ℕ) → Contains (x ∷ []) y → y ≡ x
contains_one x y h = elim (contains_cases x y [] h) [ inl e ↦ sym e | inr c ↦ absurd (contains_nil y c) ]

pub contains_at : (xs : List ℕ) (k x : ℕ) → k < length xs → slice_index xs k ≡ x → Contains xs x
contains_at xs k x l e = (k, l, get_or_default xs k x 0 l ∙ e)

abbrev pub Ascends : List ℕ → Type 0
Ascends xs = AllPairs (λ (one other : ℕ). one < other) xs

abbrev pub Within : List ℕ → List ℕ → Type 0
Within xs ys = (z : ℕ) → Contains xs z → Contains ys z

pub head_less : (x y : ℕ) (xs : List ℕ) → Ascends (x ∷ xs) → Contains xs y → x < y
head_less x y xs h c = subst (λ n. x < n) c.2 (h 0 (suc c.0) y (omega arith) (omega (arith, c.1)))

pub tail_ascends : (x : ℕ) (xs : List ℕ) → Ascends (x ∷ xs) → Ascends xs
tail_ascends x xs h i j d l m = h (suc i) (suc j) d (omega arith) (omega arith)

same_heads : (x y : ℕ) (xs ys : List ℕ) → Ascends (x ∷ xs) → Ascends (y ∷ ys) → Within (x ∷ xs) (y ∷ ys) → Within (y ∷ ys) (x ∷ xs) → x ≡ y
same_heads x y xs ys hx hy into back = elim (contains_cases y x ys (into x (contains_head x xs))) [
  | inl e ↦ sym e
  | inr in_tail ↦ elim (contains_cases x y xs (back y (contains_head y ys))) [
    | inl e ↦ e
    | inr in_other ↦ absurd (let a = head_less x y xs hx in_other in let b = head_less y x ys hy in_tail in omega arith)
  ]
]

tail_within : (x y : ℕ) (xs ys : List ℕ) → x ≡ y → Ascends (x ∷ xs) → Within (x ∷ xs) (y ∷ ys) → Within xs ys
tail_within x y xs ys e hx into z c = elim (contains_cases y z ys (into z (contains_tail x z xs c))) [
  | inl f ↦ absurd (let a = head_less x z xs hx c in omega arith)
  | inr in_tail ↦ in_tail
]

-- two ascending lists with the same numbers are equal
pub same_numbers : (xs ys : List ℕ) → Ascends xs → Ascends ys → Within xs ys → Within ys xs → xs ≡ ys
same_numbers [] [] hx hy into back = refl
same_numbers [] (y ∷ ys) hx hy into back = absurd (contains_nil y (back y (contains_head y ys)))
same_numbers (x ∷ xs) [] hx hy into back = absurd (contains_nil x (into x (contains_head x xs)))
same_numbers (x ∷ xs) (y ∷ ys) hx hy into back =
    let e = same_heads x y xs ys hx hy into back in
    ap₂ (λ (a : ℕ) (b : List ℕ). a ∷ b) e (same_numbers xs ys (tail_ascends x xs hx) (tail_ascends y ys hy) (tail_within x y xs ys e hx into) (tail_within y x ys xs (sym e) hy back))
