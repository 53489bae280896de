-- Facts of lists.
use Rattle.std.proofs.Common.{◌≡◌, Bool, true, false, cond, List, [], ◌∷◌, Some, refl, sym, ap, ◌∙◌, ◌≢◌, take, drop, get_or, get_or-take, length-take, ⊎_elim, inl, inr, AllPairs, arith, ℕ, ◌+◌, ◌++◌, length, zero, suc, ◌<◌, ◌≤◌}
use Rattle.std.specs.Prelude.{find}
use Rattle.std.proofs.lemmas.Bool.{cases_lt, cases_order}
use Rattle.std.proofs.lemmas.List.{get_or_past}
use Rattle.std.specs.List.{AllZip}

-- an item that is found passes the test
pub found_passes : {A : Type 0} (p : A → Bool) (xs : List A) (x : A) → find p xs ≡ Some x → p x ≡ true
found_passes p [] x e = cc
found_passes {A} p (y ∷ ys) x e = by_test (p y) refl e (λ f. found_passes p ys x f)
  where
    by_test : (b : Bool) → p y ≡ b → cond b (Some y) (find p ys) ≡ Some x → (find p ys ≡ Some x → p x ≡ true) → p x ≡ true
    by_test true t f later = let is : y ≡ x = cc in ap p (sym is) ∙ t
    by_test false t f later = later f

-- a list of length 0 is empty, and so are the first 0 items of any list
pub no_items : {A : Type 0} (xs : List A) → length xs ≤ 0 → xs ≡ []
no_items [] h = refl
no_items (x ∷ xs) h = absurd (omega arith)

pub take_none : {A : Type 0} (xs : List A) → take zero xs ≡ []
take_none [] = refl
take_none (x ∷ xs) = refl

-- a list is the items before an index, the item there, and those after it
pub split_at : (i : ℕ) (xs : List ℕ) → i < length xs → xs ≡ take i xs ++ get_or xs i 0 ∷ drop (suc i) xs
split_at i [] h = absurd (omega arith)
split_at zero (x ∷ xs) h = refl
split_at (suc i) (x ∷ xs) h = ap (λ (ys : List ℕ). x ∷ ys) (split_at i xs (omega arith))

-- in a list of different items each is at one index
pub one_place : {A : Type 0} (xs : List A) → AllPairs (λ x y. x ≢ y) xs → (i j : ℕ) (d : A) → i < length xs → j < length xs → get_or xs i d ≡ get_or xs j d → i ≡ j
one_place xs separate i j d i_in j_in same = elim (cases_order i j) [
  | inl e ↦ e
  | inr (inl less) ↦ absurd (separate i j d less j_in same)
  | inr (inr more) ↦ absurd (separate j i d more i_in (sym same))
]

-- the first i + 1 entries and the first i entries agree except at index i
pub take_other : (x : List ℕ) (i column : ℕ) → column ≢ i → get_or (take (i + 1) x) column 0 ≡ get_or (take i x) column 0
take_other x i column other =
    ⊎_elim (λ h. get_or-take (i + 1) x column 0 (omega arith) ∙ sym (get_or-take i x column 0 h))
    (λ h. get_or_past (take (i + 1) x) column 0 (omega (arith, length-take (i + 1) x, other)) ∙ sym (get_or_past (take i x) column 0 (omega (arith, length-take i x))))
    (cases_lt column i)

pub zip_more : {A B : Type 0} (R : A → B → Type 0) (xs : List A) (ys : List B) (x : A) (y : B) → AllZip R xs ys → R x y → AllZip R (xs ++ x ∷ []) (ys ++ y ∷ [])
zip_more R [] [] x y h r = (r, tt)
zip_more R [] (b ∷ bs) x y h r = absurd h
zip_more R (a ∷ rest) [] x y h r = absurd h
zip_more R (a ∷ rest) (b ∷ bs) x y h r = (h.0, zip_more R rest bs x y h.1 r)
