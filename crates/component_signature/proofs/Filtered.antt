-- The numbers below n that pass a test.
use Rattle.std.proofs.Common.{◌≡◌, ℕ, ◌<◌, ◌+◌, ◌⊎◌, inl, inr, Bool, true, false, List, [], ◌∷◌, ◌++◌, filter, Contains, slice_index, slice_index_or, AllPairs, add-one, subst, subst₂, sym, ap, refl, ◌∙◌, arith}
use Rattle.std.specs.Prelude.{◌==◌}
use Rattle.std.proofs.lemmas.Bool.{eqb-true, eq-eqb}
use Rattle.std.proofs.lemmas.List.Elements.{filter-append}
use Rattle.std.proofs.lemmas.List.FromFn.{length-range_with_len, get_or-range_with_len}
use Rattle.std.proofs.lemmas.List.Kept.{AllPairs-filter}
use Rattle.basic_lemmas.proofs.Members.{contains_nil, contains_head, contains_tail, contains_cases}
use Rattle.table_definitions.specs.Lists.{below}
use Rattle.table_definitions.proofs.Bijections.{below-push}

module _ (p : ℕ → Bool) where
  one_true : (x : ℕ) (xs : List ℕ) → p x ≡ true → filter p (x ∷ xs) ≡ x ∷ filter p xs
  one_true x xs e = rw e refl

  one_false : (x : ℕ) (xs : List ℕ) → p x ≡ false → filter p (x ∷ xs) ≡ filter p xs
  one_false x xs e = rw e refl

  decide : (x : ℕ) → (p x ≡ true) ⊎ (p x ≡ false)
  decide x = go (p x) refl
    where
      go : (b : Bool) → p x ≡ b → (p x ≡ true) ⊎ (p x ≡ false)
      go true e = inl e
      go false e = inr e

  -- the items that pass, and no others
  pub passes : (xs : List ℕ) (y : ℕ) → Contains (filter p xs) y → Contains xs y × (p y ≡ true)
  passes [] y c = absurd (contains_nil y c)
  passes (x ∷ xs) y c = elim (decide x) [
    | inl e ↦ elim (contains_cases x y (filter p xs) (subst (λ (ys : List ℕ). Contains ys y) (one_true x xs e) c)) [
      | inl same ↦ (subst (Contains (x ∷ xs)) same (contains_head x xs), subst (λ z. p z ≡ true) same e)
      | inr d ↦ let r = passes xs y d in (contains_tail x y xs r.0, r.1)
    ]
    | inr e ↦ let r = passes xs y (subst (λ (ys : List ℕ). Contains ys y) (one_false x xs e) c) in (contains_tail x y xs r.0, r.1)
  ]

  pub keeps : (xs : List ℕ) (y : ℕ) → Contains xs y → p y ≡ true → Contains (filter p xs) y
  keeps [] y c t = absurd (contains_nil y c)
  keeps (x ∷ xs) y c t = elim (contains_cases x y xs c) [
    | inl same ↦ subst (λ (ys : List ℕ). Contains ys y) (sym (one_true x xs (subst (λ z. p z ≡ true) (sym same) t))) (subst (Contains (x ∷ filter p xs)) same (contains_head x (filter p xs)))
    | inr d ↦ elim (decide x) [
      | inl e ↦ subst (λ (ys : List ℕ). Contains ys y) (sym (one_true x xs e)) (contains_tail x y (filter p xs) (keeps xs y d t))
      | inr e ↦ subst (λ (ys : List ℕ). Contains ys y) (sym (one_false x xs e)) (keeps xs y d t)
    ]
  ]

  -- one more number
  pub more : (n : ℕ) → p n ≡ true → filter p (below (n + 1)) ≡ filter p (below n) ++ n ∷ []
  more n e = ap (λ k. filter p (below k)) (add-one n) ∙ ap (filter p) (sym (below-push n)) ∙ filter-append p (below n) (n ∷ []) ∙ ap (λ (xs : List ℕ). filter p (below n) ++ xs) (one_true n [] e)

  pub no_more : (n : ℕ) → p n ≡ false → filter p (below (n + 1)) ≡ filter p (below n)
  no_more n e = ap (λ k. filter p (below k)) (add-one n) ∙ ap (filter p) (sym (below-push n)) ∙ filter-append p (below n) (n ∷ []) ∙ ap (λ (xs : List ℕ). filter p (below n) ++ xs) (one_false n [] e) ∙ append_nil (filter p (below n))
    where
      append_nil : (xs : List ℕ) → xs ++ [] ≡ xs
      append_nil [] = refl
      append_nil (x ∷ xs) = ap (λ (ys : List ℕ). x ∷ ys) (append_nil xs)

below_ascends : (n : ℕ) → AllPairs (λ t u. t < u) (below n)
below_ascends n i j d less l = let m : j < n = omega (arith, length-range_with_len 0 n) in subst₂ (λ a b. a < b) (sym (at i (omega arith))) (sym (at j m)) less
  where
    at : (k : ℕ) → k < n → slice_index_or (below n) k d ≡ k
    at k l = get_or-range_with_len 0 n k d l ∙ omega arith

pub ascends : (p : ℕ → Bool) (n : ℕ) → AllPairs (λ t u. t < u) (filter p (below n))
ascends p n = AllPairs-filter (λ t u. t < u) p (below n) (below_ascends n)

pub below_holds : (n x : ℕ) → Contains (below n) x → x < n
below_holds n x c = let l : c.0 < n = omega (arith, c.1, length-range_with_len 0 n) in let e : c.0 ≡ x = sym (get_or-range_with_len 0 n c.0 x l ∙ omega arith) ∙ c.2 in omega (arith, e, l)

-- the indices at which the list has this value, with one more index
pub grows : (xs : List ℕ) (x n : ℕ) (before now : List ℕ) → before ≡ filter (λ t. slice_index xs t == x) (below n) → slice_index xs n ≡ x → now ≡ before ++ n ∷ [] → now ≡ filter (λ t. slice_index xs t == x) (below (n + 1))
grows xs x n before now is e f = f ∙ ap (λ (b : List ℕ). b ++ n ∷ []) is ∙ sym (more (λ t. slice_index xs t == x) n (eq-eqb (slice_index xs n) x e))

pub stays : (xs : List ℕ) (x n : ℕ) (before now : List ℕ) → before ≡ filter (λ t. slice_index xs t == x) (below n) → (slice_index xs n ≡ x → ⊥) → now ≡ before → now ≡ filter (λ t. slice_index xs t == x) (below (n + 1))
stays xs x n before now is e f = f ∙ is ∙ sym (no_more (λ t. slice_index xs t == x) n (separate (slice_index xs n) x e))
  where
    separate : (a b : ℕ) → (a ≡ b → ⊥) → (a == b) ≡ false
    separate a b h = go (a == b) refl
      where
        go : (c : Bool) → (a == b) ≡ c → (a == b) ≡ false
        go true e = absurd (h (eqb-true a b e))
        go false e = e
