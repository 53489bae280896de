-- The numbering of classes is unique, and each class has its least member.
use Rattle.std.proofs.Common.{◌≡◌, ℕ, zero, suc, ◌<◌, ◌≤◌, true, false, List, length, ◌⊎◌, ◌↔◌, refl, sym, ap, ◌∙◌, subst, arith, ⊎_elim, inl, inr}
use Rattle.std.specs.Prelude.{◌==◌, slice_index}
use Rattle.std.proofs.lemmas.Bool.{eqb-true, eq-eqb, false≢true, cases_order, cases_lt}
use Rattle.std.proofs.lemmas.List.Sums.{fails_before_first, passes_at_first}
use Rattle.table_definitions.specs.Classes.{IsNumbering, least, is_least}

-- m is the least member of the class of i
pub record IsLeastOf (n : ℕ) (Same : ℕ → ℕ → Type 0) (classes : List ℕ) (i m : ℕ) : Type 0 where
  pub below : m < n
  pub same_class : slice_index classes m ≡ slice_index classes i
  pub least_is : is_least classes m ≡ true
  pub same : Same i m

module _ (n : ℕ) (Same : ℕ → ℕ → Type 0) where
  -- if two numberings agree below i, the one does not give i a smaller class than the other
  no_lesser : (one other : List ℕ) (k m : ℕ) → IsNumbering n Same one k → IsNumbering n Same other m → (i : ℕ) → i < n → ((j : ℕ) → j < i → slice_index one j ≡ slice_index other j)
      → slice_index one i < slice_index other i → ⊥
  no_lesser one other k m a b i hi below h =
      let before : (j : ℕ) × (j < i) × (slice_index other j ≡ slice_index one i) = b.ascending i (slice_index one i) hi h in
      let hj : before.0 < n = omega (arith, before.1) in
      let same : slice_index one before.0 ≡ slice_index one i = below before.0 before.1 ∙ before.2 in
      let joined : Same before.0 i = (a.together before.0 i hj hi).0 same in
      let too : slice_index other before.0 ≡ slice_index other i = (b.together before.0 i hj hi).1 joined in
      omega (arith, before.2)

  agree_below : (one other : List ℕ) (k m : ℕ) → IsNumbering n Same one k → IsNumbering n Same other m → (bound : ℕ) → bound ≤ n → (i : ℕ) → i < bound → slice_index one i ≡ slice_index other i
  agree_below one other k m a b zero hb i hi = absurd (omega arith)
  agree_below one other k m a b (suc bound) hb i hi =
      let lesser : bound ≤ n = omega arith in
      let inside : bound < n = omega arith in
      let earlier : (j : ℕ) → j < bound → slice_index one j ≡ slice_index other j = agree_below one other k m a b bound lesser in
      ⊎_elim (λ (h : i < bound). earlier i h)
      (λ (h : bound ≤ i).
      let last : i ≡ bound = omega arith in
      subst (λ j. slice_index one j ≡ slice_index other j) (sym last)
      (⊎_elim (λ (e : slice_index one bound ≡ slice_index other bound). e)
      (λ (separate : (slice_index one bound < slice_index other bound) ⊎ (slice_index other bound < slice_index one bound)).
      absurd (⊎_elim (no_lesser one other k m a b bound inside earlier) (no_lesser other one m k b a bound inside (λ j h. sym (earlier j h))) separate))
      (cases_order (slice_index one bound) (slice_index other bound))))
      (cases_lt i bound)

  -- two numberings of the same classes give each item the same class
  pub numberings_agree : (one other : List ℕ) (k m : ℕ) → IsNumbering n Same one k → IsNumbering n Same other m → (i : ℕ) → i < n → slice_index one i ≡ slice_index other i
  numberings_agree one other k m a b i hi = agree_below one other k m a b n (omega arith) i hi

  -- the least member of a class is a member, and no member is less
  pub least_is_least : (classes : List ℕ) (k : ℕ) → IsNumbering n Same classes k → (i : ℕ) → i < n → least classes (slice_index classes i) ≤ i
  least_is_least classes k a i hi =
      ⊎_elim (λ (h : i < least classes (slice_index classes i)).
      let fails : (slice_index classes i == slice_index classes i) ≡ false = fails_before_first (λ d. d == slice_index classes i) classes i 0 h in
      absurd (false≢true (sym fails ∙ eq-eqb (slice_index classes i) (slice_index classes i) refl)))
      (λ (h : least classes (slice_index classes i) ≤ i). h)
      (cases_lt i (least classes (slice_index classes i)))

  -- a class has its least member
  pub least_class : (classes : List ℕ) (k : ℕ) → IsNumbering n Same classes k → (c : ℕ) → c < k → (least classes c < n) × (slice_index classes (least classes c) ≡ c)
  least_class classes k a c lc =
      let i = a.none_empty c lc in
      let li : i.0 < n = i.1 in
      let up : least classes (slice_index classes i.0) ≤ i.0 = least_is_least classes k a i.0 i.1 in
      let at : least classes (slice_index classes i.0) ≡ least classes c = ap (least classes) i.2 in
      let l : least classes c < n = omega arith in
      let inside : least classes c < length classes = (let e = a.one_each in omega arith) in
      (l, eqb-true (slice_index classes (least classes c)) c (passes_at_first (λ d. d == c) classes 0 inside))

  pub least_of : (classes : List ℕ) (k : ℕ) → IsNumbering n Same classes k → (i : ℕ) → i < n → IsLeastOf n Same classes i (least classes (slice_index classes i))
  least_of classes k a i hi =
      let m : ℕ = least classes (slice_index classes i) in
      let l = least_class classes k a (slice_index classes i) (a.in_range i hi) in
      record { below = l.0; same_class = l.1; least_is = eq-eqb (least classes (slice_index classes m)) m (ap (least classes) l.1); same = (a.together i m hi l.0).0 (sym l.1) }

  -- two least members of one class are equal
  pub one_least : (classes : List ℕ) (k : ℕ) → IsNumbering n Same classes k → (i j : ℕ) → i < n → j < n → is_least classes i ≡ true → is_least classes j ≡ true → Same i j → i ≡ j
  one_least classes k a i j li lj x y s =
      sym (eqb-true (least classes (slice_index classes i)) i x) ∙ ap (least classes) ((a.together i j li lj).1 s) ∙ eqb-true (least classes (slice_index classes j)) j y

  -- the number of classes is unique
  no_more_classes : (classes : List ℕ) (k m : ℕ) → IsNumbering n Same classes k → IsNumbering n Same classes m → k < m → ⊥
  no_more_classes classes k m a b less =
      let last = b.none_empty k less in
      let below : slice_index classes last.0 < k = a.in_range last.0 last.1 in
      let is : slice_index classes last.0 ≡ k = last.2 in omega arith

  pub one_count : (classes : List ℕ) (k m : ℕ) → IsNumbering n Same classes k → IsNumbering n Same classes m → k ≡ m
  one_count classes k m a b = elim (cases_order k m) [
    | inl e ↦ e
    | inr (inl less) ↦ absurd (no_more_classes classes k m a b less)
    | inr (inr more) ↦ absurd (no_more_classes classes m k b a more)
  ]

  -- an equivalent relation has the same numbering
  pub numbering_same : (Other : ℕ → ℕ → Type 0) (classes : List ℕ) (k : ℕ) → IsNumbering n Same classes k → ((i j : ℕ) → i < n → j < n → Same i j ↔ Other i j) → IsNumbering n Other classes k
  numbering_same Other classes k a tie = record {
    one_each = a.one_each;
    in_range = a.in_range;
    together = λ i j l m. (λ e. (tie i j l m).0 ((a.together i j l m).0 e), λ o. (a.together i j l m).1 ((tie i j l m).1 o));
    ascending = a.ascending;
    none_empty = a.none_empty;
  }
