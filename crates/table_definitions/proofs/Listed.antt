-- The items of lists that filters and maps return.
use Rattle.std.proofs.Common.{◌≡◌, ℕ, zero, suc, ◌+◌, ◌<◌, ◌≤◌, Bool, true, false, not, cond, List, [], ◌∷◌, ◌++◌, map, filter, filter_map, flat_map, Option, Some, None, Contains, ◌⊎◌, inl, inr, refl, sym, ap, ◌∙◌, subst, arith}
use Rattle.std.specs.List.{cons_option, AllByRecursion, range_with_len}
use Rattle.table_definitions.specs.Lists.{below, first_some, pairs_of, has}
use Rattle.std.specs.Prelude.{◌==◌, find, ◌||◌}
use Rattle.std.specs.Option.{option_or}
use Rattle.std.proofs.lemmas.Bool.{ne_eqb, eqb-true, eq-eqb, or_cases, false≢true}
use Rattle.table_definitions.specs.Permutation.{four, others}
use Rattle.table_definitions.specs.Table.{Face, faces}
use Rattle.table_definitions.proofs.TableLaws.{Among, Among-left, Among-right, Among-four, four-among}

pub contains_among : {A : Type 0} (x : A) (xs : List A) → Among x xs → Contains xs x
contains_among x [] h = absurd h
contains_among x (y ∷ ys) (inl e) = (0, omega arith, sym e)
contains_among x (y ∷ ys) (inr h) = let c : Contains ys x = contains_among x ys h in (suc c.0, (let l = c.1 in omega arith), c.2)

pub among_contains : {A : Type 0} (x : A) (xs : List A) → Contains xs x → Among x xs
among_contains x [] (k, l, e) = absurd (omega arith)
among_contains x (y ∷ ys) (zero, l, e) = inl (sym e)
among_contains x (y ∷ ys) (suc k, l, e) = inr (among_contains x ys (k, omega arith, e))

-- a number that passes the test of a list occurs in it
pub has_among : (ns : List ℕ) (n : ℕ) → has ns n ≡ true → Among n ns
has_among [] n h = absurd (false≢true h)
has_among (m ∷ ns) n h = pick (or_cases (m == n) (has ns n) h) (λ t. has_among ns n t)
  where
    pick : ((m == n) ≡ true) ⊎ (has ns n ≡ true) → (has ns n ≡ true → Among n ns) → Among n (m ∷ ns)
    pick (inl e) later = inl (sym (eqb-true m n e))
    pick (inr t) later = inr (later t)

pub among_has : (ns : List ℕ) (n : ℕ) → Among n ns → has ns n ≡ true
among_has [] n h = absurd h
among_has (m ∷ ns) n (inl e) = let t : (m == n) ≡ true = eq-eqb m n (sym e) in ap (λ b. b || has ns n) t
among_has (m ∷ ns) n (inr h) = let t : has ns n ≡ true = among_has ns n h in grind arith

-- the items that pass a filter
kept_if : {A : Type 0} (x y : A) (ys : List A) (b : Bool) → (x ≡ y) × (b ≡ true) ⊎ Among x ys → Among x (cond b (y ∷ ys) ys)
kept_if x y ys true (inl e) = inl e.0
kept_if x y ys true (inr h) = inr h
kept_if x y ys false (inl e) = absurd (let c : false ≡ true = e.1 in cc)
kept_if x y ys false (inr h) = h

pub Among-filter : {A : Type 0} (p : A → Bool) (x : A) (xs : List A) → Among x xs → p x ≡ true → Among x (filter p xs)
Among-filter p x [] h t = h
Among-filter p x (y ∷ ys) (inl e) t = kept_if x y (filter p ys) (p y) (inl (e, ap p (sym e) ∙ t))
Among-filter p x (y ∷ ys) (inr h) t = kept_if x y (filter p ys) (p y) (inr (Among-filter p x ys h t))

was_kept : {A : Type 0} (p : A → Bool) (x y : A) (ys : List A) (b : Bool) → p y ≡ b → Among x (cond b (y ∷ ys) ys) → (x ≡ y) × (p x ≡ true) ⊎ Among x ys
was_kept p x y ys true e (inl s) = inl (s, ap p s ∙ e)
was_kept p x y ys true e (inr h) = inr h
was_kept p x y ys false e h = inr h

pub filter-among : {A : Type 0} (p : A → Bool) (x : A) (xs : List A) → Among x (filter p xs) → Among x xs × (p x ≡ true)
filter-among p x [] h = absurd h
filter-among {A} p x (y ∷ ys) h = go (was_kept p x y (filter p ys) (p y) refl h) (λ k. filter-among p x ys k)
  where
    go : (x ≡ y) × (p x ≡ true) ⊎ Among x (filter p ys) → (Among x (filter p ys) → Among x ys × (p x ≡ true)) → Among x (y ∷ ys) × (p x ≡ true)
    go (inl s) more = (inl s.0, s.1)
    go (inr k) more = let m = more k in (inr m.0, m.1)

-- the values of a list of options
some_more : {A : Type 0} (x : A) (o : Option A) (xs : List A) → (o ≡ Some x) ⊎ Among x xs → Among x (cons_option o xs)
some_more x None xs (inl e) = absurd cc
some_more x None xs (inr h) = h
some_more x (Some y) xs (inl e) = inl (sym (let s : y ≡ x = cc in s))
some_more x (Some y) xs (inr h) = inr h

pub Among-filter_map : {A B : Type 0} (h : A → Option B) (x : A) (y : B) (xs : List A) → Among x xs → h x ≡ Some y → Among y (filter_map h xs)
Among-filter_map h x y [] a e = absurd a
Among-filter_map h x y (z ∷ zs) (inl s) e = some_more y (h z) (filter_map h zs) (inl (ap h (sym s) ∙ e))
Among-filter_map h x y (z ∷ zs) (inr a) e = some_more y (h z) (filter_map h zs) (inr (Among-filter_map h x y zs a e))

some_less : {A : Type 0} (x : A) (o : Option A) (xs : List A) → Among x (cons_option o xs) → (o ≡ Some x) ⊎ Among x xs
some_less x None xs h = inr h
some_less x (Some y) xs (inl e) = inl (ap Some (sym e))
some_less x (Some y) xs (inr h) = inr h

pub filter_map-among : {A B : Type 0} (h : A → Option B) (y : B) (xs : List A) → Among y (filter_map h xs) → (x : A) × Among x xs × (h x ≡ Some y)
filter_map-among h y [] a = absurd a
filter_map-among {A} {B} h y (z ∷ zs) a = go (some_less y (h z) (filter_map h zs) a) (λ k. filter_map-among h y zs k)
  where
    go : (h z ≡ Some y) ⊎ Among y (filter_map h zs) → (Among y (filter_map h zs) → (x : A) × Among x zs × (h x ≡ Some y)) → (x : A) × Among x (z ∷ zs) × (h x ≡ Some y)
    go (inl e) more = (z, inl refl, e)
    go (inr k) more = let m = more k in (m.0, inr m.1, m.2)

-- a property of f of each item
pub all_mapped : {A B : Type 0} (P : B → Type 0) (f : A → B) (xs : List A) → ((x : A) → Among x xs → P (f x)) → AllByRecursion P (map f xs)
all_mapped P f [] h = tt
all_mapped P f (x ∷ xs) h = (h x (inl refl), all_mapped P f xs (λ y a. h y (inr a)))

all_appended : {A : Type 0} (P : A → Type 0) (xs ys : List A) → AllByRecursion P xs → AllByRecursion P ys → AllByRecursion P (xs ++ ys)
all_appended P [] ys a b = b
all_appended P (x ∷ xs) ys a b = (a.0, all_appended P xs ys a.1 b)

pub all_flat : {A B : Type 0} (P : B → Type 0) (F : A → List B) (xs : List A) → ((x : A) → Among x xs → AllByRecursion P (F x)) → AllByRecursion P (flat_map F xs)
all_flat P F [] h = tt
all_flat P F (x ∷ xs) h = all_appended P (F x) (flat_map F xs) (h x (inl refl)) (all_flat P F xs (λ y a. h y (inr a)))

pub all_at : {A : Type 0} (P : A → Type 0) (xs : List A) (x : A) → AllByRecursion P xs → Among x xs → P x
all_at P [] x a h = absurd h
all_at P (y ∷ ys) x a (inl e) = subst P (sym e) a.0
all_at P (y ∷ ys) x a (inr h) = all_at P ys x a.1 h

pub all_from : {A : Type 0} (P : A → Type 0) (xs : List A) → ((x : A) → Among x xs → P x) → AllByRecursion P xs
all_from P [] h = tt
all_from P (x ∷ xs) h = (h x (inl refl), all_from P xs (λ y a. h y (inr a)))

pub Among-flat_map : {A B : Type 0} (F : A → List B) (x : A) (y : B) (xs : List A) → Among x xs → Among y (F x) → Among y (flat_map F xs)
Among-flat_map F x y [] a b = absurd a
Among-flat_map F x y (z ∷ zs) (inl e) b = Among-left y (F z) (flat_map F zs) (subst (λ u. Among y (F u)) e b)
Among-flat_map F x y (z ∷ zs) (inr a) b = Among-right y (F z) (flat_map F zs) (Among-flat_map F x y zs a b)

-- the vertices other than f
pub Among-others : (f v : ℕ) → v < 4 → (v ≡ f → ⊥) → Among v (others f)
Among-others f v l separate = Among-filter (λ w. not (w == f)) v four (Among-four v l) (ap not (ne_eqb v f separate))

-- each item of a mapped list is the image of an item
pub map-among : {A B : Type 0} (f : A → B) (y : B) (xs : List A) → Among y (map f xs) → (x : A) × Among x xs × (y ≡ f x)
map-among f y [] h = absurd h
map-among f y (x ∷ xs) (inl e) = (x, inl refl, e)
map-among f y (x ∷ xs) (inr h) = let m = map-among f y xs h in (m.0, inr m.1, m.2)

pub appended-among : {A : Type 0} (x : A) (ys zs : List A) → Among x (ys ++ zs) → Among x ys ⊎ Among x zs
appended-among x [] zs h = inr h
appended-among x (y ∷ ys) zs (inl e) = inl (inl e)
appended-among x (y ∷ ys) zs (inr h) = elim (appended-among x ys zs h) [ inl a ↦ inl (inr a) | inr b ↦ inr b ]

pub flat_map-among : {A B : Type 0} (F : A → List B) (y : B) (xs : List A) → Among y (flat_map F xs) → (x : A) × Among x xs × Among y (F x)
flat_map-among F y [] h = absurd h
flat_map-among {A} {B} F y (x ∷ xs) h = go (appended-among y (F x) (flat_map F xs) h) (λ k. flat_map-among F y xs k)
  where
    go : Among y (F x) ⊎ Among y (flat_map F xs) → (Among y (flat_map F xs) → (z : A) × Among z xs × Among y (F z)) → (z : A) × Among z (x ∷ xs) × Among y (F z)
    go (inl a) more = (x, inl refl, a)
    go (inr k) more = let m = more k in (m.0, inr m.1, m.2)

pub pairs-among : {A B : Type 0} (p : A × B) (xs : List A) (ys : List B) → Among p (pairs_of xs ys) → Among p.0 xs × Among p.1 ys
pairs-among {A} {B} p xs ys h =
    let a : (x : A) × Among x xs × Among p (map (λ (y : B). let q : A × B = (x, y) in q) ys) = flat_map-among (λ (x : A). map (λ (y : B). let q : A × B = (x, y) in q) ys) p xs h in
    let b : (y : B) × Among y ys × (p ≡ (let q : A × B = (a.0, y) in q)) = map-among (λ (y : B). let q : A × B = (a.0, y) in q) p ys a.2 in
    (subst (λ x. Among x xs) (sym (ap (λ (q : A × B). q.0) b.2)) a.1, subst (λ y. Among y ys) (sym (ap (λ (q : A × B). q.1) b.2)) b.1)

pub range-among : (k a n : ℕ) → Among k (range_with_len a n) → (a ≤ k) × (k < a + n)
range-among k a zero h = absurd h
range-among k a (suc n) (inl e) = (omega arith, omega arith)
range-among k a (suc n) (inr h) = let m : (a + 1 ≤ k) × (k < a + 1 + n) = range-among k (a + 1) n h in ((let l = m.0 in omega arith), (let l = m.1 in omega arith))

pub below-among : (k n : ℕ) → Among k (below n) → k < n
below-among k n h = let l : k < 0 + n = (range-among k 0 n h).1 in omega arith

-- the faces of n tetrahedra are in range
pub faces-among : (x : Face) (n : ℕ) → Among x (faces n) → (x.tet < n) × (x.face < 4)
faces-among x n h =
    let m : (p : ℕ × ℕ) × Among p (pairs_of (below n) four) × (x ≡ (let y : Face = record { tet = p.0; face = p.1 } in y)) = map-among (λ (p : ℕ × ℕ). let y : Face = record { tet = p.0; face = p.1 } in y) x (pairs_of (below n) four) h in
    let a : Among m.0.0 (below n) × Among m.0.1 four = pairs-among {A = ℕ} {B = ℕ} m.0 (below n) four m.1 in
    (subst (λ t. t < n) (sym (ap (λ (y : Face). y.tet) m.2)) (below-among m.0.0 n a.0), subst (λ f. f < 4) (sym (ap (λ (y : Face). y.face) m.2)) (four-among m.0.1 a.1))

-- the first item that is found
pub found_among : {A : Type 0} (p : A → Bool) (xs : List A) (x : A) → find p xs ≡ Some x → Among x xs
found_among p [] x e = cc
found_among {A} p (y ∷ ys) x e = by_test (p y) e (λ f. found_among p ys x f)
  where
    by_test : (b : Bool) → cond b (Some y) (find p ys) ≡ Some x → (find p ys ≡ Some x → Among x ys) → Among x (y ∷ ys)
    by_test true f later = let is : y ≡ x = cc in inl (sym is)
    by_test false f later = inr (later f)

-- if no item gives a result, there is none
pub first_some-nowhere : {A B : Type 0} (f : A → Option B) (xs : List A) → ((x : A) → Among x xs → f x ≡ None) → first_some f xs ≡ None
first_some-nowhere f [] none = refl
first_some-nowhere {A} {B} f (x ∷ xs) none =
    ap (λ (o : Option B). option_or o (first_some f xs)) (none x (inl refl)) ∙ first_some-nowhere f xs (λ y a. none y (inr a))
