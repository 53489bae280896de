-- Which tetrahedra are seen before a face is read.
use Rattle.std.proofs.Common.{◌≡◌, ℕ, zero, suc, ◌+◌, ◌*◌, ◌/◌, ◌%◌, ◌<◌, ◌≤◌, Bool, true, false, List, [], ◌∷◌, ◌++◌, length, map, refl, sym, ap, ◌∙◌, arith, ⊎_elim}
use Rattle.std.specs.Prelude.{nat_lt, ◌||◌, ◌&&◌, ◌==◌}
use Rattle.std.specs.List.{list_any, range_with_len}
use Rattle.std.proofs.lemmas.Bool.{eqb-true, eq-eqb, lt-ltb, le-ltb, cases_lt, or_left}
use Rattle.basic_lemmas.proofs.Truths.{by_bool}
use Rattle.table_definitions.specs.Lists.{below}
use Rattle.table_definitions.specs.Table.{Row, glue, is_face_before}
use Rattle.signature_definitions.specs.WalkOrder.{is_glued_to, is_seen}
use Rattle.signature_text_laws.proofs.Simulation.{faces-places}
use Rattle.table_definitions.proofs.Marked.{or-false as or_false}
use Rattle.table_definitions.proofs.ListFacts.{below_next}
use Rattle.table_definitions.specs.Places.{face_of}

-- laws of `||` and of tests that some item passes

or_assoc : (a b c : Bool) → ((a || b) || c) ≡ (a || (b || c))
or_assoc true b c = refl
or_assoc false b c = refl

list_any-map : {A B : Type 0} (p : B → Bool) (f : A → B) (xs : List A) → list_any p (map f xs) ≡ list_any (λ x. p (f x)) xs
list_any-map p f [] = refl
list_any-map p f (x ∷ xs) = ap (λ b. p (f x) || b) (list_any-map p f xs)

list_any-same : {A : Type 0} (p q : A → Bool) (xs : List A) → ((x : A) → p x ≡ q x) → list_any p xs ≡ list_any q xs
list_any-same p q [] h = refl
list_any-same p q (x ∷ xs) h = let e = h x in let f = list_any-same p q xs h in cc

not_below : (q : ℕ → Bool) (k a c : ℕ) → k ≤ a → list_any (λ m. nat_lt m k && q m) (range_with_len a c) ≡ false
not_below q k a zero l = refl
not_below q k a (suc c) l = rw (le-ltb a k l) (not_below q k (a + 1) c (omega arith))

any_below : (q : ℕ → Bool) (k a c d : ℕ) → k ≡ a + d → d ≤ c → list_any (λ m. nat_lt m k && q m) (range_with_len a c) ≡ list_any q (range_with_len a d)
any_below q k a c zero e l = not_below q k a c (omega arith)
any_below q k a zero (suc d) e l = absurd (omega arith)
any_below q k a (suc c) (suc d) e l =
    let lt : a < k = omega arith in
    rw (lt-ltb a k lt) (ap (λ b. q a || b) (any_below q k (a + 1) c d (omega arith) (omega arith)))

list_any-append : {A : Type 0} (p : A → Bool) (xs ys : List A) → list_any p (xs ++ ys) ≡ (list_any p xs || list_any p ys)
list_any-append p [] ys = refl
list_any-append p (x ∷ xs) ys = ap (λ b. p x || b) (list_any-append p xs ys) ∙ sym (or_assoc (p x) (list_any p xs) (list_any p ys))

-- the order of faces is that of their indices
pub before_places : (m k : ℕ) → is_face_before (face_of m) (face_of k) ≡ nat_lt m k
before_places m k =
    ⊎_elim
    (λ (l : m < k). sym (lt-ltb m k l ∙ sym (here l)))
    (λ (l : k ≤ m). sym (le-ltb m k l ∙ sym (there l)))
    (cases_lt m k)
  where
    here : m < k → is_face_before (face_of m) (face_of k) ≡ true
    here l = ⊎_elim
        (λ (t : m / 4 < k / 4). or_left (nat_lt (m / 4) (k / 4)) ((m / 4 == k / 4) && nat_lt (m % 4) (k % 4)) (lt-ltb (m / 4) (k / 4) t))
        (λ (t : k / 4 ≤ m / 4). let same : m / 4 ≡ k / 4 = omega arith in let f : m % 4 < k % 4 = omega arith in
        rw (le-ltb (m / 4) (k / 4) t, eq-eqb (m / 4) (k / 4) same, lt-ltb (m % 4) (k % 4) f) refl)
        (cases_lt (m / 4) (k / 4))

    there : k ≤ m → is_face_before (face_of m) (face_of k) ≡ false
    there l =
        let t : k / 4 ≤ m / 4 = omega arith in
        rw (le-ltb (m / 4) (k / 4) t) (by_bool (m / 4 == k / 4)
        (λ e. let same = eqb-true (m / 4) (k / 4) e in let f : k % 4 ≤ m % 4 = omega arith in rw (e, le-ltb (m % 4) (k % 4) f) refl)
        (λ e. rw e refl))

-- whether a tetrahedron is 0, or one of the first k faces is glued to it
pub seen_upto : List Row → ℕ → ℕ → Bool
seen_upto rows k u = (u == 0) || list_any (λ m. is_glued_to u (glue rows (face_of m))) (below k)

pub is_seen-places : (rows : List Row) (k u : ℕ) → k ≤ 4 * length rows → is_seen rows (face_of k) u ≡ seen_upto rows k u
unfolding seen_upto
is_seen-places rows k u l =
    ap (λ b. (u == 0) || b)
    (ap (list_any (λ y. is_face_before y (face_of k) && is_glued_to u (glue rows y))) (faces-places (length rows))
    ∙ list_any-map (λ y. is_face_before y (face_of k) && is_glued_to u (glue rows y)) face_of (below (4 * length rows))
    ∙ list_any-same (λ m. is_face_before (face_of m) (face_of k) && is_glued_to u (glue rows (face_of m))) (λ m. nat_lt m k && is_glued_to u (glue rows (face_of m))) (below (4 * length rows))
    (λ m. ap (λ b. b && is_glued_to u (glue rows (face_of m))) (before_places m k))
    ∙ any_below (λ m. is_glued_to u (glue rows (face_of m))) k 0 (4 * length rows) k (omega arith) l)

seen_upto-more : (rows : List Row) (k u : ℕ) → seen_upto rows (k + 1) u ≡ (seen_upto rows k u || is_glued_to u (glue rows (face_of k)))
unfolding seen_upto
seen_upto-more rows k u =
    ap (λ ks. (u == 0) || list_any (λ m. is_glued_to u (glue rows (face_of m))) ks) (below_next k)
    ∙ ap (λ b. (u == 0) || b) (list_any-append (λ m. is_glued_to u (glue rows (face_of m))) (below k) (k ∷ [])
    ∙ ap (λ b. list_any (λ m. is_glued_to u (glue rows (face_of m))) (below k) || b) (or_false (is_glued_to u (glue rows (face_of k)))))
    ∙ sym (or_assoc (u == 0) (list_any (λ m. is_glued_to u (glue rows (face_of m))) (below k)) (is_glued_to u (glue rows (face_of k))))

-- a further face
pub is_seen-more : (rows : List Row) (k u : ℕ) → k + 1 ≤ 4 * length rows → is_seen rows (face_of (k + 1)) u ≡ (is_seen rows (face_of k) u || is_glued_to u (glue rows (face_of k)))
is_seen-more rows k u l =
    is_seen-places rows (k + 1) u l ∙ seen_upto-more rows k u ∙ ap (λ b. b || is_glued_to u (glue rows (face_of k))) (sym (is_seen-places rows k u (omega arith)))

pub is_seen-begun : (rows : List Row) (u : ℕ) → is_seen rows (face_of 0) u ≡ (u == 0)
is_seen-begun rows u = is_seen-places rows 0 u (omega arith) ∙ begun
  where
    begun : seen_upto rows 0 u ≡ (u == 0)
    begun = unfold seen_upto in or_false (u == 0)

-- a tetrahedron that is seen stays seen
pub is_seen-later : (rows : List Row) (k d u : ℕ) → k + d ≤ 4 * length rows → is_seen rows (face_of k) u ≡ true → is_seen rows (face_of (k + d)) u ≡ true
is_seen-later rows k zero u l h = let e : k + 0 ≡ k = omega arith in rw e h
is_seen-later rows k (suc d) u l h =
    let e : k + suc d ≡ k + d + 1 = omega arith in
    rw e (is_seen-more rows (k + d) u (omega arith) ∙ or_left (is_seen rows (face_of (k + d)) u) (is_glued_to u (glue rows (face_of (k + d)))) (is_seen-later rows k d u (omega arith) h))
