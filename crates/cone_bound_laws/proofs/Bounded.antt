-- A minor is at most the product of the weights of its columns; free columns, in which each row has at most one 1 and
-- one -1, count as 1.
use Rattle.std.proofs.Common.{◌≡◌, ℕ, ◌+◌, ◌*◌, ◌≤◌, List, [], ◌∷◌, ◌++◌, ap, arith, sym, subst, refl, Bool, true, false, cond, ◌⊎◌, inl, inr, ◌∙◌}
use Rattle.std.proofs.lemmas.Bool.{cases_eq}
use Rattle.cone_definitions.specs.Rows.{Row}
use Rattle.cone_bound_laws.proofs.Forms.{Column, behind, both, cut}
use Rattle.cone_bound_laws.proofs.Minors.{IsWithin, minor, one, minor_swaps, minor_adds, Swaps-behind, from_front}
use Rattle.cone_bound_laws.proofs.Weights.{product, spread, product_more, free_product, free_product_inside, Sub, skip, keep, all_of, total, total-sub, total-inside, free_plus, free_minus, IsIdle, spread_bounds, flip}

-- each row has at most one 1 and one -1 in the free columns
unfoldable pub GraphLike : List Column → List Row → Type 0
GraphLike xs [] = Unit {0}
GraphLike xs (row ∷ rows) = (total (free_plus row) xs ≤ 1) × (total (free_minus row) xs ≤ 1) × GraphLike xs rows

-- columns that have at most as much of each row as others
pub fewer : (rows : List Row) (xs ys : List Column) → ((row : Row) → total (free_plus row) ys ≤ total (free_plus row) xs) → ((row : Row) → total (free_minus row) ys ≤ total (free_minus row) xs) →
    GraphLike xs rows → GraphLike ys rows
unfolding GraphLike
fewer [] xs ys p m h = tt
fewer (row ∷ rows) xs ys p m h = (omega (arith, p row, h.0), omega (arith, m row, h.1), fewer rows xs ys p m h.2)

GraphLike-sub : (rows : List Row) (xs ys : List Column) → Sub ys xs → GraphLike xs rows → GraphLike ys rows
GraphLike-sub rows xs ys s h = fewer rows xs ys (λ row. total-sub (free_plus row) s) (λ row. total-sub (free_minus row) s) h

GraphLike-front : (rows : List Row) (before : List Column) (c : Column) (after : List Column) → GraphLike (before ++ c ∷ after) rows → GraphLike (c ∷ before ++ after) rows
unfolding total
GraphLike-front rows before c after h = fewer rows (before ++ c ∷ after) (c ∷ before ++ after)
    (λ row. omega (arith, total-inside (free_plus row) before c after)) (λ row. omega (arith, total-inside (free_minus row) before c after)) h

GraphLike-tail : (rows : List Row) (c : Column) (xs : List Column) → GraphLike (c ∷ xs) rows → GraphLike xs rows
GraphLike-tail rows c xs h = GraphLike-sub rows (c ∷ xs) xs (skip (all_of xs)) h

-- ---- one of several columns

pub record Owner (g : Column → ℕ) (xs : List Column) : Type 0 where
  pub before : List Column
  pub column : Column
  pub after : List Column
  pub is : before ++ column ∷ after ≡ xs
  pub some : 1 ≤ g column

owner : (g : Column → ℕ) (xs : List Column) → (total g xs ≡ 0) ⊎ Owner g xs
unfolding total
owner g [] = inl refl
owner g (c ∷ xs) = elim (cases_eq (g c) 0) [
  | inl z ↦ elim (owner g xs) [
    | inl e ↦ inl (omega arith)
    | inr o ↦ inr (record { before = c ∷ o.before; column = o.column; after = o.after; is = ap (λ ys. c ∷ ys) o.is; some = o.some })
  ]
  | inr some ↦ inr (record { before = []; column = c; after = xs; is = refl; some = omega arith })
]

free_of : (c : Column) (n : ℕ) → 1 ≤ cond c.free n 0 → c.free ≡ true
free_of c n = by c.free
  where
    by : (b : Bool) → 1 ≤ cond b n 0 → b ≡ true
    by true h = refl
    by false h = absurd (omega arith)

plus_of : (row : Row) (c : Column) → c.free ≡ true → free_plus row c ≡ c.plus row
plus_of row c e = ap (λ b. cond b (c.plus row) 0) e

minus_of : (row : Row) (c : Column) → c.free ≡ true → free_minus row c ≡ c.minus row
minus_of row c e = ap (λ b. cond b (c.minus row) 0) e

is_free : (a b : Column) → (both a b).free ≡ true
unfolding both
is_free a b = refl

-- ---- the cases

-- the numbers p and m are 0 or 1
once_within : (p m x y b : ℕ) → p ≤ 1 → m ≤ 1 → IsWithin b x y → IsWithin b (p * x + m * y) (p * y + m * x)
once_within p m x y b hp hm h = elim (cases_eq p 0) [
  | inl zp ↦ elim (cases_eq m 0) [
    | inl zm ↦ record { above = rw (zp, zm) (omega arith); below = rw (zp, zm) (omega arith) }
    | inr sm ↦ let e : m ≡ 1 = omega arith in record { above = rw (zp, e) (omega (arith, h.below)); below = rw (zp, e) (omega (arith, h.above)) }
  ]
  | inr sp ↦ let d : p ≡ 1 = omega arith in elim (cases_eq m 0) [
    | inl zm ↦ record { above = rw (d, zm) (omega (arith, h.above)); below = rw (d, zm) (omega (arith, h.below)) }
    | inr sm ↦ let e : m ≡ 1 = omega arith in record { above = rw (d, e) (omega arith); below = rw (d, e) (omega arith) }
  ]
]

added_within : (a b c x y z w : ℕ) → IsWithin a x y → IsWithin (1 * b) z w → a + b ≤ c → IsWithin c (x + z) (y + w)
added_within a b c x y z w h g l = record { above = omega (arith, h.above, g.above); below = omega (arith, h.below, g.below) }

one_times : (b x y : ℕ) → IsWithin b x y → IsWithin (1 * b) x y
one_times b x y h = record { above = omega (arith, h.above); below = omega (arith, h.below) }

abbrev At : ℕ → List Row → List Column → Type 0
At b rows xs = IsWithin b ((minor rows).up xs) ((minor rows).down xs)

abbrev Bound : List Row → Type 0
Bound rows = (xs : List Column) → GraphLike xs rows → At (product rows xs) rows xs

module _ (row : Row) (rows : List Row) (bound : Bound rows) where
  -- the minors of columns with one or two free columns before them
  behind_free : (a : Column) → a.free ≡ true → (xs : List Column) → GraphLike (a ∷ xs) rows → At (product rows xs) rows (a ∷ xs)
  behind_free a fa xs h = subst (λ n. At n rows (a ∷ xs)) (free_product rows a xs fa) (bound (a ∷ xs) h)

  behind_two : (a b : Column) → a.free ≡ true → b.free ≡ true → (xs : List Column) → GraphLike (a ∷ b ∷ xs) rows → At (product rows xs) rows (a ∷ b ∷ xs)
  behind_two a b fa fb xs h = subst (λ n. At n rows (a ∷ b ∷ xs)) (free_product rows a (b ∷ xs) fa ∙ free_product rows b xs fb) (bound (a ∷ b ∷ xs) h)

  -- the row is 0 in each free column
  none_owns : (xs : List Column) → GraphLike xs rows → IsIdle row xs → At (product (row ∷ rows) xs) (row ∷ rows) xs
  unfolding minor
  none_owns xs h idle = let s : IsWithin (1 * spread row rows xs) (cut row (minor rows).up (minor rows).down xs) (cut row (minor rows).down (minor rows).up xs) =
      spread_bounds xs row rows 1 (minor rows).up (minor rows).down idle (λ ys sub. one_times (product rows ys) ((minor rows).up ys) ((minor rows).down ys) (bound ys (GraphLike-sub rows xs ys sub h))) in
      record { above = omega (arith, s.above, product_more row rows xs); below = omega (arith, s.below, product_more row rows xs) }

  -- the first column is the only free one that is not 0 in the row
  one_owns : (a : Column) (xs : List Column) → a.free ≡ true → a.plus row ≤ 1 → a.minus row ≤ 1 → GraphLike (a ∷ xs) rows → IsIdle row xs → At (product (row ∷ rows) xs) (row ∷ rows) (a ∷ xs)
  unfolding minor cut
  one_owns a xs fa p m h idle =
      let s : IsWithin (1 * spread row rows xs) (cut row (behind a (minor rows).down) (behind a (minor rows).up) xs) (cut row (behind a (minor rows).up) (behind a (minor rows).down) xs) =
      spread_bounds xs row rows 1 (behind a (minor rows).down) (behind a (minor rows).up) idle
      (λ ys sub. one_times (product rows ys) ((minor rows).down (a ∷ ys)) ((minor rows).up (a ∷ ys)) (flip (product rows ys) ((minor rows).up (a ∷ ys)) ((minor rows).down (a ∷ ys))
      (behind_free a fa ys (GraphLike-sub rows (a ∷ xs) (a ∷ ys) (keep sub) h)))) in
      added_within (product rows xs) (spread row rows xs) (product (row ∷ rows) xs)
      (a.plus row * (minor rows).up xs + a.minus row * (minor rows).down xs) (a.plus row * (minor rows).down xs + a.minus row * (minor rows).up xs)
      (cut row (behind a (minor rows).down) (behind a (minor rows).up) xs) (cut row (behind a (minor rows).up) (behind a (minor rows).down) xs)
      (once_within (a.plus row) (a.minus row) ((minor rows).up xs) ((minor rows).down xs) (product rows xs) p m (bound xs (GraphLike-tail rows a xs h))) s (product_more row rows xs)

  both_like : (a b : Column) (xs : List Column) → a.free ≡ true → b.free ≡ true → GraphLike (a ∷ b ∷ xs) rows → GraphLike (both a b ∷ xs) rows
  unfolding total both
  both_like a b xs fa fb h = fewer rows (a ∷ b ∷ xs) (both a b ∷ xs)
      (λ r. omega (arith, plus_of r a fa, plus_of r b fb)) (λ r. omega (arith, minus_of r a fa, minus_of r b fb)) h

  -- the row is 1 in the first column and -1 in the second: their sum replaces them
  two_own : (a b : Column) (xs : List Column) → a.free ≡ true → b.free ≡ true → a.plus row ≡ 1 → a.minus row ≡ 0 → b.plus row ≡ 0 → b.minus row ≡ 1 →
      GraphLike (a ∷ b ∷ xs) rows → IsIdle row xs → At (product (row ∷ rows) xs) (row ∷ rows) (a ∷ b ∷ xs)
  unfolding minor cut
  two_own a b xs fa fb pa ma pb mb h idle =
      let s : IsWithin (1 * spread row rows xs) (cut row (behind b (behind a (minor rows).up)) (behind b (behind a (minor rows).down)) xs) (cut row (behind b (behind a (minor rows).down)) (behind b (behind a (minor rows).up)) xs) =
      spread_bounds xs row rows 1 (behind b (behind a (minor rows).up)) (behind b (behind a (minor rows).down)) idle
      (λ ys sub. one_times (product rows ys) ((minor rows).up (a ∷ b ∷ ys)) ((minor rows).down (a ∷ b ∷ ys))
      (behind_two a b fa fb ys (GraphLike-sub rows (a ∷ b ∷ xs) (a ∷ b ∷ ys) (keep (keep sub)) h))) in
      let joined : At (product rows xs) rows (both a b ∷ xs) = subst (λ n. At n rows (both a b ∷ xs)) (free_product rows (both a b) xs (is_free a b)) (bound (both a b ∷ xs) (both_like a b xs fa fb h)) in
      let e = minor_adds rows a b xs in
      record {
        above = rw (pa, ma, pb, mb) (omega (arith, s.above, joined.above, joined.below, e, product_more row rows xs));
        below = rw (pa, ma, pb, mb) (omega (arith, s.below, joined.above, joined.below, e, product_more row rows xs));
      }

-- ---- these columns are found and moved to the front

rest_is_zero : (g : Column → ℕ) (before : List Column) (c : Column) (after : List Column) → 1 ≤ g c → total g (before ++ c ∷ after) ≤ 1 → total g (before ++ after) ≡ 0
rest_is_zero g before c after some most = omega (arith, total-inside g before c after)

at_most_plus : (row : Row) (rows : List Row) (xs : List Column) → GraphLike xs (row ∷ rows) → total (free_plus row) xs ≤ 1
unfolding GraphLike
at_most_plus row rows xs h = h.0

at_most : (row : Row) (rows : List Row) (xs : List Column) → GraphLike xs (row ∷ rows) → total (free_minus row) xs ≤ 1
unfolding GraphLike
at_most row rows xs h = h.1

last_front : (g : Column → ℕ) (c : Column) (before : List Column) (d : Column) (after : List Column) → total g (c ∷ d ∷ before ++ after) ≤ total g (c ∷ before ++ d ∷ after)
unfolding total
last_front g c before d after = omega (arith, total-inside g before d after)

module _ (row : Row) (rows : List Row) (bound : Bound rows) where
  abbrev Here : List Column → Type 0
  Here xs = At (product (row ∷ rows) xs) (row ∷ rows) xs

  one_inside : (before : List Column) (c : Column) (after : List Column) → c.free ≡ true → IsIdle row (before ++ after) → GraphLike (before ++ c ∷ after) (row ∷ rows) → Here (before ++ c ∷ after)
  unfolding GraphLike
  one_inside before c after fc idle h = subst (λ n. At n (row ∷ rows) (before ++ c ∷ after)) (sym (free_product_inside (row ∷ rows) before c after fc))
      (from_front before (minor (row ∷ rows)).up (minor (row ∷ rows)).down (minor_swaps (row ∷ rows)) (product (row ∷ rows) (before ++ after)) c after
      (one_owns row rows bound c (before ++ after) fc
      (let p : total (free_plus row) (before ++ c ∷ after) ≤ 1 = h.0 in omega (arith, p, total-inside (free_plus row) before c after, plus_of row c fc))
      (let m : total (free_minus row) (before ++ c ∷ after) ≤ 1 = h.1 in omega (arith, m, total-inside (free_minus row) before c after, minus_of row c fc))
      (GraphLike-front rows before c after h.2) idle))

  two_inside : (before : List Column) (c : Column) (after : List Column) → 1 ≤ free_plus row c → Owner (free_minus row) (before ++ after) → GraphLike (before ++ c ∷ after) (row ∷ rows) → Here (before ++ c ∷ after)
  unfolding GraphLike
  two_inside before c after some o h =
      let fc : c.free ≡ true = free_of c (c.plus row) some in
      let fd : o.column.free ≡ true = free_of o.column (o.column.minus row) o.some in
      let p : total (free_plus row) (before ++ c ∷ after) ≤ 1 = h.0 in
      let m : total (free_minus row) (before ++ c ∷ after) ≤ 1 = h.1 in
      let pi : total (free_plus row) (before ++ c ∷ after) ≡ free_plus row c + total (free_plus row) (before ++ after) = total-inside (free_plus row) before c after in
      let mi : total (free_minus row) (before ++ c ∷ after) ≡ free_minus row c + total (free_minus row) (before ++ after) = total-inside (free_minus row) before c after in
      let po : total (free_plus row) (before ++ after) ≡ free_plus row o.column + total (free_plus row) (o.before ++ o.after) =
      ap (total (free_plus row)) (sym o.is) ∙ total-inside (free_plus row) o.before o.column o.after in
      let mo : total (free_minus row) (before ++ after) ≡ free_minus row o.column + total (free_minus row) (o.before ++ o.after) =
      ap (total (free_minus row)) (sym o.is) ∙ total-inside (free_minus row) o.before o.column o.after in
      let some_minus : 1 ≤ free_minus row o.column = o.some in
      let like : GraphLike (c ∷ o.column ∷ o.before ++ o.after) rows = moved before c after o h.2 in
      let front : At (product (row ∷ rows) (o.before ++ o.after)) (row ∷ rows) (c ∷ o.column ∷ o.before ++ o.after) = two_own row rows bound c o.column (o.before ++ o.after) fc fd
      (omega (arith, plus_of row c fc)) (omega (arith, minus_of row c fc)) (omega (arith, plus_of row o.column fd)) (omega (arith, minus_of row o.column fd)) like (omega arith, omega arith) in
      let second : At (product (row ∷ rows) (o.before ++ o.after)) (row ∷ rows) (c ∷ o.before ++ o.column ∷ o.after) =
      from_front o.before (behind c (minor (row ∷ rows)).up) (behind c (minor (row ∷ rows)).down) (Swaps-behind (minor (row ∷ rows)).up (minor (row ∷ rows)).down c (minor_swaps (row ∷ rows)))
      (product (row ∷ rows) (o.before ++ o.after)) o.column o.after front in
      let third : At (product (row ∷ rows) (o.before ++ o.after)) (row ∷ rows) (c ∷ before ++ after) = subst (λ ys. At (product (row ∷ rows) (o.before ++ o.after)) (row ∷ rows) (c ∷ ys)) o.is second in
      let e : product (row ∷ rows) (o.before ++ o.after) ≡ product (row ∷ rows) (before ++ c ∷ after) =
      sym (free_product_inside (row ∷ rows) o.before o.column o.after fd) ∙ ap (product (row ∷ rows)) o.is ∙ sym (free_product_inside (row ∷ rows) before c after fc) in
      subst (λ n. At n (row ∷ rows) (before ++ c ∷ after)) e
      (from_front before (minor (row ∷ rows)).up (minor (row ∷ rows)).down (minor_swaps (row ∷ rows)) (product (row ∷ rows) (o.before ++ o.after)) c after third)
    where
      moved : (before : List Column) (c : Column) (after : List Column) (o : Owner (free_minus row) (before ++ after)) → GraphLike (before ++ c ∷ after) rows → GraphLike (c ∷ o.column ∷ o.before ++ o.after) rows
      moved before c after o g = fewer rows (c ∷ o.before ++ o.column ∷ o.after) (c ∷ o.column ∷ o.before ++ o.after) (λ r. last_front (free_plus r) c o.before o.column o.after) (λ r. last_front (free_minus r) c o.before o.column o.after)
          (subst (λ ys. GraphLike (c ∷ ys) rows) (sym o.is) (GraphLike-front rows before c after g))

module _ (row : Row) (rows : List Row) (bound : Bound rows) where
  abbrev Goal : List Column → Type 0
  Goal xs = At (product (row ∷ rows) xs) (row ∷ rows) xs

  -- a -1 alone
  found_minus : (xs : List Column) → Owner (free_minus row) xs → total (free_plus row) xs ≡ 0 → GraphLike xs (row ∷ rows) → Goal xs
  found_minus xs o z h = subst (λ ys. total (free_plus row) ys ≡ 0 → GraphLike ys (row ∷ rows) → Goal ys) o.is (inside o.before o.column o.after o.some) z h
    where
      inside : (before : List Column) (c : Column) (after : List Column) → 1 ≤ free_minus row c → total (free_plus row) (before ++ c ∷ after) ≡ 0 → GraphLike (before ++ c ∷ after) (row ∷ rows) → Goal (before ++ c ∷ after)
      inside before c after some zp g = one_inside row rows bound before c after (free_of c (c.minus row) some)
          (omega (arith, total-inside (free_plus row) before c after), rest_is_zero (free_minus row) before c after some (at_most row rows (before ++ c ∷ after) g)) g

  -- a 1, and perhaps a -1 elsewhere
  found_plus : (xs : List Column) → Owner (free_plus row) xs → GraphLike xs (row ∷ rows) → Goal xs
  found_plus xs o h = subst (λ ys. GraphLike ys (row ∷ rows) → Goal ys) o.is (inside o.before o.column o.after o.some) h
    where
      inside : (before : List Column) (c : Column) (after : List Column) → 1 ≤ free_plus row c → GraphLike (before ++ c ∷ after) (row ∷ rows) → Goal (before ++ c ∷ after)
      inside before c after some g = elim (owner (free_minus row) (before ++ after)) [
        | inl zm ↦ one_inside row rows bound before c after (free_of c (c.plus row) some) (rest_is_zero (free_plus row) before c after some (at_most_plus row rows (before ++ c ∷ after) g), zm) g
        | inr q ↦ two_inside row rows bound before c after some q g
      ]

pub minors_bounded : (rows : List Row) (xs : List Column) → GraphLike xs rows → IsWithin (product rows xs) ((minor rows).up xs) ((minor rows).down xs)
unfolding GraphLike minor one product
minors_bounded [] [] h = record { above = omega arith; below = omega arith }
minors_bounded [] (c ∷ xs) h = record { above = omega arith; below = omega arith }
minors_bounded (row ∷ rows) xs h = elim (owner (free_plus row) xs) [
  | inl zp ↦ elim (owner (free_minus row) xs) [
    | inl zm ↦ none_owns row rows (minors_bounded rows) xs h.2 (zp, zm)
    | inr o ↦ found_minus row rows (minors_bounded rows) xs o zp h
  ]
  | inr o ↦ found_plus row rows (minors_bounded rows) xs o h
]
