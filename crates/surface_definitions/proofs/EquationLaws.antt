-- A row is 0 at a vector if and only if the two sides of its equation have the same sum.
use Rattle.std.proofs.Common.{◌≡◌, ℕ, zero, suc, ◌+◌, ◌-◌, ◌*◌, ◌<◌, ◌≤◌, min, Bool, true, false, cond, ℤ, pos, negsuc, ◌-ℤ◌, List, [], ◌∷◌, Some, None, refl, sym, ap, ◌∙◌, arith, ⊎_elim}
use Rattle.std.specs.List.{cons_option, AllByRecursion, range_with_len}
use Rattle.std.specs.Prelude.{◌==◌, if◌then◌else◌, sum_by, slice_index, filter_map}
use Rattle.std.proofs.lemmas.Int.{ints}
use Rattle.std.proofs.lemmas.Bool.{eqb-true, eq-eqb, ne_eqb, cases_eq}
use Rattle.std.proofs.lemmas.List.Sums.{sum_by-cons}
use Rattle.std.proofs.Math.Nat.{add-mul}
use Rattle.table_definitions.specs.Lists.{below, times_in}
use Rattle.surface_definitions.specs.Equations.{Equation, coefficient, term_of, row_of, Holds}
use Rattle.cone_definitions.specs.Rows.{Row as EquationRow, positive_coefficient, negative_coefficient, plus_part, minus_part, IsZeroAt}

positive_of : (z : ℤ) (a b : ℕ) → z ≡ pos a -ℤ pos b → positive_coefficient z ≡ a - b
positive_of (pos k) a b e = omega (arith, ints)
positive_of (negsuc k) a b e = omega (arith, ints)

negative_of : (z : ℤ) (a b : ℕ) → z ≡ pos a -ℤ pos b → negative_coefficient z ≡ b - a
negative_of (pos k) a b e = omega (arith, ints)
negative_of (negsuc k) a b e = omega (arith, ints)

-- the parts of a row are sums over all columns
abbrev surplus : Equation → List ℕ → ℕ → ℕ
surplus e xs c = (times_in e.left c - times_in e.right c) * slice_index xs c

abbrev deficit : Equation → List ℕ → ℕ → ℕ
deficit e xs c = (times_in e.right c - times_in e.left c) * slice_index xs c

no_times : (a b x : ℕ) → a ≡ b → (a - b) * x ≡ 0
no_times a b x e = let zero_is : a - b ≡ 0 = omega arith in ap (λ k. k * x) zero_is ∙ omega arith

abbrev terms_if : Bool → ℕ × ℤ → EquationRow → EquationRow
terms_if b t ts = cons_option (if b then None else Some t) ts

plus_step : (e : Equation) (xs : List ℕ) (c : ℕ) (ts : EquationRow) (b : Bool) → (times_in e.left c == times_in e.right c) ≡ b
    → plus_part (terms_if b (c, coefficient e c) ts) xs ≡ surplus e xs c + plus_part ts xs
plus_step e xs c ts true h =
    let none : surplus e xs c ≡ 0 = no_times (times_in e.left c) (times_in e.right c) (slice_index xs c) (eqb-true (times_in e.left c) (times_in e.right c) h) in
    omega arith
plus_step e xs c ts false h =
    sum_by-cons (λ (t : ℕ × ℤ). positive_coefficient t.1 * slice_index xs t.0) (c, coefficient e c) ts
    ∙ ap (λ k. k * slice_index xs c + plus_part ts xs) (positive_of (coefficient e c) (times_in e.left c) (times_in e.right c) refl)

minus_step : (e : Equation) (xs : List ℕ) (c : ℕ) (ts : EquationRow) (b : Bool) → (times_in e.left c == times_in e.right c) ≡ b
    → minus_part (terms_if b (c, coefficient e c) ts) xs ≡ deficit e xs c + minus_part ts xs
minus_step e xs c ts true h =
    let same : times_in e.right c ≡ times_in e.left c = sym (eqb-true (times_in e.left c) (times_in e.right c) h) in
    let none : deficit e xs c ≡ 0 = no_times (times_in e.right c) (times_in e.left c) (slice_index xs c) same in
    omega arith
minus_step e xs c ts false h =
    sum_by-cons (λ (t : ℕ × ℤ). negative_coefficient t.1 * slice_index xs t.0) (c, coefficient e c) ts
    ∙ ap (λ k. k * slice_index xs c + minus_part ts xs) (negative_of (coefficient e c) (times_in e.left c) (times_in e.right c) refl)

plus_part-terms : (e : Equation) (xs : List ℕ) (cs : List ℕ) → plus_part (filter_map (term_of e) cs) xs ≡ sum_by (surplus e xs) cs
plus_part-terms e xs [] = refl
plus_part-terms e xs (c ∷ cs) =
    plus_step e xs c (filter_map (term_of e) cs) (times_in e.left c == times_in e.right c) refl ∙ ap (λ k. surplus e xs c + k) (plus_part-terms e xs cs) ∙ sym (sum_by-cons (surplus e xs) c cs)

minus_part-terms : (e : Equation) (xs : List ℕ) (cs : List ℕ) → minus_part (filter_map (term_of e) cs) xs ≡ sum_by (deficit e xs) cs
minus_part-terms e xs [] = refl
minus_part-terms e xs (c ∷ cs) =
    minus_step e xs c (filter_map (term_of e) cs) (times_in e.left c == times_in e.right c) refl ∙ ap (λ k. deficit e xs c + k) (minus_part-terms e xs cs) ∙ sym (sum_by-cons (deficit e xs) c cs)

-- sums of sums
sum_by-of_sums : (f g h : ℕ → ℕ) → ((c : ℕ) → f c + g c ≡ h c) → (cs : List ℕ) → sum_by f cs + sum_by g cs ≡ sum_by h cs
sum_by-of_sums f g h each [] = refl
sum_by-of_sums f g h each (c ∷ cs) =
    let more : sum_by f cs + sum_by g cs ≡ sum_by h cs = sum_by-of_sums f g h each cs in
    omega (arith, sum_by-cons f c cs, sum_by-cons g c cs, sum_by-cons h c cs, each c)

-- the entry of a column, as often as the column occurs on both sides
abbrev shared : Equation → List ℕ → ℕ → ℕ
shared e xs c = min (times_in e.left c) (times_in e.right c) * slice_index xs c

split_min : (a b x : ℕ) → (a - b) * x + min a b * x ≡ a * x
split_min a b x = let whole : (a - b) + min a b ≡ a = omega arith in sym (add-mul (a - b) (min a b) x) ∙ ap (λ k. k * x) whole

split_min_right : (a b x : ℕ) → (b - a) * x + min a b * x ≡ b * x
split_min_right a b x = let whole : (b - a) + min a b ≡ b = omega arith in sym (add-mul (b - a) (min a b) x) ∙ ap (λ k. k * x) whole

-- a list's sum, column by column
abbrev times_entry : List ℕ → List ℕ → ℕ → ℕ
times_entry ls xs c = times_in ls c * slice_index xs c

one_or_none : ℕ → List ℕ → ℕ → ℕ
one_or_none l xs c = cond (l == c) 1 0 * slice_index xs c

times_more : (l : ℕ) (ls xs : List ℕ) (c : ℕ) → one_or_none l xs c + times_entry ls xs c ≡ times_entry (l ∷ ls) xs c
unfolding one_or_none
times_more l ls xs c =
    let step : times_in (l ∷ ls) c ≡ cond (l == c) 1 0 + times_in ls c = sum_by-cons (λ m. cond (m == c) 1 0) l ls in
    sym (add-mul (cond (l == c) 1 0) (times_in ls c) (slice_index xs c)) ∙ ap (λ k. k * slice_index xs c) (sym step)

-- one column among those from a onwards
none_before : (l : ℕ) (xs : List ℕ) (n a : ℕ) → l < a → sum_by (one_or_none l xs) (range_with_len a n) ≡ 0
unfolding one_or_none
none_before l xs zero a h = refl
none_before l xs (suc n) a h =
    let separate : (l == a) ≡ false = ne_eqb l a (λ s. omega arith) in
    let here : one_or_none l xs a ≡ 0 = ap (λ (b : Bool). cond b 1 0 * slice_index xs a) separate ∙ omega arith in
    let later : l < a + 1 = omega arith in
    omega (arith, sum_by-cons (one_or_none l xs) a (range_with_len (a + 1) n), none_before l xs n (a + 1) later)

within_first : (l : ℕ) (xs : List ℕ) (n a : ℕ) → l ≡ a → sum_by (one_or_none l xs) (range_with_len a (suc n)) ≡ slice_index xs l
unfolding one_or_none
within_first l xs n a s =
    let test : (l == a) ≡ true = eq-eqb l a s in
    let here : one_or_none l xs a ≡ slice_index xs a = ap (λ (b : Bool). cond b 1 0 * slice_index xs a) test ∙ omega arith in
    let entry : slice_index xs a ≡ slice_index xs l = ap (λ k. slice_index xs k) (sym s) in
    let before : l < a + 1 = omega arith in
    omega (arith, sum_by-cons (one_or_none l xs) a (range_with_len (a + 1) n), none_before l xs n (a + 1) before)

within_later : (l : ℕ) (xs : List ℕ) (n a : ℕ) → (l ≡ a → ⊥) → sum_by (one_or_none l xs) (range_with_len (a + 1) n) ≡ slice_index xs l → sum_by (one_or_none l xs) (range_with_len a (suc n)) ≡ slice_index xs l
unfolding one_or_none
within_later l xs n a separate more =
    let test : (l == a) ≡ false = ne_eqb l a separate in
    let here : one_or_none l xs a ≡ 0 = ap (λ (b : Bool). cond b 1 0 * slice_index xs a) test ∙ omega arith in
    omega (arith, sum_by-cons (one_or_none l xs) a (range_with_len (a + 1) n))

one_within : (l : ℕ) (xs : List ℕ) (n a : ℕ) → a ≤ l → l < a + n → sum_by (one_or_none l xs) (range_with_len a n) ≡ slice_index xs l
one_within l xs zero a low high = absurd (omega arith)
one_within l xs (suc n) a low high =
    ⊎_elim (λ s. within_first l xs n a s)
    (λ separate. let lower : a + 1 ≤ l = omega arith in let higher : l < a + 1 + n = omega arith in within_later l xs n a separate (one_within l xs n (a + 1) lower higher))
    (cases_eq l a)

by_column : (ls xs : List ℕ) (n : ℕ) → AllByRecursion (λ c. c < n) ls → sum_by (times_entry ls xs) (below n) ≡ sum_by (slice_index xs) ls
by_column [] xs n a = none_at (below n)
  where
    none_at : (cs : List ℕ) → sum_by (times_entry [] xs) cs ≡ 0
    none_at [] = refl
    none_at (c ∷ cs) = omega (arith, sum_by-cons (times_entry [] xs) c cs, none_at cs)
by_column (l ∷ ls) xs n a =
    let low : 0 ≤ l = omega arith in
    let high : l < 0 + n = omega (arith, a.0) in
    sym (sum_by-of_sums (one_or_none l xs) (times_entry ls xs) (times_entry (l ∷ ls) xs) (times_more l ls xs) (below n))
    ∙ ap (λ k. k + sum_by (times_entry ls xs) (below n)) (one_within l xs n 0 low high) ∙ ap (λ k. slice_index xs l + k) (by_column ls xs n a.1) ∙ sym (sum_by-cons (slice_index xs) l ls)

-- a row is 0 if and only if the two sides of its equation have the same sum
pub row_is_zero : (e : Equation) (xs : List ℕ) (n : ℕ) → AllByRecursion (λ c. c < n) e.left → AllByRecursion (λ c. c < n) e.right → IsZeroAt (row_of n e) xs → Holds e xs
row_is_zero e xs n l r z =
    let plus : sum_by (surplus e xs) (below n) + sum_by (shared e xs) (below n) ≡ sum_by (times_entry e.left xs) (below n) =
    sum_by-of_sums (surplus e xs) (shared e xs) (times_entry e.left xs) (λ c. split_min (times_in e.left c) (times_in e.right c) (slice_index xs c)) (below n) in
    let minus : sum_by (deficit e xs) (below n) + sum_by (shared e xs) (below n) ≡ sum_by (times_entry e.right xs) (below n) =
    sum_by-of_sums (deficit e xs) (shared e xs) (times_entry e.right xs) (λ c. split_min_right (times_in e.left c) (times_in e.right c) (slice_index xs c)) (below n) in
    let left : sum_by (times_entry e.left xs) (below n) ≡ sum_by (slice_index xs) e.left = by_column e.left xs n l in
    let right : sum_by (times_entry e.right xs) (below n) ≡ sum_by (slice_index xs) e.right = by_column e.right xs n r in
    let same : sum_by (surplus e xs) (below n) ≡ sum_by (deficit e xs) (below n) = sym (plus_part-terms e xs (below n)) ∙ z ∙ minus_part-terms e xs (below n) in
    sym left ∙ sym plus ∙ ap (λ k. k + sum_by (shared e xs) (below n)) same ∙ minus ∙ right

pub zero_row : (e : Equation) (xs : List ℕ) (n : ℕ) → AllByRecursion (λ c. c < n) e.left → AllByRecursion (λ c. c < n) e.right → Holds e xs → IsZeroAt (row_of n e) xs
zero_row e xs n l r h =
    let plus : sum_by (surplus e xs) (below n) + sum_by (shared e xs) (below n) ≡ sum_by (times_entry e.left xs) (below n) =
    sum_by-of_sums (surplus e xs) (shared e xs) (times_entry e.left xs) (λ c. split_min (times_in e.left c) (times_in e.right c) (slice_index xs c)) (below n) in
    let minus : sum_by (deficit e xs) (below n) + sum_by (shared e xs) (below n) ≡ sum_by (times_entry e.right xs) (below n) =
    sum_by-of_sums (deficit e xs) (shared e xs) (times_entry e.right xs) (λ c. split_min_right (times_in e.left c) (times_in e.right c) (slice_index xs c)) (below n) in
    let sides : sum_by (times_entry e.left xs) (below n) ≡ sum_by (times_entry e.right xs) (below n) = by_column e.left xs n l ∙ h ∙ sym (by_column e.right xs n r) in
    plus_part-terms e xs (below n) ∙ cancelled (sum_by (surplus e xs) (below n)) (sum_by (deficit e xs) (below n)) (sum_by (shared e xs) (below n)) (plus ∙ sides ∙ sym minus) ∙ sym (minus_part-terms e xs (below n))
  where
    cancelled : (a b k : ℕ) → a + k ≡ b + k → a ≡ b
    cancelled a b k h = omega arith
