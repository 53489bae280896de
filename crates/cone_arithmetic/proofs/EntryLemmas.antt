-- Lemmas on sums of vectors, common divisors and the division of entries.
use Rattle.std.proofs.Common.{refl, Less, Equal, nat_cmp, ◌≡◌, ◌≢◌, ℕ, zero, suc, ◌+◌, ◌*◌, ◌/◌, ◌<◌, ◌≤◌, ◌^◌, List, [], ◌∷◌, ◌++◌, length, length-take, take, drop, get_or-take, map, get_or, ⊎_elim, ap, ◌∙◌, sym, subst, arith}
use Rattle.std.proofs.lemmas.Bool.{cases_lt, cases_eq}
use Rattle.std.proofs.lemmas.List.{get_or_past, take_all, take-append-le, take_more, length-map}
use Rattle.std.proofs.lemmas.Nat.Gcd.{dvd_trans, dvd-zero}
use Rattle.std.proofs.Math.Nat.{one-dvd, pos_of_dvd_of_pos, div-le_self, mul-div_cancel'}
use Rattle.std.specs.Ordering.{ordering_then}
use Rattle.std.specs.Cmp.{nat_cmp_is}
use Rattle.std.specs.Cmp.Lexicographic.{slice_cmp}
use Rattle.std.specs.Int.{IsGcd, ◌∣◌}
use Rattle.basic_lemmas.proofs.Lists.{take_other}
use Rattle.cone_definitions.specs.Vectors.{IsNonzero, multiple, sum_of}
use Rattle.cone_definitions.proofs.Entries.{length-multiple, entry-multiple, length-sum_of, entry-sum_of}
use Rattle.cone_definitions.proofs.Divisors.{entry-divided, divided_is, divided_primitive}
use Rattle.cone_arithmetic.specs.RayEntries.{IsReduced}
use Rattle.cone_arithmetic.specs.Combinations.{IsEntriesGcd, IsDividedByGcd, IsReducedBy}

-- an entry of a times w plus b times u
pub entry-sums : (a b : ℕ) (w u : List ℕ) → length u ≡ length w → (k : ℕ) →
    get_or (sum_of (multiple a w) (multiple b u)) k 0 ≡ a * get_or w k 0 + b * get_or u k 0
entry-sums a b w u same k =
    entry-sum_of (multiple a w) (multiple b u) (length-multiple a w ∙ sym same ∙ sym (length-multiple b u)) k ∙
    ap (λ n. n + get_or (multiple b u) k 0) (entry-multiple a w k) ∙ ap (λ n. a * get_or w k 0 + n) (entry-multiple b u k)

pub length-sums : (a b : ℕ) (w u : List ℕ) → length u ≡ length w → length (sum_of (multiple a w) (multiple b u)) ≡ length w
length-sums a b w u same = length-sum_of (multiple a w) (multiple b u) (length-multiple a w ∙ sym same ∙ sym (length-multiple b u)) ∙ length-multiple a w

-- the entry at index i of the first i + 1 entries
pub take_at : (x : List ℕ) (i : ℕ) → get_or (take (i + 1) x) i 0 ≡ get_or x i 0
take_at x i = get_or-take (i + 1) x i 0 (omega arith)

pub take_past : (x : List ℕ) (i : ℕ) → get_or (take i x) i 0 ≡ 0
take_past x i = get_or_past (take i x) i 0 (omega (arith, length-take i x))

-- the greatest common divisor of one more entry
pub entries_gcd_more : (x : List ℕ) (i d g : ℕ) → IsEntriesGcd (take i x) d → IsGcd d (get_or x i 0) g → IsEntriesGcd (take (i + 1) x) g
entries_gcd_more x i d g before more = record {
  divides = λ column. ⊎_elim
      (λ h. subst (λ n. g ∣ n) (sym (ap (λ k. get_or (take (i + 1) x) k 0) h ∙ take_at x i)) more.1)
      (λ other. subst (λ n. g ∣ n) (sym (take_other x i column other)) (dvd_trans g more.0 (before.divides column)))
      (cases_eq column i);
  greatest = λ e h. more.2 e
      (before.greatest e (λ column. ⊎_elim
      (λ same. subst (λ n. e ∣ n) (sym (ap (λ k. get_or (take i x) k 0) same ∙ take_past x i)) (dvd-zero e))
      (λ other. subst (λ n. e ∣ n) (take_other x i column other) (h column))
      (cases_eq column i)))
      (subst (λ n. e ∣ n) (take_at x i) (h i));
}

-- if the greatest common divisor of some entries is 1, so is that of all
pub entries_gcd_one : (x : List ℕ) (i : ℕ) → IsEntriesGcd (take i x) 1 → IsEntriesGcd x 1
entries_gcd_one x i some = record {
  divides = λ column. one-dvd (get_or x column 0);
  greatest = λ d h. some.greatest d (λ column. ⊎_elim
      (λ before. subst (λ n. d ∣ n) (sym (get_or-take i x column 0 before)) (h column))
      (λ exceeded. subst (λ n. d ∣ n) (sym (get_or_past (take i x) column 0 (omega (arith, length-take i x)))) (dvd-zero d))
      (cases_lt column i));
}

-- the greatest common divisor of two nonzero numbers is nonzero, and so is each of them divided by it
pub positive_divisor : (a b g : ℕ) → IsGcd a b g → 1 ≤ a → 0 < g
positive_divisor a b g h some = pos_of_dvd_of_pos h.0 some

pub quotient_positive : (a g : ℕ) → g ∣ a → 1 ≤ a → 1 ≤ a / g
quotient_positive a g h some = ⊎_elim (λ none. absurd (no_quotient (a / g) (mul-div_cancel' g h) (omega arith))) (λ k. k) (cases_lt (a / g) 1)
  where
    no_quotient : (q : ℕ) → g * q ≡ a → q ≡ 0 → ⊥
    no_quotient q e z = let f : g * q ≡ 0 = ap (λ n. g * n) z ∙ (let k : g * 0 ≡ 0 = omega arith in k) in omega arith

-- a combination of two rays is not 0
pub sums_nonzero : (a b : ℕ) (w u : List ℕ) → length u ≡ length w → 1 ≤ b → IsNonzero u → IsNonzero (sum_of (multiple a w) (multiple b u))
sums_nonzero a b w u same some nonzero =
    (nonzero.0, λ e. product_positive b (get_or u nonzero.0 0) some nonzero.1 (let f : a * get_or w nonzero.0 0 + b * get_or u nonzero.0 0 ≡ 0 = sym (entry-sums a b w u same nonzero.0) ∙ e in omega arith))
  where
    product_positive : (p q : ℕ) → 1 ≤ p → q ≢ 0 → p * q ≡ 0 → ⊥
    product_positive (suc p) zero h k e = k (omega arith)
    product_positive (suc p) (suc q) h k e = omega arith
    product_positive zero q h k e = omega arith

-- the greatest common divisor of entries that are not all 0 is nonzero
pub entries_gcd_positive : (z : List ℕ) (g : ℕ) → IsEntriesGcd z g → IsNonzero z → 0 < g
entries_gcd_positive z g h nonzero = pos_of_dvd_of_pos (h.divides nonzero.0) (let k : get_or z nonzero.0 0 ≢ 0 = nonzero.1 in omega arith)

-- the entries divided by their greatest common divisor
pub divided_reduced : (limit most : ℕ) (z : List ℕ) (g : ℕ) → IsEntriesGcd z g → IsNonzero z → length z < 2 ^ 32 →
    ((column : ℕ) → get_or z column 0 ≤ limit) → limit ≤ most → IsReduced most (map (λ entry. entry / g) z)
divided_reduced limit most z g h nonzero width within up = record {
  width = simp length-map width;
  bounded = λ column. let e = entry-divided g z column in omega (arith, div-le_self (get_or z column 0) g, within column);
  nonzero = (nonzero.0, λ e. nonzero.1 (sym (mul-div_cancel' g (h.divides nonzero.0)) ∙ ap (λ n. g * n) (sym (entry-divided g z nonzero.0) ∙ e) ∙ (let k : g * 0 ≡ 0 = omega arith in k)));
  primitive = divided_primitive g z nonzero h.divides h.greatest;
}

pub reduced_by : (limit at_u at_w d : ℕ) (u w : List ℕ) (g : ℕ) → IsGcd at_u at_w d → (z : List ℕ) → z ≡ sum_of (multiple (at_u / d) w) (multiple (at_w / d) u) →
    IsEntriesGcd z g → IsNonzero z → ((column : ℕ) → get_or z column 0 ≤ limit) → IsReducedBy limit at_u at_w u w (map (λ entry. entry / g) z)
reduced_by limit at_u at_w d u w g gcd z is h nonzero within = record {
  combination = z;
  combines = record { divisor = d; greatest = gcd; sum = is };
  within = within;
  divisor = g;
  is_multiple = divided_is g z h.divides;
  primitive = divided_primitive g z nonzero h.divides h.greatest;
}

-- after all entries are overwritten, the list has the new ones
pub refilled : (n : ℕ) (xs ys : List ℕ) → length xs ≡ n → take n (xs ++ drop (length xs) ys) ≡ xs
refilled n xs ys same = take-append-le n xs (drop (length xs) ys) (omega arith) ∙ take_all n xs (omega arith)

-- the entries of a combination, divided by their greatest common divisor
pub record Combined (limit most at_u at_w g : ℕ) (u w items : List ℕ) : Type 0 where
  pub positive : 0 < g
  pub reduced : IsReduced most (map (λ entry. entry / g) items)
  pub by_values : IsReducedBy limit at_u at_w u w (map (λ entry. entry / g) items)

pub combined : (limit most at_u at_w d g : ℕ) (u w listed_u listed_w items z : List ℕ) → IsGcd at_u at_w d → 1 ≤ at_u → 1 ≤ at_w → length u ≡ length w →
    listed_w ≡ w → listed_u ≡ u → length w < 2 ^ 32 → IsReduced most u → limit ≤ most →
    items ≡ sum_of (multiple (at_u / d) listed_w) (multiple (at_w / d) listed_u) →
    ((column : ℕ) → get_or (sum_of (multiple (at_u / d) listed_w) (multiple (at_w / d) listed_u)) column 0 ≤ limit) →
    z ≡ items → IsEntriesGcd z g → Combined limit most at_u at_w g u w items
combined limit most at_u at_w d g u w listed_u listed_w items z gcd some_u some_w same w_is u_is width u_reduced up is within z_is h = record {
  positive = entries_gcd_positive items g common nonzero;
  reduced = divided_reduced limit most items g common nonzero (let e = ap length sums in omega (arith, length-sums (at_u / d) (at_w / d) w u same, width)) bounded up;
  by_values = reduced_by limit at_u at_w d u w g gcd items sums common nonzero bounded;
}
  where
    sums : items ≡ sum_of (multiple (at_u / d) w) (multiple (at_w / d) u)
    sums = is ∙ ap (λ x. sum_of (multiple (at_u / d) x) (multiple (at_w / d) listed_u)) w_is ∙ ap (λ x. sum_of (multiple (at_u / d) w) (multiple (at_w / d) x)) u_is

    common : IsEntriesGcd items g
    common = subst (λ x. IsEntriesGcd x g) z_is h

    nonzero : IsNonzero items
    nonzero = subst IsNonzero (sym sums) (sums_nonzero (at_u / d) (at_w / d) w u same (quotient_positive at_w d gcd.1 some_w) u_reduced.nonzero)

    bounded : (column : ℕ) → get_or items column 0 ≤ limit
    bounded column = let e = ap (λ x. get_or x column 0) is in omega (arith, within column)

-- the list after its entries are overwritten by the divided ones
pub divided_in_place : (n g : ℕ) (items lent new : List ℕ) → lent ≡ items → new ≡ map (λ entry. entry / g) lent → n ≡ length items →
    take n (new ++ drop (length new) items) ≡ map (λ entry. entry / g) items
divided_in_place n g items lent new lent_is new_is count =
    refilled n new items (ap length new_is ∙ length-map lent (λ entry. entry / g) ∙ ap length lent_is ∙ sym count) ∙ new_is ∙ ap (λ x. map (λ entry. entry / g) x) lent_is

-- entries that are divided by their greatest common divisor, if these are those of a combination
pub combined_divided : (limit most at_u at_w d : ℕ) (u w items divided : List ℕ) → IsGcd at_u at_w d → 1 ≤ at_u → 1 ≤ at_w → length u ≡ length w →
    IsReduced most u → limit ≤ most → items ≡ sum_of (multiple (at_u / d) w) (multiple (at_w / d) u) →
    ((column : ℕ) → get_or (sum_of (multiple (at_u / d) w) (multiple (at_w / d) u)) column 0 ≤ limit) →
    IsDividedByGcd items divided → IsReduced most divided × IsReducedBy limit at_u at_w u w divided
combined_divided limit most at_u at_w d u w items divided gcd some_u some_w same u_reduced up is within by_gcd =
    subst (λ x. IsReduced most x × IsReducedBy limit at_u at_w u w x) (sym (by_gcd.quotients k.positive)) (k.reduced, k.by_values)
  where
    k : Combined limit most at_u at_w by_gcd.divisor u w items
    k = combined limit most at_u at_w d by_gcd.divisor u w u w items items gcd some_u some_w same refl refl
        (let e = u_reduced.width in omega (arith, e, same)) u_reduced up is within refl by_gcd.greatest

-- one more sum
pub sums_more : (z : List ℕ) (column limit n : ℕ) (sums : List ℕ) → sums ≡ take column z → column < length z → get_or z column 0 ≡ n → sums ++ n ∷ [] ≡ take (column + 1) z
sums_more z column limit n sums so_far within is = ap (λ x. x ++ n ∷ []) so_far ∙ ap (λ m. take column z ++ m ∷ []) (sym is) ∙ sym (take_more z column 0 within)

-- a proper prefix is less
pub less_than_longer : (x rest : List ℕ) → rest ≢ [] → slice_cmp nat_cmp x (x ++ rest) ≡ Less
less_than_longer [] [] some = absurd (some refl)
less_than_longer [] (y ∷ rest) some = refl
less_than_longer (a ∷ x) rest some = ap (λ r. ordering_then r (slice_cmp nat_cmp x (x ++ rest))) (sym (nat_cmp_is a a Equal refl)) ∙ less_than_longer x rest some

-- a combination is as wide as the two rays
pub reduced_columns : (limit at_u at_w : ℕ) (u w x : List ℕ) → length u ≡ length w → IsReducedBy limit at_u at_w u w x → length x ≡ length u
reduced_columns limit at_u at_w u w x same r =
    sym (length-multiple r.divisor x) ∙ ap length (sym r.is_multiple) ∙ ap length r.combines.sum ∙
    length-sums (at_u / r.combines.divisor) (at_w / r.combines.divisor) w u same ∙ sym same
