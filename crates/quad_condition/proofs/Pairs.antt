-- The clashing pairs, one more column at a time, and the first pair of which both columns are nonzero.
use Rattle.std.proofs.Common.{◌≡◌, ◌≢◌, ℕ, zero, suc, ◌+◌, ◌-◌, ◌<◌, ◌≤◌, Bool, true, false, cond, List, [], ◌∷◌, ◌++◌, map, filter, Some, None, refl, sym, ap, ◌∙◌, arith, add-zero, append_assoc, append-nil}
use Rattle.std.specs.List.{flat_map, find}
use Rattle.std.specs.Option.{option_or}
use Rattle.std.specs.Prelude.{nat_lt, ◌&&◌, slice_index}
use Rattle.std.proofs.lemmas.Bool.{lt-ltb, le-ltb, and_left, and_right, and_from}
use Rattle.std.proofs.lemmas.List.Elements.{filter-append}
use Rattle.std.proofs.lemmas.List.Folds.{find-append}
use Rattle.std.proofs.lemmas.List.FromFn.{filter_of_map_range_with_len_more}
use Rattle.surface_definitions.proofs.Ranges.{flat_map-more}
use Rattle.table_definitions.specs.Lists.{below}
use Rattle.surface_definitions.specs.Coordinates.{columns, clash_test, clash_list}
use Rattle.surface_definitions.specs.declared.Coords.{Coords}
use Rattle.surface_definitions.specs.Verdict.{both_nonzero}
use Rattle.surface_definitions.specs.ClashPairs.{is_clash}
use Rattle.quad_condition.specs.Partners.{partners}

abbrev pub Pairs : Type 0
Pairs = List (ℕ × ℕ)

-- the pairs of a column with the clashing ones between it and another
abbrev pub partners_before : Coords → ℕ → ℕ → Pairs
partners_before coords first second = filter (is_clash coords) (map (λ k. (first, k)) (below second))

pub partners_more : (coords : Coords) (first second : ℕ) → partners_before coords first (second + 1) ≡ partners_before coords first second ++ cond (is_clash coords (first, second)) ((first, second) ∷ []) []
partners_more coords first second = let e : 0 + second ≡ second = omega arith in filter_of_map_range_with_len_more (is_clash coords) (λ k. (first, k)) 0 second second e

-- columns without a clash add nothing
quiet : (coords : Coords) (first a d : ℕ) → ((k : ℕ) → a ≤ k → k < a + d → is_clash coords (first, k) ≡ false) → partners_before coords first (a + d) ≡ partners_before coords first a
quiet coords first a zero none = ap (partners_before coords first) (add-zero a)
quiet coords first a (suc d) none =
    let e : a + suc d ≡ (a + d) + 1 = omega arith in
    let here : is_clash coords (first, a + d) ≡ false = none (a + d) (omega arith) (omega arith) in
    ap (partners_before coords first) e ∙ partners_more coords first (a + d)
    ∙ ap (λ b. partners_before coords first (a + d) ++ cond b ((first, a + d) ∷ []) []) here
    ∙ append-nil (partners_before coords first (a + d)) ∙ quiet coords first a d (λ k low high. none k low (omega arith))

not_before : (coords : Coords) (first k : ℕ) → k ≤ first → is_clash coords (first, k) ≡ false
not_before coords first k h = and_left (nat_lt first k) (clash_test coords first k) (le-ltb first k h)

pub partners_start : (coords : Coords) (first : ℕ) → partners_before coords first (first + 1) ≡ []
partners_start coords first =
    let e : 0 + (first + 1) ≡ first + 1 = omega arith in
    ap (partners_before coords first) (sym e) ∙ quiet coords first 0 (first + 1) (λ k low high. not_before coords first k (omega arith))

pub partners_whole : (coords : Coords) (n first last : ℕ) → last ≤ columns coords n → ((k : ℕ) → last ≤ k → k < columns coords n → clash_test coords first k ≡ false)
    → partners_before coords first last ≡ partners coords n first
unfolding partners
partners_whole coords n first last within none =
    let e : last + (columns coords n - last) ≡ columns coords n = omega arith in
    sym (ap (partners_before coords first) (sym e)
    ∙ quiet coords first last (columns coords n - last) (λ k low high. and_right (nat_lt first k) (clash_test coords first k) (none k low (omega arith))))

-- a list that is followed by more
pub record IsPrefix (xs ys : Pairs) : Type 0 where
  pub rest : Pairs
  pub is : ys ≡ xs ++ rest

pub prefix_by : (coords : Coords) (first a d : ℕ) → IsPrefix (partners_before coords first a) (partners_before coords first (a + d))
prefix_by coords first a zero = record { rest = []; is = ap (partners_before coords first) (add-zero a) ∙ sym (append-nil (partners_before coords first a)) }
prefix_by coords first a (suc d) =
    let e : a + suc d ≡ (a + d) + 1 = omega arith in
    let one : Pairs = cond (is_clash coords (first, a + d)) ((first, a + d) ∷ []) [] in
    let before : IsPrefix (partners_before coords first a) (partners_before coords first (a + d)) = prefix_by coords first a d in
    record {
      rest = before.rest ++ one;
      is = ap (partners_before coords first) e ∙ partners_more coords first (a + d) ∙ ap (λ xs. xs ++ one) before.is ∙ append_assoc (partners_before coords first a) before.rest one;
    }

find-prefix : (p : ℕ × ℕ → Bool) (xs ys : Pairs) (v : ℕ × ℕ) → IsPrefix xs ys → find p xs ≡ Some v → find p ys ≡ Some v
find-prefix p xs ys v h e = ap (find p) h.is ∙ find-append p xs h.rest ∙ ap (λ o. option_or o (find p h.rest)) e

one_more : (p : ℕ × ℕ → Bool) (coords : Coords) (first second : ℕ) → find p (partners_before coords first second) ≡ None
    → find p (partners_before coords first (second + 1)) ≡ find p (cond (is_clash coords (first, second)) ((first, second) ∷ []) [])
one_more p coords first second none =
    ap (find p) (partners_more coords first second) ∙ find-append p (partners_before coords first second) (cond (is_clash coords (first, second)) ((first, second) ∷ []) [])
    ∙ ap (λ o. option_or o (find p (cond (is_clash coords (first, second)) ((first, second) ∷ []) []))) none

pub found_none : (x : List ℕ) (coords : Coords) (first second : ℕ) → find (both_nonzero x) (partners_before coords first second) ≡ None → clash_test coords first second ≡ false
    → find (both_nonzero x) (partners_before coords first (second + 1)) ≡ None
found_none x coords first second none no_clash =
    one_more (both_nonzero x) coords first second none
    ∙ ap (λ b. find (both_nonzero x) (cond b ((first, second) ∷ []) [])) (and_right (nat_lt first second) (clash_test coords first second) no_clash)

pub found_zero : (x : List ℕ) (coords : Coords) (first second : ℕ) → find (both_nonzero x) (partners_before coords first second) ≡ None → slice_index x second ≡ 0
    → find (both_nonzero x) (partners_before coords first (second + 1)) ≡ None
found_zero x coords first second none z = one_more (both_nonzero x) coords first second none ∙ go (is_clash coords (first, second))
  where
    both : both_nonzero x (first, second) ≡ false
    both = and_right (nat_lt 0 (slice_index x first)) (nat_lt 0 (slice_index x second)) (ap (λ k. nat_lt 0 k) z)

    go : (b : Bool) → find (both_nonzero x) (cond b ((first, second) ∷ []) []) ≡ None
    go true = ap (λ b. cond b (Some (first, second)) None) both
    go false = refl

pub found_one : (x : List ℕ) (coords : Coords) (n first second : ℕ) → find (both_nonzero x) (partners_before coords first second) ≡ None → first < second → second < columns coords n
    → slice_index x first ≢ 0 → slice_index x second ≢ 0 → clash_test coords first second ≡ true → find (both_nonzero x) (partners coords n first) ≡ Some (first, second)
unfolding partners
found_one x coords n first second none less within some_first some_second clashes =
    let p : IsPrefix (partners_before coords first (second + 1)) (partners_before coords first ((second + 1) + (columns coords n - (second + 1)))) = prefix_by coords first (second + 1) (columns coords n - (second + 1)) in
    let e : (second + 1) + (columns coords n - (second + 1)) ≡ columns coords n = omega arith in
    let is : is_clash coords (first, second) ≡ true = and_from (nat_lt first second) (clash_test coords first second) (lt-ltb first second less) clashes in
    let low : 0 < slice_index x first = omega arith in
    let high : 0 < slice_index x second = omega arith in
    let both : both_nonzero x (first, second) ≡ true = and_from (nat_lt 0 (slice_index x first)) (nat_lt 0 (slice_index x second)) (lt-ltb 0 (slice_index x first) low) (lt-ltb 0 (slice_index x second) high) in
    let here : find (both_nonzero x) (partners_before coords first (second + 1)) ≡ Some (first, second) =
    one_more (both_nonzero x) coords first second none ∙ ap (λ b. find (both_nonzero x) (cond b ((first, second) ∷ []) [])) is ∙ ap (λ b. cond b (Some (first, second)) None) both in
    ap (λ k. find (both_nonzero x) (partners_before coords first k)) (sym e) ∙ find-prefix (both_nonzero x) _ _ (first, second) p here

-- a column that is 0 is in no pair that is found
zero_step : (x : List ℕ) (first k : ℕ) (rest : Pairs) (b : Bool) → slice_index x first ≡ 0 → find (both_nonzero x) rest ≡ None → find (both_nonzero x) (cond b ((first, k) ∷ rest) rest) ≡ None
zero_step x first k rest true z none =
    let both : both_nonzero x (first, k) ≡ false = and_left (nat_lt 0 (slice_index x first)) (nat_lt 0 (slice_index x k)) (ap (λ m. nat_lt 0 m) z) in
    ap (λ b. cond b (Some (first, k)) (find (both_nonzero x) rest)) both ∙ none
zero_step x first k rest false z none = none

zero_first : (x : List ℕ) (first : ℕ) (p : ℕ × ℕ → Bool) (ks : List ℕ) → slice_index x first ≡ 0 → find (both_nonzero x) (filter p (map (λ k. (first, k)) ks)) ≡ None
zero_first x first p [] z = refl
zero_first x first p (k ∷ ks) z = zero_step x first k (filter p (map (λ m. (first, m)) ks)) (p (first, k)) z (zero_first x first p ks z)

pub found_no_first : (x : List ℕ) (coords : Coords) (n first : ℕ) → slice_index x first ≡ 0 → find (both_nonzero x) (partners coords n first) ≡ None
unfolding partners
found_no_first x coords n first z = zero_first x first (is_clash coords) (below (columns coords n)) z

-- all pairs, column by column
filter-flat_map : (p : ℕ × ℕ → Bool) (h : ℕ → Pairs) (ks : List ℕ) → filter p (flat_map h ks) ≡ flat_map (λ k. filter p (h k)) ks
filter-flat_map p h [] = refl
filter-flat_map p h (k ∷ ks) = filter-append p (h k) (flat_map h ks) ∙ ap (λ xs. filter p (h k) ++ xs) (filter-flat_map p h ks)

pub all_pairs : (coords : Coords) (n : ℕ) → flat_map (partners coords n) (below (columns coords n)) ≡ clash_list coords n
unfolding partners clash_list
all_pairs coords n = sym (filter-flat_map (is_clash coords) (λ first. map (λ second. (first, second)) (below (columns coords n))) (below (columns coords n)))

abbrev pub pairs_before : Coords → ℕ → ℕ → Pairs
pairs_before coords n first = flat_map (partners coords n) (below first)

pub pairs_more : (coords : Coords) (n first : ℕ) (old new : Pairs) → old ≡ pairs_before coords n first → new ≡ old ++ partners coords n first → new ≡ pairs_before coords n (first + 1)
pairs_more coords n first old new e f = f ∙ ap (λ r. r ++ partners coords n first) e ∙ sym (flat_map-more (partners coords n) first)

find_more : (p : ℕ × ℕ → Bool) (coords : Coords) (n first : ℕ) → find p (pairs_before coords n first) ≡ None → find p (pairs_before coords n (first + 1)) ≡ find p (partners coords n first)
find_more p coords n first none =
    ap (find p) (flat_map-more (partners coords n) first) ∙ find-append p (pairs_before coords n first) (partners coords n first) ∙ ap (λ o. option_or o (find p (partners coords n first))) none

pub passed_column : (x : List ℕ) (coords : Coords) (n first : ℕ) → find (both_nonzero x) (pairs_before coords n first) ≡ None → None ≡ find (both_nonzero x) (partners coords n first)
    → find (both_nonzero x) (pairs_before coords n (first + 1)) ≡ None
passed_column x coords n first none here = find_more (both_nonzero x) coords n first none ∙ sym here

pub pairs_prefix : (coords : Coords) (n a d : ℕ) → IsPrefix (pairs_before coords n a) (pairs_before coords n (a + d))
pairs_prefix coords n a zero = record { rest = []; is = ap (pairs_before coords n) (add-zero a) ∙ sym (append-nil (pairs_before coords n a)) }
pairs_prefix coords n a (suc d) =
    let e : a + suc d ≡ (a + d) + 1 = omega arith in
    let before : IsPrefix (pairs_before coords n a) (pairs_before coords n (a + d)) = pairs_prefix coords n a d in
    record {
      rest = before.rest ++ partners coords n (a + d);
      is = ap (pairs_before coords n) e ∙ flat_map-more (partners coords n) (a + d) ∙ ap (λ xs. xs ++ partners coords n (a + d)) before.is
          ∙ append_assoc (pairs_before coords n a) before.rest (partners coords n (a + d));
    }

pub found_pair : (x : List ℕ) (coords : Coords) (n first second : ℕ) → find (both_nonzero x) (pairs_before coords n first) ≡ None → Some (first, second) ≡ find (both_nonzero x) (partners coords n first)
    → first < columns coords n → Some (first, second) ≡ find (both_nonzero x) (clash_list coords n)
found_pair x coords n first second none here within =
    let e : (first + 1) + (columns coords n - (first + 1)) ≡ columns coords n = omega arith in
    let p : IsPrefix (pairs_before coords n (first + 1)) (pairs_before coords n ((first + 1) + (columns coords n - (first + 1)))) = pairs_prefix coords n (first + 1) (columns coords n - (first + 1)) in
    let one : find (both_nonzero x) (pairs_before coords n (first + 1)) ≡ Some (first, second) = find_more (both_nonzero x) coords n first none ∙ sym here in
    sym (ap (find (both_nonzero x)) (sym (all_pairs coords n) ∙ ap (pairs_before coords n) (sym e)) ∙ find-prefix (both_nonzero x) _ _ (first, second) p one)

pub found_no_pair : (x : List ℕ) (coords : Coords) (n last : ℕ) → find (both_nonzero x) (pairs_before coords n last) ≡ None → last ≡ columns coords n → None ≡ find (both_nonzero x) (clash_list coords n)
found_no_pair x coords n last none e = sym (ap (find (both_nonzero x)) (sym (all_pairs coords n) ∙ ap (pairs_before coords n) (sym e)) ∙ none)

-- one more column of a list of pairs
pub pushed : (coords : Coords) (first second : ℕ) (old now new : Pairs) → first < second → clash_test coords first second ≡ true → now ≡ old ++ partners_before coords first second
    → new ≡ now ++ (first, second) ∷ [] → new ≡ old ++ partners_before coords first (second + 1)
pushed coords first second old now new less clashes e f =
    let is : is_clash coords (first, second) ≡ true = ap (λ b. b && clash_test coords first second) (lt-ltb first second less) ∙ clashes in
    let one : Pairs = (first, second) ∷ [] in
    f ∙ ap (λ r. r ++ one) e ∙ append_assoc old (partners_before coords first second) one
    ∙ ap (λ r. old ++ r) (sym (partners_more coords first second ∙ ap (λ b. partners_before coords first second ++ cond b one []) is))

pub skipped : (coords : Coords) (first second : ℕ) (old now : Pairs) → clash_test coords first second ≡ false → now ≡ old ++ partners_before coords first second
    → now ≡ old ++ partners_before coords first (second + 1)
skipped coords first second old now no_clash e =
    let is : is_clash coords (first, second) ≡ false = and_right (nat_lt first second) (clash_test coords first second) no_clash in
    let one : Pairs = (first, second) ∷ [] in
    e ∙ ap (λ r. old ++ r) (sym (partners_more coords first second ∙ ap (λ b. partners_before coords first second ++ cond b one []) is ∙ append-nil (partners_before coords first second)))
