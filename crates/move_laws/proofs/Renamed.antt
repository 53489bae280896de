-- The labels of a move and those of its inverse, where the core of the move has s vertices.
use Rattle.std.proofs.Common.{◌≡◌, ℕ, ◌+◌, ◌-◌, ◌<◌, ◌≤◌, Bool, true, false, List, length, map, drop, refl, ap, arith, sym, ◌∙◌}
use Rattle.std.specs.Prelude.{◌==◌, ◌&&◌, ◌||◌, ◌≢◌, nat_lt, not, filter, if◌then◌else◌}
use Rattle.std.specs.List.{list_all}
use Rattle.std.proofs.lemmas.Bool.{eqb-true, ltb-true, lt-ltb, le-ltb, and_parts}
use Rattle.basic_lemmas.proofs.Numbers.{given_apart}
use Rattle.table_definitions.specs.Lists.{below, has, same_list, substitute}
use Rattle.table_definitions.specs.Permutation.{four, is_permutation, image, preimage, inverse, compose}
use Rattle.table_definitions.proofs.ListFacts.{list_all-below, same_list-true}
use Rattle.move_definitions.specs.Moves.{IsCore, vertices_by_label}
use Rattle.move_laws.proofs.Labels.{AreLabels, labels_by, ascending}

-- old labels come first, then those of new facets; the one of the facet that the inverse move names is the last
unfoldable pub renamed : ℕ → ℕ → ℕ
renamed s l = if nat_lt l s then (if l == 0 then 4 else l + (4 - s)) else l - s

unfoldable pub renamed_back : ℕ → ℕ → ℕ
renamed_back s i = if nat_lt i (5 - s) then i + s else (if i == 4 then 0 else i - (4 - s))

-- a test of numbers below five

abbrev two_tests : (ℕ → ℕ → Bool) → Bool
two_tests t = list_all (λ s. list_all (t s) (below 5)) (below 5)

two_at : (t : ℕ → ℕ → Bool) → two_tests t ≡ true → (s l : ℕ) → s < 5 → l < 5 → t s l ≡ true
two_at t all s l hs hl = list_all-below (t s) 5 (list_all-below (λ s. list_all (t s) (below 5)) 5 all s hs) l hl

abbrev four_tests : (ℕ → ℕ → ℕ → ℕ → Bool) → Bool
four_tests t = two_tests (λ s i. two_tests (t s i))

four_at : (t : ℕ → ℕ → ℕ → ℕ → Bool) → four_tests t ≡ true → (s i k l : ℕ) → s < 5 → i < 5 → k < 5 → l < 5 → t s i k l ≡ true
four_at t all s i k l hs hi hk hl = two_at (t s i) (two_at (λ s i. two_tests (t s i)) all s i hs hi) k l hk hl

-- the premises s ≤ i and j < s of a test
pub given_le : (s i : ℕ) (b : Bool) → (nat_lt i s || b) ≡ true → s ≤ i → b ≡ true
given_le s i b h l = let e : nat_lt i s ≡ false = le-ltb i s l in grind arith

pub given_lt : (j s : ℕ) (b : Bool) → (not (nat_lt j s) || b) ≡ true → j < s → b ≡ true
given_lt j s b h l = let e : nat_lt j s ≡ true = lt-ltb j s l in grind arith

-- renaming

pub renamed-old : (s i : ℕ) → s ≤ i → renamed s i ≡ i - s
unfolding renamed
renamed-old s i l = ap (λ b. if b then (if i == 0 then 4 else i + (4 - s)) else i - s) (le-ltb i s l)

new_test : ℕ → ℕ → Bool
new_test s j = not (nat_lt j s) || not (nat_lt (renamed s j) (5 - s))

pub un_lt : (l s : ℕ) → not (nat_lt l s) ≡ true → s ≤ l
un_lt l s h = grind arith

pub renamed-new : (s j : ℕ) → s < 5 → j < s → 5 - s ≤ renamed s j
unfolding new_test renamed
renamed-new s j hs l = un_lt (renamed s j) (5 - s) (given_lt j s (not (nat_lt (renamed s j) (5 - s))) (two_at new_test refl s j hs (omega arith)) l)

below_test : ℕ → ℕ → Bool
below_test s l = nat_lt (renamed s l) 5

pub renamed_below : (s l : ℕ) → s < 5 → l < 5 → renamed s l < 5
unfolding below_test renamed
renamed_below s l hs hl = ltb-true (renamed s l) 5 (two_at below_test refl s l hs hl)

back_test : ℕ → ℕ → Bool
back_test s l = renamed_back s (renamed s l) == l

pub back-renamed : (s l : ℕ) → s < 5 → l < 5 → renamed_back s (renamed s l) ≡ l
unfolding back_test renamed renamed_back
back-renamed s l hs hl = eqb-true (renamed_back s (renamed s l)) l (two_at back_test refl s l hs hl)

-- different labels are renamed to different labels
pub renamed_apart : (s i x : ℕ) → s < 5 → s ≤ i → i < 5 → x < 5 → x ≢ i → renamed s x ≢ i - s
renamed_apart s i x small low high lx n z =
    let back : renamed_back s (renamed s x) ≡ x = back-renamed s x small lx in
    let here : renamed_back s (renamed s i) ≡ i = back-renamed s i small high in
    n (sym back ∙ ap (renamed_back s) (z ∙ sym (renamed-old s i low)) ∙ here)

forth_test : ℕ → ℕ → Bool
forth_test s l = renamed s (renamed_back s l) == l

pub renamed-back : (s l : ℕ) → s < 5 → l < 5 → renamed s (renamed_back s l) ≡ l
unfolding forth_test renamed renamed_back
renamed-back s l hs hl = eqb-true (renamed s (renamed_back s l)) l (two_at forth_test refl s l hs hl)

range_test : ℕ → ℕ → Bool
range_test s i = nat_lt i (5 - s) || nat_lt (renamed_back s i) s

pub back-new : (s i : ℕ) → s < 5 → i < 5 → 5 - s ≤ i → renamed_back s i < s
unfolding range_test renamed_back
back-new s i hs hi l = ltb-true (renamed_back s i) s (given_le (5 - s) i (nat_lt (renamed_back s i) s) (two_at range_test refl s i hs hi) l)

-- renaming commutes with the replacement of one label by another
place_test : ℕ → ℕ → ℕ → ℕ → Bool
place_test s i k x = nat_lt i s || (nat_lt k s || (renamed s (substitute k i x) == substitute (k - s) (i - s) (renamed s x)))

pub renamed-place : (s i k x : ℕ) → s < 5 → i < 5 → k < 5 → x < 5 → s ≤ i → s ≤ k → renamed s (substitute k i x) ≡ substitute (k - s) (i - s) (renamed s x)
unfolding place_test renamed
renamed-place s i k x hs hi hk hx li lk =
    eqb-true (renamed s (substitute k i x)) (substitute (k - s) (i - s) (renamed s x))
    (given_le s k (renamed s (substitute k i x) == substitute (k - s) (i - s) (renamed s x))
    (given_le s i (nat_lt k s || (renamed s (substitute k i x) == substitute (k - s) (i - s) (renamed s x))) (four_at place_test refl s i k x hs hi hk hx) li) lk)

-- the core of the inverse move

core_test : ℕ → Bool
core_test s = (s == 0) || ((length (drop (s - 1) four) == 5 - s) && (same_list (inverse (vertices_by_label (drop (s - 1) four))) (map (renamed s) (ascending 0)) && (nat_lt 0 (length (drop (s - 1) four)) && same_list (filter (has (drop (s - 1) four)) four) (drop (s - 1) four))))

pub record IsInverseCore (s : ℕ) (core : List ℕ) : Type 0 where
  pub is_core : IsCore core
  pub size : length core ≡ 5 - s
  pub labels : inverse (vertices_by_label core) ≡ map (renamed s) (ascending 0)

pub inverse_core : (s : ℕ) → 0 < s → s < 5 → IsInverseCore s (drop (s - 1) four)
unfolding core_test renamed inverse preimage
inverse_core s low high =
    let core : List ℕ = drop (s - 1) four in
    let all : core_test s ≡ true = list_all-below core_test 5 refl s high in
    let p = and_parts (length core == 5 - s) (same_list (inverse (vertices_by_label core)) (map (renamed s) (ascending 0)) && (nat_lt 0 (length core) && same_list (filter (has core) four) core)) (given_apart s 0 _ all (λ e. absurd (omega arith))) in
    let q = and_parts (same_list (inverse (vertices_by_label core)) (map (renamed s) (ascending 0))) (nat_lt 0 (length core) && same_list (filter (has core) four) core) p.1 in
    record { is_core = q.1; size = eqb-true (length core) (5 - s) p.0; labels = same_list-true (inverse (vertices_by_label core)) (map (renamed s) (ascending 0)) q.0 }

-- the labels of a new facet in the inverse move

abbrev pub new_as_old_labels : ℕ → ℕ → List ℕ
new_as_old_labels s j = map (renamed s) (ascending j)

labels_test : ℕ → ℕ → Bool
labels_test s j = is_permutation (map (substitute 4 (renamed s j)) (new_as_old_labels s j)) && same_list (new_as_old_labels s j) (labels_by (renamed s j) (map (substitute 4 (renamed s j)) (new_as_old_labels s j)))

pub renamed_labels : (s j : ℕ) → s < 5 → j < 5 → AreLabels (renamed s j) (new_as_old_labels s j)
renamed_labels s j hs hj = record {
  missing = renamed_below s j hs hj;
  perm = perm;
  permutes = p.0;
  is = same_list-true (new_as_old_labels s j) (labels_by (renamed s j) perm) p.1;
}
  where
    perm : List ℕ
    perm = map (substitute 4 (renamed s j)) (new_as_old_labels s j)

    tests : two_tests labels_test ≡ true
    tests = unfold labels_test renamed is_permutation in refl

    p : (is_permutation perm ≡ true) × (same_list (new_as_old_labels s j) (labels_by (renamed s j) perm) ≡ true)
    p = and_parts (is_permutation perm) (same_list (new_as_old_labels s j) (labels_by (renamed s j) perm)) (unfold labels_test in two_at labels_test tests s j hs hj)

-- the map of the vertices of new facet i to those of new facet j that keeps labels, and maps label j to label i
abbrev pub across : ℕ → ℕ → List ℕ
across i j = map (λ l. preimage (ascending j) (substitute j i l)) (ascending i)

-- the labels of new facet j, as the facet across a face of new facet 0
behind_test : ℕ → ℕ → Bool
behind_test s j = (j == 0) || (not (nat_lt j s) || same_list (map (λ v. substitute (renamed s j) 4 (image (new_as_old_labels s 0) (preimage (across 0 j) v))) four) (new_as_old_labels s j))

pub behind-renamed : (s j : ℕ) → s < 5 → 0 < j → j < s → map (λ v. substitute (renamed s j) 4 (image (new_as_old_labels s 0) (preimage (across 0 j) v))) four ≡ new_as_old_labels s j
unfolding behind_test renamed preimage
behind-renamed s j hs low l =
    let test : Bool = same_list (map (λ v. substitute (renamed s j) 4 (image (new_as_old_labels s 0) (preimage (across 0 j) v))) four) (new_as_old_labels s j) in
    same_list-true _ (new_as_old_labels s j) (given_lt j s test (given_apart j 0 (not (nat_lt j s) || test) (two_at behind_test refl s j hs (omega arith)) (λ e. absurd (omega arith))) l)

-- new facets match label by label in the inverse move
match_test : ℕ → ℕ → ℕ → Bool
match_test s i j = (i == j) || same_list (compose (new_as_old_labels s j) (across i j)) (map (substitute (renamed s j) (renamed s i)) (new_as_old_labels s i))

pub match-renamed : (s i j : ℕ) → s < 5 → i < 5 → j < 5 → i ≢ j → same_list (compose (new_as_old_labels s j) (across i j)) (map (substitute (renamed s j) (renamed s i)) (new_as_old_labels s i)) ≡ true
unfolding match_test renamed preimage compose
match-renamed s i j hs hi hj d =
    given_apart i j _ (two_at (match_test s) (list_all-below (λ s. two_tests (match_test s)) 5 refl s hs) i j hi hj) d
