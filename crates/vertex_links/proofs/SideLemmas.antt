-- The sides of the triangles of a class, counted through.
use Rattle.std.proofs.Common.{◌≡◌, ℕ, zero, suc, ◌+◌, ◌*◌, ◌/◌, ◌%◌, ◌<◌, Bool, true, false, cond, List, [], ◌∷◌, length, map, filter, refl, sym, ap, ◌∙◌, arith}
use Rattle.std.specs.Prelude.{◌==◌, ◌&&◌, not, slice_index, count_by}
use Rattle.std.specs.List.{list_all, flat_map}
use Rattle.std.proofs.lemmas.List.Sums.{sum_by-append, sum_by-cons}
use Rattle.std.proofs.lemmas.List.{append-nil}
use Rattle.std.proofs.lemmas.List.Elements.{filter-append}
use Rattle.std.proofs.lemmas.Grind.{flat_map-append}
use Rattle.std.proofs.lemmas.Bool.{ne_eqb}
use Rattle.table_definitions.specs.Lists.{below}
use Rattle.table_definitions.specs.Permutation.{others}
use Rattle.std.specs.List.{slice_index_or}
use Rattle.table_definitions.specs.Table.{Face, Row, glue}
use Rattle.table_definitions.specs.Classes.{is_least, least}
use Rattle.table_definitions.specs.Places.{is_boundary}
use Rattle.skeleton_class_laws.specs.Numberings.{AreFirsts}
use Rattle.skeleton_definitions.specs.Links.{sides, is_first_side, link_edges, link_vertices, is_closed_link, vertex_number}
use Rattle.table_definitions.specs.Lists.{same_list}
use Rattle.table_definitions.proofs.ListFacts.{below_next, list_all-below, same_list-true}
use Rattle.skeleton_class_laws.specs.Tallies.{side_at, is_counted, AreTallies}
use Rattle.skeleton_class_laws.proofs.TallyLemmas.{count_more, count_same}

others_three : (v : ℕ) → v < 4 → others v ≡ slice_index (others v) 0 ∷ slice_index (others v) 1 ∷ slice_index (others v) 2 ∷ []
others_three v l = same_list-true (others v) (slice_index (others v) 0 ∷ slice_index (others v) 1 ∷ slice_index (others v) 2 ∷ [])
    (list_all-below (λ x. same_list (others x) (slice_index (others x) 0 ∷ slice_index (others x) 1 ∷ slice_index (others x) 2 ∷ [])) 4 refl v l)

-- the sides of the triangle at vertex i
abbrev pub side_list : ℕ → List Face
side_list i = map (λ f. record { tet = i / 4; face = f }) (others (i % 4))

side_is : (i k : ℕ) → k < 3 → side_at (3 * i + k) ≡ record { tet = i / 4; face = slice_index (others (i % 4)) k }
unfolding side_at
side_is i k l =
    let a : (3 * i + k) / 12 ≡ i / 4 = omega arith in
    let b : (3 * i + k) / 3 ≡ i = omega arith in
    let c : (3 * i + k) % 3 ≡ k = omega arith in
    λ t. record { tet = a t; face = slice_index (others (b t % 4)) (c t) }

side_list_is : (i : ℕ) → side_list i ≡ side_at (3 * i + 0) ∷ side_at (3 * i + 1) ∷ side_at (3 * i + 2) ∷ []
side_list_is i =
    let l : i % 4 < 4 = omega arith in
    ap (λ (vs : List ℕ). map (λ f. record { tet = i / 4; face = f }) vs) (others_three (i % 4) l)
    ∙ sym (λ t. side_is i 0 (omega arith) t ∷ side_is i 1 (omega arith) t ∷ side_is i 2 (omega arith) t ∷ [])

from_none : (a b c : ℕ) → 0 + a + b + c ≡ a + b + c
from_none a b c = omega arith

module _ (p : Face → Bool) (q : ℕ → Bool) where
  one_test : (m k : ℕ) → k < 3 → (b : Bool) → q m ≡ b → count_by (λ j. p (side_at j) && q (j / 3)) ((3 * m + k) ∷ []) ≡ cond (p (side_at (3 * m + k)) && b) 1 0
  one_test m k l b e = let d : (3 * m + k) / 3 ≡ m = omega arith in ap (λ c. 0 + cond (p (side_at (3 * m + k)) && c) 1 0) (ap q d ∙ e) ∙ omega arith

  both_true : (b : Bool) → (b && true) ≡ b
  both_true true = refl
  both_true false = refl

  both_false : (b : Bool) → (b && false) ≡ false
  both_false true = refl
  both_false false = refl

  three_sides : (m : ℕ) (b : Bool) → q m ≡ b → count_by p (flat_map side_list (filter q (m ∷ [])))
      ≡ count_by (λ j. p (side_at j) && q (j / 3)) ((3 * m + 0) ∷ []) + count_by (λ j. p (side_at j) && q (j / 3)) ((3 * m + 1) ∷ []) + count_by (λ j. p (side_at j) && q (j / 3)) ((3 * m + 2) ∷ [])
  three_sides m true e =
      let t0 = one_test m 0 (omega arith) true e ∙ ap (λ b. cond b 1 0) (both_true (p (side_at (3 * m + 0)))) in
      let t1 = one_test m 1 (omega arith) true e ∙ ap (λ b. cond b 1 0) (both_true (p (side_at (3 * m + 1)))) in
      let t2 = one_test m 2 (omega arith) true e ∙ ap (λ b. cond b 1 0) (both_true (p (side_at (3 * m + 2)))) in
      ap (λ b. count_by p (flat_map side_list (cond b (m ∷ []) []))) e ∙ ap (λ (xs : List Face). count_by p xs) (append-nil (side_list m)) ∙ ap (λ (xs : List Face). count_by p xs) (side_list_is m)
      ∙ from_none (cond (p (side_at (3 * m + 0))) 1 0) (cond (p (side_at (3 * m + 1))) 1 0) (cond (p (side_at (3 * m + 2))) 1 0) ∙ sym (λ i. t0 i + t1 i + t2 i)
  three_sides m false e =
      let t0 = one_test m 0 (omega arith) false e ∙ ap (λ b. cond b 1 0) (both_false (p (side_at (3 * m + 0)))) in
      let t1 = one_test m 1 (omega arith) false e ∙ ap (λ b. cond b 1 0) (both_false (p (side_at (3 * m + 1)))) in
      let t2 = one_test m 2 (omega arith) false e ∙ ap (λ b. cond b 1 0) (both_false (p (side_at (3 * m + 2)))) in
      ap (λ b. count_by p (flat_map side_list (cond b (m ∷ []) []))) e ∙ sym (λ i. t0 i + t1 i + t2 i)

  pub sides_count : (m : ℕ) → count_by p (flat_map side_list (filter q (below m))) ≡ count_by (λ j. p (side_at j) && q (j / 3)) (below (3 * m))
  sides_count zero = refl
  sides_count (suc m) =
      let s : suc m ≡ m + 1 = omega arith in
      let n : 3 * suc m ≡ 3 * m + 0 + 1 + 1 + 1 = omega arith in
      let n0 : 3 * m + 0 ≡ 3 * m = omega arith in
      let n1 : 3 * m + 0 + 1 ≡ 3 * m + 1 = omega arith in
      let n2 : 3 * m + 0 + 1 + 1 ≡ 3 * m + 2 = omega arith in
      let test : ℕ → Bool = λ j. p (side_at j) && q (j / 3) in
      let one : count_by test ((3 * m + 0 + 1) ∷ []) ≡ count_by test ((3 * m + 1) ∷ []) = ap (λ k. count_by test (k ∷ [])) n1 in
      let two : count_by test ((3 * m + 0 + 1 + 1) ∷ []) ≡ count_by test ((3 * m + 2) ∷ []) = ap (λ k. count_by test (k ∷ [])) n2 in
      let before : count_by p (flat_map side_list (filter q (below m))) ≡ count_by test (below (3 * m + 0)) = sides_count m ∙ ap (λ k. count_by test (below k)) (sym n0) in
      let last = three_sides m (q m) refl in
      let all : count_by test (below (3 * m + 0 + 1 + 1 + 1)) ≡ count_by test (below (3 * m + 0)) + count_by test ((3 * m + 0) ∷ []) + count_by test ((3 * m + 0 + 1) ∷ []) + count_by test ((3 * m + 0 + 1 + 1) ∷ []) =
      count_more test (3 * m + 0 + 1 + 1) ∙ ap (λ k. k + count_by test ((3 * m + 0 + 1 + 1) ∷ [])) (count_more test (3 * m + 0 + 1) ∙ ap (λ k. k + count_by test ((3 * m + 0 + 1) ∷ [])) (count_more test (3 * m + 0))) in
      let split : count_by p (flat_map side_list (filter q (below (suc m)))) ≡ count_by p (flat_map side_list (filter q (below m))) + count_by p (flat_map side_list (filter q (m ∷ []))) =
      ap (λ k. count_by p (flat_map side_list (filter q (below k)))) s ∙ ap (λ (xs : List ℕ). count_by p (flat_map side_list (filter q xs))) (below_next m)
      ∙ ap (λ (xs : List ℕ). count_by p (flat_map side_list xs)) (filter-append q (below m) (m ∷ []))
      ∙ ap (λ (xs : List Face). count_by p xs) (flat_map-append side_list (filter q (below m)) (filter q (m ∷ [])))
      ∙ sum_by-append (λ x. cond (p x) 1 0) (flat_map side_list (filter q (below m))) (flat_map side_list (filter q (m ∷ []))) in
      let sum : count_by p (flat_map side_list (filter q (below m))) + count_by p (flat_map side_list (filter q (m ∷ []))) ≡ count_by test (below (3 * m + 0 + 1 + 1 + 1)) = omega arith in
      split ∙ sum ∙ ap (λ k. count_by test (below k)) (sym n)

-- none is counted where all pass the opposite test
pub all_not : (p : Face → Bool) (xs : List Face) → list_all (λ x. not (p x)) xs ≡ (count_by p xs == 0)
all_not p [] = refl
all_not p (x ∷ xs) = later (p x) (count_by p xs) (all_not p xs) ∙ sym (ap (λ n. n == 0) (sum_by-cons (λ y. cond (p y) 1 0) x xs))
  where
    later : (b : Bool) (n : ℕ) → (list_all (λ y. not (p y)) xs ≡ (n == 0)) → (not b && list_all (λ y. not (p y)) xs) ≡ (cond b 1 0 + n == 0)
    later true n h = sym (ne_eqb (1 + n) 0 (λ e. omega arith))
    later false n h = h ∙ (let e : n ≡ 0 + n = omega arith in ap (λ k. k == 0) e)

-- a tally of sides
pub tally_sides : (p : Face → Bool) (classes : List ℕ) (passes : List Bool) (owners tallies : List ℕ) (count : ℕ) → AreTallies passes owners count tallies → length owners ≡ 3 * length classes
    → ((j : ℕ) → j < length owners → slice_index_or passes j false ≡ p (side_at j)) → ((j : ℕ) → j < length owners → slice_index owners j ≡ slice_index classes (j / 3))
    → (c : ℕ) → c < count → slice_index tallies c ≡ count_by p (sides classes c)
tally_sides p classes passes owners tallies count t size passed owned c l =
    t.reported c l ∙ count_same (is_counted passes owners c) (λ j. p (side_at j) && (slice_index classes (j / 3) == c)) (length owners) (λ j m. λ i. passed j m i && (owned j m i == c))
    ∙ ap (λ n. count_by (λ j. p (side_at j) && (slice_index classes (j / 3) == c)) (below n)) size
    ∙ sym (sides_count p (λ i. slice_index classes i == c) (length classes))

pub tally_edges : (rows : List Row) (classes : List ℕ) (passes : List Bool) (owners tallies : List ℕ) (count : ℕ) → AreTallies passes owners count tallies → length owners ≡ 3 * length classes
    → ((j : ℕ) → j < length owners → slice_index_or passes j false ≡ is_first_side (side_at j) (glue rows (side_at j))) → ((j : ℕ) → j < length owners → slice_index owners j ≡ slice_index classes (j / 3))
    → (c : ℕ) → c < count → slice_index tallies c ≡ link_edges rows classes c
tally_edges rows = tally_sides (λ x. is_first_side x (glue rows x))

pub tally_open : (rows : List Row) (classes : List ℕ) (passes : List Bool) (owners tallies : List ℕ) (count : ℕ) → AreTallies passes owners count tallies → length owners ≡ 3 * length classes
    → ((j : ℕ) → j < length owners → slice_index_or passes j false ≡ is_boundary rows (side_at j)) → ((j : ℕ) → j < length owners → slice_index owners j ≡ slice_index classes (j / 3))
    → (c : ℕ) → c < count → (slice_index tallies c == 0) ≡ is_closed_link rows classes c
tally_open rows classes passes owners tallies count t size passed owned c l =
    ap (λ n. n == 0) (tally_sides (is_boundary rows) classes passes owners tallies count t size passed owned c l) ∙ sym (all_not (is_boundary rows) (sides classes c))

-- a tally of corners that are the least of their class
pub tally_corners : (classes directions firsts : List ℕ) (passes : List Bool) (owners tallies : List ℕ) (count : ℕ) → AreTallies passes owners count tallies → length owners ≡ length directions
    → AreFirsts directions firsts → ((j : ℕ) → j < length directions → slice_index_or passes j false ≡ (slice_index firsts (slice_index directions j) == j))
    → ((j : ℕ) → j < length owners → slice_index owners j ≡ slice_index classes (j / 3)) → (c : ℕ) → c < count → slice_index tallies c ≡ link_vertices classes directions c
tally_corners classes directions firsts passes owners tallies count t size f passed owned c l =
    t.reported c l
    ∙ count_same (is_counted passes owners c) (λ i. is_least directions i && (slice_index classes (vertex_number (i / 12) ((i % 12) / 3)) == c)) (length owners)
    (λ j m. let lj : j < length directions = omega arith in
    let place : j / 3 ≡ vertex_number (j / 12) ((j % 12) / 3) = omega arith in
    let least_is : slice_index firsts (slice_index directions j) ≡ least directions (slice_index directions j) = f.least_member (slice_index directions j) (f.below j lj) in
    let pass : slice_index_or passes j false ≡ is_least directions j = passed j lj ∙ ap (λ k. k == j) least_is in
    let own : slice_index owners j ≡ slice_index classes (vertex_number (j / 12) ((j % 12) / 3)) = owned j m ∙ ap (slice_index classes) place in
    λ i. pass i && (own i == c))
    ∙ ap (λ n. count_by (λ i. is_least directions i && (slice_index classes (vertex_number (i / 12) ((i % 12) / 3)) == c)) (below n)) size
