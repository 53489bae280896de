-- Facts about the edges of one tetrahedron, by their cases.
use Rattle.std.proofs.Common.{◌≡◌, ◌≢◌, ◌⊎◌, inl, inr, ℕ, ◌+◌, ◌*◌, ◌/◌, ◌%◌, ◌<◌, Bool, true, false, List, [], ◌∷◌, refl, arith}
use Rattle.std.specs.Prelude.{◌==◌, ◌&&◌, ◌||◌, not, nat_lt, slice_index}
use Rattle.std.specs.List.{list_all}
use Rattle.std.proofs.lemmas.Bool.{eqb-true, eqb-false, ltb-true, and_parts}
use Rattle.table_definitions.specs.Lists.{below, same_list}
use Rattle.table_definitions.specs.Permutation.{others}
use Rattle.table_definitions.specs.Places.{ends, edge_number}
use Rattle.table_definitions.proofs.ListFacts.{list_all-below, same_list-true}
use Rattle.skeleton_class_laws.specs.Crossings.{pair_number}

pub pairs_all : (t : ℕ → ℕ → Bool) → list_all (λ a. list_all (t a) (below 4)) (below 4) ≡ true → (a b : ℕ) → a < 4 → b < 4 → t a b ≡ true
pairs_all t h a b l m = list_all-below (t a) 4 (list_all-below (λ x. list_all (t x) (below 4)) 4 h a l) b m

-- the table of the edges' numbers
abbrev pub numbers : List ℕ
numbers = 6 ∷ 0 ∷ 1 ∷ 2 ∷ 0 ∷ 6 ∷ 3 ∷ 4 ∷ 1 ∷ 3 ∷ 6 ∷ 5 ∷ 2 ∷ 4 ∷ 5 ∷ 6 ∷ []

pub numbers_are : (a b : ℕ) → a < 4 → b < 4 → slice_index numbers (4 * a + b) ≡ edge_number a b
numbers_are a b l m = eqb-true (slice_index numbers (4 * a + b)) (edge_number a b) (pairs_all (λ x y. slice_index numbers (4 * x + y) == edge_number x y) refl a b l m)

-- the number of an edge does not depend on the order of its ends
pub edge_number-backwards : (a b : ℕ) → a < 4 → b < 4 → edge_number b a ≡ edge_number a b
edge_number-backwards a b l m = eqb-true (edge_number b a) (edge_number a b) (pairs_all (λ x y. edge_number y x == edge_number x y) refl a b l m)

pub edge_number-ends : (e : ℕ) → e < 6 → edge_number (slice_index (ends e) 0) (slice_index (ends e) 1) ≡ e
edge_number-ends e l = eqb-true (edge_number (slice_index (ends e) 0) (slice_index (ends e) 1)) e (list_all-below (λ x. edge_number (slice_index (ends x) 0) (slice_index (ends x) 1) == x) 6 refl e l)

-- the smaller end of an edge, and the greater
abbrev pub low : ℕ → ℕ
low e = slice_index (ends e) 0

abbrev pub high : ℕ → ℕ
high e = slice_index (ends e) 1

-- the ends, ascending
pub record AreEnds (e : ℕ) : Type 0 where
  pub two : ends e ≡ low e ∷ high e ∷ []
  pub ascending : low e < high e
  pub lower : low e < 4
  pub higher : high e < 4
  pub separate : low e ≢ high e

pub are_ends : (e : ℕ) → e < 6 → AreEnds e
are_ends e l =
    let ascends : low e < high e = ltb-true (low e) (high e) (list_all-below (λ x. nat_lt (low x) (high x)) 6 refl e l) in
    let small : high e < 4 = ltb-true (high e) 4 (list_all-below (λ x. nat_lt (high x) 4) 6 refl e l) in
    record {
      two = same_list-true (ends e) (low e ∷ high e ∷ []) (list_all-below (λ x. same_list (ends x) (low x ∷ high x ∷ [])) 6 refl e l);
      ascending = ascends;
      lower = omega arith;
      higher = small;
      separate = λ z. omega arith;
    }

or_cases : (a b c : Bool) → (a || (b || c)) ≡ true → (a ≡ true) ⊎ ((b ≡ true) ⊎ (c ≡ true))
or_cases true b c h = inl refl
or_cases false true c h = inr (inl refl)
or_cases false false c h = inr (inr h)

-- two different vertices are the ends of their edge
pub ends-edge_number : (a b : ℕ) → a < 4 → b < 4 → a ≢ b → (edge_number a b < 6) × ((ends (edge_number a b) ≡ a ∷ b ∷ []) ⊎ (ends (edge_number a b) ≡ b ∷ a ∷ []))
ends-edge_number a b l m ne = (
  small,
  by_test (or_cases (a == b) (same_list (ends (edge_number a b)) (a ∷ b ∷ [])) (same_list (ends (edge_number a b)) (b ∷ a ∷ []))
      (pairs_all (λ x y. (x == y) || (same_list (ends (edge_number x y)) (x ∷ y ∷ []) || same_list (ends (edge_number x y)) (y ∷ x ∷ []))) refl a b l m)),
)
  where
    separate : (a == b) ≡ true → ⊥
    separate e = ne (eqb-true a b e)

    by_test : ((a == b) ≡ true) ⊎ ((same_list (ends (edge_number a b)) (a ∷ b ∷ []) ≡ true) ⊎ (same_list (ends (edge_number a b)) (b ∷ a ∷ []) ≡ true))
        → (ends (edge_number a b) ≡ a ∷ b ∷ []) ⊎ (ends (edge_number a b) ≡ b ∷ a ∷ [])
    by_test (inl e) = absurd (separate e)
    by_test (inr (inl e)) = inl (same_list-true (ends (edge_number a b)) (a ∷ b ∷ []) e)
    by_test (inr (inr e)) = inr (same_list-true (ends (edge_number a b)) (b ∷ a ∷ []) e)

    small_by : ((a == b) ≡ true) ⊎ ((nat_lt (edge_number a b) 6 ≡ true) ⊎ (false ≡ true)) → edge_number a b < 6
    small_by (inl e) = absurd (separate e)
    small_by (inr (inl e)) = ltb-true (edge_number a b) 6 e
    small_by (inr (inr e)) = absurd cc

    small : edge_number a b < 6
    small = small_by (or_cases (a == b) (nat_lt (edge_number a b) 6) false (pairs_all (λ x y. (x == y) || (nat_lt (edge_number x y) 6 || false)) refl a b l m))

-- the end of the d-th of the twelve directed edges of a tetrahedron
abbrev pub head : ℕ → ℕ
head d = slice_index (others (d / 3)) (d % 3)

pub head_below : (d : ℕ) → d < 12 → head d < 4
head_below d l = ltb-true (head d) 4 (list_all-below (λ x. nat_lt (head x) 4) 12 refl d l)

pub pair_number-head : (d : ℕ) → d < 12 → pair_number (d / 3) (head d) ≡ d
pair_number-head d l = eqb-true (pair_number (d / 3) (head d)) d (list_all-below (λ x. pair_number (x / 3) (head x) == x) 12 refl d l)

pub apart_head : (d : ℕ) → d < 12 → d / 3 ≢ head d
apart_head d l = eqb-false (d / 3) (head d) (not-true (d / 3 == head d) (list_all-below (λ x. not (x / 3 == head x)) 12 refl d l))
  where
    not-true : (b : Bool) → not b ≡ true → b ≡ false
    not-true true h = cc
    not-true false h = refl

-- the number of a directed edge
pub pair_number-parts : (v w : ℕ) → v < 4 → w < 4 → v ≢ w → (pair_number v w < 12) × (pair_number v w / 3 ≡ v) × (head (pair_number v w) ≡ w)
pair_number-parts v w l m ne = by_test (or_cases (v == w) (passes v w) false (pairs_all (λ x y. (x == y) || (passes x y || false)) refl v w l m))
  where
    passes : ℕ → ℕ → Bool
    passes x y = nat_lt (pair_number x y) 12 && ((pair_number x y / 3 == x) && (head (pair_number x y) == y))

    by_test : ((v == w) ≡ true) ⊎ ((passes v w ≡ true) ⊎ (false ≡ true)) → (pair_number v w < 12) × (pair_number v w / 3 ≡ v) × (head (pair_number v w) ≡ w)
    by_test (inl e) = absurd (ne (eqb-true v w e))
    by_test (inr (inl e)) =
        let p = and_parts (nat_lt (pair_number v w) 12) ((pair_number v w / 3 == v) && (head (pair_number v w) == w)) e in
        let q = and_parts (pair_number v w / 3 == v) (head (pair_number v w) == w) p.1 in
        (ltb-true (pair_number v w) 12 p.0, eqb-true (pair_number v w / 3) v q.0, eqb-true (head (pair_number v w)) w q.1)
    by_test (inr (inr e)) = absurd cc
