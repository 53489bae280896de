-- What holds of all clashing columns holds of the listed pairs.
use Rattle.std.proofs.Common.{◌≡◌, ◌≢◌, ℕ, ◌+◌, ◌<◌, Bool, true, false, cond, List, [], ◌∷◌, map, filter, subst, sym, ◌∙◌, refl, suc, arith}
use Rattle.std.specs.Prelude.{nat_lt}
use Rattle.std.specs.List.{All, flat_map}
use Rattle.std.proofs.lemmas.Bool.{ltb-true, and_parts}
use Rattle.std.proofs.lemmas.List.Elements.{All-map, All-append, All-cons}
use Rattle.std.proofs.lemmas.List.FromFn.{get_or-range_with_len, length-range_with_len}
use Rattle.table_definitions.specs.Lists.{below, pairs_of}
use Rattle.cone_definitions.specs.Surfaces.{PairsAreOfTwoColumns}
use Rattle.surface_definitions.specs.Coordinates.{columns, clash_test, clash_list}
use Rattle.surface_definitions.specs.declared.Coords.{Coords}
use Rattle.surface_definitions.specs.ClashPairs.{is_clash}

abbrev Pairs : Type 0
Pairs = List (ℕ × ℕ)

filter_all : (P : ℕ × ℕ → Type 0) (q : ℕ × ℕ → Bool) (xs : Pairs) → All (λ x. q x ≡ true → P x) xs → All P (filter q xs)
filter_all P q [] h = λ k d l. absurd (omega arith)
filter_all P q (x ∷ xs) h = go (q x) refl (filter_all P q xs (λ k d l. h (suc k) d (omega arith)))
  where
    go : (b : Bool) → q x ≡ b → All P (filter q xs) → All P (cond b (x ∷ filter q xs) (filter q xs))
    go true e rest = All-cons P x (filter q xs) (h 0 x (omega arith) e) rest
    go false e rest = rest

flat_map_all : (P : ℕ × ℕ → Type 0) (f : ℕ → Pairs) (ks : List ℕ) → All (λ k. All P (f k)) ks → All P (flat_map f ks)
flat_map_all P f [] h = λ k d l. absurd (omega arith)
flat_map_all P f (k ∷ ks) h = All-append P (f k) (flat_map f ks) (h 0 k (omega arith)) (flat_map_all P f ks (λ j d l. h (suc j) d (omega arith)))

all_below : (P : ℕ → Type 0) (n : ℕ) → ((k : ℕ) → k < n → P k) → All P (below n)
all_below P n h k d l =
    let in_range : k < n = subst (λ m. k < m) (length-range_with_len 0 n) l in
    let e : 0 + k ≡ k = omega arith in
    subst P (sym (get_or-range_with_len 0 n k d in_range ∙ e)) (h k in_range)

pub all_of_pairs : (P : ℕ × ℕ → Type 0) (coords : Coords) (n : ℕ) → ((c e : ℕ) → c < e → e < columns coords n → clash_test coords c e ≡ true → P (c, e)) → All P (clash_list coords n)
unfolding clash_list
all_of_pairs P coords n h =
    filter_all P (is_clash coords) (pairs_of (below (columns coords n)) (below (columns coords n)))
    (flat_map_all (λ x. is_clash coords x ≡ true → P x) (λ c. map (λ e. (c, e)) (below (columns coords n))) (below (columns coords n))
    (all_below (λ c. All (λ x. is_clash coords x ≡ true → P x) (map (λ e. (c, e)) (below (columns coords n)))) (columns coords n)
    (λ c lc. All-map (λ x. is_clash coords x ≡ true → P x) (λ e. (c, e)) (below (columns coords n))
    (all_below (λ e. is_clash coords (c, e) ≡ true → P (c, e)) (columns coords n)
    (λ e le is. let parts : (nat_lt c e ≡ true) × (clash_test coords c e ≡ true) = and_parts (nat_lt c e) (clash_test coords c e) is in
    h c e (ltb-true c e parts.0) le parts.1)))))

pub clashes_apart : (coords : Coords) (n : ℕ) → PairsAreOfTwoColumns (clash_list coords n)
clashes_apart coords n = all_of_pairs (λ pair. pair.0 ≢ pair.1) coords n (λ c e less l test same. omega arith)
