-- If a test is passed by the fifteen cores, it is passed by each core.
use Rattle.std.proofs.Common.{◌≡◌, ℕ, ◌<◌, Bool, true, false, List, [], ◌∷◌, length, refl, sym, subst, arith}
use Rattle.std.specs.Prelude.{nat_lt, filter, if◌then◌else◌}
use Rattle.std.specs.List.{list_all}
use Rattle.std.proofs.lemmas.Bool.{ltb-true, and_parts}
use Rattle.table_definitions.specs.Lists.{has, same_list}
use Rattle.table_definitions.specs.Permutation.{four, IsPermutationOfFour, is_permutation, inverse, preimage}
use Rattle.move_definitions.specs.Moves.{IsCore, vertices_by_label}
use Rattle.table_definitions.proofs.ListFacts.{list_all-at, same_list-true}

abbrev pub with : Bool → ℕ → List ℕ → List ℕ
with b v vs = if b then v ∷ vs else vs

-- the vertices whose truth value is true
abbrev pub subset : Bool → Bool → Bool → Bool → List ℕ
subset a b c d = with a 0 (with b 1 (with c 2 (with d 3 [])))

abbrev pub cores : List (List ℕ)
cores =
    (0 ∷ 1 ∷ 2 ∷ 3 ∷ []) ∷ (0 ∷ 1 ∷ 2 ∷ []) ∷ (0 ∷ 1 ∷ 3 ∷ []) ∷ (0 ∷ 1 ∷ []) ∷ (0 ∷ 2 ∷ 3 ∷ []) ∷ (0 ∷ 2 ∷ []) ∷ (0 ∷ 3 ∷ []) ∷ (0 ∷ []) ∷
    (1 ∷ 2 ∷ 3 ∷ []) ∷ (1 ∷ 2 ∷ []) ∷ (1 ∷ 3 ∷ []) ∷ (1 ∷ []) ∷ (2 ∷ 3 ∷ []) ∷ (2 ∷ []) ∷ (3 ∷ []) ∷ []

on_subset : (t : List ℕ → Bool) → list_all t cores ≡ true → (a b c d : Bool) → 0 < length (subset a b c d) → t (subset a b c d) ≡ true
on_subset t h true true true true l = list_all-at t cores h 0 [] (omega arith)
on_subset t h true true true false l = list_all-at t cores h 1 [] (omega arith)
on_subset t h true true false true l = list_all-at t cores h 2 [] (omega arith)
on_subset t h true true false false l = list_all-at t cores h 3 [] (omega arith)
on_subset t h true false true true l = list_all-at t cores h 4 [] (omega arith)
on_subset t h true false true false l = list_all-at t cores h 5 [] (omega arith)
on_subset t h true false false true l = list_all-at t cores h 6 [] (omega arith)
on_subset t h true false false false l = list_all-at t cores h 7 [] (omega arith)
on_subset t h false true true true l = list_all-at t cores h 8 [] (omega arith)
on_subset t h false true true false l = list_all-at t cores h 9 [] (omega arith)
on_subset t h false true false true l = list_all-at t cores h 10 [] (omega arith)
on_subset t h false true false false l = list_all-at t cores h 11 [] (omega arith)
on_subset t h false false true true l = list_all-at t cores h 12 [] (omega arith)
on_subset t h false false true false l = list_all-at t cores h 13 [] (omega arith)
on_subset t h false false false true l = list_all-at t cores h 14 [] (omega arith)
on_subset t h false false false false l = absurd (omega arith)

core_parts : (core : List ℕ) → IsCore core → (0 < length core) × (filter (has core) four ≡ core)
core_parts core h =
    let p : (nat_lt 0 (length core) ≡ true) × (same_list (filter (has core) four) core ≡ true) = and_parts (nat_lt 0 (length core)) (same_list (filter (has core) four) core) h in
    (ltb-true 0 (length core) p.0, same_list-true (filter (has core) four) core p.1)

pub on_cores : (t : List ℕ → Bool) → list_all t cores ≡ true → (core : List ℕ) → IsCore core → t core ≡ true
on_cores t h core c =
    let p : (0 < length core) × (filter (has core) four ≡ core) = core_parts core c in
    let is : subset (has core 0) (has core 1) (has core 2) (has core 3) ≡ core = p.1 in
    let P : List ℕ → Type 0 = λ vs. t vs ≡ true in
    subst P is (on_subset t h (has core 0) (has core 1) (has core 2) (has core 3) (let N : List ℕ → Type 0 = λ vs. 0 < length vs in subst N (sym is) p.0))

-- a core has up to four vertices
pub core_size : (core : List ℕ) → IsCore core → (0 < length core) × (length core < 5)
core_size core c = ((core_parts core c).0, ltb-true (length core) 5 (on_cores (λ vs. nat_lt (length vs) 5) (let e : list_all (λ (vs : List ℕ). nat_lt (length vs) 5) cores ≡ true = refl in e) core c))

-- the labels of the tetrahedron of a move are a permutation
pub own_permutes : (core : List ℕ) → IsCore core → IsPermutationOfFour (inverse (vertices_by_label core))
own_permutes core c = on_cores (λ vs. is_permutation (inverse (vertices_by_label vs))) tests core c
  where
    tests : list_all (λ vs. is_permutation (inverse (vertices_by_label vs))) cores ≡ true
    tests = unfold is_permutation inverse preimage in refl
