-- The quads of the tetrahedra of the marked vertices, added, are at most four times all quads.
use Rattle.std.proofs.Common.{◌≡◌, ℕ, zero, suc, ◌+◌, ◌*◌, ◌/◌, ◌<◌, ◌≤◌, ◌⊎◌, Bool, true, false, List, [], ◌∷◌, ◌++◌, length, take, set, inl, inr, refl, sym, ap, ◌∙◌, subst, arith}
use Rattle.std.specs.Prelude.{sum, sum_by, if◌then◌else◌}
use Rattle.std.specs.List.{slice_index_or}
use Rattle.std.proofs.lemmas.Bool.{cases_lt}
use Rattle.std.proofs.lemmas.List.{get_or-set_same, get_or-set_other, take_all}
use Rattle.std.proofs.lemmas.List.Sums.{sum_by-append, sum_by-cons}
use Rattle.table_definitions.specs.Lists.{below}
use Rattle.table_definitions.proofs.Bijections.{below-push}
use Rattle.surface_laws.proofs.ThreeSums.{three_of, three_more}
use Rattle.quad_lift.specs.Spreads.{quads_around, marked_quads}

abbrev term : List ℕ → List Bool → ℕ → ℕ
term xs marked i = if slice_index_or marked i false then quads_around xs i else 0

quads-suc : (xs : List ℕ) (marked : List Bool) (n : ℕ) → marked_quads xs marked (suc n) ≡ marked_quads xs marked n + term xs marked n
unfolding marked_quads
quads-suc xs marked n =
    let f : ℕ → ℕ = term xs marked in
    let e : sum_by f (below n ++ n ∷ []) ≡ sum_by f (below n) + sum_by f (n ∷ []) = sum_by-append f (below n) (n ∷ []) in
    let g : sum_by f (n ∷ []) ≡ f n + sum_by f [] = sum_by-cons f n [] in
    let z : sum_by f [] ≡ 0 = refl in
    ap (sum_by f) (sym (below-push n)) ∙ omega arith

quads-zero : (xs : List ℕ) (marked : List Bool) → marked_quads xs marked 0 ≡ 0
unfolding marked_quads
quads-zero xs marked = refl

-- marking a vertex adds the quads of its tetrahedron
module _ (xs : List ℕ) (marked : List Bool) (j : ℕ) (inside : j < length marked) (free : slice_index_or marked j false ≡ false) where
  other_term : (i : ℕ) → (i ≡ j → ⊥) → term xs (set marked j true) i ≡ term xs marked i
  other_term i off = ap (λ b. if b then quads_around xs i else 0) (get_or-set_other marked j i true false off)

  new_term : term xs (set marked j true) j ≡ quads_around xs j
  new_term = ap (λ b. if b then quads_around xs j else 0) (get_or-set_same marked j true false inside)

  old_term : term xs marked j ≡ 0
  old_term = ap (λ b. if b then quads_around xs j else 0) free

  same_before : (n : ℕ) → n ≤ j → marked_quads xs (set marked j true) n ≡ marked_quads xs marked n
  same_before zero l = quads-zero xs (set marked j true) ∙ sym (quads-zero xs marked)
  same_before (suc n) l = omega (arith, same_before n (omega arith), quads-suc xs (set marked j true) n, quads-suc xs marked n, other_term n (λ e. omega arith))

  pub mark_adds : (n : ℕ) → j < n → marked_quads xs (set marked j true) n ≡ marked_quads xs marked n + quads_around xs j
  mark_adds zero l = absurd (omega arith)
  mark_adds (suc n) l = go (cases_lt j n) (λ m. mark_adds n m)
    where
      go : (j < n) ⊎ (n ≤ j) → (j < n → marked_quads xs (set marked j true) n ≡ marked_quads xs marked n + quads_around xs j)
          → marked_quads xs (set marked j true) (suc n) ≡ marked_quads xs marked (suc n) + quads_around xs j
      go (inl m) before = omega (arith, before m, quads-suc xs (set marked j true) n, quads-suc xs marked n, other_term n (λ e. omega arith))
      go (inr m) before =
          let same : n ≡ j = omega arith in
          let new : term xs (set marked j true) n ≡ quads_around xs j = ap (term xs (set marked j true)) same ∙ new_term in
          let old : term xs marked n ≡ 0 = ap (term xs marked) same ∙ old_term in
          omega (arith, same_before n m, quads-suc xs (set marked j true) n, quads-suc xs marked n, new, old)

-- a vertex adds at most the quads of its tetrahedron
at_most : (xs : List ℕ) (marked : List Bool) (i : ℕ) → term xs marked i ≤ quads_around xs i
at_most xs marked i = go (slice_index_or marked i false)
  where
    go : (b : Bool) → (if b then quads_around xs i else 0) ≤ quads_around xs i
    go true = omega arith
    go false = omega arith

beside_is : (xs : List ℕ) (t k : ℕ) → k < 4 → quads_around xs (4 * t + k) ≡ three_of xs t
unfolding quads_around
beside_is xs t k l = let e : (4 * t + k) / 4 ≡ t = omega arith in ap (three_of xs) e

four-more : (xs : List ℕ) (marked : List Bool) (t : ℕ) → marked_quads xs marked (4 * (t + 1)) ≤ marked_quads xs marked (4 * t) + 4 * three_of xs t
four-more xs marked t =
    let e : 4 * (t + 1) ≡ suc (suc (suc (suc (4 * t)))) = omega arith in
    let z : suc (4 * t) ≡ 4 * t + 1 = omega arith in
    let y : suc (suc (4 * t)) ≡ 4 * t + 2 = omega arith in
    let x : suc (suc (suc (4 * t))) ≡ 4 * t + 3 = omega arith in
    let w : 4 * t ≡ 4 * t + 0 = omega arith in
    let a : term xs marked (4 * t) ≤ three_of xs t = subst (λ n. term xs marked (4 * t) ≤ n) (ap (quads_around xs) w ∙ beside_is xs t 0 (omega arith)) (at_most xs marked (4 * t)) in
    let b : term xs marked (suc (4 * t)) ≤ three_of xs t = subst (λ n. term xs marked (suc (4 * t)) ≤ n) (ap (quads_around xs) z ∙ beside_is xs t 1 (omega arith)) (at_most xs marked (suc (4 * t))) in
    let c : term xs marked (suc (suc (4 * t))) ≤ three_of xs t =
    subst (λ n. term xs marked (suc (suc (4 * t))) ≤ n) (ap (quads_around xs) y ∙ beside_is xs t 2 (omega arith)) (at_most xs marked (suc (suc (4 * t)))) in
    let d : term xs marked (suc (suc (suc (4 * t)))) ≤ three_of xs t =
    subst (λ n. term xs marked (suc (suc (suc (4 * t)))) ≤ n) (ap (quads_around xs) x ∙ beside_is xs t 3 (omega arith)) (at_most xs marked (suc (suc (suc (4 * t))))) in
    let whole : marked_quads xs marked (4 * (t + 1)) ≡ marked_quads xs marked (suc (suc (suc (suc (4 * t))))) = ap (marked_quads xs marked) e in
    omega (
      arith,
      whole,
      quads-suc xs marked (4 * t),
      quads-suc xs marked (suc (4 * t)),
      quads-suc xs marked (suc (suc (4 * t))),
      quads-suc xs marked (suc (suc (suc (4 * t)))),
      a,
      b,
      c,
      d,
    )

bounded_before : (xs : List ℕ) (marked : List Bool) (t : ℕ) → 3 * t ≤ length xs → marked_quads xs marked (4 * t) ≤ 4 * sum (take (3 * t) xs)
bounded_before xs marked zero l = omega (arith, quads-zero xs marked)
bounded_before xs marked (suc t) l =
    let e : suc t ≡ t + 1 = omega arith in
    subst (λ n. marked_quads xs marked (4 * n) ≤ 4 * sum (take (3 * n) xs)) (sym e)
    (omega (arith, bounded_before xs marked t (omega arith), four-more xs marked t, three_more xs t (omega arith)))

pub few_quads : (xs : List ℕ) (marked : List Bool) (n : ℕ) → length xs ≡ 3 * n → marked_quads xs marked (4 * n) ≤ 4 * sum xs
few_quads xs marked n w =
    let all : sum (take (3 * n) xs) ≡ sum xs = ap sum (take_all (3 * n) xs (omega arith)) in
    omega (arith, bounded_before xs marked n (omega arith), all)
