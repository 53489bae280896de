-- The first of some columns that is not 0, one column at a time.
use Rattle.std.proofs.Common.{◌≡◌, ℕ, suc, ◌+◌, ◌<◌, ◌≤◌, Bool, not, cond, List, ◌∷◌, length, drop, get_or, ap, ◌∙◌, arith}
use Rattle.std.specs.Prelude.{nat_lt, slice_index}
use Rattle.std.specs.List.{position_or_len, slice_index_or}
use Rattle.std.proofs.lemmas.Bool.{lt-ltb, le-ltb}
use Rattle.std.proofs.lemmas.List.{at_drop_more}
use Rattle.surface_laws.specs.PieceLaws.{first_nonzero}

module _ (xs : List ℕ) (q : ℕ) where
  at_test : ℕ → List ℕ → Bool → ℕ
  at_test c os b = slice_index_or (c ∷ os) (cond (not b) (1 + position_or_len (λ d. nat_lt 0 (slice_index xs d)) os) 0) q

  -- the first nonzero column from index k onwards
  abbrev from_place : List ℕ → ℕ → ℕ
  from_place os k = first_nonzero xs (drop k os) q

  pub nonzero_here : (os : List ℕ) (k : ℕ) → k < length os → 0 < slice_index xs (get_or os k 0) → from_place os k ≡ get_or os k 0
  unfolding at_test
  nonzero_here os k l some =
      at_drop_more (λ cs. first_nonzero xs cs q) os k 0 l ∙ ap (at_test (get_or os k 0) (drop (k + 1) os)) (lt-ltb 0 (slice_index xs (get_or os k 0)) some)

  pub zero_here : (os : List ℕ) (k : ℕ) → k < length os → slice_index xs (get_or os k 0) ≤ 0 → from_place os k ≡ from_place os (k + 1)
  unfolding at_test
  zero_here os k l none =
      let c : ℕ = get_or os k 0 in
      let more : List ℕ = drop (k + 1) os in
      let place : ℕ = position_or_len (λ d. nat_lt 0 (slice_index xs d)) more in
      let next : 1 + place ≡ suc place = omega arith in
      at_drop_more (λ cs. first_nonzero xs cs q) os k 0 l ∙ ap (at_test c more) (le-ltb 0 (slice_index xs c) none) ∙ ap (λ i. slice_index_or (c ∷ more) i q) next
