-- The arcs after those of the triangles are those of one column: of the quads and octagons with an arc there, at most
-- one is nonzero.
use Rattle.std.proofs.Common.{◌≡◌, ℕ, zero, suc, ◌+◌, ◌*◌, ◌/◌, ◌%◌, ◌<◌, ◌≤◌, Bool, true, false, not, cond, List, [], ◌∷◌, map, filter, ◌⊎◌, inl, inr, refl, sym, ap, ◌∙◌, arith}
use Rattle.std.specs.Prelude.{◌==◌, nat_lt, slice_index, sum_by, ⊤}
use Rattle.std.specs.List.{AllByRecursion, position_or_len, slice_index_or}
use Rattle.std.proofs.lemmas.Bool.{ltb-true, ltb-false}
use Rattle.std.proofs.lemmas.List.Sums.{sum_by-cons}
use Rattle.cone_definitions.specs.Surfaces.{IsAdmissible}
use Rattle.surface_definitions.specs.Coordinates.{quad_column, oct_column, keeping, three, octagon_arcs, clash_list}
use Rattle.surface_definitions.specs.declared.Coords.{Coords}
use Rattle.surface_definitions.specs.declared.Coords.TheVariants.{Standard, Quad, Octagon}
use Rattle.surface_laws.specs.MatchingLaws.{HasTriangles}
use Rattle.surface_laws.specs.PieceLaws.{first_nonzero}
use Rattle.surface_laws.proofs.Clashes.{clash_zero}
use Rattle.surface_laws.proofs.Turns.{keeping_below}

abbrev IsZeroIn : List ℕ → ℕ → ℕ → Type 0
IsZeroIn xs a b = (slice_index xs a ≡ 0) ⊎ (slice_index xs b ≡ 0)

-- of any two of these columns at least one is 0
abbrev pub MostOne : List ℕ → List ℕ → Type 0
MostOne xs [] = ⊤
MostOne xs (d ∷ ds) = AllByRecursion (IsZeroIn xs d) ds × MostOne xs ds

module _ (xs ys : List ℕ) (inside : (c : ℕ) → slice_index xs c ≡ 0 → slice_index ys c ≡ 0) where
  others_zero : (o : ℕ) (os : List ℕ) → 0 < slice_index xs o → AllByRecursion (IsZeroIn xs o) os → sum_by (slice_index ys) os ≡ 0
  others_zero o [] l h = refl
  others_zero o (p ∷ os) l h =
      let zero_there : slice_index ys p ≡ 0 = elim h.0 [ inl z ↦ absurd (omega arith) | inr z ↦ inside p z ] in
      let more : sum_by (slice_index ys) os ≡ 0 = others_zero o os l h.1 in
      omega (arith, sum_by-cons (slice_index ys) p os)

  -- a sum over the columns is the entry at the first nonzero one
  pub one_further : (q : ℕ) (os : List ℕ) → MostOne xs (q ∷ os) → slice_index ys q + sum_by (slice_index ys) os ≡ slice_index ys (first_nonzero xs os q)
  one_further q [] h = omega arith
  one_further q (o ∷ os) h = by_test (nat_lt 0 (slice_index xs o)) refl (one_further q os (h.0.1, h.1.1))
    where
      place : ℕ
      place = position_or_len (λ c. nat_lt 0 (slice_index xs c)) os

      by_test : (b : Bool) → nat_lt 0 (slice_index xs o) ≡ b → slice_index ys q + sum_by (slice_index ys) os ≡ slice_index ys (slice_index_or os place q)
          → slice_index ys q + sum_by (slice_index ys) (o ∷ os) ≡ slice_index ys (slice_index_or (o ∷ os) (cond (not (nat_lt 0 (slice_index xs o))) (1 + place) 0) q)
      by_test true e more =
          let some : 0 < slice_index xs o = ltb-true 0 (slice_index xs o) e in
          let first : slice_index ys q ≡ 0 = elim h.0.0 [ inl z ↦ inside q z | inr z ↦ absurd (omega arith) ] in
          let rest : sum_by (slice_index ys) os ≡ 0 = others_zero o os some h.1.0 in
          let whole : slice_index ys q + sum_by (slice_index ys) (o ∷ os) ≡ slice_index ys o = omega (arith, sum_by-cons (slice_index ys) o os) in
          whole ∙ ap (λ b. slice_index ys (slice_index_or (o ∷ os) (cond (not b) (1 + place) 0) q)) (sym e)
      by_test false e more =
          let low : slice_index xs o ≤ 0 = ltb-false 0 (slice_index xs o) e in
          let none : slice_index ys o ≡ 0 = inside o (omega arith) in
          let next : 1 + place ≡ suc place = omega arith in
          let whole : slice_index ys q + sum_by (slice_index ys) (o ∷ os) ≡ slice_index ys q + sum_by (slice_index ys) os = omega (arith, sum_by-cons (slice_index ys) o os) in
          whole ∙ more ∙ ap (λ k. slice_index ys (slice_index_or (o ∷ os) k q)) (sym next)
          ∙ ap (λ b. slice_index ys (slice_index_or (o ∷ os) (cond (not b) (1 + place) 0) q)) (sym e)

module _ (n : ℕ) (xs : List ℕ) (admissible : IsAdmissible (clash_list Octagon n) xs) where
  one_zero : (a b : ℕ) → a < b → b < 10 * n → a / 10 ≡ b / 10 → 4 ≤ a % 10 → 4 ≤ b % 10 → IsZeroIn xs a b
  one_zero a b l lb t fa fb = clash_zero Octagon n xs admissible a b l lb t fa fb

  two : (t i j : ℕ) → t < n → i < 3 → j < 3 → IsZeroIn xs (quad_column Octagon t i) (oct_column Octagon t j)
  two t i j lt li lj = one_zero (quad_column Octagon t i) (oct_column Octagon t j) (omega arith) (omega arith) (omega arith) (omega arith) (omega arith)

  both : (t i j : ℕ) → t < n → i < j → j < 3 → IsZeroIn xs (oct_column Octagon t i) (oct_column Octagon t j)
  both t i j lt li lj = one_zero (oct_column Octagon t i) (oct_column Octagon t j) (omega arith) (omega arith) (omega arith) (omega arith) (omega arith)

  most_one : (t k : ℕ) → t < n → k < 3 → MostOne xs (quad_column Octagon t k ∷ map (oct_column Octagon t) (filter (λ j. not (j == k)) three))
  most_one t zero lt lk = ((two t 0 1 lt (omega arith) (omega arith), (two t 0 2 lt (omega arith) (omega arith), tt)), ((both t 1 2 lt (omega arith) (omega arith), tt), (tt, tt)))
  most_one t (suc zero) lt lk = ((two t 1 0 lt (omega arith) (omega arith), (two t 1 2 lt (omega arith) (omega arith), tt)), ((both t 0 2 lt (omega arith) (omega arith), tt), (tt, tt)))
  most_one t (suc (suc zero)) lt lk = ((two t 2 0 lt (omega arith) (omega arith), (two t 2 1 lt (omega arith) (omega arith), tt)), ((both t 0 1 lt (omega arith) (omega arith), tt), (tt, tt)))
  most_one t (suc (suc (suc k))) lt lk = absurd (omega arith)

pub further_one : (coords : Coords) (n : ℕ) (xs : List ℕ) (t f v : ℕ) → HasTriangles coords → IsAdmissible (clash_list coords n) xs → t < n → f < 4 → v < 4 → (v ≡ f → ⊥)
    → MostOne xs (quad_column coords t (keeping v f) ∷ octagon_arcs coords t f v)
further_one Standard n xs t f v h a lt lf lv off = (tt, tt)
further_one Quad n xs t f v h a lt lf lv off = absurd h
further_one Octagon n xs t f v h a lt lf lv off = most_one n xs a t (keeping v f) lt (keeping_below v f lv lf off)
