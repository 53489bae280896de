-- No entry of a listed vector exceeds the limit: each vector is a unit vector, or a combination divided by its greatest
-- common divisor.
use Rattle.std.proofs.Common.{◌≡◌, ◌≢◌, ℕ, zero, suc, ◌+◌, ◌*◌, ◌<◌, ◌≤◌, ◌⊎◌, inl, inr, List, [], ◌∷◌, length, take, slice_index, slice_index_or, refl, sym, ap, ◌∙◌, subst, arith, add-one, take_all, mul-le-mul_right}
use Rattle.std.specs.Prelude.{All}
use Rattle.std.specs.Int.{◌∣◌}
use Rattle.std.proofs.lemmas.Nat.Gcd.{dvd_refl, dvd-zero}
use Rattle.std.proofs.lemmas.Bool.{cases_eq}
use Rattle.std.proofs.lemmas.List.{length-map}
use Rattle.std.proofs.lemmas.List.Sorted.{IsPermutation-sym}
use Rattle.cone_definitions.specs.Vectors.{unit}
use Rattle.cone_definitions.specs.Rows.{Row}
use Rattle.cone_definitions.specs.Surfaces.{Clash, IsVertexSurface}
use Rattle.cone_definitions.specs.Elimination.{Step, in_order, step_at, IsRay, IsWithin}
use Rattle.cone_definitions.specs.Elimination.IsNumber.{entry}
use Rattle.cone_definitions.specs.Enumeration.{ComesFromPair}
use Rattle.cone_definitions.specs.Rows.{IsZeroAt}
use Rattle.cone_definitions.proofs.Entries.{entry-multiple, nonzero_before}
use Rattle.cone_definitions.proofs.Next.{rows_more, surface_reordered, in_order_permutes}
use Rattle.cone_definitions.proofs.Surfaces.{step_gives_next_lem}
use Rattle.cone_definitions.proofs.Unions.{pair_union}
use Rattle.cone_definitions.proofs.Units.{entry-unit_other, unit_inside, unit_solution, unit_nonzero}
use Rattle.outcome_written_laws.specs.Entries.{ListedAreWithin}

-- with no rows each entry is 0 or 1
module _ (columns : ℕ) (pairs : List Clash) (x : List ℕ) (h : IsVertexSurface columns [] pairs x) where
  others_zero : (j : ℕ) → slice_index x j ≢ 0 → (i : ℕ) → i ≢ j → slice_index x i ≡ 0
  others_zero j some i ne =
      let place : j < columns = nonzero_before x columns j h.extreme.solution.width some in
      h.extreme.least (unit columns j) (unit_solution columns j) (unit_nonzero columns j place) (unit_inside columns j x some) i (entry-unit_other columns j i ne)

  entry_divides : (j : ℕ) → slice_index x j ≢ 0 → (i : ℕ) → slice_index x j ∣ slice_index x i
  entry_divides j some i = elim (cases_eq i j) [
    | inl e ↦ subst (λ k. slice_index x j ∣ slice_index x k) (sym e) (dvd_refl (slice_index x j))
    | inr ne ↦ subst (λ n. slice_index x j ∣ n) (sym (others_zero j some i ne)) (dvd-zero (slice_index x j))
  ]

  one_at_most : (j : ℕ) → slice_index x j ≤ 1
  one_at_most j = elim (cases_eq (slice_index x j) 0) [
    | inl z ↦ omega arith
    | inr some ↦ (let one : slice_index x j ≡ 1 = h.primitive (slice_index x j) (entry_divides j some) in omega arith)
  ]

-- a quotient is at most the dividend
divided_less : (d n z : ℕ) → z ≡ d * n → d ≢ 0 → n ≤ z
divided_less d n z e some = let l : 1 * n ≤ d * n = mul-le-mul_right n (omega arith) in omega arith

none_of : (n : ℕ) → 0 * n ≡ 0
none_of n = omega arith

-- no entry of a reduced combination exceeds that of the combination
module _ (limit : ℕ) (step : Step) (within : IsWithin limit step) (x : List ℕ) (c : ComesFromPair step x) where
  divisor_some : c.reduced.divisor ≢ 0
  divisor_some none =
      let nonzero = (pair_union step c.u c.w c.reduced.combination c.pair c.reduced.combines).nonzero in
      nonzero.1 (ap (λ (y : List ℕ). slice_index y nonzero.0) c.reduced.is_multiple ∙ entry-multiple c.reduced.divisor x nonzero.0 ∙ ap (λ d. d * slice_index x nonzero.0) none ∙ none_of (slice_index x nonzero.0))

  made_within : (j : ℕ) → slice_index x j ≤ limit
  made_within j =
      let same : slice_index c.reduced.combination j ≡ c.reduced.divisor * slice_index x j =
      ap (λ (y : List ℕ). slice_index y j) c.reduced.is_multiple ∙ entry-multiple c.reduced.divisor x j in
      let low : slice_index c.reduced.combination j ≤ limit = within (slice_index c.reduced.combination j) (entry c.u c.w c.reduced.combination j c.pair c.reduced.combines) in
      let less : slice_index x j ≤ slice_index c.reduced.combination j = divided_less c.reduced.divisor (slice_index x j) (slice_index c.reduced.combination j) same divisor_some in
      omega arith

module _ (limit columns : ℕ) (rows : List Row) (pairs : List Clash) (most : ℕ) (room : limit ≤ most) (some : 1 ≤ most)
    (within : (k : ℕ) → k < length rows → IsWithin limit (step_at columns rows pairs k)) where
  next_within : (k : ℕ) → k < length rows → ((x : List ℕ) → IsRay (step_at columns rows pairs k) x → (j : ℕ) → slice_index x j ≤ most)
      → (x : List ℕ) → (IsRay (step_at columns rows pairs k) x × IsZeroAt (step_at columns rows pairs k).row x) ⊎ ComesFromPair (step_at columns rows pairs k) x → (j : ℕ) → slice_index x j ≤ most
  next_within k l before x (inl kept) j = before x kept.0 j
  next_within k l before x (inr made) j = let low : slice_index x j ≤ limit = made_within limit (step_at columns rows pairs k) (within k l) x made j in omega arith

  rays_within : (k : ℕ) → k ≤ length rows → (x : List ℕ) → IsVertexSurface columns (take k rows) pairs x → (j : ℕ) → slice_index x j ≤ most
  rays_within zero l x h j = let one : slice_index x j ≤ 1 = one_at_most columns pairs x h j in omega arith
  rays_within (suc k) l x h j =
      let more : IsVertexSurface columns (take (k + 1) rows) pairs x = subst (λ n. IsVertexSurface columns (take n rows) pairs x) (sym (add-one k)) h in
      let next = subst (λ r. IsVertexSurface columns r pairs x) (rows_more columns rows pairs k (omega arith)) more in
      next_within k (omega arith) (rays_within k (omega arith)) x ((step_gives_next_lem (step_at columns rows pairs k) x).0 next) j

  pub surfaces_within : (x : List ℕ) → IsVertexSurface columns rows pairs x → (j : ℕ) → slice_index x j ≤ most
  surfaces_within x h = rays_within (length rows) (omega arith) x (subst (λ r. IsVertexSurface columns r pairs x) (sym (take_all (length rows) rows (omega arith))) h)

-- a bound of the entries at all columns bounds all entries
pub each_entry : (x : List ℕ) (most : ℕ) → ((j : ℕ) → slice_index x j ≤ most) → All (λ entry. entry ≤ most) x
each_entry x most h k d l = subst (λ n. n ≤ most) (sym (same_default x k d l)) (h k)
  where
    same_default : (xs : List ℕ) (i d : ℕ) → i < length xs → slice_index_or xs i d ≡ slice_index xs i
    same_default [] i d m = absurd (omega arith)
    same_default (y ∷ ys) zero d m = refl
    same_default (y ∷ ys) (suc i) d m = same_default ys i d (omega arith)

pub listed_within : ListedAreWithin
listed_within e taken list most listed room some i d l =
    let ordered : List Row = in_order e.system.rows taken in
    let long : length ordered ≡ length taken = length-map taken (λ number. slice_index_or e.system.rows number []) in
    let surface : IsVertexSurface e.system.columns ordered e.pairs (slice_index_or list i d) =
    surface_reordered e.system.columns e.system.rows ordered e.pairs (slice_index_or list i d) (IsPermutation-sym ordered e.system.rows (in_order_permutes e.system.rows taken listed.all))
    (listed.surfaces.vertex_surfaces i d l) in
    each_entry (slice_index_or list i d) most
    (surfaces_within e.limit e.system.columns ordered e.pairs most room some (λ k m. listed.within k (omega (arith, m, long))) (slice_index_or list i d) surface)
