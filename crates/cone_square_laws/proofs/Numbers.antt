-- The numbers of all steps in any order of the rows.
use Rattle.std.proofs.Common.{◌≡◌, ℕ, ◌+◌, ◌*◌, ◌<◌, ◌≤◌, List, [], inl, inr, length, take, slice_index_or, subst, arith, mul-le-mul_left}
use Rattle.std.specs.List.{range_with_len}
use Rattle.std.specs.List.Sorted.{IsPermutation}
use Rattle.std.proofs.lemmas.Bool.{cases_lt}
use Rattle.std.proofs.lemmas.List.{length-map}
use Rattle.std.proofs.lemmas.List.Elements.{All-take}
use Rattle.std.proofs.lemmas.List.Sorted.{All-permutation, sum_by-IsPermutation, IsPermutation-sym}
use Rattle.std.proofs.lemmas.List.Sums.{sum_by-take-le}
use Rattle.cone_definitions.specs.Surfaces.{Clash}
use Rattle.cone_definitions.specs.Elimination.{in_order, step_at}
use Rattle.cone_definitions.specs.Listings.{AreWithin}
use Rattle.cone_definitions.specs.Systems.{System}
use Rattle.cone_definitions.proofs.Next.{in_order_permutes}
use Rattle.cone_bound_laws.specs.Caps.{caps_product, row_weight, row_size}
use Rattle.cone_bound_laws.proofs.Groups.{caps_some}
use Rattle.cone_square_laws.specs.Squares.{HasSquareCaps}
use Rattle.cone_square_laws.proofs.Minors.{Root, root_of}
use Rattle.cone_square_laws.proofs.Entries.{entries}
use Rattle.cone_square_laws.proofs.Steps.{step_within}

-- the root of 1 or more is 1 at least
some_root : (s r : ℕ) → 1 ≤ s → s < (r + 1) * (r + 1) → 1 ≤ r
some_root s r some exceeded = elim (cases_lt 0 r) [
  | inl l ↦ omega arith
  | inr l ↦ let e : r ≡ 0 = omega arith in absurd (let less : s < (0 + 1) * (0 + 1) = subst (λ n. s < (n + 1) * (n + 1)) e exceeded in omega arith)
]

module _ (limit : ℕ) (system : System) (pairs : List Clash) (group cap : ℕ → ℕ) (groups size : ℕ) (caps : HasSquareCaps system.columns system.rows pairs group cap groups size)
    (most : size * caps_product cap groups ≤ limit) (taken : List ℕ) (perm : IsPermutation (range_with_len 0 (length system.rows)) taken) where
  permutes : IsPermutation system.rows (in_order system.rows taken)
  permutes = IsPermutation-sym (in_order system.rows taken) system.rows (in_order_permutes system.rows taken perm)

  caps_before : (k : ℕ) → HasSquareCaps system.columns (take k (in_order system.rows taken)) pairs group cap groups size
  caps_before k = record {
    some_cap = caps.some_cap;
    light = λ j l. omega (
      arith,
      sum_by-take-le (λ r. row_weight j r * row_weight j r) (in_order system.rows taken) k,
      sum_by-IsPermutation (λ r. row_weight j r * row_weight j r) system.rows (in_order system.rows taken) permutes,
      caps.light j l,
    );
    grouped = caps.grouped;
    clash = caps.clash;
    small = All-take (λ row. row_size row ≤ size) k (in_order system.rows taken) (All-permutation (λ row. row_size row ≤ size) system.rows (in_order system.rows taken) permutes caps.small);
  }

  square_most : (r : Root (caps_product cap groups)) → size * (r.root * r.root) ≤ limit
  square_most r = omega (arith, mul-le-mul_left size r.within, most)

  pub are_within : AreWithin limit system pairs taken
  are_within k l = let r = root_of (caps_product cap groups) in
      step_within r.root limit size (step_at system.columns (in_order system.rows taken) pairs k) (some_root (caps_product cap groups) r.root (caps_some groups cap caps.some_cap) r.exceeded)
      (All-permutation (λ row. row_size row ≤ size) system.rows (in_order system.rows taken) permutes caps.small k [] (omega (arith, l, length-map taken (λ number. slice_index_or system.rows number []))))
      (square_most r) (λ x h. entries system.columns (take k (in_order system.rows taken)) pairs group cap groups size (caps_before k) x h)
