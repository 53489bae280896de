-- An enumeration has a list, or a number exceeds the limit.
use Rattle.std.proofs.Common.{◌≡◌, ℕ, ◌+◌, ◌<◌, ◌≤◌, ◌⊎◌, inl, inr, List, [], length, take, slice_index_or, sym, subst, subst₂, arith}
use Rattle.std.specs.List.{take-map}
use Rattle.std.proofs.lemmas.List.{length-take-le, get_or-take}
use Rattle.cone_definitions.specs.Rows.{Row}
use Rattle.cone_definitions.specs.Surfaces.{Clash, PairsAreOfTwoColumns}
use Rattle.cone_definitions.specs.Elimination.{Step, in_order, IsWithin, Named, IsNamedAt, IsLarge}
use Rattle.cone_definitions.specs.Systems.{System}
use Rattle.cone_definitions.specs.Orders.{IsNamedTurn, AreNamed}
use Rattle.cone_definitions.specs.Listings.{Enumeration, IsListed, ExceedsLimit}
use Rattle.cone_definitions.specs.declared.Order.{Order}
use Rattle.cone_definitions.proofs.Existence.{surface_list_exists_lem, named_or_within_lem}
use Rattle.cone_definitions.proofs.PastLimit.{take_shorter, step_same, length-in_order}
use Rattle.cone_laws.proofs.Taken.{some_rows_taken}

-- the first rows that an order names
named_fewer : (order : Order) (system : System) (taken : List ℕ) (n : ℕ) → n ≤ length taken → AreNamed order system taken → AreNamed order system (take n taken)
named_fewer order system taken n within h k l =
    let size : length (take n taken) ≡ n = length-take-le n taken within in
    subst₂ (IsNamedTurn order system) (sym (take_shorter taken n k (omega arith) within)) (sym (get_or-take n taken k 0 (omega arith))) (h k (omega arith))

-- what exceeds the limit at a step does so in the rows up to it
large_shorter : (limit columns : ℕ) (rows : List Row) (pairs : List Clash) (n k : ℕ) (named : Named) → k < n → n ≤ length rows → IsLarge limit columns rows pairs k named →
    IsLarge limit columns (take n rows) pairs k named
large_shorter limit columns rows pairs n k named less within h = record {
  in_range = let size : length (take n rows) ≡ n = length-take-le n rows within in omega arith;
  earlier = λ i l. subst (IsWithin limit) (sym (step_same columns rows pairs n i (omega arith) within)) (h.earlier i l);
  at_step = subst (λ (s : Step). IsNamedAt limit s named) (sym (step_same columns rows pairs n k less within)) h.at_step;
}

module _ (e : Enumeration) (separate : PairsAreOfTwoColumns e.pairs) where
  abbrev Ends : Type 0
  Ends = ((taken : List ℕ) × (list : List (List ℕ)) × IsListed e taken list) ⊎ ((taken : List ℕ) × (kind : Named) × ExceedsLimit e taken kind)

  past_limit : (taken : List ℕ) → AreNamed e.order e.system taken → (k : ℕ) (named : Named) → IsLarge e.limit e.system.columns (in_order e.system.rows taken) e.pairs k named
      → ExceedsLimit e (take (k + 1) taken) named
  past_limit taken h k named large =
      let size : length (in_order e.system.rows taken) ≡ length taken = length-in_order e.system.rows taken in
      let inside : k < length (in_order e.system.rows taken) = large.in_range in
      record {
        step = k;
        count = length-take-le (k + 1) taken (omega arith);
        named = named_fewer e.order e.system taken (k + 1) (omega arith) h;
        large = subst (λ (rows : List Row). IsLarge e.limit e.system.columns rows e.pairs k named) (take-map (λ number. slice_index_or e.system.rows number []) (k + 1) taken)
            (large_shorter e.limit e.system.columns (in_order e.system.rows taken) e.pairs (k + 1) k named (omega arith) (omega arith) large);
      }

  pub enumeration_ends : Ends
  enumeration_ends =
      let t = some_rows_taken e.order e.system in
      let size : length (in_order e.system.rows t.0) ≡ length t.0 = length-in_order e.system.rows t.0 in
      elim (named_or_within_lem e.system.columns (in_order e.system.rows t.0) e.pairs separate e.limit) [
        | inl within ↦
            let s = surface_list_exists_lem e.system.columns e.system.rows e.pairs separate in
            inl (t.0, s.0, record { surfaces = s.1; all = t.1; named = t.2; within = λ k l. within k (omega arith) })
        | inr w ↦ inr (take (w.0 + 1) t.0, w.1, past_limit t.0 t.2 w.0 w.1 w.2)
      ]
