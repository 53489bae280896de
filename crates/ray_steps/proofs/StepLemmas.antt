-- One step of the elimination, from the indices of the rays to the surface list of one more row.
use Rattle.std.proofs.Common.{◌≡◌, ℕ, ◌≤◌, ◌⊎◌, List, [], All, Contains, length, slice_index_or, slice_index, subst, subst₂, sym, ◌∙◌, arith, nat_cmp, IsSorted}
use Rattle.std.specs.Cmp.Lexicographic.{slice_cmp}
use Rattle.std.specs.List.Sorted.{IsPermutation}
use Rattle.std.proofs.lemmas.List.{get_or_default}
use Rattle.std.proofs.lemmas.List.Elements.{All-weaker}
use Rattle.std.proofs.lemmas.List.Sorted.{All-permutation, Contains-permutation}
use Rattle.cone_definitions.specs.Rows.{Row, IsZeroAt}
use Rattle.cone_definitions.specs.Surfaces.{Clash, IsSurfaceList}
use Rattle.cone_definitions.specs.Elimination.{IsPair, IsCombination, IsReducedCombination, IsWithin, IsLargeRay, IsLargePair, HasPartsWithin}
use Rattle.cone_definitions.specs.Enumeration.{ComesFromPair, IsNextList}
use Rattle.cone_definitions.proofs.Next.{same_combination, next_list_lem}
use Rattle.cone_definitions.proofs.FromList.{ascending_from_sorted, within_from_list, large_ray_from_list, large_pair_from_list}
use Rattle.ray_steps.specs.declared.signs.Sign.{Sign}
use Rattle.ray_steps.specs.declared.signs.Sign.TheVariants.{Zero, Positive, Negative}
use Rattle.ray_steps.specs.declared.rays.StepFault.{StepFault}
use Rattle.ray_steps.specs.declared.rays.StepFault.TheVariants.{Large, NoMemory}
use Rattle.cone_definitions.specs.declared.LargeKind.TheVariants.{Value, Pair}
use Rattle.cone_definitions.specs.Vectors.{ray_at}
use Rattle.ray_steps.specs.Faults.{IfLarge, IsFirstLargeValue, IsFirstLargeSum}
use Rattle.ray_steps.specs.Next.{step_of, IsNextOf, IsNamedFrom}
use Rattle.ray_steps.specs.Signs.{IsSignAt, IsBoundedSign, AreSigns, IsSignedPair, ComesFromPlaces, ComesFromZero, IsNextFrom, IsFirstLargeRay, IsFirstLargePair}
use Rattle.cone_arithmetic.specs.Combinations.{IsReducedBy}
use Rattle.cone_definitions.specs.Unordered.{HasSurfaces}
use Rattle.cone_definitions.proofs.Unordered.{without_order, place_of}
use Rattle.ray_steps.proofs.SurfaceSteps.{the_step, zero_sign, sign_at_place, signed_pair, kept_or_made_read}
use Rattle.cone_laws.proofs.DistinctLemmas.{apart_permutation}
use Rattle.ray_steps.proofs.CombinationLemmas.{pair_read, reduced_read, positive_read, negative_read, combination_by_row}

module _ (limit columns : ℕ) (pairs : List Clash) (before : List Row) (row : Row) (rays : List (List ℕ)) (signs : List Sign)
    (surfaces : IsSurfaceList columns before pairs rays) (signed : AreSigns limit row rays signs) where
  abbrev unordered : HasSurfaces columns before pairs rays
  unordered = without_order columns before pairs rays surfaces

  -- the list in ascending order is the next one
  pub next_list : (next sorted : List (List ℕ)) → IsNextFrom limit pairs rays signs 0 next → IsPermutation next sorted → IsSorted (slice_cmp nat_cmp) sorted →
      All (λ x. length x ≡ columns) sorted → IsNextList (step_of pairs columns before row) rays sorted
  next_list next sorted h permutation up widths = record {
    ascending = ascending_from_sorted columns sorted widths up (apart_permutation next sorted permutation (h.separate (the_step limit columns pairs before row rays signs unordered signed)));
    kept_or_made = All-permutation (λ x. (Contains rays x × IsZeroAt row x) ⊎ ComesFromPair (step_of pairs columns before row) x) next sorted permutation
        (All-weaker (λ x. ComesFromZero rays signs 0 x ⊎ ComesFromPlaces limit pairs rays signs (length rays) 0 x)
        (λ x. (Contains rays x × IsZeroAt row x) ⊎ ComesFromPair (step_of pairs columns before row) x) (kept_or_made_read limit columns pairs before row rays signs unordered signed) next h.comes);
    keeps = λ x occurs zero_at.
        let is = get_or_default rays occurs.0 [] x occurs.1 ∙ occurs.2 in
        Contains-permutation next sorted x permutation (subst (Contains next) is
        (h.keeps occurs.0 (omega arith) occurs.1
        (zero_sign row (ray_at rays occurs.0) (slice_index_or signs occurs.0 Zero) (sign_at_place limit columns pairs before row rays signs unordered signed occurs.0 occurs.1) (subst (IsZeroAt row) (sym is) zero_at))));
    makes = λ u w p.
        let i = place_of (step_of pairs columns before row) rays unordered u p.u_ray in
        let j = place_of (step_of pairs columns before row) rays unordered w p.w_ray in
        let q = signed_pair limit columns pairs before row rays signs unordered signed i.0 j.0 i.1 j.1 (subst₂ (IsPair (step_of pairs columns before row)) (sym i.2) (sym j.2) p) in
        let g = h.gives i.0 j.0 q in (
          g.x,
          Contains-permutation next sorted g.x permutation g.occurs,
          subst₂ (λ a b. IsReducedCombination row a b g.x) i.2 j.2 (reduced_read limit pairs rays signs (the_step limit columns pairs before row rays signs unordered signed) i.0 j.0 g.x g.pair g.reduced),
        );
  }

  -- an entry of a combination in the list is within the limit
  entry_within : (i j : ℕ) (p : IsSignedPair pairs rays signs i j) (x : List ℕ) → IsReducedBy limit p.at_u p.at_w (ray_at rays i) (ray_at rays j) x →
      (z : List ℕ) → IsCombination row (ray_at rays i) (ray_at rays j) z → (column : ℕ) → slice_index z column ≤ limit
  entry_within i j p x h z combines column =
      let made = combination_by_row row p.at_u p.at_w (ray_at rays i) (ray_at rays j) h.combination
      (positive_read limit pairs rays signs row signed i j p).1 (negative_read limit pairs rays signs row signed i j p).1 h.combines in
      subst (λ y. slice_index y column ≤ limit) (same_combination row (ray_at rays i) (ray_at rays j) h.combination z made combines) (h.within column)

  -- no number of the step exceeds the limit
  pub within_step : (next : List (List ℕ)) → IsNextFrom limit pairs rays signs 0 next → IsWithin limit (step_of pairs columns before row)
  within_step next h = within_from_list (step_of pairs columns before row) rays surfaces limit signed.within
      (λ i j i_in j_in p z combines column.
      let g = h.gives i j (signed_pair limit columns pairs before row rays signs unordered signed i j i_in j_in p) in
      entry_within i j g.pair g.x g.reduced z combines column)

  -- the first pair whose combination exceeds the limit is the least
  pub named_pair : (x y : List ℕ) → IsFirstLargePair limit pairs rays signs x y → IsLargePair limit (step_of pairs columns before row) x y
  named_pair x y h = subst₂ (IsLargePair limit (step_of pairs columns before row)) (sym h.x_is) (sym h.y_is)
      (large_pair_from_list (step_of pairs columns before row) rays surfaces limit h.u h.w h.pair.u_in_range h.pair.w_in_range signed.within
      (pair_read limit pairs rays signs (the_step limit columns pairs before row rays signs unordered signed) h.u h.w h.pair)
      (record {
        combination = h.large.combination;
        combines = combination_by_row row h.pair.at_u h.pair.at_w (ray_at rays h.u) (ray_at rays h.w) h.large.combination
            (positive_read limit pairs rays signs row signed h.u h.w h.pair).1 (negative_read limit pairs rays signs row signed h.u h.w h.pair).1 h.large.combines;
        column = h.column;
        large = h.large.first.exceeded;
      })
      (λ k l k_in l_in taken p z combines column.
      let e = h.earlier k l taken (signed_pair limit columns pairs before row rays signs unordered signed k l k_in l_in p) in
      entry_within k l e.0 e.1 e.2 z combines column))

-- the first ray at which a part of the row exceeds the limit is the least
pub named_ray : (limit columns : ℕ) (pairs : List Clash) (before : List Row) (row : Row) (rays : List (List ℕ)) → IsSurfaceList columns before pairs rays → (x : List ℕ) →
    IsFirstLargeRay limit row rays x → IsLargeRay limit (step_of pairs columns before row) x
named_ray limit columns pairs before row rays surfaces x h = subst (IsLargeRay limit (step_of pairs columns before row)) (sym h.is)
    (large_ray_from_list (step_of pairs columns before row) rays surfaces limit h.place h.in_range h.large h.earlier)

-- the list in ascending order is the result of the step
pub next_of : (limit columns : ℕ) (pairs : List Clash) (row : Row) (rays : List (List ℕ)) (signs : List Sign) (next sorted : List (List ℕ)) → AreSigns limit row rays signs →
    IsNextFrom limit pairs rays signs 0 next → IsPermutation next sorted → IsSorted (slice_cmp nat_cmp) sorted → All (λ x. length x ≡ columns) sorted →
    IsNextOf limit columns pairs row rays sorted
next_of limit columns pairs row rays signs next sorted signed h permutation up widths = record {
  surfaces = λ before surfaces. next_list_lem (step_of pairs columns before row) rays sorted surfaces
      (next_list limit columns pairs before row rays signs surfaces signed next sorted h permutation up widths);
  within = λ before surfaces. within_step limit columns pairs before row rays signs surfaces signed next h;
}

-- a refusal names what the step names
pub named_value : (limit columns : ℕ) (pairs : List Clash) (row : Row) (rays : List (List ℕ)) (fault : StepFault) →
    IfLarge (IsFirstLargeValue limit row rays) fault → IfLarge (IsNamedFrom limit columns pairs row rays) fault
named_value limit columns pairs row rays (Large (Value x)) h = λ before surfaces. named_ray limit columns pairs before row rays surfaces x h
named_value limit columns pairs row rays (Large (Pair x y)) h = absurd h
named_value limit columns pairs row rays NoMemory h = h

pub named_sum : (limit columns : ℕ) (pairs : List Clash) (row : Row) (rays : List (List ℕ)) (signs : List Sign) → AreSigns limit row rays signs → (fault : StepFault) →
    IfLarge (IsFirstLargeSum limit pairs rays signs) fault → IfLarge (IsNamedFrom limit columns pairs row rays) fault
named_sum limit columns pairs row rays signs signed (Large (Value x)) h = absurd h
named_sum limit columns pairs row rays signs signed (Large (Pair x y)) h = λ before surfaces. named_pair limit columns pairs before row rays signs surfaces signed x y h
named_sum limit columns pairs row rays signs signed NoMemory h = h

-- the values of the signs are within the limit
bounded_sign : (limit : ℕ) (row : Row) (x : List ℕ) (sign : Sign) → IsSignAt row x sign → HasPartsWithin limit row x → IsBoundedSign limit sign
bounded_sign limit row x Zero at within = tt
bounded_sign limit row x (Positive value) at within = (let p = at.0 in let e = at.1 in omega arith, let e = at.1 in let w = within.0 in omega arith)
bounded_sign limit row x (Negative value) at within = (let p = at.0 in let e = at.1 in omega arith, let e = at.1 in let w = within.1 in omega arith)

pub bounded_signs : (limit : ℕ) (row : Row) (rays : List (List ℕ)) (signs : List Sign) → AreSigns limit row rays signs → All (IsBoundedSign limit) signs
bounded_signs limit row rays signs h k d less = bounded_sign limit row (ray_at rays k) (slice_index_or signs k d) (h.each k d less) (h.within k [] (let e = h.count in omega arith))
