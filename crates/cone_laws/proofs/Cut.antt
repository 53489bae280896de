-- The rays of a step are those of the rows that cut, and the bound by these.
use Rattle.std.proofs.Common.{◌≡◌, ℕ, zero, suc, ◌+◌, ◌<◌, ◌≤◌, ◌⊎◌, inl, inr, true, false, not, cond, List, [], ◌∷◌, ◌++◌, length, take, slice_index_or, All, Contains, subst, sym, ap, arith, add-one}
use Rattle.std.proofs.lemmas.Bool.{cases_Bool, eqb-true}
use Rattle.std.proofs.lemmas.List.{length_push}
use Rattle.std.proofs.lemmas.List.Elements.{All-contains}
use Rattle.std.proofs.lemmas.List.Sums.{AllPass-from_list_all}
use Rattle.cone_definitions.specs.Rows.{Row, IsZeroAt}
use Rattle.cone_definitions.specs.Surfaces.{Clash, PairsAreOfTwoColumns, IsVertexSurface, IsAdmissibleUnion, IsSurfaceList}
use Rattle.cone_definitions.specs.Elimination.{Step, step_at, IsRay, IsPair}
use Rattle.cone_definitions.specs.Enumeration.{ComesFromPair, IsNextList, unit_vectors}
use Rattle.cone_definitions.proofs.Ascending.{same_ascending}
use Rattle.cone_definitions.proofs.First.{unit_vectors_list}
use Rattle.cone_definitions.proofs.Next.{next_list_lem, rows_more}
use Rattle.cone_definitions.specs.Vectors.{ray_at}
use Rattle.cone_laws.specs.Unions.{union_size, HasThirdPlace}
use Rattle.cone_laws.specs.Cuts.{IsListOfAtMost, IsStepOn, is_flat, cuts_before, AreLists}
use Rattle.cone_laws.proofs.Counts.{count_next}
use Rattle.cone_laws.proofs.Pairs.{pair_bound}
use Rattle.cone_laws.proofs.Places.{large_third_place}

-- ---- the first list, and a step whose row is 0 at all rays

pub units_of_no_row : (columns : ℕ) (pairs : List Clash) → PairsAreOfTwoColumns pairs → IsListOfAtMost columns pairs 0 (unit_vectors columns)
units_of_no_row columns pairs separate = record { rows = []; limited = omega arith; surfaces = unit_vectors_list columns pairs separate }

zero_no_pair : (step : Step) (rays : List (List ℕ)) → IsSurfaceList step.columns step.before step.pairs rays → All (IsZeroAt step.row) rays → (u w : List ℕ) → IsPair step u w → ⊥
zero_no_pair step rays h zeros u w p = let z : IsZeroAt step.row u = All-contains (IsZeroAt step.row) rays u zeros (h.complete u p.u_ray) in let l = p.positive in omega (arith, z, l)

pub flat_keeps : (step : Step) (rays next : List (List ℕ)) → IsStepOn step rays next → All (IsZeroAt step.row) rays → next ≡ rays
flat_keeps step rays next s zeros = same_ascending next rays s.next_list.ascending s.surfaces.ascending
    (λ x c. kept x (All-contains (λ y. (Contains rays y × IsZeroAt step.row y) ⊎ ComesFromPair step y) next x s.next_list.kept_or_made c))
    (λ x c. s.next_list.keeps x c (All-contains (IsZeroAt step.row) rays x zeros c))
  where
    kept : (x : List ℕ) → (Contains rays x × IsZeroAt step.row x) ⊎ ComesFromPair step x → Contains rays x
    kept x (inl c) = c.0
    kept x (inr c) = absurd (zero_no_pair step rays s.surfaces zeros c.u c.w c.pair)

-- ---- other rows with the same rays

-- a step with the same row after these rows
after : Step → List Row → Step
after step rows = record { columns = step.columns; pairs = step.pairs; before = rows; row = step.row }

module _ (step : Step) (rays : List (List ℕ)) (h : IsSurfaceList step.columns step.before step.pairs rays)
    (rows : List Row) (g : IsSurfaceList step.columns rows step.pairs rays) where
  ray_there : (x : List ℕ) → IsRay step x → IsRay (after step rows) x
  unfolding after
  ray_there x r = All-contains (IsVertexSurface step.columns rows step.pairs) rays x g.vertex_surfaces (h.complete x r)

  ray_here : (x : List ℕ) → IsRay (after step rows) x → IsRay step x
  unfolding after
  ray_here x r = All-contains (IsVertexSurface step.columns step.before step.pairs) rays x h.vertex_surfaces (g.complete x r)

  pair_there : (u w : List ℕ) → IsPair step u w → IsPair (after step rows) u w
  unfolding after
  pair_there u w p = record {
    u_ray = ray_there u p.u_ray;
    w_ray = ray_there w p.w_ray;
    positive = p.positive;
    negative = p.negative;
    no_clash = p.no_clash;
    no_third = λ v r inside. p.no_third v (ray_here v r) inside;
  }

  pair_here : (u w : List ℕ) → IsPair (after step rows) u w → IsPair step u w
  unfolding after
  pair_here u w p = record {
    u_ray = ray_here u p.u_ray;
    w_ray = ray_here w p.w_ray;
    positive = p.positive;
    negative = p.negative;
    no_clash = p.no_clash;
    no_third = λ v r inside. p.no_third v (ray_there v r) inside;
  }

  comes_there : (x : List ℕ) → (Contains rays x × IsZeroAt step.row x) ⊎ ComesFromPair step x → (Contains rays x × IsZeroAt step.row x) ⊎ ComesFromPair (after step rows) x
  unfolding after
  comes_there x (inl c) = inl c
  comes_there x (inr c) = inr (record { u = c.u; w = c.w; pair = pair_there c.u c.w c.pair; reduced = c.reduced })

  next_there : (next : List (List ℕ)) → IsNextList step rays next → IsNextList (after step rows) rays next
  unfolding after
  next_there next n = record {
    ascending = n.ascending;
    kept_or_made = λ k d l. comes_there (slice_index_or next k d) (n.kept_or_made k d l);
    keeps = n.keeps;
    makes = λ u w p. n.makes u w (pair_here u w p);
  }

  surfaces_more : (next : List (List ℕ)) → IsNextList step rays next → IsSurfaceList step.columns (rows ++ step.row ∷ []) step.pairs next
  unfolding after
  surfaces_more next n = next_list_lem (after step rows) rays next g (next_there next n)

  few_more : (next : List (List ℕ)) (count : ℕ) → length rows ≤ count → IsNextList step rays next → IsListOfAtMost step.columns step.pairs (count + 1) next
  few_more next count limited n = record {
    rows = rows ++ step.row ∷ [];
    limited = omega (arith, limited, length_push rows step.row);
    surfaces = surfaces_more next n;
  }

  few_pair : (count : ℕ) (u w : List ℕ) → length rows ≤ count → IsPair step u w → union_size step.columns u w ≤ count + 2
  unfolding after
  few_pair count u w limited p = omega (arith, limited, pair_bound (after step rows) u w (pair_there u w p))

pub step_adds_row : (step : Step) (rays next : List (List ℕ)) (rows : List Row) → IsStepOn step rays next →
    IsSurfaceList step.columns rows step.pairs rays → IsSurfaceList step.columns (rows ++ step.row ∷ []) step.pairs next
step_adds_row step rays next rows s g = surfaces_more step rays s.surfaces rows g next s.next_list

pub step_needs_one : (step : Step) (rays next : List (List ℕ)) (count : ℕ) → IsStepOn step rays next → IsListOfAtMost step.columns step.pairs count rays → IsListOfAtMost step.columns step.pairs (count + 1) next
step_needs_one step rays next count s f = few_more step rays s.surfaces f.rows f.surfaces next count f.limited s.next_list

pub pair_of_few : (step : Step) (rays : List (List ℕ)) (count : ℕ) (u w : List ℕ) → IsSurfaceList step.columns step.before step.pairs rays → IsListOfAtMost step.columns step.pairs count rays →
    IsPair step u w → union_size step.columns u w ≤ count + 2
pair_of_few step rays count u w h f p = few_pair step rays h f.rows f.surfaces count u w f.limited p

pub third_of_few : (columns : ℕ) (pairs : List Clash) (count : ℕ) (rays : List (List ℕ)) → IsListOfAtMost columns pairs count rays →
    (i j : ℕ) → i < length rays → j < length rays → IsAdmissibleUnion pairs (ray_at rays i) (ray_at rays j) →
    count + 2 < union_size columns (ray_at rays i) (ray_at rays j) → HasThirdPlace rays i j
third_of_few columns pairs count rays f i j li lj clear large = let limited = f.limited in
    large_third_place columns f.rows pairs rays f.surfaces i j li lj clear (omega arith)

-- ---- an enumeration

flat_zeros : (row : Row) (rays : List (List ℕ)) → is_flat row rays ≡ true → All (IsZeroAt row) rays
flat_zeros row rays e k d l = eqb-true _ _ (AllPass-from_list_all _ rays e k d l)

module _ (columns : ℕ) (rows : List Row) (pairs : List Clash) (lists : ℕ → List (List ℕ)) (a : AreLists columns rows pairs lists) where
  cuts_flat : (k : ℕ) → is_flat (slice_index_or rows k []) (lists k) ≡ true → cuts_before rows lists (suc k) ≡ cuts_before rows lists k
  cuts_flat k e = omega (arith, count_next (λ i. not (is_flat (slice_index_or rows i []) (lists i))) k, ap (λ b. cond {A = ℕ} (not b) 1 0) e)

  cuts_sharp : (k : ℕ) → is_flat (slice_index_or rows k []) (lists k) ≡ false → cuts_before rows lists (suc k) ≡ cuts_before rows lists k + 1
  cuts_sharp k e = omega (arith, count_next (λ i. not (is_flat (slice_index_or rows i []) (lists i))) k, ap (λ b. cond {A = ℕ} (not b) 1 0) e)

  -- the list of a step, for the rows before it and for the rows among them that cut
  abbrev HasLists : ℕ → Type 0
  HasLists k = IsSurfaceList columns (take k rows) pairs (lists k) × IsListOfAtMost columns pairs (cuts_before rows lists k) (lists k)

  next_lists : (k : ℕ) → k < length rows → HasLists k → IsListOfAtMost columns pairs (cuts_before rows lists (suc k)) (lists (k + 1))
  next_lists k l h = elim (cases_Bool (is_flat (slice_index_or rows k []) (lists k))) [
    | inl e ↦ subst (λ n. IsListOfAtMost columns pairs n (lists (k + 1))) (sym (cuts_flat k e))
        (subst (IsListOfAtMost columns pairs (cuts_before rows lists k)) (sym (flat_keeps (step_at columns rows pairs k) (lists k) (lists (k + 1)) on (flat_zeros (slice_index_or rows k []) (lists k) e))) h.1)
    | inr e ↦ subst (λ n. IsListOfAtMost columns pairs n (lists (k + 1))) (sym (cuts_sharp k e))
        (step_needs_one (step_at columns rows pairs k) (lists k) (lists (k + 1)) (cuts_before rows lists k) on h.1)
  ]
    where
      on : IsStepOn (step_at columns rows pairs k) (lists k) (lists (k + 1))
      on = record { surfaces = h.0; next_list = a.next k l }

  lists_at : (k : ℕ) → k ≤ length rows → HasLists k
  lists_at zero h = (
    subst (IsSurfaceList columns [] pairs) (sym a.first) (unit_vectors_list columns pairs a.separate),
    subst (IsListOfAtMost columns pairs 0) (sym a.first) (units_of_no_row columns pairs a.separate),
  )
  lists_at (suc k) h = let l : k < length rows = omega arith in let here = lists_at k (omega arith) in (
    subst (λ n. IsSurfaceList columns (take n rows) pairs (lists n)) (add-one k)
        (subst (λ r. IsSurfaceList columns r pairs (lists (k + 1))) (sym (rows_more columns rows pairs k l))
        (next_list_lem (step_at columns rows pairs k) (lists k) (lists (k + 1)) here.0 (a.next k l))),
    subst (λ n. IsListOfAtMost columns pairs (cuts_before rows lists (suc k)) (lists n)) (add-one k) (next_lists k l here),
  )

  pub pair_by_cuts : (k : ℕ) (u w : List ℕ) → k ≤ length rows → IsPair (step_at columns rows pairs k) u w → union_size columns u w ≤ cuts_before rows lists k + 2
  pair_by_cuts k u w l p = let here = lists_at k l in pair_of_few (step_at columns rows pairs k) (lists k) (cuts_before rows lists k) u w here.0 here.1 p
