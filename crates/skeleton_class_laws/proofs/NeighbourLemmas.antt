-- A table of neighbours joins two items if and only if choices of neighbours reach one from the other.
use Rattle.std.proofs.Common.{◌≡◌, ◌↔◌, ℕ, zero, suc, ◌+◌, ◌<◌, ◌≤◌, List, [], ◌∷◌, ◌++◌, length, Contains, Option, Some, None, refl, sym, ap, subst, ◌∙◌, arith, inl, inr, length-append}
use Rattle.std.specs.Prelude.{option_and_then, slice_index}
use Rattle.std.specs.List.{slice_index_or}
use Rattle.std.proofs.lemmas.List.{get_or_push, get_or_append_left}
use Rattle.std.proofs.lemmas.Bool.{cases_lt}
use Rattle.basic_lemmas.proofs.Members.{contains_at}
use Rattle.table_walk_laws.specs.Joined.{LeadsBy, IsJoined, IsSymmetric, HasNeighboursBelow, neighbours_of, present}
use Rattle.table_walk_laws.proofs.Rows.{present_contains}
use Rattle.table_walk_laws.proofs.Places.{place_of}
use Rattle.skeleton_class_laws.specs.Neighbours.{AreNeighbours, row_at, led, IsLed, IsReversible}

-- one more row
pub none_yet : (next : ℕ → ℕ → Option ℕ) → AreNeighbours 0 next []
none_yet next = record { one_each = refl; entries = λ i l. absurd (omega arith) }

pub one_more_row : (n : ℕ) (next : ℕ → ℕ → Option ℕ) (table : List (List (Option ℕ))) (row : List (Option ℕ)) → AreNeighbours n next table → row ≡ row_at next n
    → AreNeighbours (n + 1) next (table ++ row ∷ [])
one_more_row n next table row a e = record {
  one_each = let s : length (table ++ row ∷ []) ≡ length table + length (row ∷ []) = length-append table (row ∷ []) in let t : length table ≡ n = a.one_each in omega arith;
  entries = λ i l. elim (cases_lt i n) [
    | inl less ↦ let inside : i < length table = omega (arith, a.one_each) in get_or_append_left table (row ∷ []) [] i inside ∙ a.entries i less
    | inr more ↦ let same : i ≡ n = omega arith in
        subst (λ k. slice_index_or (table ++ row ∷ []) k [] ≡ row_at next k) (sym same) (get_or_push table row [] n a.one_each ∙ e)
  ];
}

-- the entry of a row that contains a neighbour
entry_of : (row : List (Option ℕ)) (y : ℕ) → Contains (present row) y → (f : ℕ) × (f < length row) × (slice_index_or row f None ≡ Some y)
entry_of [] y c = absurd (let l : c.0 < 0 = c.1 in omega arith)
entry_of (None ∷ row) y c = let e = entry_of row y c in let l : e.0 < length row = e.1 in let m : suc e.0 < length (None ∷ row) = omega arith in (suc e.0, m, e.2)
entry_of (Some x ∷ row) y c = let p = place_of (x ∷ present row) y c in by_place p.0 p.1 p.2 (entry_of row y)
  where
    by_place : (k : ℕ) → k < length (x ∷ present row) → slice_index (x ∷ present row) k ≡ y → (Contains (present row) y → (f : ℕ) × (f < length row) × (slice_index_or row f None ≡ Some y))
        → (f : ℕ) × (f < length (Some x ∷ row)) × (slice_index_or (Some x ∷ row) f None ≡ Some y)
    by_place zero l e later = let m : 0 < length (Some x ∷ row) = omega arith in (0, m, ap Some e)
    by_place (suc k) l e later =
        let inside : k < length (present row) = omega arith in
        let f = later (contains_at (present row) k y inside e) in
        let m : f.0 < length row = f.1 in let n : suc f.0 < length (Some x ∷ row) = omega arith in (suc f.0, n, f.2)

pub entry_at : (next : ℕ → ℕ → Option ℕ) (i f : ℕ) → f < 4 → slice_index_or (row_at next i) f None ≡ next i f
entry_at next i zero l = refl
entry_at next i (suc zero) l = refl
entry_at next i (suc (suc zero)) l = refl
entry_at next i (suc (suc (suc zero))) l = refl
entry_at next i (suc (suc (suc (suc f)))) l = absurd (omega arith)

-- an index beyond the end of the table has no neighbours
no_row : (table : List (List (Option ℕ))) (i j : ℕ) → length table ≤ i → Contains (neighbours_of table i) j → ⊥
no_row [] i j l c = let m : c.0 < 0 = c.1 in omega arith
no_row (row ∷ table) zero j l c = omega arith
no_row (row ∷ table) (suc i) j l c = let m : length table ≤ i = omega arith in no_row table i j m c

module _ (n : ℕ) (next : ℕ → ℕ → Option ℕ) (table : List (List (Option ℕ))) (a : AreNeighbours n next table) where
  pub contained : (i f j : ℕ) → i < n → f < 4 → next i f ≡ Some j → Contains (neighbours_of table i) j
  contained i f j l m e = present_contains (slice_index_or table i []) f j (ap (λ (row : List (Option ℕ)). slice_index_or row f None) (a.entries i l) ∙ entry_at next i f m ∙ e)

  pub choice_of : (i j : ℕ) → Contains (neighbours_of table i) j → (i < n) × ((f : ℕ) × (f < 4) × (next i f ≡ Some j))
  choice_of i j c = elim (cases_lt i n) [
    | inl less ↦
        let row : slice_index_or table i [] ≡ row_at next i = a.entries i less in
        let e = entry_of (row_at next i) j (subst (λ (r : List (Option ℕ)). Contains (present r) j) row c) in
        (less, (e.0, e.1, sym (entry_at next i e.0 e.1) ∙ e.2))
    | inr more ↦ let m : length table ≤ i = omega (arith, a.one_each) in absurd (no_row table i j m c)
  ]

  module _ (r : IsReversible n next) where
    pub has_neighbours_below : HasNeighboursBelow (length table) (neighbours_of table)
    has_neighbours_below i j l c =
        let h = choice_of i j c in
        let m : j < n = (r i h.1.0 j h.0 h.1.1 h.1.2).0 in
        let e : length table ≡ n = a.one_each in omega arith

    pub is_symmetric : IsSymmetric (neighbours_of table)
    is_symmetric i j c =
        let h = choice_of i j c in
        let back = r i h.1.0 j h.0 h.1.1 h.1.2 in
        contained j back.1.0 i back.0 back.1.1 back.1.2

    -- if the table joins two items, choices of neighbours reach one from the other
    led_by : (i k : ℕ) (path : List ℕ) → LeadsBy (λ a b. Contains (neighbours_of table a) b) i path k → IsLed next i k
    led_by i k [] e = ([], ap Some e)
    led_by i k (j ∷ path) p =
        let h = choice_of i j p.0 in
        let more : IsLed next j k = led_by j k path p.1 in
        (h.1.0 ∷ more.0, ap (λ (o : Option ℕ). option_and_then (λ x. led next x more.0) o) h.1.2 ∙ more.1)

    pub led_from_joined : (i k : ℕ) → IsJoined (neighbours_of table) i k → IsLed next i k
    led_from_joined i k p = led_by i k p.0 p.1

    -- if choices of neighbours reach one item from another, the table joins them
    module _ (limited : (i f j : ℕ) → i < n → next i f ≡ Some j → f < 4) where
      joined_by : (fs : List ℕ) (i k : ℕ) → i < n → led next i fs ≡ Some k → IsJoined (neighbours_of table) i k
      joined_by [] i k l e = ([], let s : i ≡ k = cc in s)
      joined_by (f ∷ fs) i k l e = by_step (λ j m s. joined_by fs j k m s) (next i f) refl e
        where
          by_step : ((j : ℕ) → j < n → led next j fs ≡ Some k → IsJoined (neighbours_of table) j k) → (o : Option ℕ) → next i f ≡ o
              → option_and_then (λ j. led next j fs) o ≡ Some k → IsJoined (neighbours_of table) i k
          by_step later None h s = absurd cc
          by_step later (Some j) h s =
              let m : f < 4 = limited i f j l h in
              let more : IsJoined (neighbours_of table) j k = later j (r i f j l m h).0 s in
              (j ∷ more.0, (contained i f j l m h, more.1))

      pub joined_is_led : (i k : ℕ) → i < n → IsJoined (neighbours_of table) i k ↔ IsLed next i k
      joined_is_led i k l = (led_from_joined i k, λ h. joined_by h.0 i k l h.1)
