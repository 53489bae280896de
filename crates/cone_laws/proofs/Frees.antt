-- Signed solutions of rows, one for each column except for at most one column for each row.
use Rattle.std.proofs.Common.{◌≡◌, ◌≢◌, ℕ, ◌+◌, ◌*◌, ◌<◌, ◌≤◌, ◌⊎◌, inl, inr, Bool, true, false, not, ◌&&◌, List, [], ◌∷◌, length, slice_index, slice_index_or, All, sym, ap, refl, ◌∙◌, arith, true≢false}
use lib.Dec.{eqb}
use Rattle.std.specs.List.{count_by, range_with_len}
use Rattle.std.proofs.lemmas.Bool.{cases_eq, cases_Bool, and_parts, and_from, not-true, not_from_false, eqb-false, ne_eqb}
use Rattle.std.proofs.lemmas.List.Elements.{All-cons}
use Rattle.cone_definitions.specs.Vectors.{unit}
use Rattle.cone_definitions.specs.Rows.{Row}
use Rattle.cone_definitions.proofs.Below.{all_or_one}
use Rattle.cone_definitions.proofs.Entries.{vector_of, length-vector_of, entry_everywhere}
use Rattle.cone_definitions.proofs.Units.{length-unit, entry-unit_same, entry-unit_other}
use Rattle.cone_laws.proofs.Counts.{count_but_one}
use Rattle.cone_laws.proofs.Mixed.{IsBalanced, more_at, mixed, mixed_balanced, mixed_keeps, length-mixed, entry-mixed, mixed_equal, mixed_apart}

-- each row is 0 at p - m, which is 0 at the columns outside `start`
pub record IsDifference (columns : ℕ) (rows : List Row) (start : ℕ → Bool) (p m : List ℕ) : Type 0 where
  pub p_width : length p ≡ columns
  pub m_width : length m ≡ columns
  pub balanced : All (λ row. IsBalanced row p m) rows
  pub outside : (j : ℕ) → start j ≡ false → slice_index p j ≡ slice_index m j

-- for each free column a difference that is not 0 there, and is 0 at the other free columns
pub record Frees (columns : ℕ) (rows : List Row) (start : ℕ → Bool) : Type 0 where
  pub free : ℕ → Bool
  pub p : ℕ → List ℕ
  pub m : ℕ → List ℕ
  pub count : count_by start (range_with_len 0 columns) ≤ count_by free (range_with_len 0 columns) + length rows
  pub of_start : (c : ℕ) → free c ≡ true → start c ≡ true
  pub difference : (c : ℕ) → free c ≡ true → IsDifference columns rows start (p c) (m c)
  pub own : (c : ℕ) → free c ≡ true → slice_index (p c) c ≢ slice_index (m c) c
  pub other : (c j : ℕ) → free c ≡ true → free j ≡ true → j ≢ c → slice_index (p c) j ≡ slice_index (m c) j

-- ---- no rows: the unit vectors

zero_vector : ℕ → List ℕ
zero_vector columns = vector_of columns (λ j. 0)

module _ (columns : ℕ) (start : ℕ → Bool) (within : (j : ℕ) → start j ≡ true → j < columns) where
  entry-zero : (j : ℕ) → slice_index (zero_vector columns) j ≡ 0
  unfolding zero_vector
  entry-zero j = entry_everywhere columns (λ i. 0) (λ i h. refl) j

  unit_difference : (c : ℕ) → start c ≡ true → IsDifference columns [] start (unit columns c) (zero_vector columns)
  unfolding zero_vector
  unit_difference c here = record {
    p_width = length-unit columns c;
    m_width = length-vector_of columns (λ j. 0);
    balanced = λ k d h. absurd (omega arith);
    outside = λ j out. entry-unit_other columns c j (λ e. true≢false (sym here ∙ ap start (sym e) ∙ out)) ∙ sym (entry-zero j);
  }

  no_rows_frees : Frees columns [] start
  no_rows_frees = record {
    free = start;
    p = λ c. unit columns c;
    m = λ c. zero_vector columns;
    count = omega arith;
    of_start = λ c here. here;
    difference = unit_difference;
    own = λ c here e. let a : slice_index (unit columns c) c ≡ 1 = entry-unit_same columns c (within c here) in
        let b : slice_index (zero_vector columns) c ≡ 0 = entry-zero c in omega (arith, e);
    other = λ c j here there ne. entry-unit_other columns c j ne ∙ sym (entry-zero j);
  }

-- ---- one more row

but_for : ℕ → (ℕ → Bool) → ℕ → Bool
but_for q free c = free c && not (eqb c q)

but_for-free : (q : ℕ) (free : ℕ → Bool) (c : ℕ) → but_for q free c ≡ true → free c ≡ true
unfolding but_for
but_for-free q free c h = (and_parts (free c) (not (eqb c q)) h).0

but_for-other : (q : ℕ) (free : ℕ → Bool) (c : ℕ) → but_for q free c ≡ true → c ≢ q
unfolding but_for
but_for-other q free c h = eqb-false c q (not-true (eqb c q) (and_parts (free c) (not (eqb c q)) h).1)

but_for-from : (q : ℕ) (free : ℕ → Bool) (c : ℕ) → c ≢ q → free c ≡ true → but_for q free c ≡ true
unfolding but_for
but_for-from q free c ne h = and_from (free c) (not (eqb c q)) h (not_from_false (eqb c q) (ne_eqb c q ne))

module _ (columns : ℕ) (rows : List Row) (start : ℕ → Bool) (row : Row) where
  difference_more : (p m : List ℕ) → IsDifference columns rows start p m → IsBalanced row p m → IsDifference columns (row ∷ rows) start p m
  difference_more p m h here = record { p_width = h.p_width; m_width = h.m_width; balanced = All-cons (λ r. IsBalanced r p m) row rows here h.balanced; outside = h.outside }

  mixed_difference : (x y z w : List ℕ) → IsDifference columns rows start x y → IsDifference columns rows start z w → IsDifference columns (row ∷ rows) start
      (mixed columns (more_at row x y) (more_at row y x) (more_at row z w) (more_at row w z) x y z w)
      (mixed columns (more_at row x y) (more_at row y x) (more_at row z w) (more_at row w z) y x w z)
  mixed_difference x y z w h i = record {
    p_width = length-mixed columns x y z w h.p_width h.m_width i.p_width i.m_width _ _ _ _;
    m_width = length-mixed columns y x w z h.m_width h.p_width i.m_width i.p_width _ _ _ _;
    balanced = All-cons (λ r. IsBalanced r (mixed columns (more_at row x y) (more_at row y x) (more_at row z w) (more_at row w z) x y z w)
        (mixed columns (more_at row x y) (more_at row y x) (more_at row z w) (more_at row w z) y x w z)) row rows
        (mixed_balanced columns x y z w h.p_width h.m_width i.p_width i.m_width row)
        (λ k d l. mixed_keeps columns x y z w h.p_width h.m_width i.p_width i.m_width (slice_index_or rows k d) _ _ _ _ (h.balanced k d l) (i.balanced k d l));
    outside = λ j out. entry-mixed columns x y z w h.p_width h.m_width i.p_width i.m_width _ _ _ _ j
        ∙ mixed_equal (slice_index x j) (slice_index y j) (slice_index z j) (slice_index w j) _ _ _ _ (h.outside j out) (i.outside j out)
        ∙ sym (entry-mixed columns y x w z h.m_width h.p_width i.m_width i.p_width _ _ _ _ j);
  }

  module _ (F : Frees columns rows start) (within : (j : ℕ) → start j ≡ true → j < columns) where
    more_of : ℕ → ℕ
    more_of c = more_at row (F.p c) (F.m c)

    less_of : ℕ → ℕ
    less_of c = more_at row (F.m c) (F.p c)

    -- the row is 0 at each of them
    all_kept : ((c : ℕ) → F.free c ≡ true → more_of c ≡ less_of c) → Frees columns (row ∷ rows) start
    unfolding more_of less_of
    all_kept zeros = record {
      free = F.free;
      p = F.p;
      m = F.m;
      count = omega (arith, F.count);
      of_start = F.of_start;
      difference = λ c here. difference_more (F.p c) (F.m c) (F.difference c here) (zeros c here);
      own = F.own;
      other = F.other;
    }

    -- the row is not 0 at one of them, which is mixed into the others
    module _ (q : ℕ) (q_free : F.free q ≡ true) (differ : more_of q ≢ less_of q) where
      new_p : ℕ → List ℕ
      new_p c = mixed columns (more_at row (F.p c) (F.m c)) (more_at row (F.m c) (F.p c)) (more_at row (F.p q) (F.m q)) (more_at row (F.m q) (F.p q)) (F.p c) (F.m c) (F.p q) (F.m q)

      new_m : ℕ → List ℕ
      new_m c = mixed columns (more_at row (F.p c) (F.m c)) (more_at row (F.m c) (F.p c)) (more_at row (F.p q) (F.m q)) (more_at row (F.m q) (F.p q)) (F.m c) (F.p c) (F.m q) (F.p q)

      new_p_entry : (c j : ℕ) → F.free c ≡ true → slice_index (new_p c) j ≡
          (more_of q * slice_index (F.p c) j + less_of q * slice_index (F.m c) j) + (more_of c * slice_index (F.m q) j + less_of c * slice_index (F.p q) j)
      unfolding new_p more_of less_of
      new_p_entry c j here = let h = F.difference c here in let i = F.difference q q_free in
          entry-mixed columns (F.p c) (F.m c) (F.p q) (F.m q) h.p_width h.m_width i.p_width i.m_width _ _ _ _ j

      new_m_entry : (c j : ℕ) → F.free c ≡ true → slice_index (new_m c) j ≡
          (more_of q * slice_index (F.m c) j + less_of q * slice_index (F.p c) j) + (more_of c * slice_index (F.p q) j + less_of c * slice_index (F.m q) j)
      unfolding new_m more_of less_of
      new_m_entry c j here = let h = F.difference c here in let i = F.difference q q_free in
          entry-mixed columns (F.m c) (F.p c) (F.m q) (F.p q) h.m_width h.p_width i.m_width i.p_width _ _ _ _ j

      one_mixed : Frees columns (row ∷ rows) start
      unfolding new_p new_m more_of less_of
      one_mixed = record {
        free = but_for q F.free;
        p = new_p;
        m = new_m;
        count = omega (arith, F.count, count_but_one F.free (but_for q F.free) q 0 columns (λ j ne here. but_for-from q F.free j ne here));
        of_start = λ c here. F.of_start c (but_for-free q F.free c here);
        difference = λ c here. mixed_difference (F.p c) (F.m c) (F.p q) (F.m q) (F.difference c (but_for-free q F.free c here)) (F.difference q q_free);
        own = λ c here e. let f = but_for-free q F.free c here in
            mixed_apart (slice_index (F.p c) c) (slice_index (F.m c) c) (slice_index (F.p q) c) (slice_index (F.m q) c) (more_of c) (less_of c) (more_of q) (less_of q)
            (F.own c f) (F.other q c q_free f (but_for-other q F.free c here)) differ (sym (new_p_entry c c f) ∙ e ∙ new_m_entry c c f);
        other = λ c j here there ne. let f = but_for-free q F.free c here in let g = but_for-free q F.free j there in
            new_p_entry c j f ∙ mixed_equal (slice_index (F.p c) j) (slice_index (F.m c) j) (slice_index (F.p q) j) (slice_index (F.m q) j)
            (more_of c) (less_of c) (more_of q) (less_of q) (F.other c j f g ne) (F.other q j q_free g (but_for-other q F.free j there)) ∙ sym (new_m_entry c j f);
      }

    decided : (c : ℕ) → (F.free c ≡ true → more_of c ≡ less_of c) ⊎ ((F.free c ≡ true) × (more_of c ≢ less_of c))
    decided c = elim (cases_Bool (F.free c)) [
      | inl here ↦ elim (cases_eq (more_of c) (less_of c)) [ inl e ↦ inl (λ _. e) | inr ne ↦ inr (here, ne) ]
      | inr out ↦ inl (λ here. absurd (true≢false (sym here ∙ out)))
    ]

    one_more_frees : Frees columns (row ∷ rows) start
    one_more_frees = elim (all_or_one (λ c. F.free c ≡ true → more_of c ≡ less_of c) (λ c. (F.free c ≡ true) × (more_of c ≢ less_of c)) decided columns) [
      | inl below ↦ all_kept (λ c here. below c (within c (F.of_start c here)) here)
      | inr found ↦ one_mixed found.0 found.2.0 found.2.1
    ]

pub frees : (columns : ℕ) (rows : List Row) (start : ℕ → Bool) → ((j : ℕ) → start j ≡ true → j < columns) → Frees columns rows start
frees columns [] start within = no_rows_frees columns start within
frees columns (row ∷ rows) start within = one_more_frees columns rows start row (frees columns rows start within) within
