-- The sum of a row and a multiple of another has fewer terms than the row if more terms are cancelled than added.
use Rattle.std.proofs.Common.{◌≡◌, ◌≢◌, ℕ, zero, suc, ◌+◌, ◌*◌, ◌<◌, ◌≤◌, inl, inr, ℤ, pos, negsuc, Bool, true, false, not, List, [], ◌∷◌, ◌++◌, map, filter, length, length-append, get_or, refl, sym, ap, subst, ◌∙◌, arith, ◌==◌, AllPairs}
use Rattle.std.specs.Prelude.{◌⊎◌, ◌&&◌, ◌||◌, sum_by, slice_index, unsigned_abs, if◌then◌else◌}
use Rattle.std.specs.List.{list_any, IsDistinct}
use Rattle.std.specs.Set.{is_member}
use Rattle.std.specs.Cmp.{nat_eq_equiv}
use Rattle.std.proofs.lemmas.Bool.{cases_Bool, and_parts, eqb-true, ne_eqb, eq-eqb, true≢false}
use Rattle.std.proofs.lemmas.List.{length-map, get_or-map}
use Rattle.std.proofs.lemmas.List.Filters.{length-filter_both}
use Rattle.std.proofs.lemmas.List.Folds.{list_any_at, list_any-append}
use Rattle.std.proofs.lemmas.List.Kept.{AllPairs-filter}
use Rattle.std.proofs.lemmas.List.Sums.{sum_by-cons, length-filter}
use Rattle.std.proofs.lemmas.Map.Keys.{IsDistinct-from_apart}
use Rattle.std.proofs.lemmas.Map.Made.{length-le_from_is_member, is_member-filter}
use Rattle.cone_definitions.specs.Rows.{Row, positive_coefficient, negative_coefficient, plus_part, minus_part}
use Rattle.cone_definitions.specs.Vectors.{unit}
use Rattle.cone_definitions.proofs.Units.{entry-unit_same, entry-unit_other}
use Rattle.cone_arithmetic.specs.Sparse.{IsSparse}
use Rattle.cone_row_laws.specs.Operations.{IsSumWith}
use Rattle.row_reduction.specs.Merging.{term_at}
use Rattle.row_reduction.specs.Eliminating.{is_zero_sum, is_shared, is_cancelled, HasFewerTerms}

-- ---- lists of different numbers

abbrev has : List ℕ → ℕ → Bool
has xs q = is_member (λ (a b : ℕ). a == b) xs q

no_more : (xs ys : List ℕ) → IsDistinct (λ (a b : ℕ). a == b) xs → ((q : ℕ) → has xs q ≡ true → has ys q ≡ true) → length xs ≤ length ys
no_more xs ys separate inside = length-le_from_is_member nat_eq_equiv xs ys separate inside

has_filtered : (p : ℕ → Bool) (xs : List ℕ) (q : ℕ) → has (filter p xs) q ≡ (has xs q && p q)
has_filtered p xs q = is_member-filter nat_eq_equiv p q (λ x e. ap p (eqb-true q x e)) xs

-- of the numbers in rs and os, those of ss are in rs and not cancelled, or in os alone; ks are in rs, and hs in both
module _ (ss rs os ks hs : List ℕ) (ss_apart : IsDistinct (λ (a b : ℕ). a == b) ss) (ks_apart : IsDistinct (λ (a b : ℕ). a == b) ks) (hs_apart : IsDistinct (λ (a b : ℕ). a == b) hs)
    (ss_in : (q : ℕ) → has ss q ≡ true → ((has rs q ≡ true) × (has ks q ≡ false)) ⊎ ((has rs q ≡ false) × (has os q ≡ true)))
    (ks_in : (q : ℕ) → has ks q ≡ true → has rs q ≡ true) (hs_in : (q : ℕ) → has hs q ≡ true → (has rs q ≡ true) × (has os q ≡ true)) where
  cancelled_kept : length ks ≤ length (filter (has ks) rs)
  cancelled_kept = no_more ks (filter (has ks) rs) ks_apart (λ q h. has_filtered (has ks) rs q ∙ rw (ks_in q h, h) refl)

  shared_kept : length hs ≤ length (filter (has rs) os)
  shared_kept = no_more hs (filter (has rs) os) hs_apart (λ q h. let b = hs_in q h in has_filtered (has rs) os q ∙ rw (b.0, b.1) refl)

  abbrev left : List ℕ
  left = filter (λ q. not (has ks q)) rs

  abbrev added : List ℕ
  added = filter (λ q. not (has rs q)) os

  sum_kept : length ss ≤ length left + length added
  sum_kept = let l : length ss ≤ length (left ++ added) = no_more ss (left ++ added) ss_apart inside in omega (arith, l, length-append left added)
    where
      inside : (q : ℕ) → has ss q ≡ true → has (left ++ added) q ≡ true
      inside q h = list_any-append (λ x. q == x) left added ∙ elim (ss_in q h) [
        | inl r ↦ rw (has_filtered (λ n. not (has ks n)) rs q) (rw (r.0, r.1) refl)
        | inr r ↦ rw (has_filtered (λ n. not (has rs n)) os q) (rw (r.0, r.1) (elim (cases_Bool (has left q)) [ inl e ↦ rw e refl | inr e ↦ rw e refl ]))
      ]

  pub counted : length ss + length ks + length hs ≤ length rs + length os
  counted =
      let a : length (filter (has ks) rs) + length left ≡ length rs = length-filter_both (has ks) (λ q. not (has ks q)) (λ q. refl) rs in
      let b : length (filter (has rs) os) + length added ≡ length os = length-filter_both (has rs) (λ q. not (has rs q)) (λ q. refl) os in
      omega (arith, cancelled_kept, shared_kept, sum_kept, a, b)

-- ---- the columns of a row

abbrev columns_of : Row → List ℕ
columns_of row = map (λ (term : ℕ × ℤ). term.0) row

abbrev IsAscending : Row → Type 0
IsAscending row = AllPairs (λ (one other : ℕ × ℤ). one.0 < other.0) row

columns_apart : (row : Row) → IsAscending row → IsDistinct (λ (a b : ℕ). a == b) (columns_of row)
columns_apart row ascending = IsDistinct-from_apart (λ (a b : ℕ). a == b) (columns_of row) (λ i j d l m.
    let lj : j < length row = subst (λ n. j < n) (length-map row (λ (term : ℕ × ℤ). term.0)) m in
    let li : i < length row = omega arith in
    let a : (get_or row i (0, pos 0)).0 < (get_or row j (0, pos 0)).0 = ascending i j (0, pos 0) l lj in
    let e : get_or (columns_of row) i d ≡ (get_or row i (0, pos 0)).0 = get_or-map (λ (term : ℕ × ℤ). term.0) row i (0, pos 0) d li in
    let f : get_or (columns_of row) j d ≡ (get_or row j (0, pos 0)).0 = get_or-map (λ (term : ℕ × ℤ). term.0) row j (0, pos 0) d lj in
    ne_eqb (get_or (columns_of row) i d) (get_or (columns_of row) j d) (λ g. omega (arith, a, e, f, g)))

-- the row has a term at the column, which passes the test
record HasTerm (row : Row) (q : ℕ) (p : ℕ × ℤ → Bool) : Type 0 where
  place : ℕ
  in_range : place < length row
  is_column : (term_at row place).0 ≡ q
  passes : p (term_at row place) ≡ true

head_term : (t : ℕ × ℤ) (row : Row) (q : ℕ) (p : ℕ × ℤ → Bool) → t.0 ≡ q → p t ≡ true → HasTerm (t ∷ row) q p
head_term t row q p e h = record { place = 0; in_range = omega arith; is_column = e; passes = h }

tail_term : (t : ℕ × ℤ) (row : Row) (q : ℕ) (p : ℕ × ℤ → Bool) → HasTerm row q p → HasTerm (t ∷ row) q p
tail_term t row q p h = record { place = suc h.place; in_range = (let l : h.place < length row = h.in_range in omega arith); is_column = h.is_column; passes = h.passes }

filtered_term : (row : Row) (q : ℕ) (p : ℕ × ℤ → Bool) → has (columns_of (filter p row)) q ≡ true → HasTerm row q p
filtered_term [] q p h = absurd (true≢false (sym h))
filtered_term (t ∷ row) q p h = at_head (p t) refl h (λ g. filtered_term row q p g)
  where
    at_column : (b : Bool) → (q == t.0) ≡ b → p t ≡ true → (b || has (columns_of (filter p row)) q) ≡ true → (has (columns_of (filter p row)) q ≡ true → HasTerm row q p) → HasTerm (t ∷ row) q p
    at_column true e passes g more = head_term t row q p (sym (eqb-true q t.0 e)) passes
    at_column false e passes g more = tail_term t row q p (more g)

    at_head : (b : Bool) → p t ≡ b → has (columns_of (if b then t ∷ filter p row else filter p row)) q ≡ true → (has (columns_of (filter p row)) q ≡ true → HasTerm row q p) → HasTerm (t ∷ row) q p
    at_head true passes g more = at_column (q == t.0) refl passes g more
    at_head false passes g more = tail_term t row q p (more g)

some_term_at : (row : Row) (q : ℕ) → has (columns_of row) q ≡ true → HasTerm row q (λ t. true)
some_term_at [] q h = absurd (true≢false (sym h))
some_term_at (t ∷ row) q h = at_column (q == t.0) refl h (λ g. some_term_at row q g)
  where
    at_column : (b : Bool) → (q == t.0) ≡ b → (b || has (columns_of row) q) ≡ true → (has (columns_of row) q ≡ true → HasTerm row q (λ u. true)) → HasTerm (t ∷ row) q (λ u. true)
    at_column true e g more = head_term t row q (λ u. true) (sym (eqb-true q t.0 e)) refl
    at_column false e g more = tail_term t row q (λ u. true) (more g)

-- a term at the column is one of the columns
column_found : (row : Row) (q k : ℕ) → k < length row → (term_at row k).0 ≡ q → has (columns_of row) q ≡ true
column_found row q k l e = list_any_at (λ x. q == x) (columns_of row) k 0 (subst (λ n. k < n) (sym (length-map row (λ (term : ℕ × ℤ). term.0))) l)
    (eq-eqb q (get_or (columns_of row) k 0) (sym (get_or-map (λ (term : ℕ × ℤ). term.0) row k (0, pos 0) 0 l ∙ e)))

-- where a test on the columns passes, there is a term that passes
test_found : (row : Row) (p : ℕ × ℤ → Bool) → list_any p row ≡ true → (k : ℕ) × (k < length row) × (p (term_at row k) ≡ true)
test_found [] p h = absurd (true≢false (sym h))
test_found (t ∷ row) p h = at_head (p t) refl h (λ g. test_found row p g)
  where
    at_head : (b : Bool) → p t ≡ b → (b || list_any p row) ≡ true → (list_any p row ≡ true → (k : ℕ) × (k < length row) × (p (term_at row k) ≡ true))
        → (k : ℕ) × (k < length (t ∷ row)) × (p (term_at (t ∷ row) k) ≡ true)
    at_head true passes g more = (0, omega arith, passes)
    at_head false passes g more = let m = more g in (suc m.0, (let l : m.0 < length row = m.1 in omega arith), m.2)

-- ---- the parts of a row at a unit vector

abbrev at_column : ℕ → List ℕ
at_column q = unit (q + 1) q

one_there : (q : ℕ) → slice_index (at_column q) q ≡ 1
one_there q = entry-unit_same (q + 1) q (omega arith)

none_else : (q j : ℕ) → j ≢ q → slice_index (at_column q) j ≡ 0
none_else q j off = entry-unit_other (q + 1) q j off

-- the sum of the weights of a row's coefficients at the column
abbrev weight_at : (ℤ → ℕ) → Row → ℕ → ℕ
weight_at weight row q = sum_by (λ (term : ℕ × ℤ). weight term.1 * slice_index (at_column q) term.0) row

weight-cons : (weight : ℤ → ℕ) (t : ℕ × ℤ) (row : Row) (q : ℕ) → weight_at weight (t ∷ row) q ≡ weight t.1 * slice_index (at_column q) t.0 + weight_at weight row q
weight-cons weight t row q = sum_by-cons (λ (term : ℕ × ℤ). weight term.1 * slice_index (at_column q) term.0) t row

weight_none : (weight : ℤ → ℕ) (row : Row) (q : ℕ) → ((k : ℕ) → k < length row → (term_at row k).0 ≢ q) → weight_at weight row q ≡ 0
weight_none weight [] q off = refl
weight_none weight (t ∷ row) q off =
    let z : slice_index (at_column q) t.0 ≡ 0 = none_else q t.0 (off 0 (omega arith)) in
    let r : weight_at weight row q ≡ 0 = weight_none weight row q (λ k l. off (suc k) (omega arith)) in
    weight-cons weight t row q ∙ rw (z, r) (omega arith)

weight_some : (weight : ℤ → ℕ) (row : Row) (q k : ℕ) → IsAscending row → k < length row → (term_at row k).0 ≡ q → weight_at weight row q ≡ weight (term_at row k).1
weight_some weight [] q k ascending l e = absurd (omega arith)
weight_some weight (t ∷ row) q zero ascending l e =
    let one : slice_index (at_column q) t.0 ≡ 1 = ap (slice_index (at_column q)) e ∙ one_there q in
    let r : weight_at weight row q ≡ 0 = weight_none weight row q (λ k m f. let a : t.0 < (term_at row k).0 = ascending 0 (suc k) (0, pos 0) (omega arith) (omega arith) in omega (arith, a, e, f)) in
    weight-cons weight t row q ∙ rw (one, r) (omega arith)
weight_some weight (t ∷ row) q (suc k) ascending l e =
    let a : t.0 < (term_at row k).0 = ascending 0 (suc k) (0, pos 0) (omega arith) l in
    let z : slice_index (at_column q) t.0 ≡ 0 = none_else q t.0 (λ f. omega (arith, a, e, f)) in
    let r : weight_at weight row q ≡ weight (term_at row k).1 = weight_some weight row q k (λ i j d m n. ascending (suc i) (suc j) d (omega arith) (omega arith)) (omega arith) e in
    weight-cons weight t row q ∙ rw (z, r) (omega arith)

not_at : (row : Row) (q : ℕ) → has (columns_of row) q ≡ false → (k : ℕ) → k < length row → (term_at row k).0 ≢ q
not_at row q h k l e = true≢false (sym (column_found row q k l e) ∙ h)

-- ---- the sum

nonzero_parts : (s : ℤ) → 1 ≤ unsigned_abs s → positive_coefficient s ≢ negative_coefficient s
nonzero_parts (pos n) l e = omega (arith, l, e)
nonzero_parts (negsuc n) l e = omega (arith, l, e)

cancelled_parts : (ps ns pa na pb nb pf nf : ℕ) → ps + (na + (pf * nb + nf * pb)) ≡ ns + (pa + (pf * pb + nf * nb)) → na + (pf * nb + nf * pb) ≡ pa + (pf * pb + nf * nb) → ps ≡ ns
cancelled_parts ps ns pa na pb nb pf nf e f = omega (arith, e, f)

module _ (row : Row) (factor : ℤ) (other sum : Row) (sparse : IsSparse row) (other_sparse : IsSparse other) (sum_sparse : IsSparse sum) (is_sum : IsSumWith row factor other sum) where
  abbrev cancelled_terms : Row
  cancelled_terms = filter (is_cancelled factor other) row

  abbrev shared_terms : Row
  shared_terms = filter (is_shared other) row

  -- at a column of the sum the two rows don't cancel
  not_zero : (q : ℕ) → has (columns_of sum) q ≡ true → (pa na pb nb : ℕ) → plus_part row (at_column q) ≡ pa → minus_part row (at_column q) ≡ na → plus_part other (at_column q) ≡ pb → minus_part other (at_column q) ≡ nb
      → na + (positive_coefficient factor * nb + negative_coefficient factor * pb) ≡ pa + (positive_coefficient factor * pb + negative_coefficient factor * nb) → ⊥
  not_zero q h pa na pb nb epa ena epb enb zero_sum =
      let t = some_term_at sum q h in
      let eps : plus_part sum (at_column q) ≡ positive_coefficient (term_at sum t.place).1 = weight_some positive_coefficient sum q t.place sum_sparse.ascending t.in_range t.is_column in
      let ens : minus_part sum (at_column q) ≡ negative_coefficient (term_at sum t.place).1 = weight_some negative_coefficient sum q t.place sum_sparse.ascending t.in_range t.is_column in
      nonzero_parts (term_at sum t.place).1 (sum_sparse.nonzero t.place (0, pos 0) t.in_range)
      (cancelled_parts (positive_coefficient (term_at sum t.place).1) (negative_coefficient (term_at sum t.place).1) pa na pb nb (positive_coefficient factor) (negative_coefficient factor)
      (rw (sym eps, sym ens, sym epa, sym ena, sym epb, sym enb) (is_sum (at_column q))) zero_sum)

  not_cancelled : (q : ℕ) → has (columns_of sum) q ≡ true → HasTerm row q (is_cancelled factor other) → ⊥
  not_cancelled q h t =
      let m = test_found other (λ (at : ℕ × ℤ). ((term_at row t.place).0 == at.0) && is_zero_sum (term_at row t.place).1 factor at.1) t.passes in
      let both = and_parts ((term_at row t.place).0 == (term_at other m.0).0) (is_zero_sum (term_at row t.place).1 factor (term_at other m.0).1) m.2 in
      let e : (term_at other m.0).0 ≡ q = sym (eqb-true (term_at row t.place).0 (term_at other m.0).0 both.0) ∙ t.is_column in
      not_zero q h _ _ _ _
      (weight_some positive_coefficient row q t.place sparse.ascending t.in_range t.is_column) (weight_some negative_coefficient row q t.place sparse.ascending t.in_range t.is_column)
      (weight_some positive_coefficient other q m.0 other_sparse.ascending m.1 e) (weight_some negative_coefficient other q m.0 other_sparse.ascending m.1 e)
      (eqb-true _ _ both.1)

  not_missing : (q : ℕ) → has (columns_of sum) q ≡ true → has (columns_of row) q ≡ false → has (columns_of other) q ≡ false → ⊥
  not_missing q h a b = not_zero q h 0 0 0 0
      (weight_none positive_coefficient row q (not_at row q a)) (weight_none negative_coefficient row q (not_at row q a))
      (weight_none positive_coefficient other q (not_at other q b)) (weight_none negative_coefficient other q (not_at other q b)) (omega arith)

  sum_in : (q : ℕ) → has (columns_of sum) q ≡ true
      → ((has (columns_of row) q ≡ true) × (has (columns_of cancelled_terms) q ≡ false)) ⊎ ((has (columns_of row) q ≡ false) × (has (columns_of other) q ≡ true))
  sum_in q h = elim (cases_Bool (has (columns_of row) q)) [
    | inl here ↦ elim (cases_Bool (has (columns_of cancelled_terms) q)) [
      | inl gone ↦ absurd (not_cancelled q h (filtered_term row q (is_cancelled factor other) gone))
      | inr stays ↦ inl (here, stays)
    ]
    | inr off ↦ elim (cases_Bool (has (columns_of other) q)) [
      | inl there ↦ inr (off, there)
      | inr missing ↦ absurd (not_missing q h off missing)
    ]
  ]

  cancelled_in : (q : ℕ) → has (columns_of cancelled_terms) q ≡ true → has (columns_of row) q ≡ true
  cancelled_in q h = let t = filtered_term row q (is_cancelled factor other) h in column_found row q t.place t.in_range t.is_column

  shared_in : (q : ℕ) → has (columns_of shared_terms) q ≡ true → (has (columns_of row) q ≡ true) × (has (columns_of other) q ≡ true)
  shared_in q h =
      let t = filtered_term row q (is_shared other) h in
      let m = test_found other (λ (at : ℕ × ℤ). (term_at row t.place).0 == at.0) t.passes in (
        column_found row q t.place t.in_range t.is_column,
        column_found other q m.0 m.1 (sym (eqb-true (term_at row t.place).0 (term_at other m.0).0 m.2) ∙ t.is_column),
      )

  pub sum_is_shorter : HasFewerTerms row factor other → length sum < length row
  sum_is_shorter fewer =
      let all = counted (columns_of sum) (columns_of row) (columns_of other) (columns_of cancelled_terms) (columns_of shared_terms)
      (columns_apart sum sum_sparse.ascending)
      (columns_apart cancelled_terms (AllPairs-filter (λ (one later : ℕ × ℤ). one.0 < later.0) (is_cancelled factor other) row sparse.ascending))
      (columns_apart shared_terms (AllPairs-filter (λ (one later : ℕ × ℤ). one.0 < later.0) (is_shared other) row sparse.ascending))
      sum_in cancelled_in shared_in in
      omega (
        arith,
        all,
        fewer,
        length-map sum (λ (term : ℕ × ℤ). term.0),
        length-map row (λ (term : ℕ × ℤ). term.0),
        length-map other (λ (term : ℕ × ℤ). term.0),
        length-map cancelled_terms (λ (term : ℕ × ℤ). term.0),
        length-map shared_terms (λ (term : ℕ × ℤ). term.0),
        length-filter (is_cancelled factor other) row,
        length-filter (is_shared other) row,
      )
