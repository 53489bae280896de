-- Counts and marks, one item after another.
use Rattle.std.proofs.Common.{◌≡◌, ◌≢◌, ◌⊎◌, inl, inr, ℕ, zero, suc, ◌+◌, ◌<◌, Bool, true, false, List, length, take, set, replicate, refl, sym, ap, ◌∙◌, arith, subst}
use Rattle.std.specs.Prelude.{◌==◌, ◌&&◌, ◌||◌, not, slice_index, map}
use Rattle.std.specs.List.{slice_index_or, list_any, list_all, range_with_len}
use Rattle.std.proofs.lemmas.Bool.{cases_eq, cases_lt, eq-eqb, ne_eqb, false≢true, or_parts, or_cases}
use Rattle.std.proofs.Math.Bool.{or-false}
use Rattle.std.proofs.lemmas.List.{get_or-set_same, get_or-set_other}
use Rattle.std.proofs.lemmas.List.Sums.{count_by_more_no, count_by_more_yes}
use Rattle.table_definitions.specs.Lists.{below, times_in, pairs_of}
use Rattle.table_definitions.specs.Permutation.{four}
use Rattle.table_definitions.specs.Table.{Row}
use Rattle.table_definitions.specs.Places.{is_boundary, is_closed, lies_in_boundary}
use Rattle.table_definitions.proofs.Tests.{each_face}
use Rattle.skeleton_class_laws.proofs.Marks.{any_more}
use Rattle.skeleton.specs.Parts.{AreBoundaryMarks, AreBoundaryMarksUpTo, is_open_at}

-- a degree grows
pub times_other : (classes : List ℕ) (i c : ℕ) → i < length classes → slice_index classes i ≢ c → times_in (take (i + 1) classes) c ≡ times_in (take i classes) c
times_other classes i c l ne = count_by_more_no (λ m. m == c) classes i 0 l (ne_eqb (slice_index classes i) c ne)

pub times_here : (classes : List ℕ) (i c : ℕ) → i < length classes → slice_index classes i ≡ c → times_in (take (i + 1) classes) c ≡ times_in (take i classes) c + 1
times_here classes i c l e = count_by_more_yes (λ m. m == c) classes i 0 l (eq-eqb (slice_index classes i) c e)

pub degree_grows : (classes degrees : List ℕ) (count i x : ℕ) → i < length classes → length degrees ≡ count → slice_index classes i < count
    → ((c : ℕ) → c < count → slice_index degrees c ≡ times_in (take i classes) c) → x ≡ slice_index degrees (slice_index classes i) + 1
    → (c : ℕ) → c < count → slice_index (set degrees (slice_index classes i) x) c ≡ times_in (take (i + 1) classes) c
degree_grows classes degrees count i x l size inside h ex c m = elim (cases_eq c (slice_index classes i)) [
  | inl e ↦ subst (λ k. slice_index (set degrees (slice_index classes i) x) k ≡ times_in (take (i + 1) classes) k) (sym e)
      (get_or-set_same degrees (slice_index classes i) x 0 (omega arith) ∙ ex ∙ ap (λ k. k + 1) (h (slice_index classes i) inside) ∙ sym (times_here classes i (slice_index classes i) l refl))
  | inr ne ↦ get_or-set_other degrees (slice_index classes i) c x 0 ne ∙ h c m ∙ sym (times_other classes i c l (λ e. ne (sym e)))
]

-- marks of classes
module _ (rows : List Row) (classes : List ℕ) (count : ℕ) where
  pub none_bounded : (marks : List Bool) → marks ≡ replicate count false → length marks ≡ count → AreBoundaryMarksUpTo 0 rows classes count marks
  none_bounded marks e size = record { one_each = size; reported = λ c l. ap (λ (xs : List Bool). slice_index_or xs c false) e ∙ all_false count c }
    where
      all_false : (n c : ℕ) → slice_index_or (replicate n false) c false ≡ false
      all_false zero c = refl
      all_false (suc n) zero = refl
      all_false (suc n) (suc c) = all_false n c

  module _ (i : ℕ) (marks : List Bool) (a : AreBoundaryMarksUpTo i rows classes count marks) where
    pub edge_passes : lies_in_boundary rows i ≡ false → AreBoundaryMarksUpTo (i + 1) rows classes count marks
    edge_passes no_mark = record {
      one_each = a.one_each;
      reported = λ c l. a.reported c l ∙ sym (any_more (λ e. (slice_index classes e == c) && lies_in_boundary rows e) i
          ∙ ap (λ b. list_any (λ e. (slice_index classes e == c) && lies_in_boundary rows e) (below i) || ((slice_index classes i == c) && b)) no_mark ∙ nothing (slice_index classes i == c) _);
    }
      where
        nothing : (b c : Bool) → (c || (b && false)) ≡ c
        nothing true true = refl
        nothing true false = refl
        nothing false true = refl
        nothing false false = refl

    pub edge_marks : lies_in_boundary rows i ≡ true → slice_index classes i < count → (new : List Bool) → new ≡ set marks (slice_index classes i) true → length new ≡ count
        → AreBoundaryMarksUpTo (i + 1) rows classes count new
    edge_marks mark inside new en size = record {
      one_each = size;
      reported = λ c l. ap (λ (xs : List Bool). slice_index_or xs c false) en ∙ reported c l (cases_eq c (slice_index classes i)) ∙ sym (more c);
    }
      where
        found : ℕ → Bool
        found c = list_any (λ e. (slice_index classes e == c) && lies_in_boundary rows e) (below i)

        more : (c : ℕ) → list_any (λ e. (slice_index classes e == c) && lies_in_boundary rows e) (below (i + 1)) ≡ (found c || (slice_index classes i == c))
        more c = any_more (λ e. (slice_index classes e == c) && lies_in_boundary rows e) i ∙ ap (λ b. found c || ((slice_index classes i == c) && b)) mark ∙ ap (λ b. found c || b) (alone (slice_index classes i == c))
          where
            alone : (b : Bool) → (b && true) ≡ b
            alone true = refl
            alone false = refl

        reported : (c : ℕ) → c < count → (c ≡ slice_index classes i) ⊎ (c ≢ slice_index classes i) → slice_index_or (set marks (slice_index classes i) true) c false ≡ (found c || (slice_index classes i == c))
        reported c l (inl e) =
            let own : (slice_index classes i == c) ≡ true = eq-eqb (slice_index classes i) c (sym e) in
            let bound : slice_index classes i < length marks = omega (arith, a.one_each) in
            ap (λ k. slice_index_or (set marks (slice_index classes i) true) k false) e ∙ get_or-set_same marks (slice_index classes i) true false bound
            ∙ sym (ap (λ b. found c || b) own ∙ all (found c))
          where
            all : (b : Bool) → (b || true) ≡ true
            all true = refl
            all false = refl
        reported c l (inr ne) =
            let other : (slice_index classes i == c) ≡ false = ne_eqb (slice_index classes i) c (λ e. ne (sym e)) in
            get_or-set_other marks (slice_index classes i) c true false ne ∙ a.reported c l ∙ sym (ap (λ b. found c || b) other ∙ or-false (found c))

  pub edges_end : (i : ℕ) (marks : List Bool) → i ≡ length classes → AreBoundaryMarksUpTo i rows classes count marks → AreBoundaryMarks rows classes count marks
  edges_end i marks e a = record {
    one_each = a.one_each;
    reported = λ c l. a.reported c l ∙ ap (λ k. list_any (λ x. (slice_index classes x == c) && lies_in_boundary rows x) (below k)) e;
  }

-- closed tables
pub open_somewhere : (rows : List Row) (t f : ℕ) → t < length rows → f < 4 → is_open_at rows t f ≡ true → false ≡ is_closed rows
open_somewhere rows t f l m h = by_answer (is_closed rows) refl
  where
    by_answer : (b : Bool) → is_closed rows ≡ b → false ≡ is_closed rows
    by_answer false e = sym e
    by_answer true e =
        let closed : not (is_open_at rows t f) ≡ true = each_face (λ x. not (is_boundary rows x)) (length rows) e (record { tet = t; face = f }) l m in
        absurd (let z : false ≡ true = ap not (sym h) ∙ closed in false≢true z)

closed_from : (rows : List Row) (a n : ℕ) → ((t f : ℕ) → t < a + n → f < 4 → is_open_at rows t f ≡ false)
    → list_all (λ x. not (is_boundary rows x)) (map (λ p. record { tet = p.0; face = p.1 }) (pairs_of (range_with_len a n) four)) ≡ true
closed_from rows a zero h = refl
closed_from rows a (suc n) h =
    let l : a < a + suc n = omega arith in
    let h0 : is_open_at rows a 0 ≡ false = h a 0 l (omega arith) in
    let h1 : is_open_at rows a 1 ≡ false = h a 1 l (omega arith) in
    let h2 : is_open_at rows a 2 ≡ false = h a 2 l (omega arith) in
    let h3 : is_open_at rows a 3 ≡ false = h a 3 l (omega arith) in
    rw (h0, h1, h2, h3) (closed_from rows (a + 1) n (λ t f m k. h t f (omega arith) k))

pub closed_everywhere : (rows : List Row) → ((t f : ℕ) → t < length rows → f < 4 → is_open_at rows t f ≡ false) → true ≡ is_closed rows
closed_everywhere rows h = sym (closed_from rows 0 (length rows) (λ t f l m. h t f (omega arith) m))

pub no_face : (p : ℕ → Bool) → (((p 0 || p 1) || p 2) || p 3) ≡ false → (f : ℕ) → f < 4 → p f ≡ false
no_face p h f l = by_face f l
  where
    a : (((p 0 || p 1) || p 2) ≡ false) × (p 3 ≡ false)
    a = or_parts ((p 0 || p 1) || p 2) (p 3) h

    b : ((p 0 || p 1) ≡ false) × (p 2 ≡ false)
    b = or_parts (p 0 || p 1) (p 2) a.0

    c : (p 0 ≡ false) × (p 1 ≡ false)
    c = or_parts (p 0) (p 1) b.0

    by_face : (f : ℕ) → f < 4 → p f ≡ false
    by_face zero l = c.0
    by_face (suc zero) l = c.1
    by_face (suc (suc zero)) l = b.1
    by_face (suc (suc (suc zero))) l = a.1
    by_face (suc (suc (suc (suc f)))) l = absurd (omega arith)

pub some_face : (p : ℕ → Bool) → (((p 0 || p 1) || p 2) || p 3) ≡ true → (f : ℕ) × (f < 4) × (p f ≡ true)
some_face p h = elim (or_cases ((p 0 || p 1) || p 2) (p 3) h) [
  | inr d ↦ let l : 3 < 4 = omega arith in (3, l, d)
  | inl abc ↦ elim (or_cases (p 0 || p 1) (p 2) abc) [
    | inr c ↦ let l : 2 < 4 = omega arith in (2, l, c)
    | inl ab ↦ elim (or_cases (p 0) (p 1) ab) [
      | inl a ↦ let l : 0 < 4 = omega arith in (0, l, a)
      | inr b ↦ let l : 1 < 4 = omega arith in (1, l, b)
    ]
  ]
]

pub closed_more : (rows : List Row) (i : ℕ) → ((t f : ℕ) → t < i → f < 4 → is_open_at rows t f ≡ false)
    → (((is_open_at rows i 0 || is_open_at rows i 1) || is_open_at rows i 2) || is_open_at rows i 3) ≡ false → (t f : ℕ) → t < i + 1 → f < 4 → is_open_at rows t f ≡ false
closed_more rows i h e t f l m = elim (cases_lt t i) [
  | inl less ↦ h t f less m
  | inr more ↦ let same : t ≡ i = omega arith in ap (λ k. is_open_at rows k f) same ∙ no_face (is_open_at rows i) e f m
]
