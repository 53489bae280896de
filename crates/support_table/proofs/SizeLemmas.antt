-- The number of columns of a residual, by the size of the union with the outer ray.
use Rattle.std.proofs.Common.{◌≡◌, ◌≢◌, ℕ, ◌+◌, ◌<◌, ◌≤◌, ◌||◌, ◌⊎◌, inl, inr, Bool, true, false, eqb, List, length, get_or, set, length-set, get_or-set_same, get_or-set_other, refl, subst, sym, ap, ap₂, ◌∙◌, arith}
use Rattle.std.specs.List.{count_by, range_with_len}
use Rattle.std.proofs.lemmas.Bool.{cases_eq, cases_lt, cases_Bool, false≢true, or_left, or_right, eqb-true, eq-eqb}
use Rattle.std.proofs.lemmas.List.{get_or_past}
use Rattle.std.proofs.lemmas.List.Sums.{count_by-le-length}
use Rattle.std.proofs.lemmas.List.FromFn.{length-range_with_len}
use Rattle.cone_laws.proofs.Counts.{count_weaker, count_stronger}
use Rattle.support_bits.specs.Columns.{HasColumn, IsInsideUnionOf}
use Rattle.support_table.specs.Counts.{columns_in_either}

or_weaker : (x y z : Bool) → (y ≡ true → (x ≡ true) ⊎ (z ≡ true)) → (x || y) ≡ true → (x || z) ≡ true
or_weaker true y z h is = refl
or_weaker false y z h is = elim (h is) [ inl none ↦ absurd (false≢true none) | inr e ↦ e ]

pub column_within : (s : List Bool) (column : ℕ) → HasColumn s column → column < length s
column_within s column has = elim (cases_lt column (length s)) [
  | inl less ↦ less
  | inr exceeded ↦ absurd (false≢true (sym (get_or_past s column false exceeded) ∙ has))
]

-- a residual inside another has at most as many columns
pub size_within : (outer s t : List Bool) → IsInsideUnionOf s outer t → columns_in_either outer s ≤ columns_in_either outer t
size_within outer s t inside = count_weaker (λ k. get_or outer k false || get_or s k false) (λ k. get_or outer k false || get_or t k false) 0 (length outer)
    (λ k _ is. or_weaker (get_or outer k false) (get_or s k false) (get_or t k false) (inside k) is)

-- a residual of at most one column has no other column
pub single_column : (outer s : List Bool) (column other : ℕ) → length s ≡ length outer → columns_in_either outer s ≤ columns_in_either outer outer + 1 →
    HasColumn s column → ¬ HasColumn outer column → HasColumn s other → ¬ HasColumn outer other → other ≡ column
single_column outer s column other wide limited has outside other_has other_outside = elim (cases_eq other column) [
  | inl e ↦ e
  | inr separate ↦ absurd (two (out other other_outside) separate)
]
  where
    p : ℕ → Bool
    p k = get_or outer k false || get_or outer k false

    q : ℕ → Bool
    q k = p k || eqb k column

    r : ℕ → Bool
    r k = get_or outer k false || get_or s k false

    out : (k : ℕ) → ¬ HasColumn outer k → get_or outer k false ≡ false
    out k lacks = elim (cases_Bool (get_or outer k false)) [ inl e ↦ absurd (lacks e) | inr e ↦ e ]

    to_r : (k : ℕ) → q k ≡ true → r k ≡ true
    to_r k is = elim (cases_Bool (get_or outer k false)) [
      | inl e ↦ or_left (get_or outer k false) (get_or s k false) e
      | inr lacks ↦ elim (cases_Bool (eqb k column)) [
        | inl e ↦ or_right (get_or outer k false) (get_or s k false) (ap (λ i. get_or s i false) (eqb-true k column e) ∙ has)
        | inr differ ↦ absurd (false≢true (sym (ap₂ (λ x y. (x || x) || y) lacks differ) ∙ is))
      ]
    ]

    not_equal : (b : Bool) → (b ≡ true → ⊥) → b ≡ false
    not_equal true none = absurd (none refl)
    not_equal false none = refl

    two : get_or outer other false ≡ false → other ≢ column → ⊥
    two is_out separate =
        let first = count_stronger p q 0 (length outer) column (λ k is. or_left (p k) (eqb k column) is) (omega arith) (let less = column_within s column has in omega (arith, wide))
        (ap (λ x. x || x) (out column outside)) (or_right (p column) (eqb column column) (eq-eqb column column refl)) in
        let second = count_stronger q r 0 (length outer) other to_r (omega arith) (let less = column_within s other other_has in omega (arith, wide))
        (ap₂ (λ x y. (x || x) || y) is_out (not_equal (eqb other column) (λ e. separate (eqb-true other column e)))) (or_right (get_or outer other false) (get_or s other false) other_has) in
        omega (arith, limited, first, second)

-- a residual of at most two columns has no third
pub two_columns : (outer s : List Bool) (one other column : ℕ) → length s ≡ length outer → columns_in_either outer s ≤ columns_in_either outer outer + 2 → HasColumn s one → ¬ HasColumn outer one →
    HasColumn s other → ¬ HasColumn outer other → one ≢ other → HasColumn s column → ¬ HasColumn outer column → (column ≡ one) ⊎ (column ≡ other)
two_columns outer s one other column wide limited has outside other_has other_outside differ column_has column_outside = elim (cases_eq column one) [
  | inl e ↦ inl e
  | inr separate ↦ inr (single_column more s other column (wide ∙ sym same) small other_has (beside other (λ e. differ (sym e)) other_outside) column_has (beside column separate column_outside))
]
  where
    more : List Bool
    more = set outer one true

    same : length more ≡ length outer
    same = length-set outer one true

    within : one < length outer
    within = let less = column_within s one has in omega (arith, less, wide)

    beside : (k : ℕ) → k ≢ one → ¬ HasColumn outer k → ¬ HasColumn more k
    beside k apart lacks is = lacks (sym (get_or-set_other outer one k true false apart) ∙ is)

    at_one : get_or more one false ≡ true
    at_one = get_or-set_same outer one true false within

    lacks_one : get_or outer one false ≡ false
    lacks_one = elim (cases_Bool (get_or outer one false)) [ inl e ↦ absurd (outside e) | inr e ↦ e ]

    kept : (k : ℕ) → get_or outer k false ≡ true → get_or more k false ≡ true
    kept k is = elim (cases_eq k one) [
      | inl e ↦ ap (λ j. get_or more j false) e ∙ at_one
      | inr apart ↦ get_or-set_other outer one k true false apart ∙ is
    ]

    either_kept : (k : ℕ) → (get_or outer k false || get_or outer k false) ≡ true → (get_or more k false || get_or more k false) ≡ true
    either_kept k is = elim (cases_Bool (get_or outer k false)) [
      | inl e ↦ or_left (get_or more k false) (get_or more k false) (kept k e)
      | inr lacks ↦ absurd (false≢true (sym (ap (λ x. x || x) lacks) ∙ is))
    ]

    covered : (k : ℕ) → (get_or more k false || get_or s k false) ≡ true → (get_or outer k false || get_or s k false) ≡ true
    covered k is = elim (cases_eq k one) [
      | inl e ↦ or_right (get_or outer k false) (get_or s k false) (ap (λ j. get_or s j false) e ∙ has)
      | inr apart ↦ ap (λ b. b || get_or s k false) (sym (get_or-set_other outer one k true false apart)) ∙ is
    ]

    small : columns_in_either more s ≤ columns_in_either more more + 1
    small =
        let grown = count_stronger (λ k. get_or outer k false || get_or outer k false) (λ k. get_or more k false || get_or more k false) 0 (length outer) one either_kept (omega arith) (omega (arith, within))
        (ap (λ x. x || x) lacks_one) (or_left (get_or more one false) (get_or more one false) at_one) in
        let least = count_weaker (λ k. get_or more k false || get_or s k false) (λ k. get_or outer k false || get_or s k false) 0 (length outer) (λ k _ is. covered k is) in
        let first = ap (λ n. count_by (λ k. get_or more k false || get_or s k false) (range_with_len 0 n)) same in
        let second = ap (λ n. count_by (λ k. get_or more k false || get_or more k false) (range_with_len 0 n)) same in
        omega (arith, grown, least, first, second, limited)

-- a residual of a single column lies inside each that contains it
pub single_inside : (outer s t : List Bool) (column : ℕ) → length s ≡ length outer → columns_in_either outer s ≤ columns_in_either outer outer + 1 →
    HasColumn s column → ¬ HasColumn outer column → HasColumn t column → IsInsideUnionOf s outer t
single_inside outer s t column wide limited has outside in_t other other_has = elim (cases_Bool (get_or outer other false)) [
  | inl e ↦ inl e
  | inr out ↦ inr (subst (HasColumn t) (sym (single_column outer s column other wide limited has outside other_has (λ is. false≢true (sym out ∙ is)))) in_t)
]

pub columns_within : (a b : List Bool) → columns_in_either a b ≤ length a
columns_within a b = omega (arith, count_by-le-length (λ k. get_or a k false || get_or b k false) (range_with_len 0 (length a)), length-range_with_len 0 (length a))
