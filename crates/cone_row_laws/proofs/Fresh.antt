-- Columns that no row before the step has.
use Rattle.std.proofs.Common.{◌≡◌, ◌≢◌, ℕ, ◌+◌, ◌*◌, ◌-◌, ◌/◌, ◌<◌, ◌≤◌, ◌⊎◌, inl, inr, List, [], ◌∷◌, ◌++◌, All, length, slice_index, slice_index_or, slice_set, sym, subst, ap, refl, arith, ◌∙◌, div-one, length-set, get_or-set_same, get_or-set_other}
use Rattle.std.specs.Int.{◌∣◌}
use Rattle.std.proofs.Math.Nat.{one-dvd}
use Rattle.std.proofs.lemmas.Nat.Gcd.{dvd-zero}
use Rattle.std.proofs.lemmas.Bool.{cases_eq, cases_lt}
use Rattle.cone_definitions.specs.Vectors.{IsNonzero, IsInside, IsPrimitive, unit, multiple, sum_of}
use Rattle.cone_definitions.specs.Rows.{Row, plus_part, minus_part, value_at, magnitude_at, IsZeroAt, IsPositiveAt, IsNegativeAt, IsSolution, IsPrimitiveExtreme}
use Rattle.cone_definitions.specs.Surfaces.{Clash, IsAdmissible, IsAdmissibleUnion, IsVertexSurface}
use Rattle.cone_definitions.specs.Elimination.{Step, IsRay, IsPair, IsReducedCombination}
use Rattle.cone_definitions.specs.Enumeration.{ComesFromPair}
use Rattle.cone_definitions.proofs.Entries.{same_vectors, length-multiple, entry-multiple, length-sum_of, entry-sum_of, entry_past}
use Rattle.cone_definitions.proofs.Units.{length-unit, entry-unit_same, entry-unit_other, unit_nonzero, unit_inside, unit_primitive}
use Rattle.cone_definitions.proofs.OneRay.{same_ray}
use Rattle.cone_definitions.proofs.Next.{same_reduced}
use Rattle.cone_definitions.proofs.Surfaces.{step_gives_next_lem}
use Rattle.cone_row_laws.specs.Fresh.{IsUntouched, IsFresh, IsRaised, ComesFromOthers}
use Rattle.cone_row_laws.proofs.Singles.{no_third}

module _ (columns : ℕ) (rows : List Row) (column : ℕ) (h : IsUntouched columns rows column) where
  unit_solves : IsSolution columns rows (unit columns column)
  unit_solves = record { width = length-unit columns column; zero = λ k d l. h.plus k d l ∙ sym (h.minus k d l) }

  unit_least : (y : List ℕ) → IsNonzero y → IsInside y (unit columns column) → IsInside (unit columns column) y
  unit_least y some inside = elim (cases_eq some.0 column) [
    | inl e ↦ unit_inside columns column y (subst (λ i. slice_index y i ≢ 0) e some.1)
    | inr ne ↦ absurd (some.1 (inside some.0 (entry-unit_other columns column some.0 ne)))
  ]

  unit_ray : IsPrimitiveExtreme columns rows (unit columns column)
  unit_ray = record {
    extreme = record { solution = unit_solves; nonzero = unit_nonzero columns column h.in_range; least = λ y sol some inside. unit_least y some inside };
    primitive = unit_primitive columns column h.in_range;
  }

  is_unit : (pairs : List Clash) (x : List ℕ) → IsVertexSurface columns rows pairs x → slice_index x column ≢ 0 → x ≡ unit columns column
  is_unit pairs x hx some = same_ray columns rows x (unit columns column) hx.extreme hx.primitive unit_solves (unit_nonzero columns column h.in_range) (unit_primitive columns column h.in_range)
      (unit_inside columns column x some)

  unit_admissible : (pairs : List Clash) → All (λ pair. pair.0 ≢ pair.1) pairs → IsAdmissible pairs (unit columns column)
  unit_admissible pairs separate k d l = let pair : Clash = slice_index_or pairs k d in elim (cases_eq pair.0 column) [
    | inl e ↦ inr (entry-unit_other columns column pair.1 (λ f. separate k d l (e ∙ sym f)))
    | inr ne ↦ inl (entry-unit_other columns column pair.0 ne)
  ]

  unit_surface : (pairs : List Clash) → IsAdmissible pairs (unit columns column) → IsVertexSurface columns rows pairs (unit columns column)
  unit_surface pairs admissible = record { extreme = unit_ray.extreme; admissible = admissible; primitive = unit_ray.primitive }

pub units : (columns : ℕ) (rows : List Row) (pairs : List Clash) (column : ℕ) → IsUntouched columns rows column → All (λ pair. pair.0 ≢ pair.1) pairs → IsVertexSurface columns rows pairs (unit columns column)
units columns rows pairs column h separate = unit_surface columns rows column h pairs (unit_admissible columns rows column h pairs separate)

pub columns_are_units : (columns : ℕ) (rows : List Row) (pairs : List Clash) (column : ℕ) (x : List ℕ) → IsUntouched columns rows column → IsVertexSurface columns rows pairs x → slice_index x column ≢ 0 → x ≡ unit columns column
columns_are_units columns rows pairs column x h hx some = is_unit columns rows column h pairs x hx some

-- ---- a column set to a number

pub set_zero : (x : List ℕ) (column : ℕ) → slice_index x column ≡ 0 → slice_set x column 0 ≡ x
set_zero x column z = same_vectors (slice_set x column 0) x (length-set x column 0) (λ j. elim (cases_eq j column) [
  | inl e ↦ elim (cases_lt column (length x)) [
    | inl l ↦ subst (λ i. slice_index (slice_set x column 0) i ≡ slice_index x i) (sym e) (get_or-set_same x column 0 0 l ∙ sym z)
    | inr l ↦ subst (λ i. slice_index (slice_set x column 0) i ≡ slice_index x i) (sym e) (let w : length (slice_set x column 0) ≤ column = omega (arith, length-set x column 0) in
        entry_past (slice_set x column 0) (length (slice_set x column 0)) column refl w ∙ sym z)
  ]
  | inr ne ↦ get_or-set_other x column j 0 0 ne
])

module _ (step : Step) (column : ℕ) (h : IsFresh step column) where
  at_unit : List ℕ
  at_unit = unit step.columns column

  -- a ray that is 0 in the column, at which the row is negative, and the unit vector combine to the ray with the column
  -- set
  module _ (w : List ℕ) (hw : IsRay step w) (without : slice_index w column ≡ 0) (negative : IsNegativeAt step.row w) where
    left : ℕ
    left = minus_part step.row w - plus_part step.row w

    value_one : value_at step.row (unit step.columns column) ≡ 1
    value_one = omega (arith, h.plus, h.minus)

    made : List ℕ
    made = sum_of (multiple (value_at step.row (unit step.columns column) / 1) w) (multiple (magnitude_at step.row w / 1) (unit step.columns column))

    same_length : length (multiple (value_at step.row (unit step.columns column) / 1) w) ≡ length (multiple (magnitude_at step.row w / 1) (unit step.columns column))
    same_length = length-multiple (value_at step.row (unit step.columns column) / 1) w ∙ hw.extreme.solution.width
        ∙ sym (length-multiple (magnitude_at step.row w / 1) (unit step.columns column) ∙ length-unit step.columns column)

    entry_made : (j : ℕ) → slice_index made j ≡ 1 * slice_index w j + (minus_part step.row w - plus_part step.row w) * slice_index (unit step.columns column) j
    unfolding made
    entry_made j = entry-sum_of (multiple (value_at step.row (unit step.columns column) / 1) w) (multiple (magnitude_at step.row w / 1) (unit step.columns column)) same_length j
        ∙ (let a : slice_index (multiple (value_at step.row (unit step.columns column) / 1) w) j ≡ value_at step.row (unit step.columns column) / 1 * slice_index w j = entry-multiple (value_at step.row (unit step.columns column) / 1) w j in
        let b : slice_index (multiple (magnitude_at step.row w / 1) (unit step.columns column)) j ≡ magnitude_at step.row w / 1 * slice_index (unit step.columns column) j = entry-multiple (magnitude_at step.row w / 1) (unit step.columns column) j in
        let c : value_at step.row (unit step.columns column) / 1 * slice_index w j ≡ 1 * slice_index w j = ap (λ n. n * slice_index w j) (div-one (value_at step.row (unit step.columns column)) ∙ value_one) in
        let d : magnitude_at step.row w / 1 * slice_index (unit step.columns column) j ≡ magnitude_at step.row w * slice_index (unit step.columns column) j = ap (λ n. n * slice_index (unit step.columns column) j) (div-one (magnitude_at step.row w)) in
        omega (arith, a, b, c, d))

    raised : List ℕ
    raised = slice_set w column (minus_part step.row w - plus_part step.row w)

    column_before : column < length w
    column_before = let e : length w ≡ step.columns = hw.extreme.solution.width in omega (arith, e, h.untouched.in_range)

    made_is : made ≡ raised
    unfolding raised made
    made_is = same_vectors made (slice_set w column (minus_part step.row w - plus_part step.row w)) made_length (λ j. elim (cases_eq j column) [
      | inl e ↦ subst (λ i. slice_index made i ≡ slice_index (slice_set w column (minus_part step.row w - plus_part step.row w)) i) (sym e)
          (entry_made column ∙ (let u : slice_index (unit step.columns column) column ≡ 1 = entry-unit_same step.columns column h.untouched.in_range in rw (u, without) (omega arith))
          ∙ sym (get_or-set_same w column (minus_part step.row w - plus_part step.row w) 0 column_before))
      | inr ne ↦ entry_made j ∙ (let u : slice_index (unit step.columns column) j ≡ 0 = entry-unit_other step.columns column j ne in rw u (omega arith))
          ∙ sym (get_or-set_other w column j (minus_part step.row w - plus_part step.row w) 0 ne)
    ])
      where
        made_length : length made ≡ length (slice_set w column (minus_part step.row w - plus_part step.row w))
        made_length = length-sum_of (multiple (value_at step.row (unit step.columns column) / 1) w) (multiple (magnitude_at step.row w / 1) (unit step.columns column)) same_length
            ∙ length-multiple (value_at step.row (unit step.columns column) / 1) w ∙ sym (length-set w column (minus_part step.row w - plus_part step.row w))

    raised_primitive : IsPrimitive raised
    unfolding raised
    raised_primitive d divides = hw.primitive d (λ j. elim (cases_eq j column) [
      | inl e ↦ subst (λ n. d ∣ n) (sym (subst (λ i. slice_index w i ≡ 0) (sym e) without)) (dvd-zero d)
      | inr ne ↦ subst (λ n. d ∣ n) (get_or-set_other w column j (minus_part step.row w - plus_part step.row w) 0 ne) (divides j)
    ])

    raised_reduced : IsReducedCombination step.row (unit step.columns column) w (slice_set w column (minus_part step.row w - plus_part step.row w))
    unfolding raised made
    raised_reduced = record {
      combination = made;
      combines = record { divisor = 1; greatest = (one-dvd (value_at step.row (unit step.columns column)), one-dvd (magnitude_at step.row w), λ d a b. subst (λ n. d ∣ n) value_one a); sum = refl };
      divisor = 1;
      is_multiple = made_is ∙ sym (once raised);
      primitive = raised_primitive;
    }
      where
        once : (x : List ℕ) → multiple 1 x ≡ x
        once x = same_vectors (multiple 1 x) x (length-multiple 1 x) (λ j. entry-multiple 1 x j ∙ omega arith)

    made_nonzero : IsNonzero made
    made_nonzero = let n = hw.extreme.nonzero in (n.0, λ z. n.1 (let e : slice_index made n.0 ≡ 1 * slice_index w n.0 + (minus_part step.row w - plus_part step.row w) * slice_index (unit step.columns column) n.0 = entry_made n.0 in omega (arith, e, z)))

    made_width : length made ≡ step.columns
    unfolding made
    made_width = length-sum_of (multiple (value_at step.row (unit step.columns column) / 1) w) (multiple (magnitude_at step.row w / 1) (unit step.columns column)) same_length
        ∙ length-multiple (value_at step.row (unit step.columns column) / 1) w ∙ hw.extreme.solution.width

    reduced_nonzero : IsNonzero raised_reduced.combination
    unfolding raised_reduced
    reduced_nonzero = made_nonzero

    reduced_width : length raised_reduced.combination ≡ step.columns
    unfolding raised_reduced
    reduced_width = made_width

  -- ---- both directions

  unit_positive : IsPositiveAt step.row (unit step.columns column)
  unit_positive = omega (arith, h.plus, h.minus)

  no_clash : (w : List ℕ) → IsAdmissible step.pairs w → IsAdmissibleUnion step.pairs (unit step.columns column) w
  no_clash w admissible k d l = let pair : Clash = slice_index_or step.pairs k d in let a : (pair.0 ≢ column) × (pair.1 ≢ column) = h.separate k d l in
      elim (admissible k d l) [
        | inl z ↦ inl (entry-unit_other step.columns column pair.0 a.0, z)
        | inr z ↦ inr (entry-unit_other step.columns column pair.1 a.1, z)
      ]

  unit_admits : IsAdmissible step.pairs (unit step.columns column)
  unit_admits k d l = inl (entry-unit_other step.columns column (slice_index_or step.pairs k d).0 (h.separate k d l).0)

  makes_pair : (w : List ℕ) → IsRay step w → IsNegativeAt step.row w → IsPair step (unit step.columns column) w
  makes_pair w hw negative = record {
    u_ray = unit_surface step.columns step.before column h.untouched step.pairs unit_admits;
    w_ray = hw;
    positive = unit_positive;
    negative = negative;
    no_clash = no_clash w hw.admissible;
    no_third = λ v hv inside. no_third step.columns step.before column (unit step.columns column) w v (λ j ne. entry-unit_other step.columns column j ne)
        (unit_ray step.columns step.before column h.untouched) (record { extreme = hw.extreme; primitive = hw.primitive }) (record { extreme = hv.extreme; primitive = hv.primitive }) inside;
  }

  is_unit_here : (x : List ℕ) → IsRay step x → slice_index x column ≢ 0 → x ≡ unit step.columns column
  is_unit_here x hx some = is_unit step.columns step.before column h.untouched step.pairs x hx some

  abbrev Next : List ℕ → Type 0
  Next y = IsVertexSurface step.columns (step.before ++ step.row ∷ []) step.pairs y

  unit_is_not_zero : (y : List ℕ) → y ≡ unit step.columns column → IsZeroAt step.row y → ⊥
  unit_is_not_zero y e z = let z2 : plus_part step.row (unit step.columns column) ≡ minus_part step.row (unit step.columns column) = subst (IsZeroAt step.row) e z in omega (arith, z2, h.plus, h.minus)

  unit_is_not_negative : (y : List ℕ) → y ≡ unit step.columns column → IsNegativeAt step.row y → ⊥
  unit_is_not_negative y e n = let n2 : plus_part step.row (unit step.columns column) < minus_part step.row (unit step.columns column) = subst (IsNegativeAt step.row) e n in omega (arith, n2, h.plus, h.minus)

  from_zero : (y : List ℕ) → IsRay step y → IsZeroAt step.row y → IsRaised step column y
  from_zero y hy z = elim (cases_eq (slice_index y column) 0) [
    | inl without ↦ record {
      ray = y;
      is_ray = hy;
      without = without;
      left = omega (arith, z);
      is = sym (set_zero y column without) ∙ ap (slice_set y column) (let e : 0 ≡ minus_part step.row y - plus_part step.row y = omega (arith, z) in e);
    }
    | inr some ↦ absurd (unit_is_not_zero y (is_unit_here y hy some) z)
  ]

  from_pair : (y : List ℕ) → ComesFromPair step y → IsRaised step column y ⊎ ComesFromOthers step column y
  from_pair y c = elim (cases_eq (slice_index c.w column) 0) [
    | inr some ↦ absurd (unit_is_not_negative c.w (is_unit_here c.w c.pair.w_ray some) c.pair.negative)
    | inl w_without ↦ elim (cases_eq (slice_index c.u column) 0) [
      | inl u_without ↦ inr (record { comes = c; u_without = u_without; w_without = w_without })
      | inr some ↦ inl (record {
        ray = c.w;
        is_ray = c.pair.w_ray;
        without = w_without;
        left = omega (arith, c.pair.negative);
        is = sym (same_reduced step.columns step.row (unit step.columns column) c.w (slice_set c.w column (minus_part step.row c.w - plus_part step.row c.w)) y
            (raised_reduced c.w c.pair.w_ray w_without c.pair.negative) (subst (λ u. IsReducedCombination step.row u c.w y) (is_unit_here c.u c.pair.u_ray some) c.reduced)
            (reduced_width c.w c.pair.w_ray w_without c.pair.negative) (reduced_nonzero c.w c.pair.w_ray w_without c.pair.negative));
      })
    ]
  ]

  forth : (y : List ℕ) → Next y → IsRaised step column y ⊎ ComesFromOthers step column y
  forth y hy = elim ((step_gives_next_lem step y).0 hy) [
    | inl k ↦ inl (from_zero y k.0 k.1)
    | inr c ↦ from_pair y c
  ]

  raised_next : (y : List ℕ) → IsRaised step column y → Next y
  raised_next y r = elim (cases_eq (plus_part step.row r.ray) (minus_part step.row r.ray)) [
    | inl z ↦ let e : y ≡ r.ray = r.is ∙ ap (slice_set r.ray column) (let f : minus_part step.row r.ray - plus_part step.row r.ray ≡ 0 = omega (arith, z) in f) ∙ set_zero r.ray column r.without in
        subst Next (sym e) ((step_gives_next_lem step r.ray).1 (inl (r.is_ray, z)))
    | inr ne ↦ let negative : IsNegativeAt step.row r.ray = (let l : plus_part step.row r.ray ≤ minus_part step.row r.ray = r.left in omega (arith, l, ne)) in
        subst Next (sym r.is) ((step_gives_next_lem step (slice_set r.ray column (minus_part step.row r.ray - plus_part step.row r.ray))).1
        (inr (record { u = unit step.columns column; w = r.ray; pair = makes_pair r.ray r.is_ray negative; reduced = raised_reduced r.ray r.is_ray r.without negative })))
  ]

  back : (y : List ℕ) → IsRaised step column y ⊎ ComesFromOthers step column y → Next y
  back y (inl r) = raised_next y r
  back y (inr c) = (step_gives_next_lem step y).1 (inr c.comes)

pub fresh_next : (step : Step) (column : ℕ) → IsFresh step column → (y : List ℕ) → (IsVertexSurface step.columns (step.before ++ step.row ∷ []) step.pairs y → IsRaised step column y ⊎ ComesFromOthers step column y)
    × (IsRaised step column y ⊎ ComesFromOthers step column y → IsVertexSurface step.columns (step.before ++ step.row ∷ []) step.pairs y)
fresh_next step column h y = (forth step column h y, back step column h y)
