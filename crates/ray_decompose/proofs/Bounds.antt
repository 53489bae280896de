-- A step of the decomposition: its numbers are within the limit, and the state after it.
use Rattle.std.proofs.Common.{◌≡◌, ◌≢◌, ℕ, suc, ◌+◌, ◌*◌, ◌<◌, ◌≤◌, inl, inr, List, [], ◌∷◌, ◌++◌, map, length, slice_index, slice_index_or, All, subst, subst₂, sym, ap, refl, ◌∙◌, arith}
use Rattle.std.proofs.Math.Nat.{mul-le-mul_left}
use Rattle.std.proofs.lemmas.Bool.{cases_eq}
use Rattle.std.proofs.lemmas.List.{length-map, length_push, get_or_default}
use Rattle.std.proofs.lemmas.List.Sums.{get_or-le-sum_by}
use Rattle.cone_definitions.specs.Vectors.{IsInside, multiple}
use Rattle.cone_definitions.specs.Rows.{Row, IsPrimitiveExtreme}
use Rattle.cone_definitions.proofs.Entries.{inside_trans, zero_or_nonzero, IsNonzero-inside}
use Rattle.sum_definitions.specs.Sums.{Term, State, IsLeastFraction, repeated, difference, taken_out, IsSumStep, IsWithinTimes, ReachesState, IsSum, IsLargeStep, HasRays}
use Rattle.sum_definitions.specs.Adding.{sum_at}
use Rattle.sum_laws.proofs.Fractions.{least_at}
use Rattle.sum_laws.proofs.Turns.{IsReached, led_reached, listed_ray, turn_smaller, turn_takes_out, not_inside}
use Rattle.sum_laws.proofs.Runs.{ray_inside_rest, bounded_steps}
use Rattle.ray_decompose.specs.Sums.{IsFirstLarge}

-- no listed vector before this index is inside r
abbrev pub NoneBefore : List (List ℕ) → List ℕ → ℕ → Type 0
NoneBefore list r place = (k : ℕ) → k < place → IsInside (slice_index_or list k []) r → ⊥

-- the numbers of a step are within the limit, and no difference is negative
pub record Fits (limit p q : ℕ) (v : List ℕ) (s : State) : Type 0 where
  pub times : q * s.times ≤ limit
  pub counts : All (λ (term : Term). q * term.count ≤ limit) s.terms
  pub rest : (j : ℕ) → q * slice_index s.rest j ≤ limit
  pub enough : (j : ℕ) → p * slice_index v j ≤ q * slice_index s.rest j

at_least : (a b l : ℕ) → b ≢ 0 → a * b ≤ l → a ≤ l
at_least a b l some h = let m : a * 1 ≤ a * b = mul-le-mul_left a (omega arith) in omega arith

part_fits : (q m x S r l : ℕ) → m * x ≡ S + r → q * m * x ≤ l → q * r ≤ l
part_fits q m x S r l e h = omega (arith, ap (λ n. q * n) e)

term_fits : (q c v m x S r l : ℕ) → v ≢ 0 → c * v ≤ S → m * x ≡ S + r → q * m * x ≤ l → q * c ≤ l
term_fits q c v m x S r l some h e within = at_least (q * c) v l some (let t : q * (c * v) ≤ q * S = mul-le-mul_left q h in omega (arith, ap (λ n. q * n) e))

module _ (columns : ℕ) (rows : List Row) (list : List (List ℕ)) (x : List ℕ) (h : HasRays columns rows list x) (limit turn : ℕ) (s : State) (led : ReachesState limit list x turn s) where
  reached : IsReached columns rows list x s
  reached = led_reached columns rows list x h limit turn s led

  pub ray_at : (i : ℕ) → i < length list → IsPrimitiveExtreme columns rows (slice_index_or list i [])
  ray_at i l = h.rays i [] l

  pub widths : (i : ℕ) → i < length list → length (slice_index_or list i []) ≡ length s.rest
  widths i l = (ray_at i l).extreme.solution.width ∙ sym reached.solution.width

  pub nothing_is_left : NoneBefore list s.rest (length list) → (j : ℕ) → slice_index s.rest j ≡ 0
  nothing_is_left none = elim (zero_or_nonzero s.rest) [
    | inl zero ↦ zero
    | inr some ↦ let v = ray_inside_rest columns rows list x h limit turn s led some in
        absurd (none v.1.listed.0 v.1.listed.1 (subst (λ w. IsInside w s.rest) (sym (get_or_default list v.1.listed.0 [] v.0 v.1.listed.1 ∙ v.1.listed.2)) v.1.inside))
  ]

  module _ (i p q : ℕ) (l : i < length list) (inside : IsInside (slice_index_or list i []) s.rest) (none : NoneBefore list s.rest i)
      (fraction : IsLeastFraction s.rest (slice_index_or list i []) p q) where
    pub turn_at : IsSumStep list s (taken_out s p q (slice_index_or list i []))
    turn_at = record {
      left = IsNonzero-inside (slice_index_or list i []) s.rest inside (ray_at i l).extreme.nonzero;
      vector = slice_index_or list i [];
      p = p;
      q = q;
      least_inside = least_at list s.rest i h.ascending l inside none;
      fraction = fraction;
      after = refl;
    }

    pub fits : IsWithinTimes limit x (q * s.times) → Fits limit p q (slice_index_or list i []) s
    fits within = record {
      times = let n = (ray_at i l).extreme.nonzero in at_least (q * s.times) (slice_index x n.0) limit (λ z. n.1 (inside n.0 (reached.inside n.0 z))) (within n.0);
      counts = λ k d m. let n = (listed_ray columns rows list x h (slice_index_or s.terms k d).vector (reached.listed k d m)).extreme.nonzero in
          term_fits q (slice_index_or s.terms k d).count (slice_index (slice_index_or s.terms k d).vector n.0) s.times (slice_index x n.0) (sum_at s.terms n.0) (slice_index s.rest n.0) limit n.1
          (get_or-le-sum_by (λ (term : Term). term.count * slice_index term.vector n.0) s.terms k d m) (reached.sums n.0) (within n.0);
      rest = λ j. part_fits q s.times (slice_index x j) (sum_at s.terms j) (slice_index s.rest j) limit (reached.sums j) (within j);
      enough = λ j. elim (cases_eq (slice_index (slice_index_or list i []) j) 0) [
        | inl z ↦ rw z (omega arith)
        | inr some ↦ fraction.least j some
      ];
    }

    module _ (within : IsWithinTimes limit x (q * s.times)) (terms : List Term) (rest : List ℕ) (are : terms ≡ map (repeated q) s.terms ++ record { count = p; vector = slice_index_or list i [] } ∷ [])
        (is : rest ≡ difference (multiple q s.rest) (multiple p (slice_index_or list i []))) where
      same : taken_out s p q (slice_index_or list i []) ≡ record { times = q * s.times; terms = terms; rest = rest }
      same = ap (λ ts. record { times = q * s.times; terms = ts; rest = difference (multiple q s.rest) (multiple p (slice_index_or list i [])) }) (sym are) ∙
          ap (λ r. record { times = q * s.times; terms = terms; rest = r }) (sym is)

      pub leads_on : ReachesState limit list x (suc turn) (record { times = q * s.times; terms = terms; rest = rest })
      leads_on = subst (λ n. ReachesState limit list x (suc turn) n) same (s, led, turn_at, within)

      pub none_again : NoneBefore list rest (i + 1)
      unfolding turn_at
      none_again k b c = elim (cases_eq k i) [
        | inl e ↦ not_inside columns s.rest (slice_index_or list i []) p q (turn_takes_out columns rows list x h s reached (slice_index_or list i []) p q turn_at.least_inside fraction)
            (subst (λ r. IsInside (slice_index_or list i []) r) is (subst (λ n. IsInside (slice_index_or list n []) rest) e c))
        | inr ne ↦ none k (omega arith) (inside_trans (slice_index_or list k []) rest s.rest c (subst (λ r. IsInside r s.rest) (sym is)
            (turn_smaller columns rows list x h s (taken_out s p q (slice_index_or list i [])) reached turn_at).inside))
      ]

-- a step at an index of the list, as the code reaches it
pub record Turn (columns : ℕ) (rows : List Row) (list : List (List ℕ)) (x : List ℕ) (limit times : ℕ) (terms : List Term) (rest : List ℕ) (i p q : ℕ) : Type 0 where
  pub rays : HasRays columns rows list x
  pub led : ReachesState limit list x (length terms) (record { times = times; terms = terms; rest = rest })
  pub none : NoneBefore list rest i
  pub in_range : i < length list
  pub inside : IsInside (slice_index_or list i []) rest
  pub fraction : IsLeastFraction rest (slice_index_or list i []) p q

-- the vector at an index, as it was read
pub at_place : (list : List (List ℕ)) (i : ℕ) (item v : List ℕ) → i < length list → item ≡ slice_index_or list i item → v ≡ item → v ≡ slice_index_or list i []
at_place list i item v l is e = e ∙ is ∙ get_or_default list i item [] l

pub same_lengths : (v w a b : List ℕ) → v ≡ a → w ≡ b → length a ≡ length b → length v ≡ length w
same_lengths v w a b e f g = ap length e ∙ g ∙ sym (ap length f)

pub turn_is : (columns : ℕ) (rows : List Row) (list : List (List ℕ)) (x : List ℕ) (limit times : ℕ) (terms : List Term) (rest : List ℕ) (i p q : ℕ) (item v r : List ℕ) →
    HasRays columns rows list x → ReachesState limit list x (length terms) (record { times = times; terms = terms; rest = rest }) → NoneBefore list rest i → i < length list →
    item ≡ slice_index_or list i item → v ≡ item → r ≡ rest → IsInside v r → IsLeastFraction r v p q → Turn columns rows list x limit times terms rest i p q
turn_is columns rows list x limit times terms rest i p q item v r h led none l is e f inside fraction = record {
  rays = h;
  led = led;
  none = none;
  in_range = l;
  inside = subst₂ IsInside (at_place list i item v l is e) f inside;
  fraction = subst₂ (λ a b. IsLeastFraction a b p q) f (at_place list i item v l is e) fraction;
}

module _ (columns : ℕ) (rows : List Row) (list : List (List ℕ)) (x : List ℕ) (limit times : ℕ) (terms : List Term) (rest : List ℕ) (i p q : ℕ) (t : Turn columns rows list x limit times terms rest i p q) where
  pub turn_fits : IsWithinTimes limit x (q * times) → Fits limit p q (slice_index_or list i []) (record { times = times; terms = terms; rest = rest })
  turn_fits within = fits columns rows list x t.rays limit (length terms) (record { times = times; terms = terms; rest = rest }) t.led i p q t.in_range t.inside t.none t.fraction within

  pub turns_are_few : length terms ≤ columns
  turns_are_few = bounded_steps columns rows list x t.rays limit (length terms) (record { times = times; terms = terms; rest = rest }) t.led

  pub ray_width : length (slice_index_or list i []) ≡ columns
  ray_width = (t.rays.rays i [] t.in_range).extreme.solution.width

  pub large_turn : (turn column : ℕ) → turn ≡ length terms → IsFirstLarge limit x (q * times) column → IsLargeStep limit list x turn column
  large_turn turn column e h = subst (λ n. IsLargeStep limit list x n column) (sym e) (record {
    before = record { times = times; terms = terms; rest = rest };
    next = taken_out (record { times = times; terms = terms; rest = rest }) p q (slice_index_or list i []);
    led = t.led;
    turns = turn_at columns rows list x t.rays limit (length terms) (record { times = times; terms = terms; rest = rest }) t.led i p q t.in_range t.inside t.none t.fraction;
    large = h.large;
    first = h.first;
  })

  -- the state after the step
  pub goes_on : (times' : ℕ) (terms' : List Term) (rest' : List ℕ) → IsWithinTimes limit x (q * times) → times' ≡ q * times →
      terms' ≡ map (repeated q) terms ++ record { count = p; vector = slice_index_or list i [] } ∷ [] → rest' ≡ difference (multiple q rest) (multiple p (slice_index_or list i [])) →
      record { led : ReachesState limit list x (length terms') (record { times = times'; terms = terms'; rest = rest' }); none : NoneBefore list rest' (i + 1) }
  goes_on times' terms' rest' within e are is = record {
    led = subst (λ n. ReachesState limit list x n (record { times = times'; terms = terms'; rest = rest' })) longer
        (subst (λ m. ReachesState limit list x (suc (length terms)) (record { times = m; terms = terms'; rest = rest' })) (sym e)
        (leads_on columns rows list x t.rays limit (length terms) (record { times = times; terms = terms; rest = rest }) t.led i p q t.in_range t.inside t.none t.fraction within terms' rest' are is));
    none = none_again columns rows list x t.rays limit (length terms) (record { times = times; terms = terms; rest = rest }) t.led i p q t.in_range t.inside t.none t.fraction within terms' rest' are is;
  }
    where
      longer : suc (length terms) ≡ length terms'
      longer = sym (ap length are ∙ length_push (map (repeated q) terms) (record { count = p; vector = slice_index_or list i [] }) ∙ (let e : length (map (repeated q) terms) ≡ length terms = length-map terms (repeated q) in omega arith))

-- counts within the limit are within the range of the code's numbers
pub counts_fit : (terms lent : List Term) (q limit most : ℕ) → lent ≡ terms → All (λ (term : Term). q * term.count ≤ limit) terms → limit < most → All (λ (term : Term). q * term.count < most) lent
counts_fit terms lent q limit most e h l k d m = let n : q * (slice_index_or lent k d).count ≤ limit = subst (λ ts. All (λ (term : Term). q * term.count ≤ limit) ts) (sym e) h k d m in omega arith

-- one more index, whose vector is not inside the rest
pub none_there : (list : List (List ℕ)) (rest : List ℕ) (i : ℕ) → NoneBefore list rest i → (IsInside (slice_index_or list i []) rest → ⊥) → NoneBefore list rest (i + 1)
none_there list rest i none out k b c = elim (cases_eq k i) [
  | inl e ↦ out (subst (λ n. IsInside (slice_index_or list n []) rest) e c)
  | inr ne ↦ none k (omega arith) c
]

pub ends : (columns : ℕ) (rows : List Row) (list : List (List ℕ)) (x : List ℕ) (limit times : ℕ) (terms : List Term) (rest : List ℕ) (i : ℕ) → HasRays columns rows list x →
    ReachesState limit list x (length terms) (record { times = times; terms = terms; rest = rest }) → NoneBefore list rest i → length list ≤ i → IsSum limit list x times terms
ends columns rows list x limit times terms rest i h led none exceeded = record {
  turns = length terms;
  rest = rest;
  led = led;
  nothing_left = nothing_is_left columns rows list x h limit (length terms) (record { times = times; terms = terms; rest = rest }) led (λ k b. none k (omega arith));
}
