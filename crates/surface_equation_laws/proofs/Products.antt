-- Columns of which no two clash have at most one quad or octagon in each tetrahedron, and at most one octagon.
use Rattle.std.proofs.Common.{◌≡◌, ℕ, zero, suc, ◌+◌, ◌*◌, ◌/◌, ◌%◌, ◌<◌, ◌≤◌, Bool, true, false, cond, List, [], ◌∷◌, All, Contains, slice_index, ◌⊎◌, inl, inr, refl, sym, ap, ◌∙◌, subst, arith}
use Rattle.std.specs.Prelude.{◌==◌, ◌&&◌, ◌^◌, nat_lt, sum_by, count_by, if◌then◌else◌}
use Rattle.std.proofs.lemmas.Bool.{and_from, and_parts, or_left, or_right, eqb-true, eq-eqb, ne_eqb, lt-ltb, cases_order, leb-true, le-leb, false_from_ne_true, false≢true}
use Rattle.std.specs.List.{range_with_len}
use Rattle.std.proofs.lemmas.List.Sums.{sum_by-cons}
use Rattle.table_definitions.specs.Lists.{below, pairs_of}
use Rattle.table_definitions.proofs.TableLaws.{Among, Among-below, Among-pairs}
use Rattle.table_definitions.proofs.Listed.{contains_among, among_contains, Among-filter, all_at}
use Rattle.surface_definitions.specs.Coordinates.{has_octagons, triangles_each, before_octagons, columns, columns_each, is_quad_or_octagon, is_octagon, clash_test, clash_list}
use Rattle.surface_definitions.specs.declared.Coords.{Coords}
use Rattle.surface_definitions.proofs.ColumnCounts.{tet_below, octagon_has}
use Rattle.surface_laws.proofs.Counting.{sum_swap, sum_by_same, sum_by-none, one_term}
use Rattle.cone_definitions.specs.Surfaces.{IsAdmissible}
use Rattle.surface_equation_laws.specs.Entries.{IsOnce}
use Rattle.surface_equation_laws.specs.Products.{HaveNoClash, product_bound}
use Rattle.surface_equation_laws.specs.Weights.{weight, weight_product}
use Rattle.surface_equation_laws.proofs.Once.{count_one, apart_once}
use Rattle.surface_equation_laws.proofs.Columns.{sum_by_times}
use Rattle.surface_laws.proofs.Sums.{sum_by_plus}
use Rattle.std.proofs.lemmas.Nat.{pow-add, mul-pow}
use Rattle.std.proofs.Math.Nat.{pow-le-pow_right}
use Rattle.std.proofs.lemmas.List.Elements.{recursion_from_All}
use Rattle.surface_equation_laws.proofs.Chosen.{sum_by_less}
use Rattle.basic_lemmas.proofs.Truths.{one_if}

module _ (coords : Coords) (n : ℕ) (cs : List ℕ) (range : (c : ℕ) → Among c cs → c < columns coords n) (once : IsOnce cs) (free : HaveNoClash coords n cs) where
  listed : (a b : ℕ) → Among a cs → Among b cs → a < b → clash_test coords a b ≡ true → ⊥
  unfolding clash_list
  listed a b x y less clash =
      let all : List (ℕ × ℕ) = pairs_of (below (columns coords n)) (below (columns coords n)) in
      let there : Among {A = ℕ × ℕ} (a, b) all = Among-pairs a b (below (columns coords n)) (below (columns coords n)) (Among-below a (columns coords n) (range a x)) (Among-below b (columns coords n) (range b y)) in
      free (a, b) (contains_among {A = ℕ × ℕ} (a, b) (clash_list coords n)
      (Among-filter {A = ℕ × ℕ} (λ p. nat_lt p.0 p.1 && clash_test coords p.0 p.1) (a, b) all there (and_from (nat_lt a b) (clash_test coords a b) (lt-ltb a b less) clash)))
      (contains_among a cs x) (contains_among b cs y)

  one_of : (a b : ℕ) → Among a cs → Among b cs → clash_test coords a b ≡ true → clash_test coords b a ≡ true → a ≡ b
  one_of a b x y ab ba = elim (cases_order a b) [
    | inl e ↦ e
    | inr (inl less) ↦ absurd (listed a b x y less ab)
    | inr (inr more) ↦ absurd (listed b a y x more ba)
  ]

  two_octagons : (a b : ℕ) → is_octagon coords a ≡ true → is_octagon coords b ≡ true → clash_test coords a b ≡ true
  two_octagons a b x y = or_left (is_octagon coords a && is_octagon coords b) ((a / columns_each coords == b / columns_each coords) && is_quad_or_octagon coords a && is_quad_or_octagon coords b) (and_from (is_octagon coords a) (is_octagon coords b) x y)

  pub one_octagon : count_by (is_octagon coords) cs ≤ 1
  one_octagon = count_one (is_octagon coords) cs (apart_once cs once) (λ a b x y s t. one_of a b x y (two_octagons a b s t) (two_octagons b a t s))

  -- a quad or an octagon of tetrahedron t
  abbrev is_in : ℕ → ℕ → Bool
  is_in t c = is_quad_or_octagon coords c && (c / columns_each coords == t)

  two_in : (t a b : ℕ) → is_in t a ≡ true → is_in t b ≡ true → clash_test coords a b ≡ true
  two_in t a b x y =
      let p : (is_quad_or_octagon coords a ≡ true) × ((a / columns_each coords == t) ≡ true) = and_parts (is_quad_or_octagon coords a) (a / columns_each coords == t) x in
      let q : (is_quad_or_octagon coords b ≡ true) × ((b / columns_each coords == t) ≡ true) = and_parts (is_quad_or_octagon coords b) (b / columns_each coords == t) y in
      let s : a / columns_each coords ≡ b / columns_each coords = eqb-true (a / columns_each coords) t p.1 ∙ sym (eqb-true (b / columns_each coords) t q.1) in
      or_right (is_octagon coords a && is_octagon coords b) ((a / columns_each coords == b / columns_each coords) && is_quad_or_octagon coords a && is_quad_or_octagon coords b)
      (and_from ((a / columns_each coords == b / columns_each coords) && is_quad_or_octagon coords a) (is_quad_or_octagon coords b)
      (and_from (a / columns_each coords == b / columns_each coords) (is_quad_or_octagon coords a) (eq-eqb (a / columns_each coords) (b / columns_each coords) s) p.0) q.0)

  one_in : (t : ℕ) → count_by (is_in t) cs ≤ 1
  one_in t = count_one (is_in t) cs (apart_once cs once) (λ a b x y s u. one_of a b x y (two_in t a b s u) (two_in t b a u s))

  by_tet : (c : ℕ) → Among c cs → cond (is_quad_or_octagon coords c) 1 0 ≡ sum_by (λ t. cond (is_in t c) 1 0) (below n)
  by_tet c m = go (is_quad_or_octagon coords c)
    where
      go : (b : Bool) → cond b 1 0 ≡ sum_by (λ t. cond (b && (c / columns_each coords == t)) 1 0) (below n)
      go true =
          let all : sum_by (λ t. cond (c / columns_each coords == t) 1 0) (below n) ≡ cond (c / columns_each coords == c / columns_each coords) 1 0 =
          one_term (λ t. cond (c / columns_each coords == t) 1 0) (c / columns_each coords) n (λ t off. ap (λ b. cond b 1 0) (ne_eqb (c / columns_each coords) t (λ e. off (sym e)))) (tet_below coords n c (range c m)) in
          sym (all ∙ ap (λ b. cond b 1 0) (eq-eqb (c / columns_each coords) (c / columns_each coords) refl))
      go false = sym (sum_by-none (λ (t : ℕ). 0) (below n) (λ t a. refl))

  pub one_each : count_by (is_quad_or_octagon coords) cs ≤ n
  one_each =
      let e : count_by (is_quad_or_octagon coords) cs ≡ sum_by (λ t. count_by (is_in t) cs) (below n) =
      sum_by_same (λ c. cond (is_quad_or_octagon coords c) 1 0) (λ c. sum_by (λ t. cond (is_in t c) 1 0) (below n)) cs by_tet ∙ sum_swap (λ c t. cond (is_in t c) 1 0) cs (below n) in
      let l : sum_by (λ t. count_by (is_in t) cs) (below n) ≤ sum_by (λ (t : ℕ). 1) (below n) = sum_by_less (λ t. count_by (is_in t) cs) (λ (t : ℕ). 1) (below n) (λ t a. one_in t) in
      let s : sum_by (λ (t : ℕ). 1) (below n) ≡ n = ones 0 n in
      subst (λ k. k ≤ n) (sym e) (omega arith)
    where
      ones : (a k : ℕ) → sum_by (λ (t : ℕ). 1) (range_with_len a k) ≡ k
      ones a zero = refl
      ones a (suc k) = let more : sum_by (λ (t : ℕ). 1) (range_with_len (a + 1) k) ≡ k = ones (a + 1) k in omega (arith, sum_by-cons (λ (t : ℕ). 1) a (range_with_len (a + 1) k))

-- a weight is a power of 2
abbrev exponent : Coords → ℕ → ℕ
exponent coords c = 2 * one_if (is_quad_or_octagon coords c) + one_if (is_octagon coords c)

octagon_bounded : (coords : Coords) (c : ℕ) → is_octagon coords c ≡ true → is_quad_or_octagon coords c ≡ true
octagon_bounded coords c h =
    let l : before_octagons coords ≤ c % columns_each coords = leb-true (before_octagons coords) (c % columns_each coords) h in
    le-leb (triangles_each coords) (c % columns_each coords) (omega (arith, l))

weight_is : (coords : Coords) (c : ℕ) → weight coords c ≡ 2 ^ exponent coords c
weight_is coords c = go (is_octagon coords c) (is_quad_or_octagon coords c) (octagon_bounded coords c)
  where
    go : (octagon bounded : Bool) → (octagon ≡ true → bounded ≡ true) → (if octagon then 8 else (if bounded then 4 else 1)) ≡ 2 ^ (2 * one_if bounded + one_if octagon)
    go true true h = refl
    go true false h = let e : false ≡ true = h refl in cc
    go false true h = refl
    go false false h = refl

product_is : (coords : Coords) (cs : List ℕ) → weight_product coords cs ≡ 2 ^ sum_by (exponent coords) cs
unfolding weight_product
product_is coords [] = refl
product_is coords (c ∷ cs) =
    (λ i. weight_is coords c i * product_is coords cs i) ∙ sym (pow-add 2 (exponent coords c) (sum_by (exponent coords) cs)) ∙ ap (λ k. 2 ^ k) (sym (sum_by-cons (exponent coords) c cs))

exponents : (coords : Coords) (cs : List ℕ) → sum_by (exponent coords) cs ≡ 2 * count_by (is_quad_or_octagon coords) cs + count_by (is_octagon coords) cs
exponents coords cs =
    sum_by_plus (λ c. 2 * one_if (is_quad_or_octagon coords c)) (λ c. one_if (is_octagon coords c)) (exponent coords) (λ c. refl) cs
    ∙ ap (λ k. k + count_by (is_octagon coords) cs) (sum_by_times 2 (λ c. one_if (is_quad_or_octagon coords c)) cs)

no_octagons : (coords : Coords) → has_octagons coords ≡ false → (cs : List ℕ) → count_by (is_octagon coords) cs ≡ 0
no_octagons coords none cs =
    sum_by-none (λ c. one_if (is_octagon coords c)) cs (λ c a. ap one_if (false_from_ne_true (is_octagon coords c) (λ t. false≢true (sym none ∙ octagon_has coords c t))))

power_of_four : (n : ℕ) → 2 ^ (2 * n) ≡ 4 ^ n
power_of_four n = let e : 2 * n ≡ n + n = omega arith in ap (λ k. 2 ^ k) e ∙ pow-add 2 n n ∙ sym (mul-pow 2 2 n)

pub products_are_small : (coords : Coords) (n : ℕ) (cs : List ℕ) → All (λ c. c < columns coords n) cs → IsOnce cs → HaveNoClash coords n cs → weight_product coords cs ≤ product_bound coords n
products_are_small coords n cs range once free = go (has_octagons coords) refl
  where
    ranged : (c : ℕ) → Among c cs → c < columns coords n
    ranged c a = all_at (λ c. c < columns coords n) cs c (recursion_from_All (λ c. c < columns coords n) cs range) a

    raised : (k : ℕ) → sum_by (exponent coords) cs ≤ k → weight_product coords cs ≤ 2 ^ k
    raised k l = let e = product_is coords cs in let m : 2 ^ sum_by (exponent coords) cs ≤ 2 ^ k = pow-le-pow_right (omega arith) l in omega arith

    even : has_octagons coords ≡ false → weight_product coords cs ≤ 4 ^ n
    even none =
        let a = one_each coords n cs ranged once free in
        let b = no_octagons coords none cs in
        let e = exponents coords cs in
        let l : weight_product coords cs ≤ 2 ^ (2 * n) = raised (2 * n) (omega arith) in
        let p = power_of_four n in
        omega arith

    go : (o : Bool) → has_octagons coords ≡ o → weight_product coords cs ≤ (if o then 2 * 4 ^ n else 4 ^ n)
    go false none = even none
    go true some =
        let a = one_each coords n cs ranged once free in
        let b = one_octagon coords n cs ranged once free in
        let e = exponents coords cs in
        let l : weight_product coords cs ≤ 2 ^ (1 + 2 * n) = raised (1 + 2 * n) (omega arith) in
        let p : 2 ^ (1 + 2 * n) ≡ 2 * 4 ^ n = pow-add 2 1 (2 * n) ∙ ap (λ k. 2 * k) (power_of_four n) in
        omega arith

pub supports_have_no_clash : (coords : Coords) (n : ℕ) (x cs : List ℕ) → IsAdmissible (clash_list coords n) x → ((c : ℕ) → Contains cs c → slice_index x c ≡ 0 → ⊥) → HaveNoClash coords n cs
supports_have_no_clash coords n x cs h nonzero pair there a b = elim (all_at Allowed (clash_list coords n) pair (recursion_from_All Allowed (clash_list coords n) h) (among_contains pair (clash_list coords n) there)) [
  | inl e ↦ nonzero pair.0 a e
  | inr e ↦ nonzero pair.1 b e
]
  where
    Allowed : ℕ × ℕ → Type 0
    Allowed p = (slice_index x p.0 ≡ 0) ⊎ (slice_index x p.1 ≡ 0)
