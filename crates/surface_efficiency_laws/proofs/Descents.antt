-- If a linear function is positive at a solution, it is positive at a ray inside it.
use Rattle.std.proofs.Common.{◌≡◌, ℕ, zero, suc, ◌+◌, ◌*◌, ◌<◌, ◌≤◌, List, inl, inr, ap, ◌∙◌, arith}
use Rattle.std.proofs.Math.Nat.{mul-le-mul_left}
use Rattle.std.proofs.lemmas.Bool.{cases_lt, cases_eq}
use Rattle.cone_definitions.specs.Vectors.{IsInside}
use Rattle.cone_definitions.specs.Rows.{Row, IsSolution, IsPrimitiveExtreme}
use Rattle.cone_definitions.proofs.Entries.{zero_or_nonzero, inside_trans, support_size, size-smaller}
use Rattle.cone_definitions.proofs.Linear.{IsLinear, linear_zero}
use Rattle.cone_definitions.proofs.Rays.{ray_inside}
use Rattle.cone_definitions.proofs.Solutions.{Rest, rest_of, Rest-solution}

-- if m * F = c * Fv + Fr and m * G = c * Gv + Gr, G is less than F, and Fv is at most Gv, then Gr is less than Fr
pub rest_less : (m c F Fv Fr G Gv Gr : ℕ) → 1 ≤ m → m * F ≡ c * Fv + 1 * Fr → m * G ≡ c * Gv + 1 * Gr → G < F → Fv ≤ Gv → Gr < Fr
rest_less m c F Fv Fr G Gv Gr some e f less most =
    let l : G + 1 ≤ F = omega arith in
    let a : m * (G + 1) ≤ m * F = mul-le-mul_left m l in
    let b : c * Fv ≤ c * Gv = mul-le-mul_left c most in
    omega arith

module _ (columns : ℕ) (rows : List Row) (f g : List ℕ → ℕ) (f_linear : IsLinear f) (g_linear : IsLinear g) where
  -- a ray inside x at which f is more than g
  pub record HasMoreInside (x : List ℕ) : Type 0 where
    pub v : List ℕ
    pub ray : IsPrimitiveExtreme columns rows v
    pub inside : IsInside v x
    pub more : g v < f v

  more_by : (fuel : ℕ) (x : List ℕ) → support_size columns x < fuel → IsSolution columns rows x → g x < f x → HasMoreInside x
  more_by zero x l solution more = absurd (omega arith)
  more_by (suc fuel) x l solution more = elim (zero_or_nonzero x) [
    | inl z ↦ absurd (let e : f x ≡ 0 = linear_zero f f_linear x z in omega arith)
    | inr some ↦ (let v = ray_inside columns rows x solution some in
        let ray : IsPrimitiveExtreme columns rows v.0 = v.1 in
        elim (cases_lt (g v.0) (f v.0)) [
          | inl here ↦ record { v = v.0; ray = ray; inside = v.2; more = here }
          | inr most ↦ (let r : Rest columns x v.0 = rest_of columns x v.0 solution.width ray.extreme.solution.width v.2 ray.extreme.nonzero in
              let less : g r.rest < f r.rest =
              rest_less r.m r.c (f x) (f v.0) (f r.rest) (g x) (g v.0) (g r.rest) r.some_m (f_linear.splits r.m r.c 1 x v.0 r.rest r.splits) (g_linear.splits r.m r.c 1 x v.0 r.rest r.splits) more most in
              let smaller : support_size columns r.rest < support_size columns x = size-smaller columns r.rest x solution.width r.smaller in
              let found : HasMoreInside r.rest = more_by fuel r.rest (omega arith) (Rest-solution columns rows x v.0 r solution ray.extreme.solution) less in
              record { v = found.v; ray = found.ray; inside = inside_trans found.v r.rest x found.inside r.smaller.inside; more = found.more })
        ])
  ]

  pub more_inside : (x : List ℕ) → IsSolution columns rows x → g x < f x → HasMoreInside x
  more_inside x solution more = more_by (support_size columns x + 1) x (omega arith) solution more

-- ---- descents with a third function

rest_most : (m c F Fv Fr G Gv Gr : ℕ) → m * F ≡ c * Fv + 1 * Fr → m * G ≡ c * Gv + 1 * Gr → G ≤ F → Fv ≤ Gv → Gr ≤ Fr
rest_most m c F Fv Fr G Gv Gr e f most less =
    let a : m * G ≤ m * F = mul-le-mul_left m most in
    let b : c * Fv ≤ c * Gv = mul-le-mul_left c less in
    omega arith

rest_fewer : (m c F Fv Fr G Gv Gr : ℕ) → 1 ≤ c → m * F ≡ c * Fv + 1 * Fr → m * G ≡ c * Gv + 1 * Gr → G ≤ F → Fv < Gv → Gr < Fr
rest_fewer m c F Fv Fr G Gv Gr some e f most less =
    let a : m * G ≤ m * F = mul-le-mul_left m most in
    let l : Fv + 1 ≤ Gv = omega arith in
    let b : c * (Fv + 1) ≤ c * Gv = mul-le-mul_left c l in
    omega arith

rest_some : (m c H Hv Hr : ℕ) → 1 ≤ m → m * H ≡ c * Hv + 1 * Hr → 1 ≤ H → Hv ≡ 0 → 1 ≤ Hr
rest_some m c H Hv Hr some e h z =
    let a : m * 1 ≤ m * H = mul-le-mul_left m h in
    let b : c * Hv ≡ 0 = ap (λ y. c * y) z ∙ omega arith in
    omega arith

module _ (columns : ℕ) (rows : List Row) (f g h : List ℕ → ℕ) (f_linear : IsLinear f) (g_linear : IsLinear g) (h_linear : IsLinear h) where
  -- f is more than g at no ray inside x at which h is 0
  abbrev pub NoneWithout : List ℕ → Type 0
  NoneWithout x = (v : List ℕ) → IsPrimitiveExtreme columns rows v → IsInside v x → h v ≡ 0 → f v ≤ g v

  -- a ray inside x at which h is not 0 and f is at least g
  pub record HasSomeInside (x : List ℕ) : Type 0 where
    pub v : List ℕ
    pub ray : IsPrimitiveExtreme columns rows v
    pub inside : IsInside v x
    pub some : 1 ≤ h v
    pub most : g v ≤ f v

  some_there : (x v : List ℕ) → IsPrimitiveExtreme columns rows v → IsInside v x → NoneWithout x → g v < f v → 1 ≤ h v
  some_there x v ray i none more = elim (cases_eq (h v) 0) [
    | inl z ↦ absurd (let limited : f v ≤ g v = none v ray i z in omega arith)
    | inr separate ↦ omega arith
  ]

  some_of : (x y : List ℕ) → IsInside y x → HasSomeInside y → HasSomeInside x
  some_of x y i found = record { v = found.v; ray = found.ray; inside = inside_trans found.v y x found.inside i; some = found.some; most = found.most }

  some_by : (fuel : ℕ) (x : List ℕ) → support_size columns x < fuel → IsSolution columns rows x → NoneWithout x → 1 ≤ h x → g x ≤ f x → HasSomeInside x
  some_by zero x l solution none some most = absurd (omega arith)
  some_by (suc fuel) x l solution none some most = elim (zero_or_nonzero x) [
    | inl z ↦ absurd (let e : h x ≡ 0 = linear_zero h h_linear x z in omega arith)
    | inr nonzero ↦ (let v = ray_inside columns rows x solution nonzero in
        let ray : IsPrimitiveExtreme columns rows v.0 = v.1 in
        let r : Rest columns x v.0 = rest_of columns x v.0 solution.width ray.extreme.solution.width v.2 ray.extreme.nonzero in
        let left : IsSolution columns rows r.rest = Rest-solution columns rows x v.0 r solution ray.extreme.solution in
        let sf : r.m * f x ≡ r.c * f v.0 + 1 * f r.rest = f_linear.splits r.m r.c 1 x v.0 r.rest r.splits in
        let sg : r.m * g x ≡ r.c * g v.0 + 1 * g r.rest = g_linear.splits r.m r.c 1 x v.0 r.rest r.splits in
        let sh : r.m * h x ≡ r.c * h v.0 + 1 * h r.rest = h_linear.splits r.m r.c 1 x v.0 r.rest r.splits in
        let within : NoneWithout r.rest = λ u y i. none u y (inside_trans u r.rest x i r.smaller.inside) in
        elim (cases_eq (h v.0) 0) [
          | inl z ↦ (let smaller : support_size columns r.rest < support_size columns x = size-smaller columns r.rest x solution.width r.smaller in
              some_of x r.rest r.smaller.inside (some_by fuel r.rest (omega arith) left within
              (rest_some r.m r.c (h x) (h v.0) (h r.rest) r.some_m sh some z)
              (rest_most r.m r.c (f x) (f v.0) (f r.rest) (g x) (g v.0) (g r.rest) sf sg most (none v.0 ray v.2 z))))
          | inr here ↦ elim (cases_lt (f v.0) (g v.0)) [
            | inr enough ↦ record { v = v.0; ray = ray; inside = v.2; some = omega arith; most = enough }
            | inl less ↦ (let w : HasMoreInside columns rows f g f_linear g_linear r.rest = more_inside columns rows f g f_linear g_linear r.rest left
                (rest_fewer r.m r.c (f x) (f v.0) (f r.rest) (g x) (g v.0) (g r.rest) r.some_c sf sg most less) in
                let more : g w.v < f w.v = w.more in
                some_of x r.rest r.smaller.inside (record { v = w.v; ray = w.ray; inside = w.inside; some = some_there r.rest w.v w.ray w.inside within w.more; most = omega arith }))
          ]
        ])
  ]

  pub some_inside : (x : List ℕ) → IsSolution columns rows x → NoneWithout x → 1 ≤ h x → g x ≤ f x → HasSomeInside x
  some_inside x solution none some most = some_by (support_size columns x + 1) x (omega arith) solution none some most
