-- Within the quads of a lift of positive Euler characteristic lies a ray whose lift has positive Euler characteristic.
use Rattle.std.proofs.Common.{◌≡◌, ℕ, zero, suc, ◌+◌, ◌*◌, ◌/◌, ◌%◌, ◌<◌, ◌≤◌, List, length, inl, inr, slice_index, sum_by, sym, ap, ◌∙◌, arith}
use Rattle.std.proofs.Math.Nat.{mul-le-mul_left}
use Rattle.std.proofs.lemmas.Bool.{cases_lt}
use Rattle.cone_definitions.specs.Vectors.{IsInside, multiple, sum_of}
use Rattle.cone_definitions.specs.Rows.{Row as EquationRow, IsSolution, IsPrimitiveExtreme}
use Rattle.cone_definitions.proofs.Entries.{length-multiple, entry-multiple, length-sum_of, entry-sum_of, entry_past, inside_trans, zero_or_nonzero, support_size, size-smaller}
use Rattle.cone_definitions.proofs.Linear.{Splits, IsLinear, linear_zero}
use Rattle.cone_definitions.proofs.Rays.{ray_inside}
use Rattle.cone_definitions.proofs.Solutions.{Rest, rest_of, Rest-solution, solution_sum}
use Rattle.table_definitions.specs.Lists.{below}
use Rattle.table_definitions.proofs.Listed.{below-among}
use Rattle.skeleton_definitions.specs.Skeleton.{Skeleton, IsSkeleton}
use Rattle.skeleton_definitions.specs.declared.Link.{Link}
use Rattle.surface_definitions.specs.Characteristic.{arcs}
use Rattle.surface_definitions.specs.Coordinates.{columns, quad_column}
use Rattle.surface_definitions.specs.declared.Coords.TheVariants.{Standard, Quad}
use Rattle.surface_definitions.specs.Equations.{matching_rows}
use Rattle.surface_definitions.specs.Lift.{projected}
use Rattle.surface_definitions.specs.QuadEquations.{AreEquations}
use Rattle.surface_laws.specs.LiftLaws.{IsLiftOf}
use Rattle.surface_laws.proofs.Counting.{sum_by-none}
use Rattle.surface_laws.proofs.LiftLemmas.{lift_solves}
use Rattle.surface_laws.proofs.Lifts.{one_lift}
use Rattle.surface_laws.proofs.Quads.{length-projected, quad_entry}
use Rattle.surface_quad_laws.specs.LinkLaws.{link_of}
use Rattle.surface_quad_laws.specs.SolutionLaws.{IsStandardSolution, HasOneLiftWithLinks}
use Rattle.surface_quad_laws.proofs.Lifted.{lifted_are_quads}
use Rattle.surface_quad_laws.proofs.LiftsAndLinks.{one_lift_with_links}
use Rattle.surface_quad_laws.proofs.VertexLinks.{length-link}
use Rattle.surface_quad_lift_laws.specs.Laws.{HasSphereAndDiscLinks}
use Rattle.surface_quad_lift_laws.proofs.Correspondence.{correspond}
use Rattle.surface_efficiency_laws.proofs.Descents.{rest_less}
use Rattle.surface_efficiency_laws.proofs.LinkNumbers.{number_with_links, sum_most, links_most}
use Rattle.surface_efficiency_laws.proofs.Measures.{points_and_pieces, points_and_pieces_linear, arcs_linear}
use Rattle.surface_efficiency_laws.proofs.MultipleLifts.{lift_quads, multiple_lift}

-- m times more is more, also after at least as much is added
still_less : (m F G F' G' : ℕ) → 1 ≤ m → G < F → G' ≤ F' → m * G + G' < m * F + F'
still_less m F G F' G' some less most =
    let l : G + 1 ≤ F = omega arith in
    let a : m * (G + 1) ≤ m * F = mul-le-mul_left m l in
    omega arith

module _ (s : Skeleton) (k : IsSkeleton s) (links : List Link) (spheres : HasSphereAndDiscLinks s links) (quad_rows : List EquationRow) (equations : AreEquations Quad s.rows quad_rows) where
  abbrev n : ℕ
  n = length s.rows

  abbrev upper : List ℕ → ℕ
  upper ys = points_and_pieces s Standard (columns Standard (length s.rows)) ys

  abbrev lower : List ℕ → ℕ
  lower ys = arcs s.rows Standard ys

  upper_linear : IsLinear (points_and_pieces s Standard (columns Standard (length s.rows)))
  upper_linear = points_and_pieces_linear s Standard (columns Standard n)

  lower_linear : IsLinear (λ ys. arcs s.rows Standard ys)
  lower_linear = arcs_linear s Standard

  lift_of : (q : List ℕ) → IsSolution (columns Quad n) quad_rows q → (ys : List ℕ) × IsLiftOf s q ys
  lift_of q solution = (lifted_are_quads s k q solution.width).1 ((correspond s k links spheres quad_rows equations q).0 solution)

  solves : (q ys : List ℕ) → IsLiftOf s q ys → IsStandardSolution s ys
  solves q ys l = lift_solves s.rows k.table s.vertices.classes s.vertices.count k.vertices q ys l

  same_lift : (q ys zs : List ℕ) → IsLiftOf s q ys → IsLiftOf s q zs → ys ≡ zs
  same_lift q ys zs a b = one_lift s.rows k.table s.vertices.classes s.vertices.count k.vertices q ys zs a b

  times_is : (f : List ℕ → ℕ) → IsLinear f → (m : ℕ) (x : List ℕ) → f (multiple m x) ≡ m * f x
  times_is f linear m x = let e : 1 * f (multiple m x) ≡ m * f x + 0 * f x = linear.splits 1 m 0 (multiple m x) x x (λ j. let h : slice_index (multiple m x) j ≡ m * slice_index x j = entry-multiple m x j in omega arith) in omega arith

  -- if m * q = c * v + r, m times the lift of q, with some links, is c times the lift of v plus the lift of r
  module _ (m c : ℕ) (q v r x y z : List ℕ) (some : 1 ≤ m) (wq : length q ≡ 3 * n) (wv : length v ≡ 3 * n) (wr : length r ≡ 3 * n) (splits : Splits m q c v 1 r)
      (lq : IsLiftOf s q x) (lv : IsLiftOf s v y) (lr : IsLiftOf s r z) where
    abbrev both : List ℕ
    both = sum_of (multiple c y) z

    widths : length (multiple c y) ≡ length z
    widths = length-multiple c y ∙ lv.width ∙ sym lr.width

    both_width : length (sum_of (multiple c y) z) ≡ columns Standard n
    both_width = length-sum_of (multiple c y) z widths ∙ length-multiple c y ∙ lv.width

    both_entry : (j : ℕ) → slice_index (sum_of (multiple c y) z) j ≡ c * slice_index y j + slice_index z j
    both_entry j = entry-sum_of (multiple c y) z widths j ∙ ap (λ a. a + slice_index z j) (entry-multiple c y j)

    both_splits : Splits 1 (sum_of (multiple c y) z) c y 1 z
    both_splits j = let e : slice_index both j ≡ c * slice_index y j + slice_index z j = both_entry j in omega arith

    both_solves : IsStandardSolution s (sum_of (multiple c y) z)
    both_solves = solution_sum (columns Standard n) (matching_rows Standard s.rows) 1 c 1 both y z (omega arith) both_width both_splits (solves v y lv) (solves r z lr)

    whole : HasOneLiftWithLinks s (sum_of (multiple c y) z)
    whole = one_lift_with_links s k both both_solves

    -- the lift of the sum's quads is m times that of q
    quads_of_both : (j : ℕ) → slice_index (projected n (sum_of (multiple c y) z)) j ≡ m * slice_index q j
    quads_of_both j = elim (cases_lt j (3 * n)) [
      | inl l ↦ (let e : slice_index (projected n both) j ≡ c * slice_index (projected n y) j + slice_index (projected n z) j =
          quad_entry n both j l ∙ both_entry (quad_column Standard (j / 3) (j % 3)) ∙ (λ i. c * sym (quad_entry n y j l) i + sym (quad_entry n z j l) i) in
          let a : slice_index (projected n y) j ≡ slice_index v j = ap (λ (u : List ℕ). slice_index u j) (lift_quads s k v y wv lv) in
          let b : slice_index (projected n z) j ≡ slice_index r j = ap (λ (u : List ℕ). slice_index u j) (lift_quads s k r z wr lr) in
          let sp : m * slice_index q j ≡ c * slice_index v j + 1 * slice_index r j = splits j in
          let both_are : slice_index (projected n both) j ≡ c * slice_index v j + slice_index r j = e ∙ (λ i. c * a i + b i) in
          omega arith)
      | inr exceeded ↦ entry_past (projected n both) (3 * n) j (length-projected both n) exceeded ∙ (let z : slice_index q j ≡ 0 = entry_past q (3 * n) j wq exceeded in sym (ap (λ a. m * a) z ∙ (let nothing : m * 0 ≡ 0 = omega arith in nothing)))
    ]

    lift_is : whole.lift ≡ multiple m x
    lift_is = same_lift (projected n both) whole.lift (multiple m x) (whole.are).is_lift (multiple_lift s k m q (projected n both) x wq (length-projected both n) quads_of_both lq)

    adds : (j : ℕ) → slice_index (sum_of (multiple c y) z) j ≡ slice_index (multiple m x) j + sum_by (λ d. whole.times d * slice_index (link_of s Standard d) j) (below s.vertices.count)
    adds j = elim (cases_lt j (columns Standard n)) [
      | inl l ↦ (whole.are).adds j l ∙ ap (λ (u : List ℕ). slice_index u j + sum_by (λ d. whole.times d * slice_index (link_of s Standard d) j) (below s.vertices.count)) lift_is
      | inr exceeded ↦ (let a : slice_index both j ≡ 0 = entry_past both (columns Standard n) j both_width exceeded in
          let b : slice_index (multiple m x) j ≡ 0 = entry_past (multiple m x) (columns Standard n) j (length-multiple m x ∙ lq.width) exceeded in
          let none : sum_by (λ d. whole.times d * slice_index (link_of s Standard d) j) (below s.vertices.count) ≡ 0 =
          sum_by-none (λ d. whole.times d * slice_index (link_of s Standard d) j) (below s.vertices.count)
          (λ d i. ap (λ e. whole.times d * e) (entry_past (link_of s Standard d) (columns Standard n) j (length-link n s.vertices.classes d Standard) exceeded) ∙ (let nothing : whole.times d * 0 ≡ 0 = omega arith in nothing)) in
          omega arith)
    ]

    -- if the lift of q has positive Euler characteristic and that of v has not, the lift of r has
    number_is : (f : List ℕ → ℕ) → IsLinear f → f (sum_of (multiple c y) z) ≡ m * f x + sum_by (λ d. whole.times d * f (link_of s Standard d)) (below s.vertices.count)
    number_is f linear = number_with_links s f linear whole.times (below s.vertices.count) (multiple m x) both (length-multiple m x ∙ lq.width) adds
        ∙ ap (λ a. a + sum_by (λ d. whole.times d * f (link_of s Standard d)) (below s.vertices.count)) (times_is f linear m x)

    pub rest_positive : lower x < upper x → upper y ≤ lower y → lower z < upper z
    rest_positive positive most =
        let links_few : sum_by (λ d. whole.times d * lower (link_of s Standard d)) (below s.vertices.count) ≤ sum_by (λ d. whole.times d * upper (link_of s Standard d)) (below s.vertices.count) =
        sum_most whole.times (λ d. lower (link_of s Standard d)) (λ d. upper (link_of s Standard d)) (below s.vertices.count) (λ d a. links_most s k links spheres d (below-among d s.vertices.count a)) in
        let less : m * lower x + sum_by (λ d. whole.times d * lower (link_of s Standard d)) (below s.vertices.count) < m * upper x + sum_by (λ d. whole.times d * upper (link_of s Standard d)) (below s.vertices.count) =
        still_less m (upper x) (lower x) _ _ some positive links_few in
        let a : lower both ≡ m * lower x + sum_by (λ d. whole.times d * lower (link_of s Standard d)) (below s.vertices.count) = number_is lower lower_linear in
        let b : upper both ≡ m * upper x + sum_by (λ d. whole.times d * upper (link_of s Standard d)) (below s.vertices.count) = number_is upper upper_linear in
        let both_positive : lower both < upper both = omega arith in
        rest_less 1 c (upper both) (upper y) (upper z) (lower both) (lower y) (lower z) (omega arith) (upper_linear.splits 1 c 1 both y z both_splits) (lower_linear.splits 1 c 1 both y z both_splits) both_positive most

  -- a ray inside q whose lift has positive Euler characteristic
  pub record HasRayInside (q : List ℕ) : Type 0 where
    pub v : List ℕ
    pub ray : IsPrimitiveExtreme (columns Quad (length s.rows)) quad_rows v
    pub inside : IsInside v q
    pub lift : List ℕ
    pub is_lift : IsLiftOf s v lift
    pub positive : arcs s.rows Standard lift < points_and_pieces s Standard (columns Standard (length s.rows)) lift

  -- the lift of a vector without quads is twice itself, so it has no points and no pieces
  no_quads : (q x : List ℕ) → length q ≡ 3 * n → ((j : ℕ) → slice_index q j ≡ 0) → IsLiftOf s q x → upper x ≡ 0
  no_quads q x w z l =
      let twice : x ≡ multiple 2 x = same_lift q x (multiple 2 x) l (multiple_lift s k 2 q q x w w (λ j. let e : slice_index q j ≡ 0 = z j in omega arith) l) in
      linear_zero upper upper_linear x (λ j. let e : slice_index x j ≡ 2 * slice_index x j = ap (λ (u : List ℕ). slice_index u j) twice ∙ entry-multiple 2 x j in omega arith)

  ray_by : (fuel : ℕ) (q x : List ℕ) → support_size (columns Quad n) q < fuel → IsSolution (columns Quad n) quad_rows q → IsLiftOf s q x → lower x < upper x → HasRayInside q
  ray_by zero q x l solution is positive = absurd (omega arith)
  ray_by (suc fuel) q x l solution is positive = elim (zero_or_nonzero q) [
    | inl z ↦ absurd (let e : upper x ≡ 0 = no_quads q x solution.width z is in omega arith)
    | inr some ↦ (let v = ray_inside (columns Quad n) quad_rows q solution some in
        let ray : IsPrimitiveExtreme (columns Quad n) quad_rows v.0 = v.1 in
        let y = lift_of v.0 ray.extreme.solution in
        elim (cases_lt (lower y.0) (upper y.0)) [
          | inl here ↦ record { v = v.0; ray = ray; inside = v.2; lift = y.0; is_lift = y.1; positive = here }
          | inr most ↦ (let r : Rest (columns Quad n) q v.0 = rest_of (columns Quad n) q v.0 solution.width ray.extreme.solution.width v.2 ray.extreme.nonzero in
              let left : IsSolution (columns Quad n) quad_rows r.rest = Rest-solution (columns Quad n) quad_rows q v.0 r solution ray.extreme.solution in
              let z = lift_of r.rest left in
              let more : lower z.0 < upper z.0 = rest_positive r.m r.c q v.0 r.rest x y.0 z.0 r.some_m solution.width ray.extreme.solution.width r.width r.splits is y.1 z.1 positive most in
              let smaller : support_size (columns Quad n) r.rest < support_size (columns Quad n) q = size-smaller (columns Quad n) r.rest q solution.width r.smaller in
              let found : HasRayInside r.rest = ray_by fuel r.rest z.0 (omega arith) left z.1 more in
              record { v = found.v; ray = found.ray; inside = inside_trans found.v r.rest q found.inside r.smaller.inside; lift = found.lift; is_lift = found.is_lift; positive = found.positive })
        ])
  ]

  pub positive_ray : (q x : List ℕ) → IsSolution (columns Quad (length s.rows)) quad_rows q → IsLiftOf s q x
      → arcs s.rows Standard x < points_and_pieces s Standard (columns Standard (length s.rows)) x → HasRayInside q
  positive_ray q x solution is positive = ray_by (support_size (columns Quad n) q + 1) q x (omega arith) solution is positive
