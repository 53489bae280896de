-- A lift is a solution, and admissible if its quad vector is; the answer for a quad vector is unique.
use Rattle.std.proofs.Common.{◌≡◌, ℕ, ◌+◌, ◌*◌, ◌/◌, ◌%◌, ◌-◌, ◌<◌, ◌≤◌, true, List, length, ◌⊎◌, inl, inr, Result, Ok, Err, refl, sym, ap, ◌∙◌, arith, ext_get_or}
use Rattle.std.specs.Prelude.{◌==◌, ◌&&◌, nat_lt, slice_index}
use Rattle.std.specs.List.{AllByRecursion}
use Rattle.std.proofs.lemmas.Bool.{cases_order, cases_lt, ltb-true, lt-ltb, eqb-true, eq-eqb, leb-true, le-leb, and_parts, and_from, or_cases, or_right}
use Rattle.std.proofs.lemmas.List.Elements.{All-from_recursion, recursion_from_All}
use Rattle.cone_definitions.specs.Rows.{IsSolution}
use Rattle.cone_definitions.specs.Surfaces.{IsAdmissible}
use Rattle.table_definitions.specs.Lists.{below, pairs_of}
use Rattle.table_definitions.specs.Table.{Row, IsTable}
use Rattle.table_definitions.specs.Classes.{IsNumbering}
use Rattle.table_definitions.specs.Places.{SameVertex}
use Rattle.table_definitions.proofs.TableLaws.{Among, Among-below, Among-pairs}
use Rattle.skeleton_definitions.specs.Links.{vertex_number}
use Rattle.skeleton_definitions.specs.Skeleton.{Skeleton, IsSkeleton}
use Rattle.surface_definitions.specs.Coordinates.{columns, quad_column, clash_list, clash_test, is_quad_or_octagon, is_octagon}
use Rattle.surface_definitions.specs.declared.Coords.TheVariants.{Standard, Quad}
use Rattle.surface_definitions.specs.Equations.{matching_rows}
use Rattle.surface_definitions.specs.Lift.{projected, IsLift}
use Rattle.surface_vector_definitions.specs.Lifting.{IsLeastWithoutLift, IsLiftAnswer}
use Rattle.surface_vector_definitions.specs.declared.LiftFault.{LiftFault}
use Rattle.surface_vector_definitions.specs.declared.LiftFault.TheVariants.{Large, NoLift}
use Rattle.surface_laws.proofs.Glued.{IsGlued, glued_is}
use Rattle.surface_laws.proofs.Matched.{pair_glued}
use Rattle.surface_laws.proofs.Quads.{projected_at, length-projected}
use Rattle.surface_laws.proofs.Lifts.{one_lift}
use Rattle.surface_laws.proofs.Solved.{rows_zero, other_is}
use Rattle.table_definitions.proofs.Listed.{among_contains, Among-filter, filter-among, pairs-among, below-among, all_from, all_at}

module _ (rows : List Row) (table : IsTable rows) (classes : List ℕ) (count : ℕ) (numbered : IsNumbering (4 * length rows) (SameVertex rows) classes count) where
  pub lift_solves : (xs ys : List ℕ) → IsLift rows classes count xs ys → IsSolution (columns Standard (length rows)) (matching_rows Standard rows) ys
  lift_solves xs ys f = rows_zero rows Standard ys table tt
      (λ y v cy cv.
      let a : IsGlued rows y.0 y.1 = glued_is rows y.0 y.1 table (pair_glued rows y (among_contains y _ cy)) in
      let o : (v < 4) × (v ≡ (y.0).face → ⊥) = other_is (y.0).face v (among_contains v _ cv) in
      let l : vertex_number (y.0).tet v < 4 * length rows = let b = a.tet in let d = o.0 in omega arith in
      (f.each (slice_index classes (vertex_number (y.0).tet v)) (numbered.in_range (vertex_number (y.0).tet v) l)).holds y v cy cv refl)
      f.width

  -- the lift of a vector of quads projects to it, also if there is no tetrahedron
  pub lift_projects : (xs ys : List ℕ) → length xs ≡ columns Quad (length rows) → IsLift rows classes count xs ys → projected (length rows) ys ≡ xs
  lift_projects xs ys w f = elim (cases_lt 0 (length rows)) [
    | inl some ↦ (let l : 0 < 4 * length rows = omega arith in (f.each (slice_index classes 0) (numbered.in_range 0 l)).quads_are)
    | inr none ↦ ext_get_or 0 (projected (length rows) ys) xs (length-projected ys (length rows) ∙ sym w) (λ i l. absurd (let e : length (projected (length rows) ys) ≡ 3 * length rows = length-projected ys (length rows) in omega arith))
  ]

-- what the pairs of the list are
record IsQuadPair (n a b : ℕ) : Type 0 where
  less : a < b
  in_range : b < 7 * n
  one_tet : a / 7 ≡ b / 7
  first : 4 ≤ a % 7
  second : 4 ≤ b % 7

quad_pair : (n a b : ℕ) → Among {A = ℕ × ℕ} (a, b) (clash_list Standard n) → IsQuadPair n a b
unfolding clash_list
quad_pair n a b h =
    let m : Among {A = ℕ × ℕ} (a, b) (pairs_of (below (7 * n)) (below (7 * n))) × ((nat_lt a b && clash_test Standard a b) ≡ true) =
    filter-among (λ (p : ℕ × ℕ). nat_lt p.0 p.1 && clash_test Standard p.0 p.1) (a, b) (pairs_of (below (7 * n)) (below (7 * n))) h in
    let ab : Among a (below (7 * n)) × Among b (below (7 * n)) = pairs-among {A = ℕ} {B = ℕ} (a, b) (below (7 * n)) (below (7 * n)) m.0 in
    let t : (nat_lt a b ≡ true) × (clash_test Standard a b ≡ true) = and_parts (nat_lt a b) (clash_test Standard a b) m.1 in
    by_kind (ltb-true a b t.0) (below-among b (7 * n) ab.1) (or_cases (is_octagon Standard a && is_octagon Standard b) (((a / 7 == b / 7) && is_quad_or_octagon Standard a) && is_quad_or_octagon Standard b) t.1)
  where
    by_kind : a < b → b < 7 * n → ((is_octagon Standard a && is_octagon Standard b) ≡ true) ⊎ ((((a / 7 == b / 7) && is_quad_or_octagon Standard a) && is_quad_or_octagon Standard b) ≡ true) → IsQuadPair n a b
    by_kind l lb (inl o) = absurd (let seven : 7 ≤ a % 7 = leb-true 7 (a % 7) (and_parts (is_octagon Standard a) (is_octagon Standard b) o).0 in omega arith)
    by_kind l lb (inr q) =
        let two : (((a / 7 == b / 7) && is_quad_or_octagon Standard a) ≡ true) × (is_quad_or_octagon Standard b ≡ true) = and_parts ((a / 7 == b / 7) && is_quad_or_octagon Standard a) (is_quad_or_octagon Standard b) q in
        let one : ((a / 7 == b / 7) ≡ true) × (is_quad_or_octagon Standard a ≡ true) = and_parts (a / 7 == b / 7) (is_quad_or_octagon Standard a) two.0 in
        record { less = l; in_range = lb; one_tet = eqb-true (a / 7) (b / 7) one.0; first = leb-true 4 (a % 7) one.1; second = leb-true 4 (b % 7) two.1 }

-- the column of a quad among the quads alone
abbrev quad_alone : ℕ → ℕ
quad_alone a = 3 * (a / 7) + (a % 7 - 4)

pair_alone : (n a b : ℕ) → IsQuadPair n a b → Among {A = ℕ × ℕ} (quad_alone a, quad_alone b) (clash_list Quad n)
unfolding clash_list
pair_alone n a b h =
    let l : a < b = h.less in
    let lb : b < 7 * n = h.in_range in
    let t : a / 7 ≡ b / 7 = h.one_tet in
    let fa : 4 ≤ a % 7 = h.first in
    let fb : 4 ≤ b % 7 = h.second in
    let less : quad_alone a < quad_alone b = omega arith in
    let in_a : quad_alone a < 3 * n = omega arith in
    let in_b : quad_alone b < 3 * n = omega arith in
    let tets : quad_alone a / 3 ≡ quad_alone b / 3 = omega arith in
    Among-filter (λ (p : ℕ × ℕ). nat_lt p.0 p.1 && clash_test Quad p.0 p.1) (quad_alone a, quad_alone b) (pairs_of (below (3 * n)) (below (3 * n)))
    (Among-pairs (quad_alone a) (quad_alone b) (below (3 * n)) (below (3 * n)) (Among-below (quad_alone a) (3 * n) in_a) (Among-below (quad_alone b) (3 * n) in_b))
    (and_from (nat_lt (quad_alone a) (quad_alone b)) (clash_test Quad (quad_alone a) (quad_alone b)) (lt-ltb (quad_alone a) (quad_alone b) less)
    (or_right (is_octagon Quad (quad_alone a) && is_octagon Quad (quad_alone b)) (((quad_alone a / 3 == quad_alone b / 3) && is_quad_or_octagon Quad (quad_alone a)) && is_quad_or_octagon Quad (quad_alone b))
    (and_from ((quad_alone a / 3 == quad_alone b / 3) && is_quad_or_octagon Quad (quad_alone a)) (is_quad_or_octagon Quad (quad_alone b))
    (and_from (quad_alone a / 3 == quad_alone b / 3) (is_quad_or_octagon Quad (quad_alone a)) (eq-eqb (quad_alone a / 3) (quad_alone b / 3) tets) (le-leb 0 (quad_alone a % 3) (omega arith)))
    (le-leb 0 (quad_alone b % 3) (omega arith)))))

-- a standard vector is admissible if its quads are
pub quads_admissible : (n : ℕ) (xs ys : List ℕ) → projected n ys ≡ xs → IsAdmissible (clash_list Quad n) xs → IsAdmissible (clash_list Standard n) ys
quads_admissible n xs ys e h =
    All-from_recursion (λ (p : ℕ × ℕ). (slice_index ys p.0 ≡ 0) ⊎ (slice_index ys p.1 ≡ 0)) (clash_list Standard n)
    (all_from (λ (p : ℕ × ℕ). (slice_index ys p.0 ≡ 0) ⊎ (slice_index ys p.1 ≡ 0)) (clash_list Standard n) (λ p m. at_pair p.0 p.1 (quad_pair n p.0 p.1 m)))
  where
    alone : AllByRecursion (λ (p : ℕ × ℕ). (slice_index xs p.0 ≡ 0) ⊎ (slice_index xs p.1 ≡ 0)) (clash_list Quad n)
    alone = recursion_from_All (λ (p : ℕ × ℕ). (slice_index xs p.0 ≡ 0) ⊎ (slice_index xs p.1 ≡ 0)) (clash_list Quad n) h

    same_entry : (a : ℕ) → a < 7 * n → 4 ≤ a % 7 → slice_index xs (quad_alone a) ≡ slice_index ys a
    same_entry a la fa =
        let lt : a / 7 < n = omega arith in
        let lk : a % 7 - 4 < 3 = omega arith in
        let at : quad_column Standard (a / 7) (a % 7 - 4) ≡ a = omega arith in
        ap (λ w. slice_index w (quad_alone a)) (sym e) ∙ projected_at ys n (a / 7) (a % 7 - 4) lt lk ∙ ap (slice_index ys) at

    at_pair : (a b : ℕ) → IsQuadPair n a b → (slice_index ys a ≡ 0) ⊎ (slice_index ys b ≡ 0)
    at_pair a b p =
        let l : a < b = p.less in
        let lb : b < 7 * n = p.in_range in
        elim (all_at (λ (q : ℕ × ℕ). (slice_index xs q.0 ≡ 0) ⊎ (slice_index xs q.1 ≡ 0)) (clash_list Quad n) (quad_alone a, quad_alone b) alone (pair_alone n a b p)) [
          | inl z ↦ inl (sym (same_entry a (omega arith) p.first) ∙ z)
          | inr z ↦ inr (sym (same_entry b lb p.second) ∙ z)
        ]

-- the answer for a quad vector
least_class : (s : Skeleton) (xs : List ℕ) (c d : ℕ) → IsLeastWithoutLift s xs c → IsLeastWithoutLift s xs d → c ≡ d
least_class s xs c d f g = elim (cases_order c d) [
  | inl e ↦ e
  | inr (inl less) ↦ absurd (f.none (g.before c less))
  | inr (inr more) ↦ absurd (g.none (f.before d more))
]

lifted_nowhere : (s : Skeleton) (xs ys : List ℕ) (c : ℕ) → IsLift s.rows s.vertices.classes s.vertices.count xs ys → IsLeastWithoutLift s xs c → ⊥
lifted_nowhere s xs ys c f g = g.none (ys, f.each c g.in_range)

pub one_lift_answer : (max : ℕ) (s : Skeleton) (xs : List ℕ) (a b : Result (List ℕ) LiftFault) → IsSkeleton s → IsLiftAnswer max s xs a → IsLiftAnswer max s xs b → a ≡ b
one_lift_answer max s xs (Ok ys) (Ok zs) k f g = ap Ok (one_lift s.rows k.table s.vertices.classes s.vertices.count k.vertices xs ys zs f.1 g.1)
one_lift_answer max s xs (Ok ys) (Err Large) k f g = absurd (omega (arith, f.0, g))
one_lift_answer max s xs (Ok ys) (Err (NoLift c)) k f g = absurd (lifted_nowhere s xs ys c f.1 g.1)
one_lift_answer max s xs (Err Large) (Ok ys) k f g = absurd (omega (arith, f, g.0))
one_lift_answer max s xs (Err Large) (Err Large) k f g = refl
one_lift_answer max s xs (Err Large) (Err (NoLift c)) k f g = absurd (omega (arith, f, g.0))
one_lift_answer max s xs (Err (NoLift c)) (Ok ys) k f g = absurd (lifted_nowhere s xs ys c g.1 f.1)
one_lift_answer max s xs (Err (NoLift c)) (Err Large) k f g = absurd (omega (arith, f.0, g))
one_lift_answer max s xs (Err (NoLift c)) (Err (NoLift d)) k f g = ap (λ e. Err (NoLift e)) (least_class s xs c d f.1 g.1)
