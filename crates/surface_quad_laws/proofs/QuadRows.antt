-- Around an internal edge the quads of a standard solution have the same sum on both sides.
use Rattle.std.proofs.Common.{◌≡◌, ℕ, ◌+◌, ◌*◌, ◌<◌, false, not, List, [], ◌∷◌, length, map, inl, inr, refl, sym, ap, ◌∙◌, subst, arith}
use Rattle.std.specs.Prelude.{sum_by, slice_index}
use Rattle.std.specs.List.{AllByRecursion, AllZip}
use Rattle.std.proofs.lemmas.Bool.{not-true}
use Rattle.std.proofs.lemmas.List.Elements.{All-from_recursion}
use Rattle.cone_definitions.specs.Rows.{Row as EquationRow, IsZeroAt, IsSolution}
use Rattle.table_definitions.specs.Lists.{below}
use Rattle.table_definitions.specs.Permutation.{image}
use Rattle.table_definitions.specs.Table.{Row, IsTable}
use Rattle.table_definitions.specs.Classes.{IsNumbering, least}
use Rattle.table_definitions.specs.Places.{SameEdge, is_boundary_edge}
use Rattle.table_definitions.proofs.TableLaws.{Among}
use Rattle.table_definitions.proofs.Listed.{contains_among, among_contains, all_mapped, filter-among, below-among}
use Rattle.skeleton_definitions.specs.Corners.{Corner, first_corner, AreCorners, internal_edges, left_through}
use Rattle.surface_definitions.specs.Coordinates.{columns, tri_column, quad_column, keeping}
use Rattle.surface_definitions.specs.declared.Coords.TheVariants.{Standard, Quad}
use Rattle.surface_definitions.specs.Equations.{Holds, matching, matching_rows, row_of}
use Rattle.surface_definitions.specs.QuadEquations.{quad_equation, IsQuadRow, AreQuadEquations}
use Rattle.surface_definitions.specs.Lift.{projected}
use Rattle.surface_definitions.proofs.EquationLaws.{zero_row}
use Rattle.surface_laws.proofs.Turns.{keeping_below}
use Rattle.surface_laws.proofs.Quads.{projected_at, length-projected}
use Rattle.surface_laws.proofs.Solved.{solved}
use Rattle.surface_laws.proofs.Sums.{sum_by_plus}
use Rattle.surface_laws.proofs.Counting.{sum_by_same, sum_by-map}
use Rattle.table_definitions.proofs.DistinctLists.{apart_from}
use Rattle.surface_quad_laws.proofs.Rearranged.{moved_sum}
use Rattle.surface_laws.proofs.CornerSteps.{LeadsOn}
use Rattle.surface_quad_laws.proofs.Rounds.{HasFourVertices, next_is, next_once, reaches_next}
use Rattle.surface_quad_laws.proofs.InnerEdges.{IsRound, reached_round, leads_on}
use Rattle.skeleton_class_laws.proofs.Rounds.{next}

-- the matching equation at vertex a of two corners
sides : (t q t' q' : ℕ) → 0 + t + q ≡ 0 + t' + q' → t + q ≡ t' + q'
sides t q t' q' h = omega arith

-- the triangles cancel around the edge
telescoped : (t c d m : ℕ) → m ≡ t + c → m ≡ t + d → c ≡ d
telescoped t c d m e f = omega arith

module _ (rows : List Row) (ys : List ℕ) (table : IsTable rows) (solution : IsSolution (columns Standard (length rows)) (matching_rows Standard rows) ys) where
  abbrev n : ℕ
  n = length rows

  -- the triangles at the vertex a of a corner, and the quads that keep it with c and with d
  abbrev triangle : Corner → ℕ
  triangle k = slice_index ys (tri_column Standard k.tet k.a)

  abbrev quad_ac : Corner → ℕ
  quad_ac k = slice_index ys (quad_column Standard k.tet (keeping k.a k.c))

  abbrev quad_ad : Corner → ℕ
  quad_ad k = slice_index ys (quad_column Standard k.tet (keeping k.a k.d))

  at_step : (k : Corner) → HasFourVertices n k → LeadsOn rows k → triangle k + quad_ac k ≡ triangle (next rows k) + quad_ad (next rows k)
  at_step k four w =
      let h : Holds (matching Standard (left_through k) w.g k.a) ys = solved rows Standard ys table tt solution (left_through k) w.g k.a w.glued four.a four.ac in
      sides (triangle k) (quad_ac k) (slice_index ys (tri_column Standard w.g.tet (image w.g.perm k.a))) (slice_index ys (quad_column Standard w.g.tet (keeping (image w.g.perm k.a) (image w.g.perm k.c)))) h
      ∙ ap (λ (l : Corner). triangle l + quad_ad l) (sym (next_is rows k w))

  -- the corners of a class
  module _ (first : Corner) (corners : List Corner) (are : AreCorners rows first corners) (four : (k : Corner) → Among k corners → HasFourVertices n k) (on : (k : Corner) → Among k corners → LeadsOn rows k) where
    round_sum : sum_by quad_ac corners ≡ sum_by quad_ad corners
    round_sum =
        let moved : sum_by (λ k. triangle (next rows k) + quad_ad (next rows k)) corners ≡ sum_by (λ k. triangle k + quad_ad k) corners =
        moved_sum (λ k. triangle k + quad_ad k) (next rows) corners (apart_from first corners are.once)
        (λ k a. among_contains (next rows k) corners ((are.reached (next rows k)).1 (reaches_next rows first k ((are.reached k).0 (contains_among k corners a)) (on k a))))
        (λ k l a b e. next_once rows table k l (four k a) (on k a) (four l b) (on l b) e) in
        telescoped (sum_by triangle corners) (sum_by quad_ac corners) (sum_by quad_ad corners) (sum_by (λ k. triangle k + quad_ac k) corners)
        (sum_by_plus triangle quad_ac (λ k. triangle k + quad_ac k) (λ k. refl) corners)
        (sum_by_same (λ k. triangle k + quad_ac k) (λ k. triangle (next rows k) + quad_ad (next rows k)) corners (λ k a. at_step k (four k a) (on k a))
        ∙ moved ∙ sum_by_plus triangle quad_ad (λ k. triangle k + quad_ad k) (λ k. refl) corners)

    alone : (t j : ℕ) → t < n → j < 3 → slice_index (projected n ys) (quad_column Quad t j) ≡ slice_index ys (quad_column Standard t j)
    alone t j lt lj = let e : quad_column Quad t j ≡ 3 * t + j = omega arith in ap (slice_index (projected n ys)) e ∙ projected_at ys n t j lt lj

    quads_hold : Holds (quad_equation corners) (projected n ys)
    quads_hold =
        let left : sum_by (slice_index (projected n ys)) (map (λ (k : Corner). quad_column Quad k.tet (keeping k.a k.c)) corners) ≡ sum_by quad_ac corners =
        sum_by-map (slice_index (projected n ys)) (λ (k : Corner). quad_column Quad k.tet (keeping k.a k.c)) corners
        ∙ sum_by_same (λ (k : Corner). slice_index (projected n ys) (quad_column Quad k.tet (keeping k.a k.c))) quad_ac corners (λ k a. let f = four k a in alone k.tet (keeping k.a k.c) f.tet (keeping_below k.a k.c f.a f.c f.ac)) in
        let right : sum_by (slice_index (projected n ys)) (map (λ (k : Corner). quad_column Quad k.tet (keeping k.a k.d)) corners) ≡ sum_by quad_ad corners =
        sum_by-map (slice_index (projected n ys)) (λ (k : Corner). quad_column Quad k.tet (keeping k.a k.d)) corners
        ∙ sum_by_same (λ (k : Corner). slice_index (projected n ys) (quad_column Quad k.tet (keeping k.a k.d))) quad_ad corners (λ k a. let f = four k a in alone k.tet (keeping k.a k.d) f.tet (keeping_below k.a k.d f.a f.d f.ad)) in
        left ∙ round_sum ∙ sym right

    quad_row_zero : IsZeroAt (row_of (columns Quad n) (quad_equation corners)) (projected n ys)
    quad_row_zero = zero_row (quad_equation corners) (projected n ys) (columns Quad n)
        (all_mapped (λ c. c < columns Quad n) (λ (k : Corner). quad_column Quad k.tet (keeping k.a k.c)) corners (λ k a. let f = four k a in in_columns k.tet (keeping k.a k.c) f.tet (keeping_below k.a k.c f.a f.c f.ac)))
        (all_mapped (λ c. c < columns Quad n) (λ (k : Corner). quad_column Quad k.tet (keeping k.a k.d)) corners (λ k a. let f = four k a in in_columns k.tet (keeping k.a k.d) f.tet (keeping_below k.a k.d f.a f.d f.ad)))
        quads_hold
      where
        in_columns : (t j : ℕ) → t < n → j < 3 → quad_column Quad t j < columns Quad n
        in_columns t j lt lj = omega arith

  module _ (classes : List ℕ) (count : ℕ) (numbered : IsNumbering (6 * n) (SameEdge rows) classes count) where
    class_row_zero : (c : ℕ) (row : EquationRow) → c < count → is_boundary_edge rows classes c ≡ false → IsQuadRow rows classes c row → IsZeroAt row (projected n ys)
    class_row_zero c row lc inner h =
        let first : Corner = first_corner (least classes c) in
        let round : (k : Corner) → Among k h.0 → IsRound rows table classes count numbered c lc k =
        λ k a. reached_round rows table classes count numbered c lc k (((h.1).reached k).0 (contains_among k h.0 a)) in
        subst (λ (r : EquationRow). IsZeroAt r (projected n ys)) (sym h.2)
        (quad_row_zero first h.0 h.1 (λ k a. (round k a).four) (λ k a. leads_on rows table classes count numbered c lc inner k (round k a)))

    each_zero : (cs : List ℕ) (quad_rows : List EquationRow) → ((c : ℕ) → Among c cs → (c < count) × (is_boundary_edge rows classes c ≡ false)) → AllZip (IsQuadRow rows classes) cs quad_rows
        → AllByRecursion (λ (row : EquationRow). IsZeroAt row (projected n ys)) quad_rows
    each_zero [] [] inner h = tt
    each_zero [] (r ∷ rs) inner h = absurd h
    each_zero (c ∷ cs) [] inner h = absurd h
    each_zero (c ∷ cs) (r ∷ rs) inner h =
        let i = inner c (inl refl) in
        (class_row_zero c r i.0 i.1 h.0, each_zero cs rs (λ d a. inner d (inr a)) h.1)

  pub quads_solve : (quad_rows : List EquationRow) → AreQuadEquations rows quad_rows → IsSolution (columns Quad n) quad_rows (projected n ys)
  quads_solve quad_rows are = record {
    width = length-projected ys n;
    zero = All-from_recursion (λ (row : EquationRow). IsZeroAt row (projected n ys)) quad_rows
        (each_zero are.classes are.count are.numbered (internal_edges rows are.classes are.count) quad_rows
        (λ c a. let m = filter-among (λ c. not (is_boundary_edge rows are.classes c)) c (below are.count) a in (below-among c are.count m.0, not-true (is_boundary_edge rows are.classes c) m.1)) are.each);
  }
