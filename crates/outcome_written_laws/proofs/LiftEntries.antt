-- No entry of a lift exceeds four times the sum of the quads: across each side the triangle coordinate rises by at most
-- the quads of the tetrahedron that is entered.
use Rattle.std.proofs.Common.{◌≡◌, ℕ, ◌+◌, ◌-◌, ◌*◌, ◌/◌, ◌%◌, ◌<◌, ◌≤◌, List, [], ◌∷◌, length, Option, Some, None, inl, inr, refl, sym, ap, ◌∙◌, subst, arith}
use Rattle.std.specs.Prelude.{sum, sum_by, slice_index}
use Rattle.std.proofs.lemmas.Bool.{cases_lt}
use Rattle.std.proofs.lemmas.List.Sums.{sum_by-cons}
use Rattle.cone_definitions.proofs.Entries.{entry_past}
use Rattle.table_definitions.specs.Lists.{below}
use Rattle.table_definitions.specs.Permutation.{image}
use Rattle.table_definitions.specs.Table.{Gluing, glue}
use Rattle.table_definitions.proofs.TableLaws.{Among, Among-below}
use Rattle.table_definitions.proofs.PermutationLaws.{image_below, images_apart}
use Rattle.skeleton_definitions.specs.Corners.{Corner, left_through}
use Rattle.skeleton_definitions.specs.Links.{vertex_number}
use Rattle.skeleton_definitions.specs.Skeleton.{Skeleton, IsSkeleton}
use Rattle.surface_definitions.specs.Coordinates.{columns, tri_column, quad_column, keeping}
use Rattle.surface_definitions.specs.declared.Coords.TheVariants.{Standard, Quad}
use Rattle.surface_definitions.specs.Equations.{matching, Holds}
use Rattle.surface_definitions.specs.Lift.{IsLiftAt}
use Rattle.surface_laws.specs.LiftLaws.{IsLiftOf, triangle_at}
use Rattle.surface_laws.proofs.Glued.{IsGlued, glued_is}
use Rattle.surface_laws.proofs.Heights.{triangles_at}
use Rattle.surface_laws.proofs.Lifts.{lift_matched}
use Rattle.surface_laws.proofs.Quads.{projected_at}
use Rattle.surface_laws.proofs.Turns.{keeping_below}
use Rattle.surface_quad_lift_laws.proofs.DualTree.{beyond, triangles_seen, IsHung, hung}
use Rattle.skeleton_class_laws.proofs.Rounds.{where_led}
use Rattle.surface_quad_lift_laws.proofs.Flags.{IsVertexClass, IsFlag, triangle_of, mate_behind}
use Rattle.surface_quad_lift_laws.proofs.Growing.{only_one, seen_apart, seen_within}
use Rattle.surface_quad_lift_laws.proofs.SideLists.{member_listed}
use Rattle.outcome_written_laws.specs.Lifts.{LiftsAreWithin}
use Rattle.surface_laws.proofs.ThreeSums.{three_of}
use Rattle.outcome_written_laws.proofs.Besides.{beside, one_of_three, apart_sum, all_beside}

-- the difference of two triangle coordinates is at most the quads on the other side
risen : (y y' q q' h h' b : ℕ) → 0 + y + q ≡ 0 + y' + q' → h ≡ y → h' ≡ y' → q' ≤ b → h ≤ h' + b
risen y y' q q' h h' b e f g l = omega arith

module _ (s : Skeleton) (c : ℕ) (z : IsVertexClass s c) (xs ys : List ℕ) (l : IsLiftAt s.rows s.vertices.classes xs c ys) where
  quad_is : (t k : ℕ) → t < length s.rows → k < 3 → slice_index ys (quad_column Standard t k) ≡ slice_index xs (3 * t + k)
  quad_is t k lt lk = sym (projected_at ys (length s.rows) t k lt lk) ∙ ap (λ (w : List ℕ). slice_index w (3 * t + k)) l.quads_are

  over_side : (k : Corner) → IsFlag s c z k → (o : Option Gluing) → glue s.rows (left_through k) ≡ o
      → triangle_at ys (triangle_of k) ≤ triangle_at ys (triangle_of (where_led mate_behind k o)) + beside xs (triangle_of (where_led mate_behind k o))
  over_side k flag None e = omega arith
  over_side k flag (Some g) e =
      let f = flag.four in
      let i : IsGlued s.rows (left_through k) g = glued_is s.rows (left_through k) g (z.skeleton).table e in
      let w : ℕ = image g.perm k.a in
      let lw : w < 4 = image_below g.perm k.a i.permutes f.a in
      let lk : keeping w (image g.perm k.c) < 3 = keeping_below w (image g.perm k.c) lw i.other_face (images_apart g.perm k.a k.c i.permutes f.a f.c f.ac) in
      let holds : Holds (matching Standard (left_through k) g k.a) ys =
      lift_matched s.rows (z.skeleton).table s.vertices.classes s.vertices.count (z.skeleton).vertices xs c ys l (left_through k) g k.a e f.a f.ac flag.chosen in
      let tet : vertex_number g.tet w / 4 ≡ g.tet = omega arith in
      let low : slice_index ys (quad_column Standard g.tet (keeping w (image g.perm k.c))) ≤ beside xs (vertex_number g.tet w) =
      subst (λ q. q ≤ beside xs (vertex_number g.tet w)) (sym (quad_is g.tet (keeping w (image g.perm k.c)) i.other_tet lk))
      (subst (λ t. slice_index xs (3 * g.tet + keeping w (image g.perm k.c)) ≤ three_of xs t) (sym tet) (one_of_three xs g.tet (keeping w (image g.perm k.c)) lk)) in
      risen (slice_index ys (tri_column Standard k.tet k.a)) (slice_index ys (tri_column Standard g.tet w))
      (slice_index ys (quad_column Standard k.tet (keeping k.a k.c))) (slice_index ys (quad_column Standard g.tet (keeping w (image g.perm k.c))))
      (triangle_at ys (triangle_of k)) (triangle_at ys (vertex_number g.tet w)) (beside xs (vertex_number g.tet w)) holds (triangles_at ys k.tet k.a f.a) (triangles_at ys g.tet w lw) low

  module _ (root : ℕ) (start : triangle_at ys root ≡ 0) where
    -- the triangle coordinate of a visited vertex and the quads of its tetrahedron are together at most the quads of
    -- all visited vertices
    spread : (ds : List Corner) → IsHung s c z root ds → (i : ℕ) → Among i (triangles_seen s c z root ds) → triangle_at ys i + beside xs i ≤ sum_by (beside xs) (triangles_seen s c z root ds)
    spread [] g i a =
        let sums : sum_by (beside xs) (root ∷ []) ≡ beside xs root + sum_by (beside xs) [] = sum_by-cons (beside xs) root [] in
        subst (λ j. triangle_at ys j + beside xs j ≤ sum_by (beside xs) (root ∷ [])) (sym (only_one i root a)) (omega arith)
    spread (k ∷ ks) g i (inl e) =
        let older : triangle_at ys (beyond s k) + beside xs (beyond s k) ≤ sum_by (beside xs) (triangles_seen s c z root ks) = spread ks g.3 (beyond s k) g.2 in
        let rise : triangle_at ys (triangle_of k) ≤ triangle_at ys (beyond s k) + beside xs (beyond s k) = over_side k g.0 (glue s.rows (left_through k)) refl in
        let sums : sum_by (beside xs) (triangle_of k ∷ triangles_seen s c z root ks) ≡ beside xs (triangle_of k) + sum_by (beside xs) (triangles_seen s c z root ks) = sum_by-cons (beside xs) (triangle_of k) (triangles_seen s c z root ks) in
        subst (λ j. triangle_at ys j + beside xs j ≤ sum_by (beside xs) (triangles_seen s c z root (k ∷ ks))) (sym e) (omega arith)
    spread (k ∷ ks) g i (inr a) =
        let older : triangle_at ys i + beside xs i ≤ sum_by (beside xs) (triangles_seen s c z root ks) = spread ks g.3 i a in
        let sums : sum_by (beside xs) (triangle_of k ∷ triangles_seen s c z root ks) ≡ beside xs (triangle_of k) + sum_by (beside xs) (triangles_seen s c z root ks) = sum_by-cons (beside xs) (triangle_of k) (triangles_seen s c z root ks) in
        omega arith

    height_within : length xs ≡ 3 * length s.rows → root < 4 * length s.rows → slice_index s.vertices.classes root ≡ c → (i : ℕ) → i < 4 * length s.rows → slice_index s.vertices.classes i ≡ c → triangle_at ys i ≤ 4 * sum xs
    height_within width low at_class i li ci =
        let tree = hung s c z root low at_class in
        let here : triangle_at ys i + beside xs i ≤ sum_by (beside xs) (triangles_seen s c z root tree.0) = spread tree.0 tree.1 i (tree.2 i (member_listed s c z i li ci)) in
        let roots_in : (x : ℕ) → Among x (root ∷ []) → Among x (below (4 * length s.rows)) = λ x a. Among-below x (4 * length s.rows) (let e : x ≡ root = only_one x root a in omega arith) in
        let new_in : (k : Corner) → IsFlag s c z k → Among (triangle_of k) (below (4 * length s.rows)) = λ k h. Among-below (triangle_of k) (4 * length s.rows) (let t = (h.four).tet in let a = (h.four).a in omega arith) in
        let fewer : sum_by (beside xs) (triangles_seen s c z root tree.0) ≤ sum_by (beside xs) (below (4 * length s.rows)) =
        apart_sum (beside xs) (triangles_seen s c z root tree.0) (below (4 * length s.rows)) (seen_apart triangle_of (beyond s) (IsFlag s c z) (root ∷ []) ((λ a. a), tt) tree.0 tree.1)
        (seen_within triangle_of (beyond s) (IsFlag s c z) (root ∷ []) (below (4 * length s.rows)) new_in roots_in ((λ a. a), tt) tree.0 tree.1) in
        omega (arith, all_beside xs (length s.rows) width)

module _ (s : Skeleton) (xs ys : List ℕ) (k : IsSkeleton s) (width : length xs ≡ columns Quad (length s.rows)) (lift : IsLiftOf s xs ys) where
  -- the class of a vertex has a lift
  class_lift : (i : ℕ) → i < 4 * length s.rows → IsLiftAt s.rows s.vertices.classes xs (slice_index s.vertices.classes i) ys
  class_lift i l = lift.each (slice_index s.vertices.classes i) ((k.vertices).in_range i l)

  triangle_within : (i : ℕ) → i < 4 * length s.rows → triangle_at ys i ≤ 4 * sum xs
  triangle_within i l =
      let c : ℕ = slice_index s.vertices.classes i in
      let at : IsLiftAt s.rows s.vertices.classes xs c ys = class_lift i l in
      let root = at.least in
      let low : root.0 < 4 * length s.rows = (let r = root.1 in omega (arith, (k.vertices).one_each)) in
      height_within s c (record { skeleton = k; in_range = (k.vertices).in_range i l }) xs ys at root.0 root.3 width low root.2 i l refl

  quad_within : (t q : ℕ) → t < length s.rows → q < 3 → slice_index ys (quad_column Standard t q) ≤ 4 * sum xs
  quad_within t q lt lq =
      let i : ℕ = 4 * t in
      let li : 4 * t < 4 * length s.rows = omega arith in
      let e : slice_index ys (quad_column Standard t q) ≡ slice_index xs (3 * t + q) =
      quad_is s (slice_index s.vertices.classes (4 * t)) (record { skeleton = k; in_range = (k.vertices).in_range (4 * t) li }) xs ys (class_lift (4 * t) li) t q lt lq in
      let three : slice_index xs (3 * t + q) ≤ three_of xs t = one_of_three xs t q lq in
      let tet : 4 * t / 4 ≡ t = omega arith in
      let here : three_of xs t ≡ beside xs (4 * t) = ap (three_of xs) (sym tet) in
      let one : sum_by (beside xs) (4 * t ∷ []) ≤ sum_by (beside xs) (below (4 * length s.rows)) =
      apart_sum (beside xs) (4 * t ∷ []) (below (4 * length s.rows)) ((λ a. a), tt) (λ x a. Among-below x (4 * length s.rows) (let same : x ≡ 4 * t = only_one x (4 * t) a in omega arith)) in
      let none : sum_by (beside xs) [] ≡ 0 = refl in
      omega (arith, all_beside xs (length s.rows) width, sum_by-cons (beside xs) (4 * t) [])

  entry_within : (column : ℕ) → slice_index ys column ≤ 4 * sum xs
  entry_within column = elim (cases_lt column (7 * length s.rows)) [
    | inr exceeded ↦ (let none : slice_index ys column ≡ 0 = entry_past ys (7 * length s.rows) column lift.width exceeded in omega arith)
    | inl within ↦ elim (cases_lt (column % 7) 4) [
      | inl triangle ↦ (let at : tri_column Standard (column / 7) (column % 7) ≡ column = omega arith in
          subst (λ j. slice_index ys j ≤ 4 * sum xs) at (subst (λ n. n ≤ 4 * sum xs) (triangles_at ys (column / 7) (column % 7) triangle) (triangle_within (vertex_number (column / 7) (column % 7)) (omega arith))))
      | inr quad ↦ (let at : quad_column Standard (column / 7) (column % 7 - 4) ≡ column = omega arith in
          subst (λ j. slice_index ys j ≤ 4 * sum xs) at (quad_within (column / 7) (column % 7 - 4) (omega arith) (omega arith)))
    ]
  ]

pub lifts_within : LiftsAreWithin
lifts_within s xs ys k width lift = entry_within s xs ys k width lift
