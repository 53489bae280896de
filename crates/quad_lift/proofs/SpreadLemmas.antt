-- Heights are spread from vertex to vertex, from a new start in each class that has none.
use Rattle.std.proofs.Common.{◌≡◌, ℕ, ◌+◌, ◌-◌, ◌*◌, ◌/◌, ◌%◌, ◌<◌, ◌≤◌, ◌⊎◌, Bool, true, false, List, [], ◌∷◌, length, set, Option, Some, None, inl, inr, refl, sym, ap, ◌∙◌, subst, arith}
use Rattle.std.specs.Prelude.{sum, slice_index, option_and_then, Contains}
use Rattle.std.specs.List.{slice_index_or}
use Rattle.std.proofs.lemmas.Bool.{false≢true}
use Rattle.std.proofs.lemmas.List.{get_or-set_same, get_or-set_other, length-set}
use Rattle.table_walk_laws.specs.Search.{IsMarked, IsClosed}
use Rattle.table_walk_laws.proofs.SearchLemmas.{marked_cases, marked_below}
use Rattle.table_walk_laws.proofs.Rows.{present_contains}
use Rattle.table_definitions.specs.Permutation.{image}
use Rattle.table_definitions.specs.Table.{Row, IsTable}
use Rattle.table_definitions.specs.Places.{Place, across, along, vertex, SameVertex}
use Rattle.table_definitions.proofs.PermutationLaws.{image_below}
use Rattle.table_definitions.proofs.Faces.{face_at}
use Rattle.skeleton_definitions.specs.Links.{vertex_number}
use Rattle.skeleton_definitions.specs.Skeleton.{Skeleton, IsSkeleton}
use Rattle.skeleton_class_laws.specs.Crossings.{crossed_vertex, vertex_at}
use Rattle.skeleton_class_laws.specs.Neighbours.{row_at}
use Rattle.skeleton_class_laws.proofs.NeighbourLemmas.{entry_at}
use Rattle.surface_laws.specs.LiftLaws.{AreHeights}
use Rattle.surface_laws.proofs.Glued.{IsGlued, glued_is}
use Rattle.surface_laws.proofs.Vertices.{one_vertex, vertex_is, number-vertex, IsCrossed, crossed_is, across_is}
use Rattle.quad_lift.specs.Spreads.{vertices_around, quads_around, marked_quads, AreSpread, AreAllSpread}
use Rattle.quad_lift.specs.Crossings.{IsCrossing}
use Rattle.quad_lift.proofs.CrossingLemmas.{IsCrossedTo, crossed_to}
use Rattle.quad_lift.proofs.MarkedQuads.{mark_adds, few_quads}

-- closed marks of one vertex are marks of its class
module _ (rows : List Row) (table : IsTable rows) (marked : List Bool) (closed : IsClosed (vertices_around rows) marked) where
  record IsMarkedAt (q : Place) : Type 0 where
    v : ℕ
    is : q.vertices ≡ v ∷ []
    marked_there : IsMarked marked (vertex_number q.tet v)

  marked_along : (fs : List ℕ) (t v : ℕ) (q : Place) → v < 4 → IsMarked marked (vertex_number t v) → along rows (one_vertex t v) fs ≡ Some q → IsMarkedAt q
  unfolding vertices_around crossed_vertex
  marked_along [] t v q l m e =
      let same : one_vertex t v ≡ q = cc in
      subst IsMarkedAt same (record { v = v; is = refl; marked_there = m })
  marked_along (f ∷ fs) t v q l m e = go (across rows (one_vertex t v) f) refl e (λ u w lw n d. marked_along fs u w q lw n d)
    where
      go : (o : Option Place) → across rows (one_vertex t v) f ≡ o → option_and_then (λ (r : Place). along rows r fs) o ≡ Some q
          → ((u w : ℕ) → w < 4 → IsMarked marked (vertex_number u w) → along rows (one_vertex u w) fs ≡ Some q → IsMarkedAt q) → IsMarkedAt q
      go None a d rest = absurd cc
      go (Some r) a d rest =
          let x : IsCrossed rows t v f r = crossed_is rows t v f r a in
          let i : IsGlued rows (face_at t f) x.g = glued_is rows (face_at t f) x.g table x.glued in
          let w : ℕ = image x.g.perm v in
          let lw : w < 4 = image_below x.g.perm v i.permutes l in
          let at : across rows (vertex (vertex_number t v)) f ≡ Some (one_vertex x.g.tet w) = ap (λ p. across rows p f) (vertex_is t v l) ∙ across_is rows (face_at t f) x.g v x.glued x.off in
          let met : crossed_vertex rows (vertex_number t v) f ≡ Some (vertex_number x.g.tet w) = ap (λ (o : Option Place). elim o as (λ p. Option ℕ) [ None ↦ None | Some p ↦ Some (vertex_at p) ]) at in
          let there : Contains (vertices_around rows (vertex_number t v)) (vertex_number x.g.tet w) =
          present_contains (row_at (crossed_vertex rows) (vertex_number t v)) f (vertex_number x.g.tet w) (entry_at (crossed_vertex rows) (vertex_number t v) f i.face ∙ met) in
          rest x.g.tet w lw (closed (vertex_number t v) (vertex_number x.g.tet w) m there) (ap (λ (p : Place). along rows p fs) x.is ∙ d)

  pub marked_joined : (i j : ℕ) → SameVertex rows i j → IsMarked marked i → IsMarked marked j
  marked_joined i j joined m =
      let low : i % 4 < 4 = omega arith in
      let r : IsMarkedAt (vertex j) = marked_along joined.0 (i / 4) (i % 4) (vertex j) low (subst (IsMarked marked) (sym (number-vertex i)) m) joined.1 in
      let v : r.v ≡ j % 4 = sym (ap (λ (vs : List ℕ). slice_index vs 0) r.is) in
      subst (IsMarked marked) (ap (vertex_number (j / 4)) v ∙ number-vertex j) r.marked_there

-- one more vertex has a height
module _ (s : Skeleton) (k : IsSkeleton s) (xs : List ℕ) (w : length xs ≡ 3 * length s.rows) (marked : List Bool) (heights : List ℕ) (a : AreSpread s xs marked heights)
    (j : ℕ) (lj : j < 4 * length s.rows) (free : slice_index_or marked j false ≡ false) (height : ℕ) where
  abbrev n : ℕ
  n = 4 * length s.rows

  abbrev class_of : ℕ → ℕ
  class_of i = slice_index s.vertices.classes i

  abbrev more : List Bool
  more = set marked j true

  abbrev taller : List ℕ
  taller = set heights j height

  here : slice_index taller j ≡ height
  here = get_or-set_same heights j height 0 (omega (arith, a.one_height))

  elsewhere : (i : ℕ) → IsMarked marked i → slice_index taller i ≡ slice_index heights i
  elsewhere i m = get_or-set_other heights j i height 0 (λ e. false≢true (sym free ∙ ap (λ u. slice_index_or marked u false) (sym e) ∙ m))

  added : marked_quads xs more n ≡ marked_quads xs marked n + quads_around xs j
  added = mark_adds xs marked j (omega (arith, a.one_mark)) free n lj

  pub room : marked_quads xs marked n + quads_around xs j ≤ 4 * sum xs
  room = omega (arith, few_quads xs more (length s.rows) w, added)

  spread_with : ((i : ℕ) (h : ℕ → ℕ) → IsMarked marked i → class_of i ≡ class_of j → AreHeights s xs (class_of j) h → slice_index heights i + h j ≡ height + h i)
      → 4 * sum xs ≤ height + marked_quads xs more n → height + quads_around xs j ≤ 4 * sum xs + marked_quads xs more n → AreSpread s xs more taller
  spread_with forced low high = record {
    one_mark = length-set marked j true ∙ a.one_mark;
    one_height = length-set heights j height ∙ a.one_height;
    forced = λ i i' h m m' e b. go i i' h (marked_cases marked j i m) (marked_cases marked j i' m') e b;
    low = λ i m. elim (marked_cases marked j i m) [
      | inl e ↦ (let is : slice_index taller i ≡ height = ap (slice_index taller) e ∙ here in omega arith)
      | inr old ↦ omega (arith, elsewhere i old, a.low i old, added)
    ];
    high = λ i m. elim (marked_cases marked j i m) [
      | inl e ↦ (let is : slice_index taller i ≡ height = ap (slice_index taller) e ∙ here in let same : quads_around xs i ≡ quads_around xs j = ap (quads_around xs) e in omega arith)
      | inr old ↦ omega (arith, elsewhere i old, a.high i old, added)
    ];
  }
    where
      go : (i i' : ℕ) (h : ℕ → ℕ) → (i ≡ j) ⊎ IsMarked marked i → (i' ≡ j) ⊎ IsMarked marked i' → class_of i ≡ class_of i' → AreHeights s xs (class_of i) h
          → slice_index taller i + h i' ≡ slice_index taller i' + h i
      go i i' h (inl e) (inl e') c b = (λ t. slice_index taller (e t) + h (e' t)) ∙ (λ t. slice_index taller (sym e' t) + h (sym e t))
      go i i' h (inl e) (inr old) c b =
          let cj : class_of i' ≡ class_of j = sym c ∙ ap class_of e in
          let f : slice_index heights i' + h j ≡ height + h i' = forced i' h old cj (subst (λ d. AreHeights s xs d h) (ap class_of e) b) in
          let is : slice_index taller i ≡ height = ap (slice_index taller) e ∙ here in
          let hs : h i ≡ h j = ap h e in
          omega (arith, elsewhere i' old)
      go i i' h (inr old) (inl e) c b =
          let cj : class_of i ≡ class_of j = c ∙ ap class_of e in
          let f : slice_index heights i + h j ≡ height + h i = forced i h old cj (subst (λ d. AreHeights s xs d h) cj b) in
          let is : slice_index taller i' ≡ height = ap (slice_index taller) e ∙ here in
          let hs : h i' ≡ h j = ap h e in
          omega (arith, elsewhere i old)
      go i i' h (inr old) (inr old') c b = ap (λ u. u + h i') (elsewhere i old) ∙ a.forced i i' h old old' c b ∙ ap (λ u. u + h i) (sym (elsewhere i' old'))

-- across a face the height is known
module _ (s : Skeleton) (k : IsSkeleton s) (xs : List ℕ) (w : length xs ≡ 3 * length s.rows) (marked : List Bool) (heights : List ℕ) (a : AreSpread s xs marked heights)
    (i f j up down : ℕ) (m : IsMarked marked i) (x : IsCrossedTo s xs i f j up down) where
  pub fits_up : slice_index heights i + up ≤ 4 * sum xs + 4 * sum xs
  fits_up = omega (arith, a.high i m, x.up_few, few_quads xs marked (length s.rows) w)

  pub fits_down : slice_index_or marked j false ≡ false → down ≤ slice_index heights i + up
  fits_down free = omega (arith, a.low i m, x.down_few, room s k xs w marked heights a j x.in_range free 0)

  pub spread_on : slice_index_or marked j false ≡ false → AreSpread s xs (set marked j true) (set heights j ((slice_index heights i + up) - down))
  spread_on free =
      let height : ℕ = (slice_index heights i + up) - down in
      let fits : down ≤ slice_index heights i + up = fits_down free in
      let add : marked_quads xs (set marked j true) (4 * length s.rows) ≡ marked_quads xs marked (4 * length s.rows) + quads_around xs j = added s k xs w marked heights a j x.in_range free height in
      spread_with s k xs w marked heights a j x.in_range free height
      (λ i' h m' c b.
      let ci : slice_index s.vertices.classes i ≡ slice_index s.vertices.classes j = x.class in
      let bi : AreHeights s xs (slice_index s.vertices.classes i) h = subst (λ d. AreHeights s xs d h) (sym ci) b in
      let rises : h i + up ≡ h j + down = x.forced h bi in
      let both : slice_index heights i' + h i ≡ slice_index heights i + h i' = a.forced i' i h m' m (c ∙ sym ci) (subst (λ d. AreHeights s xs d h) (ci ∙ sym c) bi) in
      omega arith)
      (omega (arith, a.low i m, x.down_few, add))
      (omega (arith, a.high i m, x.up_few, add))

-- a new start in a class that has no marked vertex
pub spread_root : (s : Skeleton) (k : IsSkeleton s) (xs : List ℕ) (w : length xs ≡ 3 * length s.rows) (marked : List Bool) (heights : List ℕ) → AreSpread s xs marked heights
    → IsClosed (vertices_around s.rows) marked → (r : ℕ) → r < 4 * length s.rows → slice_index_or marked r false ≡ false → (start : ℕ) → start ≡ 4 * sum xs → AreSpread s xs (set marked r true) (set heights r start)
spread_root s k xs w marked heights a closed r lr free start e =
    let add : marked_quads xs (set marked r true) (4 * length s.rows) ≡ marked_quads xs marked (4 * length s.rows) + quads_around xs r = added s k xs w marked heights a r lr free start in
    spread_with s k xs w marked heights a r lr free start
    (λ i h m c b.
    let li : i < 4 * length s.rows = omega (arith, marked_below marked i m, a.one_mark) in
    let joined : SameVertex s.rows i r = ((k.vertices).together i r li lr).0 c in
    absurd (false≢true (sym free ∙ marked_joined s.rows k.table marked closed i r joined m)))
    (omega arith) (omega (arith, add))

-- before the first no vertex is marked
pub none_spread : (s : Skeleton) (xs : List ℕ) (marked : List Bool) (heights : List ℕ) → length marked ≡ 4 * length s.rows → length heights ≡ 4 * length s.rows
    → ((i : ℕ) → slice_index_or marked i false ≡ false) → AreSpread s xs marked heights
none_spread s xs marked heights lm lh none = record {
  one_mark = lm;
  one_height = lh;
  forced = λ i j h m. absurd (false≢true (sym (none i) ∙ m));
  low = λ i m. absurd (false≢true (sym (none i) ∙ m));
  high = λ i m. absurd (false≢true (sym (none i) ∙ m));
}

-- what is known of a crossing from a marked vertex
pub met : (s : Skeleton) (k : IsSkeleton s) (xs : List ℕ) (marked : List Bool) (heights : List ℕ) → AreSpread s xs marked heights → (i f other up down : ℕ) → IsMarked marked i
    → IsCrossing s xs i f other up down → IsCrossedTo s xs i f other up down
met s k xs marked heights a i f other up down m x = crossed_to s k xs i f other up down (omega (arith, marked_below marked i m, a.one_mark)) x

-- heights of all vertices, and a crossing
module _ (s : Skeleton) (k : IsSkeleton s) (xs heights : List ℕ) (a : AreAllSpread s xs heights) (i f other up down : ℕ) (l : i < 4 * length s.rows) (x : IsCrossing s xs i f other up down) where
  pub other_inside : other < 4 * length s.rows
  other_inside = (crossed_to s k xs i f other up down l x).in_range

  pub fits_here : slice_index heights i + up ≤ 8 * sum xs
  fits_here = omega (arith, a.high i l, (crossed_to s k xs i f other up down l x).up_few)

  pub fits_there : slice_index heights other + down ≤ 8 * sum xs
  fits_there = omega (arith, a.high other other_inside, (crossed_to s k xs i f other up down l x).down_few)

-- if all vertices are marked, heights are spread to all
pub all_spread : (s : Skeleton) (xs : List ℕ) → length xs ≡ 3 * length s.rows → (marked : List Bool) (heights : List ℕ) → AreSpread s xs marked heights
    → ((i : ℕ) → i < 4 * length s.rows → IsMarked marked i) → AreAllSpread s xs heights
all_spread s xs w marked heights a all = record {
  one_height = a.one_height;
  forced = λ i j h li lj. a.forced i j h (all i li) (all j lj);
  high = λ i l. omega (arith, a.high i (all i l), few_quads xs marked (length s.rows) w);
}
