-- The corners around an internal edge, as a cycle, and those around the edge from its other end.
use Rattle.std.proofs.Common.{◌≡◌, ◌≢◌, ℕ, ◌<◌, Bool, true, false, List, [], ◌∷◌, length, map, Some, ◌⊎◌, inl, inr, refl, sym, ap, ◌∙◌, subst, arith}
use Rattle.std.specs.Prelude.{◌==◌, ◌||◌, sum_by, slice_index}
use Rattle.std.specs.List.{list_all}
use Rattle.std.proofs.lemmas.Bool.{cases_eq, or_cases, or_parts, eqb-true, eqb-false, ne_eqb}
use Rattle.std.proofs.lemmas.List.{length-map}
use Rattle.table_definitions.specs.Lists.{below, has}
use Rattle.table_definitions.specs.Table.{Row, glue, IsTable}
use Rattle.table_definitions.specs.Places.{Place, across, carried, IsJoined}
use Rattle.table_definitions.proofs.ChainLaws.{Steps, steps_across, kept_along}
use Rattle.table_definitions.proofs.ListFacts.{list_all-below}
use Rattle.table_definitions.proofs.Listed.{contains_among, among_contains, map-among}
use Rattle.table_definitions.proofs.TableLaws.{Among, Among-map, glued_face}
use Rattle.skeleton_definitions.specs.Corners.{Corner, AreCorners, Reaches, left_through, came_through, corner_across}
use Rattle.surface_definitions.specs.Coordinates.{quad_column, keeping}
use Rattle.surface_definitions.specs.declared.Coords.TheVariants.{Quad}
use Rattle.surface_laws.proofs.Counting.{sum_by_same, sum_by-map}
use Rattle.table_definitions.proofs.DistinctLists.{AreApart, apart_from, map_apart}
use Rattle.surface_laws.proofs.CornerSteps.{LeadsOn}
use Rattle.skeleton_class_laws.proofs.Rounds.{before, next, where_led}
use Rattle.skeleton_class_laws.specs.Crossings.{pair}
use Rattle.surface_quad_laws.proofs.Rounds.{HasFourVertices, next_once, before_next, reaches_next}
use Rattle.surface_quad_lift_laws.proofs.DualTree.{quads}
use Rattle.surface_quad_lift_laws.proofs.Flags.{flip, opposite, mate, mate-before, next-opposite}
use Rattle.surface_quad_lift_laws.proofs.Growing.{apart_covers}
use Rattle.surface_quad_lift_laws.proofs.OneSides.{third_is}
use Rattle.surface_quad_lift_laws.proofs.OneWay.{flip_corner, one_way}

-- different corners, with each the corner across its gluing, and none with its two faces exchanged; around them the
-- quads on both sides have the same sum
pub record IsCycle (rows : List Row) (xs : List ℕ) (ks : List Corner) : Type 0 where
  pub separate : AreApart ks
  pub four : (k : Corner) → Among k ks → HasFourVertices (length rows) k
  pub on : (k : Corner) → Among k ks → LeadsOn rows k
  pub closed : (k : Corner) → Among k ks → Among (next rows k) ks
  pub forward : (k : Corner) → Among k ks → Among (flip k) ks → ⊥
  pub sums : sum_by (quads xs) ks ≡ sum_by (λ k. quads xs (flip k)) ks

-- from the other end of the edge the quads on both sides are exchanged
crossed_test : ℕ → ℕ → ℕ → ℕ → Bool
crossed_test a b c d = ((a == b) || ((a == c) || ((a == d) || ((b == c) || ((b == d) || (c == d)))))) || (keeping b c == keeping a d)

crossed_quads : (n : ℕ) (k : Corner) → HasFourVertices n k → keeping k.b k.c ≡ keeping k.a k.d
unfolding crossed_test
crossed_quads n k f = by_test (or_cases _ _ (list_all-below (crossed_test k.a k.b k.c) 4 (list_all-below (λ x. list_all (crossed_test k.a k.b x) (below 4)) 4 (list_all-below (λ w. list_all (λ x. list_all (crossed_test k.a w x) (below 4)) (below 4)) 4
    (list_all-below (λ v. list_all (λ w. list_all (λ x. list_all (crossed_test v w x) (below 4)) (below 4)) (below 4)) 4 refl k.a f.a) k.b f.b) k.c f.c) k.d f.d))
  where
    clash : ((k.a == k.b) || ((k.a == k.c) || ((k.a == k.d) || ((k.b == k.c) || ((k.b == k.d) || (k.c == k.d)))))) ≡ false
    clash = let p : (k.a == k.b) ≡ false = ne_eqb k.a k.b f.ab in let q : (k.a == k.c) ≡ false = ne_eqb k.a k.c f.ac in let r : (k.a == k.d) ≡ false = ne_eqb k.a k.d f.ad in
        let t : (k.b == k.c) ≡ false = ne_eqb k.b k.c f.bc in let u : (k.b == k.d) ≡ false = ne_eqb k.b k.d f.bd in let v : (k.c == k.d) ≡ false = ne_eqb k.c k.d f.cd in rw (p, q, r, t, u, v) refl

    by_test : (((k.a == k.b) || ((k.a == k.c) || ((k.a == k.d) || ((k.b == k.c) || ((k.b == k.d) || (k.c == k.d)))))) ≡ true) ⊎ ((keeping k.b k.c == keeping k.a k.d) ≡ true) → keeping k.b k.c ≡ keeping k.a k.d
    by_test (inl e) = absurd (let w : false ≡ true = sym clash ∙ e in cc)
    by_test (inr e) = eqb-true (keeping k.b k.c) (keeping k.a k.d) e

module _ (rows : List Row) (table : IsTable rows) (xs : List ℕ) where
  opposite_corner : (k : Corner) → HasFourVertices (length rows) k → HasFourVertices (length rows) (opposite k)
  opposite_corner k f = record { tet = f.tet; a = f.b; b = f.a; c = f.c; d = f.d; ab = λ e. f.ab (sym e); ac = f.bc; ad = f.bd; bc = f.ac; bd = f.ad; cd = f.cd }

  crossed_sum : (k : Corner) → HasFourVertices (length rows) k → quads xs (opposite k) ≡ quads xs (flip k)
  crossed_sum k f = ap (λ j. slice_index xs (quad_column Quad k.tet j)) (crossed_quads (length rows) k f)

  -- a cycle from the other end of its edge
  pub opposite_cycle : (ks : List Corner) → IsCycle rows xs ks → IsCycle rows xs (map opposite ks)
  opposite_cycle ks h = record {
    separate = map_apart opposite ks h.separate (λ k l a b e. ap opposite e);
    four = λ k a. let m = map-among opposite k ks a in subst (HasFourVertices (length rows)) (sym m.2) (opposite_corner m.0 (h.four m.0 m.1));
    on = λ k a. let m = map-among opposite k ks a in let w = h.on m.0 m.1 in subst (LeadsOn rows) (sym m.2) (record { g = w.g; glued = w.glued });
    closed = λ k a. let m = map-among opposite k ks a in
        subst (λ (l : Corner). Among l (map opposite ks)) (sym (next-opposite rows m.0) ∙ ap (next rows) (sym m.2)) (Among-map opposite (next rows m.0) ks (h.closed m.0 m.1));
    forward = λ k a b. let m = map-among opposite k ks a in let l = map-among opposite (flip k) ks b in
        h.forward m.0 m.1 (subst (λ (u : Corner). Among u ks) (ap opposite (sym l.2) ∙ ap (λ (u : Corner). opposite (flip u)) m.2) l.1);
    sums = sum_by-map (quads xs) opposite ks ∙ sum_by_same (λ k. quads xs (opposite k)) (λ k. quads xs (flip k)) ks (λ k a. crossed_sum k (h.four k a)) ∙ sym h.sums
        ∙ sum_by_same (quads xs) (λ k. quads xs (flip (opposite k))) ks (λ k a. sym (crossed_sum (flip k) (flip_corner rows table k (h.four k a)))) ∙ sym (sum_by-map (λ k. quads xs (flip k)) opposite ks);
  }

  module _ (first : Corner) (ks : List Corner) (are : AreCorners rows first ks) (four : (k : Corner) → Among k ks → HasFourVertices (length rows) k) (on : (k : Corner) → Among k ks → LeadsOn rows k)
      (sums : sum_by (quads xs) ks ≡ sum_by (λ k. quads xs (flip k)) ks) where
    reached : (k : Corner) → Among k ks → Reaches rows first k
    reached k a = (are.reached k).0 (contains_among k ks a)

    listed : (k : Corner) → Reaches rows first k → Among k ks
    listed k r = among_contains k ks ((are.reached k).1 r)

    closed_under : (k : Corner) → Among k ks → Among (next rows k) ks
    closed_under k a = listed (next rows k) (reaches_next rows first k (reached k a) (on k a))

    -- the corners of a quad equation are a cycle
    pub corners_cycle : IsCycle rows xs ks
    corners_cycle = record {
      separate = apart_from first ks are.once;
      four = four;
      on = on;
      closed = closed_under;
      forward = λ k a b. one_way rows table first k (four k a) (reached k a) (reached (flip k) b);
      sums = sums;
    }

    -- the corner before one of the cycle is one of the cycle
    pub before_listed : (k : Corner) → Among k ks → Among (before rows k) ks
    before_listed k a =
        let m = map-among (next rows) k ks (apart_covers (map (next rows) ks) ks (map_apart (next rows) ks (apart_from first ks are.once) (λ k l a b e. next_once rows table k l (four k a) (on k a) (four l b) (on l b) e))
        (λ x b. let w = map-among (next rows) x ks b in subst (λ (u : Corner). Among u ks) (sym w.2) (closed_under w.0 w.1)) (let size : length (map (next rows) ks) ≡ length ks = length-map ks (next rows) in omega arith) k a) in
        subst (λ (u : Corner). Among u ks) (sym (ap (before rows) m.2 ∙ before_next rows table m.0 (four m.0 m.1) (on m.0 m.1))) m.1

    -- an edge that is joined to the edge of the cycle is the edge of one of its corners
    IsThere : Place → Type 0
    IsThere q = (k : Corner) × Among k ks × (pair k.tet k.a k.b ≡ q)

    there_across : (p : Place) (f : ℕ) (q : Place) → IsThere p → across rows p f ≡ Some q → IsThere q
    unfolding IsThere
    there_across p f q h e =
        let k : Corner = h.0 in
        let w : Steps rows p f q = steps_across rows p f q e in
        let x : HasFourVertices (length rows) k = four k h.1 in
        let glued : glue rows (record { tet = k.tet; face = f }) ≡ Some w.gluing = ap (λ (r : Place). glue rows (record { tet = r.tet; face = f })) h.2 ∙ w.glued in
        let lf : f < 4 = glued_face rows (record { tet = k.tet; face = f }) w.gluing table.four_faces glued in
        let off : has (k.a ∷ k.b ∷ []) f ≡ false = ap (λ (r : Place). has r.vertices f) h.2 ∙ w.off in
        let parts = or_parts (k.a == f) ((k.b == f) || false) off in
        let af : k.a ≢ f = eqb-false k.a f parts.0 in
        let bf : k.b ≢ f = eqb-false k.b f (or_parts (k.b == f) false parts.1).0 in
        let lands : carried w.gluing (pair k.tet k.a k.b) ≡ q = ap (carried w.gluing) h.2 ∙ sym w.lands in
        elim (cases_eq f k.d) [
          | inl d ↦ (let back : glue rows (came_through k) ≡ Some w.gluing = ap (λ g. glue rows (record { tet = k.tet; face = g })) (sym d) ∙ glued in
              (before rows k, before_listed k h.1, ap (λ o. let l : Corner = where_led corner_across k o in pair l.tet l.a l.b) back ∙ lands))
          | inr far ↦ (let third : f ≡ k.c = third_is k.a k.b k.c k.d f x.a x.b x.c x.d lf x.ab x.ac x.ad x.bc x.bd x.cd af bf far in
              let ahead : glue rows (left_through k) ≡ Some w.gluing = ap (λ g. glue rows (record { tet = k.tet; face = g })) (sym third) ∙ glued in
              (next rows k, closed_under k h.1, ap (λ o. let l : Corner = where_led corner_across k o in pair l.tet l.a l.b) ahead ∙ lands))
        ]

    place_there : (q : Place) → IsJoined rows (pair first.tet first.a first.b) q → (k : Corner) × Among k ks × (pair k.tet k.a k.b ≡ q)
    unfolding IsThere
    place_there q j = kept_along rows IsThere there_across j.0 (pair first.tet first.a first.b) q (first, listed first (0, refl), refl) j.1

    -- if the edge of a corner is joined to theirs, the corner or its mate is one of them
    pub corner_there : (k : Corner) → HasFourVertices (length rows) k → LeadsOn rows k → IsJoined rows (pair first.tet first.a first.b) (pair k.tet k.a k.b) → Among k ks ⊎ Among (mate rows k) ks
    corner_there k y on_k j =
        let t = place_there (pair k.tet k.a k.b) j in
        let l : Corner = t.0 in
        let x : HasFourVertices (length rows) l = four l t.1 in
        let et : l.tet ≡ k.tet = ap (λ (p : Place). p.tet) t.2 in
        let ea : l.a ≡ k.a = ap (λ (p : Place). slice_index p.vertices 0) t.2 in
        let eb : l.b ≡ k.b = ap (λ (p : Place). slice_index p.vertices 1) t.2 in
        elim (cases_eq k.c l.c) [
          | inl ec ↦ (let ed : k.d ≡ l.d = third_is l.a l.b l.d l.c k.d x.a x.b x.d x.c y.d x.ab x.ad x.ac x.bd x.bc (λ q. x.cd (sym q)) (λ q. y.ad (sym ea ∙ q)) (λ q. y.bd (sym eb ∙ q)) (λ q. y.cd (ec ∙ sym q)) in
              let same : l ≡ k = λ i. record { tet = et i; a = ea i; b = eb i; c = sym ec i; d = sym ed i } in
              inl (subst (λ (u : Corner). Among u ks) same t.1))
          | inr off ↦ (let ec : k.c ≡ l.d = third_is l.a l.b l.d l.c k.c x.a x.b x.d x.c y.c x.ab x.ad x.ac x.bd x.bc (λ q. x.cd (sym q)) (λ q. y.ac (sym ea ∙ q)) (λ q. y.bc (sym eb ∙ q)) off in
              let ed : k.d ≡ l.c = third_is l.a l.b l.c l.d k.d x.a x.b x.c x.d y.d x.ab x.ac x.ad x.bc x.bd x.cd (λ q. y.ad (sym ea ∙ q)) (λ q. y.bd (sym eb ∙ q)) (λ q. y.cd (ec ∙ sym q)) in
              let same : flip l ≡ k = λ i. record { tet = et i; a = ea i; b = eb i; c = sym ec i; d = sym ed i } in
              let leads : LeadsOn rows (flip l) = subst (LeadsOn rows) (sym same) on_k in
              inr (subst (λ (u : Corner). Among u ks) (sym (mate-before rows l leads) ∙ ap (mate rows) same) (before_listed l t.1)))
        ]
