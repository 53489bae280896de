-- The corners around an internal edge, from whichever of its corners the walk starts and in whichever direction.
use Rattle.std.proofs.Common.{◌≡◌, ℕ, ◌≤◌, List, [], length, map, inl, inr, refl, sym, ap, ◌∙◌, subst, arith}
use Rattle.std.specs.Prelude.{sum_by}
use Rattle.std.proofs.lemmas.List.{length-map}
use Rattle.std.specs.List.Sorted.{IsPermutation}
use Rattle.std.proofs.lemmas.List.Sorted.{sum_by-IsPermutation}
use Rattle.table_definitions.proofs.PermutationLaws.{image-of_inverse}
use Rattle.table_definitions.specs.Table.{Row, inverse_gluing, IsTable}
use Rattle.table_definitions.proofs.ChainLaws.{joined_sym, joined_turned}
use Rattle.table_definitions.proofs.DistinctLists.{AreApart, apart_from, apart_short, map_apart}
use Rattle.table_definitions.proofs.Listed.{contains_among, among_contains, map-among}
use Rattle.table_definitions.proofs.TableLaws.{Among, Among-map}
use Rattle.skeleton_definitions.specs.Corners.{Corner, left_through, corner_across, Reaches, AreCorners}
use Rattle.skeleton_class_laws.proofs.Rounds.{next}
use Rattle.skeleton_class_laws.specs.Crossings.{pair}
use Rattle.surface_laws.proofs.Counting.{sum_by_same, sum_by-map}
use Rattle.surface_laws.proofs.CornerSteps.{LeadsOn, step_is}
use Rattle.surface_quad_laws.proofs.Rounds.{HasFourVertices, next_is, next_once, kept_by_steps}
use Rattle.surface_quad_lift_laws.proofs.Cycles.{IsCycle, opposite_cycle, corners_cycle, corner_there}
use Rattle.surface_quad_lift_laws.proofs.DualTree.{quads}
use Rattle.surface_quad_lift_laws.proofs.Flags.{flip, opposite, mate-next}
use Rattle.surface_quad_lift_laws.proofs.Growing.{apart_covers}
use Rattle.surface_quad_lift_laws.proofs.OneWay.{flip_corner}
use Rattle.surface_relabelling_laws.proofs.Edges.{Along}
use Rattle.surface_relabelling_laws.proofs.Members.{same_members}

module _ (rows : List Row) (table : IsTable rows) where
  -- each corner of a cycle is the next of one
  pub from_next : (xs : List ℕ) (ks : List Corner) → IsCycle rows xs ks → (k : Corner) → Among k ks → (m : Corner) × Among m ks × (k ≡ next rows m)
  from_next xs ks h k a = map-among (next rows) k ks (apart_covers (map (next rows) ks) ks
      (map_apart (next rows) ks h.separate (λ k l a b e. next_once rows table k l (h.four k a) (h.on k a) (h.four l b) (h.on l b) e))
      (λ x b. let w = map-among (next rows) x ks b in subst (λ (u : Corner). Among u ks) (sym w.2) (h.closed w.0 w.1))
      (let size : length (map (next rows) ks) ≡ length ks = length-map ks (next rows) in omega arith) k a)

  -- if the next corner is one of a cycle, the corner is
  came_back : (xs : List ℕ) (ks : List Corner) → IsCycle rows xs ks → (k : Corner) → HasFourVertices (length rows) k → LeadsOn rows k → Among (next rows k) ks → Among k ks
  came_back xs ks h k f w a =
      let m = from_next xs ks h (next rows k) a in
      subst (λ (u : Corner). Among u ks) (sym (next_once rows table k m.0 f w (h.four m.0 m.1) (h.on m.0 m.1) m.2)) m.1

  -- the face through which the walk came to the next corner leads back
  record ComesBack (m : Corner) : Type 0 where
    leads : LeadsOn rows (flip (next rows m))
    next_is_flip : next rows (flip (next rows m)) ≡ flip m

  comes_back : (m : Corner) → HasFourVertices (length rows) m → LeadsOn rows m → ComesBack m
  comes_back m f w =
      let e : next rows m ≡ corner_across m w.g = next_is rows m w in
      let back = table.leads_back (left_through m) w.g w.glued in
      let p = table.permutes (left_through m) w.g w.glued in
      let here : LeadsOn rows (flip (corner_across m w.g)) = record { g = inverse_gluing (left_through m) w.g; glued = back } in
      let flips : next rows (flip (corner_across m w.g)) ≡ flip m =
      next_is rows (flip (corner_across m w.g)) here
      ∙ (λ i. record {
        tet = m.tet;
        a = image-of_inverse w.g.perm m.a p f.a i;
        b = image-of_inverse w.g.perm m.b p f.b i;
        c = image-of_inverse w.g.perm m.d p f.d i;
        d = image-of_inverse w.g.perm m.c p f.c i;
      }) in record {
        leads = subst (λ (l : Corner). LeadsOn rows (flip l)) (sym e) here;
        next_is_flip = ap (λ (l : Corner). next rows (flip l)) e ∙ flips;
      }

  -- a cycle in the other direction
  flipped_cycle : (xs : List ℕ) (ks : List Corner) → IsCycle rows xs ks → IsCycle rows xs (map flip ks)
  flipped_cycle xs ks h = record {
    separate = map_apart flip ks h.separate (λ k l a b e. ap flip e);
    four = λ k a. let m = map-among flip k ks a in subst (HasFourVertices (length rows)) (sym m.2) (flip_corner rows table m.0 (h.four m.0 m.1));
    on = λ k a. let m = map-among flip k ks a in let b = from_next xs ks h m.0 m.1 in
        subst (LeadsOn rows) (sym (m.2 ∙ ap flip b.2)) (comes_back b.0 (h.four b.0 b.1) (h.on b.0 b.1)).leads;
    closed = λ k a. let m = map-among flip k ks a in let b = from_next xs ks h m.0 m.1 in
        subst (λ (u : Corner). Among u (map flip ks)) (sym (ap (next rows) (m.2 ∙ ap flip b.2) ∙ (comes_back b.0 (h.four b.0 b.1) (h.on b.0 b.1)).next_is_flip)) (Among-map flip b.0 ks b.1);
    forward = λ k a b. let m = map-among flip k ks a in let l = map-among flip (flip k) ks b in
        h.forward m.0 m.1 (subst (λ (u : Corner). Among u ks) (ap flip (sym l.2) ∙ m.2) l.1);
    sums = sum_by-map (quads xs) flip ks ∙ sym h.sums ∙ sym (sum_by-map (λ k. quads xs (flip k)) flip ks);
  }

  -- a cycle through a corner, of the corners around an edge or of those from another end or in another direction
  record Turned (ks : List Corner) (k : Corner) : Type 0 where
    list : List Corner
    there : Among k list
    size : length list ≡ length ks
    cycle : (xs : List ℕ) → IsCycle rows xs ks → IsCycle rows xs list

  no_sums : (ks : List Corner) → sum_by (quads []) ks ≡ sum_by (λ k. quads [] (flip k)) ks
  no_sums ks = sum_by_same (quads []) (λ k. quads [] (flip k)) ks (λ k a. refl)

  module _ (first : Corner) (ks : List Corner) (are : AreCorners rows first ks) (four : (k : Corner) → Among k ks → HasFourVertices (length rows) k) (on : (k : Corner) → Among k ks → LeadsOn rows k) where
    plain : IsCycle rows [] ks
    plain = corners_cycle rows table [] first ks are four on (no_sums ks)

    turned_to : (k : Corner) → HasFourVertices (length rows) k → LeadsOn rows k → Along rows (pair first.tet first.a first.b) (pair k.tet k.a k.b) → Turned ks k
    turned_to k f w (inl j) = elim (corner_there rows table [] first ks are four on (no_sums ks) k f w j) [
      | inl a ↦ record { list = ks; there = a; size = refl; cycle = λ xs h. h }
      | inr a ↦ record {
        list = map flip ks;
        there = came_back [] (map flip ks) (flipped_cycle [] ks plain) k f w (Among-map flip (flip (next rows k)) ks (subst (λ (u : Corner). Among u ks) (mate-next rows k w) a));
        size = length-map ks flip;
        cycle = λ xs h. flipped_cycle xs ks h;
      }
    ]
    turned_to k f w (inr j) =
        let o : LeadsOn rows (opposite k) = record { g = w.g; glued = w.glued } in
        elim (corner_there rows table [] first ks are four on (no_sums ks) (opposite k) opposite_four o j) [
          | inl a ↦ record { list = map opposite ks; there = Among-map opposite (opposite k) ks a; size = length-map ks opposite; cycle = λ xs h. opposite_cycle rows table xs ks h }
          | inr a ↦ record {
            list = map opposite (map flip ks);
            there = Among-map opposite (opposite k) (map flip ks) (came_back [] (map flip ks) (flipped_cycle [] ks plain) (opposite k) opposite_four o (Among-map flip (flip (next rows (opposite k))) ks (subst (λ (u : Corner). Among u ks) (mate-next rows (opposite k) o) a)));
            size = length-map (map flip ks) opposite ∙ length-map ks flip;
            cycle = λ xs h. opposite_cycle rows table xs (map flip ks) (flipped_cycle xs ks h);
          }
        ]
      where
        opposite_four : HasFourVertices (length rows) (opposite k)
        opposite_four = record { tet = f.tet; a = f.b; b = f.a; c = f.c; d = f.d; ab = λ e. f.ab (sym e); ac = f.bc; ad = f.bd; bc = f.ac; bd = f.ad; cd = f.cd }

  module _ (first : Corner) (ks : List Corner) (are : AreCorners rows first ks) (four : (k : Corner) → Among k ks → HasFourVertices (length rows) k) (on : (k : Corner) → Among k ks → LeadsOn rows k)
      (second : Corner) (ls : List Corner) (others : AreCorners rows second ls) (four' : (k : Corner) → Among k ls → HasFourVertices (length rows) k) (on' : (k : Corner) → Among k ls → LeadsOn rows k)
      (along : Along rows (pair first.tet first.a first.b) (pair second.tet second.a second.b)) where
    second_there : Among second ls
    second_there = among_contains second ls ((others.reached second).1 (0, refl))

    turned_list : Turned ks second
    turned_list = turned_to first ks are four on second (four' second second_there) (on' second second_there) along

    inside : (l : Corner) → Among l ls → Among l turned_list.list
    inside l a =
        let r : Reaches rows second l = (others.reached l).0 (contains_among l ls a) in
        let h : IsCycle rows [] turned_list.list = turned_list.cycle [] (plain first ks are four on) in
        kept_by_steps rows (λ u. Among u turned_list.list) (λ k m b e. let w = step_is rows k m e in subst (λ (u : Corner). Among u turned_list.list) (next_is rows k w.on ∙ w.is) (h.closed k b)) r.0 second l turned_list.there r.1

    -- a walk from the one corner is at most as long as one from the other
    at_most : length ls ≤ length ks
    at_most = let short : length ls ≤ length turned_list.list = apart_short ls turned_list.list (apart_from second ls others.once) inside in let same : length turned_list.list ≡ length ks = turned_list.size in omega arith

  module _ (first : Corner) (ks : List Corner) (are : AreCorners rows first ks) (four : (k : Corner) → Among k ks → HasFourVertices (length rows) k) (on : (k : Corner) → Among k ks → LeadsOn rows k)
      (second : Corner) (ls : List Corner) (others : AreCorners rows second ls) (four' : (k : Corner) → Among k ls → HasFourVertices (length rows) k) (on' : (k : Corner) → Among k ls → LeadsOn rows k)
      (along : Along rows (pair first.tet first.a first.b) (pair second.tet second.a second.b)) where
    along_back : Along rows (pair second.tet second.a second.b) (pair first.tet first.a first.b)
    along_back =
        let f = four first (among_contains first ks ((are.reached first).1 (0, refl))) in
        elim along [
          | inl j ↦ inl (joined_sym rows (pair first.tet first.a first.b) (pair second.tet second.a second.b) table (f.a, (f.b, tt)) j)
          | inr j ↦ inr (joined_turned rows (pair second.tet second.b second.a) (pair first.tet first.a first.b) (joined_sym rows (pair first.tet first.a first.b) (pair second.tet second.b second.a) table (f.a, (f.b, tt)) j))
        ]

    abbrev chosen : Turned ks second
    chosen = turned_list first ks are four on second ls others four' on' along

    -- the sums on both sides agree around the walk from the one corner if they do around the walk from the other
    pub sums_agree : (xs : List ℕ) → sum_by (quads xs) ks ≡ sum_by (λ k. quads xs (flip k)) ks → sum_by (quads xs) ls ≡ sum_by (λ k. quads xs (flip k)) ls
    sums_agree xs sums =
        let h : IsCycle rows xs chosen.list = chosen.cycle xs (corners_cycle rows table xs first ks are four on sums) in
        let long : length ks ≤ length ls = at_most second ls others four' on' first ks are four on along_back in
        let size : length chosen.list ≡ length ks = chosen.size in
        let within : (l : Corner) → Among l ls → Among l chosen.list = inside first ks are four on second ls others four' on' along in
        let separate : AreApart ls = apart_from second ls others.once in
        let same : IsPermutation chosen.list ls = same_members chosen.list ls h.separate separate (λ k a. apart_covers ls chosen.list separate within (omega arith) k a) within in
        sum_by-IsPermutation (quads xs) chosen.list ls same ∙ h.sums ∙ sym (sum_by-IsPermutation (λ k. quads xs (flip k)) chosen.list ls same)
