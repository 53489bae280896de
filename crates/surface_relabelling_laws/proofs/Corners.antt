-- The corners around an edge are carried to the corners around its image.
use Rattle.std.proofs.Common.{◌≡◌, ℕ, zero, suc, ◌<◌, List, [], ◌∷◌, length, map, get_or, Option, Some, None, refl, sym, ap, ◌∙◌, subst, arith}
use Rattle.std.specs.Prelude.{option_map, option_and_then, slice_index, Contains}
use Rattle.std.specs.List.{slice_index_or}
use Rattle.std.proofs.lemmas.List.{length-map, get_or-map}
use Rattle.table_definitions.specs.Permutation.{IsPermutationOfFour, image, preimage}
use Rattle.table_definitions.specs.Table.{Gluing, Row, glue, IsTable}
use Rattle.table_definitions.specs.Relabelling.{Relabelling, IsRelabelling, Carries, relabelled_place, gluing_under}
use Rattle.table_definitions.proofs.Carried.{image_in_range, images_apart as tets_apart, perm_permutes, carried_image}
use Rattle.table_definitions.proofs.Listed.{contains_among, among_contains, map-among}
use Rattle.table_definitions.proofs.PermutationLaws.{images_apart}
use Rattle.table_definitions.proofs.Permutations.{image_below, preimage-image}
use Rattle.table_definitions.proofs.TableLaws.{Among-map}
use Rattle.skeleton_definitions.specs.Corners.{Corner, left_through, corner_across, step, steps, Reaches, AreCorners}
use Rattle.skeleton_class_laws.proofs.Rounds.{first_step}
use Rattle.surface_laws.proofs.CornerSteps.{LeadsOn, step_is}
use Rattle.surface_quad_laws.proofs.Rounds.{HasFourVertices, behind_in, kept_by_steps}

-- the image of a corner
abbrev pub corner_under : Relabelling → Corner → Corner
corner_under by k = record {
  tet = slice_index by.images k.tet;
  a = image (slice_index_or by.perms k.tet []) k.a;
  b = image (slice_index_or by.perms k.tet []) k.b;
  c = image (slice_index_or by.perms k.tet []) k.c;
  d = image (slice_index_or by.perms k.tet []) k.d;
}

-- corners that steps reach are corners in range
pub reached_four : (rows : List Row) → IsTable rows → (k l : Corner) → HasFourVertices (length rows) k → Reaches rows k l → HasFourVertices (length rows) l
reached_four rows table k l four r =
    kept_by_steps rows (HasFourVertices (length rows)) (λ k l h e. let w = step_is rows k l e in subst (HasFourVertices (length rows)) w.is (behind_in rows table k w.on.g h w.on.glued)) r.0 k l four r.1

module _ (rows : List Row) (new : List Row) (by : Relabelling) (table : IsTable rows) (is : IsRelabelling (length rows) by) (carries : Carries by rows new) where
  perm_at : (k : Corner) → HasFourVertices (length rows) k → IsPermutationOfFour (slice_index_or by.perms k.tet [])
  perm_at k f = perm_permutes (length rows) by is k.tet f.tet

  pub four_under : (k : Corner) → HasFourVertices (length rows) k → HasFourVertices (length new) (corner_under by k)
  four_under k f =
      let p : List ℕ = slice_index_or by.perms k.tet [] in
      let h = perm_at k f in record {
        tet = subst (λ n. slice_index by.images k.tet < n) (sym carries.same_length) (image_in_range (length rows) by is k.tet f.tet);
        a = image_below p h k.a f.a;
        b = image_below p h k.b f.b;
        c = image_below p h k.c f.c;
        d = image_below p h k.d f.d;
        ab = images_apart p k.a k.b h f.a f.b f.ab;
        ac = images_apart p k.a k.c h f.a f.c f.ac;
        ad = images_apart p k.a k.d h f.a f.d f.ad;
        bc = images_apart p k.b k.c h f.b f.c f.bc;
        bd = images_apart p k.b k.d h f.b f.d f.bd;
        cd = images_apart p k.c k.d h f.c f.d f.cd;
      }

  -- different corners have different images
  pub one_corner : (k l : Corner) → HasFourVertices (length rows) k → HasFourVertices (length rows) l → corner_under by k ≡ corner_under by l → k ≡ l
  one_corner k l f g e =
      let tets : k.tet ≡ l.tet = tets_apart (length rows) by is k.tet l.tet f.tet g.tet (ap (λ (m : Corner). m.tet) e) in
      λ i. record {
        tet = tets i;
        a = same k.a l.a f.a g.a tets (ap (λ (m : Corner). m.a) e) i;
        b = same k.b l.b f.b g.b tets (ap (λ (m : Corner). m.b) e) i;
        c = same k.c l.c f.c g.c tets (ap (λ (m : Corner). m.c) e) i;
        d = same k.d l.d f.d g.d tets (ap (λ (m : Corner). m.d) e) i;
      }
    where
      same : (v w : ℕ) → v < 4 → w < 4 → k.tet ≡ l.tet → image (slice_index_or by.perms k.tet []) v ≡ image (slice_index_or by.perms l.tet []) w → v ≡ w
      same v w lv lw tets q =
          let p : List ℕ = slice_index_or by.perms k.tet [] in
          let h = perm_at k f in
          sym (preimage-image p h v lv) ∙ ap (preimage p) (q ∙ (λ i. image (slice_index_or by.perms (sym tets i) []) w)) ∙ preimage-image p h w lw

  glued_under : (k : Corner) → HasFourVertices (length rows) k
      → glue new (left_through (corner_under by k)) ≡ option_map (λ g. gluing_under (relabelled_place by k.tet) (relabelled_place by g.tet) g) (glue rows (left_through k))
  glued_under k f = carries.glued (left_through k) f.tet f.c

  pub leads_under : (k : Corner) → HasFourVertices (length rows) k → LeadsOn rows k → LeadsOn new (corner_under by k)
  leads_under k f w = record {
    g = gluing_under (relabelled_place by k.tet) (relabelled_place by w.g.tet) w.g;
    glued = glued_under k f ∙ ap (option_map (λ g. gluing_under (relabelled_place by k.tet) (relabelled_place by g.tet) g)) w.glued;
  }

  -- the next corner of the image is the image of the next corner
  pub step_under : (k : Corner) → HasFourVertices (length rows) k → step new (corner_under by k) ≡ option_map (corner_under by) (step rows k)
  step_under k f = ap (option_map (corner_across (corner_under by k))) (glued_under k f) ∙ by_glue (glue rows (left_through k)) refl
    where
      by_glue : (o : Option Gluing) → glue rows (left_through k) ≡ o
          → option_map (corner_across (corner_under by k)) (option_map (λ g. gluing_under (relabelled_place by k.tet) (relabelled_place by g.tet) g) o) ≡ option_map (corner_under by) (option_map (corner_across k) o)
      by_glue None e = refl
      by_glue (Some g) e =
          let s : List ℕ = slice_index_or by.perms k.tet [] in
          let r : List ℕ = slice_index_or by.perms g.tet [] in
          let hs = perm_at k f in
          let hr = perm_permutes (length rows) by is g.tet (table.in_range (left_through k) g e) in
          let hg = table.permutes (left_through k) g e in
          λ i. Some (record {
            tet = slice_index by.images g.tet;
            a = carried_image s r g.perm k.a hs hr hg f.a i;
            b = carried_image s r g.perm k.b hs hr hg f.b i;
            c = carried_image s r g.perm k.d hs hr hg f.d i;
            d = carried_image s r g.perm k.c hs hr hg f.c i;
          })

  steps_under : (n : ℕ) (k l : Corner) → HasFourVertices (length rows) k → steps rows n k ≡ Some l → steps new n (corner_under by k) ≡ Some (corner_under by l)
  steps_under zero k l f e = let same : k ≡ l = cc in ap (λ (m : Corner). Some (corner_under by m)) same
  steps_under (suc n) k l f e =
      let m = first_step rows n l (step rows k) e in
      ap (option_and_then (λ d. steps new n d)) (step_under k f ∙ ap (option_map (corner_under by)) m.1)
      ∙ steps_under n m.0 l (reached_four rows table k m.0 f (1, ap (option_and_then (λ d. Some d)) m.1)) m.2

  some_step : (o : Option Corner) (x : Corner) → option_map (corner_under by) o ≡ Some x → (k : Corner) × (o ≡ Some k) × (x ≡ corner_under by k)
  some_step None x e = absurd cc
  some_step (Some k) x e = (k, refl, (let same : corner_under by k ≡ x = cc in sym same))

  steps_back : (n : ℕ) (k m : Corner) → HasFourVertices (length rows) k → steps new n (corner_under by k) ≡ Some m → (l : Corner) × (steps rows n k ≡ Some l) × (m ≡ corner_under by l)
  steps_back zero k m f e = (k, refl, (let same : corner_under by k ≡ m = cc in sym same))
  steps_back (suc n) k m f e =
      let x = first_step new n m (step new (corner_under by k)) e in
      let y = some_step (step rows k) x.0 (sym (step_under k f) ∙ x.1) in
      let z = steps_back n y.0 m (reached_four rows table k y.0 f (1, ap (option_and_then (λ d. Some d)) y.1)) (ap (steps new n) (sym y.2) ∙ x.2) in
      (z.0, ap (option_and_then (λ d. steps rows n d)) y.1 ∙ z.1, z.2)

  -- the corners that steps reach
  pub corners_under : (first : Corner) (corners : List Corner) → HasFourVertices (length rows) first → AreCorners rows first corners → AreCorners new (corner_under by first) (map (corner_under by) corners)
  corners_under first corners f are = record {
    reached = λ k. (
      (λ c. (let m = map-among (corner_under by) k corners (among_contains k (map (corner_under by) corners) c) in
          let r : Reaches rows first m.0 = (are.reached m.0).0 (contains_among m.0 corners m.1) in
          (r.0, steps_under r.0 first m.0 f r.1 ∙ ap Some (sym m.2)))),
      (λ r. (let b = steps_back r.0 first k f r.1 in
          subst (Contains (map (corner_under by) corners)) (sym b.2) (contains_among (corner_under by b.0) (map (corner_under by) corners)
          (Among-map (corner_under by) b.0 corners (among_contains b.0 corners ((are.reached b.0).1 (r.0, b.1))))))),
    );
    once = λ i j less l e. (
        let lj : j < length corners = subst (λ n. j < n) (length-map corners (corner_under by)) l in
        let li : i < length corners = omega arith in
        are.once i j less lj (one_corner (slice_index_or corners i first) (slice_index_or corners j first) (four_at i li) (four_at j lj)
        (sym (get_or-map (corner_under by) corners i first (corner_under by first) li) ∙ e ∙ get_or-map (corner_under by) corners j first (corner_under by first) lj)));
  }
    where
      four_at : (i : ℕ) → i < length corners → HasFourVertices (length rows) (slice_index_or corners i first)
      four_at i l = reached_four rows table first (slice_index_or corners i first) f ((are.reached (slice_index_or corners i first)).0 (i, l, get_or_same corners i l))
        where
          get_or_same : (ks : List Corner) (i : ℕ) → i < length ks → get_or ks i (slice_index_or ks i first) ≡ slice_index_or ks i first
          get_or_same [] i l = absurd (omega arith)
          get_or_same (k ∷ ks) zero l = refl
          get_or_same (k ∷ ks) (suc i) l = get_or_same ks i (omega arith)
