-- A face of the new table replaces exactly one face of the old table, or lies between new facets.
use Rattle.std.proofs.Common.{◌≡◌, ℕ, ◌+◌, ◌<◌, ◌≤◌, Bool, true, false, List, length, Some, refl, sym, ap, ◌∙◌, subst, arith, inl, inr}
use Rattle.std.specs.Prelude.{◌⊎◌, ◌≢◌}
use Rattle.table_definitions.specs.Lists.{has, rank_without}
use Rattle.table_definitions.specs.Permutation.{IsPermutationOfFour, image, preimage}
use Rattle.table_definitions.specs.Table.{Gluing, Row, Face, IsTable}
use Rattle.table_definitions.specs.Relabelling.{face_under}
use Rattle.move_definitions.specs.Moves.{Move, IsCore, Facet, facet, new_length, kept, kept_place_after, place_after, facet_gluing, old_tets}
use Rattle.table_definitions.proofs.Permutations.{image_below, identity_permutes, image-identity}
use Rattle.table_definitions.proofs.Ranks.{rank, stays, ranks_apart}
use Rattle.table_definitions.proofs.Faces.{face_at}
use Rattle.move_definitions.proofs.CoreTests.{core_size}
use Rattle.move_definitions.proofs.StandIns.{image_after-kept}
use Rattle.move_laws.proofs.Labels.{ascending, new_labels, HasLabel, label_at, vertex_at}
use Rattle.move_laws.proofs.ListedFacets.{same_some, closed_up-rank}
use Rattle.move_laws.proofs.Legal.{IsFacet, facet_is, HasNoFault, old_tets_distinct, OldFacet, old_tet_facet}
use Rattle.move_laws.proofs.Covered.{crossed, IsInner}
use Rattle.move_laws.proofs.Placed.{closed_up_small, stays_true}
use Rattle.move_laws.proofs.SecondStand.{crossing, crossing_permutes, HasNewLabel, has_new_label}

-- the face y replaces the face x of a retained tetrahedron
pub record IsKeptFace (rows : List Row) (m : Move) (x y : Face) (s : Gluing) : Type 0 where
  pub stays : has (old_tets rows m) x.tet ≡ false
  pub by : s ≡ kept_place_after rows m x.tet
  pub tet : rank_without (old_tets rows m) x.tet ≡ y.tet
  pub face : x.face ≡ y.face
  pub small : y.tet < kept rows m

-- the face of new facet j opposite label i replaces that of old facet i opposite label j
pub record IsFacetFace (rows : List Row) (m : Move) (x y : Face) (s : Gluing) : Type 0 where
  pub i : ℕ
  pub j : ℕ
  pub low : length m.core ≤ i
  pub high : i < 5
  pub less : j < length m.core
  pub facet_of : Facet
  pub found : facet rows m i ≡ Some facet_of
  pub facet_is : IsFacet rows i facet_of
  pub by : s ≡ facet_gluing rows m facet_of j
  pub old_is : face_at facet_of.tet (preimage facet_of.labels j) ≡ x
  pub new_is : face_at (kept rows m + j) (preimage (ascending j) i) ≡ y

pub shape : (rows : List Row) (m : Move) → IsTable rows → HasNoFault rows m → IsCore m.core → (x : Face) (s : Gluing) → x.tet < length rows → x.face < 4 → place_after rows m x ≡ Some s
    → IsKeptFace rows m x (face_under s x) s ⊎ IsFacetFace rows m x (face_under s x) s
shape rows m table h c x s lt lf occurs = by_test (has (old_tets rows m) x.tet) refl
  where
    by_facet : OldFacet rows m x.tet → IsFacetFace rows m x (face_under s x) s
    by_facet o =
        let f : Facet = o.facet_of in
        let is : IsFacet rows o.label f = facet_is rows m o.label f table c h.in_range o.high o.is in
        let same : face_at f.tet x.face ≡ x = ap (λ t. face_at t x.face) o.tet in
        let n : HasNewLabel rows m f x.face s = has_new_label rows m o.label f x.face s h c o.low o.high o.is (ap (place_after rows m) same ∙ occurs) in
        let j : ℕ = image f.labels x.face in
        let l : HasLabel o.label f.labels x.face = label_at o.label f.labels is.labels x.face lf in
        let old_is : face_at f.tet (preimage f.labels j) ≡ x = ap (face_at f.tet) l.vertex ∙ same in
        let there : face_at (kept rows m + j) (preimage (ascending j) o.label) ≡ face_under (facet_gluing rows m f j) (face_at f.tet (preimage f.labels j)) = ap (face_at (kept rows m + j)) (sym (crossed rows m o.label j f is l.small l.present)) in
        record {
          i = o.label;
          j = j;
          low = o.low;
          high = o.high;
          less = n.small;
          facet_of = f;
          found = o.is;
          facet_is = is;
          by = n.is;
          old_is = old_is;
          new_is = there ∙ ap (face_under (facet_gluing rows m f j)) old_is ∙ ap (λ (g : Gluing). face_under g x) (sym n.is);
        }

    by_kept : has (old_tets rows m) x.tet ≡ false → IsKeptFace rows m x (face_under s x) s
    by_kept e =
        let by : s ≡ kept_place_after rows m x.tet = same_some (place_after rows m x) s (kept_place_after rows m x.tet) occurs (image_after-kept rows m x e) in
        let t : rank_without (old_tets rows m) x.tet ≡ s.tet = ap (λ (g : Gluing). g.tet) (sym by) in
        record {
          stays = e;
          by = by;
          tet = t;
          face = sym (ap (λ (g : Gluing). image g.perm x.face) by ∙ image-identity x.face lf);
          small = subst (λ u. u < kept rows m) t (closed_up_small rows m x.tet table h c lt e);
        }

    by_test : (b : Bool) → has (old_tets rows m) x.tet ≡ b → IsKeptFace rows m x (face_under s x) s ⊎ IsFacetFace rows m x (face_under s x) s
    by_test false e = inl (by_kept e)
    by_test true e = inr (by_facet (old_tet_facet rows m x.tet c e))

-- the map to a new facet permutes the vertices
new_permutes : (rows : List Row) (m : Move) (x y : Face) (s : Gluing) → IsCore m.core → IsFacetFace rows m x y s → IsPermutationOfFour s.perm
new_permutes rows m x y s c f =
    let limited : length m.core < 5 = (core_size m.core c).1 in
    let less = f.less in
    let low = f.low in
    let crosses : IsPermutationOfFour (crossing f.facet_of.missing f.j f.facet_of.labels) =
    subst (λ k. IsPermutationOfFour (crossing k f.j f.facet_of.labels)) (sym f.facet_is.missing) (crossing_permutes f.i f.j f.facet_of.labels f.facet_is.labels (omega arith) (λ e. absurd (omega arith))) in
    subst (λ (g : Gluing). IsPermutationOfFour g.perm) (sym f.by) crosses

pub stand_permutes : (rows : List Row) (m : Move) → IsTable rows → HasNoFault rows m → IsCore m.core → (x : Face) (s : Gluing) → x.tet < length rows → x.face < 4 → place_after rows m x ≡ Some s → IsPermutationOfFour s.perm
stand_permutes rows m table h c x s lt lf occurs =
    elim (shape rows m table h c x s lt lf occurs) [
      | inl k ↦ subst (λ (g : Gluing). IsPermutationOfFour g.perm) (sym k.by) identity_permutes
      | inr f ↦ new_permutes rows m x (face_under s x) s c f
    ]

-- the face that replaces another is in range
pub stand_in_range : (rows : List Row) (m : Move) → IsTable rows → HasNoFault rows m → IsCore m.core → (x : Face) (s : Gluing) → x.tet < length rows → x.face < 4 → place_after rows m x ≡ Some s
    → (s.tet < new_length rows m) × (image s.perm x.face < 4)
stand_in_range rows m table h c x s lt lf occurs = (
  elim (shape rows m table h c x s lt lf occurs) [
    | inl k ↦ (let small : s.tet < kept rows m = k.small in omega arith)
    | inr f ↦ (let t : s.tet ≡ kept rows m + f.j = ap (λ (g : Gluing). g.tet) f.by in let less = f.less in omega arith)
  ],
  image_below s.perm (stand_permutes rows m table h c x s lt lf occurs) x.face lf,
)

-- a face of a new facet is given by one pair of labels

same_label : (j i k : ℕ) → j < 5 → i < 5 → k < 5 → i ≢ j → k ≢ j → preimage (ascending j) i ≡ preimage (ascending j) k → i ≡ k
same_label j i k hj hi hk d d' e =
    sym (vertex_at j (ascending j) (new_labels j hj) i hi d).label ∙ ap (image (ascending j)) e ∙ (vertex_at j (ascending j) (new_labels j hj) k hk d').label

kept_not_facet : (rows : List Row) (m : Move) (x x' y : Face) (s s' : Gluing) → IsKeptFace rows m x y s → IsFacetFace rows m x' y s' → ⊥
kept_not_facet rows m x x' y s s' k f =
    let t : kept rows m + f.j ≡ y.tet = λ i. (f.new_is i).tet in
    let small = k.small in
    omega arith

-- a face of the new table replaces at most one face of the old table
pub stands_for_one : (rows : List Row) (m : Move) → IsTable rows → HasNoFault rows m → IsCore m.core → (x x' y : Face) (s s' : Gluing) → x.tet < length rows → x'.tet < length rows
    → IsKeptFace rows m x y s ⊎ IsFacetFace rows m x y s → IsKeptFace rows m x' y s' ⊎ IsFacetFace rows m x' y s' → x ≡ x'
stands_for_one rows m table h c x x' y s s' lt lt' (inl k) (inl k') =
    let d = old_tets_distinct rows m h c in
    let ranks : rank (stays (old_tets rows m)) x.tet ≡ rank (stays (old_tets rows m)) x'.tet = sym (closed_up-rank (old_tets rows m) x.tet d) ∙ k.tet ∙ sym k'.tet ∙ closed_up-rank (old_tets rows m) x'.tet d in
    let t : x.tet ≡ x'.tet = ranks_apart (stays (old_tets rows m)) (length rows) x.tet x'.tet lt lt' (stays_true (old_tets rows m) x.tet k.stays) (stays_true (old_tets rows m) x'.tet k'.stays) ranks in
    ap (λ u. face_at u x.face) t ∙ ap (face_at x'.tet) (k.face ∙ sym k'.face)
stands_for_one rows m table h c x x' y s s' lt lt' (inl k) (inr f) = absurd (kept_not_facet rows m x x' y s s' k f)
stands_for_one rows m table h c x x' y s s' lt lt' (inr f) (inl k) = absurd (kept_not_facet rows m x' x y s' s k f)
stands_for_one rows m table h c x x' y s s' lt lt' (inr f) (inr f') =
    let limited : length m.core < 5 = (core_size m.core c).1 in
    let less = f.less in
    let less' = f'.less in
    let low = f.low in
    let low' = f'.low in
    let tets : kept rows m + f.j ≡ kept rows m + f'.j = (λ i. (f.new_is i).tet) ∙ sym (λ i. (f'.new_is i).tet) in
    let j : f.j ≡ f'.j = omega arith in
    let vertices : preimage (ascending f.j) f.i ≡ preimage (ascending f'.j) f'.i = (λ i. (f.new_is i).face) ∙ sym (λ i. (f'.new_is i).face) in
    let i : f.i ≡ f'.i = same_label f.j f.i f'.i (omega arith) f.high f'.high (λ e. absurd (omega arith)) (λ e. absurd (omega arith)) (vertices ∙ ap (λ q. preimage (ascending q) f'.i) (sym j)) in
    let facets : f.facet_of ≡ f'.facet_of = same_some (facet rows m f'.i) f.facet_of f'.facet_of (ap (facet rows m) (sym i) ∙ f.found) f'.found in
    sym f.old_is ∙ ap (λ (g : Facet). face_at g.tet (preimage g.labels f.j)) facets ∙ ap (λ q. face_at f'.facet_of.tet (preimage f'.facet_of.labels q)) j ∙ f'.old_is

-- a face between new facets replaces none
pub inner_stands_for_none : (rows : List Row) (m : Move) → IsCore m.core → (x y : Face) (s : Gluing) → IsKeptFace rows m x y s ⊎ IsFacetFace rows m x y s → IsInner rows m y → ⊥
inner_stands_for_none rows m c x y s (inl k) n =
    let t : kept rows m + n.j ≡ y.tet = λ i. (n.is i).tet in
    let small = k.small in
    omega arith
inner_stands_for_none rows m c x y s (inr f) n =
    let limited : length m.core < 5 = (core_size m.core c).1 in
    let less = f.less in
    let low = f.low in
    let nj = n.j_small in
    let nl = n.l_small in
    let separate = n.separate in
    let tets : kept rows m + f.j ≡ kept rows m + n.j = (λ i. (f.new_is i).tet) ∙ sym (λ i. (n.is i).tet) in
    let j : f.j ≡ n.j = omega arith in
    let vertices : preimage (ascending f.j) f.i ≡ preimage (ascending n.j) n.l = (λ i. (f.new_is i).face) ∙ sym (λ i. (n.is i).face) in
    let i : f.i ≡ n.l = same_label f.j f.i n.l (omega arith) f.high (omega arith) (λ e. absurd (omega arith)) (λ e. separate (sym j ∙ sym e)) (vertices ∙ ap (λ q. preimage (ascending q) n.l) (sym j)) in
    omega arith

-- a face lies between one pair of new facets alone
pub inner_once : (rows : List Row) (m : Move) → IsCore m.core → (y : Face) (n n' : IsInner rows m y) → (n.j ≡ n'.j) × (n.l ≡ n'.l)
inner_once rows m c y n n' =
    let limited : length m.core < 5 = (core_size m.core c).1 in
    let hj = n.j_small in
    let hl = n.l_small in
    let hl' = n'.l_small in
    let tets : kept rows m + n.j ≡ kept rows m + n'.j = (λ i. (n.is i).tet) ∙ sym (λ i. (n'.is i).tet) in
    let j : n.j ≡ n'.j = omega arith in
    let vertices : preimage (ascending n.j) n.l ≡ preimage (ascending n'.j) n'.l = (λ i. (n.is i).face) ∙ sym (λ i. (n'.is i).face) in
    (j, same_label n.j n.l n'.l (omega arith) (omega arith) (omega arith) (λ e. n.separate (sym e)) (λ e. n'.separate (sym (e ∙ j))) (vertices ∙ ap (λ q. preimage (ascending q) n'.l) (sym j)))
