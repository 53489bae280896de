-- Invalid edges of one table have invalid edges of the other as their images, or are images of such; edges within the
-- star are valid.
use Rattle.std.proofs.Common.{◌≡◌, ◌≢◌, ℕ, ◌+◌, ◌*◌, ◌<◌, false, List, [], ◌∷◌, length, map, inl, inr, refl, sym, ap, ◌∙◌, subst, subst₂, arith}
use Rattle.std.specs.Prelude.{◌==◌, ◌||◌}
use Rattle.std.proofs.lemmas.Bool.{or_parts, or_from}
use Rattle.table_definitions.specs.Permutation.{image}
use Rattle.table_definitions.specs.Table.{Row, IsTable}
use Rattle.table_definitions.specs.Places.{Place, IsPlace, edge_number, backwards, IsJoined, HasValidEdges}
use Rattle.move_definitions.specs.Moves.{Move, Facet, IsMoved, vertex_of}
use Rattle.skeleton_class_laws.specs.Crossings.{pair}
use Rattle.table_definitions.proofs.Faces.{face_at}
use Rattle.table_definitions.proofs.PermutationLaws.{images_apart}
use Rattle.table_definitions.proofs.Permutations.{image_below}
use Rattle.move_laws.proofs.Shapes.{stand_in_range}
use Rattle.skeleton_laws.proofs.EdgeEnds.{Reverses, reverses_edge, EdgeAt, edge_ends_at, edge_below}
use Rattle.move_link_laws.specs.Valid.{MovesKeepValid, PlaysKeepValid}
use Rattle.move_link_laws.proofs.Ties.{fine, new_at, one_facet, Ties, tie_permutes}
use Rattle.move_link_laws.proofs.JoinedBack.{joined_over, joined_under}
use Rattle.move_link_laws.proofs.Buried.{free_of_two, Buried, NewBuried, tied_or_buried, new_tied_or_buried}
use Rattle.move_link_laws.proofs.BuriedChains.{buried_along, new_buried_along}

-- a list with two images is one of two items
pub two_of : (g vs : List ℕ) (a b : ℕ) → map (image g) vs ≡ a ∷ b ∷ [] → (x : ℕ) × (y : ℕ) × (vs ≡ x ∷ y ∷ []) × (image g x ≡ a) × (image g y ≡ b)
two_of g [] a b e = absurd cc
two_of g (x ∷ []) a b e = absurd (let z : [] ≡ b ∷ [] = cc in cc)
two_of g (x ∷ y ∷ []) a b e = (x, y, refl, cc, cc)
two_of g (x ∷ y ∷ z ∷ vs) a b e = absurd (let w : image g z ∷ map (image g) vs ≡ [] = cc in cc)

module _ (old : List Row) (m : Move) (new : List Row) (table : IsTable old) (h : IsMoved old m new) where
  abbrev Tie : Place → Place → Type 0
  Tie p q = Ties old m new table h p q

  -- the reverse of an image is the image of the reverse
  pub tie_turned : (t a b : ℕ) (q : Place) → Tie (pair t a b) q → Tie (pair t b a) (backwards q)
  tie_turned t a b q z = record {
    face = z.face;
    by = z.by;
    tet = z.tet;
    place = (z.place.1.0, (z.place.0, tt));
    low = z.low;
    off = (let o = or_parts (a == z.face) ((b == z.face) || false) z.off in
        let p = or_parts (b == z.face) false o.1 in or_from (b == z.face) ((a == z.face) || false) p.0 (or_from (a == z.face) false o.0 refl));
    occurs = z.occurs;
    is = ap backwards z.is;
  }

  pub tie_range : (p q : Place) (z : Tie p q) → z.by.tet < length new
  tie_range p q z = let l = (stand_in_range old m table (fine old m new table h) h.core (face_at p.tet z.face) z.by z.tet z.low z.occurs).0 in let n = h.length_is in omega arith

  pub reverses_over : (t a b : ℕ) (q : Place) → Tie (pair t a b) q → Reverses old t a b → IsJoined new q (backwards q)
  reverses_over t a b q z j = joined_over old m new table h (pair t a b) (pair t b a) q (backwards q) z (tie_turned t a b q z) j

  pub reverses_under : (t a b : ℕ) (q : Place) → Tie (pair t a b) q → IsJoined new q (backwards q) → Reverses old t a b
  reverses_under t a b q z j = joined_under old m new table h (pair t a b) (pair t b a) q (backwards q) z (tie_turned t a b q z) j

  pub buried_forward : (ls : List ℕ) (t a b : ℕ) → Buried old m new table h ls (pair t a b) → Reverses old t a b → a ≡ b
  buried_forward ls t a b z j =
      let w = buried_along old m new table h ls (pair t a b) (pair t b a) z j in
      let same : z.f ≡ w.f = (one_facet old m new table h z.i w.i z.f w.f z.old_is w.old_is (ap (λ (p : Place). p.tet) (sym z.from ∙ (λ k. pair t a b)) ∙ ap (λ (p : Place). p.tet) w.from)).1 in
      let lists : a ∷ b ∷ [] ≡ b ∷ a ∷ [] = ap (λ (p : Place). p.vertices) z.from ∙ ap (λ (f : Facet). map (vertex_of f) ls) same ∙ ap (λ (p : Place). p.vertices) (sym w.from) in
      cc

  pub new_buried_forward : (ls : List ℕ) (t a b : ℕ) → NewBuried old m new table h ls (pair t a b) → Reverses new t a b → a ≡ b
  new_buried_forward ls t a b z j =
      let w = new_buried_along old m new table h ls (pair t a b) (pair t b a) z j in
      let tets : (new_at old m new table h z.j).tet ≡ (new_at old m new table h w.j).tet = ap (λ (p : Place). p.tet) (sym z.to) ∙ ap (λ (p : Place). p.tet) w.to in
      let same : z.j ≡ w.j = omega arith in
      let lists : a ∷ b ∷ [] ≡ b ∷ a ∷ [] = ap (λ (p : Place). p.vertices) z.to ∙ ap (λ k. map (vertex_of (new_at old m new table h k)) ls) same ∙ ap (λ (p : Place). p.vertices) (sym w.to) in
      cc

  -- one table has valid edges if and only if the other has
  valid_forth : HasValidEdges old → HasValidEdges new
  valid_forth valid i l j = elim (new_tied_or_buried old m new table h (pair e.t e.a e.b) lt (e.low_a, (e.low_b, tt)) (free_of_two e.a e.b)) [
    | inl w ↦ tied w.0 w.1
    | inr w ↦ e.separate (new_buried_forward w.0 e.t e.a e.b w.1 there)
  ]
    where
      e : EdgeAt i
      e = edge_ends_at i

      lt : e.t < length new
      lt = let q = e.tet in omega arith

      there : Reverses new e.t e.a e.b
      there = subst₂ (IsJoined new) e.is (ap backwards e.is) j

      tied : (p : Place) → Tie p (pair e.t e.a e.b) → ⊥
      tied p z =
          let w = two_of z.by.perm p.vertices e.a e.b (ap (λ (q : Place). q.vertices) (sym z.is)) in
          let x : ℕ = w.0 in
          let y : ℕ = w.1 in
          let is : p ≡ pair p.tet w.0 w.1 = (λ k. record { tet = p.tet; vertices = w.2 k }) in
          let place : IsPlace (pair p.tet w.0 w.1) = subst IsPlace is z.place in
          let ne : w.0 ≢ w.1 = (λ k. e.separate (sym w.3 ∙ ap (image z.by.perm) k ∙ w.4)) in
          valid (6 * p.tet + edge_number x y) (edge_below p.tet x y (length old) place.0 place.1.0 ne z.tet)
          (reverses_edge old p.tet x y place.0 place.1.0 ne (reverses_under p.tet x y (pair e.t e.a e.b) (subst (λ (r : Place). Tie r (pair e.t e.a e.b)) is z) there))

  valid_back : HasValidEdges new → HasValidEdges old
  valid_back valid i l j = elim (tied_or_buried old m new table h (pair e.t e.a e.b) lt (e.low_a, (e.low_b, tt)) (free_of_two e.a e.b)) [
    | inl w ↦ tied w.0 w.1
    | inr w ↦ e.separate (buried_forward w.0 e.t e.a e.b w.1 there)
  ]
    where
      e : EdgeAt i
      e = edge_ends_at i

      lt : e.t < length old
      lt = let q = e.tet in omega arith

      there : Reverses old e.t e.a e.b
      there = subst₂ (IsJoined old) e.is (ap backwards e.is) j

      tied : (q : Place) → Tie (pair e.t e.a e.b) q → ⊥
      tied q z =
          let hp = tie_permutes old m new table h (pair e.t e.a e.b) q z in
          let x : ℕ = image z.by.perm e.a in
          let y : ℕ = image z.by.perm e.b in
          let u : z.by.tet < length new = tie_range (pair e.t e.a e.b) q z in
          let ne : image z.by.perm e.a ≢ image z.by.perm e.b = images_apart z.by.perm e.a e.b hp e.low_a e.low_b e.separate in
          let lx : image z.by.perm e.a < 4 = image_below z.by.perm hp e.a e.low_a in
          let ly : image z.by.perm e.b < 4 = image_below z.by.perm hp e.b e.low_b in
          valid (6 * z.by.tet + edge_number x y) (edge_below z.by.tet x y (length new) lx ly ne u)
          (reverses_edge new z.by.tet x y lx ly ne (subst₂ (IsJoined new) z.is (ap backwards z.is) (reverses_over e.t e.a e.b q z there)))

pub moves_keep_valid_lem : MovesKeepValid
moves_keep_valid_lem old m new table h = (valid_forth old m new table h, valid_back old m new table h)

pub plays_keep_valid_lem : PlaysKeepValid
plays_keep_valid_lem old [] new p = (subst HasValidEdges p, subst HasValidEdges (sym p))
plays_keep_valid_lem old (m ∷ ms) new (next, p, rest) =
    let one = moves_keep_valid_lem old m next p.table p.moved in
    let more = plays_keep_valid_lem next ms new rest in
    (λ v. more.0 (one.0 v), λ v. one.1 (more.1 v))
