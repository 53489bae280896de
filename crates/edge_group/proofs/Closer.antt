-- The tree face of a tetrahedron is the least of the faces that are glued to its own and belong to a tetrahedron closer
-- to tetrahedron 0.
use Rattle.std.proofs.Common.{◌≡◌, ℕ, ◌+◌, ◌<◌, ◌⊎◌, inl, inr, false, List, length, Option, Some, None, subst, sym, ap, ◌∙◌, arith}
use Rattle.std.specs.Prelude.{nat_lt, ◌==◌, ◌||◌, ◌&&◌}
use Rattle.std.proofs.lemmas.Bool.{cases_lt, cases_eq}
use Rattle.table_definitions.specs.Permutation.{image}
use Rattle.table_definitions.specs.Table.{Gluing, Row, Face, IsTable, glue, other_side, inverse_gluing, is_face_before}
use Rattle.table_definitions.specs.Places.{IsConnected}
use Rattle.table_definitions.proofs.TableLaws.{glued_tet, glued_face}
use Rattle.table_definitions.proofs.PermutationLaws.{image-of_inverse}
use Rattle.table_definitions.proofs.Faces.{face_at}
use Rattle.presentation_definitions.specs.Trees.{IsDistance, LeadsCloser}
use Rattle.presentation_definitions.specs.Groups.{IsTreeFaceAt, IsTree}
use Rattle.presentation_laws.proofs.TreeLaws.{tree_face_of}
use Rattle.edge_group.specs.Searches.{mark_of, AreDistances}
use Rattle.edge_group.specs.Across.{IsOneLess, IsCloser, IsCloserFace, IsNotAfter, IsLeastOf, IsLeastCloser, AreLeastCloser}

-- ---- the order of faces

not_before_on : (x y z : Face) → is_face_before x y ≡ false → is_face_before y z ≡ false → is_face_before x z ≡ false
not_before_on x y z d e = go x.tet y.tet z.tet x.face y.face z.face d e
  where
    go : (r s t f g h : ℕ) → (nat_lt r s || ((r == s) && nat_lt f g)) ≡ false → (nat_lt s t || ((s == t) && nat_lt g h)) ≡ false → (nat_lt r t || ((r == t) && nat_lt f h)) ≡ false
    go r s t f g h d e = grind arith

-- ---- the smaller of two faces

module _ (rows : List Row) where
  one_closer : (x y z : Face) → IsCloser rows x y → IsCloser rows x z → y ≡ z
  one_closer x y z h k = let w : Some h.gluing ≡ Some k.gluing = sym h.glued ∙ k.glued in let same : h.gluing ≡ k.gluing = cc in sym h.other ∙ ap (other_side x) same ∙ k.other

  -- ---- one more face of a tetrahedron

  not_after : (t f : ℕ) (least closer : Option Face) (x : Face) → IsLeastCloser rows t f least → IsCloserFace rows (face_at t f) closer → IsNotAfter least x → IsNotAfter closer x
      → (i : ℕ) (y : Face) → i < f + 1 → IsCloser rows (face_at t i) y → is_face_before y x ≡ false
  not_after t f least closer x h k a b i y l c = elim (cases_lt i f) [
    | inl less ↦ earlier less least h a
    | inr more ↦ let same : i ≡ f = omega arith in here closer k b (subst (λ j. IsCloser rows (face_at t j) y) same c)
  ]
    where
      earlier : i < f → (o : Option Face) → IsLeastCloser rows t f o → IsNotAfter o x → is_face_before y x ≡ false
      earlier less None h a = absurd (h i y less c)
      earlier less (Some z) h a = not_before_on y z x (h.1 i y less c) a

      here : (o : Option Face) → IsCloserFace rows (face_at t f) o → IsNotAfter o x → IsCloser rows (face_at t f) y → is_face_before y x ≡ false
      here None k b d = absurd (k y d)
      here (Some z) k b d = subst (λ (w : Face). is_face_before w x ≡ false) (one_closer (face_at t f) z y k d) b

  leads_from : (t f : ℕ) (least closer : Option Face) (x : Face) → IsLeastCloser rows t f least → IsCloserFace rows (face_at t f) closer → (least ≡ Some x) ⊎ (closer ≡ Some x) → LeadsCloser rows t x
  leads_from t f least closer x h k (inl e) = (subst (IsLeastCloser rows t f) e h).0
  leads_from t f least closer x h k (inr e) = (subst (IsCloserFace rows (face_at t f)) e k).leads

  pub least_more : (t f : ℕ) (least closer next : Option Face) → IsLeastCloser rows t f least → IsCloserFace rows (face_at t f) closer → IsLeastOf least closer next → IsLeastCloser rows t (f + 1) next
  least_more t f least closer None h k m = λ i y l c. elim (cases_lt i f) [
    | inl less ↦ (subst (IsLeastCloser rows t f) m.0 h) i y less c
    | inr more ↦ let same : i ≡ f = omega arith in (subst (IsCloserFace rows (face_at t f)) m.1 k) y (subst (λ j. IsCloser rows (face_at t j) y) same c)
  ]
  least_more t f least closer (Some x) h k m = (leads_from t f least closer x h k m.0, not_after t f least closer x h k m.1 m.2)

module _ (rows : List Row) (table : IsTable rows) where
  -- ---- the face across a gluing

  pub closer_none : (marks : List (Option ℕ)) (x : Face) (g : Gluing) → AreDistances rows marks → glue rows x ≡ Some g → (IsOneLess (mark_of marks g.tet) (mark_of marks x.tet) → ⊥) → (y : Face) → IsCloser rows x y → ⊥
  closer_none marks x g a e never y h =
      let z : Some h.gluing ≡ Some g = sym h.glued ∙ e in
      let same : h.gluing ≡ g = cc in
      let tets : y.tet ≡ g.tet = ap (λ (w : Face). w.tet) (sym h.other) ∙ ap (λ (k : Gluing). k.tet) same in
      never (
        h.leads.distance,
        (a.reported g.tet h.leads.distance (table.in_range x g e)).1 (subst (λ u. IsDistance rows u h.leads.distance) tets h.leads.here),
        (a.reported x.tet (h.leads.distance + 1) (glued_tet rows x g e)).1 h.leads.there,
      )

  -- ---- each face of a closer tetrahedron that is glued to t is glued to one of the four faces of t

  record Across (t : ℕ) (x : Face) : Type 0 where
    face : ℕ
    small : face < 4
    closer : IsCloser rows (face_at t face) x

  behind : (t : ℕ) (x : Face) → LeadsCloser rows t x → Across t x
  behind t x h = record {
    face = image h.gluing.perm x.face;
    small = glued_face rows (other_side x h.gluing) (inverse_gluing x h.gluing) table.four_faces (table.leads_back x h.gluing h.glued);
    closer = record {
      gluing = inverse_gluing x h.gluing;
      glued = subst (λ u. glue rows (face_at u (image h.gluing.perm x.face)) ≡ Some (inverse_gluing x h.gluing)) h.to (table.leads_back x h.gluing h.glued);
      other = λ i. record { tet = x.tet; face = image-of_inverse h.gluing.perm x.face (table.permutes x h.gluing h.glued) (glued_face rows x h.gluing table.four_faces h.glued) i };
      leads = h;
    };
  }

  tree_face_at : (t : ℕ) (least : Option Face) → IsConnected rows → t < length rows → IsLeastCloser rows t 4 least → IsTreeFaceAt rows t least
  tree_face_at t None connected l h = elim (cases_eq t 0) [
    | inl z ↦ z
    | inr n ↦ let x = tree_face_of rows table connected t l (omega arith) in let b = behind t x.0 x.1.leads in absurd (h b.face x.0 b.small b.closer)
  ]
  tree_face_at t (Some x) connected l h = record { leads = h.0; least = λ y k. let b = behind t y k in h.1 b.face y b.small b.closer }

  pub closer_tree : IsConnected rows → (faces : List (Option Face)) → AreLeastCloser rows faces → IsTree rows faces
  closer_tree connected faces h = record { one_each = h.one_each; reported = λ t l. tree_face_at t _ connected l (h.reported t l) }
