-- Sums over the faces of a table: over their images under a relabelling, and over the faces across them.
use Rattle.std.proofs.Common.{◌≡◌, ℕ, ◌+◌, ◌*◌, ◌<◌, Bool, true, false, List, [], ◌∷◌, length, map, filter, Option, Some, None, inl, inr, ◌⊎◌, refl, sym, ap, ◌∙◌, subst, arith}
use Rattle.std.specs.Prelude.{◌==◌, not, sum_by}
use Rattle.std.specs.List.{slice_index_or}
use Rattle.basic_lemmas.proofs.Truths.{one_if}
use Rattle.table_definitions.specs.Lists.{below, pairs_of}
use Rattle.table_definitions.specs.Permutation.{IsPermutationOfFour, four, others, image, preimage}
use Rattle.table_definitions.specs.Table.{Gluing, Row, Face, glue, other_side, is_face_before, faces, IsTable}
use Rattle.table_definitions.specs.Relabelling.{Relabelling, IsRelabelling, Carries, relabelled_place, face_under}
use Rattle.table_definitions.proofs.Carried.{stands_for, image_in_range, images_apart as tets_apart, perm_permutes}
use Rattle.table_definitions.proofs.DistinctLists.{AreApart, apart_append, apart_below, apart_filter, map_apart}
use Rattle.table_definitions.proofs.Faces.{face_at, not_both_before}
use Rattle.table_definitions.proofs.Listed.{map-among, pairs-among, faces-among, Among-others}
use Rattle.table_definitions.proofs.PermutationLaws.{images_apart}
use Rattle.table_definitions.proofs.Permutations.{image_below, preimage_below, image-preimage, preimage-image}
use Rattle.table_definitions.proofs.TableLaws.{Among, Among-faces}
use Rattle.skeleton_definitions.specs.Links.{is_first_side}
use Rattle.surface_laws.proofs.Counting.{sum_by_same}
use Rattle.surface_laws.proofs.Glued.{IsGlued, glued_is}
use Rattle.surface_laws.proofs.Matched.{before_or_after}
use Rattle.surface_laws.proofs.Solved.{other_is}
use Rattle.surface_laws.proofs.Sums.{sum_by_plus}
use Rattle.skeleton_laws.proofs.Sums.{sum_by-filter}
use Rattle.surface_relabelling_laws.proofs.Members.{AreImages, images_sum}

apart_pairs : {A B : Type 0} (xs : List A) (ys : List B) → AreApart xs → AreApart ys → AreApart (pairs_of xs ys)
apart_pairs [] ys a b = tt
apart_pairs {A} {B} (x ∷ xs) ys a b = apart_append (map pair ys) (pairs_of xs ys)
    (map_apart pair ys b (λ y z m n e. ap (λ (q : A × B). q.1) e))
    (apart_pairs xs ys a.1 b)
    (λ q m n. (let one = map-among pair q ys m in let other = pairs-among {A = A} {B = B} q xs ys n in a.0 (subst (λ (z : A). Among z xs) (ap (λ (r : A × B). r.0) one.2) other.0)))
  where
    pair : B → A × B
    pair y = (x, y)

pub apart_faces : (n : ℕ) → AreApart (faces n)
apart_faces n = map_apart (λ (p : ℕ × ℕ). face_at p.0 p.1) (pairs_of (below n) four) (apart_pairs (below n) four (apart_below n) (apart_below 4))
    (λ p q a b e. (λ i. ((e i).tet, (e i).face)))

-- the other vertices of a tetrahedron under a permutation
pub others_images : (p : List ℕ) (f : ℕ) → IsPermutationOfFour p → f < 4 → AreImages (image p) (others f) (others (image p f))
others_images p f h lf = record {
  separate = apart_filter (λ v. not (v == f)) four (apart_below 4);
  others_apart = apart_filter (λ v. not (v == image p f)) four (apart_below 4);
  into = λ v a. (let o = other_is f v a in Among-others (image p f) (image p v) (image_below p h v o.0) (images_apart p v f h o.0 lf o.1));
  once = λ v w a b e. sym (preimage-image p h v (other_is f v a).0) ∙ ap (preimage p) e ∙ preimage-image p h w (other_is f w b).0;
  from = λ w a. (let o = other_is (image p f) w a in
      (preimage p w, Among-others f (preimage p w) (preimage_below p h w o.0) (λ e. o.1 (sym (image-preimage p h w o.0) ∙ ap (image p) e)), image-preimage p h w o.0));
}

-- ---- the faces under a relabelling

module _ (rows : List Row) (new : List Row) (by : Relabelling) (is : IsRelabelling (length rows) by) (carries : Carries by rows new) where
  abbrev pub under : Face → Face
  under x = face_under (relabelled_place by x.tet) x

  pub faces_images : AreImages under (faces (length rows)) (faces (length new))
  faces_images = record {
    separate = apart_faces (length rows);
    others_apart = apart_faces (length new);
    into = λ x a. (let f = faces-among x (length rows) a in
        Among-faces (under x) (length new) (let e = carries.same_length in let l = image_in_range (length rows) by is x.tet f.0 in omega arith)
        (image_below (slice_index_or by.perms x.tet []) (perm_permutes (length rows) by is x.tet f.0) x.face f.1));
    once = λ x z a b e.
        let f = faces-among x (length rows) a in
        let g = faces-among z (length rows) b in
        let tets : x.tet ≡ z.tet = tets_apart (length rows) by is x.tet z.tet f.0 g.0 (ap (λ (y : Face). y.tet) e) in
        let p : List ℕ = slice_index_or by.perms x.tet [] in
        let h : IsPermutationOfFour p = perm_permutes (length rows) by is x.tet f.0 in
        let there : image p x.face ≡ image p z.face = ap (λ (y : Face). y.face) e ∙ (λ i. image (slice_index_or by.perms (sym tets i) []) z.face) in
        let same : x.face ≡ z.face = sym (preimage-image p h x.face f.1) ∙ ap (preimage p) there ∙ preimage-image p h z.face g.1 in
        λ i. face_at (tets i) (same i);
    from = λ y a.
        let f = faces-among y (length new) a in
        let s = stands_for rows new by is carries y (let e = carries.same_length in let l = f.0 in omega arith) f.1 in
        (s.0, Among-faces s.0 (length rows) (s.1).tet (s.1).face, (s.1).is);
  }

-- ---- the face across a face

-- the face across x, and x itself if it is a boundary face
unfoldable pub beyond : Face → Option Gluing → Face
beyond x None = x
beyond x (Some g) = other_side x g

-- how many sides of a face have discs: two faces that are glued are one
unfoldable pub sides_of : Option Gluing → ℕ
sides_of None = 2
sides_of (Some g) = 1

module _ (rows : List Row) (table : IsTable rows) where
  abbrev pub across : Face → Face
  across x = beyond x (glue rows x)

  record Crosses (x : Face) : Type 0 where
    tet : (across x).tet < length rows
    face : (across x).face < 4
    back : across (across x) ≡ x
    sides : one_if (is_first_side x (glue rows x)) + one_if (is_first_side (across x) (glue rows (across x))) ≡ sides_of (glue rows x)

  one_of : (a b : Bool) → (a ≡ true) ⊎ (b ≡ true) → (a ≡ true → b ≡ true → ⊥) → one_if a + one_if b ≡ 1
  one_of true true h n = absurd (n refl refl)
  one_of true false h n = refl
  one_of false true h n = refl
  one_of false false h n = elim h [ inl e ↦ absurd cc | inr e ↦ absurd cc ]

  crosses : (x : Face) → x.tet < length rows → x.face < 4 → Crosses x
  unfolding beyond sides_of
  crosses x lt lf = by_glue (glue rows x) refl
    where
      by_glue : (o : Option Gluing) → glue rows x ≡ o → Crosses x
      by_glue None e =
          let stays : across x ≡ x = ap (beyond x) e in record {
            tet = subst (λ (y : Face). y.tet < length rows) (sym stays) lt;
            face = subst (λ (y : Face). y.face < 4) (sym stays) lf;
            back = ap across stays ∙ stays;
            sides = (λ i. one_if (is_first_side x (e i)) + one_if (is_first_side (stays i) (glue rows (stays i)))) ∙ (λ i. 1 + one_if (is_first_side x (e i))) ∙ ap sides_of (sym e);
          }
      by_glue (Some g) e =
          let a : IsGlued rows x g = glued_is rows x g table e in
          let goes : across x ≡ other_side x g = ap (beyond x) e in
          record {
            tet = subst (λ (y : Face). y.tet < length rows) (sym goes) a.other_tet;
            face = subst (λ (y : Face). y.face < 4) (sym goes) a.other_face;
            back = ap across goes ∙ ap (beyond (other_side x g)) a.back ∙ a.returns;
            sides = (λ i. one_if (is_first_side x (e i)) + one_if (is_first_side (goes i) (glue rows (goes i))))
                ∙ (λ i. one_if (is_face_before x (other_side x g)) + one_if (is_first_side (other_side x g) (a.back i)))
                ∙ (λ i. one_if (is_face_before x (other_side x g)) + one_if (is_face_before (other_side x g) (a.returns i)))
                ∙ one_of (is_face_before x (other_side x g)) (is_face_before (other_side x g) x) (before_or_after x (other_side x g) (table.separate x g e)) (not_both_before x (other_side x g))
                ∙ ap sides_of (sym e);
          }

  across_images : AreImages across (faces (length rows)) (faces (length rows))
  across_images = record {
    separate = apart_faces (length rows);
    others_apart = apart_faces (length rows);
    into = λ x a. (let f = faces-among x (length rows) a in let c = crosses x f.0 f.1 in Among-faces (across x) (length rows) c.tet c.face);
    once = λ x z a b e. (let f = faces-among x (length rows) a in let g = faces-among z (length rows) b in sym (crosses x f.0 f.1).back ∙ ap across e ∙ (crosses z g.0 g.1).back);
    from = λ y a. (let f = faces-among y (length rows) a in let c = crosses y f.0 f.1 in (across y, Among-faces (across y) (length rows) c.tet c.face, c.back));
  }

  -- twice a sum over the first sides, of what is the same on both sides
  pub twice_first : (w : Face → ℕ) → ((x : Face) → x.tet < length rows → x.face < 4 → w (across x) ≡ w x)
      → sum_by (λ x. sides_of (glue rows x) * w x) (faces (length rows)) ≡ 2 * sum_by w (filter (λ x. is_first_side x (glue rows x)) (faces (length rows)))
  twice_first w same =
      let b : Face → ℕ = λ x. one_if (is_first_side x (glue rows x)) * w x in
      let here : sum_by w (filter (λ x. is_first_side x (glue rows x)) (faces (length rows))) ≡ sum_by b (faces (length rows)) = sum_by-filter w (λ x. is_first_side x (glue rows x)) (faces (length rows)) in
      let there : sum_by b (faces (length rows)) ≡ sum_by (λ x. b (across x)) (faces (length rows)) = images_sum across (faces (length rows)) (faces (length rows)) (λ x. b (across x)) b across_images (λ x a. refl) in
      let both : sum_by (λ x. sides_of (glue rows x) * w x) (faces (length rows)) ≡ sum_by b (faces (length rows)) + sum_by (λ x. b (across x)) (faces (length rows)) =
      sum_by_same (λ x. sides_of (glue rows x) * w x) (λ x. b x + b (across x)) (faces (length rows)) (λ x a. each x (faces-among x (length rows) a))
      ∙ sum_by_plus b (λ x. b (across x)) (λ x. b x + b (across x)) (λ x. refl) (faces (length rows)) in
      omega arith
    where
      add : (a b c m n : ℕ) → a + b ≡ c → n ≡ m → c * m ≡ a * m + b * n
      add a b c m n e f = omega (arith, ap (λ k. k * m) e, ap (λ k. b * k) f)

      each : (x : Face) → (x.tet < length rows) × (x.face < 4)
          → sides_of (glue rows x) * w x ≡ one_if (is_first_side x (glue rows x)) * w x + one_if (is_first_side (across x) (glue rows (across x))) * w (across x)
      each x f = add (one_if (is_first_side x (glue rows x))) (one_if (is_first_side (across x) (glue rows (across x)))) (sides_of (glue rows x)) (w x) (w (across x)) (crosses x f.0 f.1).sides (same x f.0 f.1)
