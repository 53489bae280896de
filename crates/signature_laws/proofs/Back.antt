-- The inverse of a relabelling, and one relabelling after another.
use Rattle.std.proofs.Common.{◌≡◌, ℕ, ◌<◌, List, [], length, Option, Some, None, refl, sym, ap, ◌∙◌, subst, arith}
use Rattle.std.specs.Prelude.{option_map, slice_index}
use Rattle.std.specs.List.{slice_index_or}
use Rattle.table_definitions.specs.Permutation.{IsPermutationOfFour, image, inverse, compose}
use Rattle.table_definitions.specs.Table.{Gluing, Row, Face, IsTable, glue}
use Rattle.table_definitions.specs.Relabelling.{Relabelling, IsRelabelling, Carries, relabelled_place, face_under, gluing_under}
use Rattle.table_definitions.proofs.Permutations.{carried_twice, image_below, image-compose, preimage-image, image-inverse, inverse_permutes, compose_permutes}
use Rattle.table_definitions.proofs.Carried.{stands_for, image_in_range, perm_permutes, comes_from, images_apart, RepresentsFacet}
use Rattle.table_definitions.proofs.Faces.{face_at}
use Rattle.table_definitions.proofs.Carried.{carried_and_back}
use Rattle.signature_laws.specs.Between.{place_of, back_of, inverted, after_of, after}
use Rattle.signature_laws.proofs.Standing.{made_stands, HasFacetImage, made_relabelling, place_of-image}

-- the inverse maps the image of t back to t
pub inverted_stands : (n : ℕ) (by : Relabelling) → IsRelabelling n by → (t : ℕ) → t < n
    → relabelled_place (inverted n by) (slice_index by.images t) ≡ record { tet = t; perm = inverse (slice_index_or by.perms t []) }
inverted_stands n by h t l =
    let e : place_of by (slice_index by.images t) ≡ t = place_of-image n by h t l in
    made_stands n (back_of by) (slice_index by.images t) (image_in_range n by h t l) ∙ (λ i. record { tet = e i; perm = inverse (slice_index_or by.perms (e i) []) })

can_go_back : (n : ℕ) (by : Relabelling) → IsRelabelling n by → HasFacetImage n (back_of by)
can_go_back n by h = record {
  in_range = λ u l. let p = place u l in let q = p.1 in let r = p.2 in omega (arith, q, r);
  separate = λ u v l m e. (place u l).3 ∙ ap (slice_index by.images) (sym (place u l).2 ∙ e ∙ (place v m).2) ∙ sym (place v m).3;
  permutes = λ u l. let p = place u l in inverse_permutes _ (subst (λ t. IsPermutationOfFour (slice_index_or by.perms t [])) (sym p.2) (perm_permutes n by h p.0 p.1));
}
  where
    place : (u : ℕ) → u < n → (t : ℕ) × (t < n) × (place_of by u ≡ t) × (u ≡ slice_index by.images t)
    place u l =
        let p = comes_from n by h u l in
        (p.0, p.1, ap (place_of by) (sym p.2) ∙ place_of-image n by h p.0 p.1, sym p.2)

pub inverted_relabelling : (n : ℕ) (by : Relabelling) → IsRelabelling n by → IsRelabelling n (inverted n by)
inverted_relabelling n by h = made_relabelling n (back_of by) (can_go_back n by h)

pub carries_back : (rows new : List Row) (by : Relabelling) → IsTable rows → IsRelabelling (length rows) by → Carries by rows new → Carries (inverted (length rows) by) new rows
carries_back rows new by table h c = record {
  same_length = sym c.same_length;
  four_faces = table.four_faces;
  glued = λ y lt lf. glued_at y (let e = c.same_length in omega (arith, e)) lf;
}
  where
    n : ℕ
    n = length rows

    back_at : (x : Face) → x.tet < n → x.face < 4
        → glue rows (face_under (relabelled_place (inverted n by) (slice_index by.images x.tet)) (face_under (relabelled_place by x.tet) x))
        ≡ option_map (λ g. gluing_under (relabelled_place (inverted n by) (slice_index by.images x.tet)) (relabelled_place (inverted n by) g.tet) g) (glue new (face_under (relabelled_place by x.tet) x))
    back_at x lt lf =
        let s : List ℕ = slice_index_or by.perms x.tet [] in
        let hs : IsPermutationOfFour s = perm_permutes n by h x.tet lt in
        let here = inverted_stands n by h x.tet lt in
        let home : image (inverse s) (image s x.face) ≡ x.face = image-inverse s (image s x.face) (image_below s hs x.face lf) ∙ preimage-image s hs x.face lf in
        ap (λ (g : Gluing). glue rows (face_under g (face_under (relabelled_place by x.tet) x))) here ∙ ap (λ f. glue rows (face_at x.tet f)) home
        ∙ cases (glue rows x) refl
        ∙ ap (λ (b : Gluing). option_map (λ (g : Gluing). gluing_under b (relabelled_place (inverted n by) g.tet) g) (glue new (face_under (relabelled_place by x.tet) x))) (sym here)
      where
        cases : (o : Option Gluing) → glue rows x ≡ o
            → glue rows x ≡ option_map (λ (g : Gluing). gluing_under (record { tet = x.tet; perm = inverse (slice_index_or by.perms x.tet []) }) (relabelled_place (inverted n by) g.tet) g) (glue new (face_under (relabelled_place by x.tet) x))
        cases None e = rw (c.glued x lt lf, e) refl
        cases (Some g) e = rw (c.glued x lt lf, e) (ap (λ (k : Gluing). Some k) (sym (again g e)))
          where
            again : (g : Gluing) → glue rows x ≡ Some g
                → gluing_under (record { tet = x.tet; perm = inverse (slice_index_or by.perms x.tet []) }) (relabelled_place (inverted n by) (slice_index by.images g.tet)) (gluing_under (relabelled_place by x.tet) (relabelled_place by g.tet) g) ≡ g
            again g e =
                let m : g.tet < n = table.in_range x g e in
                let s : List ℕ = slice_index_or by.perms x.tet [] in
                let r : List ℕ = slice_index_or by.perms g.tet [] in
                let p : compose (inverse r) (compose (compose r (compose g.perm (inverse s))) (inverse (inverse s))) ≡ g.perm = carried_and_back s r g.perm (perm_permutes n by h x.tet lt) (perm_permutes n by h g.tet m) (table.permutes x g e) in
                ap (λ (b : Gluing). gluing_under (record { tet = x.tet; perm = inverse s }) b (gluing_under (relabelled_place by x.tet) (relabelled_place by g.tet) g)) (inverted_stands n by h g.tet m)
                ∙ (λ i. record { tet = g.tet; perm = p i })

    glued_at : (y : Face) → y.tet < n → y.face < 4
        → glue rows (face_under (relabelled_place (inverted n by) y.tet) y) ≡ option_map (λ g. gluing_under (relabelled_place (inverted n by) y.tet) (relabelled_place (inverted n by) g.tet) g) (glue new y)
    glued_at y lt lf =
        let q : (x : Face) × RepresentsFacet rows new by y x = stands_for rows new by h c y lt lf in
        subst (λ (z : Face). glue rows (face_under (relabelled_place (inverted n by) z.tet) z) ≡ option_map (λ g. gluing_under (relabelled_place (inverted n by) z.tet) (relabelled_place (inverted n by) g.tet) g) (glue new z)) q.1.is
        (back_at q.0 q.1.tet q.1.face)

-- one relabelling, and then another
pub after_stands : (n : ℕ) (second first : Relabelling) (t : ℕ) → t < n → relabelled_place (after n second first) t ≡ after_of second first t
after_stands n second first t l = made_stands n (after_of second first) t l

pub after_relabelling : (n : ℕ) (second first : Relabelling) → IsRelabelling n second → IsRelabelling n first → IsRelabelling n (after n second first)
after_relabelling n second first h k = made_relabelling n (after_of second first) (record {
  in_range = λ t l. image_in_range n second h (slice_index first.images t) (image_in_range n first k t l);
  separate = λ t u l m e. images_apart n first k t u l m (images_apart n second h (slice_index first.images t) (slice_index first.images u) (image_in_range n first k t l) (image_in_range n first k u m) e);
  permutes = λ t l. compose_permutes (slice_index_or second.perms (slice_index first.images t) []) (slice_index_or first.perms t []) (perm_permutes n second h (slice_index first.images t) (image_in_range n first k t l)) (perm_permutes n first k t l);
})

pub carries_on : (rows next last : List Row) (second first : Relabelling) → IsTable rows → IsRelabelling (length rows) second → IsRelabelling (length rows) first → Carries first rows next → Carries second next last
    → Carries (after (length rows) second first) rows last
carries_on rows next last second first table h k c d = record {
  same_length = d.same_length ∙ c.same_length;
  four_faces = d.four_faces;
  glued = λ x lt lf. glued_at x lt lf;
}
  where
    n : ℕ
    n = length rows

    both : ℕ → Gluing
    both t = relabelled_place (after n second first) t

    glued_at : (x : Face) → x.tet < n → x.face < 4 → glue last (face_under (both x.tet) x) ≡ option_map (λ g. gluing_under (both x.tet) (both g.tet) g) (glue rows x)
    glued_at x lt lf =
        let here : both x.tet ≡ after_of second first x.tet = after_stands n second first x.tet lt in
        let p1 : List ℕ = slice_index_or first.perms x.tet [] in
        let p2 : List ℕ = slice_index_or second.perms (slice_index first.images x.tet) [] in
        let h1 : IsPermutationOfFour p1 = perm_permutes n first k x.tet lt in
        let long = c.same_length in
        let m : slice_index first.images x.tet < n = image_in_range n first k x.tet lt in
        let m' : slice_index first.images x.tet < length next = omega (arith, long) in
        ap (λ (b : Gluing). glue last (face_under b x)) here
        ∙ ap (λ f. glue last (face_at (slice_index second.images (slice_index first.images x.tet)) f)) (image-compose p2 p1 h1 x.face lf)
        ∙ d.glued (face_under (relabelled_place first x.tet) x) m' (image_below p1 h1 x.face lf)
        ∙ cases (glue rows x) refl
      where
        cases : (o : Option Gluing) → glue rows x ≡ o
            → option_map (λ (g : Gluing). gluing_under (relabelled_place second (slice_index first.images x.tet)) (relabelled_place second g.tet) g) (glue next (face_under (relabelled_place first x.tet) x)) ≡ option_map (λ g. gluing_under (both x.tet) (both g.tet) g) (glue rows x)
        cases None e = rw (c.glued x lt lf, e) refl
        cases (Some g) e = rw (c.glued x lt lf, e) (ap (λ (j : Gluing). Some j) (twice g e))
          where
            twice : (g : Gluing) → glue rows x ≡ Some g
                → gluing_under (relabelled_place second (slice_index first.images x.tet)) (relabelled_place second (slice_index first.images g.tet)) (gluing_under (relabelled_place first x.tet) (relabelled_place first g.tet) g) ≡ gluing_under (both x.tet) (both g.tet) g
            twice g e =
                let m : g.tet < n = table.in_range x g e in
                let s : List ℕ = slice_index_or first.perms x.tet [] in
                let r : List ℕ = slice_index_or first.perms g.tet [] in
                let t : List ℕ = slice_index_or second.perms (slice_index first.images x.tet) [] in
                let u : List ℕ = slice_index_or second.perms (slice_index first.images g.tet) [] in
                let p = carried_twice s r t u g.perm (perm_permutes n first k x.tet lt) (perm_permutes n first k g.tet m) (perm_permutes n second h (slice_index first.images x.tet) (image_in_range n first k x.tet lt))
                (perm_permutes n second h (slice_index first.images g.tet) (image_in_range n first k g.tet m)) (table.permutes x g e) in
                let there = after_stands n second first g.tet m in
                let here = after_stands n second first x.tet lt in
                (λ i. record { tet = slice_index second.images (slice_index first.images g.tet); perm = p i })
                ∙ ap (λ (b : Gluing). gluing_under (after_of second first x.tet) b g) (sym there) ∙ ap (λ (b : Gluing). gluing_under b (both g.tet) g) (sym here)
