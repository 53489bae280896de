-- A relabelling carries tables to tables.
use Rattle.std.proofs.Common.{◌≡◌, ℕ, ◌<◌, Bool, true, false, List, [], length, get_or, Option, Some, None, refl, sym, ap, ◌∙◌, subst, arith, inl, inr}
use Rattle.std.specs.Prelude.{◌⊎◌, ◌==◌, ◌&&◌, not, ◌≢◌, nat_eq, option_map, slice_index, All, Contains, IsPermutation, IsTrue}
use Rattle.std.specs.List.{slice_index_or, IsDistinct}
use Rattle.std.proofs.lemmas.List.Sorted.{IsPermutation-sym, length_permutation, All-permutation, Contains-permutation}
use Rattle.std.proofs.lemmas.List.Elements.{All-from_get_or, All-get_or}
use Rattle.std.proofs.lemmas.List.FromFn.{length-range_with_len, get_or-range_with_len}
use Rattle.std.proofs.lemmas.Map.Keys.{IsDistinct-IsPermutation}
use Rattle.std.proofs.lemmas.Map.Made.{AllPairs-from_IsDistinct}
use Rattle.std.proofs.lemmas.Bool.Decides.{Decides-eqb}
use Rattle.std.proofs.lemmas.Bool.{cases_eq, cases_lt, eqb-true, eq-eqb}
use Rattle.table_definitions.specs.Lists.{below}
use Rattle.table_definitions.specs.Permutation.{IsPermutationOfFour, image, preimage, inverse, compose}
use Rattle.table_definitions.specs.Table.{Gluing, Row, Face, glue, other_side, inverse_gluing, same_face, IsTable}
use Rattle.table_definitions.specs.Relabelling.{Relabelling, IsRelabelling, Carries, relabelled_place, face_under, gluing_under}
use Rattle.table_definitions.proofs.Permutations.{image_below, preimage_below, image-preimage, preimage-image, image-inverse, inverse_permutes, inverse-inverse, inverse-of-compose, inverse-compose, compose_permutes, compose-compose, compose-identity, identity-compose, image-compose}
use Rattle.table_definitions.proofs.Bijections.{below_contains, IsDistinct-from_before, get_or-any, flips}
use Rattle.table_definitions.proofs.TableLaws.{glued_tet, glued_face}
use Rattle.table_definitions.proofs.ListFacts.{both_true}

-- the images of the tetrahedra under a relabelling

below_at : (n i : ℕ) → i < n → get_or (below n) i 0 ≡ i
below_at n i l = get_or-range_with_len 0 n i 0 l ∙ omega arith

pub length-images : (n : ℕ) (by : Relabelling) → IsRelabelling n by → length by.images ≡ n
length-images n by h = sym (length_permutation by.images (below n) h.images) ∙ length-range_with_len 0 n

pub permutation_below : (n : ℕ) (images : List ℕ) → IsPermutation images (below n) → (t : ℕ) → t < length images → get_or images t 0 < n
permutation_below n images h t l =
    let all : All (λ v. v < n) images =
    All-permutation (λ v. v < n) (below n) images (IsPermutation-sym images (below n) h)
    (All-from_get_or (λ v. v < n) (below n) 0 (λ k m. (let m' : k < n = omega (arith, length-range_with_len 0 n) in rw (below_at n k m') m'))) in
    All-get_or (λ v. v < n) images t 0 l all

pub permutation_apart : (n : ℕ) (images : List ℕ) → IsPermutation images (below n) → (i j : ℕ) → i < j → j < length images → get_or images i 0 ≢ get_or images j 0
permutation_apart n images h i j l m = AllPairs-from_IsDistinct Decides-eqb images distinct i j 0 l m
  where
    distinct : IsDistinct nat_eq images
    distinct =
        IsDistinct-IsPermutation nat_eq flips (below n) images (IsPermutation-sym images (below n) h)
        (IsDistinct-from_before (below n) (λ i j l m e. absurd (let m' : j < n = omega (arith, length-range_with_len 0 n) in let a = below_at n i (omega arith) in let b = below_at n j m' in omega arith)))

pub image_in_range : (n : ℕ) (by : Relabelling) → IsRelabelling n by → (t : ℕ) → t < n → slice_index by.images t < n
image_in_range n by h t l = permutation_below n by.images h.images t (rw (length-images n by h) l)

pub perm_permutes : (n : ℕ) (by : Relabelling) → IsRelabelling n by → (t : ℕ) → t < n → IsPermutationOfFour (slice_index_or by.perms t [])
perm_permutes n by h t l = All-get_or IsPermutationOfFour by.perms t [] (rw h.perms l) h.permutes

pub comes_from : (n : ℕ) (by : Relabelling) → IsRelabelling n by → (u : ℕ) → u < n → (t : ℕ) × (t < n) × (slice_index by.images t ≡ u)
comes_from n by h u l = from (Contains-permutation (below n) by.images u (IsPermutation-sym by.images (below n) h.images) (below_contains n u l))
  where
    from : Contains by.images u → (t : ℕ) × (t < n) × (slice_index by.images t ≡ u)
    from (t, m, e) = (t, rw (← length-images n by h) m, get_or-any by.images t 0 u m ∙ e)

pub lesser : (a b : ℕ) → (a ≡ b → ⊥) → (a < b) ⊎ (b < a)
lesser a b d = elim (cases_lt a b) [ inl l ↦ inl l | inr l ↦ inr (omega arith) ]

pub images_apart : (n : ℕ) (by : Relabelling) → IsRelabelling n by → (t u : ℕ) → t < n → u < n → slice_index by.images t ≡ slice_index by.images u → t ≡ u
images_apart n by h t u lt lu e = by_order (cases_eq t u)
  where
    by_order : (t ≡ u) ⊎ (t ≡ u → ⊥) → t ≡ u
    by_order (inl s) = s
    by_order (inr d) = elim (lesser t u d) [ inl l ↦ absurd (permutation_apart n by.images h.images t u l (omega (arith, length-images n by h)) e) | inr l ↦ absurd (permutation_apart n by.images h.images u t l (omega (arith, length-images n by h)) (sym e)) ]

-- the permutation of the image of a gluing maps images to images

pub carried_image : (s r p : List ℕ) (f : ℕ) → IsPermutationOfFour s → IsPermutationOfFour r → IsPermutationOfFour p → f < 4
    → image (compose r (compose p (inverse s))) (image s f) ≡ image r (image p f)
carried_image s r p f hs hr hp l =
    let k : image s f < 4 = image_below s hs f l in
    let q = inverse_permutes s hs in
    image-compose r (compose p (inverse s)) (compose_permutes p (inverse s) hp q) (image s f) k
    ∙ ap (image r) (image-compose p (inverse s) q (image s f) k ∙ ap (image p) (image-inverse s (image s f) k ∙ preimage-image s hs f l))

pub carried_back : (s r p : List ℕ) → IsPermutationOfFour s → IsPermutationOfFour r → IsPermutationOfFour p
    → compose s (compose (inverse p) (inverse r)) ≡ inverse (compose r (compose p (inverse s)))
carried_back s r p hs hr hp =
    let qs = inverse_permutes s hs in
    let qr = inverse_permutes r hr in
    let qp = inverse_permutes p hp in
    let e1 = inverse-of-compose r (compose p (inverse s)) hr (compose_permutes p (inverse s) hp qs) in
    let e2 = inverse-of-compose p (inverse s) hp qs in
    let e3 = inverse-inverse s hs in
    sym (e1 ∙ ap (λ q. compose q (inverse r)) (e2 ∙ ap (λ q. compose q (inverse p)) e3) ∙ compose-compose s (inverse p) (inverse r) hs qp qr)

-- the image under the inverse of the image of a gluing is the gluing
pub carried_and_back : (s r p : List ℕ) → IsPermutationOfFour s → IsPermutationOfFour r → IsPermutationOfFour p
    → compose (inverse r) (compose (compose r (compose p (inverse s))) (inverse (inverse s))) ≡ p
carried_and_back s r p hs hr hp =
    let qs = inverse_permutes s hs in
    let qr = inverse_permutes r hr in
    let ps = compose_permutes p (inverse s) hp qs in
    let ends : compose (compose p (inverse s)) s ≡ p = compose-compose p (inverse s) s hp qs hs ∙ ap (compose p) (inverse-compose s hs) ∙ compose-identity p hp in
    ap (λ q. compose (inverse r) (compose (compose r (compose p (inverse s))) q)) (inverse-inverse s hs)
    ∙ ap (compose (inverse r)) (compose-compose r (compose p (inverse s)) s hr ps hs ∙ ap (compose r) ends)
    ∙ sym (compose-compose (inverse r) r p qr hr hp) ∙ ap (λ q. compose q p) (inverse-compose r hr) ∙ identity-compose p hp

-- a face of the new table, as the image of a face of the old one

pub record RepresentsFacet (rows new : List Row) (by : Relabelling) (y : Face) (x : Face) : Type 0 where
  pub tet : x.tet < length rows
  pub face : x.face < 4
  pub is : face_under (relabelled_place by x.tet) x ≡ y
  pub glued : glue new y ≡ option_map (λ g. gluing_under (relabelled_place by x.tet) (relabelled_place by g.tet) g) (glue rows x)

pub stands_for : (rows new : List Row) (by : Relabelling) → IsRelabelling (length rows) by → Carries by rows new → (y : Face) → y.tet < length rows → y.face < 4 → (x : Face) × RepresentsFacet rows new by y x
stands_for rows new by h c y lt lf = from (comes_from (length rows) by h y.tet lt)
  where
    from : (t : ℕ) × (t < length rows) × (slice_index by.images t ≡ y.tet) → (x : Face) × RepresentsFacet rows new by y x
    from (t, m, e) =
        let hs = perm_permutes (length rows) by h t m in
        let f : ℕ = preimage (slice_index_or by.perms t []) y.face in
        let lf' : f < 4 = preimage_below (slice_index_or by.perms t []) hs y.face lf in
        let x : Face = record { tet = t; face = f } in
        let mk : ℕ → ℕ → Face = λ a b. record { tet = a; face = b } in
        let same : face_under (relabelled_place by t) x ≡ y = ap (λ a. mk a (image (slice_index_or by.perms t []) f)) e ∙ ap (λ b. mk y.tet b) (image-preimage (slice_index_or by.perms t []) hs y.face lf) in
        (x, record { tet = m; face = lf'; is = same; glued = ap (glue new) (sym same) ∙ c.glued x m lf' })

-- a glued face of the new table, as the image of a glued face of the old one
pub record GluedFor (rows : List Row) (by : Relabelling) (y : Face) (g' : Gluing) : Type 0 where
  pub x : Face
  pub g : Gluing
  pub tet : x.tet < length rows
  pub face : x.face < 4
  pub is : face_under (relabelled_place by x.tet) x ≡ y
  pub glued : glue rows x ≡ Some g
  pub carried : gluing_under (relabelled_place by x.tet) (relabelled_place by g.tet) g ≡ g'

glued_for : (rows new : List Row) (by : Relabelling) → IsRelabelling (length rows) by → Carries by rows new → (y : Face) (g' : Gluing) → y.tet < length rows → y.face < 4 → glue new y ≡ Some g' → GluedFor rows by y g'
glued_for rows new by h c y g' lt lf e = from (stands_for rows new by h c y lt lf)
  where
    from : (x : Face) × RepresentsFacet rows new by y x → GluedFor rows by y g'
    from (x, st) = at (glue rows x) refl
      where
        at : (o : Option Gluing) → glue rows x ≡ o → GluedFor rows by y g'
        at None k = let z : None ≡ Some g' = sym (st.glued ∙ ap (option_map (λ (g : Gluing). gluing_under (relabelled_place by x.tet) (relabelled_place by g.tet) g)) k) ∙ e in cc
        at (Some g) k =
            let z : Some (gluing_under (relabelled_place by x.tet) (relabelled_place by g.tet) g) ≡ Some g' = sym (st.glued ∙ ap (option_map (λ (g : Gluing). gluing_under (relabelled_place by x.tet) (relabelled_place by g.tet) g)) k) ∙ e in
            record { x = x; g = g; tet = st.tet; face = st.face; is = st.is; glued = k; carried = cc }

-- the conditions on a glued face of a table
pub record IsGood (n : ℕ) (new : List Row) (y : Face) (g' : Gluing) : Type 0 where
  pub permutes : IsPermutationOfFour g'.perm
  pub in_range : g'.tet < n
  pub separate : IsTrue (not (same_face (other_side y g') y))
  pub leads_back : glue new (other_side y g') ≡ Some (inverse_gluing y g')

pub not_from : (b : Bool) → (b ≡ true → ⊥) → not b ≡ true
not_from true d = absurd (d refl)
not_from false d = refl

pub same_from : (a b c d : ℕ) → (a == b) && (c == d) ≡ true → (a ≡ b) × (c ≡ d)
same_from a b c d h = let t = both_true (a == b) (c == d) h in (eqb-true a b t.0, eqb-true c d t.1)

pub same_to : (a b c d : ℕ) → a ≡ b → c ≡ d → (a == b) && (c == d) ≡ true
same_to a b c d e f = rw (eq-eqb a b e, eq-eqb c d f) refl

good_carried : (rows new : List Row) (by : Relabelling) → IsTable rows → IsRelabelling (length rows) by → Carries by rows new → (x : Face) (g : Gluing) → x.tet < length rows → x.face < 4 → glue rows x ≡ Some g
    → IsGood (length rows) new (face_under (relabelled_place by x.tet) x) (gluing_under (relabelled_place by x.tet) (relabelled_place by g.tet) g)
good_carried rows new by table h c x g lt lf e = record {
  permutes = compose_permutes r (compose p (inverse s)) hr (compose_permutes p (inverse s) hp (inverse_permutes s hs));
  in_range = image_in_range (length rows) by h g.tet gt;
  separate = not_from _ never;
  leads_back = ap (glue new) over ∙ c.glued x' gt xf ∙ ap (option_map (λ (k : Gluing). gluing_under (relabelled_place by g.tet) (relabelled_place by k.tet) k)) (table.leads_back x g e) ∙ ap (λ q. Some (mkg (slice_index by.images x.tet) q)) (carried_back s r p hs hr hp);
}
  where
    mk : ℕ → ℕ → Face
    mk a b = record { tet = a; face = b }

    mkg : ℕ → List ℕ → Gluing
    mkg a q = record { tet = a; perm = q }

    s : List ℕ
    s = slice_index_or by.perms x.tet []

    r : List ℕ
    r = slice_index_or by.perms g.tet []

    p : List ℕ
    p = g.perm

    gt : g.tet < length rows
    gt = table.in_range x g e

    hs : IsPermutationOfFour s
    hs = perm_permutes (length rows) by h x.tet lt

    hr : IsPermutationOfFour r
    hr = perm_permutes (length rows) by h g.tet gt

    hp : IsPermutationOfFour p
    hp = table.permutes x g e

    x' : Face
    x' = other_side x g

    xf : image p x.face < 4
    xf = image_below p hp x.face lf

    goes : image (compose r (compose p (inverse s))) (image s x.face) ≡ image r (image p x.face)
    goes = carried_image s r p x.face hs hr hp lf

    over : other_side (face_under (relabelled_place by x.tet) x) (gluing_under (relabelled_place by x.tet) (relabelled_place by g.tet) g) ≡ face_under (relabelled_place by g.tet) (other_side x g)
    over = ap (mk (slice_index by.images g.tet)) goes

    never : same_face (other_side (face_under (relabelled_place by x.tet) x) (gluing_under (relabelled_place by x.tet) (relabelled_place by g.tet) g)) (face_under (relabelled_place by x.tet) x) ≡ true → ⊥
    never t =
        let q = same_from (slice_index by.images g.tet) (slice_index by.images x.tet) (image (compose r (compose p (inverse s))) (image s x.face)) (image s x.face) t in
        let tets : g.tet ≡ x.tet = images_apart (length rows) by h g.tet x.tet gt lt q.0 in
        let perms : r ≡ s = ap (λ i. slice_index_or by.perms i []) tets in
        let there : image s (image p x.face) ≡ image s x.face = ap (λ w. image w (image p x.face)) (sym perms) ∙ sym goes ∙ q.1 in
        let faces : image p x.face ≡ x.face = sym (preimage-image s hs (image p x.face) xf) ∙ ap (preimage s) there ∙ preimage-image s hs x.face lf in
        let same : same_face (other_side x g) x ≡ true = same_to g.tet x.tet (image p x.face) x.face tets faces in
        let separate = table.separate x g e in
        cc

pub carried_is_table : (rows new : List Row) (by : Relabelling) → IsTable rows → IsRelabelling (length rows) by → Carries by rows new → IsTable new
carried_is_table rows new by table h c = record {
  limited = rw c.same_length table.limited;
  four_faces = c.four_faces;
  permutes = λ y g' e. (good y g' e).permutes;
  in_range = λ y g' e. rw c.same_length (good y g' e).in_range;
  separate = λ y g' e. (good y g' e).separate;
  leads_back = λ y g' e. (good y g' e).leads_back;
}
  where
    good : (y : Face) (g' : Gluing) → glue new y ≡ Some g' → IsGood (length rows) new y g'
    good y g' e =
        let lt : y.tet < length rows = rw (← c.same_length) (glued_tet new y g' e) in
        let lf : y.face < 4 = glued_face new y g' c.four_faces e in
        let q : GluedFor rows by y g' = glued_for rows new by h c y g' lt lf e in
        let first = good_carried rows new by table h c q.x q.g q.tet q.face q.glued in
        let y0 : Face = face_under (relabelled_place by q.x.tet) q.x in
        let second : IsGood (length rows) new y0 g' = subst (λ (k : Gluing). IsGood (length rows) new y0 k) q.carried first in
        subst (λ (z : Face). IsGood (length rows) new z g') q.is second
