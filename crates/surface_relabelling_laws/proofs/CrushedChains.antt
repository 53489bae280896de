-- The chain through removed tetrahedra from the image of a face is the image of the chain from the face.
use Rattle.std.proofs.Common.{◌≡◌, ℕ, zero, suc, ◌<◌, Bool, true, List, [], length, Option, Some, None, refl, sym, ap, ◌∙◌, subst}
use Rattle.std.specs.Prelude.{not, option_map, slice_index}
use Rattle.std.specs.List.{list_all, slice_index_or}
use Rattle.std.proofs.lemmas.Bool.{agree_below, agree_below_at}
use Rattle.cone_definitions.specs.Surfaces.{IsAdmissible}
use Rattle.table_definitions.specs.Lists.{same_list}
use Rattle.table_definitions.specs.Permutation.{IsPermutationOfFour, words, image, inverse, compose}
use Rattle.table_definitions.specs.Relabelling.{Relabelling, IsRelabelling, Carries, relabelled_place, face_under, gluing_under}
use Rattle.table_definitions.specs.Table.{Gluing, Row, Face, glue, IsTable}
use Rattle.table_definitions.proofs.Carried.{perm_permutes, carried_image}
use Rattle.table_definitions.proofs.Faces.{face_at, gluing_to}
use Rattle.table_definitions.proofs.ListFacts.{same_list-true}
use Rattle.table_definitions.proofs.Permutations.{by_words, image_below, compose_permutes, compose-compose, identity-compose, inverse-compose, inverse_permutes}
use Rattle.surface_definitions.specs.Coordinates.{clash_list}
use Rattle.surface_definitions.specs.Crushing.{is_removed, partner_in, exchange, passed, ChainEnds, CrushesTo}
use Rattle.surface_definitions.specs.declared.Coords.TheVariants.{Standard}
use Rattle.surface_laws.proofs.Glued.{glued_is}
use Rattle.surface_laws.proofs.Turns.{turned_at, exchange_is}
use Rattle.surface_relabelling_laws.proofs.Columns.{IsCarried}
use Rattle.surface_relabelling_laws.proofs.QuadTypes.{removed_under, partner_in_under}

-- a transposition, after or before a permutation
exchanged : List ℕ → ℕ → ℕ → Bool
exchanged r v w = same_list (compose (exchange (image r v) (image r w)) r) (compose r (exchange v w))

all_exchanged : list_all (λ r. agree_below (λ v. agree_below (exchanged r v) (λ w. true) 4) (λ v. true) 4) words ≡ true
unfolding exchanged compose
all_exchanged = refl

exchange_under : (r : List ℕ) (v w : ℕ) → IsPermutationOfFour r → v < 4 → w < 4 → compose (exchange (image r v) (image r w)) r ≡ compose r (exchange v w)
unfolding exchanged
exchange_under r v w h lv lw =
    same_list-true (compose (exchange (image r v) (image r w)) r) (compose r (exchange v w))
    (agree_below_at (exchanged r v) (λ w. true) 4 w
    (agree_below_at (λ v. agree_below (exchanged r v) (λ w. true) 4) (λ v. true) 4 v (by_words (λ r. agree_below (λ v. agree_below (exchanged r v) (λ w. true) 4) (λ v. true) 4) all_exchanged r h) lv) lw)

-- the permutation of a passage, from images to images
through : (q h r g s e f : List ℕ) → IsPermutationOfFour q → IsPermutationOfFour h → IsPermutationOfFour r → IsPermutationOfFour g → IsPermutationOfFour s → IsPermutationOfFour e → IsPermutationOfFour f
    → compose f r ≡ compose r e
    → compose (compose q (compose h (inverse r))) (compose f (compose r (compose g (inverse s)))) ≡ compose q (compose (compose h (compose e g)) (inverse s))
through q h r g s e f hq hh hr hg hs he hf over =
    let i = inverse_permutes r hr in
    let z = inverse_permutes s hs in
    let x : List ℕ = compose g (inverse s) in
    let hx = compose_permutes g (inverse s) hg z in
    let ex = compose_permutes e (compose g (inverse s)) he hx in
    let inner : compose f (compose r (compose g (inverse s))) ≡ compose r (compose e (compose g (inverse s))) =
    sym (compose-compose f r (compose g (inverse s)) hf hr hx) ∙ ap (λ y. compose y (compose g (inverse s))) over ∙ compose-compose r e (compose g (inverse s)) hr he hx in
    let back : compose (inverse r) (compose r (compose e (compose g (inverse s)))) ≡ compose e (compose g (inverse s)) =
    sym (compose-compose (inverse r) r (compose e (compose g (inverse s))) i hr ex) ∙ ap (λ y. compose y (compose e (compose g (inverse s)))) (inverse-compose r hr) ∙ identity-compose (compose e (compose g (inverse s))) ex in
    let left : compose (compose q (compose h (inverse r))) (compose r (compose e (compose g (inverse s)))) ≡ compose q (compose h (compose e (compose g (inverse s)))) =
    compose-compose q (compose h (inverse r)) (compose r (compose e (compose g (inverse s)))) hq (compose_permutes h (inverse r) hh i) (compose_permutes r (compose e (compose g (inverse s))) hr ex)
    ∙ ap (compose q) (compose-compose h (inverse r) (compose r (compose e (compose g (inverse s)))) hh i (compose_permutes r (compose e (compose g (inverse s))) hr ex) ∙ ap (compose h) back) in
    let right : compose q (compose (compose h (compose e g)) (inverse s)) ≡ compose q (compose h (compose e (compose g (inverse s)))) =
    ap (compose q) (compose-compose h (compose e g) (inverse s) hh (compose_permutes e g he hg) z ∙ ap (compose h) (compose-compose e g (inverse s) he hg z)) in
    ap (compose (compose q (compose h (inverse r)))) inner ∙ left ∙ sym right

module _ (rows new : List Row) (by : Relabelling) (table : IsTable rows) (is : IsRelabelling (length rows) by) (carries : Carries by rows new) (xs ys : List ℕ) (carried : IsCarried Standard (length rows) by xs ys)
    (admissible : IsAdmissible (clash_list Standard (length rows)) xs) (x : Face) (lt : x.tet < length rows) (lf : x.face < 4) where
  abbrev perm : ℕ → List ℕ
  perm t = slice_index_or by.perms t []

  -- the image of what the face is glued by, directly or by a chain
  abbrev under : Gluing → Gluing
  under g = gluing_under (relabelled_place by x.tet) (relabelled_place by g.tet) g

  abbrev from_image : Face
  from_image = face_under (relabelled_place by x.tet) x

  -- the gluing by which a chain has come
  record Reached (g : Gluing) : Type 0 where
    tet : g.tet < length rows
    permutes : IsPermutationOfFour g.perm

  fine : (t : ℕ) → t < length rows → IsPermutationOfFour (perm t)
  fine t l = perm_permutes (length rows) by is t l

  abbrev at : Gluing → ℕ
  at g = image g.perm x.face

  abbrev turn : Gluing → ℕ
  turn g = partner_in xs g.tet (at g)

  at_below : (g : Gluing) → Reached g → at g < 4
  at_below g r = image_below g.perm r.permutes x.face lf

  turn_below : (g : Gluing) → Reached g → is_removed xs g.tet ≡ true → turn g < 4
  turn_below g r gone = (turned_at xs g.tet (at g) gone (at_below g r)).below

  abbrev further : Gluing → Gluing → Gluing
  further g h = gluing_to h.tet (compose h.perm (compose (exchange (at g) (turn g)) g.perm))

  further_reached : (g h : Gluing) → Reached g → is_removed xs g.tet ≡ true → glue rows (face_at g.tet (turn g)) ≡ Some h → Reached (further g h)
  further_reached g h r gone e =
      let a = glued_is rows (face_at g.tet (turn g)) h table e in
      let backwards = compose_permutes (exchange (at g) (turn g)) g.perm (exchange_is (at g) (turn g) (at_below g r) (turn_below g r gone)).permutes r.permutes in
      record { tet = a.other_tet; permutes = compose_permutes h.perm (compose (exchange (at g) (turn g)) g.perm) a.permutes backwards }

  -- the image of a passage is the passage of the image
  at_under : (g : Gluing) → Reached g → image (under g).perm from_image.face ≡ image (perm g.tet) (at g)
  at_under g r = carried_image (perm x.tet) (perm g.tet) g.perm x.face (fine x.tet lt) (fine g.tet r.tet) r.permutes lf

  turn_under : (g : Gluing) → Reached g → is_removed xs g.tet ≡ true → partner_in ys (under g).tet (image (under g).perm from_image.face) ≡ image (perm g.tet) (turn g)
  turn_under g r gone = ap (partner_in ys (under g).tet) (at_under g r) ∙ partner_in_under (length rows) by is xs ys carried admissible g.tet (at g) r.tet (at_below g r) gone

  abbrev beyond : Gluing → ℕ → ℕ → Gluing → Gluing
  beyond g v w h = gluing_to h.tet (compose h.perm (compose (exchange v w) g.perm))

  further_under : (g h : Gluing) → Reached g → is_removed xs g.tet ≡ true → glue rows (face_at g.tet (turn g)) ≡ Some h
      → beyond (under g) (image (perm g.tet) (at g)) (image (perm g.tet) (turn g)) (gluing_under (relabelled_place by g.tet) (relabelled_place by h.tet) h) ≡ under (further g h)
  further_under g h r gone e =
      let a = glued_is rows (face_at g.tet (turn g)) h table e in
      let p = fine g.tet r.tet in
      let lv = at_below g r in
      let lw = turn_below g r gone in
      ap (gluing_to (slice_index by.images h.tet))
      (through (perm h.tet) h.perm (perm g.tet) g.perm (perm x.tet) (exchange (at g) (turn g)) (exchange (image (perm g.tet) (at g)) (image (perm g.tet) (turn g)))
      (fine h.tet a.other_tet) a.permutes p r.permutes (fine x.tet lt) (exchange_is (at g) (turn g) lv lw).permutes
      (exchange_is (image (perm g.tet) (at g)) (image (perm g.tet) (turn g)) (image_below (perm g.tet) p (at g) lv) (image_below (perm g.tet) p (turn g) lw)).permutes
      (exchange_under (perm g.tet) (at g) (turn g) p lv lw))

  passed_under : (g : Gluing) → Reached g → is_removed xs g.tet ≡ true → passed new ys from_image (under g) ≡ option_map under (passed rows xs x g)
  passed_under g r gone =
      (λ i. option_map (beyond (under g) (at_under g r i) (turn_under g r gone i)) (glue new (face_at (under g).tet (turn_under g r gone i))))
      ∙ ap (option_map (beyond (under g) (image (perm g.tet) (at g)) (image (perm g.tet) (turn g)))) (carries.glued (face_at g.tet (turn g)) r.tet (turn_below g r gone))
      ∙ go (glue rows (face_at g.tet (turn g))) refl
    where
      go : (o : Option Gluing) → glue rows (face_at g.tet (turn g)) ≡ o
          → option_map (beyond (under g) (image (perm g.tet) (at g)) (image (perm g.tet) (turn g))) (option_map (λ h. gluing_under (relabelled_place by g.tet) (relabelled_place by h.tet) h) o)
          ≡ option_map under (option_map (beyond g (at g) (turn g)) o)
      go None e = refl
      go (Some h) e = ap Some (further_under g h r gone e)

  -- what a chain has come by
  abbrev AreReached : Option Gluing → Type 0
  AreReached o = (g : Gluing) → o ≡ Some g → Reached g

  passed_reached : (g : Gluing) → Reached g → is_removed xs g.tet ≡ true → AreReached (passed rows xs x g)
  passed_reached g r gone h e = go (glue rows (face_at g.tet (turn g))) refl e
    where
      go : (o : Option Gluing) → glue rows (face_at g.tet (turn g)) ≡ o → option_map (beyond g (at g) (turn g)) o ≡ Some h → Reached h
      go None f s = absurd cc
      go (Some k) f s = let same : further g k ≡ h = cc in subst Reached same (further_reached g k r gone f)

  ends_under : (n : ℕ) (o end : Option Gluing) → AreReached o → ChainEnds rows xs x n o end → ChainEnds new ys from_image n (option_map under o) (option_map under end)
  ends_under zero None end r c = ap (option_map under) c
  ends_under zero (Some g) end r c = (ap not (removed_under (length rows) by is xs ys carried g.tet (r g refl).tet) ∙ c.0, ap (option_map under) c.1)
  ends_under (suc n) None end r c = c
  ends_under (suc n) (Some g) end r c =
      let a = r g refl in (
        removed_under (length rows) by is xs ys carried g.tet a.tet ∙ c.0,
        subst (λ (o : Option Gluing). ChainEnds new ys from_image n o (option_map under end)) (sym (passed_under g a c.0)) (ends_under n (passed rows xs x g) end (passed_reached g a c.0) c.1),
      )

  pub chain_under : (end : Option Gluing) → CrushesTo rows xs x end → CrushesTo new ys from_image (option_map under end)
  chain_under end (n, c) = (
    n,
    subst (λ (o : Option Gluing). ChainEnds new ys from_image n o (option_map under end)) (sym (carries.glued x lt lf))
        (ends_under n (glue rows x) end (λ g e. let a = glued_is rows x g table e in record { tet = a.other_tet; permutes = a.permutes }) c),
  )
