-- How a relabelling that carries a table to another one maps the faces of a traversal.
use Rattle.std.proofs.Common.{◌≡◌, ℕ, ◌/◌, ◌%◌, ◌<◌, ◌≤◌, Bool, true, false, List, [], ◌∷◌, ◌++◌, length, Option, Some, None, Result, Ok, Err, refl, sym, ap, ◌∙◌, subst, arith, ⊎_elim}
use Rattle.std.specs.Prelude.{option_map, slice_index, IfOk, is_some, not}
use Rattle.std.proofs.lemmas.Bool.{cases_lt}
use Rattle.std.proofs.lemmas.List.{length-append, get_or_append_left, get_or_push}
use Rattle.table_definitions.specs.Permutation.{IsPermutationOfFour, identity, inverse, compose}
use Rattle.table_definitions.specs.Table.{Gluing, Row, Face, IsTable, glue}
use Rattle.table_definitions.specs.Relabelling.{Relabelling, relabelled_place, face_under, gluing_under}
use Rattle.table_definitions.specs.Places.{face_of}
use Rattle.table_definitions.proofs.Permutations.{preimage_below, image-preimage, inverse_permutes, compose_permutes}
use Rattle.table_definitions.proofs.Carried.{perm_permutes, images_apart}
use Rattle.signature_definitions.specs.Labellings.{Start, Relabels}
use Rattle.signature_laws.specs.Orders.{start_at, start_across, face_from, Numbers}
use Rattle.signature_laws.proofs.NewGluings.{met_by_identity}
use Rattle.signature_laws.proofs.Agreeing.{one_behind}
use Rattle.canonical_labelling.specs.Traces.{AreBelow, IsVisited, Becomes, AgreesGlued, Agrees}

module _ (n : ℕ) (order : List Start) (from : Start) (g expected : Gluing) (by : Relabelling) (h : Becomes n order from g expected by) (below : AreBelow n order) where
  -- the start at the index of the image of the tetrahedron across is one of that tetrahedron
  same_tet : (i : ℕ) → i < length order → expected.tet ≡ i → (start_at order i).tet ≡ g.tet
  same_tet i l e = images_apart n by h.bijection (start_at order i).tet g.tet (below i l) h.in_range (ap (λ (q : Gluing). q.tet) (h.numbers i l) ∙ sym e ∙ sym (ap (λ (q : Gluing). q.tet) h.becomes))

  -- a gluing to a visited tetrahedron is mapped by the starts of both
  pub mapped : (there : Start) → there ≡ start_at order expected.tet → expected.tet < length order → (g.tet ≡ there.tet) × (compose there.perm (compose g.perm (inverse from.perm)) ≡ expected.perm)
  mapped there is l =
      let at : Start = start_at order expected.tet in
      let tet : at.tet ≡ g.tet = same_tet expected.tet l refl in
      let occurs : relabelled_place by g.tet ≡ record { tet = expected.tet; perm = at.perm } = ap (relabelled_place by) (sym tet) ∙ h.numbers expected.tet l in
      let perm : compose at.perm (compose g.perm (inverse from.perm)) ≡ expected.perm =
      ap (λ (q : Gluing). compose q.perm (compose g.perm (inverse from.perm))) (sym occurs) ∙ ap (λ (q : Gluing). q.perm) h.becomes in
      subst (λ (s : Start). (g.tet ≡ s.tet) × (compose s.perm (compose g.perm (inverse from.perm)) ≡ expected.perm)) (sym is) (sym tet, perm)

  -- if the gluing is mapped to the next tetrahedron, the tetrahedron across is not visited
  pub not_visited : expected.tet ≡ length order → IsVisited order g.tet → ⊥
  not_visited next (i, l, e) =
      let image : slice_index by.images g.tet ≡ i = ap (slice_index by.images) (sym e) ∙ ap (λ (q : Gluing). q.tet) (h.numbers i l) in
      let there : slice_index by.images g.tet ≡ expected.tet = ap (λ (q : Gluing). q.tet) h.becomes in
      omega (arith, image, there, next, l)

  -- the tetrahedron across is mapped to its index by the start across the gluing
  next_stands : expected.tet ≡ length order → expected.perm ≡ identity → relabelled_place by g.tet ≡ record { tet = length order; perm = compose from.perm (inverse g.perm) }
  next_stands next identical =
      let s : Gluing = record { tet = 0; perm = from.perm } in
      let r : Gluing = record { tet = length order; perm = compose from.perm (inverse g.perm) } in
      let undone : compose r.perm (compose g.perm (inverse from.perm)) ≡ identity = met_by_identity from from g r (length order) refl refl h.from_permutes h.permutes in
      let tets : slice_index by.images g.tet ≡ length order = ap (λ (q : Gluing). q.tet) h.becomes ∙ next in
      let perms : (gluing_under s (relabelled_place by g.tet) g).perm ≡ compose r.perm (compose g.perm (inverse from.perm)) = ap (λ (q : Gluing). q.perm) h.becomes ∙ identical ∙ sym undone in
      let alike : gluing_under s (relabelled_place by g.tet) g ≡ gluing_under s r g = λ i. record { tet = tets i; perm = perms i } in
      one_behind s (relabelled_place by g.tet) r g h.from_permutes (perm_permutes n by h.bijection g.tet h.in_range) (compose_permutes from.perm (inverse g.perm) h.from_permutes (inverse_permutes g.perm h.permutes)) h.permutes alike

  pub visited_numbers : expected.tet ≡ length order → expected.perm ≡ identity → Numbers (order ++ start_across from g ∷ []) by
  visited_numbers next identical i l = ⊎_elim
      (λ (low : i < length order).
      subst (λ (r : Start). relabelled_place by r.tet ≡ record { tet = i; perm = r.perm }) (sym (get_or_append_left order (start_across from g ∷ []) (record { tet = 0; perm = [] }) i low)) (h.numbers i low))
      (λ (high : length order ≤ i).
      let same : length order ≡ i = omega (arith, length-append order (start_across from g ∷ [])) in
      subst (λ (r : Start). relabelled_place by r.tet ≡ record { tet = i; perm = r.perm }) (sym (get_or_push order (start_across from g) (record { tet = 0; perm = [] }) i same))
      (next_stands next identical ∙ ap (λ (m : ℕ). record { tet = m; perm = compose from.perm (inverse g.perm) }) same))
      (cases_lt i (length order))

-- what is known when the face of index k is compared
pub record IsCompared (rows target : List Row) (order : List Start) (k : ℕ) (from : Start) : Type 0 where
  pub table : IsTable rows
  pub below : AreBelow (length rows) order
  pub numbered : k / 4 < length order
  pub is : from ≡ start_at order (k / 4)
  pub permutes : IsPermutationOfFour from.perm

module _ (rows target : List Row) (order : List Start) (k : ℕ) (from : Start) (h : IsCompared rows target order k from) (by : Relabelling) (r : Relabels rows target by) (numbers : Numbers order by) where
  abbrev pub stands_here : Gluing
  stands_here = record { tet = k / 4; perm = from.perm }

  -- the gluing of the face of index k in the target
  pub target_face : glue target (face_of k) ≡ option_map (λ g. gluing_under stands_here (relabelled_place by g.tet) g) (glue rows (face_from from (k % 4)))
  target_face =
      let here : Face = face_from from (k % 4) in
      let p : IsPermutationOfFour from.perm = h.permutes in
      let small : k % 4 < 4 = omega arith in
      let occurs : relabelled_place by from.tet ≡ stands_here = subst (λ (s : Start). relabelled_place by s.tet ≡ record { tet = k / 4; perm = s.perm }) (sym h.is) (numbers (k / 4) h.numbered) in
      let inside : from.tet < length rows = subst (λ (s : Start). s.tet < length rows) (sym h.is) (h.below (k / 4) h.numbered) in
      let there : face_under (relabelled_place by from.tet) here ≡ face_of k =
      ap (λ (q : Gluing). face_under q here) occurs ∙ ap (λ (f : ℕ). record { tet = k / 4; face = f }) (image-preimage from.perm p (k % 4) small) in
      ap (glue target) (sym there) ∙ r.1.glued here inside (preimage_below from.perm p (k % 4) small)
      ∙ ap (λ (q : Gluing). option_map (λ g. gluing_under q (relabelled_place by g.tet) g) (glue rows here)) occurs

  pub target_none : glue rows (face_from from (k % 4)) ≡ None → glue target (face_of k) ≡ None
  target_none e = target_face ∙ ap (option_map (λ g. gluing_under stands_here (relabelled_place by g.tet) g)) e

  target_some : (g : Gluing) → glue rows (face_from from (k % 4)) ≡ Some g → glue target (face_of k) ≡ Some (gluing_under stands_here (relabelled_place by g.tet) g)
  target_some g e = target_face ∙ ap (option_map (λ g. gluing_under stands_here (relabelled_place by g.tet) g)) e

  pub not_boundary : (g : Gluing) → glue rows (face_from from (k % 4)) ≡ Some g → glue target (face_of k) ≡ None → ⊥
  not_boundary g e f = let z = sym f ∙ target_some g e in cc

  pub becomes : (g expected : Gluing) → glue rows (face_from from (k % 4)) ≡ Some g → glue target (face_of k) ≡ Some expected → Becomes (length rows) order from g expected by
  becomes g expected e f =
      let z : Some (gluing_under stands_here (relabelled_place by g.tet) g) ≡ Some expected = sym (target_some g e) ∙ f in
      record {
        in_range = h.table.in_range (face_from from (k % 4)) g e;
        from_permutes = h.permutes;
        permutes = h.table.permutes (face_from from (k % 4)) g e;
        bijection = r.0;
        numbers = numbers;
        becomes = let s : gluing_under stands_here (relabelled_place by g.tet) g ≡ expected = cc in s;
      }

-- the result for two glued faces is that for the face of index k
pub glued_agrees : {E : Type 0} (rows target : List Row) (order after : List Start) (k n : ℕ) (from : Start) (g expected : Gluing) (o : Result Bool E) → IsCompared rows target order k from → n ≡ length rows
    → glue rows (face_from from (k % 4)) ≡ Some g → glue target (face_of k) ≡ Some expected → IfOk o (AgreesGlued n order after from g expected) → IfOk o (Agrees rows target order after)
glued_agrees rows target order after k n from g expected (Err e) h size f f' a = tt
glued_agrees rows target order after k n from g expected (Ok b) h size f f' a = λ by r numbers. a by (subst (λ m. Becomes m order from g expected by) (sym size) (becomes rows target order k from h by r numbers g expected f f'))

-- a test of whether a face is not glued is true of a face that is not glued
pub none_by_test : {X : Type 0} (o : Option X) (b : Bool) → o ≡ None → is_some o ≡ not b → b ≡ true
none_by_test o true e t = refl
none_by_test o false e t = absurd (let z = ap is_some (sym e) ∙ t in cc)
