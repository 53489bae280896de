-- Tables that are crushed along corresponding vectors are isomorphic.
use Rattle.std.proofs.Common.{◌≡◌, ℕ, ◌<◌, true, List, [], length, get_or, Option, Some, None, refl, sym, ap, ◌∙◌, subst, arith}
use Rattle.std.specs.Prelude.{not, option_map, slice_index}
use Rattle.std.specs.List.{slice_index_or}
use Rattle.basic_lemmas.proofs.Truths.{one_if}
use Rattle.cone_definitions.specs.Surfaces.{IsAdmissible}
use Rattle.table_definitions.specs.Lists.{below}
use Rattle.table_definitions.specs.Relabelling.{Relabelling, IsRelabelling, Carries, AreIsomorphic, relabelled_place, face_under, gluing_under}
use Rattle.table_definitions.specs.Table.{Gluing, Row, glue, IsTable}
use Rattle.table_definitions.proofs.Carried.{perm_permutes, image_in_range, images_apart, comes_from}
use Rattle.table_definitions.proofs.DistinctLists.{apart_below}
use Rattle.table_definitions.proofs.Faces.{face_at, gluing_to}
use Rattle.table_definitions.proofs.Listed.{below-among}
use Rattle.table_definitions.proofs.Permutations.{image_below}
use Rattle.table_definitions.proofs.Ranks.{picked, at_rank, of_rank, ranks_apart}
use Rattle.table_definitions.proofs.TableLaws.{Among-below}
use Rattle.signature_laws.specs.Between.{made}
use Rattle.signature_laws.proofs.Standing.{made_stands, made_relabelling}
use Rattle.surface_definitions.specs.Coordinates.{clash_list}
use Rattle.surface_definitions.specs.Crushing.{number_kept, CrushesTo, IsCrushed, renumbered}
use Rattle.surface_definitions.specs.declared.Coords.TheVariants.{Standard}
use Rattle.surface_laws.specs.CrushingLaws.{IsKeptFace}
use Rattle.surface_laws.proofs.Chains.{has_one_end}
use Rattle.surface_laws.proofs.ChainsBack.{chain_back}
use Rattle.surface_laws.proofs.CrushedRows.{stays}
use Rattle.surface_relabelling_laws.specs.Crushing.{CrushedAreIsomorphic}
use Rattle.surface_relabelling_laws.specs.Vectors.{relabelled_vector}
use Rattle.surface_relabelling_laws.proofs.Columns.{IsCarried, relabelled_is}
use Rattle.surface_relabelling_laws.proofs.CrushedChains.{chain_under}
use Rattle.surface_relabelling_laws.proofs.Members.{AreImages, images_sum}
use Rattle.surface_relabelling_laws.proofs.QuadTypes.{removed_under}

module _ (rows new : List Row) (by : Relabelling) (table : IsTable rows) (is : IsRelabelling (length rows) by) (carries : Carries by rows new) (xs ys : List ℕ) (carried : IsCarried Standard (length rows) by xs ys)
    (admissible : IsAdmissible (clash_list Standard (length rows)) xs) (crushed others : List Row) (one : IsCrushed rows xs crushed) (other : IsCrushed new ys others) where
  abbrev n : ℕ
  n = length rows

  abbrev to : ℕ → ℕ
  to t = slice_index by.images t

  abbrev perm : ℕ → List ℕ
  perm t = slice_index_or by.perms t []

  stays_under : (t : ℕ) → t < n → stays ys (to t) ≡ stays xs t
  stays_under t l = ap not (removed_under n by is xs ys carried t l)

  -- as many tetrahedra are retained
  tets_images : AreImages to (below n) (below n)
  tets_images = record {
    separate = apart_below n;
    others_apart = apart_below n;
    into = λ t a. Among-below (to t) n (image_in_range n by is t (below-among t n a));
    once = λ t u a b e. images_apart n by is t u (below-among t n a) (below-among u n b) e;
    from = λ u a. let f = comes_from n by is u (below-among u n a) in (f.0, Among-below f.0 n f.1, f.2);
  }

  as_many : number_kept ys n ≡ number_kept xs n
  as_many = images_sum to (below n) (below n) (λ t. one_if (stays xs t)) (λ t. one_if (stays ys t)) tets_images (λ t a. ap one_if (stays_under t (below-among t n a)))

  -- the retained tetrahedron with number i, and its image
  abbrev was : ℕ → ℕ
  was i = get_or (picked (stays xs) n) i 0

  abbrev place : ℕ → Gluing
  place i = gluing_to (number_kept ys (to (was i))) (perm (was i))

  record IsRetained (i : ℕ) : Type 0 where
    tet : was i < n
    stays : stays xs (was i) ≡ true
    number : number_kept xs (was i) ≡ i

  retained : (i : ℕ) → i < number_kept xs n → IsRetained i
  retained i l =
      let r = of_rank (stays xs) n i l in
      let s = at_rank (stays xs) n r.0 r.1 r.2 in
      let same : was i ≡ r.0 = ap (λ j. get_or (picked (stays xs) n) j 0) (sym r.3) ∙ s.is in
      record { tet = subst (λ t. t < n) (sym same) r.1; stays = ap (stays xs) same ∙ r.2; number = ap (number_kept xs) same ∙ r.3 }

  -- the tetrahedron at the number of a retained one is this one
  was_at : (t : ℕ) → t < n → stays xs t ≡ true → was (number_kept xs t) ≡ t
  was_at t l k = (at_rank (stays xs) n t l k).is

  low : (t : ℕ) → t < n → stays xs t ≡ true → number_kept xs t < length crushed
  low t l k = let s = (at_rank (stays xs) n t l k).fewer in let e = one.length_is in omega arith

  abbrev relabelling : Relabelling
  relabelling = made (length crushed) place

  in_range : (i : ℕ) → i < length crushed → (place i).tet < length crushed
  in_range i l =
      let e = one.length_is in
      let r = retained i (omega arith) in
      let s = (at_rank (stays ys) n (to (was i)) (image_in_range n by is (was i) r.tet) (stays_under (was i) r.tet ∙ r.stays)).fewer in
      let m = as_many in
      omega arith

  separate : (i j : ℕ) → i < length crushed → j < length crushed → (place i).tet ≡ (place j).tet → i ≡ j
  separate i j li lj e =
      let l = one.length_is in
      let r = retained i (omega arith) in
      let s = retained j (omega arith) in
      let same : to (was i) ≡ to (was j) =
      ranks_apart (stays ys) n (to (was i)) (to (was j)) (image_in_range n by is (was i) r.tet) (image_in_range n by is (was j) s.tet) (stays_under (was i) r.tet ∙ r.stays) (stays_under (was j) s.tet ∙ s.stays) e in
      sym r.number ∙ ap (number_kept xs) (images_apart n by is (was i) (was j) r.tet s.tet same) ∙ s.number

  is_relabelling : IsRelabelling (length crushed) relabelling
  is_relabelling = made_relabelling (length crushed) place (record {
    in_range = in_range;
    separate = separate;
    permutes = λ i l. let e = one.length_is in perm_permutes n by is (was i) (retained i (omega arith)).tet;
  })

  -- the image of the number of a retained tetrahedron
  place_of : (t : ℕ) → t < n → stays xs t ≡ true → relabelled_place relabelling (number_kept xs t) ≡ gluing_to (number_kept ys (to t)) (perm t)
  place_of t l k = made_stands (length crushed) place (number_kept xs t) (low t l k) ∙ (λ i. gluing_to (number_kept ys (to (was_at t l k i))) (perm (was_at t l k i)))

  abbrev carries_gluing : ℕ → Gluing → Gluing
  carries_gluing u g = gluing_under (relabelled_place relabelling u) (relabelled_place relabelling g.tet) g

  -- the image of the end of a chain
  end_under : (t : ℕ) (f : ℕ) (kept : IsKeptFace rows xs (face_at t f)) (end : Option Gluing) → CrushesTo rows xs (face_at t f) end
      → option_map (renumbered ys) (option_map (λ g. gluing_under (relabelled_place by t) (relabelled_place by g.tet) g) end) ≡ option_map (carries_gluing (number_kept xs t)) (option_map (renumbered xs) end)
  end_under t f kept None c = refl
  end_under t f kept (Some g) c =
      let b = chain_back rows xs (face_at t f) g table kept c in
      λ i. Some (gluing_under (sym (place_of t kept.in_range kept.kept) i) (sym (place_of g.tet (b.kept_there).in_range (b.kept_there).kept) i) (renumbered xs g))

  glued_at : (t f : ℕ) → IsKeptFace rows xs (face_at t f)
      → glue others (face_under (relabelled_place relabelling (number_kept xs t)) (face_at (number_kept xs t) f)) ≡ option_map (carries_gluing (number_kept xs t)) (glue crushed (face_at (number_kept xs t) f))
  glued_at t f kept =
      let e = has_one_end rows xs table (face_at t f) kept in
      let lt : to t < length new = subst (λ m. to t < m) (sym carries.same_length) (image_in_range n by is t kept.in_range) in
      let there = other.glued (face_under (relabelled_place by t) (face_at t f)) (option_map (λ g. gluing_under (relabelled_place by t) (relabelled_place by g.tet) g) e.end) lt
      (image_below (perm t) (perm_permutes n by is t kept.in_range) f kept.face) (stays_under t kept.in_range ∙ kept.kept)
      (chain_under rows new by table is carries xs ys carried admissible (face_at t f) kept.in_range kept.face e.end e.there) in
      (λ i. glue others (face_under (place_of t kept.in_range kept.kept i) (face_at (number_kept xs t) f)))
      ∙ there
      ∙ end_under t f kept e.end e.there
      ∙ ap (option_map (carries_gluing (number_kept xs t))) (sym (one.glued (face_at t f) e.end kept.in_range kept.face kept.kept e.there))

  carries_crushed : Carries relabelling crushed others
  carries_crushed = record {
    same_length = other.length_is ∙ ap (number_kept ys) carries.same_length ∙ as_many ∙ sym one.length_is;
    four_faces = other.four_faces;
    glued = λ y ly lf.
        let e = one.length_is in
        let r = retained y.tet (omega arith) in
        subst (λ u. glue others (face_under (relabelled_place relabelling u) (face_at u y.face)) ≡ option_map (carries_gluing u) (glue crushed (face_at u y.face))) r.number
        (glued_at (was y.tet) y.face (record { in_range = r.tet; face = lf; kept = r.stays }));
  }

  pub crushed_isomorphic : AreIsomorphic crushed others
  crushed_isomorphic = (relabelling, is_relabelling, carries_crushed)

pub crushed_are_isomorphic_lem : CrushedAreIsomorphic
crushed_are_isomorphic_lem rows new by xs crushed others table (is, carries) width admissible one other =
    crushed_isomorphic rows new by table is carries xs (relabelled_vector Standard by xs) (relabelled_is Standard (length rows) by is xs width) admissible crushed others one other
