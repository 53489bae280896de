-- A surface and its image have the same properties: points, arcs, discs, Euler characteristic, and whether they consist
-- of triangles alone and meet the boundary.
use Rattle.std.proofs.Common.{◌≡◌, ℕ, ◌<◌, Bool, true, false, List, [], length, refl, sym, ap, ◌∙◌, subst}
use Rattle.std.specs.Prelude.{option_map, slice_index}
use Rattle.std.specs.List.{slice_index_or}
use Rattle.table_definitions.specs.Table.{Row}
use Rattle.table_definitions.specs.Relabelling.{Relabelling, IsRelabelling, Carries, relabelled_place, face_under, gluing_under}
use Rattle.table_definitions.proofs.Carried.{image_in_range, perm_permutes}
use Rattle.table_definitions.proofs.Permutations.{image_below}
use Rattle.signature_laws.specs.Between.{inverted}
use Rattle.signature_laws.proofs.Back.{inverted_relabelling, carries_back}
use Rattle.skeleton_definitions.specs.Skeleton.{Skeleton, IsSkeleton}
use Rattle.surface_definitions.specs.Characteristic.{is_linking, meets_boundary}
use Rattle.surface_definitions.specs.declared.Coords.{Coords}
use Rattle.surface_vector_definitions.specs.Properties.{AreProperties}
use Rattle.surface_vector_definitions.specs.declared.Properties.{Properties}
use Rattle.surface_laws.specs.CharacteristicLaws.{HasBoundaryArc}
use Rattle.surface_laws.specs.PieceLaws.{IsSurface}
use Rattle.surface_laws.proofs.LinkingLemmas.{boundary}
use Rattle.surface_relabelling_laws.specs.Vectors.{relabelled_vector}
use Rattle.surface_relabelling_laws.proofs.Columns.{IsCarried, relabelled_is, carried_back}
use Rattle.surface_relabelling_laws.proofs.Efficiency.{linking_carried, surface_carried}
use Rattle.surface_relabelling_laws.proofs.Euler.{pieces_carried, arcs_same, arcs_under}
use Rattle.surface_relabelling_laws.proofs.Points.{points_same}

-- tests that pass together are equal
same_test : (a b : Bool) → (a ≡ true → b ≡ true) → (b ≡ true → a ≡ true) → a ≡ b
same_test true true f g = refl
same_test true false f g = sym (f refl)
same_test false true f g = g refl
same_test false false f g = refl

module _ (rows : List Row) (new : List Row) (by : Relabelling) (is : IsRelabelling (length rows) by) (carries : Carries by rows new) (coords : Coords)
    (xs ys : List ℕ) (carried : IsCarried coords (length rows) by xs ys) (s : IsSurface rows coords xs) where
  boundary_forth : meets_boundary rows coords xs ≡ true → meets_boundary new coords ys ≡ true
  boundary_forth h =
      let b : HasBoundaryArc rows coords xs = (boundary rows coords xs).0 h in
      (boundary new coords ys).1 (record {
        face = face_under (relabelled_place by b.face.tet) b.face;
        tet = subst (λ n. slice_index by.images b.face.tet < n) (sym carries.same_length) (image_in_range (length rows) by is b.face.tet b.tet);
        one_of_four = image_below (slice_index_or by.perms b.face.tet []) (perm_permutes (length rows) by is b.face.tet b.tet) b.face.face b.one_of_four;
        free = carries.glued b.face b.tet b.one_of_four ∙ ap (option_map (λ g. gluing_under (relabelled_place by b.face.tet) (relabelled_place by g.tet) g)) b.free;
        some = subst (λ m. 0 < m) (sym (arcs_under rows new by s.table is carries coords s.triangles xs ys carried s.solves b.face b.tet b.one_of_four)) b.some;
      })

module _ (s : Skeleton) (s' : Skeleton) (k : IsSkeleton s) (k' : IsSkeleton s') (by : Relabelling) (is : IsRelabelling (length s.rows) by) (carries : Carries by s.rows s'.rows) (coords : Coords)
    (xs : List ℕ) (surface : IsSurface s.rows coords xs) where
  abbrev ys : List ℕ
  ys = relabelled_vector coords by xs

  abbrev back : Relabelling
  back = inverted (length s.rows) by

  there : IsCarried coords (length s.rows) by xs (relabelled_vector coords by xs)
  there = relabelled_is coords (length s.rows) by is xs surface.solves.width

  home : IsCarried coords (length s.rows) (inverted (length s.rows) by) (relabelled_vector coords by xs) xs
  home = carried_back coords (length s.rows) by is xs ys there

  surface' : IsSurface s'.rows coords (relabelled_vector coords by xs)
  surface' = surface_carried s.rows s'.rows by k.table is carries coords surface.triangles xs ys there surface

  linking_same : is_linking coords (relabelled_vector coords by xs) ≡ is_linking coords xs
  linking_same = same_test (is_linking coords ys) (is_linking coords xs)
      (linking_carried coords (length s.rows) back (inverted_relabelling (length s.rows) by is) ys xs home)
      (linking_carried coords (length s.rows) by is xs ys there)

  boundary_same : meets_boundary s'.rows coords (relabelled_vector coords by xs) ≡ meets_boundary s.rows coords xs
  boundary_same = same_test (meets_boundary s'.rows coords ys) (meets_boundary s.rows coords xs)
      (boundary_forth s'.rows s.rows back (subst (λ n. IsRelabelling n back) (sym carries.same_length) (inverted_relabelling (length s.rows) by is)) (carries_back s.rows s'.rows by k.table is carries) coords ys xs
      (subst (λ n. IsCarried coords n back ys xs) (sym carries.same_length) home) surface')
      (boundary_forth s.rows s'.rows by is carries coords xs ys there surface)

  pub properties_kept : (p : Properties) → AreProperties s coords xs p → AreProperties s' coords (relabelled_vector coords by xs) p
  properties_kept p h = record {
    points = h.points ∙ sym (points_same s.rows s'.rows by is carries coords xs ys there surface surface' s.edges.classes s.edges.count k.edges s'.edges.classes s'.edges.count k'.edges);
    arcs = h.arcs ∙ sym (arcs_same s.rows s'.rows by k.table is carries coords surface.triangles xs ys there surface.solves);
    pieces = h.pieces ∙ sym (pieces_carried coords (length s.rows) by is xs ys there);
    euler = h.euler;
    linking = h.linking ∙ sym linking_same;
    boundary = h.boundary ∙ sym boundary_same;
  }
