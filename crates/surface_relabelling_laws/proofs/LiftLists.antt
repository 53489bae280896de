-- The lifts of the quad list of a table, and those of a table that is isomorphic to it.
use Rattle.std.proofs.Common.{◌≡◌, ℕ, ℤ, List, [], ◌∷◌, length, map, inl, inr, refl, sym, ◌∙◌, subst}
use Rattle.std.specs.List.{AllZip}
use Rattle.std.specs.List.Sorted.{IsPermutation}
use Rattle.std.proofs.lemmas.List.Elements.{All-contains}
use Rattle.std.proofs.lemmas.List.Sorted.{IsPermutation-map}
use Rattle.cone_definitions.specs.Rows.{Row as EquationRow}
use Rattle.cone_definitions.specs.Surfaces.{IsVertexSurface}
use Rattle.table_definitions.specs.Relabelling.{Relabelling}
use Rattle.table_definitions.proofs.DistinctLists.{AreApart}
use Rattle.table_definitions.proofs.Listed.{contains_among}
use Rattle.table_definitions.proofs.TableLaws.{Among}
use Rattle.signature_definitions.specs.Labellings.{Relabels}
use Rattle.skeleton_definitions.specs.Skeleton.{Skeleton, IsSkeleton}
use Rattle.surface_definitions.specs.Coordinates.{columns, clash_list}
use Rattle.surface_definitions.specs.declared.Coords.TheVariants.{Standard, Quad}
use Rattle.surface_definitions.specs.QuadEquations.{AreEquations}
use Rattle.surface_definitions.specs.Lift.{projected}
use Rattle.surface_vector_definitions.specs.Properties.{characteristic}
use Rattle.surface_laws.specs.LiftLaws.{IsLiftOf}
use Rattle.surface_laws.specs.PieceLaws.{IsSurface}
use Rattle.surface_laws.proofs.LiftLemmas.{lift_projects}
use Rattle.surface_equation_laws.proofs.QuadRows.{zip-among}
use Rattle.surface_quad_lift_laws.proofs.Correspondence.{one_surface}
use Rattle.surface_agreement_laws.specs.VertexSurfaces.{IsSurfaceListBy}
use Rattle.surface_relabelling_laws.specs.LiftLists.{LiftListsAreRelabelled, LiftCharacteristicsPermute, BothQuadListsLift}
use Rattle.surface_relabelling_laws.specs.Vectors.{relabelled_vector}
use Rattle.surface_relabelling_laws.proofs.AllCoordinates.{list_images}
use Rattle.surface_relabelling_laws.proofs.Columns.{IsCarried, relabelled_is, one_source}
use Rattle.surface_relabelling_laws.proofs.Efficiency.{eulers_relabelled}
use Rattle.surface_relabelling_laws.proofs.LiftsRelabelled.{lift_relabelled, lift_surface, same_lift}
use Rattle.surface_relabelling_laws.proofs.Members.{AreImages, images_permute}

-- two lists that belong together, in the other order
zip_turned : {A B : Type 0} (R : A → B → Type 0) (xs : List A) (ys : List B) → AllZip R xs ys → AllZip (λ y x. R x y) ys xs
zip_turned R [] [] z = tt
zip_turned R [] (y ∷ ys) z = absurd z
zip_turned R (x ∷ xs) [] z = absurd z
zip_turned R (x ∷ xs) (y ∷ ys) z = (z.0, zip_turned R xs ys z.1)

-- what belongs to different items is different, if each belongs to one item alone
zip_apart : {A B : Type 0} (R : A → B → Type 0) (xs : List A) (ys : List B) → AllZip R xs ys → ((x z : A) (y : B) → Among x xs → Among z xs → R x y → R z y → x ≡ z) → AreApart xs → AreApart ys
zip_apart R [] [] z one a = tt
zip_apart R [] (y ∷ ys) z one a = absurd z
zip_apart R (x ∷ xs) [] z one a = absurd z
zip_apart {A} R (x ∷ xs) (y ∷ ys) z one a = (
  (λ h. let f = zip-among R y xs ys z.1 h in a.0 (subst (λ (u : A). Among u xs) (sym (one x f.0 y (inl refl) (inr f.1) z.0 f.2)) f.1)),
  zip_apart R xs ys z.1 (λ u v w b c. one u v w (inr b) (inr c)) a.1,
)

module _ (s : Skeleton) (s' : Skeleton) (k : IsSkeleton s) (k' : IsSkeleton s') (by : Relabelling) (relabels : Relabels s.rows s'.rows by) (equations others : List EquationRow)
    (of_rows : AreEquations Quad s.rows equations) (of_new : AreEquations Quad s'.rows others) (quads listed : List (List ℕ)) (one : IsSurfaceListBy s Quad equations quads) (other : IsSurfaceListBy s' Quad others listed) where
  images : AreImages (relabelled_vector Quad by) quads listed
  images = list_images Quad s.rows s'.rows by equations others (record { table = k.table; relabels = relabels; of_rows = of_rows; of_new = of_new }) quads listed one other

  vertex_of : (x : List ℕ) → Among x quads → IsVertexSurface (columns Quad (length s.rows)) equations (clash_list Quad (length s.rows)) x
  vertex_of x a = All-contains (IsVertexSurface (columns Quad (length s.rows)) equations (clash_list Quad (length s.rows))) quads x one.vertex_surfaces (contains_among x quads a)

  width : (x : List ℕ) → Among x quads → length x ≡ columns Quad (length s.rows)
  width x a = (vertex_of x a).extreme.solution.width

  over : (x y : List ℕ) → Among x quads → IsLiftOf s x y → projected (length s.rows) y ≡ x
  over x y a lift = lift_projects s.rows k.table s.vertices.classes s.vertices.count k.vertices x y (width x a) lift

  -- if each of the one list has a lift, so has each of the other
  pub others_lift : ((x : List ℕ) → Among x quads → (lift : List ℕ) × IsLiftOf s x lift) → (y : List ℕ) → Among y listed → (lift : List ℕ) × IsLiftOf s' y lift
  others_lift each y b =
      let f = images.from y b in
      let l = each f.0 f.1 in
      (relabelled_vector Standard by l.0, subst (λ (q : List ℕ). IsLiftOf s' q (relabelled_vector Standard by l.0)) f.2 (lift_relabelled s s' k k' by relabels.0 relabels.1 f.0 l.0 (width f.0 f.1) l.1))

  module _ (lifts lifted : List (List ℕ)) (zip : AllZip (IsLiftOf s) quads lifts) (zip' : AllZip (IsLiftOf s') listed lifted) where
    surface : (y : List ℕ) → Among y lifts → IsSurface s.rows Standard y
    surface y b = let f = zip-among (IsLiftOf s) y quads lifts zip b in lift_surface s s' k k' by relabels.0 relabels.1 f.0 y (width f.0 f.1) (vertex_of f.0 f.1).admissible f.2

    lift_images : AreImages (relabelled_vector Standard by) lifts lifted
    lift_images = record {
      separate = zip_apart (IsLiftOf s) quads lifts zip (λ x z y a b l m. sym (over x y a l) ∙ over z y b m) images.separate;
      others_apart = zip_apart (IsLiftOf s') listed lifted zip' (λ x z y a b l m. sym (over' x y a l) ∙ over' z y b m) images.others_apart;
      into = λ y b.
          let f = zip-among (IsLiftOf s) y quads lifts zip b in
          let g = zip-among (λ (z x : List ℕ). IsLiftOf s' x z) (relabelled_vector Quad by f.0) lifted listed (zip_turned (IsLiftOf s') listed lifted zip') (images.into f.0 f.1) in
          subst (λ (z : List ℕ). Among z lifted) (same_lift s s' k k' by relabels.0 relabels.1 f.0 y g.0 (width f.0 f.1) f.2 g.2) g.1;
      once = λ y z a b e. one_source Standard (length s.rows) by relabels.0 y z (relabelled_vector Standard by z)
          (subst (λ (w : List ℕ). IsCarried Standard (length s.rows) by y w) e (relabelled_is Standard (length s.rows) by relabels.0 y (surface y a).solves.width))
          (relabelled_is Standard (length s.rows) by relabels.0 z (surface z b).solves.width);
      from = λ z b.
          let f = zip-among (IsLiftOf s') z listed lifted zip' b in
          let x = images.from f.0 f.1 in
          let g = zip-among (λ (y u : List ℕ). IsLiftOf s u y) x.0 lifts quads (zip_turned (IsLiftOf s) quads lifts zip) x.1 in
          (g.0, g.1, sym (same_lift s s' k k' by relabels.0 relabels.1 x.0 g.0 z (width x.0 x.1) g.2 (subst (λ (q : List ℕ). IsLiftOf s' q z) (sym x.2) f.2)));
    }
      where
        over' : (x y : List ℕ) → Among x listed → IsLiftOf s' x y → projected (length s'.rows) y ≡ x
        over' x y a lift = lift_projects s'.rows k'.table s'.vertices.classes s'.vertices.count k'.vertices x y
            (All-contains (IsVertexSurface (columns Quad (length s'.rows)) others (clash_list Quad (length s'.rows))) listed x other.vertex_surfaces (contains_among x listed a)).extreme.solution.width lift

    pub lifts_permute : IsPermutation (map (relabelled_vector Standard by) lifts) lifted
    lifts_permute = images_permute (relabelled_vector Standard by) lifts lifted lift_images

    pub lift_eulers_permute : IsPermutation (map (characteristic s Standard) lifts) (map (characteristic s' Standard) lifted)
    lift_eulers_permute = subst (λ (zs : List ℤ). IsPermutation zs (map (characteristic s' Standard) lifted)) (eulers_relabelled s s' k k' by relabels.0 relabels.1 Standard tt lifts surface)
        (IsPermutation-map (characteristic s' Standard) (map (relabelled_vector Standard by) lifts) lifted lifts_permute)

pub lift_lists : LiftListsAreRelabelled
lift_lists s other by equations others quads lifts listed lifted relabels h g =
    lifts_permute s other h.is_skeleton g.is_skeleton by relabels equations others h.of_table g.of_table quads listed h.are_surfaces g.are_surfaces lifts lifted h.are_lifts g.are_lifts

pub lift_characteristics : LiftCharacteristicsPermute
lift_characteristics s other equations others quads lifts listed lifted (by, is, carries) h g =
    lift_eulers_permute s other h.is_skeleton g.is_skeleton by (is, carries) equations others h.of_table g.of_table quads listed h.are_surfaces g.are_surfaces lifts lifted h.are_lifts g.are_lifts

-- if each member of a list has something, there is a list of these
zip_each : {A B : Type 0} (R : A → B → Type 0) (xs : List A) → ((x : A) → Among x xs → (y : B) × R x y) → (ys : List B) × AllZip R xs ys
zip_each R [] h = ([], tt)
zip_each R (x ∷ xs) h = let y = h x (inl refl) in let r = zip_each R xs (λ z a. h z (inr a)) in (y.0 ∷ r.0, (y.1, r.1))

pub both_lift : BothQuadListsLift
both_lift s other links equations others quads listed k k' kinds (by, is, carries) of_rows of_new one two =
    (zip_each (IsLiftOf s) quads each, zip_each (IsLiftOf other) listed (others_lift s other k k' by (is, carries) equations others of_rows of_new quads listed one two each))
  where
    each : (x : List ℕ) → Among x quads → (lift : List ℕ) × IsLiftOf s x lift
    each x a =
        let v = vertex_of s other k k' by (is, carries) equations others of_rows of_new quads listed one two x a in
        let l = one_surface s k links kinds equations of_rows x v.extreme.solution v.admissible in
        (l.0, (l.1).is_lift)
