-- Solutions of the equations of a table, in each of the coordinates, are carried both ways.
use Rattle.std.proofs.Common.{◌≡◌, ℕ, List, length, map, sym, ap, ◌∙◌, subst}
use Rattle.std.specs.Prelude.{◌↔◌}
use Rattle.std.specs.List.Sorted.{IsPermutation}
use Rattle.std.proofs.lemmas.List.{length-map}
use Rattle.std.proofs.lemmas.List.Sorted.{length_permutation}
use Rattle.cone_definitions.specs.Rows.{Row as EquationRow, IsSolution}
use Rattle.cone_definitions.specs.Surfaces.{IsAdmissible, IsVertexSurface, IsSurfaceList}
use Rattle.table_definitions.specs.Table.{Row, IsTable}
use Rattle.table_definitions.specs.Relabelling.{Relabelling, IsRelabelling, Carries, AreIsomorphic}
use Rattle.table_definitions.proofs.Carried.{carried_is_table}
use Rattle.signature_definitions.specs.Labellings.{Relabels}
use Rattle.signature_laws.specs.Between.{inverted}
use Rattle.signature_laws.proofs.Back.{inverted_relabelling, carries_back}
use Rattle.surface_definitions.specs.Coordinates.{columns, clash_list}
use Rattle.surface_definitions.specs.declared.Coords.{Coords}
use Rattle.surface_definitions.specs.declared.Coords.TheVariants.{Standard, Quad, Octagon}
use Rattle.surface_definitions.specs.QuadEquations.{AreEquations}
use Rattle.surface_relabelling_laws.specs.Vectors.{relabelled_vector}
use Rattle.surface_relabelling_laws.specs.Laws.{AreRelabelled, IsOneSource}
use Rattle.surface_relabelling_laws.proofs.Columns.{IsCarried, carried_back, carried_again, one_source, one_image, relabelled_is, relabelled_width}
use Rattle.surface_relabelling_laws.proofs.Cones.{CarriesSolutions, admissible_carried}
use Rattle.surface_relabelling_laws.proofs.BothWays.{matching_forth, matching_back, vertices_correspond, are_images, lists_permute}
use Rattle.surface_relabelling_laws.proofs.Members.{AreImages}
use Rattle.surface_relabelling_laws.proofs.QuadSolutions.{quad_solution}

module _ (rows : List Row) (new : List Row) (by : Relabelling) (relabels : Relabels rows new by) where
  abbrev is : IsRelabelling (length rows) by
  is = relabels.0

  abbrev carries : Carries by rows new
  carries = relabels.1

  is' : IsRelabelling (length rows) (inverted (length rows) by)
  is' = inverted_relabelling (length rows) by relabels.0

  module _ (table : IsTable rows) (equations others : List EquationRow) where
    forth : (coords : Coords) → AreEquations coords rows equations → AreEquations coords new others → CarriesSolutions coords (length rows) by equations others
    forth Standard e f xs ys c s = subst (λ (es : List EquationRow). IsSolution (columns Standard (length rows)) es ys) (sym f)
        (matching_forth rows new by table relabels.0 relabels.1 Standard tt xs ys c (subst (λ (es : List EquationRow). IsSolution (columns Standard (length rows)) es xs) e s))
    forth Octagon e f xs ys c s = subst (λ (es : List EquationRow). IsSolution (columns Octagon (length rows)) es ys) (sym f)
        (matching_forth rows new by table relabels.0 relabels.1 Octagon tt xs ys c (subst (λ (es : List EquationRow). IsSolution (columns Octagon (length rows)) es xs) e s))
    forth Quad e f xs ys c s =
        subst (λ n. IsSolution (columns Quad n) others ys) carries.same_length
        (quad_solution new rows (carried_is_table rows new by table relabels.0 relabels.1) table (inverted (length rows) by) (subst (λ n. IsRelabelling n (inverted (length rows) by)) (sym carries.same_length) is')
        (carries_back rows new by table relabels.0 relabels.1) others equations f e ys xs
        (subst (λ n. IsCarried Quad n (inverted (length rows) by) ys xs) (sym carries.same_length) (carried_back Quad (length rows) by relabels.0 xs ys c)) s)

    back : (coords : Coords) → AreEquations coords rows equations → AreEquations coords new others → CarriesSolutions coords (length rows) (inverted (length rows) by) others equations
    back Standard e f ys xs c s = subst (λ (es : List EquationRow). IsSolution (columns Standard (length rows)) es xs) (sym e)
        (matching_back rows new by table relabels.0 relabels.1 Standard tt ys xs c (subst (λ (es : List EquationRow). IsSolution (columns Standard (length rows)) es ys) f s))
    back Octagon e f ys xs c s = subst (λ (es : List EquationRow). IsSolution (columns Octagon (length rows)) es xs) (sym e)
        (matching_back rows new by table relabels.0 relabels.1 Octagon tt ys xs c (subst (λ (es : List EquationRow). IsSolution (columns Octagon (length rows)) es ys) f s))
    back Quad e f ys xs c s =
        quad_solution rows new table (carried_is_table rows new by table relabels.0 relabels.1) by relabels.0 relabels.1 equations others e f xs ys
        (carried_again Quad (length rows) by relabels.0 xs ys c) (subst (λ n. IsSolution (columns Quad n) others ys) (sym carries.same_length) s)

  pub vectors_relabelled : (coords : Coords) (ys : List ℕ) → length ys ≡ columns coords (length new) → (xs : List ℕ) × IsOneSource coords (length rows) by ys xs
  vectors_relabelled coords ys w =
      let xs : List ℕ = relabelled_vector coords (inverted (length rows) by) ys in
      let width : length ys ≡ columns coords (length rows) = w ∙ ap (columns coords) carries.same_length in
      let c : IsCarried coords (length rows) by xs ys = carried_again coords (length rows) by relabels.0 xs ys (relabelled_is coords (length rows) (inverted (length rows) by) is' ys width) in
      let r : IsCarried coords (length rows) by xs (relabelled_vector coords by xs) = relabelled_is coords (length rows) by relabels.0 xs c.from_width in (
        xs,
        record {
          width = c.from_width;
          relabelled = one_image coords (length rows) by relabels.0 xs (relabelled_vector coords by xs) ys r c;
          only = λ zs lz e. one_source coords (length rows) by relabels.0 zs xs ys (subst (λ (z : List ℕ). IsCarried coords (length rows) by zs z) e (relabelled_is coords (length rows) by relabels.0 zs lz)) c;
        },
      )

  pub admissible_relabelled : (coords : Coords) (xs : List ℕ) → length xs ≡ columns coords (length rows) → IsAdmissible (clash_list coords (length rows)) xs ↔ IsAdmissible (clash_list coords (length new)) (relabelled_vector coords by xs)
  admissible_relabelled coords xs w =
      let c = relabelled_is coords (length rows) by relabels.0 xs w in (
        (λ h. subst (λ n. IsAdmissible (clash_list coords n) (relabelled_vector coords by xs)) (sym carries.same_length) (admissible_carried coords (length rows) by relabels.0 xs (relabelled_vector coords by xs) c h)),
        (λ h. admissible_carried coords (length rows) (inverted (length rows) by) is' (relabelled_vector coords by xs) xs (carried_back coords (length rows) by relabels.0 xs (relabelled_vector coords by xs) c)
            (subst (λ n. IsAdmissible (clash_list coords n) (relabelled_vector coords by xs)) carries.same_length h)),
      )

module _ (coords : Coords) (rows : List Row) (new : List Row) (by : Relabelling) (equations others : List EquationRow) (are : AreRelabelled coords rows new by equations others) where
  abbrev n : ℕ
  n = length rows

  size : length new ≡ length rows
  size = ((are.relabels).1).same_length

  to_new : CarriesSolutions coords (length rows) by equations others
  to_new = forth rows new by are.relabels are.table equations others coords are.of_rows are.of_new

  to_rows : CarriesSolutions coords (length rows) (inverted (length rows) by) others equations
  to_rows = back rows new by are.relabels are.table equations others coords are.of_rows are.of_new

  pub solutions_relabelled : (xs : List ℕ) → IsSolution (columns coords (length rows)) equations xs ↔ IsSolution (columns coords (length new)) others (relabelled_vector coords by xs)
  solutions_relabelled xs = (
    (λ s. subst (λ m. IsSolution (columns coords m) others (relabelled_vector coords by xs)) (sym size) (to_new xs (relabelled_vector coords by xs) (relabelled_is coords n by (are.relabels).0 xs s.width) s)),
    (λ s. (let w : length xs ≡ columns coords (length rows) = sym (relabelled_width coords by xs) ∙ s.width ∙ ap (columns coords) size in
        to_rows (relabelled_vector coords by xs) xs (carried_back coords n by (are.relabels).0 xs (relabelled_vector coords by xs) (relabelled_is coords n by (are.relabels).0 xs w))
        (subst (λ m. IsSolution (columns coords m) others (relabelled_vector coords by xs)) size s))),
  )

  pub vertices_relabelled : (xs : List ℕ) → IsVertexSurface (columns coords (length rows)) equations (clash_list coords (length rows)) xs
      ↔ IsVertexSurface (columns coords (length new)) others (clash_list coords (length new)) (relabelled_vector coords by xs)
  vertices_relabelled xs =
      subst (λ m. IsVertexSurface (columns coords (length rows)) equations (clash_list coords (length rows)) xs ↔ IsVertexSurface (columns coords m) others (clash_list coords m) (relabelled_vector coords by xs)) (sym size)
      (vertices_correspond coords n by (are.relabels).0 equations others to_new to_rows xs)

  pub lists_relabelled : (list listed : List (List ℕ)) → IsSurfaceList (columns coords (length rows)) equations (clash_list coords (length rows)) list
      → IsSurfaceList (columns coords (length new)) others (clash_list coords (length new)) listed → IsPermutation (map (relabelled_vector coords by) list) listed
  lists_relabelled list listed one other = lists_permute coords n by (are.relabels).0 equations others to_new to_rows list listed one
      (subst (λ m. IsSurfaceList (columns coords m) others (clash_list coords m) listed) size other)

  pub list_images : (list listed : List (List ℕ)) → IsSurfaceList (columns coords (length rows)) equations (clash_list coords (length rows)) list
      → IsSurfaceList (columns coords (length new)) others (clash_list coords (length new)) listed → AreImages (relabelled_vector coords by) list listed
  list_images list listed one other = are_images coords n by (are.relabels).0 equations others to_new to_rows list listed one
      (subst (λ m. IsSurfaceList (columns coords m) others (clash_list coords m) listed) size other)

  pub as_many : (list listed : List (List ℕ)) → IsSurfaceList (columns coords (length rows)) equations (clash_list coords (length rows)) list
      → IsSurfaceList (columns coords (length new)) others (clash_list coords (length new)) listed → length list ≡ length listed
  as_many list listed one other = sym (length_permutation (map (relabelled_vector coords by) list) listed (lists_relabelled list listed one other) ∙ length-map list (relabelled_vector coords by))

pub as_many_isomorphic : (coords : Coords) (rows new : List Row) (equations others : List EquationRow) (list listed : List (List ℕ)) → IsTable rows → AreIsomorphic rows new
    → AreEquations coords rows equations → AreEquations coords new others → IsSurfaceList (columns coords (length rows)) equations (clash_list coords (length rows)) list
    → IsSurfaceList (columns coords (length new)) others (clash_list coords (length new)) listed → length list ≡ length listed
as_many_isomorphic coords rows new equations others list listed table (by, is, carries) e f one other =
    as_many coords rows new by equations others (record { table = table; relabels = (is, carries); of_rows = e; of_new = f }) list listed one other
