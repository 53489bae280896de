-- The inverse of a relabelling, as one of the new table's: solutions and vertex surfaces are carried both ways.
use Rattle.std.proofs.Common.{ℕ, List, [], length, map, sym, ◌∙◌, subst}
use Rattle.std.specs.Prelude.{◌↔◌}
use Rattle.std.specs.List.{slice_index_or, AllPairs}
use Rattle.std.specs.List.Sorted.{IsPermutation}
use Rattle.std.proofs.lemmas.List.Elements.{All-contains}
use Rattle.cone_definitions.specs.Vectors.{IsBefore}
use Rattle.cone_definitions.specs.Rows.{Row as EquationRow, IsSolution}
use Rattle.cone_definitions.specs.Surfaces.{IsVertexSurface, IsSurfaceList}
use Rattle.cone_definitions.proofs.Lexicographic.{before_irreflexive}
use Rattle.table_definitions.specs.Table.{Row, IsTable}
use Rattle.table_definitions.specs.Relabelling.{Relabelling, IsRelabelling, Carries}
use Rattle.table_definitions.proofs.Carried.{carried_is_table}
use Rattle.table_definitions.proofs.DistinctLists.{AreApart, apart_from}
use Rattle.table_definitions.proofs.Listed.{among_contains, contains_among}
use Rattle.table_definitions.proofs.TableLaws.{Among}
use Rattle.signature_laws.specs.Between.{inverted}
use Rattle.signature_laws.proofs.Back.{inverted_relabelling, carries_back}
use Rattle.surface_definitions.specs.Coordinates.{columns, clash_list}
use Rattle.surface_definitions.specs.declared.Coords.{Coords}
use Rattle.surface_definitions.specs.Equations.{matching_rows}
use Rattle.surface_laws.specs.MatchingLaws.{HasTriangles}
use Rattle.surface_relabelling_laws.specs.Vectors.{relabelled_vector}
use Rattle.surface_relabelling_laws.proofs.Columns.{IsCarried, carried_back, carried_again, one_source, one_image, relabelled_is, relabelled_width}
use Rattle.surface_relabelling_laws.proofs.Cones.{CarriesSolutions, vertex_carried}
use Rattle.surface_relabelling_laws.proofs.Members.{AreImages, images_permute}
use Rattle.surface_relabelling_laws.proofs.Solutions.{solution_carried}

-- the members of an ascending list are different
ascending_apart : (xs : List (List ℕ)) → AllPairs IsBefore xs → AreApart xs
ascending_apart xs up = apart_from {A = List ℕ} [] xs (λ i j less l e. before_irreflexive (slice_index_or xs j []) (subst (λ (z : List ℕ). IsBefore z (slice_index_or xs j [])) e (up i j [] less l)))

module _ (coords : Coords) (n : ℕ) (by : Relabelling) (is : IsRelabelling n by) (equations others : List EquationRow)
    (forth : CarriesSolutions coords n by equations others) (back : CarriesSolutions coords n (inverted n by) others equations) where
  is' : IsRelabelling n (inverted n by)
  is' = inverted_relabelling n by is

  pub vertex_back : (xs ys : List ℕ) → IsCarried coords n by xs ys → IsVertexSurface (columns coords n) others (clash_list coords n) ys → IsVertexSurface (columns coords n) equations (clash_list coords n) xs
  vertex_back xs ys c = vertex_carried coords n (inverted n by) is' others equations back
      (λ us ws d. forth us ws (carried_again coords n by is us ws (carried_again coords n (inverted n by) is' ws us d)))
      ys xs (carried_back coords n by is xs ys c)

  pub vertices_correspond : (xs : List ℕ)
      → IsVertexSurface (columns coords n) equations (clash_list coords n) xs ↔ IsVertexSurface (columns coords n) others (clash_list coords n) (relabelled_vector coords by xs)
  vertices_correspond xs = (
    (λ h. vertex_carried coords n by is equations others forth back xs (relabelled_vector coords by xs) (relabelled_is coords n by is xs h.extreme.solution.width) h),
    (λ h. vertex_back xs (relabelled_vector coords by xs) (relabelled_is coords n by is xs (sym (relabelled_width coords by xs) ∙ h.extreme.solution.width)) h),
  )

  module _ (list listed : List (List ℕ)) (one : IsSurfaceList (columns coords n) equations (clash_list coords n) list) (other : IsSurfaceList (columns coords n) others (clash_list coords n) listed) where
    vertex_of : (x : List ℕ) → Among x list → IsVertexSurface (columns coords n) equations (clash_list coords n) x
    vertex_of x a = All-contains (IsVertexSurface (columns coords n) equations (clash_list coords n)) list x one.vertex_surfaces (contains_among x list a)

    pub are_images : AreImages (relabelled_vector coords by) list listed
    are_images = record {
      separate = ascending_apart list one.ascending;
      others_apart = ascending_apart listed other.ascending;
      into = λ x a. among_contains (relabelled_vector coords by x) listed (other.complete (relabelled_vector coords by x) ((vertices_correspond x).0 (vertex_of x a)));
      once = λ x z a b e. one_source coords n by is x z (relabelled_vector coords by z)
          (subst (λ (w : List ℕ). IsCarried coords n by x w) e (relabelled_is coords n by is x (vertex_of x a).extreme.solution.width))
          (relabelled_is coords n by is z (vertex_of z b).extreme.solution.width);
      from = λ y a.
          let v : IsVertexSurface (columns coords n) others (clash_list coords n) y = All-contains (IsVertexSurface (columns coords n) others (clash_list coords n)) listed y other.vertex_surfaces (contains_among y listed a) in
          let x : List ℕ = relabelled_vector coords (inverted n by) y in
          let c : IsCarried coords n by x y = carried_again coords n by is x y (relabelled_is coords n (inverted n by) is' y v.extreme.solution.width) in
          let w : IsVertexSurface (columns coords n) equations (clash_list coords n) x = vertex_back x y c v in
          (x, among_contains x list (one.complete x w), one_image coords n by is x (relabelled_vector coords by x) y (relabelled_is coords n by is x w.extreme.solution.width) c);
    }

    pub lists_permute : IsPermutation (map (relabelled_vector coords by) list) listed
    lists_permute = images_permute (relabelled_vector coords by) list listed are_images

module _ (rows : List Row) (new : List Row) (by : Relabelling) (table : IsTable rows) (is : IsRelabelling (length rows) by) (carries : Carries by rows new) where
  table' : IsTable new
  table' = carried_is_table rows new by table is carries

  new_back : IsRelabelling (length new) (inverted (length rows) by)
  new_back = subst (λ n. IsRelabelling n (inverted (length rows) by)) (sym carries.same_length) (inverted_relabelling (length rows) by is)

  module _ (coords : Coords) (triangles : HasTriangles coords) where
    pub matching_forth : CarriesSolutions coords (length rows) by (matching_rows coords rows) (matching_rows coords new)
    matching_forth xs ys c s = subst (λ n. IsSolution (columns coords n) (matching_rows coords new) ys) carries.same_length (solution_carried rows new by table is carries coords triangles xs ys c s)

    pub matching_back : CarriesSolutions coords (length rows) (inverted (length rows) by) (matching_rows coords new) (matching_rows coords rows)
    matching_back ys xs c s = solution_carried new rows (inverted (length rows) by) table' new_back (carries_back rows new by table is carries) coords triangles ys xs
        (subst (λ n. IsCarried coords n (inverted (length rows) by) ys xs) (sym carries.same_length) c)
        (subst (λ n. IsSolution (columns coords n) (matching_rows coords new) ys) (sym carries.same_length) s)
