-- Linking vectors, surfaces and efficiency of a table and of its relabelling.
use Rattle.std.proofs.Common.{◌≡◌, ℕ, ◌%◌, ◌<◌, ◌≤◌, true, pos, ℤ, inl, inr, List, [], ◌∷◌, length, map, Contains, refl, sym, ap, ◌∙◌, subst}
use Rattle.std.specs.Prelude.{◌↔◌, ◌<ℤ◌, slice_index}
use Rattle.std.specs.List.Sorted.{IsPermutation}
use Rattle.std.proofs.lemmas.Bool.{leb-true, le-leb}
use Rattle.std.proofs.lemmas.List.Elements.{All-contains}
use Rattle.std.proofs.lemmas.List.Sorted.{IsPermutation-map}
use Rattle.cone_definitions.specs.Rows.{IsSolution}
use Rattle.cone_definitions.specs.Surfaces.{IsAdmissible, IsSurfaceList}
use Rattle.table_definitions.specs.Table.{Row, IsTable}
use Rattle.table_definitions.specs.Relabelling.{Relabelling, IsRelabelling, Carries, AreIsomorphic}
use Rattle.table_definitions.proofs.Carried.{carried_is_table}
use Rattle.table_definitions.proofs.Listed.{among_contains, contains_among}
use Rattle.table_definitions.proofs.TableLaws.{Among}
use Rattle.skeleton_definitions.specs.Skeleton.{Skeleton, IsSkeleton}
use Rattle.signature_laws.specs.Between.{inverted}
use Rattle.signature_laws.proofs.Back.{inverted_relabelling, carries_back}
use Rattle.surface_definitions.specs.Characteristic.{is_linking}
use Rattle.surface_definitions.specs.Coordinates.{triangles_each, columns, columns_each, clash_list, is_quad_or_octagon}
use Rattle.surface_definitions.specs.declared.Coords.{Coords}
use Rattle.surface_definitions.specs.Equations.{matching_rows}
use Rattle.surface_vector_definitions.specs.Properties.{characteristic}
use Rattle.surface_laws.specs.MatchingLaws.{HasTriangles}
use Rattle.surface_laws.specs.PieceLaws.{IsSurface}
use Rattle.surface_laws.proofs.LinkingLemmas.{linking}
use Rattle.surface_definitions.proofs.ColumnCounts.{column_of_index}
use Rattle.surface_quad_laws.specs.LinkLaws.{IsVertexLink}
use Rattle.surface_agreement_laws.specs.VertexSurfaces.{IsVertexSurfaceOf, IsSurfaceListOf}
use Rattle.surface_agreement_laws.proofs.LinkSurfaces.{linking_is_link, link_is_linking}
use Rattle.surface_efficiency_laws.specs.Laws.{IsPositive, PositiveAreLinks}
use Rattle.surface_efficiency_laws.proofs.Efficiency.{some_list, list_decides}
use Rattle.surface_equation_laws.proofs.LocalArcs.{placed}
use Rattle.surface_relabelling_laws.specs.Vectors.{relabelled_vector}
use Rattle.surface_relabelling_laws.proofs.Columns.{image_at, IsCarried, placed_by, from_column, relabelled_is}
use Rattle.surface_relabelling_laws.proofs.Cones.{kind_back, admissible_carried}
use Rattle.surface_relabelling_laws.proofs.BothWays.{matching_forth, matching_back, are_images, lists_permute}
use Rattle.surface_relabelling_laws.proofs.Points.{characteristic_same}

module _ (coords : Coords) (n : ℕ) (by : Relabelling) (is : IsRelabelling n by) where
  -- a vector of triangles alone is carried to one
  pub linking_carried : (xs ys : List ℕ) → IsCarried coords n by xs ys → is_linking coords xs ≡ true → is_linking coords ys ≡ true
  linking_carried xs ys c h = (linking coords ys).1 (λ d l high. at_image d (from_column coords n by is d (subst (λ m. d < m) c.to_width l)) high)
    where
      at_image : (d : ℕ) → (t : ℕ) × (i : ℕ) × (t < n) × (i < columns_each coords) × (image_at coords by t i ≡ d) → is_quad_or_octagon coords d ≡ true → slice_index ys d ≡ 0
      at_image d f high =
          let up : triangles_each coords ≤ image_at coords by f.0 f.1 % columns_each coords = leb-true (triangles_each coords) (image_at coords by f.0 f.1 % columns_each coords) (ap (is_quad_or_octagon coords) f.4 ∙ high) in
          let low : is_quad_or_octagon coords (placed coords f.0 f.1) ≡ true = le-leb (triangles_each coords) (placed coords f.0 f.1 % columns_each coords)
          (kind_back coords n by is (triangles_each coords) (λ t i lt li. (placed_by coords n by is t i lt li).quad) f.0 f.1 f.2 f.3 up) in
          let inside : placed coords f.0 f.1 < length xs = subst (λ m. placed coords f.0 f.1 < m) (sym c.from_width) (column_of_index coords n f.0 f.1 f.2 f.3) in
          ap (slice_index ys) (sym f.4) ∙ c.entries f.0 f.1 f.2 f.3 ∙ (linking coords xs).0 h (placed coords f.0 f.1) inside low

module _ (rows : List Row) (new : List Row) (by : Relabelling) (table : IsTable rows) (is : IsRelabelling (length rows) by) (carries : Carries by rows new) (coords : Coords) (triangles : HasTriangles coords) where
  pub surface_carried : (xs ys : List ℕ) → IsCarried coords (length rows) by xs ys → IsSurface rows coords xs → IsSurface new coords ys
  surface_carried xs ys c s = record {
    table = carried_is_table rows new by table is carries;
    triangles = triangles;
    solves = subst (λ n. IsSolution (columns coords n) (matching_rows coords new) ys) (sym carries.same_length) (matching_forth rows new by table is carries coords triangles xs ys c s.solves);
    admissible = subst (λ n. IsAdmissible (clash_list coords n) ys) (sym carries.same_length) (admissible_carried coords (length rows) by is xs ys c s.admissible);
  }

module _ (s : Skeleton) (s' : Skeleton) (k : IsSkeleton s) (k' : IsSkeleton s') (by : Relabelling) (is : IsRelabelling (length s.rows) by) (carries : Carries by s.rows s'.rows) (coords : Coords) (triangles : HasTriangles coords) where
  pub euler_relabelled : (xs : List ℕ) → IsSurface s.rows coords xs → characteristic s' coords (relabelled_vector coords by xs) ≡ characteristic s coords xs
  euler_relabelled xs surface =
      let c = relabelled_is coords (length s.rows) by is xs surface.solves.width in
      characteristic_same s s' k k' by is carries coords xs (relabelled_vector coords by xs) c surface (surface_carried s.rows s'.rows by k.table is carries coords triangles xs (relabelled_vector coords by xs) c surface)

  -- the Euler characteristics of the relabelled vectors of a list
  pub eulers_relabelled : (vs : List (List ℕ)) → ((v : List ℕ) → Among v vs → IsSurface s.rows coords v) → map (characteristic s' coords) (map (relabelled_vector coords by) vs) ≡ map (characteristic s coords) vs
  eulers_relabelled [] h = refl
  eulers_relabelled (v ∷ vs) h = λ i. euler_relabelled v (h v (inl refl)) i ∷ eulers_relabelled vs (λ w a. h w (inr a)) i

  -- a list of the relabelled table, in terms of the old numbers
  list_again : (listed : List (List ℕ)) → IsSurfaceListOf s' coords listed → IsSurfaceList (columns coords (length s.rows)) (matching_rows coords s'.rows) (clash_list coords (length s.rows)) listed
  list_again listed l = subst (λ n. IsSurfaceList (columns coords n) (matching_rows coords s'.rows) (clash_list coords n) listed) carries.same_length l

  -- what holds of each surface of the one list that is positive and no link holds of that of the other
  pub links_forth : (list listed : List (List ℕ)) → IsSurfaceListOf s coords list → IsSurfaceListOf s' coords listed
      → ((v : List ℕ) → Contains list v → IsPositive s coords v → IsVertexLink s coords v) → (w : List ℕ) → Contains listed w → IsPositive s' coords w → IsVertexLink s' coords w
  links_forth list listed one other h w cw positive =
      let images = are_images coords (length s.rows) by is (matching_rows coords s.rows) (matching_rows coords s'.rows) (matching_forth s.rows s'.rows by k.table is carries coords triangles) (matching_back s.rows s'.rows by k.table is carries coords triangles)
      list listed one (list_again listed other) in
      let f = images.from w (among_contains w listed cw) in
      let cv = contains_among f.0 list f.1 in
      let v : IsVertexSurfaceOf s coords f.0 = All-contains (IsVertexSurfaceOf s coords) list f.0 one.vertex_surfaces cv in
      let w' : IsVertexSurfaceOf s' coords w = All-contains (IsVertexSurfaceOf s' coords) listed w other.vertex_surfaces cw in
      let surface : IsSurface s.rows coords f.0 = record { table = k.table; triangles = triangles; solves = v.extreme.solution; admissible = v.admissible } in
      let same : characteristic s' coords w ≡ characteristic s coords f.0 = ap (characteristic s' coords) (sym f.2) ∙ euler_relabelled f.0 surface in
      let link : IsVertexLink s coords f.0 = h f.0 cv (subst (λ z. pos 0 <ℤ z) same positive) in
      let straight = linking_carried coords (length s.rows) by is f.0 (relabelled_vector coords by f.0) (relabelled_is coords (length s.rows) by is f.0 v.extreme.solution.width) (link_is_linking s k coords triangles f.0 link) in
      linking_is_link s' k' coords triangles w w' (subst (λ (z : List ℕ). is_linking coords z ≡ true) f.2 straight)

  pub efficient_forth : PositiveAreLinks s coords → PositiveAreLinks s' coords
  efficient_forth h =
      let one = some_list s coords in
      let other = some_list s' coords in
      (list_decides s' k' coords triangles other.0 other.1).1 (links_forth one.0 other.0 one.1 other.1 ((list_decides s k coords triangles one.0 one.1).0 h))

pub efficient_both : (s s' : Skeleton) (coords : Coords) → IsSkeleton s → IsSkeleton s' → HasTriangles coords → AreIsomorphic s.rows s'.rows → PositiveAreLinks s coords ↔ PositiveAreLinks s' coords
efficient_both s s' coords k k' triangles (by, is, carries) = (
  efficient_forth s s' k k' by is carries coords triangles,
  efficient_forth s' s k' k (inverted (length s.rows) by) (subst (λ n. IsRelabelling n (inverted (length s.rows) by)) (sym carries.same_length) (inverted_relabelling (length s.rows) by is)) (carries_back s.rows s'.rows by k.table is carries) coords triangles,
)

-- the Euler characteristics of the listed surfaces
pub characteristics_permute : (s s' : Skeleton) (coords : Coords) (list listed : List (List ℕ)) → IsSkeleton s → IsSkeleton s' → HasTriangles coords → AreIsomorphic s.rows s'.rows
    → IsSurfaceListOf s coords list → IsSurfaceListOf s' coords listed → IsPermutation (map (characteristic s coords) list) (map (characteristic s' coords) listed)
characteristics_permute s s' coords list listed k k' triangles (by, is, carries) one other =
    let images = lists_permute coords (length s.rows) by is (matching_rows coords s.rows) (matching_rows coords s'.rows) (matching_forth s.rows s'.rows by k.table is carries coords triangles) (matching_back s.rows s'.rows by k.table is carries coords triangles)
    list listed one (list_again s s' k k' by is carries coords triangles listed other) in
    subst (λ (zs : List ℤ). IsPermutation zs (map (characteristic s' coords) listed)) (eulers_relabelled s s' k k' by is carries coords triangles list (λ v a. surface v a))
    (IsPermutation-map (characteristic s' coords) (map (relabelled_vector coords by) list) listed images)
  where
    surface : (v : List ℕ) → Among v list → IsSurface s.rows coords v
    surface v a =
        let h : IsVertexSurfaceOf s coords v = All-contains (IsVertexSurfaceOf s coords) list v one.vertex_surfaces (contains_among v list a) in
        record { table = k.table; triangles = triangles; solves = h.extreme.solution; admissible = h.admissible }
