-- A surface and its image have as many pieces and arcs.
use Rattle.std.proofs.Common.{◌≡◌, ℕ, ◌*◌, ◌/◌, ◌%◌, ◌<◌, List, [], length, Option, Some, None, refl, sym, ap, ◌∙◌, subst, arith}
use Rattle.std.specs.Prelude.{option_map, sum, sum_by, slice_index}
use Rattle.std.specs.List.{slice_index_or}
use Rattle.cone_definitions.specs.Rows.{IsSolution}
use Rattle.table_definitions.specs.Lists.{below}
use Rattle.table_definitions.specs.Permutation.{others, image}
use Rattle.table_definitions.specs.Table.{Gluing, Row, Face, glue, faces, IsTable}
use Rattle.table_definitions.specs.Relabelling.{Relabelling, IsRelabelling, Carries, relabelled_place, gluing_under}
use Rattle.table_definitions.proofs.Carried.{perm_permutes, carried_is_table}
use Rattle.table_definitions.proofs.DistinctLists.{apart_below}
use Rattle.table_definitions.proofs.Listed.{below-among, faces-among}
use Rattle.table_definitions.proofs.TableLaws.{Among, Among-below}
use Rattle.surface_definitions.specs.Characteristic.{arcs, arcs_in}
use Rattle.surface_definitions.specs.Coordinates.{columns, columns_each}
use Rattle.surface_definitions.specs.declared.Coords.{Coords}
use Rattle.surface_definitions.specs.Equations.{matching_rows}
use Rattle.surface_definitions.specs.Pieces.{arcs_around}
use Rattle.surface_definitions.proofs.ColumnCounts.{tet_below, index_below, column_of_index}
use Rattle.surface_laws.specs.MatchingLaws.{HasTriangles}
use Rattle.surface_laws.proofs.Counting.{over_places}
use Rattle.surface_laws.proofs.Glued.{IsGlued, glued_is}
use Rattle.surface_laws.proofs.Solved.{solved, other_is}
use Rattle.surface_equation_laws.proofs.LocalArcs.{placed}
use Rattle.surface_relabelling_laws.specs.Vectors.{column_under}
use Rattle.surface_relabelling_laws.proofs.Columns.{image_at, IsCarried, split, column_at, image_below, one_column, from_column}
use Rattle.surface_relabelling_laws.proofs.Members.{AreImages, images_sum}
use Rattle.surface_relabelling_laws.proofs.Arcs.{arcs_carried}
use Rattle.surface_relabelling_laws.proofs.Solutions.{solution_carried}
use Rattle.surface_relabelling_laws.proofs.FaceImages.{others_images, under, faces_images, across, beyond, sides_of, twice_first}

module _ (coords : Coords) (n : ℕ) (by : Relabelling) (is : IsRelabelling n by) where
  column_is : (c : ℕ) → column_under coords by c ≡ image_at coords by (c / columns_each coords) (c % columns_each coords)
  unfolding column_under
  column_is c = refl

  columns_images : AreImages (column_under coords by) (below (columns coords n)) (below (columns coords n))
  columns_images = record {
    separate = apart_below (columns coords n);
    others_apart = apart_below (columns coords n);
    into = λ c a. (let l = below-among c (columns coords n) a in
        subst (λ d. Among d (below (columns coords n))) (sym (column_is c)) (Among-below (image_at coords by (c / columns_each coords) (c % columns_each coords)) (columns coords n) (image_below coords n by is (c / columns_each coords) (c % columns_each coords) (tet_below coords n c l) (index_below coords c))));
    once = λ c d a b e. (let l = below-among c (columns coords n) a in let m = below-among d (columns coords n) b in
        sym (split coords c)
        ∙ one_column coords n by is (c / columns_each coords) (c % columns_each coords) (d / columns_each coords) (d % columns_each coords) (tet_below coords n c l) (index_below coords c) (tet_below coords n d m) (index_below coords d)
        (sym (column_is c) ∙ e ∙ column_is d)
        ∙ split coords d);
    from = λ c a. (let f = from_column coords n by is c (below-among c (columns coords n) a) in
        (placed coords f.0 f.1, Among-below (placed coords f.0 f.1) (columns coords n) (column_of_index coords n f.0 f.1 f.2 f.3), column_at coords by f.0 f.1 f.3 ∙ f.4));
  }

  by_columns : (xs : List ℕ) → length xs ≡ columns coords n → sum xs ≡ sum_by (slice_index xs) (below (columns coords n))
  by_columns xs w = sym (over_places (λ x. x) (slice_index xs) 0 xs (λ i l. refl)) ∙ ap (λ m. sum_by (slice_index xs) (below m)) w

  pub pieces_carried : (xs ys : List ℕ) → IsCarried coords n by xs ys → sum ys ≡ sum xs
  pieces_carried xs ys c =
      by_columns ys c.to_width
      ∙ images_sum (column_under coords by) (below (columns coords n)) (below (columns coords n)) (slice_index xs) (slice_index ys) columns_images
      (λ d a. let l = below-among d (columns coords n) a in
      ap (slice_index ys) (column_is d) ∙ c.entries (d / columns_each coords) (d % columns_each coords) (tet_below coords n d l) (index_below coords d) ∙ ap (slice_index xs) (split coords d))
      ∙ sym (by_columns xs c.from_width)

-- a face has as many arcs as the face across it
module _ (rows : List Row) (coords : Coords) (xs : List ℕ) (table : IsTable rows) (triangles : HasTriangles coords) (solution : IsSolution (columns coords (length rows)) (matching_rows coords rows) xs) where
  arcs_across : (x : Face) → x.tet < length rows → x.face < 4 → arcs_in coords xs (across rows table x) ≡ arcs_in coords xs x
  unfolding beyond
  arcs_across x lt lf = by_glue (glue rows x) refl
    where
      by_glue : (o : Option Gluing) → glue rows x ≡ o → arcs_in coords xs (across rows table x) ≡ arcs_in coords xs x
      by_glue None e = ap (λ o. arcs_in coords xs (beyond x o)) e
      by_glue (Some g) e =
          let a : IsGlued rows x g = glued_is rows x g table e in
          ap (λ o. arcs_in coords xs (beyond x o)) e
          ∙ images_sum (image g.perm) (others x.face) (others (image g.perm x.face)) (arcs_around coords xs x.tet x.face) (arcs_around coords xs g.tet (image g.perm x.face)) (others_images g.perm x.face a.permutes a.face)
          (λ v m. let o = other_is x.face v m in sym (solved rows coords xs table triangles solution x g v e o.0 o.1))

  pub twice_arcs : sum_by (λ x. sides_of (glue rows x) * arcs_in coords xs x) (faces (length rows)) ≡ 2 * arcs rows coords xs
  twice_arcs = twice_first rows table (arcs_in coords xs) arcs_across

module _ (rows : List Row) (new : List Row) (by : Relabelling) (table : IsTable rows) (is : IsRelabelling (length rows) by) (carries : Carries by rows new) (coords : Coords) (triangles : HasTriangles coords)
    (xs ys : List ℕ) (carried : IsCarried coords (length rows) by xs ys) (solution : IsSolution (columns coords (length rows)) (matching_rows coords rows) xs) where
  pub arcs_under : (x : Face) → x.tet < length rows → x.face < 4 → arcs_in coords ys (under rows new by is carries x) ≡ arcs_in coords xs x
  arcs_under x lt lf =
      let p : List ℕ = slice_index_or by.perms x.tet [] in
      images_sum (image p) (others x.face) (others (image p x.face)) (arcs_around coords xs x.tet x.face) (arcs_around coords ys (slice_index by.images x.tet) (image p x.face))
      (others_images p x.face (perm_permutes (length rows) by is x.tet lt) lf)
      (λ v m. let o = other_is x.face v m in arcs_carried coords triangles (length rows) by is xs ys carried x.tet x.face v lt lf o.0 o.1)

  sides_map : (f : Gluing → Gluing) (o : Option Gluing) → sides_of (option_map f o) ≡ sides_of o
  unfolding sides_of
  sides_map f None = refl
  sides_map f (Some g) = refl

  sides_under : (x : Face) → x.tet < length rows → x.face < 4 → sides_of (glue new (under rows new by is carries x)) ≡ sides_of (glue rows x)
  sides_under x lt lf = ap sides_of (carries.glued x lt lf) ∙ sides_map (λ g. gluing_under (relabelled_place by x.tet) (relabelled_place by g.tet) g) (glue rows x)

  pub arcs_same : arcs new coords ys ≡ arcs rows coords xs
  arcs_same =
      let here : sum_by (λ x. sides_of (glue rows x) * arcs_in coords xs x) (faces (length rows)) ≡ 2 * arcs rows coords xs = twice_arcs rows coords xs table triangles solution in
      let there : sum_by (λ x. sides_of (glue new x) * arcs_in coords ys x) (faces (length new)) ≡ 2 * arcs new coords ys =
      twice_arcs new coords ys (carried_is_table rows new by table is carries) triangles (solution_carried rows new by table is carries coords triangles xs ys carried solution) in
      let same : sum_by (λ x. sides_of (glue new x) * arcs_in coords ys x) (faces (length new)) ≡ sum_by (λ x. sides_of (glue rows x) * arcs_in coords xs x) (faces (length rows)) =
      images_sum (under rows new by is carries) (faces (length rows)) (faces (length new)) (λ x. sides_of (glue rows x) * arcs_in coords xs x) (λ x. sides_of (glue new x) * arcs_in coords ys x) (faces_images rows new by is carries)
      (λ x a. let f = faces-among x (length rows) a in λ i. sides_under x f.0 f.1 i * arcs_under x f.0 f.1 i) in
      omega arith
