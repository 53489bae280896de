-- The rows of the matching equations, one by one.
use Rattle.std.proofs.Common.{◌≡◌, ℕ, ◌<◌, ◌≤◌, not, List, length, map, Contains, subst, sym, ap, ◌∙◌, arith}
use Rattle.std.specs.Prelude.{nat_le, count_by}
use Rattle.std.proofs.lemmas.List.{length-map}
use Rattle.table_definitions.specs.Permutation.{image, others}
use Rattle.table_definitions.specs.Table.{Gluing, Row, Face, IsTable}
use Rattle.table_definitions.proofs.TableLaws.{Among}
use Rattle.table_definitions.proofs.Listed.{among_contains, map-among, flat_map-among}
use Rattle.table_definitions.proofs.PermutationLaws.{image_below, images_apart}
use Rattle.cone_definitions.specs.Rows.{Row as EquationRow}
use Rattle.surface_definitions.specs.Coordinates.{columns, triangles_each, arc_columns, is_quad_or_octagon}
use Rattle.surface_definitions.specs.declared.Coords.{Coords}
use Rattle.surface_definitions.specs.Equations.{Equation, row_of, glued_pairs, matching, matching_equations, matching_rows}
use Rattle.surface_laws.specs.MatchingLaws.{HasTriangles}
use Rattle.surface_laws.proofs.Glued.{IsGlued, glued_is}
use Rattle.surface_laws.proofs.Matched.{pair_glued}
use Rattle.surface_laws.proofs.Solved.{other_is}
use Rattle.surface_equation_laws.specs.Entries.{IsOnce}
use Rattle.surface_equation_laws.specs.Weights.{side_length}
use Rattle.surface_equation_laws.specs.MatchingSums.{AreAtMost, triangles_of}
use Rattle.surface_equation_laws.proofs.LocalArcs.{local_arcs, placed, arcs_placed, triangles_placed}
use Rattle.surface_equation_laws.proofs.FaceArcs.{IsArc, is_arc}
use Rattle.surface_equation_laws.proofs.Chosen.{plus_passing, minus_passing, plus_at_most, minus_at_most}

-- the equation that a row represents
pub record IsRowOf (coords : Coords) (rows : List Row) (row : EquationRow) : Type 0 where
  pub face : Face
  pub gluing : Gluing
  pub vertex : ℕ
  pub glued : IsGlued rows face gluing
  pub below : vertex < 4
  pub off : vertex ≡ face.face → ⊥
  pub is : row ≡ row_of (columns coords (length rows)) (matching coords face gluing vertex)

row_made : (f : Equation → EquationRow) (row : EquationRow) (e d : Equation) → row ≡ f e → e ≡ d → row ≡ f d
row_made f row e d a b = a ∙ ap f b

pub row_is_of : (coords : Coords) (rows : List Row) (row : EquationRow) → IsTable rows → Contains (matching_rows coords rows) row → IsRowOf coords rows row
unfolding matching_equations
row_is_of coords rows row table h =
    let a : (e : Equation) × Among e (matching_equations coords rows) × (row ≡ row_of (columns coords (length rows)) e) =
    map-among (row_of (columns coords (length rows))) row (matching_equations coords rows) (among_contains row (matching_rows coords rows) h) in
    let b : (y : Face × Gluing) × Among y (glued_pairs rows) × Among a.0 (map (matching coords y.0 y.1) (others (y.0).face)) =
    flat_map-among (λ (y : Face × Gluing). map (matching coords y.0 y.1) (others (y.0).face)) a.0 (glued_pairs rows) a.1 in
    let d : (v : ℕ) × Among v (others (b.0.0).face) × (a.0 ≡ matching coords b.0.0 b.0.1 v) = map-among (matching coords b.0.0 b.0.1) a.0 (others (b.0.0).face) b.2 in
    let o : (d.0 < 4) × (d.0 ≡ (b.0.0).face → ⊥) = other_is (b.0.0).face d.0 d.1 in
    record {
      face = b.0.0;
      gluing = b.0.1;
      vertex = d.0;
      glued = glued_is rows b.0.0 b.0.1 table (pair_glued rows b.0 b.1);
      below = o.0;
      off = o.1;
      is = row_made (row_of (columns coords (length rows))) row a.0 (matching coords b.0.0 b.0.1 d.0) a.2 d.2;
    }

-- the columns of the arcs on one side have at most one triangle, and are at most `side_length`
one_triangle : (coords : Coords) (t f v : ℕ) → HasTriangles coords → IsArc coords f v → count_by (λ c. not (is_quad_or_octagon coords c)) (arc_columns coords t f v) ≤ 1
one_triangle coords t f v h a =
    let e : count_by (λ c. not (is_quad_or_octagon coords c)) (arc_columns coords t f v) ≡ count_by (λ a. not (nat_le (triangles_each coords) a)) (local_arcs coords f v) =
    ap (count_by (λ c. not (is_quad_or_octagon coords c))) (arcs_placed coords t f v h) ∙ triangles_placed coords t (local_arcs coords f v) a.places in
    let l : count_by (λ a. not (nat_le (triangles_each coords) a)) (local_arcs coords f v) ≤ 1 = a.one_triangle in
    subst (λ k. k ≤ 1) (sym e) l

few_columns : (coords : Coords) (t f v : ℕ) → HasTriangles coords → IsArc coords f v → length (arc_columns coords t f v) ≤ side_length coords
few_columns coords t f v h a =
    let e : length (arc_columns coords t f v) ≡ length (local_arcs coords f v) = ap length (arcs_placed coords t f v h) ∙ length-map (local_arcs coords f v) (placed coords t) in
    subst (λ k. k ≤ side_length coords) (sym e) a.limited

module _ (coords : Coords) (rows : List Row) (row : EquationRow) (cs : List ℕ) (triangles : HasTriangles coords) (once : IsOnce cs) (r : IsRowOf coords rows row) where
  n : ℕ
  n = columns coords (length rows)

  e : Equation
  e = matching coords r.face r.gluing r.vertex

  here : IsArc coords r.face.face r.vertex
  here = is_arc coords r.face.face r.vertex r.glued.face r.below r.off

  there : IsArc coords (image r.gluing.perm r.face.face) (image r.gluing.perm r.vertex)
  there = is_arc coords (image r.gluing.perm r.face.face) (image r.gluing.perm r.vertex) r.glued.other_face (image_below r.gluing.perm r.vertex r.glued.permutes r.below)
      (images_apart r.gluing.perm r.vertex r.face.face r.glued.permutes r.below r.glued.face r.off)

  of_its_equation : (ds : List ℕ) (k : ℕ) → AreAtMost (row_of n e) ds k → AreAtMost row ds k
  unfolding n e
  of_its_equation ds k a = subst (λ (w : EquationRow). AreAtMost w ds k) (sym r.is) a

  pub triangle_sums : AreAtMost row (triangles_of coords cs) 1
  unfolding n e
  triangle_sums = of_its_equation (triangles_of coords cs) 1 (record {
    plus = (let a = plus_passing n e (λ c. not (is_quad_or_octagon coords c)) cs once in let b = one_triangle coords r.face.tet r.face.face r.vertex triangles here in omega arith);
    minus = (let a = minus_passing n e (λ c. not (is_quad_or_octagon coords c)) cs once in let b = one_triangle coords r.gluing.tet (image r.gluing.perm r.face.face) (image r.gluing.perm r.vertex) triangles there in omega arith);
  })

  pub side_sums : AreAtMost row cs (side_length coords)
  unfolding n e
  side_sums = of_its_equation cs (side_length coords) (record {
    plus = (let a = plus_at_most n e cs once in let b = few_columns coords r.face.tet r.face.face r.vertex triangles here in omega arith);
    minus = (let a = minus_at_most n e cs once in let b = few_columns coords r.gluing.tet (image r.gluing.perm r.face.face) (image r.gluing.perm r.vertex) triangles there in omega arith);
  })
