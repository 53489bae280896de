-- The arcs of a vertex link are the sides of its triangles.
use Rattle.std.proofs.Common.{◌≡◌, ℕ, ◌+◌, ◌*◌, ◌/◌, ◌%◌, ◌<◌, List, length, map, sym, ap, ◌∙◌, arith}
use Rattle.std.specs.Prelude.{◌==◌, sum_by, slice_index}
use Rattle.table_definitions.specs.Classes.{members}
use Rattle.table_definitions.specs.Lists.{below}
use Rattle.table_definitions.specs.Permutation.{four, others}
use Rattle.table_definitions.specs.Table.{Row, Face, glue, faces}
use Rattle.table_definitions.proofs.Listed.{below-among}
use Rattle.table_definitions.proofs.TableLaws.{four-among}
use Rattle.table_definitions.proofs.Faces.{face_at}
use Rattle.skeleton_definitions.specs.Links.{vertex_number, is_first_side, link_edges}
use Rattle.surface_definitions.specs.Characteristic.{arcs_in, arcs}
use Rattle.surface_definitions.specs.declared.Coords.{Coords}
use Rattle.surface_laws.specs.MatchingLaws.{HasTriangles}
use Rattle.surface_laws.proofs.Counting.{sum_by_same, sum_by-map, sum_by-flat_map}
use Rattle.surface_equation_laws.proofs.FaceSums.{sum_by-faces}
use Rattle.surface_quad_laws.specs.LinkLaws.{vertex_link}
use Rattle.surface_quad_laws.proofs.VertexLinks.{member}
use Rattle.skeleton_laws.proofs.Sums.{sum_by-filter, sum_blocks}
use Rattle.surface_link_laws.proofs.Triangles.{arcs_in-link}
use Rattle.basic_lemmas.proofs.Truths.{one_if}

-- each face has the triangles at its vertices, and each triangle the sides in the faces at its vertex
turned_round : (b m : ℕ → ℕ) → sum_by (λ f. b f * sum_by m (others f)) four ≡ sum_by (λ v. m v * sum_by b (others v)) four
turned_round b m = omega arith

module _ (rows : List Row) (classes : List ℕ) (c : ℕ) where
  abbrev n : ℕ
  n = length rows

  -- whether a face is counted, as a number
  abbrev first : Face → ℕ
  first x = one_if (is_first_side x (glue rows x))

  abbrev at_vertex : ℕ → ℕ → ℕ
  at_vertex t v = member classes c (vertex_number t v)

  by_faces : (coords : Coords) → HasTriangles coords
      → arcs rows coords (vertex_link coords n classes c) ≡ sum_by (λ t. sum_by (λ f. first (face_at t f) * sum_by (at_vertex t) (others f)) four) (below n)
  by_faces coords h =
      sum_by-filter (arcs_in coords (vertex_link coords n classes c)) (λ x. is_first_side x (glue rows x)) (faces n)
      ∙ sum_by-faces (λ x. first x * arcs_in coords (vertex_link coords n classes c) x) n
      ∙ sum_by_same (λ t. sum_by (λ f. first (face_at t f) * arcs_in coords (vertex_link coords n classes c) (face_at t f)) four) (λ t. sum_by (λ f. first (face_at t f) * sum_by (at_vertex t) (others f)) four) (below n)
      (λ t a. sum_by_same (λ f. first (face_at t f) * arcs_in coords (vertex_link coords n classes c) (face_at t f)) (λ f. first (face_at t f) * sum_by (at_vertex t) (others f)) four
      (λ f b. ap (λ m. first (face_at t f) * m) (arcs_in-link n classes c coords h t f (below-among t n a) (four-among f b))))

  -- the sides of the triangle at vertex v of tetrahedron t
  abbrev sides_at : ℕ → ℕ → ℕ
  sides_at t v = sum_by (λ f. first (face_at t f)) (others v)

  in_members : link_edges rows classes c ≡ sum_by (λ i. one_if (slice_index classes i == c) * sides_at (i / 4) (i % 4)) (below (length classes))
  in_members =
      sum_by-flat_map first (λ i. map (λ f. face_at (i / 4) f) (others (i % 4))) (members classes c)
      ∙ sum_by_same (λ i. sum_by first (map (λ f. face_at (i / 4) f) (others (i % 4)))) (λ i. sides_at (i / 4) (i % 4)) (members classes c) (λ i a. sum_by-map first (λ f. face_at (i / 4) f) (others (i % 4)))
      ∙ sum_by-filter (λ i. sides_at (i / 4) (i % 4)) (λ i. slice_index classes i == c) (below (length classes))

  by_vertices : length classes ≡ 4 * n → link_edges rows classes c ≡ sum_by (λ t. sum_by (λ v. at_vertex t v * sides_at t v) four) (below n)
  by_vertices w =
      in_members ∙ ap (λ m. sum_by (λ i. one_if (slice_index classes i == c) * sides_at (i / 4) (i % 4)) (below m)) w
      ∙ sum_blocks (λ i. one_if (slice_index classes i == c) * sides_at (i / 4) (i % 4)) 4 n
      ∙ sum_by_same (λ t. sum_by (λ v. one_if (slice_index classes (4 * t + v) == c) * sides_at ((4 * t + v) / 4) ((4 * t + v) % 4)) (below 4)) (λ t. sum_by (λ v. at_vertex t v * sides_at t v) four) (below n)
      (λ t a. sum_by_same (λ v. one_if (slice_index classes (4 * t + v) == c) * sides_at ((4 * t + v) / 4) ((4 * t + v) % 4)) (λ v. at_vertex t v * sides_at t v) (below 4) (λ v b. at_place t v (below-among v 4 b)))
    where
      at_place : (t v : ℕ) → v < 4 → one_if (slice_index classes (4 * t + v) == c) * sides_at ((4 * t + v) / 4) ((4 * t + v) % 4) ≡ at_vertex t v * sides_at t v
      at_place t v l =
          let d : (4 * t + v) / 4 ≡ t = omega arith in
          let m : (4 * t + v) % 4 ≡ v = omega arith in
          λ i. at_vertex t v * sides_at (d i) (m i)

  pub arcs-link : (coords : Coords) → HasTriangles coords → length classes ≡ 4 * length rows → arcs rows coords (vertex_link coords (length rows) classes c) ≡ link_edges rows classes c
  arcs-link coords h w =
      by_faces coords h
      ∙ sum_by_same (λ t. sum_by (λ f. first (face_at t f) * sum_by (at_vertex t) (others f)) four) (λ t. sum_by (λ v. at_vertex t v * sides_at t v) four) (below n) (λ t a. turned_round (λ f. first (face_at t f)) (at_vertex t))
      ∙ sym (by_vertices w)
