-- Rows with equal solutions agree in all that is defined by solutions.
use Rattle.std.proofs.Common.{ℕ, List, slice_index_or}
use Rattle.std.specs.Prelude.{◌↔◌}
use Rattle.cone_definitions.specs.Rows.{Row, IsExtreme}
use Rattle.cone_definitions.specs.Surfaces.{Clash, IsVertexSurface, IsSurfaceList}
use Rattle.cone_definitions.specs.Unordered.{HasSurfaces}
use Rattle.cone_definitions.proofs.Unordered.{without_order}
use Rattle.cone_row_laws.specs.Solutions.{HaveSameSolutions}
use Rattle.cone_row_laws.proofs.Zeros.{same_symmetric}

extreme_over : (columns : ℕ) (rows others : List Row) (x : List ℕ) → HaveSameSolutions columns rows others → IsExtreme columns rows x → IsExtreme columns others x
extreme_over columns rows others x h e = record {
  solution = (h x).0 e.solution;
  nonzero = e.nonzero;
  least = λ y s some inside. e.least y ((h y).1 s) some inside;
}

surface_over : (columns : ℕ) (rows others : List Row) (pairs : List Clash) (x : List ℕ) → HaveSameSolutions columns rows others →
    IsVertexSurface columns rows pairs x → IsVertexSurface columns others pairs x
surface_over columns rows others pairs x h s = record {
  extreme = extreme_over columns rows others x h s.extreme;
  admissible = s.admissible;
  primitive = s.primitive;
}

-- lists in any order, and lists in ascending order
pub same_surfaces : (columns : ℕ) (rows others : List Row) (pairs : List Clash) (rays : List (List ℕ)) → HaveSameSolutions columns rows others →
    HasSurfaces columns rows pairs rays → HasSurfaces columns others pairs rays
same_surfaces columns rows others pairs rays same h = record {
  separate = h.separate;
  vertex_surfaces = λ k d within. surface_over columns rows others pairs (slice_index_or rays k d) same (h.vertex_surfaces k d within);
  complete = λ x s. h.complete x (surface_over columns others rows pairs x (same_symmetric columns rows others same) s);
}

list_over : (columns : ℕ) (rows others : List Row) (pairs : List Clash) (surfaces : List (List ℕ)) → HaveSameSolutions columns rows others →
    IsSurfaceList columns rows pairs surfaces → IsSurfaceList columns others pairs surfaces
list_over columns rows others pairs surfaces h l =
    let any : HasSurfaces columns others pairs surfaces = same_surfaces columns rows others pairs surfaces h (without_order columns rows pairs surfaces l) in
    record { ascending = l.ascending; vertex_surfaces = any.vertex_surfaces; complete = any.complete }

pub extreme_kept : (columns : ℕ) (rows others : List Row) (x : List ℕ) → HaveSameSolutions columns rows others → IsExtreme columns rows x ↔ IsExtreme columns others x
extreme_kept columns rows others x h = (extreme_over columns rows others x h, extreme_over columns others rows x (same_symmetric columns rows others h))

pub surface_kept : (columns : ℕ) (rows others : List Row) (pairs : List Clash) (x : List ℕ) → HaveSameSolutions columns rows others →
    IsVertexSurface columns rows pairs x ↔ IsVertexSurface columns others pairs x
surface_kept columns rows others pairs x h =
    (surface_over columns rows others pairs x h, surface_over columns others rows pairs x (same_symmetric columns rows others h))

pub list_kept : (columns : ℕ) (rows others : List Row) (pairs : List Clash) (surfaces : List (List ℕ)) → HaveSameSolutions columns rows others →
    IsSurfaceList columns rows pairs surfaces ↔ IsSurfaceList columns others pairs surfaces
list_kept columns rows others pairs surfaces h =
    (list_over columns rows others pairs surfaces h, list_over columns others rows pairs surfaces (same_symmetric columns rows others h))
