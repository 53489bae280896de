-- The vertex surfaces in ascending order.
use Rattle.std.proofs.Common.{◌≡◌, ℕ, List, All, length, nat_cmp, IsSorted}
use Rattle.std.specs.Cmp.Lexicographic.{slice_cmp}
use Rattle.std.specs.List.Sorted.{IsPermutation}
use Rattle.std.proofs.lemmas.List.Elements.{All-weaker}
use Rattle.std.proofs.lemmas.List.Sorted.{All-permutation, Contains-permutation}
use Rattle.cone_definitions.specs.Rows.{Row}
use Rattle.cone_definitions.specs.Surfaces.{Clash, IsVertexSurface, IsSurfaceList}
use Rattle.cone_definitions.proofs.FromList.{ascending_from_sorted}
use Rattle.cone_definitions.specs.Unordered.{HasSurfaces}
use Rattle.cone_laws.proofs.DistinctLemmas.{apart_permutation}

pub sorted_surfaces : (columns : ℕ) (rows : List Row) (pairs : List Clash) (rays sorted : List (List ℕ)) → HasSurfaces columns rows pairs rays → IsPermutation rays sorted →
    IsSorted (slice_cmp nat_cmp) sorted → IsSurfaceList columns rows pairs sorted
sorted_surfaces columns rows pairs rays sorted h permutation up = record {
  ascending = ascending_from_sorted columns sorted (All-weaker (IsVertexSurface columns rows pairs) (λ x. length x ≡ columns) (λ x s. s.extreme.solution.width) sorted surfaces) up
      (apart_permutation rays sorted permutation h.separate);
  vertex_surfaces = surfaces;
  complete = λ x s. Contains-permutation rays sorted x permutation (h.complete x s);
}
  where
    surfaces : All (IsVertexSurface columns rows pairs) sorted
    surfaces = All-permutation (IsVertexSurface columns rows pairs) rays sorted permutation h.vertex_surfaces
