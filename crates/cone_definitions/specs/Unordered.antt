-- Lists of vertex surfaces in any order.
use Rattle.std.specs.Prelude.{◌≢◌, ℕ, List}
use Rattle.std.specs.List.{All, AllPairs, Contains}
use Rattle.cone_definitions.specs.Rows.{Row}
use Rattle.cone_definitions.specs.Surfaces.{Clash, IsVertexSurface}

-- the list has each vertex surface once, and nothing else
pub record HasSurfaces (columns : ℕ) (rows : List Row) (pairs : List Clash) (rays : List (List ℕ)) : Type 0 where
  pub separate : AllPairs (λ x y. x ≢ y) rays
  pub vertex_surfaces : All (IsVertexSurface columns rows pairs) rays
  pub complete : (x : List ℕ) → IsVertexSurface columns rows pairs x → Contains rays x
