-- Corners around edges that are corners of tetrahedra.
use Rattle.std.specs.Prelude.{◌≢◌, ℕ, ◌<◌, List}
use Rattle.std.specs.List.{All}
use Rattle.skeleton_definitions.specs.Corners.{Corner}

-- a corner of one of n tetrahedra: its vertices are vertices, and a is neither c nor d
pub record IsCornerIn (n : ℕ) (k : Corner) : Type 0 where
  pub tet : k.tet < n
  pub a : k.a < 4
  pub b : k.b < 4
  pub c : k.c < 4
  pub d : k.d < 4
  pub ac : k.a ≢ k.c
  pub ad : k.a ≢ k.d

abbrev pub AreCornersIn : ℕ → List Corner → Type 0
AreCornersIn n corners = All (IsCornerIn n) corners
