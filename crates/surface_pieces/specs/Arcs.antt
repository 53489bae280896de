-- The arc of a disc around a vertex of a face.
use Rattle.std.specs.Prelude.{◌≡◌, ℕ, ◌/◌, ◌<◌, List}
use Rattle.surface_definitions.specs.Coordinates.{columns_each}
use Rattle.surface_definitions.specs.declared.Coords.{Coords}
use Rattle.surface_definitions.specs.Pieces.{NormalDisc, Arc, arcs_around, disc_of}

-- an arc of disc p around vertex v of face f
pub record IsArcOf (coords : Coords) (xs : List ℕ) (p : NormalDisc) (f v : ℕ) (a : Arc) : Type 0 where
  pub tet : a.tet ≡ p.column / columns_each coords
  pub face : a.face ≡ f
  pub vertex : a.vertex ≡ v
  pub there : a.place < arcs_around coords xs a.tet a.face a.vertex
  pub piece : disc_of coords xs a ≡ p

-- IsArcOf, and there is no other
abbrev pub IsOnlyArcOf : Coords → List ℕ → NormalDisc → ℕ → ℕ → Arc → Type 0
IsOnlyArcOf coords xs p f v a = IsArcOf coords xs p f v a × ((b : Arc) → IsArcOf coords xs p f v b → b ≡ a)

-- disc p has no arc around vertex v of face f
abbrev pub HasNoArc : Coords → List ℕ → NormalDisc → ℕ → ℕ → Type 0
HasNoArc coords xs p f v = (b : Arc) → IsArcOf coords xs p f v b → ⊥
