-- The arc to which an arc of a disc is glued.
use Rattle.std.specs.Prelude.{◌≡◌, ℕ, ◌<◌, Bool, List, length}
use Rattle.table_definitions.specs.Permutation.{is_odd}
use Rattle.table_definitions.specs.Table.{Gluing, Row}
use Rattle.surface_definitions.specs.declared.Coords.{Coords}
use Rattle.surface_definitions.specs.Pieces.{NormalDisc, Arc, arc_across, disc_of, Meets}
use Rattle.surface_laws.specs.PieceLaws.{IsPieceOf}

-- each arc of disc p around vertex v of face f that is glued is this one, by this gluing
abbrev pub IsOnlyMeeting : List Row → Coords → List ℕ → NormalDisc → ℕ → ℕ → Arc → Gluing → Type 0
IsOnlyMeeting rows coords xs p f v a g = (c : Arc) (h : Gluing) → Meets rows coords xs c h → c.face ≡ f → c.vertex ≡ v → disc_of coords xs c ≡ p → (c ≡ a) × (h ≡ g)

-- no arc of disc p around vertex v of face f is glued
abbrev pub HasNoMeeting : List Row → Coords → List ℕ → NormalDisc → ℕ → ℕ → Type 0
HasNoMeeting rows coords xs p f v = (c : Arc) (h : Gluing) → Meets rows coords xs c h → c.face ≡ f → c.vertex ≡ v → disc_of coords xs c ≡ p → ⊥

-- an arc of disc p around vertex v of face f, and the arc to which it is glued
pub record IsMeetingAt (rows : List Row) (coords : Coords) (xs : List ℕ) (p : NormalDisc) (f v : ℕ) (a b : Arc) (odd : Bool) : Type 0 where
  pub gluing : Gluing
  pub meets : Meets rows coords xs a gluing
  pub one : disc_of coords xs a ≡ p
  pub other : b ≡ arc_across gluing a
  pub parity : odd ≡ is_odd gluing.perm
  pub face : a.face ≡ f
  pub vertex : a.vertex ≡ v
  pub in_range : a.tet < length rows
  pub other_in_range : b.tet < length rows
  pub other_piece : IsPieceOf xs (disc_of coords xs b)
  pub only : IsOnlyMeeting rows coords xs p f v a gluing
