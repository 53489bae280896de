-- When a move is legal, in terms of the boundary of a 4-simplex, whose vertices are labelled 0 to 4 and whose facet i
-- lacks label i.
use Rattle.std.specs.Prelude.{◌≡◌, ◌≢◌, ◌↔◌, ℕ, ◌<◌, ◌≤◌, List, length, None, Some}
use Rattle.table_definitions.specs.Permutation.{image}
use Rattle.table_definitions.specs.Table.{Gluing, Row, glue, IsTable}
use Rattle.move_definitions.specs.Moves.{Move, IsCore, Facet, own_facet, opposite, facet, move_fault}

-- a tetrahedron of the table is facet i: its four vertices have the labels 0 to 4 without i, each once
pub record RepresentsFacet (rows : List Row) (i : ℕ) (f : Facet) : Type 0 where
  pub in_range : f.tet < length rows
  pub missing : f.missing ≡ i
  pub four : length f.labels ≡ 4
  pub labels : (v : ℕ) → v < 4 → (image f.labels v < 5) × (image f.labels v ≢ i)
  pub once : (v w : ℕ) → v < 4 → w < 4 → image f.labels v ≡ image f.labels w → v ≡ w

-- two facets meet as in the boundary: the face of f opposite the label that g lacks is glued to g, and each of its
-- vertices is mapped to the vertex of g with its label
pub record MeetsByLabels (rows : List Row) (f g : Facet) : Type 0 where
  pub by : Gluing
  pub glued : glue rows (opposite f g.missing) ≡ Some by
  pub tet : by.tet ≡ g.tet
  pub keeps : (v : ℕ) → v < 4 → image f.labels v ≢ g.missing → image g.labels (image by.perm v) ≡ image f.labels v

-- the labels that the core's vertices do not have; there are 5 less the core's size of them
abbrev pub IsOldLabel : Move → ℕ → Type 0
IsOldLabel m i = (length m.core ≤ i) × (i < 5)

-- the star of the core is a part of the boundary: for each such label a facet that lacks it, the move's own as facet 4,
-- in different tetrahedra, and any two of them meet label by label
pub record IsStar (rows : List Row) (m : Move) (facets : ℕ → Facet) : Type 0 where
  pub own : facets 4 ≡ own_facet m
  pub represented : (i : ℕ) → IsOldLabel m i → RepresentsFacet rows i (facets i)
  pub separate : (i k : ℕ) → IsOldLabel m i → IsOldLabel m k → i ≢ k → (facets i).tet ≢ (facets k).tet
  pub meet : (i k : ℕ) → IsOldLabel m i → IsOldLabel m k → i ≢ k → MeetsByLabels rows (facets i) (facets k)

-- a move on a core is legal exactly if the star of the core is such a part
abbrev pub LegalExactlyByStars : Type 0
LegalExactlyByStars = (rows : List Row) (m : Move) → IsTable rows → IsCore m.core → (move_fault rows m ≡ None) ↔ ((facets : ℕ → Facet) × IsStar rows m facets)

-- and these are the facets that the move takes out
abbrev pub StarsAreTakenOut : Type 0
StarsAreTakenOut = (rows : List Row) (m : Move) (facets : ℕ → Facet) → IsTable rows → IsCore m.core → IsStar rows m facets → (i : ℕ) → IsOldLabel m i → facet rows m i ≡ Some (facets i)
