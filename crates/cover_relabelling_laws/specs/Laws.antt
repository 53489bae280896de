-- The lift of a relabelling to the double covers.
use Rattle.std.specs.Prelude.{◌≡◌, ◌≢◌, ◌⊎◌, ℕ, ◌*◌, ◌<◌, List, [], length, slice_index, if◌then◌else◌}
use Rattle.std.specs.List.{slice_index_or}
use Rattle.table_definitions.specs.Permutation.{identity, is_odd}
use Rattle.table_definitions.specs.Places.{IsConnected}
use Rattle.table_definitions.specs.Relabelling.{Relabelling, IsRelabelling, AreIsomorphic, relabelled_place}
use Rattle.table_definitions.specs.Table.{Gluing, Row, IsTable}
use Rattle.cover_definitions.specs.Cover.{over, sheet, above, other_sheet, cover, exchange}
use Rattle.cover_laws.specs.Laws.{CarriesCover}
use Rattle.signature_definitions.specs.Labellings.{Relabels}
use Rattle.signature_laws.specs.Between.{made, unchanged, after}

-- the sheet on which the image of a tetrahedron of the cover lies: the same one if the permutation is even, the other
-- one if it is odd
abbrev pub sheet_under : List ℕ → ℕ → ℕ
sheet_under p s = if is_odd p then other_sheet s else s

-- the image of a tetrahedron of the cover: over that of the tetrahedron below, by the same permutation
abbrev pub lifted_place : ℕ → Relabelling → ℕ → Gluing
lifted_place n by u = record {
  tet = above n (slice_index by.images (over n u)) (sheet_under (slice_index_or by.perms (over n u) []) (sheet n u));
  perm = slice_index_or by.perms (over n u) [];
}

-- the lift of a relabelling of n tetrahedra to their cover
abbrev pub lift : ℕ → Relabelling → Relabelling
lift n by = made (2 * n) (lifted_place n by)

-- Theorem: the lift of a relabelling that carries one table to another carries the cover of the one to that of the
-- other
abbrev pub LiftCarriesCover : Type 0
LiftCarriesCover = (rows new : List Row) (by : Relabelling) → IsTable rows → Relabels rows new by → CarriesCover rows (lift (length rows) by) (cover new)

-- Theorem: the image of a tetrahedron of the cover lies over the image of the tetrahedron below, by the same
-- permutation
abbrev pub LiftLiesOver : Type 0
LiftLiesOver =
    (rows new : List Row) (by : Relabelling) (u : ℕ) → IsTable rows → Relabels rows new by → u < 2 * length rows
    → (over (length rows) (relabelled_place (lift (length rows) by) u).tet ≡ slice_index by.images (over (length rows) u))
    × ((relabelled_place (lift (length rows) by) u).perm ≡ slice_index_or by.perms (over (length rows) u) [])

-- Theorem: the image of what the deck transformation maps u to is what it maps the image of u to
abbrev pub LiftCommutes : Type 0
LiftCommutes =
    (rows new : List Row) (by : Relabelling) (u : ℕ) → IsTable rows → Relabels rows new by → u < 2 * length rows
    → slice_index (lift (length rows) by).images (slice_index (exchange (length rows)).images u)
    ≡ slice_index (exchange (length rows)).images (slice_index (lift (length rows) by).images u)

-- Theorem: isomorphic tables have isomorphic covers
abbrev pub CoversAreIsomorphic : Type 0
CoversAreIsomorphic = (rows new : List Row) → IsTable rows → AreIsomorphic rows new → AreIsomorphic (cover rows) (cover new)

-- Theorem: the lift of the identity is the identity, and that of a composition is the composition of the lifts
abbrev pub IdentityIsLifted : Type 0
IdentityIsLifted = (n : ℕ) → lift n (unchanged n) ≡ unchanged (2 * n)

abbrev pub CompositionsAreLifted : Type 0
CompositionsAreLifted =
    (n : ℕ) (second first : Relabelling) → IsRelabelling n second → IsRelabelling n first
    → lift n (after n second first) ≡ after (2 * n) (lift n second) (lift n first)

-- each tetrahedron of the cover of n tetrahedra is mapped to one over the same tetrahedron, by the identity
abbrev pub LiesOverIdentity : ℕ → Relabelling → Type 0
LiesOverIdentity n by = (u : ℕ) → u < 2 * n → (over n (slice_index by.images u) ≡ over n u) × (slice_index_or by.perms u [] ≡ identity)

-- Theorem: the deck transformation lies over the identity, maps no tetrahedron to itself, and is its own inverse
abbrev pub ExchangeLiesOver : Type 0
ExchangeLiesOver = (n : ℕ) → LiesOverIdentity n (exchange n)

abbrev pub ExchangeFixesNone : Type 0
ExchangeFixesNone = (n u : ℕ) → u < 2 * n → slice_index (exchange n).images u ≢ u

abbrev pub ExchangeIsInvolution : Type 0
ExchangeIsInvolution = (rows : List Row) → IsTable rows → after (2 * length rows) (exchange (length rows)) (exchange (length rows)) ≡ unchanged (2 * length rows)

-- Theorem: over a connected table, what carries the cover to itself and lies over the identity is the identity or the
-- deck transformation
abbrev pub DeckTransformationsAreTwo : Type 0
DeckTransformationsAreTwo =
    (rows : List Row) (by : Relabelling) → IsTable rows → IsConnected rows → CarriesCover rows by (cover rows) → LiesOverIdentity (length rows) by
    → (by ≡ unchanged (2 * length rows)) ⊎ (by ≡ exchange (length rows))
