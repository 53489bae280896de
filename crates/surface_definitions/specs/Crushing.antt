-- Crushing along a surface in standard coordinates: tetrahedra with a quad are taken out, and faces are followed
-- through them.
use Rattle.std.specs.Prelude.{◌≡◌, ℕ, zero, suc, ◌<◌, Bool, not, List, length, map, ◌==◌, nat_lt, Option, Some, None, option_map, count_by, slice_index, All, if◌then◌else◌, IsTrue}
use Rattle.std.specs.List.{list_any, position_or_len}
use Rattle.table_definitions.specs.Lists.{below, substitute}
use Rattle.table_definitions.specs.Permutation.{four, image, compose}
use Rattle.table_definitions.specs.Table.{Gluing, Row, Face, glue}
use Rattle.surface_definitions.specs.Coordinates.{quad_column, partner, three}
use Rattle.surface_definitions.specs.declared.Coords.TheVariants.{Standard}

-- whether a type has quads in tetrahedron t
abbrev pub has_quad : List ℕ → ℕ → ℕ → Bool
has_quad xs t k = nat_lt 0 (slice_index xs (quad_column Standard t k))

-- whether tetrahedron t is taken out
abbrev pub is_removed : List ℕ → ℕ → Bool
is_removed xs t = list_any (has_quad xs t) three

-- the other vertex on v's side of the quads of tetrahedron t
abbrev pub partner_in : List ℕ → ℕ → ℕ → ℕ
partner_in xs t v = partner (position_or_len (has_quad xs t) three) v

-- v and w in each other's place
abbrev pub exchange : ℕ → ℕ → List ℕ
exchange v w = map (λ u. if u == v then w else substitute w v u) four

-- g reaches face v of a flattened tetrahedron, which the transposition of v and its partner identifies with the
-- partner's face; the chain continues by the gluing of that face
abbrev pub passed_to : List Row → Gluing → ℕ → ℕ → Option Gluing
passed_to rows g v w = option_map (λ (h : Gluing). record { tet = h.tet; perm = compose h.perm (compose (exchange v w) g.perm) }) (glue rows (record { tet = g.tet; face = w }))

abbrev pub passed : List Row → List ℕ → Face → Gluing → Option Gluing
passed rows xs x g = passed_to rows g (image g.perm x.face) (partner_in xs g.tet (image g.perm x.face))

-- what the chain from x, which has come by o, reaches after n further tetrahedra that are taken out: a kept face, or
-- nothing at a boundary face
abbrev pub ChainEnds : List Row → List ℕ → Face → ℕ → Option Gluing → Option Gluing → Type 0
ChainEnds rows xs x zero None end = end ≡ None
ChainEnds rows xs x zero (Some g) end = IsTrue (not (is_removed xs g.tet)) × (end ≡ Some g)
ChainEnds rows xs x (suc n) None end = ⊥
ChainEnds rows xs x (suc n) (Some g) end = IsTrue (is_removed xs g.tet) × ChainEnds rows xs x n (passed rows xs x g) end

-- a crush chain leads from a retained face to this end
abbrev pub CrushesTo : List Row → List ℕ → Face → Option Gluing → Type 0
CrushesTo rows xs x end = (n : ℕ) × ChainEnds rows xs x n (glue rows x) end

-- the number of a kept tetrahedron in the crushed table
abbrev pub number_kept : List ℕ → ℕ → ℕ
number_kept xs t = count_by (λ u. not (is_removed xs u)) (below t)

-- a gluing, with its tetrahedron's number in the crushed table
abbrev pub renumbered : List ℕ → Gluing → Gluing
renumbered xs g = record { tet = number_kept xs g.tet; perm = g.perm }

-- the crushed table
pub record IsCrushed (rows : List Row) (xs : List ℕ) (new : List Row) : Type 0 where
  pub length_is : length new ≡ number_kept xs (length rows)
  pub four_faces : All (λ (row : Row). length row ≡ 4) new
  pub glued : (x : Face) (end : Option Gluing) → x.tet < length rows → x.face < 4 → IsTrue (not (is_removed xs x.tet)) → CrushesTo rows xs x end
      → glue new (record { tet = number_kept xs x.tet; face = x.face }) ≡ option_map (renumbered xs) end
