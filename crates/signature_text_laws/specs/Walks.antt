-- The walk through the faces of a table in order.
use Rattle.std.specs.Prelude.{◌≡◌, ℕ, ◌+◌, ◌<◌, ◌≤◌, ◌&&◌, true, List, [], ◌∷◌, ◌++◌, length, map, filter_map, ◌==◌, nat_lt, Option, Some, None, if◌then◌else◌}
use Rattle.table_definitions.specs.Lists.{below, same_list}
use Rattle.table_definitions.specs.Permutation.{identity}
use Rattle.table_definitions.specs.Table.{Gluing, Row, Face, glue, other_side, is_face_before}
use Rattle.table_definitions.specs.Places.{face_of}
use Rattle.signature_definitions.specs.WalkOrder.{is_seen, is_ordered_at}
use Rattle.signature_definitions.specs.Spelling.{type_of, seen_gluing}

-- the number of tetrahedra seen, the types of the faces that were taken, and the gluings of those of type 2
pub record Walking : Type 0 where
  pub seen : ℕ
  pub types : List ℕ
  pub gluings : List Gluing

abbrev pub with_type : ℕ → Walking → Walking
with_type type w = record w { types = w.types ++ type ∷ [] }

-- a face that is glued is taken, if it is in order
abbrev pub take_glued : Face → Gluing → Walking → Option Walking
take_glued x g w =
    if is_face_before (other_side x g) x then Some w
    else (if nat_lt g.tet w.seen then Some (record w { types = w.types ++ 2 ∷ []; gluings = w.gluings ++ g ∷ [] })
    else (if (g.tet == w.seen) && same_list g.perm identity then Some (record w { seen = w.seen + 1; types = w.types ++ 1 ∷ [] }) else None))

abbrev pub take_entry : Face → Option Gluing → Walking → Option Walking
take_entry x None w = Some (with_type 0 w)
take_entry x (Some g) w = take_glued x g w

abbrev pub take_face : List Row → Face → Walking → Option Walking
take_face rows x w = if nat_lt x.tet w.seen then take_entry x (glue rows x) w else None

-- no face was taken yet
abbrev pub walk_begun : Walking
walk_begun = record { seen = 1; types = []; gluings = [] }

-- the faces before a place are in order, and the walk has what is known of them
pub record IsWalkTo (rows : List Row) (k : ℕ) (w : Walking) : Type 0 where
  pub seen : (u : ℕ) → is_seen rows (face_of k) u ≡ nat_lt u w.seen
  pub ordered : (m : ℕ) → m < k → is_ordered_at rows (face_of m) ≡ true
  pub types : w.types ≡ filter_map (λ x. type_of rows x (glue rows x)) (map face_of (below k))
  pub gluings : w.gluings ≡ filter_map (λ x. seen_gluing rows x (glue rows x)) (map face_of (below k))
  pub most : 0 < length rows → w.seen ≤ length rows
