-- The moves 1-4, 2-3, 3-2 and 4-1. The boundary of a 4-simplex with vertices labelled 0 to 4 has five facets, and facet
-- i lacks label i. A move takes out the facets that a table has and puts in the others.
use Rattle.std.specs.Prelude.{◌≡◌, ℕ, ◌+◌, ◌-◌, ◌<◌, ◌≢◌, Bool, false, ◌&&◌, not, List, ◌∷◌, ◌++◌, length, map, filter, drop, ◌==◌, nat_lt, Option, Some, None, option_map, option_and_then, find, filter_map, All, IsTrue, if◌then◌else◌}
use Rattle.std.specs.Option.{option_or}
use Rattle.std.specs.List.{FoldsTo}
use Rattle.move_definitions.specs.declared.MoveFault.{MoveFault}
use Rattle.move_definitions.specs.declared.MoveFault.TheVariants.{NoSuchTet, Boundary, Repeated, NotMatched, TooMany}
use Rattle.table_definitions.specs.Lists.{below, has, same_list, first_some, pairs_of, substitute, rank_without}
use Rattle.table_definitions.specs.Permutation.{four, image, preimage, inverse, compose, identity}
use Rattle.table_definitions.specs.Table.{max_tets, Gluing, Row, Face, glue, other_side, IsTable}
use Rattle.table_definitions.specs.Relabelling.{face_under, gluing_under}

-- a tetrahedron and the core, some of its vertices in ascending order
pub record Move : Type 0 where
  pub tet : ℕ
  pub core : List ℕ

-- a core is no empty list, and ascending
abbrev pub IsCore : List ℕ → Type 0
IsCore core = IsTrue (nat_lt 0 (length core) && same_list (filter (has core) four) core)

-- a tetrahedron that is facet `missing`, with the label of each of its vertices
pub record Facet : Type 0 where
  pub tet : ℕ
  pub missing : ℕ
  pub labels : List ℕ

-- the core's vertices have the first labels, and the other vertices the next
abbrev pub vertices_by_label : List ℕ → List ℕ
vertices_by_label core = core ++ filter (λ v. not (has core v)) four

-- the tetrahedron of the move is facet 4
abbrev pub own_facet : Move → Facet
own_facet m = record { tet = m.tet; missing = 4; labels = inverse (vertices_by_label m.core) }

-- the vertex with a label
abbrev pub vertex_of : Facet → ℕ → ℕ
vertex_of f l = preimage f.labels l

-- the face opposite the vertex with a label
abbrev pub opposite : Facet → ℕ → Face
opposite f l = record { tet = f.tet; face = vertex_of f l }

-- the facet across the face opposite label i: labels are carried by the gluing, and the remaining vertex has label 4
abbrev pub facet_across : Facet → ℕ → Gluing → Facet
facet_across f i g = record { tet = g.tet; missing = i; labels = map (λ v. substitute i 4 (image f.labels (preimage g.perm v))) four }

-- facet i of the table
abbrev pub facet : List Row → Move → ℕ → Option Facet
facet rows m i = if i == 4 then Some (own_facet m) else option_map (facet_across (own_facet m) i) (glue rows (opposite (own_facet m) i))

-- the labels of the facets that are removed, and of those that are found across faces; the other labels are those of
-- new facets
abbrev pub old_labels : Move → List ℕ
old_labels m = drop (length m.core) (below 5)

abbrev pub found_labels : Move → List ℕ
found_labels m = drop (length m.core) four

-- the facets that are taken out, by ascending missing label
abbrev pub old_facets : List Row → Move → List Facet
old_facets rows m = filter_map (facet rows m) (old_labels m)

-- and their tetrahedra
abbrev pub old_tets : List Row → Move → List ℕ
old_tets rows m = map (λ (f : Facet). f.tet) (old_facets rows m)

-- the tetrahedra of the facets found before facet i, that of the move among them
abbrev pub tets_before : List Row → Move → ℕ → List ℕ
tets_before rows m i = m.tet ∷ map (λ (f : Facet). f.tet) (filter_map (facet rows m) (filter (λ l. nat_lt l i) (found_labels m)))

-- what is wrong with facet i
abbrev pub facet_fault : List Row → Move → ℕ → Option Facet → Option MoveFault
facet_fault rows m i None = Some (Boundary i)
facet_fault rows m i (Some f) = if has (tets_before rows m i) f.tet then Some (Repeated i) else None

-- whether the face of facet f opposite label j is glued to facet g, label j going to the missing label of f and the
-- others staying
abbrev pub is_matched : Facet → Facet → Option Gluing → Bool
is_matched f g None = false
is_matched f g (Some p) = (p.tet == g.tet) && same_list (compose g.labels p.perm) (map (substitute g.missing f.missing) f.labels)

abbrev pub pair_fault : List Row → Option Facet → Option Facet → Option MoveFault
pair_fault rows None g = None
pair_fault rows (Some f) None = None
pair_fault rows (Some f) (Some g) = if is_matched f g (glue rows (opposite f g.missing)) then None else Some (NotMatched f.missing g.missing)

-- what is wrong with a move: the first that is found, facet by facet and then pair by pair
unfoldable pub move_fault : List Row → Move → Option MoveFault
move_fault rows m =
    if not (nat_lt m.tet (length rows)) then Some NoSuchTet
    else option_or (first_some (λ i. facet_fault rows m i (facet rows m i)) (found_labels m))
    (first_some (λ p. pair_fault rows (facet rows m p.0) (facet rows m p.1)) (filter (λ p. nat_lt p.0 p.1) (pairs_of (found_labels m) (found_labels m))))

-- how many tetrahedra are kept, and the length of the new table
abbrev pub kept : List Row → Move → ℕ
kept rows m = length rows - (5 - length m.core)

abbrev pub new_length : List Row → Move → ℕ
new_length rows m = kept rows m + length m.core

-- what is wrong with a move that is to be played
abbrev pub play_fault : List Row → Move → Option MoveFault
play_fault rows m = option_or (move_fault rows m) (if nat_lt max_tets (new_length rows m) then Some TooMany else None)

-- the new facet for label j: its number is after those of the retained tetrahedra, and its labels ascend
abbrev pub new_facet : List Row → Move → ℕ → Facet
new_facet rows m j = record { tet = kept rows m + j; missing = j; labels = filter (λ l. not (l == j)) (below 5) }

-- the map of the vertices of f to those of g by labels, with the missing label of g mapped to that of f
abbrev pub label_by_label : Facet → Facet → List ℕ
label_by_label f g = map (λ l. vertex_of g (substitute g.missing f.missing l)) f.labels

-- the map of the vertices of the old facet f to those of the new facet j
abbrev pub facet_gluing : List Row → Move → Facet → ℕ → Gluing
facet_gluing rows m f j = record { tet = (new_facet rows m j).tet; perm = label_by_label f (new_facet rows m j) }

-- the replacement of the old facet f at its face opposite label j: none if the face is between old facets, otherwise
-- the new facet j
abbrev pub facet_place_after : List Row → Move → Facet → ℕ → Option Gluing
facet_place_after rows m f j =
    if nat_lt j (length m.core) then Some (facet_gluing rows m f j) else None

abbrev pub kept_place_after : List Row → Move → ℕ → Gluing
kept_place_after rows m t = record { tet = rank_without (old_tets rows m) t; perm = identity }

abbrev pub place_after_of : List Row → Move → Face → Option Facet → Option Gluing
place_after_of rows m x None = Some (kept_place_after rows m x.tet)
place_after_of rows m x (Some f) = facet_place_after rows m f (image f.labels x.face)

-- the replacement of the tetrahedron of x at this face, in the new table
abbrev pub place_after : List Row → Move → Face → Option Gluing
place_after rows m x = place_after_of rows m x (find (λ (f : Facet). f.tet == x.tet) (old_facets rows m))

-- the gluing that corresponds to the gluing g of x, if s replaces the tetrahedron of x
abbrev pub moved_gluing : List Row → Move → Face → Gluing → Gluing → Option Gluing
moved_gluing rows m x s g = option_map (λ r. gluing_under s r g) (place_after rows m (other_side x g))

-- the move, played on `old`, results in `new`
pub record IsMoved (old : List Row) (m : Move) (new : List Row) : Type 0 where
  pub core : IsCore m.core
  pub legal : move_fault old m ≡ None
  pub length_is : length new ≡ new_length old m
  pub four_faces : All (λ (row : Row). length row ≡ 4) new
  -- the facets that are put in are glued among themselves label by label
  pub inner : (j l : ℕ) → j < length m.core → l < length m.core → j ≢ l
      → glue new (opposite (new_facet old m j) l) ≡ Some (record { tet = (new_facet old m l).tet; perm = label_by_label (new_facet old m j) (new_facet old m l) })
  -- each other face is glued as the face that it replaces was
  pub outer : (x : Face) (s : Gluing) → x.tet < length old → x.face < 4 → place_after old m x ≡ Some s
      → glue new (face_under s x) ≡ option_and_then (moved_gluing old m x s) (glue old x)

-- the move that leads back, up to relabelling, from the table to which the move m led from a table of n tetrahedra
abbrev pub inverse_move : ℕ → Move → Move
inverse_move n m = record { tet = n - (5 - length m.core); core = drop (length m.core - 1) four }

-- a move is played on a table, and keeps within the limit of tetrahedra
pub record Plays (old : List Row) (m : Move) (new : List Row) : Type 0 where
  pub table : IsTable old
  pub moved : IsMoved old m new
  pub accepted : play_fault old m ≡ None

-- the moves, each played on the result of the one before, lead from the first table to the last
abbrev pub PlaysAll : List Row → List Move → List Row → Type 0
PlaysAll old moves new = FoldsTo Plays old moves new
