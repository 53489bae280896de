-- The replacement of a face of a retained tetrahedron, and of a face of an old facet, by its label.
use Rattle.std.proofs.Common.{◌≡◌, ℕ, ◌<◌, ◌≤◌, Bool, true, false, cond, List, [], ◌∷◌, length, map, Option, Some, None, refl, ap}
use Rattle.std.specs.Prelude.{◌==◌, ◌||◌, if◌then◌else◌, find}
use Rattle.std.proofs.lemmas.Bool.{lt-ltb, le-ltb}
use Rattle.table_definitions.specs.Lists.{has}
use Rattle.table_definitions.specs.Table.{Gluing, Row, Face}
use Rattle.move_definitions.specs.Moves.{Move, Facet, new_facet, label_by_label, facet_place_after, kept_place_after, place_after_of, place_after, old_facets, old_tets}

-- if no facet of a list has this tetrahedron, none is found
pub find-none : (fs : List Facet) (t : ℕ) → has (map (λ (f : Facet). f.tet) fs) t ≡ false → find (λ (f : Facet). f.tet == t) fs ≡ None
find-none [] t h = refl
find-none (f ∷ fs) t h = by_test (f.tet == t) h (λ later. find-none fs t later)
  where
    by_test : (b : Bool) → (b || has (map (λ (f : Facet). f.tet) fs) t) ≡ false → (has (map (λ (f : Facet). f.tet) fs) t ≡ false → find (λ (f : Facet). f.tet == t) fs ≡ None)
        → cond b (Some f) (find (λ (f : Facet). f.tet == t) fs) ≡ None
    by_test true h later = absurd cc
    by_test false h later = later h

pub image_after-kept : (rows : List Row) (m : Move) (x : Face) → has (old_tets rows m) x.tet ≡ false → place_after rows m x ≡ Some (kept_place_after rows m x.tet)
image_after-kept rows m x h = ap (place_after_of rows m x) (find-none (old_facets rows m) x.tet h)

pub facet_image_after-new : (rows : List Row) (m : Move) (f : Facet) (j : ℕ) → j < length m.core → facet_place_after rows m f j ≡ Some (record { tet = (new_facet rows m j).tet; perm = label_by_label f (new_facet rows m j) })
facet_image_after-new rows m f j l =
    let by : Gluing = record { tet = (new_facet rows m j).tet; perm = label_by_label f (new_facet rows m j) } in
    ap (λ (b : Bool). if◌then◌else◌ {A = Option Gluing} b (Some by) None) (lt-ltb j (length m.core) l)

pub facet_image_after-old : (rows : List Row) (m : Move) (f : Facet) (j : ℕ) → length m.core ≤ j → facet_place_after rows m f j ≡ None
facet_image_after-old rows m f j l =
    let by : Gluing = record { tet = (new_facet rows m j).tet; perm = label_by_label f (new_facet rows m j) } in
    ap (λ (b : Bool). if◌then◌else◌ {A = Option Gluing} b (Some by) None) (le-ltb j (length m.core) l)
