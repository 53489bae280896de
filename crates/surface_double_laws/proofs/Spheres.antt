-- In a closed orientable table without invalid edges, connected surfaces of Euler characteristic 1 are one-sided, and
-- their doubles are spheres that are no vertex links.
use Rattle.std.proofs.Common.{◌≡◌, ◌≢◌, ℕ, ◌+◌, ◌*◌, ◌/◌, ◌%◌, ◌<◌, ◌≤◌, Bool, true, false, not, ℤ, pos, ◌+ℤ◌, ◌-ℤ◌, ◌<ℤ◌, List, length, Option, Some, None, inl, inr, refl, sym, ap, ◌∙◌, subst, arith}
use Rattle.std.specs.Prelude.{◌↔◌, slice_index, sum, is_none, if◌then◌else◌, nat_lt, ◌==◌, ◌&&◌}
use Rattle.std.specs.List.{Contains, slice_index_or}
use Rattle.std.proofs.lemmas.Bool.{false_from_ne_true}
use Rattle.std.proofs.lemmas.Int.{ints}
use Rattle.std.proofs.lemmas.List.FromFn.{get_or-map-range_with_len}
use Rattle.cone_definitions.specs.Vectors.{multiple}
use Rattle.cone_definitions.proofs.Entries.{length-multiple, entry-multiple}
use Rattle.table_definitions.specs.Permutation.{others}
use Rattle.table_definitions.specs.Places.{is_boundary, is_closed}
use Rattle.table_definitions.specs.Table.{Gluing, glue, faces}
use Rattle.table_definitions.proofs.DistinctLists.{taken_out}
use Rattle.table_definitions.proofs.Listed.{Among-others}
use Rattle.table_definitions.proofs.Tests.{list_all-among}
use Rattle.table_definitions.proofs.TableLaws.{Among-faces}
use Rattle.skeleton_definitions.specs.Links.{euler_of as euler, vertex_number}
use Rattle.skeleton_definitions.specs.Orientation.{IsOrientable}
use Rattle.skeleton_definitions.specs.Skeleton.{Skeleton, IsSkeleton, IsFirstInvalid}
use Rattle.surface_definitions.specs.Characteristic.{points, arcs, meets_boundary}
use Rattle.surface_definitions.specs.Coordinates.{columns, columns_each}
use Rattle.surface_definitions.specs.declared.Coords.{Coords}
use Rattle.surface_definitions.specs.declared.Coords.TheVariants.{Standard}
use Rattle.surface_definitions.specs.Pieces.{NormalDisc, discs_of, disc_number, disc_of, Arc, arcs_around, IsTwoSided, IsOrientableComponent}
use Rattle.surface_agreement_laws.specs.VertexSurfaces.{IsSurfaceListOf}
use Rattle.surface_efficiency_laws.specs.Laws.{IsConnectedSurface, IsPositive, PositiveAreLinks}
use Rattle.surface_efficiency_laws.proofs.Efficiency.{listed_connected, list_decides}
use Rattle.surface_euler_laws.proofs.ArcList.{IsArc}
use Rattle.surface_euler_laws.proofs.AtMostTwo.{positive_one_or_two}
use Rattle.surface_laws.specs.CharacteristicLaws.{HasBoundaryArc}
use Rattle.surface_laws.specs.MatchingLaws.{HasTriangles}
use Rattle.surface_laws.specs.PieceLaws.{IsSurface, IsPieceOf, face_of_arc}
use Rattle.surface_laws.proofs.LinkingLemmas.{boundary}
use Rattle.surface_laws.proofs.PieceNumbers.{no_piece, listed_piece}
use Rattle.surface_laws.proofs.SignedSteps.{arc_found}
use Rattle.surface_link_laws.proofs.Sides.{two_sides}
use Rattle.surface_link_laws.proofs.Turned.{sides_tell_orientation_lem}
use Rattle.surface_quad_laws.specs.LinkLaws.{IsVertexLink, link_entry}
use Rattle.surface_quad_laws.proofs.VertexLinks.{length-link}
use Rattle.surface_vector_definitions.specs.Properties.{characteristic}
use Rattle.surface_double_laws.specs.Laws.{IsEven, SpheresAreLinks, SpheresDecideEfficiency}
use Rattle.surface_double_laws.proofs.Darts.{AreOriented}
use Rattle.surface_double_laws.proofs.Doubles.{double_characteristic}
use Rattle.surface_double_laws.proofs.DoublePieces.{double_connected}
use Rattle.surface_double_laws.proofs.EvenSurfaces.{even_number}

pub even_by : (p a r : ℕ) → (p + a + r) % 2 ≡ 0 → IsEven (euler p a r)
even_by p a r h = (pos ((p + a + r) / 2) -ℤ pos a, omega (arith, ints))

one_odd : (e m : ℤ) → e ≡ pos 1 → e ≡ m +ℤ m → ⊥
one_odd e m one even = omega (arith, ints)

twice_one : (e d : ℤ) → e ≡ pos 1 → d ≡ e +ℤ e → d ≡ pos 2
twice_one e d one h = omega (arith, ints)

one_positive : (e : ℤ) → e ≡ pos 1 → pos 0 <ℤ e
one_positive e h = omega (arith, ints)

two_positive : (e : ℤ) → e ≡ pos 2 → pos 0 <ℤ e
two_positive e h = omega (arith, ints)

-- each arc of a surface that does not meet the boundary meets another
pub all_glued : (s : Skeleton) (coords : Coords) (xs : List ℕ) (w : IsSurface s.rows coords xs) → meets_boundary s.rows coords xs ≡ false → (b : Arc) → IsArc s.rows coords xs w b → (g : Gluing) × (glue s.rows (face_of_arc b) ≡ Some g)
all_glued s coords xs w none b x = go (glue s.rows (face_of_arc b)) refl
  where
    go : (o : Option Gluing) → glue s.rows (face_of_arc b) ≡ o → (g : Gluing) × (glue s.rows (face_of_arc b) ≡ Some g)
    go (Some g) e = (g, e)
    go None e = absurd (
        let rest = taken_out b.vertex (others b.face) (Among-others b.face b.vertex x.is_vertex x.off) in
        let sum = (rest.1).sums (arcs_around coords xs b.tet b.face) in
        let there = x.there in
        let arc : HasBoundaryArc s.rows coords xs = record { face = face_of_arc b; tet = x.in_range; one_of_four = x.face; free = e; some = omega arith } in
        let both : true ≡ false = sym ((boundary s.rows coords xs).1 arc) ∙ none in
        cc)

-- no surface of a closed table meets the boundary
pub none_meets : (s : Skeleton) (coords : Coords) (xs : List ℕ) → is_closed s.rows ≡ true → meets_boundary s.rows coords xs ≡ false
none_meets s coords xs closed = false_from_ne_true (meets_boundary s.rows coords xs) (λ t.
    let h : HasBoundaryArc s.rows coords xs = (boundary s.rows coords xs).0 t in
    let glued : not (is_boundary s.rows h.face) ≡ true = list_all-among (λ x. not (is_boundary s.rows x)) h.face (faces (length s.rows)) closed (Among-faces h.face (length s.rows) h.tet h.one_of_four) in
    let free : not (is_boundary s.rows h.face) ≡ false = ap (λ (o : Option Gluing). not (is_none o)) h.free in
    let both : true ≡ false = sym glued ∙ free in
    cc)

pub orientable_even : (s : Skeleton) (coords : Coords) (xs : List ℕ) (c : IsConnectedSurface s coords xs) → IsSkeleton s → IsFirstInvalid s None → meets_boundary s.rows coords xs ≡ false
    → IsOrientableComponent s.rows coords xs c.components 0 → IsEven (characteristic s coords xs)
orientable_even s coords xs c k valid none o =
    even_by (points coords xs s.edges.classes s.edges.count) (arcs s.rows coords xs) (sum xs) (even_number s k valid coords xs c.surface o.0 signs (all_glued s coords xs c.surface none))
  where
    signs : AreOriented s.rows coords xs o.0
    signs a g m =
        let low : slice_index c.components (disc_number xs (disc_of coords xs a)) < 1 = (c.one).in_range (disc_number xs (disc_of coords xs a)) (arc_found s.rows coords xs c.surface a g m).in_range in
        o.1 a g m (omega arith)

pub one_is_one_sided : (s : Skeleton) (coords : Coords) (xs : List ℕ) (c : IsConnectedSurface s coords xs) → IsSkeleton s → IsFirstInvalid s None → is_closed s.rows ≡ true → IsOrientable s.rows
    → characteristic s coords xs ≡ pos 1 → ¬ IsTwoSided s.rows coords xs c.components 0
one_is_one_sided s coords xs c k valid closed orientable one two_sided =
    let o : IsOrientableComponent s.rows coords xs c.components 0 = (sides_tell_orientation_lem s.rows coords xs c.components 0 c.surface orientable).0 two_sided in
    let even = orientable_even s coords xs c k valid (none_meets s coords xs closed) o in
    one_odd (characteristic s coords xs) even.0 one even.1

-- an entry of a vertex link is 0 or 1, so that no double is one
double_no_link : (s : Skeleton) (coords : Coords) (xs : List ℕ) → IsConnectedSurface s coords xs → IsVertexLink s coords (multiple 2 xs) → ⊥
double_no_link s coords xs c (v, lv, e) =
    let some = (c.one).none_empty 0 (omega arith) in
    let p : NormalDisc = slice_index_or (discs_of xs) some.0 no_piece in
    let h : IsPieceOf xs (slice_index_or (discs_of xs) some.0 no_piece) = listed_piece xs some.0 no_piece some.1 in
    let i : ℕ = (slice_index_or (discs_of xs) some.0 no_piece).column in
    let lc : (slice_index_or (discs_of xs) some.0 no_piece).column < length xs = h.column in
    let ln : (slice_index_or (discs_of xs) some.0 no_piece).number < slice_index xs (slice_index_or (discs_of xs) some.0 no_piece).column = h.number in
    let width : length xs ≡ columns coords (length s.rows) = sym (length-multiple 2 xs) ∙ ap (λ (ys : List ℕ). length ys) e ∙ length-link (length s.rows) s.vertices.classes v coords in
    let two : slice_index (multiple 2 xs) (slice_index_or (discs_of xs) some.0 no_piece).column ≡ 2 * slice_index xs (slice_index_or (discs_of xs) some.0 no_piece).column = entry-multiple 2 xs i in
    let entry : slice_index (multiple 2 xs) (slice_index_or (discs_of xs) some.0 no_piece).column ≡ link_entry coords s.vertices.classes v (slice_index_or (discs_of xs) some.0 no_piece).column =
    ap (λ (ys : List ℕ). slice_index ys i) e ∙ get_or-map-range_with_len (link_entry coords s.vertices.classes v) 0 (columns coords (length s.rows)) i i 0 (omega arith) (omega arith) in
    let limited = at_most_one (nat_lt (i % columns_each coords) 4 && (slice_index s.vertices.classes (vertex_number (i / columns_each coords) (i % columns_each coords)) == v)) in
    omega (arith, limited)
  where
    at_most_one : (b : Bool) → (if b then 1 else 0) ≤ 1
    at_most_one true = omega arith
    at_most_one false = omega arith

pub spheres_decide : (s : Skeleton) (coords : Coords) → IsSkeleton s → IsFirstInvalid s None → is_closed s.rows ≡ true → IsOrientable s.rows → PositiveAreLinks s coords ↔ SpheresAreLinks s coords
spheres_decide s coords k valid closed orientable = (
  λ efficient xs c two. efficient xs c (two_positive (characteristic s coords xs) two),
  λ spheres xs c positive. elim (positive_one_or_two s coords xs k valid c positive) [
    | inr two ↦ spheres xs c two
    | inl one ↦ absurd (
        let d : IsConnectedSurface s coords (multiple 2 xs) = double_connected s coords xs c (one_is_one_sided s coords xs c k valid closed orientable one) in
        double_no_link s coords xs c (spheres (multiple 2 xs) d (twice_one (characteristic s coords xs) (characteristic s coords (multiple 2 xs)) one (double_characteristic s coords xs))))
  ],
)

pub list_decides_spheres : (s : Skeleton) (coords : Coords) (surfaces : List (List ℕ)) → IsSkeleton s → IsFirstInvalid s None → is_closed s.rows ≡ true → IsOrientable s.rows → HasTriangles coords → IsSurfaceListOf s coords surfaces
    → SpheresAreLinks s coords ↔ ((v : List ℕ) → Contains surfaces v → IsPositive s coords v → IsVertexLink s coords v)
list_decides_spheres s coords surfaces k valid closed orientable triangles list =
    let both = spheres_decide s coords k valid closed orientable in
    let listed = list_decides s k coords triangles surfaces list in
    (λ spheres. listed.0 (both.1 spheres), λ links. both.0 (listed.1 links))

pub planes_and_spheres_decide : (s : Skeleton) (coords : Coords) (surfaces : List (List ℕ)) → IsSkeleton s → IsFirstInvalid s None → is_closed s.rows ≡ true → IsOrientable s.rows → HasTriangles coords → IsSurfaceListOf s coords surfaces
    → PositiveAreLinks s coords ↔ ((v : List ℕ) → Contains surfaces v → (characteristic s coords v ≢ pos 1) × (characteristic s coords v ≡ pos 2 → IsVertexLink s coords v))
planes_and_spheres_decide s coords surfaces k valid closed orientable triangles list = (to, from)
  where
    connected : (v : List ℕ) → Contains surfaces v → IsConnectedSurface s coords v
    connected v m = listed_connected s k coords triangles surfaces list v m

    -- a vertex link has two sides
    link_sides : (v : List ℕ) (c : IsConnectedSurface s coords v) → IsVertexLink s coords v → IsTwoSided s.rows coords v c.components 0
    link_sides v c (i, l, e) = subst (λ (ys : List ℕ). IsTwoSided s.rows coords ys c.components 0) (sym e) (two_sides s k i coords triangles c.components 0)

    to : PositiveAreLinks s coords → (v : List ℕ) → Contains surfaces v → (characteristic s coords v ≢ pos 1) × (characteristic s coords v ≡ pos 2 → IsVertexLink s coords v)
    to efficient v m = (
      λ one. let c = connected v m in one_is_one_sided s coords v c k valid closed orientable one (link_sides v c (efficient v c (one_positive (characteristic s coords v) one))),
      λ two. efficient v (connected v m) (two_positive (characteristic s coords v) two),
    )

    from : ((v : List ℕ) → Contains surfaces v → (characteristic s coords v ≢ pos 1) × (characteristic s coords v ≡ pos 2 → IsVertexLink s coords v)) → PositiveAreLinks s coords
    from h = (list_decides s k coords triangles surfaces list).1 (λ v m positive. elim (positive_one_or_two s coords v k valid (connected v m) positive) [
      | inl one ↦ absurd ((h v m).0 one)
      | inr two ↦ (h v m).1 two
    ])

pub efficiency_by_spheres : SpheresDecideEfficiency
efficiency_by_spheres s k valid closed orientable = spheres_decide s Standard k valid closed orientable
