-- The standard sphere has valid edges, and the link of its one vertex is a sphere by its numbers.
use Rattle.std.proofs.Common.{◌≡◌, ◌≢◌, ℕ, ◌+◌, ◌*◌, ◌/◌, ◌%◌, ◌<◌, Bool, true, List, [], ◌∷◌, length, refl, sym, ap, ◌∙◌, subst, subst₂, arith}
use Rattle.std.specs.Prelude.{◌==◌, ◌||◌, not, slice_index}
use Rattle.std.specs.List.{list_all, slice_index_or}
use Rattle.std.proofs.lemmas.Bool.{eqb-false, not-true}
use Rattle.basic_lemmas.proofs.Numbers.{given_apart}
use Rattle.table_definitions.specs.Lists.{below, times_in}
use Rattle.table_definitions.specs.Table.{Row}
use Rattle.table_definitions.specs.Classes.{IsNumbering}
use Rattle.table_definitions.specs.Places.{vertex, backwards, IsJoined, SameVertex, HasValidEdges}
use Rattle.table_definitions.proofs.ClassLaws.{one_count}
use Rattle.table_definitions.proofs.ListFacts.{list_all-below}
use Rattle.skeleton_definitions.specs.Links.{directed, SameDirected, link_vertices, link_edges, is_closed_link}
use Rattle.skeleton_definitions.proofs.OneSkeleton.{one_classes}
use Rattle.move_definitions.specs.Certificates.{standard_sphere}
use Rattle.certificate_laws.proofs.Sphere.{sphere_table}
use Rattle.skeleton_class_laws.specs.Crossings.{pair, pair_number, direction_at, vertex_at}
use Rattle.skeleton_class_laws.proofs.Cases.{head, pair_number-head, pair_number-parts}
use Rattle.skeleton_class_laws.proofs.DirectionTies.{pair_is, directed_pair}
use Rattle.skeleton_laws.proofs.EdgeEnds.{EdgeAt, edge_ends_at}
use Rattle.skeleton_laws.proofs.Spots.{vertex_number_again}
use Rattle.skeleton_laws.proofs.Arrows.{directed_arrow, arrow_place}
use Rattle.skeleton_laws.proofs.TestedClasses.{stays, stays_over, is_place_at, leads, ranges, numbered_by}

-- the numbers of a link by these classes: closed, and with Euler characteristic 2
abbrev pub SphereNumbers : List Row → List ℕ → List ℕ → ℕ → Type 0
SphereNumbers rows vs ds c = (is_closed_link rows vs c ≡ true) × (link_vertices vs ds c + times_in vs c ≡ link_edges rows vs c + 2)

-- each link has these numbers, in any numbering of the classes
abbrev pub HasSpheres : List Row → Type 0
HasSpheres rows =
    (vs : List ℕ) (n : ℕ) → IsNumbering (4 * length rows) (SameVertex rows) vs n → (ds : List ℕ) (d : ℕ) → IsNumbering (12 * length rows) (SameDirected rows) ds d
    → (c : ℕ) → c < n → SphereNumbers rows vs ds c

vertex_classes : List ℕ
vertex_classes = 0 ∷ 0 ∷ 0 ∷ 0 ∷ []

vertex_chain : ℕ → List ℕ
vertex_chain k = slice_index_or ([] ∷ (0 ∷ []) ∷ (3 ∷ 0 ∷ []) ∷ (2 ∷ []) ∷ []) k []

first_vertex : ℕ → ℕ
first_vertex c = 0

arrow_classes : List ℕ
arrow_classes = 0 ∷ 0 ∷ 1 ∷ 1 ∷ 0 ∷ 1 ∷ 1 ∷ 1 ∷ 2 ∷ 0 ∷ 0 ∷ 3 ∷ []

arrow_chain : ℕ → List ℕ
arrow_chain k = slice_index_or ([] ∷ (1 ∷ 3 ∷ []) ∷ [] ∷ (3 ∷ []) ∷ (3 ∷ []) ∷ (0 ∷ []) ∷ (3 ∷ 0 ∷ []) ∷ (3 ∷ 3 ∷ []) ∷ [] ∷ (2 ∷ []) ∷ (0 ∷ 2 ∷ []) ∷ [] ∷ []) k []

first_arrow : ℕ → ℕ
first_arrow c = slice_index (0 ∷ 2 ∷ 8 ∷ 11 ∷ []) c

low_vertex : (k : ℕ) → k % 4 < 4
low_vertex k = omega arith

vertices_numbered : IsNumbering 4 (SameVertex standard_sphere) vertex_classes 1
unfolding vertex_classes
vertices_numbered = numbered_by standard_sphere 4 vertex vertex_at vertex_classes 1 vertex_chain first_vertex sphere_table (λ k l. (low_vertex k, tt)) refl
    (unfold stays stays_over is_place_at vertex_classes in refl) (unfold leads is_place_at vertex_classes vertex_chain first_vertex in refl) (unfold ranges vertex_classes in refl) (λ i l. vertex_number_again i)

arrow_number_again : (i : ℕ) → i < 12 → direction_at (directed i) ≡ i
arrow_number_again i l =
    let r : i % 12 < 12 = omega arith in
    let p : pair_number ((i % 12) / 3) (head (i % 12)) ≡ i % 12 = pair_number-head (i % 12) r in
    let whole : 12 * (i / 12) + i % 12 ≡ i = omega arith in
    ap direction_at (directed_pair i) ∙ ap (λ k. 12 * (i / 12) + k) p ∙ whole

arrows_numbered : IsNumbering 12 (SameDirected standard_sphere) arrow_classes 4
unfolding arrow_classes
arrows_numbered = numbered_by standard_sphere 12 directed direction_at arrow_classes 4 arrow_chain first_arrow sphere_table (λ k l. arrow_place 1 (directed k) (directed_arrow 1 k l)) refl
    (unfold stays stays_over is_place_at arrow_classes in refl) (unfold leads is_place_at arrow_classes arrow_chain first_arrow in refl) (unfold ranges arrow_classes in refl) arrow_number_again

known_numbers : SphereNumbers standard_sphere vertex_classes arrow_classes 0
unfolding vertex_classes arrow_classes
known_numbers = (refl, refl)

pub sphere_spheres : HasSpheres standard_sphere
sphere_spheres vs n numbered ds d arrows c l =
    let v : vs ≡ vertex_classes = one_classes 4 (SameVertex standard_sphere) vs vertex_classes n 1 numbered vertices_numbered in
    let a : ds ≡ arrow_classes = one_classes 12 (SameDirected standard_sphere) ds arrow_classes d 4 arrows arrows_numbered in
    let one : n ≡ 1 = one_count 4 (SameVertex standard_sphere) vertex_classes n 1 (subst (λ (xs : List ℕ). IsNumbering 4 (SameVertex standard_sphere) xs n) v numbered) vertices_numbered in
    let z : 0 ≡ c = omega arith in
    subst (λ k. SphereNumbers standard_sphere vs ds k) z (subst₂ (λ (xs ys : List ℕ). SphereNumbers standard_sphere xs ys 0) (sym v) (sym a) known_numbers)

-- no directed edge is joined to its reverse
turn_test : ℕ → ℕ → Bool
turn_test a b = (a == b) || not (slice_index arrow_classes (pair_number a b) == slice_index arrow_classes (pair_number b a))

turn_tests : list_all (λ a. list_all (turn_test a) (below 4)) (below 4) ≡ true
unfolding turn_test arrow_classes
turn_tests = refl

pub sphere_valid : HasValidEdges standard_sphere
unfolding turn_test
sphere_valid i l j =
    let e : EdgeAt i = edge_ends_at i in
    let z : e.t ≡ 0 = (let t = e.tet in omega arith) in
    let back : e.b ≢ e.a = (λ q. e.separate (sym q)) in
    let there : IsJoined standard_sphere (pair 0 e.a e.b) (pair 0 e.b e.a) = subst (λ t. IsJoined standard_sphere (pair t e.a e.b) (pair t e.b e.a)) z (subst₂ (IsJoined standard_sphere) e.is (ap backwards e.is) j) in
    let arrows : IsJoined standard_sphere (directed (12 * 0 + pair_number e.a e.b)) (directed (12 * 0 + pair_number e.b e.a)) = subst₂ (IsJoined standard_sphere) (sym (pair_is 0 e.a e.b e.low_a e.low_b e.separate)) (sym (pair_is 0 e.b e.a e.low_b e.low_a back)) there in
    let la = (pair_number-parts e.a e.b e.low_a e.low_b e.separate).0 in
    let lb = (pair_number-parts e.b e.a e.low_b e.low_a back).0 in
    let same : slice_index arrow_classes (12 * 0 + pair_number e.a e.b) ≡ slice_index arrow_classes (12 * 0 + pair_number e.b e.a) = (arrows_numbered.together (12 * 0 + pair_number e.a e.b) (12 * 0 + pair_number e.b e.a) (omega arith) (omega arith)).1 arrows in
    let na : 12 * 0 + pair_number e.a e.b ≡ pair_number e.a e.b = omega arith in
    let nb : 12 * 0 + pair_number e.b e.a ≡ pair_number e.b e.a = omega arith in
    let t = given_apart e.a e.b (not (slice_index arrow_classes (pair_number e.a e.b) == slice_index arrow_classes (pair_number e.b e.a)))
    (list_all-below (turn_test e.a) 4 (list_all-below (λ a. list_all (turn_test a) (below 4)) 4 turn_tests e.a e.low_a) e.b e.low_b) e.separate in
    eqb-false (slice_index arrow_classes (pair_number e.a e.b)) (slice_index arrow_classes (pair_number e.b e.a)) (not-true (slice_index arrow_classes (pair_number e.a e.b) == slice_index arrow_classes (pair_number e.b e.a)) t)
    (ap (slice_index arrow_classes) (sym na) ∙ same ∙ ap (slice_index arrow_classes) nb)
