-- What is known of the two vertices of a crossing.
use Rattle.std.proofs.Common.{◌≡◌, ◌≢◌, ℕ, zero, suc, ◌+◌, ◌*◌, ◌/◌, ◌%◌, ◌<◌, ◌≤◌, Bool, true, false, List, [], ◌∷◌, length, Option, Some, None, option_map, refl, sym, ap, ◌∙◌, subst, arith}
use Rattle.std.specs.Prelude.{slice_index, ◌==◌, if◌then◌else◌}
use Rattle.std.proofs.lemmas.Bool.{or_parts, eqb-false}
use Rattle.table_definitions.specs.Lists.{has}
use Rattle.table_definitions.specs.Permutation.{IsPermutationOfFour, image}
use Rattle.table_definitions.specs.Table.{Gluing, Row, Face, glue, IsTable}
use Rattle.table_definitions.specs.Places.{carried}
use Rattle.table_definitions.proofs.PermutationLaws.{image_below, images_apart}
use Rattle.table_definitions.proofs.Faces.{face_at}
use Rattle.skeleton_definitions.specs.Links.{vertex_number}
use Rattle.skeleton_definitions.specs.Skeleton.{Skeleton, IsSkeleton}
use Rattle.skeleton_class_laws.specs.Crossings.{crossed_vertex, vertex_at}
use Rattle.surface_definitions.specs.declared.Coords.TheVariants.{Quad}
use Rattle.surface_definitions.specs.Coordinates.{quad_column, keeping}
use Rattle.surface_laws.specs.LiftLaws.{AreHeights}
use Rattle.surface_laws.proofs.Glued.{IsGlued, glued_is}
use Rattle.surface_laws.proofs.Vertices.{one_vertex, number-vertex, across_is, class_across}
use Rattle.surface_laws.proofs.Turns.{keeping_below}
use Rattle.quad_lift.specs.Crossings.{IsCrossing}
use Rattle.quad_lift.specs.Spreads.{quads_around}

-- each of three quads is at most all of them
one_of_three : (xs : List ℕ) (t k : ℕ) → k < 3 → slice_index xs (quad_column Quad t k) ≤ slice_index xs (3 * t) + slice_index xs (3 * t + 1) + slice_index xs (3 * t + 2)
one_of_three xs t zero l = let e : slice_index xs (quad_column Quad t 0) ≡ slice_index xs (3 * t) = ap (slice_index xs) (omega arith) in omega arith
one_of_three xs t (suc zero) l = let e : slice_index xs (quad_column Quad t 1) ≡ slice_index xs (3 * t + 1) = ap (slice_index xs) (omega arith) in omega arith
one_of_three xs t (suc (suc zero)) l = let e : slice_index xs (quad_column Quad t 2) ≡ slice_index xs (3 * t + 2) = ap (slice_index xs) (omega arith) in omega arith
one_of_three xs t (suc (suc (suc k))) l = absurd (omega arith)

few_beside : (xs : List ℕ) (i t k : ℕ) → i / 4 ≡ t → k < 3 → slice_index xs (quad_column Quad t k) ≤ quads_around xs i
unfolding quads_around
few_beside xs i t k e l =
    subst (λ u. slice_index xs (quad_column Quad t k) ≤ slice_index xs (3 * u) + slice_index xs (3 * u + 1) + slice_index xs (3 * u + 2)) (sym e) (one_of_three xs t k l)

pub record IsCrossedTo (s : Skeleton) (xs : List ℕ) (i f other up down : ℕ) : Type 0 where
  pub in_range : other < 4 * length s.rows
  pub crossed : crossed_vertex s.rows i f ≡ Some other
  pub class : slice_index s.vertices.classes i ≡ slice_index s.vertices.classes other
  pub up_few : up ≤ quads_around xs i
  pub down_few : down ≤ quads_around xs other
  pub forced : (h : ℕ → ℕ) → AreHeights s xs (slice_index s.vertices.classes i) h → h i + up ≡ h other + down

pub crossed_to : (s : Skeleton) (k : IsSkeleton s) (xs : List ℕ) (i f other up down : ℕ) → i < 4 * length s.rows → IsCrossing s xs i f other up down → IsCrossedTo s xs i f other up down
unfolding crossed_vertex
crossed_to s k xs i f other up down li x =
    let g : Gluing = x.gluing in
    let t : ℕ = i / 4 in
    let v : ℕ = i % 4 in
    let w : ℕ = image g.perm v in
    let e : ℕ = image g.perm f in
    let into : IsGlued s.rows (face_at t f) g = glued_is s.rows (face_at t f) g k.table x.glued in
    let lv : v < 4 = omega arith in
    let lw : w < 4 = image_below g.perm v into.permutes lv in
    let q : keeping v f < 3 = keeping_below v f lv into.face x.off in
    let q' : keeping w e < 3 = keeping_below w e lw into.other_face (images_apart g.perm v f into.permutes lv into.face x.off) in
    let there : other / 4 ≡ g.tet = (let o : other ≡ 4 * g.tet + w = x.other_is in omega arith) in
    let same : slice_index s.vertices.classes i ≡ slice_index s.vertices.classes (vertex_number g.tet w) =
    ap (slice_index s.vertices.classes) (sym (number-vertex i)) ∙ class_across s.rows k.table s.vertices.classes s.vertices.count k.vertices (face_at t f) g v x.glued lv x.off in
    record {
      in_range = (let o : other ≡ 4 * g.tet + w = x.other_is in omega (arith, into.other_tet));
      crossed = ap (option_map vertex_at) (across_is s.rows (face_at t f) g v x.glued x.off) ∙ ap Some (sym x.other_is);
      class = same ∙ ap (slice_index s.vertices.classes) (sym x.other_is);
      up_few = subst (λ n. n ≤ quads_around xs i) (sym x.up_is) (few_beside xs i t (keeping v f) refl q);
      down_few = subst (λ n. n ≤ quads_around xs other) (sym x.down_is) (few_beside xs other g.tet (keeping w e) there q');
      forced = λ h a.
          ap (λ n. h n + up) (sym (number-vertex i)) ∙ ap (λ n. h (vertex_number t v) + n) x.up_is
          ∙ a (face_at t f) g v x.glued lv x.off (ap (slice_index s.vertices.classes) (number-vertex i))
          ∙ ap (λ n. h (vertex_number g.tet w) + n) (sym x.down_is) ∙ ap (λ n. h n + down) (sym x.other_is);
    }

-- no vertex is reached across the face opposite the vertex, or across a boundary face
pub crossed_none : (rows : List Row) (i f : ℕ) → (i % 4 ≢ f → glue rows (record { tet = i / 4; face = f }) ≡ None) → crossed_vertex rows i f ≡ None
unfolding crossed_vertex
crossed_none rows i f free = go (has (i % 4 ∷ []) f) refl
  where
    go : (b : Bool) → has (i % 4 ∷ []) f ≡ b → option_map vertex_at (if b then None else option_map (λ g. carried g (one_vertex (i / 4) (i % 4))) (glue rows (record { tet = i / 4; face = f }))) ≡ None
    go true e = refl
    go false e = ap (λ o. option_map vertex_at (option_map (λ g. carried g (one_vertex (i / 4) (i % 4))) o)) (free (eqb-false (i % 4) f (or_parts (i % 4 == f) false e).0))

-- the tetrahedron across a face
pub record IsAcross (rows : List Row) (g : Gluing) : Type 0 where
  pub in_range : g.tet < length rows
  pub limited : length rows ≤ 1000
  pub permutes : IsPermutationOfFour g.perm

pub behind : (rows read : List Row) (x : Face) (g : Gluing) → IsTable rows → read ≡ rows → (let o : Option Gluing = Some g in o ≡ glue read x) → IsAcross rows g
behind rows read x g table same e = record { in_range = table.in_range x g (ap (λ (rs : List Row). glue rs x) (sym same) ∙ sym e); limited = table.limited; permutes = table.permutes x g (ap (λ (rs : List Row). glue rs x) (sym same) ∙ sym e) }
