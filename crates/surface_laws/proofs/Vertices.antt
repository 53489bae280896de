-- Vertices of one class, and a gluing that maps one to the next.
use Rattle.std.proofs.Common.{◌≡◌, ℕ, ◌+◌, ◌*◌, ◌/◌, ◌%◌, ◌<◌, Bool, true, false, List, [], ◌∷◌, length, Option, Some, None, option_map, refl, sym, ap, ◌∙◌, subst₂, arith}
use Rattle.std.specs.Prelude.{◌==◌, if◌then◌else◌, slice_index}
use Rattle.std.proofs.lemmas.Bool.{ne_eqb, or_from, or_parts, eqb-false}
use Rattle.table_definitions.specs.Lists.{has}
use Rattle.table_definitions.specs.Permutation.{image}
use Rattle.table_definitions.specs.Table.{Gluing, Row, Face, glue, IsTable}
use Rattle.table_definitions.specs.Classes.{IsNumbering}
use Rattle.table_definitions.specs.Places.{Place, carried, across, vertex, IsJoined, SameVertex}
use Rattle.table_definitions.proofs.ChainLaws.{joined_step}
use Rattle.table_definitions.proofs.PermutationLaws.{image_below}
use Rattle.table_definitions.proofs.Faces.{face_at}
use Rattle.skeleton_definitions.specs.Links.{vertex_number}
use Rattle.surface_laws.proofs.Glued.{IsGlued, glued_is}

abbrev pub one_vertex : ℕ → ℕ → Place
one_vertex t v = record { tet = t; vertices = v ∷ [] }

pub vertex_is : (t v : ℕ) → v < 4 → vertex (vertex_number t v) ≡ one_vertex t v
vertex_is t v l =
    let d : (4 * t + v) / 4 ≡ t = omega arith in
    let m : (4 * t + v) % 4 ≡ v = omega arith in
    λ i. record { tet = d i; vertices = m i ∷ [] }

pub number-vertex : (i : ℕ) → vertex_number (i / 4) (i % 4) ≡ i
number-vertex i = omega arith

crossed_if : List Row → Face → Place → Bool → Option Place
crossed_if rows x p b = if b then None else option_map (λ g. carried g p) (glue rows x)

pub across_is : (rows : List Row) (x : Face) (g : Gluing) (v : ℕ) → glue rows x ≡ Some g → (v ≡ x.face → ⊥) → across rows (one_vertex x.tet v) x.face ≡ Some (one_vertex g.tet (image g.perm v))
unfolding crossed_if
across_is rows x g v e off =
    let free : has (v ∷ []) x.face ≡ false = or_from (v == x.face) false (ne_eqb v x.face off) refl in
    ap (crossed_if rows x (one_vertex x.tet v)) free ∙ ap (option_map (λ g. carried g (one_vertex x.tet v))) e

-- a vertex and its image across a face
pub record IsCrossed (rows : List Row) (t v f : ℕ) (q : Place) : Type 0 where
  pub g : Gluing
  pub glued : glue rows (face_at t f) ≡ Some g
  pub off : v ≡ f → ⊥
  pub is : one_vertex g.tet (image g.perm v) ≡ q

pub crossed_is : (rows : List Row) (t v f : ℕ) (q : Place) → across rows (one_vertex t v) f ≡ Some q → IsCrossed rows t v f q
unfolding crossed_if
crossed_is rows t v f q e = by_test (has (v ∷ []) f) refl e
  where
    by_glue : (o : Option Gluing) → glue rows (face_at t f) ≡ o → (v ≡ f → ⊥) → option_map (λ g. carried g (one_vertex t v)) o ≡ Some q → IsCrossed rows t v f q
    by_glue None g off h = absurd cc
    by_glue (Some k) g off h = record { g = k; glued = g; off = off; is = (let s : one_vertex k.tet (image k.perm v) ≡ q = cc in s) }

    by_test : (b : Bool) → has (v ∷ []) f ≡ b → crossed_if rows (face_at t f) (one_vertex t v) b ≡ Some q → IsCrossed rows t v f q
    by_test true h d = absurd cc
    by_test false h d = by_glue (glue rows (face_at t f)) refl (eqb-false v f (or_parts (v == f) false h).0) d

module _ (rows : List Row) (table : IsTable rows) (classes : List ℕ) (count : ℕ) (numbered : IsNumbering (4 * length rows) (SameVertex rows) classes count) where
  -- a gluing keeps the class
  pub class_across : (x : Face) (g : Gluing) (v : ℕ) → glue rows x ≡ Some g → v < 4 → (v ≡ x.face → ⊥) → slice_index classes (vertex_number x.tet v) ≡ slice_index classes (vertex_number g.tet (image g.perm v))
  class_across x g v e lv off =
      let a : IsGlued rows x g = glued_is rows x g table e in
      let lw : image g.perm v < 4 = image_below g.perm v a.permutes lv in
      let li : vertex_number x.tet v < 4 * length rows = omega (arith, a.tet) in
      let lj : vertex_number g.tet (image g.perm v) < 4 * length rows = omega (arith, a.other_tet) in
      let step : IsJoined rows (one_vertex x.tet v) (one_vertex g.tet (image g.perm v)) = joined_step rows (one_vertex x.tet v) x.face (one_vertex g.tet (image g.perm v)) (across_is rows x g v e off) in
      (numbered.together (vertex_number x.tet v) (vertex_number g.tet (image g.perm v)) li lj).1
      (subst₂ (IsJoined rows) (sym (vertex_is x.tet v lv)) (sym (vertex_is g.tet (image g.perm v) lw)) step)
