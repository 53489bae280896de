-- The sides of a vertex class that lie in boundary faces, by number.
use Rattle.std.proofs.Common.{◌≡◌, ◌≢◌, ℕ, ◌*◌, ◌/◌, ◌%◌, ◌<◌, Bool, true, not, List, length, filter, Option, Some, None, refl, sym, ap, ◌∙◌, arith}
use Rattle.std.specs.Prelude.{◌==◌, ◌&&◌, is_none, slice_index}
use Rattle.std.proofs.lemmas.Bool.{and_parts, and_from, eqb-true, eqb-false, eq-eqb, ne_eqb, not-true}
use Rattle.table_definitions.specs.Lists.{below}
use Rattle.table_definitions.specs.Table.{Gluing, glue}
use Rattle.table_definitions.specs.Places.{is_boundary}
use Rattle.table_definitions.proofs.Listed.{Among-filter, filter-among, below-among}
use Rattle.table_definitions.proofs.TableLaws.{Among, Among-below}
use Rattle.table_definitions.proofs.Faces.{face_at}
use Rattle.skeleton_definitions.specs.Corners.{Corner, left_through}
use Rattle.skeleton_definitions.specs.Links.{vertex_number}
use Rattle.skeleton_definitions.specs.Skeleton.{Skeleton}
use Rattle.table_definitions.proofs.DistinctLists.{AreApart, apart_filter, apart_below}
use Rattle.surface_quad_lift_laws.proofs.Flags.{IsVertexClass, IsFlag, side, triangle_of}
use Rattle.surface_quad_lift_laws.proofs.SideLists.{flag_of, flag_in}

pub none_is : {A : Type 0} (o : Option A) → is_none o ≡ true → o ≡ None
none_is None e = refl
none_is (Some x) e = absurd cc

module _ (s : Skeleton) (c : ℕ) (z : IsVertexClass s c) where
  abbrev n : ℕ
  n = length s.rows

  free_test : ℕ → Bool
  free_test x = (slice_index s.vertices.classes (x / 4) == c) && (not (x % 4 == (x / 4) % 4) && is_boundary s.rows (face_at (x / 16) (x % 4)))

  pub free_sides : List ℕ
  free_sides = filter free_test (below (16 * n))

  pub free_apart : AreApart free_sides
  unfolding free_sides
  free_apart = apart_filter free_test (below (16 * n)) (apart_below (16 * n))

  -- the flag of a boundary side
  pub record IsFreeSide (x : ℕ) : Type 0 where
    pub k : Corner
    pub flag : IsFlag s c z k
    pub free : glue s.rows (left_through k) ≡ None
    pub is : side k ≡ x

  pub listed_free : (x : ℕ) → Among x free_sides → IsFreeSide x
  unfolding free_sides free_test
  listed_free x h =
      let m = filter-among free_test x (below (16 * n)) h in
      let low : x < 16 * n = below-among x (16 * n) m.0 in
      let p = and_parts (slice_index s.vertices.classes (x / 4) == c) (not (x % 4 == (x / 4) % 4) && is_boundary s.rows (face_at (x / 16) (x % 4))) m.1 in
      let q = and_parts (not (x % 4 == (x / 4) % 4)) (is_boundary s.rows (face_at (x / 16) (x % 4))) p.1 in
      let off : x % 4 ≢ (x / 4) % 4 = eqb-false (x % 4) ((x / 4) % 4) (not-true (x % 4 == (x / 4) % 4) q.0) in
      let at : vertex_number (x / 16) ((x / 4) % 4) ≡ x / 4 = omega arith in
      record {
        k = flag_of (x / 16) ((x / 4) % 4) (x % 4);
        flag = flag_in s c z (x / 16) ((x / 4) % 4) (x % 4) (omega arith) (omega arith) (omega arith) (λ e. off (sym e)) (ap (slice_index s.vertices.classes) at ∙ eqb-true (slice_index s.vertices.classes (x / 4)) c p.0);
        free = none_is (glue s.rows (face_at (x / 16) (x % 4))) q.1;
        is = omega arith;
      }

  pub free_listed : (k : Corner) → IsFlag s c z k → glue s.rows (left_through k) ≡ None → Among (side k) free_sides
  unfolding free_sides free_test
  free_listed k h e =
      let f = h.four in
      let la : k.a < 4 = f.a in
      let lc : k.c < 4 = f.c in
      let lt : k.tet < n = f.tet in
      let low : side k < 16 * n = omega arith in
      let x4 : side k / 4 ≡ triangle_of k = omega arith in
      let rest : side k % 4 ≡ k.c = omega arith in
      let tet : side k / 16 ≡ k.tet = omega arith in
      let vertex : (side k / 4) % 4 ≡ k.a = omega arith in
      let off : side k % 4 ≢ (side k / 4) % 4 = λ q. f.ac (sym (sym rest ∙ q ∙ vertex)) in
      Among-filter free_test (side k) (below (16 * n)) (Among-below (side k) (16 * n) low)
      (and_from (slice_index s.vertices.classes (side k / 4) == c) (not (side k % 4 == (side k / 4) % 4) && is_boundary s.rows (face_at (side k / 16) (side k % 4)))
      (eq-eqb (slice_index s.vertices.classes (side k / 4)) c (ap (slice_index s.vertices.classes) x4 ∙ h.chosen))
      (and_from (not (side k % 4 == (side k / 4) % 4)) (is_boundary s.rows (face_at (side k / 16) (side k % 4)))
      (ap not (ne_eqb (side k % 4) ((side k / 4) % 4) off))
      ((λ i. is_boundary s.rows (face_at (tet i) (rest i))) ∙ ap (λ (o : Option Gluing). is_none o) e)))
