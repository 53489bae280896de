-- Vertices by numbers.
use Rattle.std.proofs.Common.{◌≡◌, ℕ, ◌+◌, ◌*◌, ◌/◌, ◌%◌, ◌<◌, List, [], ◌∷◌, length, refl, sym, ap, ◌∙◌, arith, subst}
use Rattle.table_definitions.specs.Permutation.{image}
use Rattle.table_definitions.specs.Table.{Row, IsTable}
use Rattle.table_definitions.specs.Places.{Place, vertex}
use Rattle.table_definitions.proofs.PermutationLaws.{image_below}
use Rattle.table_definitions.proofs.ChainLaws.{steps_across}
use Rattle.skeleton_class_laws.specs.Crossings.{vertex_at, crossed_vertex}
use Rattle.skeleton_class_laws.proofs.PlaceLemmas.{AreCounted}

pub vertex_is : (t v : ℕ) → v < 4 → vertex (4 * t + v) ≡ record { tet = t; vertices = v ∷ [] }
vertex_is t v l =
    let d : (4 * t + v) / 4 ≡ t = omega arith in
    let m : (4 * t + v) % 4 ≡ v = omega arith in
    λ i. record { tet = d i; vertices = m i ∷ [] }

pub vertices_counted : (rows : List Row) → IsTable rows → AreCounted rows (4 * length rows) vertex vertex_at (crossed_vertex rows)
unfolding crossed_vertex
vertices_counted rows table = record {
  steps = λ i f. refl;
  numbered = λ i l. omega arith;
  are_places = λ i l. let m : i % 4 < 4 = omega arith in (m, tt);
  lands = λ i f q l e.
      let s = steps_across rows (vertex i) f q e in
      let m : i % 4 < 4 = omega arith in
      let v : image s.gluing.perm (i % 4) < 4 = image_below s.gluing.perm (i % 4) (table.permutes _ s.gluing s.glued) m in
      let t : s.gluing.tet < length rows = table.in_range _ s.gluing s.glued in
      let inside : 4 * s.gluing.tet + image s.gluing.perm (i % 4) < 4 * length rows = omega arith in (
        s.lands ∙ sym (vertex_is s.gluing.tet (image s.gluing.perm (i % 4)) v) ∙ ap (λ (r : Place). vertex (vertex_at r)) (sym s.lands),
        subst (λ (r : Place). vertex_at r < 4 * length rows) (sym s.lands) inside,
      );
}
