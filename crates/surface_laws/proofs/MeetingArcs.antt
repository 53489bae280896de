-- If an arc meets another across a gluing, the other meets it across the inverse gluing.
use Rattle.std.proofs.Common.{◌≡◌, ℕ, ◌<◌, List, Some, subst}
use Rattle.table_definitions.specs.Permutation.{image}
use Rattle.table_definitions.specs.Table.{Gluing, Row, Face, glue}
use Rattle.table_definitions.proofs.PermutationLaws.{image_below, image-of_inverse, images_apart}
use Rattle.surface_definitions.specs.declared.Coords.{Coords}
use Rattle.surface_definitions.specs.Pieces.{Arc, arcs_around, Meets}
use Rattle.surface_laws.specs.PieceLaws.{IsSurface, face_of_arc, MeetsBack}
use Rattle.surface_laws.proofs.Glued.{IsGlued, glued_is}
use Rattle.surface_laws.proofs.Solved.{solved}

abbrev pub arc_at : ℕ → ℕ → ℕ → ℕ → Arc
arc_at t f v k = record { tet = t; face = f; vertex = v; place = k }

module _ (rows : List Row) (coords : Coords) (xs : List ℕ) (s : IsSurface rows coords xs) where
  -- equally many arcs on both sides of a gluing
  pub as_many : (x : Face) (g : Gluing) (v : ℕ) → glue rows x ≡ Some g → v < 4 → (v ≡ x.face → ⊥) → arcs_around coords xs x.tet x.face v ≡ arcs_around coords xs g.tet (image g.perm x.face) (image g.perm v)
  as_many x g v e lv off = solved rows coords xs s.table s.triangles s.solves x g v e lv off

  pub meets_back : (a : Arc) (g : Gluing) → Meets rows coords xs a g → MeetsBack rows coords xs a g
  meets_back a g m =
      let i : IsGlued rows (face_of_arc a) g = glued_is rows (face_of_arc a) g s.table m.glued in
      record {
        meets = record {
          in_range = i.other_tet;
          is_vertex = image_below g.perm a.vertex i.permutes m.is_vertex;
          off_vertex = images_apart g.perm a.vertex a.face i.permutes m.is_vertex i.face m.off_vertex;
          there = subst (λ n. a.place < n) (as_many (face_of_arc a) g a.vertex m.glued m.is_vertex m.off_vertex) m.there;
          glued = i.back;
        };
        same = λ k. arc_at a.tet (image-of_inverse g.perm a.face i.permutes i.face k) (image-of_inverse g.perm a.vertex i.permutes m.is_vertex k) a.place;
      }
