-- A closed table with valid edges and links that are spheres has Euler characteristic 0.
use Rattle.std.proofs.Common.{◌≡◌, ℕ, ◌+◌, ◌*◌, ◌<◌, List, length, ap, ◌∙◌, arith}
use Rattle.std.specs.Prelude.{sum_by, pos, ◌-ℤ◌}
use Rattle.std.proofs.lemmas.Int.{ints}
use Rattle.table_definitions.specs.Lists.{below, times_in}
use Rattle.table_definitions.specs.Classes.{IsNumbering}
use Rattle.table_definitions.proofs.Listed.{below-among}
use Rattle.skeleton_definitions.specs.Links.{SameDirected, link_vertices, link_edges}
use Rattle.skeleton_definitions.specs.Skeleton.{Skeleton, IsSkeleton}
use Rattle.move_laws.proofs.Closed.{AreGluedAll, all_glued}
use Rattle.move_laws.proofs.Certified.{certified_are_closed}
use Rattle.surface_laws.proofs.Counting.{sum_by_same}
use Rattle.skeleton_class_laws.specs.declared.Kind.TheVariants.{Directions}
use Rattle.skeleton_class_laws.proofs.Numbered.{classes_exist}
use Rattle.table_definitions.specs.Places.{HasValidEdges}
use Rattle.move_link_laws.specs.Certified.{CertifiedHaveCharacteristicZero}
use Rattle.move_link_laws.proofs.Standard.{HasSpheres}
use Rattle.move_link_laws.proofs.Spheres.{certified_spheres, certified_valid}
use Rattle.move_link_laws.proofs.ClosedEuler.{links_add_up}

zero_from : (v f e n : ℕ) → v + f ≡ e + n → pos (v + f) -ℤ pos (e + n) ≡ pos 0
zero_from v f e n h = omega (arith, ints)

halved : (a b p : ℕ) → 2 * a + p ≡ 2 * b + p → a ≡ b
halved a b p h = omega arith

module _ (s : Skeleton) (k : IsSkeleton s) (spheres : HasSpheres s.rows) (valid : HasValidEdges s.rows) (all : AreGluedAll s.rows) where
  module _ (ds : List ℕ) (d : ℕ) (arrows : IsNumbering (12 * length s.rows) (SameDirected s.rows) ds d) where
    each : (c : ℕ) → c < s.vertices.count → 2 + link_edges s.rows s.vertices.classes c ≡ link_vertices s.vertices.classes ds c + times_in s.vertices.classes c
    each c l = let q = (spheres s.vertices.classes s.vertices.count k.vertices ds d arrows c l).1 in omega arith

    pub adds_up : s.vertices.count + s.faces.count ≡ s.edges.count + length s.rows
    adds_up =
        halved (s.vertices.count + s.faces.count) (s.edges.count + length s.rows) (sum_by (λ c. link_vertices s.vertices.classes ds c + times_in s.vertices.classes c) (below s.vertices.count))
        (links_add_up s k valid all ds d arrows
        ∙ ap (λ m. 2 * (s.edges.count + length s.rows) + m) (sum_by_same (λ c. 2 + link_edges s.rows s.vertices.classes c) (λ c. link_vertices s.vertices.classes ds c + times_in s.vertices.classes c) (below s.vertices.count) (λ c a. each c (below-among c s.vertices.count a))))

pub certified_zero : CertifiedHaveCharacteristicZero
certified_zero s moves k certificate =
    let a = classes_exist Directions s.rows k.table in
    zero_from s.vertices.count s.faces.count s.edges.count (length s.rows)
    (adds_up s k (certified_spheres s.rows moves k.table certificate) (certified_valid s.rows moves k.table certificate) (all_glued s.rows (certified_are_closed s.rows moves k.table certificate)) a.classes a.count a.numbered)
