-- Vertices of tetrahedra, and their classes.
use Rattle.std.proofs.Common.{◌≡◌, ℕ, ◌+◌, ◌*◌, ◌%◌, ◌<◌, List, length, refl, sym, ap, ◌∙◌, subst₂, arith}
use Rattle.std.specs.Prelude.{◌↔◌, slice_index}
use Rattle.table_definitions.specs.Table.{Row}
use Rattle.table_definitions.specs.Classes.{IsNumbering}
use Rattle.table_definitions.specs.Places.{Place, vertex, IsJoined, SameVertex}
use Rattle.skeleton_class_laws.specs.Crossings.{vertex_at}
use Rattle.skeleton_class_laws.proofs.VertexTies.{vertex_is}
use Rattle.surface_laws.proofs.Vertices.{one_vertex}

pub record IsSpot (n : ℕ) (p : Place) : Type 0 where
  pub v : ℕ
  pub is : p ≡ one_vertex p.tet v
  pub below : p.tet < n
  pub low : v < 4

abbrev pub class_of : List ℕ → Place → ℕ
class_of classes p = slice_index classes (vertex_at p)

pub spot_number : (n : ℕ) (p : Place) (s : IsSpot n p) → vertex_at p ≡ 4 * p.tet + s.v
spot_number n p s = ap (λ (r : Place). vertex_at r) s.is

pub spot_below : (n : ℕ) (p : Place) → IsSpot n p → vertex_at p < 4 * n
spot_below n p s = let e = spot_number n p s in let l = s.below in let v = s.low in omega arith

pub spot_again : (n : ℕ) (p : Place) → IsSpot n p → vertex (vertex_at p) ≡ p
spot_again n p s = ap vertex (spot_number n p s) ∙ vertex_is p.tet s.v s.low ∙ sym s.is

pub vertex_spot : (n i : ℕ) → i < 4 * n → IsSpot n (vertex i)
vertex_spot n i l = record { v = i % 4; is = refl; below = omega arith; low = omega arith }

pub vertex_number_again : (i : ℕ) → vertex_at (vertex i) ≡ i
vertex_number_again i = omega arith

-- two vertices are of one class if and only if they are joined
pub one_class : (rows : List Row) (classes : List ℕ) (count : ℕ) → IsNumbering (4 * length rows) (SameVertex rows) classes count → (p q : Place) → IsSpot (length rows) p → IsSpot (length rows) q
    → (class_of classes p ≡ class_of classes q) ↔ IsJoined rows p q
one_class rows classes count numbered p q s t =
    let z = numbered.together (vertex_at p) (vertex_at q) (spot_below (length rows) p s) (spot_below (length rows) q t) in (
      (λ e. subst₂ (IsJoined rows) (spot_again (length rows) p s) (spot_again (length rows) q t) (z.0 e)),
      (λ j. z.1 (subst₂ (IsJoined rows) (sym (spot_again (length rows) p s)) (sym (spot_again (length rows) q t)) j)),
    )
