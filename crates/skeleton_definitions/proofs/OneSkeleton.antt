-- The skeleton of a table is unique.
use Rattle.std.proofs.Common.{◌≡◌, ℕ, ◌*◌, List, length, sym, ◌∙◌, subst, ap₂, arith, ext_get_or}
use Rattle.table_definitions.specs.Table.{Row}
use Rattle.table_definitions.specs.Classes.{IsNumbering}
use Rattle.table_definitions.specs.Places.{SameVertex, SameEdge, SameFace}
use Rattle.table_definitions.proofs.ClassLaws.{numberings_agree, one_count}
use Rattle.skeleton_definitions.specs.Skeleton.{Numbering, Skeleton, IsSkeleton}

pub one_classes : (n : ℕ) (Same : ℕ → ℕ → Type 0) (one other : List ℕ) (k m : ℕ) → IsNumbering n Same one k → IsNumbering n Same other m → one ≡ other
one_classes n Same one other k m a b =
    let e = a.one_each in
    ext_get_or 0 one other (a.one_each ∙ sym b.one_each) (λ i h. numberings_agree n Same one other k m a b i (omega arith))

one_numbering : (n : ℕ) (Same : ℕ → ℕ → Type 0) (one other : Numbering) → IsNumbering n Same one.classes one.count →
    IsNumbering n Same other.classes other.count → one ≡ other
one_numbering n Same one other a b =
    let make : List ℕ → ℕ → Numbering = λ classes count. record { classes = classes; count = count } in
    let e = one_classes n Same one.classes other.classes one.count other.count a b in
    ap₂ make e (one_count n Same other.classes one.count other.count (subst (λ (xs : List ℕ). IsNumbering n Same xs one.count) e a) b)

pub one_skeleton : (s t : Skeleton) → s.rows ≡ t.rows → IsSkeleton s → IsSkeleton t → s ≡ t
one_skeleton s t e a b = λ i. record { rows = e i; vertices = vertices i; edges = edges i; faces = faces i }
  where
    vertices : s.vertices ≡ t.vertices
    vertices = one_numbering (4 * length t.rows) (SameVertex t.rows) s.vertices t.vertices
        (subst (λ (r : List Row). IsNumbering (4 * length r) (SameVertex r) s.vertices.classes s.vertices.count) e a.vertices) b.vertices

    edges : s.edges ≡ t.edges
    edges = one_numbering (6 * length t.rows) (SameEdge t.rows) s.edges t.edges
        (subst (λ (r : List Row). IsNumbering (6 * length r) (SameEdge r) s.edges.classes s.edges.count) e a.edges) b.edges

    faces : s.faces ≡ t.faces
    faces = one_numbering (4 * length t.rows) (SameFace t.rows) s.faces t.faces
        (subst (λ (r : List Row). IsNumbering (4 * length r) (SameFace r) s.faces.classes s.faces.count) e a.faces) b.faces
