-- Extreme solutions, and sums of two solutions that are multiples of them.
use Rattle.std.proofs.Common.{◌≡◌, ◌≢◌, ℕ, ◌+◌, ◌*◌, ◌≤◌, inl, inr, List, [], length, slice_index, sym, ap, ◌∙◌, arith}
use Rattle.std.proofs.lemmas.List.Elements.{All-nil}
use Rattle.cone_definitions.specs.Vectors.{IsInside, multiple, sum_of}
use Rattle.cone_definitions.specs.Rows.{Row, IsSolution, IsExtreme, IsPrimitiveExtreme}
use Rattle.cone_definitions.specs.Surfaces.{IsVertexSurface}
use Rattle.cone_definitions.specs.Laws.{HasDescent}
use Rattle.cone_definitions.proofs.Entries.{zero_or_nonzero, same_vectors, length-multiple, entry-multiple, entry-sum_of, inside_trans}
use Rattle.cone_definitions.proofs.Solutions.{mul_cancel, multiple_solution}
use Rattle.cone_definitions.proofs.OneRay.{proportional}
use Rattle.cone_definitions.proofs.Extreme.{descent_lem}
use Rattle.cone_ray_laws.specs.Rays.{IsOnRay, SpansRay}

-- vectors on one ray, by their entries
pub on_ray : (x y : List ℕ) (m c : ℕ) → length x ≡ length y → 1 ≤ m → ((j : ℕ) → m * slice_index y j ≡ c * slice_index x j) → IsOnRay x y
on_ray x y m c e some h = record {
  y_times = m;
  x_times = c;
  some_y = some;
  same = same_vectors (multiple m y) (multiple c x) (length-multiple m y ∙ sym e ∙ sym (length-multiple c x))
      (λ j. entry-multiple m y j ∙ h j ∙ sym (entry-multiple c x j));
}

pub on_ray_entry : (x y : List ℕ) (r : IsOnRay x y) (j : ℕ) → r.y_times * slice_index y j ≡ r.x_times * slice_index x j
on_ray_entry x y r j = sym (entry-multiple r.y_times y j) ∙ ap (λ v. slice_index v j) r.same ∙ entry-multiple r.x_times x j

parts_entry : (k : ℕ) (x y z : List ℕ) → length y ≡ length z → multiple k x ≡ sum_of y z → (j : ℕ) → k * slice_index x j ≡ slice_index y j + slice_index z j
parts_entry k x y z e h j = sym (entry-multiple k x j) ∙ ap (λ v. slice_index v j) h ∙ entry-sum_of y z e j

part_zero : (k x y z : ℕ) → k * x ≡ y + z → x ≡ 0 → y ≡ 0
part_zero k x y z e s = let w : k * x ≡ 0 = rw s (omega arith) in omega arith

-- a solution inside an extreme one lies on its ray
inside_on_ray : (columns : ℕ) (rows : List Row) (x y : List ℕ) → IsExtreme columns rows x → IsSolution columns rows y → IsInside y x → IsOnRay x y
inside_on_ray columns rows x y ex sy inside = let e : length x ≡ length y = ex.solution.width ∙ sym sy.width in elim (zero_or_nonzero y) [
  | inl none ↦ on_ray x y 1 0 e (omega arith) (λ j. let z : slice_index y j ≡ 0 = none j in omega arith)
  | inr some ↦ let p = proportional columns rows x y ex sy some inside in on_ray x y p.c p.m e p.some_c (λ j. sym (p.same j))
]

pub extreme_spans : (columns : ℕ) (rows : List Row) (x : List ℕ) → IsExtreme columns rows x → SpansRay columns rows x
extreme_spans columns rows x ex = record {
  solution = ex.solution;
  nonzero = ex.nonzero;
  parts = λ k y z some sy sz h. let e : length y ≡ length z = sy.width ∙ sym sz.width in (
    inside_on_ray columns rows x y ex sy (λ j s. part_zero k (slice_index x j) (slice_index y j) (slice_index z j) (parts_entry k x y z e h j) s),
    inside_on_ray columns rows x z ex sz (λ j s. part_zero k (slice_index x j) (slice_index z j) (slice_index y j)
        (let f : k * slice_index x j ≡ slice_index y j + slice_index z j = parts_entry k x y z e h j in omega arith) s),
  );
}

-- a vector on the ray of x that is 0 at a column at which x is not 0 is 0
zero_on_ray : (x y : List ℕ) → IsOnRay x y → (k : ℕ) → slice_index y k ≡ 0 → slice_index x k ≢ 0 → (j : ℕ) → slice_index y j ≡ 0
zero_on_ray x y r k gone was j = mul_cancel r.y_times (slice_index y j) 0 r.some_y (on_ray_entry x y r j ∙ rw none (omega arith))
  where
    here : slice_index x k * r.x_times ≡ slice_index x k * 0
    here = let e : r.y_times * slice_index y k ≡ r.x_times * slice_index x k = on_ray_entry x y r k in
        let w : r.y_times * slice_index y k ≡ 0 = rw gone (omega arith) in omega arith

    none : r.x_times ≡ 0
    none = mul_cancel (slice_index x k) r.x_times 0 (omega (arith, was)) here

cancel_zero : (m c x v r : ℕ) → 1 ≤ m → m * x ≡ c * v + r → r ≡ 0 → v ≡ 0 → x ≡ 0
cancel_zero m c x v r some e s t = let w : c * v ≡ 0 = rw t (omega arith) in mul_cancel m x 0 some (omega arith)

-- the rest of a descent is 0, so x has the support of the extreme solution
inside_descent : (columns : ℕ) (rows : List Row) (x : List ℕ) → SpansRay columns rows x → (d : HasDescent columns rows x) → IsInside x d.v
inside_descent columns rows x s d j z = cancel_zero d.m d.c (slice_index x j) (slice_index d.v j) (slice_index d.rest j) d.some_m entry rest z
  where
    widths : length (multiple d.c d.v) ≡ length d.rest
    widths = length-multiple d.c d.v ∙ d.extreme.solution.width ∙ sym d.solution.width

    entry : d.m * slice_index x j ≡ d.c * slice_index d.v j + slice_index d.rest j
    entry = let e : d.m * slice_index x j ≡ slice_index (multiple d.c d.v) j + slice_index d.rest j = parts_entry d.m x (multiple d.c d.v) d.rest widths d.sum j in
        let f : slice_index (multiple d.c d.v) j ≡ d.c * slice_index d.v j = entry-multiple d.c d.v j in omega arith

    rest : slice_index d.rest j ≡ 0
    rest = zero_on_ray x d.rest
        (s.parts d.m (multiple d.c d.v) d.rest d.some_m (multiple_solution columns rows d.c d.v d.extreme.solution) d.solution d.sum).1
        d.smaller.column d.smaller.gone d.smaller.was j

pub spanning_is_extreme : (columns : ℕ) (rows : List Row) (x : List ℕ) → SpansRay columns rows x → IsExtreme columns rows x
spanning_is_extreme columns rows x s = let d = descent_lem columns rows x s.solution s.nonzero in
    let same : IsInside x d.v = inside_descent columns rows x s d in record {
      solution = s.solution;
      nonzero = s.nonzero;
      least = λ y sy some inside. inside_trans x d.v y same (d.extreme.least y sy some (inside_trans y x d.v inside same));
    }

pub surface_is_ray : (columns : ℕ) (rows : List Row) (x : List ℕ) → IsVertexSurface columns rows [] x → IsPrimitiveExtreme columns rows x
surface_is_ray columns rows x h = record { extreme = h.extreme; primitive = h.primitive }

pub ray_is_surface : (columns : ℕ) (rows : List Row) (x : List ℕ) → IsPrimitiveExtreme columns rows x → IsVertexSurface columns rows [] x
ray_is_surface columns rows x h = record { extreme = h.extreme; admissible = All-nil _; primitive = h.primitive }
