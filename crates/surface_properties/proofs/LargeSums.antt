-- The first of three sums that is large.
use Rattle.std.proofs.Common.{◌≡◌, ℕ, ◌+◌, ◌<◌, ◌≤◌, Some, None, ap, ◌∙◌}
use Rattle.std.specs.Prelude.{nat_lt, if◌then◌else◌}
use Rattle.std.proofs.lemmas.Bool.{lt-ltb, le-ltb}
use Rattle.surface_vector_definitions.specs.declared.SurfaceSum.TheVariants.{Points, Arcs, PointsAndPieces}
use Rattle.surface_vector_definitions.specs.Properties.{large_sum}

pub large_points : (max p a q : ℕ) → max < p → large_sum max p a q ≡ Some Points
large_points max p a q l = ap (λ b. if b then Some Points else (if nat_lt max a then Some Arcs else (if nat_lt max (p + q) then Some PointsAndPieces else None))) (lt-ltb max p l)

past_points : (max p a q : ℕ) → p ≤ max → large_sum max p a q ≡ (if nat_lt max a then Some Arcs else (if nat_lt max (p + q) then Some PointsAndPieces else None))
past_points max p a q l = ap (λ b. if b then Some Points else (if nat_lt max a then Some Arcs else (if nat_lt max (p + q) then Some PointsAndPieces else None))) (le-ltb max p l)

pub large_arcs : (max p a q : ℕ) → p ≤ max → max < a → large_sum max p a q ≡ Some Arcs
large_arcs max p a q l m = past_points max p a q l ∙ ap (λ b. if b then Some Arcs else (if nat_lt max (p + q) then Some PointsAndPieces else None)) (lt-ltb max a m)

past_arcs : (max p a q : ℕ) → p ≤ max → a ≤ max → large_sum max p a q ≡ (if nat_lt max (p + q) then Some PointsAndPieces else None)
past_arcs max p a q l m = past_points max p a q l ∙ ap (λ b. if b then Some Arcs else (if nat_lt max (p + q) then Some PointsAndPieces else None)) (le-ltb max a m)

pub large_both : (max p a q : ℕ) → p ≤ max → a ≤ max → max < p + q → large_sum max p a q ≡ Some PointsAndPieces
large_both max p a q l m n = past_arcs max p a q l m ∙ ap (λ b. if b then Some PointsAndPieces else None) (lt-ltb max (p + q) n)

pub none_large : (max p a q : ℕ) → p ≤ max → a ≤ max → p + q ≤ max → large_sum max p a q ≡ None
none_large max p a q l m n = past_arcs max p a q l m ∙ ap (λ b. if b then Some PointsAndPieces else None) (le-ltb max (p + q) n)
