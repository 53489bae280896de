-- A struct stores only that a proof exists that its vector is a surface. The proof is recovered: it is decidable which
-- of two clashing columns is 0, and the other facts have at most one proof each.
use Rattle.std.proofs.Common.{◌≡◌, ℕ, zero, suc, Bool, true, false, List, length, inl, inr, ◌⊎◌, refl}
use Rattle.std.specs.Prelude.{slice_index, T}
use Rattle.std.specs.List.{slice_index_or}
use Rattle.std.proofs.Props.{props}
use Rattle.std.proofs.Math.Logic.{∥∥₁_elim}
use mathlib.Core.Logic.{∥∥₁_prop}
use Rattle.cone_definitions.specs.Surfaces.{Clash}
use Rattle.table_definitions.specs.Table.{Row}
use Rattle.surface_definitions.specs.declared.Coords.{Coords}
use Rattle.surface_definitions.specs.Coordinates.{has_triangles, clash_list}
use Rattle.surface_laws.specs.PieceLaws.{IsSurface}

truth_held : (b : Bool) → ∥ T b ∥₁ → T b
truth_held true h = tt
truth_held false h = ∥∥₁_elim h (λ x y. absurd x) (λ e. e)

one_zero : (a b : ℕ) → ∥ (a ≡ 0) ⊎ (b ≡ 0) ∥₁ → (a ≡ 0) ⊎ (b ≡ 0)
one_zero zero b h = inl refl
one_zero (suc a) b h = inr (∥∥₁_elim h (hlevel props) (λ e. elim e [ inl z ↦ absurd (cc z) | inr z ↦ z ]))

pub held : (rows : List Row) (coords : Coords) (xs : List ℕ) → ∥ IsSurface rows coords xs ∥₁ → IsSurface rows coords xs
held rows coords xs h = record {
  table = ∥∥₁_elim h (hlevel props) (λ s. s.table);
  triangles = truth_held (has_triangles coords) (∥∥₁_elim h ∥∥₁_prop (λ s. ∣ s.triangles ∣₁));
  solves = ∥∥₁_elim h (hlevel props) (λ s. s.solves);
  admissible = λ k d l.
      let pair : Clash = slice_index_or (clash_list coords (length rows)) k d in
      one_zero (slice_index xs pair.0) (slice_index xs pair.1) (∥∥₁_elim h ∥∥₁_prop (λ s. ∣ s.admissible k d l ∣₁));
}
