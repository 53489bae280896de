-- Solutions that are 0 in some columns: their vertex surfaces are the vertex surfaces that are 0 there.
use Rattle.std.proofs.Common.{◌≡◌, ℕ, inl, inr, subst, sym, List, ◌++◌, Bool, true, set, slice_index}
use Rattle.std.specs.Prelude.{◌↔◌}
use Rattle.std.proofs.lemmas.Bool.{cases_eq}
use Rattle.cone_definitions.specs.Rows.{Row, IsSolution}
use Rattle.cone_definitions.specs.Surfaces.{Clash, IsVertexSurface}
use Rattle.lazy_columns.specs.Late.{IsUnseen, held_rows}
use Rattle.lazy_columns.proofs.Held.{held_solution, unseen_after, unseen_still}

-- the solutions of the others are the solutions of the rows that are 0 in these columns
abbrev pub IsFace : ℕ → List Row → List Row → (ℕ → Type 0) → Type 0
IsFace columns rows others S = (x : List ℕ) → IsSolution columns others x ↔ (IsSolution columns rows x × ((j : ℕ) → S j → slice_index x j ≡ 0))

module _ (columns : ℕ) (rows others : List Row) (S : ℕ → Type 0) (face : IsFace columns rows others S) where
  pub surface_of_face : (pairs : List Clash) (x : List ℕ) → IsVertexSurface columns others pairs x → IsVertexSurface columns rows pairs x
  surface_of_face pairs x h = record {
    extreme = record {
      solution = ((face x).0 h.extreme.solution).0;
      nonzero = h.extreme.nonzero;
      least = λ y s some inside. h.extreme.least y ((face y).1 (s, λ j gone. inside j (((face x).0 h.extreme.solution).1 j gone))) some inside;
    };
    admissible = h.admissible;
    primitive = h.primitive;
  }

  pub surface_in_face : (pairs : List Clash) (x : List ℕ) → IsVertexSurface columns rows pairs x → ((j : ℕ) → S j → slice_index x j ≡ 0) → IsVertexSurface columns others pairs x
  surface_in_face pairs x h without = record {
    extreme = record {
      solution = (face x).1 (h.extreme.solution, without);
      nonzero = h.extreme.nonzero;
      least = λ y s some inside. h.extreme.least y ((face y).0 s).0 some inside;
    };
    admissible = h.admissible;
    primitive = h.primitive;
  }

  pub gone_in_face : (pairs : List Clash) (x : List ℕ) → IsVertexSurface columns others pairs x → (j : ℕ) → S j → slice_index x j ≡ 0
  gone_in_face pairs x h = ((face x).0 h.extreme.solution).1

-- the columns that have not entered are held at 0
pub held_face : (columns : ℕ) (rows : List Row) (seen : List Bool) → IsFace columns rows (rows ++ held_rows 0 seen) (IsUnseen seen)
held_face columns rows seen x = held_solution columns rows seen x

-- a column that enters was held at 0 before
pub column_face : (columns : ℕ) (rows : List Row) (seen : List Bool) (column : ℕ) → IsUnseen seen column →
    IsFace columns (rows ++ held_rows 0 (set seen column true)) (rows ++ held_rows 0 seen) (λ j. j ≡ column)
column_face columns rows seen column unseen x = (
  λ s. let h = (held_solution columns rows seen x).0 s in (
    (held_solution columns rows (set seen column true) x).1 (h.0, λ j after. h.1 j (unseen_after seen column j unseen after).0),
    λ j e. h.1 j (subst (IsUnseen seen) (sym e) unseen),
  ),
  λ h. let s = (held_solution columns rows (set seen column true) x).0 h.0 in
      (held_solution columns rows seen x).1 (
        s.0,
        λ j before. elim (cases_eq j column) [
          | inl e ↦ h.1 j e
          | inr differs ↦ s.1 j (unseen_still seen column j before differs)
        ],
      ),
)
