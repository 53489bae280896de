-- A vertex linking vector has no quads, and the results for vectors without quads.
use Rattle.std.proofs.Common.{◌≡◌, ℕ, ◌+◌, true, List, length, Result, Ok, Err, inl, inr, sym, ap, ◌∙◌, subst, arith}
use Rattle.std.specs.Prelude.{◌%◌, ◌↔◌}
use Rattle.std.proofs.Math.ListN.{get_or-eq_default}
use Rattle.std.proofs.lemmas.Bool.{le-leb, cases_lt}
use Rattle.cone_definitions.specs.Rows.{Row as EquationRow}
use Rattle.table_definitions.specs.Table.{Row, IsTable}
use Rattle.surface_definitions.specs.Coordinates.{quad_column}
use Rattle.surface_definitions.specs.declared.Coords.TheVariants.{Standard}
use Rattle.surface_definitions.specs.Characteristic.{is_linking}
use Rattle.surface_definitions.specs.Crushing.{IsCrushed}
use Rattle.surface_definitions.specs.Verdict.{solution}
use Rattle.surface_vector_definitions.specs.Answers.{IsFit, IsCrushedAlong}
use Rattle.surface_vector_definitions.specs.declared.Refusal.{Refusal}
use Rattle.surface_vector_definitions.specs.declared.Refusal.TheVariants.{Unfit, LargeSum, TooManyPieces, LargeLift, NoLift}
use Rattle.surface_laws.proofs.LinkingLemmas.{linking}
use Rattle.surface_crushing_laws.specs.Laws.{HasNoQuads, CrushedToItself, NothingElseIsCrushed, LinkingCrushesNothing, FitAreCrushedToItself}
use Rattle.surface_crushing_laws.proofs.Whole.{stays_whole, nothing_else, whole_without_quads}

linking_no_quads : (n : ℕ) (xs : List ℕ) → is_linking Standard xs ≡ true → HasNoQuads n xs
linking_no_quads n xs h t k l m = elim (cases_lt (quad_column Standard t k) (length xs)) [
  | inl within ↦ (let place : quad_column Standard t k % 7 ≡ 4 + k = omega arith in (linking Standard xs).0 h (quad_column Standard t k) within (le-leb 4 (quad_column Standard t k % 7) (omega arith)))
  | inr exceeded ↦ get_or-eq_default xs 0 exceeded
]

pub crushed_to_itself_lem : CrushedToItself
crushed_to_itself_lem rows xs table = (whole_without_quads rows xs, λ quads. stays_whole rows xs quads table)

pub nothing_else_is_crushed : NothingElseIsCrushed
nothing_else_is_crushed rows new xs table quads c = nothing_else rows xs quads table new c

-- rows are the crushed table of the table if and only if they are the table
whole : (rows new : List Row) (xs : List ℕ) → IsTable rows → HasNoQuads (length rows) xs → IsCrushed rows xs new ↔ (new ≡ rows)
whole rows new xs table quads = (nothing_else rows xs quads table new, λ e. subst (IsCrushed rows xs) (sym e) (stays_whole rows xs quads table))

pub linking_crushes_nothing : LinkingCrushesNothing
linking_crushes_nothing rows new xs table h = whole rows new xs table (linking_no_quads (length rows) xs h)

module _ (rows : List Row) (equations : List EquationRow) (xs : List ℕ) (table : IsTable rows) (quads : HasNoQuads (length rows) xs) (fit : IsFit Standard rows equations xs) where
  told_itself : (reported : Result (List Row) Refusal) → IsCrushedAlong rows equations xs reported → reported ≡ Ok rows
  told_itself (Ok new) t = ap (λ (rs : List Row). Ok rs) (nothing_else rows xs quads table new t.1)
  told_itself (Err (Unfit fault)) t = absurd (let z : solution ≡ Err fault = sym fit ∙ t in cc)
  told_itself (Err (LargeSum n)) t = absurd t
  told_itself (Err (TooManyPieces n)) t = absurd t
  told_itself (Err LargeLift) t = absurd t
  told_itself (Err (NoLift c)) t = absurd t

pub fit_are_crushed_to_itself : FitAreCrushedToItself
fit_are_crushed_to_itself rows equations xs reported table quads fit =
    (told_itself rows equations xs table quads fit reported, λ e. subst (IsCrushedAlong rows equations xs) (sym e) (fit, stays_whole rows xs quads table))
