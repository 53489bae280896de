-- A number that exceeds the greatest entry: at a negated row, and at the next of some rows.
use Rattle.std.proofs.Common.{◌≡◌, ℕ, zero, suc, ◌+◌, ◌<◌, inl, inr, ℤ, pos, negsuc, neg_ℤ, List, [], ◌∷◌, ◌++◌, Bool, true, false, take, drop, length, slice_index_or, refl, subst, sym, ap, ap₂, ◌∙◌}
use Rattle.std.proofs.lemmas.List.{take-append-drop, drop_more}
use Rattle.cone_arithmetic.specs.declared.numbers.TheConstants.{MAX_ENTRY}
use Rattle.cone_definitions.specs.Rows.{Row}
use Rattle.cone_definitions.specs.Elimination.{Named}
use Rattle.cone_row_laws.specs.Operations.{negated}
use Rattle.ray_steps.specs.Clashes.{ClashData}
use Rattle.ray_steps.specs.Faults.{IfLarge}
use Rattle.ray_steps.specs.Steps.{StepData, IsStepOf, IsFirstLargeEitherWay, negated_step}
use Rattle.ray_steps.specs.declared.rays.StepFault.{StepFault}
use Rattle.ray_steps.specs.declared.rays.StepFault.TheVariants.{Large, NoMemory}
use Rattle.lazy_columns.specs.Fresh.{oriented}
use Rattle.lazy_columns.specs.Passing.{PassesAtPair, PassesBefore, HasPassedStep}
use Rattle.lazy_columns.proofs.Oriented.{turned_step_of}

pub fault_weaker : (P Q : Named → Type 0) → ((named : Named) → P named → Q named) → (fault : StepFault) → IfLarge P fault → IfLarge Q fault
fault_weaker P Q f (Large named) h = f named h
fault_weaker P Q f NoMemory h = h

-- ---- a row negated twice

back : (z : ℤ) → neg_ℤ (neg_ℤ z) ≡ z
back (pos zero) = refl
back (pos (suc n)) = refl
back (negsuc n) = refl

turned_back : (row : Row) → negated (negated row) ≡ row
turned_back [] = refl
turned_back ((column, z) ∷ row) = ap₂ (λ (z : ℤ) (row : Row). (column, z) ∷ row) (back z) (turned_back row)

-- the pair is one of the step, or of the step of the negated row
pub pair_either_way : (clashes : ClashData) (row : Row) (is_negated : Bool) (rays : List (List ℕ)) (step : StepData) → IsStepOf MAX_ENTRY clashes (oriented is_negated row) rays step →
    (named : Named) → IsFirstLargeEitherWay step named → PassesAtPair clashes row rays named
pair_either_way clashes row is_negated rays step h named (inl first) = record { is_negated = is_negated; step = step; is = h; passes = first }
pair_either_way clashes row false rays step h named (inr first) = record { is_negated = true; step = negated_step step; is = turned_step_of MAX_ENTRY clashes row rays step (negated_step step) h refl; passes = first }
pair_either_way clashes row true rays step h named (inr first) = record {
  is_negated = false;
  step = negated_step step;
  is = subst (λ r. IsStepOf MAX_ENTRY clashes r rays (negated_step step)) (turned_back row) (turned_step_of MAX_ENTRY clashes (negated row) rays step (negated_step step) h refl);
  passes = first;
}

-- ---- the next row

pub passed_next : (clashes : ClashData) (rows : List Row) (number : ℕ) (row : Row) → number < length rows → row ≡ slice_index_or rows number [] →
    (named : Named) → PassesBefore clashes (take number rows) row named → HasPassedStep clashes rows
passed_next clashes rows number row less is named h = record {
  before = take number rows;
  row = row;
  after = drop (number + 1) rows;
  rows_are = sym (take-append-drop number rows) ∙ ap (λ l. take number rows ++ l) (drop_more rows number [] less ∙ ap (λ (r : Row). r ∷ drop (number + 1) rows) (sym is));
  named = named;
  passes = h;
}
