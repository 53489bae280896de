-- From the checks of vectors and the list of vertex surfaces to the answer of `decompose`.
use Rattle.std.proofs.Common.{◌≡◌, ℕ, zero, suc, ◌≤◌, List, [], ◌∷◌, length, Ok, Err, inl, inr, sym, subst, arith}
use Rattle.std.specs.Prelude.{slice_index}
use Rattle.std.specs.List.{All, AllZip, slice_index_or}
use Rattle.std.proofs.lemmas.List.Elements.{All-cons}
use Rattle.out_of_memory.specs.declared.Failure.TheVariants.{Fault}
use Rattle.text_definitions.specs.Written.{limit}
use Rattle.text_definitions.specs.Text.{Line}
use Rattle.cone_definitions.specs.Rows.{Row as EquationRow}
use Rattle.cone_definitions.specs.Listings.{ExceedsLimit}
use Rattle.cone_definitions.specs.declared.Order.TheVariants.{Given}
use Rattle.double_description.specs.declared.engine.LargeStep.{LargeStep}
use Rattle.table_definitions.specs.Table.{Row}
use Rattle.table_definitions.specs.Grammar.{IsDecimalUpTo}
use Rattle.surface_definitions.specs.declared.Coords.{Coords}
use Rattle.surface_definitions.specs.declared.VectorFault.{VectorFault}
use Rattle.surface_definitions.specs.Coordinates.{columns, clash_list}
use Rattle.surface_definitions.specs.Grammar.{IsVectorLine}
use Rattle.surface_definitions.specs.QuadEquations.{AreEquations}
use Rattle.surface_definitions.specs.TableSurfaces.{table_enumeration}
use Rattle.surface_definitions.proofs.VerdictLaws.{accepted_by}
use Rattle.surface_list.specs.Surfaces.{AreTableSurfaces, IsTableRefused}
use Rattle.vertex_enumeration.specs.Lists.{IsOnlyListing}
use Rattle.sum_definitions.specs.Sums.{HasRays}
use Rattle.sum_laws.proofs.Surfaces.{surfaces_are_rays_lem}
use Rattle.text_document_definitions.specs.Documents.{vectors_document}
use Rattle.text_document_laws.proofs.Documents.{vectors_document_read}
use Rattle.surface_definitions.proofs.OneSystem.{one_equations}
use Rattle.outcome_definitions.specs.declared.SumRefusal.TheVariants.{Unfit}
use Rattle.outcome_definitions.specs.Outcomes.{Outcome}
use Rattle.outcome_definitions.specs.Enumerations.{large_outcome}
use Rattle.outcome_definitions.specs.Sums.{IsFirstRefused, IsVerdict, IsDecomposeAnswer, sum_refusal_outcome}
use Rattle.sum_commands.specs.Telling.{AreInRange, HaveRays, IsBlocksOutcome}
use Rattle.sum_commands.proofs.Walks.{all_told}

-- the entries of the vectors of a document are at most the greatest number
entry_in_range : (ws : List (List ℕ)) (xs : List ℕ) (column : ℕ) → AllZip (IsDecimalUpTo limit) ws xs → slice_index xs column ≤ limit
entry_in_range [] [] column z = nothing_past column
  where
    nothing_past : (k : ℕ) → slice_index [] k ≤ limit
    nothing_past k = omega arith
entry_in_range [] (x ∷ xs) column z = absurd z
entry_in_range (w ∷ ws) [] column z = absurd z
entry_in_range (w ∷ ws) (x ∷ xs) zero z = z.0.up_to
entry_in_range (w ∷ ws) (x ∷ xs) (suc column) z = entry_in_range ws xs column z.1

lines_in_range : (lines : List Line) (vectors : List (List ℕ)) → AllZip IsVectorLine lines vectors → AreInRange vectors
lines_in_range [] [] z = λ k d l. absurd (omega arith)
lines_in_range [] (x ∷ vectors) z = absurd z
lines_in_range (l ∷ lines) [] z = absurd z
lines_in_range (l ∷ lines) (x ∷ vectors) z = All-cons (λ y. (column : ℕ) → slice_index y column ≤ limit) x vectors (λ column. entry_in_range z.0.ws x column z.0.entries) (lines_in_range lines vectors z.1)

pub document_in_range : (bytes : List ℕ) (rows : List Row) (vectors : List (List ℕ)) → vectors_document bytes ≡ Ok (rows, vectors) → AreInRange vectors
document_in_range bytes rows vectors e = (let d = (vectors_document_read bytes rows vectors).0 e in lines_in_range d.1 vectors d.4)

-- for the equations of a table
module _ (coords : Coords) (rows : List Row) (equations : List EquationRow) (of_table : AreEquations coords rows equations) (most : ℕ) where
  abbrev Passes : List ℕ → Type 0
  Passes x = IsVerdict coords rows equations x (Ok tt)

  -- the list of the vertex surfaces is the only one for these equations
  listed : (list : List (List ℕ)) → AreTableSurfaces most coords rows Given list → IsOnlyListing (table_enumeration coords Given most rows equations) list
  listed list s = subst (λ (q : List EquationRow). IsOnlyListing (table_enumeration coords Given most rows q) list) (one_equations coords rows s.0 equations s.1 of_table) s.2

  -- it has the rays of vectors that pass the check
  pub have_rays : (columns_of : ℕ) (list vectors : List (List ℕ)) → columns_of ≡ columns coords (length rows) → AreTableSurfaces most coords rows Given list → All Passes vectors
      → HaveRays (record { columns = columns_of; rows = equations }) list vectors
  have_rays columns_of list vectors wide s passed = λ k d l.
      let only = listed list s in
      let x : List ℕ = slice_index_or vectors k d in
      let a = accepted_by limit (columns coords (length rows)) equations (clash_list coords (length rows)) x (passed k d l) in
      let rays = surfaces_are_rays_lem (columns coords (length rows)) equations (clash_list coords (length rows)) list x only.listed.surfaces a.solves a.admissible in
      subst (λ (n : ℕ). HasRays n equations list x) (sym wide) rays

  -- the first vector that does not pass determines the outcome
  pub unfit_told : (vectors : List (List ℕ)) (v : ℕ) (fault : VectorFault) (o : Outcome) → IsFirstRefused (IsVerdict coords rows equations) vectors v fault → o ≡ sum_refusal_outcome v (Unfit fault)
      → IsDecomposeAnswer coords most (rows, vectors) o
  unfit_told vectors v fault o first e = record { equations = equations; of_table = of_table; checked = Err (v, fault); verdicts = first; reported = e }

  -- the sums of the surfaces, if all vectors pass
  pub sums_told : (list vectors : List (List ℕ)) (o : Outcome) → AreTableSurfaces most coords rows Given list → All Passes vectors → IsBlocksOutcome most list rows vectors o → IsDecomposeAnswer coords most (rows, vectors) o
  sums_told list vectors o s passed reported =
      let only = listed list s in
      let checks = all_told (IsVerdict coords rows equations) vectors passed in
      record {
        equations = equations;
        of_table = of_table;
        checked = Ok checks.0;
        verdicts = checks.1;
        reported = inl (record { taken = only.taken; list = list; listed = only.listed; reported = reported.0; sums = reported.1; outcome = reported.2 });
      }

  -- the step that exceeds the limit, if all vectors pass
  pub past_told : (large : LargeStep) (vectors : List (List ℕ)) (o : Outcome) → IsTableRefused most coords rows Given (Fault large) → All Passes vectors
      → o ≡ large_outcome large.order.items large.kind → IsDecomposeAnswer coords most (rows, vectors) o
  past_told large vectors o r passed e =
      let checks = all_told (IsVerdict coords rows equations) vectors passed in
      record {
        equations = equations;
        of_table = of_table;
        checked = Ok checks.0;
        verdicts = checks.1;
        reported = inr (large.order.items, large.kind, subst (λ (q : List EquationRow). ExceedsLimit (table_enumeration coords Given most rows q) large.order.items large.kind) (one_equations coords rows r.0 equations r.1 of_table) r.2, e);
      }
