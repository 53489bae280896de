-- With at most `most_tetrahedra` tetrahedra no number exceeds the default limit.
use Rattle.std.proofs.Common.{◌≡◌, ◌≤◌, ℕ, List, length, Option, Some, None, Ok, inl, inr}
use Rattle.std.specs.Prelude.{◌⊎◌, IfSome}
use Rattle.text_definitions.specs.Written.{limit}
use Rattle.cone_definitions.specs.declared.Order.{Order}
use Rattle.table_definitions.specs.Table.{Row}
use Rattle.surface_definitions.specs.declared.Coords.{Coords}
use Rattle.text_document_definitions.specs.Documents.{table_document}
use Rattle.command_definitions.specs.declared.Request.TheVariants.{Surfaces}
use Rattle.command_definitions.specs.Words.{accepted_request}
use Rattle.outcome_definitions.specs.declared.Status.{Status}
use Rattle.outcome_definitions.specs.Answers.{most_bytes}
use Rattle.surface_equation_laws.specs.BoundedTables.{most_tetrahedra}
use Rattle.outcome_answer_laws.proofs.Surfaces.{none_past, few_are_within}
use Rattle.workbench.specs.Runs.{IsAnswered}
use Rattle.workbench.specs.Prints.{ListsSurfaces, AnswersSurfaces, IsCutShort}
use Rattle.workbench.proofs.Headlines.{Tells}
use Rattle.workbench.proofs.Completeness.{SurfacesOn, all_surfaces}

module _ (words : List (List ℕ)) (status : Status) (held grown : Option (List ℕ)) where
  -- all surfaces of the table in these bytes are listed, or the run was cut short
  abbrev pub FewOn : Coords → List ℕ → Type 0
  FewOn coords bytes =
      (rows : List Row) → length bytes ≤ most_bytes → table_document bytes ≡ Ok rows → length rows ≤ most_tetrahedra coords → ListsSurfaces coords rows status held grown ⊎ IsCutShort status

  never_large : (coords : Coords) (order : Order) (bytes : List ℕ) (rows : List Row) → table_document bytes ≡ Ok rows → length rows ≤ most_tetrahedra coords
      → AnswersSurfaces coords order limit rows status held grown → ListsSurfaces coords rows status held grown ⊎ IsCutShort status
  never_large coords order bytes rows spelled limited (inl lists) = inl lists
  never_large coords order bytes rows spelled limited (inr (inl g)) =
      absurd (none_past bytes coords order rows spelled limit (few_are_within bytes coords order rows spelled limited) g.0 g.1 (g.2).taken (g.2).kind (g.2).exceeded)
  never_large coords order bytes rows spelled limited (inr (inr cut)) = inr cut

  few_on : (left : Option (List ℕ)) (coords : Coords) (order : Order) → IfSome left (SurfacesOn words status held grown coords order limit) → IfSome left (FewOn coords)
  few_on None coords order h = tt
  few_on (Some bytes) coords order h = λ rows within spelled limited. never_large coords order bytes rows spelled limited (h rows within spelled)

  pub few_surfaces : (left : Option (List ℕ)) → (IsAnswered status → IfSome left (Tells words status held grown)) → (coords : Coords) (order : Order)
      → accepted_request words ≡ Some (Surfaces coords order limit) → IfSome left (FewOn coords)
  few_surfaces left h coords order e = few_on left coords order (all_surfaces words status held grown left h coords order limit e)
