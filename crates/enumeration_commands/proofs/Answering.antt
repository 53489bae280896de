-- From the results of the calls of a command to its outcome.
use Rattle.std.proofs.Common.{◌≡◌, ℕ, inl, inr, List, Result, Ok, sym, subst}
use Rattle.std.specs.Prelude.{codes}
use Rattle.out_of_memory.specs.declared.Failure.TheVariants.{Fault}
use Rattle.table_definitions.specs.Table.{Row}
use Rattle.surface_definitions.specs.declared.Coords.{Coords}
use Rattle.cone_definitions.specs.declared.Order.{Order}
use Rattle.double_description.specs.declared.engine.LargeStep.{LargeStep}
use Rattle.surface_list.specs.Surfaces.{AreTableSurfaces, IsTableRefused}
use Rattle.signature_definitions.specs.declared.InputFault.{InputFault}
use Rattle.outcome_definitions.specs.Outcomes.{Outcome, IsReadOutcome}
use Rattle.outcome_definitions.specs.Enumerations.{list_outcome, large_outcome, IsSurfacesAnswer}

-- the surfaces by the equations of a table
module _ (limit : ℕ) (coords : Coords) (rows : List Row) (order : Order) where
  pub table_listed : (list : List (List ℕ)) (o : Outcome) → AreTableSurfaces limit coords rows order list → o ≡ list_outcome (codes "surfaces") list → IsSurfacesAnswer coords order limit rows o
  table_listed list o a same = (a.0, a.1, inl ((a.2).taken, list, (a.2).listed, same))

  pub table_large : (large : LargeStep) (o : Outcome) → IsTableRefused limit coords rows order (Fault large) → o ≡ large_outcome large.order.items large.kind → IsSurfacesAnswer coords order limit rows o
  table_large large o a same = (a.0, a.1, inr (large.order.items, large.kind, a.2, same))

  -- the surfaces of the table of a document
  pub document_listed : (read : Result (List Row) InputFault) (o : Outcome) → read ≡ Ok rows → IsSurfacesAnswer coords order limit rows o → IsReadOutcome read (IsSurfacesAnswer coords order limit) o
  document_listed read o e h = subst (λ (r : Result (List Row) InputFault). IsReadOutcome r (IsSurfacesAnswer coords order limit) o) (sym e) h
