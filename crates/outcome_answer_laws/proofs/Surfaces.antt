-- No number exceeds a limit that is at least the bound.
use Rattle.std.proofs.Common.{◌≡◌, ◌≤◌, ℕ, List, length, Ok, inl, inr}
use Rattle.text_definitions.specs.Written.{limit}
use Rattle.cone_definitions.specs.Rows.{Row as EquationRow}
use Rattle.cone_definitions.specs.Elimination.{Named}
use Rattle.cone_definitions.specs.Listings.{ExceedsLimit}
use Rattle.cone_definitions.specs.declared.Order.{Order}
use Rattle.table_definitions.specs.Table.{Row}
use Rattle.surface_definitions.specs.declared.Coords.{Coords}
use Rattle.surface_definitions.specs.QuadEquations.{AreEquations}
use Rattle.surface_definitions.specs.TableSurfaces.{table_enumeration}
use Rattle.text_document_definitions.specs.Documents.{table_document}
use Rattle.command_definitions.specs.declared.Request.TheVariants.{Surfaces}
use Rattle.outcome_definitions.specs.Outcomes.{Outcome}
use Rattle.outcome_definitions.specs.Enumerations.{IsSurfacesAnswer}
use Rattle.outcome_laws.proofs.Certified.{table_alone}
use Rattle.surface_equation_laws.specs.Bounds.{number_bound}
use Rattle.surface_equation_laws.specs.BoundedTables.{most_tetrahedra}
use Rattle.surface_equation_laws.proofs.Bounds.{not_past}
use Rattle.surface_equation_laws.proofs.BoundedTables.{own}
use Rattle.surface_equation_laws.proofs.Powers.{most as few_within}
use Rattle.outcome_answer_laws.specs.Surfaces.{IsTableList, BoundedTablesAreListed, SmallTablesAreListed}
use Rattle.outcome_answer_laws.proofs.Asked.{answer_to, answer_to_value}

module _ (bytes : List ℕ) (coords : Coords) (order : Order) (rows : List Row) (spelled : table_document bytes ≡ Ok rows) where
  pub none_past : (most : ℕ) → number_bound coords (length rows) ≤ most → (equations : List EquationRow) → AreEquations coords rows equations
      → (taken : List ℕ) (kind : Named) → ¬ ExceedsLimit (table_enumeration coords order most rows equations) taken kind
  none_past most room equations of_table =
      not_past coords rows (table_enumeration coords order most rows equations) (own coords order most rows equations (table_alone bytes rows spelled) of_table) room

  pub few_are_within : length rows ≤ most_tetrahedra coords → number_bound coords (length rows) ≤ limit
  few_are_within limited = (few_within coords (length rows)).1 limited

  list_of : (most : ℕ) (o : Outcome) → number_bound coords (length rows) ≤ most → IsSurfacesAnswer coords order most rows o → IsTableList coords rows o
  list_of most o room h = elim h.2 [
    | inl g ↦ record { equations = h.0; of_table = h.1; list = g.1; surfaces = (g.2).surfaces; outcome = g.3 }
    | inr g ↦ absurd (none_past most room h.0 h.1 g.0 g.1 g.2)
  ]

pub bounded_tables_listed : BoundedTablesAreListed
bounded_tables_listed words bytes o coords order most rows h spelled room =
    list_of bytes coords order rows spelled most o room
    (answer_to_value (table_document bytes) rows (IsSurfacesAnswer coords order most) o spelled (answer_to (Surfaces coords order most) words bytes o h))

pub few_tables_listed : SmallTablesAreListed
few_tables_listed words bytes o coords order rows h spelled limited =
    bounded_tables_listed words bytes o coords order limit rows h spelled (few_are_within bytes coords order rows spelled limited)
