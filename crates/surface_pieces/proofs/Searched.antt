-- Rows of neighbours fulfil the conditions of a search for classes.
use Rattle.std.proofs.Common.{ℕ, List, length, Option, sym, subst}
use Rattle.table_definitions.specs.Table.{Row}
use Rattle.table_walk_laws.specs.Joined.{HasNeighboursBelow, IsSymmetric, neighbours_of}
use Rattle.surface_definitions.specs.declared.Coords.{Coords}
use Rattle.surface_laws.specs.PieceLaws.{IsSurface}
use Rattle.surface_pieces.specs.declared.joined.SearchKind.{SearchKind}
use Rattle.surface_pieces.specs.declared.joined.SearchKind.TheVariants.{Pieces, Signed}
use Rattle.surface_pieces.specs.Searches.{AreRows}
use Rattle.surface_pieces.proofs.ComponentAnswers.{joins}
use Rattle.surface_pieces.proofs.SignsFound.{signed_below, signed_back}

module _ (rows : List Row) (coords : Coords) (xs : List ℕ) (s : IsSurface rows coords xs) where
  pub rows_below : (kind : SearchKind) (table : List (List (Option ℕ))) → AreRows kind rows coords xs table → HasNeighboursBelow (length table) (neighbours_of table)
  rows_below Pieces table are = subst (λ n. HasNeighboursBelow n (neighbours_of table)) (sym are.size) (joins rows coords xs s table are).below
  rows_below (Signed signs) table are = subst (λ n. HasNeighboursBelow n (neighbours_of table)) (sym are.size) (signed_below rows coords xs s signs table are)

  pub rows_symmetric : (kind : SearchKind) (table : List (List (Option ℕ))) → AreRows kind rows coords xs table → IsSymmetric (neighbours_of table)
  rows_symmetric Pieces table are = (joins rows coords xs s table are).symmetric
  rows_symmetric (Signed signs) table are = signed_back rows coords xs s signs table are
