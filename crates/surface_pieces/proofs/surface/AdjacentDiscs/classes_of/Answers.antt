-- The rows fulfil the conditions of the search, so their classes are those of joined pieces.
use Rattle.std.proofs.Common.{ℕ, List, Option, length, ap, sym, subst, arith}
use Rattle.table_walk_laws.specs.Joined.{IsJoined, HasNeighboursBelow, IsSymmetric, neighbours_of}
use Rattle.table_definitions.specs.Classes.{IsNumbering}
use Rattle.surface_pieces.specs.Searches.{AreRows}
use Rattle.surface_pieces.proofs.Held.{held}
use Rattle.surface_pieces.proofs.RowsOfPieces.{rows_read, numbers_low}
use Rattle.surface_pieces.proofs.Searched.{rows_below, rows_symmetric}
use Rattle.surface_pieces.proofs.surface.AdjacentDiscs.classes_of.Goals as goal

pub classes-requires : goal.classes-requires
classes-requires g c = (
  omega (arith, c.args.self.now.bounded_slots),
  (
    omega (arith, ap (λ (rs : List (List (Option ℕ))). length rs) c.deref.ensures.value, c.in_ok-rows.ensures.size, numbers_low c.args.kind (length c.args.self.now.rows.now), c.args.self.now.limited),
    (
      subst (λ (rs : List (List (Option ℕ))). HasNeighboursBelow (length rs) (neighbours_of rs)) (sym c.deref.ensures.value) (rows_below c.args.self.now.surface.table.now c.args.self.now.surface.coords.system c.args.self.now.surface.entries.now (held c.args.self.now.surface.table.now c.args.self.now.surface.coords.system c.args.self.now.surface.entries.now c.args.self.now.surface.normal) c.args.kind c.in_ok-rows.rows.items are),
      subst (λ (rs : List (List (Option ℕ))). IsSymmetric (neighbours_of rs)) (sym c.deref.ensures.value) (rows_symmetric c.args.self.now.surface.table.now c.args.self.now.surface.coords.system c.args.self.now.surface.entries.now (held c.args.self.now.surface.table.now c.args.self.now.surface.coords.system c.args.self.now.surface.entries.now c.args.self.now.surface.normal) c.args.kind c.in_ok-rows.rows.items are),
    ),
  ),
)
  where
    are : AreRows c.args.kind c.args.self.now.surface.table.now c.args.self.now.surface.coords.system c.args.self.now.surface.entries.now c.in_ok-rows.rows.items
    are = rows_read c.args.self.now.surface.table.now c.args.self.now.surface.coords.system c.args.self.now.surface.entries.now (held c.args.self.now.surface.table.now c.args.self.now.surface.coords.system c.args.self.now.surface.entries.now c.args.self.now.surface.normal) c.args.kind c.args.self.now.rows.now c.in_ok-rows.rows.items c.requires c.in_ok-rows.ensures

pub returns : goal.returns
returns g c = record {
  listed = c.in_ok-rows.rows.items;
  are = rows_read c.args.self.now.surface.table.now c.args.self.now.surface.coords.system c.args.self.now.surface.entries.now (held c.args.self.now.surface.table.now c.args.self.now.surface.coords.system c.args.self.now.surface.entries.now c.args.self.now.surface.normal) c.args.kind c.args.self.now.rows.now c.in_ok-rows.rows.items c.requires c.in_ok-rows.ensures;
  numbered = subst (λ (rs : List (List (Option ℕ))). IsNumbering (length rs) (IsJoined (neighbours_of rs)) c.in_ok-found.found.classes.items c.in_ok-found.found.count) c.deref.ensures.value c.in_ok-found.ensures;
}
