-- A table that is connected, with an edge class that is invalid, or with none.
use Rattle.std.proofs.Common.{◌≡◌, Option, None, IsNone, sym, subst, rules}
use Rattle.table_definitions.specs.Places.{IsConnected}
use Rattle.edge_group.proofs.group.Group.of.Goals as goal

none_is : {A : Type 0} (o : Option A) → o ≡ None → IsNone o
none_is {A} o e = subst (λ (p : Option A). IsNone p) (sym e) (search rules)

pub returns-in-Some-first_invalid-clause-fault : goal.returns-in-Some-first_invalid-clause-fault
returns-in-Some-first_invalid-clause-fault c = (subst IsConnected c.table.ensures.rows (c.in_ok-tet.ensures.connected.0 (none_is c.in_ok-tet.field-0 c.in_default.is)), c.in-Some-first_invalid.ensures)

pub presentation_of-requires : goal.presentation_of-requires
presentation_of-requires c = subst IsConnected c.table.ensures.rows (c.in_ok-tet.ensures.connected.0 (none_is c.in_ok-tet.field-0 c.in_default.is))

pub returns-clause-has_group : goal.returns-clause-has_group
returns-clause-has_group c = record {
  connected = subst IsConnected c.table.ensures.rows (c.in_ok-tet.ensures.connected.0 (none_is c.in_ok-tet.field-0 c.in_default.is));
  valid = c.in_default-first_invalid.ensures;
}
