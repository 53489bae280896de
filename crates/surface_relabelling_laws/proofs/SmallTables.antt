-- A limit that is at least the bound on the numbers of a table is so for each table that is isomorphic to it.
use Rattle.std.proofs.Common.{ℕ, ◌≤◌, List, length, inl, inr, sym, subst}
use Rattle.cone_definitions.specs.Rows.{Row as EquationRow}
use Rattle.cone_definitions.specs.Listings.{IsListed}
use Rattle.cone_definitions.specs.declared.Order.{Order}
use Rattle.cone_laws.proofs.Ended.{enumeration_ends}
use Rattle.table_definitions.specs.Table.{Row, IsTable}
use Rattle.table_definitions.specs.Relabelling.{AreIsomorphic}
use Rattle.table_definitions.proofs.Carried.{carried_is_table}
use Rattle.surface_definitions.specs.declared.Coords.{Coords}
use Rattle.surface_definitions.specs.QuadEquations.{AreEquations}
use Rattle.surface_definitions.specs.TableSurfaces.{table_enumeration}
use Rattle.surface_definitions.proofs.ClashPairs.{clashes_apart}
use Rattle.surface_equation_laws.specs.Bounds.{number_bound}
use Rattle.surface_equation_laws.specs.BoundedTables.{most_tetrahedra}
use Rattle.surface_equation_laws.proofs.Bounds.{not_past}
use Rattle.surface_equation_laws.proofs.BoundedTables.{own}
use Rattle.outcome_laws.proofs.Certified.{table_alone}
use Rattle.outcome_answer_laws.specs.Surfaces.{IsTableList}
use Rattle.outcome_answer_laws.proofs.Surfaces.{few_tables_listed}
use Rattle.surface_relabelling_laws.specs.SmallTables.{IsomorphicHaveOneSize, BoundedAreBothListed, BoundedStayWithin, SmallIsomorphicPrintAsMany}
use Rattle.surface_relabelling_laws.proofs.AllCoordinates.{as_many_isomorphic}

pub one_size : IsomorphicHaveOneSize
one_size rows new (by, is, carries) = sym carries.same_length

-- a table of which the bound is at most the limit has a list
some_listed : (coords : Coords) (rows : List Row) (equations : List EquationRow) (order : Order) (most : ℕ) → IsTable rows → AreEquations coords rows equations → number_bound coords (length rows) ≤ most
    → (taken : List ℕ) × (list : List (List ℕ)) × IsListed (table_enumeration coords order most rows equations) taken list
some_listed coords rows equations order most table of_rows room =
    elim (enumeration_ends (table_enumeration coords order most rows equations) (clashes_apart coords (length rows))) [
      | inl listed ↦ listed
      | inr exceeded ↦ absurd (not_past coords rows (table_enumeration coords order most rows equations) (own coords order most rows equations table of_rows) room exceeded.0 exceeded.1 exceeded.2)
    ]

-- the bound of the other table is the same
room_there : (coords : Coords) (rows new : List Row) (most : ℕ) → AreIsomorphic rows new → number_bound coords (length rows) ≤ most → number_bound coords (length new) ≤ most
room_there coords rows new most isomorphic room = subst (λ n. number_bound coords n ≤ most) (one_size rows new isomorphic) room

table_there : (rows new : List Row) → IsTable rows → AreIsomorphic rows new → IsTable new
table_there rows new table (by, is, carries) = carried_is_table rows new by table is carries

pub both_listed : BoundedAreBothListed
both_listed coords rows new equations others order another most greatest table isomorphic of_rows of_new room space =
    let a = some_listed coords rows equations order most table of_rows room in
    let b = some_listed coords new others another greatest (table_there rows new table isomorphic) of_new (room_there coords rows new greatest isomorphic space) in
    record {
      taken = a.0;
      list = a.1;
      is_listed = a.2;
      used = b.0;
      others = b.1;
      other_is_listed = b.2;
      as_long = as_many_isomorphic coords rows new equations others a.1 b.1 table isomorphic of_rows of_new (a.2).surfaces (b.2).surfaces;
    }

pub stay_within : BoundedStayWithin
stay_within coords rows new others another greatest table isomorphic of_new space used kind =
    not_past coords new (table_enumeration coords another greatest new others) (own coords another greatest new others (table_there rows new table isomorphic) of_new) (room_there coords rows new greatest isomorphic space) used kind

pub print_as_many : SmallIsomorphicPrintAsMany
print_as_many words asked bytes more o p coords order another rows new run read other_run other_read isomorphic limited =
    let a : IsTableList coords rows o = few_tables_listed words bytes o coords order rows run read limited in
    let b : IsTableList coords new p = few_tables_listed asked more p coords another new other_run other_read (subst (λ n. n ≤ most_tetrahedra coords) (one_size rows new isomorphic) limited) in
    record {
      list = a.list;
      outcome = a.outcome;
      others = b.list;
      other_outcome = b.outcome;
      as_long = as_many_isomorphic coords rows new a.equations b.equations a.list b.list (table_alone bytes rows read) isomorphic a.of_table b.of_table a.surfaces b.surfaces;
    }
