-- What is known of tables that are read and not stored.
use Rattle.std.specs.Prelude.{◌≡◌, ℕ, ◌<◌, ◌≤◌, List, [], ◌∷◌, ◌++◌, length, Option, Some, None, Result, Ok, Err}
use Rattle.text_definitions.specs.Reading.{Reading, Fails}
use Rattle.table_definitions.specs.Table.{Row, IsTable}
use Rattle.table_definitions.specs.Places.{IsConnected, IsLeastUnreached}
use Rattle.signature_definitions.specs.declared.InputFault.{InputFault}
use Rattle.signature_definitions.specs.declared.InputFault.TheVariants.{NoMemory}
use Rattle.signature_definitions.specs.Census.{table_in, IsCensus}
use Rattle.table_commands.specs.declared.groups.DisconnectedTable.{DisconnectedTable}
use Rattle.table_commands.specs.declared.groups.Groups.{Groups}

-- the first k tables are connected
abbrev pub AreConnected : List (List Row) → ℕ → Type 0
AreConnected tables n = (k : ℕ) → k < n → IsConnected (table_in tables k)

-- all tables are connected, with these classes and signatures
pub record AreClassed (tables : List (List Row)) (classes : List ℕ) (signatures : List (List ℕ)) : Type 0 where
  pub connected : AreConnected tables (length tables)
  pub census : IsCensus tables classes signatures

-- the first disconnected table, and its least tetrahedron not reached from tetrahedron 0
pub record IsFirstFound (tables : List (List Row)) (found : DisconnectedTable) : Type 0 where
  pub in_range : found.table < length tables
  pub before : AreConnected tables found.table
  pub unreached : IsLeastUnreached (table_in tables found.table) found.tet

abbrev pub AreGroupedBy : List (List Row) → List ℕ → List (List ℕ) → Option DisconnectedTable → Type 0
AreGroupedBy tables classes signatures None = AreClassed tables classes signatures
AreGroupedBy tables classes signatures (Some found) = IsFirstFound tables found

-- what is known of the tables
pub record AreGrouped (tables : List (List Row)) (groups : Groups) : Type 0 where
  pub are_tables : (k : ℕ) → k < length tables → IsTable (table_in tables k)
  pub bounded_classes : length groups.classes.items ≤ length tables
  pub bounded_signatures : length groups.census ≤ length tables
  pub grouped : AreGroupedBy tables groups.classes.items groups.census groups.found

-- one more table is read and added
pub record GroupsOneMore (read : Result (List Row × Reading) InputFault) (left : Reading) (before now : Groups) : Type 0 where
  pub rows : List Row
  pub read_so : read ≡ Ok (rows, left)
  pub grows : (tables : List (List Row)) → AreGrouped tables before → AreGrouped (tables ++ rows ∷ []) now

abbrev pub GivesOneMore : Result (Unit {0}) InputFault → Result (List Row × Reading) InputFault → Reading → Groups → Groups → Type 0
GivesOneMore (Ok u) read left before now = GroupsOneMore read left before now
GivesOneMore (Err e) read left before now = Fails NoMemory e read

-- all tables are read and added
abbrev pub GivesGroups : Result Groups InputFault → Reading → Result (List (List Row) × Reading) InputFault → Type 0
GivesGroups (Ok groups) left read = (tables : List (List Row)) × (read ≡ Ok (tables, left)) × AreGrouped tables groups
GivesGroups (Err e) left read = Fails NoMemory e read

abbrev pub GivesGroupsDocument : Result Groups InputFault → Result (List (List Row)) InputFault → Type 0
GivesGroupsDocument (Ok groups) read = (tables : List (List Row)) × (read ≡ Ok tables) × AreGrouped tables groups
GivesGroupsDocument (Err e) read = Fails NoMemory e read
