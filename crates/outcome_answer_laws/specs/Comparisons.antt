-- What `same`, `csame` and `group` answer: which tables a relabelling carries to which.
use Rattle.std.specs.Prelude.{◌≡◌, ◌↔◌, ◌<◌, ℕ, List, length, slice_index}
use Rattle.table_definitions.specs.Table.{Row}
use Rattle.table_definitions.specs.Places.{IsConnected}
use Rattle.table_definitions.specs.Relabelling.{Relabelling, AreIsomorphic}
use Rattle.signature_definitions.specs.Spelling.{IsSignature}
use Rattle.signature_definitions.specs.Labellings.{Relabels}
use Rattle.signature_definitions.specs.Census.{table_in, signature_in, AreRelabelled}
use Rattle.component_definitions.specs.Parts.{Part, AreParts}
use Rattle.component_definitions.specs.SameParts.{part_at}
use Rattle.text_document_definitions.specs.Documents.{two_tables_document, tables_document}
use Rattle.command_definitions.specs.declared.Request.TheVariants.{Same, Csame, Group}
use Rattle.outcome_definitions.specs.declared.Status.TheVariants.{Done}
use Rattle.outcome_definitions.specs.Outcomes.{Outcome}
use Rattle.outcome_definitions.specs.Canonical.{done, relabelling_text, different_outcome, census_text}
use Rattle.outcome_answer_laws.specs.Requests.{Means}

-- the text begins with `same`, and a relabelling follows
abbrev pub SaysSame : Outcome → Type 0
SaysSame o = (by : Relabelling) × (o ≡ done (relabelling_text by))

-- the answer is `same`, with an isomorphism, if and only if the tables are isomorphic, and `different` if and only if
-- they are not
pub record AreCompared (first second : List Row) (o : Outcome) : Type 0 where
  pub same : SaysSame o ↔ AreIsomorphic first second
  pub different : (o ≡ different_outcome) ↔ (¬ AreIsomorphic first second)
  pub reported : AreIsomorphic first second → (by : Relabelling) × Relabels first second by × (o ≡ done (relabelling_text by))

-- both tables are connected if and only if the comparison is done
pub record IsComparison (pair : List Row × List Row) (o : Outcome) : Type 0 where
  pub is_done : (o.status ≡ Done) ↔ (IsConnected pair.0 × IsConnected pair.1)
  pub compared : IsConnected pair.0 → IsConnected pair.1 → AreCompared pair.0 pair.1 o

-- the components of two tables match up one to one, and a relabelling carries each to its match
pub record ComponentsMatch (first second : List Row) : Type 0 where
  pub parts : List Part
  pub are_parts : AreParts first parts
  pub others : List Part
  pub are_others : AreParts second others
  pub to : ℕ → ℕ
  pub back : ℕ → ℕ
  pub to_in_range : (i : ℕ) → i < length parts → to i < length others
  pub back_in_range : (j : ℕ) → j < length others → back j < length parts
  pub to_and_back : (i : ℕ) → i < length parts → back (to i) ≡ i
  pub back_and_to : (j : ℕ) → j < length others → to (back j) ≡ j
  pub relabelled : (i : ℕ) → i < length parts → AreIsomorphic (part_at parts i).rows (part_at others (to i)).rows

-- tables that need not be connected are compared, and by their components
pub record IsComponentComparison (pair : List Row × List Row) (o : Outcome) : Type 0 where
  pub compared : AreCompared pair.0 pair.1 o
  pub components : SaysSame o ↔ ComponentsMatch pair.0 pair.1

-- each table is in one class, each class has a table, and two are in one if and only if a relabelling carries the one
-- to the other
pub record AreClassified (tables : List (List Row)) (o : Outcome) : Type 0 where
  pub classes : List ℕ
  pub signatures : List (List ℕ)
  pub one_each : length classes ≡ length tables
  pub in_range : (k : ℕ) → k < length tables → slice_index classes k < length signatures
  pub none_empty : (c : ℕ) → c < length signatures → (k : ℕ) × (k < length tables) × (slice_index classes k ≡ c)
  pub together : (i j : ℕ) → i < length tables → j < length tables → (slice_index classes i ≡ slice_index classes j) ↔ AreRelabelled tables i j
  pub signed : (k : ℕ) → k < length tables → IsSignature (table_in tables k) (signature_in signatures (slice_index classes k))
  pub outcome : o ≡ done (census_text classes signatures)

-- the answer is the classes if and only if each table is connected
pub record IsGrouping (tables : List (List Row)) (o : Outcome) : Type 0 where
  pub is_done : (o.status ≡ Done) ↔ ((k : ℕ) → k < length tables → IsConnected (table_in tables k))
  pub classified : ((k : ℕ) → k < length tables → IsConnected (table_in tables k)) → AreClassified tables o

abbrev pub ConnectedAreCompared : Type 0
ConnectedAreCompared = Means Same two_tables_document IsComparison

abbrev pub ComponentsAreCompared : Type 0
ComponentsAreCompared = Means Csame two_tables_document IsComponentComparison

abbrev pub TablesAreGrouped : Type 0
TablesAreGrouped = Means Group tables_document IsGrouping
