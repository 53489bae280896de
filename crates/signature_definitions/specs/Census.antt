-- Tables in classes: two are in one class if and only if they are isomorphic.
use Rattle.std.specs.Prelude.{◌≡◌, ◌≢◌, ℕ, ◌<◌, ◌⊎◌, List, [], ◌∷◌, ◌++◌, length, slice_index}
use Rattle.std.specs.List.{slice_index_or}
use Rattle.table_definitions.specs.Table.{Row, IsTable}
use Rattle.table_definitions.specs.Classes.{IsNumbering}
use Rattle.table_definitions.specs.Relabelling.{AreIsomorphic}
use Rattle.signature_definitions.specs.Spelling.{IsSignature}

-- table k of a list
abbrev pub table_in : List (List Row) → ℕ → List Row
table_in tables k = slice_index_or tables k []

-- the signature of class c
abbrev pub signature_in : List (List ℕ) → ℕ → List ℕ
signature_in signatures c = slice_index_or signatures c []

-- a relabelling carries table i of the list to table j
abbrev pub AreRelabelled : List (List Row) → ℕ → ℕ → Type 0
AreRelabelled tables i j = AreIsomorphic (table_in tables i) (table_in tables j)

-- The class of each table, in the order in which the classes first occur, and the signature of each class.
pub record IsCensus (tables : List (List Row)) (classes : List ℕ) (signatures : List (List ℕ)) : Type 0 where
  pub numbering : IsNumbering (length tables) (AreRelabelled tables) classes (length signatures)
  pub signed : (k : ℕ) → k < length tables → IsSignature (table_in tables k) (signature_in signatures (slice_index classes k))

-- the text has a place among the signatures, which stay
pub record IsOldClass (before : List (List ℕ)) (text : List ℕ) (class : ℕ) (now : List (List ℕ)) : Type 0 where
  pub in_range : class < length before
  pub found : signature_in before class ≡ text
  pub kept : now ≡ before

-- the text is not among the signatures, and is appended to them
pub record IsNewClass (before : List (List ℕ)) (text : List ℕ) (class : ℕ) (now : List (List ℕ)) : Type 0 where
  pub last : class ≡ length before
  pub nowhere : (c : ℕ) → c < length before → signature_in before c ≢ text
  pub appended : now ≡ before ++ text ∷ []

-- the class of one more signature, and the signatures then
abbrev pub IsClassed : List (List ℕ) → List ℕ → ℕ → List (List ℕ) → Type 0
IsClassed before text class now = IsOldClass before text class now ⊎ IsNewClass before text class now

-- a census of tables, extended by one more table
abbrev pub CensusExtends : Type 0
CensusExtends =
    (tables : List (List Row)) (a : List Row) (classes : List ℕ) (before : List (List ℕ)) (text : List ℕ) (class : ℕ) (now : List (List ℕ))
    → ((k : ℕ) → k < length tables → IsTable (table_in tables k)) → IsTable a → IsCensus tables classes before → IsSignature a text
    → IsClassed before text class now → IsCensus (tables ++ a ∷ []) (classes ++ class ∷ []) now

-- a list of tables has one census at most
abbrev pub OneCensus : Type 0
OneCensus = (tables : List (List Row)) (classes others : List ℕ) (signatures texts : List (List ℕ)) → IsCensus tables classes signatures → IsCensus tables others texts
    → (classes ≡ others) × (signatures ≡ texts)
