-- Theorems on traversals, relabellings and signatures, and on the relabelling that `same` prints.
use Rattle.std.specs.Prelude.{◌≡◌, ◌↔◌, ◌<◌, ℕ, List, length}
use Rattle.table_definitions.specs.Table.{Row, IsTable}
use Rattle.table_definitions.specs.Places.{IsConnected}
use Rattle.table_definitions.specs.Relabelling.{Relabelling, AreIsomorphic}
use Rattle.signature_definitions.specs.Spelling.{IsSignature}
use Rattle.signature_definitions.specs.Labellings.{Start, IsWalked, IsLeastRelabelling}

-- a table has one walk from a start: one relabelling and one walk-ordered table
abbrev pub WalksAgree : Type 0
WalksAgree =
    (rows : List Row) (start : Start) (by others : Relabelling) (new other : List Row) → IsTable rows → start.tet < length rows
    → IsWalked rows start by new → IsWalked rows start others other → (by ≡ others) × (new ≡ other)

-- Theorem: a relabelling carries a table to a table and has an inverse; relabellings compose, and keep tables connected
abbrev pub RelabelsTables : Type 0
RelabelsTables = (rows new : List Row) → IsTable rows → AreIsomorphic rows new → IsTable new

abbrev pub RelabelsBack : Type 0
RelabelsBack = (rows new : List Row) → IsTable rows → AreIsomorphic rows new → AreIsomorphic new rows

abbrev pub RelabelsOn : Type 0
RelabelsOn = (rows next last : List Row) → IsTable rows → AreIsomorphic rows next → AreIsomorphic next last → AreIsomorphic rows last

abbrev pub RelabelsConnected : Type 0
RelabelsConnected = (rows new : List Row) → IsTable rows → AreIsomorphic rows new → IsConnected rows → IsConnected new

-- a table has one signature at most
abbrev pub OneSignature : Type 0
OneSignature = (rows : List Row) (text other : List ℕ) → IsSignature rows text → IsSignature rows other → text ≡ other

-- Theorem: two tables have the same signature if and only if they are isomorphic
abbrev pub SignaturesDetermineTables : Type 0
SignaturesDetermineTables =
    (first second : List Row) (text other : List ℕ) → IsTable first → IsTable second → IsSignature first text → IsSignature second other
    → (text ≡ other) ↔ AreIsomorphic first second

-- two tables have at most one relabelling as their answer
abbrev pub OneLeastRelabelling : Type 0
OneLeastRelabelling =
    (first second : List Row) (by other : Relabelling) → IsTable first → IsConnected first → IsLeastRelabelling first second by
    → IsLeastRelabelling first second other → by ≡ other
