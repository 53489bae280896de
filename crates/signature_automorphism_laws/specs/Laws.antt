-- Laws of automorphisms and the texts of a table's walks.
use Rattle.std.specs.Prelude.{◌≡◌, ◌↔◌, ◌<◌, ◌+◌, ◌*◌, ℕ, Bool, true, false, List, length, slice_set}
use Rattle.std.specs.List.{slice_index_or}
use Rattle.table_definitions.specs.Lists.{is_list_before}
use Rattle.table_definitions.specs.Table.{Row, IsTable}
use Rattle.table_definitions.specs.Permutation.{IsPermutationOfFour}
use Rattle.table_definitions.specs.Places.{IsConnected}
use Rattle.table_definitions.specs.Relabelling.{Relabelling, IsRelabelling}
use Rattle.signature_definitions.specs.Spelling.{IsSignature}
use Rattle.signature_definitions.specs.Labellings.{Start}
use Rattle.signature_laws.specs.Between.{unchanged, inverted, after}
use Rattle.signature_laws.specs.Starts.{numbered_start, IsTextFrom, IsLeastText}
use Rattle.signature_automorphism_laws.specs.Automorphisms.{IsAutomorphism, carried_start, carried_number, HasNoSmallerText, MarkedHaveNoSmallerText}

-- Theorem: the identity is an automorphism, and so are compositions and inverses of automorphisms
abbrev pub IdentityIsAutomorphism : Type 0
IdentityIsAutomorphism = (rows : List Row) → IsTable rows → IsAutomorphism rows (unchanged (length rows))

abbrev pub AutomorphismsCompose : Type 0
AutomorphismsCompose =
    (rows : List Row) (second first : Relabelling) → IsTable rows → IsAutomorphism rows second → IsAutomorphism rows first
    → IsAutomorphism rows (after (length rows) second first)

abbrev pub AutomorphismsHaveInverses : Type 0
AutomorphismsHaveInverses = (rows : List Row) (by : Relabelling) → IsTable rows → IsAutomorphism rows by → IsAutomorphism rows (inverted (length rows) by)

-- Theorem: composition of relabellings is associative, has the identity as neutral element, and the inverses
abbrev pub RelabellingsAssociate : Type 0
RelabellingsAssociate =
    (n : ℕ) (third second first : Relabelling) → IsRelabelling n third → IsRelabelling n second → IsRelabelling n first
    → after n (after n third second) first ≡ after n third (after n second first)

abbrev pub IdentityIsNeutral : Type 0
IdentityIsNeutral = (n : ℕ) (by : Relabelling) → IsRelabelling n by → (after n by (unchanged n) ≡ by) × (after n (unchanged n) by ≡ by)

abbrev pub InversesCancel : Type 0
InversesCancel =
    (n : ℕ) (by : Relabelling) → IsRelabelling n by → (after n by (inverted n by) ≡ unchanged n) × (after n (inverted n by) by ≡ unchanged n)

-- Theorem: the identity carries each start to itself, and a composition carries it as its parts do in turn
abbrev pub IdentityCarriesStarts : Type 0
IdentityCarriesStarts = (n : ℕ) (start : Start) → start.tet < n → IsPermutationOfFour start.perm → carried_start (unchanged n) start ≡ start

abbrev pub CompositionsCarryStarts : Type 0
CompositionsCarryStarts =
    (n : ℕ) (second first : Relabelling) (start : Start) → IsRelabelling n second → IsRelabelling n first → start.tet < n → IsPermutationOfFour start.perm
    → carried_start (after n second first) start ≡ carried_start second (carried_start first start)

-- Theorem: an automorphism of a connected table carries one start to another if and only if one text belongs to both
abbrev pub TextsDecideAutomorphisms : Type 0
TextsDecideAutomorphisms =
    (rows : List Row) (start other : Start) → IsTable rows → IsConnected rows → start.tet < length rows → IsPermutationOfFour start.perm → other.tet < length rows
    → ((text : List ℕ) × IsTextFrom rows start text × IsTextFrom rows other text) ↔ ((by : Relabelling) × IsAutomorphism rows by × (carried_start by start ≡ other))

-- Theorem: automorphisms of a connected table that carry one start to the same start are equal
abbrev pub StartsDetermineAutomorphisms : Type 0
StartsDetermineAutomorphisms =
    (rows : List Row) (start : Start) (by other : Relabelling) → IsTable rows → IsConnected rows → start.tet < length rows → IsPermutationOfFour start.perm
    → IsAutomorphism rows by → IsAutomorphism rows other → carried_start by start ≡ carried_start other start → by ≡ other

-- Theorem: a text belongs to a start if and only if it belongs to the start to which an automorphism carries it
abbrev pub StartsCarriedHaveOneText : Type 0
StartsCarriedHaveOneText =
    (rows : List Row) (by : Relabelling) (start : Start) (text : List ℕ) → IsTable rows → IsAutomorphism rows by → start.tet < length rows → IsPermutationOfFour start.perm
    → IsTextFrom rows start text ↔ IsTextFrom rows (carried_start by start) text

-- Theorem: if one text belongs to two starts, an automorphism carries the first to the second
abbrev pub EqualTextsGiveAutomorphisms : Type 0
EqualTextsGiveAutomorphisms =
    (rows : List Row) (start other : Start) (text : List ℕ) → IsTable rows → start.tet < length rows → other.tet < length rows → IsTextFrom rows start text → IsTextFrom rows other text
    → (by : Relabelling) × IsAutomorphism rows by × (carried_start by start ≡ other)

-- Theorem: if an automorphism carries a start without a smaller text to another, marking the other keeps marked starts
-- without smaller texts
abbrev pub MarksKeepNoSmallerText : Type 0
MarksKeepNoSmallerText =
    (rows : List Row) (by : Relabelling) (text : List ℕ) (marks : List Bool) (i : ℕ) → IsTable rows → IsAutomorphism rows by → i < 24 * length rows
    → HasNoSmallerText rows text (numbered_start i) → MarkedHaveNoSmallerText rows text marks → MarkedHaveNoSmallerText rows text (slice_set marks (carried_number by i) true)

-- Theorem: the least text of the first k starts is the least of the first k + 1 if start k is marked
abbrev pub MarkedStartsNeedNoWalk : Type 0
MarkedStartsNeedNoWalk =
    (rows : List Row) (text : List ℕ) (marks : List Bool) (k : ℕ) → MarkedHaveNoSmallerText rows text marks → slice_index_or marks k false ≡ true
    → IsLeastText rows k text → IsLeastText rows (k + 1) text

-- Theorem: marked starts have no text before a smaller text
abbrev pub SmallerTextsKeepNoSmallerText : Type 0
SmallerTextsKeepNoSmallerText =
    (rows : List Row) (text smaller : List ℕ) (marks : List Bool) → is_list_before smaller text ≡ true → MarkedHaveNoSmallerText rows text marks → MarkedHaveNoSmallerText rows smaller marks

-- Theorem: the least text of all starts is the signature
abbrev pub LeastTextsAreSignatures : Type 0
LeastTextsAreSignatures = (rows : List Row) (text : List ℕ) → IsLeastText rows (24 * length rows) text → IsSignature rows text
