-- A search marks what its first marks are joined to. It works off a list of pending numbers, whose neighbours it has
-- still to mark.
use Rattle.std.specs.Prelude.{◌≡◌, ◌≢◌, ℕ, ◌+◌, ◌⊎◌, ◌↔◌, List, ◌∷◌, length, Bool, true, false, not, All, Contains, AllPairs, count_by}
use Rattle.std.specs.List.{slice_index_or}
use Rattle.table_walk_laws.specs.Joined.{IsJoined}

abbrev pub IsMarked : List Bool → ℕ → Type 0
IsMarked marked x = slice_index_or marked x false ≡ true

-- each neighbour of a marked number is marked
abbrev pub IsClosed : (ℕ → List ℕ) → List Bool → Type 0
IsClosed neighbours marked = (x y : ℕ) → IsMarked marked x → Contains (neighbours x) y → IsMarked marked y

-- one of the numbers marked first is joined to x
abbrev pub IsJoinedToSome : (ℕ → List ℕ) → List Bool → ℕ → Type 0
IsJoinedToSome neighbours first x = (start : ℕ) × IsMarked first start × IsJoined neighbours start x

-- a search that is under way: what was marked first is marked, and only what that is joined to; of a marked number that
-- is not pending each neighbour is marked
pub record IsSearch (neighbours : ℕ → List ℕ) (first marked : List Bool) (pending : List ℕ) : Type 0 where
  pub kept : (x : ℕ) → IsMarked first x → IsMarked marked x
  pub joined : (x : ℕ) → IsMarked marked x → IsJoinedToSome neighbours first x
  pub pending_marked : (x : ℕ) → Contains pending x → IsMarked marked x
  pub pending_or_marked : (x y : ℕ) → IsMarked marked x → Contains (neighbours x) y → Contains pending x ⊎ IsMarked marked y
  pub distinct : AllPairs (λ x y. x ≢ y) pending

-- a turn: the neighbours of x are being marked, and those that are done are. Until the turn ends x counts as pending
pub record IsSearchStep (neighbours : ℕ → List ℕ) (first : List Bool) (x : ℕ) (done : List ℕ) (marked : List Bool) (pending : List ℕ) : Type 0 where
  pub search : IsSearch neighbours first marked (x ∷ pending)
  pub done_marked : All (IsMarked marked) done

-- the members are the numbers that are marked and were not before, each once
pub record AreMembers (before marked : List Bool) (members : List ℕ) : Type 0 where
  pub kept : (x : ℕ) → IsMarked before x → IsMarked marked x
  pub taken : (x : ℕ) → Contains members x → IsMarked marked x
  pub new : (x : ℕ) → Contains members x → slice_index_or before x false ≡ false
  pub all : (x : ℕ) → IsMarked marked x → IsMarked before x ⊎ Contains members x
  pub distinct : AllPairs (λ x y. x ≢ y) members

-- the members are what the start is joined to, each once, and they have become marked
pub record IsComponent (neighbours : ℕ → List ℕ) (start : ℕ) (before marked : List Bool) (members : List ℕ) : Type 0 where
  pub exactly : (x : ℕ) → Contains members x ↔ IsJoined neighbours start x
  pub distinct : AllPairs (λ x y. x ≢ y) members
  pub marks : (x : ℕ) → IsMarked marked x ↔ (IsMarked before x ⊎ Contains members x)
  pub new : (x : ℕ) → Contains members x → slice_index_or before x false ≡ false
  pub closed : IsClosed neighbours marked

-- how many numbers may still become pending, and how many are
abbrev pub work_left : List Bool → List ℕ → ℕ
work_left marked pending = count_by not marked + length pending
