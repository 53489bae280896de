-- The laws of finite walks and searches.
use Rattle.std.specs.Prelude.{◌≡◌, ◌≢◌, ℕ, suc, ◌<◌, ◌≤◌, ◌↔◌, List, [], ◌∷◌, ◌++◌, length, Option, Some, None, Bool, true, false, All, Contains, slice_index, slice_set, replicate, option_to_list}
use Rattle.std.specs.List.{slice_index_or}
use Rattle.table_walk_laws.specs.Walks.{after, Reaches, IsInjectiveBelow, IsUndoneBy, IsSource, AlwaysSteps, IsOrbit, last_of}
use Rattle.table_walk_laws.specs.Joined.{IsJoined, IsLinked, IsSymmetric}
use Rattle.table_walk_laws.specs.Search.{IsMarked, IsClosed, IsJoinedToSome, IsSearch, IsSearchStep, AreMembers, IsComponent, work_left}
use Rattle.table_walk_laws.specs.Classes.{AreNumbered, AreClassesUpTo}
use Rattle.table_definitions.specs.Classes.{IsNumbering}

-- two places of a list with the same number
pub record HasRepeat (xs : List ℕ) : Type 0 where
  pub i : ℕ
  pub j : ℕ
  pub before : i < j
  pub within : j < length xs
  pub same : slice_index xs i ≡ slice_index xs j

-- pigeonhole: more than n numbers below n repeat one
abbrev pub Pigeonhole : Type 0
Pigeonhole = (n : ℕ) (xs : List ℕ) → All (λ x. x < n) xs → n < length xs → HasRepeat xs

-- the orbit of a start: at most n numbers
pub record HasOrbit (n : ℕ) (step : ℕ → Option ℕ) (start : ℕ) : Type 0 where
  pub places : List ℕ
  pub orbit : IsOrbit step start places
  pub size : length places ≤ n

abbrev pub OrbitExists : Type 0
OrbitExists = (n : ℕ) (step : ℕ → Option ℕ) (start : ℕ) → IsInjectiveBelow n step → start < n → HasOrbit n step start

abbrev pub OneOrbit : Type 0
OneOrbit = (step : ℕ → Option ℕ) (start : ℕ) (xs ys : List ℕ) → IsOrbit step start xs → IsOrbit step start ys → xs ≡ ys

-- an orbit holds exactly what its start reaches
abbrev pub OrbitHoldsReached : Type 0
OrbitHoldsReached = (step : ℕ → Option ℕ) (start : ℕ) (places : List ℕ) → IsOrbit step start places →
    (x : ℕ) → Contains places x ↔ Reaches step start x

-- after fewer than n steps the walk is at a number from which no step leads
pub record HasEnd (n : ℕ) (step : ℕ → Option ℕ) (start : ℕ) : Type 0 where
  pub end : ℕ
  pub count : ℕ
  pub limited : count < n
  pub there : after step start count ≡ Some end
  pub nowhere : step end ≡ None

abbrev pub ChainEnds : Type 0
ChainEnds = (n : ℕ) (step : ℕ → Option ℕ) (start : ℕ) → IsInjectiveBelow n step → IsSource n step start → HasEnd n step start

-- so the orbit of a source is a chain, from whose last number no step leads
abbrev pub SourceHasChain : Type 0
SourceHasChain = (n : ℕ) (step : ℕ → Option ℕ) (start : ℕ) → IsInjectiveBelow n step → IsSource n step start →
    (places : List ℕ) → IsOrbit step start places → step (last_of places) ≡ None

-- a walk from a source never visits a number twice
abbrev pub NeverTwice : Type 0
NeverTwice = (n : ℕ) (step : ℕ → Option ℕ) (start : ℕ) → IsInjectiveBelow n step → IsSource n step start →
    (i j x : ℕ) → after step start i ≡ Some x → after step start j ≡ Some x → i ≡ j

-- a start has one end, whether or not it is a source
abbrev pub OneEnd : Type 0
OneEnd = (step : ℕ → Option ℕ) (start x y : ℕ) → Reaches step start x → Reaches step start y → step x ≡ None → step y ≡ None → x ≡ y

-- two sources that reach the same number are the same
abbrev pub SourcesAreUnique : Type 0
SourcesAreUnique = (n : ℕ) (step : ℕ → Option ℕ) (a b : ℕ) → IsInjectiveBelow n step → IsSource n step a → IsSource n step b →
    (x : ℕ) → Reaches step a x → Reaches step b x → a ≡ b

-- the walk back
abbrev pub WalkBack : Type 0
WalkBack = (step back : ℕ → Option ℕ) → IsUndoneBy step back →
    (start k x : ℕ) → after step start k ≡ Some x → after back x k ≡ Some start

-- a step that can be undone is injective
abbrev pub UndoneIsInjective : Type 0
UndoneIsInjective = (n : ℕ) (step back : ℕ → Option ℕ) → IsUndoneBy step back → ((x y : ℕ) → x < n → step x ≡ Some y → y < n) → IsInjectiveBelow n step

-- after some steps, at most n, the walk is back at its start
pub record HasReturn (n : ℕ) (step : ℕ → Option ℕ) (start : ℕ) : Type 0 where
  pub count : ℕ
  pub some : 1 ≤ count
  pub limited : count ≤ n
  pub there : after step start count ≡ Some start

abbrev pub ComesBack : Type 0
ComesBack = (n : ℕ) (step : ℕ → Option ℕ) (start : ℕ) → IsInjectiveBelow n step → start < n → AlwaysSteps step start → HasReturn n step start

-- so the orbit is a cycle, from whose last number the step leads back
abbrev pub GoingOnHasCycle : Type 0
GoingOnHasCycle = (step : ℕ → Option ℕ) (start : ℕ) → AlwaysSteps step start → (places : List ℕ) → IsOrbit step start places → step (last_of places) ≡ Some start

-- the first return: an orbit of as many numbers
abbrev pub FirstReturnIsOrbit : Type 0
FirstReturnIsOrbit = (n : ℕ) (step : ℕ → Option ℕ) (start : ℕ) → IsInjectiveBelow n step → start < n →
    (k : ℕ) → after step start (suc k) ≡ Some start → ((i : ℕ) → i < k → after step start (suc i) ≢ Some start) →
    (places : List ℕ) → IsOrbit step start places → length places ≡ suc k

-- and what is reached reaches the start
abbrev pub ReachesBack : Type 0
ReachesBack = (n : ℕ) (step : ℕ → Option ℕ) (start : ℕ) → IsInjectiveBelow n step → start < n → AlwaysSteps step start →
    (x : ℕ) → Reaches step start x → Reaches step x start

-- to be reached by a step is to be joined, where the step's number is the only neighbour
abbrev pub ReachedIsJoined : Type 0
ReachedIsJoined = (step : ℕ → Option ℕ) (start x : ℕ) → Reaches step start x ↔ IsJoined (λ y. option_to_list (step y)) start x

-- to be joined is reflexive and transitive, and symmetric where the neighbours are
pub record JoinsLikeEquals (neighbours : ℕ → List ℕ) : Type 0 where
  pub itself : (x : ℕ) → IsJoined neighbours x x
  pub onward : (x y z : ℕ) → IsJoined neighbours x y → IsJoined neighbours y z → IsJoined neighbours x z
  pub back : IsSymmetric neighbours → (x y : ℕ) → IsJoined neighbours x y → IsJoined neighbours y x

abbrev pub JoinedIsEquivalence : Type 0
JoinedIsEquivalence = (neighbours : ℕ → List ℕ) → JoinsLikeEquals neighbours

-- to be linked is an equivalence, whatever the neighbours; with symmetric ones it is to be joined
pub record LinksLikeEquals (neighbours : ℕ → List ℕ) : Type 0 where
  pub itself : (x : ℕ) → IsLinked neighbours x x
  pub onward : (x y z : ℕ) → IsLinked neighbours x y → IsLinked neighbours y z → IsLinked neighbours x z
  pub back : (x y : ℕ) → IsLinked neighbours x y → IsLinked neighbours y x
  pub from_joined : (x y : ℕ) → IsJoined neighbours x y → IsLinked neighbours x y
  pub joined : IsSymmetric neighbours → (x y : ℕ) → IsLinked neighbours x y → IsJoined neighbours x y

abbrev pub LinkedIsEquivalence : Type 0
LinkedIsEquivalence = (neighbours : ℕ → List ℕ) → LinksLikeEquals neighbours

-- a closed set with the start has all that the start is joined to
abbrev pub ClosedHoldsJoined : Type 0
ClosedHoldsJoined = (neighbours : ℕ → List ℕ) (start : ℕ) (marked : List Bool) → IsMarked marked start → IsClosed neighbours marked →
    (x : ℕ) → IsJoined neighbours start x → IsMarked marked x

-- a search begins from closed marks, such as none, and a start, which becomes marked and pending
abbrev pub SearchBegins : Type 0
SearchBegins = (neighbours : ℕ → List ℕ) (marked : List Bool) (start : ℕ) → IsClosed neighbours marked → start < length marked →
    IsSearch neighbours (slice_set marked start true) (slice_set marked start true) (start ∷ [])

abbrev pub NoneIsClosed : Type 0
NoneIsClosed = (neighbours : ℕ → List ℕ) (n : ℕ) → IsClosed neighbours (replicate n false)

-- a turn begins: it takes the last pending number
abbrev pub TurnStarts : Type 0
TurnStarts = (neighbours : ℕ → List ℕ) (first : List Bool) (x : ℕ) (marked : List Bool) (before pending : List ℕ) →
    IsSearch neighbours first marked before → before ≡ pending ++ x ∷ [] → IsSearchStep neighbours first x [] marked pending

-- or the first
abbrev pub TurnStartsBefore : Type 0
TurnStartsBefore = (neighbours : ℕ → List ℕ) (first : List Bool) (x : ℕ) (marked : List Bool) (before pending : List ℕ) →
    IsSearch neighbours first marked before → before ≡ x ∷ pending → IsSearchStep neighbours first x [] marked pending

-- it marks a neighbour, which becomes pending
abbrev pub TurnMarks : Type 0
TurnMarks = (neighbours : ℕ → List ℕ) (first : List Bool) (x : ℕ) (done : List ℕ) (marked : List Bool) (pending : List ℕ) (y : ℕ) →
    IsSearchStep neighbours first x done marked pending → Contains (neighbours x) y → y < length marked → slice_index_or marked y false ≡ false →
    IsSearchStep neighbours first x (done ++ y ∷ []) (slice_set marked y true) (pending ++ y ∷ [])

-- or passes one that is marked
abbrev pub TurnPasses : Type 0
TurnPasses = (neighbours : ℕ → List ℕ) (first : List Bool) (x : ℕ) (done : List ℕ) (marked : List Bool) (pending : List ℕ) (y : ℕ) →
    IsSearchStep neighbours first x done marked pending → IsMarked marked y → IsSearchStep neighbours first x (done ++ y ∷ []) marked pending

-- and it ends when all neighbours are done
abbrev pub TurnEnds : Type 0
TurnEnds = (neighbours : ℕ → List ℕ) (first : List Bool) (x : ℕ) (done : List ℕ) (marked : List Bool) (pending : List ℕ) →
    IsSearchStep neighbours first x done marked pending → neighbours x ≡ done → IsSearch neighbours first marked pending

-- where nothing is pending, a search has marked exactly what its first marks are joined to, and its marks are closed
pub record MarksJoined (neighbours : ℕ → List ℕ) (first marked : List Bool) : Type 0 where
  pub exactly : (x : ℕ) → IsMarked marked x ↔ IsJoinedToSome neighbours first x
  pub closed : IsClosed neighbours marked

abbrev pub SearchEnds : Type 0
SearchEnds = (neighbours : ℕ → List ℕ) (first marked : List Bool) → IsSearch neighbours first marked [] → MarksJoined neighbours first marked

-- with symmetric neighbours a start that was not marked is joined to nothing that was
abbrev pub NewStartIsDisconnected : Type 0
NewStartIsDisconnected = (neighbours : ℕ → List ℕ) (marked : List Bool) → IsSymmetric neighbours → IsClosed neighbours marked →
    (start x : ℕ) → slice_index_or marked start false ≡ false → IsJoined neighbours start x → slice_index_or marked x false ≡ false

-- the members of a search are kept in a list: at first the start, and then each number that is marked
abbrev pub MembersStart : Type 0
MembersStart = (marked : List Bool) (start : ℕ) → start < length marked → slice_index_or marked start false ≡ false →
    AreMembers marked (slice_set marked start true) (start ∷ [])

abbrev pub MembersGrow : Type 0
MembersGrow = (before marked : List Bool) (members : List ℕ) (y : ℕ) → AreMembers before marked members → y < length marked → slice_index_or marked y false ≡ false →
    AreMembers before (slice_set marked y true) (members ++ y ∷ [])

-- with symmetric neighbours they are in the end what the start is joined to
abbrev pub MembersAreComponent : Type 0
MembersAreComponent = (neighbours : ℕ → List ℕ) (before marked : List Bool) (members : List ℕ) (start : ℕ) → IsSymmetric neighbours → IsClosed neighbours before →
    start < length before → slice_index_or before start false ≡ false → IsSearch neighbours (slice_set before start true) marked [] → AreMembers before marked members →
    IsComponent neighbours start before marked members

-- classes are made from component to component, in the order of their least members
abbrev pub ClassesStart : Type 0
ClassesStart = (neighbours : ℕ → List ℕ) (n : ℕ) → AreClassesUpTo neighbours 0 0 (replicate n false) (replicate n 0)

abbrev pub ClassesPass : Type 0
ClassesPass = (neighbours : ℕ → List ℕ) (i count : ℕ) (marked : List Bool) (classes : List ℕ) → AreClassesUpTo neighbours i count marked classes →
    IsMarked marked i → AreClassesUpTo neighbours (suc i) count marked classes

abbrev pub ClassesGrow : Type 0
ClassesGrow = (neighbours : ℕ → List ℕ) (i count : ℕ) (before marked : List Bool) (members : List ℕ) (classes new_classes : List ℕ) → IsSymmetric neighbours →
    AreClassesUpTo neighbours i count before classes → IsComponent neighbours i before marked members → AreNumbered members count classes new_classes →
    AreClassesUpTo neighbours (suc i) (suc count) marked new_classes

abbrev pub ClassesEnd : Type 0
ClassesEnd = (neighbours : ℕ → List ℕ) (n count : ℕ) (marked : List Bool) (classes : List ℕ) → AreClassesUpTo neighbours n count marked classes →
    length classes ≡ n → IsNumbering n (IsJoined neighbours) classes count

-- all turns together are n at most: the work is n at first, a mark leaves it as it is, with its number pending, and to
-- take a pending number lowers it
pub record HasBoundedSteps : Type 0 where
  pub first : (n : ℕ) → work_left (replicate n false) [] ≡ n
  pub mark : (marked : List Bool) (pending : List ℕ) (y : ℕ) → y < length marked → slice_index_or marked y false ≡ false →
      work_left (slice_set marked y true) (pending ++ y ∷ []) ≡ work_left marked pending
  pub take : (marked : List Bool) (pending : List ℕ) (x : ℕ) → work_left marked (pending ++ x ∷ []) ≡ suc (work_left marked pending)
