-- A canonical traversal whose face types are found one by one, each face read at most once, and how far its text agrees
-- with a bound.
use Rattle.std.specs.Prelude.{◌≡◌, ◌≢◌, ℕ, suc, ◌+◌, ◌-◌, ◌*◌, ◌/◌, ◌%◌, ◌<◌, ◌≤◌, Bool, true, false, ◌||◌, not, List, [], ◌∷◌, ◌++◌, length, map, ◌==◌, nat_lt, Option, Some, None, slice_get, slice_index, slice_set, All, if◌then◌else◌}
use Rattle.std.specs.List.{slice_index_or}
use Rattle.table_definitions.specs.Permutation.{inverse, compose}
use Rattle.table_definitions.specs.Table.{max_tets, Gluing, Row, Face, glue, other_side, face_number}
use Rattle.table_definitions.specs.Relabelling.{Relabelling}
use Rattle.signature_definitions.specs.Spelling.{character, head_values, packed, face_types, Spells}
use Rattle.signature_definitions.specs.Labellings.{Start, IsWalked}
use Rattle.table_definitions.specs.Lists.{is_list_before}
use Rattle.table_definitions.specs.Places.{face_of}
use Rattle.signature_definitions.specs.Spelling.{seen_gluings}
use Rattle.signature_text_laws.specs.Walks.{IsWalkTo}
use Rattle.signature_laws.specs.Orders.{start_at, face_from, follow, AreVisited, Numbers}
use Rattle.canonical_labelling.specs.declared.comparison.Comparison.{Comparison}
use Rattle.canonical_labelling.specs.declared.comparison.WorkSpace.{WorkSpace}

-- the state of a traversal: the order and its marks, the new number of each tetrahedron, the new faces reached from
-- their other sides, the types of the faces read, and the new gluings of those of type 2
pub record ComparisonView : Type 0 where
  pub order : List Start
  pub visited : List Bool
  pub numbers : List ℕ
  pub crossed : List Bool
  pub types : List ℕ
  pub gluings : List Gluing

-- the state once the tetrahedron across the gluing has a number
abbrev pub numbered : Bool → Start → Gluing → ComparisonView → ComparisonView
numbered visited from g s = record s {
  order = follow visited from g s.order;
  visited = slice_set s.visited g.tet true;
  numbers = if visited then s.numbers else slice_set s.numbers g.tet (length s.order);
}

-- the gluing in the new labels
abbrev pub new_gluing : Start → Gluing → ComparisonView → Gluing
new_gluing from g s = record {
  tet = slice_index s.numbers g.tet;
  perm = compose (start_at s.order (slice_index s.numbers g.tet)).perm (compose g.perm (inverse from.perm));
}

-- the state once the face with new index k is recorded: of type 2 if the tetrahedron across it was visited before, and
-- else of type 1
abbrev pub crossed : Bool → ℕ → Gluing → ComparisonView → ComparisonView
crossed visited k g s = record s {
  crossed = slice_set s.crossed (face_number (other_side (face_of k) g)) true;
  types = s.types ++ (if visited then 2 else 1) ∷ [];
  gluings = if visited then s.gluings ++ g ∷ [] else s.gluings;
}

-- the state after the face with new index k, which is glued
abbrev pub take_glued : ℕ → Start → Gluing → ComparisonView → ComparisonView
take_glued k from g s =
    let visited : Bool = slice_index_or s.visited g.tet false in
    let t : ComparisonView = numbered visited from g s in
    crossed visited k (new_gluing from g t) t

-- the state after the face with new index k, given its gluing; a boundary face has type 0
abbrev pub take_entry : ℕ → Start → Option Gluing → ComparisonView → ComparisonView
take_entry k from None s = record s { types = s.types ++ 0 ∷ [] }
take_entry k from (Some g) s = take_glued k from g s

-- the state after the face with new index k; nothing changes if it was reached from its other side or its tetrahedron
-- is not visited
abbrev pub take_place : List Row → ℕ → ComparisonView → ComparisonView
take_place rows k s =
    if slice_index_or s.crossed k false then s
    else (if nat_lt (k / 4) (length s.order) then take_entry k (start_at s.order (k / 4)) (glue rows (face_from (start_at s.order (k / 4)) (k % 4))) s else s)

-- whether a text with this character is less than a bound with the given one at its place, or with none; None if the
-- characters agree
abbrev pub compare_by : Option ℕ → ℕ → Option Bool
compare_by None c = Some false
compare_by (Some b) c = if c == b then None else Some (nat_lt c b)

-- whether each text that begins with the first list is less than the bound; None if the list is a prefix of the bound
abbrev pub reported : List ℕ → List ℕ → Option Bool
reported [] bound = None
reported (c ∷ cs) [] = Some false
reported (c ∷ cs) (b ∷ bound) = if c == b then reported cs bound else Some (nat_lt c b)

-- the character that packs the three types from index i on
abbrev pub type_character : List ℕ → ℕ → ℕ
type_character types i = character (slice_index types i + 4 * slice_index types (i + 1) + 16 * slice_index types (i + 2))

-- the comparison at the last type character, if its three types are found
abbrev pub compare_full_character : List ℕ → List ℕ → ℕ → Option Bool
compare_full_character types bound head =
    if (length types == 0) || not (length types % 3 == 0) then None
    else compare_by (slice_get bound (head + (length types - 3) / 3)) (type_character types (length types - 3))

-- the comparison at the last type character, if only one or two types are left for it
abbrev pub compare_last_character : List ℕ → List ℕ → ℕ → Option Bool
compare_last_character types bound head =
    if length types % 3 == 0 then None
    else compare_by (slice_get bound (head + (length types - length types % 3) / 3)) (type_character types (length types - length types % 3))

-- the head of the text of a table of n tetrahedra
abbrev pub head_text : ℕ → List ℕ
head_text n = map character (head_values n)

-- the least index at which two texts differ; a text that has ended differs from one that has not
pub record IsFirstDifference (text bound : List ℕ) (i : ℕ) : Type 0 where
  pub same : (k : ℕ) → k < i → slice_get text k ≡ slice_get bound k
  pub separate : slice_get text i ≢ slice_get bound i

-- the index at which the destinations begin in the text of the table
abbrev pub destinations_at : List Row → ℕ
destinations_at rows = length (head_values (length rows)) + length (packed (face_types rows))

-- the number of type characters at indices up to and including i
abbrev pub type_characters : List Row → ℕ → ℕ
type_characters rows i = suc i - length (head_values (length rows))

-- if the text first differs from the bound at index i, before its destinations, at most three faces were read for each
-- type character up to i
abbrev pub ReadsAtMost : List Row → Start → List ℕ → ℕ → Type 0
ReadsAtMost rows start bound reads =
    (by : Relabelling) (new : List Row) (text : List ℕ) (i : ℕ) → IsWalked rows start by new → Spells text new → IsFirstDifference text bound i
    → i < destinations_at new → reads ≤ 3 * type_characters new i

-- the state that the code keeps, as the definitions see it
abbrev pub comparison_view : Comparison → ComparisonView
comparison_view t = record { order = t.walking.order.items; visited = t.walking.visited.items; numbers = t.numbers.items; crossed = t.crossed.items; types = t.types.items; gluings = t.gluings.items }

-- what holds before the face with new index k is taken; in particular the tetrahedron at index i of the order has the
-- number i
pub record IsComparison (k : ℕ) (s : ComparisonView) : Type 0 where
  pub limited : length s.numbers ≤ max_tets
  pub marks : length s.visited ≡ length s.numbers
  pub visited : AreVisited s.order s.visited
  pub numbers : (i : ℕ) → i < length s.order → slice_index s.numbers (start_at s.order i).tet ≡ i
  pub crossed : length s.crossed ≡ 4 * length s.numbers
  pub small : All (λ t. t < 3) s.types
  pub bounded_types : length s.types ≤ k
  pub marked : (p : ℕ) → slice_index_or s.crossed p false ≡ true → p < 4 * length s.order

-- no mark is set
abbrev pub AreUnmarked : List Bool → Type 0
AreUnmarked marks = (p : ℕ) → slice_index_or marks p false ≡ false

-- nothing is visited, crossed or found; numbers may be left from an earlier traversal
pub record IsClean (s : ComparisonView) : Type 0 where
  pub limited : length s.numbers ≤ max_tets
  pub marks : length s.visited ≡ length s.numbers
  pub faces : length s.crossed ≡ 4 * length s.numbers
  pub order : s.order ≡ []
  pub types : s.types ≡ []
  pub gluings : s.gluings ≡ []
  pub visited : AreUnmarked s.visited
  pub crossed : AreUnmarked s.crossed

-- whether the face is glued to one of an index below k
abbrev pub leads_before : ℕ → Face → Option Gluing → Bool
leads_before k y None = false
leads_before k y (Some g) = nat_lt (face_number (other_side y g)) k

-- before the face at k is taken, the state is that of the new table's walk, and a face from k on is marked as crossed
-- if and only if it is glued to one before k
pub record Follows (by : Relabelling) (new : List Row) (k : ℕ) (s : ComparisonView) : Type 0 where
  pub walk : IsWalkTo new k (record { seen = length s.order; types = s.types; gluings = s.gluings })
  pub occurs : Numbers s.order by
  pub crossed : (p : ℕ) → k ≤ p → p < 4 * length new → slice_index_or s.crossed p false ≡ leads_before k (face_of p) (glue new (face_of p))

-- Follows, for each table that results from a traversal from the start
abbrev pub FollowsWalks : List Row → Start → ℕ → ComparisonView → Type 0
FollowsWalks rows start k s = (by : Relabelling) (new : List Row) → IsWalked rows start by new → Follows by new k s

-- whether the text of the traversal is less than the bound; if it is not, ReadsAtMost holds of the number of faces read
pub record IsDecided (rows : List Row) (start : Start) (bound : List ℕ) (reads : ℕ) (before : Bool) : Type 0 where
  pub value : (by : Relabelling) (new : List Row) (text : List ℕ) → IsWalked rows start by new → Spells text new → before ≡ is_list_before text bound
  pub limited : before ≡ false → ReadsAtMost rows start bound reads

-- all types and gluings are found, and the text agrees with the bound up to the end of its types
pub record IsUndecided (rows : List Row) (start : Start) (bound : List ℕ) (s : ComparisonView) : Type 0 where
  pub types : (by : Relabelling) (new : List Row) → IsWalked rows start by new → s.types ≡ face_types new
  pub gluings : (by : Relabelling) (new : List Row) → IsWalked rows start by new → s.gluings ≡ seen_gluings new
  pub agreed : reported (head_text (length rows) ++ map character (packed s.types)) bound ≡ None

-- the work space is for tables of n tetrahedra, and no traversal is under way
pub record IsWorkSpace (n : ℕ) (w : WorkSpace) : Type 0 where
  pub clean : IsClean (comparison_view w.comparison)
  pub size : length w.comparison.numbers.items ≡ n
  pub head : w.head.items ≡ head_text n
