-- The components of a symmetric relation have a numbering, by searches for one component after another.
use Rattle.std.proofs.Common.{◌≡◌, ℕ, zero, suc, ◌<◌, ◌≤◌, ◌↔◌, Bool, true, false, List, [], ◌∷◌, ◌++◌, length, map, replicate, set, Contains, All, inl, inr, refl, sym, ap, ◌∙◌, subst, arith, append_assoc, append-nil, length-set}
use Rattle.std.specs.Prelude.{if◌then◌else◌, slice_index, All}
use Rattle.std.specs.List.{slice_index_or}
use Rattle.std.proofs.lemmas.Bool.{cases_lt, false_from_ne_true}
use Rattle.std.proofs.lemmas.List.{get_or-map, length-map, get_or_past, length-replicate}
use Rattle.std.proofs.lemmas.List.Elements.{Contains-append_right, All-contains}
use Rattle.std.proofs.lemmas.List.FromFn.{length-range_with_len, get_or-range_with_len}
use Rattle.table_walk_laws.specs.Joined.{IsJoined, IsSymmetric, HasNeighboursBelow}
use Rattle.table_walk_laws.specs.Search.{IsClosed, IsSearch, IsSearchStep, AreMembers, IsComponent, work_left}
use Rattle.table_walk_laws.specs.Classes.{AreNumbered, AreClassesUpTo}
use Rattle.table_walk_laws.proofs.SearchLemmas.{search_begins, turn_starts_before, turn_marks, turn_passes, turn_ends, turn_below, has_few_turns}
use Rattle.table_walk_laws.proofs.Members.{members_start, members_grow, members_are_component}
use Rattle.table_walk_laws.proofs.ClassLemmas.{classes_start, classes_pass, classes_grow, classes_end, members_below}
use Rattle.table_definitions.proofs.ClassLaws.{numbering_same}
use Rattle.table_definitions.specs.Lists.{below, has}
use Rattle.table_definitions.specs.Classes.{IsNumbering}
use Rattle.table_definitions.proofs.Bijections.{there, contains_has}

from_has : (ns : List ℕ) (n : ℕ) → has ns n ≡ true → Contains ns n
from_has ns n h = let a = there ns n h in (a.0, a.1, sym a.2)

module _ (n : ℕ) (neighbours : ℕ → List ℕ) (symmetric : IsSymmetric neighbours) (below_n : HasNeighboursBelow n neighbours) where
  -- a step of a search that is finished
  record IsTurned (before first : List Bool) (x work : ℕ) : Type 0 where
    marked : List Bool
    pending : List ℕ
    members : List ℕ
    turn : IsSearchStep neighbours first x (neighbours x) marked pending
    are : AreMembers before marked members
    size : length marked ≡ n
    same_work : work_left marked pending ≡ work

  turn_done : (before first : List Bool) (x : ℕ) (rest done : List ℕ) (marked : List Bool) (pending members : List ℕ) → x < n → neighbours x ≡ done ++ rest
      → IsSearchStep neighbours first x done marked pending → AreMembers before marked members → length marked ≡ n → IsTurned before first x (work_left marked pending)
  turn_done before first x [] done marked pending members lx e t m size = record {
    marked = marked;
    pending = pending;
    members = members;
    turn = subst (λ d. IsSearchStep neighbours first x d marked pending) (sym (e ∙ append-nil done)) t;
    are = m;
    size = size;
    same_work = refl;
  }
  turn_done before first x (y ∷ rest) done marked pending members lx e t m size =
      by_mark (slice_index_or marked y false) refl (λ marks waiting held u v w. turn_done before first x rest (done ++ y ∷ []) marks waiting held lx (e ∙ sym (append_assoc done (y ∷ []) rest)) u v w)
    where
      near : Contains (neighbours x) y
      near = subst (λ ns. Contains ns y) (sym e) (Contains-append_right done (y ∷ rest) y (0, omega arith, refl))

      ly : y < length marked
      ly = let l : y < n = below_n x y lx near in omega arith

      by_mark : (b : Bool) → slice_index_or marked y false ≡ b
          → ((marks : List Bool) (waiting held : List ℕ) → IsSearchStep neighbours first x (done ++ y ∷ []) marks waiting → AreMembers before marks held → length marks ≡ n → IsTurned before first x (work_left marks waiting))
          → IsTurned before first x (work_left marked pending)
      by_mark true f rest_done = rest_done marked pending members (turn_passes neighbours first x done marked pending y t f) m size
      by_mark false f rest_done =
          subst (IsTurned before first x) (has_few_turns.mark marked pending y ly f)
          (rest_done (set marked y true) (pending ++ y ∷ []) (members ++ y ∷ []) (turn_marks neighbours first x done marked pending y t near ly f) (members_grow before marked members y m ly f) (length-set marked y true ∙ size))

  -- a search that is finished
  record IsSearched (before first : List Bool) : Type 0 where
    marked : List Bool
    members : List ℕ
    search : IsSearch neighbours first marked []
    are : AreMembers before marked members
    size : length marked ≡ n

  search_done : (before first : List Bool) (fuel : ℕ) (marked : List Bool) (pending members : List ℕ) → work_left marked pending ≤ fuel → IsSearch neighbours first marked pending → AreMembers before marked members → length marked ≡ n
      → IsSearched before first
  search_done before first fuel marked [] members l s m size = record { marked = marked; members = members; search = s; are = m; size = size }
  search_done before first zero marked (x ∷ pending) members l s m size = absurd (omega arith)
  search_done before first (suc fuel) marked (x ∷ pending) members l s m size =
      let t : IsSearchStep neighbours first x [] marked pending = turn_starts_before neighbours first x marked (x ∷ pending) pending s refl in
      let lx : x < n = let b : x < length marked = turn_below neighbours first x [] marked pending t in omega arith in
      let d : IsTurned before first x (work_left marked pending) = turn_done before first x (neighbours x) [] marked pending members lx refl t m size in
      let less : work_left d.marked d.pending ≤ fuel = let w = d.same_work in omega arith in
      search_done before first fuel d.marked d.pending d.members less (turn_ends neighbours first x (neighbours x) d.marked d.pending d.turn refl) d.are d.size

  -- the component of a number that is not marked
  record IsNextComponent (start : ℕ) (before : List Bool) : Type 0 where
    marked : List Bool
    members : List ℕ
    component : IsComponent neighbours start before marked members
    size : length marked ≡ n

  next_component : (start : ℕ) (before : List Bool) → start < n → length before ≡ n → IsClosed neighbours before → slice_index_or before start false ≡ false → IsNextComponent start before
  next_component start before l size closed new =
      let ls : start < length before = omega arith in
      let first : List Bool = set before start true in
      let d : IsSearched before first = search_done before first (work_left first (start ∷ [])) first (start ∷ []) (start ∷ []) (omega arith) (search_begins neighbours before start closed ls) (members_start before start ls new) (length-set before start true ∙ size) in
      record { marked = d.marked; members = d.members; component = members_are_component neighbours before d.marked d.members start symmetric closed ls new d.search d.are; size = d.size }

  -- the members get the class, and the others keep theirs
  class_now : List ℕ → ℕ → List ℕ → ℕ → ℕ
  class_now members class classes x = if has members x then class else slice_index classes x

  renumbered : List ℕ → ℕ → List ℕ → List ℕ
  renumbered members class classes = map (class_now members class classes) (below n)

  renumbered_entry : (members : List ℕ) (class : ℕ) (classes : List ℕ) (x : ℕ) → x < n → slice_index (renumbered members class classes) x ≡ class_now members class classes x
  unfolding renumbered
  renumbered_entry members class classes x l =
      let inside : x < length (below n) = omega (arith, length-range_with_len 0 n) in
      get_or-map (class_now members class classes) (below n) x 0 0 inside ∙ ap (class_now members class classes) (get_or-range_with_len 0 n x 0 l ∙ omega arith)

  length-renumbered : (members : List ℕ) (class : ℕ) (classes : List ℕ) → length (renumbered members class classes) ≡ n
  unfolding renumbered
  length-renumbered members class classes = length-map (below n) (class_now members class classes) ∙ length-range_with_len 0 n

  are_numbered : (members : List ℕ) (class : ℕ) (classes : List ℕ) → length classes ≡ n → All (λ x. x < n) members → AreNumbered members class classes (renumbered members class classes)
  unfolding class_now
  are_numbered members class classes size inside = record {
    size = length-renumbered members class classes ∙ sym size;
    numbered = λ x c.
        renumbered_entry members class classes x (All-contains (λ x. x < n) members x inside c) ∙ ap (λ b. if b then class else slice_index classes x) (contains_has members x c);
    others = λ x out. elim (cases_lt x n) [
      | inl l ↦ renumbered_entry members class classes x l ∙ ap (λ b. if b then class else slice_index classes x) (false_from_ne_true (has members x) (λ h. out (from_has members x h)))
      | inr exceeded ↦ get_or_past (renumbered members class classes) x 0 (omega (arith, length-renumbered members class classes)) ∙ sym (get_or_past classes x 0 (omega arith))
    ];
  }

  record IsClassedUpTo (i : ℕ) : Type 0 where
    count : ℕ
    marked : List Bool
    classes : List ℕ
    up_to : AreClassesUpTo neighbours i count marked classes
    marks : length marked ≡ n
    size : length classes ≡ n

  classed : (i : ℕ) → i ≤ n → IsClassedUpTo i
  classed zero l = record { count = 0; marked = replicate n false; classes = replicate n 0; up_to = classes_start neighbours n; marks = length-replicate n false; size = length-replicate n 0 }
  classed (suc i) l = by_mark (classed i (omega arith))
    where
      go : (c : IsClassedUpTo i) (b : Bool) → slice_index_or c.marked i false ≡ b → IsClassedUpTo (suc i)
      go c true e = record { count = c.count; marked = c.marked; classes = c.classes; up_to = classes_pass neighbours i c.count c.marked c.classes c.up_to e; marks = c.marks; size = c.size }
      go c false e =
          let d : IsNextComponent i c.marked = next_component i c.marked (omega arith) c.marks c.up_to.closed e in
          let inside : All (λ x. x < n) d.members = subst (λ m. All (λ x. x < m) d.members) d.size (members_below neighbours i c.marked d.marked d.members d.component) in
          record {
            count = suc c.count;
            marked = d.marked;
            classes = renumbered d.members c.count c.classes;
            up_to = classes_grow neighbours i c.count c.marked c.classes c.up_to d.marked d.members (renumbered d.members c.count c.classes) symmetric d.component (are_numbered d.members c.count c.classes c.size inside);
            marks = d.size;
            size = length-renumbered d.members c.count c.classes;
          }

      by_mark : IsClassedUpTo i → IsClassedUpTo (suc i)
      by_mark c = go c (slice_index_or c.marked i false) refl

  pub record HasNumbering (Same : ℕ → ℕ → Type 0) : Type 0 where
    pub classes : List ℕ
    pub count : ℕ
    pub numbered : IsNumbering n Same classes count

  -- if numbers are joined if and only if they are related by `Same`, `Same` has a numbering
  pub numbering_exists : (Same : ℕ → ℕ → Type 0) → ((i j : ℕ) → i < n → j < n → IsJoined neighbours i j ↔ Same i j) → HasNumbering Same
  numbering_exists Same joined =
      let c : IsClassedUpTo n = classed n (omega arith) in
      record {
        classes = c.classes;
        count = c.count;
        numbered = numbering_same n (IsJoined neighbours) Same c.classes c.count (classes_end neighbours n c.count c.marked c.classes c.up_to c.size) joined;
      }
