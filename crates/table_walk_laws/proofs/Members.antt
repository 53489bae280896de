-- The members that a search finds.
use Rattle.std.proofs.Common.{◌≡◌, ◌≢◌, ℕ, ◌+◌, ◌<◌, inl, inr, List, [], ◌∷◌, ◌++◌, length, Option, Bool, true, false, Contains, set, drop, sym, ap, subst, ◌∙◌, arith}
use Rattle.std.specs.List.{slice_index_or}
use Rattle.std.proofs.lemmas.Bool.{false≢true, false_from_ne_true}
use Rattle.std.proofs.lemmas.List.{get_or_default, drop_more}
use Rattle.std.proofs.lemmas.List.Elements.{Contains-append_left, Contains-push, Contains-push_cases}
use Rattle.std.proofs.lemmas.List.Quantifiers.{all_pairs_push}
use Rattle.basic_lemmas.proofs.Members.{contains_at, contains_one}
use Rattle.table_walk_laws.specs.Joined.{IsJoined, IsSymmetric, neighbours_of}
use Rattle.table_walk_laws.specs.Search.{IsMarked, IsClosed, IsSearch, IsSearchStep, AreMembers, IsComponent}
use Rattle.table_walk_laws.specs.Laws.{MarksJoined}
use Rattle.table_walk_laws.proofs.SearchLemmas.{marked_is, marked_cases, still_marked, search_ends, new_start_is_apart, closed_holds_joined, turn_starts_before, turn_below}

pub members_start : (marked : List Bool) (start : ℕ) → start < length marked → slice_index_or marked start false ≡ false → AreMembers marked (set marked start true) (start ∷ [])
members_start marked start l new = record {
  kept = still_marked marked start;
  taken = λ x c. subst (IsMarked (set marked start true)) (sym (contains_one start x c)) (marked_is marked start l);
  new = λ x c. ap (λ a. slice_index_or marked a false) (contains_one start x c) ∙ new;
  all = λ x m. elim (marked_cases marked start x m) [ inl e ↦ inr (contains_at (start ∷ []) 0 x (omega arith) (sym e)) | inr old ↦ inl old ];
  distinct = λ i j d less k. absurd (omega arith);
}

pub members_grow : (before marked : List Bool) (members : List ℕ) (y : ℕ) → AreMembers before marked members → y < length marked → slice_index_or marked y false ≡ false →
    AreMembers before (set marked y true) (members ++ y ∷ [])
members_grow before marked members y h l new = record {
  kept = λ x m. still_marked marked y x (h.kept x m);
  taken = λ x c. elim (Contains-push_cases members y x c) [
    | inl old ↦ still_marked marked y x (h.taken x old)
    | inr e ↦ subst (IsMarked (set marked y true)) e (marked_is marked y l)
  ];
  new = λ x c. elim (Contains-push_cases members y x c) [
    | inl old ↦ h.new x old
    | inr e ↦ ap (λ a. slice_index_or before a false) (sym e) ∙ false_from_ne_true (slice_index_or before y false) (λ m. false≢true (sym new ∙ h.kept y m))
  ];
  all = λ x m. elim (marked_cases marked y x m) [
    | inl e ↦ inr (subst (Contains (members ++ y ∷ [])) (sym e) (Contains-push members y))
    | inr old ↦ elim (h.all x old) [
      | inl earlier ↦ inl earlier
      | inr c ↦ inr (Contains-append_left members (y ∷ []) x c)
    ]
  ];
  distinct = all_pairs_push (λ a b. a ≢ b) members y h.distinct
      (λ k d k_below e. false≢true (sym new ∙ h.taken y (k, k_below, get_or_default members k y d k_below ∙ e)));
}

pub members_are_component : (neighbours : ℕ → List ℕ) (before marked : List Bool) (members : List ℕ) (start : ℕ) → IsSymmetric neighbours → IsClosed neighbours before →
    start < length before → slice_index_or before start false ≡ false → IsSearch neighbours (set before start true) marked [] → AreMembers before marked members →
    IsComponent neighbours start before marked members
members_are_component neighbours before marked members start turn closed l new s h = record {
  exactly = λ x. (λ c. joined x c (s.joined x (h.taken x c)), back x);
  distinct = h.distinct;
  marks = λ x. (h.all x, λ sides. elim sides [ inl m ↦ h.kept x m | inr c ↦ h.taken x c ]);
  new = h.new;
  closed = ends.closed;
}
  where
    ends : MarksJoined neighbours (set before start true) marked
    ends = search_ends neighbours (set before start true) marked s

    joined : (x : ℕ) → Contains members x → (a : ℕ) × IsMarked (set before start true) a × IsJoined neighbours a x → IsJoined neighbours start x
    joined x c j = elim (marked_cases before start j.0 j.1) [
      | inl e ↦ subst (λ a. IsJoined neighbours a x) e j.2
      | inr old ↦ absurd (false≢true (sym (h.new x c) ∙ closed_holds_joined neighbours j.0 before old closed x j.2))
    ]

    back : (x : ℕ) → IsJoined neighbours start x → Contains members x
    back x p = elim (h.all x ((ends.exactly x).1 (start, marked_is before start l, p))) [
      | inl old ↦ absurd (false≢true (sym (new_start_is_apart neighbours before turn closed start x new p) ∙ old))
      | inr c ↦ c
    ]

-- the members from index i onwards are pending, so the next step is that of the member at i
pub next_member : (members : List ℕ) (i x : ℕ) → i < length members → x ≡ slice_index_or members i x → drop i members ≡ x ∷ drop (i + 1) members
next_member members i x l e = drop_more members i x l ∙ ap (λ a. a ∷ drop (i + 1) members) (sym e)

pub member_turn : (neighbours : ℕ → List ℕ) (first marked : List Bool) (members : List ℕ) (i x : ℕ) → IsSearch neighbours first marked (drop i members) →
    i < length members → x ≡ slice_index_or members i x → IsSearchStep neighbours first x [] marked (drop (i + 1) members)
member_turn neighbours first marked members i x s l e = turn_starts_before neighbours first x marked (drop i members) (drop (i + 1) members) s (next_member members i x l e)

pub member_below : (table : List (List (Option ℕ))) (first marked : List Bool) (members : List ℕ) (i x : ℕ) → IsSearch (neighbours_of table) first marked (drop i members) →
    i < length members → x ≡ slice_index_or members i x → length marked ≡ length table → x < length table
member_below table first marked members i x s l e size = let m : x < length marked =
    turn_below (neighbours_of table) first x [] marked (drop (i + 1) members) (member_turn (neighbours_of table) first marked members i x s l e) in omega arith
