-- A search, step by step.
use Rattle.std.proofs.Common.{◌≡◌, ◌≢◌, ℕ, zero, suc, ◌+◌, ◌*◌, ◌<◌, ◌⊎◌, ◌↔◌, inl, inr, List, [], ◌∷◌, ◌++◌, length, slice_index, Bool, true, false, not, cond, All, AllPairs, Contains, replicate, set, count_by, refl, sym, ap, subst, ◌∙◌, arith}
use Rattle.std.specs.List.{slice_index_or}
use Rattle.std.proofs.lemmas.Bool.{cases_eq, cases_lt, false≢true, false_from_ne_true}
use Rattle.std.proofs.lemmas.List.{get_or-set_same, get_or-set_other, get_or-replicate, get_or_past, length_push, length-replicate, get_or_append_left, get_or_push, get_or_default}
use Rattle.std.proofs.lemmas.List.Sums.{sum_by-set}
use Rattle.std.proofs.lemmas.List.Folds.{sum_by-replicate}
use Rattle.std.proofs.lemmas.List.Elements.{All-contains, All-nil, All-push, All-weaker, All-same, Contains-append_left, Contains-push, Contains-push_cases}
use Rattle.std.proofs.lemmas.List.Quantifiers.{all_pairs_push}
use Rattle.basic_lemmas.proofs.Members.{contains_at, contains_one}
use Rattle.table_walk_laws.specs.Joined.{LeadsBy, IsJoined, IsSymmetric}
use Rattle.table_walk_laws.specs.Search.{IsMarked, IsClosed, IsSearch, IsSearchStep}
use Rattle.table_walk_laws.specs.Laws.{HasBoundedSteps, MarksJoined}
use Rattle.table_walk_laws.proofs.Places.{place_of}
use Rattle.table_walk_laws.proofs.Joins.{joined_more, joins_like_equals}

-- an entry of the marks
pub marked_is : (marked : List Bool) (y : ℕ) → y < length marked → IsMarked (set marked y true) y
marked_is marked y l = get_or-set_same marked y true false l

pub marked_below : (marked : List Bool) (x : ℕ) → IsMarked marked x → x < length marked
marked_below marked x m = elim (cases_lt x (length marked)) [
  | inl l ↦ l
  | inr exceeded ↦ absurd (false≢true (sym (get_or_past marked x false exceeded) ∙ m))
]

pub still_marked : (marked : List Bool) (y x : ℕ) → IsMarked marked x → IsMarked (set marked y true) x
still_marked marked y x m = elim (cases_eq x y) [
  | inl e ↦ elim (cases_lt y (length marked)) [
    | inl l ↦ subst (IsMarked (set marked y true)) (sym e) (marked_is marked y l)
    | inr exceeded ↦ absurd (false≢true (let q : slice_index_or marked x false ≡ false = get_or_past marked x false (omega arith) in sym q ∙ m))
  ]
  | inr ne ↦ get_or-set_other marked y x true false ne ∙ m
]

pub marked_cases : (marked : List Bool) (y x : ℕ) → IsMarked (set marked y true) x → (x ≡ y) ⊎ IsMarked marked x
marked_cases marked y x m = elim (cases_eq x y) [
  | inl e ↦ inl e
  | inr ne ↦ inr (sym (get_or-set_other marked y x true false ne) ∙ m)
]

pub none_marked : (n x : ℕ) → slice_index_or (replicate n false) x false ≡ false
none_marked n x = elim (cases_lt x n) [
  | inl l ↦ get_or-replicate n x false false l
  | inr exceeded ↦ get_or_past (replicate n false) x false (omega (arith, length-replicate n false))
]

in_front : (a : ℕ) (xs : List ℕ) (x : ℕ) → Contains xs x → Contains (a ∷ xs) x
in_front a xs x c = let p = place_of xs x c in let l : p.0 < length xs = p.1 in contains_at (a ∷ xs) (suc p.0) x (omega arith) p.2

front_cases : (a : ℕ) (xs : List ℕ) (x : ℕ) → Contains (a ∷ xs) x → (x ≡ a) ⊎ Contains xs x
front_cases a xs x c = let p = place_of (a ∷ xs) x c in go p.0 p.1 p.2
  where
    go : (k : ℕ) → k < length (a ∷ xs) → slice_index (a ∷ xs) k ≡ x → (x ≡ a) ⊎ Contains xs x
    go zero l e = inl (sym e)
    go (suc k) l e = inr (contains_at xs k x (omega arith) e)

module _ (neighbours : ℕ → List ℕ) where
  closed_holds_path : (marked : List Bool) → IsClosed neighbours marked → (x y : ℕ) (path : List ℕ) → LeadsBy (λ a b. Contains (neighbours a) b) x path y → IsMarked marked x → IsMarked marked y
  closed_holds_path marked closed x y [] e m = subst (IsMarked marked) e m
  closed_holds_path marked closed x y (z ∷ path) p m = closed_holds_path marked closed z y path p.1 (closed x z m p.0)

  pub closed_holds_joined : (start : ℕ) (marked : List Bool) → IsMarked marked start → IsClosed neighbours marked → (x : ℕ) → IsJoined neighbours start x → IsMarked marked x
  closed_holds_joined start marked m closed x p = closed_holds_path marked closed start x p.0 p.1 m

  pub none_is_closed : (n : ℕ) → IsClosed neighbours (replicate n false)
  none_is_closed n x y m c = absurd (false≢true (sym (none_marked n x) ∙ m))

  pub search_begins : (marked : List Bool) (start : ℕ) → IsClosed neighbours marked → start < length marked →
      IsSearch neighbours (set marked start true) (set marked start true) (start ∷ [])
  search_begins marked start closed l = record {
    kept = λ x m. m;
    joined = λ x m. (x, m, (joins_like_equals neighbours).itself x);
    pending_marked = λ x c. subst (IsMarked (set marked start true)) (sym (contains_one start x c)) (marked_is marked start l);
    pending_or_marked = λ x y m c. elim (marked_cases marked start x m) [
      | inl e ↦ inl (contains_at (start ∷ []) 0 x (omega arith) (sym e))
      | inr old ↦ inr (still_marked marked start y (closed x y old c))
    ];
    distinct = λ i j d less k. absurd (omega arith);
  }

  module _ (first : List Bool) (marked : List Bool) (pending : List ℕ) where
    search_takes : (x : ℕ) → IsSearch neighbours first marked (pending ++ x ∷ []) → IsSearch neighbours first marked (x ∷ pending)
    search_takes x s = record {
      kept = s.kept;
      joined = s.joined;
      pending_marked = λ y c. s.pending_marked y (elim (front_cases x pending y c) [
        | inl e ↦ subst (Contains (pending ++ x ∷ [])) (sym e) (Contains-push pending x)
        | inr old ↦ Contains-append_left pending (x ∷ []) y old
      ]);
      pending_or_marked = λ a b m c. elim (s.pending_or_marked a b m c) [
        | inr done ↦ inr done
        | inl held ↦ elim (Contains-push_cases pending x a held) [
          | inl old ↦ inl (in_front x pending a old)
          | inr e ↦ inl (contains_at (x ∷ pending) 0 a (omega arith) e)
        ]
      ];
      distinct = separate;
    }
      where
        separate : AllPairs (λ a b. a ≢ b) (x ∷ pending)
        separate i zero d less k = absurd (omega arith)
        separate zero (suc j) d less k = λ e. let l : j < length pending = omega arith in
            s.distinct j (length pending) d l (omega (arith, length_push pending x))
            (get_or_append_left pending (x ∷ []) d j l ∙ sym e ∙ sym (get_or_push pending x d (length pending) refl))
        separate (suc i) (suc j) d less k = λ e. let l : i < length pending = omega arith in let m : j < length pending = omega arith in
            s.distinct i j d (omega arith) (omega (arith, length_push pending x))
            (get_or_append_left pending (x ∷ []) d i l ∙ e ∙ sym (get_or_append_left pending (x ∷ []) d j m))

    search_marks : (x y : ℕ) → IsSearch neighbours first marked pending → Contains pending x → Contains (neighbours x) y → y < length marked →
        slice_index_or marked y false ≡ false → IsSearch neighbours first (set marked y true) (pending ++ y ∷ [])
    search_marks x y s held near l new = record {
      kept = λ a m. still_marked marked y a (s.kept a m);
      joined = λ a m. elim (marked_cases marked y a m) [
        | inl e ↦ let j = s.joined x (s.pending_marked x held) in (j.0, j.1, subst (IsJoined neighbours j.0) (sym e) (joined_more neighbours j.0 x y j.2 near))
        | inr old ↦ s.joined a old
      ];
      pending_marked = λ a c. elim (Contains-push_cases pending y a c) [
        | inl old ↦ still_marked marked y a (s.pending_marked a old)
        | inr e ↦ subst (IsMarked (set marked y true)) e (marked_is marked y l)
      ];
      pending_or_marked = λ a b m c. elim (marked_cases marked y a m) [
        | inl e ↦ inl (subst (Contains (pending ++ y ∷ [])) (sym e) (Contains-push pending y))
        | inr old ↦ elim (s.pending_or_marked a b old c) [
          | inl p ↦ inl (Contains-append_left pending (y ∷ []) a p)
          | inr done ↦ inr (still_marked marked y b done)
        ]
      ];
      distinct = all_pairs_push (λ a b. a ≢ b) pending y s.distinct
          (λ k d k_below e. false≢true (sym new ∙ s.pending_marked y (k, k_below, get_or_default pending k y d k_below ∙ e)));
    }

    search_leaves : (x : ℕ) → IsSearch neighbours first marked (x ∷ pending) → All (IsMarked marked) (neighbours x) → IsSearch neighbours first marked pending
    search_leaves x s done = record {
      kept = s.kept;
      joined = s.joined;
      pending_marked = λ a c. s.pending_marked a (in_front x pending a c);
      pending_or_marked = λ a b m c. elim (s.pending_or_marked a b m c) [
        | inr is ↦ inr is
        | inl held ↦ elim (front_cases x pending a held) [
          | inr old ↦ inl old
          | inl e ↦ inr (All-contains (IsMarked marked) (neighbours x) b done (subst (λ z. Contains (neighbours z) b) e c))
        ]
      ];
      distinct = λ i j d less k. s.distinct (suc i) (suc j) d (omega arith) (omega arith);
    }

  pub turn_starts : (first : List Bool) (x : ℕ) (marked : List Bool) (before pending : List ℕ) →
      IsSearch neighbours first marked before → before ≡ pending ++ x ∷ [] → IsSearchStep neighbours first x [] marked pending
  turn_starts first x marked before pending s e = record {
    search = search_takes first marked pending x (subst (IsSearch neighbours first marked) e s);
    done_marked = All-nil (IsMarked marked);
  }

  pub turn_starts_before : (first : List Bool) (x : ℕ) (marked : List Bool) (before pending : List ℕ) →
      IsSearch neighbours first marked before → before ≡ x ∷ pending → IsSearchStep neighbours first x [] marked pending
  turn_starts_before first x marked before pending s e = record { search = subst (IsSearch neighbours first marked) e s; done_marked = All-nil (IsMarked marked) }

  pub turn_marks : (first : List Bool) (x : ℕ) (done : List ℕ) (marked : List Bool) (pending : List ℕ) (y : ℕ) →
      IsSearchStep neighbours first x done marked pending → Contains (neighbours x) y → y < length marked → slice_index_or marked y false ≡ false →
      IsSearchStep neighbours first x (done ++ y ∷ []) (set marked y true) (pending ++ y ∷ [])
  turn_marks first x done marked pending y t near l new = record {
    search = search_marks first marked (x ∷ pending) x y t.search (contains_at (x ∷ pending) 0 x (omega arith) refl) near l new;
    done_marked = All-push (IsMarked (set marked y true)) done y
        (All-weaker (IsMarked marked) (IsMarked (set marked y true)) (still_marked marked y) done t.done_marked) (marked_is marked y l);
  }

  pub turn_passes : (first : List Bool) (x : ℕ) (done : List ℕ) (marked : List Bool) (pending : List ℕ) (y : ℕ) →
      IsSearchStep neighbours first x done marked pending → IsMarked marked y → IsSearchStep neighbours first x (done ++ y ∷ []) marked pending
  turn_passes first x done marked pending y t m = record { search = t.search; done_marked = All-push (IsMarked marked) done y t.done_marked m }

  pub turn_ends : (first : List Bool) (x : ℕ) (done : List ℕ) (marked : List Bool) (pending : List ℕ) →
      IsSearchStep neighbours first x done marked pending → neighbours x ≡ done → IsSearch neighbours first marked pending
  turn_ends first x done marked pending t e = search_leaves first marked pending x t.search (All-same (IsMarked marked) (neighbours x) done e t.done_marked)

  -- the number of the current step has a mark, so it is below the number of marks
  pub turn_below : (first : List Bool) (x : ℕ) (done : List ℕ) (marked : List Bool) (pending : List ℕ) → IsSearchStep neighbours first x done marked pending → x < length marked
  turn_below first x done marked pending t = marked_below marked x (t.search.pending_marked x (contains_at (x ∷ pending) 0 x (omega arith) refl))

  -- if nothing is pending, the marks are closed under neighbours
  search_closed : (first marked : List Bool) → IsSearch neighbours first marked [] → IsClosed neighbours marked
  search_closed first marked s a b m c = elim (s.pending_or_marked a b m c) [
    | inl held ↦ absurd (let l : held.0 < 0 = held.1 in omega arith)
    | inr done ↦ done
  ]

  pub search_ends : (first marked : List Bool) → IsSearch neighbours first marked [] → MarksJoined neighbours first marked
  search_ends first marked s = record {
    exactly = λ x. (s.joined x, λ j. closed_holds_joined j.0 marked (s.kept j.0 j.1) (search_closed first marked s) x j.2);
    closed = search_closed first marked s;
  }

  -- a search from one start marks exactly what is joined to it
  pub one_start_ends : (n start : ℕ) (marked : List Bool) → start < n → IsSearch neighbours (set (replicate n false) start true) marked [] →
      (x : ℕ) → IsMarked marked x ↔ IsJoined neighbours start x
  one_start_ends n start marked l s x = (
    λ m. let j = s.joined x m in elim (marked_cases (replicate n false) start j.0 j.1) [
      | inl e ↦ subst (λ a. IsJoined neighbours a x) e j.2
      | inr old ↦ absurd (false≢true (sym (none_marked n j.0) ∙ old))
    ],
    λ j. ((search_ends (set (replicate n false) start true) marked s).exactly x).1 (start, marked_is (replicate n false) start (omega (arith, length-replicate n false)), j),
  )

  pub new_start_is_apart : (marked : List Bool) → IsSymmetric neighbours → IsClosed neighbours marked →
      (start x : ℕ) → slice_index_or marked start false ≡ false → IsJoined neighbours start x → slice_index_or marked x false ≡ false
  new_start_is_apart marked turn closed start x new p = false_from_ne_true (slice_index_or marked x false)
      (λ m. false≢true (sym new ∙ closed_holds_joined x marked m closed start ((joins_like_equals neighbours).back turn start x p)))

-- after a mark, one number fewer is unmarked
unmarked_set : (marked : List Bool) (y : ℕ) → y < length marked → slice_index_or marked y false ≡ false → suc (count_by not (set marked y true)) ≡ count_by not marked
unmarked_set marked y l new = let f : Bool → ℕ = λ b. cond (not b) 1 0 in
    let a : count_by not (set marked y true) + f (slice_index_or marked y false) ≡ count_by not marked + 0 = sum_by-set f marked y true false l in
    let b : f (slice_index_or marked y false) ≡ 1 = ap f new in omega arith

pub has_few_turns : HasBoundedSteps
has_few_turns = record {
  first = λ n. let e : count_by not (replicate n false) ≡ n * 1 = sum_by-replicate (λ b. cond (not b) 1 0) n false in omega arith;
  mark = λ marked pending y l new. omega (arith, unmarked_set marked y l new, length_push pending y);
  take = λ marked pending x. omega (arith, length_push pending x);
}
