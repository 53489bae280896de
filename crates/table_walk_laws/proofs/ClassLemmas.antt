-- Classes, component by component.
use Rattle.std.proofs.Common.{◌≡◌, ℕ, suc, ◌+◌, ◌<◌, ◌≤◌, ◌⊎◌, ◌↔◌, inl, inr, List, length, slice_index, Bool, false, All, Contains, replicate, set, take, refl, sym, ap, subst, subst₂, ◌∙◌, arith}
use Rattle.std.proofs.lemmas.Bool.{cases_order, cases_lt, cases_eq, false≢true}
use Rattle.std.proofs.lemmas.List.{get_or-set_same, get_or-set_other, take_more}
use Rattle.std.proofs.lemmas.List.Elements.{Contains-push_cases, All-from_get_or}
use Rattle.basic_lemmas.proofs.Members.{contains_at}
use Rattle.table_walk_laws.specs.Joined.{IsJoined, IsSymmetric}
use Rattle.table_walk_laws.specs.Search.{IsMarked, IsComponent}
use Rattle.table_walk_laws.specs.Classes.{AreNumbered, AreClassesUpTo}
use Rattle.table_definitions.specs.Classes.{IsNumbering}
use Rattle.table_walk_laws.proofs.Joins.{joins_like_equals}
use Rattle.table_walk_laws.proofs.SearchLemmas.{none_marked, none_is_closed, marked_below, closed_holds_joined}

module _ (neighbours : ℕ → List ℕ) where
  pub classes_start : (n : ℕ) → AreClassesUpTo neighbours 0 0 (replicate n false) (replicate n 0)
  classes_start n = record {
    closed = none_is_closed neighbours n;
    seen = λ x l. absurd (omega arith);
    below = λ x m. absurd (false≢true (sym (none_marked n x) ∙ m));
    used = λ k l. absurd (omega arith);
    same = λ x y m _. absurd (false≢true (sym (none_marked n x) ∙ m));
    order = λ x k m _. absurd (false≢true (sym (none_marked n x) ∙ m));
  }

  module _ (i count : ℕ) (before : List Bool) (classes : List ℕ) (h : AreClassesUpTo neighbours i count before classes) where
    pub classes_pass : IsMarked before i → AreClassesUpTo neighbours (suc i) count before classes
    classes_pass m = record {
      closed = h.closed;
      seen = λ x l. elim (cases_order x i) [ inl e ↦ subst (IsMarked before) (sym e) m | inr (inl less) ↦ h.seen x less | inr (inr more) ↦ absurd (omega arith) ];
      below = h.below;
      used = λ k l. let u = h.used k l in let less : u.0 < i = u.1 in let next : u.0 < suc i = omega arith in (u.0, next, u.2);
      same = h.same;
      order = h.order;
    }

    module _ (marked : List Bool) (members : List ℕ) (after : List ℕ) (turn : IsSymmetric neighbours) (c : IsComponent neighbours i before marked members) (num : AreNumbered members count classes after) where
      -- what was marked is not a member, and keeps its class
      not_both : (x : ℕ) → IsMarked before x → Contains members x → ⊥
      not_both x m k = false≢true (sym (c.new x k) ∙ m)

      keeps : (x : ℕ) → IsMarked before x → slice_index after x ≡ slice_index classes x
      keeps x m = num.others x (not_both x m)

      keeps_below : (x : ℕ) → IsMarked before x → slice_index after x < count
      keeps_below x m = let e : slice_index after x ≡ slice_index classes x = keeps x m in let l : slice_index classes x < count = h.below x m in omega arith

      here : Contains members i
      here = (c.exactly i).1 ((joins_like_equals neighbours).itself i)

      not_earlier : (x : ℕ) → Contains members x → i ≤ x
      not_earlier x k = elim (cases_lt x i) [ inl l ↦ absurd (not_both x (h.seen x l) k) | inr l ↦ l ]

      -- an earlier number of each class below the count
      earlier : (class : ℕ) → class < count → (y : ℕ) × (y < i) × (slice_index after y ≡ class)
      earlier class l = let u = h.used class l in (u.0, u.1, keeps u.0 (h.seen u.0 u.1) ∙ u.2)

      same_now : (x y : ℕ) → IsMarked before x ⊎ Contains members x → IsMarked before y ⊎ Contains members y → (slice_index after x ≡ slice_index after y) ↔ IsJoined neighbours x y
      same_now x y (inl p) (inl q) = (λ e. (h.same x y p q).0 (sym (keeps x p) ∙ e ∙ keeps y q), λ j. keeps x p ∙ (h.same x y p q).1 j ∙ sym (keeps y q))
      same_now x y (inl p) (inr q) = (
        λ e. absurd (let l : slice_index after x < count = keeps_below x p in let f : slice_index after y ≡ count = num.numbered y q in omega arith),
        λ j. absurd (not_both y (closed_holds_joined neighbours x before p h.closed y j) q),
      )
      same_now x y (inr p) (inl q) = (
        λ e. absurd (let l : slice_index after y < count = keeps_below y q in let f : slice_index after x ≡ count = num.numbered x p in omega arith),
        λ j. absurd (not_both x (closed_holds_joined neighbours y before q h.closed x ((joins_like_equals neighbours).back turn x y j)) p),
      )
      same_now x y (inr p) (inr q) = (
        λ e. (joins_like_equals neighbours).onward x i y ((joins_like_equals neighbours).back turn i x ((c.exactly x).0 p)) ((c.exactly y).0 q),
        λ j. num.numbered x p ∙ sym (num.numbered y q),
      )

      order_now : (x class : ℕ) → IsMarked before x ⊎ Contains members x → class < slice_index after x → (y : ℕ) × (y < x) × IsMarked marked y × (slice_index after y ≡ class)
      order_now x class (inl p) less = let e : slice_index after x ≡ slice_index classes x = keeps x p in let o = h.order x class p (omega arith) in
          (o.0, o.1, (c.marks o.0).1 (inl o.2), keeps o.0 o.2 ∙ o.3)
      order_now x class (inr p) less = let f : slice_index after x ≡ count = num.numbered x p in let u = earlier class (omega arith) in
          let l : u.0 < i = u.1 in let m : i ≤ x = not_earlier x p in let n : u.0 < x = omega arith in (u.0, n, (c.marks u.0).1 (inl (h.seen u.0 l)), u.2)

      pub classes_grow : AreClassesUpTo neighbours (suc i) (suc count) marked after
      classes_grow = record {
        closed = c.closed;
        seen = λ x l. (c.marks x).1 (elim (cases_order x i) [
          | inl e ↦ inr (subst (Contains members) (sym e) here)
          | inr (inl less) ↦ inl (h.seen x less)
          | inr (inr more) ↦ absurd (omega arith)
        ]);
        below = λ x m. elim ((c.marks x).0 m) [
          | inl p ↦ let l : slice_index after x < count = keeps_below x p in omega arith
          | inr k ↦ let e : slice_index after x ≡ count = num.numbered x k in omega arith
        ];
        used = λ k l. elim (cases_order k count) [
          | inl e ↦ let n : i < suc i = omega arith in (i, n, num.numbered i here ∙ sym e)
          | inr (inl less) ↦ let u = earlier k less in let l : u.0 < i = u.1 in let n : u.0 < suc i = omega arith in (u.0, n, u.2)
          | inr (inr more) ↦ absurd (omega arith)
        ];
        same = λ x y p q. same_now x y ((c.marks x).0 p) ((c.marks y).0 q);
        order = λ x k p less. order_now x k ((c.marks x).0 p) less;
      }

  pub same_up_to : (i count : ℕ) (marked : List Bool) (classes : List ℕ) (i' count' : ℕ) (marked' : List Bool) (classes' : List ℕ) →
      i' ≡ i → count' ≡ count → marked' ≡ marked → classes' ≡ classes → AreClassesUpTo neighbours i count marked classes → AreClassesUpTo neighbours i' count' marked' classes'
  same_up_to i count marked classes i' count' marked' classes' ei ec em es h = subst₂ (λ (a b : ℕ). AreClassesUpTo neighbours a b marked' classes') (sym ei) (sym ec)
      (subst₂ (AreClassesUpTo neighbours i count) (sym em) (sym es) h)

  pub classes_end : (n count : ℕ) (marked : List Bool) (classes : List ℕ) → AreClassesUpTo neighbours n count marked classes → length classes ≡ n → IsNumbering n (IsJoined neighbours) classes count
  classes_end n count marked classes h size = record {
    one_each = size;
    in_range = λ x l. h.below x (h.seen x l);
    together = λ x y l m. h.same x y (h.seen x l) (h.seen y m);
    ascending = λ x k l less. let o = h.order x k (h.seen x l) less in (o.0, o.1, o.3);
    none_empty = h.used;
  }

-- one more member has the class
pub numbered_more : (members classes : List ℕ) (class i : ℕ) → i < length members → slice_index members i < length classes →
    ((x : ℕ) → Contains (take i members) x → slice_index classes x ≡ class) →
    (x : ℕ) → Contains (take (i + 1) members) x → slice_index (set classes (slice_index members i) class) x ≡ class
numbered_more members classes class i l m h x k = elim (cases_eq x (slice_index members i)) [
  | inl e ↦ ap (slice_index (set classes (slice_index members i) class)) e ∙ get_or-set_same classes (slice_index members i) class 0 m
  | inr ne ↦ get_or-set_other classes (slice_index members i) x class 0 ne ∙ elim (Contains-push_cases (take i members) (slice_index members i) x (subst (λ xs. Contains xs x) (take_more members i 0 l) k)) [
    | inl old ↦ h x old
    | inr e ↦ absurd (ne (sym e))
  ]
]

-- the class of a number that is not a member does not change
pub others_kept : (members classes : List ℕ) (class i : ℕ) → i < length members → (x : ℕ) → ¬ Contains members x → slice_index (set classes (slice_index members i) class) x ≡ slice_index classes x
others_kept members classes class i l x none = get_or-set_other classes (slice_index members i) x class 0 (λ e. none (contains_at members i x l (sym e)))

-- members are below the length of the marks
pub members_below : (neighbours : ℕ → List ℕ) (start : ℕ) (before marked : List Bool) (members : List ℕ) → IsComponent neighbours start before marked members → All (λ x. x < length marked) members
members_below neighbours start before marked members c = All-from_get_or (λ x. x < length marked) members 0
    (λ k l. marked_below marked (slice_index members k) ((c.marks (slice_index members k)).1 (inr (contains_at members k (slice_index members k) l refl))))
