-- How marks are added across faces: none, one tetrahedron, and those across one set of faces after another.
use Rattle.std.proofs.Common.{◌≡◌, ℕ, ◌+◌, ◌<◌, ◌≤◌, ◌⊎◌, inl, inr, true, false, List, [], ◌∷◌, ◌++◌, length, Option, Some, None, count_by, set, take, Contains, subst, sym, ap, refl, ◌∙◌, arith, append-nil, append_assoc, length-append}
use Rattle.std.specs.Prelude.{is_none, is_some, cond, slice_index}
use Rattle.std.proofs.lemmas.Bool.{cases_lt, cases_eq}
use Rattle.std.proofs.lemmas.List.{get_or-set_same, get_or-set_other, length-set, take_more}
use Rattle.std.proofs.lemmas.List.Elements.{Contains-append_left, Contains-append_right, Contains-append_cases, Contains-push, Contains-push_cases}
use Rattle.std.proofs.lemmas.List.Sums.{sum_by-set}
use Rattle.basic_lemmas.proofs.Members.{contains_one, contains_nil}
use Rattle.basic_lemmas.proofs.Options.{none_or_some}
use Rattle.table_definitions.specs.Table.{Gluing, Row, Face, IsTable, glue}
use Rattle.table_definitions.proofs.TableLaws.{glued_face}
use Rattle.table_definitions.proofs.Faces.{face_at}
use Rattle.edge_group.specs.Searches.{mark_of, unmarked, IsGrown, HasGrown, IsFace, IsFaceBelow, IsFaceOf, IsFaceOfSome}

-- marks are retained, so a tetrahedron without a mark had none before
unmarked_before : (old new : List (Option ℕ)) (t : ℕ) → ((j : ℕ) → mark_of old t ≡ Some j → mark_of new t ≡ Some j) → mark_of new t ≡ None → mark_of old t ≡ None
unmarked_before old new t kept none = elim (none_or_some (mark_of old t)) [
  | inl e ↦ e
  | inr some ↦ absurd (let z : None ≡ Some some.0 = sym none ∙ kept some.0 some.1 in cc)
]

module _ (rows : List Row) where
  -- ---- if each tetrahedron across a set of faces has a mark, none is added
  pub nothing_grown : (P : Face → Type 0) (d : ℕ) (marks : List (Option ℕ)) → ((x : Face) (g : Gluing) → P x → glue rows x ≡ Some g → (j : ℕ) × (mark_of marks g.tet ≡ Some j)) → IsGrown rows P d marks marks []
  nothing_grown P d marks all = record {
    one_each = refl;
    kept = λ t j e. e;
    marked = λ t j e. inl e;
    fresh = λ t h. absurd (contains_nil t h);
    all = all;
    count = omega arith;
  }

  -- ---- one face that is glued to a tetrahedron without a mark
  pub one_grown : (x : Face) (g : Gluing) (d : ℕ) (old new : List (Option ℕ)) → glue rows x ≡ Some g → g.tet < length old → mark_of old g.tet ≡ None → new ≡ set old g.tet (Some d) → IsGrown rows (IsFace x) d old new (g.tet ∷ [])
  one_grown x g d old new glued l none e = record {
    one_each = ap length e ∙ length-set old g.tet (Some d);
    kept = λ t j f. elim (cases_eq t g.tet) [
      | inl same ↦ absurd (let z : None ≡ Some j = sym none ∙ ap (mark_of old) (sym same) ∙ f in cc)
      | inr other ↦ at_other t other ∙ f
    ];
    marked = λ t j f. elim (cases_eq t g.tet) [
      | inl same ↦ let z : Some d ≡ Some j = sym here ∙ ap (mark_of new) (sym same) ∙ f in let w : d ≡ j = cc in inr ((0, omega arith, sym same), sym w)
      | inr other ↦ inl (sym (at_other t other) ∙ f)
    ];
    fresh = λ t h. let same : t ≡ g.tet = contains_one g.tet t h in
        (ap (mark_of old) same ∙ none, ap (mark_of new) same ∙ here, record { face = x; crossed = refl; gluing = g; glued = glued; to = sym same });
    all = λ y k is f. let z : Some k ≡ Some g = sym f ∙ ap (glue rows) is ∙ glued in let w : k ≡ g = cc in (d, ap (λ (b : Gluing). mark_of new b.tet) w ∙ here);
    count = ap (λ n. n + 1) (ap unmarked e) ∙ one_less;
  }
    where
      here : mark_of new g.tet ≡ Some d
      here = ap (λ (ms : List (Option ℕ)). mark_of ms g.tet) e ∙ get_or-set_same old g.tet (Some d) None l

      at_other : (t : ℕ) → (t ≡ g.tet → ⊥) → mark_of new t ≡ mark_of old t
      at_other t other = ap (λ (ms : List (Option ℕ)). mark_of ms t) e ∙ get_or-set_other old g.tet t (Some d) None other

      one_less : unmarked (set old g.tet (Some d)) + 1 ≡ unmarked old
      one_less =
          let f : Option ℕ → ℕ = λ o. cond (is_none o) 1 0 in
          let a : count_by is_none (set old g.tet (Some d)) + f (mark_of old g.tet) ≡ count_by is_none old + 0 = sum_by-set f old g.tet (Some d) None l in
          let b : f (mark_of old g.tet) ≡ 1 = ap f none in omega arith

  -- ---- two sets, one after the other
  pub grown_on : (P Q : Face → Type 0) (d : ℕ) (old mid new : List (Option ℕ)) (first then : List ℕ) → IsGrown rows P d old mid first → IsGrown rows Q d mid new then → IsGrown rows (λ x. P x ⊎ Q x) d old new (first ++ then)
  grown_on P Q d old mid new first then a b = record {
    one_each = b.one_each ∙ a.one_each;
    kept = λ t j e. b.kept t j (a.kept t j e);
    marked = λ t j e. elim (b.marked t j e) [
      | inr h ↦ inr (Contains-append_right first then t h.0, h.1)
      | inl f ↦ elim (a.marked t j f) [ inl g ↦ inl g | inr h ↦ inr (Contains-append_left first then t h.0, h.1) ]
    ];
    fresh = λ t h. elim (Contains-append_cases first then t h) [
      | inl c ↦ let f = a.fresh t c in (f.0, b.kept t d f.1, record { face = f.2.face; crossed = inl f.2.crossed; gluing = f.2.gluing; glued = f.2.glued; to = f.2.to })
      | inr c ↦ let f = b.fresh t c in (unmarked_before old mid t (a.kept t) f.0, f.1, record { face = f.2.face; crossed = inr f.2.crossed; gluing = f.2.gluing; glued = f.2.glued; to = f.2.to })
    ];
    all = λ x g h e. elim h [
      | inl p ↦ let m = a.all x g p e in (m.0, b.kept g.tet m.0 m.1)
      | inr q ↦ b.all x g q e
    ];
    count = let c : unmarked mid + length first ≡ unmarked old = a.count in let e : unmarked new + length then ≡ unmarked mid = b.count in omega (arith, length-append first then);
  }

  -- ---- another set with the same glued faces
  pub grown_as : (P Q : Face → Type 0) (d : ℕ) (old new : List (Option ℕ)) (added : List ℕ) → ((x : Face) → P x → Q x) → ((x : Face) (g : Gluing) → glue rows x ≡ Some g → Q x → P x)
      → IsGrown rows P d old new added → IsGrown rows Q d old new added
  grown_as P Q d old new added into back a = record {
    one_each = a.one_each;
    kept = a.kept;
    marked = a.marked;
    fresh = λ t h. let f = a.fresh t h in (f.0, f.1, record { face = f.2.face; crossed = into f.2.face f.2.crossed; gluing = f.2.gluing; glued = f.2.glued; to = f.2.to });
    all = λ x g q e. a.all x g (back x g e q) e;
    count = a.count;
  }

  -- ---- additions to a list that is not empty
  pub has_nothing : (P : Face → Type 0) (d : ℕ) (marks : List (Option ℕ)) (pending : List ℕ) → ((x : Face) (g : Gluing) → P x → glue rows x ≡ Some g → (j : ℕ) × (mark_of marks g.tet ≡ Some j)) → HasGrown rows P d marks marks pending pending
  has_nothing P d marks pending all = record { added = []; appended = sym (append-nil pending); grown = nothing_grown P d marks all }

  pub has_grown_on : (P Q R : Face → Type 0) (d : ℕ) (old mid new : List (Option ℕ)) (pending next last : List ℕ) → ((x : Face) → P x ⊎ Q x → R x) → ((x : Face) (g : Gluing) → glue rows x ≡ Some g → R x → P x ⊎ Q x)
      → HasGrown rows P d old mid pending next → HasGrown rows Q d mid new next last → HasGrown rows R d old new pending last
  has_grown_on P Q R d old mid new pending next last into back a b = record {
    added = a.added ++ b.added;
    appended = b.appended ∙ ap (λ (xs : List ℕ). xs ++ b.added) a.appended ∙ append_assoc pending a.added b.added;
    grown = grown_as (λ x. P x ⊎ Q x) R d old new (a.added ++ b.added) into back (grown_on P Q d old mid new a.added b.added a.grown b.grown);
  }

  -- ---- one face, as the code reads it
  some_of : {A : Type 0} (o : Option A) → true ≡ is_some o → (x : A) × (o ≡ Some x)
  some_of None e = absurd (let z : false ≡ true = sym e in cc)
  some_of (Some x) e = (x, refl)

  none_of : {A : Type 0} (o : Option A) → false ≡ is_some o → o ≡ None
  none_of None e = refl
  none_of (Some x) e = absurd (let z : false ≡ true = e in cc)

  pub face_passes : (x : Face) (g : Gluing) (t d : ℕ) (marks : List (Option ℕ)) (pending : List ℕ) → Some g ≡ glue rows x → t ≡ g.tet → true ≡ is_some (mark_of marks t) → HasGrown rows (IsFace x) d marks marks pending pending
  face_passes x g t d marks pending e f m = has_nothing (IsFace x) d marks pending (λ y k same h.
      let z : Some k ≡ Some g = sym h ∙ ap (glue rows) same ∙ sym e in
      let w : k ≡ g = cc in
      let some = some_of (mark_of marks t) m in (some.0, ap (mark_of marks) (ap (λ (b : Gluing). b.tet) w ∙ sym f) ∙ some.1))

  pub face_grows : (x : Face) (g : Gluing) (t d : ℕ) (old new : List (Option ℕ)) (pending next : List ℕ) → Some g ≡ glue rows x → t ≡ g.tet → g.tet < length old → false ≡ is_some (mark_of old t)
      → new ≡ set old t (Some d) → next ≡ pending ++ t ∷ [] → HasGrown rows (IsFace x) d old new pending next
  face_grows x g t d old new pending next e f l m n k = record {
    added = g.tet ∷ [];
    appended = k ∙ ap (λ u. pending ++ u ∷ []) f;
    grown = one_grown x g d old new (sym e) l (ap (mark_of old) (sym f) ∙ none_of (mark_of old t) m) (n ∙ ap (λ u. set old u (Some d)) f);
  }

  -- ---- the faces of one tetrahedron
  pub faces_more : (t f d : ℕ) (old mid new : List (Option ℕ)) (pending next last : List ℕ) → HasGrown rows (IsFaceBelow t f) d old mid pending next → HasGrown rows (IsFace (face_at t f)) d mid new next last → HasGrown rows (IsFaceBelow t (f + 1)) d old new pending last
  faces_more t f d old mid new pending next last a b = has_grown_on (IsFaceBelow t f) (IsFace (face_at t f)) (IsFaceBelow t (f + 1)) d old mid new pending next last into back a b
    where
      into : (x : Face) → IsFaceBelow t f x ⊎ IsFace (face_at t f) x → IsFaceBelow t (f + 1) x
      into x (inl h) = (h.0, let l : x.face < f = h.1 in omega arith)
      into x (inr e) = (ap (λ (y : Face). y.tet) e, let l : x.face ≡ f = ap (λ (y : Face). y.face) e in omega arith)

      back : (x : Face) (g : Gluing) → glue rows x ≡ Some g → IsFaceBelow t (f + 1) x → IsFaceBelow t f x ⊎ IsFace (face_at t f) x
      back x g e h = elim (cases_lt x.face f) [
        | inl less ↦ inl (h.0, less)
        | inr more ↦ let l : x.face < f + 1 = h.1 in let same : x.face ≡ f = omega arith in inr (λ i. record { tet = h.0 i; face = same i })
      ]

  pub faces_all : (t f d : ℕ) (old new : List (Option ℕ)) (pending next : List ℕ) → IsTable rows → 4 ≤ f → HasGrown rows (IsFaceBelow t f) d old new pending next → HasGrown rows (IsFaceOf t) d old new pending next
  faces_all t f d old new pending next table l a = record {
    added = a.added;
    appended = a.appended;
    grown = grown_as (IsFaceBelow t f) (IsFaceOf t) d old new a.added (λ x h. h.0) (λ x g e h. (h, let m : x.face < 4 = glued_face rows x g table.four_faces e in omega arith)) a.grown;
  }

  -- ---- the tetrahedra of a level
  pub tets_more : (level : List ℕ) (i d : ℕ) (old mid new : List (Option ℕ)) (pending next last : List ℕ) → i < length level → HasGrown rows (IsFaceOfSome (take i level)) d old mid pending next
      → HasGrown rows (IsFaceOf (slice_index level i)) d mid new next last → HasGrown rows (IsFaceOfSome (take (i + 1) level)) d old new pending last
  tets_more level i d old mid new pending next last l a b =
      has_grown_on (IsFaceOfSome (take i level)) (IsFaceOf (slice_index level i)) (IsFaceOfSome (take (i + 1) level)) d old mid new pending next last into back a b
    where
      into : (x : Face) → IsFaceOfSome (take i level) x ⊎ IsFaceOf (slice_index level i) x → IsFaceOfSome (take (i + 1) level) x
      into x h = subst (λ (ts : List ℕ). Contains ts x.tet) (sym (take_more level i 0 l)) (inside h)
        where
          inside : Contains (take i level) x.tet ⊎ (x.tet ≡ slice_index level i) → Contains (take i level ++ slice_index level i ∷ []) x.tet
          inside (inl c) = Contains-append_left (take i level) (slice_index level i ∷ []) x.tet c
          inside (inr e) = subst (Contains (take i level ++ slice_index level i ∷ [])) (sym e) (Contains-push (take i level) (slice_index level i))

      back : (x : Face) (g : Gluing) → glue rows x ≡ Some g → IsFaceOfSome (take (i + 1) level) x → IsFaceOfSome (take i level) x ⊎ IsFaceOf (slice_index level i) x
      back x g e c = elim (Contains-push_cases (take i level) (slice_index level i) x.tet (subst (λ (ts : List ℕ). Contains ts x.tet) (take_more level i 0 l) c)) [
        | inl h ↦ inl h
        | inr h ↦ inr (sym h)
      ]
