-- Each table has a list of components.
use Rattle.std.proofs.Common.{◌≡◌, ℕ, zero, suc, ◌+◌, ◌<◌, ◌≤◌, ◌⊎◌, inl, inr, ◌↔◌, List, [], ◌∷◌, ◌++◌, length, All, AllPairs, Contains, slice_index, slice_index_or, subst, sym, ap, refl, ◌∙◌, arith}
use Rattle.std.proofs.lemmas.Bool.{cases_lt, cases_eq}
use Rattle.std.proofs.lemmas.List.{get_or_default, get_or_append_left, length_push}
use Rattle.std.proofs.lemmas.List.Elements.{All-push, All-nil, All-contains, Contains-push, Contains-push_cases}
use Rattle.std.proofs.lemmas.List.Quantifiers.{all_pairs_push}
use Rattle.basic_lemmas.proofs.Members.{contains_at, Ascends, contains_nil}
use Rattle.table_definitions.specs.Table.{Row, IsTable}
use Rattle.table_definitions.specs.Places.{whole, SameComponent}
use Rattle.table_definitions.proofs.ChainLaws.{joined_refl, joins_back}
use Rattle.component_definitions.specs.Parts.{Part, rows_of, first_of, IsPart, AreParts}
use Rattle.component_laws.proofs.Numbers.{entry_of}
use Rattle.component_laws.proofs.Members.{joined_member}
use Rattle.cover_laws.proofs.Deciding.{decide_joined, all_or_one}

-- ---- one more element

contains_front : {X : Type 0} (xs : List X) (x y : X) → Contains xs y → Contains (xs ++ x ∷ []) y
contains_front xs x y h = let l : length (xs ++ x ∷ []) ≡ length xs + 1 = length_push xs x in (h.0, omega (arith, h.1, l), get_or_append_left xs (x ∷ []) y h.0 h.1 ∙ h.2)

module _ (rows : List Row) (table : IsTable rows) where
  -- the numbers below j of the tetrahedra joined to k
  record Joined (k j : ℕ) : Type 0 where
    numbers : List ℕ
    ascending : Ascends numbers
    members : (t : ℕ) → Contains numbers t ↔ ((t < j) × SameComponent rows k t)

  joined : (k j : ℕ) → Joined k j
  joined k zero = record { numbers = []; ascending = λ a b d less l. absurd (omega arith); members = λ t. (λ c. absurd (contains_nil t c), λ h. absurd (omega (arith, h.0))) }
  joined k (suc j) = more (joined k j)
    where
      more : Joined k j → Joined k (suc j)
      more before = elim (decide_joined rows table k j) [
        | inl here ↦ record {
          numbers = before.numbers ++ j ∷ [];
          ascending = all_pairs_push (λ a b. a < b) before.numbers j before.ascending (λ i d l. ((before.members (slice_index_or before.numbers i d)).0 (i, l, get_or_default before.numbers i (slice_index_or before.numbers i d) d l)).0);
          members = λ t. (
            λ c. elim (Contains-push_cases before.numbers j t c) [
              | inl d ↦ let h = (before.members t).0 d in let l : t < j = h.0 in (omega arith, h.1)
              | inr e ↦ (omega arith, subst (SameComponent rows k) e here)
            ],
            λ h. elim (cases_lt t j) [
              | inl l ↦ contains_front before.numbers j t ((before.members t).1 (l, h.1))
              | inr exceeded ↦ let l : t < suc j = h.0 in let e : j ≡ t = omega arith in subst (Contains (before.numbers ++ j ∷ [])) e (Contains-push before.numbers j)
            ],
          );
        }
        | inr never ↦ record {
          numbers = before.numbers;
          ascending = before.ascending;
          members = λ t. (
            λ c. let h = (before.members t).0 c in let l : t < j = h.0 in (omega arith, h.1),
            λ h. elim (cases_lt t j) [
              | inl l ↦ (before.members t).1 (l, h.1)
              | inr exceeded ↦ let l : t < suc j = h.0 in let e : t ≡ j = omega arith in absurd (never (subst (SameComponent rows k) e h.1))
            ],
          );
        }
      ]

  -- ---- the component whose least tetrahedron is k

  module _ (k : ℕ) (l : k < length rows) (first : (u : ℕ) → u < k → SameComponent rows u k → ⊥) where
    all : Joined k (length rows)
    all = joined k (length rows)

    part : Part
    part = record { rows = rows_of rows all.numbers; numbers = all.numbers }

    k_in : Contains all.numbers k
    k_in = (all.members k).1 (l, joined_refl rows (whole k))

    some : 0 < length all.numbers
    some = let m : k_in.0 < length all.numbers = k_in.1 in omega arith

    part_first : first_of part ≡ k
    unfolding part
    part_first = elim (cases_eq k_in.0 0) [
      | inl z ↦ ap (slice_index all.numbers) (sym z) ∙ entry_of all.numbers k k_in
      | inr n ↦
          let a : slice_index all.numbers 0 < slice_index all.numbers k_in.0 = all.ascending 0 k_in.0 0 (omega arith) k_in.1 in
          let b : slice_index all.numbers k_in.0 ≡ k = entry_of all.numbers k k_in in
          let h = (all.members (slice_index all.numbers 0)).0 (contains_at all.numbers 0 (slice_index all.numbers 0) some refl) in
          absurd (first (slice_index all.numbers 0) (omega arith) (joins_back rows k (slice_index all.numbers 0) table h.1))
    ]

    part_is_one : IsPart rows part
    unfolding part part_first
    part_is_one = record {
      some = some;
      ascending = all.ascending;
      members = λ t. (λ c. let h = (all.members t).0 c in (h.0, subst (λ f. SameComponent rows f t) (sym part_first) h.1), λ h. (all.members t).1 (h.0, subst (λ f. SameComponent rows f t) part_first h.1));
      renumbers = refl;
    }

    part_holds : Contains part.numbers k
    unfolding part
    part_holds = k_in

  -- ---- the components whose least tetrahedron is below k

  record UpTo (k : ℕ) : Type 0 where
    parts : List Part
    each : All (IsPart rows) parts
    firsts : All (λ (p : Part). first_of p < k) parts
    ascending : AllPairs (λ (p later : Part). first_of p < first_of later) parts
    holds : (t : ℕ) → t < k → (p : Part) × Contains parts p × Contains p.numbers t

  part_of : (k : ℕ) (before : UpTo k) (p : Part) → Contains before.parts p → IsPart rows p
  part_of k before p c = All-contains (IsPart rows) before.parts p before.each c

  -- k is in a component of the list
  keep : (k : ℕ) → k < length rows → (before : UpTo k) (u : ℕ) → u < k → SameComponent rows u k → UpTo (suc k)
  keep k l before u less j = record {
    parts = before.parts;
    each = before.each;
    firsts = λ i d m. let f : first_of (slice_index_or before.parts i d) < k = before.firsts i d m in omega arith;
    ascending = before.ascending;
    holds = λ t m. elim (cases_lt t k) [
      | inl earlier ↦ before.holds t earlier
      | inr exceeded ↦ let e : k ≡ t = omega arith in let p = before.holds u less in
          (p.0, p.1, subst (Contains p.0.numbers) e (joined_member rows table p.0 (part_of k before p.0 p.1) u k p.2 j l))
    ];
  }

  -- k is the least tetrahedron of a new component
  add : (k : ℕ) → k < length rows → UpTo k → ((u : ℕ) → u < k → SameComponent rows u k → ⊥) → UpTo (suc k)
  add k l before first = record {
    parts = before.parts ++ new ∷ [];
    each = All-push (IsPart rows) before.parts new before.each (part_is_one k l first);
    firsts = All-push (λ (p : Part). first_of p < suc k) before.parts new (λ i d m. let f : first_of (slice_index_or before.parts i d) < k = before.firsts i d m in omega arith)
        (let f : first_of new ≡ k = part_first k l first in omega arith);
    ascending = all_pairs_push (λ (p later : Part). first_of p < first_of later) before.parts new before.ascending
        (λ i d m. let f : first_of (slice_index_or before.parts i d) < k = before.firsts i d m in let g : first_of new ≡ k = part_first k l first in omega arith);
    holds = λ t m. elim (cases_lt t k) [
      | inl earlier ↦ let p = before.holds t earlier in (p.0, contains_front before.parts new p.0 p.1, p.2)
      | inr exceeded ↦ let e : k ≡ t = omega arith in (new, Contains-push before.parts new, subst (Contains new.numbers) e (part_holds k l first))
    ];
  }
    where
      new : Part
      new = part k l first

  step : (k : ℕ) → k < length rows → UpTo k → UpTo (suc k)
  step k l before = elim (all_or_one (λ u. u < k → SameComponent rows u k → ⊥) Earlier decide k) [
    | inl none ↦ add k l before (λ u less. none u less less)
    | inr one ↦ keep k l before one.0 one.1.0 one.1.1
  ]
    where
      Earlier : ℕ → Type 0
      Earlier u = (u < k) × SameComponent rows u k

      decide : (u : ℕ) → (u < k → SameComponent rows u k → ⊥) ⊎ Earlier u
      decide u = elim (cases_lt u k) [
        | inr exceeded ↦ inl (λ less. absurd (omega arith))
        | inl less ↦ elim (decide_joined rows table u k) [ inl j ↦ inr (less, j) | inr never ↦ inl (λ _. never) ]
      ]

  up_to : (k : ℕ) → k ≤ length rows → UpTo k
  up_to zero l = record { parts = []; each = All-nil (IsPart rows); firsts = All-nil (λ (p : Part). first_of p < 0); ascending = λ i j d less m. absurd (omega arith); holds = λ t m. absurd (omega arith) }
  up_to (suc k) l = step k (omega arith) (up_to k (omega arith))

  pub some_parts : (parts : List Part) × AreParts rows parts
  some_parts = let all = up_to (length rows) (omega arith) in (all.parts, record { each = all.each; ascending = all.ascending; whole = all.holds })
