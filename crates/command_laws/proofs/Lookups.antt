-- Lists of names with values, with different names, in which a name is looked up.
use Rattle.std.proofs.Common.{◌≡◌, ◌≢◌, ◌<◌, ◌&&◌, ◌||◌, ℕ, Bool, true, false, not, zero, suc, inl, inr, refl, sym, ap, ◌∙◌, subst, List, [], ◌∷◌, length, Option, Some, None, cond, true≢false, arith}
use Rattle.std.specs.Prelude.{◌⊎◌, ⊤}
use Rattle.std.specs.List.{AllByRecursion, AllPairs, Contains, find, list_any, slice_index_or}
use Rattle.std.specs.Str.{bytes_eq}
use Rattle.std.proofs.lemmas.Bool.{and_parts, or_left, or_right, or_parts, not-true}
use Rattle.std.proofs.lemmas.List.Elements.{recursion_from_All}
use Rattle.std.proofs.lemmas.Slice.Eq.{bytes_eq-Decides}
use Rattle.basic_lemmas.proofs.Options.{some≢none}

abbrev pub Text : Type 0
Text = List ℕ

-- ---- members

module _ {X : Type 0} where
  abbrev pub Member : X → List X → Type 0
  Member x [] = ⊥
  Member x (y ∷ ys) = (y ≡ x) ⊎ Member x ys

  member_at : (xs : List X) (x : X) (k : ℕ) → k < length xs → slice_index_or xs k x ≡ x → Member x xs
  member_at [] x k h e = absurd (omega arith)
  member_at (y ∷ ys) x zero h e = inl e
  member_at (y ∷ ys) x (suc k) h e = inr (member_at ys x k (omega arith) e)

  pub member_of : (xs : List X) (x : X) → Contains xs x → Member x xs
  member_of xs x c = member_at xs x c.0 c.1 c.2

  pub contains_of : (xs : List X) (x : X) → Member x xs → Contains xs x
  contains_of [] x m = absurd m
  contains_of (y ∷ ys) x (inl e) = (zero, omega arith, e)
  contains_of (y ∷ ys) x (inr m) = let c : Contains ys x = contains_of ys x m in (suc c.0, omega (arith, c.1), c.2)

  pub all_member : (P : X → Type 0) (xs : List X) (x : X) → AllByRecursion P xs → Member x xs → P x
  all_member P [] x all m = absurd m
  all_member P (y ∷ ys) x all (inl e) = subst P e all.0
  all_member P (y ∷ ys) x all (inr m) = all_member P ys x all.1 m

-- ---- names in lists of names

pub same_name : (one other : Text) → bytes_eq one other ≡ true → one ≡ other
same_name one other = (bytes_eq-Decides one other).0

pub name_same : (one other : Text) → one ≡ other → bytes_eq one other ≡ true
name_same one other = (bytes_eq-Decides one other).1

pub other_name : (one other : Text) → bytes_eq one other ≡ false → one ≢ other
other_name one other e same = true≢false (sym (name_same one other same) ∙ e)

pub name_other : (one other : Text) → one ≢ other → bytes_eq one other ≡ false
name_other one other differ = go (bytes_eq one other) refl
  where
    go : (b : Bool) → bytes_eq one other ≡ b → b ≡ false
    go true e = absurd (differ (same_name one other e))
    go false e = refl

pub known_member : (names : List Text) (name : Text) → list_any (λ n. bytes_eq n name) names ≡ true → Member name names
known_member [] name e = absurd (true≢false (sym e))
known_member (n ∷ ns) name e = go (bytes_eq n name) refl e (known_member ns name)
  where
    go : (b : Bool) → bytes_eq n name ≡ b → (b || list_any (λ m. bytes_eq m name) ns) ≡ true → (list_any (λ m. bytes_eq m name) ns ≡ true → Member name ns) → Member name (n ∷ ns)
    go true t e h = inl (same_name n name t)
    go false t e h = inr (h e)

pub member_known : (names : List Text) (name : Text) → Member name names → list_any (λ n. bytes_eq n name) names ≡ true
member_known [] name m = absurd m
member_known (n ∷ ns) name (inl e) = or_left (bytes_eq n name) (list_any (λ m. bytes_eq m name) ns) (name_same n name e)
member_known (n ∷ ns) name (inr m) = or_right (bytes_eq n name) (list_any (λ m. bytes_eq m name) ns) (member_known ns name m)

-- ---- rows with names

module _ {A : Type 0} where
  abbrev pub row_of : Text → List (Text × A) → Option (Text × A)
  row_of name rows = find (λ row. bytes_eq row.0 name) rows

  abbrev pub Absent : Text → List (Text × A) → Type 0
  Absent name rows = AllByRecursion (λ row. row.0 ≢ name) rows

  abbrev pub Apart : List (Text × A) → Type 0
  Apart [] = ⊤
  Apart (row ∷ rows) = AllByRecursion (λ other. row.0 ≢ other.0) rows × Apart rows

  pub apart_of : (rows : List (Text × A)) → AllPairs (λ one other. one.0 ≢ other.0) rows → Apart rows
  apart_of [] pairs = tt
  apart_of (row ∷ rows) pairs = (
    recursion_from_All (λ (other : Text × A). row.0 ≢ other.0) rows (λ k d h. pairs zero (suc k) d (omega arith) (omega arith)),
    apart_of rows (λ i j d h k. pairs (suc i) (suc j) d (omega arith) (omega arith)),
  )

  pub absent_named : (name : Text) (rows : List (Text × A)) → Absent name rows → list_any (λ row. bytes_eq row.0 name) rows ≡ false
  absent_named name [] absent = refl
  absent_named name (row ∷ rows) absent = ap (λ b. b || list_any (λ (r : Text × A). bytes_eq r.0 name) rows) (name_other row.0 name absent.0) ∙ absent_named name rows absent.1

  pub named_absent : (name : Text) (rows : List (Text × A)) → list_any (λ row. bytes_eq row.0 name) rows ≡ false → Absent name rows
  named_absent name [] e = tt
  named_absent name (row ∷ rows) e =
      let parts = or_parts (bytes_eq row.0 name) (list_any (λ (r : Text × A). bytes_eq r.0 name) rows) e in
      (other_name row.0 name parts.0, named_absent name rows parts.1)

  pub row_found : (name : Text) (rows : List (Text × A)) (row : Text × A) → row_of name rows ≡ Some row → Member row rows × (row.0 ≡ name)
  row_found name [] row e = absurd (some≢none row (sym e))
  row_found name (r ∷ rows) row e = go (bytes_eq r.0 name) refl e (row_found name rows row)
    where
      go : (b : Bool) → bytes_eq r.0 name ≡ b → cond b (Some r) (row_of name rows) ≡ Some row → (row_of name rows ≡ Some row → Member row rows × (row.0 ≡ name)) → Member row (r ∷ rows) × (row.0 ≡ name)
      go true t e h = let same : r ≡ row = cc in (inl same, ap (λ (x : Text × A). x.0) (sym same) ∙ same_name r.0 name t)
      go false t e h = let found = h e in (inr found.0, found.1)

  pub row_missed : (name : Text) (rows : List (Text × A)) → row_of name rows ≡ None → Absent name rows
  row_missed name [] e = tt
  row_missed name (r ∷ rows) e = go (bytes_eq r.0 name) refl e (row_missed name rows)
    where
      go : (b : Bool) → bytes_eq r.0 name ≡ b → cond b (Some r) (row_of name rows) ≡ None → (row_of name rows ≡ None → Absent name rows) → Absent name (r ∷ rows)
      go true t e h = absurd (some≢none r e)
      go false t e h = (other_name r.0 name t, h e)

  pub missed_row : (name : Text) (rows : List (Text × A)) → Absent name rows → row_of name rows ≡ None
  missed_row name [] absent = refl
  missed_row name (r ∷ rows) absent = ap (λ b. cond b (Some r) (row_of name rows)) (name_other r.0 name absent.0) ∙ missed_row name rows absent.1

  pub found_row : (rows : List (Text × A)) (row : Text × A) → Apart rows → Member row rows → row_of row.0 rows ≡ Some row
  found_row [] row separate m = absurd m
  found_row (r ∷ rows) row separate (inl e) = ap (λ b. cond b (Some r) (row_of row.0 rows)) (name_same r.0 row.0 (ap (λ (x : Text × A). x.0) e)) ∙ ap (λ (x : Text × A). Some x) e
  found_row (r ∷ rows) row separate (inr m) =
      ap (λ b. cond b (Some r) (row_of row.0 rows)) (name_other r.0 row.0 (all_member (λ (other : Text × A). r.0 ≢ other.0) rows row separate.0 m)) ∙ found_row rows row separate.1 m

  -- whether all rows have different names
  abbrev pub are_apart : List (Text × A) → Bool
  are_apart [] = true
  are_apart (row ∷ rows) = not (list_any (λ other. bytes_eq other.0 row.0) rows) && are_apart rows

  back : (name : Text) (rows : List (Text × A)) → Absent name rows → AllByRecursion (λ other. name ≢ other.0) rows
  back name [] absent = tt
  back name (row ∷ rows) absent = ((λ e. absent.0 (sym e)), back name rows absent.1)

  pub apart_by_test : (rows : List (Text × A)) → are_apart rows ≡ true → Apart rows
  apart_by_test [] e = tt
  apart_by_test (row ∷ rows) e =
      let parts = and_parts (not (list_any (λ (other : Text × A). bytes_eq other.0 row.0) rows)) (are_apart rows) e in
      (back row.0 rows (named_absent row.0 rows (not-true _ parts.0)), apart_by_test rows parts.1)
