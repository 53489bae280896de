-- The first value of a function that is not `None`, and new rows by their numbers.
use Rattle.std.proofs.Common.{◌≡◌, ℕ, zero, suc, ◌<◌, ◌≤◌, true, false, List, [], ◌∷◌, length, get_or, map, Option, Some, None, refl, sym, ap, ◌∙◌, arith}
use Rattle.std.specs.Prelude.{◌==◌, option_and_then, is_some, if◌then◌else◌}
use Rattle.std.specs.List.{slice_index_or, position_or_len, flat_map}
use Rattle.std.specs.Option.{option_or}
use Rattle.std.proofs.lemmas.List.{get_or-map}
use Rattle.std.proofs.lemmas.List.Folds.{list_any_at}
use Rattle.std.proofs.lemmas.List.Sums.{position_or_len_is}
use Rattle.std.proofs.lemmas.Bool.{eq-eqb, ne_eqb}
use Rattle.table_definitions.specs.Lists.{has, first_some, below}
use Rattle.table_definitions.specs.Permutation.{four}
use Rattle.table_definitions.specs.Table.{Gluing, Row, Face}
use Rattle.table_definitions.specs.Replacing.{Replacement, inverse_if_reached, fresh_row, back_to_fresh}
use Rattle.table_definitions.proofs.ListFacts.{first_some-append, first_some-map, first_some-below, first_some-none_below}
use Rattle.table_definitions.specs.Replaceable.{numbers_of, fresh_numbers, row_back}
use Rattle.table_definitions.proofs.FreshRows.{gives_back}
use Rattle.table_definitions.proofs.Faces.{face_at}
use Rattle.gluing_table.proofs.Opened.{has-none, number_at, length-numbers_of}
use Rattle.basic_lemmas.proofs.Members.{Ascends}

abbrev pub Numbered : Type 0
Numbered = ℕ × Row

-- a row among numbered ones

position_at : (xs : List Numbered) (i : ℕ) (row : Numbered) (u : ℕ) → i < length xs → row ≡ get_or xs i row → row.0 ≡ u → ((k : ℕ) → k < i → get_or (numbers_of xs) k 0 ≡ u → ⊥)
    → position_or_len (λ (x : Numbered). x.0 == u) xs ≡ i
position_at xs i row u l is e before =
    position_or_len_is (λ (x : Numbered). x.0 == u) xs i row (omega arith)
    (λ k m. ne_eqb (get_or xs k row).0 u (λ same. before k m (get_or-map (λ (x : Numbered). x.0) xs k row 0 (omega arith) ∙ same)))
    (λ _. eq-eqb (get_or xs i row).0 u (ap (λ (x : Numbered). x.0) (sym is) ∙ e))

row_at : (xs : List Numbered) (i : ℕ) (row : Numbered) (u : ℕ) → i < length xs → row ≡ get_or xs i row → position_or_len (λ (x : Numbered). x.0 == u) xs ≡ i
    → slice_index_or (map (λ (x : Numbered). x.1) xs) (position_or_len (λ (x : Numbered). x.0 == u) xs) [] ≡ row.1
row_at xs i row u l is e =
    ap (λ k. slice_index_or (map (λ (x : Numbered). x.1) xs) k []) e ∙ get_or-map (λ (x : Numbered). x.1) xs i row [] l ∙ ap (λ (x : Numbered). x.1) (sym is)

pub fresh_found : (xs : List Numbered) (removed : List ℕ) (i : ℕ) (row : Numbered) (copy : Row) (u : ℕ) → i < length xs → row ≡ get_or xs i row → row.0 ≡ u → copy ≡ row.1 → ((k : ℕ) → k < i → get_or (numbers_of xs) k 0 ≡ u → ⊥)
    → Some copy ≡ if◌then◌else◌ {A = Option Row} (has (numbers_of xs) u) (Some (fresh_row (record { removed = removed; fresh = xs }) u)) None
fresh_found xs removed i row copy u l is e same before =
    let occurs : has (numbers_of xs) u ≡ true = list_any_at (λ m. m == u) (numbers_of xs) i 0 (rw length-numbers_of l) (eq-eqb (get_or (numbers_of xs) i 0) u (sym (number_at xs i row l is) ∙ e)) in
    ap (λ (w : Row). Some w) (same ∙ sym (row_at xs i row u l is (position_at xs i row u l is e before)))
    ∙ ap (λ b. if◌then◌else◌ {A = Option Row} b (Some (fresh_row (record { removed = removed; fresh = xs }) u)) None) (sym occurs)

pub fresh_missing : (xs : List Numbered) (removed : List ℕ) (i : ℕ) (u : ℕ) → length xs ≤ i → ((k : ℕ) → k < i → get_or (numbers_of xs) k 0 ≡ u → ⊥)
    → None ≡ if◌then◌else◌ {A = Option Row} (has (numbers_of xs) u) (Some (fresh_row (record { removed = removed; fresh = xs }) u)) None
fresh_missing xs removed i u l none =
    ap (λ b. if◌then◌else◌ {A = Option Row} b (Some (fresh_row (record { removed = removed; fresh = xs }) u)) None)
    (sym (has-none (numbers_of xs) u (λ k m. none k (omega (arith, length-numbers_of xs)))))

-- the first value that is not `None`

pub first_at : {B : Type 0} (f : ℕ → Option B) (n i : ℕ) (o : Option B) → i < n → ((k : ℕ) → k < i → f k ≡ None) → o ≡ f i → true ≡ is_some o → o ≡ first_some f (below n)
first_at f n i None l before is some = absurd cc
first_at f n i (Some v) l before is some = sym (first_some-below f n i v l before (sym is))

pub first_nowhere : {B : Type 0} (f : ℕ → Option B) (n i : ℕ) → n ≤ i → ((k : ℕ) → k < i → f k ≡ None) → None ≡ first_some f (below n)
first_nowhere f n i l none = sym (first_some-none_below f n (λ k m. none k (omega arith)))

nothing_given : {B : Type 0} (o p : Option B) → o ≡ p → false ≡ is_some o → p ≡ None
nothing_given None p e n = sym e
nothing_given (Some v) p e n = absurd cc

pub still_nothing : {B : Type 0} (o p : Option B) → o ≡ p → false ≡ is_some o → p ≡ None
still_nothing o p e n = nothing_given o p e n

first_in : {A B : Type 0} (f : A → Option B) (xs : List A) (i : ℕ) (d : A) (v : B) → i < length xs → ((k : ℕ) → k < i → f (get_or xs k d) ≡ None) → f (get_or xs i d) ≡ Some v → first_some f xs ≡ Some v
first_in f [] i d v l before found = absurd (omega arith)
first_in f (x ∷ xs) zero d v l before found = ap (λ o. option_or o (first_some f xs)) found
first_in f (x ∷ xs) (suc i) d v l before found =
    ap (λ o. option_or o (first_some f xs)) (before 0 (omega arith)) ∙ first_in f xs i d v (omega arith) (λ k m. before (suc k) (omega arith)) found

pub first_row : {B : Type 0} (f : Numbered → Option B) (xs : List Numbered) (i : ℕ) (row : Numbered) (o : Option B) → i < length xs → row ≡ get_or xs i row
    → ((k : ℕ) (d : Numbered) → k < i → f (get_or xs k d) ≡ None) → o ≡ f row → true ≡ is_some o → o ≡ first_some f xs
first_row f xs i row None l is before e some = absurd cc
first_row f xs i row (Some v) l is before e some = sym (first_in f xs i row v l (λ k m. before k row m) (ap f (sym is) ∙ sym e))

first_none : {A B : Type 0} (f : A → Option B) (xs : List A) → ((k : ℕ) (d : A) → k < length xs → f (get_or xs k d) ≡ None) → first_some f xs ≡ None
first_none f [] none = refl
first_none f (x ∷ xs) none = ap (λ o. option_or o (first_some f xs)) (none 0 x (omega arith)) ∙ first_none f xs (λ k d m. none (suc k) d (omega arith))

pub no_row_gives : {B : Type 0} (f : Numbered → Option B) (xs : List Numbered) (i : ℕ) → length xs ≤ i → ((k : ℕ) (d : Numbered) → k < i → f (get_or xs k d) ≡ None) → None ≡ first_some f xs
no_row_gives f xs i l none = sym (first_none f xs (λ k d m. none k d (omega arith)))

-- an element of rows, by any default
pub row_any : (xs : List Numbered) (i : ℕ) (row d : Numbered) → i < length xs → row ≡ get_or xs i row → get_or xs i d ≡ row
row_any [] i row d l is = absurd (omega arith)
row_any (x ∷ xs) zero row d l is = sym is
row_any (x ∷ xs) (suc i) row d l is = row_any xs i row d (omega arith) is

-- row by row is face by face

first_some-flat_map : {A B C : Type 0} (f : B → Option C) (g : A → List B) (xs : List A) → first_some f (flat_map g xs) ≡ first_some (λ x. first_some f (g x)) xs
first_some-flat_map f g [] = refl
first_some-flat_map f g (x ∷ xs) = first_some-append f (g x) (flat_map g xs) ∙ ap (option_or (first_some f (g x))) (first_some-flat_map f g xs)

first_some-same : {A B : Type 0} (f g : A → Option B) (xs : List A) → ((k : ℕ) (d : A) → k < length xs → f (get_or xs k d) ≡ g (get_or xs k d)) → first_some f xs ≡ first_some g xs
first_some-same f g [] same = refl
first_some-same f g (x ∷ xs) same =
    ap (λ o. option_or o (first_some f xs)) (same 0 x (omega arith)) ∙ ap (option_or (g x)) (first_some-same f g xs (λ k d l. same (suc k) d (omega arith)))

pub back_by_rows : (r : Replacement) (y : Face) → Ascends (fresh_numbers r) → first_some (row_back y) r.fresh ≡ back_to_fresh r y
back_by_rows r y up =
    first_some-same (row_back y) (λ (x : Numbered). first_some (gives_back r y) (map (face_at x.0) four)) r.fresh row_is
    ∙ sym (first_some-flat_map (gives_back r y) (λ (x : Numbered). map (face_at x.0) four) r.fresh)
  where
    row_is : (k : ℕ) (d : Numbered) → k < length r.fresh → row_back y (get_or r.fresh k d) ≡ first_some (gives_back r y) (map (face_at (get_or r.fresh k d).0) four)
    row_is k d l =
        let row : Numbered = get_or r.fresh k d in
        let is : row ≡ get_or r.fresh k row = sym (row_any r.fresh k row row l (itself r.fresh k d l)) ∙ refl in
        let at : position_or_len (λ (x : Numbered). x.0 == row.0) r.fresh ≡ k = position_at r.fresh k row row.0 l is refl
        (λ j m e. (let less : get_or (fresh_numbers r) j 0 < get_or (fresh_numbers r) k 0 = up j k 0 m (rw length-numbers_of l) in let here = number_at r.fresh k row l is in absurd (omega arith))) in
        let rows : fresh_row r row.0 ≡ row.1 = row_at r.fresh k row row.0 l is at in
        ap (λ (w : Row). first_some (λ f. option_and_then (inverse_if_reached y (face_at row.0 f)) (slice_index_or w f None)) four) (sym rows)
        ∙ sym (first_some-map (gives_back r y) (face_at row.0) four)
      where
        itself : (xs : List Numbered) (k : ℕ) (d : Numbered) → k < length xs → get_or xs k d ≡ get_or xs k (get_or xs k d)
        itself [] k d l = absurd (omega arith)
        itself (x ∷ xs) zero d l = refl
        itself (x ∷ xs) (suc k) d l = itself xs k d (omega arith)

-- what a row holds at a face, by any default
pub row_entry : (row : Row) (k : ℕ) (o : Option Gluing) → k < length row → get_or row k o ≡ get_or row k None
row_entry [] k o l = absurd (omega arith)
row_entry (x ∷ row) zero o l = refl
row_entry (x ∷ row) (suc k) o l = row_entry row k o (omega arith)

abbrev pub face_back : Face → Numbered → ℕ → Option Gluing
face_back y x f = option_and_then (inverse_if_reached y (record { tet = x.0; face = f })) (slice_index_or x.1 f None)
