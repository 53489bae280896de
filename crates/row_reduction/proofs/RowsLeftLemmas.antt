-- Rows that are taken from a list one by one.
use Rattle.std.proofs.Common.{◌≡◌, ℕ, suc, ◌<◌, List, [], ◌∷◌, ◌++◌, length, map, take, drop, get_or, Option, Some, None, refl, sym, ap, ◌∙◌, subst, subst₂, arith}
use Rattle.std.specs.Prelude.{slice_set}
use Rattle.std.specs.List.Sorted.{IsPermutation}
use Rattle.std.proofs.lemmas.List.{append_assoc, append-nil, set-get_or, set_split, take_all, drop_all}
use Rattle.std.proofs.lemmas.List.Elements.{filter_map-append}
use Rattle.std.proofs.lemmas.List.Sorted.{IsPermutation-refl, IsPermutation-middle, IsPermutation-append_right}
use Rattle.cone_definitions.specs.Rows.{Row}
use Rattle.row_reduction.specs.RowsLeft.{rows_left}

-- all rows are left at first
pub all_left : (rows : List Row) → rows_left (map (λ row. Some row) rows) ≡ rows
all_left [] = refl
all_left (row ∷ rows) = ap (λ (r : List Row). row ∷ r) (all_left rows)

-- the rows that are left, with one more slot
pub left_more : (slots : List (Option Row)) (slot : Option Row) → rows_left (slots ++ slot ∷ []) ≡ rows_left slots ++ rows_left (slot ∷ [])
left_more slots slot = filter_map-append (λ (s : Option Row). s) slots (slot ∷ [])

-- the rows that are left if slot i is set
left_at : (slots : List (Option Row)) (i : ℕ) (slot : Option Row) → i < length slots → rows_left (slice_set slots i slot) ≡ rows_left (take i slots) ++ rows_left (slot ∷ drop (suc i) slots)
left_at slots i slot l = ap rows_left (set_split slots i slot l) ∙ filter_map-append (λ (s : Option Row). s) (take i slots) (slot ∷ drop (suc i) slots)

-- the row of slot i is moved to the end of those that are done
pub left_taken : (done : List Row) (slots : List (Option Row)) (i : ℕ) (row : Row) → i < length slots → Some row ≡ get_or slots i None
    → IsPermutation (done ++ rows_left slots) ((done ++ row ∷ []) ++ rows_left (slice_set slots i None))
left_taken done slots i row l is =
    let before : rows_left (take i slots) ++ row ∷ rows_left (drop (suc i) slots) ≡ rows_left slots =
    sym (left_at slots i (Some row) l) ∙ ap (λ s. rows_left (slice_set slots i s)) is ∙ ap rows_left (set-get_or slots i None) in
    let after : row ∷ rows_left (take i slots) ++ rows_left (drop (suc i) slots) ≡ row ∷ rows_left (slice_set slots i None) =
    ap (λ (r : List Row). row ∷ r) (sym (left_at slots i None l)) in
    subst₂ (λ (xs ys : List Row). IsPermutation xs ys) (ap (λ (r : List Row). done ++ r) before) (ap (λ (r : List Row). done ++ r) after ∙ sym (append_assoc done (row ∷ []) (rows_left (slice_set slots i None))))
    (IsPermutation-append_right done _ _ (IsPermutation-middle (rows_left (take i slots)) row (rows_left (drop (suc i) slots))))

-- slot i is empty
pub left_same : (done : List Row) (slots : List (Option Row)) (i : ℕ) → None ≡ get_or slots i None → IsPermutation (done ++ rows_left slots) (done ++ rows_left (slice_set slots i None))
left_same done slots i is =
    subst (λ (s : List (Option Row)). IsPermutation (done ++ rows_left slots) (done ++ rows_left s)) (sym (ap (slice_set slots i) is ∙ set-get_or slots i None)) (IsPermutation-refl (done ++ rows_left slots))

-- a slot with a row is read
pub appended_row : (done : List Row) (slots : List (Option Row)) (before after : List Row) (slot : Option Row) (row : Row) → before ≡ done ++ rows_left slots → slot ≡ Some row → after ≡ before ++ row ∷ []
    → after ≡ done ++ rows_left (slots ++ slot ∷ [])
appended_row done slots before after slot row so_far is pushed =
    pushed ∙ ap (λ (rows : List Row). rows ++ row ∷ []) so_far ∙ append_assoc done (rows_left slots) (row ∷ [])
    ∙ ap (λ (s : Option Row). done ++ (rows_left slots ++ rows_left (s ∷ []))) (sym is) ∙ ap (λ (rows : List Row). done ++ rows) (sym (left_more slots slot))

-- a slot without a row is read
pub appended_none : (done : List Row) (slots : List (Option Row)) (before : List Row) (slot : Option Row) → before ≡ done ++ rows_left slots → slot ≡ None → before ≡ done ++ rows_left (slots ++ slot ∷ [])
appended_none done slots before slot so_far is =
    so_far ∙ ap (λ (rows : List Row). done ++ rows) (sym (append-nil (rows_left slots)))
    ∙ ap (λ (s : Option Row). done ++ (rows_left slots ++ rows_left (s ∷ []))) (sym is) ∙ ap (λ (rows : List Row). done ++ rows) (sym (left_more slots slot))

-- a slot that is not Some is None
pub no_row : (slot : Option Row) → ((row : Row) → slot ≡ Some row → ⊥) → slot ≡ None
no_row None other = refl
no_row (Some row) other = absurd (other row refl)

-- slots that were changed in place are those of the vector
pub written_back : (new old : List (Option Row)) (n : ℕ) → length new ≡ length old → length old ≡ n → take n (new ++ drop (length new) old) ≡ new
written_back new old n same size =
    ap (λ (rest : List (Option Row)). take n (new ++ rest)) (drop_all (length new) old (omega (arith, same))) ∙ ap (take n) (append-nil new) ∙ take_all n new (omega (arith, same, size))
