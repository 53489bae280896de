-- The standard surface lists of the folded tetrahedron and of its relabelling, found by hand.
use Rattle.std.proofs.Common.{◌≡◌, ◌≢◌, ℕ, zero, suc, ◌+◌, ◌*◌, ◌<◌, inl, inr, pos, negsuc, List, [], ◌∷◌, length, AllPairs, refl, sym, ◌∙◌, subst, arith, lit<, Less}
use Rattle.std.specs.Prelude.{slice_index}
use Rattle.std.specs.Ordering.{nat_cmp}
use Rattle.std.specs.Cmp.Lexicographic.{slice_cmp}
use Rattle.std.specs.List.{AllByRecursion, slice_index_or}
use Rattle.cone_definitions.specs.Vectors.{IsBefore, IsInside}
use Rattle.cone_definitions.specs.Rows.{Row as EquationRow, IsZeroAt, IsSolution}
use Rattle.cone_definitions.specs.Surfaces.{IsAdmissible, IsSurfaceList}
use Rattle.cone_definitions.proofs.Lexicographic.{before_from_less, before_trans}
use Rattle.table_definitions.proofs.TableLaws.{Among}
use Rattle.surface_definitions.specs.Coordinates.{clash_list}
use Rattle.surface_definitions.specs.declared.Coords.TheVariants.{Standard}
use Rattle.surface_definitions.specs.Equations.{matching_rows}
use Rattle.surface_definitions.specs.Verdict.{verdict, solution}
use Rattle.surface_definitions.proofs.Computed.{computed}
use Rattle.surface_laws.proofs.Clashes.{clash_zero}
use Rattle.surface_relabelling_laws.specs.WorkedTable.{folded, refolded, folded_list, refolded_list}
use Rattle.surface_relabelling_laws.proofs.ListTests.{inside_by, tested_list}

-- ---- the equations: two triangles are equal, and two quads are

abbrev quad_row : EquationRow
quad_row = (5, pos 1) ∷ (6, negsuc 0) ∷ []

abbrev quad_turned : EquationRow
quad_turned = (5, negsuc 0) ∷ (6, pos 1) ∷ []

folded_rows : matching_rows Standard folded ≡ quad_row ∷ quad_turned ∷ ((2, negsuc 0) ∷ (3, pos 1) ∷ []) ∷ []
unfolding computed
folded_rows = refl

refolded_rows : matching_rows Standard refolded ≡ ((0, negsuc 0) ∷ (1, pos 1) ∷ []) ∷ quad_row ∷ quad_turned ∷ []
unfolding computed
refolded_rows = refl

-- two entries are equal where their difference is 0
equal_plus : (a b : ℕ) (x : List ℕ) → IsZeroAt ((a, pos 1) ∷ (b, negsuc 0) ∷ []) x → slice_index x a ≡ slice_index x b
equal_plus a b x z = let e : 0 + 1 * slice_index x a + 0 * slice_index x b ≡ 0 + 0 * slice_index x a + 1 * slice_index x b = z in omega arith

equal_minus : (a b : ℕ) (x : List ℕ) → IsZeroAt ((a, negsuc 0) ∷ (b, pos 1) ∷ []) x → slice_index x a ≡ slice_index x b
equal_minus a b x z = let e : 0 + 0 * slice_index x a + 1 * slice_index x b ≡ 0 + 1 * slice_index x a + 0 * slice_index x b = z in omega arith

row_at : (rows others : List EquationRow) (x : List ℕ) → rows ≡ others → IsSolution 7 rows x → (i : ℕ) (d : EquationRow) → i < length others → IsZeroAt (slice_index_or others i d) x
row_at rows others x e s = subst (λ (rs : List EquationRow). (i : ℕ) (d : EquationRow) → i < length rs → IsZeroAt (slice_index_or rs i d) x) e s.zero

-- ---- what lies in an admissible solution

module _ (x : List ℕ) where
  in_one : (a c : ℕ) → slice_index x a ≢ 0 → Among c (a ∷ []) → slice_index x c ≢ 0
  in_one a c ne (inl e) = subst (λ m. slice_index x m ≢ 0) (sym e) ne
  in_one a c ne (inr none) = absurd none

  in_two : (a b c : ℕ) → slice_index x a ≢ 0 → slice_index x b ≢ 0 → Among c (a ∷ b ∷ []) → slice_index x c ≢ 0
  in_two a b c ne me (inl e) = subst (λ m. slice_index x m ≢ 0) (sym e) ne
  in_two a b c ne me (inr (inl e)) = subst (λ m. slice_index x m ≢ 0) (sym e) me
  in_two a b c ne me (inr (inr none)) = absurd none

  -- equal quads of two types are 0
  no_quads : IsAdmissible (clash_list Standard 1) x → slice_index x 5 ≡ slice_index x 6 → (slice_index x 5 ≡ 0) × (slice_index x 6 ≡ 0)
  no_quads ok e = elim (clash_zero Standard 1 x ok 5 6 (lit< tt) (lit< tt) refl (lit< tt) (lit< tt)) [ inl z ↦ (z, sym e ∙ z) | inr z ↦ (e ∙ z, z) ]

abbrev Holds : List (List ℕ) → List ℕ → Type 0
Holds list x = (v : List ℕ) × Among v list × IsInside v x

-- a quad of type 0, two triangles that are equal, and two others
module _ (x : List ℕ) (ok : IsAdmissible (clash_list Standard 1) x) (quads : slice_index x 5 ≡ slice_index x 6) where
  folded_cover : slice_index x 2 ≡ slice_index x 3 → (j : ℕ) → j < 7 → slice_index x j ≢ 0 → Holds folded_list x
  folded_cover e zero l ne = (1 ∷ 0 ∷ 0 ∷ 0 ∷ 0 ∷ 0 ∷ 0 ∷ [], inr (inr (inr (inl refl))), inside_by 7 (1 ∷ 0 ∷ 0 ∷ 0 ∷ 0 ∷ 0 ∷ 0 ∷ []) x (0 ∷ []) refl refl (λ c a. in_one x 0 c ne a))
  folded_cover e (suc zero) l ne = (0 ∷ 1 ∷ 0 ∷ 0 ∷ 0 ∷ 0 ∷ 0 ∷ [], inr (inr (inl refl)), inside_by 7 (0 ∷ 1 ∷ 0 ∷ 0 ∷ 0 ∷ 0 ∷ 0 ∷ []) x (1 ∷ []) refl refl (λ c a. in_one x 1 c ne a))
  folded_cover e (suc (suc zero)) l ne = (0 ∷ 0 ∷ 1 ∷ 1 ∷ 0 ∷ 0 ∷ 0 ∷ [], inr (inl refl), inside_by 7 (0 ∷ 0 ∷ 1 ∷ 1 ∷ 0 ∷ 0 ∷ 0 ∷ []) x (2 ∷ 3 ∷ []) refl refl (λ c a. in_two x 2 3 c ne (λ z. ne (e ∙ z)) a))
  folded_cover e (suc (suc (suc zero))) l ne = (0 ∷ 0 ∷ 1 ∷ 1 ∷ 0 ∷ 0 ∷ 0 ∷ [], inr (inl refl), inside_by 7 (0 ∷ 0 ∷ 1 ∷ 1 ∷ 0 ∷ 0 ∷ 0 ∷ []) x (2 ∷ 3 ∷ []) refl refl (λ c a. in_two x 2 3 c (λ z. ne (sym e ∙ z)) ne a))
  folded_cover e (suc (suc (suc (suc zero)))) l ne = (0 ∷ 0 ∷ 0 ∷ 0 ∷ 1 ∷ 0 ∷ 0 ∷ [], inl refl, inside_by 7 (0 ∷ 0 ∷ 0 ∷ 0 ∷ 1 ∷ 0 ∷ 0 ∷ []) x (4 ∷ []) refl refl (λ c a. in_one x 4 c ne a))
  folded_cover e (suc (suc (suc (suc (suc zero))))) l ne = absurd (ne (no_quads x ok quads).0)
  folded_cover e (suc (suc (suc (suc (suc (suc zero)))))) l ne = absurd (ne (no_quads x ok quads).1)
  folded_cover e (suc (suc (suc (suc (suc (suc (suc j))))))) l ne = absurd (omega arith)

  refolded_cover : slice_index x 0 ≡ slice_index x 1 → (j : ℕ) → j < 7 → slice_index x j ≢ 0 → Holds refolded_list x
  refolded_cover e zero l ne = (1 ∷ 1 ∷ 0 ∷ 0 ∷ 0 ∷ 0 ∷ 0 ∷ [], inr (inr (inr (inl refl))), inside_by 7 (1 ∷ 1 ∷ 0 ∷ 0 ∷ 0 ∷ 0 ∷ 0 ∷ []) x (0 ∷ 1 ∷ []) refl refl (λ c a. in_two x 0 1 c ne (λ z. ne (e ∙ z)) a))
  refolded_cover e (suc zero) l ne = (1 ∷ 1 ∷ 0 ∷ 0 ∷ 0 ∷ 0 ∷ 0 ∷ [], inr (inr (inr (inl refl))), inside_by 7 (1 ∷ 1 ∷ 0 ∷ 0 ∷ 0 ∷ 0 ∷ 0 ∷ []) x (0 ∷ 1 ∷ []) refl refl (λ c a. in_two x 0 1 c (λ z. ne (sym e ∙ z)) ne a))
  refolded_cover e (suc (suc zero)) l ne = (0 ∷ 0 ∷ 1 ∷ 0 ∷ 0 ∷ 0 ∷ 0 ∷ [], inr (inr (inl refl)), inside_by 7 (0 ∷ 0 ∷ 1 ∷ 0 ∷ 0 ∷ 0 ∷ 0 ∷ []) x (2 ∷ []) refl refl (λ c a. in_one x 2 c ne a))
  refolded_cover e (suc (suc (suc zero))) l ne = (0 ∷ 0 ∷ 0 ∷ 1 ∷ 0 ∷ 0 ∷ 0 ∷ [], inr (inl refl), inside_by 7 (0 ∷ 0 ∷ 0 ∷ 1 ∷ 0 ∷ 0 ∷ 0 ∷ []) x (3 ∷ []) refl refl (λ c a. in_one x 3 c ne a))
  refolded_cover e (suc (suc (suc (suc zero)))) l ne = (0 ∷ 0 ∷ 0 ∷ 0 ∷ 1 ∷ 0 ∷ 0 ∷ [], inl refl, inside_by 7 (0 ∷ 0 ∷ 0 ∷ 0 ∷ 1 ∷ 0 ∷ 0 ∷ []) x (4 ∷ []) refl refl (λ c a. in_one x 4 c ne a))
  refolded_cover e (suc (suc (suc (suc (suc zero))))) l ne = absurd (ne (no_quads x ok quads).0)
  refolded_cover e (suc (suc (suc (suc (suc (suc zero)))))) l ne = absurd (ne (no_quads x ok quads).1)
  refolded_cover e (suc (suc (suc (suc (suc (suc (suc j))))))) l ne = absurd (omega arith)

-- ---- the lists

folded_solved : AllByRecursion (λ v. verdict 1 7 (matching_rows Standard folded) (clash_list Standard 1) v ≡ solution) folded_list
unfolding computed
folded_solved = (refl, (refl, (refl, (refl, tt))))

refolded_solved : AllByRecursion (λ v. verdict 1 7 (matching_rows Standard refolded) (clash_list Standard 1) v ≡ solution) refolded_list
unfolding computed
refolded_solved = (refl, (refl, (refl, (refl, tt))))

-- four vectors of one width, each before the next ones
four_ascend : (p q r s : List ℕ) → length p ≡ length q → length q ≡ length r → length r ≡ length s → slice_cmp nat_cmp p q ≡ Less → slice_cmp nat_cmp q r ≡ Less → slice_cmp nat_cmp r s ≡ Less
    → AllPairs IsBefore (p ∷ q ∷ r ∷ s ∷ [])
four_ascend p q r s pq qr rs a b c = at_places
  where
    one : IsBefore p q
    one = before_from_less p q pq a

    two : IsBefore q r
    two = before_from_less q r qr b

    three : IsBefore r s
    three = before_from_less r s rs c

    at_places : AllPairs IsBefore (p ∷ q ∷ r ∷ s ∷ [])
    at_places zero zero d l m = absurd (omega arith)
    at_places zero (suc zero) d l m = one
    at_places zero (suc (suc zero)) d l m = before_trans p q r one two
    at_places zero (suc (suc (suc zero))) d l m = before_trans p q s one (before_trans q r s two three)
    at_places (suc zero) zero d l m = absurd (omega arith)
    at_places (suc zero) (suc zero) d l m = absurd (omega arith)
    at_places (suc zero) (suc (suc zero)) d l m = two
    at_places (suc zero) (suc (suc (suc zero))) d l m = before_trans q r s two three
    at_places (suc (suc zero)) zero d l m = absurd (omega arith)
    at_places (suc (suc zero)) (suc zero) d l m = absurd (omega arith)
    at_places (suc (suc zero)) (suc (suc zero)) d l m = absurd (omega arith)
    at_places (suc (suc zero)) (suc (suc (suc zero))) d l m = three
    at_places (suc (suc (suc i))) zero d l m = absurd (omega arith)
    at_places (suc (suc (suc i))) (suc zero) d l m = absurd (omega arith)
    at_places (suc (suc (suc i))) (suc (suc zero)) d l m = absurd (omega arith)
    at_places (suc (suc (suc i))) (suc (suc (suc zero))) d l m = absurd (omega arith)
    at_places i (suc (suc (suc (suc j)))) d l m = absurd (omega arith)

pub folded_list_is : IsSurfaceList 7 (matching_rows Standard folded) (clash_list Standard 1) folded_list
folded_list_is = tested_list 1 7 (matching_rows Standard folded) (clash_list Standard 1) folded_list folded_solved refl refl
    (λ x s ok. folded_cover x ok (equal_plus 5 6 x (row_at (matching_rows Standard folded) _ x folded_rows s 0 [] (lit< tt))) (equal_minus 2 3 x (row_at (matching_rows Standard folded) _ x folded_rows s 2 [] (lit< tt))))
    (four_ascend (0 ∷ 0 ∷ 0 ∷ 0 ∷ 1 ∷ 0 ∷ 0 ∷ []) (0 ∷ 0 ∷ 1 ∷ 1 ∷ 0 ∷ 0 ∷ 0 ∷ []) (0 ∷ 1 ∷ 0 ∷ 0 ∷ 0 ∷ 0 ∷ 0 ∷ []) (1 ∷ 0 ∷ 0 ∷ 0 ∷ 0 ∷ 0 ∷ 0 ∷ []) refl refl refl refl refl refl)

pub refolded_list_is : IsSurfaceList 7 (matching_rows Standard refolded) (clash_list Standard 1) refolded_list
refolded_list_is = tested_list 1 7 (matching_rows Standard refolded) (clash_list Standard 1) refolded_list refolded_solved refl refl
    (λ x s ok. refolded_cover x ok (equal_plus 5 6 x (row_at (matching_rows Standard refolded) _ x refolded_rows s 1 [] (lit< tt))) (equal_minus 0 1 x (row_at (matching_rows Standard refolded) _ x refolded_rows s 0 [] (lit< tt))))
    (four_ascend (0 ∷ 0 ∷ 0 ∷ 0 ∷ 1 ∷ 0 ∷ 0 ∷ []) (0 ∷ 0 ∷ 0 ∷ 1 ∷ 0 ∷ 0 ∷ 0 ∷ []) (0 ∷ 0 ∷ 1 ∷ 0 ∷ 0 ∷ 0 ∷ 0 ∷ []) (1 ∷ 1 ∷ 0 ∷ 0 ∷ 0 ∷ 0 ∷ 0 ∷ []) refl refl refl refl refl refl)
