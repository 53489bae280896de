-- Ascending numbers that are searched, and rows of four gluings.
use Rattle.std.proofs.Common.{◌≡◌, ℕ, ◌<◌, ◌≤◌, inl, inr, List, [], ◌∷◌, length, Contains, Option, option_map, slice_index, slice_index_or, sym, ap, ◌∙◌, arith, nat_cmp, None}
use Rattle.std.specs.declared.cmp.Ordering.TheVariants.{Equal}
use Rattle.std.proofs.lemmas.Bool.{cases_order, cases_lt}
use Rattle.std.proofs.lemmas.Bool.Decides.{nat_tests}
use Rattle.std.proofs.lemmas.List.Elements.{All-get_or}
use Rattle.basic_lemmas.proofs.Members.{Ascends}
use Rattle.table_definitions.specs.Table.{Gluing, Row, IsTable, glue}
use Rattle.table_definitions.proofs.ListFacts.{four_made}
use Rattle.component_definitions.specs.Parts.{Part, place_in, renumbered, rows_of, IsPart}
use Rattle.component_laws.proofs.Numbers.{place_at, entry_of}
use Rattle.component_laws.proofs.Members.{member_below, length-part, part_is_table}
use Rattle.component_signature.specs.Components.{row_of}

pub rising : (numbers : List ℕ) → Ascends numbers → (i j : ℕ) → i ≤ j → j < length numbers → slice_index numbers i ≤ slice_index numbers j
rising numbers up i j l m = elim (cases_order i j) [
  | inl same ↦ let e : slice_index numbers i ≡ slice_index numbers j = ap (slice_index numbers) same in omega arith
  | inr (inl less) ↦ let r : slice_index numbers i < slice_index numbers j = up i j 0 less m in omega arith
  | inr (inr more) ↦ absurd (omega arith)
]

compared_same : (a b : ℕ) → nat_cmp a b ≡ Equal → a ≡ b
compared_same a b e = grind (arith, nat_tests)

-- the index that is found is that of the number
pub place_found : (numbers : List ℕ) (tet place : ℕ) → Ascends numbers → place < length numbers → nat_cmp (slice_index numbers place) tet ≡ Equal → place ≡ place_in numbers tet
place_found numbers tet place up l e = sym (place_at numbers up place l) ∙ ap (place_in numbers) (compared_same (slice_index numbers place) tet e)

-- a number of the list is found
pub not_missed : (numbers : List ℕ) (tet place : ℕ) → Contains numbers tet → ((k : ℕ) → k < place → slice_index numbers k < tet) → ((k : ℕ) → place ≤ k → k < length numbers → tet < slice_index numbers k) → ⊥
not_missed numbers tet place c under over = elim (cases_lt c.0 place) [
  | inl less ↦ let e : slice_index numbers c.0 ≡ tet = entry_of numbers tet c in let u : slice_index numbers c.0 < tet = under c.0 less in omega arith
  | inr more ↦ let e : slice_index numbers c.0 ≡ tet = entry_of numbers tet c in let o : tet < slice_index numbers c.0 = over c.0 more c.1 in omega arith
]

-- ---- the row of a tetrahedron of a component

abbrev pub part_with : List Row → List ℕ → Part
part_with rows numbers = record { rows = rows_of rows numbers; numbers = numbers }

pub row_is : (rows : List Row) (numbers : List ℕ) (t : ℕ) (a b c d : Option Gluing) → IsTable rows → IsPart rows (part_with rows numbers) → Contains numbers t
    → a ≡ option_map (renumbered numbers) (glue rows (record { tet = t; face = 0 })) → b ≡ option_map (renumbered numbers) (glue rows (record { tet = t; face = 1 }))
    → c ≡ option_map (renumbered numbers) (glue rows (record { tet = t; face = 2 })) → d ≡ option_map (renumbered numbers) (glue rows (record { tet = t; face = 3 }))
    → a ∷ b ∷ c ∷ d ∷ [] ≡ row_of rows numbers t
row_is rows numbers t a b c d table part there ea eb ec ed =
    (λ i. ea i ∷ eb i ∷ ec i ∷ ed i ∷ []) ∙ four_made (option_map (renumbered numbers)) None (slice_index_or rows t [])
    (All-get_or (λ (row : Row). length row ≡ 4) rows t [] (member_below rows table (part_with rows numbers) part t there) table.four_faces)

pub few_numbers : (rows : List Row) (numbers : List ℕ) → IsTable rows → IsPart rows (part_with rows numbers) → length numbers ≤ 1000
few_numbers rows numbers table part = let f = (part_is_table rows table (part_with rows numbers) part).limited in let e = length-part rows table (part_with rows numbers) part in omega (arith, f, e)
