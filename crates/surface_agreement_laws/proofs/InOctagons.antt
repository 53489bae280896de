-- A standard vector and the octagon vector with the same triangles and quads and no octagon.
use Rattle.std.proofs.Common.{◌≡◌, ℕ, zero, suc, ◌+◌, ◌-◌, ◌*◌, ◌/◌, ◌%◌, ◌<◌, ◌≤◌, inl, inr, List, [], ◌∷◌, ◌++◌, length, map, flat_map, slice_index, refl, sym, ap, subst, ◌∙◌, arith, ext_get_or}
use Rattle.std.specs.Prelude.{sum_by}
use Rattle.std.proofs.lemmas.Bool.{cases_lt}
use Rattle.cone_definitions.specs.Vectors.{IsNonzero, IsInside}
use Rattle.cone_definitions.proofs.Entries.{entry_past, nonzero_before, each_column}
use Rattle.table_definitions.specs.Lists.{below}
use Rattle.table_definitions.specs.Permutation.{four}
use Rattle.surface_definitions.specs.Coordinates.{tri_column, quad_column, oct_column, three}
use Rattle.surface_definitions.specs.declared.Coords.TheVariants.{Standard, Octagon}
use Rattle.surface_laws.proofs.Counting.{sum_by-none}
use Rattle.surface_octagon_laws.specs.QuadOctagons.{other_types, HasQuadsForOctagons}
use Rattle.surface_octagon_laws.proofs.Blocks.{block-at, length-blocks}
use Rattle.surface_octagon_laws.proofs.Entries.{other_below}
use Rattle.surface_agreement_laws.specs.VertexSurfaces.{in_octagons}

-- xs is ys in octagon coordinates
pub record AreSame (n : ℕ) (ys xs : List ℕ) : Type 0 where
  pub standard : length ys ≡ 7 * n
  pub octagon : length xs ≡ 10 * n
  pub entries : (t j : ℕ) → t < n → j < 7 → slice_index xs (10 * t + j) ≡ slice_index ys (7 * t + j)
  pub no_octagons : (t j : ℕ) → t < n → j < 3 → slice_index xs (10 * t + 7 + j) ≡ 0

abbrev block : List ℕ → ℕ → List ℕ
block ys t = map (λ v. slice_index ys (tri_column Standard t v)) four ++ map (λ k. slice_index ys (quad_column Standard t k)) three ++ 0 ∷ 0 ∷ 0 ∷ []

first_seven : (ys : List ℕ) (t j : ℕ) → j < 7 → slice_index (block ys t) j ≡ slice_index ys (7 * t + j)
first_seven ys t zero l = refl
first_seven ys t (suc zero) l = refl
first_seven ys t (suc (suc zero)) l = refl
first_seven ys t (suc (suc (suc zero))) l = refl
first_seven ys t (suc (suc (suc (suc zero)))) l = let e : quad_column Standard t 0 ≡ 7 * t + 4 = omega arith in ap (slice_index ys) e
first_seven ys t (suc (suc (suc (suc (suc zero))))) l = let e : quad_column Standard t 1 ≡ 7 * t + 5 = omega arith in ap (slice_index ys) e
first_seven ys t (suc (suc (suc (suc (suc (suc zero)))))) l = let e : quad_column Standard t 2 ≡ 7 * t + 6 = omega arith in ap (slice_index ys) e
first_seven ys t (suc (suc (suc (suc (suc (suc (suc j))))))) l = absurd (omega arith)

last_three : (ys : List ℕ) (t j : ℕ) → j < 3 → slice_index (block ys t) (7 + j) ≡ 0
last_three ys t zero l = refl
last_three ys t (suc zero) l = refl
last_three ys t (suc (suc zero)) l = refl
last_three ys t (suc (suc (suc j))) l = absurd (omega arith)

pub in_octagons_is : (n : ℕ) (ys : List ℕ) → length ys ≡ 7 * n → AreSame n ys (in_octagons n ys)
in_octagons_is n ys w = record {
  standard = w;
  octagon = length-blocks 10 (block ys) (λ t. refl) n;
  entries = λ t j lt lj. block-at 10 (block ys) (λ t. refl) n t j lt (omega arith) ∙ first_seven ys t j lj;
  no_octagons = λ t j lt lj. let i : 10 * t + 7 + j ≡ 10 * t + (7 + j) = omega arith in
      ap (slice_index (in_octagons n ys)) i ∙ block-at 10 (block ys) (λ t. refl) n t (7 + j) lt (omega arith) ∙ last_three ys t j lj;
}

-- the triangles and quads of an octagon vector
abbrev standard_block : List ℕ → ℕ → List ℕ
standard_block xs t = map (λ v. slice_index xs (tri_column Octagon t v)) four ++ map (λ k. slice_index xs (quad_column Octagon t k)) three

abbrev pub in_standard : ℕ → List ℕ → List ℕ
in_standard n xs = flat_map (standard_block xs) (below n)

seven_columns : (xs : List ℕ) (t j : ℕ) → j < 7 → slice_index (standard_block xs t) j ≡ slice_index xs (10 * t + j)
seven_columns xs t zero l = refl
seven_columns xs t (suc zero) l = refl
seven_columns xs t (suc (suc zero)) l = refl
seven_columns xs t (suc (suc (suc zero))) l = refl
seven_columns xs t (suc (suc (suc (suc zero)))) l = let e : quad_column Octagon t 0 ≡ 10 * t + 4 = omega arith in ap (slice_index xs) e
seven_columns xs t (suc (suc (suc (suc (suc zero))))) l = let e : quad_column Octagon t 1 ≡ 10 * t + 5 = omega arith in ap (slice_index xs) e
seven_columns xs t (suc (suc (suc (suc (suc (suc zero)))))) l = let e : quad_column Octagon t 2 ≡ 10 * t + 6 = omega arith in ap (slice_index xs) e
seven_columns xs t (suc (suc (suc (suc (suc (suc (suc j))))))) l = absurd (omega arith)

pub in_standard_is : (n : ℕ) (xs : List ℕ) → length xs ≡ 10 * n → ((i : ℕ) → i < 10 * n → 7 ≤ i % 10 → slice_index xs i ≡ 0) → AreSame n (in_standard n xs) xs
in_standard_is n xs w none = record {
  standard = length-blocks 7 (standard_block xs) (λ t. refl) n;
  octagon = w;
  entries = λ t j lt lj. sym (block-at 7 (standard_block xs) (λ t. refl) n t j lt lj ∙ seven_columns xs t j lj);
  no_octagons = λ t j lt lj. none (10 * t + 7 + j) (omega arith) (omega arith);
}

-- the column in the other coordinates
abbrev pub octagon_column : ℕ → ℕ
octagon_column i = 10 * (i / 7) + i % 7

abbrev pub standard_column : ℕ → ℕ
standard_column i = 7 * (i / 10) + i % 10

module _ (n : ℕ) (ys xs : List ℕ) (same : AreSame n ys xs) where
  pub at_standard : (i : ℕ) → i < 7 * n → slice_index ys i ≡ slice_index xs (octagon_column i)
  at_standard i l =
      let lt : i / 7 < n = omega arith in
      let lj : i % 7 < 7 = omega arith in
      let at : i ≡ 7 * (i / 7) + i % 7 = omega arith in
      ap (slice_index ys) at ∙ sym (same.entries (i / 7) (i % 7) lt lj)

  pub at_octagon : (i : ℕ) → i < 10 * n → i % 10 < 7 → slice_index xs i ≡ slice_index ys (standard_column i)
  at_octagon i l lj =
      let lt : i / 10 < n = omega arith in
      let at : i ≡ 10 * (i / 10) + i % 10 = omega arith in
      ap (slice_index xs) at ∙ same.entries (i / 10) (i % 10) lt lj

  pub at_none : (i : ℕ) → i < 10 * n → 7 ≤ i % 10 → slice_index xs i ≡ 0
  at_none i l high =
      let lt : i / 10 < n = omega arith in
      let lj : i % 10 - 7 < 3 = omega arith in
      let at : i ≡ 10 * (i / 10) + 7 + (i % 10 - 7) = omega arith in
      ap (slice_index xs) at ∙ same.no_octagons (i / 10) (i % 10 - 7) lt lj

  -- what holds of each entry of the one, and of 0, holds of each entry of the other
  pub each_octagon : (P : ℕ → Type 0) → P 0 → ((i : ℕ) → P (slice_index ys i)) → (i : ℕ) → P (slice_index xs i)
  each_octagon P none each = each_column (10 * n) (λ i. P (slice_index xs i))
      (λ i l. elim (cases_lt (i % 10) 7) [
        | inl low ↦ subst P (sym (at_octagon i l low)) (each (standard_column i))
        | inr high ↦ subst P (sym (at_none i l high)) none
      ])
      (λ i l. subst P (sym (entry_past xs (10 * n) i same.octagon l)) none)

  pub each_standard : (P : ℕ → Type 0) → P 0 → ((i : ℕ) → P (slice_index xs i)) → (i : ℕ) → P (slice_index ys i)
  each_standard P none each = each_column (7 * n) (λ i. P (slice_index ys i))
      (λ i l. subst P (sym (at_standard i l)) (each (octagon_column i)))
      (λ i l. subst P (sym (entry_past ys (7 * n) i same.standard l)) none)

  pub nonzero_octagon : IsNonzero ys → IsNonzero xs
  nonzero_octagon some = (octagon_column some.0, λ z. some.1 (at_standard some.0 (nonzero_before ys (7 * n) some.0 same.standard some.1) ∙ z))

  pub nonzero_standard : IsNonzero xs → IsNonzero ys
  nonzero_standard some = let l : some.0 < 10 * n = nonzero_before xs (10 * n) some.0 same.octagon some.1 in elim (cases_lt (some.0 % 10) 7) [
    | inl low ↦ (standard_column some.0, λ z. some.1 (at_octagon some.0 l low ∙ z))
    | inr high ↦ absurd (some.1 (at_none some.0 l high))
  ]

  -- with two quads in place of each octagon, of which there is none, it is the standard vector
  pub quads_for_none : HasQuadsForOctagons n xs ys
  quads_for_none = record {
    width = same.standard;
    triangles = λ t v lt lv. sym (same.entries t v lt (omega arith));
    quads = λ t k lt lk.
        let none : sum_by (λ j. slice_index xs (oct_column Octagon t j)) (other_types k) ≡ 0 = sum_by-none (λ j. slice_index xs (oct_column Octagon t j)) (other_types k) (λ j a. same.no_octagons t j lt (other_below k j a)) in
        let i : quad_column Standard t k ≡ 7 * t + (4 + k) = omega arith in
        let o : 10 * t + (4 + k) ≡ quad_column Octagon t k = omega arith in
        let e : slice_index ys (quad_column Standard t k) ≡ slice_index xs (quad_column Octagon t k) = ap (slice_index ys) i ∙ sym (same.entries t (4 + k) lt (omega arith)) ∙ ap (slice_index xs) o in
        no_more (slice_index ys (quad_column Standard t k)) (slice_index xs (quad_column Octagon t k)) (sum_by (λ j. slice_index xs (oct_column Octagon t j)) (other_types k)) e none;
  }
    where
      no_more : (a b z : ℕ) → a ≡ b → z ≡ 0 → a ≡ b + z
      no_more a b z e f = omega arith

module _ (n : ℕ) (ys xs zs ws : List ℕ) (same : AreSame n ys xs) (other : AreSame n zs ws) where
  pub inside_octagon : IsInside ys zs → IsInside xs ws
  inside_octagon inside = each_column (10 * n) (λ i. slice_index ws i ≡ 0 → slice_index xs i ≡ 0)
      (λ i l z. elim (cases_lt (i % 10) 7) [
        | inl low ↦ at_octagon n ys xs same i l low ∙ inside (standard_column i) (sym (at_octagon n zs ws other i l low) ∙ z)
        | inr high ↦ at_none n ys xs same i l high
      ])
      (λ i l z. entry_past xs (10 * n) i same.octagon l)

  pub inside_standard : IsInside xs ws → IsInside ys zs
  inside_standard inside = each_column (7 * n) (λ i. slice_index zs i ≡ 0 → slice_index ys i ≡ 0)
      (λ i l z. at_standard n ys xs same i l ∙ inside (octagon_column i) (sym (at_standard n zs ws other i l) ∙ z))
      (λ i l z. entry_past ys (7 * n) i same.standard l)

-- the octagon vector is unique
pub one_octagon : (n : ℕ) (ys xs ws : List ℕ) → AreSame n ys xs → AreSame n ys ws → xs ≡ ws
one_octagon n ys xs ws same other = ext_get_or 0 xs ws (same.octagon ∙ sym other.octagon) (λ i l. let li : i < 10 * n = omega (arith, same.octagon) in
    elim (cases_lt (i % 10) 7) [
      | inl low ↦ at_octagon n ys xs same i li low ∙ sym (at_octagon n ys ws other i li low)
      | inr high ↦ at_none n ys xs same i li high ∙ sym (at_none n ys ws other i li high)
    ])
