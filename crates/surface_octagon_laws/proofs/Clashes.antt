-- Quads and octagons clash in quad-octagon coordinates if and only if they clash in octagon coordinates.
use Rattle.std.proofs.Common.{◌≡◌, ℕ, ◌+◌, ◌*◌, ◌/◌, ◌%◌, ◌-◌, ◌<◌, ◌≤◌, List, ◌⊎◌, inl, inr, sym, ap, ◌∙◌, arith}
use Rattle.std.specs.Prelude.{slice_index, ◌↔◌}
use Rattle.cone_definitions.specs.Surfaces.{IsAdmissible}
use Rattle.surface_definitions.specs.Coordinates.{clash_list}
use Rattle.surface_definitions.specs.declared.Coords.TheVariants.{Octagon}
use Rattle.surface_laws.proofs.Clashes.{none_clash, none_clash-admissible, AreClashing, clash_is, clash_from}
use Rattle.surface_octagon_laws.specs.QuadOctagons.{quads_and_octagons, IsAdmissibleQuadOctagon}
use Rattle.surface_octagon_laws.proofs.Entries.{entry-at}

-- the column of an entry, and the entry of a column
abbrev column_in : ℕ → ℕ
column_in a = 10 * (a / 6) + 4 + a % 6

abbrev entry_in : ℕ → ℕ
entry_in a = 6 * (a / 10) + (a % 10 - 4)

module _ (n : ℕ) (ys : List ℕ) where
  abbrev xs : List ℕ
  xs = quads_and_octagons n ys

  at_entry : (a : ℕ) → a < 6 * n → slice_index xs a ≡ slice_index ys (column_in a)
  at_entry a la =
      let lt : a / 6 < n = omega arith in
      let lj : a % 6 < 6 = omega arith in
      let at : a ≡ 6 * (a / 6) + a % 6 = omega arith in
      ap (slice_index xs) at ∙ entry-at n ys (a / 6) (a % 6) lt lj

  at_column : (a : ℕ) → a < 10 * n → 4 ≤ a % 10 → slice_index xs (entry_in a) ≡ slice_index ys a
  at_column a la high =
      let lt : a / 10 < n = omega arith in
      let lj : a % 10 - 4 < 6 = omega arith in
      let at : 10 * (a / 10) + 4 + (a % 10 - 4) ≡ a = omega arith in
      entry-at n ys (a / 10) (a % 10 - 4) lt lj ∙ ap (slice_index ys) at

  admissible_entries : IsAdmissible (clash_list Octagon n) ys → IsAdmissibleQuadOctagon n xs
  admissible_entries h = record {
    one_type = λ a b less lb same. at_pair a b less lb (tets a b less lb same);
    one_octagon = λ a b less lb ha hb. at_pair a b less lb (octagons a b ha hb);
  }
    where
      tets : (a b : ℕ) → a < b → b < 6 * n → a / 6 ≡ b / 6 → AreClashing Octagon (column_in a) (column_in b)
      tets a b less lb same =
          let one : column_in a / 10 ≡ column_in b / 10 = omega arith in
          let high_a : 4 ≤ column_in a % 10 = omega arith in
          let high_b : 4 ≤ column_in b % 10 = omega arith in
          inr (one, high_a, high_b)

      octagons : (a b : ℕ) → 3 ≤ a % 6 → 3 ≤ b % 6 → AreClashing Octagon (column_in a) (column_in b)
      octagons a b ha hb =
          let high_a : 7 ≤ column_in a % 10 = omega arith in
          let high_b : 7 ≤ column_in b % 10 = omega arith in
          inl (high_a, high_b)

      at_pair : (a b : ℕ) → a < b → b < 6 * n → AreClashing Octagon (column_in a) (column_in b) → (slice_index xs a ≡ 0) ⊎ (slice_index xs b ≡ 0)
      at_pair a b less lb clash =
          let less' : column_in a < column_in b = omega arith in
          let lb' : column_in b < 10 * n = omega arith in
          let la : a < 6 * n = omega arith in
          elim (none_clash Octagon n ys h (column_in a) (column_in b) less' lb' (clash_from Octagon (column_in a) (column_in b) clash)) [
            | inl z ↦ inl (at_entry a la ∙ z)
            | inr z ↦ inr (at_entry b lb ∙ z)
          ]

  admissible_vector : IsAdmissibleQuadOctagon n xs → IsAdmissible (clash_list Octagon n) ys
  admissible_vector h = none_clash-admissible Octagon n ys (λ a b less lb e. by_kind a b less lb (clash_is Octagon a b e))
    where
      back : (a b : ℕ) → a < b → b < 10 * n → 4 ≤ a % 10 → 4 ≤ b % 10 → (slice_index xs (entry_in a) ≡ 0) ⊎ (slice_index xs (entry_in b) ≡ 0) → (slice_index ys a ≡ 0) ⊎ (slice_index ys b ≡ 0)
      back a b less lb fa fb (inl z) = inl (sym (at_column a (omega arith) fa) ∙ z)
      back a b less lb fa fb (inr z) = inr (sym (at_column b lb fb) ∙ z)

      by_kind : (a b : ℕ) → a < b → b < 10 * n → AreClashing Octagon a b → (slice_index ys a ≡ 0) ⊎ (slice_index ys b ≡ 0)
      by_kind a b less lb (inl o) =
          let fa : 7 ≤ a % 10 = o.0 in
          let fb : 7 ≤ b % 10 = o.1 in
          let less' : entry_in a < entry_in b = omega arith in
          let lb' : entry_in b < 6 * n = omega arith in
          let high_a : 3 ≤ entry_in a % 6 = omega arith in
          let high_b : 3 ≤ entry_in b % 6 = omega arith in
          back a b less lb (omega arith) (omega arith) (h.one_octagon (entry_in a) (entry_in b) less' lb' high_a high_b)
      by_kind a b less lb (inr q) =
          let one : a / 10 ≡ b / 10 = q.0 in
          let fa : 4 ≤ a % 10 = q.1 in
          let fb : 4 ≤ b % 10 = q.2 in
          let less' : entry_in a < entry_in b = omega arith in
          let lb' : entry_in b < 6 * n = omega arith in
          let one' : entry_in a / 6 ≡ entry_in b / 6 = omega arith in
          back a b less lb fa fb (h.one_type (entry_in a) (entry_in b) less' lb' one')

  pub entries_decide : IsAdmissible (clash_list Octagon n) ys ↔ IsAdmissibleQuadOctagon n xs
  entries_decide = (admissible_entries, admissible_vector)
