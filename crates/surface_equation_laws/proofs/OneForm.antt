-- The form for all coordinates agrees with the definitions for each kind of coordinates.
use Rattle.std.proofs.Common.{◌≡◌, ℕ, ◌+◌, ◌/◌, ◌%◌, ◌<◌, ◌≤◌, Bool, true, false, not, List, length, inl, inr, refl, sym, ap, ◌∙◌, subst, arith}
use Rattle.std.specs.Prelude.{◌==◌, ◌&&◌, nat_lt, nat_le, if◌then◌else◌}
use Rattle.std.proofs.lemmas.Bool.{ne_eqb, and_parts, false≢true, false_from_ne_true, leb-true, le-leb, lt-ltb, le-ltb, cases_lt}
use Rattle.cone_definitions.specs.Rows.{Row as EquationRow}
use Rattle.table_definitions.specs.Table.{Row, IsTable}
use Rattle.surface_definitions.specs.Coordinates.{has_octagons, columns, columns_each, triangles_each, is_octagon, clash_list}
use Rattle.surface_definitions.specs.declared.Coords.{Coords}
use Rattle.surface_definitions.proofs.ColumnCounts.{octagon_has}
use Rattle.surface_definitions.specs.QuadEquations.{AreEquations}
use Rattle.cone_bound_laws.specs.Caps.{HasCaps, column_weight}
use Rattle.surface_equation_laws.specs.Caps.{is_free, group_of, cap_of, groups_of, size_of}
use Rattle.surface_equation_laws.specs.OneForm.{is_triangle, group_in, cap_in}
use Rattle.surface_equation_laws.proofs.Caps.{has_caps}

same_test : (a b : ℕ) → nat_lt a b ≡ not (nat_le b a)
same_test a b = elim (cases_lt a b) [
  | inl l ↦ lt-ltb a b l ∙ sym (ap not (false_from_ne_true (nat_le b a) (λ t. let m : b ≤ a = leb-true b a t in omega arith)))
  | inr m ↦ le-ltb a b m ∙ sym (ap not (le-leb b a m))
]

same_free : (coords : Coords) (c : ℕ) → is_triangle coords c ≡ is_free coords c
same_free coords c = same_test (c % columns_each coords) (triangles_each coords)

no_octagon : (n k : ℕ) (b : Bool) → (b ≡ true → ⊥) → (if b then n else k) ≡ k
no_octagon n k true h = absurd (h refl)
no_octagon n k false h = refl

same_group : (coords : Coords) (n c : ℕ) → group_in coords n c ≡ group_of coords n c
same_group coords n c = go (is_octagon coords c) (octagon_has coords c)
  where
    go : (s : Bool) → (s ≡ true → has_octagons coords ≡ true) → (if s then n else c / columns_each coords) ≡ (if has_octagons coords && s then n else c / columns_each coords)
    go true has = ap (λ (o : Bool). if o && true then n else c / columns_each coords) (sym (has refl))
    go false has = sym (no_octagon n (c / columns_each coords) (has_octagons coords && false) (λ t. false≢true ((and_parts (has_octagons coords) false t).1)))

same_cap : (coords : Coords) (n g : ℕ) → g < groups_of coords n → cap_in n g ≡ cap_of coords n g
same_cap coords n g = go (has_octagons coords)
  where
    go : (o : Bool) → g < (if o then n + 1 else n) → ◌≡◌ {A = ℕ} (if g == n then 8 else 4) (if o && (g == n) then 8 else 4)
    go true l = refl
    go false l = ap (λ b. if b then 8 else 4) (ne_eqb g n (λ e. omega arith))

module _ (coords : Coords) (rows : List Row) (equations : List EquationRow) (table : IsTable rows) (q : AreEquations coords rows equations) where
  abbrev n : ℕ
  n = length rows

  caps : HasCaps (columns coords (length rows)) equations (clash_list coords (length rows)) (is_free coords) (group_of coords (length rows)) (cap_of coords (length rows))
      (groups_of coords (length rows)) (size_of coords (length rows))
  caps = has_caps coords rows equations table q

  free_are : is_free coords ≡ is_triangle coords
  free_are = λ i c. sym (same_free coords c) i

  groups_are : group_of coords n ≡ group_in coords n
  groups_are = λ i c. sym (same_group coords n c) i

  capped : (j : ℕ) → j < columns coords n → is_free coords j ≡ false → column_weight equations j ≤ cap_in n (group_of coords n j)
  capped j l f = subst (λ k. column_weight equations j ≤ k) (sym (same_cap coords n (group_of coords n j) (caps.grouped j l f))) (caps.light j l f)

  capped_form : HasCaps (columns coords (length rows)) equations (clash_list coords (length rows)) (is_free coords) (group_of coords (length rows)) (cap_in (length rows))
      (groups_of coords (length rows)) (size_of coords (length rows))
  capped_form = record {
    plus_once = caps.plus_once;
    minus_once = caps.minus_once;
    some_cap = λ g l. subst (λ k. 1 ≤ k) (sym (same_cap coords n g l)) (caps.some_cap g l);
    light = capped;
    grouped = caps.grouped;
    clash = caps.clash;
    small = caps.small;
  }

  pub one_form : HasCaps (columns coords (length rows)) equations (clash_list coords (length rows)) (is_triangle coords) (group_in coords (length rows)) (cap_in (length rows))
      (groups_of coords (length rows)) (size_of coords (length rows))
  one_form =
      let Form : (ℕ → Bool) → (ℕ → ℕ) → Type 0 = λ free group. HasCaps (columns coords (length rows)) equations (clash_list coords (length rows)) free group (cap_in (length rows))
      (groups_of coords (length rows)) (size_of coords (length rows)) in
      subst (λ (free : ℕ → Bool). Form free (group_in coords n)) free_are (subst (λ (group : ℕ → ℕ). Form (is_free coords) group) groups_are capped_form)
