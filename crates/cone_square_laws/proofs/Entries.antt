-- The entries of a vertex surface.
use Rattle.std.proofs.Common.{◌≢◌, ℕ, ◌*◌, ◌<◌, ◌≤◌, inl, inr, List, [], ◌∷◌, slice_index, sym, arith, mul-le-mul}
use Rattle.std.proofs.lemmas.Bool.{cases_lt, cases_order}
use Rattle.cone_definitions.specs.Rows.{Row, IsPrimitiveExtreme}
use Rattle.cone_definitions.specs.Surfaces.{Clash, IsVertexSurface}
use Rattle.cone_definitions.proofs.Entries.{nonzero_before, entry_past}
use Rattle.cone_bound_laws.specs.Caps.{caps_product}
use Rattle.cone_bound_laws.proofs.Forms.{Column}
use Rattle.cone_bound_laws.proofs.Minors.{IsWithin, minor, one}
use Rattle.cone_bound_laws.proofs.Weights.{Sub}
use Rattle.cone_bound_laws.proofs.Built.{column_of, columns_of, Apart, Distinct}
use Rattle.cone_bound_laws.proofs.Parts.{Parts, nothing_taken}
use Rattle.cone_bound_laws.proofs.Ends.{OfSupport}
use Rattle.cone_bound_laws.proofs.Walk.{walked}
use Rattle.cone_bound_laws.proofs.Supports.{Below, support_below, all_fresh}
use Rattle.cone_bound_laws.proofs.Entries.{not_both}
use Rattle.cone_bound_laws.proofs.Groups.{Alone, OwnGroups, GroupsBelow, bound_product, product_in_groups}
use Rattle.cone_square_laws.specs.Squares.{HasSquareCaps}
use Rattle.cone_square_laws.proofs.Minors.{vectors, minors_within, Root, root_of}
use Rattle.cone_square_laws.proofs.Products.{squares_product}
use Rattle.cone_square_laws.proofs.Columns.{none_free, squared, weight-squared, squares_are, product_most}

module _ (columns : ℕ) (rows : List Row) (pairs : List Clash) (group cap : ℕ → ℕ) (groups size : ℕ) (caps : HasSquareCaps columns rows pairs group cap groups size)
    (x : List ℕ) (hx : IsVertexSurface columns rows pairs x) where
  ray : IsPrimitiveExtreme columns rows x
  ray = record { extreme = hx.extreme; primitive = hx.primitive }

  before_end : (j : ℕ) → slice_index x j ≢ 0 → j < columns
  before_end j some = nonzero_before x columns j hx.extreme.solution.width some

  all_before : (js : List ℕ) → OfSupport x js → Below columns js
  all_before [] h = tt
  all_before (j ∷ js) h = (before_end j h.0, all_before js h.1)

  other_group : (i j : ℕ) → i ≢ j → slice_index x i ≢ 0 → slice_index x j ≢ 0 → group i ≢ group j
  other_group i j ne si sj e = elim (cases_order i j) [
    | inl same ↦ ne same
    | inr (inl less) ↦ not_both pairs x i j hx.admissible (caps.clash i j less (before_end j sj) e) si sj
    | inr (inr more) ↦ not_both pairs x j i hx.admissible (caps.clash j i more (before_end i si) (sym e)) sj si
  ]

  alone : (j : ℕ) (js : List ℕ) → slice_index x j ≢ 0 → Apart j js → OfSupport x js → Alone none_free group (group j) js
  unfolding Alone
  alone j [] sj a s = tt
  alone j (i ∷ js) sj a s = ((λ fi. other_group i j (λ e. a.0 (sym e)) s.0 sj), alone j js sj a.1 s.1)

  own_groups : (js : List ℕ) → Distinct js → OfSupport x js → OwnGroups none_free group js
  unfolding OwnGroups Distinct
  own_groups [] d s = tt
  own_groups (j ∷ js) d s = ((λ f. alone j js s.0 d.0 s.1), own_groups js d.1 s.1)

  groups_below : (js : List ℕ) → OfSupport x js → GroupsBelow none_free group groups js
  unfolding GroupsBelow
  groups_below [] s = tt
  groups_below (j ∷ js) s = ((λ f. caps.grouped j (before_end j s.0)), groups_below js s.1)

  abbrev root : Root (caps_product cap groups)
  root = root_of (caps_product cap groups)

  within : (taken left : List Row) → Parts rows taken left → (js : List ℕ) → Distinct js → OfSupport x js → (ys : List Column) → Sub ys (columns_of columns none_free js) →
      IsWithin root.root ((minor taken).up ys) ((minor taken).down ys)
  within taken left parts js d s ys sub =
      let p : squares_product Row taken (vectors ys) ≤ bound_product none_free group cap js = product_most columns group cap taken (λ j l. caps.some_cap (group j) (caps.grouped j l))
      (λ j l. omega (
        arith,
        parts.weighed (squared (column_of columns none_free j)),
        weight-squared (column_of columns none_free j) taken,
        weight-squared (column_of columns none_free j) rows,
        squares_are columns j l rows,
        caps.light j l,
      )) js (all_before js s) ys sub in
      let q : bound_product none_free group cap js ≤ caps_product cap groups = product_in_groups groups none_free group cap caps.some_cap js (own_groups js d s) (groups_below js s) in
      minors_within taken ys root.root (omega (arith, p, q, root.exceeded))

  started : (minor []).up (columns_of columns none_free []) ≢ (minor []).down (columns_of columns none_free [])
  unfolding minor one
  started e = omega arith

  pub entries : (j : ℕ) → slice_index x j ≤ root.root
  unfolding Distinct
  entries = let s = support_below columns x in walked columns none_free rows x ray root.root within s.list [] [] rows (nothing_taken rows) started tt tt s.of_support (all_fresh s.list s.distinct)
      (λ i a b. elim (cases_lt i columns) [ inl l ↦ s.off i l b | inr l ↦ entry_past x columns i hx.extreme.solution.width l ])

  pub entries_squared : (j : ℕ) → slice_index x j * slice_index x j ≤ caps_product cap groups
  entries_squared j = omega (arith, mul-le-mul (entries j) (entries j), root.within)
