-- The entries of a vertex surface.
use Rattle.std.proofs.Common.{◌≡◌, ◌≢◌, ℕ, ◌<◌, ◌≤◌, ◌⊎◌, inl, inr, List, [], ◌∷◌, Contains, slice_index, Bool, false, sym, arith}
use Rattle.std.proofs.lemmas.Bool.{cases_lt, cases_order}
use Rattle.std.proofs.lemmas.List.Elements.{All-contains}
use Rattle.cone_definitions.specs.Rows.{Row, IsPrimitiveExtreme}
use Rattle.cone_definitions.specs.Surfaces.{Clash, IsAdmissible, IsVertexSurface}
use Rattle.cone_definitions.proofs.Entries.{nonzero_before, entry_past}
use Rattle.cone_bound_laws.specs.Caps.{HasCaps, caps_product}
use Rattle.cone_bound_laws.proofs.Forms.{Column}
use Rattle.cone_bound_laws.proofs.Minors.{IsWithin, minor, one}
use Rattle.cone_bound_laws.proofs.Weights.{product, Sub}
use Rattle.cone_bound_laws.proofs.Bounded.{GraphLike, minors_bounded}
use Rattle.cone_bound_laws.proofs.Built.{column_of, columns_of, Apart, Distinct}
use Rattle.cone_bound_laws.proofs.Parts.{Parts, nothing_taken, GraphLike-taken}
use Rattle.cone_bound_laws.proofs.Ends.{OfSupport}
use Rattle.cone_bound_laws.proofs.Walk.{walked}
use Rattle.cone_bound_laws.proofs.Supports.{Below, support_below, all_fresh}
use Rattle.cone_bound_laws.proofs.Groups.{Alone, OwnGroups, GroupsBelow, bound_product, product_in_groups}
use Rattle.cone_bound_laws.proofs.Light.{weight_is, graph_like, product_most}

-- of a clashing pair one column is 0
pub not_both : (pairs : List Clash) (x : List ℕ) (i j : ℕ) → IsAdmissible pairs x → Contains pairs (i, j) → slice_index x i ≢ 0 → slice_index x j ≢ 0 → ⊥
not_both pairs x i j h c si sj = elim (All-contains (λ (pair : Clash). (slice_index x pair.0 ≡ 0) ⊎ (slice_index x pair.1 ≡ 0)) pairs (i, j) h c) [
  | inl z ↦ si z
  | inr z ↦ sj z
]

module _ (columns : ℕ) (rows : List Row) (pairs : List Clash) (free : ℕ → Bool) (group cap : ℕ → ℕ) (groups size : ℕ) (caps : HasCaps columns rows pairs free group cap groups size)
    (x : List ℕ) (hx : IsVertexSurface columns rows pairs x) where
  ray : IsPrimitiveExtreme columns rows x
  ray = record { extreme = hx.extreme; primitive = hx.primitive }

  before_end : (j : ℕ) → slice_index x j ≢ 0 → j < columns
  before_end j some = nonzero_before x columns j hx.extreme.solution.width some

  all_before : (js : List ℕ) → OfSupport x js → Below columns js
  all_before [] h = tt
  all_before (j ∷ js) h = (before_end j h.0, all_before js h.1)

  other_group : (i j : ℕ) → i ≢ j → slice_index x i ≢ 0 → slice_index x j ≢ 0 → free i ≡ false → free j ≡ false → group i ≢ group j
  other_group i j ne si sj fi fj e = elim (cases_order i j) [
    | inl same ↦ ne same
    | inr (inl less) ↦ not_both pairs x i j hx.admissible (caps.clash i j less (before_end j sj) fi fj e) si sj
    | inr (inr more) ↦ not_both pairs x j i hx.admissible (caps.clash j i more (before_end i si) fj fi (sym e)) sj si
  ]

  alone : (j : ℕ) (js : List ℕ) → slice_index x j ≢ 0 → free j ≡ false → Apart j js → OfSupport x js → Alone free group (group j) js
  unfolding Alone
  alone j [] sj fj a s = tt
  alone j (i ∷ js) sj fj a s = ((λ fi. other_group i j (λ e. a.0 (sym e)) s.0 sj fi fj), alone j js sj fj a.1 s.1)

  own_groups : (js : List ℕ) → Distinct js → OfSupport x js → OwnGroups free group js
  unfolding OwnGroups Distinct
  own_groups [] d s = tt
  own_groups (j ∷ js) d s = ((λ f. alone j js s.0 f d.0 s.1), own_groups js d.1 s.1)

  groups_below : (js : List ℕ) → OfSupport x js → GroupsBelow free group groups js
  unfolding GroupsBelow
  groups_below [] s = tt
  groups_below (j ∷ js) s = ((λ f. caps.grouped j (before_end j s.0) f), groups_below js s.1)

  within : (taken left : List Row) → Parts rows taken left → (js : List ℕ) → Distinct js → OfSupport x js → (ys : List Column) → Sub ys (columns_of columns free js) →
      IsWithin (caps_product cap groups) ((minor taken).up ys) ((minor taken).down ys)
  within taken left parts js d s ys sub =
      let like : GraphLike ys taken = GraphLike-taken rows taken left ys parts (graph_like columns free rows caps.plus_once caps.minus_once js d (all_before js s) ys sub) in
      let b : IsWithin (product taken ys) ((minor taken).up ys) ((minor taken).down ys) = minors_bounded taken ys like in
      let p : product taken ys ≤ bound_product free group cap js = product_most columns free group cap taken (λ j l f. caps.some_cap (group j) (caps.grouped j l f))
      (λ j l f. omega (arith, parts.weighed (column_of columns free j), weight_is columns free j l rows, caps.light j l f)) js (all_before js s) ys sub in
      let q : bound_product free group cap js ≤ caps_product cap groups = product_in_groups groups free group cap caps.some_cap js (own_groups js d s) (groups_below js s) in
      record { above = omega (arith, b.above, p, q); below = omega (arith, b.below, p, q) }

  started : (minor []).up (columns_of columns free []) ≢ (minor []).down (columns_of columns free [])
  unfolding minor one
  started e = omega arith

  pub entries : (j : ℕ) → slice_index x j ≤ caps_product cap groups
  unfolding Distinct
  entries = let s = support_below columns x in walked columns free rows x ray (caps_product cap groups) within s.list [] [] rows (nothing_taken rows) started tt tt s.of_support (all_fresh s.list s.distinct)
      (λ i a b. elim (cases_lt i columns) [ inl l ↦ s.off i l b | inr l ↦ entry_past x columns i hx.extreme.solution.width l ])
