-- No number of an enumeration of a table is above the bound.
use Rattle.std.proofs.Common.{◌≡◌, ℕ, ◌*◌, ◌≤◌, List, [], ◌++◌, length, take, length-append, slice_index, slice_index_or, sym, ap, ◌∙◌, subst, arith}
use Rattle.std.specs.List.{range_with_len}
use Rattle.std.specs.List.Sorted.{IsPermutation}
use Rattle.std.proofs.lemmas.List.{take_all, take-append-le, take-map}
use Rattle.cone_definitions.specs.Rows.{Row as EquationRow}
use Rattle.cone_definitions.specs.Surfaces.{Clash, IsVertexSurface, IsSurfaceList}
use Rattle.cone_definitions.specs.Elimination.{Step, Named, IsWithin, in_order, step_at}
use Rattle.cone_definitions.specs.Orders.{AreNamed}
use Rattle.cone_definitions.specs.Listings.{Enumeration, AreWithin, IsListed, ExceedsLimit}
use Rattle.cone_definitions.proofs.Large.{none_is_named_lem}
use Rattle.cone_definitions.proofs.PastLimit.{step_same, length-in_order}
use Rattle.table_definitions.specs.Table.{Row, IsTable}
use Rattle.surface_definitions.specs.Coordinates.{columns, clash_list}
use Rattle.surface_definitions.specs.declared.Coords.{Coords}
use Rattle.surface_definitions.specs.QuadEquations.{AreEquations}
use Rattle.cone_bound_laws.specs.Caps.{HasCaps, caps_product}
use Rattle.cone_bound_laws.proofs.Entries.{entries}
use Rattle.cone_bound_laws.proofs.Numbers.{are_within}
use Rattle.cone_row_laws.specs.Listings.{IsBounded}
use Rattle.cone_row_laws.proofs.Listings.{listed}
use Rattle.surface_equation_laws.specs.Caps.{is_free, group_of, cap_of, groups_of, size_of}
use Rattle.surface_equation_laws.specs.OneForm.{is_triangle, group_in, cap_in}
use Rattle.surface_equation_laws.specs.Bounds.{IsOfTable, entry_bound, number_bound}
use Rattle.surface_equation_laws.proofs.Caps.{has_caps}
use Rattle.surface_equation_laws.proofs.OneForm.{one_form}
use Rattle.surface_equation_laws.proofs.Powers.{products, one_products, squares}
use Rattle.surface_equation_laws.proofs.Extended.{extended}

pub entries_small : (coords : Coords) (rows : List Row) (equations : List EquationRow) → IsTable rows → AreEquations coords rows equations → (x : List ℕ)
    → IsVertexSurface (columns coords (length rows)) equations (clash_list coords (length rows)) x → (j : ℕ) → slice_index x j ≤ entry_bound coords (length rows)
entries_small coords rows equations table q x surface j =
    let n : ℕ = length rows in
    subst (λ k. slice_index x j ≤ k) (products coords n)
    (entries (columns coords n) equations (clash_list coords n) (is_free coords) (group_of coords n) (cap_of coords n) (groups_of coords n) (size_of coords n) (has_caps coords rows equations table q) x surface j)

pub bounds : (coords : Coords) (n : ℕ) → (caps_product (cap_of coords n) (groups_of coords n) ≡ entry_bound coords n)
    × (size_of coords n * (entry_bound coords n * entry_bound coords n) ≡ number_bound coords n)
bounds coords n = (products coords n, squares coords n)

module _ (coords : Coords) (rows : List Row) (e : Enumeration) (t : IsOfTable coords rows e) (room : number_bound coords (length rows) ≤ e.limit) where
  abbrev n : ℕ
  n = length rows

  caps : HasCaps e.system.columns e.system.rows e.pairs (is_free coords) (group_of coords n) (cap_of coords n) (groups_of coords n) (size_of coords n)
  caps =
      let Caps : ℕ → List Clash → Type 0 = λ width pairs. HasCaps width e.system.rows pairs (is_free coords) (group_of coords n) (cap_of coords n) (groups_of coords n) (size_of coords n) in
      subst (λ width. Caps width e.pairs) (sym t.columns) (subst (λ (pairs : List Clash). Caps (columns coords n) pairs) (sym t.pairs) (has_caps coords rows e.system.rows t.table t.equations))

  most_of : size_of coords n * (caps_product (cap_of coords n) (groups_of coords n) * caps_product (cap_of coords n) (groups_of coords n)) ≤ e.limit
  most_of = subst (λ p. size_of coords n * (p * p) ≤ e.limit) (sym (products coords n)) (subst (λ k. k ≤ e.limit) (sym (squares coords n)) room)

  pub within : (taken : List ℕ) → IsPermutation (range_with_len 0 (length e.system.rows)) taken → AreWithin e.limit e.system e.pairs taken
  within taken perm = are_within e.limit e.system e.pairs (is_free coords) (group_of coords n) (cap_of coords n) (groups_of coords n) (size_of coords n) caps most_of taken perm

  pub bounded : IsBounded e (is_free coords) (group_of coords n) (cap_of coords n) (groups_of coords n) (size_of coords n)
  bounded = record { caps = caps; most = most_of }

  pub are_listed : (taken : List ℕ) (list : List (List ℕ)) → IsPermutation (range_with_len 0 (length e.system.rows)) taken → AreNamed e.order e.system taken
      → IsSurfaceList e.system.columns e.system.rows e.pairs list → IsListed e taken list
  are_listed taken list perm named surfaces = listed e (is_free coords) (group_of coords n) (cap_of coords n) (groups_of coords n) (size_of coords n) bounded taken list perm named surfaces

  -- the rows that an order names one after another are within the limit
  pub named_within : (taken : List ℕ) → AreNamed e.order e.system taken → AreWithin e.limit e.system e.pairs taken
  named_within taken named k l =
      let x : (rest : List ℕ) × IsPermutation (range_with_len 0 (length e.system.rows)) (taken ++ rest) = extended e.order e.system taken named in
      let longer : List ℕ = taken ++ x.0 in
      let same : taken ≡ take (length taken) longer = sym (take-append-le (length taken) taken x.0 (omega arith) ∙ take_all (length taken) taken (omega arith)) in
      let first : in_order e.system.rows taken ≡ take (length taken) (in_order e.system.rows longer) =
      ap (in_order e.system.rows) same ∙ sym (take-map (λ number. slice_index_or e.system.rows number []) (length taken) longer) in
      let a = length-append taken x.0 in
      let b = length-in_order e.system.rows longer in
      let s : step_at e.system.columns (take (length taken) (in_order e.system.rows longer)) e.pairs k ≡ step_at e.system.columns (in_order e.system.rows longer) e.pairs k =
      step_same e.system.columns (in_order e.system.rows longer) e.pairs (length taken) k l (omega arith) in
      subst (λ (rs : List EquationRow). IsWithin e.limit (step_at e.system.columns rs e.pairs k)) (sym first)
      (subst (λ (step : Step). IsWithin e.limit step) (sym s) (within longer x.1 k (omega arith)))

  pub not_past : (taken : List ℕ) (kind : Named) → ¬ ExceedsLimit e taken kind
  not_past taken kind h =
      none_is_named_lem e.limit e.system.columns (in_order e.system.rows taken) e.pairs
      (λ k l. named_within taken h.named k (let b = length-in_order e.system.rows taken in omega arith)) h.step kind h.large

  one_caps : HasCaps e.system.columns e.system.rows e.pairs (is_triangle coords) (group_in coords n) (cap_in n) (groups_of coords n) (size_of coords n)
  one_caps =
      let Caps : ℕ → List Clash → Type 0 = λ width pairs. HasCaps width e.system.rows pairs (is_triangle coords) (group_in coords n) (cap_in n) (groups_of coords n) (size_of coords n) in
      subst (λ width. Caps width e.pairs) (sym t.columns) (subst (λ (pairs : List Clash). Caps (columns coords n) pairs) (sym t.pairs) (one_form coords rows e.system.rows t.table t.equations))

  pub one_bounded : IsBounded e (is_triangle coords) (group_in coords n) (cap_in n) (groups_of coords n) (size_of coords n)
  one_bounded = record {
    caps = one_caps;
    most = subst (λ p. size_of coords n * (p * p) ≤ e.limit) (sym (one_products coords n)) (subst (λ k. k ≤ e.limit) (sym (squares coords n)) room);
  }
