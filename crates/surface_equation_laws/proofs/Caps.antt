-- The certificate of a table's equations.
use Rattle.std.proofs.Common.{◌≡◌, ℕ, ◌+◌, ◌*◌, ◌/◌, ◌<◌, ◌≤◌, Bool, true, false, List, length, All, Contains, refl, sym, subst, arith}
use Rattle.std.specs.Prelude.{◌==◌, ◌&&◌, if◌then◌else◌, nat_lt}
use Rattle.std.proofs.lemmas.Bool.{and_from, and_parts, or_left, or_right, eq-eqb, lt-ltb, not-false}
use Rattle.std.proofs.lemmas.List.Elements.{All-from_recursion}
use Rattle.table_definitions.specs.Lists.{below, pairs_of}
use Rattle.table_definitions.specs.Table.{Row, IsTable}
use Rattle.table_definitions.proofs.TableLaws.{Among, Among-below, Among-pairs}
use Rattle.table_definitions.proofs.Listed.{contains_among, Among-filter, all_from}
use Rattle.cone_definitions.specs.Rows.{Row as EquationRow}
use Rattle.surface_definitions.specs.Coordinates.{has_triangles, has_octagons, columns, columns_each, is_quad_or_octagon, is_octagon, clash_test, clash_list}
use Rattle.surface_definitions.specs.declared.Coords.{Coords}
use Rattle.surface_definitions.proofs.ColumnCounts.{tet_below, octagon_has}
use Rattle.surface_definitions.specs.Equations.{Equation, row_of}
use Rattle.surface_definitions.specs.QuadEquations.{AreEquations}
use Rattle.surface_equation_laws.specs.Entries.{entry, column_sum}
use Rattle.surface_equation_laws.specs.Weights.{weight}
use Rattle.surface_equation_laws.specs.MatchingSums.{AreAtMost, triangles_of}
use Rattle.surface_equation_laws.specs.EquationSums.{row_bound, HasTermsAtMost}
use Rattle.surface_equation_laws.proofs.Chosen.{sum_by_less}
use Rattle.surface_equation_laws.proofs.QuadColumns.{below_once}
use Rattle.surface_equation_laws.proofs.EquationSums.{equation_triangles, equation_columns}
use Rattle.surface_equation_laws.proofs.Terms.{row_made, equation_terms}
use Rattle.cone_bound_laws.specs.Caps.{HasCaps, plus_in, minus_in, row_weight, column_weight, row_size, magnitude}
use Rattle.surface_equation_laws.specs.Caps.{is_free, group_of, cap_of, groups_of, size_of}
use Rattle.surface_equation_laws.proofs.BoundTerms.{plus_in_less, minus_in_less, weight_less, size_is}

-- whether two columns are quads or octagons of the same tetrahedron
abbrev both_in : Coords → ℕ → ℕ → Bool
both_in coords a b = (a / columns_each coords == b / columns_each coords) && is_quad_or_octagon coords a && is_quad_or_octagon coords b

in_one : (coords : Coords) (a b : ℕ) → a / columns_each coords ≡ b / columns_each coords → is_quad_or_octagon coords a ≡ true → is_quad_or_octagon coords b ≡ true → clash_test coords a b ≡ true
in_one coords a b same x y =
    or_right (is_octagon coords a && is_octagon coords b) (both_in coords a b)
    (and_from ((a / columns_each coords == b / columns_each coords) && is_quad_or_octagon coords a) (is_quad_or_octagon coords b)
    (and_from (a / columns_each coords == b / columns_each coords) (is_quad_or_octagon coords a) (eq-eqb (a / columns_each coords) (b / columns_each coords) same) x) y)

two_octagons : (coords : Coords) (a b : ℕ) → is_octagon coords a ≡ true → is_octagon coords b ≡ true → clash_test coords a b ≡ true
two_octagons coords a b x y = or_left (is_octagon coords a && is_octagon coords b) (both_in coords a b) (and_from (is_octagon coords a) (is_octagon coords b) x y)

-- columns of one group clash
one_group : (coords : Coords) (n a b : ℕ) → a < columns coords n → b < columns coords n → is_quad_or_octagon coords a ≡ true → is_quad_or_octagon coords b ≡ true
    → group_of coords n a ≡ group_of coords n b → clash_test coords a b ≡ true
one_group coords n a b la lb x y same = go (has_octagons coords && is_octagon coords a) (has_octagons coords && is_octagon coords b) refl refl same
  where
    octagon : (c : ℕ) → (has_octagons coords && is_octagon coords c) ≡ true → is_octagon coords c ≡ true
    octagon c h = (and_parts (has_octagons coords) (is_octagon coords c) h).1

    go : (s t : Bool) → (has_octagons coords && is_octagon coords a) ≡ s → (has_octagons coords && is_octagon coords b) ≡ t
        → (if s then n else a / columns_each coords) ≡ (if t then n else b / columns_each coords) → clash_test coords a b ≡ true
    go true true s t e = two_octagons coords a b (octagon a s) (octagon b t)
    go true false s t e = let w : n ≡ b / columns_each coords = e in let l = tet_below coords n b lb in absurd (omega (arith, w, l))
    go false true s t e = let w : a / columns_each coords ≡ n = e in let l = tet_below coords n a la in absurd (omega (arith, w, l))
    go false false s t e = in_one coords a b e x y

group_below : (coords : Coords) (n c : ℕ) → c < columns coords n → group_of coords n c < groups_of coords n
group_below coords n c l = go (has_octagons coords) (is_octagon coords c)
  where
    tet : c / columns_each coords < n
    tet = tet_below coords n c l

    go : (o s : Bool) → (if o && s then n else c / columns_each coords) < (if o then n + 1 else n)
    go true true = omega arith
    go true false = omega (arith, tet)
    go false s = tet

some_cap : (coords : Coords) (n g : ℕ) → 1 ≤ cap_of coords n g
some_cap coords n g = go (has_octagons coords && (g == n))
  where
    go : (s : Bool) → 1 ≤ (if s then 8 else 4)
    go true = omega arith
    go false = omega arith

-- the weight of each column is at most the cap of its group
weight_capped : (coords : Coords) (n c : ℕ) → weight coords c ≤ cap_of coords n (group_of coords n c)
weight_capped coords n c = go (is_octagon coords c) (is_quad_or_octagon coords c) (octagon_has coords c)
  where
    four_or_eight : (s : Bool) → 4 ≤ (if s then 8 else 4)
    four_or_eight true = omega arith
    four_or_eight false = omega arith

    cap_with : Bool → Bool → ℕ
    cap_with o s = if o && ((if o && s then n else c / columns_each coords) == n) then 8 else 4

    go : (s t : Bool) → (s ≡ true → has_octagons coords ≡ true) → (if s then 8 else (if t then 4 else 1)) ≤ cap_with (has_octagons coords) s
    go true t has = subst (λ (o : Bool). 8 ≤ cap_with o true) (sym (has refl)) (subst (λ b. 8 ≤ (if b then 8 else 4)) (sym (eq-eqb n n refl)) (omega arith))
    go false true has = four_or_eight (has_octagons coords && ((if has_octagons coords && false then n else c / columns_each coords) == n))
    go false false has = let l = four_or_eight (has_octagons coords && ((if has_octagons coords && false then n else c / columns_each coords) == n)) in omega arith

size_most : (coords : Coords) (n p m : ℕ) → p ≤ row_bound coords n → m ≤ row_bound coords n → p + m ≤ size_of coords n
size_most coords n p m = go (has_triangles coords) (has_octagons coords)
  where
    row_with : Bool → Bool → ℕ
    row_with t o = if t then (if t then (if o then 4 else 2) else 0) else 6 * n

    go : (t o : Bool) → p ≤ row_with t o → m ≤ row_with t o → p + m ≤ (if t then (if o then 8 else 4) else 12 * n)
    go true true a b = omega arith
    go true false a b = omega arith
    go false o a b = omega arith

module _ (coords : Coords) (rows : List Row) (equations : List EquationRow) (table : IsTable rows) (q : AreEquations coords rows equations) where
  abbrev n : ℕ
  n = length rows

  abbrev width : ℕ
  width = columns coords (length rows)

  triangles : (row : EquationRow) → Contains equations row → AreAtMost row (triangles_of coords (below width)) 1
  triangles row h = equation_triangles coords rows equations row (below width) table q h (below_once width)

  plus_once : (row : EquationRow) → Contains equations row → plus_in (is_free coords) row ≤ 1
  plus_once row h =
      let m : (e : Equation) × (row ≡ row_of width e) = row_made coords rows equations row q h in
      let a : AreAtMost (row_of width m.0) (triangles_of coords (below width)) 1 = subst (λ (w : EquationRow). AreAtMost w (triangles_of coords (below width)) 1) m.1 (triangles row h) in
      let b = a.plus in
      let l = plus_in_less (is_free coords) width m.0 in
      subst (λ (w : EquationRow). plus_in (is_free coords) w ≤ 1) (sym m.1) (omega arith)

  minus_once : (row : EquationRow) → Contains equations row → minus_in (is_free coords) row ≤ 1
  minus_once row h =
      let m : (e : Equation) × (row ≡ row_of width e) = row_made coords rows equations row q h in
      let a : AreAtMost (row_of width m.0) (triangles_of coords (below width)) 1 = subst (λ (w : EquationRow). AreAtMost w (triangles_of coords (below width)) 1) m.1 (triangles row h) in
      let b = a.minus in
      let l = minus_in_less (is_free coords) width m.0 in
      subst (λ (w : EquationRow). minus_in (is_free coords) w ≤ 1) (sym m.1) (omega arith)

  row_light : (j : ℕ) → j < width → (row : EquationRow) → Contains equations row → row_weight j row ≤ magnitude (entry row j)
  row_light j l row h =
      let m : (e : Equation) × (row ≡ row_of width e) = row_made coords rows equations row q h in
      subst (λ (w : EquationRow). row_weight j w ≤ magnitude (entry w j)) (sym m.1) (weight_less j width m.0 l)

  light : (j : ℕ) → j < width → is_free coords j ≡ false → column_weight equations j ≤ cap_of coords n (group_of coords n j)
  light j l f =
      let a : column_weight equations j ≤ column_sum equations j = sum_by_less (row_weight j) (λ row. magnitude (entry row j)) equations (λ row m. row_light j l row (contains_among row equations m)) in
      let b = equation_columns coords rows equations j table q (not-false (is_quad_or_octagon coords j) f) in
      let d = weight_capped coords n j in
      omega arith

  clash : (i j : ℕ) → i < j → j < width → is_free coords i ≡ false → is_free coords j ≡ false → group_of coords n i ≡ group_of coords n j → Contains (clash_list coords n) (i, j)
  unfolding clash_list
  clash i j less l fi fj same =
      let all : List (ℕ × ℕ) = pairs_of (below width) (below width) in
      let li : i < width = omega arith in
      let there : Among {A = ℕ × ℕ} (i, j) all = Among-pairs i j (below width) (below width) (Among-below i width li) (Among-below j width l) in
      let test : clash_test coords i j ≡ true = one_group coords n i j li l (not-false (is_quad_or_octagon coords i) fi) (not-false (is_quad_or_octagon coords j) fj) same in
      contains_among {A = ℕ × ℕ} (i, j) (clash_list coords n)
      (Among-filter {A = ℕ × ℕ} (λ p. nat_lt p.0 p.1 && clash_test coords p.0 p.1) (i, j) all there (and_from (nat_lt i j) (clash_test coords i j) (lt-ltb i j less) test))

  small : (row : EquationRow) → Contains equations row → row_size row ≤ size_of coords n
  small row h =
      let t : HasTermsAtMost row (row_bound coords n) = equation_terms coords rows equations row table q h in
      subst (λ k. k ≤ size_of coords n) (sym (size_is row)) (size_most coords n _ _ t.plus t.minus)

  each : (P : EquationRow → Type 0) → ((row : EquationRow) → Contains equations row → P row) → All P equations
  each P h = All-from_recursion P equations (all_from P equations (λ row m. h row (contains_among row equations m)))

  pub has_caps : HasCaps (columns coords (length rows)) equations (clash_list coords (length rows)) (is_free coords) (group_of coords (length rows)) (cap_of coords (length rows))
      (groups_of coords (length rows)) (size_of coords (length rows))
  has_caps = record {
    plus_once = each (λ row. plus_in (is_free coords) row ≤ 1) plus_once;
    minus_once = each (λ row. minus_in (is_free coords) row ≤ 1) minus_once;
    some_cap = λ g l. some_cap coords (length rows) g;
    light = light;
    grouped = λ j l f. group_below coords (length rows) j l;
    clash = clash;
    small = each (λ row. row_size row ≤ size_of coords (length rows)) small;
  }
