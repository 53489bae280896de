-- A vector is admissible if and only if one of any two clashing columns is 0 in it.
use Rattle.std.proofs.Common.{◌≡◌, ◌≢◌, ℕ, ◌/◌, ◌%◌, ◌<◌, ◌≤◌, true, List, ◌⊎◌, inl, inr, slice_index, sym, arith}
use Rattle.std.specs.Prelude.{◌==◌, ◌&&◌, nat_lt}
use Rattle.std.proofs.lemmas.Bool.{cases_lt, ltb-true, lt-ltb, eq-eqb, le-leb, and_parts, and_from, or_right, eqb-true, leb-true, or_cases, or_left}
use Rattle.std.proofs.lemmas.List.Elements.{All-from_recursion, recursion_from_All}
use Rattle.cone_definitions.specs.Surfaces.{IsAdmissible}
use Rattle.table_definitions.specs.Lists.{below, pairs_of}
use Rattle.table_definitions.proofs.TableLaws.{Among-below, Among-pairs}
use Rattle.table_definitions.proofs.Listed.{Among-filter, filter-among, pairs-among, below-among, all_from, all_at}
use Rattle.surface_definitions.specs.Coordinates.{before_octagons, columns, columns_each, triangles_each, clash_list, clash_test, is_quad_or_octagon, is_octagon}
use Rattle.surface_definitions.specs.declared.Coords.{Coords}

abbrev pub NoneClash : (coords : Coords) (n : ℕ) (xs : List ℕ) → Type 0
NoneClash coords n xs = (a b : ℕ) → a < b → b < columns coords n → clash_test coords a b ≡ true → (slice_index xs a ≡ 0) ⊎ (slice_index xs b ≡ 0)

-- two quads or octagons of one tetrahedron clash
pub one_tetrahedron : (coords : Coords) (a b : ℕ) → a / columns_each coords ≡ b / columns_each coords → triangles_each coords ≤ a % columns_each coords → triangles_each coords ≤ b % columns_each coords
    → clash_test coords a b ≡ true
one_tetrahedron coords a b e fa fb =
    or_right (is_octagon coords a && is_octagon coords b) (((a / columns_each coords == b / columns_each coords) && is_quad_or_octagon coords a) && is_quad_or_octagon coords b)
    (and_from ((a / columns_each coords == b / columns_each coords) && is_quad_or_octagon coords a) (is_quad_or_octagon coords b)
    (and_from (a / columns_each coords == b / columns_each coords) (is_quad_or_octagon coords a) (eq-eqb (a / columns_each coords) (b / columns_each coords) e)
    (le-leb (triangles_each coords) (a % columns_each coords) fa)) (le-leb (triangles_each coords) (b % columns_each coords) fb))

-- two columns of octagons, or of quads and octagons of one tetrahedron
abbrev pub AreClashing : Coords → ℕ → ℕ → Type 0
AreClashing coords a b =
    ((before_octagons coords ≤ a % columns_each coords) × (before_octagons coords ≤ b % columns_each coords))
    ⊎ ((a / columns_each coords ≡ b / columns_each coords) × (triangles_each coords ≤ a % columns_each coords) × (triangles_each coords ≤ b % columns_each coords))

pub clash_is : (coords : Coords) (a b : ℕ) → clash_test coords a b ≡ true → AreClashing coords a b
clash_is coords a b e = by_kind (or_cases (is_octagon coords a && is_octagon coords b) (((a / columns_each coords == b / columns_each coords) && is_quad_or_octagon coords a) && is_quad_or_octagon coords b) e)
  where
    by_kind : ((is_octagon coords a && is_octagon coords b) ≡ true) ⊎ ((((a / columns_each coords == b / columns_each coords) && is_quad_or_octagon coords a) && is_quad_or_octagon coords b) ≡ true) → AreClashing coords a b
    by_kind (inl o) = let p = and_parts (is_octagon coords a) (is_octagon coords b) o in inl (leb-true (before_octagons coords) (a % columns_each coords) p.0, leb-true (before_octagons coords) (b % columns_each coords) p.1)
    by_kind (inr q) =
        let p = and_parts ((a / columns_each coords == b / columns_each coords) && is_quad_or_octagon coords a) (is_quad_or_octagon coords b) q in
        let r = and_parts (a / columns_each coords == b / columns_each coords) (is_quad_or_octagon coords a) p.0 in
        inr (eqb-true (a / columns_each coords) (b / columns_each coords) r.0, leb-true (triangles_each coords) (a % columns_each coords) r.1, leb-true (triangles_each coords) (b % columns_each coords) p.1)

pub clash_from : (coords : Coords) (a b : ℕ) → AreClashing coords a b → clash_test coords a b ≡ true
clash_from coords a b (inl o) =
    or_left (is_octagon coords a && is_octagon coords b) (((a / columns_each coords == b / columns_each coords) && is_quad_or_octagon coords a) && is_quad_or_octagon coords b)
    (and_from (is_octagon coords a) (is_octagon coords b) (le-leb (before_octagons coords) (a % columns_each coords) o.0) (le-leb (before_octagons coords) (b % columns_each coords) o.1))
clash_from coords a b (inr q) = one_tetrahedron coords a b q.0 q.1 q.2

module _ (coords : Coords) (n : ℕ) (xs : List ℕ) where
  abbrev m : ℕ
  m = columns coords n

  pub none_clash : IsAdmissible (clash_list coords n) xs → NoneClash coords n xs
  unfolding clash_list
  none_clash h a b less lb e =
      all_at (λ (q : ℕ × ℕ). (slice_index xs q.0 ≡ 0) ⊎ (slice_index xs q.1 ≡ 0)) (clash_list coords n) (a, b)
      (recursion_from_All (λ (p : ℕ × ℕ). (slice_index xs p.0 ≡ 0) ⊎ (slice_index xs p.1 ≡ 0)) (clash_list coords n) h)
      (Among-filter (λ (p : ℕ × ℕ). nat_lt p.0 p.1 && clash_test coords p.0 p.1) (a, b) (pairs_of (below m) (below m))
      (Among-pairs a b (below m) (below m) (Among-below a m (omega arith)) (Among-below b m lb)) (and_from (nat_lt a b) (clash_test coords a b) (lt-ltb a b less) e))

  pub none_clash-admissible : NoneClash coords n xs → IsAdmissible (clash_list coords n) xs
  unfolding clash_list
  none_clash-admissible h =
      All-from_recursion (λ (p : ℕ × ℕ). (slice_index xs p.0 ≡ 0) ⊎ (slice_index xs p.1 ≡ 0)) (clash_list coords n)
      (all_from (λ (p : ℕ × ℕ). (slice_index xs p.0 ≡ 0) ⊎ (slice_index xs p.1 ≡ 0)) (clash_list coords n) (λ p a.
      let i = filter-among (λ (p : ℕ × ℕ). nat_lt p.0 p.1 && clash_test coords p.0 p.1) p (pairs_of (below m) (below m)) a in
      let ab = pairs-among {A = ℕ} {B = ℕ} p (below m) (below m) i.0 in
      let t = and_parts (nat_lt p.0 p.1) (clash_test coords p.0 p.1) i.1 in
      h p.0 p.1 (ltb-true p.0 p.1 t.0) (below-among p.1 m ab.1) t.1))

  -- of two quads or octagons of one tetrahedron one is 0
  pub clash_zero : IsAdmissible (clash_list coords n) xs → (a b : ℕ) → a < b → b < columns coords n → a / columns_each coords ≡ b / columns_each coords
      → triangles_each coords ≤ a % columns_each coords → triangles_each coords ≤ b % columns_each coords → (slice_index xs a ≡ 0) ⊎ (slice_index xs b ≡ 0)
  clash_zero h a b less lb t fa fb = none_clash h a b less lb (one_tetrahedron coords a b t fa fb)

  -- so if one is not 0, the other is 0
  pub other_zero : IsAdmissible (clash_list coords n) xs → (a b : ℕ) → a ≢ b → a < columns coords n → b < columns coords n → a / columns_each coords ≡ b / columns_each coords
      → triangles_each coords ≤ a % columns_each coords → triangles_each coords ≤ b % columns_each coords → 0 < slice_index xs a → slice_index xs b ≡ 0
  other_zero h a b ne la lb t fa fb some = elim (cases_lt a b) [
    | inl l ↦ elim (clash_zero h a b l lb t fa fb) [ inl z ↦ absurd (omega arith) | inr z ↦ z ]
    | inr m ↦ elim (clash_zero h b a (omega arith) la (sym t) fb fa) [ inl z ↦ z | inr z ↦ absurd (omega arith) ]
  ]
