-- Columns of a tetrahedron: how many there are, and the tetrahedron and index of each.
use Rattle.std.proofs.Common.{◌≡◌, ℕ, zero, ◌+◌, ◌*◌, ◌/◌, ◌%◌, ◌<◌, ◌≤◌, Bool, true, false, refl, ap, ◌∙◌, subst, arith}
use Rattle.std.specs.Prelude.{if◌then◌else◌}
use Rattle.std.proofs.Math.Nat.{mul_comm, mod-lt, mod-eq_of_lt, div-lt_iff_lt-mul, mul-add-mod_self_left}
use Rattle.std.proofs.lemmas.Bool.{leb-true}
use Rattle.std.proofs.lemmas.Nat.{div-mul-add, mul-add-lt}
use Rattle.basic_lemmas.proofs.Truths.{chosen_at_most}
use Rattle.surface_definitions.specs.Coordinates.{has_triangles, has_octagons, triangles_each, before_octagons, octagons_each, columns_each, columns, is_octagon}
use Rattle.surface_definitions.specs.declared.Coords.{Coords}

pub few_triangles : (coords : Coords) → triangles_each coords ≤ 4
few_triangles coords = chosen_at_most (has_triangles coords) 4

pub few_octagons : (coords : Coords) → octagons_each coords ≤ 3
few_octagons coords = chosen_at_most (has_octagons coords) 3

-- three are quads
pub some_columns : (coords : Coords) → 3 ≤ columns_each coords
some_columns coords = omega arith

pub few_columns : (coords : Coords) → columns_each coords ≤ 10
few_columns coords = omega (arith, few_triangles coords, few_octagons coords)

-- a column's index is below the number of columns, and its tetrahedron is one of the n
pub index_below : (coords : Coords) (c : ℕ) → c % columns_each coords < columns_each coords
index_below coords c = mod-lt c (some coords)
  where
    some : (coords : Coords) → zero < columns_each coords
    some coords = omega arith

pub tet_below : (coords : Coords) (n c : ℕ) → c < columns coords n → c / columns_each coords < n
tet_below coords n c l =
    let some : zero < columns_each coords = omega arith in
    (div-lt_iff_lt-mul some).1 (subst (λ k. c < k) (mul_comm (columns_each coords) n) l)

-- the column with index k of tetrahedron t
pub tet_of_index : (coords : Coords) (t k : ℕ) → k < columns_each coords → (columns_each coords * t + k) / columns_each coords ≡ t
tet_of_index coords t k l = ap (λ m. (m + k) / columns_each coords) (mul_comm (columns_each coords) t) ∙ div-mul-add t (columns_each coords) k l

pub index_of_index : (coords : Coords) (t k : ℕ) → k < columns_each coords → (columns_each coords * t + k) % columns_each coords ≡ k
index_of_index coords t k l = mul-add-mod_self_left (columns_each coords) t k ∙ mod-eq_of_lt l

pub column_of_index : (coords : Coords) (n t k : ℕ) → t < n → k < columns_each coords → columns_each coords * t + k < columns coords n
column_of_index coords n t k lt lk =
    subst (λ m. m + k < columns coords n) (mul_comm t (columns_each coords)) (mul-add-lt t (columns_each coords) k n lt lk)

-- a column of octagons is one of coordinates with octagons
pub octagon_has : (coords : Coords) (c : ℕ) → is_octagon coords c ≡ true → has_octagons coords ≡ true
octagon_has coords c is = go (has_octagons coords) refl
  where
    go : (b : Bool) → has_octagons coords ≡ b → has_octagons coords ≡ true
    go true e = e
    go false e =
        let none : octagons_each coords ≡ 0 = ap (λ b. if b then 3 else 0) e in
        let low : before_octagons coords ≤ c % columns_each coords = leb-true (before_octagons coords) (c % columns_each coords) is in
        let high : c % columns_each coords < columns_each coords = index_below coords c in
        absurd (omega (arith, none, low, high))
