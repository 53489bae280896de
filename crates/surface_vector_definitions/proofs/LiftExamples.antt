-- Examples of lifts: one that exists, a class that has none, and one that exceeds the limit.
use Rattle.surface_definitions.proofs.Computed.{computed}
use Rattle.std.proofs.Common.{◌≡◌, ℕ, zero, suc, ◌+◌, ◌*◌, ◌<◌, Bool, true, List, [], ◌∷◌, Contains, Ok, Err, refl, sym, ap, ◌∙◌, arith}
use Rattle.std.specs.Prelude.{◌==◌, slice_index, sum_by, map}
use Rattle.std.specs.List.{list_all}
use Rattle.std.proofs.lemmas.Bool.{and_parts, eqb-true, ltb-true, leb-true}
use Rattle.text_definitions.specs.Written.{limit}
use Rattle.table_definitions.specs.Permutation.{others}
use Rattle.table_definitions.specs.Table.{Gluing, Row, Face}
use Rattle.table_definitions.proofs.Tables.{sphere, figure_eight}
use Rattle.surface_definitions.specs.declared.Coords.TheVariants.{Standard}
use Rattle.surface_definitions.specs.Equations.{glued_pairs, matching, Holds}
use Rattle.surface_definitions.specs.Lift.{IsLiftAt}
use Rattle.surface_vector_definitions.specs.Lifting.{HasLiftAt, IsLiftAnswer}
use Rattle.surface_vector_definitions.specs.declared.LiftFault.TheVariants.{Large, NoLift}
use Rattle.surface_vector_definitions.proofs.Evaluators.{skeleton_of}

pub contains_test : {A : Type 0} (t : A → Bool) (xs : List A) (x : A) → list_all t xs ≡ true → Contains xs x → t x ≡ true
contains_test t [] x h c = absurd (omega (arith, c.1))
contains_test t (y ∷ ys) x h (zero, l, e) = ap t (sym e) ∙ (and_parts (t y) (list_all t ys) h).0
contains_test t (y ∷ ys) x h (suc k, l, e) = contains_test t ys x (and_parts (t y) (list_all t ys) h).1 (k, omega arith, e)

-- whether each matching equation holds
abbrev holds_there : List ℕ → Face × Gluing → Bool
holds_there ys y = list_all (λ v. sum_by (slice_index ys) (matching Standard y.0 y.1 v).left == sum_by (slice_index ys) (matching Standard y.0 y.1 v).right) (others (y.0).face)

each_holds : (rows : List Row) (ys : List ℕ) → list_all (holds_there ys) (glued_pairs rows) ≡ true
    → (y : Face × Gluing) (v : ℕ) → Contains (glued_pairs rows) y → Contains (others (y.0).face) v → Holds (matching Standard y.0 y.1 v) ys
each_holds rows ys h y v cy cv =
    let there : holds_there ys y ≡ true = contains_test (holds_there ys) (glued_pairs rows) y h cy in
    eqb-true (sum_by (slice_index ys) (matching Standard y.0 y.1 v).left) (sum_by (slice_index ys) (matching Standard y.0 y.1 v).right)
    (contains_test (λ w. sum_by (slice_index ys) (matching Standard y.0 y.1 w).left == sum_by (slice_index ys) (matching Standard y.0 y.1 w).right) (others (y.0).face) v there cv)

sphere_lift : List ℕ
sphere_lift = 1 ∷ 1 ∷ 0 ∷ 0 ∷ 1 ∷ 0 ∷ 0 ∷ []

-- the sphere has one vertex class
at_sphere : (c : ℕ) → c < 1 → IsLiftAt sphere (0 ∷ 0 ∷ 0 ∷ 0 ∷ []) (1 ∷ 0 ∷ 0 ∷ []) c sphere_lift
unfolding computed sphere_lift
at_sphere zero l = record { quads_are = refl; holds = λ y v cy cv _. each_holds sphere sphere_lift refl y v cy cv; least = (2, ltb-true 2 4 refl, refl, refl) }
at_sphere (suc c) l = absurd (omega arith)

lifted : IsLiftAnswer limit (skeleton_of sphere) (1 ∷ 0 ∷ 0 ∷ []) (Ok sphere_lift)
unfolding computed sphere_lift
lifted = (leb-true 4 limit refl, record { width = refl; each = at_sphere })

large : IsLiftAnswer limit (skeleton_of sphere) (limit ∷ 0 ∷ 0 ∷ []) (Err Large)
unfolding computed
large = ltb-true limit (4 * limit) refl

-- across face 0 of tetrahedron 0 the height at vertex 3 decreases by 1, across face 1 it stays the same, and both reach
-- vertex 3 of tetrahedron 1
falls : (a b q r s t : ℕ) → 0 + a + q ≡ 0 + b + r → 0 + a + s ≡ 0 + b + t → q ≡ 0 → r ≡ 1 → s ≡ 0 → t ≡ 0 → ⊥
falls a b q r s t e f eq er es et = omega arith

none_at : HasLiftAt (skeleton_of figure_eight) (2 ∷ 0 ∷ 0 ∷ 0 ∷ 0 ∷ 1 ∷ []) 0 → ⊥
unfolding computed
none_at h =
    let ys : List ℕ = h.0 in
    let quads : (k : ℕ) → slice_index (map (slice_index ys) (4 ∷ 5 ∷ 6 ∷ 11 ∷ 12 ∷ 13 ∷ [])) k ≡ slice_index (2 ∷ 0 ∷ 0 ∷ 0 ∷ 0 ∷ 1 ∷ []) k = λ k. ap (λ l. slice_index l k) h.1.quads_are in
    let first : 0 + slice_index ys 3 + slice_index ys 6 ≡ 0 + slice_index ys 10 + slice_index ys 13 =
    h.1.holds (record { tet = 0; face = 0 }, record { tet = 1; perm = 0 ∷ 1 ∷ 2 ∷ 3 ∷ [] }) 3 (0, ltb-true 0 4 refl, refl) (2, ltb-true 2 3 refl, refl) refl in
    let second : 0 + slice_index ys 3 + slice_index ys 5 ≡ 0 + slice_index ys 10 + slice_index ys 11 =
    h.1.holds (record { tet = 0; face = 1 }, record { tet = 1; perm = 1 ∷ 2 ∷ 0 ∷ 3 ∷ [] }) 3 (1, ltb-true 1 4 refl, refl) (2, ltb-true 2 3 refl, refl) refl in
    falls (slice_index ys 3) (slice_index ys 10) (slice_index ys 6) (slice_index ys 13) (slice_index ys 5) (slice_index ys 11) first second (quads 2) (quads 5) (quads 1) (quads 3)

has_none : IsLiftAnswer limit (skeleton_of figure_eight) (2 ∷ 0 ∷ 0 ∷ 0 ∷ 0 ∷ 1 ∷ []) (Err (NoLift 0))
unfolding computed
has_none = (leb-true 12 limit refl, record { in_range = ltb-true 0 1 refl; none = none_at; before = λ d l. absurd (omega arith) })
