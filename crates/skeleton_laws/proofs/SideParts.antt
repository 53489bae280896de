-- A side by its tetrahedron, its vertex and its face.
use Rattle.std.proofs.Common.{◌≡◌, ◌≢◌, ℕ, ◌+◌, ◌*◌, ◌/◌, ◌%◌, ◌<◌, true, List, sym, arith}
use Rattle.std.specs.Prelude.{◌==◌, not, slice_index}
use Rattle.std.proofs.lemmas.Bool.{and_parts, and_from, eqb-true, eq-eqb, ne_eqb, eqb-false, not-true, not_from_false}
use Rattle.skeleton_laws.proofs.Sides.{is_side}

-- the parts of a side
pub record IsSideAt (classes : List ℕ) (c k : ℕ) : Type 0 where
  pub off : k / 4 % 4 ≢ k % 4
  pub at : slice_index classes (k / 4) ≡ c

pub side_is : (classes : List ℕ) (c k : ℕ) → is_side classes c k ≡ true → IsSideAt classes c k
unfolding is_side
side_is classes c k h =
    let p = and_parts (not (k % 4 == k / 4 % 4)) (slice_index classes (k / 4) == c) h in
    record { off = (λ e. eqb-false (k % 4) (k / 4 % 4) (not-true (k % 4 == k / 4 % 4) p.0) (sym e)); at = eqb-true (slice_index classes (k / 4)) c p.1 }

pub is_side_from : (classes : List ℕ) (c k : ℕ) → k / 4 % 4 ≢ k % 4 → slice_index classes (k / 4) ≡ c → is_side classes c k ≡ true
unfolding is_side
is_side_from classes c k off at =
    and_from (not (k % 4 == k / 4 % 4)) (slice_index classes (k / 4) == c) (not_from_false (k % 4 == k / 4 % 4) (ne_eqb (k % 4) (k / 4 % 4) (λ e. off (sym e)))) (eq-eqb (slice_index classes (k / 4)) c at)

-- the number of a side by its parts
abbrev pub side_number : ℕ → ℕ → ℕ → ℕ
side_number t v f = 4 * (4 * t + v) + f

pub record HasParts (t v f : ℕ) : Type 0 where
  pub tet : side_number t v f / 4 / 4 ≡ t
  pub vertex : side_number t v f / 4 % 4 ≡ v
  pub face : side_number t v f % 4 ≡ f
  pub place : side_number t v f / 4 ≡ 4 * t + v

pub has_parts : (t v f : ℕ) → v < 4 → f < 4 → HasParts t v f
has_parts t v f lv lf = record { tet = omega arith; vertex = omega arith; face = omega arith; place = omega arith }

pub number_again : (k : ℕ) → side_number (k / 4 / 4) (k / 4 % 4) (k % 4) ≡ k
number_again k = omega arith
