-- Which edges run against others, by the classes of directed edges.
use Rattle.std.proofs.Common.{◌≡◌, ◌↔◌, ℕ, ◌*◌, ◌/◌, ◌%◌, ◌<◌, Bool, true, false, List, length, refl, sym, ap, ◌∙◌, arith, subst, subst₂}
use Rattle.std.specs.Prelude.{slice_index, IsTrue}
use Rattle.std.proofs.lemmas.Bool.{eqb-true, eq-eqb}
use Rattle.table_definitions.specs.Table.{Row}
use Rattle.table_definitions.specs.Classes.{IsNumbering, least}
use Rattle.skeleton_definitions.specs.Skeleton.{Skeleton, IsDirection}
use Rattle.table_definitions.specs.Places.{edge, backwards, IsJoined, RunsAgainst}
use Rattle.skeleton_definitions.specs.Links.{directed, SameDirected}
use Rattle.skeleton_class_laws.specs.Crossings.{pair_number}
use Rattle.skeleton_class_laws.specs.Directions.{forward, backward, runs_against}
use Rattle.skeleton_class_laws.proofs.Cases.{are_ends, pair_number-parts, low, high, AreEnds}
use Rattle.skeleton_class_laws.proofs.DirectionTies.{pair_is}
use Rattle.skeleton_class_laws.proofs.EdgeTies.{edge_pair}

ends_of : (i : ℕ) → AreEnds (i % 6)
ends_of i = are_ends (i % 6) (omega arith)

pub directed_forward : (i : ℕ) → directed (forward i) ≡ edge i
unfolding forward
directed_forward i = let a = ends_of i in pair_is (i / 6) (low (i % 6)) (high (i % 6)) a.lower a.higher a.separate ∙ sym (edge_pair i)

pub directed_backward : (i : ℕ) → directed (backward i) ≡ backwards (edge i)
unfolding backward
directed_backward i = let a = ends_of i in pair_is (i / 6) (high (i % 6)) (low (i % 6)) a.higher a.lower (λ e. a.separate (sym e)) ∙ ap backwards (sym (edge_pair i))

pub forward_below : (i n : ℕ) → i < 6 * n → forward i < 12 * n
unfolding forward
forward_below i n l = let a = ends_of i in let p : pair_number (low (i % 6)) (high (i % 6)) < 12 = (pair_number-parts (low (i % 6)) (high (i % 6)) a.lower a.higher a.separate).0 in let t : i / 6 < n = omega arith in omega arith

pub backward_below : (i n : ℕ) → i < 6 * n → backward i < 12 * n
unfolding backward
backward_below i n l = let a = ends_of i in let p : pair_number (high (i % 6)) (low (i % 6)) < 12 = (pair_number-parts (high (i % 6)) (low (i % 6)) a.higher a.lower (λ e. a.separate (sym e))).0 in
    let t : i / 6 < n = omega arith in omega arith

pub runs_against-is : (rows : List Row) (directions : List ℕ) (count : ℕ) → IsNumbering (12 * length rows) (SameDirected rows) directions count
    → (j i : ℕ) → j < 6 * length rows → i < 6 * length rows → (runs_against directions j i ≡ true) ↔ IsJoined rows (edge j) (backwards (edge i))
unfolding runs_against
runs_against-is rows directions count num j i lj li =
    let t = num.together (forward j) (backward i) (forward_below j (length rows) lj) (backward_below i (length rows) li) in (
      λ h. subst₂ (IsJoined rows) (directed_forward j) (directed_backward i) (t.0 (eqb-true (slice_index directions (forward j)) (slice_index directions (backward i)) h)),
      λ h. eq-eqb (slice_index directions (forward j)) (slice_index directions (backward i)) (t.1 (subst₂ (IsJoined rows) (sym (directed_forward j)) (sym (directed_backward i)) h)),
    )

-- directions by joins with reverses
pub direction_none : (s : Skeleton) (i class first : ℕ) → class ≡ slice_index s.edges.classes i → first ≡ least s.edges.classes class → RunsAgainst s.rows first first → IsDirection s i false
direction_none s i class first ec ef h = record {
  valid = λ v. absurd (v (subst (λ k. RunsAgainst s.rows k k) (ef ∙ ap (least s.edges.classes) ec) h));
  invalid = λ _. refl;
}

pub direction_told : (s : Skeleton) (i class first : ℕ) (r : Bool) → class ≡ slice_index s.edges.classes i → first ≡ least s.edges.classes class → (RunsAgainst s.rows first first → ⊥)
    → (IsTrue r ↔ RunsAgainst s.rows first i) → IsDirection s i r
direction_told s i class first r ec ef never h = record {
  valid = λ _. subst (λ k. IsTrue r ↔ RunsAgainst s.rows k i) same h;
  invalid = λ j. absurd (never (subst (λ k. RunsAgainst s.rows k k) (sym same) j));
}
  where
    same : first ≡ least s.edges.classes (slice_index s.edges.classes i)
    same = ef ∙ ap (least s.edges.classes) ec
