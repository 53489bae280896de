-- Multiples of lifts are lifts.
use Rattle.std.proofs.Common.{◌≡◌, ℕ, ◌+◌, ◌*◌, ◌/◌, ◌%◌, ◌<◌, List, length, inl, inr, slice_index, sum_by, sym, ap, ◌∙◌, arith}
use Rattle.std.proofs.lemmas.Bool.{cases_lt}
use Rattle.cone_definitions.specs.Vectors.{multiple}
use Rattle.cone_definitions.proofs.Entries.{length-multiple, entry-multiple, same_vectors, entry_past}
use Rattle.skeleton_definitions.specs.Skeleton.{Skeleton, IsSkeleton}
use Rattle.surface_definitions.specs.Coordinates.{quad_column}
use Rattle.surface_definitions.specs.declared.Coords.TheVariants.{Standard}
use Rattle.surface_definitions.specs.Equations.{Holds, Equation, matching}
use Rattle.surface_definitions.specs.Lift.{projected}
use Rattle.surface_laws.specs.LiftLaws.{IsLiftOf}
use Rattle.surface_laws.proofs.LiftLemmas.{lift_projects}
use Rattle.surface_laws.proofs.Quads.{length-projected, quad_entry}
use Rattle.surface_efficiency_laws.proofs.Measures.{columns_linear}

-- a vector whose entries at the quads are those of a quad vector projects to it
pub projects_to : (ys q : List ℕ) (n : ℕ) → length q ≡ 3 * n → ((j : ℕ) → j < 3 * n → slice_index ys (quad_column Standard (j / 3) (j % 3)) ≡ slice_index q j) → projected n ys ≡ q
projects_to ys q n w each = same_vectors (projected n ys) q (length-projected ys n ∙ sym w) (λ j. elim (cases_lt j (3 * n)) [
  | inl l ↦ quad_entry n ys j l ∙ each j l
  | inr exceeded ↦ entry_past (projected n ys) (3 * n) j (length-projected ys n) exceeded ∙ sym (entry_past q (3 * n) j w exceeded)
])

-- an equation that holds at a vector holds at each multiple
times_holds : (m : ℕ) (ys : List ℕ) (e : Equation) → Holds e ys → Holds e (multiple m ys)
times_holds m ys e h = sums e.left ∙ ap (λ a. m * a) h ∙ sym (sums e.right)
  where
    sums : (cs : List ℕ) → sum_by (slice_index (multiple m ys)) cs ≡ m * sum_by (slice_index ys) cs
    sums cs = let s : 1 * sum_by (slice_index (multiple m ys)) cs ≡ m * sum_by (slice_index ys) cs + 0 * sum_by (slice_index ys) cs =
        (columns_linear cs).splits 1 m 0 (multiple m ys) ys ys (λ j. let e : slice_index (multiple m ys) j ≡ m * slice_index ys j = entry-multiple m ys j in omega arith) in omega arith

module _ (s : Skeleton) (k : IsSkeleton s) where
  abbrev n : ℕ
  n = length s.rows

  -- the quads of a lift
  pub lift_quads : (q ys : List ℕ) → length q ≡ 3 * length s.rows → IsLiftOf s q ys → projected (length s.rows) ys ≡ q
  lift_quads q ys w l = lift_projects s.rows k.table s.vertices.classes s.vertices.count k.vertices q ys w l

  -- m times a lift is the lift of m times the quads
  pub multiple_lift : (m : ℕ) (q p ys : List ℕ) → length q ≡ 3 * length s.rows → length p ≡ 3 * length s.rows → ((j : ℕ) → slice_index p j ≡ m * slice_index q j) → IsLiftOf s q ys → IsLiftOf s p (multiple m ys)
  multiple_lift m q p ys wq wp times l = record {
    width = length-multiple m ys ∙ l.width;
    each = λ c lc. record {
      quads_are = projects_to (multiple m ys) p n wp (λ j lj. entry-multiple m ys (quad_column Standard (j / 3) (j % 3))
          ∙ ap (λ a. m * a) (sym (quad_entry n ys j lj) ∙ ap (λ (u : List ℕ). slice_index u j) (lift_quads q ys wq l)) ∙ sym (times j));
      holds = λ y v cy cv at. times_holds m ys (matching Standard y.0 y.1 v) ((l.each c lc).holds y v cy cv at);
      least = (let z = (l.each c lc).least in
          (z.0, z.1, z.2, entry-multiple m ys _ ∙ ap (λ a. m * a) z.3 ∙ (let nothing : m * 0 ≡ 0 = omega arith in nothing)));
    };
  }
