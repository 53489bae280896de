-- The sums of worked rows.
use Rattle.std.proofs.Common.{◌≡◌, ◌≢◌, ℕ, zero, suc, ◌*◌, ◌<◌, ◌≤◌, List, [], ◌∷◌, slice_index, slice_index_or, AllPairs, refl, arith, lit<}
use Rattle.std.proofs.Math.Nat.{one-dvd}
use Rattle.cone_definitions.specs.Vectors.{IsInside, IsBefore}
use Rattle.cone_definitions.specs.WorkedRow.{worked_row, worked_surfaces, y_surface, x_surface, one_each}
use Rattle.cone_definitions.proofs.Worked.{worked_list, one_each_solution}
use Rattle.sum_laws.proofs.Surfaces.{surfaces_are_rays_lem}
use Rattle.sum_definitions.specs.Sums.{HasRays, State, first_state, IsLeastInside, IsLeastFraction, IsSumStep}
use Rattle.sum_definitions.specs.Adding.{add_fault}
use Rattle.sum_laws.specs.Laws.{IsAnswer, sum, large}
use Rattle.sum_laws.specs.WorkedSums.{term, torus, link, both, sphere_surfaces, WorkedSums, WorkedFaults}
use Rattle.sum_laws.proofs.Fractions.{least_at}

ascending_two : (u w : List ℕ) → IsBefore u w → AllPairs IsBefore (u ∷ w ∷ [])
ascending_two u w b zero zero d l m = absurd (omega arith)
ascending_two u w b zero (suc zero) d l m = b
ascending_two u w b (suc i) (suc zero) d l m = absurd (omega arith)
ascending_two u w b (suc i) zero d l m = absurd (omega arith)
ascending_two u w b i (suc (suc j)) d l m = absurd (omega arith)

-- ---- 1 1 1 is the half of 0 2 1 and 2 0 1

surfaces_ascend : AllPairs IsBefore worked_surfaces
surfaces_ascend = ascending_two y_surface x_surface (record { column = 0; same = λ k h. absurd (omega arith); less = lit< tt })

low_inside : IsInside y_surface one_each
low_inside zero z = refl
low_inside (suc zero) z = absurd (let e : 1 ≡ 0 = z in omega arith)
low_inside (suc (suc zero)) z = absurd (let e : 1 ≡ 0 = z in omega arith)
low_inside (suc (suc (suc j))) z = refl

low_least : IsLeastInside worked_surfaces one_each y_surface
low_least = least_at worked_surfaces one_each 0 surfaces_ascend (lit< tt) low_inside (λ i l. absurd (omega arith))

one_over_two : IsLeastFraction one_each y_surface 1 2
one_over_two = record {
  lowest = (one-dvd 1, one-dvd 2, λ d a b. a);
  column = 1;
  some = λ z. absurd (let e : 2 ≡ 0 = z in omega arith);
  reached = refl;
  least = least;
}
  where
    least : (j : ℕ) → slice_index y_surface j ≢ 0 → 1 * slice_index y_surface j ≤ 2 * slice_index one_each j
    least zero n = omega arith
    least (suc zero) n = omega arith
    least (suc (suc zero)) n = omega arith
    least (suc (suc (suc j))) n = absurd (n refl)

abbrev middle : State
middle = record { times = 2; terms = term 1 y_surface ∷ []; rest = x_surface }

first_turn : IsSumStep worked_surfaces (first_state one_each) middle
first_turn = record { left = (0, λ z. absurd (let e : 1 ≡ 0 = z in omega arith)); vector = y_surface; p = 1; q = 2; least_inside = low_least; fraction = one_over_two; after = refl }

not_low : slice_index y_surface 1 ≡ 0 → ⊥
not_low e = absurd (omega arith)

low_not_inside : (i : ℕ) → i < 1 → IsInside (slice_index_or worked_surfaces i []) x_surface → ⊥
low_not_inside zero l h = not_low (h 1 refl)
low_not_inside (suc i) l h = absurd (omega arith)

one_over_one : IsLeastFraction x_surface x_surface 1 1
one_over_one = record { lowest = (one-dvd 1, one-dvd 1, λ d a b. a); column = 0; some = λ z. absurd (let e : 2 ≡ 0 = z in omega arith); reached = refl; least = λ j n. omega arith }

abbrev last : State
last = record { times = 2; terms = term 1 y_surface ∷ term 1 x_surface ∷ []; rest = 0 ∷ 0 ∷ 0 ∷ [] }

second_turn : IsSumStep worked_surfaces middle last
second_turn = record {
  left = (0, λ z. absurd (let e : 2 ≡ 0 = z in omega arith));
  vector = x_surface;
  p = 1;
  q = 1;
  least_inside = least_at worked_surfaces x_surface 1 surfaces_ascend (lit< tt) (λ j z. z) low_not_inside;
  fraction = one_over_one;
  after = refl;
}

two_ones : (j : ℕ) → 2 * slice_index one_each j ≤ 2
two_ones zero = omega arith
two_ones (suc zero) = omega arith
two_ones (suc (suc zero)) = omega arith
two_ones (suc (suc (suc j))) = omega arith

zeros : (j : ℕ) → slice_index (0 ∷ 0 ∷ 0 ∷ []) j ≡ 0
zeros zero = refl
zeros (suc zero) = refl
zeros (suc (suc zero)) = refl
zeros (suc (suc (suc j))) = refl

-- with the limit 2 the answer is 2 times, once 0 2 1 and once 2 0 1
halves : IsAnswer 2 worked_surfaces one_each (sum 2 (term 1 y_surface ∷ term 1 x_surface ∷ []))
halves = record { turns = 2; rest = 0 ∷ 0 ∷ 0 ∷ []; led = (middle, (first_state one_each, refl, first_turn, two_ones), second_turn, two_ones); nothing_left = zeros }

-- with the limit 1 it is too large at turn 0 and column 0
too_large : IsAnswer 1 worked_surfaces one_each (large 0 0)
too_large = record { before = first_state one_each; next = middle; led = refl; turns = first_turn; large = lit< tt; first = λ i l. absurd (omega arith) }

-- nothing is taken of no columns
nothing : IsAnswer 1 [] [] (sum 1 [])
nothing = record { turns = 0; rest = []; led = refl; nothing_left = λ j. refl }

-- ---- 3 3 1 1 2 0 0 is twice 1 1 0 0 1 0 0 and once 1 1 1 1 0 0 0

torus_inside : IsInside torus both
torus_inside zero z = absurd (let e : 3 ≡ 0 = z in omega arith)
torus_inside (suc zero) z = absurd (let e : 3 ≡ 0 = z in omega arith)
torus_inside (suc (suc zero)) z = refl
torus_inside (suc (suc (suc zero))) z = refl
torus_inside (suc (suc (suc (suc zero)))) z = absurd (let e : 2 ≡ 0 = z in omega arith)
torus_inside (suc (suc (suc (suc (suc zero))))) z = refl
torus_inside (suc (suc (suc (suc (suc (suc zero)))))) z = refl
torus_inside (suc (suc (suc (suc (suc (suc (suc j))))))) z = refl

sphere_ascend : AllPairs IsBefore sphere_surfaces
sphere_ascend = ascending_two torus link (record { column = 2; same = same; less = lit< tt })
  where
    same : (j : ℕ) → j < 2 → slice_index torus j ≡ slice_index link j
    same zero l = refl
    same (suc zero) l = refl
    same (suc (suc j)) l = absurd (omega arith)

two_over_one : IsLeastFraction both torus 2 1
two_over_one = record {
  lowest = (one-dvd 2, one-dvd 1, λ d a b. b);
  column = 4;
  some = λ z. absurd (let e : 1 ≡ 0 = z in omega arith);
  reached = refl;
  least = least;
}
  where
    least : (j : ℕ) → slice_index torus j ≢ 0 → 2 * slice_index torus j ≤ 1 * slice_index both j
    least zero n = omega arith
    least (suc zero) n = omega arith
    least (suc (suc zero)) n = omega arith
    least (suc (suc (suc zero))) n = omega arith
    least (suc (suc (suc (suc zero)))) n = omega arith
    least (suc (suc (suc (suc (suc zero))))) n = absurd (n refl)
    least (suc (suc (suc (suc (suc (suc zero)))))) n = absurd (n refl)
    least (suc (suc (suc (suc (suc (suc (suc j))))))) n = absurd (n refl)

abbrev torus_taken : State
torus_taken = record { times = 1; terms = term 2 torus ∷ []; rest = link }

abbrev link_taken : State
link_taken = record { times = 1; terms = term 2 torus ∷ term 1 link ∷ []; rest = 0 ∷ 0 ∷ 0 ∷ 0 ∷ 0 ∷ 0 ∷ 0 ∷ [] }

torus_turn : IsSumStep sphere_surfaces (first_state both) torus_taken
torus_turn = record {
  left = (0, λ z. absurd (let e : 3 ≡ 0 = z in omega arith));
  vector = torus;
  p = 2;
  q = 1;
  least_inside = least_at sphere_surfaces both 0 sphere_ascend (lit< tt) torus_inside (λ i l. absurd (omega arith));
  fraction = two_over_one;
  after = refl;
}

not_torus : slice_index torus 4 ≡ 0 → ⊥
not_torus e = absurd (omega arith)

torus_not_inside : (i : ℕ) → i < 1 → IsInside (slice_index_or sphere_surfaces i []) link → ⊥
torus_not_inside zero l h = not_torus (h 4 refl)
torus_not_inside (suc i) l h = absurd (omega arith)

link_turn : IsSumStep sphere_surfaces torus_taken link_taken
link_turn = record {
  left = (0, λ z. absurd (let e : 1 ≡ 0 = z in omega arith));
  vector = link;
  p = 1;
  q = 1;
  least_inside = least_at sphere_surfaces link 1 sphere_ascend (lit< tt) (λ j z. z) torus_not_inside;
  fraction = record { lowest = (one-dvd 1, one-dvd 1, λ d a b. a); column = 0; some = λ z. absurd (let e : 1 ≡ 0 = z in omega arith); reached = refl; least = λ j n. omega arith };
  after = refl;
}

one_both : (j : ℕ) → 1 * slice_index both j ≤ 3
one_both zero = omega arith
one_both (suc zero) = omega arith
one_both (suc (suc zero)) = omega arith
one_both (suc (suc (suc zero))) = omega arith
one_both (suc (suc (suc (suc zero)))) = omega arith
one_both (suc (suc (suc (suc (suc zero))))) = omega arith
one_both (suc (suc (suc (suc (suc (suc zero)))))) = omega arith
one_both (suc (suc (suc (suc (suc (suc (suc j))))))) = omega arith

all_zero : (j : ℕ) → slice_index link_taken.rest j ≡ 0
all_zero zero = refl
all_zero (suc zero) = refl
all_zero (suc (suc zero)) = refl
all_zero (suc (suc (suc zero))) = refl
all_zero (suc (suc (suc (suc zero)))) = refl
all_zero (suc (suc (suc (suc (suc zero))))) = refl
all_zero (suc (suc (suc (suc (suc (suc zero)))))) = refl
all_zero (suc (suc (suc (suc (suc (suc (suc j))))))) = refl

whole : IsAnswer 3 sphere_surfaces both (sum 1 (term 2 torus ∷ term 1 link ∷ []))
whole = record { turns = 2; rest = link_taken.rest; led = (torus_taken, (first_state both, refl, torus_turn, one_both), link_turn, one_both); nothing_left = all_zero }

-- ---- given terms

rays : HasRays 3 (worked_row ∷ []) worked_surfaces one_each
rays = surfaces_are_rays_lem 3 (worked_row ∷ []) [] worked_surfaces one_each worked_list one_each_solution (λ k d l. absurd (omega arith))

pub worked_sums_lem : WorkedSums
worked_sums_lem = record { rays = rays; halves = halves; too_large = too_large; whole = whole; nothing = nothing }

pub worked_faults_lem : WorkedFaults
unfolding add_fault
worked_faults_lem = record { right = refl; twice = refl; never = refl; passed = refl }
