-- A sum of solutions is a solution, and its terms lie inside it.
use Rattle.std.proofs.Common.{◌≡◌, ℕ, ◌+◌, ◌*◌, ◌<◌, ◌≤◌, List, [], ◌∷◌, length, slice_index, slice_index_or, All, Contains, refl, sym, subst, ◌∙◌, arith}
use Rattle.std.proofs.lemmas.List.Elements.{All-head, All-tail}
use Rattle.std.proofs.lemmas.List.Sums.{sum_by-cons, get_or-le-sum_by}
use Rattle.cone_definitions.specs.Rows.{Row as EquationRow, plus_part, minus_part, IsSolution}
use Rattle.cone_definitions.specs.Surfaces.{Clash, IsVertexSurface, IsSurfaceList}
use Rattle.cone_definitions.proofs.Combined.{factor_zero}
use Rattle.cone_definitions.proofs.Entries.{vector_of, length-vector_of, entry_everywhere, entry_past}
use Rattle.cone_definitions.proofs.Linear.{plus_linear, minus_linear, linear_zero}
use Rattle.cone_definitions.proofs.Solutions.{solution_sum}
use Rattle.sum_definitions.specs.Adding.{sum_at}
use Rattle.sum_definitions.specs.Sums.{Term}
use Rattle.surface_sum_laws.specs.Laws.{AreListed, AreCounted, sum_vector, SupportsAreInside}

pub first_is : (term : Term) (terms : List Term) (j : ℕ) → sum_at (term ∷ terms) j ≡ term.count * slice_index term.vector j + sum_at terms j
first_is term terms j = sum_by-cons (λ (t : Term). t.count * slice_index t.vector j) term terms

-- where the sum is 0, each term is
pub term_zero : (terms : List Term) → AreCounted terms → (j : ℕ) → sum_at terms j ≡ 0 → (i : ℕ) (d : Term) → i < length terms → slice_index (slice_index_or terms i d).vector j ≡ 0
term_zero terms counted j z i d l = factor_zero (slice_index_or terms i d).count (slice_index (slice_index_or terms i d).vector j) (counted i d l)
    (let b : (slice_index_or terms i d).count * slice_index (slice_index_or terms i d).vector j ≤ sum_at terms j = get_or-le-sum_by (λ (t : Term). t.count * slice_index t.vector j) terms i d l in omega arith)

pub supports_inside : SupportsAreInside
supports_inside surfaces x times terms sum i d l j z =
    let w : times * slice_index x j ≡ 0 = rw z (omega arith) in
    term_zero terms sum.counted j (sym (sum.equal j) ∙ w) i d l

module _ (columns : ℕ) (rows : List EquationRow) where
  abbrev AreSolutions : List Term → Type 0
  AreSolutions terms = All (λ (term : Term). IsSolution columns rows term.vector) terms

  -- beyond the width the sum is 0
  pub sum_past : (terms : List Term) → AreSolutions terms → (j : ℕ) → columns ≤ j → sum_at terms j ≡ 0
  sum_past [] all j l = refl
  sum_past (term ∷ terms) all j l =
      let z : slice_index term.vector j ≡ 0 = entry_past term.vector columns j (All-head (λ (t : Term). IsSolution columns rows t.vector) term terms all).width l in
      let r : sum_at terms j ≡ 0 = sum_past terms (All-tail (λ (t : Term). IsSolution columns rows t.vector) term terms all) j l in
      first_is term terms j ∙ rw (z, r) (omega arith)

  -- a vector of which a positive multiple is a sum of solutions
  pub sum_solves : (terms : List Term) → AreSolutions terms → (x : List ℕ) (times : ℕ) → 1 ≤ times → length x ≡ columns → ((j : ℕ) → times * slice_index x j ≡ sum_at terms j) → IsSolution columns rows x
  sum_solves [] all x times some width equal =
      let none : (j : ℕ) → slice_index x j ≡ 0 = λ j. factor_zero times (slice_index x j) some (equal j) in
      record { width = width; zero = λ k e l. linear_zero (plus_part (slice_index_or rows k e)) (plus_linear (slice_index_or rows k e)) x none ∙ sym (linear_zero (minus_part (slice_index_or rows k e)) (minus_linear (slice_index_or rows k e)) x none) }
  sum_solves (term ∷ terms) all x times some width equal = solution_sum columns rows times term.count 1 x term.vector rest some width splits (All-head (λ (t : Term). IsSolution columns rows t.vector) term terms all)
      (sum_solves terms others rest 1 (omega arith) (length-vector_of columns (sum_at terms)) (λ j. let e : slice_index rest j ≡ sum_at terms j = entry j in omega arith))
    where
      others : AreSolutions terms
      others = All-tail (λ (t : Term). IsSolution columns rows t.vector) term terms all

      rest : List ℕ
      rest = vector_of columns (sum_at terms)

      entry : (j : ℕ) → slice_index rest j ≡ sum_at terms j
      entry j = entry_everywhere columns (sum_at terms) (sum_past terms others) j

      splits : (j : ℕ) → times * slice_index x j ≡ term.count * slice_index term.vector j + 1 * slice_index rest j
      splits j = let a : times * slice_index x j ≡ sum_at (term ∷ terms) j = equal j in
          let b : sum_at (term ∷ terms) j ≡ term.count * slice_index term.vector j + sum_at terms j = first_is term terms j in
          let c : slice_index rest j ≡ sum_at terms j = entry j in omega arith

  -- the vector of the sum
  pub length-sum_vector : (terms : List Term) → length (sum_vector columns terms) ≡ columns
  unfolding vector_of
  length-sum_vector terms = length-vector_of columns (sum_at terms)

  pub entry-sum_vector : (terms : List Term) → AreSolutions terms → (j : ℕ) → slice_index (sum_vector columns terms) j ≡ sum_at terms j
  unfolding vector_of
  entry-sum_vector terms all j = entry_everywhere columns (sum_at terms) (sum_past terms all) j

  pub sum_vector_solves : (terms : List Term) → AreSolutions terms → IsSolution columns rows (sum_vector columns terms)
  sum_vector_solves terms all = sum_solves terms all (sum_vector columns terms) 1 (omega arith) (length-sum_vector terms)
      (λ j. let e : slice_index (sum_vector columns terms) j ≡ sum_at terms j = entry-sum_vector terms all j in omega arith)

  -- listed vectors
  module _ (pairs : List Clash) (surfaces : List (List ℕ)) (h : IsSurfaceList columns rows pairs surfaces) where
    pub listed_surface : (v : List ℕ) → Contains surfaces v → IsVertexSurface columns rows pairs v
    listed_surface v c = subst (IsVertexSurface columns rows pairs) c.2 (h.vertex_surfaces c.0 v c.1)

    pub listed_solve : (terms : List Term) → AreListed surfaces terms → AreSolutions terms
    listed_solve terms listed i d l = ((listed_surface (slice_index_or terms i d).vector (listed i d l)).extreme).solution
