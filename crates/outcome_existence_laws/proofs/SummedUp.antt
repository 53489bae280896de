-- Each seed and number of moves have an answer to `bulk`.
use Rattle.std.proofs.Common.{ℕ, ◌≤◌, ◌⊎◌, inl, inr, List, [], ◌∷◌, length, refl, arith}
use Rattle.std.specs.Prelude.{All}
use Rattle.std.proofs.lemmas.Bool.{cases_lt}
use Rattle.std.proofs.lemmas.List.Elements.{All-nil, All-cons, All-head, All-tail}
use Rattle.text_definitions.specs.Written.{limit}
use Rattle.cone_definitions.specs.Listings.{Enumeration}
use Rattle.cone_definitions.specs.Surfaces.{PairsAreOfTwoColumns}
use Rattle.cone_definitions.specs.declared.Order.TheVariants.{Given}
use Rattle.table_definitions.specs.Table.{Row, IsTable}
use Rattle.surface_definitions.specs.declared.Coords.TheVariants.{Standard}
use Rattle.surface_definitions.specs.TableSurfaces.{table_enumeration}
use Rattle.certificate_laws.proofs.Made.{tables_are_made_lem, made_are_certified_lem, made_table}
use Rattle.cone_laws.proofs.Ended.{enumeration_ends}
use Rattle.skeleton_laws.proofs.Equated.{some_equations}
use Rattle.outcome_definitions.specs.Outcomes.{Outcome}
use Rattle.outcome_definitions.specs.Enumerations.{AreUpTo, IsLargeAnswered, large_outcome}
use Rattle.outcome_definitions.specs.Makings.{IsGreatestEntry, Numbers, summary_outcome, AreSummedUp, IsSummary, IsBulkAnswer}
use Rattle.surface_definitions.proofs.ClashPairs.{clashes_apart}

-- the greatest entry of a vector
record IsGreatestOf (x : List ℕ) (greatest : ℕ) : Type 0 where
  up_to : All (λ entry. entry ≤ greatest) x
  least : (most : ℕ) → All (λ entry. entry ≤ most) x → greatest ≤ most

raised : (x : List ℕ) (a b : ℕ) → a ≤ b → All (λ entry. entry ≤ a) x → All (λ entry. entry ≤ b) x
raised x a b l h i d m = let k = h i d m in omega arith

greatest_of : (x : List ℕ) → (greatest : ℕ) × IsGreatestOf x greatest
greatest_of [] = (0, record { up_to = All-nil (λ entry. entry ≤ 0); least = λ most h. omega arith })
greatest_of (entry ∷ x) =
    let g = greatest_of x in
    elim (cases_lt entry g.0) [
      | inl less ↦ (
        g.0,
        record {
          up_to = All-cons (λ e. e ≤ g.0) entry x (omega arith) g.1.up_to;
          least = λ most h. g.1.least most (All-tail (λ e. e ≤ most) entry x h);
        },
      )
      | inr more ↦ (
        entry,
        record {
          up_to = All-cons (λ e. e ≤ entry) entry x (omega arith) (raised x g.0 entry more g.1.up_to);
          least = λ most h. All-head (λ e. e ≤ most) entry x h;
        },
      )
    ]

-- the greatest entry of a list of vectors
all_raised : (list : List (List ℕ)) (a b : ℕ) → a ≤ b → AreUpTo a list → AreUpTo b list
all_raised list a b l h i d m = raised _ a b l (h i d m)

some_greatest : (list : List (List ℕ)) → (greatest : ℕ) × IsGreatestEntry list greatest
some_greatest [] = (0, record { up_to = All-nil (λ (x : List ℕ). All (λ entry. entry ≤ 0) x); least = λ most h. omega arith })
some_greatest (x ∷ list) =
    let here = greatest_of x in
    let g = some_greatest list in
    elim (cases_lt here.0 g.0) [
      | inl less ↦ (
        g.0,
        record {
          up_to = All-cons (λ (y : List ℕ). All (λ entry. entry ≤ g.0) y) x list (raised x here.0 g.0 (omega arith) here.1.up_to) g.1.up_to;
          least = λ most h. g.1.least most (All-tail (λ (y : List ℕ). All (λ entry. entry ≤ most) y) x list h);
        },
      )
      | inr more ↦ (
        here.0,
        record {
          up_to = All-cons (λ (y : List ℕ). All (λ entry. entry ≤ here.0) y) x list here.1.up_to (all_raised list g.0 here.0 more g.1.up_to);
          least = λ most h. here.1.least most (All-head (λ (y : List ℕ). All (λ entry. entry ≤ most) y) x list h);
        },
      )
    ]

summed_up : (n : Numbers) (e : Enumeration) → PairsAreOfTwoColumns e.pairs → (o : Outcome) × (AreSummedUp n e o ⊎ IsLargeAnswered e o)
summed_up n e separate = elim (enumeration_ends e separate) [
  | inl l ↦
      let g = some_greatest l.1 in
      (summary_outcome n l.1 g.0, inl (record { taken = l.0; list = l.1; listed = l.2; greatest = g.0; is_greatest = g.1; outcome = refl }))
  | inr exceeded ↦ (large_outcome exceeded.0 exceeded.1, inr (exceeded.0, exceeded.1, exceeded.2, refl))
]

some_summary : (n : Numbers) (rows : List Row) → IsTable rows → (o : Outcome) × IsSummary n rows o
some_summary n rows table =
    let q = some_equations Standard rows table in
    let s = summed_up n (table_enumeration Standard Given limit rows q.0) (clashes_apart Standard (length rows)) in
    (s.0, record { equations = q.0; of_table = q.1; reported = s.1 })

pub some_bulk : (seed moves : ℕ) → (o : Outcome) × IsBulkAnswer seed moves o
some_bulk seed moves =
    let m = tables_are_made_lem seed moves in
    let s = some_summary (record { seed = seed; moves = length m.1; tetrahedra = length m.0 }) m.0 (made_table seed moves m.0 m.1 m.2) in
    (s.0, record { table = m.0; certificate = m.1; made = m.2; accepted = made_are_certified_lem seed moves m.0 m.1 m.2; summary = s.1 })
