-- Rows divided into those that are taken and those that are left.
use Rattle.std.proofs.Common.{◌≡◌, ◌≢◌, ℕ, ◌+◌, ◌≤◌, ◌⊎◌, inl, inr, List, [], ◌∷◌, ◌++◌, ap, subst, refl, arith, append_assoc}
use Rattle.std.specs.List.{AllByRecursion}
use Rattle.std.proofs.lemmas.Bool.{cases_eq}
use Rattle.cone_definitions.specs.Rows.{Row}
use Rattle.cone_bound_laws.proofs.Forms.{Column, cut}
use Rattle.cone_bound_laws.proofs.Minors.{minor, repeated_row}
use Rattle.cone_bound_laws.proofs.Weights.{weight, total, free_plus, free_minus}
use Rattle.cone_bound_laws.proofs.Bounded.{GraphLike}

-- what holds of each row of a list
pub every_mapped : (P Q : Row → Type 0) → ((row : Row) → P row → Q row) → (rows : List Row) → AllByRecursion P rows → AllByRecursion Q rows
every_mapped P Q f [] h = tt
every_mapped P Q f (row ∷ rows) h = (f row h.0, every_mapped P Q f rows h.1)

every_put : (P : Row → Type 0) (before : List Row) (row : Row) (after : List Row) → P row → AllByRecursion P (before ++ after) → AllByRecursion P (before ++ row ∷ after)
every_put P [] row after h e = (h, e)
every_put P (other ∷ before) row after h e = (e.0, every_put P before row after h e.1)

every_out : (P : Row → Type 0) (before : List Row) (row : Row) (after : List Row) → AllByRecursion P (before ++ row ∷ after) → P row × AllByRecursion P (before ++ after)
every_out P [] row after e = e
every_out P (other ∷ before) row after e = let r = every_out P before row after e.1 in (r.0, (e.0, r.1))

weight-inside : (c : Column) (before : List Row) (row : Row) (after : List Row) → weight c (before ++ row ∷ after) ≡ c.plus row + c.minus row + weight c (before ++ after)
unfolding weight
weight-inside c [] row after = refl
weight-inside c (other ∷ before) row after = omega (arith, weight-inside c before row after)

-- the rows are those taken and those left, in some order
pub record Parts (rows taken left : List Row) : Type 1 where
  pub all : (P : Row → Type 0) → AllByRecursion P taken → AllByRecursion P left → AllByRecursion P rows
  pub each : (P : Row → Type 0) → AllByRecursion P rows → AllByRecursion P taken × AllByRecursion P left
  pub weighed : (c : Column) → weight c taken + weight c left ≡ weight c rows

pub nothing_taken : (rows : List Row) → Parts rows [] rows
unfolding weight
nothing_taken rows = record { all = λ P t l. l; each = λ P e. (tt, e); weighed = λ c. omega arith }

pub one_taken : (rows taken before : List Row) (row : Row) (after : List Row) → Parts rows taken (before ++ row ∷ after) → Parts rows (row ∷ taken) (before ++ after)
unfolding weight
one_taken rows taken before row after h = record {
  all = λ P t l. h.all P t.1 (every_put P before row after t.0 l);
  each = λ P e. let r = h.each P e in let s = every_out P before row after r.1 in ((s.0, r.0), s.1);
  weighed = λ c. omega (arith, h.weighed c, weight-inside c before row after);
}

pub GraphLike-taken : (rows taken left : List Row) (xs : List Column) → Parts rows taken left → GraphLike xs rows → GraphLike xs taken
unfolding GraphLike
GraphLike-taken rows taken left xs h g = back taken (h.each (λ row. (total (free_plus row) xs ≤ 1) × (total (free_minus row) xs ≤ 1)) (to rows g)).0
  where
    to : (rs : List Row) → GraphLike xs rs → AllByRecursion (λ row. (total (free_plus row) xs ≤ 1) × (total (free_minus row) xs ≤ 1)) rs
    to [] k = tt
    to (r ∷ rs) k = ((k.0, k.1), to rs k.2)

    back : (rs : List Row) → AllByRecursion (λ row. (total (free_plus row) xs ≤ 1) × (total (free_minus row) xs ≤ 1)) rs → GraphLike xs rs
    back [] k = tt
    back (r ∷ rs) k = (k.0.0, k.0.1, back rs k.1)

-- ---- with one of the taken rows added again, the minors are 0

repeats_from : (before rows : List Row) (xs : List Column) → AllByRecursion (λ row. (minor (row ∷ before ++ rows)).up xs ≡ (minor (row ∷ before ++ rows)).down xs) rows
repeats_from before [] xs = tt
repeats_from before (row ∷ rows) xs = (
  repeated_row before row rows xs,
  subst (λ all. AllByRecursion (λ r. (minor (r ∷ all)).up xs ≡ (minor (r ∷ all)).down xs) rows) (append_assoc before (row ∷ []) rows) (repeats_from (before ++ row ∷ []) rows xs),
)

pub repeats : (rows : List Row) (xs : List Column) → AllByRecursion (λ row. (minor (row ∷ rows)).up xs ≡ (minor (row ∷ rows)).down xs) rows
repeats rows xs = repeats_from [] rows xs

-- ---- a row with such a minor

pub record FoundRow (f f_down : List Column → ℕ) (xs : List Column) (left : List Row) : Type 0 where
  pub before : List Row
  pub row : Row
  pub after : List Row
  pub is : before ++ row ∷ after ≡ left
  pub differs : cut row f f_down xs ≢ cut row f_down f xs

pub search_row : (f f_down : List Column → ℕ) (xs : List Column) (left : List Row) → AllByRecursion (λ row. cut row f f_down xs ≡ cut row f_down f xs) left ⊎ FoundRow f f_down xs left
search_row f f_down xs [] = inl tt
search_row f f_down xs (row ∷ left) = elim (cases_eq (cut row f f_down xs) (cut row f_down f xs)) [
  | inr ne ↦ inr (record { before = []; row = row; after = left; is = refl; differs = ne })
  | inl e ↦ elim (search_row f f_down xs left) [
    | inl all ↦ inl (e, all)
    | inr found ↦ inr (record { before = row ∷ found.before; row = found.row; after = found.after; is = ap (λ rs. row ∷ rs) found.is; differs = found.differs })
  ]
]
