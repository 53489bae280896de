-- Rows with the same solutions.
use Rattle.std.proofs.Common.{ℕ, ◌++◌, List, [], ◌∷◌, All}
use Rattle.std.proofs.lemmas.List.Elements.{All-append, All-tail}
use Rattle.cone_definitions.specs.Rows.{Row, IsZeroAt}
use Rattle.cone_row_laws.specs.Solutions.{HaveSameSolutions}
use Rattle.cone_row_laws.proofs.Agreement.{list_kept}
use Rattle.cone_row_laws.specs.RedundantRows.{OneListOfSolutions, IsRedundant}

pub one_list : OneListOfSolutions
one_list columns rows others pairs surfaces same = (list_kept columns rows others pairs surfaces same).0

pub all_behind : (P : Row → Type 0) (xs ys : List Row) → All P (xs ++ ys) → All P ys
all_behind P [] ys h = h
all_behind P (x ∷ xs) ys h = all_behind P xs ys (All-tail P x (xs ++ ys) h)

pub further_free : (columns : ℕ) (rows further : List Row) → All (IsRedundant columns rows) further → HaveSameSolutions columns (further ++ rows) rows
further_free columns rows further h x = (
  (λ s. record { width = s.width; zero = all_behind (λ row. IsZeroAt row x) further rows s.zero }),
  (λ s. record { width = s.width; zero = All-append (λ row. IsZeroAt row x) further rows (λ k d l. h k d l x s) s.zero }),
)
