-- A solution as a sum of listed rays: step by step, the first listed ray whose support lies in that of the remainder is
-- subtracted from it.
use Rattle.std.specs.Prelude.{◌≡◌, ◌≢◌, ℕ, zero, suc, ◌*◌, ◌-◌, ◌<◌, ◌≤◌, List, [], ◌∷◌, ◌++◌, map, ◌⊎◌, slice_index}
use Rattle.std.specs.List.{All, AllPairs, Contains}
use Rattle.std.specs.Int.{IsGcd}
use Rattle.cone_definitions.specs.Vectors.{IsNonzero, IsInside, IsBefore, multiple}
use Rattle.cone_definitions.specs.Rows.{Row, IsSolution, IsPrimitiveExtreme}
use Rattle.sum_definitions.specs.declared.Term.{Term as Taken}

-- a vector times a factor
abbrev pub Term : Type 0
Term = Taken (List ℕ)

-- the solution times a factor is the sum of the terms and the remainder
pub record State : Type 0 where
  pub times : ℕ
  pub terms : List Term
  pub rest : List ℕ

-- the solution itself is left
abbrev pub first_state : List ℕ → State
first_state x = record { times = 1; terms = []; rest = x }

-- the least listed vector whose support lies in that of r
pub record IsLeastInside (list : List (List ℕ)) (r v : List ℕ) : Type 0 where
  pub listed : Contains list v
  pub inside : IsInside v r
  pub least : (other : List ℕ) → Contains list other → IsInside other r → (v ≡ other) ⊎ IsBefore v other

-- p / q, in lowest terms, is the least quotient of an entry of r by the entry of v, over the columns with a nonzero
-- entry of v
pub record IsLeastFraction (r v : List ℕ) (p q : ℕ) : Type 0 where
  pub lowest : IsGcd p q 1
  pub column : ℕ
  pub some : slice_index v column ≢ 0
  pub reached : p * slice_index v column ≡ q * slice_index r column
  pub least : (other : ℕ) → slice_index v other ≢ 0 → p * slice_index v other ≤ q * slice_index r other

-- the first vector less the second, entry by entry
abbrev pub difference : List ℕ → List ℕ → List ℕ
difference [] _ = []
difference (_ ∷ _) [] = []
difference (a ∷ x) (b ∷ y) = (a - b) ∷ difference x y

-- the same vector, q times as often
abbrev pub repeated : ℕ → Term → Term
repeated q term = record { count = q * term.count; vector = term.vector }

-- all is taken q times, and then v is taken out p times
abbrev pub taken_out : State → ℕ → ℕ → List ℕ → State
taken_out s p q v = record {
  times = q * s.times;
  terms = map (repeated q) s.terms ++ record { count = p; vector = v } ∷ [];
  rest = difference (multiple q s.rest) (multiple p v);
}

-- while the remainder is nonzero, a step subtracts the first listed vector inside it, with the greatest factor that
-- leaves no entry negative
pub record IsSumStep (list : List (List ℕ)) (s next : State) : Type 0 where
  pub left : IsNonzero s.rest
  pub vector : List ℕ
  pub p : ℕ
  pub q : ℕ
  pub least_inside : IsLeastInside list s.rest vector
  pub fraction : IsLeastFraction s.rest vector p q
  pub after : next ≡ taken_out s p q vector

-- no entry of the vector, times the factor, exceeds the limit
abbrev pub IsWithinTimes : ℕ → List ℕ → ℕ → Type 0
IsWithinTimes limit x times = (column : ℕ) → times * slice_index x column ≤ limit

-- the given number of steps leads from x to the state, and at none of them an entry of x, times its factor, exceeds
-- the limit
abbrev pub ReachesState : ℕ → List (List ℕ) → List ℕ → ℕ → State → Type 0
ReachesState limit list x zero s = s ≡ first_state x
ReachesState limit list x (suc turns) s = (before : State) × ReachesState limit list x turns before × IsSumStep list before s × IsWithinTimes limit x s.times

-- the steps end in a state with the remainder 0
pub record IsSum (limit : ℕ) (list : List (List ℕ)) (x : List ℕ) (times : ℕ) (terms : List Term) : Type 0 where
  pub turns : ℕ
  pub rest : List ℕ
  pub led : ReachesState limit list x turns (record { times = times; terms = terms; rest = rest })
  pub nothing_left : (column : ℕ) → slice_index rest column ≡ 0

-- the step with this number, counted from 0, is the first at which an entry exceeds the limit, and this is the first
-- such column
pub record IsLargeStep (limit : ℕ) (list : List (List ℕ)) (x : List ℕ) (turn column : ℕ) : Type 0 where
  pub before : State
  pub next : State
  pub led : ReachesState limit list x turn before
  pub turns : IsSumStep list before next
  pub large : limit < next.times * slice_index x column
  pub first : (earlier : ℕ) → earlier < column → next.times * slice_index x earlier ≤ limit

-- x is a solution; the list ascends, its vectors are primitive extreme solutions, and all those inside x are listed
pub record HasRays (columns : ℕ) (rows : List Row) (list : List (List ℕ)) (x : List ℕ) : Type 0 where
  pub solution : IsSolution columns rows x
  pub ascending : AllPairs IsBefore list
  pub rays : All (IsPrimitiveExtreme columns rows) list
  pub complete : (v : List ℕ) → IsPrimitiveExtreme columns rows v → IsInside v x → Contains list v
