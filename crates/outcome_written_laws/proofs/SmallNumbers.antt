-- The numbers of a sum are within the limit, and it has at most as many terms as there are columns.
use Rattle.std.proofs.Common.{◌≡◌, ◌≢◌, ℕ, zero, suc, ◌*◌, ◌≤◌, inl, inr, List, [], ◌∷◌, length, slice_index, ap, arith}
use Rattle.std.specs.List.{AllByRecursion, Contains}
use Rattle.std.proofs.Math.Nat.{mul-le-mul_left, mul-le-mul_right}
use Rattle.std.proofs.lemmas.List.Sums.{sum_by-cons}
use Rattle.std.proofs.lemmas.List.Elements.{recursion_from_All}
use Rattle.text_definitions.specs.Written.{limit}
use Rattle.cone_definitions.specs.Vectors.{IsNonzero}
use Rattle.cone_definitions.specs.Rows.{Row}
use Rattle.cone_definitions.proofs.Entries.{zero_or_nonzero}
use Rattle.sum_definitions.specs.Sums.{Term, State, IsSum, ReachesState, HasRays}
use Rattle.sum_definitions.specs.Adding.{sum_at}
use Rattle.sum_laws.specs.Laws.{IsSumOfRays}
use Rattle.sum_laws.proofs.Turns.{led_reached, listed_ray}
use Rattle.sum_laws.proofs.Runs.{bounded_steps, sum_is_right}
use Rattle.sum_laws.proofs.OneTerm.{terms_are_turns}
use Rattle.text_document_definitions.specs.Blocks.{Block, most_terms}
use Rattle.outcome_written_laws.proofs.WrittenBlocks.{FitsTerm, FitsBlock}

-- a factor is at most the product, if the other factor is at least 1
pub first_factor : (a b : ℕ) → 1 ≤ b → a ≤ a * b
first_factor a b some = let l : a * 1 ≤ a * b = mul-le-mul_left a some in omega arith

pub second_factor : (a b : ℕ) → 1 ≤ a → b ≤ a * b
second_factor a b some = let l : 1 * b ≤ a * b = mul-le-mul_right b some in omega arith

-- a bound of the entries at all columns bounds all entries
each_entry : (x : List ℕ) (bound : ℕ) → ((j : ℕ) → slice_index x j ≤ bound) → AllByRecursion (λ entry. entry ≤ bound) x
each_entry [] bound h = tt
each_entry (entry ∷ x) bound h = (h 0, each_entry x bound (λ j. h (suc j)))

-- a bound of the sum at each column bounds each term there
pub each_term : (terms : List Term) (bound : ℕ → ℕ) → ((j : ℕ) → sum_at terms j ≤ bound j) → AllByRecursion (λ (term : Term). (j : ℕ) → term.count * slice_index term.vector j ≤ bound j) terms
each_term [] bound h = tt
each_term (term ∷ terms) bound h = (
  λ j. let e = sum_by-cons (λ (t : Term). t.count * slice_index t.vector j) term terms in let l : sum_at (term ∷ terms) j ≤ bound j = h j in omega arith,
  each_term terms bound (λ j. let e = sum_by-cons (λ (t : Term). t.count * slice_index t.vector j) term terms in let l : sum_at (term ∷ terms) j ≤ bound j = h j in omega arith),
)

module _ (columns : ℕ) (rows : List Row) (list : List (List ℕ)) (x : List ℕ) (h : HasRays columns rows list x) (most times : ℕ) (terms : List Term) (s : IsSum most list x times terms) where
  right : IsSumOfRays list most x times terms
  right = sum_is_right columns rows list x h most times terms s

  abbrev last : State
  last = record { times = times; terms = terms; rest = s.rest }

  -- a vector of zeros is taken once
  once : (turns : ℕ) (t : State) → ((j : ℕ) → slice_index x j ≡ 0) → ReachesState most list x turns t → t.times ≡ 1
  once zero t none e = ap (λ (u : State). u.times) e
  once (suc turns) t none led =
      let left : IsNonzero led.0.rest = led.2.left in
      absurd (left.1 ((led_reached columns rows list x h most turns led.0 led.1).inside left.0 (none left.0)))

  pub times_within : most ≤ limit → times ≤ limit
  times_within low = elim (zero_or_nonzero x) [
    | inl none ↦ let e : times ≡ 1 = once s.turns last none s.led in omega arith
    | inr nonzero ↦ let l : times * slice_index x nonzero.0 ≤ most = right.adds_up.within nonzero.0 in
        let n : slice_index x nonzero.0 ≢ 0 = nonzero.1 in
        let m : times ≤ times * slice_index x nonzero.0 = first_factor times (slice_index x nonzero.0) (omega arith) in omega arith
  ]

  pub entries_within : AllByRecursion (λ entry. entry ≤ most) x
  entries_within = each_entry x most (λ j. let l : times * slice_index x j ≤ most = right.adds_up.within j in
      let m : slice_index x j ≤ times * slice_index x j = second_factor times (slice_index x j) right.adds_up.some in omega arith)

  pub few_terms : length terms ≤ columns
  few_terms = let e : length terms ≡ s.turns = terms_are_turns columns rows list x h most s.turns last s.led in
      let l : s.turns ≤ columns = bounded_steps columns rows list x h most s.turns last s.led in omega arith

  -- a term with each multiple of an entry within the limit can be written
  term_fits : (term : Term) → most ≤ limit → Contains list term.vector → 1 ≤ term.count → ((j : ℕ) → term.count * slice_index term.vector j ≤ most) → FitsTerm term
  term_fits term low listed some within =
      let nonzero : IsNonzero term.vector = (listed_ray columns rows list x h term.vector listed).extreme.nonzero in
      record {
        count = (let n : slice_index term.vector nonzero.0 ≢ 0 = nonzero.1 in let l : term.count * slice_index term.vector nonzero.0 ≤ most = within nonzero.0 in
            let m : term.count ≤ term.count * slice_index term.vector nonzero.0 = first_factor term.count (slice_index term.vector nonzero.0) (omega arith) in omega arith);
        entries = each_entry term.vector limit (λ j. let l : term.count * slice_index term.vector j ≤ most = within j in
            let m : slice_index term.vector j ≤ term.count * slice_index term.vector j = second_factor term.count (slice_index term.vector j) some in omega arith);
      }

  all_fit : (ts : List Term) → most ≤ limit → AllByRecursion (λ (term : Term). Contains list term.vector) ts → AllByRecursion (λ (term : Term). 1 ≤ term.count) ts
      → AllByRecursion (λ (term : Term). (j : ℕ) → term.count * slice_index term.vector j ≤ most) ts → AllByRecursion FitsTerm ts
  all_fit [] low listed some within = tt
  all_fit (term ∷ ts) low listed some within = (term_fits term low listed.0 some.0 within.0, all_fit ts low listed.1 some.1 within.1)

  pub terms_within : (j : ℕ) → sum_at terms j ≤ most
  terms_within j = let e : times * slice_index x j ≡ sum_at terms j = right.adds_up.equal j in let l : times * slice_index x j ≤ most = right.adds_up.within j in omega arith

  pub terms_fit : most ≤ limit → AllByRecursion FitsTerm terms
  terms_fit low = all_fit terms low
      (recursion_from_All (λ (term : Term). Contains list term.vector) terms right.listed)
      (recursion_from_All (λ (term : Term). 1 ≤ term.count) terms right.counts)
      (each_term terms (λ j. most) terms_within)

widened : (x : List ℕ) (a b : ℕ) → a ≤ b → AllByRecursion (λ entry. entry ≤ a) x → AllByRecursion (λ entry. entry ≤ b) x
widened [] a b l h = tt
widened (entry ∷ x) a b l h = (let m = h.0 in omega arith, widened x a b l h.1)

-- a block of a sum can be written
pub block_fits : (columns : ℕ) (rows : List Row) (list : List (List ℕ)) (most : ℕ) (block : Block) → HasRays columns rows list block.vector → most ≤ limit → columns ≤ most_terms
    → IsSum most list block.vector block.times block.terms → FitsBlock block
block_fits columns rows list most block h low limited s = record {
  entries = widened block.vector most limit low (entries_within columns rows list block.vector h most block.times block.terms s);
  times = times_low;
  limited = (let l : length block.terms ≤ columns = few_terms columns rows list block.vector h most block.times block.terms s in omega arith);
  terms = terms_fit columns rows list block.vector h most block.times block.terms s low;
}
  where
    times_low : block.times ≤ limit
    times_low = times_within columns rows list block.vector h most block.times block.terms s low
