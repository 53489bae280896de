-- The columns of a ray's support are added one by one, each with a row for which the minor is not 0, until there is no
-- such row: then the minors are a multiple of the ray.
use Rattle.std.proofs.Common.{◌≡◌, ◌≢◌, ℕ, ◌≤◌, ◌<◌, inl, inr, List, [], ◌∷◌, ◌++◌, slice_index, Bool, sym, subst, arith, ◌∙◌}
use Rattle.std.specs.List.{AllByRecursion}
use Rattle.std.proofs.lemmas.Bool.{cases_lt}
use Rattle.std.proofs.lemmas.List.Elements.{All-from_recursion, recursion_from_All}
use Rattle.cone_definitions.specs.Rows.{Row, IsPrimitiveExtreme, IsZeroAt}
use Rattle.cone_definitions.proofs.Entries.{entry_past, nonzero_before}
use Rattle.cone_laws.proofs.Mixed.{IsBalanced}
use Rattle.cone_bound_laws.proofs.Forms.{Column, cut}
use Rattle.cone_bound_laws.proofs.Minors.{IsWithin, minor}
use Rattle.cone_bound_laws.proofs.Weights.{Sub}
use Rattle.cone_bound_laws.proofs.Built.{columns_of, Apart, Distinct, terms, built, length-built, value_is_cut, entry_apart, entry_first, entry_within}
use Rattle.cone_bound_laws.proofs.Multiples.{entries_at_most}
use Rattle.cone_bound_laws.proofs.Parts.{every_mapped, Parts, one_taken, repeats, search_row}
use Rattle.cone_bound_laws.proofs.Ends.{OfSupport, no_whole_minor}

-- columns still to be added, which differ from each other and from those that are done
unfoldable pub Fresh : List ℕ → List ℕ → Type 0
Fresh [] done = Unit {0}
Fresh (c ∷ rest) done = Apart c done × Fresh rest (c ∷ done)

-- a column at which the vector is 0 is not in its support
apart_from_support : (x : List ℕ) (j : ℕ) (js : List ℕ) → slice_index x j ≡ 0 → OfSupport x js → Apart j js
apart_from_support x j [] z h = tt
apart_from_support x j (i ∷ js) z h = (λ e. h.0 (subst (λ k. slice_index x k ≡ 0) e z), apart_from_support x j js z h.1)

cuts_of : (taken left : List Row) (xs : List Column) → AllByRecursion (λ row. (minor (row ∷ taken)).up xs ≡ (minor (row ∷ taken)).down xs) left →
    AllByRecursion (λ row. cut row (minor taken).up (minor taken).down xs ≡ cut row (minor taken).down (minor taken).up xs) left
unfolding minor
cuts_of taken left xs h = h

module _ (columns : ℕ) (free : ℕ → Bool) (rows : List Row) (x : List ℕ) (hx : IsPrimitiveExtreme columns rows x) (b : ℕ)
    (within : (taken left : List Row) → Parts rows taken left → (js : List ℕ) → Distinct js → OfSupport x js → (ys : List Column) → Sub ys (columns_of columns free js) →
    IsWithin b ((minor taken).up ys) ((minor taken).down ys)) where
  before_end : (j : ℕ) → slice_index x j ≢ 0 → j < columns
  before_end j some = nonzero_before x columns j hx.extreme.solution.width some

  zeros : AllByRecursion (λ row. IsZeroAt row x) rows
  zeros = recursion_from_All (λ row. IsZeroAt row x) rows hx.extreme.solution.zero

  -- if no row gives a nonzero minor with one more column, the minors are a multiple of the ray
  ended : (c : ℕ) (done : List ℕ) (taken left : List Row) → Parts rows taken left → (minor taken).up (columns_of columns free done) ≢ (minor taken).down (columns_of columns free done) →
      Distinct (c ∷ done) → OfSupport x (c ∷ done) →
      AllByRecursion (λ row. cut row (minor taken).up (minor taken).down (columns_of columns free (c ∷ done)) ≡ cut row (minor taken).down (minor taken).up (columns_of columns free (c ∷ done))) left →
      (j : ℕ) → slice_index x j ≤ b
  unfolding Distinct
  ended c done taken left parts differs d s none = entries_at_most columns rows x hx p m (length-built columns _) (length-built columns _) outside
      (All-from_recursion (λ row. IsBalanced row p m) rows (parts.all (λ row. IsBalanced row p m) (balanced taken (cuts_of taken taken (columns_of columns free (c ∷ done)) (repeats taken (columns_of columns free (c ∷ done)))))
      (balanced left none))) b c first inside
    where
      up : List Column → ℕ
      up = (minor taken).up

      down : List Column → ℕ
      down = (minor taken).down

      p : List ℕ
      p = built columns (terms columns free up down (c ∷ done))

      m : List ℕ
      m = built columns (terms columns free down up (c ∷ done))

      outside : (j : ℕ) → slice_index x j ≡ 0 → slice_index p j ≡ slice_index m j
      outside j z = let a : Apart j (c ∷ done) = apart_from_support x j (c ∷ done) z s in
          entry_apart columns free j (c ∷ done) up down a ∙ sym (entry_apart columns free j (c ∷ done) down up a)

      balanced : (rs : List Row) → AllByRecursion (λ row. cut row up down (columns_of columns free (c ∷ done)) ≡ cut row down up (columns_of columns free (c ∷ done))) rs → AllByRecursion (λ row. IsBalanced row p m) rs
      balanced rs h = every_mapped (λ row. cut row up down (columns_of columns free (c ∷ done)) ≡ cut row down up (columns_of columns free (c ∷ done))) (λ row. IsBalanced row p m)
          (λ row e. value_is_cut columns free row (c ∷ done) up down ∙ e ∙ sym (value_is_cut columns free row (c ∷ done) down up)) rs h

      first : slice_index p c ≢ slice_index m c
      first e = differs (sym (entry_first columns free c done up down (before_end c s.0) d.0) ∙ e ∙ entry_first columns free c done down up (before_end c s.0) d.0)

      inside : (j : ℕ) → IsWithin b (slice_index p j) (slice_index m j)
      inside j = elim (cases_lt j columns) [
        | inl l ↦ entry_within columns free b j (c ∷ done) up down l d (within taken left parts (c ∷ done) d s)
        | inr l ↦ record { above = omega (arith, entry_past p columns j (length-built columns _) l, entry_past m columns j (length-built columns _) l); below = omega (arith, entry_past p columns j (length-built columns _) l, entry_past m columns j (length-built columns _) l) }
      ]

  pub walked : (rest done : List ℕ) (taken left : List Row) → Parts rows taken left → (minor taken).up (columns_of columns free done) ≢ (minor taken).down (columns_of columns free done) →
      Distinct done → OfSupport x done → OfSupport x rest → Fresh rest done → ((i : ℕ) → Apart i done → Apart i rest → slice_index x i ≡ 0) → (j : ℕ) → slice_index x j ≤ b
  unfolding Fresh Distinct minor
  walked [] done taken left parts differs d s r f off = absurd (differs (no_whole_minor columns free x hx.extreme.solution.width taken done d s (λ i a. off i a tt) hx.extreme.nonzero
      (parts.each (λ row. IsZeroAt row x) zeros).0))
  walked (c ∷ rest) done taken left parts differs d s r f off =
      elim (search_row (minor taken).up (minor taken).down (columns_of columns free (c ∷ done)) left) [
        | inl none ↦ ended c done taken left parts differs (f.0, d) (r.0, s) none
        | inr found ↦ walked rest (c ∷ done) (found.row ∷ taken) (found.before ++ found.after)
            (one_taken rows taken found.before found.row found.after (subst (Parts rows taken) (sym found.is) parts)) found.differs (f.0, d) (r.0, s) r.1 f.1
            (λ i a e. off i a.1 (a.0, e))
      ]
