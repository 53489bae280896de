use Rattle.std.proofs.Common.{◌≡◌, ◌≢◌, ℕ, ◌<◌, ◌≤◌, List, length, slice_index, slice_set, ⊎_elim, subst, sym, ◌∙◌, arith, length-set, get_or-set_same, get_or-set_other}
use Rattle.std.specs.Int.{◌∣◌}
use Rattle.std.proofs.lemmas.Nat.Gcd.{dvd-zero}
use Rattle.std.proofs.lemmas.Bool.{cases_eq}
use Rattle.cone_arithmetic.specs.RayEntries.{IsReduced, numbers_of}
use Rattle.cone_arithmetic.specs.declared.numbers.TheConstants.{MAX_ENTRY}
use Rattle.cone_arithmetic.proofs.packed.PackedRay.with_new_entry.Goals as goal

module _ (limit : ℕ) (x : List ℕ) (column value : ℕ) (h : IsReduced limit x) (within : column < length x) (gone : slice_index x column ≡ 0) where
  entry_same : slice_index (slice_set x column value) column ≡ value
  entry_same = get_or-set_same x column value 0 within

  entry_other : (j : ℕ) → j ≢ column → slice_index (slice_set x column value) j ≡ slice_index x j
  entry_other j other = get_or-set_other x column j value 0 other

  raised_reduced : value ≤ limit → IsReduced limit (slice_set x column value)
  raised_reduced most = record {
    width = let w = h.width in omega (arith, length-set x column value);
    bounded = λ j. ⊎_elim
        (λ e. subst (λ i. slice_index (slice_set x column value) i ≤ limit) (sym e) (let s = entry_same in omega (arith, s)))
        (λ other. let s = entry_other j other in let b = h.bounded j in omega (arith, s, b))
        (cases_eq j column);
    nonzero = let n = h.nonzero in
        (n.0, λ z. n.1 (sym (entry_other n.0 (λ e. n.1 (subst (λ i. slice_index x i ≡ 0) (sym e) gone))) ∙ z));
    primitive = λ d divides. h.primitive d (λ j. ⊎_elim
        (λ e. subst (λ n. d ∣ n) (sym (subst (λ i. slice_index x i ≡ 0) (sym e) gone)) (dvd-zero d))
        (λ other. subst (λ n. d ∣ n) (entry_other j other) (divides j))
        (cases_eq j column));
  }

pub invariant_of-result : goal.invariant_of-result
invariant_of-result c =
    let x = numbers_of c.self.inside.entries in
    let most = c.self.invariant in
    subst (IsReduced MAX_ENTRY) (sym c.in_ok-entries.ensures)
    (raised_reduced MAX_ENTRY x c.args.column c.args.value most
    (subst (λ xs. c.args.column < length xs) (sym c.self.view_is) c.requires.in_range) (subst (λ xs. slice_index xs c.args.column ≡ 0) (sym c.self.view_is) c.requires.gone) c.requires.most)
