-- One more term is negated.
use Rattle.std.proofs.Common.{rules, ◌≡◌, ◌<◌, ℕ, ℤ, pos, length, get_or, ◌∙◌, ap, sym, arith, FitsSigned, w32, w64, to_z, of_z, ◌+ℤ◌, neg_ℤ}
use Rattle.std.proofs.lemmas.Int.{ints}
use Rattle.std.proofs.lemmas.List.{take_more_same, get_or-map, length-map}
use Rattle.cone_definitions.specs.Rows.{Row}
use Rattle.cone_row_laws.specs.Operations.{negated}
use Rattle.row_reduction.proofs.known.is_negative_of.Goals as goal

opposite : (z w r s : ℤ) → FitsSigned w32 z → FitsSigned w32 w → r ≡ to_z w32 (of_z w32 z) → s ≡ to_z w32 (of_z w32 w) →
    of_z w64 (to_z w64 (of_z w64 r) +ℤ to_z w64 (of_z w64 s)) ≡ 0 → z ≡ neg_ℤ w
opposite z w r s fits fits_other e f h = omega (arith, ints)

turned_term : ℕ × ℤ → ℕ × ℤ
turned_term term = (term.0, neg_ℤ term.1)

term-negated : (row : Row) (i : ℕ) (term : ℕ × ℤ) → i < length row → term.0 ≡ (get_or row i (0, pos 0)).0 → term.1 ≡ neg_ℤ (get_or row i (0, pos 0)).1 →
    term ≡ get_or (negated row) i (0, pos 0)
unfolding turned_term
term-negated row i term h e f =
    ap (λ n. (n, term.1)) e ∙ ap (λ z. ((get_or row i (0, pos 0)).0, z)) f ∙ sym (get_or-map turned_term row i (0, pos 0) (0, pos 0) h)

length-negated : (row : Row) → length (negated row) ≡ length row
unfolding turned_term
length-negated row = length-map row turned_term

pub loop-i-preserved : goal.loop-i-preserved
loop-i-preserved c =
    let one = c.args.one.now in
    let other = c.args.other.now in
    let i = c.loop-i.i in
    let within : i < length one = search rules in
    let within_other : i < length other = search rules in
    let fits : FitsSigned w32 (get_or one i (0, pos 0)).1 = search rules in
    let fits_other : FitsSigned w32 (get_or other i (0, pos 0)).1 = search rules in
    let z = opposite (get_or one i (0, pos 0)).1 (get_or other i (0, pos 0)).1 c.from.result c.from-else-one-i.result fits fits_other c.from.ensures c.from-else-one-i.ensures c.if-from-ne0.false in
    record {
      count = c.loop-i.invariant.count;
      same = take_more_same one (negated other) i (0, pos 0) within (let e = length-negated other in omega (arith, e)) c.loop-i.invariant.same
          (term-negated other i (get_or one i (0, pos 0)) within_other c.if-one-i.false z);
    }
