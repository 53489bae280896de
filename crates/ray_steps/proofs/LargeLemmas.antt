-- What a refusal names, by the indices of the rays, and the width of combinations.
use Rattle.std.proofs.Common.{◌≡◌, ℕ, ◌/◌, List, length, subst₂, ap, sym, ◌∙◌}
use Rattle.cone_definitions.specs.Vectors.{multiple, ray_at}
use Rattle.cone_definitions.specs.Surfaces.{Clash}
use Rattle.cone_definitions.proofs.Entries.{length-multiple, length-sum_of}
use Rattle.cone_arithmetic.specs.Combinations.{IsReducedBy, HasFirstExceeding}
use Rattle.ray_steps.specs.declared.signs.Sign.{Sign}
use Rattle.ray_steps.specs.declared.rays.StepFault.{StepFault}
use Rattle.ray_steps.specs.declared.rays.StepFault.TheVariants.{Large, NoMemory}
use Rattle.cone_definitions.specs.declared.LargeKind.TheVariants.{Value, Pair}
use Rattle.ray_steps.specs.Faults.{IfLarge, IsLargeSumOf, IsFirstLargeSum}
use Rattle.ray_steps.specs.Signs.{IsSignedPair, IsMadeUpTo}

-- the pair is the first whose combination exceeds the limit
pub first_large : (limit : ℕ) (pairs : List Clash) (rays : List (List ℕ)) (signs : List Sign) (i j : ℕ) (made : List (List ℕ)) → IsMadeUpTo limit pairs rays signs i j made →
    (p : IsSignedPair pairs rays signs i j) (u w : List ℕ) → ray_at rays i ≡ u → ray_at rays j ≡ w → (fault : StepFault) →
    IfLarge (IsLargeSumOf limit p.at_u p.at_w u w) fault → IfLarge (IsFirstLargeSum limit pairs rays signs) fault
first_large limit pairs rays signs i j made h p u w u_is w_is (Large (Value x)) k = k
first_large limit pairs rays signs i j made h p u w u_is w_is (Large (Pair x y)) k = record {
  u = i;
  w = j;
  x_is = k.0 ∙ sym u_is;
  y_is = k.1 ∙ sym w_is;
  pair = p;
  column = k.2.0;
  large = subst₂ (λ a b. HasFirstExceeding limit p.at_u p.at_w a b k.2.0) (sym u_is) (sym w_is) k.2.1;
  earlier = λ a b taken q. let g = h.gives a b taken q in (g.pair, g.x, g.reduced);
}
first_large limit pairs rays signs i j made h p u w u_is w_is NoMemory k = k

-- a combination divided by its greatest common divisor is as wide as the two rays
pub reduced_width : (limit at_u at_w : ℕ) (u w x : List ℕ) → IsReducedBy limit at_u at_w u w x → length u ≡ length w → length x ≡ length w
reduced_width limit at_u at_w u w x h same =
    sym (length-multiple h.divisor x) ∙ sym (ap length h.is_multiple) ∙ ap length h.combines.sum ∙
    length-sum_of (multiple (at_u / h.combines.divisor) w) (multiple (at_w / h.combines.divisor) u)
    (length-multiple (at_u / h.combines.divisor) w ∙ sym same ∙ sym (length-multiple (at_w / h.combines.divisor) u)) ∙
    length-multiple (at_u / h.combines.divisor) w
