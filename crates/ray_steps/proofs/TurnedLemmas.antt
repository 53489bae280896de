-- The combinations with all signs negated are those of the signs.
use Rattle.std.proofs.Common.{◌≡◌, ℕ, inl, inr, ⊎_elim, List, [], ◌∷◌, All, map, length, slice_index_or, subst, sym, ◌∙◌, ap, ap₂, refl, arith}
use Rattle.std.proofs.Math.Nat.{add_comm}
use Rattle.std.proofs.Math.ListN.{get_or-map}
use Rattle.std.proofs.lemmas.List.{length-map}
use Rattle.std.proofs.lemmas.List.Elements.{All-weaker}
use Rattle.std.proofs.lemmas.Nat.Gcd.{IsGcd-swap}
use Rattle.cone_definitions.specs.Rows.{Row}
use Rattle.cone_definitions.specs.Surfaces.{Clash, IsAdmissibleUnion}
use Rattle.cone_definitions.specs.Elimination.{HasPartsWithin}
use Rattle.cone_definitions.specs.Vectors.{sum_of, ray_at}
use Rattle.cone_row_laws.specs.Operations.{negated}
use Rattle.cone_row_laws.proofs.Sums.{plus-negated, minus-negated}
use Rattle.cone_arithmetic.specs.Combinations.{IsCombinationBy, IsReducedBy}
use Rattle.ray_steps.specs.declared.signs.Sign.{Sign}
use Rattle.ray_steps.specs.declared.signs.Sign.TheVariants.{Zero, Positive, Negative}
use Rattle.ray_steps.specs.Signs.{IsSignAt, AreSigns, IsBoundedSign, IsAdjacentPair, IsSignedPair, ComesFromPlaces, IsStepAt, IsMadeUpTo}
use Rattle.ray_steps.specs.Negated.{negated_sign}

-- ---- signs

negated-twice : (sign : Sign) → negated_sign (negated_sign sign) ≡ sign
negated-twice Zero = refl
negated-twice (Positive value) = refl
negated-twice (Negative value) = refl

sign_at-negated : (signs : List Sign) (k : ℕ) → slice_index_or (map negated_sign signs) k Zero ≡ negated_sign (slice_index_or signs k Zero)
sign_at-negated signs k = get_or-map negated_sign signs k Zero

bounded-negated : (limit : ℕ) (sign : Sign) → IsBoundedSign limit sign → IsBoundedSign limit (negated_sign sign)
bounded-negated limit Zero h = h
bounded-negated limit (Positive value) h = h
bounded-negated limit (Negative value) h = h

-- a sign before it was negated
sign_before : (signs : List Sign) (k : ℕ) (sign : Sign) → slice_index_or (map negated_sign signs) k Zero ≡ sign → slice_index_or signs k Zero ≡ negated_sign sign
sign_before signs k sign is = sym (negated-twice (slice_index_or signs k Zero)) ∙ ap negated_sign (sym (sign_at-negated signs k) ∙ is)

sign_after : (signs : List Sign) (k : ℕ) (sign : Sign) → slice_index_or signs k Zero ≡ sign → slice_index_or (map negated_sign signs) k Zero ≡ negated_sign sign
sign_after signs k sign is = sign_at-negated signs k ∙ ap negated_sign is

sign_of_turned : (row : Row) (x : List ℕ) (sign : Sign) → IsSignAt row x sign → IsSignAt (negated row) x (negated_sign sign)
sign_of_turned row x Zero h = plus-negated row x ∙ sym h ∙ sym (minus-negated row x)
sign_of_turned row x (Positive value) h = let p = plus-negated row x in let m = minus-negated row x in (omega (arith, p, m, h.0), omega (arith, p, m, h.0, h.1))
sign_of_turned row x (Negative value) h = let p = plus-negated row x in let m = minus-negated row x in (omega (arith, p, m, h.0), omega (arith, p, m, h.0, h.1))

parts-negated : (limit : ℕ) (row : Row) (x : List ℕ) → HasPartsWithin limit row x → HasPartsWithin limit (negated row) x
parts-negated limit row x h = let p = plus-negated row x in let m = minus-negated row x in (omega (arith, p, h.1), omega (arith, m, h.0))

pub signs-negated : (limit : ℕ) (rays : List (List ℕ)) (signs : List Sign) (row : Row) → AreSigns limit row rays signs → AreSigns limit (negated row) rays (map negated_sign signs)
signs-negated limit rays signs row h = record {
  count = length-map signs negated_sign ∙ h.count;
  each = λ k d within. let n = length-map signs negated_sign in
      subst (IsSignAt (negated row) (ray_at rays k)) (sym (get_or-map negated_sign signs k (negated_sign d)) ∙ ap (slice_index_or (map negated_sign signs) k) (negated-twice d))
      (sign_of_turned row (ray_at rays k) (slice_index_or signs k (negated_sign d)) (h.each k (negated_sign d) (omega (arith, n, within))));
  within = All-weaker (HasPartsWithin limit row) (HasPartsWithin limit (negated row)) (parts-negated limit row) rays h.within;
}

-- ---- pairs

union-negated : (pairs : List Clash) (u w : List ℕ) → IsAdmissibleUnion pairs u w → IsAdmissibleUnion pairs w u
union-negated pairs u w h k d within = ⊎_elim (λ first. inl (first.1, first.0)) (λ second. inr (second.1, second.0)) (h k d within)

face-negated : (pairs : List Clash) (rays : List (List ℕ)) (i j : ℕ) → IsAdjacentPair pairs rays i j → IsAdjacentPair pairs rays j i
face-negated pairs rays i j h = record {
  no_clash = union-negated pairs (ray_at rays i) (ray_at rays j) h.no_clash;
  no_third = λ k within inside. ⊎_elim (λ e. inr e) (λ e. inl e) (h.no_third k within (λ column at_u at_w. inside column at_w at_u));
}

sum_of-negated : (x y : List ℕ) → sum_of x y ≡ sum_of y x
sum_of-negated [] [] = refl
sum_of-negated [] (b ∷ y) = refl
sum_of-negated (a ∷ x) [] = refl
sum_of-negated (a ∷ x) (b ∷ y) = ap₂ (λ n z. n ∷ z) (add_comm a b) (sum_of-negated x y)

combination-negated : (at_u at_w : ℕ) (u w z : List ℕ) → IsCombinationBy at_u at_w u w z → IsCombinationBy at_w at_u w u z
combination-negated at_u at_w u w z h = record { divisor = h.divisor; greatest = IsGcd-swap at_u at_w h.divisor h.greatest; sum = h.sum ∙ sum_of-negated _ _ }

reduced-negated : (limit at_u at_w : ℕ) (u w x : List ℕ) → IsReducedBy limit at_u at_w u w x → IsReducedBy limit at_w at_u w u x
reduced-negated limit at_u at_w u w x h = record {
  combination = h.combination;
  combines = combination-negated at_u at_w u w h.combination h.combines;
  within = h.within;
  divisor = h.divisor;
  is_multiple = h.is_multiple;
  primitive = h.primitive;
}

module _ (limit : ℕ) (pairs : List Clash) (rays : List (List ℕ)) (signs : List Sign) where
  abbrev pair_before : (u w : ℕ) → IsSignedPair pairs rays (map negated_sign signs) u w → IsSignedPair pairs rays signs w u
  pair_before u w p = record {
    u_in_range = p.w_in_range;
    w_in_range = p.u_in_range;
    at_u = p.at_w;
    at_w = p.at_u;
    positive = sign_before signs w (Negative p.at_w) p.negative;
    negative = sign_before signs u (Positive p.at_u) p.positive;
    face = face-negated pairs rays u w p.face;
  }

  abbrev pair_after : (u w : ℕ) → IsSignedPair pairs rays signs u w → IsSignedPair pairs rays (map negated_sign signs) w u
  pair_after u w p = record {
    u_in_range = p.w_in_range;
    w_in_range = p.u_in_range;
    at_u = p.at_w;
    at_w = p.at_u;
    positive = sign_after signs w (Negative p.at_w) p.negative;
    negative = sign_after signs u (Positive p.at_u) p.positive;
    face = face-negated pairs rays u w p.face;
  }

  step-negated : IsStepAt limit pairs rays signs → IsStepAt limit pairs rays (map negated_sign signs)
  step-negated h = record { columns = h.columns; before = h.before; row = negated h.row; surfaces = h.surfaces; signed = signs-negated limit rays signs h.row h.signed }

  -- all pairs were done with the signs negated
  pub made-negated : (made : List (List ℕ)) → length signs ≡ length rays →
      IsMadeUpTo limit pairs rays (map negated_sign signs) (length (map negated_sign signs)) 0 made → IsMadeUpTo limit pairs rays signs (length signs) 0 made
  made-negated made count h = record {
    comes = All-weaker (ComesFromPlaces limit pairs rays (map negated_sign signs) (length (map negated_sign signs)) 0) (ComesFromPlaces limit pairs rays signs (length signs) 0)
        (λ x c. record {
          u = c.w;
          w = c.u;
          taken = inl (let r = c.pair.w_in_range in omega arith);
          pair = pair_before c.u c.w c.pair;
          reduced = reduced-negated limit c.pair.at_u c.pair.at_w (ray_at rays c.u) (ray_at rays c.w) x c.reduced;
        }) made h.comes;
    gives = λ u w taken p.
        let g = h.gives w u (inl (let r = p.w_in_range in let n = length-map signs negated_sign in omega arith)) (pair_after u w p) in record {
          pair = pair_before w u g.pair;
          x = g.x;
          occurs = g.occurs;
          reduced = reduced-negated limit g.pair.at_u g.pair.at_w (ray_at rays w) (ray_at rays u) g.x g.reduced;
        };
    separate = λ step. h.separate (step-negated step);
  }

-- the values remain within the limit
pub all_bounded-negated : (limit : ℕ) (signs : List Sign) → All (IsBoundedSign limit) signs → All (IsBoundedSign limit) (map negated_sign signs)
all_bounded-negated limit signs h k d within =
    let n = length-map signs negated_sign in
    subst (IsBoundedSign limit) (sym (get_or-map negated_sign signs k (negated_sign d)) ∙ ap (slice_index_or (map negated_sign signs) k) (negated-twice d))
    (bounded-negated limit (slice_index_or signs k (negated_sign d)) (h k (negated_sign d) (omega (arith, n, within))))
