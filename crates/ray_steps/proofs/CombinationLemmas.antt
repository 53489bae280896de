-- The combinations of the pairs done so far, with one more pair.
use Rattle.std.proofs.Common.{◌≡◌, ◌≢◌, ℕ, ◌+◌, ◌<◌, ◌≤◌, ◌⊎◌, inl, inr, ⊎_elim, List, [], ◌∷◌, ◌++◌, length, slice_index_or, subst, subst₂, ap, sym, ◌∙◌, refl, arith}
use Rattle.std.proofs.lemmas.List.Elements.{All-push, All-weaker, Contains-push, Contains-append_left}
use Rattle.std.proofs.lemmas.List.Quantifiers.{all_pairs_push}
use Rattle.std.proofs.lemmas.Bool.{cases_lt}
use Rattle.cone_definitions.specs.Rows.{Row, IsPositiveAt, IsNegativeAt, value_at, magnitude_at}
use Rattle.cone_definitions.specs.Surfaces.{Clash}
use Rattle.cone_definitions.specs.Elimination.{IsPair, IsReducedCombination, IsCombination}
use Rattle.cone_definitions.specs.Enumeration.{ComesFromPair}
use Rattle.cone_definitions.proofs.Surfaces.{pairs_differ_lem}
use Rattle.cone_definitions.proofs.Unordered.{pair_from_places, place_is_one}
use Rattle.cone_definitions.specs.Vectors.{ray_at}
use Rattle.cone_arithmetic.specs.Combinations.{IsCombinationBy, IsReducedBy}
use Rattle.ray_steps.specs.declared.signs.Sign.{Sign}
use Rattle.ray_steps.specs.declared.signs.Sign.TheVariants.{Zero, Positive, Negative}
use Rattle.ray_steps.specs.Next.{step_of}
use Rattle.ray_steps.specs.Signs.{IsSignAt, AreSigns, IsSignedPair, IsDoneBefore, ComesFromPlaces, GivesFrom, IsStepAt, IsMadeUpTo}

-- a combination by the values of a row at both rays is that of the row
pub combination_by_row : (row : Row) (at_u at_w : ℕ) (u w z : List ℕ) → at_u ≡ value_at row u → at_w ≡ magnitude_at row w → IsCombinationBy at_u at_w u w z → IsCombination row u w z
combination_by_row row at_u at_w u w z u_is w_is h =
    let k = subst₂ (λ a b. IsCombinationBy a b u w z) u_is w_is h in record { divisor = k.divisor; greatest = k.greatest; sum = k.sum }

pub reduced_by_row : (limit : ℕ) (row : Row) (at_u at_w : ℕ) (u w x : List ℕ) → at_u ≡ value_at row u → at_w ≡ magnitude_at row w → IsReducedBy limit at_u at_w u w x → IsReducedCombination row u w x
reduced_by_row limit row at_u at_w u w x u_is w_is h = record {
  combination = h.combination;
  combines = combination_by_row row at_u at_w u w h.combination u_is w_is h.combines;
  divisor = h.divisor;
  is_multiple = h.is_multiple;
  primitive = h.primitive;
}

module _ (limit : ℕ) (pairs : List Clash) (rays : List (List ℕ)) (signs : List Sign) where
  -- the sign that was read is that of the row at the ray
  pub sign_read : (row : Row) → AreSigns limit row rays signs → (k : ℕ) (sign : Sign) → k < length rays → slice_index_or signs k Zero ≡ sign → IsSignAt row (ray_at rays k) sign
  sign_read row h k sign within is = subst (IsSignAt row (ray_at rays k)) is (h.each k Zero (let e = h.count in omega arith))

  pub positive_read : (row : Row) → AreSigns limit row rays signs → (u w : ℕ) (p : IsSignedPair pairs rays signs u w) →
      IsPositiveAt row (ray_at rays u) × (p.at_u ≡ value_at row (ray_at rays u))
  positive_read row h u w p = sign_read row h u (Positive p.at_u) p.u_in_range p.positive

  pub negative_read : (row : Row) → AreSigns limit row rays signs → (u w : ℕ) (p : IsSignedPair pairs rays signs u w) →
      IsNegativeAt row (ray_at rays w) × (p.at_w ≡ magnitude_at row (ray_at rays w))
  negative_read row h u w p = sign_read row h w (Negative p.at_w) p.w_in_range p.negative

  module _ (step : IsStepAt limit pairs rays signs) where
    pub pair_read : (u w : ℕ) → IsSignedPair pairs rays signs u w → IsPair (step_of pairs step.columns step.before step.row) (ray_at rays u) (ray_at rays w)
    pair_read u w p =
        pair_from_places (step_of pairs step.columns step.before step.row) rays step.surfaces u w p.u_in_range p.w_in_range
        (positive_read step.row step.signed u w p).0 (negative_read step.row step.signed u w p).0 p.face.no_clash p.face.no_third

    pub reduced_read : (u w : ℕ) (x : List ℕ) (p : IsSignedPair pairs rays signs u w) → IsReducedBy limit p.at_u p.at_w (ray_at rays u) (ray_at rays w) x →
        IsReducedCombination step.row (ray_at rays u) (ray_at rays w) x
    reduced_read u w x p h = reduced_by_row limit step.row p.at_u p.at_w (ray_at rays u) (ray_at rays w) x
        (positive_read step.row step.signed u w p).1 (negative_read step.row step.signed u w p).1 h

    pub comes_read : (u w : ℕ) (x : List ℕ) (p : IsSignedPair pairs rays signs u w) → IsReducedBy limit p.at_u p.at_w (ray_at rays u) (ray_at rays w) x →
        ComesFromPair (step_of pairs step.columns step.before step.row) x
    comes_read u w x p h = record { u = ray_at rays u; w = ray_at rays w; pair = pair_read u w p; reduced = reduced_read u w x p h }

    -- different pairs have different combinations
    pub places_differ : (i j u w : ℕ) (x : List ℕ) (p : IsSignedPair pairs rays signs i j) (q : IsSignedPair pairs rays signs u w) →
        IsReducedBy limit p.at_u p.at_w (ray_at rays i) (ray_at rays j) x → IsReducedBy limit q.at_u q.at_w (ray_at rays u) (ray_at rays w) x → (u ≡ i) × (w ≡ j)
    unfolding comes_read
    places_differ i j u w x p q h k =
        let same = pairs_differ_lem (step_of pairs step.columns step.before step.row) x (comes_read u w x q k) (comes_read i j x p h) in (
          place_is_one (step_of pairs step.columns step.before step.row) rays step.surfaces i u p.u_in_range q.u_in_range same.0,
          place_is_one (step_of pairs step.columns step.before step.row) rays step.surfaces j w p.w_in_range q.w_in_range same.1,
        )

  taken_weaker : (i j u w : ℕ) → IsDoneBefore u w i j → IsDoneBefore u w i (j + 1)
  taken_weaker i j u w (inl h) = inl h
  taken_weaker i j u w (inr h) = inr (h.0, let e = h.1 in omega arith)

  taken_cases : (i j u w : ℕ) → IsDoneBefore u w i (j + 1) → IsDoneBefore u w i j ⊎ ((u ≡ i) × (w ≡ j))
  taken_cases i j u w (inl h) = inl (inl h)
  taken_cases i j u w (inr h) = ⊎_elim (λ less. inl (inr (h.0, less))) (λ more. inr (h.0, let e = h.1 in omega arith)) (cases_lt w j)

  comes_weaker : (i j k l : ℕ) → ((u w : ℕ) → IsDoneBefore u w i j → IsDoneBefore u w k l) → (x : List ℕ) → ComesFromPlaces limit pairs rays signs i j x → ComesFromPlaces limit pairs rays signs k l x
  comes_weaker i j k l more x h = record { u = h.u; w = h.w; taken = more h.u h.w h.taken; pair = h.pair; reduced = h.reduced }

  -- two rays that are no pair contribute no combination
  pub made_skip : (i j : ℕ) (made : List (List ℕ)) → IsMadeUpTo limit pairs rays signs i j made → ¬ IsSignedPair pairs rays signs i j → IsMadeUpTo limit pairs rays signs i (j + 1) made
  made_skip i j made h none = record {
    comes = All-weaker (ComesFromPlaces limit pairs rays signs i j) (ComesFromPlaces limit pairs rays signs i (j + 1)) (comes_weaker i j i (j + 1) (taken_weaker i j)) made h.comes;
    gives = λ u w taken p. ⊎_elim (λ old. h.gives u w old p)
        (λ new. absurd (none (subst₂ (IsSignedPair pairs rays signs) new.0 new.1 p)))
        (taken_cases i j u w taken);
    separate = h.separate;
  }

  -- a pair contributes one combination
  pub made_push : (i j : ℕ) (made : List (List ℕ)) (x : List ℕ) → IsMadeUpTo limit pairs rays signs i j made → (p : IsSignedPair pairs rays signs i j) →
      IsReducedBy limit p.at_u p.at_w (ray_at rays i) (ray_at rays j) x → IsMadeUpTo limit pairs rays signs i (j + 1) (made ++ x ∷ [])
  made_push i j made x h p reduced = record {
    comes = All-push (ComesFromPlaces limit pairs rays signs i (j + 1)) made x
        (All-weaker (ComesFromPlaces limit pairs rays signs i j) (ComesFromPlaces limit pairs rays signs i (j + 1)) (comes_weaker i j i (j + 1) (taken_weaker i j)) made h.comes)
        (record { u = i; w = j; taken = inr (refl, omega arith); pair = p; reduced = reduced });
    gives = λ u w taken q. ⊎_elim
        (λ old. let g = h.gives u w old q in record { pair = g.pair; x = g.x; occurs = Contains-append_left made (x ∷ []) g.x g.occurs; reduced = g.reduced })
        (λ new. subst₂ (GivesFrom limit pairs rays signs (made ++ x ∷ [])) (sym new.0) (sym new.1) (record { pair = p; x = x; occurs = Contains-push made x; reduced = reduced }))
        (taken_cases i j u w taken);
    separate = λ step. all_pairs_push (λ y z. y ≢ z) made x (h.separate step)
        (λ k d within same. not_again step (h.comes k d within) same);
  }
    where
      not_again : IsStepAt limit pairs rays signs → {y : List ℕ} → ComesFromPlaces limit pairs rays signs i j y → y ≡ x → ⊥
      not_again step {y} c same =
          let places = places_differ step i j c.u c.w x p c.pair reduced (subst (IsReducedBy limit c.pair.at_u c.pair.at_w (ray_at rays c.u) (ray_at rays c.w)) same c.reduced) in
          ⊎_elim (λ less. let e = places.0 in omega arith) (λ less. let e = places.1 in let f = less.1 in omega arith) c.taken

  -- all pairs with one positive ray are done
  pub made_next : (i n : ℕ) (made : List (List ℕ)) → length rays ≤ n → IsMadeUpTo limit pairs rays signs i n made → IsMadeUpTo limit pairs rays signs (i + 1) 0 made
  made_next i n made all h = record {
    comes = All-weaker (ComesFromPlaces limit pairs rays signs i n) (ComesFromPlaces limit pairs rays signs (i + 1) 0)
        (comes_weaker i n (i + 1) 0 (λ u w taken. ⊎_elim (λ less. inl (omega arith)) (λ same. inl (let e = same.0 in omega arith)) taken)) made h.comes;
    gives = λ u w taken p. h.gives u w
        (⊎_elim (λ less. ⊎_elim (λ before. inl before) (λ after. inr (let e : u ≡ i = omega arith in e, let f = p.w_in_range in omega arith)) (cases_lt u i))
        (λ same. absurd (let e = same.1 in omega arith)) taken) p;
    separate = h.separate;
  }

  -- a ray that is not positive is the first of no pair
  pub made_skip_all : (i : ℕ) (made : List (List ℕ)) → ((at_u : ℕ) → ¬ (slice_index_or signs i Zero ≡ Positive at_u)) → IsMadeUpTo limit pairs rays signs i 0 made → IsMadeUpTo limit pairs rays signs (i + 1) 0 made
  made_skip_all i made none h = record {
    comes = All-weaker (ComesFromPlaces limit pairs rays signs i 0) (ComesFromPlaces limit pairs rays signs (i + 1) 0)
        (comes_weaker i 0 (i + 1) 0 (λ u w taken. ⊎_elim (λ less. inl (omega arith)) (λ same. inl (let e = same.0 in omega arith)) taken)) made h.comes;
    gives = λ u w taken p. h.gives u w
        (⊎_elim (λ less. ⊎_elim (λ before. inl before)
        (λ after. absurd (let e : u ≡ i = omega arith in none p.at_u (sym (ap (λ k. slice_index_or signs k Zero) e) ∙ p.positive))) (cases_lt u i))
        (λ same. absurd (let e = same.1 in omega arith)) taken) p;
    separate = h.separate;
  }
