-- Indices that are found by residuals: those of the rays adjacent to a given one, and the combinations with them.
use Rattle.std.proofs.Common.{◌≡◌, ◌≢◌, ℕ, ◌+◌, ◌<◌, ◌≤◌, inl, inr, ⊎_elim, List, Bool, [], Contains, length, get_or, subst, sym, ap, ◌∙◌, arith}
use Rattle.std.specs.List.{AllPairs}
use Rattle.std.proofs.Math.ListN.{get_or-map}
use Rattle.std.proofs.lemmas.Bool.{cases_eq, cases_lt}
use Rattle.std.proofs.lemmas.List.{get_or_default, get_or_past, length-map}
use Rattle.std.proofs.lemmas.List.Elements.{All-weaker}
use Rattle.cone_definitions.specs.Surfaces.{Clash, IsAdmissibleUnion}
use Rattle.cone_definitions.specs.Vectors.{IsInsideUnion, ray_at}
use Rattle.support_bits.specs.Columns.{support_of, IsInsideUnionOf, Meets}
use Rattle.support_table.specs.Counts.{columns_in_either}
use Rattle.support_table.specs.Joins.{AreClashingColumns}
use Rattle.support_table.specs.Tables.{Table}
use Rattle.support_table.specs.Residuals.{support_at, IsResidualInside, IsCandidate, IsMinimal, AreMinimalOf}
use Rattle.support_table.proofs.CandidateLemmas.{inside_union, inside_residual}
use Rattle.support_table.proofs.SizeLemmas.{size_within}
use Rattle.ray_steps.specs.declared.signs.Sign.{Sign}
use Rattle.ray_steps.specs.declared.signs.Sign.TheVariants.{Zero}
use Rattle.ray_steps.specs.Negatives.{AreNegativeFlags}
use Rattle.ray_steps.specs.CompatibleLists.{HasAllSupports}
use Rattle.ray_steps.specs.Unions.{HaveSmallUnions}
use Rattle.ray_steps.specs.Signs.{IsNegative, IsAdjacentPair, IsSignedPair, ComesFromPlaces, IsMadeUpTo}
use Rattle.ray_steps.proofs.CombinationLemmas.{made_next}
use Rattle.ray_steps.proofs.PlaceLemmas.{HaveTaken}
use Rattle.ray_steps.proofs.RivalLemmas.{apart_inside, not_face_clash}
use Rattle.ray_steps.proofs.SupportLemmas.{inside_iff}
use Rattle.ray_steps.proofs.UnionLemmas.{near_face}

-- the indices of a pair differ
places_apart : (pairs : List Clash) (rays : List (List ℕ)) (signs : List Sign) (i j : ℕ) → IsSignedPair pairs rays signs i j → j ≢ i
places_apart pairs rays signs i j p e = subst IsNegative (sym p.negative ∙ ap (λ k. get_or signs k Zero) e ∙ p.positive) tt

-- ---- minimal residuals are those of adjacent rays

module _ (pairs : List Clash) (rays : List (List ℕ)) (i columns most : ℕ) (joined : List Bool) (table : Table) (h : HasAllSupports rays columns table)
    (joins : AreClashingColumns pairs (support_of (ray_at rays i)) joined) (outer : List Bool) (outer_is : outer ≡ support_of (ray_at rays i)) where
  support_is : (k : ℕ) → support_at table.supports k ≡ support_of (ray_at rays k)
  support_is k = ap (λ ss. get_or ss k []) h.supports ∙ get_or-map support_of rays k []

  pub as_many : length table.supports ≡ length rays
  as_many = ap length h.supports ∙ length-map rays support_of

  residual_from_inside : (k j : ℕ) → IsInsideUnion (ray_at rays k) (ray_at rays i) (ray_at rays j) → IsResidualInside outer (support_at table.supports k) (support_at table.supports j)
  residual_from_inside k j inside = rw (support_is k, support_is j, outer_is)
      (inside_residual (support_of (ray_at rays i)) (support_of (ray_at rays k)) (support_of (ray_at rays j)) ((inside_iff (ray_at rays k) (ray_at rays i) (ray_at rays j)).1 inside))

  inside_from_residual : (k j : ℕ) → IsResidualInside outer (support_at table.supports k) (support_at table.supports j) → IsInsideUnion (ray_at rays k) (ray_at rays i) (ray_at rays j)
  inside_from_residual k j inside = (inside_iff (ray_at rays k) (ray_at rays i) (ray_at rays j)).0
      (subst (λ s. IsInsideUnionOf s (support_of (ray_at rays i)) (support_of (ray_at rays j))) (support_is k)
      (subst (λ t. IsInsideUnionOf (support_at table.supports k) (support_of (ray_at rays i)) t) (support_is j)
      (subst (λ o. IsInsideUnionOf (support_at table.supports k) o (support_at table.supports j)) outer_is
      (inside_union outer (support_at table.supports k) (support_at table.supports j) inside))))

  -- the union with a ray whose residual lies inside that of a candidate has at most `most` columns
  third_near : (k j : ℕ) → IsCandidate table.supports outer joined i most j → IsResidualInside outer (support_at table.supports k) (support_at table.supports j) → columns_in_either outer (support_at table.supports k) ≤ most
  third_near k j candidate inside =
      let near = candidate.near in
      let within = size_within outer (support_at table.supports k) (support_at table.supports j) (inside_union outer (support_at table.supports k) (support_at table.supports j) inside) in
      omega (arith, near, within)

  face_if_minimal : (j : ℕ) → IsMinimal table.supports outer joined i most j → IsAdmissibleUnion pairs (ray_at rays i) (ray_at rays j) → IsAdjacentPair pairs rays i j
  face_if_minimal j m admissible = record {
    no_clash = admissible;
    no_third = λ k less inside. elim (cases_eq k i) [
      | inl e ↦ inl e
      | inr other ↦ inr (m.minimal k (record {
        in_range = omega (arith, as_many);
        other = other;
        separate = subst (λ s. ¬ Meets s joined) (sym (support_is k)) (apart_inside pairs (ray_at rays k) (ray_at rays i) (ray_at rays j) joined joins admissible inside);
        near = third_near k j m.candidate (residual_from_inside k j inside);
      }) (residual_from_inside k j inside))
    ];
  }

  minimal_if_face : HaveSmallUnions columns most pairs rays → i < length rays → length (ray_at rays i) ≡ columns →
      (j : ℕ) → j < length rays → j ≢ i → IsAdjacentPair pairs rays i j → IsMinimal table.supports outer joined i most j
  minimal_if_face small i_in wide j within other face = record {
    candidate = record {
      in_range = omega (arith, as_many);
      other = other;
      separate = subst (λ s. ¬ Meets s joined) (sym (support_is j)) (λ meets. not_face_clash pairs rays i j joined joins meets face);
      near = near_face columns most pairs rays i j outer (support_at table.supports j) small i_in within outer_is (support_is j) wide face;
    };
    minimal = λ k candidate inside. elim (face.no_third k (let l = candidate.in_range in omega (arith, as_many)) (inside_from_residual k j inside)) [
      | inl e ↦ absurd (candidate.other e)
      | inr e ↦ e
    ];
  }

  pub found_in_range : (selected : List Bool) (places : List ℕ) (k d : ℕ) → AreMinimalOf table.supports outer joined i most selected places → k < length places → get_or places k d < length rays
  found_in_range selected places k d m within = let less = (m.each k d within).0.candidate.in_range in omega (arith, as_many)

  pub found_face : (selected : List Bool) (places : List ℕ) (k d : ℕ) → AreMinimalOf table.supports outer joined i most selected places → k < length places →
      IsAdmissibleUnion pairs (ray_at rays i) (ray_at rays (get_or places k d)) → IsAdjacentPair pairs rays i (get_or places k d)
  found_face selected places k d m within = face_if_minimal (get_or places k d) (m.each k d within).0

  pub pairs_found : HaveSmallUnions columns most pairs rays → i < length rays → length (ray_at rays i) ≡ columns → (signs : List Sign) (selected : List Bool) → AreNegativeFlags signs (length signs) selected → (places : List ℕ) → AreMinimalOf table.supports outer joined i most selected places →
      (w : ℕ) → IsSignedPair pairs rays signs i w → Contains places w
  pairs_found small i_in wide signs selected tell places m w p = m.complete w (minimal_if_face small i_in wide w p.w_in_range (places_apart pairs rays signs i w p) p.face)
      (elim (cases_lt w (length signs)) [
        | inl less ↦ (tell.each w less).0 (subst IsNegative (sym p.negative) tt)
        | inr exceeded ↦ absurd (subst IsNegative (sym p.negative ∙ get_or_past signs w Zero exceeded) tt)
      ])

-- ---- the found indices, one after another

module _ (limit : ℕ) (pairs : List Clash) (rays : List (List ℕ)) (signs : List Sign) (i : ℕ) (places : List ℕ) (up : AllPairs (λ p q. p < q) places)
    (complete : (w : ℕ) → IsSignedPair pairs rays signs i w → Contains places w) where
  -- indices between that are in no pair are skipped
  made_past : (j k : ℕ) (made : List (List ℕ)) → j ≤ k → ((w : ℕ) → j ≤ w → w < k → ¬ IsSignedPair pairs rays signs i w) →
      IsMadeUpTo limit pairs rays signs i j made → IsMadeUpTo limit pairs rays signs i k made
  made_past j k made low none h = record {
    comes = All-weaker (ComesFromPlaces limit pairs rays signs i j) (ComesFromPlaces limit pairs rays signs i k)
        (λ x c. record { u = c.u; w = c.w; taken = ⊎_elim (λ less. inl less) (λ same. inr (same.0, let e = same.1 in omega arith)) c.taken; pair = c.pair; reduced = c.reduced }) made h.comes;
    gives = λ u w taken p. ⊎_elim (λ less. h.gives u w (inl less) p)
        (λ same. ⊎_elim (λ before. h.gives u w (inr (same.0, before)) p)
        (λ after. absurd (none w after same.1 (subst (λ v. IsSignedPair pairs rays signs v w) same.0 p))) (cases_lt w j)) taken;
    separate = h.separate;
  }

  same_at : (k d e : ℕ) → k < length places → get_or places k d ≡ get_or places k e
  same_at k d e within = get_or_default places k d e within

  pub at_found : (m : ℕ) (made : List (List ℕ)) → m < length places → HaveTaken limit pairs rays signs places i m made → IsMadeUpTo limit pairs rays signs i (get_or places m 0) made
  at_found m made within t = made_past t.up_to (get_or places m 0) made (t.reached.after m 0 (omega arith) within) between t.so_far
    where
      between : (w : ℕ) → t.up_to ≤ w → w < get_or places m 0 → ¬ IsSignedPair pairs rays signs i w
      between w low below p = let c = complete w p in elim (cases_lt c.0 m) [
        | inl early ↦ let b = t.reached.before c.0 w early c.1 in let e = c.2 in omega arith
        | inr late ↦ elim (cases_eq c.0 m) [
          | inl e ↦ let f = ap (λ k. get_or places k 0) e in let g = same_at c.0 w 0 c.1 in let k = c.2 in omega arith
          | inr other ↦ let b = up m c.0 0 (omega arith) c.1 in let g = same_at c.0 w 0 c.1 in let k = c.2 in omega arith
        ]
      ]

  pub after_found : (m : ℕ) (made : List (List ℕ)) → m < length places → IsMadeUpTo limit pairs rays signs i (get_or places m 0 + 1) made → HaveTaken limit pairs rays signs places i (m + 1) made
  after_found m made within h = record {
    up_to = get_or places m 0 + 1;
    reached = record {
      before = λ k d less l. elim (cases_eq k m) [
        | inl e ↦ let f = ap (λ q. get_or places q 0) e in let g = same_at k d 0 l in omega arith
        | inr other ↦ let b = up k m 0 (omega arith) within in let g = same_at k d 0 l in omega arith
      ];
      after = λ k d more l. let b = up m k 0 (omega arith) l in let g = same_at k d 0 l in omega arith;
    };
    so_far = h;
  }

  pub all_found : (m : ℕ) (made : List (List ℕ)) → length places ≤ m → HaveTaken limit pairs rays signs places i m made → IsMadeUpTo limit pairs rays signs (i + 1) 0 made
  all_found m made all t = made_next limit pairs rays signs i (t.up_to + length rays) made (omega arith)
      (made_past t.up_to (t.up_to + length rays) made (omega arith)
      (λ w low below p. let c = complete w p in let b = t.reached.before c.0 w (let l = c.1 in omega arith) c.1 in let e = c.2 in omega arith) t.so_far)
