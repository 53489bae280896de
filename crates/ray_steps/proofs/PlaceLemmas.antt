-- The indices of negative rays, one after another: the index up to which the pairs with one positive ray are done.
use Rattle.std.proofs.Common.{◌≡◌, ℕ, zero, suc, ◌+◌, ◌-◌, ◌<◌, ◌≤◌, inl, inr, ⊎_elim, List, length, get_or, slice_index_or, subst, ap, sym, arith}
use Rattle.std.proofs.lemmas.List.Elements.{All-weaker}
use Rattle.std.proofs.lemmas.List.{get_or_default, get_or_past}
use Rattle.std.proofs.lemmas.Bool.{cases_lt}
use Rattle.cone_definitions.specs.Surfaces.{Clash}
use Rattle.ray_steps.specs.declared.signs.Sign.{Sign}
use Rattle.ray_steps.specs.declared.signs.Sign.TheVariants.{Zero}
use Rattle.ray_steps.specs.Signs.{IsNegative, AreNegativePlaces, IsSignedPair, ComesFromPlaces, IsMadeUpTo}
use Rattle.ray_steps.proofs.CombinationLemmas.{made_skip}

-- the first m indices of the list are below `up_to`, and the others are not
pub record AreReached (places : List ℕ) (m up_to : ℕ) : Type 0 where
  pub before : (k d : ℕ) → k < m → k < length places → get_or places k d < up_to
  pub after : (k d : ℕ) → m ≤ k → k < length places → up_to ≤ get_or places k d

pub reached_none : (places : List ℕ) → AreReached places 0 0
reached_none places = record { before = λ k d h l. absurd (omega arith); after = λ k d h l. omega arith }

pub reached_more : (signs : List Sign) (n : ℕ) (places : List ℕ) (m d : ℕ) → AreNegativePlaces signs n places → m < length places → AreReached places (m + 1) (get_or places m d + 1)
reached_more signs n places m d h within = record {
  before = λ k e less l. ⊎_elim
      (λ earlier. let a = h.ascending k m d earlier within in let b = get_same places k e d l in omega arith)
      (λ last. let f : k ≡ m = omega arith in let b = ap (λ q. get_or places q d) f in let c = get_same places k e d l in omega arith)
      (cases_lt k m);
  after = λ k e more l. let a = h.ascending m k d (omega arith) l in let b = get_same places k e d l in omega arith;
}
  where
    get_same : (xs : List ℕ) (k e d : ℕ) → k < length xs → get_or xs k e ≡ get_or xs k d
    get_same xs k e d l = get_or_default xs k e d l

-- no index between is that of a negative ray
pub none_between : (signs : List Sign) (n : ℕ) (places : List ℕ) (m up_to k : ℕ) → AreNegativePlaces signs n places → AreReached places m up_to →
    up_to ≤ k → k < n → ((q d : ℕ) → m ≤ q → q < length places → k < get_or places q d) → ¬ IsNegative (slice_index_or signs k Zero)
none_between signs n places m up_to k h r low within later negative =
    let c = h.complete k within negative in
    let is : get_or places c.0 k ≡ k = c.2 in
    ⊎_elim (λ early. let a = r.before c.0 k early c.1 in omega arith) (λ late. let a = later c.0 k late c.1 in omega arith) (cases_lt c.0 m)

module _ (limit : ℕ) (pairs : List Clash) (rays : List (List ℕ)) (signs : List Sign) where
  -- indices between that are not those of negative rays are skipped
  pub made_skip_to : (i j k : ℕ) (made : List (List ℕ)) → j ≤ k → ((w : ℕ) → j ≤ w → w < k → ¬ IsNegative (slice_index_or signs w Zero)) →
      IsMadeUpTo limit pairs rays signs i j made → IsMadeUpTo limit pairs rays signs i k made
  made_skip_to i j k made low none h = record {
    comes = All-weaker (ComesFromPlaces limit pairs rays signs i j) (ComesFromPlaces limit pairs rays signs i k)
        (λ x c. record { u = c.u; w = c.w; taken = ⊎_elim (λ less. inl less) (λ same. inr (same.0, let e = same.1 in omega arith)) c.taken; pair = c.pair; reduced = c.reduced }) made h.comes;
    gives = λ u w taken p. ⊎_elim (λ less. h.gives u w (inl less) p)
        (λ same. ⊎_elim (λ before. h.gives u w (inr (same.0, before)) p)
        (λ after. absurd (none w after same.1 (subst IsNegative (sym p.negative) tt))) (cases_lt w j)) taken;
    separate = h.separate;
  }

  -- all pairs up to the next negative ray are done
  pub made_at : (i m up_to : ℕ) (places : List ℕ) (made : List (List ℕ)) → AreNegativePlaces signs (length signs) places → m < length places → AreReached places m up_to →
      IsMadeUpTo limit pairs rays signs i up_to made → IsMadeUpTo limit pairs rays signs i (get_or places m 0) made
  made_at i m up_to places made h within r taken =
      made_skip_to i up_to (get_or places m 0) made (r.after m 0 (omega arith) within)
      (λ w low below. none_between signs (length signs) places m up_to w h r low (let e = h.in_range m 0 within in omega arith)
      (λ q d more l. ⊎_elim (λ later. let a = h.ascending m q d later l in let b = get_or_default places m 0 d within in omega arith)
      (λ here. let f : q ≡ m = omega arith in let b = ap (λ p. get_or places p d) f in let e = get_or_default places m 0 d within in omega arith)
      (cases_lt m q)))
      taken

  -- all pairs after the last negative ray are done
  pub made_end : (i m up_to : ℕ) (places : List ℕ) (made : List (List ℕ)) → AreNegativePlaces signs (length signs) places → length places ≤ m → AreReached places m up_to →
      IsMadeUpTo limit pairs rays signs i up_to made → IsMadeUpTo limit pairs rays signs i (up_to + length signs) made
  made_end i m up_to places made h exceeded r taken =
      made_skip_to i up_to (up_to + length signs) made (omega arith)
      (λ w low below. ⊎_elim
      (λ within. none_between signs (length signs) places m up_to w h r low within (λ q d more l. absurd (omega arith)))
      (λ beyond negative. subst IsNegative (get_or_past signs w Zero beyond) negative)
      (cases_lt w (length signs)))
      taken

  -- the pairs up to an index are done: the first m negative rays come before it, and the others do not
  pub record HaveTaken (places : List ℕ) (i m : ℕ) (made : List (List ℕ)) : Type 0 where
    pub up_to : ℕ
    pub reached : AreReached places m up_to
    pub so_far : IsMadeUpTo limit pairs rays signs i up_to made

  pub taken_none : (places : List ℕ) (i : ℕ) (made : List (List ℕ)) → IsMadeUpTo limit pairs rays signs i 0 made → HaveTaken places i 0 made
  taken_none places i made h = record { up_to = 0; reached = reached_none places; so_far = h }

  -- one more negative ray
  pub taken_more : (places : List ℕ) (i m : ℕ) (made : List (List ℕ)) → AreNegativePlaces signs (length signs) places → m < length places →
      IsMadeUpTo limit pairs rays signs i (get_or places m 0 + 1) made → HaveTaken places i (m + 1) made
  taken_more places i m made h within taken = record { up_to = get_or places m 0 + 1; reached = reached_more signs (length signs) places m 0 h within; so_far = taken }

  -- negative rays that are in no pair are skipped
  taken_past : (d i m : ℕ) (places : List ℕ) (made : List (List ℕ)) → AreNegativePlaces signs (length signs) places → m + d ≤ length places →
      ((k : ℕ) → m ≤ k → k < m + d → ¬ IsSignedPair pairs rays signs i (get_or places k 0)) → HaveTaken places i m made → HaveTaken places i (m + d) made
  taken_past zero i m places made h within none t = subst (λ n. HaveTaken places i n made) {x = m} {y = m + 0} (omega arith) t
  taken_past (suc d) i m places made h within none t =
      subst (λ n. HaveTaken places i n made) {x = m + 1 + d} {y = m + suc d} (omega arith)
      (taken_past d i (m + 1) places made h (omega arith) (λ k low less. none k (omega arith) (omega arith))
      (taken_more places i m made h (omega arith)
      (made_skip limit pairs rays signs i (get_or places m 0) made (made_at i m t.up_to places made h (omega arith) t.reached t.so_far) (none m (omega arith) (omega arith)))))

  pub taken_to : (places : List ℕ) (i m n : ℕ) (made : List (List ℕ)) → AreNegativePlaces signs (length signs) places → m ≤ n → n ≤ length places →
      ((k : ℕ) → m ≤ k → k < n → ¬ IsSignedPair pairs rays signs i (get_or places k 0)) → HaveTaken places i m made → HaveTaken places i n made
  taken_to places i m n made h low within none t =
      subst (λ k. HaveTaken places i k made) {x = m + (n - m)} {y = n} (omega arith)
      (taken_past (n - m) i m places made h (omega arith) (λ k l less. none k l (omega arith)) t)
