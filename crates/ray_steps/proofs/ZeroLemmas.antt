-- The rays of sign zero together with the combinations of pairs, with one more ray.
use Rattle.std.proofs.Common.{◌≡◌, ◌≢◌, ℕ, zero, suc, ◌+◌, ◌<◌, ◌≤◌, ◌⊎◌, inl, inr, ⊎_elim, List, [], ◌∷◌, ◌++◌, Contains, length, take, get_or, get_or-take, slice_index_or, subst, ap, sym, ◌∙◌, refl, arith}
use Rattle.std.proofs.lemmas.List.Elements.{All-push, All-weaker, Contains-push, Contains-append_left}
use Rattle.std.proofs.lemmas.List.Quantifiers.{all_pairs_push}
use Rattle.std.proofs.lemmas.Bool.{cases_eq}
use Rattle.std.proofs.lemmas.List.{take-append-le, take_all, get_or_push, length_push}
use Rattle.cone_definitions.specs.Surfaces.{Clash}
use Rattle.cone_definitions.specs.Enumeration.{ComesFromPair}
use Rattle.cone_definitions.proofs.Surfaces.{none_is_kept_and_made}
use Rattle.cone_definitions.proofs.Unordered.{place_is_one}
use Rattle.cone_definitions.specs.Vectors.{ray_at}
use Rattle.ray_steps.specs.declared.signs.Sign.{Sign}
use Rattle.ray_steps.specs.declared.signs.Sign.TheVariants.{Zero, Positive, Negative}
use Rattle.ray_steps.specs.declared.rays.RayWithSupport.{RayWithSupport}
use Rattle.ray_steps.specs.Rays.{rays_of, AreOfWidth}
use Rattle.ray_steps.specs.Appended.{AppendsIfZero}
use Rattle.ray_steps.proofs.RayLemmas.{rays_of-push}
use Rattle.ray_steps.specs.Next.{step_of}
use Rattle.ray_steps.specs.Signs.{ComesFromPlaces, ComesFromZero, IsStepAt, IsMadeUpTo, IsNextFrom}
use Rattle.ray_steps.proofs.CombinationLemmas.{sign_read, comes_read}

module _ (limit : ℕ) (pairs : List Clash) (rays : List (List ℕ)) (signs : List Sign) where
  -- the combinations of all pairs, and no ray yet
  pub next_none : (made : List (List ℕ)) → IsMadeUpTo limit pairs rays signs (length rays) 0 made → IsNextFrom limit pairs rays signs (length rays) made
  next_none made h = record {
    comes = All-weaker (ComesFromPlaces limit pairs rays signs (length rays) 0) (λ x. ComesFromZero rays signs (length rays) x ⊎ ComesFromPlaces limit pairs rays signs (length rays) 0 x)
        (λ x c. inr c) made h.comes;
    keeps = λ k from less at_zero. absurd (omega arith);
    gives = λ u w p. h.gives u w (inl p.u_in_range) p;
    separate = h.separate;
  }

  zero_weaker : (m : ℕ) (x : List ℕ) → ComesFromZero rays signs (m + 1) x ⊎ ComesFromPlaces limit pairs rays signs (length rays) 0 x →
      ComesFromZero rays signs m x ⊎ ComesFromPlaces limit pairs rays signs (length rays) 0 x
  zero_weaker m x (inl z) = inl (record { place = z.place; from = let f = z.from in omega arith; in_range = z.in_range; zero = z.zero; is = z.is })
  zero_weaker m x (inr c) = inr c

  -- a ray of another sign is left out
  pub next_skip : (m : ℕ) (next : List (List ℕ)) → ¬ (slice_index_or signs m Zero ≡ Zero) → IsNextFrom limit pairs rays signs (m + 1) next → IsNextFrom limit pairs rays signs m next
  next_skip m next other h = record {
    comes = All-weaker (λ x. ComesFromZero rays signs (m + 1) x ⊎ ComesFromPlaces limit pairs rays signs (length rays) 0 x)
        (λ x. ComesFromZero rays signs m x ⊎ ComesFromPlaces limit pairs rays signs (length rays) 0 x) (zero_weaker m) next h.comes;
    keeps = λ k from less at_zero. ⊎_elim (λ same. absurd (other (ap (λ i. slice_index_or signs i Zero) (sym same) ∙ at_zero))) (λ differs. h.keeps k (omega (arith, differs)) less at_zero) (cases_eq k m);
    gives = h.gives;
    separate = h.separate;
  }

  -- a ray of sign zero is retained
  pub next_push : (m : ℕ) (next : List (List ℕ)) (x : List ℕ) → m < length rays → slice_index_or signs m Zero ≡ Zero → x ≡ ray_at rays m → IsNextFrom limit pairs rays signs (m + 1) next →
      IsNextFrom limit pairs rays signs m (next ++ x ∷ [])
  next_push m next x within at_zero is h = record {
    comes = All-push (λ y. ComesFromZero rays signs m y ⊎ ComesFromPlaces limit pairs rays signs (length rays) 0 y) next x
        (All-weaker (λ y. ComesFromZero rays signs (m + 1) y ⊎ ComesFromPlaces limit pairs rays signs (length rays) 0 y)
        (λ y. ComesFromZero rays signs m y ⊎ ComesFromPlaces limit pairs rays signs (length rays) 0 y) (zero_weaker m) next h.comes)
        (inl (record { place = m; from = omega arith; in_range = within; zero = at_zero; is = is }));
    keeps = λ k from less zero_at. ⊎_elim
        (λ same. subst (Contains (next ++ x ∷ [])) (is ∙ ap (ray_at rays) (sym same)) (Contains-push next x))
        (λ differs. Contains-append_left next (x ∷ []) (ray_at rays k) (h.keeps k (omega (arith, differs)) less zero_at))
        (cases_eq k m);
    gives = λ u w p. let g = h.gives u w p in record { pair = g.pair; x = g.x; occurs = Contains-append_left next (x ∷ []) g.x g.occurs; reduced = g.reduced };
    separate = λ step. all_pairs_push (λ y z. y ≢ z) next x (h.separate step) (λ k d less same. not_again step (h.comes k d less) same);
  }
    where
      not_again : IsStepAt limit pairs rays signs → {y : List ℕ} → ComesFromZero rays signs (m + 1) y ⊎ ComesFromPlaces limit pairs rays signs (length rays) 0 y → y ≡ x → ⊥
      not_again step {y} (inl z) same =
          let e = place_is_one (step_of pairs step.columns step.before step.row) rays step.surfaces m z.place within z.in_range (sym z.is ∙ same ∙ is) in
          let f = z.from in omega arith
      not_again step {y} (inr c) same =
          none_is_kept_and_made (step_of pairs step.columns step.before step.row) (ray_at rays m)
          (step.surfaces.vertex_surfaces m [] within)
          (sign_read limit pairs rays signs step.row step.signed m Zero within at_zero)
          (subst (λ v. ComesFromPair (step_of pairs step.columns step.before step.row) v) (same ∙ is)
          (comes_read limit pairs rays signs step c.u c.w y c.pair c.reduced))

  -- a ray is retained or left out by its sign
  pub next_one : (m : ℕ) (sign : Sign) (kept : RayWithSupport) (old new : List RayWithSupport) → m < length rays → slice_index_or signs m Zero ≡ sign → kept.ray ≡ ray_at rays m → AppendsIfZero sign kept old new →
      IsNextFrom limit pairs rays signs (m + 1) (rays_of old) → IsNextFrom limit pairs rays signs m (rays_of new)
  next_one m Zero kept old new within sign is appends h =
      subst (IsNextFrom limit pairs rays signs m) (sym (ap rays_of appends ∙ rays_of-push old kept)) (next_push m (rays_of old) kept.ray within sign is h)
  next_one m (Positive value) kept old new within sign is appends h =
      subst (λ xs. IsNextFrom limit pairs rays signs m (rays_of xs)) (sym appends) (next_skip m (rays_of old) (λ e. not_zero (sym sign ∙ e)) h)
    where
      not_zero : Positive value ≡ Zero → ⊥
      not_zero e = cc
  next_one m (Negative value) kept old new within sign is appends h =
      subst (λ xs. IsNextFrom limit pairs rays signs m (rays_of xs)) (sym appends) (next_skip m (rays_of old) (λ e. not_zero (sym sign ∙ e)) h)
    where
      not_zero : Negative value ≡ Zero → ⊥
      not_zero e = cc

-- the widths once a ray is retained or left out
pub widths_one : (columns : ℕ) (sign : Sign) (kept : RayWithSupport) (old new : List RayWithSupport) → AppendsIfZero sign kept old new → length kept.ray ≡ columns → AreOfWidth columns old → AreOfWidth columns new
widths_one columns Zero kept old new appends width h = subst (AreOfWidth columns) (sym appends) (All-push (λ k. length k.ray ≡ columns) old kept h width)
widths_one columns (Positive value) kept old new appends width h = subst (AreOfWidth columns) (sym appends) h
widths_one columns (Negative value) kept old new appends width h = subst (AreOfWidth columns) (sym appends) h

take_take : {X : Type 0} (m n : ℕ) (xs : List X) → m ≤ n → take m (take n xs) ≡ take m xs
take_take zero n xs h = refl
take_take (suc m) zero xs h = absurd (omega arith)
take_take (suc m) (suc n) [] h = refl
take_take (suc m) (suc n) (x ∷ xs) h = ap (λ ys. x ∷ ys) (take_take m n xs (omega arith))

-- the list without its last element
pub record Popped {X : Type 0} (xs items new : List X) (x : X) : Type 0 where
  pub left : new ≡ take (length new) xs
  pub limited : length new < length xs
  pub at : get_or xs (length new) x ≡ x
  pub count : length items ≡ length new + 1

pub popped : {X : Type 0} (xs items new : List X) (x : X) → items ≡ take (length items) xs → length items ≤ length xs → items ≡ new ++ x ∷ [] → Popped xs items new x
popped xs items new x front limited is = record {
  left = sym (take-append-le (length new) new (x ∷ []) (omega arith) ∙ take_all (length new) new (omega arith)) ∙ ap (take (length new)) (sym is ∙ front) ∙ shorter;
  limited = omega (arith, count);
  at = sym (get_or-take (length items) xs (length new) x (omega (arith, count))) ∙ sym (ap (λ ys. get_or ys (length new) x) front) ∙ ap (λ ys. get_or ys (length new) x) is ∙ get_or_push new x x (length new) refl;
  count = count;
}
  where
    count : length items ≡ length new + 1
    count = ap length is ∙ length_push new x

    shorter : take (length new) (take (length items) xs) ≡ take (length new) xs
    shorter = take_take (length new) (length items) xs (omega (arith, count))
