-- The rays with the entry left for a column, together with the combinations of pairs, with one more ray.
use Rattle.std.proofs.Common.{◌≡◌, ◌≢◌, ℕ, ◌+◌, ◌<◌, ◌≤◌, ◌⊎◌, inl, inr, ⊎_elim, List, [], ◌∷◌, ◌++◌, Contains, length, slice_index, slice_index_or, slice_set, length-set, get_or-set_same, get_or-set_other, subst, ap, sym, ◌∙◌, refl, arith}
use Rattle.std.proofs.lemmas.List.Elements.{All-push, All-weaker, Contains-push, Contains-append_left}
use Rattle.std.proofs.lemmas.List.Quantifiers.{all_pairs_push}
use Rattle.std.proofs.lemmas.Bool.{cases_eq}
use Rattle.cone_definitions.specs.Vectors.{ray_at}
use Rattle.cone_definitions.specs.Surfaces.{Clash}
use Rattle.cone_definitions.specs.Enumeration.{ComesFromPair}
use Rattle.cone_definitions.proofs.Entries.{same_vectors}
use Rattle.cone_definitions.proofs.Surfaces.{step_gives_next_lem, none_is_kept_and_made}
use Rattle.cone_definitions.proofs.Rays.{IsSolution-front}
use Rattle.ray_steps.specs.declared.rays.RayWithSupport.{RayWithSupport}
use Rattle.ray_steps.specs.declared.signs.Sign.{Sign}
use Rattle.ray_steps.specs.declared.signs.Sign.TheVariants.{Zero, Positive, Negative}
use Rattle.ray_steps.specs.Rays.{rays_of}
use Rattle.ray_steps.specs.Next.{step_of}
use Rattle.ray_steps.specs.Signs.{IsBoundedSign, ComesFromPlaces, IsMadeUpTo}
use Rattle.ray_steps.proofs.RayLemmas.{rays_of-push}
use Rattle.cone_definitions.proofs.Unordered.{place_is_one}
use Rattle.ray_steps.proofs.CombinationLemmas.{sign_read, comes_read}
use Rattle.cone_row_laws.proofs.Fresh.{set_zero}
use Rattle.lazy_columns.specs.Raised.{IsLeft, HasRoom, AppendsRaised, ComesFromRaised, IsFreshStepAt, IsRaisedFrom}

-- vectors that are 0 in a column are equal if they are with an entry set there
unset : (x y : List ℕ) (column a b : ℕ) → slice_index x column ≡ 0 → slice_index y column ≡ 0 → slice_set x column a ≡ slice_set y column b → x ≡ y
unset x y column a b x_gone y_gone same = same_vectors x y (sym (length-set x column a) ∙ ap length same ∙ length-set y column b) (λ j. elim (cases_eq j column) [
  | inl e ↦ subst (λ i. slice_index x i ≡ slice_index y i) (sym e) (x_gone ∙ sym y_gone)
  | inr ne ↦ sym (get_or-set_other x column j a 0 ne) ∙ ap (λ z. slice_index z j) same ∙ get_or-set_other y column j b 0 ne
])

module _ (limit : ℕ) (pairs : List Clash) (rays : List (List ℕ)) (signs : List Sign) (column : ℕ) where
  -- the combinations of all pairs, and no ray yet
  pub raised_none : (made : List (List ℕ)) → IsMadeUpTo limit pairs rays signs (length rays) 0 made → IsRaisedFrom limit pairs rays signs column (length rays) made
  raised_none made h = record {
    comes = All-weaker (ComesFromPlaces limit pairs rays signs (length rays) 0) (λ x. ComesFromRaised rays signs column (length rays) x ⊎ ComesFromPlaces limit pairs rays signs (length rays) 0 x)
        (λ x c. inr c) made h.comes;
    keeps = λ k left from less leaves. absurd (omega arith);
    gives = λ u w p. h.gives u w (inl p.u_in_range) p;
    separate = λ fresh. h.separate fresh.step;
  }

  weaker : (m : ℕ) (x : List ℕ) → ComesFromRaised rays signs column (m + 1) x ⊎ ComesFromPlaces limit pairs rays signs (length rays) 0 x →
      ComesFromRaised rays signs column m x ⊎ ComesFromPlaces limit pairs rays signs (length rays) 0 x
  weaker m x (inl z) = inl (record { place = z.place; from = let f = z.from in omega arith; in_range = z.in_range; left = z.left; leaves = z.leaves; is = z.is })
  weaker m x (inr c) = inr c

  -- a ray that leaves no entry is left out
  pub raised_skip : (m : ℕ) (next : List (List ℕ)) → ((left : ℕ) → ¬ IsLeft (slice_index_or signs m Zero) left) → IsRaisedFrom limit pairs rays signs column (m + 1) next →
      IsRaisedFrom limit pairs rays signs column m next
  raised_skip m next none h = record {
    comes = All-weaker (λ x. ComesFromRaised rays signs column (m + 1) x ⊎ ComesFromPlaces limit pairs rays signs (length rays) 0 x)
        (λ x. ComesFromRaised rays signs column m x ⊎ ComesFromPlaces limit pairs rays signs (length rays) 0 x) (weaker m) next h.comes;
    keeps = λ k left from less leaves. ⊎_elim (λ same. absurd (none left (subst (λ i. IsLeft (slice_index_or signs i Zero) left) same leaves)))
        (λ differs. h.keeps k left (omega (arith, differs)) less leaves) (cases_eq k m);
    gives = h.gives;
    separate = h.separate;
  }

  left_once : (sign : Sign) (a b : ℕ) → IsLeft sign a → IsLeft sign b → a ≡ b
  left_once Zero a b h k = h ∙ sym k
  left_once (Positive value) a b h k = absurd h
  left_once (Negative value) a b h k = h ∙ sym k

  module _ (fresh : IsFreshStepAt limit pairs rays signs column) where
    ray_gone : (k : ℕ) → k < length rays → slice_index (ray_at rays k) column ≡ 0
    ray_gone k within = fresh.gone (ray_at rays k) (fresh.step.surfaces.vertex_surfaces k [] within).extreme.solution

    made_gone : (x : List ℕ) → ComesFromPair (step_of pairs fresh.step.columns fresh.step.before fresh.step.row) x → slice_index x column ≡ 0
    made_gone x c = fresh.gone x (IsSolution-front fresh.step.columns fresh.step.before fresh.step.row x
        ((step_gives_next_lem (step_of pairs fresh.step.columns fresh.step.before fresh.step.row) x).1 (inr c)).extreme.solution)

    column_in : (k : ℕ) → k < length rays → column < length (ray_at rays k)
    column_in k within = let w = (fresh.step.surfaces.vertex_surfaces k [] within).extreme.solution.width in let c = fresh.in_range in omega arith

    -- a ray with the entry left for the column is no combination
    raised_unmade : (k left : ℕ) (x : List ℕ) (sign : Sign) → k < length rays → slice_index_or signs k Zero ≡ sign → IsLeft sign left → (sign ≡ Zero) ⊎ (1 ≤ left) → x ≡ slice_set (ray_at rays k) column left →
        ComesFromPair (step_of pairs fresh.step.columns fresh.step.before fresh.step.row) x → ⊥
    raised_unmade k left x sign within is leaves (inr some) same c =
        let e : slice_index x column ≡ left = ap (λ y. slice_index y column) same ∙ get_or-set_same (ray_at rays k) column left 0 (column_in k within) in
        let z = made_gone x c in omega (arith, e, z, some)
    raised_unmade k left x sign within is leaves (inl none) same c =
        let at_zero = is ∙ none in
        let nothing : left ≡ 0 = subst (λ s. IsLeft s left) none leaves in
        let e : x ≡ ray_at rays k = same ∙ ap (slice_set (ray_at rays k) column) nothing ∙ set_zero (ray_at rays k) column (ray_gone k within) in
        none_is_kept_and_made (step_of pairs fresh.step.columns fresh.step.before fresh.step.row) (ray_at rays k)
        (fresh.step.surfaces.vertex_surfaces k [] within)
        (sign_read limit pairs rays signs fresh.step.row fresh.step.signed k Zero within at_zero)
        (subst (ComesFromPair (step_of pairs fresh.step.columns fresh.step.before fresh.step.row)) e c)

    not_again : (m left : ℕ) (x y : List ℕ) (sign : Sign) → m < length rays → slice_index_or signs m Zero ≡ sign → IsLeft sign left → (sign ≡ Zero) ⊎ (1 ≤ left) →
        x ≡ slice_set (ray_at rays m) column left → ComesFromRaised rays signs column (m + 1) y ⊎ ComesFromPlaces limit pairs rays signs (length rays) 0 y → y ≡ x → ⊥
    not_again m left x y sign within is leaves some raised (inl z) same =
        let one = unset (ray_at rays z.place) (ray_at rays m) column z.left left (ray_gone z.place z.in_range) (ray_gone m within) (sym z.is ∙ same ∙ raised) in
        let e = place_is_one (step_of pairs fresh.step.columns fresh.step.before fresh.step.row) rays fresh.step.surfaces m z.place within z.in_range one in
        let f = z.from in omega arith
    not_again m left x y sign within is leaves some raised (inr c) same =
        raised_unmade m left x sign within is leaves some raised
        (subst (ComesFromPair (step_of pairs fresh.step.columns fresh.step.before fresh.step.row)) same
        (comes_read limit pairs rays signs fresh.step c.u c.w y c.pair c.reduced))

  -- a ray is appended with the entry left for the column
  pub raised_push : (m left : ℕ) (sign : Sign) (next : List (List ℕ)) (x : List ℕ) → m < length rays → slice_index_or signs m Zero ≡ sign → IsLeft sign left → (sign ≡ Zero) ⊎ (1 ≤ left) →
      x ≡ slice_set (ray_at rays m) column left → IsRaisedFrom limit pairs rays signs column (m + 1) next → IsRaisedFrom limit pairs rays signs column m (next ++ x ∷ [])
  raised_push m left sign next x within is leaves some raised h = record {
    comes = All-push (λ y. ComesFromRaised rays signs column m y ⊎ ComesFromPlaces limit pairs rays signs (length rays) 0 y) next x
        (All-weaker (λ y. ComesFromRaised rays signs column (m + 1) y ⊎ ComesFromPlaces limit pairs rays signs (length rays) 0 y)
        (λ y. ComesFromRaised rays signs column m y ⊎ ComesFromPlaces limit pairs rays signs (length rays) 0 y) (weaker m) next h.comes)
        (inl (record { place = m; from = omega arith; in_range = within; left = left; leaves = subst (λ s. IsLeft s left) (sym is) leaves; is = raised }));
    keeps = λ k other from less left_there. ⊎_elim
        (λ same. let at_m = subst (λ i. IsLeft (slice_index_or signs i Zero) other) same left_there in
        let e = left_once sign left other leaves (subst (λ s. IsLeft s other) is at_m) in
        subst (Contains (next ++ x ∷ [])) (raised ∙ ap (slice_set (ray_at rays m) column) e ∙ ap (λ i. slice_set (ray_at rays i) column other) (sym same)) (Contains-push next x))
        (λ differs. Contains-append_left next (x ∷ []) (slice_set (ray_at rays k) column other) (h.keeps k other (omega (arith, differs)) less left_there))
        (cases_eq k m);
    gives = λ u w p. let g = h.gives u w p in record { pair = g.pair; x = g.x; occurs = Contains-append_left next (x ∷ []) g.x g.occurs; reduced = g.reduced };
    separate = λ fresh. all_pairs_push (λ y z. y ≢ z) next x (h.separate fresh)
        (λ k d less same. not_again fresh m left x (slice_index_or next k d) sign within is leaves some raised (h.comes k d less) same);
  }

  -- a ray is appended or left out by its sign
  pub raised_one : (m : ℕ) (sign : Sign) (kept : RayWithSupport) (old new : List RayWithSupport) → m < length rays → slice_index_or signs m Zero ≡ sign → kept.ray ≡ ray_at rays m → HasRoom column kept →
      IsBoundedSign limit sign → AppendsRaised column sign kept old new → IsRaisedFrom limit pairs rays signs column (m + 1) (rays_of old) → IsRaisedFrom limit pairs rays signs column m (rays_of new)
  raised_one m Zero kept old new within sign is room bounded appends h =
      subst (IsRaisedFrom limit pairs rays signs column m) (sym (ap rays_of appends ∙ rays_of-push old kept))
      (raised_push m 0 Zero (rays_of old) kept.ray within sign refl (inl refl)
      (is ∙ sym (set_zero (ray_at rays m) column (subst (λ x. slice_index x column ≡ 0) is room.gone))) h)
  raised_one m (Positive value) kept old new within sign is room bounded appends h =
      subst (λ xs. IsRaisedFrom limit pairs rays signs column m (rays_of xs)) (sym appends)
      (raised_skip m (rays_of old) (λ left leaves. subst (λ s. IsLeft s left) sign leaves) h)
  raised_one m (Negative value) kept old new within sign is room bounded appends h =
      subst (IsRaisedFrom limit pairs rays signs column m) (sym (ap rays_of appends.2 ∙ rays_of-push old appends.0))
      (raised_push m value (Negative value) (rays_of old) appends.0.ray within sign refl (inr bounded.0)
      (appends.1 ∙ ap (λ x. slice_set x column value) is) h)
