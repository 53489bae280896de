-- One step, from the vertex surfaces of the rows before, in any order, to those of one more row.
use Rattle.std.proofs.Common.{◌≡◌, ℕ, ◌<◌, ◌≤◌, ◌⊎◌, inl, inr, List, [], ◌∷◌, ◌++◌, Contains, length, slice_index_or, subst, subst₂, sym, refl, arith}
use Rattle.std.proofs.lemmas.List.Elements.{All-contains, Contains-get_or}
use Rattle.cone_definitions.specs.Vectors.{ray_at}
use Rattle.cone_definitions.specs.Rows.{Row, IsZeroAt, IsPositiveAt, IsNegativeAt}
use Rattle.cone_definitions.specs.Surfaces.{Clash, IsVertexSurface}
use Rattle.cone_definitions.specs.Elimination.{IsRay, IsPair, IsReducedCombination}
use Rattle.cone_definitions.specs.Enumeration.{ComesFromPair}
use Rattle.cone_definitions.proofs.Next.{same_reduced}
use Rattle.cone_definitions.proofs.Surfaces.{step_gives_next_lem}
use Rattle.cone_definitions.proofs.Unions.{pair_union}
use Rattle.ray_steps.specs.declared.signs.Sign.{Sign}
use Rattle.ray_steps.specs.declared.signs.Sign.TheVariants.{Zero, Positive, Negative}
use Rattle.ray_steps.specs.Next.{step_of}
use Rattle.cone_definitions.specs.Unordered.{HasSurfaces}
use Rattle.ray_steps.specs.Signs.{IsSignAt, AreSigns, IsSignedPair, ComesFromPlaces, ComesFromZero, GivesFrom, IsStepAt, IsNextFrom}
use Rattle.cone_definitions.proofs.Unordered.{place_of, pair_third_place}
use Rattle.ray_steps.proofs.CombinationLemmas.{sign_read, reduced_read, comes_read}

-- the sign of a vector at which the row is 0, positive or negative
pub zero_sign : (row : Row) (x : List ℕ) (sign : Sign) → IsSignAt row x sign → IsZeroAt row x → sign ≡ Zero
zero_sign row x Zero at zero = refl
zero_sign row x (Positive value) at zero = absurd (let p = at.0 in omega arith)
zero_sign row x (Negative value) at zero = absurd (let p = at.0 in omega arith)

pub positive_sign : (row : Row) (x : List ℕ) (sign : Sign) → IsSignAt row x sign → IsPositiveAt row x → (value : ℕ) × (sign ≡ Positive value)
positive_sign row x Zero at positive = absurd (omega arith)
positive_sign row x (Positive value) at positive = (value, refl)
positive_sign row x (Negative value) at positive = absurd (let p = at.0 in omega arith)

pub negative_sign : (row : Row) (x : List ℕ) (sign : Sign) → IsSignAt row x sign → IsNegativeAt row x → (value : ℕ) × (sign ≡ Negative value)
negative_sign row x Zero at negative = absurd (omega arith)
negative_sign row x (Positive value) at negative = absurd (let p = at.0 in omega arith)
negative_sign row x (Negative value) at negative = (value, refl)

module _ (limit columns : ℕ) (pairs : List Clash) (before : List Row) (row : Row) (rays : List (List ℕ)) (signs : List Sign)
    (surfaces : HasSurfaces columns before pairs rays) (signed : AreSigns limit row rays signs) where
  abbrev pub the_step : IsStepAt limit pairs rays signs
  the_step = record { columns = columns; before = before; row = row; surfaces = surfaces; signed = signed }

  pub sign_at_place : (k : ℕ) → k < length rays → IsSignAt row (ray_at rays k) (slice_index_or signs k Zero)
  sign_at_place k h = sign_read limit pairs rays signs row signed k (slice_index_or signs k Zero) h refl

  -- the indices of a pair of the step are those of a pair with signs
  pub signed_pair : (i j : ℕ) → i < length rays → j < length rays → IsPair (step_of pairs columns before row) (ray_at rays i) (ray_at rays j) → IsSignedPair pairs rays signs i j
  signed_pair i j i_in j_in p =
      let at_i = positive_sign row (ray_at rays i) (slice_index_or signs i Zero) (sign_at_place i i_in) p.positive in
      let at_j = negative_sign row (ray_at rays j) (slice_index_or signs j Zero) (sign_at_place j j_in) p.negative in
      record {
        u_in_range = i_in;
        w_in_range = j_in;
        at_u = at_i.0;
        at_w = at_j.0;
        positive = at_i.1;
        negative = at_j.1;
        face = record { no_clash = p.no_clash; no_third = pair_third_place (step_of pairs columns before row) rays surfaces i j i_in j_in p };
      }

  -- a vector of the list comes from a ray of sign zero or from a pair
  pub kept_or_made_read : (x : List ℕ) → ComesFromZero rays signs 0 x ⊎ ComesFromPlaces limit pairs rays signs (length rays) 0 x →
      (Contains rays x × IsZeroAt row x) ⊎ ComesFromPair (step_of pairs columns before row) x
  kept_or_made_read x (inl z) = inl (
    subst (Contains rays) (sym z.is) (Contains-get_or rays z.place [] z.in_range),
    subst (IsZeroAt row) (sym z.is) (sign_read limit pairs rays signs row signed z.place Zero z.in_range z.zero),
  )
  kept_or_made_read x (inr c) = inr (comes_read limit pairs rays signs the_step c.u c.w x c.pair c.reduced)

  -- the combination of a pair is in a list that has the combinations of all pairs
  pub pair_stands : (next : List (List ℕ)) → ((u w : ℕ) → IsSignedPair pairs rays signs u w → GivesFrom limit pairs rays signs next u w) →
      (x : List ℕ) → ComesFromPair (step_of pairs columns before row) x → Contains next x
  pair_stands next gives x c =
      let i = place_of (step_of pairs columns before row) rays surfaces c.u c.pair.u_ray in
      let j = place_of (step_of pairs columns before row) rays surfaces c.w c.pair.w_ray in
      let g = gives i.0 j.0 (signed_pair i.0 j.0 i.1 j.1 (subst₂ (IsPair (step_of pairs columns before row)) (sym i.2) (sym j.2) c.pair)) in
      let union = pair_union (step_of pairs columns before row) c.u c.w c.reduced.combination c.pair c.reduced.combines in
      subst (Contains next) (sym (same_reduced columns row c.u c.w x g.x c.reduced
      (subst₂ (λ a b. IsReducedCombination row a b g.x) i.2 j.2 (reduced_read limit pairs rays signs the_step i.0 j.0 g.x g.pair g.reduced))
      union.solution.width union.nonzero)) g.occurs

  -- a ray at which the row is 0 is in a list that retains all of these
  pub zero_stands : (next : List (List ℕ)) → ((k : ℕ) → 0 ≤ k → k < length rays → slice_index_or signs k Zero ≡ Zero → Contains next (ray_at rays k)) →
      (x : List ℕ) → IsRay (step_of pairs columns before row) x → IsZeroAt row x → Contains next x
  zero_stands next keeps x ray zero_at =
      let k = place_of (step_of pairs columns before row) rays surfaces x ray in
      subst (Contains next) k.2 (keeps k.0 (omega arith) k.1
      (zero_sign row (ray_at rays k.0) (slice_index_or signs k.0 Zero) (sign_at_place k.0 k.1) (subst (IsZeroAt row) (sym k.2) zero_at)))

  occurs : (next : List (List ℕ)) → IsNextFrom limit pairs rays signs 0 next → (x : List ℕ) →
      (IsRay (step_of pairs columns before row) x × IsZeroAt row x) ⊎ ComesFromPair (step_of pairs columns before row) x → Contains next x
  occurs next h x (inl kept) = zero_stands next h.keeps x kept.0 kept.1
  occurs next h x (inr made) = pair_stands next h.gives x made

  next_surface : (x : List ℕ) → (Contains rays x × IsZeroAt row x) ⊎ ComesFromPair (step_of pairs columns before row) x → IsVertexSurface columns (before ++ row ∷ []) pairs x
  next_surface x (inl kept) = (step_gives_next_lem (step_of pairs columns before row) x).1 (inl (All-contains (IsVertexSurface columns before pairs) rays x surfaces.vertex_surfaces kept.0, kept.1))
  next_surface x (inr made) = (step_gives_next_lem (step_of pairs columns before row) x).1 (inr made)

  -- the rays retained and the combinations are the vertex surfaces of one more row
  pub next_surfaces : (next : List (List ℕ)) → IsNextFrom limit pairs rays signs 0 next → HasSurfaces columns (before ++ row ∷ []) pairs next
  next_surfaces next h = record {
    separate = h.separate the_step;
    vertex_surfaces = λ k d within. next_surface (slice_index_or next k d) (kept_or_made_read (slice_index_or next k d) (h.comes k d within));
    complete = λ x s. occurs next h x ((step_gives_next_lem (step_of pairs columns before row) x).0 s);
  }
