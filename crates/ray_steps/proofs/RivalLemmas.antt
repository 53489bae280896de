-- Lemmas on the rays that can lie in the union of two rays.
use Rattle.std.proofs.Common.{◌≡◌, ◌≢◌, ℕ, ◌+◌, ◌<◌, ◌↔◌, inl, inr, ⊎_elim, Bool, true, IsTrue, List, [], ◌∷◌, ◌++◌, Contains, length, get_or, ltb, subst, subst₂, sym, ◌∙◌, ap, arith}
use Rattle.std.proofs.lemmas.Bool.{cases_lt, cases_eq}
use Rattle.std.proofs.lemmas.List.Elements.{All-push, Contains-push, Contains-append_left}
use Rattle.cone_definitions.specs.Vectors.{IsInsideUnion, ray_at}
use Rattle.cone_definitions.specs.Surfaces.{Clash, IsAdmissibleUnion}
use Rattle.cone_definitions.proofs.Decided.{IsFreeOf}
use Rattle.support_bits.specs.Columns.{support_of, HasColumn, IsInsideUnionOf, Meets}
use Rattle.std.proofs.lemmas.List.{get_or_default, get_or-map, length-map}
use Rattle.support_table.specs.Tables.{Table}
use Rattle.support_table.specs.Joins.{AreClashingColumns}
use Rattle.ray_steps.specs.declared.rays.RayWithSupport.{RayWithSupport}
use Rattle.ray_steps.specs.Signs.{IsAdjacentPair}
use Rattle.ray_steps.specs.declared.compatible_list.CompatibleRays.{CompatibleRays}
use Rattle.ray_steps.specs.CompatibleLists.{IsCompatible, AreCompatible, HasSupportsOf, AreCompatibleWith, IsThirdInside}
use Rattle.ray_steps.proofs.SupportLemmas.{inside_iff, clash_free_iff}
use Rattle.ray_steps.specs.Clashes.{IsClashFree}
use Rattle.support_table.proofs.JoinLemmas.{nonzero_from_column}

-- the support of a ray that was read
pub support_read : (v : RayWithSupport) (x : List ℕ) → x ≡ v.ray → v.support ≡ support_of x
support_read v x x_is = v.matches ∙ ap support_of (sym x_is)

-- the clashing pairs in the union of two rays that were read
pub clash_read : (clashes : List Clash) (u w : RayWithSupport) (y z : List ℕ) → y ≡ u.ray → z ≡ w.ray → IsClashFree clashes u.support w.support ↔ IsAdmissibleUnion clashes y z
clash_read clashes u w y z y_is z_is =
    let i = clash_free_iff clashes u.ray w.ray in (
      λ h. subst₂ (IsAdmissibleUnion clashes) (sym y_is) (sym z_is) (i.0 (subst₂ (IsClashFree clashes) u.matches w.matches h)),
      λ h. subst₂ (IsClashFree clashes) (sym u.matches) (sym w.matches) (i.1 (subst₂ (IsAdmissibleUnion clashes) y_is z_is h)),
    )

-- the support of a ray has the width of a table
pub width_read : (v : RayWithSupport) (x : List ℕ) (columns wide : ℕ) → x ≡ v.ray → length x ≡ columns → wide ≡ columns → length v.support ≡ wide
width_read v x columns wide x_is x_wide same = ap length (support_read v x x_is) ∙ length-map x (λ entry. ltb 0 entry) ∙ x_wide ∙ sym same

pub meets_from_test : (v : RayWithSupport) (x : List ℕ) (columns : List Bool) (test : Bool) → x ≡ v.ray → IsTrue test ↔ Meets v.support columns → test ≡ true → Meets (support_of x) columns
meets_from_test v x columns test x_is answers is = subst (λ s. Meets s columns) (support_read v x x_is) (answers.0 is)

-- one more index
pub apart_push : (rays : List (List ℕ)) (columns : List Bool) (n : ℕ) (places : List ℕ) → AreCompatible rays columns n places → AreCompatible rays columns (n + 1) (places ++ n ∷ [])
apart_push rays columns n places h = record {
  in_range = All-push (λ k. k < n + 1) places n (λ k d within. let less = h.in_range k d within in omega arith) (omega arith);
  complete = λ k less separate. ⊎_elim
      (λ old. Contains-append_left places (n ∷ []) k (h.complete k old separate))
      (λ last. let e : n ≡ k = omega arith in subst (Contains (places ++ n ∷ [])) e (Contains-push places n))
      (cases_lt k n);
}

pub apart_skip : (rays : List (List ℕ)) (columns : List Bool) (n : ℕ) (places : List ℕ) → AreCompatible rays columns n places → ¬ IsCompatible rays columns n → AreCompatible rays columns (n + 1) places
apart_skip rays columns n places h none = record {
  in_range = λ k d within. let less = h.in_range k d within in omega arith;
  complete = λ k less separate. ⊎_elim
      (λ old. h.complete k old separate)
      (λ last. let e : k ≡ n = omega arith in absurd (none (subst (IsCompatible rays columns) e separate)))
      (cases_lt k n);
}

-- the union contains both columns of a pair of which u has one and a ray inside the union the other
holds_pair : (v u w : List ℕ) (column other : ℕ) → IsInsideUnion v u w → HasColumn (support_of v) column → HasColumn (support_of u) other →
    ¬ IsFreeOf u w (column, other) × ¬ IsFreeOf u w (other, column)
holds_pair v u w column other inside has_v has_u = (
  λ free. ⊎_elim at_column at_other free,
  λ free. ⊎_elim at_other at_column free,
)
  where
    at_column : (get_or u column 0 ≡ 0) × (get_or w column 0 ≡ 0) → ⊥
    at_column h = nonzero_from_column v column has_v (inside column h.0 h.1)

    at_other : (get_or u other 0 ≡ 0) × (get_or w other 0 ≡ 0) → ⊥
    at_other h = nonzero_from_column u other has_u h.0

-- a ray inside an admissible union has no column that clashes with one of the first ray
pub apart_inside : (pairs : List Clash) (v u w : List ℕ) (joined : List Bool) → AreClashingColumns pairs (support_of u) joined → IsAdmissibleUnion pairs u w → IsInsideUnion v u w → ¬ Meets (support_of v) joined
apart_inside pairs v u w joined joins admissible inside meets =
    let is = (joins.each meets.0).0 meets.2 in
    let none = holds_pair v u w meets.0 is.0 inside meets.1 is.1 in
    ⊎_elim
    (λ c. none.0 (subst (IsFreeOf u w) c.2 (admissible c.0 (meets.0, is.0) c.1)))
    (λ c. none.1 (subst (IsFreeOf u w) c.2 (admissible c.0 (is.0, meets.0) c.1)))
    is.2

-- two rays are not adjacent if the second one contains a column that clashes with one of the first
pub not_face_clash : (pairs : List Clash) (rays : List (List ℕ)) (i j : ℕ) (joined : List Bool) → AreClashingColumns pairs (support_of (ray_at rays i)) joined → Meets (support_of (ray_at rays j)) joined → ¬ IsAdjacentPair pairs rays i j
not_face_clash pairs rays i j joined joins meets face =
    apart_inside pairs (ray_at rays j) (ray_at rays i) (ray_at rays j) joined joins face.no_clash (λ column at_u at_w. at_w) meets

-- the support of a compatible ray
pub support_of_rival : (rays : List (List ℕ)) (columns : ℕ) (places : List ℕ) (table : Table) (m : ℕ) → HasSupportsOf rays columns places table → m < length places →
    get_or table.supports m [] ≡ support_of (ray_at rays (get_or places m 0))
support_of_rival rays columns places table m h within =
    ap (λ ss. get_or ss m []) h.supports ∙ get_or-map (λ k. support_of (ray_at rays k)) places m 0 [] within

pub count_of_rivals : (rays : List (List ℕ)) (columns : ℕ) (places : List ℕ) (table : Table) → HasSupportsOf rays columns places table → length table.supports ≡ length places
count_of_rivals rays columns places table h = ap length h.supports ∙ length-map places (λ k. support_of (ray_at rays k))

-- the support of a compatible ray lies inside the union of two if and only if its vector does
inside_rival : (rays : List (List ℕ)) (i j columns m : ℕ) (places : List ℕ) (table : Table) (a b : List Bool) → HasSupportsOf rays columns places table → m < length places →
    a ≡ support_of (ray_at rays i) → b ≡ support_of (ray_at rays j) →
    IsInsideUnionOf (get_or table.supports m []) a b ↔ IsInsideUnion (ray_at rays (get_or places m 0)) (ray_at rays i) (ray_at rays j)
inside_rival rays i j columns m places table a b h within a_is b_is =
    rw (support_of_rival rays columns places table m h within, a_is, b_is) (inside_iff (ray_at rays (get_or places m 0)) (ray_at rays i) (ray_at rays j))

-- two rays with a third ray inside their union are not adjacent
pub not_face_third : (pairs : List Clash) (rays : List (List ℕ)) (i j columns m : ℕ) (compatible_list : CompatibleRays) (a b : List Bool) → AreCompatibleWith pairs rays i columns compatible_list → a ≡ support_of (ray_at rays i) → b ≡ support_of (ray_at rays j) →
    m < length compatible_list.places.items → IsThirdInside compatible_list.places.items compatible_list.table.supports i j a b m → ¬ IsAdjacentPair pairs rays i j
not_face_third pairs rays i j columns m compatible_list a b h a_is b_is within third face =
    let k = get_or compatible_list.places.items m 0 in
    ⊎_elim third.0 third.1
    (face.no_third k (h.listed.places.in_range m 0 within) ((inside_rival rays i j columns m compatible_list.places.items compatible_list.table a b h.listed.table within a_is b_is).0 third.2))

-- if no third compatible ray lies inside, two rays with an admissible union are adjacent
pub face_from_rivals : (pairs : List Clash) (rays : List (List ℕ)) (i j columns : ℕ) (compatible_list : CompatibleRays) (a b : List Bool) → AreCompatibleWith pairs rays i columns compatible_list → a ≡ support_of (ray_at rays i) → b ≡ support_of (ray_at rays j) →
    ((m : ℕ) → m < length compatible_list.places.items → ¬ IsThirdInside compatible_list.places.items compatible_list.table.supports i j a b m) →
    IsAdmissibleUnion pairs (ray_at rays i) (ray_at rays j) → IsAdjacentPair pairs rays i j
face_from_rivals pairs rays i j columns compatible_list a b h a_is b_is none admissible = record {
  no_clash = admissible;
  no_third = λ k within inside. ⊎_elim
      (λ first. inl first)
      (λ other. ⊎_elim (λ second. inr second) (λ third. absurd (not_listed k (h.listed.places.complete k within (separate k inside)) inside other third)) (cases_eq k j))
      (cases_eq k i);
}
  where
    separate : (k : ℕ) → IsInsideUnion (ray_at rays k) (ray_at rays i) (ray_at rays j) → ¬ Meets (support_of (ray_at rays k)) compatible_list.joined
    separate k inside = apart_inside pairs (ray_at rays k) (ray_at rays i) (ray_at rays j) compatible_list.joined h.joined admissible inside

    not_listed : (k : ℕ) → Contains compatible_list.places.items k → IsInsideUnion (ray_at rays k) (ray_at rays i) (ray_at rays j) → k ≢ i → k ≢ j → ⊥
    not_listed k occurs inside other third =
        let at : get_or compatible_list.places.items occurs.0 0 ≡ k = get_or_default compatible_list.places.items occurs.0 0 k occurs.1 ∙ occurs.2 in
        none occurs.0 occurs.1 (
          (λ e. other (sym at ∙ e)),
          (λ e. third (sym at ∙ e)),
          (inside_rival rays i j columns occurs.0 compatible_list.places.items compatible_list.table a b h.listed.table occurs.1 a_is b_is).1
              (subst (λ n. IsInsideUnion (ray_at rays n) (ray_at rays i) (ray_at rays j)) (sym at) inside),
        )
