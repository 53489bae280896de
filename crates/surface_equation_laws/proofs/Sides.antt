-- Each face is a side of at most one glued pair.
use Rattle.std.proofs.Common.{◌≡◌, ℕ, ◌+◌, ◌≤◌, Bool, true, false, cond, List, length, Option, Some, None, inl, inr, refl, sym, ap, ◌∙◌, subst, arith}
use Rattle.std.specs.Prelude.{sum_by, if◌then◌else◌}
use Rattle.std.proofs.lemmas.Bool.{cases_Bool, both_ways, not-true}
use Rattle.table_definitions.specs.Table.{Gluing, Row, Face, glue, other_side, inverse_gluing, same_face, is_face_before, faces, IsTable}
use Rattle.surface_definitions.specs.Equations.{smaller_side, glued_pairs}
use Rattle.surface_laws.proofs.Glued.{IsGlued, glued_is}
use Rattle.surface_equation_laws.proofs.FaceSums.{over, sum_by-filter_map, one_face, no_face, same_face_apart}
use Rattle.table_definitions.proofs.Faces.{not_both_before}

-- how often a face is a side of a pair
abbrev pub occurs : Face → Face × Gluing → ℕ
occurs z y = cond (same_face y.0 z) 1 0 + cond (same_face (other_side y.0 y.1) z) 1 0

stands_off : (z x : Face) (g : Gluing) → (x ≡ z → ⊥) → (other_side x g ≡ z → ⊥) → occurs z (x, g) ≡ 0
stands_off z x g a b = (λ i. cond (same_face_apart x z a i) 1 0 + cond (same_face_apart (other_side x g) z b i) 1 0)

abbrev counted : List Row → Face → Face → ℕ
counted rows z x = over (occurs z) (smaller_side x (glue rows x))

none_counted : (z x : Face) (o : Option Gluing) → ((g : Gluing) → o ≡ Some g → is_face_before x (other_side x g) ≡ true → occurs z (x, g) ≡ 0) → over (occurs z) (smaller_side x o) ≡ 0
none_counted z x None h = refl
none_counted z x (Some g) h = go (is_face_before x (other_side x g)) refl
  where
    go : (b : Bool) → is_face_before x (other_side x g) ≡ b → over (occurs z) (let p : Option (Face × Gluing) = if b then Some (x, g) else None in p) ≡ 0
    go true e = h g refl e
    go false e = refl

counted_most : (z x : Face) (g : Gluing) (k : ℕ) → occurs z (x, g) ≤ k → over (occurs z) (smaller_side x (Some g)) ≤ k
counted_most z x g k h = go (is_face_before x (other_side x g))
  where
    go : (b : Bool) → over (occurs z) (let p : Option (Face × Gluing) = if b then Some (x, g) else None in p) ≤ k
    go true = h
    go false = omega arith

module _ (rows : List Row) (table : IsTable rows) (z : Face) where
  -- a face whose other side is z
  from : (x : Face) (g : Gluing) → glue rows x ≡ Some g → other_side x g ≡ z → glue rows z ≡ Some (inverse_gluing x g)
  from x g e s = ap (glue rows) (sym s) ∙ (glued_is rows x g table e).back

  back_at : (x : Face) (g h : Gluing) → glue rows x ≡ Some g → other_side x g ≡ z → glue rows z ≡ Some h → x ≡ other_side z h
  back_at x g h e s f =
      let ways : Some (inverse_gluing x g) ≡ Some h = sym (from x g e s) ∙ f in
      let way : inverse_gluing x g ≡ h = cc in
      sym (glued_is rows x g table e).returns ∙ (λ i. other_side (s i) (way i))

  apart_is : (h : Gluing) → glue rows z ≡ Some h → same_face (other_side z h) z ≡ false
  apart_is h f = not-true (same_face (other_side z h) z) (table.separate z h f)

  lesser : (h : Gluing) → glue rows z ≡ Some h → is_face_before z (other_side z h) ≡ true → sum_by (counted rows z) (faces (length rows)) ≤ 1
  lesser h f before =
      let a : IsGlued rows z h = glued_is rows z h table f in
      let rest : (x : Face) → (x ≡ z → ⊥) → counted rows z x ≡ 0 = λ x off. none_counted z x (glue rows x) (λ g e b. stands_off z x g off (λ s.
      let o : x ≡ other_side z h = back_at x g h e s f in
      not_both_before z (other_side z h) before ((λ i. is_face_before (sym o i) (sym s i)) ∙ b))) in
      let all : sum_by (counted rows z) (faces (length rows)) ≡ counted rows z z = one_face (counted rows z) (length rows) z a.tet a.face rest in
      let there : occurs z (z, h) ≤ 1 = (let off = apart_is h f in let e : cond (same_face (other_side z h) z) 1 0 ≡ 0 = ap (λ b. cond b 1 0) off in one_more (same_face z z) (cond (same_face (other_side z h) z) 1 0) e) in
      let here : counted rows z z ≤ 1 = subst (λ (o : Option Gluing). over (occurs z) (smaller_side z o) ≤ 1) (sym f) (counted_most z z h 1 there) in
      subst (λ k. k ≤ 1) (sym all) here
    where
      one_more : (b : Bool) (k : ℕ) → k ≡ 0 → cond b 1 0 + k ≤ 1
      one_more true k e = omega arith
      one_more false k e = omega arith

  greater : (h : Gluing) → glue rows z ≡ Some h → is_face_before z (other_side z h) ≡ false → sum_by (counted rows z) (faces (length rows)) ≤ 1
  greater h f after =
      let a : IsGlued rows z h = glued_is rows z h table f in
      let y : Face = other_side z h in
      let rest : (x : Face) → (x ≡ y → ⊥) → counted rows z x ≡ 0 = λ x off. none_counted z x (glue rows x) (λ g e b. stands_off z x g
      (λ s. let gs : Some g ≡ Some h = sym e ∙ ap (glue rows) s ∙ f in let same : g ≡ h = cc in both_ways (is_face_before z (other_side z h)) after ((λ i. is_face_before (sym s i) (other_side (sym s i) (sym same i))) ∙ b))
      (λ s. off (back_at x g h e s f))) in
      let all : sum_by (counted rows z) (faces (length rows)) ≡ counted rows z y = one_face (counted rows z) (length rows) y a.other_tet a.other_face rest in
      let there : occurs z (y, inverse_gluing z h) ≤ 1 = (let e : cond (same_face y z) 1 0 ≡ 0 = ap (λ b. cond b 1 0) (apart_is h f) in one_more (same_face (other_side y (inverse_gluing z h)) z) (cond (same_face y z) 1 0) e) in
      let here : counted rows z y ≤ 1 = subst (λ (o : Option Gluing). over (occurs z) (smaller_side y o) ≤ 1) (sym a.back) (counted_most z y (inverse_gluing z h) 1 there) in
      subst (λ k. k ≤ 1) (sym all) here
    where
      one_more : (b : Bool) (k : ℕ) → k ≡ 0 → k + cond b 1 0 ≤ 1
      one_more true k e = omega arith
      one_more false k e = omega arith

  by_gluing : (o : Option Gluing) → glue rows z ≡ o → sum_by (counted rows z) (faces (length rows)) ≤ 1
  by_gluing None f =
      let none : sum_by (counted rows z) (faces (length rows)) ≡ 0 = no_face (counted rows z) (length rows) (λ x. none_counted z x (glue rows x) (λ g e b. stands_off z x g
      (λ s. (let gs : Some g ≡ None = sym e ∙ ap (glue rows) s ∙ f in cc))
      (λ s. (let gs : Some (inverse_gluing x g) ≡ None = sym (from x g e s) ∙ f in cc)))) in
      omega arith
  by_gluing (Some h) f = elim (cases_Bool (is_face_before z (other_side z h))) [
    | inl before ↦ lesser h f before
    | inr after ↦ greater h f after
  ]

  pub sides_once : sum_by (occurs z) (glued_pairs rows) ≤ 1
  unfolding glued_pairs
  sides_once =
      let e : sum_by (occurs z) (glued_pairs rows) ≡ sum_by (counted rows z) (faces (length rows)) = sum_by-filter_map {B = Face × Gluing} (occurs z) (λ (x : Face). smaller_side x (glue rows x)) (faces (length rows)) in
      let l : sum_by (counted rows z) (faces (length rows)) ≤ 1 = by_gluing (glue rows z) refl in
      subst (λ k. k ≤ 1) (sym e) l
