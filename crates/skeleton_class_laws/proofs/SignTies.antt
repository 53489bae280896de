-- Signed tetrahedra by numbers.
use Rattle.std.proofs.Common.{◌≡◌, ℕ, ◌+◌, ◌-◌, ◌*◌, ◌/◌, ◌%◌, ◌<◌, Bool, true, false, List, [], ◌∷◌, length, Option, Some, None, refl, sym, ap, ◌∙◌, arith, subst}
use Rattle.std.specs.Prelude.{option_map, option_and_then, if◌then◌else◌}
use Rattle.table_definitions.specs.Permutation.{image, is_odd}
use Rattle.table_definitions.specs.Table.{Gluing, Face, Row, glue, inverse_gluing, IsTable}
use Rattle.table_definitions.specs.Places.{Place, across, along, whole, SameComponent}
use Rattle.table_definitions.proofs.PermutationLaws.{image_below}
use Rattle.table_definitions.proofs.TableLaws.{glued_face}
use Rattle.table_definitions.proofs.ChainLaws.{across_by}
use Rattle.table_definitions.proofs.Permutations.{is_odd-inverse}
use Rattle.skeleton_class_laws.specs.Neighbours.{led, IsLed, IsReversible}
use Rattle.skeleton_class_laws.specs.Signs.{sign_by_gluing, crossed_sign}

-- the gluing that a signed step crosses
pub record Signed (rows : List Row) (k f m : ℕ) : Type 0 where
  pub gluing : Gluing
  pub glued : glue rows (record { tet = k / 2; face = f }) ≡ Some gluing
  pub lands : m ≡ 2 * gluing.tet + sign_by_gluing gluing (k % 2)

signed_by : (rows : List Row) (k f m : ℕ) (o : Option Gluing) → glue rows (record { tet = k / 2; face = f }) ≡ o → option_map (λ (g : Gluing). 2 * g.tet + sign_by_gluing g (k % 2)) o ≡ Some m → Signed rows k f m
signed_by rows k f m None h e = absurd cc
signed_by rows k f m (Some g) h e = record { gluing = g; glued = h; lands = let s : 2 * g.tet + sign_by_gluing g (k % 2) ≡ m = cc in sym s }

pub signed : (rows : List Row) (k f m : ℕ) → crossed_sign rows k f ≡ Some m → Signed rows k f m
unfolding crossed_sign
signed rows k f m e = signed_by rows k f m (glue rows (record { tet = k / 2; face = f })) refl e

pub crossed_sign-is : (rows : List Row) (k f : ℕ) (g : Gluing) → glue rows (record { tet = k / 2; face = f }) ≡ Some g → crossed_sign rows k f ≡ Some (2 * g.tet + sign_by_gluing g (k % 2))
unfolding crossed_sign
crossed_sign-is rows k f g h = ap (λ (o : Option Gluing). option_map (λ (x : Gluing). 2 * x.tet + sign_by_gluing x (k % 2)) o) h

pub crossed_sign-free : (rows : List Row) (k f : ℕ) → glue rows (record { tet = k / 2; face = f }) ≡ None → crossed_sign rows k f ≡ None
unfolding crossed_sign
crossed_sign-free rows k f h = ap (λ (o : Option Gluing). option_map (λ (x : Gluing). 2 * x.tet + sign_by_gluing x (k % 2)) o) h

sign_small : (b : Bool) (s : ℕ) → s < 2 → (if b then s else 1 - s) < 2
sign_small true s l = l
sign_small false s l = omega arith

pub sign_twice : (b : Bool) (s : ℕ) → s < 2 → (if b then (if b then s else 1 - s) else 1 - (if b then s else 1 - s)) ≡ s
sign_twice true s l = refl
sign_twice false s l = omega arith

pub behind_small : (g : Gluing) (k : ℕ) → sign_by_gluing g (k % 2) < 2
behind_small g k = sign_small (is_odd g.perm) (k % 2) (omega arith)

-- the tetrahedron and the sign that a signed step reaches
pub landed : (g : Gluing) (k m : ℕ) → m ≡ 2 * g.tet + sign_by_gluing g (k % 2) → (m / 2 ≡ g.tet) × (m % 2 ≡ sign_by_gluing g (k % 2))
landed g k m e =
    let s : sign_by_gluing g (k % 2) < 2 = behind_small g k in
    let d : m / 2 ≡ g.tet = omega (arith, e) in
    let r : m % 2 ≡ sign_by_gluing g (k % 2) = omega (arith, e) in
    (d, r)

module _ (rows : List Row) (table : IsTable rows) where
  pub signs_reversible : IsReversible (2 * length rows) (crossed_sign rows)
  signs_reversible k f m lk lf e =
      let s = signed rows k f m e in
      let g = s.gluing in
      let x : Face = record { tet = k / 2; face = f } in
      let h = table.permutes x g s.glued in
      let p = landed g k m s.lands in
      let small : sign_by_gluing g (k % 2) < 2 = behind_small g k in
      let t : g.tet < length rows = table.in_range x g s.glued in
      let inside : m < 2 * length rows = omega (arith, s.lands) in
      let there : glue rows (record { tet = m / 2; face = image g.perm f }) ≡ Some (inverse_gluing x g) =
      subst (λ u. glue rows (record { tet = u; face = image g.perm f }) ≡ Some (inverse_gluing x g)) (sym p.0) (table.leads_back x g s.glued) in
      let own : k % 2 < 2 = omega arith in
      let sign : sign_by_gluing (inverse_gluing x g) (m % 2) ≡ k % 2 =
      ap (λ b. if b then m % 2 else 1 - m % 2) (is_odd-inverse g.perm h) ∙ ap (λ n. if is_odd g.perm then n else 1 - n) p.1 ∙ sign_twice (is_odd g.perm) (k % 2) own in
      let home : 2 * (k / 2) + sign_by_gluing (inverse_gluing x g) (m % 2) ≡ k = omega (arith, sign) in
      (inside, (image g.perm f, image_below g.perm f h lf, crossed_sign-is rows m (image g.perm f) (inverse_gluing x g) there ∙ ap Some home))

  pub few_sign_faces : (k f m : ℕ) → k < 2 * length rows → crossed_sign rows k f ≡ Some m → f < 4
  few_sign_faces k f m l e = let s = signed rows k f m e in glued_face rows (record { tet = k / 2; face = f }) s.gluing table.four_faces s.glued

-- the tetrahedra are joined
pub led_along_tets : (rows : List Row) (fs : List ℕ) (k m : ℕ) → led (crossed_sign rows) k fs ≡ Some m → along rows (whole (k / 2)) fs ≡ Some (whole (m / 2))
led_along_tets rows [] k m e = let s : k ≡ m = cc in ap (λ j. Some (whole (j / 2))) s
led_along_tets rows (f ∷ fs) k m e = by_step (λ j s. led_along_tets rows fs j m s) (crossed_sign rows k f) refl e
  where
    by_step : ((j : ℕ) → led (crossed_sign rows) j fs ≡ Some m → along rows (whole (j / 2)) fs ≡ Some (whole (m / 2))) → (o : Option ℕ) → crossed_sign rows k f ≡ o
        → option_and_then (λ j. led (crossed_sign rows) j fs) o ≡ Some m → along rows (whole (k / 2)) (f ∷ fs) ≡ Some (whole (m / 2))
    by_step later None h e = absurd cc
    by_step later (Some j) h e =
        let s = signed rows k f j h in
        let p = landed s.gluing k j s.lands in
        let step : across rows (whole (k / 2)) f ≡ Some (whole (j / 2)) = across_by rows (whole (k / 2)) f s.gluing s.glued refl ∙ ap (λ t. Some (whole t)) (sym p.0) in
        ap (λ (o : Option Place). option_and_then (λ r. along rows r fs) o) step ∙ later j e

pub led_is_component : (rows : List Row) (k m : ℕ) → IsLed (crossed_sign rows) k m → SameComponent rows (k / 2) (m / 2)
led_is_component rows k m h = (h.0, led_along_tets rows h.0 k m h.1)

-- the image across a face, as the code computes it
pub crossed_sign-by : (rows : List Row) (k f : ℕ) (g : Gluing) (x y : ℕ) (odd : Bool) → Some g ≡ glue rows (record { tet = k / 2; face = f }) → x ≡ g.tet → is_odd g.perm ≡ odd
    → y ≡ (if odd then k % 2 else 1 - k % 2) → Some (2 * x + y) ≡ crossed_sign rows k f
crossed_sign-by rows k f g x y odd h ex eo ey =
    (λ i. Some (2 * ex i + ey i)) ∙ ap (λ b. Some (2 * g.tet + (if b then k % 2 else 1 - k % 2))) (sym eo) ∙ sym (crossed_sign-is rows k f g (sym h))
