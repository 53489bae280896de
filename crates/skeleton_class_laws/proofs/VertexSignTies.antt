-- Signed vertices by numbers.
use Rattle.std.proofs.Common.{◌≡◌, ℕ, ◌+◌, ◌-◌, ◌*◌, ◌/◌, ◌%◌, ◌<◌, Bool, true, false, List, length, Option, Some, None, refl, sym, ap, ◌∙◌, arith, subst}
use Rattle.std.specs.Prelude.{◌==◌, option_map, if◌then◌else◌}
use Rattle.table_definitions.specs.Permutation.{image, inverse, is_odd}
use Rattle.table_definitions.specs.Table.{Gluing, Face, Row, glue, inverse_gluing, IsTable}
use Rattle.table_definitions.proofs.PermutationLaws.{image_below, image-of_inverse, image_same}
use Rattle.table_definitions.proofs.TableLaws.{glued_face}
use Rattle.table_definitions.proofs.Permutations.{is_odd-inverse}
use Rattle.skeleton_class_laws.specs.Neighbours.{IsReversible}
use Rattle.skeleton_class_laws.specs.Signs.{sign_by_gluing, crossed_vertex_sign}
use Rattle.skeleton_class_laws.proofs.SignTies.{behind_small, sign_twice}

pub record SignedVertex (rows : List Row) (k f m : ℕ) : Type 0 where
  pub gluing : Gluing
  pub glued : glue rows (record { tet = k / 8; face = f }) ≡ Some gluing
  pub off : (k / 2 % 4 == f) ≡ false
  pub lands : m ≡ 2 * (4 * gluing.tet + image gluing.perm (k / 2 % 4)) + sign_by_gluing gluing (k % 2)

signed_by : (rows : List Row) (k f m : ℕ) (b : Bool) (o : Option Gluing) → (k / 2 % 4 == f) ≡ b → glue rows (record { tet = k / 8; face = f }) ≡ o
    → if◌then◌else◌ {A = Option ℕ} b None (option_map (λ (g : Gluing). 2 * (4 * g.tet + image g.perm (k / 2 % 4)) + sign_by_gluing g (k % 2)) o) ≡ Some m → SignedVertex rows k f m
signed_by rows k f m true o b h e = absurd (let z : None ≡ Some m = e in cc)
signed_by rows k f m false None b h e = absurd (let z : None ≡ Some m = e in cc)
signed_by rows k f m false (Some g) b h e = record { gluing = g; glued = h; off = b; lands = let s : 2 * (4 * g.tet + image g.perm (k / 2 % 4)) + sign_by_gluing g (k % 2) ≡ m = cc in sym s }

pub signed_vertex : (rows : List Row) (k f m : ℕ) → crossed_vertex_sign rows k f ≡ Some m → SignedVertex rows k f m
unfolding crossed_vertex_sign
signed_vertex rows k f m e = signed_by rows k f m (k / 2 % 4 == f) (glue rows (record { tet = k / 8; face = f })) refl refl e

pub crossed_vertex_sign-own : (rows : List Row) (k f : ℕ) → (k / 2 % 4 == f) ≡ true → crossed_vertex_sign rows k f ≡ None
unfolding crossed_vertex_sign
crossed_vertex_sign-own rows k f b = rw b refl

pub crossed_vertex_sign-free : (rows : List Row) (k f : ℕ) → (k / 2 % 4 == f) ≡ false → glue rows (record { tet = k / 8; face = f }) ≡ None → crossed_vertex_sign rows k f ≡ None
unfolding crossed_vertex_sign
crossed_vertex_sign-free rows k f b h = rw (b, h) refl

pub crossed_vertex_sign-is : (rows : List Row) (k f : ℕ) (g : Gluing) → (k / 2 % 4 == f) ≡ false → glue rows (record { tet = k / 8; face = f }) ≡ Some g
    → crossed_vertex_sign rows k f ≡ Some (2 * (4 * g.tet + image g.perm (k / 2 % 4)) + sign_by_gluing g (k % 2))
unfolding crossed_vertex_sign
crossed_vertex_sign-is rows k f g b h = rw (b, h) refl

pub crossed_vertex_sign-by : (rows : List Row) (k f : ℕ) (g : Gluing) (x y z : ℕ) (odd : Bool) → (k / 2 % 4 == f) ≡ false → Some g ≡ glue rows (record { tet = k / 8; face = f }) → x ≡ g.tet
    → y ≡ image g.perm (k / 2 % 4) → is_odd g.perm ≡ odd → z ≡ (if odd then k % 2 else 1 - k % 2) → Some (2 * (4 * x + y) + z) ≡ crossed_vertex_sign rows k f
crossed_vertex_sign-by rows k f g x y z odd b h ex ey eo ez =
    (λ i. Some (2 * (4 * ex i + ey i) + ez i)) ∙ ap (λ c. Some (2 * (4 * g.tet + image g.perm (k / 2 % 4)) + (if c then k % 2 else 1 - k % 2))) (sym eo) ∙ sym (crossed_vertex_sign-is rows k f g b (sym h))

-- the parts of a signed vertex
pub vertex_parts : (t v s m : ℕ) → v < 4 → s < 2 → m ≡ 2 * (4 * t + v) + s → (m / 8 ≡ t) × (m / 2 % 4 ≡ v) × (m % 2 ≡ s)
vertex_parts t v s m lv ls e =
    let a : m / 8 ≡ t = omega arith in
    let h : m / 2 ≡ 4 * t + v = omega arith in
    let b : m / 2 % 4 ≡ v = omega arith in
    let c : m % 2 ≡ s = omega arith in (a, b, c)

module _ (rows : List Row) (table : IsTable rows) where
  pub vertex_signs_reversible : IsReversible (8 * length rows) (crossed_vertex_sign rows)
  vertex_signs_reversible k f m lk lf e =
      let s = signed_vertex rows k f m e in
      let g = s.gluing in
      let x : Face = record { tet = k / 8; face = f } in
      let h = table.permutes x g s.glued in
      let own : k / 2 % 4 < 4 = omega arith in
      let v : image g.perm (k / 2 % 4) < 4 = image_below g.perm (k / 2 % 4) h own in
      let small : sign_by_gluing g (k % 2) < 2 = behind_small g k in
      let p = vertex_parts g.tet (image g.perm (k / 2 % 4)) (sign_by_gluing g (k % 2)) m v small s.lands in
      let t : g.tet < length rows = table.in_range x g s.glued in
      let inside : m < 8 * length rows = omega (arith, s.lands) in
      let there : glue rows (record { tet = m / 8; face = image g.perm f }) ≡ Some (inverse_gluing x g) =
      subst (λ u. glue rows (record { tet = u; face = image g.perm f }) ≡ Some (inverse_gluing x g)) (sym p.0) (table.leads_back x g s.glued) in
      let off : (m / 2 % 4 == image g.perm f) ≡ false = ap (λ n. n == image g.perm f) p.1 ∙ image_same g.perm (k / 2 % 4) f h own lf ∙ s.off in
      let home : image (inverse g.perm) (m / 2 % 4) ≡ k / 2 % 4 = ap (image (inverse g.perm)) p.1 ∙ image-of_inverse g.perm (k / 2 % 4) h own in
      let bit : k % 2 < 2 = omega arith in
      let sign : sign_by_gluing (inverse_gluing x g) (m % 2) ≡ k % 2 =
      ap (λ b. if b then m % 2 else 1 - m % 2) (is_odd-inverse g.perm h) ∙ ap (λ n. if is_odd g.perm then n else 1 - n) p.2 ∙ sign_twice (is_odd g.perm) (k % 2) bit in
      let back : 2 * (4 * (k / 8) + image (inverse g.perm) (m / 2 % 4)) + sign_by_gluing (inverse_gluing x g) (m % 2) ≡ k = omega (arith, sign, home) in
      (inside, (image g.perm f, image_below g.perm f h lf, crossed_vertex_sign-is rows m (image g.perm f) (inverse_gluing x g) off there ∙ ap Some back))

  pub few_vertex_sign_faces : (k f m : ℕ) → k < 8 * length rows → crossed_vertex_sign rows k f ≡ Some m → f < 4
  few_vertex_sign_faces k f m l e = let s = signed_vertex rows k f m e in glued_face rows (record { tet = k / 8; face = f }) s.gluing table.four_faces s.glued
