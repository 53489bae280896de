-- Signs from the classes of signed tetrahedra.
use Rattle.std.proofs.Common.{◌≡◌, ◌≢◌, inl, inr, ℕ, ◌+◌, ◌-◌, ◌*◌, ◌/◌, ◌%◌, ◌<◌, Bool, true, false, List, [], ◌∷◌, length, Option, Some, None, refl, sym, ap, ◌∙◌, arith, subst}
use Rattle.std.specs.Prelude.{not, nat_lt, slice_index, option_and_then, if◌then◌else◌}
use Rattle.std.proofs.lemmas.Bool.{cases_order, lt-ltb}
use Rattle.basic_lemmas.proofs.Numbers.{compared_back}
use Rattle.basic_lemmas.proofs.Truths.{not_itself}
use Rattle.table_definitions.specs.Permutation.{is_odd}
use Rattle.table_definitions.specs.Table.{Gluing, Face, Row, glue, IsTable}
use Rattle.table_definitions.specs.Places.{SameComponent}
use Rattle.table_definitions.specs.Classes.{IsNumbering}
use Rattle.skeleton_definitions.specs.Orientation.{sign_of, sign_across, AreSigns, StartTrue}
use Rattle.skeleton_definitions.specs.Skeleton.{IsOrientation}
use Rattle.skeleton_definitions.proofs.Signs.{says, says_behind}
use Rattle.table_definitions.proofs.TableLaws.{glued_tet, glued_face}
use Rattle.skeleton_class_laws.specs.Neighbours.{led, IsLed}
use Rattle.skeleton_class_laws.specs.Signs.{sign_by_gluing, crossed_sign, AreSignsBy}
use Rattle.skeleton_class_laws.proofs.SignTies.{signed, landed, crossed_sign-is, led_is_component, signs_reversible}

module _ (rows : List Row) (table : IsTable rows) where
  -- along a path it does not change whether a signed tetrahedron agrees with the signs
  keeps_saying : (signs : List Bool) → AreSigns rows signs → (fs : List ℕ) (k m : ℕ) → led (crossed_sign rows) k fs ≡ Some m
      → says (m % 2) (sign_of signs (m / 2)) ≡ says (k % 2) (sign_of signs (k / 2))
  keeps_saying signs a [] k m e = let s : m ≡ k = cc in ap (λ j. says (j % 2) (sign_of signs (j / 2))) s
  keeps_saying signs a (f ∷ fs) k m e = by_step (λ j s. keeps_saying signs a fs j m s) (crossed_sign rows k f) refl e
    where
      by_step : ((j : ℕ) → led (crossed_sign rows) j fs ≡ Some m → says (m % 2) (sign_of signs (m / 2)) ≡ says (j % 2) (sign_of signs (j / 2))) → (o : Option ℕ) → crossed_sign rows k f ≡ o
          → option_and_then (λ j. led (crossed_sign rows) j fs) o ≡ Some m → says (m % 2) (sign_of signs (m / 2)) ≡ says (k % 2) (sign_of signs (k / 2))
      by_step later None h e = absurd cc
      by_step later (Some j) h e =
          let s = signed rows k f j h in
          let p = landed s.gluing k j s.lands in
          let own : k % 2 < 2 = omega arith in
          let there : sign_of signs s.gluing.tet ≡ (if is_odd s.gluing.perm then sign_of signs (k / 2) else not (sign_of signs (k / 2))) =
          a.agree (record { tet = k / 2; face = f }) s.gluing s.glued in
          later j e ∙ (λ i. says (p.1 i) (sign_of signs (p.0 i))) ∙ says_behind (is_odd s.gluing.perm) (k % 2) (sign_of signs (k / 2)) (sign_of signs s.gluing.tet) own there

  module _ (classes : List ℕ) (count : ℕ) (num : IsNumbering (2 * length rows) (IsLed (crossed_sign rows)) classes count) where
    pub not_orientable : (t : ℕ) → t < length rows → slice_index classes (2 * t) ≡ slice_index classes (2 * t + 1) → IsOrientation rows None
    not_orientable t l e o =
        let l0 : 2 * t < 2 * length rows = omega arith in
        let l1 : 2 * t + 1 < 2 * length rows = omega arith in
        let j : IsLed (crossed_sign rows) (2 * t) (2 * t + 1) = (num.together (2 * t) (2 * t + 1) l0 l1).0 e in
        let k = keeps_saying o.0 o.1 j.0 (2 * t) (2 * t + 1) j.1 in
        let d0 : 2 * t / 2 ≡ t = omega arith in
        let d1 : (2 * t + 1) / 2 ≡ t = omega arith in
        let r0 : 2 * t % 2 ≡ 0 = omega arith in
        let r1 : (2 * t + 1) % 2 ≡ 1 = omega arith in
        not_itself (sign_of o.0 t) (sym (sym (λ i. says (r1 i) (sign_of o.0 (d1 i))) ∙ k ∙ (λ i. says (r0 i) (sign_of o.0 (d0 i)))))

    -- a step keeps the class
    step_keeps : (t s f : ℕ) (g : Gluing) → t < length rows → s < 2 → glue rows (record { tet = t; face = f }) ≡ Some g
        → slice_index classes (2 * t + s) ≡ slice_index classes (2 * g.tet + sign_by_gluing g s)
    step_keeps t s f g l m h =
        let inside : 2 * t + s < 2 * length rows = omega arith in
        let d : (2 * t + s) / 2 ≡ t = omega arith in
        let r : (2 * t + s) % 2 ≡ s = omega arith in
        let glued : glue rows (record { tet = (2 * t + s) / 2; face = f }) ≡ Some g = ap (λ u. glue rows (record { tet = u; face = f })) d ∙ h in
        let face : f < 4 = glued_face rows (record { tet = t; face = f }) g table.four_faces h in
        let step : crossed_sign rows (2 * t + s) f ≡ Some (2 * g.tet + sign_by_gluing g ((2 * t + s) % 2)) = crossed_sign-is rows (2 * t + s) f g glued in
        let there : 2 * g.tet + sign_by_gluing g ((2 * t + s) % 2) < 2 * length rows =
        (signs_reversible rows table (2 * t + s) f (2 * g.tet + sign_by_gluing g ((2 * t + s) % 2)) inside face step).0 in
        (num.together (2 * t + s) (2 * g.tet + sign_by_gluing g ((2 * t + s) % 2)) inside there).1 (f ∷ [], ap (λ (o : Option ℕ). option_and_then (λ j. Some j) o) step)
        ∙ ap (λ u. slice_index classes (2 * g.tet + sign_by_gluing g u)) r

    module _ (separate : (t : ℕ) → t < length rows → slice_index classes (2 * t) ≢ slice_index classes (2 * t + 1)) (signs : List Bool) (a : AreSignsBy classes (length rows) signs) where
      agree : (x : Face) (g : Gluing) → glue rows x ≡ Some g → sign_of signs g.tet ≡ sign_across g (sign_of signs x.tet)
      agree x g h = by_parity (is_odd g.perm) refl
        where
          t : ℕ
          t = x.tet

          lt : x.tet < length rows
          lt = glued_tet rows x g h

          lu : g.tet < length rows
          lu = table.in_range x g h

          zero_is : (n : ℕ) → n + 0 ≡ n
          zero_is n = omega arith

          by_parity : (odd : Bool) → is_odd g.perm ≡ odd → sign_of signs g.tet ≡ (if is_odd g.perm then sign_of signs x.tet else not (sign_of signs x.tet))
          by_parity true e =
              let s0 = step_keeps x.tet 0 x.face g lt (omega arith) h in
              let s1 = step_keeps x.tet 1 x.face g lt (omega arith) h in
              let c0 : slice_index classes (2 * x.tet) ≡ slice_index classes (2 * g.tet) =
              ap (slice_index classes) (sym (zero_is (2 * x.tet))) ∙ s0 ∙ ap (λ b. slice_index classes (2 * g.tet + (if b then 0 else 1 - 0))) e ∙ ap (slice_index classes) (zero_is (2 * g.tet)) in
              let c1 : slice_index classes (2 * x.tet + 1) ≡ slice_index classes (2 * g.tet + 1) = s1 ∙ ap (λ b. slice_index classes (2 * g.tet + (if b then 1 else 1 - 1))) e in
              a.reported g.tet lu ∙ sym (λ i. nat_lt (c0 i) (c1 i)) ∙ sym (a.reported x.tet lt) ∙ sym (ap (λ b. if b then sign_of signs x.tet else not (sign_of signs x.tet)) e)
          by_parity false e =
              let s0 = step_keeps x.tet 0 x.face g lt (omega arith) h in
              let s1 = step_keeps x.tet 1 x.face g lt (omega arith) h in
              let c0 : slice_index classes (2 * x.tet) ≡ slice_index classes (2 * g.tet + 1) =
              ap (slice_index classes) (sym (zero_is (2 * x.tet))) ∙ s0 ∙ ap (λ b. slice_index classes (2 * g.tet + (if b then 0 else 1 - 0))) e in
              let c1 : slice_index classes (2 * x.tet + 1) ≡ slice_index classes (2 * g.tet) =
              s1 ∙ ap (λ b. slice_index classes (2 * g.tet + (if b then 1 else 1 - 1))) e ∙ ap (slice_index classes) (zero_is (2 * g.tet)) in
              a.reported g.tet lu ∙ sym (λ i. nat_lt (c1 i) (c0 i)) ∙ compared_back (slice_index classes (2 * x.tet)) (slice_index classes (2 * x.tet + 1)) (separate x.tet lt)
              ∙ ap not (sym (a.reported x.tet lt)) ∙ sym (ap (λ b. if b then sign_of signs x.tet else not (sign_of signs x.tet)) e)

      start : StartTrue rows signs
      start t l alone = a.reported t l ∙ elim (cases_order (slice_index classes (2 * t)) (slice_index classes (2 * t + 1))) [
        | inl e ↦ absurd (separate t l e)
        | inr (inl less) ↦ lt-ltb (slice_index classes (2 * t)) (slice_index classes (2 * t + 1)) less
        | inr (inr more) ↦
            let l0 : 2 * t < 2 * length rows = omega arith in
            let l1 : 2 * t + 1 < 2 * length rows = omega arith in
            let b = num.ascending (2 * t) (slice_index classes (2 * t + 1)) l0 more in
            let earlier : b.0 < 2 * t = b.1 in
            let lb : b.0 < 2 * length rows = omega arith in
            let j : IsLed (crossed_sign rows) b.0 (2 * t + 1) = (num.together b.0 (2 * t + 1) lb l1).0 b.2 in
            let d : (2 * t + 1) / 2 ≡ t = omega arith in
            let less : b.0 / 2 < t = omega arith in
            absurd (alone (b.0 / 2) less (subst (λ u. SameComponent rows (b.0 / 2) u) d (led_is_component rows b.0 (2 * t + 1) j)))
      ]

      pub oriented : IsOrientation rows (Some signs)
      oriented = (record { one_each = a.one_each; agree = agree }, start)
