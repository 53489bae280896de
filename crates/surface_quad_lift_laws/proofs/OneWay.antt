-- Steps around an edge never reach, from a corner, the same corner in the other direction.
use Rattle.std.proofs.Common.{◌≡◌, ℕ, zero, suc, ◌+◌, ◌-◌, Bool, true, false, not, List, length, Some, inl, inr, refl, sym, ap, ◌∙◌, subst, arith}
use Rattle.std.specs.Prelude.{◌==◌, IsTrue, option_and_then}
use Rattle.std.proofs.lemmas.Bool.{cases_lt, eq-eqb, and_from}
use Rattle.table_definitions.specs.Permutation.{image}
use Rattle.table_definitions.specs.Table.{Row, Face, other_side, same_face, IsTable}
use Rattle.skeleton_definitions.specs.Corners.{Corner, corner_across, step, steps, Reaches, left_through}
use Rattle.surface_laws.proofs.CornerSteps.{IsStep, step_is}
use Rattle.skeleton_class_laws.proofs.Rounds.{before, next, first_step, where_led}
use Rattle.surface_quad_laws.proofs.Rounds.{HasFourVertices, next_is, before_next, behind_in, kept_by_steps}
use Rattle.surface_quad_lift_laws.proofs.Flags.{flip}

last_step : (rows : List Row) (n : ℕ) (k l : Corner) → steps rows (suc n) k ≡ Some l → (m : Corner) × (steps rows n k ≡ Some m) × (step rows m ≡ Some l)
last_step rows zero k l e = let f = first_step rows zero l (step rows k) e in let same : f.0 ≡ l = (let w = f.2 in cc) in (k, refl, f.1 ∙ ap Some same)
last_step rows (suc n) k l e =
    let f = first_step rows (suc n) l (step rows k) e in
    let m = last_step rows n f.0 l f.2 in
    (m.0, ap (option_and_then (λ d. steps rows n d)) f.1 ∙ m.1, m.2)

later_steps : (rows : List Row) (a b : ℕ) (k l m : Corner) → steps rows a k ≡ Some l → steps rows (a + b) k ≡ Some m → steps rows b l ≡ Some m
later_steps rows zero b k l m e f = let same : k ≡ l = cc in let none : 0 + b ≡ b = omega arith in ap (steps rows b) (sym same) ∙ ap (λ n. steps rows n k) (sym none) ∙ f
later_steps rows (suc a) b k l m e f =
    let more : suc a + b ≡ suc (a + b) = omega arith in
    let x = first_step rows a l (step rows k) e in
    let y = first_step rows (a + b) m (step rows k) (ap (λ n. steps rows n k) (sym more) ∙ f) in
    let both : Some x.0 ≡ Some y.0 = sym x.1 ∙ y.1 in
    let same : x.0 ≡ y.0 = cc in
    later_steps rows a b x.0 l m x.2 (ap (steps rows (a + b)) same ∙ y.2)

not_itself : (b : Bool) → IsTrue (not b) → b ≡ true → ⊥
not_itself true h e = absurd cc
not_itself false h e = absurd cc

module _ (rows : List Row) (table : IsTable rows) where
  pub flip_corner : (k : Corner) → HasFourVertices (length rows) k → HasFourVertices (length rows) (flip k)
  flip_corner k f = record { tet = f.tet; a = f.a; b = f.b; c = f.d; d = f.c; ab = f.ab; ac = f.ad; ad = f.ac; bc = f.bd; bd = f.bc; cd = λ e. f.cd (sym e) }

  stays_in : (k l : Corner) → HasFourVertices (length rows) k → step rows k ≡ Some l → HasFourVertices (length rows) l
  stays_in k l four e = let w = step_is rows k l e in subst (HasFourVertices (length rows)) w.is (behind_in rows table k w.on.g four w.on.glued)

  -- the corner before a reversed corner is the reverse of the next one
  comes_from : (k m y : Corner) → HasFourVertices (length rows) y → step rows k ≡ Some m → step rows y ≡ Some (flip k) → y ≡ flip m
  comes_from k m y four e f =
      let w : IsStep rows k m = step_is rows k m e in
      let v : IsStep rows y (flip k) = step_is rows y (flip k) f in
      let onto : next rows y ≡ flip k = next_is rows y v.on ∙ v.is in
      sym (before_next rows table y four v.on) ∙ ap (before rows) onto ∙ ap (where_led corner_across (flip k)) w.on.glued ∙ ap flip w.is

  pub no_flip : (n : ℕ) (k : Corner) → HasFourVertices (length rows) k → steps rows n k ≡ Some (flip k) → ⊥
  no_flip zero k four e = let same : k ≡ flip k = cc in four.cd (ap (λ (l : Corner). l.c) same)
  no_flip (suc zero) k four e =
      let f = first_step rows zero (flip k) (step rows k) e in
      let same : f.0 ≡ flip k = (let w = f.2 in cc) in
      let w : IsStep rows k f.0 = step_is rows k f.0 f.1 in
      let is : corner_across k w.on.g ≡ flip k = w.is ∙ same in
      let x : Face = left_through k in
      not_itself (same_face (other_side x w.on.g) x) (table.separate x w.on.g w.on.glued)
      (and_from (w.on.g.tet == k.tet) (image w.on.g.perm k.c == k.c) (eq-eqb w.on.g.tet k.tet (ap (λ (l : Corner). l.tet) is)) (eq-eqb (image w.on.g.perm k.c) k.c (ap (λ (l : Corner). l.d) is)))
  no_flip (suc (suc n)) k four e =
      let f = first_step rows (suc n) (flip k) (step rows k) e in
      let y = last_step rows n f.0 (flip k) f.2 in
      let four_m : HasFourVertices (length rows) f.0 = stays_in k f.0 four f.1 in
      let four_y : HasFourVertices (length rows) y.0 = kept_by_steps rows (HasFourVertices (length rows)) (λ l m h q. stays_in l m h q) n f.0 y.0 four_m y.1 in
      no_flip n f.0 four_m (y.1 ∙ ap Some (comes_from k f.0 y.0 four_y f.1 y.2))

  pub one_way : (first k : Corner) → HasFourVertices (length rows) k → Reaches rows first k → Reaches rows first (flip k) → ⊥
  one_way first k four a b = elim (cases_lt a.0 b.0) [
    | inl l ↦ (let e : a.0 + (b.0 - a.0) ≡ b.0 = omega arith in no_flip (b.0 - a.0) k four (later_steps rows a.0 (b.0 - a.0) first k (flip k) a.1 (ap (λ n. steps rows n first) e ∙ b.1)))
    | inr m ↦ (let e : b.0 + (a.0 - b.0) ≡ a.0 = omega arith in no_flip (a.0 - b.0) (flip k) (flip_corner k four) (later_steps rows b.0 (a.0 - b.0) first (flip k) k b.1 (ap (λ n. steps rows n first) e ∙ a.1)))
  ]
