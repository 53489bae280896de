-- A link is orientable if and only if no member is joined to itself with the other sign.
use Rattle.std.proofs.Common.{◌≡◌, ◌≢◌, ◌↔◌, inl, inr, ℕ, zero, suc, ◌+◌, ◌-◌, ◌*◌, ◌/◌, ◌%◌, ◌<◌, Bool, true, false, cond, List, [], ◌∷◌, length, map, Option, Some, None, refl, sym, ap, ◌∙◌, arith}
use Rattle.std.specs.Prelude.{◌==◌, ◌&&◌, not, nat_lt, slice_index, count_by, option_and_then, IsTrue, if◌then◌else◌}
use Rattle.std.specs.List.{slice_index_or}
use Rattle.std.proofs.lemmas.Bool.{cases_lt, eqb-true, eq-eqb, ne_eqb, eqb-false, and_parts}
use Rattle.std.proofs.lemmas.List.FromFn.{length-map-range_with_len, get_or-map-range_with_len}
use Rattle.basic_lemmas.proofs.Numbers.{compared_back}
use Rattle.basic_lemmas.proofs.Truths.{not_itself}
use Rattle.table_definitions.specs.Lists.{below}
use Rattle.table_definitions.specs.Permutation.{image, is_odd}
use Rattle.table_definitions.specs.Table.{Gluing, Row, glue, IsTable}
use Rattle.table_definitions.specs.Classes.{IsNumbering}
use Rattle.table_definitions.specs.Places.{vertex, SameVertex}
use Rattle.skeleton_definitions.specs.Orientation.{sign_of}
use Rattle.skeleton_definitions.specs.Links.{AreLinkSigns, IsOrientableLink}
use Rattle.skeleton_definitions.proofs.Signs.{says, says_behind}
use Rattle.table_definitions.proofs.ChainLaws.{joined_step}
use Rattle.table_definitions.proofs.PermutationLaws.{image_below}
use Rattle.table_definitions.proofs.TableLaws.{glued_tet, glued_face}
use Rattle.skeleton_class_laws.specs.Crossings.{vertex_at, crossed_vertex}
use Rattle.skeleton_class_laws.specs.Neighbours.{led, IsLed}
use Rattle.skeleton_class_laws.specs.Signs.{sign_by_gluing, crossed_vertex_sign}
use Rattle.skeleton_class_laws.proofs.CrossingLemmas.{crossed_vertex-glued}
use Rattle.skeleton_class_laws.proofs.PlaceLemmas.{stepped}
use Rattle.skeleton_class_laws.proofs.SignTies.{behind_small}
use Rattle.skeleton_class_laws.proofs.VertexTies.{vertices_counted}
use Rattle.skeleton_class_laws.proofs.VertexSignTies.{signed_vertex, crossed_vertex_sign-is, vertex_parts, vertex_signs_reversible}
use Rattle.skeleton_class_laws.specs.Tallies.{is_counted, AreTallies}
use Rattle.skeleton_class_laws.proofs.TallyLemmas.{count_more}

-- a count is 0 if nothing passes the test
none_zero : (p : ℕ → Bool) (n : ℕ) → ((i : ℕ) → i < n → p i ≡ false) → count_by p (below n) ≡ 0
none_zero p zero h = refl
none_zero p (suc n) h =
    let s : suc n ≡ n + 1 = omega arith in
    let before : count_by p (below n) ≡ 0 = none_zero p n (λ i l. h i (omega arith)) in
    let here : count_by p (n ∷ []) ≡ 0 = ap (λ b. 0 + cond b 1 0) (h n (omega arith)) in
    ap (λ m. count_by p (below m)) s ∙ count_more p n ∙ (let z : count_by p (below n) + count_by p (n ∷ []) ≡ 0 = omega arith in z)

zero_none : (p : ℕ → Bool) (n : ℕ) → count_by p (below n) ≡ 0 → (i : ℕ) → i < n → p i ≡ false
zero_none p zero h i l = absurd (omega arith)
zero_none p (suc n) h i l =
    let s : suc n ≡ n + 1 = omega arith in
    let both : count_by p (below n) + count_by p (n ∷ []) ≡ 0 = sym (count_more p n) ∙ sym (ap (λ m. count_by p (below m)) s) ∙ h in
    let before : count_by p (below n) ≡ 0 = omega arith in
    let here : count_by p (n ∷ []) ≡ 0 = omega arith in
    elim (cases_lt i n) [
      | inl less ↦ zero_none p n before i less
      | inr more ↦ let e : i ≡ n = omega arith in ap p e ∙ by_test (p n) refl here
    ]
  where
    by_test : (b : Bool) → p n ≡ b → 0 + cond (p n) 1 0 ≡ 0 → p n ≡ false
    by_test false e z = e
    by_test true e z = absurd (let y : 0 + cond (p n) 1 0 ≡ 1 = ap (λ b. 0 + cond b 1 0) e in omega arith)

module _ (rows : List Row) (table : IsTable rows) (classes : List ℕ) (count : ℕ) (vertices : IsNumbering (4 * length rows) (SameVertex rows) classes count)
    (signed : List ℕ) (k : ℕ) (num : IsNumbering (8 * length rows) (IsLed (crossed_vertex_sign rows)) signed k) (c : ℕ) where
  -- the vertex across a face is of the same class
  same_class : (i f j : ℕ) → i < 4 * length rows → crossed_vertex rows i f ≡ Some j → slice_index classes j ≡ slice_index classes i
  same_class i f j l e =
      let t = stepped rows (4 * length rows) vertex vertex_at (crossed_vertex rows) (vertices_counted rows table) i f j l e in
      sym ((vertices.together i j l t.1).1 (joined_step rows (vertex i) f (vertex j) t.0))

  -- along a path it does not change whether a signed member agrees with the signs
  keeps_saying : (signs : List Bool) → AreLinkSigns rows classes c signs → (fs : List ℕ) (x m : ℕ) → x < 8 * length rows → slice_index classes (x / 2) ≡ c → led (crossed_vertex_sign rows) x fs ≡ Some m
      → says (m % 2) (sign_of signs (m / 2)) ≡ says (x % 2) (sign_of signs (x / 2))
  keeps_saying signs a [] x m l own e = let s : m ≡ x = cc in ap (λ j. says (j % 2) (sign_of signs (j / 2))) s
  keeps_saying signs a (f ∷ fs) x m l own e = by_step (λ j lj oj s. keeps_saying signs a fs j m lj oj s) (crossed_vertex_sign rows x f) refl e
    where
      by_step : ((j : ℕ) → j < 8 * length rows → slice_index classes (j / 2) ≡ c → led (crossed_vertex_sign rows) j fs ≡ Some m → says (m % 2) (sign_of signs (m / 2)) ≡ says (j % 2) (sign_of signs (j / 2)))
          → (o : Option ℕ) → crossed_vertex_sign rows x f ≡ o → option_and_then (λ j. led (crossed_vertex_sign rows) j fs) o ≡ Some m → says (m % 2) (sign_of signs (m / 2)) ≡ says (x % 2) (sign_of signs (x / 2))
      by_step later None h e = absurd cc
      by_step later (Some j) h e =
          let s = signed_vertex rows x f j h in
          let g = s.gluing in
          let v = x / 2 % 4 in
          let hp = table.permutes _ g s.glued in
          let lv : v < 4 = omega arith in
          let iv : image g.perm v < 4 = image_below g.perm v hp lv in
          let small : sign_by_gluing g (x % 2) < 2 = behind_small g x in
          let lf : f < 4 = glued_face rows (record { tet = x / 8; face = f }) g table.four_faces s.glued in
          let there : j / 2 ≡ 4 * g.tet + image g.perm v = omega (arith, s.lands) in
          let bit : j % 2 ≡ sign_by_gluing g (x % 2) = (vertex_parts g.tet (image g.perm v) (sign_by_gluing g (x % 2)) j iv small s.lands).2 in
          let here : x / 2 ≡ 4 * (x / 8) + v = omega arith in
          let half : x / 2 < 4 * length rows = omega arith in
          let quarter : x / 2 / 4 ≡ x / 8 = omega arith in
          let glued : glue rows (record { tet = x / 2 / 4; face = f }) ≡ Some g = ap (λ t. glue rows (record { tet = t; face = f })) quarter ∙ s.glued in
          let step : crossed_vertex rows (x / 2) f ≡ Some (j / 2) = crossed_vertex-glued rows (x / 2) f g s.off glued ∙ ap Some (sym there) in
          let class : slice_index classes (j / 2) ≡ c = same_class (x / 2) f (j / 2) half step ∙ own in
          let lj : j < 8 * length rows = (vertex_signs_reversible rows table x f j l lf h).0 in
          let agree : sign_of signs (4 * g.tet + image g.perm v) ≡ (if is_odd g.perm then sign_of signs (4 * (x / 8) + v) else not (sign_of signs (4 * (x / 8) + v))) =
          a (x / 8) v f g lv lf (eqb-false v f s.off) (ap (slice_index classes) (sym here) ∙ own) s.glued in
          let agreed : sign_of signs (j / 2) ≡ (if is_odd g.perm then sign_of signs (x / 2) else not (sign_of signs (x / 2))) =
          ap (sign_of signs) there ∙ agree ∙ ap (λ n. if is_odd g.perm then sign_of signs n else not (sign_of signs n)) (sym here) in
          let own_bit : x % 2 < 2 = omega arith in
          later j lj class e ∙ ap (λ n. says n (sign_of signs (j / 2))) bit ∙ says_behind (is_odd g.perm) (x % 2) (sign_of signs (x / 2)) (sign_of signs (j / 2)) own_bit agreed

  -- in an orientable link a member with one sign and the member with the other sign are of different classes
  pub is_consistent : IsOrientableLink rows classes c → (i : ℕ) → i < 4 * length rows → slice_index classes i ≡ c → slice_index signed (2 * i) ≢ slice_index signed (2 * i + 1)
  is_consistent o i l own e =
      let l0 : 2 * i < 8 * length rows = omega arith in
      let l1 : 2 * i + 1 < 8 * length rows = omega arith in
      let j : IsLed (crossed_vertex_sign rows) (2 * i) (2 * i + 1) = (num.together (2 * i) (2 * i + 1) l0 l1).0 e in
      let d0 : 2 * i / 2 ≡ i = omega arith in
      let d1 : (2 * i + 1) / 2 ≡ i = omega arith in
      let r0 : 2 * i % 2 ≡ 0 = omega arith in
      let r1 : (2 * i + 1) % 2 ≡ 1 = omega arith in
      let k = keeps_saying o.0 o.2 j.0 (2 * i) (2 * i + 1) l0 (ap (slice_index classes) d0 ∙ own) j.1 in
      not_itself (sign_of o.0 i) (sym (sym (λ t. says (r1 t) (sign_of o.0 (d1 t))) ∙ k ∙ (λ t. says (r0 t) (sign_of o.0 (d0 t)))))

  -- the signs of vertices by their classes
  signs_of : List Bool
  signs_of = map (λ i. nat_lt (slice_index signed (2 * i)) (slice_index signed (2 * i + 1))) (below (4 * length rows))

  sign_is : (i : ℕ) → i < 4 * length rows → sign_of signs_of i ≡ nat_lt (slice_index signed (2 * i)) (slice_index signed (2 * i + 1))
  unfolding signs_of
  sign_is i l = get_or-map-range_with_len (λ j. nat_lt (slice_index signed (2 * j)) (slice_index signed (2 * j + 1))) 0 (4 * length rows) i i false l (omega arith)

  -- a step keeps the class of signed vertices
  step_keeps : (t v f s : ℕ) (g : Gluing) → t < length rows → v < 4 → f < 4 → (v ≡ f → ⊥) → s < 2 → glue rows (record { tet = t; face = f }) ≡ Some g
      → slice_index signed (2 * (4 * t + v) + s) ≡ slice_index signed (2 * (4 * g.tet + image g.perm v) + sign_by_gluing g s)
  step_keeps t v f s g lt lv lf ne ls h =
      let x : ℕ = 2 * (4 * t + v) + s in
      let inside : 2 * (4 * t + v) + s < 8 * length rows = omega arith in
      let p = vertex_parts t v s (2 * (4 * t + v) + s) lv ls refl in
      let glued : glue rows (record { tet = (2 * (4 * t + v) + s) / 8; face = f }) ≡ Some g = ap (λ u. glue rows (record { tet = u; face = f })) p.0 ∙ h in
      let off : ((2 * (4 * t + v) + s) / 2 % 4 == f) ≡ false = ap (λ u. u == f) p.1 ∙ ne_eqb v f ne in
      let step = crossed_vertex_sign-is rows (2 * (4 * t + v) + s) f g off glued in
      let there : crossed_vertex_sign rows (2 * (4 * t + v) + s) f ≡ Some (2 * (4 * g.tet + image g.perm v) + sign_by_gluing g s) =
      step ∙ (λ i. Some (2 * (4 * g.tet + image g.perm (p.1 i)) + sign_by_gluing g (p.2 i))) in
      let lm = (vertex_signs_reversible rows table (2 * (4 * t + v) + s) f (2 * (4 * g.tet + image g.perm v) + sign_by_gluing g s) inside lf there).0 in
      (num.together (2 * (4 * t + v) + s) (2 * (4 * g.tet + image g.perm v) + sign_by_gluing g s) inside lm).1 (f ∷ [], ap (λ (o : Option ℕ). option_and_then (λ j. Some j) o) there)

  zero_is : (n : ℕ) → n + 0 ≡ n
  zero_is n = omega arith

  pub orientable_by : ((i : ℕ) → i < 4 * length rows → slice_index classes i ≡ c → slice_index signed (2 * i) ≢ slice_index signed (2 * i + 1)) → IsOrientableLink rows classes c
  unfolding signs_of
  orientable_by separate = (signs_of, length-map-range_with_len (λ i. nat_lt (slice_index signed (2 * i)) (slice_index signed (2 * i + 1))) 0 (4 * length rows) ∙ sym vertices.one_each, agree)
    where
      agree : AreLinkSigns rows classes c signs_of
      agree t v f g lv lf ne own h = by_parity (is_odd g.perm) refl
        where
          lt : t < length rows
          lt = glued_tet rows (record { tet = t; face = f }) g h

          li : 4 * t + v < 4 * length rows
          li = omega (arith, lt, lv)

          iv : image g.perm v < 4
          iv = image_below g.perm v (table.permutes _ g h) lv

          lu : g.tet < length rows
          lu = table.in_range _ g h

          lj : 4 * g.tet + image g.perm v < 4 * length rows
          lj = omega (arith, iv, lu)

          by_parity : (odd : Bool) → is_odd g.perm ≡ odd → sign_of signs_of (4 * g.tet + image g.perm v) ≡ (if is_odd g.perm then sign_of signs_of (4 * t + v) else not (sign_of signs_of (4 * t + v)))
          by_parity true e =
              let s0 = step_keeps t v f 0 g lt lv lf ne (omega arith) h in
              let s1 = step_keeps t v f 1 g lt lv lf ne (omega arith) h in
              let c0 : slice_index signed (2 * (4 * t + v)) ≡ slice_index signed (2 * (4 * g.tet + image g.perm v)) =
              ap (slice_index signed) (sym (zero_is (2 * (4 * t + v)))) ∙ s0 ∙ ap (λ b. slice_index signed (2 * (4 * g.tet + image g.perm v) + (if b then 0 else 1 - 0))) e
              ∙ ap (slice_index signed) (zero_is (2 * (4 * g.tet + image g.perm v))) in
              let c1 : slice_index signed (2 * (4 * t + v) + 1) ≡ slice_index signed (2 * (4 * g.tet + image g.perm v) + 1) =
              s1 ∙ ap (λ b. slice_index signed (2 * (4 * g.tet + image g.perm v) + (if b then 1 else 1 - 1))) e in
              sign_is (4 * g.tet + image g.perm v) lj ∙ sym (λ i. nat_lt (c0 i) (c1 i)) ∙ sym (sign_is (4 * t + v) li)
              ∙ sym (ap (λ b. if b then sign_of signs_of (4 * t + v) else not (sign_of signs_of (4 * t + v))) e)
          by_parity false e =
              let s0 = step_keeps t v f 0 g lt lv lf ne (omega arith) h in
              let s1 = step_keeps t v f 1 g lt lv lf ne (omega arith) h in
              let c0 : slice_index signed (2 * (4 * t + v)) ≡ slice_index signed (2 * (4 * g.tet + image g.perm v) + 1) =
              ap (slice_index signed) (sym (zero_is (2 * (4 * t + v)))) ∙ s0 ∙ ap (λ b. slice_index signed (2 * (4 * g.tet + image g.perm v) + (if b then 0 else 1 - 0))) e in
              let c1 : slice_index signed (2 * (4 * t + v) + 1) ≡ slice_index signed (2 * (4 * g.tet + image g.perm v)) =
              s1 ∙ ap (λ b. slice_index signed (2 * (4 * g.tet + image g.perm v) + (if b then 1 else 1 - 1))) e ∙ ap (slice_index signed) (zero_is (2 * (4 * g.tet + image g.perm v))) in
              sign_is (4 * g.tet + image g.perm v) lj ∙ sym (λ i. nat_lt (c1 i) (c0 i))
              ∙ compared_back (slice_index signed (2 * (4 * t + v))) (slice_index signed (2 * (4 * t + v) + 1)) (separate (4 * t + v) li own)
              ∙ ap not (sym (sign_is (4 * t + v) li)) ∙ sym (ap (λ b. if b then sign_of signs_of (4 * t + v) else not (sign_of signs_of (4 * t + v))) e)

  -- by a tally of the members that are joined to themselves with the other sign
  pub tally_turned : (passes : List Bool) (owners tallies : List ℕ) → AreTallies passes owners count tallies → length owners ≡ 4 * length rows
      → ((j : ℕ) → j < 4 * length rows → slice_index_or passes j false ≡ (slice_index signed (2 * j) == slice_index signed (2 * j + 1)))
      → ((j : ℕ) → j < 4 * length rows → slice_index owners j ≡ slice_index classes j) → c < count → IsTrue (slice_index tallies c == 0) ↔ IsOrientableLink rows classes c
  tally_turned passes owners tallies t size passed owned l = (
    λ h. let none : count_by (is_counted passes owners c) (below (length owners)) ≡ 0 = sym (t.reported c l) ∙ eqb-true (slice_index tallies c) 0 h in
        orientable_by (λ i li own e. let inside : i < length owners = omega arith in
        let no : is_counted passes owners c i ≡ false = zero_none (is_counted passes owners c) (length owners) none i inside in
        let pass : slice_index_or passes i false ≡ true = passed i li ∙ eq-eqb (slice_index signed (2 * i)) (slice_index signed (2 * i + 1)) e in
        let mine : (slice_index owners i == c) ≡ true = eq-eqb (slice_index owners i) c (owned i li ∙ own) in
        let yes : is_counted passes owners c i ≡ true = λ k. pass k && mine k in
        let z : false ≡ true = sym no ∙ yes in cc),
    λ o. eq-eqb (slice_index tallies c) 0 (t.reported c l ∙ none_zero (is_counted passes owners c) (length owners) (λ i li. let inside : i < 4 * length rows = omega arith in not_both o i inside (is_counted passes owners c i) refl)),
  )
    where
      not_both : IsOrientableLink rows classes c → (i : ℕ) → i < 4 * length rows → (b : Bool) → (slice_index_or passes i false && (slice_index owners i == c)) ≡ b → is_counted passes owners c i ≡ false
      not_both o i li false e = e
      not_both o i li true e =
          let p = and_parts (slice_index_or passes i false) (slice_index owners i == c) e in
          let own : slice_index classes i ≡ c = sym (owned i li) ∙ eqb-true (slice_index owners i) c p.1 in
          let same : slice_index signed (2 * i) ≡ slice_index signed (2 * i + 1) = eqb-true (slice_index signed (2 * i)) (slice_index signed (2 * i + 1)) (sym (passed i li) ∙ p.0) in
          absurd (is_consistent o i li own same)
