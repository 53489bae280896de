-- Twice the edges of a link are its sides and those of them that lie in boundary faces.
use Rattle.std.proofs.Common.{◌≡◌, ℕ, ◌+◌, ◌*◌, ◌/◌, ◌%◌, true, List, length, Some, None, ◌⊎◌, inl, inr, sym, ap, ◌∙◌, arith}
use Rattle.std.specs.Prelude.{◌==◌, count_by}
use Rattle.table_definitions.specs.Lists.{below, times_in}
use Rattle.table_definitions.specs.Permutation.{image}
use Rattle.table_definitions.specs.Table.{Gluing, Row, glue, other_side, inverse_gluing, is_face_before, IsTable}
use Rattle.table_definitions.specs.Classes.{IsNumbering}
use Rattle.table_definitions.specs.Places.{SameVertex, is_boundary}
use Rattle.table_definitions.proofs.Faces.{not_both_before}
use Rattle.table_definitions.proofs.TableLaws.{Among}
use Rattle.skeleton_definitions.specs.Links.{link_edges, sides, is_closed_link}
use Rattle.surface_laws.proofs.Glued.{glued_is}
use Rattle.skeleton_laws.proofs.Matchings.{related_same, passing, length-passing, passing_apart, both, length-both, is_first_kind, is_second_kind, both_apart}
use Rattle.skeleton_laws.proofs.SideParts.{side_number}
use Rattle.skeleton_laws.proofs.Sides.{side_face, is_side, first_side, free_side, edges_are, frees_are, three_sides}
use Rattle.skeleton_laws.proofs.Halves.{crosses, IsFirst, first_is, before, forth, back}
use Rattle.skeleton_laws.proofs.Sums.{none_pass}

module _ (rows : List Row) (table : IsTable rows) (classes : List ℕ) (count : ℕ) (numbered : IsNumbering (4 * length rows) (SameVertex rows) classes count) (c : ℕ) where
  abbrev other : ℕ → Gluing → ℕ
  other k g = side_number g.tet (image g.perm (k / 4 % 4)) (image g.perm (k % 4))

  abbrev firsts : List ℕ
  firsts = passing (first_side rows classes c) (4 * (4 * length rows))

  abbrev all_sides : List ℕ
  all_sides = passing (is_side classes c) (4 * (4 * length rows))

  abbrev frees : List ℕ
  frees = passing (free_side rows classes c) (4 * (4 * length rows))

  abbrev Halves : ℕ ⊎ ℕ → ℕ ⊎ ℕ → Type 0
  Halves (inl k) (inl l) = k ≡ l
  Halves (inl k) (inr l) = ⊥
  Halves (inr k) (inl l) = (g : Gluing) × (glue rows (side_face k) ≡ Some g) × (other k g ≡ l)
  Halves (inr k) (inr l) = (glue rows (side_face k) ≡ None) × (k ≡ l)

  same_glue : (k : ℕ) (g h : Gluing) → glue rows (side_face k) ≡ Some g → glue rows (side_face k) ≡ Some h → g ≡ h
  same_glue k g h a b = cc

  no_glue : (k : ℕ) (g : Gluing) → glue rows (side_face k) ≡ Some g → glue rows (side_face k) ≡ None → ⊥
  no_glue k g a b = let z : Some g ≡ None = sym a ∙ b in cc

  -- a first side is not the other side of a first side
  not_other : (k l : ℕ) → IsFirst rows table classes count numbered c k → IsFirst rows table classes count numbered c l → (g : Gluing) → glue rows (side_face l) ≡ Some g → other l g ≡ k → ⊥
  not_other k l f f' g e q =
      let x = crosses rows table classes count numbered c l g f'.below f'.side e in
      let i = glued_is rows (side_face l) g table e in
      let at : side_face k ≡ other_side (side_face l) g = ap side_face (sym q) ∙ x.face in
      let glued : glue rows (side_face k) ≡ Some (inverse_gluing (side_face l) g) = ap (λ m. glue rows (side_face m)) (sym q) ∙ x.back in
      let first : is_face_before (side_face k) (other_side (side_face k) (inverse_gluing (side_face l) g)) ≡ true = before rows table classes count numbered c k (inverse_gluing (side_face l) g) f glued in
      let there : other_side (side_face k) (inverse_gluing (side_face l) g) ≡ side_face l = ap (λ y. other_side y (inverse_gluing (side_face l) g)) at ∙ i.returns in
      not_both_before (side_face l) (side_face k) (ap (is_face_before (side_face l)) at ∙ before rows table classes count numbered c l g f' e) (sym (ap (is_face_before (side_face k)) there) ∙ first)

  once : (x x' y : ℕ ⊎ ℕ) → Among x (both firsts firsts) → Among x' (both firsts firsts) → Halves x y → Halves x' y → x ≡ x'
  once (inl k) (inl l) (inl m) a b r s = ap (λ n. inl n) (r ∙ sym s)
  once (inl k) (inl l) (inr m) a b r s = absurd r
  once (inl k) (inr l) (inl m) a b r s = absurd (not_other k l (first_is rows table classes count numbered c k (is_first_kind firsts firsts k a)) (first_is rows table classes count numbered c l (is_second_kind firsts firsts l b)) s.0 s.1 (s.2 ∙ sym r))
  once (inl k) (inr l) (inr m) a b r s = absurd r
  once (inr k) (inl l) (inl m) a b r s = absurd (not_other l k (first_is rows table classes count numbered c l (is_first_kind firsts firsts l b)) (first_is rows table classes count numbered c k (is_second_kind firsts firsts k a)) r.0 r.1 (r.2 ∙ sym s))
  once (inr k) (inl l) (inr m) a b r s = absurd s
  once (inr k) (inr l) (inl m) a b r s =
      let f = first_is rows table classes count numbered c k (is_second_kind firsts firsts k a) in
      let f' = first_is rows table classes count numbered c l (is_second_kind firsts firsts l b) in
      let x = crosses rows table classes count numbered c k r.0 f.below f.side r.1 in
      let y = crosses rows table classes count numbered c l s.0 f'.below f'.side s.1 in
      let same : other k r.0 ≡ other l s.0 = r.2 ∙ sym s.2 in
      let ways : inverse_gluing (side_face k) r.0 ≡ inverse_gluing (side_face l) s.0 = same_glue (other k r.0) (inverse_gluing (side_face k) r.0) (inverse_gluing (side_face l) s.0) x.back (ap (λ n. glue rows (side_face n)) same ∙ y.back) in
      ap (λ n. inr n) (sym x.again ∙ (λ i. other (same i) (ways i)) ∙ y.again)
  once (inr k) (inr l) (inr m) a b r s = ap (λ n. inr n) (r.1 ∙ sym s.1)

  once' : (x y y' : ℕ ⊎ ℕ) → Halves x y → Halves x y' → y ≡ y'
  once' (inl k) (inl l) (inl m) r s = ap (λ n. inl n) (sym r ∙ s)
  once' (inl k) (inl l) (inr m) r s = absurd s
  once' (inl k) (inr l) y r s = absurd r
  once' (inr k) (inl l) (inl m) r s = ap (λ n. inl n) (sym r.2 ∙ ap (other k) (same_glue k r.0 s.0 r.1 s.1) ∙ s.2)
  once' (inr k) (inl l) (inr m) r s = absurd (no_glue k r.0 r.1 s.0)
  once' (inr k) (inr l) (inl m) r s = absurd (no_glue k s.0 s.1 r.0)
  once' (inr k) (inr l) (inr m) r s = ap (λ n. inr n) (sym r.1 ∙ s.1)

  -- how many sides lie in boundary faces
  abbrev pub free_count : ℕ
  free_count = count_by (free_side rows classes c) (below (4 * (4 * length rows)))

  pub closed_told : is_closed_link rows classes c ≡ (free_count == 0)
  closed_told = none_pass (is_boundary rows) (sides classes c) ∙ ap (λ n. n == 0) (frees_are classes c rows ∙ ap (λ n. count_by (free_side rows classes c) (below (4 * n))) numbered.one_each)

  pub twice_edges : 2 * link_edges rows classes c ≡ 3 * times_in classes c + free_count
  twice_edges =
      let pairs : length (both firsts firsts) ≡ length (both all_sides frees) = related_same Halves (both firsts firsts) (both all_sides frees)
      (both_apart firsts firsts (passing_apart (first_side rows classes c) (4 * (4 * length rows))) (passing_apart (first_side rows classes c) (4 * (4 * length rows))))
      (both_apart all_sides frees (passing_apart (is_side classes c) (4 * (4 * length rows))) (passing_apart (free_side rows classes c) (4 * (4 * length rows))))
      (forth rows table classes count numbered c) (back rows table classes count numbered c) once (λ x y y' a b. once' x y y') in
      let l : length (both firsts firsts) ≡ length firsts + length firsts = length-both firsts firsts in
      let r : length (both all_sides frees) ≡ length all_sides + length frees = length-both all_sides frees in
      let lf : length firsts ≡ link_edges rows classes c = length-passing (first_side rows classes c) (4 * (4 * length rows)) ∙ ap (λ n. count_by (first_side rows classes c) (below (4 * n))) (sym numbered.one_each) ∙ sym (edges_are classes c rows) in
      let ls : length all_sides ≡ 3 * times_in classes c = length-passing (is_side classes c) (4 * (4 * length rows)) ∙ ap (λ n. count_by (is_side classes c) (below (4 * n))) (sym numbered.one_each) ∙ three_sides classes c in
      let lr : length frees ≡ free_count = length-passing (free_side rows classes c) (4 * (4 * length rows)) in
      omega arith
