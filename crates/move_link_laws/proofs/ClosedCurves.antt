-- A link is closed if and only if it has no boundary curve.
use Rattle.std.proofs.Common.{◌≡◌, ℕ, ◌*◌, ◌<◌, true, List, [], ◌∷◌, length, inl, refl, sym, ap, ◌∙◌, arith}
use Rattle.std.specs.Prelude.{◌==◌}
use Rattle.std.proofs.lemmas.Bool.{eqb-true, eq-eqb}
use Rattle.table_definitions.proofs.TableLaws.{Among}
use Rattle.skeleton_definitions.specs.Links.{is_closed_link}
use Rattle.skeleton_definitions.specs.Skeleton.{Skeleton, IsSkeleton}
use Rattle.skeleton_laws.proofs.Matchings.{length-passing}
use Rattle.skeleton_laws.proofs.Sides.{free_side}
use Rattle.skeleton_laws.proofs.TwiceEdges.{closed_told}
use Rattle.move_link_laws.specs.BoundaryCurves.{HasBoundaryCurves, ClosedWithoutCurves}
use Rattle.move_link_laws.proofs.ArcNumbers.{arc_number, arc_of, arc_numbers, arc_is, is_arc}

none_among : (ns : List ℕ) (n : ℕ) → length ns ≡ 0 → Among n ns → ⊥
none_among [] n e a = absurd a
none_among (x ∷ ns) n e a = absurd (omega arith)

none_long : (ns : List ℕ) → ((n : ℕ) → Among n ns → ⊥) → length ns ≡ 0
none_long [] none = refl
none_long (x ∷ ns) none = absurd (none x (inl refl))

module _ (s : Skeleton) (k : IsSkeleton s) (c : ℕ) where
  closed_is : is_closed_link s.rows s.vertices.classes c ≡ (length (arc_numbers s k c) == 0)
  closed_is = closed_told s.rows k.table s.vertices.classes s.vertices.count k.vertices c ∙ ap (λ n. n == 0) (sym (length-passing (free_side s.rows s.vertices.classes c) (4 * (4 * length s.rows))))

  no_curves : is_closed_link s.rows s.vertices.classes c ≡ true → HasBoundaryCurves s c 0
  no_curves t =
      let long : length (arc_numbers s k c) ≡ 0 = eqb-true (length (arc_numbers s k c)) 0 (sym closed_is ∙ t) in
      record {
        arc = arc_of;
        are_arcs = λ i l. absurd (omega arith);
        different = λ i j less l on. omega arith;
        all = λ a is. absurd (none_among (arc_numbers s k c) (arc_number a) long (is_arc s k c a is));
      }

  closed_by : HasBoundaryCurves s c 0 → is_closed_link s.rows s.vertices.classes c ≡ true
  closed_by h = closed_is ∙ eq-eqb (length (arc_numbers s k c)) 0 (none_long (arc_numbers s k c) (λ n a. (let z = h.all (arc_of n) (arc_is s k c n a) in let l : z.0 < 0 = z.1 in omega arith)))

pub closed_without_curves : ClosedWithoutCurves
closed_without_curves s c link k a = ((λ t. no_curves s k c (sym a.is_link.closed ∙ t)), (λ h. a.is_link.closed ∙ closed_by s k c h))
