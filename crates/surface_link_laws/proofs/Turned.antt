-- Signs of pieces, multiplied by the signs of their tetrahedra, are signs of the other kind: of sides or of
-- orientation.
use Rattle.std.proofs.Common.{◌≡◌, ℕ, Bool, true, false, List, refl, sym, ap, ◌∙◌}
use Rattle.std.specs.Prelude.{not, if◌then◌else◌}
use Rattle.basic_lemmas.proofs.Truths.{same_truth}
use Rattle.table_definitions.specs.Permutation.{is_odd}
use Rattle.table_definitions.specs.Table.{Gluing, Row}
use Rattle.skeleton_definitions.specs.Orientation.{sign_of, AreSigns}
use Rattle.surface_definitions.specs.Pieces.{Arc, arc_across, disc_of, disc_number, Meets, keeps_sides, HasSigns}
use Rattle.surface_definitions.specs.declared.Coords.{Coords}
use Rattle.surface_laws.specs.PieceLaws.{IsSurface, face_of_arc, MeetsBack}
use Rattle.surface_laws.proofs.MeetingArcs.{meets_back}
use Rattle.table_definitions.specs.Table.{inverse_gluing}
use Rattle.surface_link_laws.specs.Orientation.{SidesDetermineOrientation, OneAnswerToBoth}
use Rattle.surface_link_laws.proofs.Tetrahedra.{tet_of, arc_tet}

-- the sign, or the other
abbrev if_so : Bool → Bool → Bool
if_so b s = if b then s else not s

-- two changes of sign make one
both_turned : (b odd s t : Bool) → if_so (if_so odd t) (if_so b s) ≡ if_so (if_so odd b) (if_so t s)
both_turned true true true true = refl
both_turned true true true false = refl
both_turned true true false true = refl
both_turned true true false false = refl
both_turned true false true true = refl
both_turned true false true false = refl
both_turned true false false true = refl
both_turned true false false false = refl
both_turned false true true true = refl
both_turned false true true false = refl
both_turned false true false true = refl
both_turned false true false false = refl
both_turned false false true true = refl
both_turned false false true false = refl
both_turned false false false true = refl
both_turned false false false false = refl

twice : (odd b : Bool) → if_so odd (if_so odd b) ≡ b
twice true b = refl
twice false true = refl
twice false false = refl

module _ (rows : List Row) (coords : Coords) (xs components : List ℕ) (component : ℕ) (s : IsSurface rows coords xs) (signs : List Bool) (agree : AreSigns rows signs) where
  -- across an arc the sign of a piece's tetrahedron stays the same or changes as the gluing says
  sign_over : (a : Arc) (g : Gluing) → Meets rows coords xs a g → sign_of signs (tet_of coords xs (disc_number xs (disc_of coords xs (arc_across g a)))) ≡ if_so (is_odd g.perm) (sign_of signs (tet_of coords xs (disc_number xs (disc_of coords xs a))))
  sign_over a g m =
      let back : MeetsBack rows coords xs a g = meets_back rows coords xs s a g m in
      ap (sign_of signs) (arc_tet rows coords xs s (arc_across g a) (inverse_gluing (face_of_arc a) g) back.meets)
      ∙ agree.agree (face_of_arc a) g m.glued
      ∙ ap (λ t. if_so (is_odd g.perm) (sign_of signs t)) (sym (arc_tet rows coords xs s a g m))

  turned_signs : (stays : Arc → Gluing → Bool) → HasSigns rows coords xs components component stays → HasSigns rows coords xs components component (λ a g. if is_odd g.perm then stays a g else not (stays a g))
  turned_signs stays h = (
    λ i. if_so (sign_of signs (tet_of coords xs i)) (h.0 i),
    λ a g m c.
        (λ k. if_so (sign_over a g m k) (h.1 a g m c k))
        ∙ both_turned (stays a g) (is_odd g.perm) (h.0 (disc_number xs (disc_of coords xs a))) (sign_of signs (tet_of coords xs (disc_number xs (disc_of coords xs a)))),
  )

  turned_back : (stays : Arc → Gluing → Bool) → HasSigns rows coords xs components component (λ a g. if is_odd g.perm then stays a g else not (stays a g)) → HasSigns rows coords xs components component stays
  turned_back stays h =
      let again = turned_signs (λ a g. if_so (is_odd g.perm) (stays a g)) h in (
        again.0,
        λ a g m c. again.1 a g m c ∙ ap (λ b. if_so b (again.0 (disc_number xs (disc_of coords xs a)))) (twice (is_odd g.perm) (stays a g)),
      )

pub sides_tell_orientation_lem : SidesDetermineOrientation
sides_tell_orientation_lem rows coords xs components component s orientable = (
  turned_signs rows coords xs components component s orientable.0 orientable.1 (keeps_sides coords xs),
  turned_back rows coords xs components component s orientable.0 orientable.1 (keeps_sides coords xs),
)

pub one_answer_to_both : OneAnswerToBoth
one_answer_to_both rows coords xs classes i c s orientable reported =
    let both = sides_tell_orientation_lem rows coords xs classes i s orientable in
    same_truth c.two_sided c.orientable (λ t. reported.orientable.1 (both.0 (reported.two_sided.0 t))) (λ t. reported.two_sided.1 (both.1 (reported.orientable.0 t)))
