-- The standard sphere is closed and orientable, and so is each table with a certificate.
use mathlib.Core.Bool.{beq}
use Rattle.std.proofs.Common.{◌≡◌, ◌<◌, Bool, true, [], ◌∷◌, length, Option, Some, None, refl, sym, ap, ◌∙◌, arith}
use Rattle.std.specs.Prelude.{option_map}
use Rattle.table_definitions.specs.Permutation.{is_odd, inversions}
use Rattle.table_definitions.specs.Table.{Gluing, Face, glue}
use Rattle.table_definitions.specs.Relabelling.{relabelled_place, face_under, gluing_under}
use Rattle.table_definitions.proofs.TableLaws.{glued_tet, glued_face}
use Rattle.table_definitions.proofs.Tests.{each_face, fours_from}
use Rattle.table_definitions.proofs.Permutations.{bool_equal, image_below}
use Rattle.table_definitions.proofs.Carried.{perm_permutes, image_in_range}
use Rattle.skeleton_definitions.specs.Orientation.{sign_of, sign_across, AreSigns}
use Rattle.move_definitions.specs.Certificates.{standard_sphere}
use Rattle.move_laws.proofs.Played.{all_led_table}
use Rattle.move_laws.specs.Certified.{StandardSphere, RelabelledFromClosed, CertifiedAreClosed, CertifiedAreOrientable}
use Rattle.move_laws.proofs.Closed.{IsGlued, all_glued, is_closed-from, plays_keep_boundary_lem}
use Rattle.move_laws.proofs.OrientedBack.{relabelled_from_orientable, plays_come_from_orientable}

agrees : Option Gluing → Bool → Bool
agrees None s = true
agrees (Some g) s = beq (sign_of (true ∷ []) g.tet) (sign_across g s)

standard_signs : AreSigns standard_sphere (true ∷ [])
standard_signs = record {
  one_each = refl;
  agree = λ x g e. bool_equal _ _ (unfold agrees in ap (λ (o : Option Gluing). agrees o (sign_of (true ∷ []) x.tet)) (sym e) ∙ at x (glued_tet standard_sphere x g e) (glued_face standard_sphere x g (fours_from standard_sphere refl) e));
}
  where
    at : (x : Face) → x.tet < 1 → x.face < 4 → agrees (glue standard_sphere x) (sign_of (true ∷ []) x.tet) ≡ true
    at x lt lf = each_face (λ y. agrees (glue standard_sphere y) (sign_of (true ∷ []) y.tet)) 1 (unfold agrees is_odd inversions in refl) x lt lf

pub standard_is : StandardSphere
standard_is = (refl, (true ∷ [], standard_signs))

some_from : (f : Gluing → Gluing) (o : Option Gluing) (g : Gluing) → option_map f o ≡ Some g → (k : Gluing) × (o ≡ Some k)
some_from f None g e = absurd cc
some_from f (Some k) g e = (k, refl)

pub relabelled_from_closed : RelabelledFromClosed
relabelled_from_closed old new table (by, is, c) e = is_closed-from old at
  where
    at : (x : Face) → x.tet < length old → x.face < 4 → IsGlued old x
    at x lt lf =
        let there = all_glued new e (face_under (relabelled_place by x.tet) x) (let n = c.same_length in let l = image_in_range (length old) by is x.tet lt in omega arith)
        (image_below (relabelled_place by x.tet).perm (perm_permutes (length old) by is x.tet lt) x.face lf) in
        some_from (λ (g : Gluing). gluing_under (relabelled_place by x.tet) (relabelled_place by g.tet) g) (glue old x) there.0 (sym (c.glued x lt lf) ∙ there.1)

pub certified_are_closed : CertifiedAreClosed
certified_are_closed rows moves table (last, p, standard) =
    plays_keep_boundary_lem rows moves last p (relabelled_from_closed last standard_sphere (all_led_table rows moves last table p) standard standard_is.0)

pub certified_are_orientable : CertifiedAreOrientable
certified_are_orientable rows moves table (last, p, standard) =
    plays_come_from_orientable rows moves last p (relabelled_from_orientable last standard_sphere (all_led_table rows moves last table p) standard standard_is.1)
