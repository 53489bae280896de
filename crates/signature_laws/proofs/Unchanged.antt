-- The identity relabelling carries each table to itself.
use Rattle.std.proofs.Common.{◌≡◌, ℕ, ◌<◌, List, length, Option, Some, None, refl, sym, ap, ◌∙◌}
use Rattle.std.specs.Prelude.{option_map}
use Rattle.table_definitions.specs.Permutation.{IsPermutationOfFour, inverse, identity, compose}
use Rattle.table_definitions.specs.Table.{Gluing, Row, Face, IsTable, glue}
use Rattle.table_definitions.specs.Relabelling.{IsRelabelling, Carries, AreIsomorphic, relabelled_place, face_under, gluing_under}
use Rattle.table_definitions.proofs.Permutations.{identity_permutes, inverse-identity, image-identity, compose-identity, identity-compose}
use Rattle.table_definitions.proofs.Faces.{face_at}
use Rattle.signature_laws.specs.Between.{unchanged}
use Rattle.signature_laws.proofs.Standing.{made_stands, made_relabelling}

-- the tetrahedron t with the identity
abbrev pub itself : ℕ → Gluing
itself t = record { tet = t; perm = identity }

pub unchanged_stands : (n t : ℕ) → t < n → relabelled_place (unchanged n) t ≡ itself t
unchanged_stands n t l = made_stands n itself t l

pub unchanged_relabelling : (n : ℕ) → IsRelabelling n (unchanged n)
unchanged_relabelling n = made_relabelling n itself (record { in_range = λ t l. l; separate = λ t u l m e. e; permutes = λ t l. identity_permutes })

-- the identity carries a gluing to itself
gluing_unchanged : (x : Face) (g : Gluing) → IsPermutationOfFour g.perm → gluing_under (itself x.tet) (itself g.tet) g ≡ g
gluing_unchanged x g h =
    let p : compose identity (compose g.perm (inverse identity)) ≡ g.perm = ap (λ q. compose identity (compose g.perm q)) inverse-identity ∙ ap (compose identity) (compose-identity g.perm h) ∙ identity-compose g.perm h in
    λ i. record { tet = g.tet; perm = p i }

pub carries_unchanged : (rows : List Row) → IsTable rows → Carries (unchanged (length rows)) rows rows
carries_unchanged rows table = record {
  same_length = refl;
  four_faces = table.four_faces;
  glued = λ x lt lf. glued_at x lt lf;
}
  where
    n : ℕ
    n = length rows

    glued_at : (x : Face) → x.tet < n → x.face < 4
        → glue rows (face_under (relabelled_place (unchanged n) x.tet) x) ≡ option_map (λ g. gluing_under (relabelled_place (unchanged n) x.tet) (relabelled_place (unchanged n) g.tet) g) (glue rows x)
    glued_at x lt lf =
        ap (λ (b : Gluing). glue rows (face_under b x)) (unchanged_stands n x.tet lt) ∙ ap (λ f. glue rows (face_at x.tet f)) (image-identity x.face lf) ∙ cases (glue rows x) refl
      where
        cases : (o : Option Gluing) → glue rows x ≡ o → glue rows x ≡ option_map (λ (g : Gluing). gluing_under (relabelled_place (unchanged n) x.tet) (relabelled_place (unchanged n) g.tet) g) (glue rows x)
        cases None e = rw e refl
        cases (Some g) e = rw e (ap (λ (k : Gluing). Some k) (sym (again g e)))
          where
            again : (g : Gluing) → glue rows x ≡ Some g → gluing_under (relabelled_place (unchanged n) x.tet) (relabelled_place (unchanged n) g.tet) g ≡ g
            again g e =
                ap (λ (b : Gluing). gluing_under b (relabelled_place (unchanged n) g.tet) g) (unchanged_stands n x.tet lt)
                ∙ ap (λ (b : Gluing). gluing_under (itself x.tet) b g) (unchanged_stands n g.tet (table.in_range x g e)) ∙ gluing_unchanged x g (table.permutes x g e)

pub relabels_unchanged : (rows : List Row) → IsTable rows → AreIsomorphic rows rows
relabels_unchanged rows table = (unchanged (length rows), unchanged_relabelling (length rows), carries_unchanged rows table)
