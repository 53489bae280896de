-- The folded tetrahedron and its relabelling.
use Rattle.std.proofs.Common.{◌≡◌, ℕ, zero, suc, ◌<◌, List, [], ◌∷◌, Some, None, length, refl, ap, subst, arith}
use Rattle.std.specs.Prelude.{option_map}
use Rattle.std.specs.List.{slice_index_or}
use Rattle.std.proofs.lemmas.List.Sorted.{IsPermutation-refl}
use Rattle.table_definitions.specs.Permutation.{IsPermutationOfFour}
use Rattle.table_definitions.specs.Table.{Gluing, Row, glue, IsTable, table_fault}
use Rattle.table_definitions.specs.Relabelling.{IsRelabelling, Carries, relabelled_place, face_under, gluing_under}
use Rattle.table_definitions.proofs.Faces.{face_at}
use Rattle.table_definitions.proofs.TableLaws.{IsTable-no_fault}
use Rattle.surface_definitions.proofs.Computed.{computed}
use Rattle.surface_relabelling_laws.specs.Vectors.{place_under, column_under, relabelled_vector}
use Rattle.surface_relabelling_laws.specs.WorkedTable.{folded, renamed, refolded, FoldedVectorsAreRenamed}

-- ---- a table

is_permutation_here : IsPermutationOfFour (0 ∷ 1 ∷ 3 ∷ 2 ∷ [])
unfolding computed
is_permutation_here = refl

abbrev HasPerm : Gluing → Type 0
HasPerm g = 0 ∷ 1 ∷ 3 ∷ 2 ∷ [] ≡ g.perm

glued_so : (t f : ℕ) (g : Gluing) → glue folded (face_at t f) ≡ Some g → HasPerm g
glued_so zero zero g e = absurd cc
glued_so zero (suc zero) g e = absurd cc
glued_so zero (suc (suc zero)) g e = let s : record { tet = 0; perm = 0 ∷ 1 ∷ 3 ∷ 2 ∷ [] } ≡ g = cc in ap (λ (h : Gluing). h.perm) s
glued_so zero (suc (suc (suc zero))) g e = let s : record { tet = 0; perm = 0 ∷ 1 ∷ 3 ∷ 2 ∷ [] } ≡ g = cc in ap (λ (h : Gluing). h.perm) s
glued_so zero (suc (suc (suc (suc f)))) g e = absurd cc
glued_so (suc t) f g e = absurd cc

no_fault : table_fault folded ≡ None
unfolding computed
no_fault = refl

of_four : (rows : Row) (i : ℕ) (d : Row) → length rows ≡ 4 → i < 1 → length (slice_index_or (rows ∷ []) i d) ≡ 4
of_four rows zero d e l = e
of_four rows (suc i) d e l = absurd (omega arith)

pub folded_table : IsTable folded
folded_table = IsTable-no_fault folded
    (λ i d l. of_four (None ∷ None ∷ Some (record { tet = 0; perm = 0 ∷ 1 ∷ 3 ∷ 2 ∷ [] }) ∷ Some (record { tet = 0; perm = 0 ∷ 1 ∷ 3 ∷ 2 ∷ [] }) ∷ []) i d refl l)
    (λ x g e. subst IsPermutationOfFour (glued_so x.tet x.face g e) is_permutation_here) no_fault

-- ---- the relabelling

pub renamed_is : IsRelabelling 1 renamed
unfolding computed
renamed_is = record {
  images = IsPermutation-refl (0 ∷ []);
  perms = refl;
  permutes = λ i d l. permutes i d l;
}
  where
    permutes : (i : ℕ) (d : List ℕ) → i < 1 → IsPermutationOfFour (slice_index_or ((2 ∷ 3 ∷ 1 ∷ 0 ∷ []) ∷ []) i d)
    permutes zero d l = refl
    permutes (suc i) d l = absurd (omega arith)

carried_at : (t f : ℕ) → t < 1 → f < 4
    → glue refolded (face_under (relabelled_place renamed t) (face_at t f)) ≡ option_map (λ g. gluing_under (relabelled_place renamed t) (relabelled_place renamed g.tet) g) (glue folded (face_at t f))
unfolding computed
carried_at zero zero l m = refl
carried_at zero (suc zero) l m = refl
carried_at zero (suc (suc zero)) l m = refl
carried_at zero (suc (suc (suc zero))) l m = refl
carried_at zero (suc (suc (suc (suc f)))) l m = absurd (omega arith)
carried_at (suc t) f l m = absurd (omega arith)

pub renamed_carries : Carries renamed folded refolded
renamed_carries = record {
  same_length = refl;
  four_faces = λ i d l. of_four (Some (record { tet = 0; perm = 1 ∷ 0 ∷ 2 ∷ 3 ∷ [] }) ∷ Some (record { tet = 0; perm = 1 ∷ 0 ∷ 2 ∷ 3 ∷ [] }) ∷ None ∷ None ∷ []) i d refl l;
  glued = λ x lt lf. carried_at x.tet x.face lt lf;
}

pub vectors_renamed : FoldedVectorsAreRenamed
unfolding computed relabelled_vector column_under place_under
vectors_renamed = refl
