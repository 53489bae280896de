-- Tests that decide the relations between tables, so that these can be computed for the tables of the examples.
use Rattle.std.proofs.Common.{◌≡◌, ℕ, ◌<◌, Bool, true, false, eqb, List, [], ◌∷◌, length, Option, Some, None, inl, inr, refl, ap, ◌∙◌, subst}
use Rattle.std.specs.Prelude.{◌&&◌, ◌==◌, All, option_map, slice_index_or}
use Rattle.std.specs.List.{list_all}
use Rattle.std.proofs.lemmas.Bool.{eqb-true, and_parts, false≢true}
use Rattle.std.proofs.lemmas.List.Sums.{AllPass-from_list_all}
use Rattle.table_definitions.specs.Lists.{same_list}
use Rattle.table_definitions.specs.Permutation.{is_permutation}
use Rattle.table_definitions.specs.Table.{Gluing, Row, Face, glue, faces, table_fault, IsTable}
use Rattle.table_definitions.specs.Relabelling.{Relabelling, Carries, relabelled_place, face_under, gluing_under}
use Rattle.table_definitions.proofs.TableLaws.{Among, Among-faces, IsTable-no_fault, glued_tet, glued_face}
use Rattle.table_definitions.proofs.ListFacts.{same_list-true}

-- a test that all items pass is passed by each item
pub list_all-among : {A : Type 0} (t : A → Bool) (x : A) (ys : List A) → list_all t ys ≡ true → Among x ys → t x ≡ true
list_all-among t x [] e h = absurd h
list_all-among t x (y ∷ ys) e (inl s) = ap t s ∙ (and_parts (t y) (list_all t ys) e).0
list_all-among t x (y ∷ ys) e (inr h) = list_all-among t x ys (and_parts (t y) (list_all t ys) e).1 h

-- a test of all faces
pub each_face : (t : Face → Bool) (n : ℕ) → list_all t (faces n) ≡ true → (x : Face) → x.tet < n → x.face < 4 → t x ≡ true
each_face t n e x ht hf = list_all-among t x (faces n) e (Among-faces x n ht hf)

-- whether two faces have the same gluing
abbrev pub same_glue : Option Gluing → Option Gluing → Bool
same_glue None None = true
same_glue None (Some h) = false
same_glue (Some g) None = false
same_glue (Some g) (Some h) = (g.tet == h.tet) && same_list g.perm h.perm

pub same_glue-true : (o p : Option Gluing) → same_glue o p ≡ true → o ≡ p
same_glue-true None None e = refl
same_glue-true None (Some h) e = absurd (false≢true e)
same_glue-true (Some g) None e = absurd (false≢true e)
same_glue-true (Some g) (Some h) e =
    let parts : (eqb g.tet h.tet ≡ true) × (same_list g.perm h.perm ≡ true) = and_parts (eqb g.tet h.tet) (same_list g.perm h.perm) e in
    let tets : g.tet ≡ h.tet = eqb-true g.tet h.tet parts.0 in
    let perms : g.perm ≡ h.perm = same_list-true g.perm h.perm parts.1 in
    λ i. Some (record { tet = tets i; perm = perms i })

-- whether each row has four entries
abbrev pub has_fours : List Row → Bool
has_fours rows = list_all (λ (row : Row). length row == 4) rows

pub fours_from : (rows : List Row) → has_fours rows ≡ true → All (λ (row : Row). length row ≡ 4) rows
fours_from rows e k d h = eqb-true (length (slice_index_or rows k d)) 4 (AllPass-from_list_all (λ (row : Row). length row == 4) rows e k d h)

-- whether the image of a face is glued by the image of its gluing
abbrev pub is_carried : Relabelling → List Row → List Row → Face → Bool
is_carried by old new x =
    same_glue (glue new (face_under (relabelled_place by x.tet) x)) (option_map (λ g. gluing_under (relabelled_place by x.tet) (relabelled_place by g.tet) g) (glue old x))

pub Carries-passed : (by : Relabelling) (old new : List Row) → length new ≡ length old → has_fours new ≡ true → list_all (is_carried by old new) (faces (length old)) ≡ true → Carries by old new
Carries-passed by old new l f e = record {
  same_length = l;
  four_faces = fours_from new f;
  glued = λ x ht hf. same_glue-true (glue new (face_under (relabelled_place by x.tet) x)) (option_map (λ g. gluing_under (relabelled_place by x.tet) (relabelled_place by g.tet) g) (glue old x)) (each_face (is_carried by old new) (length old) e x ht hf);
}

-- rows whose faces are glued by permutations, tested face by face
abbrev pub permutes_at : Option Gluing → Bool
permutes_at None = true
permutes_at (Some g) = is_permutation g.perm

pub table_from : (rows : List Row) → has_fours rows ≡ true → list_all (λ x. permutes_at (glue rows x)) (faces (length rows)) ≡ true → table_fault rows ≡ None → IsTable rows
table_from rows f p n =
    IsTable-no_fault rows (fours_from rows f)
    (λ x g e. subst (λ (o : Option Gluing). permutes_at o ≡ true) e
    (each_face (λ (y : Face). permutes_at (glue rows y)) (length rows) p x (glued_tet rows x g e) (glued_face rows x g (fours_from rows f) e)))
    n
