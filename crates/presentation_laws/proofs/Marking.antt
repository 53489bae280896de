-- The face classes that contain tree faces, and the generators, class by class.
use Rattle.std.proofs.Common.{◌≡◌, ℕ, ◌+◌, ◌<◌, inl, inr, Bool, true, false, List, [], ◌∷◌, ◌++◌, length, set, Option, Some, None, Contains, slice_index, subst, sym, ap, refl, ◌∙◌, arith}
use Rattle.std.specs.Prelude.{◌↔◌}
use Rattle.std.specs.List.{slice_index_or}
use Rattle.std.proofs.lemmas.Bool.{cases_lt, cases_eq}
use Rattle.std.proofs.lemmas.List.{get_or-set_same, get_or-set_other, get_or_default, length-set}
use Rattle.std.proofs.lemmas.List.Elements.{Contains-get_or, Contains-append_left, Contains-push, Contains-push_cases}
use Rattle.std.proofs.lemmas.List.Quantifiers.{all_pairs_push}
use Rattle.table_definitions.specs.Table.{Row, Face, IsTable, face_number}
use Rattle.table_definitions.proofs.TableLaws.{glued_tet, glued_face}
use Rattle.skeleton_definitions.specs.Skeleton.{Skeleton}
use Rattle.presentation_definitions.specs.Trees.{IsTreeFace}
use Rattle.presentation_definitions.specs.Groups.{IsTree, IsTreeFaceAt}
use Rattle.presentation_definitions.specs.Presentations.{AreGenerators}
use Rattle.presentation_laws.proofs.TreeLaws.{one_tree_face, none_for_zero}
use Rattle.presentation_laws.specs.Classes.{HoldsTreeFaceBelow, AreTreeClassesBelow, IsGenerator, AreGeneratorsBelow}

module _ (s : Skeleton) where
  -- ---- marks of classes

  later : (n c : ℕ) → HoldsTreeFaceBelow s n c → HoldsTreeFaceBelow s (n + 1) c
  later n c w = record { tet = w.tet; below = let l : w.tet < n = w.below in omega arith; face = w.face; tree_face = w.tree_face; class = w.class }

  -- a tetrahedron without a tree face
  pub class_passes : (n : ℕ) (marks : List Bool) → n ≡ 0 → AreTreeClassesBelow s n marks → AreTreeClassesBelow s (n + 1) marks
  class_passes n marks z a = record {
    one_each = a.one_each;
    reported = λ c. (λ m. later n c ((a.reported c).0 m), λ w. absurd (let l : w.tet < n + 1 = w.below in let t : w.tet ≡ 0 = omega arith in none_for_zero s.rows w.face (subst (λ t. IsTreeFace s.rows t w.face) t w.tree_face)));
  }

  -- a tetrahedron with its tree face
  pub class_marked : (n : ℕ) (marks new : List Bool) (x : Face) (k : ℕ) → IsTreeFace s.rows n x → k ≡ slice_index s.faces.classes (face_number x) → k < s.faces.count → new ≡ set marks k true
      → AreTreeClassesBelow s n marks → AreTreeClassesBelow s (n + 1) new
  class_marked n marks new x k h e l f a = record {
    one_each = ap length f ∙ length-set marks k true ∙ a.one_each;
    reported = λ c. elim (cases_eq c k) [
      | inl same ↦ (λ m. subst (HoldsTreeFaceBelow s (n + 1)) (sym same) here, λ w. ap (λ i. slice_index_or new i false) same ∙ at_k)
      | inr other ↦ (
        λ m. later n c ((a.reported c).0 (sym (at_other c other) ∙ m)),
        λ w. at_other c other ∙ (a.reported c).1 (earlier c other w),
      )
    ];
  }
    where
      here : HoldsTreeFaceBelow s (n + 1) k
      here = record { tet = n; below = omega arith; face = x; tree_face = h; class = sym e }

      at_k : slice_index_or new k false ≡ true
      at_k = ap (λ (ms : List Bool). slice_index_or ms k false) f ∙ get_or-set_same marks k true false (omega (arith, a.one_each))

      at_other : (c : ℕ) → (c ≡ k → ⊥) → slice_index_or new c false ≡ slice_index_or marks c false
      at_other c other = ap (λ (ms : List Bool). slice_index_or ms c false) f ∙ get_or-set_other marks k c true false other

      earlier : (c : ℕ) → (c ≡ k → ⊥) → HoldsTreeFaceBelow s (n + 1) c → HoldsTreeFaceBelow s n c
      earlier c other w = elim (cases_lt w.tet n) [
        | inl less ↦ record { tet = w.tet; below = less; face = w.face; tree_face = w.tree_face; class = w.class }
        | inr more ↦
            let m : w.tet < n + 1 = w.below in
            let same : w.tet ≡ n = omega arith in
            let faces : w.face ≡ x = one_tree_face s.rows n w.face x (subst (λ t. IsTreeFace s.rows t w.face) same w.tree_face) h in
            absurd (other (sym w.class ∙ ap (λ (y : Face). slice_index s.faces.classes (face_number y)) faces ∙ sym e))
      ]

  -- ---- generators

  pub no_generators : AreGeneratorsBelow s 0 []
  no_generators = record {
    ascending = λ i j d less l. absurd (omega arith);
    members = λ c. (λ w. absurd (let l : w.0 < 0 = w.1 in omega arith), λ w. absurd (let l : c < 0 = w.0 in omega arith));
  }

  pub generator_passes : (n : ℕ) (generators : List ℕ) → (IsGenerator s n → ⊥) → AreGeneratorsBelow s n generators → AreGeneratorsBelow s (n + 1) generators
  generator_passes n generators never a = record {
    ascending = a.ascending;
    members = λ c. (
      λ w. let m = (a.members c).0 w in (let l : c < n = m.0 in omega arith, m.1),
      λ w. elim (cases_eq c n) [
        | inl same ↦ absurd (never (subst (IsGenerator s) same w.1))
        | inr other ↦ (a.members c).1 (let l : c < n + 1 = w.0 in omega arith, w.1)
      ],
    );
  }

  pub generator_grows : (n : ℕ) (generators : List ℕ) → IsGenerator s n → AreGeneratorsBelow s n generators → AreGeneratorsBelow s (n + 1) (generators ++ n ∷ [])
  generator_grows n generators g a = record {
    ascending = all_pairs_push (λ c d. c < d) generators n a.ascending (λ k d l. ((a.members (slice_index_or generators k d)).0 (Contains-get_or generators k d l)).0);
    members = λ c. (
      λ w. elim (Contains-push_cases generators n c w) [
        | inl m ↦ let f = (a.members c).0 m in (let l : c < n = f.0 in omega arith, f.1)
        | inr same ↦ (omega arith, subst (IsGenerator s) same g)
      ],
      λ w. elim (cases_eq c n) [
        | inl same ↦ subst (Contains (generators ++ n ∷ [])) (sym same) (Contains-push generators n)
        | inr other ↦ Contains-append_left generators (n ∷ []) c ((a.members c).1 (let l : c < n + 1 = w.0 in omega arith, w.1))
      ],
    );
  }

  pub all_generators : (n : ℕ) (generators : List ℕ) → n ≡ s.faces.count → AreGeneratorsBelow s n generators → AreGenerators s generators
  all_generators n generators e a = record {
    ascending = a.ascending;
    members = λ c. (
      λ w. let m = (a.members c).0 w in (subst (λ k. c < k) e m.0, m.1.0, m.1.1),
      λ w. (a.members c).1 (subst (λ k. c < k) (sym e) w.0, (w.1, w.2)),
    );
  }

-- ---- what the tree says of a tetrahedron

pub tree_face_is : (rows : List Row) (tree : List (Option Face)) (t : ℕ) (d : Option Face) (x : Face) → IsTree rows tree → t < length tree → slice_index_or tree t d ≡ Some x → IsTreeFace rows t x
tree_face_is rows tree t d x h l e = subst (IsTreeFaceAt rows t) (get_or_default tree t None d l ∙ e) (h.reported t (subst (λ n. t < n) h.one_each l))

pub tree_root_is : (rows : List Row) (tree : List (Option Face)) (t : ℕ) (d : Option Face) → IsTree rows tree → t < length tree → slice_index_or tree t d ≡ None → t ≡ 0
tree_root_is rows tree t d h l e = subst (IsTreeFaceAt rows t) (get_or_default tree t None d l ∙ e) (h.reported t (subst (λ n. t < n) h.one_each l))

pub tree_face_inside : (rows : List Row) (t : ℕ) (x : Face) → IsTable rows → IsTreeFace rows t x → (x.tet < length rows) × (x.face < 4)
tree_face_inside rows t x table h = (glued_tet rows x h.leads.gluing h.leads.glued, glued_face rows x h.leads.gluing table.four_faces h.leads.glued)

-- the tree has no face at tetrahedron 0, and only there
pub only_root : (rows : List Row) (tree : List (Option Face)) (t : ℕ) → IsTree rows tree → t < length tree → (slice_index_or tree t None ≡ None) ↔ (t ≡ 0)
only_root rows tree t h l = (tree_root_is rows tree t None h l, λ z. cases (slice_index_or tree t None) refl z)
  where
    cases : (o : Option Face) → slice_index_or tree t None ≡ o → t ≡ 0 → slice_index_or tree t None ≡ None
    cases None e z = e
    cases (Some x) e z = absurd (none_for_zero rows x (subst (λ u. IsTreeFace rows u x) z (tree_face_is rows tree t None x h l e)))
