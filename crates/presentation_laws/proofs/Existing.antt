-- Each connected table has a presentation.
use Rattle.std.proofs.Common.{◌≡◌, ℕ, zero, suc, ◌+◌, ◌<◌, ◌⊎◌, inl, inr, Bool, not, List, [], ◌∷◌, ◌++◌, length, map, All, Option, Some, None, slice_index, slice_index_or, subst, sym, ap, refl, ◌∙◌, arith}
use Rattle.std.specs.Prelude.{filter_map}
use Rattle.std.specs.List.{AllZip}
use Rattle.std.proofs.lemmas.Bool.{cases_lt, cases_eq}
use Rattle.std.proofs.lemmas.List.{map-id}
use Rattle.std.proofs.lemmas.List.Elements.{All-filter}
use Rattle.std.proofs.lemmas.List.FromFn.{get_or-map-range_with_len, length-map-range_with_len}
use Rattle.table_definitions.specs.Lists.{below}
use Rattle.table_definitions.specs.Table.{Gluing, Face, glue, face_number}
use Rattle.table_definitions.specs.Classes.{least, degree}
use Rattle.table_definitions.specs.Places.{face_of, IsConnected, is_boundary_edge}
use Rattle.table_definitions.proofs.TableLaws.{glued_tet}
use Rattle.skeleton_definitions.specs.Corners.{internal_edges, left_through}
use Rattle.skeleton_definitions.specs.Skeleton.{Skeleton, IsSkeleton}
use Rattle.presentation_definitions.specs.declared.Letter.{Letter}
use Rattle.presentation_definitions.specs.Trees.{IsTreeFace, evens, is_odd_number}
use Rattle.presentation_definitions.specs.Presentations.{HoldsTreeFace, AreGenerators, IsTurning, IsRelator, letter_of, Presentation, IsPresentation}
use Rattle.skeleton_class_laws.proofs.FirstPlaces.{none_or_first}
use Rattle.skeleton_class_laws.proofs.Around.{zip_exists, some_around}
use Rattle.presentation_laws.proofs.TreeLaws.{one_tree_face, none_for_zero, tree_face_of, path_of}
use Rattle.presentation_laws.specs.Classes.{IsGenerator, AreGeneratorsBelow}
use Rattle.presentation_laws.proofs.Firsts.{unglued_one, generator_at}
use Rattle.presentation_laws.proofs.Marking.{no_generators, generator_passes, generator_grows, all_generators}

below_inside : (n : ℕ) → All (λ c. c < n) (below n)
below_inside n k d l = subst (λ (xs : List ℕ). slice_index_or xs k d < n) (map-id (below n)) (subst (λ c. c < n) (sym (get_or-map-range_with_len (λ c. c) 0 n k k d inside (omega arith))) inside)
  where
    inside : k < n
    inside = let e : length (map (λ c. c) (below n)) ≡ n = length-map-range_with_len (λ c. c) 0 n in let f : length (map (λ c. c) (below n)) ≡ length (below n) = ap length (map-id (below n)) in omega arith

module _ (s : Skeleton) (h : IsSkeleton s) where
  module _ (connected : IsConnected s.rows) where
    -- ---- generators

    abbrev HeldBy : ℕ → ℕ → Type 0
    HeldBy c t = (x : Face) × IsTreeFace s.rows t x × (slice_index s.faces.classes (face_number x) ≡ c)

    tree_inside : (t : ℕ) (x : Face) → IsTreeFace s.rows t x → t < length s.rows
    tree_inside t x w = subst (λ u. u < length s.rows) w.leads.to (h.table.in_range x w.leads.gluing w.leads.glued)

    held_or_not : (c t : ℕ) → HeldBy c t ⊎ (HeldBy c t → ⊥)
    held_or_not c t = elim (cases_lt t (length s.rows)) [
      | inr exceeded ↦ inr (λ w. let l : t < length s.rows = tree_inside t w.0 w.1 in omega arith)
      | inl l ↦ elim (cases_eq t 0) [
        | inl z ↦ inr (λ w. none_for_zero s.rows w.0 (subst (λ u. IsTreeFace s.rows u w.0) z w.1))
        | inr n ↦ by_class (tree_face_of s.rows h.table connected t l (omega arith))
      ]
    ]
      where
        by_class : (x : Face) × IsTreeFace s.rows t x → HeldBy c t ⊎ (HeldBy c t → ⊥)
        by_class w = elim (cases_eq (slice_index s.faces.classes (face_number w.0)) c) [
          | inl e ↦ inl (w.0, w.1, e)
          | inr n ↦ inr (λ v. n (ap (λ (y : Face). slice_index s.faces.classes (face_number y)) (one_tree_face s.rows t w.0 v.0 w.1 v.1) ∙ v.2))
        ]

    holds_or_not : (c : ℕ) → HoldsTreeFace s c ⊎ (HoldsTreeFace s c → ⊥)
    holds_or_not c = elim (none_or_first (HeldBy c) (held_or_not c) (length s.rows)) [
      | inr one ↦ inl (one.0, one.2.0, one.2.1, one.2.2)
      | inl none ↦ inr (λ w. none w.0 (tree_inside w.0 w.1 w.2) (w.1, w.2, w.3))
    ]

    generator_or_not : (c : ℕ) → IsGenerator s c ⊎ (IsGenerator s c → ⊥)
    generator_or_not c = elim (cases_eq (degree s.faces.classes c) 2) [
      | inr n ↦ inr (λ g. n g.0)
      | inl e ↦ elim (holds_or_not c) [ inl w ↦ inr (λ g. g.1 w) | inr never ↦ inl (e, never) ]
    ]

    generators_below : (n : ℕ) → (generators : List ℕ) × AreGeneratorsBelow s n generators
    generators_below zero = ([], no_generators s)
    generators_below (suc n) = let before = generators_below n in elim (generator_or_not n) [
      | inl g ↦ (before.0 ++ n ∷ [], subst (λ k. AreGeneratorsBelow s k (before.0 ++ n ∷ [])) (omega arith) (generator_grows s n before.0 g before.1))
      | inr never ↦ (before.0, subst (λ k. AreGeneratorsBelow s k before.0) (omega arith) (generator_passes s n before.0 never before.1))
    ]

    some_generators : (generators : List ℕ) × AreGenerators s generators
    some_generators = let all = generators_below s.faces.count in (all.0, all_generators s s.faces.count all.0 refl all.1)

    -- ---- whether they reverse orientation

    some_turning : (c : ℕ) → c < s.faces.count → degree s.faces.classes c ≡ 2 → (b : Bool) × IsTurning s c b
    some_turning c l two = by_glue (glue s.rows (face_of (least s.faces.classes c))) refl
      where
        by_glue : (o : Option Gluing) → glue s.rows (face_of (least s.faces.classes c)) ≡ o → (b : Bool) × IsTurning s c b
        by_glue None e = absurd (let one : degree s.faces.classes c ≡ 1 = unglued_one s h c l e in omega arith)
        by_glue (Some g) e =
            let forth = path_of s.rows h.table connected (face_of (least s.faces.classes c)).tet (glued_tet s.rows (face_of (least s.faces.classes c)) g e) in
            let back = path_of s.rows h.table connected g.tet (h.table.in_range (face_of (least s.faces.classes c)) g e) in (
              is_odd_number (evens s.rows forth.0 + evens s.rows (face_of (least s.faces.classes c) ∷ []) + evens s.rows back.0),
              record {
                gluing = g;
                glued = e;
                forth = forth.0;
                forth_path = forth.1;
                back = back.0;
                back_path = back.1;
                odd = refl;
              },
            )

    -- ---- relators

    some_relator : (generators : List ℕ) (c : ℕ) → c < s.edges.count → (letters : List Letter) × IsRelator s generators c letters
    some_relator generators c l = let a = some_around s h c l in (filter_map (λ k. letter_of s generators (face_number (left_through k))) a.0, record { corners = a.0; around = a.1; read = refl })

    pub some_presentation : (p : Presentation) × IsPresentation s p
    some_presentation = (
      record { generators = g.0; turning = t.0; edges = edges; relators = r.0 },
      record { generators = g.1; turning = t.1; edges = refl; relators = r.1 },
    )
      where
        g : (generators : List ℕ) × AreGenerators s generators
        g = some_generators

        edges : List ℕ
        edges = internal_edges s.rows s.edges.classes s.edges.count

        t : (turning : List Bool) × AllZip (IsTurning s) g.0 turning
        t = zip_exists (IsTurning s) g.0 (λ i l. let w = generator_at s g.0 i g.1 l in some_turning (slice_index g.0 i) w.0 w.1.0)

        inside : All (λ c. c < s.edges.count) (internal_edges s.rows s.edges.classes s.edges.count)
        inside = All-filter (λ c. not (is_boundary_edge s.rows s.edges.classes c)) (λ c. c < s.edges.count) (below s.edges.count) (below_inside s.edges.count)

        r : (relators : List (List Letter)) × AllZip (IsRelator s g.0) (internal_edges s.rows s.edges.classes s.edges.count) relators
        r = zip_exists (IsRelator s g.0) (internal_edges s.rows s.edges.classes s.edges.count) (λ i l. some_relator g.0 _ (inside i 0 l))
