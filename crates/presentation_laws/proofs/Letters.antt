-- The letter of a face reverses orientation if and only if the face does; a face without a letter does not.
use Rattle.std.proofs.Common.{◌≡◌, ℕ, zero, suc, ◌+◌, ◌*◌, ◌<◌, ◌⊎◌, inl, inr, Bool, true, false, not, List, [], ◌∷◌, length, Option, Some, None, slice_index, slice_index_or, subst, sym, ap, ap₂, ◌∙◌, arith}
use Rattle.std.specs.Prelude.{◌==◌, if◌then◌else◌}
use Rattle.std.specs.List.{position_or_len, AllZip}
use Rattle.std.proofs.lemmas.Bool.{false≢true}
use Rattle.basic_lemmas.proofs.Truths.{true_or_false}
use Rattle.table_definitions.specs.Lists.{has}
use Rattle.table_definitions.specs.Table.{Gluing, Face, glue, other_side, inverse_gluing, face_number}
use Rattle.table_definitions.specs.Classes.{least, is_least}
use Rattle.table_definitions.specs.Places.{face_of, IsConnected}
use Rattle.table_definitions.proofs.TableLaws.{glued_face}
use Rattle.table_definitions.proofs.Bijections.{contains_has}
use Rattle.table_definitions.proofs.Faces.{face_of-number}
use Rattle.skeleton_definitions.specs.Skeleton.{Skeleton, IsSkeleton}
use Rattle.presentation_definitions.specs.Trees.{IsTreeFace}
use Rattle.presentation_definitions.specs.declared.Letter.{Letter}
use Rattle.presentation_definitions.specs.Presentations.{HoldsTreeFace, letter_of, IsTurning, Presentation, IsPresentation}
use Rattle.presentation_laws.specs.Laws.{turns}
use Rattle.presentation_laws.proofs.Parity.{turn, turn_is, tree_turn, turn_back}
use Rattle.skeleton_class_laws.proofs.FirstPlaces.{FirstPlace, has_place}
use Rattle.presentation_laws.proofs.FaceClasses.{class_of, same_class, degree_two, class_below, least_is, x_below}

pub zip_at : {A B : Type 0} (R : A → B → Type 0) (xs : List A) (ys : List B) → AllZip R xs ys → (i : ℕ) (d : A) (e : B) → i < length xs → R (slice_index_or xs i d) (slice_index_or ys i e)
zip_at R [] ys z i d e l = absurd (omega arith)
zip_at R (x ∷ xs) [] z i d e l = absurd z
zip_at R (x ∷ xs) (y ∷ ys) z zero d e l = z.0
zip_at R (x ∷ xs) (y ∷ ys) z (suc i) d e l = zip_at R xs ys z.1 i d e (omega arith)

module _ (s : Skeleton) (h : IsSkeleton s) (connected : IsConnected s.rows) where
  abbrev turn_of : ℕ → Gluing → Bool
  turn_of t g = turn s.rows h.table connected t g

  abbrev class_at : Face → ℕ
  class_at x = slice_index s.faces.classes (face_number x)

  -- the two faces of a class both reverse orientation, or neither does
  both_turn : (x y : Face) (g k : Gluing) → glue s.rows x ≡ Some g → glue s.rows y ≡ Some k → (y ≡ x) ⊎ (y ≡ other_side x g) → turn_of y.tet k ≡ turn_of x.tet g
  both_turn x y g k e d (inl same) = let z : Some k ≡ Some g = sym d ∙ ap (glue s.rows) same ∙ e in let w : k ≡ g = cc in ap₂ (λ (a : Face) (b : Gluing). turn_of a.tet b) same w
  both_turn x y g k e d (inr same) = let z : Some k ≡ Some (inverse_gluing x g) = sym d ∙ ap (glue s.rows) same ∙ h.table.leads_back x g e in let w : k ≡ inverse_gluing x g = cc in
      ap₂ (λ (a : Face) (b : Gluing). turn_of a.tet b) same w ∙ turn_back s.rows h.table connected x g e

  -- a face whose class contains a tree face does not reverse orientation
  held_turns_not : (x : Face) (g : Gluing) → glue s.rows x ≡ Some g → HoldsTreeFace s (class_at x) → turn_of x.tet g ≡ false
  unfolding class_of
  held_turns_not x g e w =
      let y : Face = w.1 in
      let tree : IsTreeFace s.rows w.0 y = w.2 in
      let small : y.face < 4 = glued_face s.rows y tree.leads.gluing h.table.four_faces tree.leads.glued in
      let below : face_number y < 4 * length s.rows = x_below s.rows h.table s.faces.classes s.faces.count h.faces y tree.leads.gluing tree.leads.glued in
      let c = same_class s.rows h.table s.faces.classes s.faces.count h.faces x g e (face_number y) below w.3 in
      let which : (y ≡ x) ⊎ (y ≡ other_side x g) = elim c [ inl i ↦ inl (sym (face_of-number y small) ∙ i) | inr i ↦ inr (sym (face_of-number y small) ∙ i) ] in
      sym (both_turn x y g tree.leads.gluing e tree.leads.glued which) ∙ tree_turn s.rows h.table connected w.0 y tree.leads.gluing tree tree.leads.glued

  module _ (p : Presentation) (ip : IsPresentation s p) where
    -- a face that reverses orientation has a generator
    turning_has : (x : Face) (g : Gluing) → glue s.rows x ≡ Some g → turn_of x.tet g ≡ true → has p.generators (class_at x) ≡ true
    unfolding class_of
    turning_has x g e t = contains_has p.generators (class_at x) ((ip.generators.members (class_at x)).1 (
      class_below s.rows h.table s.faces.classes s.faces.count h.faces x g e,
      degree_two s.rows h.table s.faces.classes s.faces.count h.faces x g e,
      λ w. false≢true (sym (held_turns_not x g e w) ∙ t),
    ))

    place : Face → ℕ
    place x = position_or_len (λ c. c == class_at x) p.generators

    -- the generator of a face reverses orientation if and only if the face does
    generator_turns : (x : Face) (g : Gluing) → glue s.rows x ≡ Some g → has p.generators (class_at x) ≡ true → slice_index_or p.turning (place x) false ≡ turn_of x.tet g
    unfolding class_of place
    generator_turns x g e k = b.odd ∙ turn_is s.rows h.table connected x0 b.gluing b.forth b.back b.glued b.forth_path b.back_path ∙ both_turn x x0 g b.gluing e b.glued which
      where
        f : FirstPlace p.generators (class_at x)
        f = has_place p.generators (class_at x) k

        x0 : Face
        x0 = face_of (least s.faces.classes (class_at x))

        b : IsTurning s (class_at x) (slice_index_or p.turning (position_or_len (λ c. c == class_at x) p.generators) false)
        b = subst (λ c. IsTurning s c (slice_index_or p.turning (position_or_len (λ c. c == class_at x) p.generators) false)) f.is
            (zip_at (IsTurning s) p.generators p.turning ip.turning (position_or_len (λ c. c == class_at x) p.generators) 0 false f.in_range)

        which : (x0 ≡ x) ⊎ (x0 ≡ other_side x g)
        which = least_is s.rows h.table s.faces.classes s.faces.count h.faces x g e

    abbrev letter_at : Face → Option Letter
    letter_at x = letter_of s p.generators (face_number x)

    abbrev letter_if : Bool → Face → Option Letter
    letter_if b x = if b then Some (record { generator = position_or_len (λ c. c == class_at x) p.generators + 1; inverse = not (is_least s.faces.classes (face_number x)) }) else None

    -- a face with a letter reverses orientation if and only if the letter does, and one without a letter does not
    pub record TurnsAs (o : Option Letter) (b : Bool) : Type 0 where
      pub none : o ≡ None → b ≡ false
      pub some : (letter : Letter) → o ≡ Some letter → turns p letter ≡ b

    pub letter_turns : (x : Face) (g : Gluing) → glue s.rows x ≡ Some g → TurnsAs (letter_at x) (turn_of x.tet g)
    unfolding place
    letter_turns x g e = elim (true_or_false (has p.generators (class_at x))) [
      | inl k ↦ record {
        none = λ z. let y : Some (record { generator = position_or_len (λ c. c == class_at x) p.generators + 1; inverse = not (is_least s.faces.classes (face_number x)) }) ≡ None = sym (ap (λ b. letter_if b x) k) ∙ z in absurd cc;
        some = λ letter z. let y : Some (record { generator = position_or_len (λ c. c == class_at x) p.generators + 1; inverse = not (is_least s.faces.classes (face_number x)) }) ≡ Some letter = sym (ap (λ b. letter_if b x) k) ∙ z in
            let same : record { generator = position_or_len (λ c. c == class_at x) p.generators + 1; inverse = not (is_least s.faces.classes (face_number x)) } ≡ letter = cc in
            ap (turns p) (sym same) ∙ ap (λ i. slice_index_or p.turning i false) (omega arith) ∙ generator_turns x g e k;
      }
      | inr k ↦ record {
        none = λ z. elim (true_or_false (turn_of x.tet g)) [ inl t ↦ absurd (false≢true (sym k ∙ turning_has x g e t)) | inr t ↦ t ];
        some = λ letter z. let y : None ≡ Some letter = sym (ap (λ b. letter_if b x) k) ∙ z in absurd cc;
      }
    ]
