-- No generator reverses orientation if and only if the table is orientable.
use Rattle.std.proofs.Common.{◌≡◌, ℕ, ◌-◌, ◌<◌, inl, inr, ◌↔◌, Bool, true, false, not, List, [], ◌∷◌, length, map, Option, Some, None, All, if◌then◌else◌, subst, sym, ap, ap₂, refl, ◌∙◌, arith}
use Rattle.std.specs.List.{slice_index_or}
use Rattle.std.proofs.lemmas.Bool.{cases_lt}
use Rattle.std.proofs.lemmas.List.{get_or_past}
use Rattle.std.proofs.lemmas.List.FromFn.{get_or-map-range_with_len, length-map-range_with_len}
use Rattle.std.proofs.lemmas.Slice.Zip.{AllZip-long}
use Rattle.table_definitions.specs.Lists.{below}
use Rattle.table_definitions.specs.Permutation.{is_odd}
use Rattle.table_definitions.specs.Table.{Gluing, Face, glue, face_number}
use Rattle.table_definitions.specs.Classes.{least}
use Rattle.table_definitions.specs.Places.{face_of, IsConnected}
use Rattle.table_definitions.proofs.TableLaws.{glued_tet}
use Rattle.skeleton_definitions.specs.Orientation.{sign_of, sign_across, AreSigns, IsOrientable}
use Rattle.skeleton_definitions.specs.Skeleton.{Skeleton, IsSkeleton}
use Rattle.presentation_definitions.specs.Trees.{IsTreePath, is_even_gluing, evens, is_odd_number}
use Rattle.presentation_definitions.specs.declared.Letter.{Letter}
use Rattle.presentation_definitions.specs.Presentations.{letter_of, IsTurning, Presentation, IsPresentation}
use Rattle.presentation_laws.specs.Laws.{turns}
use Rattle.presentation_laws.proofs.TreeLaws.{path_of}
use Rattle.presentation_laws.proofs.Parity.{differs, differs_self, odd_more, sign, sign_is, turn, turn_is}
use Rattle.presentation_laws.proofs.Letters.{TurnsAs, letter_turns, zip_at}

-- a gluing that does not reverse orientation agrees with the signs
agrees : (odd here there : Bool) → differs here (differs (not odd) there) ≡ false → there ≡ (if odd then here else not here)
agrees true true true e = refl
agrees true true false e = sym e
agrees true false true e = e
agrees true false false e = refl
agrees false true true e = e
agrees false true false e = refl
agrees false false true e = refl
agrees false false false e = sym e

-- a gluing that agrees with the signs does not reverse orientation
never_turns : (odd start here : Bool) → differs (differs start here) (differs (not odd) (differs start (if odd then here else not here))) ≡ false
never_turns true true true = refl
never_turns true true false = refl
never_turns true false true = refl
never_turns true false false = refl
never_turns false true true = refl
never_turns false true false = refl
never_turns false false true = refl
never_turns false false false = refl

path_step : (odd start here : Bool) → differs (not odd) (differs start here) ≡ differs start (if odd then here else not here)
path_step true start here = refl
path_step false true true = refl
path_step false true false = refl
path_step false false here = refl

module _ (s : Skeleton) (h : IsSkeleton s) (connected : IsConnected s.rows) (p : Presentation) (ip : IsPresentation s p) where
  abbrev n : ℕ
  n = length s.rows

  abbrev sign_at : ℕ → Bool
  sign_at t = sign s.rows h.table connected t

  abbrev turn_of : ℕ → Gluing → Bool
  turn_of t g = turn s.rows h.table connected t g

  -- ---- if no generator reverses orientation, the signs of the tree paths are signs of the tetrahedra

  module _ (none : All (λ turning. turning ≡ false) p.turning) where
    turns_false : (letter : Letter) → turns p letter ≡ false
    turns_false letter = elim (cases_lt (letter.generator - 1) (length p.turning)) [
      | inl l ↦ none (letter.generator - 1) false l
      | inr exceeded ↦ get_or_past p.turning (letter.generator - 1) false exceeded
    ]

    turn_false : (x : Face) (g : Gluing) → glue s.rows x ≡ Some g → turn_of x.tet g ≡ false
    turn_false x g e = by_letter (letter_of s p.generators (face_number x)) (letter_turns s h connected p ip x g e)
      where
        by_letter : (o : Option Letter) → TurnsAs s h connected p ip o (turn_of x.tet g) → turn_of x.tet g ≡ false
        by_letter None t = t.none refl
        by_letter (Some letter) t = sym (t.some letter refl) ∙ turns_false letter

    orientable_where_none : IsOrientable s.rows
    unfolding turn
    orientable_where_none = (
      map sign_at (below n),
      record {
        one_each = length-map-range_with_len sign_at 0 n;
        agree = λ x g e.
            at g.tet (h.table.in_range x g e) ∙ agrees (is_odd g.perm) (sign_at x.tet) (sign_at g.tet) (turn_false x g e) ∙ ap (sign_across g) (sym (at x.tet (glued_tet s.rows x g e)));
      },
    )
      where
        at : (t : ℕ) → t < n → sign_of (map sign_at (below n)) t ≡ sign_at t
        at t l = get_or-map-range_with_len sign_at 0 n t t false l (omega arith)

  -- ---- if there are signs, no generator reverses orientation

  module _ (signs : List Bool) (agree : AreSigns s.rows signs) where
    path_sign : (t : ℕ) (xs : List Face) → IsTreePath s.rows t xs → is_odd_number (evens s.rows xs) ≡ differs (sign_of signs 0) (sign_of signs t)
    path_sign t [] e = sym (ap (λ u. differs (sign_of signs 0) (sign_of signs u)) e ∙ differs_self (sign_of signs 0))
    path_sign t (x ∷ xs) w = odd_more (λ y. is_even_gluing (glue s.rows y)) x xs ∙ ap₂ differs (ap is_even_gluing w.0.leads.glued) (path_sign x.tet xs w.1)
        ∙ path_step (is_odd w.0.leads.gluing.perm) (sign_of signs 0) (sign_of signs x.tet)
        ∙ ap (differs (sign_of signs 0)) (sym (agree.agree x w.0.leads.gluing w.0.leads.glued) ∙ ap (sign_of signs) w.0.leads.to)

    sign_told : (t : ℕ) → t < n → sign_at t ≡ differs (sign_of signs 0) (sign_of signs t)
    sign_told t l = let w = path_of s.rows h.table connected t l in sign_is s.rows h.table connected t w.0 l w.1 ∙ path_sign t w.0 w.1

    turn_none : (x : Face) (g : Gluing) → glue s.rows x ≡ Some g → turn_of x.tet g ≡ false
    unfolding turn
    turn_none x g e = ap₂ (λ a b. differs a (differs (not (is_odd g.perm)) b)) (sign_told x.tet (glued_tet s.rows x g e)) (sign_told g.tet (h.table.in_range x g e) ∙ ap (differs (sign_of signs 0)) (agree.agree x g e))
        ∙ never_turns (is_odd g.perm) (sign_of signs 0) (sign_of signs x.tet)

    turning_none : (c : ℕ) (b : Bool) → IsTurning s c b → b ≡ false
    turning_none c b t = t.odd ∙ turn_is s.rows h.table connected (face_of (least s.faces.classes c)) t.gluing t.forth t.back t.glued t.forth_path t.back_path
        ∙ turn_none (face_of (least s.faces.classes c)) t.gluing t.glued

    none_where_orientable : All (λ turning. turning ≡ false) p.turning
    none_where_orientable i d l = turning_none (slice_index_or p.generators i 0) (slice_index_or p.turning i d)
        (zip_at (IsTurning s) p.generators p.turning ip.turning i 0 d (subst (λ m. i < m) (AllZip-long (IsTurning s) p.generators p.turning ip.turning) l))

  pub none_turns_exactly : All (λ turning. turning ≡ false) p.turning ↔ IsOrientable s.rows
  none_turns_exactly = (orientable_where_none, λ o. none_where_orientable o.0 o.1)
