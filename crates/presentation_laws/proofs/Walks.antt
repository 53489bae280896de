-- An even number of the faces around an edge reverse orientation.
use Rattle.std.proofs.Common.{◌≡◌, ℕ, ◌%◌, ◌<◌, Bool, true, false, not, List, [], ◌∷◌, filter, filter_map, Option, Some, None, option_map, count_by, MatchBool, if◌then◌else◌, subst, sym, ap, ap₂, refl, ◌∙◌, arith}
use Rattle.std.specs.List.{cons_option, slice_index_or, All}
use Rattle.std.proofs.lemmas.Slice.Zip.{AllZip-long}
use Rattle.table_definitions.specs.Lists.{has}
use Rattle.table_definitions.specs.Permutation.{four, is_odd, is_permutation, compose, IsPermutationOfFour}
use Rattle.table_definitions.specs.Table.{Gluing, glue, face_number}
use Rattle.table_definitions.specs.Classes.{least}
use Rattle.table_definitions.specs.Places.{ends, IsConnected, is_boundary_edge}
use Rattle.table_definitions.proofs.PermutationLaws.{is_odd-compose}
use Rattle.table_definitions.proofs.Permutations.{compose_permutes}
use Rattle.table_definitions.proofs.Computed.{computed}
use Rattle.table_definitions.proofs.ListFacts.{list_all-below}
use Rattle.skeleton_definitions.specs.Corners.{Corner, corner_across, step, first_corner, corner_of, GoesAround, IsTourFrom, left_through}
use Rattle.skeleton_definitions.specs.Skeleton.{Skeleton, IsSkeleton}
use Rattle.presentation_definitions.specs.Trees.{is_odd_number}
use Rattle.presentation_definitions.specs.declared.Letter.{Letter}
use Rattle.presentation_definitions.specs.Presentations.{letter_of, IsRelator, Presentation, IsPresentation}
use Rattle.presentation_laws.specs.Laws.{turns}
use Rattle.presentation_laws.proofs.Parity.{differs, differs_self, differs_false, differs_middle, odd_more, sign, turn}
use Rattle.presentation_laws.proofs.Letters.{TurnsAs, letter_turns, zip_at}
use Rattle.skeleton_class_laws.specs.Rounds.{corner_word, swap}
use Rattle.skeleton_class_laws.proofs.RoundLemmas.{swap_permutes, corner_behind_permutes}

-- ---- corners as permutations

swap_odd : is_odd swap ≡ true
unfolding computed
swap_odd = refl

word_behind : (k : Corner) (g : Gluing) → corner_word (corner_across k g) ≡ compose g.perm (compose (corner_word k) swap)
unfolding computed
word_behind k g = refl

-- an even gluing changes the parity of the corner, and an odd one keeps it
even_behind : (k : Corner) (g : Gluing) → IsPermutationOfFour g.perm → IsPermutationOfFour (corner_word k) → not (is_odd g.perm) ≡ differs (is_odd (corner_word k)) (is_odd (corner_word (corner_across k g)))
even_behind k g hg hk = sym (ap (differs (is_odd (corner_word k))) (ap is_odd (word_behind k g) ∙ is_odd-compose g.perm (compose (corner_word k) swap) hg (compose_permutes (corner_word k) swap hk swap_permutes)
    ∙ ap (λ b. if is_odd g.perm then not b else b) (is_odd-compose (corner_word k) swap hk swap_permutes ∙ ap (λ b. if is_odd (corner_word k) then not b else b) swap_odd))
    ∙ around (is_odd (corner_word k)) (is_odd g.perm))
  where
    around : (a b : Bool) → differs a (if b then not (if a then not true else true) else (if a then not true else true)) ≡ not b
    around true true = refl
    around true false = refl
    around false true = refl
    around false false = refl

first_permutes : (i : ℕ) → IsPermutationOfFour (corner_word (first_corner i))
unfolding computed
first_permutes i = list_all-below (λ e. is_permutation (corner_word (corner_of 0 (ends e) (filter (λ v. not (has (ends e) v)) four)))) 6 refl (i % 6) (omega arith)

module _ (s : Skeleton) (h : IsSkeleton s) (connected : IsConnected s.rows) where
  abbrev sign_at : ℕ → Bool
  sign_at t = sign s.rows h.table connected t

  abbrev turn_of : ℕ → Gluing → Bool
  turn_of t g = turn s.rows h.table connected t g

  -- whether the face through which the walk leaves a corner reverses orientation
  abbrev turn_glued : ℕ → Option Gluing → Bool
  turn_glued t None = false
  turn_glued t (Some g) = turn_of t g

  abbrev turn_at : Corner → Bool
  turn_at k = turn_glued k.tet (glue s.rows (left_through k))

  total : List Corner → Bool
  total [] = false
  total (k ∷ ks) = differs (turn_at k) (total ks)

  -- the sign of a corner: that of its tetrahedron, changed if its permutation is odd
  abbrev mark : Corner → Bool
  mark k = differs (sign_at k.tet) (is_odd (corner_word k))

  record Steps (k l : Corner) : Type 0 where
    g : Gluing
    glued : glue s.rows (left_through k) ≡ Some g
    is : corner_across k g ≡ l

  steps : (k l : Corner) → step s.rows k ≡ Some l → Steps k l
  steps k l e = cases (glue s.rows (left_through k)) refl
    where
      cases : (o : Option Gluing) → glue s.rows (left_through k) ≡ o → Steps k l
      cases None d = let z : None ≡ Some l = ap (option_map (corner_across k)) (sym d) ∙ e in absurd cc
      cases (Some g) d = let z : Some (corner_across k g) ≡ Some l = ap (option_map (corner_across k)) (sym d) ∙ e in let same : corner_across k g ≡ l = cc in record { g = g; glued = d; is = same }

  step_turns : (k l : Corner) → IsPermutationOfFour (corner_word k) → Steps k l → (turn_at k ≡ differs (mark k) (mark l)) × IsPermutationOfFour (corner_word l)
  unfolding turn
  step_turns k l hk w = (
    ap (turn_glued k.tet) w.glued ∙ ap (λ b. differs (sign_at k.tet) (differs b (sign_at w.g.tet))) (even_behind k w.g hg hk)
        ∙ around (sign_at k.tet) (is_odd (corner_word k)) (is_odd (corner_word (corner_across k w.g))) (sign_at w.g.tet) ∙ ap (λ c. differs (mark k) (mark c)) w.is,
    subst (λ c. IsPermutationOfFour (corner_word c)) w.is (corner_behind_permutes k w.g hg hk),
  )
    where
      hg : IsPermutationOfFour w.g.perm
      hg = h.table.permutes (left_through k) w.g w.glued

      around : (a b c d : Bool) → differs a (differs (differs b c) d) ≡ differs (differs a b) (differs d c)
      around true true true true = refl
      around true true true false = refl
      around true true false true = refl
      around true true false false = refl
      around true false true true = refl
      around true false true false = refl
      around true false false true = refl
      around true false false false = refl
      around false true true true = refl
      around false true true false = refl
      around false true false true = refl
      around false true false false = refl
      around false false true true = refl
      around false false true false = refl
      around false false false true = refl
      around false false false false = refl

  walk_turns : (first k : Corner) (ls : List Corner) → IsPermutationOfFour (corner_word k) → GoesAround s.rows first k ls → total (k ∷ ls) ≡ differs (mark k) (mark first)
  unfolding total
  walk_turns first k [] hk w = differs_false (turn_at k) ∙ (step_turns k first hk (steps k first w)).0
  walk_turns first k (l ∷ ls) hk w = let t = step_turns k l hk (steps k l w.0) in
      ap₂ differs t.0 (walk_turns first l ls t.1 w.2) ∙ differs_middle (mark k) (mark l) (mark first)

  -- ---- the letters of a tour

  module _ (p : Presentation) (ip : IsPresentation s p) where
    abbrev letter_at : Corner → Option Letter
    letter_at k = letter_of s p.generators (face_number (left_through k))

    -- each corner of the tour is left through a glued face
    AllGlued : List Corner → Type 0
    AllGlued [] = Unit {0}
    AllGlued (k ∷ ks) = ((g : Gluing) × (glue s.rows (left_through k) ≡ Some g)) × AllGlued ks

    round_glued : (first k : Corner) (ls : List Corner) → GoesAround s.rows first k ls → AllGlued (k ∷ ls)
    unfolding AllGlued
    round_glued first k [] w = let t = steps k first w in ((t.g, t.glued), tt)
    round_glued first k (l ∷ ls) w = let t = steps k l w.0 in ((t.g, t.glued), round_glued first l ls w.2)

    letters_turn : (ks : List Corner) → AllGlued ks → is_odd_number (count_by (turns p) (filter_map letter_at ks)) ≡ total ks
    unfolding AllGlued total
    letters_turn [] a = refl
    letters_turn (k ∷ ks) a = by_letter (letter_at k) refl (letters_turn ks a.1)
      where
        reported : TurnsAs s h connected p ip (letter_at k) (turn_of k.tet a.0.0)
        reported = letter_turns s h connected p ip (left_through k) a.0.0 a.0.1

        turn_is_at : turn_of k.tet a.0.0 ≡ turn_at k
        turn_is_at = ap (turn_glued k.tet) (sym a.0.1)

        by_letter : (o : Option Letter) → letter_at k ≡ o → is_odd_number (count_by (turns p) (filter_map letter_at ks)) ≡ total ks →
            is_odd_number (count_by (turns p) (filter_map letter_at (k ∷ ks))) ≡ differs (turn_at k) (total ks)
        by_letter None e rest = ap (λ o. is_odd_number (count_by (turns p) (cons_option o (filter_map letter_at ks)))) e ∙ rest ∙ ap (λ b. differs b (total ks)) (sym (sym turn_is_at ∙ reported.none e))
        by_letter (Some letter) e rest = ap (λ o. is_odd_number (count_by (turns p) (cons_option o (filter_map letter_at ks)))) e ∙ odd_more (turns p) letter (filter_map letter_at ks)
            ∙ ap₂ differs (reported.some letter e ∙ turn_is_at) rest

    walk_even : (first : Corner) (corners : List Corner) → IsPermutationOfFour (corner_word first) → IsTourFrom s.rows first corners → is_odd_number (count_by (turns p) (filter_map letter_at corners)) ≡ false
    walk_even first [] hf w = absurd w
    walk_even first (k ∷ ks) hf w = letters_turn (k ∷ ks) (round_glued first k ks w.1) ∙ walk_turns first k ks (subst (λ c. IsPermutationOfFour (corner_word c)) (sym w.0) hf) w.1
        ∙ ap (λ c. differs (mark c) (mark first)) w.0 ∙ differs_self (mark first)

    relator_even : (c : ℕ) (letters : List Letter) → IsRelator s p.generators c letters → is_odd_number (count_by (turns p) letters) ≡ false
    relator_even c letters r = ap (λ ls. is_odd_number (count_by (turns p) ls)) r.read ∙ by_boundary (is_boundary_edge s.rows s.edges.classes c) r.around
      where
        first : Corner
        first = first_corner (least s.edges.classes c)

        by_boundary : (b : Bool) → MatchBool b (r.corners ≡ []) (IsTourFrom s.rows first r.corners) → is_odd_number (count_by (turns p) (filter_map letter_at r.corners)) ≡ false
        by_boundary true e = ap (λ ks. is_odd_number (count_by (turns p) (filter_map letter_at ks))) e
        by_boundary false w = walk_even first r.corners (first_permutes (least s.edges.classes c)) w

    pub relators_turn_evenly : All (λ letters. is_odd_number (count_by (turns p) letters) ≡ false) p.relators
    relators_turn_evenly i d l = relator_even (slice_index_or p.edges i 0) (slice_index_or p.relators i d)
        (zip_at (IsRelator s p.generators) p.edges p.relators ip.relators i 0 d (subst (λ n. i < n) (AllZip-long (IsRelator s p.generators) p.edges p.relators ip.relators) l))
