-- The moves that lines, descents and the generator give have cores.
use Rattle.std.proofs.Common.{◌≡◌, ℕ, zero, suc, Bool, true, List, [], ◌∷◌, ◌++◌, length, map, get_or, Some, refl, sym, ◌∙◌, subst, arith, inl, inr}
use Rattle.std.specs.Prelude.{◌⊎◌, ◌&&◌, ◌||◌, nat_lt, not, filter, find}
use Rattle.std.specs.List.{list_all}
use Rattle.basic_lemmas.proofs.Options.{one_or_other}
use Rattle.table_definitions.specs.Lists.{below, has, same_list, pairs_of}
use Rattle.table_definitions.specs.Permutation.{four, others}
use Rattle.table_definitions.specs.Places.{edge_ends}
use Rattle.table_definitions.specs.Table.{Row}
use Rattle.table_definitions.proofs.TableLaws.{Among}
use Rattle.table_definitions.proofs.Tests.{list_all-among}
use Rattle.move_definitions.specs.Moves.{Move, IsCore}
use Rattle.move_definitions.specs.Grammar.{IsCoreText, one_four, two_three, three_two, four_one}
use Rattle.move_definitions.specs.Certificates.{moves_with, four_one_moves, three_two_moves, two_three_moves, one_four_moves, is_accepted, descent_move, candidates, or_these, drawn}
use Rattle.move_definitions.specs.Laws.{MoveLinesHaveCores}
use Rattle.table_definitions.proofs.ListFacts.{list_all-below}
use Rattle.table_definitions.proofs.Listed.{filter-among, appended-among, map-among, pairs-among, found_among}
use Rattle.move_laws.proofs.Renamed.{given_lt}

abbrev is_core : List ℕ → Bool
is_core core = nat_lt 0 (length core) && same_list (filter (has core) four) core

-- of lines

pair_test : ℕ → ℕ → Bool
pair_test a b = not (nat_lt a b) || is_core (a ∷ b ∷ [])

core_of_text : (kind : List ℕ) (words : List (List ℕ)) (core : List ℕ) → IsCoreText kind words core → IsCore core
core_of_text _ _ _ one_four = refl
core_of_text _ _ _ (two_three f l) = list_all-below (λ f. is_core (others f)) 4 refl f l
core_of_text _ _ _ (three_two a b l m) =
    given_lt a b (is_core (a ∷ b ∷ [])) (unfold pair_test in list_all-below (pair_test a) 4 (list_all-below (λ a. list_all (pair_test a) (below 4)) 4 tests a (omega arith)) b m) l
  where
    tests : list_all (λ a. list_all (pair_test a) (below 4)) (below 4) ≡ true
    tests = unfold pair_test in refl
core_of_text _ _ _ (four_one v l) = list_all-below (λ v. is_core (v ∷ [])) 4 refl v l

pub move_lines_have_cores_lem : MoveLinesHaveCores
move_lines_have_cores_lem line m h = core_of_text h.kind h.core m.core h.core_text

-- of lists of moves

core_among : (cores : List (List ℕ)) (n : ℕ) (m : Move) → list_all is_core cores ≡ true → Among m (moves_with cores n) → IsCore m.core
core_among cores n m all h =
    let q = map-among (λ (p : ℕ × List ℕ). record { tet = p.0; core = p.1 }) m (pairs_of (below n) cores) h in
    let at : is_core q.0.1 ≡ true = list_all-among is_core q.0.1 cores all (pairs-among q.0 (below n) cores q.1).1 in
    subst (λ (k : Move). IsCore k.core) (sym q.2) at

four_one_core : (n : ℕ) (m : Move) → Among m (four_one_moves n) → IsCore m.core
four_one_core n m h = core_among (map (λ v. v ∷ []) four) n m refl h

three_two_core : (n : ℕ) (m : Move) → Among m (three_two_moves n) → IsCore m.core
three_two_core n m h = core_among edge_ends n m refl h

two_three_core : (n : ℕ) (m : Move) → Among m (two_three_moves n) → IsCore m.core
two_three_core n m h = core_among (map others four) n m refl h

one_four_core : (n : ℕ) (m : Move) → Among m (one_four_moves n) → IsCore m.core
one_four_core n m h = core_among (four ∷ []) n m refl h

-- of descents

pub descent_core : (rows : List Row) (m : Move) → descent_move rows ≡ Some m → IsCore m.core
unfolding descent_move
descent_core rows m e =
    elim (one_or_other (find (is_accepted rows) (four_one_moves (length rows))) (find (is_accepted rows) (three_two_moves (length rows))) m e) [
      | inl f ↦ four_one_core (length rows) m (found_among (is_accepted rows) (four_one_moves (length rows)) m f)
      | inr f ↦ three_two_core (length rows) m (found_among (is_accepted rows) (three_two_moves (length rows)) m f)
    ]

-- of the generator

pub these_or : (ms rest : List Move) (m : Move) → Among m (or_these ms rest) → Among m ms ⊎ Among m rest
these_or [] rest m h = inr h
these_or (k ∷ ks) rest m h = inl h

candidate_core : (rows : List Row) (m : Move) → Among m (candidates rows) → IsCore m.core
unfolding candidates
candidate_core rows m h =
    elim (these_or (filter (is_accepted rows) (two_three_moves n ++ three_two_moves n)) (filter (is_accepted rows) (one_four_moves n)) m h) [
      | inl a ↦ elim (appended-among m (two_three_moves n) (three_two_moves n) (filter-among (is_accepted rows) m (two_three_moves n ++ three_two_moves n) a).0) [ inl b ↦ two_three_core n m b | inr b ↦ three_two_core n m b ]
      | inr a ↦ one_four_core n m (filter-among (is_accepted rows) m (one_four_moves n) a).0
    ]
  where
    n : ℕ
    n = length rows

pub among_or_first : (ms : List Move) (k : Move) (i : ℕ) → Among (get_or ms i k) ms ⊎ (get_or ms i k ≡ k)
among_or_first [] k i = inr refl
among_or_first (m ∷ ms) k zero = inl (inl refl)
among_or_first (m ∷ ms) k (suc i) = elim (among_or_first ms k i) [ inl a ↦ inl (inr a) | inr e ↦ inr e ]

pub drawn_among : (x : ℕ) (ms : List Move) (m : Move) → drawn x ms ≡ Some m → Among m ms
drawn_among x [] m e = cc
drawn_among x (k ∷ ks) m e = at _ e
  where
    at : (i : ℕ) → Some (get_or (k ∷ ks) i k) ≡ Some m → Among m (k ∷ ks)
    at i f =
        let is : get_or (k ∷ ks) i k ≡ m = cc in
        elim (among_or_first (k ∷ ks) k i) [ inl a ↦ subst (λ (q : Move). Among q (k ∷ ks)) is a | inr g ↦ inl (sym is ∙ g) ]

pub drawn_core : (x : ℕ) (rows : List Row) (m : Move) → drawn x (candidates rows) ≡ Some m → IsCore m.core
drawn_core x rows m e = candidate_core rows m (drawn_among x (candidates rows) m e)
