-- Moves by tetrahedron and then by core, one tetrahedron after another.
use Rattle.std.proofs.Common.{◌≡◌, ◌≢◌, ℕ, ◌+◌, Bool, List, [], ◌∷◌, ◌++◌, length, map, refl, sym, ap, ◌∙◌, arith, append_assoc}
use Rattle.std.specs.Prelude.{filter}
use Rattle.std.proofs.lemmas.List.Elements.{filter-append}
use Rattle.table_definitions.specs.Permutation.{four, others}
use Rattle.table_definitions.specs.Places.{edge_ends}
use Rattle.table_definitions.specs.Table.{Row}
use Rattle.move_definitions.specs.Moves.{Move}
use Rattle.move_definitions.specs.Certificates.{moves_at, moves_with, is_accepted, two_three_moves, three_two_moves, one_four_moves, or_these, candidates}
use Rattle.move_definitions.proofs.MoveLists.{moves_more}
use Rattle.basic_lemmas.proofs.Numbers.{one_on}

-- those that pass a test are appended
pub accepted_more : (p : Move → Bool) (cores : List (List ℕ)) (t : ℕ) (so before more : List Move) → so ≡ before ++ filter p (moves_with cores t) → more ≡ so ++ filter p (moves_at t cores)
    → more ≡ before ++ filter p (moves_with cores (t + 1))
accepted_more p cores t so before more s m =
    m ∙ ap (λ (ms : List Move). ms ++ filter p (moves_at t cores)) s
    ∙ append_assoc before (filter p (moves_with cores t)) (filter p (moves_at t cores))
    ∙ ap (λ (ms : List Move). before ++ ms) (sym (filter-append p (moves_with cores t) (moves_at t cores)) ∙ ap (filter p) (sym (ap (moves_with cores) (sym (one_on t)) ∙ moves_more cores t)))

-- the moves from which one is drawn

abbrev first_moves : List Row → List Move
first_moves rows = filter (is_accepted rows) (two_three_moves (length rows) ++ three_two_moves (length rows))

pub first_listed : (rows : List Row) (so one two : List Move) (faces edges : List (List ℕ)) → so ≡ [] → faces ≡ map others four → edges ≡ edge_ends
    → one ≡ so ++ filter (is_accepted rows) (moves_with faces (length rows)) → two ≡ one ++ filter (is_accepted rows) (moves_with edges (length rows)) → two ≡ first_moves rows
first_listed rows so one two faces edges s f e a b =
    b ∙ ap (λ (ms : List Move). ms ++ filter (is_accepted rows) (moves_with edges (length rows))) a
    ∙ (λ i. (s i ++ filter (is_accepted rows) (moves_with (f i) (length rows))) ++ filter (is_accepted rows) (moves_with (e i) (length rows)))
    ∙ sym (filter-append (is_accepted rows) (two_three_moves (length rows)) (three_two_moves (length rows)))

these_first : (ms rest : List Move) → length ms ≢ 0 → or_these ms rest ≡ ms
these_first [] rest n = absurd (n refl)
these_first (m ∷ ms) rest n = refl

these_last : (ms rest : List Move) → length ms ≡ 0 → or_these ms rest ≡ ms ++ rest
these_last [] rest e = refl
these_last (m ∷ ms) rest e = absurd (omega arith)

pub some_first : (rows : List Row) (ms : List Move) → ms ≡ first_moves rows → length ms ≢ 0 → ms ≡ candidates rows
unfolding candidates
some_first rows ms e n =
    sym (these_first ms (filter (is_accepted rows) (one_four_moves (length rows))) n)
    ∙ ap (λ (qs : List Move). or_these qs (filter (is_accepted rows) (one_four_moves (length rows)))) e

pub none_first : (rows : List Row) (ms all : List Move) (cores : List (List ℕ)) → ms ≡ first_moves rows → length ms ≡ 0 → cores ≡ four ∷ [] → all ≡ ms ++ filter (is_accepted rows) (moves_with cores (length rows)) → all ≡ candidates rows
unfolding candidates
none_first rows ms all cores e z c a =
    a ∙ ap (λ (vs : List (List ℕ)). ms ++ filter (is_accepted rows) (moves_with vs (length rows))) c
    ∙ sym (these_last ms (filter (is_accepted rows) (one_four_moves (length rows))) z)
    ∙ ap (λ (qs : List Move). or_these qs (filter (is_accepted rows) (one_four_moves (length rows)))) e
