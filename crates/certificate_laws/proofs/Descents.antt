-- Each move of a descent reduces the number of tetrahedra, and a descent that reaches the standard sphere certifies its
-- table.
use Rattle.std.proofs.Common.{◌≡◌, ℕ, ◌+◌, ◌-◌, ◌<◌, ◌≤◌, Bool, true, false, List, [], ◌∷◌, length, map, Some, refl, sym, ap, subst, arith, inl, inr}
use Rattle.std.specs.Prelude.{◌↔◌, nat_lt, find}
use Rattle.std.specs.List.{list_all}
use Rattle.std.proofs.lemmas.Bool.{ltb-true}
use Rattle.basic_lemmas.proofs.Options.{one_or_other}
use Rattle.table_definitions.specs.Lists.{below, pairs_of}
use Rattle.table_definitions.specs.Permutation.{four}
use Rattle.table_definitions.specs.Places.{edge_ends}
use Rattle.table_definitions.specs.Table.{Row, IsTable}
use Rattle.table_definitions.proofs.TableLaws.{Among}
use Rattle.table_definitions.proofs.Tests.{list_all-among}
use Rattle.table_definitions.proofs.Listed.{map-among, pairs-among, found_among}
use Rattle.move_definitions.specs.Moves.{Move, PlaysAll}
use Rattle.move_definitions.specs.Certificates.{IsStandard, moves_with, four_one_moves, three_two_moves, is_accepted, descent_move, IsDescent}
use Rattle.move_laws.proofs.Legal.{no_fault}
use Rattle.move_laws.proofs.Covered.{kept-count}
use Rattle.move_laws.proofs.Played.{descents_agree_lem, played_table}
use Rattle.certificate_laws.specs.Laws.{DescentsLessen, DescentsEnd, DescentsCertify, OneDescent}

-- the core of each move of a descent has at most 2 vertices

small_among : (cores : List (List ℕ)) (n : ℕ) (m : Move) → list_all (λ vs. nat_lt (length vs) 3) cores ≡ true → Among m (moves_with cores n) → length m.core < 3
small_among cores n m all h =
    let q = map-among (λ (p : ℕ × List ℕ). record { tet = p.0; core = p.1 }) m (pairs_of (below n) cores) h in
    let at : nat_lt (length q.0.1) 3 ≡ true = list_all-among (λ (vs : List ℕ). nat_lt (length vs) 3) q.0.1 cores all (pairs-among q.0 (below n) cores q.1).1 in
    subst (λ (k : Move). length k.core < 3) (sym q.2) (ltb-true (length q.0.1) 3 at)

descent_small : (rows : List Row) (m : Move) → descent_move rows ≡ Some m → length m.core < 3
unfolding descent_move
descent_small rows m e =
    elim (one_or_other (find (is_accepted rows) (four_one_moves (length rows))) (find (is_accepted rows) (three_two_moves (length rows))) m e) [
      | inl f ↦ small_among (map (λ v. v ∷ []) four) (length rows) m refl (found_among (is_accepted rows) (four_one_moves (length rows)) m f)
      | inr f ↦ small_among edge_ends (length rows) m refl (found_among (is_accepted rows) (three_two_moves (length rows)) m f)
    ]

pub descents_lessen_lem : DescentsLessen
descents_lessen_lem rows m next e p =
    let small : length m.core < 3 = descent_small rows m e in
    let fits : 5 - length m.core ≤ length rows = kept-count rows m p.table (no_fault rows m p.moved.legal) p.moved.core in
    omega (arith, p.moved.length_is)

pub descents_end_lem : DescentsEnd
descents_end_lem rows [] last table d = omega (arith, ap (λ (t : List Row). length t) d.0)
descents_end_lem rows (m ∷ ms) last table (go, first, (next, p, rest)) =
    let less : length next < length rows = descents_lessen_lem rows m next first p in
    let later : length last + length ms ≤ length next = descents_end_lem next ms last (played_table rows m next p) rest in
    omega arith

pub descent_leads : (rows : List Row) (moves : List Move) (last : List Row) → IsTable rows → IsDescent rows moves last → PlaysAll rows moves last
descent_leads rows [] last table d = d.0
descent_leads rows (m ∷ ms) last table (go, first, (next, p, rest)) =
    (next, p, descent_leads next ms last (played_table rows m next p) rest)

pub descents_certify_lem : DescentsCertify
descents_certify_lem rows moves last table d s = (last, descent_leads rows moves last table d, s)

-- a table has at most one descent
same_truth : (a b : Bool) (P : Type 0) → (a ≡ true) ↔ P → (b ≡ true) ↔ P → a ≡ b
same_truth true true P h k = refl
same_truth true false P h k = sym (k.1 (h.0 refl))
same_truth false true P h k = h.1 (k.0 refl)
same_truth false false P h k = refl

pub one_descent_lem : OneDescent
one_descent_lem rows d d' table h k =
    let same : (d.moves ≡ d'.moves) × (d.table ≡ d'.table) = descents_agree_lem rows d.moves d.table d'.moves d'.table h.descent k.descent in
    let there : (d'.reached ≡ true) ↔ IsStandard d.table = subst (λ (t : List Row). (d'.reached ≡ true) ↔ IsStandard t) (sym same.1) k.reached in
    let truth : d.reached ≡ d'.reached = same_truth d.reached d'.reached (IsStandard d.table) h.reached there in
    λ i. record { reached = truth i; moves = same.0 i; table = same.1 i }
