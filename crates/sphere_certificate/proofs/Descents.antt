-- What a descent has done so far, and how it ends.
use Rattle.std.proofs.Common.{◌≡◌, ℕ, ◌+◌, ◌≤◌, Bool, true, List, [], ◌∷◌, ◌++◌, length, map, Option, Some, None, sym, ap, ◌∙◌, subst}
use Rattle.std.specs.Prelude.{◌⊎◌, ◌↔◌, find, MatchOption}
use Rattle.std.specs.Option.{option_or}
use Rattle.table_definitions.specs.Table.{Row, IsTable}
use Rattle.table_definitions.specs.Permutation.{four}
use Rattle.table_definitions.specs.Places.{edge_ends}
use Rattle.signature_definitions.specs.Spelling.{IsSignature}
use Rattle.move_definitions.specs.Moves.{Move, Plays}
use Rattle.move_definitions.specs.Certificates.{IsStandard, IsCertificate, moves_with, four_one_moves, three_two_moves, is_accepted, descent_move}
use Rattle.certificate_definitions.specs.Answers.{sphere_text, IsDescended}
use Rattle.certificate_definitions.specs.SoFar.{DescendsSoFar}
use Rattle.certificate_laws.proofs.Checked.{text_standard, standard_text}
use Rattle.certificate_laws.proofs.Descents.{descents_end_lem, descents_certify_lem}
use Rattle.certificate_laws.proofs.Loops.{descents_go_on_lem, descents_are_done_lem}
use Rattle.sphere_certificate.specs.declared.accepted.AcceptedMove.{AcceptedMove}

-- its signature determines whether a table is the standard sphere
pub told_by_text : (rows : List Row) (text : List ℕ) (reported : Bool) → IsTable rows → IsSignature rows text → (reported ≡ true) ↔ (text ≡ sphere_text) → (reported ≡ true) ↔ IsStandard rows
told_by_text rows text reported table signature same =
    (λ e. text_standard rows text table signature (same.0 e), λ s. same.1 (standard_text rows text table s signature))

-- a move that is found by the first or the second search is the descent's move
pub first_search : (rows : List Row) (vertices : List (List ℕ)) (m : Move) → vertices ≡ map (λ v. v ∷ []) four → Some m ≡ find (is_accepted rows) (moves_with vertices (length rows)) → Some m ≡ descent_move rows
unfolding descent_move
first_search rows vertices m are e =
    let found : find (is_accepted rows) (four_one_moves (length rows)) ≡ Some m = ap (λ (cores : List (List ℕ)). find (is_accepted rows) (moves_with cores (length rows))) (sym are) ∙ sym e in
    sym (ap (λ (o : Option Move). option_or o (find (is_accepted rows) (three_two_moves (length rows)))) found)

pub second_search : (rows : List Row) (vertices edges : List (List ℕ)) (found : Option Move) → vertices ≡ map (λ v. v ∷ []) four → find (is_accepted rows) (moves_with vertices (length rows)) ≡ None
    → edges ≡ edge_ends → found ≡ find (is_accepted rows) (moves_with edges (length rows)) → found ≡ descent_move rows
unfolding descent_move
second_search rows vertices edges found are none ends e =
    let first : find (is_accepted rows) (four_one_moves (length rows)) ≡ None = ap (λ (cores : List (List ℕ)). find (is_accepted rows) (moves_with cores (length rows))) (sym are) ∙ none in
    e ∙ ap (λ (cores : List (List ℕ)). find (is_accepted rows) (moves_with cores (length rows))) ends
    ∙ sym (ap (λ (o : Option Move). option_or o (find (is_accepted rows) (three_two_moves (length rows)))) first)

-- the next move of a descent, or none if it ends
abbrev pub Next : List Row → Option AcceptedMove → Type 0
Next rows next = MatchOption next (IsStandard rows ⊎ (descent_move rows ≡ None)) (λ (a : AcceptedMove). (IsStandard rows → ⊥) × (descent_move rows ≡ Some a.played))

pub ends_here : (rows : List Row) (next : Option AcceptedMove) → Next rows next → next ≡ None → IsStandard rows ⊎ (descent_move rows ≡ None)
ends_here rows next h e = subst (Next rows) e h

pub one_more : (rows : List Row) (before now : List Move) (table : List Row) (m : Move) (new : List Row) → DescendsSoFar rows before table → (IsStandard table → ⊥) × (descent_move table ≡ Some m) → Plays table m new
    → now ≡ before ++ m ∷ [] → DescendsSoFar rows now new
one_more rows before now table m new so_far g plays pushed =
    subst (λ (ms : List Move). DescendsSoFar rows ms new) (sym pushed) (descents_go_on_lem rows before table m new so_far (record { goes = g.0; first = g.1; plays = plays }))

-- the end of a descent
pub ended : (rows : List Row) (moves : List Move) (last : List Row) (reached : Bool) → DescendsSoFar rows moves last → IsStandard last ⊎ (descent_move last ≡ None) → (reached ≡ true) ↔ IsStandard last
    → IsDescended rows (record { reached = reached; moves = moves; table = last })
ended rows moves last reached so_far ends reported = record { descent = descents_are_done_lem rows moves last so_far ends; reached = reported }

pub ended_certifies : (rows : List Row) (moves : List Move) (last : List Row) (reached : Bool) → IsTable rows → DescendsSoFar rows moves last → IsStandard last ⊎ (descent_move last ≡ None)
    → (reached ≡ true) ↔ IsStandard last → reached ≡ true → IsCertificate rows moves
ended_certifies rows moves last reached table so_far ends reported r = descents_certify_lem rows moves last table (descents_are_done_lem rows moves last so_far ends) (reported.0 r)

pub ended_fewer : (rows : List Row) (moves : List Move) (last : List Row) → IsTable rows → DescendsSoFar rows moves last → IsStandard last ⊎ (descent_move last ≡ None) → length last + length moves ≤ length rows
ended_fewer rows moves last table so_far ends = descents_end_lem rows moves last table (descents_are_done_lem rows moves last so_far ends)
