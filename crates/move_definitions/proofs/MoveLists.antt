-- Moves by tetrahedron and then by core, one tetrahedron after another.
use Rattle.std.proofs.Common.{◌≡◌, ℕ, suc, List, [], ◌∷◌, ◌++◌, map, refl, sym, ap, ◌∙◌}
use Rattle.std.specs.List.{flat_map}
use Rattle.std.proofs.lemmas.List.{map-append}
use Rattle.std.proofs.lemmas.Grind.{flat_map-append}
use Rattle.table_definitions.specs.Lists.{below}
use Rattle.table_definitions.proofs.Bijections.{below-push}
use Rattle.move_definitions.specs.Moves.{Move}
use Rattle.move_definitions.specs.Certificates.{moves_at, moves_with}

abbrev move_of : ℕ × List ℕ → Move
move_of p = record { tet = p.0; core = p.1 }

of_one : (cores : List (List ℕ)) (t : ℕ) → map move_of (map (λ (core : List ℕ). (t, core)) cores ++ []) ≡ moves_at t cores
of_one [] t = refl
of_one (core ∷ cores) t = ap (λ (ms : List Move). record { tet = t; core = core } ∷ ms) (of_one cores t)

-- the moves of one more tetrahedron
pub moves_more : (cores : List (List ℕ)) (n : ℕ) → moves_with cores (suc n) ≡ moves_with cores n ++ moves_at n cores
moves_more cores n =
    let pairs : ℕ → List (ℕ × List ℕ) = λ t. map (λ (core : List ℕ). (t, core)) cores in
    ap (λ (ts : List ℕ). map move_of (flat_map pairs ts)) (sym (below-push n))
    ∙ ap (map move_of) (flat_map-append pairs (below n) (n ∷ []))
    ∙ map-append move_of (flat_map pairs (below n)) (flat_map pairs (n ∷ []))
    ∙ ap (λ (ms : List Move). moves_with cores n ++ ms) (of_one cores n)
