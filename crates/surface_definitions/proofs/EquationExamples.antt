-- Equations and verdicts, computed.
use Rattle.surface_definitions.proofs.Computed.{computed}
use Rattle.std.proofs.Common.{◌≡◌, ℕ, pos, negsuc, List, [], ◌∷◌, ◌++◌, refl}
use Rattle.std.specs.Prelude.{Err, codes}
use Rattle.surface_definitions.specs.Coordinates.{columns, clash_list}
use Rattle.surface_definitions.specs.declared.Coords.TheVariants.{Standard, Quad, Octagon}
use Rattle.surface_definitions.specs.Equations.{matching_rows}
use Rattle.surface_definitions.specs.Verdict.{Verdict, verdict, verdict_text, solution}
use Rattle.surface_definitions.specs.declared.VectorFault.TheVariants.{Length, Large, NotSolution, Clash}
use Rattle.text_definitions.specs.Written.{limit}
use Rattle.table_definitions.proofs.Tables.{sphere}

-- the columns are t0 t1 t2 t3 q0 q1 q2
sphere_rows : matching_rows Standard sphere ≡
    ((0, negsuc 0) ∷ (1, pos 1) ∷ [])
    ∷ ((5, pos 1) ∷ (6, negsuc 0) ∷ [])
    ∷ ((5, negsuc 0) ∷ (6, pos 1) ∷ [])
    ∷ ((0, pos 1) ∷ (1, negsuc 0) ∷ [])
    ∷ ((1, pos 1) ∷ (2, negsuc 0) ∷ (4, negsuc 0) ∷ (6, pos 1) ∷ [])
    ∷ ((0, negsuc 0) ∷ (3, pos 1) ∷ (4, pos 1) ∷ (6, negsuc 0) ∷ []) ∷ []
unfolding computed
sphere_rows = refl

sphere_verdict : List ℕ → Verdict
sphere_verdict xs = verdict limit 7 (matching_rows Standard sphere) (clash_list Standard 1) xs

verdicts : (sphere_verdict (1 ∷ 1 ∷ 0 ∷ 0 ∷ 1 ∷ 0 ∷ 0 ∷ []) ≡ solution)
    × (sphere_verdict (1 ∷ 0 ∷ 0 ∷ 0 ∷ 0 ∷ 0 ∷ 0 ∷ []) ≡ Err (NotSolution 0))
    × (sphere_verdict (0 ∷ 0 ∷ 1 ∷ 1 ∷ 0 ∷ 1 ∷ 1 ∷ []) ≡ Err (Clash 5 6))
    × (sphere_verdict (1 ∷ 1 ∷ 0 ∷ 0 ∷ 1 ∷ 0 ∷ []) ≡ Err (Length 6))
    × (sphere_verdict (0 ∷ 0 ∷ 0 ∷ 0 ∷ 0 ∷ 0 ∷ 0 ∷ []) ≡ solution)
    × (sphere_verdict (limit ∷ limit ∷ 0 ∷ 0 ∷ 0 ∷ limit ∷ limit ∷ []) ≡ Err (Large 4))
    × (verdict limit (columns Standard 0) (matching_rows Standard []) (clash_list Standard 0) [] ≡ solution)
unfolding computed sphere_verdict
verdicts = (refl, refl, refl, refl, refl, refl, refl)

lines : (verdict_text (Err (Clash 5 6)) ≡ codes "clash 5 6" ++ 10 ∷ []) × (verdict_text (Err (Length 6)) ≡ codes "length 6" ++ 10 ∷ [])
unfolding computed
lines = (refl, refl)

-- octagons of two tetrahedra clash
octagon_clash : verdict limit (columns Octagon 2) [] (clash_list Octagon 2)
    (0 ∷ 0 ∷ 0 ∷ 0 ∷ 0 ∷ 0 ∷ 0 ∷ 1 ∷ 0 ∷ 0 ∷ 0 ∷ 0 ∷ 0 ∷ 0 ∷ 0 ∷ 0 ∷ 0 ∷ 1 ∷ 0 ∷ 0 ∷ []) ≡ Err (Clash 7 17)
unfolding computed
octagon_clash = refl

-- an octagon with two triangles solves the octagon equations of the standard sphere
octagon_solution : verdict limit 10 (matching_rows Octagon sphere) (clash_list Octagon 1)
    (0 ∷ 0 ∷ 1 ∷ 1 ∷ 0 ∷ 0 ∷ 0 ∷ 1 ∷ 0 ∷ 0 ∷ []) ≡ solution
unfolding computed
octagon_solution = refl

pairs_of_one : (clash_list Standard 1 ≡ (4, 5) ∷ (4, 6) ∷ (5, 6) ∷ []) × (clash_list Quad 1 ≡ (0, 1) ∷ (0, 2) ∷ (1, 2) ∷ [])
unfolding computed
pairs_of_one = (refl, refl)
