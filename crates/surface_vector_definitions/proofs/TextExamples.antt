-- Texts of described vectors, of lifts and of refusals, computed.
use Rattle.surface_definitions.proofs.Computed.{computed}
use Rattle.std.proofs.Common.{◌≡◌, ℕ, true, false, List, [], ◌∷◌, ◌++◌, refl}
use Rattle.std.specs.Prelude.{Err, codes}
use Rattle.table_definitions.proofs.Tables.{sphere, table_jj}
use Rattle.surface_definitions.specs.declared.Coords.TheVariants.{Standard, Octagon}
use Rattle.surface_definitions.specs.Equations.{matching_rows}
use Rattle.surface_definitions.specs.declared.VectorFault.TheVariants as faults
use Rattle.text_definitions.specs.Written.{line}
use Rattle.surface_vector_definitions.specs.Components.{Component}
use Rattle.surface_vector_definitions.specs.declared.SurfaceSum.TheVariants.{Points}
use Rattle.surface_vector_definitions.specs.Answers.{Description, verdict_in}
use Rattle.surface_vector_definitions.specs.declared.Refusal.TheVariants as causes
use Rattle.surface_vector_definitions.specs.Texts.{description_text, lifts_text, refusal_line, invalid_edge_line}
use Rattle.surface_vector_definitions.proofs.Evaluators.{skeleton_of, properties_of}

of_one_component : List ℕ → Component → Description
of_one_component xs c = record { vector = xs; properties = properties_of (skeleton_of table_jj) Standard xs; components = c ∷ [] }

one_sided : description_text (skeleton_of table_jj) Standard (of_one_component (0 ∷ 0 ∷ 0 ∷ 0 ∷ 0 ∷ 1 ∷ 0 ∷ []) (record { vector = 0 ∷ 0 ∷ 0 ∷ 0 ∷ 0 ∷ 1 ∷ 0 ∷ []; two_sided = false; orientable = false }))
    ≡ line (codes "vec 0 0 0 0 0 1 0") ++ line (codes "euler 0 linking no boundary no components 1") ++ line (codes "component euler 0 sides one orientable no vec 0 0 0 0 0 1 0")
unfolding computed description_text of_one_component
one_sided = refl

link : description_text (skeleton_of table_jj) Standard (of_one_component (1 ∷ 1 ∷ 1 ∷ 1 ∷ 0 ∷ 0 ∷ 0 ∷ []) (record { vector = 1 ∷ 1 ∷ 1 ∷ 1 ∷ 0 ∷ 0 ∷ 0 ∷ []; two_sided = true; orientable = true }))
    ≡ line (codes "vec 1 1 1 1 0 0 0") ++ line (codes "euler 2 linking yes boundary no components 1") ++ line (codes "component euler 2 sides two orientable yes vec 1 1 1 1 0 0 0")
unfolding computed description_text of_one_component
link = refl

lifts : lifts_text ((1 ∷ 1 ∷ 0 ∷ 0 ∷ 1 ∷ 0 ∷ 0 ∷ []) ∷ []) ≡ line (codes "vec 1 1 0 0 1 0 0")
unfolding computed lifts_text
lifts = refl

refusals : (refusal_line 0 (causes.Unfit (faults.NotSolution 0)) ≡ line (codes "refused: vector 0 fails 0")) × (refusal_line 0 (causes.Unfit (faults.Clash 1 2)) ≡ line (codes "refused: vector 0 clash 1 2"))
    × (refusal_line 3 (causes.Unfit (faults.Length 6)) ≡ line (codes "refused: vector 3 length 6")) × (refusal_line 0 (causes.Unfit (faults.Large 4)) ≡ line (codes "refused: vector 0 large 4"))
    × (refusal_line 0 (causes.LargeSum Points) ≡ line (codes "refused: vector 0 large-sum points")) × (refusal_line 0 (causes.TooManyPieces 100004) ≡ line (codes "refused: vector 0 too-many-pieces 100004"))
    × (refusal_line 0 causes.LargeLift ≡ line (codes "refused: vector 0 large-lift")) × (refusal_line 0 (causes.NoLift 0) ≡ line (codes "refused: vector 0 no-lift 0"))
    × (invalid_edge_line 3 ≡ line (codes "refused: invalid-edge 3"))
unfolding computed refusal_line invalid_edge_line
refusals = (refl, refl, refl, refl, refl, refl, refl, refl, refl)

-- the verdicts before them
verdicts : (verdict_in Standard sphere (matching_rows Standard sphere) (1 ∷ 0 ∷ 0 ∷ 0 ∷ 0 ∷ 0 ∷ 0 ∷ []) ≡ Err (faults.NotSolution 0))
    × (verdict_in Octagon sphere (matching_rows Octagon sphere) (0 ∷ 0 ∷ 1 ∷ 1 ∷ 0 ∷ 0 ∷ 0 ∷ 1 ∷ 1 ∷ 0 ∷ []) ≡ Err (faults.NotSolution 1))
unfolding computed
verdicts = (refl, refl)
