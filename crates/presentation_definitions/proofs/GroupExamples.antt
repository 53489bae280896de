-- Generators and relators, computed.
use Rattle.std.proofs.Common.{◌≡◌, ℕ, true, false, [], ◌∷◌, refl}
use Rattle.table_definitions.proofs.Tables.{table_id, figure_eight, four_tets}
use Rattle.skeleton_definitions.proofs.Computed.{computed}
use Rattle.presentation_definitions.specs.declared.Letter.{Letter}
use Rattle.presentation_definitions.proofs.Evaluators.{skeleton_of, presentation_of}

abbrev plain : ℕ → Letter
plain g = record { generator = g; inverse = false }

abbrev backwards : ℕ → Letter
backwards g = record { generator = g; inverse = true }

-- the figure eight: face classes 1 to 3, which do not reverse orientation, and the relators 2 -1 3 1 -3 and 1 2 -3 -2
eight_group : presentation_of (skeleton_of figure_eight) ≡ record {
  generators = 1 ∷ 2 ∷ 3 ∷ [];
  turning = false ∷ false ∷ false ∷ [];
  edges = 0 ∷ 1 ∷ [];
  relators = (plain 2 ∷ backwards 1 ∷ plain 3 ∷ plain 1 ∷ backwards 3 ∷ []) ∷ (plain 1 ∷ plain 2 ∷ backwards 3 ∷ backwards 2 ∷ []) ∷ [];
}
unfolding computed
eight_group = refl

-- 0:1203 0:2013 0:0231 0:0312: face classes 0 and 1, which reverse orientation, and the relator 2 -1 -2 1 1 2
id_group : presentation_of (skeleton_of table_id) ≡ record {
  generators = 0 ∷ 1 ∷ [];
  turning = true ∷ true ∷ [];
  edges = 0 ∷ [];
  relators = (plain 2 ∷ backwards 1 ∷ backwards 2 ∷ plain 1 ∷ plain 1 ∷ plain 2 ∷ []) ∷ [];
}
unfolding computed
id_group = refl

empty_group : presentation_of (skeleton_of []) ≡ record { generators = []; turning = []; edges = []; relators = [] }
unfolding computed
empty_group = refl

-- four tetrahedra: face classes 3 to 7, and six relators
four_group : presentation_of (skeleton_of four_tets) ≡ record {
  generators = 3 ∷ 4 ∷ 5 ∷ 6 ∷ 7 ∷ [];
  turning = false ∷ false ∷ false ∷ false ∷ false ∷ [];
  edges = 0 ∷ 1 ∷ 2 ∷ 3 ∷ 4 ∷ 5 ∷ [];
  relators = (backwards 5 ∷ plain 4 ∷ backwards 5 ∷ backwards 2 ∷ backwards 1 ∷ plain 5 ∷ backwards 3 ∷ backwards 1 ∷ [])
      ∷ (plain 4 ∷ []) ∷ (backwards 1 ∷ []) ∷ (plain 3 ∷ []) ∷ (plain 2 ∷ []) ∷ (plain 2 ∷ plain 4 ∷ backwards 3 ∷ []) ∷ [];
}
unfolding computed
four_group = refl
