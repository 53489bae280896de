-- The making with the seed 0 and two moves, with its certificate `23 1 0` and `41 3 2`.
use Rattle.std.proofs.Common.{◌≡◌, ℕ, zero, suc, ◌<◌, List, [], ◌∷◌, get_or, refl, arith, inl}
use Rattle.std.specs.Prelude.{All}
use Rattle.table_definitions.specs.Permutation.{four, IsPermutationOfFour, words}
use Rattle.table_definitions.specs.Table.{Row, IsTable}
use Rattle.table_definitions.specs.Relabelling.{Relabelling, IsRelabelling, Carries}
use Rattle.table_definitions.proofs.Tests.{Carries-passed, table_from}
use Rattle.table_definitions.proofs.RelationExamples.{sphere_table, four_tets_table}
use Rattle.table_definitions.proofs.Tables.{sphere, four_tets, row, by}
use Rattle.std.specs.List.{slice_index_or}
use Rattle.move_definitions.specs.Moves.{IsMoved, inverse_move}
use Rattle.move_definitions.proofs.MoveTests.{IsMoved-passed}
use Rattle.move_definitions.proofs.RelationExamples.{at, moved_by_14}
use Rattle.certificate_definitions.specs.CarriedBack.{Correspond, IsCarriedBack, staying, move_back, AreCarriedBack}
use Rattle.certificate_definitions.specs.Makings.{IsMade}
use Rattle.certificate_definitions.proofs.Computed.{computed}
use Rattle.certificate_definitions.proofs.CarriedTests.{Correspond-passed, IsCarriedBack-passed}

-- `32 0 13` on the table of four
abbrev pub three_tets : List Row
three_tets =
    row (by 1 21) (by 1 21) (by 1 21) (by 2 7)
    ∷ row (by 2 0) (by 0 21) (by 0 21) (by 0 21)
    ∷ row (by 1 0) (by 2 5) (by 0 7) (by 2 5) ∷ []

pub three_tets_table : IsTable three_tets
unfolding computed
three_tets_table = table_from three_tets refl refl refl

pub moved_by_32 : IsMoved four_tets (at 0 (1 ∷ 3 ∷ [])) three_tets
unfolding computed
moved_by_32 = IsMoved-passed four_tets (at 0 (1 ∷ 3 ∷ [])) three_tets (record { core = refl; legal = refl; length_is = refl; fours = refl; inner = refl; outer = refl })

-- the tables that result from the inverse moves `23 1 0` and then `41 3 2`
abbrev pub four_again : List Row
four_again =
    row (by 3 18) (by 1 10) (by 2 7) (by 2 4)
    ∷ row (by 2 0) (by 3 6) (by 3 6) (by 0 13)
    ∷ row (by 1 0) (by 3 0) (by 0 3) (by 0 7)
    ∷ row (by 1 6) (by 2 0) (by 1 6) (by 0 9) ∷ []

abbrev pub sphere_again : List Row
sphere_again = row (by 0 21) (by 0 22) (by 0 17) (by 0 21) ∷ []

pub four_again_table : IsTable four_again
unfolding computed
four_again_table = table_from four_again refl refl refl

pub moved_by_23 : IsMoved three_tets (at 1 (1 ∷ 2 ∷ 3 ∷ [])) four_again
unfolding computed
moved_by_23 = IsMoved-passed three_tets (at 1 (1 ∷ 2 ∷ 3 ∷ [])) four_again (record { core = refl; legal = refl; length_is = refl; fours = refl; inner = refl; outer = refl })

pub moved_by_41 : IsMoved four_again (at 3 (2 ∷ [])) sphere_again
unfolding computed
moved_by_41 = IsMoved-passed four_again (at 3 (2 ∷ [])) sphere_again (record { core = refl; legal = refl; length_is = refl; fours = refl; inner = refl; outer = refl })

-- the images of the tetrahedra 0 to 3 of the table of four are 3, 1, 0 and 2, and that of the sphere's is itself
abbrev pub word : ℕ → List ℕ
word i = slice_index_or words i []

abbrev pub four_by : Relabelling
four_by = record { images = 3 ∷ 1 ∷ 0 ∷ 2 ∷ []; perms = word 4 ∷ word 10 ∷ word 0 ∷ word 7 ∷ [] }

abbrev pub sphere_by : Relabelling
sphere_by = record { images = 0 ∷ []; perms = word 19 ∷ [] }

four_each : (P : List ℕ → Type 0) → P (word 4) → P (word 10) → P (word 0) → P (word 7) → All P four_by.perms
four_each P a b c d zero e l = a
four_each P a b c d (suc zero) e l = b
four_each P a b c d (suc (suc zero)) e l = c
four_each P a b c d (suc (suc (suc zero))) e l = d
four_each P a b c d (suc (suc (suc (suc k)))) e l = absurd (omega arith)

four_relabels : IsRelabelling 4 four_by
unfolding computed
four_relabels = record {
  images = record { moves = (2, 3) ∷ (0, 2) ∷ []; below = (omega arith, omega arith, (omega arith, omega arith, tt)); is = refl };
  perms = refl;
  permutes = four_each IsPermutationOfFour refl refl refl refl;
}

pub sphere_relabels : IsRelabelling 1 sphere_by
unfolding computed
sphere_relabels = record { images = record { moves = []; below = tt; is = refl }; perms = refl; permutes = λ k d l. one_each k d l }
  where
    one_each : (k : ℕ) (d : List ℕ) → k < 1 → IsPermutationOfFour (get_or sphere_by.perms k d)
    one_each zero d l = refl
    one_each (suc k) d l = absurd (omega arith)

-- a relabelling carries the table of four to the result of the first inverse move, and the sphere to that of the second
four_carried : Carries four_by four_tets four_again
unfolding computed
four_carried = Carries-passed four_by four_tets four_again refl refl refl

sphere_carried : Carries sphere_by sphere sphere_again
unfolding computed
sphere_carried = Carries-passed sphere_by sphere sphere_again refl refl refl

-- the corresponding labels of the steps; the second step adds two facets and the first one four
labels_32 : Correspond four_tets (at 0 (1 ∷ 3 ∷ [])) three_tets (at 1 (1 ∷ 2 ∷ 3 ∷ [])) (staying 3) (4 ∷ 3 ∷ 0 ∷ 1 ∷ 2 ∷ [])
unfolding computed
labels_32 = Correspond-passed four_tets (at 0 (1 ∷ 3 ∷ [])) three_tets (at 1 (1 ∷ 2 ∷ 3 ∷ [])) (staying 3) (4 ∷ 3 ∷ 0 ∷ 1 ∷ 2 ∷ []) refl refl

labels_14 : Correspond sphere (at 0 four) four_again (at 3 (2 ∷ [])) four_by (4 ∷ 1 ∷ 3 ∷ 2 ∷ 0 ∷ [])
unfolding computed
labels_14 = Correspond-passed sphere (at 0 four) four_again (at 3 (2 ∷ [])) four_by (4 ∷ 1 ∷ 3 ∷ 2 ∷ 0 ∷ []) refl refl

back_32 : IsCarriedBack four_tets (at 0 (1 ∷ 3 ∷ [])) three_tets (at 1 (1 ∷ 2 ∷ 3 ∷ [])) (staying 3) four_by
unfolding computed
back_32 = IsCarriedBack-passed four_tets (at 0 (1 ∷ 3 ∷ [])) three_tets (at 1 (1 ∷ 2 ∷ 3 ∷ [])) (staying 3) four_by (4 ∷ 3 ∷ 0 ∷ 1 ∷ 2 ∷ []) labels_32 four_relabels refl refl

back_14 : IsCarriedBack sphere (at 0 four) four_again (at 3 (2 ∷ [])) four_by sphere_by
unfolding computed
back_14 = IsCarriedBack-passed sphere (at 0 four) four_again (at 3 (2 ∷ [])) four_by sphere_by (4 ∷ 1 ∷ 3 ∷ 2 ∷ 0 ∷ []) labels_14 sphere_relabels refl refl

-- the inverse moves on the relabelled tables
moves_back : (move_back four_tets (at 0 (1 ∷ 3 ∷ [])) (staying 3) ≡ at 1 (1 ∷ 2 ∷ 3 ∷ [])) × (move_back sphere (at 0 four) four_by ≡ at 3 (2 ∷ [])) × (inverse_move 1 (at 0 four) ≡ at 0 (3 ∷ []))
unfolding computed
moves_back = (refl, refl, refl)

-- the certificate is `23 1 0` and `41 3 2`
made : IsMade 0 2 three_tets (at 1 (1 ∷ 2 ∷ 3 ∷ []) ∷ at 3 (2 ∷ []) ∷ [])
unfolding computed
made = (
  at 0 four ∷ at 0 (1 ∷ 3 ∷ []) ∷ [],
  (1, refl, refl, (four_tets, record { table = sphere_table; moved = moved_by_14; accepted = refl }, (0, refl, refl, (three_tets, record { table = four_tets_table; moved = moved_by_32; accepted = refl }, (refl, inl refl))))),
  (sphere_again, sphere_by, (four_tets, record { table = sphere_table; moved = moved_by_14; accepted = refl }, (at 1 (1 ∷ 2 ∷ 3 ∷ []) ∷ [], four_again, four_by, second, refl, record { table = four_again_table; moved = moved_by_41; accepted = refl }, back_14))),
)
  where
    second : AreCarriedBack four_tets (at 0 (1 ∷ 3 ∷ []) ∷ []) three_tets (at 1 (1 ∷ 2 ∷ 3 ∷ []) ∷ []) four_again four_by
    second = (three_tets, record { table = four_tets_table; moved = moved_by_32; accepted = refl }, ([], three_tets, staying 3, (refl, refl, refl, refl), refl, record { table = three_tets_table; moved = moved_by_23; accepted = refl }, back_32))
