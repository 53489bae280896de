-- The making with the seed 9 and five moves, which has two moves 3-2 one after another, computed.
use Rattle.std.proofs.Common.{List, [], ◌∷◌, refl, arith, inl}
use Rattle.std.proofs.lemmas.List.Sums.{AllPass-from_list_all}
use Rattle.table_definitions.specs.Permutation.{is_permutation, four}
use Rattle.table_definitions.specs.Table.{Row, IsTable}
use Rattle.table_definitions.specs.Relabelling.{Relabelling, IsRelabelling}
use Rattle.table_definitions.proofs.Tables.{row, by, sphere, four_tets}
use Rattle.table_definitions.proofs.Tests.{table_from}
use Rattle.table_definitions.proofs.RelationExamples.{sphere_table, four_tets_table}
use Rattle.move_definitions.specs.Moves.{IsMoved}
use Rattle.move_definitions.proofs.MoveTests.{IsMoved-passed}
use Rattle.move_definitions.proofs.RelationExamples.{at, moved_by_14}
use Rattle.certificate_definitions.specs.CarriedBack.{IsCarriedBack, staying, AreCarriedBack}
use Rattle.certificate_definitions.specs.Makings.{IsMade}
use Rattle.certificate_definitions.proofs.Computed.{computed}
use Rattle.certificate_definitions.proofs.CarriedTests.{Correspond-passed, IsCarriedBack-passed}
use Rattle.certificate_definitions.proofs.MadeExamples.{word, sphere_again, sphere_by, sphere_relabels}

-- the tables that are made
abbrev made_2 : List Row
made_2 = row (by 1 21) (by 1 21) (by 1 21) (by 2 0) ∷ row (by 2 0) (by 0 21) (by 0 21) (by 0 21) ∷ row (by 1 0) (by 2 22) (by 2 17) (by 0 0) ∷ []

abbrev made_3 : List Row
made_3 = row (by 1 0) (by 0 5) (by 1 11) (by 0 5) ∷ row (by 0 0) (by 1 5) (by 0 19) (by 1 5) ∷ []

abbrev made_4 : List Row
made_4 = row (by 1 0) (by 2 6) (by 1 0) (by 2 1) ∷ row (by 0 0) (by 2 0) (by 0 0) (by 2 0) ∷ row (by 0 6) (by 1 0) (by 0 1) (by 1 0) ∷ []

abbrev made_5 : List Row
made_5 = row (by 1 0) (by 0 5) (by 1 4) (by 0 5) ∷ row (by 0 0) (by 0 3) (by 1 1) (by 1 1) ∷ []

-- the tables that result from the inverse moves, and the relabellings
abbrev now_4 : List Row
now_4 = row (by 1 0) (by 2 6) (by 1 7) (by 2 6) ∷ row (by 0 0) (by 2 0) (by 2 0) (by 0 7) ∷ row (by 0 6) (by 1 0) (by 1 0) (by 0 6) ∷ []

abbrev by_4 : Relabelling
by_4 = record { images = 0 ∷ 2 ∷ 1 ∷ []; perms = word 7 ∷ word 1 ∷ word 1 ∷ [] }

abbrev now_3 : List Row
now_3 = row (by 1 0) (by 0 2) (by 0 2) (by 1 3) ∷ row (by 0 0) (by 0 4) (by 1 1) (by 1 1) ∷ []

abbrev by_3 : Relabelling
by_3 = record { images = 0 ∷ 1 ∷ []; perms = word 22 ∷ word 10 ∷ [] }

abbrev now_2 : List Row
now_2 = row (by 1 0) (by 2 6) (by 0 9) (by 0 18) ∷ row (by 0 0) (by 2 0) (by 2 0) (by 2 0) ∷ row (by 0 6) (by 1 0) (by 1 0) (by 1 0) ∷ []

abbrev by_2 : Relabelling
by_2 = record { images = 1 ∷ 2 ∷ 0 ∷ []; perms = word 11 ∷ word 5 ∷ word 11 ∷ [] }

abbrev now_1 : List Row
now_1 = row (by 1 16) (by 1 16) (by 2 13) (by 3 12) ∷ row (by 2 0) (by 3 6) (by 0 16) (by 0 16) ∷ row (by 1 0) (by 3 0) (by 3 19) (by 0 10) ∷ row (by 1 6) (by 2 0) (by 2 11) (by 0 8) ∷ []

abbrev by_1 : Relabelling
by_1 = record { images = 0 ∷ 1 ∷ 3 ∷ 2 ∷ []; perms = word 11 ∷ word 20 ∷ word 18 ∷ word 18 ∷ [] }

-- these are tables
made_table_2 : IsTable made_2
unfolding computed
made_table_2 = table_from made_2 refl refl refl

made_table_3 : IsTable made_3
unfolding computed
made_table_3 = table_from made_3 refl refl refl

made_table_4 : IsTable made_4
unfolding computed
made_table_4 = table_from made_4 refl refl refl

made_table_5 : IsTable made_5
unfolding computed
made_table_5 = table_from made_5 refl refl refl

now_table_4 : IsTable now_4
unfolding computed
now_table_4 = table_from now_4 refl refl refl

now_table_3 : IsTable now_3
unfolding computed
now_table_3 = table_from now_3 refl refl refl

now_table_2 : IsTable now_2
unfolding computed
now_table_2 = table_from now_2 refl refl refl

now_table_1 : IsTable now_1
unfolding computed
now_table_1 = table_from now_1 refl refl refl

-- the moves and their inverses result in these tables
made_by_1 : IsMoved four_tets (at 1 (0 ∷ 3 ∷ [])) made_2
unfolding computed
made_by_1 = IsMoved-passed four_tets (at 1 (0 ∷ 3 ∷ [])) made_2 (record { core = refl; legal = refl; length_is = refl; fours = refl; inner = refl; outer = refl })

made_by_2 : IsMoved made_2 (at 0 (1 ∷ 2 ∷ [])) made_3
unfolding computed
made_by_2 = IsMoved-passed made_2 (at 0 (1 ∷ 2 ∷ [])) made_3 (record { core = refl; legal = refl; length_is = refl; fours = refl; inner = refl; outer = refl })

made_by_3 : IsMoved made_3 (at 0 (0 ∷ 1 ∷ 3 ∷ [])) made_4
unfolding computed
made_by_3 = IsMoved-passed made_3 (at 0 (0 ∷ 1 ∷ 3 ∷ [])) made_4 (record { core = refl; legal = refl; length_is = refl; fours = refl; inner = refl; outer = refl })

made_by_4 : IsMoved made_4 (at 1 (2 ∷ 3 ∷ [])) made_5
unfolding computed
made_by_4 = IsMoved-passed made_4 (at 1 (2 ∷ 3 ∷ [])) made_5 (record { core = refl; legal = refl; length_is = refl; fours = refl; inner = refl; outer = refl })

led_back_4 : IsMoved made_5 (at 0 (1 ∷ 2 ∷ 3 ∷ [])) now_4
unfolding computed
led_back_4 = IsMoved-passed made_5 (at 0 (1 ∷ 2 ∷ 3 ∷ [])) now_4 (record { core = refl; legal = refl; length_is = refl; fours = refl; inner = refl; outer = refl })

led_back_3 : IsMoved now_4 (at 0 (2 ∷ 3 ∷ [])) now_3
unfolding computed
led_back_3 = IsMoved-passed now_4 (at 0 (2 ∷ 3 ∷ [])) now_3 (record { core = refl; legal = refl; length_is = refl; fours = refl; inner = refl; outer = refl })

led_back_2 : IsMoved now_3 (at 0 (0 ∷ 1 ∷ 2 ∷ [])) now_2
unfolding computed
led_back_2 = IsMoved-passed now_3 (at 0 (0 ∷ 1 ∷ 2 ∷ [])) now_2 (record { core = refl; legal = refl; length_is = refl; fours = refl; inner = refl; outer = refl })

led_back_1 : IsMoved now_2 (at 2 (1 ∷ 2 ∷ 3 ∷ [])) now_1
unfolding computed
led_back_1 = IsMoved-passed now_2 (at 2 (1 ∷ 2 ∷ 3 ∷ [])) now_1 (record { core = refl; legal = refl; length_is = refl; fours = refl; inner = refl; outer = refl })

led_back_0 : IsMoved now_1 (at 0 (0 ∷ [])) sphere_again
unfolding computed
led_back_0 = IsMoved-passed now_1 (at 0 (0 ∷ [])) sphere_again (record { core = refl; legal = refl; length_is = refl; fours = refl; inner = refl; outer = refl })

-- the relabellings carry the one tables to the others
relabels_4 : IsRelabelling 3 by_4
unfolding computed
relabels_4 = record {
  images = record { moves = (1, 2) ∷ []; below = (omega arith, omega arith, tt); is = refl };
  perms = refl;
  permutes = λ k d l. AllPass-from_list_all is_permutation by_4.perms refl k d l;
}

carried_4 : IsCarriedBack made_4 (at 1 (2 ∷ 3 ∷ [])) made_5 (at 0 (1 ∷ 2 ∷ 3 ∷ [])) (staying 2) by_4
unfolding computed
carried_4 = IsCarriedBack-passed made_4 (at 1 (2 ∷ 3 ∷ [])) made_5 (at 0 (1 ∷ 2 ∷ 3 ∷ [])) (staying 2) by_4 (4 ∷ 3 ∷ 0 ∷ 1 ∷ 2 ∷ []) (Correspond-passed made_4 (at 1 (2 ∷ 3 ∷ [])) made_5 (at 0 (1 ∷ 2 ∷ 3 ∷ [])) (staying 2) (4 ∷ 3 ∷ 0 ∷ 1 ∷ 2 ∷ []) refl refl) relabels_4 refl refl

relabels_3 : IsRelabelling 2 by_3
unfolding computed
relabels_3 = record {
  images = record { moves = []; below = tt; is = refl };
  perms = refl;
  permutes = λ k d l. AllPass-from_list_all is_permutation by_3.perms refl k d l;
}

carried_3 : IsCarriedBack made_3 (at 0 (0 ∷ 1 ∷ 3 ∷ [])) now_4 (at 0 (2 ∷ 3 ∷ [])) by_4 by_3
unfolding computed
carried_3 = IsCarriedBack-passed made_3 (at 0 (0 ∷ 1 ∷ 3 ∷ [])) now_4 (at 0 (2 ∷ 3 ∷ [])) by_4 by_3 (4 ∷ 3 ∷ 2 ∷ 1 ∷ 0 ∷ []) (Correspond-passed made_3 (at 0 (0 ∷ 1 ∷ 3 ∷ [])) now_4 (at 0 (2 ∷ 3 ∷ [])) by_4 (4 ∷ 3 ∷ 2 ∷ 1 ∷ 0 ∷ []) refl refl) relabels_3 refl refl

relabels_2 : IsRelabelling 3 by_2
unfolding computed
relabels_2 = record {
  images = record { moves = (1, 2) ∷ (0, 2) ∷ []; below = (omega arith, omega arith, (omega arith, omega arith, tt)); is = refl };
  perms = refl;
  permutes = λ k d l. AllPass-from_list_all is_permutation by_2.perms refl k d l;
}

carried_2 : IsCarriedBack made_2 (at 0 (1 ∷ 2 ∷ [])) now_3 (at 0 (0 ∷ 1 ∷ 2 ∷ [])) by_3 by_2
unfolding computed
carried_2 = IsCarriedBack-passed made_2 (at 0 (1 ∷ 2 ∷ [])) now_3 (at 0 (0 ∷ 1 ∷ 2 ∷ [])) by_3 by_2 (4 ∷ 3 ∷ 2 ∷ 0 ∷ 1 ∷ []) (Correspond-passed made_2 (at 0 (1 ∷ 2 ∷ [])) now_3 (at 0 (0 ∷ 1 ∷ 2 ∷ [])) by_3 (4 ∷ 3 ∷ 2 ∷ 0 ∷ 1 ∷ []) refl refl) relabels_2 refl refl

relabels_1 : IsRelabelling 4 by_1
unfolding computed
relabels_1 = record {
  images = record { moves = (2, 3) ∷ []; below = (omega arith, omega arith, tt); is = refl };
  perms = refl;
  permutes = λ k d l. AllPass-from_list_all is_permutation by_1.perms refl k d l;
}

carried_1 : IsCarriedBack four_tets (at 1 (0 ∷ 3 ∷ [])) now_2 (at 2 (1 ∷ 2 ∷ 3 ∷ [])) by_2 by_1
unfolding computed
carried_1 = IsCarriedBack-passed four_tets (at 1 (0 ∷ 3 ∷ [])) now_2 (at 2 (1 ∷ 2 ∷ 3 ∷ [])) by_2 by_1 (4 ∷ 3 ∷ 2 ∷ 1 ∷ 0 ∷ []) (Correspond-passed four_tets (at 1 (0 ∷ 3 ∷ [])) now_2 (at 2 (1 ∷ 2 ∷ 3 ∷ [])) by_2 (4 ∷ 3 ∷ 2 ∷ 1 ∷ 0 ∷ []) refl refl) relabels_1 refl refl

carried_0 : IsCarriedBack sphere (at 0 four) now_1 (at 0 (0 ∷ [])) by_1 sphere_by
unfolding computed
carried_0 = IsCarriedBack-passed sphere (at 0 four) now_1 (at 0 (0 ∷ [])) by_1 sphere_by (4 ∷ 1 ∷ 3 ∷ 2 ∷ 0 ∷ []) (Correspond-passed sphere (at 0 four) now_1 (at 0 (0 ∷ [])) by_1 (4 ∷ 1 ∷ 3 ∷ 2 ∷ 0 ∷ []) refl refl) sphere_relabels refl refl

-- this is a making with its certificate
way_5 : AreCarriedBack made_5 [] made_5 [] made_5 (staying 2)
way_5 = (refl, refl, refl, refl)

way_4 : AreCarriedBack made_4 ((at 1 (2 ∷ 3 ∷ [])) ∷ []) made_5 ((at 0 (1 ∷ 2 ∷ 3 ∷ [])) ∷ []) now_4 by_4
unfolding computed
way_4 = (made_5, record { table = made_table_4; moved = made_by_4; accepted = refl }, ([], made_5, (staying 2), way_5, refl, record { table = made_table_5; moved = led_back_4; accepted = refl }, carried_4))

way_3 : AreCarriedBack made_3 ((at 0 (0 ∷ 1 ∷ 3 ∷ [])) ∷ (at 1 (2 ∷ 3 ∷ [])) ∷ []) made_5 ((at 0 (1 ∷ 2 ∷ 3 ∷ [])) ∷ (at 0 (2 ∷ 3 ∷ [])) ∷ []) now_3 by_3
unfolding computed
way_3 = (made_4, record { table = made_table_3; moved = made_by_3; accepted = refl }, ((at 0 (1 ∷ 2 ∷ 3 ∷ [])) ∷ [], now_4, by_4, way_4, refl, record { table = now_table_4; moved = led_back_3; accepted = refl }, carried_3))

way_2 : AreCarriedBack made_2 ((at 0 (1 ∷ 2 ∷ [])) ∷ (at 0 (0 ∷ 1 ∷ 3 ∷ [])) ∷ (at 1 (2 ∷ 3 ∷ [])) ∷ []) made_5 ((at 0 (1 ∷ 2 ∷ 3 ∷ [])) ∷ (at 0 (2 ∷ 3 ∷ [])) ∷ (at 0 (0 ∷ 1 ∷ 2 ∷ [])) ∷ []) now_2 by_2
unfolding computed
way_2 = (made_3, record { table = made_table_2; moved = made_by_2; accepted = refl }, ((at 0 (1 ∷ 2 ∷ 3 ∷ [])) ∷ (at 0 (2 ∷ 3 ∷ [])) ∷ [], now_3, by_3, way_3, refl, record { table = now_table_3; moved = led_back_2; accepted = refl }, carried_2))

way_1 : AreCarriedBack four_tets ((at 1 (0 ∷ 3 ∷ [])) ∷ (at 0 (1 ∷ 2 ∷ [])) ∷ (at 0 (0 ∷ 1 ∷ 3 ∷ [])) ∷ (at 1 (2 ∷ 3 ∷ [])) ∷ []) made_5 ((at 0 (1 ∷ 2 ∷ 3 ∷ [])) ∷ (at 0 (2 ∷ 3 ∷ [])) ∷ (at 0 (0 ∷ 1 ∷ 2 ∷ [])) ∷ (at 2 (1 ∷ 2 ∷ 3 ∷ [])) ∷ []) now_1 by_1
unfolding computed
way_1 = (made_2, record { table = four_tets_table; moved = made_by_1; accepted = refl }, ((at 0 (1 ∷ 2 ∷ 3 ∷ [])) ∷ (at 0 (2 ∷ 3 ∷ [])) ∷ (at 0 (0 ∷ 1 ∷ 2 ∷ [])) ∷ [], now_2, by_2, way_2, refl, record { table = now_table_2; moved = led_back_1; accepted = refl }, carried_1))

way_0 : AreCarriedBack sphere ((at 0 four) ∷ (at 1 (0 ∷ 3 ∷ [])) ∷ (at 0 (1 ∷ 2 ∷ [])) ∷ (at 0 (0 ∷ 1 ∷ 3 ∷ [])) ∷ (at 1 (2 ∷ 3 ∷ [])) ∷ []) made_5 ((at 0 (1 ∷ 2 ∷ 3 ∷ [])) ∷ (at 0 (2 ∷ 3 ∷ [])) ∷ (at 0 (0 ∷ 1 ∷ 2 ∷ [])) ∷ (at 2 (1 ∷ 2 ∷ 3 ∷ [])) ∷ (at 0 (0 ∷ [])) ∷ []) sphere_again sphere_by
unfolding computed
way_0 = (four_tets, record { table = sphere_table; moved = moved_by_14; accepted = refl }, ((at 0 (1 ∷ 2 ∷ 3 ∷ [])) ∷ (at 0 (2 ∷ 3 ∷ [])) ∷ (at 0 (0 ∷ 1 ∷ 2 ∷ [])) ∷ (at 2 (1 ∷ 2 ∷ 3 ∷ [])) ∷ [], now_1, by_1, way_1, refl, record { table = now_table_1; moved = led_back_0; accepted = refl }, carried_0))

pub making : IsMade 9 5 made_5 ((at 0 (1 ∷ 2 ∷ 3 ∷ [])) ∷ (at 0 (2 ∷ 3 ∷ [])) ∷ (at 0 (0 ∷ 1 ∷ 2 ∷ [])) ∷ (at 2 (1 ∷ 2 ∷ 3 ∷ [])) ∷ (at 0 (0 ∷ [])) ∷ [])
unfolding computed
making = ((at 0 four) ∷ (at 1 (0 ∷ 3 ∷ [])) ∷ (at 0 (1 ∷ 2 ∷ [])) ∷ (at 0 (0 ∷ 1 ∷ 3 ∷ [])) ∷ (at 1 (2 ∷ 3 ∷ [])) ∷ [], (4, refl, refl, (four_tets, record { table = sphere_table; moved = moved_by_14; accepted = refl }, (3, refl, refl, (made_2, record { table = four_tets_table; moved = made_by_1; accepted = refl }, (2, refl, refl, (made_3, record { table = made_table_2; moved = made_by_2; accepted = refl }, (1, refl, refl, (made_4, record { table = made_table_3; moved = made_by_3; accepted = refl }, (0, refl, refl, (made_5, record { table = made_table_4; moved = made_by_4; accepted = refl }, (refl, inl refl))))))))))), (sphere_again, sphere_by, way_0))
