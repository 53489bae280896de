-- The making with the seed 6 and four moves, which has moves 2-3, 3-2 and 2-3, computed.
use Rattle.std.proofs.Common.{List, [], ◌∷◌, refl, arith, inl}
use Rattle.std.proofs.lemmas.List.Sums.{AllPass-from_list_all}
use Rattle.table_definitions.specs.Permutation.{is_permutation, four}
use Rattle.table_definitions.specs.Table.{Row, IsTable}
use Rattle.table_definitions.specs.Relabelling.{Relabelling, IsRelabelling}
use Rattle.table_definitions.proofs.Tables.{row, by, sphere, four_tets}
use Rattle.table_definitions.proofs.Tests.{table_from}
use Rattle.table_definitions.proofs.RelationExamples.{sphere_table, four_tets_table}
use Rattle.move_definitions.specs.Moves.{IsMoved}
use Rattle.move_definitions.proofs.MoveTests.{IsMoved-passed}
use Rattle.move_definitions.proofs.RelationExamples.{at, moved_by_14}
use Rattle.certificate_definitions.specs.CarriedBack.{IsCarriedBack, staying, AreCarriedBack}
use Rattle.certificate_definitions.specs.Makings.{IsMade}
use Rattle.certificate_definitions.proofs.Computed.{computed}
use Rattle.certificate_definitions.proofs.CarriedTests.{Correspond-passed, IsCarriedBack-passed}
use Rattle.certificate_definitions.proofs.MadeExamples.{word}

abbrev other_2 : List Row
other_2 = row (by 2 16) (by 2 16) (by 1 8) (by 4 4) ∷ row (by 0 12) (by 3 3) (by 3 3) (by 4 6) ∷ row (by 3 0) (by 4 6) (by 0 16) (by 0 16) ∷ row (by 2 0) (by 4 0) (by 1 4) (by 1 4) ∷ row (by 2 6) (by 3 0) (by 0 3) (by 1 6) ∷ []

abbrev other_3 : List Row
other_3 = row (by 2 6) (by 3 0) (by 1 8) (by 2 6) ∷ row (by 0 12) (by 2 8) (by 3 6) (by 3 14) ∷ row (by 3 0) (by 0 6) (by 1 12) (by 0 6) ∷ row (by 2 0) (by 0 0) (by 1 6) (by 1 14) ∷ []

abbrev other_4 : List Row
other_4 = row (by 1 0) (by 2 5) (by 2 5) (by 4 6) ∷ row (by 0 0) (by 3 5) (by 3 5) (by 4 7) ∷ row (by 3 0) (by 4 6) (by 0 5) (by 0 5) ∷ row (by 2 0) (by 4 0) (by 1 5) (by 1 5) ∷ row (by 2 6) (by 3 0) (by 1 7) (by 0 6) ∷ []

-- the tables that result from the inverse moves, and the relabellings
abbrev now_3 : List Row
now_3 = row (by 1 0) (by 3 10) (by 2 7) (by 3 10) ∷ row (by 0 0) (by 3 20) (by 2 18) (by 2 10) ∷ row (by 3 0) (by 1 9) (by 1 13) (by 0 7) ∷ row (by 2 0) (by 1 15) (by 0 13) (by 0 13) ∷ []

abbrev by_3 : Relabelling
by_3 = record { images = 3 ∷ 2 ∷ 0 ∷ 1 ∷ []; perms = word 20 ∷ word 4 ∷ word 0 ∷ word 0 ∷ [] }

abbrev now_2 : List Row
now_2 = row (by 1 0) (by 3 2) (by 4 11) (by 3 2) ∷ row (by 0 0) (by 2 2) (by 4 9) (by 2 2) ∷ row (by 3 0) (by 4 6) (by 1 2) (by 1 2) ∷ row (by 2 0) (by 4 0) (by 0 2) (by 0 2) ∷ row (by 2 6) (by 3 0) (by 0 19) (by 1 18) ∷ []

abbrev by_2 : Relabelling
by_2 = record { images = 1 ∷ 0 ∷ 2 ∷ 3 ∷ 4 ∷ []; perms = word 20 ∷ word 4 ∷ word 1 ∷ word 1 ∷ word 1 ∷ [] }

abbrev now_1 : List Row
now_1 = row (by 1 0) (by 2 21) (by 2 6) (by 3 19) ∷ row (by 0 0) (by 2 11) (by 3 6) (by 3 6) ∷ row (by 3 0) (by 0 21) (by 0 6) (by 1 19) ∷ row (by 2 0) (by 0 11) (by 1 6) (by 1 6) ∷ []

abbrev by_1 : Relabelling
by_1 = record { images = 1 ∷ 3 ∷ 2 ∷ 0 ∷ []; perms = word 20 ∷ word 18 ∷ word 18 ∷ word 4 ∷ [] }

abbrev now_0 : List Row
now_0 = row (by 0 9) (by 0 18) (by 0 1) (by 0 1) ∷ []

abbrev by_0 : Relabelling
by_0 = record { images = 0 ∷ []; perms = word 23 ∷ [] }

other_table_2 : IsTable other_2
unfolding computed
other_table_2 = table_from other_2 refl refl refl

other_table_3 : IsTable other_3
unfolding computed
other_table_3 = table_from other_3 refl refl refl

other_table_4 : IsTable other_4
unfolding computed
other_table_4 = table_from other_4 refl refl refl

now_table_3 : IsTable now_3
unfolding computed
now_table_3 = table_from now_3 refl refl refl

now_table_2 : IsTable now_2
unfolding computed
now_table_2 = table_from now_2 refl refl refl

now_table_1 : IsTable now_1
unfolding computed
now_table_1 = table_from now_1 refl refl refl

other_by_1 : IsMoved four_tets (at 2 (0 ∷ 2 ∷ 3 ∷ [])) other_2
unfolding computed
other_by_1 = IsMoved-passed four_tets (at 2 (0 ∷ 2 ∷ 3 ∷ [])) other_2 (record { core = refl; legal = refl; length_is = refl; fours = refl; inner = refl; outer = refl })

other_by_2 : IsMoved other_2 (at 4 (2 ∷ 3 ∷ [])) other_3
unfolding computed
other_by_2 = IsMoved-passed other_2 (at 4 (2 ∷ 3 ∷ [])) other_3 (record { core = refl; legal = refl; length_is = refl; fours = refl; inner = refl; outer = refl })

other_by_3 : IsMoved other_3 (at 0 (0 ∷ 1 ∷ 3 ∷ [])) other_4
unfolding computed
other_by_3 = IsMoved-passed other_3 (at 0 (0 ∷ 1 ∷ 3 ∷ [])) other_4 (record { core = refl; legal = refl; length_is = refl; fours = refl; inner = refl; outer = refl })

led_back_3 : IsMoved other_4 (at 2 (2 ∷ 3 ∷ [])) now_3
unfolding computed
led_back_3 = IsMoved-passed other_4 (at 2 (2 ∷ 3 ∷ [])) now_3 (record { core = refl; legal = refl; length_is = refl; fours = refl; inner = refl; outer = refl })

led_back_2 : IsMoved now_3 (at 0 (1 ∷ 2 ∷ 3 ∷ [])) now_2
unfolding computed
led_back_2 = IsMoved-passed now_3 (at 0 (1 ∷ 2 ∷ 3 ∷ [])) now_2 (record { core = refl; legal = refl; length_is = refl; fours = refl; inner = refl; outer = refl })

led_back_1 : IsMoved now_2 (at 2 (2 ∷ 3 ∷ [])) now_1
unfolding computed
led_back_1 = IsMoved-passed now_2 (at 2 (2 ∷ 3 ∷ [])) now_1 (record { core = refl; legal = refl; length_is = refl; fours = refl; inner = refl; outer = refl })

led_back_0 : IsMoved now_1 (at 1 (2 ∷ [])) now_0
unfolding computed
led_back_0 = IsMoved-passed now_1 (at 1 (2 ∷ [])) now_0 (record { core = refl; legal = refl; length_is = refl; fours = refl; inner = refl; outer = refl })

-- the relabellings carry the one tables to the others
relabels_3 : IsRelabelling 4 by_3
unfolding computed
relabels_3 = record {
  images = record { moves = (2, 3) ∷ (1, 3) ∷ (0, 2) ∷ []; below = (omega arith, omega arith, (omega arith, omega arith, (omega arith, omega arith, tt))); is = refl };
  perms = refl;
  permutes = λ k d l. AllPass-from_list_all is_permutation by_3.perms refl k d l;
}

carried_3 : IsCarriedBack other_3 (at 0 (0 ∷ 1 ∷ 3 ∷ [])) other_4 (at 2 (2 ∷ 3 ∷ [])) (staying 5) by_3
unfolding computed
carried_3 = IsCarriedBack-passed other_3 (at 0 (0 ∷ 1 ∷ 3 ∷ [])) other_4 (at 2 (2 ∷ 3 ∷ [])) (staying 5) by_3 (4 ∷ 2 ∷ 3 ∷ 0 ∷ 1 ∷ []) (Correspond-passed other_3 (at 0 (0 ∷ 1 ∷ 3 ∷ [])) other_4 (at 2 (2 ∷ 3 ∷ [])) (staying 5) (4 ∷ 2 ∷ 3 ∷ 0 ∷ 1 ∷ []) refl refl) relabels_3 refl refl

relabels_2 : IsRelabelling 5 by_2
unfolding computed
relabels_2 = record {
  images = record { moves = (0, 1) ∷ []; below = (omega arith, omega arith, tt); is = refl };
  perms = refl;
  permutes = λ k d l. AllPass-from_list_all is_permutation by_2.perms refl k d l;
}

carried_2 : IsCarriedBack other_2 (at 4 (2 ∷ 3 ∷ [])) now_3 (at 0 (1 ∷ 2 ∷ 3 ∷ [])) by_3 by_2
unfolding computed
carried_2 = IsCarriedBack-passed other_2 (at 4 (2 ∷ 3 ∷ [])) now_3 (at 0 (1 ∷ 2 ∷ 3 ∷ [])) by_3 by_2 (4 ∷ 3 ∷ 0 ∷ 1 ∷ 2 ∷ []) (Correspond-passed other_2 (at 4 (2 ∷ 3 ∷ [])) now_3 (at 0 (1 ∷ 2 ∷ 3 ∷ [])) by_3 (4 ∷ 3 ∷ 0 ∷ 1 ∷ 2 ∷ []) refl refl) relabels_2 refl refl

relabels_1 : IsRelabelling 4 by_1
unfolding computed
relabels_1 = record {
  images = record { moves = (1, 3) ∷ (0, 3) ∷ []; below = (omega arith, omega arith, (omega arith, omega arith, tt)); is = refl };
  perms = refl;
  permutes = λ k d l. AllPass-from_list_all is_permutation by_1.perms refl k d l;
}

carried_1 : IsCarriedBack four_tets (at 2 (0 ∷ 2 ∷ 3 ∷ [])) now_2 (at 2 (2 ∷ 3 ∷ [])) by_2 by_1
unfolding computed
carried_1 = IsCarriedBack-passed four_tets (at 2 (0 ∷ 2 ∷ 3 ∷ [])) now_2 (at 2 (2 ∷ 3 ∷ [])) by_2 by_1 (4 ∷ 2 ∷ 3 ∷ 1 ∷ 0 ∷ []) (Correspond-passed four_tets (at 2 (0 ∷ 2 ∷ 3 ∷ [])) now_2 (at 2 (2 ∷ 3 ∷ [])) by_2 (4 ∷ 2 ∷ 3 ∷ 1 ∷ 0 ∷ []) refl refl) relabels_1 refl refl

relabels_0 : IsRelabelling 1 by_0
unfolding computed
relabels_0 = record {
  images = record { moves = []; below = tt; is = refl };
  perms = refl;
  permutes = λ k d l. AllPass-from_list_all is_permutation by_0.perms refl k d l;
}

carried_0 : IsCarriedBack sphere (at 0 four) now_1 (at 1 (2 ∷ [])) by_1 by_0
unfolding computed
carried_0 = IsCarriedBack-passed sphere (at 0 four) now_1 (at 1 (2 ∷ [])) by_1 by_0 (4 ∷ 3 ∷ 2 ∷ 1 ∷ 0 ∷ []) (Correspond-passed sphere (at 0 four) now_1 (at 1 (2 ∷ [])) by_1 (4 ∷ 3 ∷ 2 ∷ 1 ∷ 0 ∷ []) refl refl) relabels_0 refl refl

-- this is a making with its certificate
way_4 : AreCarriedBack other_4 [] other_4 [] other_4 (staying 5)
way_4 = (refl, refl, refl, refl)

way_3 : AreCarriedBack other_3 ((at 0 (0 ∷ 1 ∷ 3 ∷ [])) ∷ []) other_4 ((at 2 (2 ∷ 3 ∷ [])) ∷ []) now_3 by_3
unfolding computed
way_3 = (other_4, record { table = other_table_3; moved = other_by_3; accepted = refl }, ([], other_4, (staying 5), way_4, refl, record { table = other_table_4; moved = led_back_3; accepted = refl }, carried_3))

way_2 : AreCarriedBack other_2 ((at 4 (2 ∷ 3 ∷ [])) ∷ (at 0 (0 ∷ 1 ∷ 3 ∷ [])) ∷ []) other_4 ((at 2 (2 ∷ 3 ∷ [])) ∷ (at 0 (1 ∷ 2 ∷ 3 ∷ [])) ∷ []) now_2 by_2
unfolding computed
way_2 = (other_3, record { table = other_table_2; moved = other_by_2; accepted = refl }, ((at 2 (2 ∷ 3 ∷ [])) ∷ [], now_3, by_3, way_3, refl, record { table = now_table_3; moved = led_back_2; accepted = refl }, carried_2))

way_1 : AreCarriedBack four_tets ((at 2 (0 ∷ 2 ∷ 3 ∷ [])) ∷ (at 4 (2 ∷ 3 ∷ [])) ∷ (at 0 (0 ∷ 1 ∷ 3 ∷ [])) ∷ []) other_4 ((at 2 (2 ∷ 3 ∷ [])) ∷ (at 0 (1 ∷ 2 ∷ 3 ∷ [])) ∷ (at 2 (2 ∷ 3 ∷ [])) ∷ []) now_1 by_1
unfolding computed
way_1 = (other_2, record { table = four_tets_table; moved = other_by_1; accepted = refl }, ((at 2 (2 ∷ 3 ∷ [])) ∷ (at 0 (1 ∷ 2 ∷ 3 ∷ [])) ∷ [], now_2, by_2, way_2, refl, record { table = now_table_2; moved = led_back_1; accepted = refl }, carried_1))

way_0 : AreCarriedBack sphere ((at 0 four) ∷ (at 2 (0 ∷ 2 ∷ 3 ∷ [])) ∷ (at 4 (2 ∷ 3 ∷ [])) ∷ (at 0 (0 ∷ 1 ∷ 3 ∷ [])) ∷ []) other_4 ((at 2 (2 ∷ 3 ∷ [])) ∷ (at 0 (1 ∷ 2 ∷ 3 ∷ [])) ∷ (at 2 (2 ∷ 3 ∷ [])) ∷ (at 1 (2 ∷ [])) ∷ []) now_0 by_0
unfolding computed
way_0 = (four_tets, record { table = sphere_table; moved = moved_by_14; accepted = refl }, ((at 2 (2 ∷ 3 ∷ [])) ∷ (at 0 (1 ∷ 2 ∷ 3 ∷ [])) ∷ (at 2 (2 ∷ 3 ∷ [])) ∷ [], now_1, by_1, way_1, refl, record { table = now_table_1; moved = led_back_0; accepted = refl }, carried_0))

pub making : IsMade 6 4 other_4 ((at 2 (2 ∷ 3 ∷ [])) ∷ (at 0 (1 ∷ 2 ∷ 3 ∷ [])) ∷ (at 2 (2 ∷ 3 ∷ [])) ∷ (at 1 (2 ∷ [])) ∷ [])
unfolding computed
making = ((at 0 four) ∷ (at 2 (0 ∷ 2 ∷ 3 ∷ [])) ∷ (at 4 (2 ∷ 3 ∷ [])) ∷ (at 0 (0 ∷ 1 ∷ 3 ∷ [])) ∷ [], (3, refl, refl, (four_tets, record { table = sphere_table; moved = moved_by_14; accepted = refl }, (2, refl, refl, (other_2, record { table = four_tets_table; moved = other_by_1; accepted = refl }, (1, refl, refl, (other_3, record { table = other_table_2; moved = other_by_2; accepted = refl }, (0, refl, refl, (other_4, record { table = other_table_3; moved = other_by_3; accepted = refl }, (refl, inl refl))))))))), (now_0, by_0, way_0))
