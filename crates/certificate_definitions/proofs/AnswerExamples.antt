-- The answers to the tables of the examples.
use Rattle.std.proofs.Common.{◌≡◌, ℕ, zero, suc, ◌<◌, true, List, [], ◌∷◌, length, get_or, Some, Ok, Err, refl, arith, inl}
use Rattle.std.specs.Prelude.{◌%◌}
use Rattle.table_definitions.specs.Permutation.{four, IsPermutationOfFour, words}
use Rattle.std.specs.List.{slice_index_or}
use Rattle.table_definitions.specs.Table.{IsTable}
use Rattle.table_definitions.specs.Relabelling.{Relabelling, IsRelabelling}
use Rattle.table_definitions.proofs.Tests.{Carries-passed, table_from}
use Rattle.table_definitions.proofs.RelationExamples.{sphere_table, four_tets_table}
use Rattle.table_definitions.proofs.Tables.{sphere, four_tets}
use Rattle.move_definitions.specs.declared.MoveFault.TheVariants.{Repeated}
use Rattle.move_definitions.specs.Certificates.{IsStandard, drawn, candidates, next_state, draw}
use Rattle.move_definitions.proofs.RelationExamples.{at, one_tet, moved_by_14, moved_by_41 as led_by_41}
use Rattle.certificate_definitions.specs.CarriedBack.{Correspond, IsCarriedBack, staying, AreCarriedBack}
use Rattle.certificate_definitions.specs.Makings.{IsMade}
use Rattle.certificate_definitions.specs.Answers.{IsChecked, IsDescended}
use Rattle.certificate_definitions.specs.declared.CheckFault.TheVariants.{Illegal}
use Rattle.certificate_definitions.proofs.Computed.{computed}
use Rattle.certificate_definitions.proofs.CarriedTests.{Correspond-passed, IsCarriedBack-passed}
use Rattle.certificate_definitions.proofs.MadeExamples.{three_tets, three_tets_table, four_again, four_again_table, sphere_again, moved_by_23, moved_by_41}

pub one_tet_table : IsTable one_tet
unfolding computed
one_tet_table = table_from one_tet refl refl refl

-- relabellings of one tetrahedron
abbrev turn : ℕ → Relabelling
turn i = record { images = 0 ∷ []; perms = slice_index_or words i [] ∷ [] }

one_relabels : (i : ℕ) → IsPermutationOfFour (slice_index_or words i []) → IsRelabelling 1 (turn i)
one_relabels i h = record { images = record { moves = []; below = tt; is = refl }; perms = refl; permutes = λ k d l. each k d l }
  where
    each : (k : ℕ) (d : List ℕ) → k < 1 → IsPermutationOfFour (get_or (slice_index_or words i [] ∷ []) k d)
    each zero d l = h
    each (suc k) d l = absurd (omega arith)

one_standard : IsStandard one_tet
unfolding computed
one_standard = (turn 5, one_relabels 5 refl, Carries-passed (turn 5) one_tet sphere refl refl refl)

again_standard : IsStandard sphere_again
unfolding computed
again_standard = (turn 11, one_relabels 11 refl, Carries-passed (turn 11) sphere_again sphere refl refl refl)

pub sphere_standard : IsStandard sphere
unfolding computed
sphere_standard = (turn 0, one_relabels 0 refl, Carries-passed (turn 0) sphere sphere refl refl refl)

-- the certificate without moves of the sphere, and the certificate of the table that was made
sphere_accepted : IsChecked sphere [] (Ok tt)
sphere_accepted = (sphere, refl, sphere_standard)

made_accepted : IsChecked three_tets (at 1 (1 ∷ 2 ∷ 3 ∷ []) ∷ at 3 (2 ∷ []) ∷ []) (Ok tt)
unfolding computed
made_accepted = (sphere_again, (four_again, record { table = three_tets_table; moved = moved_by_23; accepted = refl }, (sphere_again, record { table = four_again_table; moved = moved_by_41; accepted = refl }, refl)), again_standard)

-- `14 0`, `41 0 3` and `23 0 0` on the sphere: the third move is refused
third_refused : IsChecked sphere (at 0 four ∷ at 0 (3 ∷ []) ∷ at 0 (1 ∷ 2 ∷ 3 ∷ []) ∷ []) (Err (Illegal 3 (Repeated 3)))
unfolding computed
third_refused = record {
  before = at 0 four ∷ at 0 (3 ∷ []) ∷ [];
  refused = at 0 (1 ∷ 2 ∷ 3 ∷ []);
  after = [];
  all = refl;
  place = refl;
  table = one_tet;
  led = (four_tets, record { table = sphere_table; moved = moved_by_14; accepted = refl }, (one_tet, record { table = four_tets_table; moved = led_by_41; accepted = refl }, refl));
  refuses = refl;
}

-- a descent from the table of four
descended : IsDescended four_tets (record { reached = true; moves = at 0 (3 ∷ []) ∷ []; table = one_tet })
unfolding computed
descended = record {
  descent = (never, refl, (one_tet, record { table = four_tets_table; moved = led_by_41; accepted = refl }, (refl, inl one_standard)));
  reached = (λ e. one_standard, λ s. refl);
}
  where
    never : IsStandard four_tets → ⊥
    never (r, h, c) = (let e : length sphere ≡ length four_tets = c.same_length in omega arith)

-- with one move the table of four is made, and its certificate is `41 0 3`, for every seed
labels_14 : Correspond sphere (at 0 four) four_tets (at 0 (3 ∷ [])) (staying 4) (4 ∷ 1 ∷ 2 ∷ 3 ∷ 0 ∷ [])
unfolding computed
labels_14 = Correspond-passed sphere (at 0 four) four_tets (at 0 (3 ∷ [])) (staying 4) (4 ∷ 1 ∷ 2 ∷ 3 ∷ 0 ∷ []) refl refl

one_is_drawn : (x : ℕ) → drawn x (candidates sphere) ≡ Some (at 0 four)
unfolding computed
one_is_drawn x = by_place (draw x % 1)
  where
    by_place : (i : ℕ) → Some (slice_index_or (at 0 four ∷ []) i (at 0 four)) ≡ Some (at 0 four)
    by_place zero = refl
    by_place (suc i) = refl

back_14 : IsCarriedBack sphere (at 0 four) four_tets (at 0 (3 ∷ [])) (staying 4) (turn 18)
unfolding computed
back_14 = IsCarriedBack-passed sphere (at 0 four) four_tets (at 0 (3 ∷ [])) (staying 4) (turn 18) (4 ∷ 1 ∷ 2 ∷ 3 ∷ 0 ∷ []) labels_14 (one_relabels 18 refl) refl refl

one_made : (seed : ℕ) → IsMade seed 1 four_tets (at 0 (3 ∷ []) ∷ [])
unfolding computed
one_made seed = (
  at 0 four ∷ [],
  (0, refl, one_is_drawn (next_state seed), (four_tets, record { table = sphere_table; moved = moved_by_14; accepted = refl }, (refl, inl refl))),
  (one_tet, turn 18, way),
)
  where
    way : AreCarriedBack sphere (at 0 four ∷ []) four_tets (at 0 (3 ∷ []) ∷ []) one_tet (turn 18)
    way = (four_tets, record { table = sphere_table; moved = moved_by_14; accepted = refl }, ([], four_tets, staying 4, (refl, refl, refl, refl), refl, record { table = four_tets_table; moved = led_by_41; accepted = refl }, back_14))
