-- On a relabelled table, a move is legal if and only if the corresponding one is.
use Rattle.std.proofs.Common.{◌≡◌, ℕ, ◌<◌, Bool, true, List, length, None, refl, sym, ap, ◌∙◌, subst}
use Rattle.std.specs.List.{list_all}
use Rattle.table_definitions.specs.Lists.{same_list}
use Rattle.table_definitions.specs.Permutation.{IsPermutationOfFour, preimage, inverse, words}
use Rattle.table_definitions.specs.Table.{Gluing, Row, IsTable}
use Rattle.table_definitions.specs.Relabelling.{Relabelling, IsRelabelling, Carries, relabelled_place}
use Rattle.move_definitions.specs.Moves.{Move, IsCore, move_fault}
use Rattle.table_definitions.proofs.ListFacts.{same_list-true}
use Rattle.table_definitions.proofs.Permutations.{by_words}
use Rattle.table_definitions.proofs.Carried.{perm_permutes, carried_is_table}
use Rattle.signature_text_laws.proofs.SlotLaws.{ok_same}
use Rattle.signature_text_laws.proofs.SpelledTables.{spelled_read}
use Rattle.signature_laws.specs.Between.{inverted}
use Rattle.signature_laws.proofs.Back.{inverted_stands, inverted_relabelling, carries_back}
use Rattle.move_laws.proofs.Legal.{no_fault}
use Rattle.certificate_definitions.specs.CarriedMoves.{core_under, move_under}
use Rattle.certificate_laws.specs.Laws.{LegalMovesGoAlong, SignaturesKeepLegalMoves}
use Rattle.move_definitions.proofs.CoreTests.{cores, on_cores}
use Rattle.certificate_laws.proofs.CarriedCores.{core_goes}
use Rattle.certificate_laws.proofs.CarriedLegal.{carried_legal}

legal_goes_on : (by : Relabelling) (old other : List Row) (m : Move) → IsTable old → IsRelabelling (length old) by → Carries by old other → IsCore m.core → move_fault old m ≡ None
    → move_fault other (move_under by m) ≡ None
legal_goes_on by old other m table relabels carries core legal =
    carried_legal by old other m (record { table = table; core = core; fine = no_fault old m legal; relabels = relabels; carries = carries })

-- the inverse permutation maps the image of a core back to it
back_test : List ℕ → List ℕ → Bool
back_test q core = same_list (core_under (inverse q) (core_under q core)) core

core_back : (q core : List ℕ) → IsPermutationOfFour q → IsCore core → core_under (inverse q) (core_under q core) ≡ core
unfolding back_test
core_back q core h c = same_list-true (core_under (inverse q) (core_under q core)) core (by_words (λ q. back_test q core) (on_cores (λ vs. list_all (λ q. back_test q vs) words) all core c) q h)
  where
    all : list_all (λ vs. list_all (λ q. back_test q vs) words) cores ≡ true
    all = unfold back_test inverse preimage in refl

-- the move that corresponds, under the inverse relabelling, to the corresponding move is the move itself
module _ (by : Relabelling) (old other : List Row) (m : Move) (table : IsTable old) (relabels : IsRelabelling (length old) by) (carries : Carries by old other) (low : m.tet < length old) (core : IsCore m.core) where
  abbrev back : Relabelling
  back = inverted (length old) by

  occurs : relabelled_place back (relabelled_place by m.tet).tet ≡ record { tet = m.tet; perm = inverse (relabelled_place by m.tet).perm }
  occurs = inverted_stands (length old) by relabels m.tet low

  move_back_again : move_under back (move_under by m) ≡ m
  move_back_again = λ i. record {
    tet = (occurs i).tet;
    core = (ap (λ (g : Gluing). core_under g.perm (core_under (relabelled_place by m.tet).perm m.core)) occurs ∙ core_back (relabelled_place by m.tet).perm m.core (perm_permutes (length old) by relabels m.tet low) core) i;
  }

  legal_goes_back : move_fault other (move_under by m) ≡ None → move_fault old m ≡ None
  legal_goes_back legal =
      let same : length other ≡ length old = carries.same_length in
      subst (λ (n : Move). move_fault old n ≡ None) move_back_again
      (legal_goes_on back other old (move_under by m) (carried_is_table old other by table relabels carries)
      (subst (λ n. IsRelabelling n back) (sym same) (inverted_relabelling (length old) by relabels)) (carries_back old other by table relabels carries)
      (core_goes (relabelled_place by m.tet).perm m.core (perm_permutes (length old) by relabels m.tet low) core) legal)

pub legal_along : LegalMovesGoAlong
legal_along by old other table relabels carries m low core = (legal_goes_on by old other m table relabels carries core, legal_goes_back by old other m table relabels carries low core)

pub signatures_keep_legal : SignaturesKeepLegalMoves
signatures_keep_legal rows spelled text table signature spells =
    let same : (signature.found).0 ≡ spelled = ok_same (signature.found).0 spelled (sym (spelled_read text (signature.found).0 (signature.found).2) ∙ spelled_read text spelled spells) in
    let there : (by : Relabelling) × IsRelabelling (length rows) by × Carries by rows spelled = subst (λ (new : List Row). (by : Relabelling) × IsRelabelling (length rows) by × Carries by rows new) same (signature.found).1 in
    (there.0, there.1, there.2, legal_along there.0 rows spelled table there.1 there.2)
