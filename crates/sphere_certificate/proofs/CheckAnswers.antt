-- What is returned for the last table holds of the moves that reach it.
use Rattle.std.proofs.Common.{◌≡◌, ℕ, List, [], ◌∷◌, ◌++◌, Result, Ok, Err, IfErr, refl, sym, subst}
use Rattle.out_of_memory.specs.declared.Failure.{Failure}
use Rattle.out_of_memory.specs.declared.Failure.TheVariants.{NoMemory, Fault}
use Rattle.out_of_memory.specs.Failures.{IfFault}
use Rattle.table_definitions.specs.Table.{Row, IsTable}
use Rattle.move_definitions.specs.Moves.{Move, PlaysAll}
use Rattle.move_definitions.specs.Certificates.{IsStandard, IsCertificate}
use Rattle.certificate_definitions.specs.declared.CheckFault.{CheckFault}
use Rattle.certificate_definitions.specs.declared.CheckFault.TheVariants.{Illegal, NotConnected, NotStandard}
use Rattle.certificate_definitions.specs.Answers.{CheckAnswer, IsChecked}
use Rattle.certificate_laws.proofs.Checked.{answers_agree_lem}

none_refused : (before after : List Move) (m : Move) → [] ≡ before ++ m ∷ after → ⊥
none_refused [] after m e = cc
none_refused (k ∷ ks) after m e = cc

-- if the moves reach a table, what is returned for this table without moves holds of the moves
pub checked_on : (rows : List Row) (moves : List Move) (last : List Row) (answer : CheckAnswer) → PlaysAll rows moves last → IsChecked last [] answer → IsChecked rows moves answer
checked_on rows moves last (Ok u) led (end, same, s) = (last, led, subst IsStandard (sym same) s)
checked_on rows moves last (Err (Illegal step fault)) led r = absurd (none_refused r.before r.after r.refused r.all)
checked_on rows moves last (Err (NotConnected t)) led (end, same, u) = (end, subst (λ (table : List Row). PlaysAll rows moves table) same led, u)
checked_on rows moves last (Err (NotStandard text)) led (end, same, c, h, n) = (end, subst (λ (table : List Row). PlaysAll rows moves table) same led, c, h, n)

-- if checking a table and moves returns an error, they are no certificate
pub fault_or_certificate : (rows : List Row) (moves : List Move) (fault : CheckFault (List ℕ)) → IsTable rows → IsChecked rows moves (Err fault) → IsCertificate rows moves → ⊥
fault_or_certificate rows moves fault table h k = differ (Err fault) (Ok tt) (answers_agree_lem rows moves (Err fault) (Ok tt) table h k) refl refl
  where
    differ : (a b : CheckAnswer) → a ≡ b → a ≡ Err fault → b ≡ Ok tt → ⊥
    differ a b e p q = cc

-- if each error with P has Q, a result whose error has P has one with Q
pub fault_goes : {A E : Type 0} {P Q : E → Type 0} (r : Result A (Failure E)) → ((e : E) → P e → Q e) → IfErr r (λ e. IfFault e P) → IfErr r (λ e. IfFault e Q)
fault_goes (Ok a) f h = tt
fault_goes (Err NoMemory) f h = tt
fault_goes (Err (Fault e)) f h = f e h
