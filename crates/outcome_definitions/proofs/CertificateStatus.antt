-- The answers of `check` and of `descend` have statuses of accepted words.
use Rattle.std.proofs.Common.{List, Ok, Err, sym, subst}
use Rattle.table_definitions.specs.Table.{Row}
use Rattle.move_definitions.specs.Moves.{Move}
use Rattle.certificate_definitions.specs.Answers.{CheckAnswer, DescentAnswer}
use Rattle.outcome_definitions.specs.Outcomes.{Outcome, IsOwnStatus}
use Rattle.outcome_definitions.specs.Certificates.{check_outcome, IsCheckAnswer, descend_outcome, IsDescendAnswer}

told_check : (reported : CheckAnswer) → IsOwnStatus (check_outcome reported).status
told_check (Ok u) = tt
told_check (Err fault) = tt

pub check_own : (d : List Row × List Move) (o : Outcome) → IsCheckAnswer d o → IsOwnStatus o.status
check_own d o h = subst (λ (q : Outcome). IsOwnStatus q.status) (sym h.outcome) (told_check h.reported)

told_descent : (reported : DescentAnswer) → IsOwnStatus (descend_outcome reported).status
told_descent (Ok d) = tt
told_descent (Err t) = tt

pub descend_own : (rows : List Row) (o : Outcome) → IsDescendAnswer rows o → IsOwnStatus o.status
descend_own rows o h = subst (λ (q : Outcome). IsOwnStatus q.status) (sym h.outcome) (told_descent h.reported)
