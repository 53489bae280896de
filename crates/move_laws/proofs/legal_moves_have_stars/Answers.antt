use Rattle.move_laws.proofs.StarLaws.{legal_by_stars, stars_are_taken_out}
use Rattle.move_laws.proofs.legal_moves_have_stars.Goals as goal

pub returns-clause-exactly : goal.returns-clause-exactly
returns-clause-exactly c = legal_by_stars

pub returns-clause-taken_out : goal.returns-clause-taken_out
returns-clause-taken_out c = stars_are_taken_out
