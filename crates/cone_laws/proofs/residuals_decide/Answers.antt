-- The lemmas are the claims.
use Rattle.cone_laws.proofs.ResidualLemmas.{inside_by_residuals, minimal_has_no_third, inside_are_rivals, rivals_decide, smaller_alone, equal_spoil}
use Rattle.cone_laws.proofs.residuals_decide.Goals as goal

pub returns : goal.returns
returns c = record { inside = inside_by_residuals; minimal = minimal_has_no_third; compatible_list = inside_are_rivals; among = rivals_decide; smaller = smaller_alone; equal = equal_spoil }
