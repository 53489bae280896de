-- The lemmas are the laws.
use Rattle.surface_equation_laws.proofs.MatchingRows.{row_is_of, triangle_sums, side_sums}
use Rattle.surface_equation_laws.proofs.matching_rows_are_small.Goals as goal

pub returns : goal.returns
returns c = record {
  triangles = λ coords rows row cs h table m once. triangle_sums coords rows row cs h once (row_is_of coords rows row table m);
  sides = λ coords rows row cs h table m once. side_sums coords rows row cs h once (row_is_of coords rows row table m);
}
