-- Copies of the first disc on two sheets are in one component if and only if a chain joins them.
use Rattle.surface_double_laws.proofs.CopiedDiscs.{copies_surface}
use Rattle.surface_double_laws.proofs.CopyCounts.{copies_two_sided, copies_one_sided}
use Rattle.surface_double_laws.proofs.copies_are_counted.Goals as goal

pub returns : goal.returns
returns c = record {
  surfaces = λ s coords xs m w. copies_surface m s.rows coords xs w;
  two_sided = copies_two_sided;
  one_sided = copies_one_sided;
}
