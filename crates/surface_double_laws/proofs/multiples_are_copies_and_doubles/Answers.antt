-- The lemmas are the laws.
use Rattle.surface_double_laws.proofs.CopyVectors.{characteristic_times, two_sided_copies, even_copies, odd_copies}
use Rattle.surface_double_laws.proofs.multiples_are_copies_and_doubles.Goals as goal

pub returns : goal.returns
returns c = record {
  characteristic = characteristic_times;
  two_sided = two_sided_copies;
  even = λ s coords xs k c sides. even_copies s coords xs c sides k;
  odd = λ s coords xs k c sides. odd_copies s coords xs c sides k;
}
