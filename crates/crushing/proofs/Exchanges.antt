-- The transposition of two vertices is a permutation, image by image.
use Rattle.std.proofs.Common.{◌≡◌, ℕ, ◌<◌, List, subst, sym}
use Rattle.table_definitions.specs.Permutation.{IsPermutationOfFour}
use Rattle.surface_definitions.specs.Crushing.{exchange}
use Rattle.surface_laws.proofs.Turns.{exchange_is}

pub exchange_permutes : (v w : ℕ) → v < 4 → w < 4 → (images : List ℕ) → images ≡ exchange v w → IsPermutationOfFour images
exchange_permutes v w lv lw images e = subst IsPermutationOfFour (sym e) (exchange_is v w lv lw).permutes
