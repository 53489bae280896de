-- A mask is determined by its vertices.
use Rattle.std.proofs.Common.{◌≡◌, ℕ, ◌<◌, refl}
use Rattle.std.specs.Prelude.{◌==◌}
use Rattle.std.proofs.lemmas.Bool.{eqb-true}
use Rattle.table_definitions.proofs.ListFacts.{list_all-below}
use Rattle.pachner_moves.specs.Cores.{core_of, mask_of}

-- the mask of the vertices of a mask is that mask
pub mask_again : (m : ℕ) → m < 16 → mask_of (core_of m) ≡ m
mask_again m l = eqb-true (mask_of (core_of m)) m (list_all-below (λ k. mask_of (core_of k) == k) 16 refl m l)
