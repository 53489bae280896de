use Rattle.std.proofs.Common.{ℕ, zero, suc, ◌<◌, [], ◌∷◌, length, ap, slice_index_or, arith}
use Rattle.ray_decompose.specs.declared.adding.Given.{Given}
use Rattle.ray_decompose.specs.Sums.{HasWidth}
use Rattle.worked_cones.proofs.ray_decompose_calls.given_terms_add_up.Goals as goal

both : (a b : Given) (n : ℕ) → HasWidth n a → HasWidth n b → (k : ℕ) (d : Given) → k < 2 → HasWidth n (slice_index_or (a ∷ b ∷ []) k d)
both a b n h i zero d l = h
both a b n h i (suc zero) d l = i
both a b n h i (suc (suc k)) d l = absurd (omega arith)

pub add_up-requires-clause-terms : goal.add_up-requires-clause-terms
add_up-requires-clause-terms g c = both c.in_ok-torus.torus c.in_ok-link.link 7 (ap length c.in_ok-torus.ensures) (ap length c.in_ok-link.ensures)

pub add_up-requires-2-clause-terms : goal.add_up-requires-2-clause-terms
add_up-requires-2-clause-terms g c = both c.in_ok-torus.torus c.in_ok-link.link 7 (ap length c.in_ok-torus.ensures) (ap length c.in_ok-link.ensures)

pub add_up-requires-3-clause-terms : goal.add_up-requires-3-clause-terms
add_up-requires-3-clause-terms g c = both c.in_ok-torus.torus c.in_ok-link.link 7 (ap length c.in_ok-torus.ensures) (ap length c.in_ok-link.ensures)

pub add_up-requires-4-clause-terms : goal.add_up-requires-4-clause-terms
add_up-requires-4-clause-terms g c = both c.in_ok-torus.torus c.in_ok-link.link 7 (ap length c.in_ok-torus.ensures) (ap length c.in_ok-link.ensures)
