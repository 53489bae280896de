-- By the type and the vertex.
use Rattle.std.proofs.Common.{◌≡◌, ℕ, zero, suc, ◌+◌, ◌<◌, bit_xor, arith, lit<}
use Rattle.normal_discs.proofs.types.partner.Goals as goal

beside : (k v : ℕ) → k < 3 → v < 4 → (bit_xor v (k + 1) < 4) × (bit_xor v (k + 1) ≡ v → ⊥)
beside zero zero a b = (lit< tt, λ e. omega arith)
beside zero (suc zero) a b = (lit< tt, λ e. omega arith)
beside zero (suc (suc zero)) a b = (lit< tt, λ e. omega arith)
beside zero (suc (suc (suc zero))) a b = (lit< tt, λ e. omega arith)
beside (suc zero) zero a b = (lit< tt, λ e. omega arith)
beside (suc zero) (suc zero) a b = (lit< tt, λ e. omega arith)
beside (suc zero) (suc (suc zero)) a b = (lit< tt, λ e. omega arith)
beside (suc zero) (suc (suc (suc zero))) a b = (lit< tt, λ e. omega arith)
beside (suc (suc zero)) zero a b = (lit< tt, λ e. omega arith)
beside (suc (suc zero)) (suc zero) a b = (lit< tt, λ e. omega arith)
beside (suc (suc zero)) (suc (suc zero)) a b = (lit< tt, λ e. omega arith)
beside (suc (suc zero)) (suc (suc (suc zero))) a b = (lit< tt, λ e. omega arith)
beside (suc (suc (suc k))) v a b = absurd (omega arith)
beside k (suc (suc (suc (suc v)))) a b = absurd (omega arith)

pub returns-clause-in_range : goal.returns-clause-in_range
returns-clause-in_range c = (beside c.args.kind c.args.vertex c.requires.a_type c.requires.a_vertex).0

pub returns-clause-other : goal.returns-clause-other
returns-clause-other c = (beside c.args.kind c.args.vertex c.requires.a_type c.requires.a_vertex).1
