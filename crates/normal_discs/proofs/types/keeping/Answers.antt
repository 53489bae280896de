use Rattle.std.proofs.Common.{◌≢◌, ℕ, zero, suc, ◌-◌, ◌<◌, bit_xor, refl, arith, lit<}
use Rattle.normal_discs.proofs.types.keeping.Goals as goal

kept : (v f : ℕ) → v < 4 → f < 4 → v ≢ f → bit_xor v f - 1 < 3
kept zero zero a b ne = absurd (ne refl)
kept zero (suc zero) a b ne = lit< tt
kept zero (suc (suc zero)) a b ne = lit< tt
kept zero (suc (suc (suc zero))) a b ne = lit< tt
kept (suc zero) zero a b ne = lit< tt
kept (suc zero) (suc zero) a b ne = absurd (ne refl)
kept (suc zero) (suc (suc zero)) a b ne = lit< tt
kept (suc zero) (suc (suc (suc zero))) a b ne = lit< tt
kept (suc (suc zero)) zero a b ne = lit< tt
kept (suc (suc zero)) (suc zero) a b ne = lit< tt
kept (suc (suc zero)) (suc (suc zero)) a b ne = absurd (ne refl)
kept (suc (suc zero)) (suc (suc (suc zero))) a b ne = lit< tt
kept (suc (suc (suc zero))) zero a b ne = lit< tt
kept (suc (suc (suc zero))) (suc zero) a b ne = lit< tt
kept (suc (suc (suc zero))) (suc (suc zero)) a b ne = lit< tt
kept (suc (suc (suc zero))) (suc (suc (suc zero))) a b ne = absurd (ne refl)
kept (suc (suc (suc (suc v)))) f a b ne = absurd (omega arith)
kept v (suc (suc (suc (suc f)))) a b ne = absurd (omega arith)

pub returns-clause-in_range : goal.returns-clause-in_range
returns-clause-in_range c = kept c.args.vertex c.args.other c.requires.a_vertex c.requires.another c.requires.separate
