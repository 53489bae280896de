use Rattle.std.proofs.Common.{◌<◌, length, ap, arith}
use Rattle.ray_steps.proofs.FreeLemmas.{free_at}
use Rattle.ray_steps.proofs.compatible.Clashes.is_free.Goals as goal

pub returns : goal.returns
returns g c =
    let partners = c.self.inside.partners.items in
    let columns = ap (λ d. d.columns) c.self.view_is in
    let within : c.args.column < length partners = omega (arith, c.requires, c.self.invariant.0.count, columns) in
    free_at _ _ _ partners c.args.column c.index-partners.result.now c.meets.result c.self.invariant.0 within (ap (λ d. d.pairs) c.self.view_is) c.index-partners.ensures c.meets.ensures
