-- The marked tetrahedra are those of the order that are left.
use Rattle.std.proofs.Common.{◌≡◌, ◌<◌, length, refl, ap, ◌∙◌, arith}
use Rattle.signature_definitions.specs.Labellings.{Start}
use Rattle.signature_laws.specs.Orders.{start_at}
use Rattle.signature_laws.proofs.Marking.{met_inside, start_is}
use Rattle.canonical_labelling.proofs.Cleaning.{left_begins}
use Rattle.canonical_labelling.proofs.order.leave.Goals as goal

pub loop-i-init : goal.loop-i-init
loop-i-init c = record { order = refl; size = refl; left = left_begins c.args.walking.now.order.items c.args.walking.now.visited.items c.requires }

pub index_mut-requires : goal.index_mut-requires
index_mut-requires c =
    let inv = c.loop-i.invariant in
    let same : length c.loop-i.walking.order.items ≡ length c.args.walking.now.order.items = ap length inv.order in
    let inside : c.loop-i.i < length c.loop-i.walking.order.items = omega (arith, c.loop-i-test.true, c.len-i-end.ensures, c.args.walking.now.order.ok, same) in
    let tet : c.behind-walking.inside.tet ≡ (start_at c.loop-i.walking.order.items c.loop-i.i).tet =
    ap (λ (s : Start). s.tet) (c.behind-walking.view_is ∙ start_is c.loop-i.walking.order.items c.loop-i.i c.index.result.now inside c.index.ensures) in
    let old : (start_at c.loop-i.walking.order.items c.loop-i.i).tet ≡ (start_at c.args.walking.now.order.items c.loop-i.i).tet = ap (λ o. (start_at o c.loop-i.i).tet) inv.order in
    let low : (start_at c.args.walking.now.order.items c.loop-i.i).tet < length c.args.walking.now.visited.items = met_inside c.args.walking.now.order.items c.args.walking.now.visited.items c.loop-i.i c.requires (omega (arith, inside, same)) in
    let size = inv.size in
    omega (arith, tet, old, low, size, c.loop-i.walking.visited.ok)
