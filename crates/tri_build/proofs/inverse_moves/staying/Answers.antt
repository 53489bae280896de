-- Each tetrahedron is its own image.
use Rattle.std.proofs.Common.{◌≡◌, ◌∙◌, length, arith}
use Rattle.table_definitions.specs.Permutation.{identity}
use Rattle.certificate_definitions.specs.CarriedBack.{staying}
use Rattle.certificate_laws.proofs.CarriedWays.{staying_relabels}
use Rattle.tri_build.proofs.Bijective.{one_more, stays_more, all_stay, is_one}
use Rattle.tri_build.proofs.inverse_moves.staying.Goals as goal

pub loop-tet-preserved : goal.loop-tet-preserved
loop-tet-preserved c = (
  stays_more c.loop-tet.images.items c.push.new.self.items c.loop-tet.tet c.loop-tet.invariant.0 c.in_ok-push.ensures.items,
  one_more (λ t. identity) c.loop-tet.perms.items c.push-in-loop-tet.new.self.items c.loop-tet.tet _ c.loop-tet.invariant.1 c.in_ok-push-2.ensures.items c.identity.ensures,
)

pub from_sound-requires : goal.from_sound-requires
from_sound-requires c =
    let end : c.loop-tet.tet ≡ length c.args.table.now = omega (arith, c.len-tet-end.ensures.value) in
    is_one (length c.args.table.now) (staying (length c.args.table.now)) c.loop-tet.images.items c.loop-tet.perms.items (staying_relabels (length c.args.table.now))
    (all_stay (length c.args.table.now) c.loop-tet.tet c.loop-tet.images.items c.loop-tet.perms.items end c.loop-tet.invariant.0 c.loop-tet.invariant.1)

pub returns : goal.returns
returns c =
    let end : c.loop-tet.tet ≡ length c.args.table.now = omega (arith, c.len-tet-end.ensures.value) in
    c.from_sound.ensures
    ∙ all_stay (length c.args.table.now) c.loop-tet.tet c.loop-tet.images.items c.loop-tet.perms.items end c.loop-tet.invariant.0 c.loop-tet.invariant.1
