-- The images of the tetrahedra make up the relabelling.
use Rattle.std.proofs.Common.{◌≡◌, ap, ◌∙◌, arith}
use Rattle.table_definitions.specs.Table.{Gluing}
use Rattle.tri_build.specs.Steps.{PlayedMove}
use Rattle.tri_build.specs.Standing.{image_at}
use Rattle.tri_build.proofs.Bijective.{one_more, is_one}
use Rattle.tri_build.proofs.Led.{filled_in}
use Rattle.tri_build.proofs.inverse_moves.carry_back.Goals as goal

pub loop-tet-preserved : goal.loop-tet-preserved
loop-tet-preserved c =
    let image = c.image.view_is ∙ c.image_at-image.ensures in (
      one_more (λ t. (image_at c.args.step.now c.args.back.now c.args.on.now t).tet) c.loop-tet.images.items c.push.new.self.items c.loop-tet.tet _ c.loop-tet.invariant.0 c.in_ok-push.ensures.items (ap (λ (g : Gluing). g.tet) image),
      one_more (λ t. (image_at c.args.step.now c.args.back.now c.args.on.now t).perm) c.loop-tet.perms.items c.push-in-loop-tet.new.self.items c.loop-tet.tet _ c.loop-tet.invariant.1 c.in_ok-push-2.ensures.items (ap (λ (g : Gluing). g.perm) image),
    )

pub from_sound-requires : goal.from_sound-requires
from_sound-requires c =
    let s = c.requires.1 in
    let end : c.loop-tet.tet ≡ c.args.step.now.tets = omega (arith, ap (λ (x : PlayedMove). x.tets) c.step.view_is) in
    is_one c.args.step.now.tets c.requires.0 c.loop-tet.images.items c.loop-tet.perms.items s.relabels
    (filled_in c.args.step.now c.args.back.now c.args.on.now c.requires.0 c.loop-tet.tet c.loop-tet.images.items c.loop-tet.perms.items s end c.loop-tet.invariant.0 c.loop-tet.invariant.1)

pub returns : goal.returns
returns c =
    let end : c.loop-tet.tet ≡ c.args.step.now.tets = omega (arith, ap (λ (x : PlayedMove). x.tets) c.step.view_is) in
    λ by s. c.from_sound.ensures
    ∙ filled_in c.args.step.now c.args.back.now c.args.on.now by c.loop-tet.tet c.loop-tet.images.items c.loop-tet.perms.items s end c.loop-tet.invariant.0 c.loop-tet.invariant.1
