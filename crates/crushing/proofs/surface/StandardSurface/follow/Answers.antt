-- The chain begins at a face that stays, each pass continues it through one tetrahedron, and what it reaches is its
-- only end.
use Rattle.std.proofs.Common.{sym, subst}
use Rattle.std.proofs.lemmas.Bool.{not_from_false}
use Rattle.surface_definitions.specs.Crushing.{is_removed}
use Rattle.crushing.proofs.Following.{IsFollowed, follow_starts, turns, only_kept, only_free}
use Rattle.crushing.proofs.surface.StandardSurface.follow.Goals as goal

pub loop-reached-init : goal.loop-reached-init
loop-reached-init c =
    subst (IsFollowed c.args.self.now.table.now c.args.self.now.entries.now c.args.start) (sym c.glue-reached.ensures.value)
    (follow_starts c.args.self.now.table.now c.args.self.now.entries.now c.args.start c.glue-reached.ensures.is_table
    (record { in_range = c.requires.in_range; face = c.glue-reached.ensures.a_face; kept = not_from_false (is_removed c.args.self.now.entries.now c.args.start.tet) c.requires.kept }))

pub returns-in_default-quad_type-clause-only : goal.returns-in_default-quad_type-clause-only
returns-in_default-quad_type-clause-only c =
    only_kept c.args.self.now.table.now c.args.self.now.entries.now c.args.start c.loop-reached.reached _ c.in-Some.glue c.loop-reached.invariant c.in-Some.is c.glue.view_is c.in_default-quad_type.ensures.kept

pub loop-reached-smaller : goal.loop-reached-smaller
loop-reached-smaller c =
    (turns c.args.self.now.table.now c.args.self.now.entries.now c.args.start c.loop-reached.reached c.pass-reached.result _ c.in-Some.glue c.in-Some-quad_type.kind c.glue-reached.ensures.is_table c.loop-reached.invariant c.in-Some.is c.glue.view_is
    c.in-Some-quad_type.ensures.removed c.in-Some-quad_type.ensures.first c.pass-reached.ensures).fewer

pub loop-reached-preserved : goal.loop-reached-preserved
loop-reached-preserved c =
    (turns c.args.self.now.table.now c.args.self.now.entries.now c.args.start c.loop-reached.reached c.pass-reached.result _ c.in-Some.glue c.in-Some-quad_type.kind c.glue-reached.ensures.is_table c.loop-reached.invariant c.in-Some.is c.glue.view_is
    c.in-Some-quad_type.ensures.removed c.in-Some-quad_type.ensures.first c.pass-reached.ensures).next

pub returns-clause-only : goal.returns-clause-only
returns-clause-only c = only_free c.args.self.now.table.now c.args.self.now.entries.now c.args.start c.loop-reached.reached c.loop-reached.invariant c.in_default.is
