use Rattle.std.proofs.Common.{◌≡◌, ◌/◌, sym, ap, ◌∙◌}
use Rattle.std.proofs.lemmas.Bool.{eq-eqb, ne_eqb}
use Rattle.table_definitions.specs.Permutation.{image}
use Rattle.table_definitions.specs.Table.{Gluing}
use Rattle.skeleton_class_laws.specs.Crossings.{pair_number}
use Rattle.skeleton_class_laws.proofs.CrossingLemmas.{across-first, across-second, across-free, across-glued, crossed_direction-by, number_is}
use Rattle.skeleton.proofs.edges.direction_across.Goals as goal

pub returns-then-from-exit : goal.returns-then-from-exit
returns-then-from-exit c =
    crossed_direction-by c.args.exit.table.now c.args.place c.args.exit.face c.direction_ends-from.result.0 c.direction_ends-from.result.1 _ c.direction_ends-from.ensures.from c.direction_ends-from.ensures.to
    (across-first c.args.exit.table.now (c.args.place / 12) c.direction_ends-from.result.0 c.direction_ends-from.result.1 c.args.exit.face (eq-eqb _ _ c.if-from-exit.true))

pub returns-then-to-exit : goal.returns-then-to-exit
returns-then-to-exit c =
    crossed_direction-by c.args.exit.table.now c.args.place c.args.exit.face c.direction_ends-from.result.0 c.direction_ends-from.result.1 _ c.direction_ends-from.ensures.from c.direction_ends-from.ensures.to
    (across-second c.args.exit.table.now (c.args.place / 12) c.direction_ends-from.result.0 c.direction_ends-from.result.1 c.args.exit.face (ne_eqb _ _ c.if-from-exit.false) (eq-eqb _ _ c.if-to-exit.true))

pub returns-in_default : goal.returns-in_default
returns-in_default c =
    crossed_direction-by c.args.exit.table.now c.args.place c.args.exit.face c.direction_ends-from.result.0 c.direction_ends-from.result.1 _ c.direction_ends-from.ensures.from c.direction_ends-from.ensures.to
    (across-free c.args.exit.table.now (c.args.place / 12) c.direction_ends-from.result.0 c.direction_ends-from.result.1 c.args.exit.face (ne_eqb _ _ c.if-from-exit.false) (ne_eqb _ _ c.if-to-exit.false) (sym c.in_default.ensures.value))

pub returns : goal.returns
returns c =
    number_is 12 (pair_number (image c.in-Some.glue.perm c.direction_ends-from.result.0) (image c.in-Some.glue.perm c.direction_ends-from.result.1)) c.in-Some.glue _ _ (ap (λ (g : Gluing). g.tet) c.glue.view_is)
    (c.direction_number-number.ensures.value ∙ (λ i. pair_number (first i) (second i)))
    ∙ crossed_direction-by c.args.exit.table.now c.args.place c.args.exit.face c.direction_ends-from.result.0 c.direction_ends-from.result.1 _ c.direction_ends-from.ensures.from c.direction_ends-from.ensures.to
    (across-glued c.args.exit.table.now (c.args.place / 12) c.direction_ends-from.result.0 c.direction_ends-from.result.1 c.args.exit.face c.in-Some.glue (ne_eqb _ _ c.if-from-exit.false) (ne_eqb _ _ c.if-to-exit.false) (sym c.in-Some.ensures.value))
  where
    first : c.image.result ≡ image c.in-Some.glue.perm c.direction_ends-from.result.0
    first = c.image.ensures.value ∙ ap (λ (g : Gluing). image g.perm c.direction_ends-from.result.0) c.glue.view_is

    second : c.image-2.result ≡ image c.in-Some.glue.perm c.direction_ends-from.result.1
    second = c.image-2.ensures.value ∙ ap (λ (g : Gluing). image g.perm c.direction_ends-from.result.1) c.glue.view_is
