use Rattle.std.proofs.Common.{◌≡◌, ◌/◌, sym, ap, ◌∙◌}
use Rattle.std.proofs.lemmas.Bool.{eq-eqb, ne_eqb}
use Rattle.table_definitions.specs.Permutation.{image}
use Rattle.table_definitions.specs.Table.{Gluing}
use Rattle.table_definitions.specs.Places.{edge_number}
use Rattle.skeleton_class_laws.proofs.CrossingLemmas.{across-first, across-second, across-free, across-glued, crossed_edge-by, number_is}
use Rattle.skeleton.proofs.edges.edge_across.Goals as goal

pub returns-then-lower-exit : goal.returns-then-lower-exit
returns-then-lower-exit c =
    crossed_edge-by c.args.exit.table.now c.args.edge c.args.exit.face c.edge_ends-lower.result.0 c.edge_ends-lower.result.1 _ c.edge_ends-lower.ensures.ends
    (across-first c.args.exit.table.now (c.args.edge / 6) c.edge_ends-lower.result.0 c.edge_ends-lower.result.1 c.args.exit.face (eq-eqb _ _ c.if-lower-exit.true))

pub returns-then-higher-exit : goal.returns-then-higher-exit
returns-then-higher-exit c =
    crossed_edge-by c.args.exit.table.now c.args.edge c.args.exit.face c.edge_ends-lower.result.0 c.edge_ends-lower.result.1 _ c.edge_ends-lower.ensures.ends
    (across-second c.args.exit.table.now (c.args.edge / 6) c.edge_ends-lower.result.0 c.edge_ends-lower.result.1 c.args.exit.face (ne_eqb _ _ c.if-lower-exit.false) (eq-eqb _ _ c.if-higher-exit.true))

pub returns-in_default : goal.returns-in_default
returns-in_default c =
    crossed_edge-by c.args.exit.table.now c.args.edge c.args.exit.face c.edge_ends-lower.result.0 c.edge_ends-lower.result.1 _ c.edge_ends-lower.ensures.ends
    (across-free c.args.exit.table.now (c.args.edge / 6) c.edge_ends-lower.result.0 c.edge_ends-lower.result.1 c.args.exit.face (ne_eqb _ _ c.if-lower-exit.false) (ne_eqb _ _ c.if-higher-exit.false) (sym c.in_default.ensures.value))

pub returns : goal.returns
returns c =
    number_is 6 (edge_number (image c.in-Some.glue.perm c.edge_ends-lower.result.0) (image c.in-Some.glue.perm c.edge_ends-lower.result.1)) c.in-Some.glue _ _ (ap (λ (g : Gluing). g.tet) c.glue.view_is)
    (c.number_of_edge-number.ensures ∙ (λ i. edge_number (first i) (second i)))
    ∙ crossed_edge-by c.args.exit.table.now c.args.edge c.args.exit.face c.edge_ends-lower.result.0 c.edge_ends-lower.result.1 _ c.edge_ends-lower.ensures.ends
    (across-glued c.args.exit.table.now (c.args.edge / 6) c.edge_ends-lower.result.0 c.edge_ends-lower.result.1 c.args.exit.face c.in-Some.glue (ne_eqb _ _ c.if-lower-exit.false) (ne_eqb _ _ c.if-higher-exit.false) (sym c.in-Some.ensures.value))
  where
    first : c.image.result ≡ image c.in-Some.glue.perm c.edge_ends-lower.result.0
    first = c.image.ensures.value ∙ ap (λ (g : Gluing). image g.perm c.edge_ends-lower.result.0) c.glue.view_is

    second : c.image-2.result ≡ image c.in-Some.glue.perm c.edge_ends-lower.result.1
    second = c.image-2.ensures.value ∙ ap (λ (g : Gluing). image g.perm c.edge_ends-lower.result.1) c.glue.view_is
