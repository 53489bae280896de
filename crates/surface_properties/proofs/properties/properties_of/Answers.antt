-- The first sum that exceeds the limit is returned as large; if none does, all sums are exact.
use Rattle.std.proofs.Common.{◌≡◌, ℕ, ◌+◌, ◌<◌, ◌≤◌, List, subst, sym, ap, ◌∙◌, arith}
use Rattle.std.specs.Prelude.{sum, pos, ◌-ℤ◌}
use Rattle.std.proofs.Common.{rules}
use Rattle.std.proofs.lemmas.Int.{to_z-of_z}
use mir.Syntax.{w128}
use mir.Val.{SFits}
use Rattle.text_definitions.specs.Written.{limit}
use Rattle.table_definitions.specs.Table.{Row}
use Rattle.surface_definitions.specs.Characteristic.{points, arcs, meets_boundary}
use Rattle.surface_properties.specs.Capped.{capped}
use Rattle.surface_properties.proofs.CappedSums.{capped_small, large_is, small_is, capped_two}
use Rattle.surface_properties.proofs.LargeSums.{large_points, large_arcs, large_both, none_large}
use Rattle.surface_properties.proofs.properties.properties_of.Goals as goal

pub returns-then-points-gt-LIMIT : goal.returns-then-points-gt-LIMIT
returns-then-points-gt-LIMIT c = large_points limit _ _ _ (large_is _ (subst (λ n. limit < n) c.points-points.ensures c.if-points-gt-LIMIT.true))

pub returns-then-arcs-gt-LIMIT : goal.returns-then-arcs-gt-LIMIT
returns-then-arcs-gt-LIMIT c =
    large_arcs limit _ _ _ (small_is _ (subst (λ n. n ≤ limit) c.points-points.ensures c.if-points-gt-LIMIT.false))
    (large_is _ (subst (λ n. limit < n) (c.arcs-arcs.ensures ∙ ap (λ (rs : List Row). capped (arcs rs c.args.coords c.args.x.now)) c.table.ensures.rows) c.if-arcs-gt-LIMIT.true))

pub returns-then-both-gt-LIMIT : goal.returns-then-both-gt-LIMIT
returns-then-both-gt-LIMIT c =
    large_both limit _ _ _ (small_is _ (subst (λ n. n ≤ limit) c.points-points.ensures c.if-points-gt-LIMIT.false))
    (small_is _ (subst (λ n. n ≤ limit) (c.arcs-arcs.ensures ∙ ap (λ (rs : List Row). capped (arcs rs c.args.coords c.args.x.now)) c.table.ensures.rows) c.if-arcs-gt-LIMIT.false))
    (large_is _ (subst (λ n. limit < n) (c.add-both.ensures ∙ capped_two _ _ c.points-points.result c.sum_of-pieces.result c.points-points.ensures c.sum_of-pieces.ensures) c.if-both-gt-LIMIT.true))

pub returns : goal.returns
returns c = (
  none_large limit P A Q points_fit arcs_fit both_fit,
  record {
    points = p;
    arcs = a;
    pieces = q;
    euler = to_z-of_z w128 c.euler.result whole ∙ c.euler.ensures ∙ ap (λ n. pos n -ℤ pos c.arcs-arcs.result) both;
    linking = c.is_linking.ensures;
    boundary = c.meets_boundary.ensures ∙ ap (λ (rs : List Row). meets_boundary rs c.args.coords c.args.x.now) c.table.ensures.rows;
  },
)
  where
    P : ℕ
    P = points c.args.coords c.args.x.now c.args.skeleton.now.edges.classes c.args.skeleton.now.edges.count

    A : ℕ
    A = arcs c.args.skeleton.now.rows c.args.coords c.args.x.now

    Q : ℕ
    Q = sum c.args.x.now

    arcs_there : c.arcs-arcs.result ≡ capped A
    arcs_there = c.arcs-arcs.ensures ∙ ap (λ (rs : List Row). capped (arcs rs c.args.coords c.args.x.now)) c.table.ensures.rows

    both_there : c.add-both.result ≡ capped (P + Q)
    both_there = c.add-both.ensures ∙ capped_two P Q c.points-points.result c.sum_of-pieces.result c.points-points.ensures c.sum_of-pieces.ensures

    points_fit : P ≤ limit
    points_fit = small_is P (subst (λ n. n ≤ limit) c.points-points.ensures c.if-points-gt-LIMIT.false)

    arcs_fit : A ≤ limit
    arcs_fit = small_is A (subst (λ n. n ≤ limit) arcs_there c.if-arcs-gt-LIMIT.false)

    both_fit : P + Q ≤ limit
    both_fit = small_is (P + Q) (subst (λ n. n ≤ limit) both_there c.if-both-gt-LIMIT.false)

    p : c.points-points.result ≡ P
    p = c.points-points.ensures ∙ capped_small P points_fit

    a : c.arcs-arcs.result ≡ A
    a = arcs_there ∙ capped_small A arcs_fit

    q : c.sum_of-pieces.result ≡ Q
    q = c.sum_of-pieces.ensures ∙ capped_small Q (omega (arith, both_fit))

    both : c.add-both.result ≡ c.points-points.result + c.sum_of-pieces.result
    both = both_there ∙ capped_small (P + Q) both_fit ∙ (λ i. sym p i + sym q i)

    whole : SFits w128 c.euler.result
    whole = search rules
