-- One more row.
use Rattle.std.proofs.Common.{◌≡◌, ℕ, ◌+◌, ◌-◌, [], ◌∷◌, ◌++◌, refl, sym, ap, ◌∙◌, arith}
use Rattle.std.proofs.lemmas.List.FromFn.{map-range_with_len_more}
use Rattle.move_definitions.specs.Moves.{kept}
use Rattle.move_laws.specs.Facets.{put_row}
use Rattle.pachner_moves.proofs.moving.fresh_rows.Goals as goal

pub loop-label-preserved : goal.loop-label-preserved
loop-label-preserved c =
    let first : ℕ = kept c.args.taken.table.now c.args.taken.m.now in
    let same : c.loop-label.label ≡ (first + c.loop-label.label) - first = omega arith in
    let row = c.fresh_row.ensures ∙ ap (put_row c.args.taken.table.now c.args.taken.m.now) same in
    c.push.ensures.items ∙ (λ i. c.loop-label.invariant i ++ (c.retained_in-first.ensures.value i + c.loop-label.label, row i) ∷ [])
    ∙ sym (map-range_with_len_more (λ t. (t, put_row c.args.taken.table.now c.args.taken.m.now (t - first))) first c.loop-label.label (first + c.loop-label.label) refl)
