use Rattle.std.proofs.Common.{rules, ◌*◌, ◌^◌, w32, FitsSigned, get_or, pos, length, ap, ◌∙◌, ◌<◌, ◌+◌, arith}
use Rattle.std.proofs.lemmas.Int.{to_z-of_z}
use Rattle.std.proofs.lemmas.List.{length-set, take_all}
use Rattle.cone_bound_laws.specs.Caps.{magnitude}
use Rattle.number_bounds.proofs.Past.{reached, square_past}
use Rattle.number_bounds.proofs.Tallies.{row_square, row_square_is, squares_more}
use Rattle.number_bounds.proofs.squares.add_row.Goals as goal

pub loop-column-preserved : goal.loop-column-preserved
loop-column-preserved c =
    let f : FitsSigned w32 (get_or c.args.row.now c.loop-column.column-index (0, pos 0)).1 = search rules in
    let column = c.requires.in_range c.loop-column.column-index (0, pos 0) c.loop-column-test.true in
    let within : (get_or c.args.row.now c.loop-column.column-index (0, pos 0)).0 < length c.loop-column.squares = omega (arith, column, c.loop-column.invariant.count) in
    record {
      count = length-set _ _ _ ∙ c.loop-column.invariant.count;
      each = squares_more c.loop-column.squares c.args.squares.now c.args.row.now c.loop-column.column-index c.in-Some.sum c.square_of.result c.loop-column-test.true within
          c.loop-column.invariant.each c.in-Some.ensures.1 (c.square_of.ensures ∙ ap (λ z. magnitude z * magnitude z) (to_z-of_z w32 _ f));
    }

pub returns-clause-added : goal.returns-clause-added
returns-clause-added c _ j = c.loop-column.invariant.each j ∙
    ap (λ n. get_or c.args.squares.now j 0 + n)
    (ap (λ r. row_square j r) (take_all c.loop-column.column-index c.args.row.now c.loop-column-test.false) ∙ row_square_is j c.args.row.now c.requires.sparse.ascending)

pub returns-in-None-clause-exceeded : goal.returns-in-None-clause-exceeded
returns-in-None-clause-exceeded c _ =
    let f : FitsSigned w32 (get_or c.args.row.now c.loop-column.column-index (0, pos 0)).1 = search rules in
    let column = c.requires.in_range c.loop-column.column-index (0, pos 0) c.loop-column-test.true in (
      (get_or c.args.row.now c.loop-column.column-index (0, pos 0)).0,
      column,
      square_past c.loop-column.squares c.args.squares.now c.args.row.now c.loop-column.column-index c.square_of.result (2 ^ 64) c.requires.sparse.ascending c.loop-column-test.true
          c.loop-column.invariant.each (c.square_of.ensures ∙ ap (λ z. magnitude z * magnitude z) (to_z-of_z w32 _ f))
          (reached (get_or c.loop-column.squares (get_or c.args.row.now c.loop-column.column-index (0, pos 0)).0 0 + c.square_of.result) (2 ^ 64) c.in-None.ensures),
    )
