-- There is no record yet.
use Rattle.std.proofs.Common.{◌≡◌, List, length, ap, arith}
use Rattle.move_definitions.specs.Moves.{Move}
use Rattle.move_undo.proofs.RecordLaws.{recorded-begun, first-begun}
use Rattle.move_undo.proofs.session.Session.new.Goals as goal

pub invariant_of-result : goal.invariant_of-result
invariant_of-result c =
    let none : length c.new.result.items ≡ 0 = ap (λ (ms : List Move). length ms) c.new.ensures.items in
    record {
      recorded = recorded-begun c.args.table c.new.result.items c.new-2.result.items c.new.ensures.items c.new-2.ensures.items;
      limited = omega arith;
      room = omega arith;
    }

pub returns : goal.returns
returns c = λ i. record { first = first-begun c.args.table c.new-2.result.items c.new-2.ensures.items i; moves = c.new.ensures.items i; played = length (c.new-2.ensures.items i) }
