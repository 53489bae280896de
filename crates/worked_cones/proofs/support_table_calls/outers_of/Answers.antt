use Rattle.std.proofs.Common.{◌≡◌, ◌<◌, ◌∷◌, [], length, length-append, arith}
use Rattle.std.proofs.lemmas.List.Elements.{All-push}
use Rattle.support_table.specs.declared.outer.Outer.{Outer}
use Rattle.worked_cones.proofs.support_table_calls.outers_of.Goals as goal

pub loop-place-preserved : goal.loop-place-preserved
loop-place-preserved c =
    let given = c.args.given in
    let outers = c.loop-place.outers.items in
    let h = c.loop-place.invariant in
    let outer = c.in_ok-outer_of.field-0 in
    let is = c.in_ok-outer_of.ensures in
    rw c.in_ok-push.ensures.items record {
      count = omega (arith, length-append outers (outer ∷ []), h.count);
      outers = record {
        places = All-push (λ (it : Outer). it.place < length given.rows.now) outers outer h.outers.places (omega (arith, is.place, c.loop-place-test.true));
        supports = All-push (λ (it : Outer). length it.support ≡ given.columns) outers outer h.outers.supports is.support;
        joined = All-push (λ (it : Outer). length it.joined ≡ given.columns) outers outer h.outers.joined is.joined;
      };
    }
