use Rattle.std.proofs.Common.{◌+◌, subst, sym, ap, ◌∙◌, arith}
use Rattle.support_table.specs.Near.{IsNearBy, AreNearBy}
use Rattle.support_table.proofs.NearLemmas.{near_none, near_push, near_skip}
use Rattle.support_table.proofs.near.near_by.Goals.{in-Some+in_ok-push, in_default}
use Rattle.support_table.proofs.near.near_by.Goals as goal

pub loop-place-init : goal.loop-place-init
loop-place-init c clashing lacking _ _ _ =
    let tables = c.args.tables in
    let supports = tables.table.now.supports in
    subst (AreNearBy clashing lacking supports tables.count 0) (sym c.in_ok-near.ensures.items) (near_none clashing lacking supports tables.count)

pub loop-place-preserved : goal.loop-place-preserved
loop-place-preserved c clashing lacking masks outsides full =
    let tables = c.args.tables in
    let supports = tables.table.now.supports in
    let place = c.loop-place.place in
    let near = c.loop-place.near.items in
    let h = c.loop-place.invariant clashing lacking masks outsides full in
    let by = c.near_at.ensures clashing lacking masks outsides full in
    elim c.match-near_at.branch [
      | in-Some+in_ok-push w ↦ subst (AreNearBy clashing lacking supports tables.count (place + 1)) (sym (ap (λ v. v.items) w.near-is ∙ w.in_ok-push.ensures.items))
          (near_push clashing lacking supports tables.count place near h _ (subst (IsNearBy clashing lacking supports tables.count place) w.in-Some.is by))
      | in_default w ↦ subst (AreNearBy clashing lacking supports tables.count (place + 1)) (sym (ap (λ v. v.items) w.near-is))
          (near_skip clashing lacking supports tables.count place near h (subst (IsNearBy clashing lacking supports tables.count place) w.in_default.is by))
    ]

pub returns : goal.returns
returns c clashing lacking masks outsides full =
    let tables = c.args.tables in
    let supports = tables.table.now.supports in
    subst (λ n. AreNearBy clashing lacking supports tables.count n c.loop-place.near.items) (let low = c.loop-place.auto.place-end in omega (arith, low, c.loop-place-test.false, c.len-place-end.ensures))
    (c.loop-place.invariant clashing lacking masks outsides full)
