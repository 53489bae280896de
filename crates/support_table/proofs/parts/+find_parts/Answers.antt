use Rattle.std.proofs.Common.{◌<◌, Contains, length, subst, sym, rules}
use Rattle.std.specs.List.{All}
use Rattle.support_table.specs.Parts.{AreCommonColumns, IsWithout}
use Rattle.support_table.proofs.PartLemmas.{part_of_some, part_without}
use Rattle.support_table.proofs.parts.+find_parts.Goals as goal

pub common_columns-requires : goal.common_columns-requires
common_columns-requires t c =
    let given = c.args.parting.search in
    let outers = given.outers.now in
    let having = c.in_ok-having.having.items in
    let some = subst (λ ks. All (Contains ks) having) c.deref-in-loop-2.ensures.value c.in_ok-having.ensures in
    subst (All (λ k. k < length outers)) (sym c.deref-in-loop-3.ensures.value)
    (part_of_some given.rays.now outers c.loop.chosen.items having c.args.part.now c.loop.invariant.0 some).separate.are_outers

pub find_parts-requires : goal.find_parts-requires
find_parts-requires t c =
    let given = c.args.parting.search in
    let outers = given.outers.now in
    let having = c.in_ok-having.having.items in
    let part = c.args.part.now in
    let some = subst (λ ks. All (Contains ks) having) c.deref-in-loop-2.ensures.value c.in_ok-having.ensures in
    let whole = part_of_some given.rays.now outers c.loop.chosen.items having part c.loop.invariant.0 some in
    let common = subst (λ ks. AreCommonColumns outers ks given.rays.now.columns c.in_ok-common.common.items) c.deref-in-loop-3.ensures.value c.in_ok-common.ensures in
    let left = subst (λ ws. IsWithout given.rays.now ws part.places.items (length part.places.items) c.in_ok-left.left) c.deref-in-loop-4.ensures.value (c.in_ok-left.ensures given.rays.now whole.copied) in (
      search rules,
      (part_without given.rays.now outers having c.in_ok-common.common.items part c.in_ok-left.left whole common left, c.loop.invariant.1),
    )

pub loop-preserved : goal.loop-preserved
loop-preserved t c =
    let given = c.args.parting.search in
    let chosen = c.in_ok-chosen.chosen.items in (
      part_of_some given.rays.now given.outers.now c.loop.chosen.items chosen c.args.part.now c.loop.invariant.0
          (subst (λ ks. All (Contains ks) chosen) c.deref-in-loop-5.ensures.value c.in_ok-chosen.ensures),
      c.in_ok-find_parts.ensures,
    )
