use Rattle.std.proofs.Common.{◌≡◌, [], length, sym, subst, ap, ◌∙◌, arith}
use Rattle.std.proofs.lemmas.List.{get_or_default}
use Rattle.support_bits.specs.Words.{AreWordsOf}
use Rattle.support_table.specs.declared.outer.Outer.{Outer}
use Rattle.support_table.specs.Parts.{outer_at}
use Rattle.support_table.proofs.NarrowLoops.{marked_none, marked_more, rays_still_marked, outers_marked}
use Rattle.support_table.proofs.narrow.add_outers.Goals as goal

pub loop-outer-init : goal.loop-outer-init
loop-outer-init c =
    let search = c.args.search in record {
      rays = c.requires;
      outers = marked_none search.rays.now.columns (λ k. (outer_at search.outers.now k).support) c.args.words.now.items c.requires.count;
    }

pub loop-outer-preserved : goal.loop-outer-preserved
loop-outer-preserved c =
    let search = c.args.search in
    let outers = search.outers.now in
    let columns = search.rays.now.columns in
    let i = c.loop-outer.outer-index in
    let it = c.outer-item.result in
    let old = c.loop-outer.words.items in
    let added = c.words.result.now in
    let new = c.add_bits.new.words.items in
    let wide = ap (λ (o : Outer). length o.support) c.outer-item.is ∙ search.are_outers.supports i it c.loop-outer-test.true in
    let at : outer_at outers i ≡ it = get_or_default outers i (record { place = 0; support = []; joined = [] }) it c.loop-outer-test.true ∙ sym c.outer-item.is in record {
      rays = rays_still_marked columns search.rays.now.supports old added new c.loop-outer.invariant.rays c.add_bits.ensures;
      outers = marked_more columns (λ k. (outer_at outers k).support) i old added new c.loop-outer.invariant.outers c.add_bits.ensures
          (subst (λ (o : Outer). AreWordsOf o.support added) (sym at) c.words.ensures) (ap (λ (o : Outer). length o.support) at ∙ wide);
    }

pub returns-clause-outers : goal.returns-clause-outers
returns-clause-outers c =
    let search = c.args.search in
    outers_marked search.rays.now.columns c.loop-outer.outer-index search.outers.now c.loop-outer.words.items c.loop-outer.invariant.outers (let low = c.loop-outer.auto.outer-index-end in omega (arith, low, c.loop-outer-test.false))
