use Rattle.std.proofs.Common.{length, subst, sym, ap, ◌∙◌, arith}
use Rattle.std.proofs.lemmas.Result.{IfOk-weaker}
use Rattle.support_table.specs.Masks.{AreByteMasks}
use Rattle.support_table.specs.Outside.{AreByteOutsides}
use Rattle.support_table.specs.Near.{AreFullColumns}
use Rattle.support_table.proofs.NearLemmas.{table_for, common_full, near_rays_of}
use Rattle.support_table.proofs.near.near_rays.Goals as goal

pub byte_masks-requires : goal.byte_masks-requires
byte_masks-requires c = omega (arith, ap length c.deref.ensures.value, c.in_ok-clash.ensures.count, c.columns-columns.ensures, c.columns-columns.type_inv, c.args.chunk.copied.columns)

pub byte_outsides-requires : goal.byte_outsides-requires
byte_outsides-requires c = omega (arith, ap length c.deref-2.ensures.value, c.in_ok-lack.ensures.count, c.columns-columns.ensures, c.columns-columns.type_inv, c.args.chunk.copied.columns)

pub returns : goal.returns
returns c =
    let chunk = c.args.chunk in
    let table = chunk.part.now.table in
    let clash = c.in_ok-clash.clash.items in
    let lack = c.in_ok-lack.lack.items in
    IfOk-weaker c.near_by.result _ _ (λ near h. near_rays_of chunk.search.outers.now chunk.chosen.now clash lack chunk.search.rays.now.columns table.supports near.items chunk.short c.in_ok-clash.ensures c.in_ok-lack.ensures
    (h clash lack
    (table_for AreByteMasks clash c.deref.result.now c.in_ok-clashing.clashing.items c.deref-4.result.now table.columns c.deref.ensures.value c.deref-4.ensures.value
    (c.in_ok-clash.ensures.count ∙ sym chunk.copied.columns) c.in_ok-clashing.ensures)
    (table_for AreByteOutsides lack c.deref-2.result.now c.in_ok-lacking.lacking.items c.deref-5.result.now table.columns c.deref-2.ensures.value c.deref-5.ensures.value
    (c.in_ok-lack.ensures.count ∙ sym chunk.copied.columns) c.in_ok-lacking.ensures)
    (subst (AreFullColumns clash (length chunk.chosen.now)) (sym c.deref-3.ensures.value)
    (common_full chunk.search.outers.now chunk.chosen.now clash c.in_ok-common.common.items chunk.search.rays.now.columns c.in_ok-clash.ensures c.in_ok-common.ensures))))
    c.near_by.ensures
