use Rattle.std.proofs.Common.{length, map, subst, sym, ap, ◌∙◌}
use Rattle.std.proofs.lemmas.List.{length-map}
use Rattle.std.proofs.lemmas.Result.{IfOk-weaker}
use Rattle.support_table.specs.Narrow.{narrowed, narrowed_outer}
use Rattle.support_table.specs.Parts.{AreOuters, AreFoundFor}
use Rattle.support_table.specs.Tables.{Table}
use Rattle.support_table.proofs.NarrowLemmas.{used_below, outers_narrowed, found_from_narrowed}
use Rattle.support_table.proofs.parts.find_narrowed.Goals as goal

pub narrowed_table-requires : goal.narrowed_table-requires
narrowed_table-requires c = used_below c.args.search.rays.now c.args.search.outers.now c.args.used.now c.requires

pub narrowed_outers-requires : goal.narrowed_outers-requires
narrowed_outers-requires c = used_below c.args.search.rays.now c.args.search.outers.now c.args.used.now c.requires

pub invariant_of-narrowed : goal.invariant_of-narrowed
invariant_of-narrowed c =
    let search = c.args.search in
    let used = c.args.used.now in
    let rays = c.in_ok-rays.rays in record {
      flags = search.flags ∙ sym (ap (λ (t : Table). length t.supports) c.in_ok-rays.ensures ∙ length-map search.rays.now.supports (narrowed used));
      are_outers = subst (AreOuters rays.columns (length rays.supports)) (sym (c.deref.ensures.value ∙ c.in_ok-outers.ensures))
          (subst (λ (t : Table). AreOuters t.columns (length t.supports) (map (narrowed_outer used) search.outers.now)) (sym c.in_ok-rays.ensures)
          (outers_narrowed search.rays.now search.outers.now used search.are_outers));
    }

pub returns : goal.returns
returns c =
    let search = c.args.search in
    let used = c.args.used.now in
    let rays = c.in_ok-rays.rays in
    let selected = search.selected.now in
    IfOk-weaker c.find_all.result _ _ (λ found h. found_from_narrowed search.rays.now search.outers.now used c.requires search.are_outers selected search.most found.items
    (subst (λ (t : Table). AreFoundFor t.supports (map (narrowed_outer used) search.outers.now) selected search.most found.items) c.in_ok-rays.ensures
    (subst (λ outers. AreFoundFor rays.supports outers selected search.most found.items) (c.deref.ensures.value ∙ c.in_ok-outers.ensures) h)))
    c.find_all.ensures
