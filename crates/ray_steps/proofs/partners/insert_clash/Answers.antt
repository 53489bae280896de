use Rattle.std.proofs.Common.{[], ap, set, subst, sym, true, ◌∙◌}
use Rattle.std.proofs.lemmas.List.{get_or_default}
use Rattle.ray_steps.specs.Partners.{IsInserted}
use Rattle.ray_steps.proofs.PartnerLemmas.{noted}
use Rattle.ray_steps.proofs.partners.insert_clash.Goals as goal

pub returns : goal.returns
returns c =
    let items = c.args.partners.now.items in
    let is = c.index_mut.ensures.value ∙ get_or_default items c.args.one c.index_mut.result.now [] c.requires.one in
    subst (λ s. IsInserted c.args.one c.args.other items (set items c.args.one s)) (sym (c.insert.ensures ∙ ap (λ s. set s c.args.other true) is))
    (noted c.args.one c.args.other items c.requires.one c.requires.other)
