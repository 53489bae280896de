use Rattle.std.proofs.Common.{◌∙◌}
use Rattle.support_table.proofs.PartLemmas.{part_of_all, found_none}
use Rattle.support_table.proofs.parts.find_all.Goals as goal

pub find_parts-requires-clause-part : goal.find_parts-requires-clause-part
find_parts-requires-clause-part c =
    let search = c.args.search in
    let part = c.in_ok-part in
    record {
      separate = part_of_all search.rays.now.supports search.outers.now c.in_ok-chosen.chosen.items part.part.places.items c.in_ok-chosen.ensures part.ensures.places;
      copied = part.ensures.copied;
    }

pub find_parts-requires-clause-found : goal.find_parts-requires-clause-found
find_parts-requires-clause-found c =
    let search = c.args.search in
    let found = c.in_ok-found in
    found_none search.rays.now.supports search.outers.now search.selected.now search.most found.found.items (found.ensures.count ∙ c.len.ensures) found.ensures.none
