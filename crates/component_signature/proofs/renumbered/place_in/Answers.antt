-- The index that the search finds is that of the number.
use Rattle.std.proofs.Common.{Err}
use Rattle.std.proofs.lemmas.List.Sorted.{searched}
use Rattle.component_signature.proofs.Searching.{rising, place_found, not_missed}
use Rattle.component_signature.proofs.renumbered.place_in.Goals as goal

pub unreachable-requires : goal.unreachable-requires
unreachable-requires c =
    let s = searched c.args.numbers.now c.args.tet (Err c.in-Err.field-0) c.in-Err.ensures.position (rising c.args.numbers.now c.requires.ascending) in
    not_missed c.args.numbers.now c.args.tet c.in-Err.field-0 c.requires.there s.1 s.2

pub returns : goal.returns
returns c = place_found c.args.numbers.now c.args.tet c.in-Ok.place c.requires.ascending c.in-Ok.ensures.bound (c.in-Ok.ensures.ok 0)
