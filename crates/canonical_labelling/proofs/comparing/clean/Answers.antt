-- At most as many tetrahedra are visited as there are numbers.
use Rattle.std.proofs.Common.{◌≤◌, ◌*◌, length, ap, arith}
use Rattle.canonical_labelling.specs.Comparisons.{comparison_view}
use Rattle.canonical_labelling.proofs.ComparisonLemmas.{few_numbered}
use Rattle.canonical_labelling.proofs.comparing.clean.Goals as goal

pub overflow_mul-visited : goal.overflow_mul-visited
overflow_mul-visited c =
    let limited : length c.args.comparison.now.walking.order.items ≤ length c.args.comparison.now.numbers.items = few_numbered (4 * length c.args.comparison.now.numbers.items) (comparison_view c.args.comparison.now) c.requires in
    let all = c.requires.limited in
    omega (arith, limited, all, c.len-visited.ensures, c.args.comparison.now.walking.order.ok)

pub unmark_first-requires-clause-in_range : goal.unmark_first-requires-clause-in_range
unmark_first-requires-clause-in_range c =
    let limited : length c.args.comparison.now.walking.order.items ≤ length c.args.comparison.now.numbers.items = few_numbered (4 * length c.args.comparison.now.numbers.items) (comparison_view c.args.comparison.now) c.requires in
    let faces = c.requires.crossed in
    let value = ap length c.deref_mut.ensures.value in
    omega (arith, limited, faces, value, c.len-visited.ensures, c.args.comparison.now.walking.order.ok)
