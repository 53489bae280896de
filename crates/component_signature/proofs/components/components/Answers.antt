-- The classes by the neighbours.
use Rattle.std.proofs.Common.{arith}
use Rattle.component_signature.proofs.ComponentLemmas.{below_all, symmetric_all, few_all, components_from}
use Rattle.component_signature.proofs.components.components.Goals as goal

pub classes-requires : goal.classes-requires
classes-requires c = (
  omega arith,
  (
    few_all c.args.rows.now c.deref.result.now c.in_ok-neighbours.neighbours.items c.requires c.deref.ensures.value c.in_ok-neighbours.ensures,
    (
      below_all c.args.rows.now c.deref.result.now c.in_ok-neighbours.neighbours.items c.requires c.deref.ensures.value c.in_ok-neighbours.ensures,
      symmetric_all c.args.rows.now c.deref.result.now c.in_ok-neighbours.neighbours.items c.requires c.deref.ensures.value c.in_ok-neighbours.ensures,
    ),
  ),
)

pub returns : goal.returns
returns c = components_from c.args.rows.now c.deref.result.now c.in_ok-neighbours.neighbours.items _ _ c.deref.ensures.value c.in_ok-neighbours.ensures c.in_ok-numbering.ensures
