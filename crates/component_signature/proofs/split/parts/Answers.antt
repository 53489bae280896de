-- One table for each component.
use Rattle.std.proofs.Common.{ℕ, List, [], ◌∷◌, ◌++◌, length, map, ap, sym, subst, ◌∙◌, arith}
use Rattle.table_definitions.specs.Lists.{below}
use Rattle.table_definitions.specs.Table.{Row}
use Rattle.table_definitions.specs.Places.{SameComponent}
use Rattle.table_definitions.specs.Classes.{IsNumbering}
use Rattle.component_definitions.specs.Parts.{Part, IsPart}
use Rattle.component_signature.specs.Components as components
use Rattle.component_signature.proofs.PartLemmas.{component_is, one_more, are_parts}
use Rattle.component_signature.proofs.split.parts.Goals as goal

pub part_of-requires-clause-part : goal.part_of-requires-clause-part
part_of-requires-clause-part c = subst (λ (classes : List ℕ). IsPart c.args.table.now (components.part_of c.args.table.now classes c.loop-component.component)) (sym c.deref.ensures.value)
    (component_is c.args.table.now c.in_ok-components.components.classes.items c.in_ok-components.components.count h c.loop-component.component c.loop-component-test.true)
  where
    h : IsNumbering (length c.args.table.now) (SameComponent c.args.table.now) c.in_ok-components.components.classes.items c.in_ok-components.components.count
    h = subst (λ (rows : List Row). IsNumbering (length rows) (SameComponent rows) c.in_ok-components.components.classes.items c.in_ok-components.components.count) c.rows.ensures.rows c.in_ok-components.ensures

pub loop-component-preserved : goal.loop-component-preserved
loop-component-preserved c = one_more c.args.table.now c.in_ok-components.components.classes.items c.loop-component.component c.loop-component.parts.items c.push.new.self.items c.loop-component.invariant
    (c.in_ok-push.ensures.items
    ∙ ap (λ (p : Part). c.loop-component.parts.items ++ p ∷ [])
    (c.in_ok-part.ensures ∙ ap (λ (classes : List ℕ). components.part_of c.args.table.now classes c.loop-component.component) c.deref.ensures.value))

pub returns-clause-parts : goal.returns-clause-parts
returns-clause-parts c = are_parts c.args.table.now c.in_ok-components.components.classes.items c.in_ok-components.components.count h c.rows.ensures.is_table c.loop-component.parts.items
    (c.loop-component.invariant ∙ ap (λ n. map (components.part_of c.args.table.now c.in_ok-components.components.classes.items) (below n)) (omega (arith, c.loop-component-test.false, c.loop-component.auto.component-end)))
  where
    h : IsNumbering (length c.args.table.now) (SameComponent c.args.table.now) c.in_ok-components.components.classes.items c.in_ok-components.components.count
    h = subst (λ (rows : List Row). IsNumbering (length rows) (SameComponent rows) c.in_ok-components.components.classes.items c.in_ok-components.components.count) c.rows.ensures.rows c.in_ok-components.ensures
