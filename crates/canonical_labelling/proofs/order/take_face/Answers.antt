use Rattle.std.proofs.Common.{◌<◌, ◌/◌, length, arith, ap, ◌∙◌, sym, ℕ, subst}
use Rattle.signature_definitions.specs.Labellings.{Start}
use Rattle.table_definitions.specs.Table.{Face}
use Rattle.signature_laws.proofs.Marking.{met_below, follow_marks, start_is}
use Rattle.canonical_labelling.proofs.order.take_face.Goals as goal

pub glue-requires : goal.glue-requires
glue-requires c =
    let number : c.args.place / 4 < length c.args.walking.now.order.items = omega (arith, c.if-number-len.false, c.len.ensures, c.args.walking.now.order.ok) in
    record {
      in_range = subst (λ (t : ℕ). t < length c.args.table.now)
          (sym (ap (λ (x : Face). x.tet) c.face_from-face.ensures.value
          ∙ ap (λ (s : Start). s.tet) (start_is c.args.walking.now.order.items (c.args.place / 4) c.index-from.result.now number c.index-from.ensures)))
          (met_below c.args.table.now c.args.walking.now.order.items c.args.walking.now.visited.items (c.args.place / 4) c.requires number);
    }

pub returns-clause-walking : goal.returns-clause-walking
returns-clause-walking c =
    let inside : c.in-Some.glue.tet < length c.args.walking.now.visited.items =
    (let i = c.glue.ensures.is_table.in_range c.face_from-face.result c.in-Some.glue (sym c.glue.ensures.value ∙ c.in-Some.is) in let s = c.requires.size in omega arith) in
    follow_marks c.args.table.now c.index-from.result.now c.in-Some.glue c.args.walking.now.order.items c.follow.new.walking.order.items c.args.walking.now.visited.items c.follow.new.walking.visited.items
    c.requires inside c.in_ok-follow.ensures.order c.in_ok-follow.ensures.visited
