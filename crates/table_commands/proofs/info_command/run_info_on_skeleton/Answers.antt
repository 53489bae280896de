-- The printed information is that of the table.
use Rattle.outcome_definitions.specs.Information.{Information, AreValid}
use Rattle.std.proofs.Common.{◌≡◌, Bool, List, length, refl, sym, ap, ◌∙◌, subst}
use Rattle.std.specs.Prelude.{IsTrue, ◌↔◌}
use Rattle.skeleton_definitions.specs.declared.Link.{Link}
use Rattle.skeleton_definitions.specs.Skeleton.{AreLinks}
use Rattle.table_definitions.specs.Table.{Row}
use Rattle.table_definitions.specs.Places.{IsConnected}
use Rattle.table_commands.proofs.ClassLines.{informed}
use Rattle.table_commands.proofs.info_command.run_info_on_skeleton.Goals as goal

pub invariant_of-information : goal.invariant_of-information
invariant_of-information c = record {
  link_each = ap (λ (ls : List Link). length ls) c.deref.ensures.value ∙ c.in_ok-links.ensures.one_each;
  valid_each = ap (λ (vs : List Bool). length vs) c.deref-2.ensures.value ∙ c.in_ok-valid.ensures.one_each;
}

pub returns : goal.returns
returns c =
    let i : Information = record { skeleton = c.args.skeleton.now; links = c.deref.result.now; valid = c.deref-2.result.now; connected = c.in_ok-connected.connected; orientable = c.is_orientable.result } in
    informed c.args.skeleton.now.rows i _ c.in_ok-text.text.items
    (record {
      of_table = refl;
      skeleton = c.table.ensures.skeleton;
      one_each = ap (λ (ls : List Link). length ls) c.deref.ensures.value ∙ c.in_ok-links.ensures.one_each;
      links = subst (λ (ls : List Link). AreLinks c.args.skeleton.now (length ls) ls) (sym c.deref.ensures.value) c.in_ok-links.ensures.links;
      valid = subst (λ (vs : List Bool). AreValid c.args.skeleton.now c.args.skeleton.now.edges.count vs) (sym c.deref-2.ensures.value) c.in_ok-valid.ensures.valid;
      connected = subst (λ (rows : List Row). IsTrue c.in_ok-connected.connected ↔ IsConnected rows) c.table.ensures.rows c.in_ok-connected.ensures;
      orientable = c.is_orientable.ensures;
    }) c.with_text.ensures c.in_ok-text.ensures
