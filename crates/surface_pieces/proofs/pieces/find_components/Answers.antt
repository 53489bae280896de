-- The components by the classes of meeting pieces.
use Rattle.std.proofs.Common.{rules, ℕ, List, Option, length, ap, subst, arith}
use Rattle.surface_vector_definitions.specs.Entries.{all_entries}
use Rattle.surface_laws.proofs.Offsets.{piece_numbers}
use Rattle.surface_pieces.specs.Across.{Across}
use Rattle.surface_pieces.specs.Vectors.{AreVectors}
use Rattle.surface_pieces.proofs.ComponentAnswers.{components_found, reported}
use Rattle.surface_pieces.proofs.Held.{held}
use Rattle.surface_pieces.proofs.SlotsOfArcs.{slots_few}
use Rattle.surface_pieces.proofs.pieces.find_components.Goals as goal

pub invariant_of-joined : goal.invariant_of-joined
invariant_of-joined g c = record { bounded_slots = omega (arith, c.requires, slots_few c.args.surface.now.coords.system); limited = omega (arith, ap (λ (rs : List (List (Option Across))). length rs) c.deref-3.ensures.value, c.in_ok-rows.ensures.size, (piece_numbers c.args.surface.now.entries.now).count, c.args.surface.now.limited) }

pub signs_of-requires : goal.signs_of-requires
signs_of-requires g c = (omega (arith, c.requires, slots_few c.args.surface.now.coords.system), (search rules, components_found c.args.surface.now.table.now c.args.surface.now.coords.system c.args.surface.now.entries.now c.in_ok-all.all.classes.items c.in_ok-all.all.count (held c.args.surface.now.table.now c.args.surface.now.coords.system c.args.surface.now.entries.now c.args.surface.now.normal) c.in_ok-all.ensures))

pub signs_of-requires-2 : goal.signs_of-requires-2
signs_of-requires-2 g c = (omega (arith, c.requires, slots_few c.args.surface.now.coords.system), (search rules, components_found c.args.surface.now.table.now c.args.surface.now.coords.system c.args.surface.now.entries.now c.in_ok-all.all.classes.items c.in_ok-all.all.count (held c.args.surface.now.table.now c.args.surface.now.coords.system c.args.surface.now.entries.now c.args.surface.now.normal) c.in_ok-all.ensures))

pub returns : goal.returns
returns g c =
    reported c.args.surface.now.table.now c.args.surface.now.coords.system c.args.surface.now.entries.now c.in_ok-all.all.classes.items c.in_ok-all.all.count (all_entries c.in_ok-vectors.vectors.items) c.in_ok-two_sided.two_sided.items c.in_ok-orientable.orientable.items
    (components_found c.args.surface.now.table.now c.args.surface.now.coords.system c.args.surface.now.entries.now c.in_ok-all.all.classes.items c.in_ok-all.all.count (held c.args.surface.now.table.now c.args.surface.now.coords.system c.args.surface.now.entries.now c.args.surface.now.normal) c.in_ok-all.ensures)
    (subst (λ (cs : List ℕ). AreVectors c.args.surface.now.entries.now cs c.in_ok-all.all.count (all_entries c.in_ok-vectors.vectors.items)) c.deref-4.ensures.value c.in_ok-vectors.ensures)
    c.in_ok-two_sided.ensures c.in_ok-orientable.ensures
