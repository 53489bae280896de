use Rattle.std.proofs.Common.{◌≡◌, ◌+◌, ◌*◌, ◌/◌, ◌<◌, false, ℕ, List, Bool, length, ap, subst, subst₂, ◌∙◌, arith}
use Rattle.std.specs.Prelude.{◌==◌, slice_index}
use Rattle.std.specs.List.{slice_index_or}
use Rattle.table_definitions.specs.Table.{Row}
use Rattle.skeleton_class_laws.specs.declared.Kind.TheVariants.{VertexSigns}
use Rattle.skeleton_class_laws.specs.Numberings.{AreClassesOf}
use Rattle.skeleton_class_laws.specs.Tallies.{AreTallies}
use Rattle.skeleton_class_laws.proofs.LinkSigns.{tally_turned}
use Rattle.vertex_links.proofs.link.reversed_tally.Goals as goal

pub returns-clause-orientable : goal.returns-clause-orientable
returns-clause-orientable c k l = tally_turned c.args.skeleton.now.rows c.table-table.ensures.skeleton.table c.args.skeleton.now.vertices.classes c.args.skeleton.now.vertices.count c.table-table.ensures.skeleton.vertices
    c.in_ok-signs.signs.classes.items (length c.in_ok-signs.signs.firsts.items) classes.numbering k c.in_ok-passes.passes.items c.in_ok-members.members.items c.in_ok-tallies.tallies.items
    tallies c.in_ok-members.ensures.size passed owned l
  where
    classes : AreClassesOf VertexSigns c.args.skeleton.now.rows c.in_ok-signs.signs.classes.items c.in_ok-signs.signs.firsts.items
    classes = subst (λ (rows : List Row). AreClassesOf VertexSigns rows c.in_ok-signs.signs.classes.items c.in_ok-signs.signs.firsts.items) c.table-table.ensures.rows c.in_ok-signs.ensures

    tallies : AreTallies c.in_ok-passes.passes.items c.in_ok-members.members.items c.args.skeleton.now.vertices.count c.in_ok-tallies.tallies.items
    tallies = subst (λ n. AreTallies c.in_ok-passes.passes.items c.in_ok-members.members.items n c.in_ok-tallies.tallies.items) c.vertices.ensures.count
        (subst₂ (λ (passes : List Bool) (owners : List ℕ). AreTallies passes owners c.vertices.result c.in_ok-tallies.tallies.items) c.deref-2.ensures.value c.deref-3.ensures.value c.in_ok-tallies.ensures)

    passed : (j : ℕ) → j < 4 * length c.args.skeleton.now.rows
        → slice_index_or c.in_ok-passes.passes.items j false ≡ (slice_index c.in_ok-signs.signs.classes.items (2 * j) == slice_index c.in_ok-signs.signs.classes.items (2 * j + 1))
    passed = subst₂ (λ (ds : List ℕ) (n : ℕ). (j : ℕ) → j < 4 * n → slice_index_or c.in_ok-passes.passes.items j false ≡ (slice_index ds (2 * j) == slice_index ds (2 * j + 1)))
        c.deref.ensures.value (c.len.ensures.value ∙ ap (λ (rows : List Row). length rows) c.table-table.ensures.rows) c.in_ok-passes.ensures.passes

    owned : (j : ℕ) → j < 4 * length c.args.skeleton.now.rows → slice_index c.in_ok-members.members.items j ≡ slice_index c.args.skeleton.now.vertices.classes j
    owned j m = let same : j / 1 ≡ j = omega arith in c.in_ok-members.ensures.owners j m ∙ ap (slice_index c.args.skeleton.now.vertices.classes) same
