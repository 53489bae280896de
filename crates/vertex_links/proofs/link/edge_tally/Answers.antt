use Rattle.std.proofs.Common.{◌≡◌, ◌*◌, ◌<◌, false, ℕ, List, Bool, length, subst, subst₂, arith}
use Rattle.std.specs.List.{slice_index_or}
use Rattle.table_definitions.specs.Table.{Row, glue}
use Rattle.skeleton_definitions.specs.Links.{is_first_side}
use Rattle.skeleton_class_laws.specs.Tallies.{side_at, AreTallies}
use Rattle.vertex_links.proofs.SideLemmas.{tally_edges}
use Rattle.vertex_links.proofs.link.edge_tally.Goals as goal

pub returns-clause-edges : goal.returns-clause-edges
returns-clause-edges c = tally_edges c.args.corners.skeleton.now.rows c.args.corners.skeleton.now.vertices.classes c.in_ok-passes.passes.items c.args.corners.owners.now c.in_ok-tallies.tallies.items c.args.corners.skeleton.now.vertices.count
    (subst₂ (λ (passes : List Bool) (n : ℕ). AreTallies passes c.args.corners.owners.now n c.in_ok-tallies.tallies.items) c.deref.ensures.value c.vertices.ensures.count c.in_ok-tallies.ensures)
    (omega (arith, c.args.corners.one_each, c.table.ensures.skeleton.vertices.one_each))
    (λ j m. passed j (omega (arith, c.args.corners.one_each))) (λ j m. c.args.corners.owned j (omega (arith, c.args.corners.one_each)))
  where
    passed : (j : ℕ) → j < 12 * length c.args.corners.skeleton.now.rows → slice_index_or c.in_ok-passes.passes.items j false ≡ is_first_side (side_at j) (glue c.args.corners.skeleton.now.rows (side_at j))
    passed = subst (λ (rows : List Row). (j : ℕ) → j < 12 * length rows → slice_index_or c.in_ok-passes.passes.items j false ≡ is_first_side (side_at j) (glue rows (side_at j))) c.table.ensures.rows c.in_ok-passes.ensures.passes
