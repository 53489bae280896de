-- The invariant of the group that is returned.
use Rattle.std.proofs.Common.{◌<◌, ℕ, List, All, length, map, ap, sym, subst, subst₂, ◌∙◌}
use Rattle.std.proofs.lemmas.Slice.Zip.{AllZip-long}
use Rattle.table_definitions.specs.Table.{Row}
use Rattle.table_definitions.specs.Places.{IsConnected}
use Rattle.skeleton_definitions.specs.Skeleton.{Skeleton}
use Rattle.presentation_definitions.specs.Presentations.{IsTurning, IsRelator}
use Rattle.edge_group.specs.Fields.{letters_of}
use Rattle.edge_group.specs.Generators.{Generators}
use Rattle.edge_group.specs.Turns.{IsTreeWith}
use Rattle.presentation_laws.proofs.Marking.{only_root}
use Rattle.edge_group.proofs.group.presentation_of.Goals as goal

pub shortest_tree-requires : goal.shortest_tree-requires
shortest_tree-requires c = subst IsConnected (sym c.table.ensures.rows) c.requires

pub turning-requires : goal.turning-requires
turning-requires c =
    subst (λ (rows : List Row). IsTreeWith rows c.in_ok-tree.tree.faces.items c.in_ok-tree.tree.distances.items)
    (c.table.ensures.rows ∙ ap (λ (s : Skeleton). s.rows) (sym c.in_ok-generators.ensures.skeleton)) c.in_ok-tree.ensures

pub relators-requires : goal.relators-requires
relators-requires c =
    subst₂ (λ (s : Skeleton) (edges : List ℕ). All (λ d. d < s.edges.count) edges) (sym c.in_ok-generators.ensures.skeleton) (sym c.deref-2.ensures.value) c.in_ok-edges.ensures.in_range

pub invariant_of-result : goal.invariant_of-result
invariant_of-result c = record {
  limited = c.generators.invariant.limited;
  signs = AllZip-long (IsTurning c.in_ok-generators.generators.skeleton) c.in_ok-generators.generators.classes c.in_ok-turning.turning.items c.in_ok-turning.ensures
      ∙ ap (λ (g : Generators). length g.classes) (sym c.generators.view_is);
  bounded_edges = c.in_ok-edges.ensures.limited;
  one_each = AllZip-long (IsRelator c.in_ok-generators.generators.skeleton c.in_ok-generators.generators.classes) c.deref-2.result.now (map letters_of c.in_ok-relators.relators.items) c.in_ok-relators.ensures
      ∙ ap (λ (xs : List ℕ). length xs) c.deref-2.ensures.value;
  root = λ t l. only_root c.table.result.now c.in_ok-tree.tree.faces.items t c.in_ok-tree.ensures.tree l;
}
