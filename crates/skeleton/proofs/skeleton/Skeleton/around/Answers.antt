use Rattle.std.proofs.Common.{◌<◌, ◌*◌, List, length, sym, subst, arith}
use Rattle.std.specs.Prelude.{slice_index}
use Rattle.skeleton_definitions.specs.Corners.{Corner}
use Rattle.skeleton_definitions.specs.Skeleton.{Skeleton, IsSkeleton, IsAround}
use Rattle.skeleton_class_laws.proofs.WalkLemmas.{around_class}
use Rattle.skeleton.proofs.skeleton.Skeleton.around.Goals as goal

pub returns : goal.returns
returns c = subst (λ (s : Skeleton). IsAround s c.args.class c.deref.result.now) c.self.view_is
    (subst (λ (corners : List Corner). IsAround shown c.args.class corners) (sym c.deref.ensures.value)
    (around_class shown c.args.class (slice_index c.self.inside.edges.firsts.items c.args.class) _ c.index.result.now.items is_skeleton
    (c.self.invariant.edges.least_members.least_member c.args.class below) inside (c.self.invariant.edges.least_members.member c.args.class below)
    (c.self.invariant.boundary.reported c.args.class below) (c.self.invariant.walks.reported c.args.class c.index.result.now below c.index.ensures)))
  where
    shown : Skeleton
    shown = record {
      rows = c.self.inside.table;
      vertices = record { classes = c.self.inside.vertices.classes.items; count = length c.self.inside.vertices.firsts.items };
      edges = record { classes = c.self.inside.edges.classes.items; count = length c.self.inside.edges.firsts.items };
      faces = record { classes = c.self.inside.faces.classes.items; count = length c.self.inside.faces.firsts.items };
    }

    is_skeleton : IsSkeleton shown
    is_skeleton = record {
      table = c.self.invariant.table;
      vertices = c.self.invariant.vertices.numbering;
      edges = c.self.invariant.edges.numbering;
      faces = c.self.invariant.faces.numbering;
    }

    below : c.args.class < length c.self.inside.edges.firsts.items
    below = subst (λ (s : Skeleton). c.args.class < s.edges.count) (sym c.self.view_is) c.requires

    inside : slice_index c.self.inside.edges.firsts.items c.args.class < 6 * length c.self.inside.table
    inside = omega (arith, c.self.invariant.edges.least_members.in_range c.args.class below, c.self.invariant.edges.numbering.one_each)
