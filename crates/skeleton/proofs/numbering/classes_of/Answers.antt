use Rattle.std.proofs.Common.{◌≡◌, ◌*◌, ℕ, List, Option, length, sym, subst, arith}
use Rattle.table_walk_laws.specs.Joined.{IsJoined, IsSymmetric, HasNeighboursBelow, neighbours_of}
use Rattle.table_definitions.specs.Classes.{IsNumbering}
use Rattle.skeleton_class_laws.specs.Neighbours.{AreNeighbours}
use Rattle.skeleton_class_laws.specs.Numberings.{per_tet, crossing, same, IsOrdered, AreFirsts}
use Rattle.skeleton_class_laws.proofs.NeighbourLemmas.{has_neighbours_below, is_symmetric}
use Rattle.skeleton_class_laws.proofs.NumberingLemmas.{numbering_from}
use Rattle.skeleton_class_laws.proofs.ClassTies.{each_reversible, joined_is_same}
use Rattle.skeleton.proofs.numbering.classes_of.Goals as goal

pub classes-requires : goal.classes-requires
classes-requires c = (
  omega arith,
  (
    grind arith,
    (
      subst (λ (t : List (List (Option ℕ))). HasNeighboursBelow (length t) (neighbours_of t)) (sym c.deref.ensures.value)
          (has_neighbours_below _ _ _ c.in_ok-neighbours.ensures.rows (each_reversible c.args.kind c.args.table.now c.in_ok-neighbours.ensures.is_table)),
      subst (λ (t : List (List (Option ℕ))). IsSymmetric (neighbours_of t)) (sym c.deref.ensures.value)
          (is_symmetric _ _ _ c.in_ok-neighbours.ensures.rows (each_reversible c.args.kind c.args.table.now c.in_ok-neighbours.ensures.is_table)),
    ),
  ),
)

-- the classes are those that the table of neighbours joins
by_classes : (t t' : List (List (Option ℕ))) (n : ℕ) (classes : List ℕ) (count : ℕ) → t' ≡ t → length t ≡ n → IsNumbering (length t') (IsJoined (neighbours_of t')) classes count →
    IsNumbering n (IsJoined (neighbours_of t)) classes count
by_classes t t' n classes count e l a = subst (λ m. IsNumbering m (IsJoined (neighbours_of t)) classes count) l
    (subst (λ (u : List (List (Option ℕ))). IsNumbering (length u) (IsJoined (neighbours_of u)) classes count) e a)

ordered_by : (n : ℕ) (Same : ℕ → ℕ → Type 0) (classes : List ℕ) (count : ℕ) → IsNumbering n Same classes count → IsOrdered classes
ordered_by n Same classes count a x k l m = a.ascending x k (omega (arith, a.one_each)) m

pub firsts-requires-clause-ordered : goal.firsts-requires-clause-ordered
firsts-requires-clause-ordered c = subst IsOrdered (sym c.deref-2.ensures.value) (ordered_by _ _ _ _ c.in_ok-numbered.ensures)

pub returns : goal.returns
returns c =
    let rows = c.args.table.now in
    let a : AreNeighbours (per_tet c.args.kind * length rows) (crossing c.args.kind rows) c.in_ok-neighbours.neighbours.items = c.in_ok-neighbours.ensures.rows in
    let f : AreFirsts c.in_ok-numbered.numbered.classes.items c.in_ok-firsts.firsts.items =
    subst (λ classes. AreFirsts classes c.in_ok-firsts.firsts.items) c.deref-2.ensures.value c.in_ok-firsts.ensures in
    record {
      numbering = numbering_from (neighbours_of c.in_ok-neighbours.neighbours.items) (per_tet c.args.kind * length rows) (same c.args.kind rows) _ _ _
          (by_classes _ _ _ _ _ c.deref.ensures.value a.one_each c.in_ok-numbered.ensures) f
          (joined_is_same c.args.kind rows c.in_ok-neighbours.neighbours.items c.in_ok-neighbours.ensures.is_table a);
      least_members = f;
    }
