-- One more edge class, and in the end all of them.
use Rattle.std.proofs.Common.{◌≡◌, ◌+◌, ◌<◌, ℕ, List, [], ◌∷◌, ◌++◌, All, Vec, Global, length, length-append, ap, sym, subst, arith, ◌∙◌}
use Rattle.std.proofs.lemmas.List.Elements.{All-push, All-weaker}
use Rattle.edge_group.proofs.Relating.{edge_passes, edge_grows}
use Rattle.edge_group.proofs.relators.internal_edge_classes.Goals as goal
use Rattle.edge_group.proofs.relators.internal_edge_classes.Goals.{then-not-is_boundary_edge+in_ok-push, else-not-is_boundary_edge}

pub loop-class-preserved : goal.loop-class-preserved
loop-class-preserved c = elim c.if-not-is_boundary_edge.branch [
  | then-not-is_boundary_edge+in_ok-push w ↦
      let e : c.if-not-is_boundary_edge.edges.items ≡ c.loop-class.edges.items ++ c.loop-class.class ∷ [] = ap (λ (v : Vec ℕ Global). v.items) w.edges-is ∙ w.in_ok-push.ensures.items in
      record {
        edges = e ∙ ap (λ xs. xs ++ c.loop-class.class ∷ []) c.loop-class.invariant.edges
            ∙ sym (edge_grows c.args.skeleton.now.rows c.args.skeleton.now.edges.classes c.loop-class.class (sym c.is_boundary_edge.ensures ∙ w.if-not-is_boundary_edge.true));
        inside = subst (All (λ d. d < c.loop-class.class + 1)) (sym e) (All-push (λ d. d < c.loop-class.class + 1) c.loop-class.edges.items c.loop-class.class later (omega arith));
        limited = omega (arith, ap (λ (xs : List ℕ). length xs) e, length-append c.loop-class.edges.items (c.loop-class.class ∷ []));
      }
  | else-not-is_boundary_edge w ↦
      let e : c.if-not-is_boundary_edge.edges.items ≡ c.loop-class.edges.items = ap (λ (v : Vec ℕ Global). v.items) w.edges-is in
      record {
        edges = e ∙ c.loop-class.invariant.edges ∙ sym (edge_passes c.args.skeleton.now.rows c.args.skeleton.now.edges.classes c.loop-class.class (sym c.is_boundary_edge.ensures ∙ w.if-not-is_boundary_edge.false));
        inside = subst (All (λ d. d < c.loop-class.class + 1)) (sym e) later;
        limited = omega (arith, ap (λ (xs : List ℕ). length xs) e);
      }
]
  where
    later : All (λ d. d < c.loop-class.class + 1) c.loop-class.edges.items
    later = All-weaker (λ d. d < c.loop-class.class) (λ d. d < c.loop-class.class + 1) (λ d l. omega arith) c.loop-class.edges.items c.loop-class.invariant.inside
