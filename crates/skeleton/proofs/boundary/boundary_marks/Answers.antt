use Rattle.std.proofs.Common.{◌≡◌, ◌<◌, ℕ, List, Bool, false, Vec, Global, length, replicate, slice_index, arith, ap, ◌∙◌, sym, subst}
use Rattle.std.proofs.lemmas.List.{length-replicate, length-set}
use Rattle.skeleton.specs.Parts.{AreBoundaryMarks}
use Rattle.skeleton.proofs.MarkLemmas.{none_bounded, edge_passes, edge_marks, edges_end}
use Rattle.skeleton.proofs.boundary.boundary_marks.Goals as goal
use Rattle.skeleton.proofs.boundary.boundary_marks.Goals.{then-lies_in_boundary, else-lies_in_boundary}

-- each class is below the count
abbrev AreBelow : ℕ → List ℕ → Type 0
AreBelow count classes = (i : ℕ) → i < length classes → slice_index classes i < count

pub loop-edge-init : goal.loop-edge-init
loop-edge-init c =
    let count : c.len.result ≡ length c.args.edges.now.firsts.items = c.len.ensures ∙ c.args.edges.now.firsts.ok.0 in
    none_bounded c.args.table.now c.as_slice-classes.result.now (length c.args.edges.now.firsts.items) c.in_ok-marks.marks.items
    (c.in_ok-marks.ensures.items_if_clones_equal (λ y e. e) ∙ ap (λ n. replicate n false) count)
    (ap (λ (xs : List Bool). length xs) (c.in_ok-marks.ensures.items_if_clones_equal (λ y e. e)) ∙ length-replicate c.len.result false ∙ count)

pub loop-edge-preserved : goal.loop-edge-preserved
loop-edge-preserved c =
    let classes = c.as_slice-classes.result.now in
    let count = length c.args.edges.now.firsts.items in
    elim c.if-lies_in_boundary.branch [
      | then-lies_in_boundary w ↦ edge_marks c.args.table.now classes count c.loop-edge.edge _ c.loop-edge.invariant
          (sym c.lies_in_boundary.ensures ∙ w.if-lies_in_boundary.true)
          (subst (AreBelow count) (sym c.as_slice-classes.ensures.value) c.args.edges.now.in_range c.loop-edge.edge c.loop-edge-test.true) c.if-lies_in_boundary.marks.items
          (ap (λ (v : Vec Bool Global). v.items) w.marks-is)
          (ap (λ (v : Vec Bool Global). length v.items) w.marks-is ∙ length-set c.loop-edge.marks.items _ _ ∙ c.loop-edge.invariant.one_each)
      | else-lies_in_boundary w ↦ rw (ap (λ (v : Vec Bool Global). v.items) w.marks-is)
          (edge_passes c.args.table.now classes count c.loop-edge.edge _ c.loop-edge.invariant (sym c.lies_in_boundary.ensures ∙ w.if-lies_in_boundary.false))
    ]

pub returns : goal.returns
returns c =
    subst (λ (classes : List ℕ). AreBoundaryMarks c.args.table.now classes (length c.args.edges.now.firsts.items) c.loop-edge.marks.items) c.as_slice-classes.ensures.value
    (edges_end _ _ _ c.loop-edge.edge _ (let e : c.loop-edge.edge ≡ length c.as_slice-classes.result.now = omega arith in e) c.loop-edge.invariant)
