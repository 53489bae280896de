-- One more corner.
use Rattle.std.proofs.Common.{◌≡◌, ◌+◌, ◌*◌, Vec, Global, sym, ap, ap₂, ◌∙◌}
use Rattle.std.specs.List.{slice_index_or}
use Rattle.skeleton_definitions.specs.Corners.{Corner, left_through}
use Rattle.presentation_definitions.specs.declared.Letter.{Letter}
use Rattle.presentation_definitions.specs.Presentations.{letter_of}
use Rattle.table_definitions.specs.Table.{face_number}
use Rattle.edge_group.proofs.Relating.{letter_added, letter_skipped}
use Rattle.edge_group.proofs.generators.Generators.relator.Goals as goal
use Rattle.edge_group.proofs.generators.Generators.relator.Goals.{in-Some+in_ok-push, in_default}

pub loop-corner-preserved : goal.loop-corner-preserved
loop-corner-preserved c = elim c.match-letter.branch [
  | in-Some+in_ok-push w ↦
      letter_added (λ (k : Corner). letter_of c.args.self.now.skeleton c.args.self.now.classes (face_number (left_through k))) c.args.corners.now c.loop-corner.corner-index c.corner-item.result c.loop-corner.letters.items c.match-letter.letters.items w.in-Some.letter c.loop-corner-test.true
      (here ∙ w.in-Some.is) c.loop-corner.invariant (ap (λ (v : Vec Letter Global). v.items) w.letters-is ∙ w.in_ok-push.ensures.items)
  | in_default w ↦
      ap (λ (v : Vec Letter Global). v.items) w.letters-is
      ∙ letter_skipped (λ (k : Corner). letter_of c.args.self.now.skeleton c.args.self.now.classes (face_number (left_through k))) c.args.corners.now c.loop-corner.corner-index c.corner-item.result c.loop-corner.letters.items c.loop-corner-test.true (here ∙ w.in_default.is) c.loop-corner.invariant
]
  where
    here : letter_of c.args.self.now.skeleton c.args.self.now.classes (face_number (left_through (slice_index_or c.args.corners.now c.loop-corner.corner-index c.corner-item.result))) ≡ c.letter.result
    here = ap (λ (k : Corner). letter_of c.args.self.now.skeleton c.args.self.now.classes (face_number (left_through k))) (sym c.corner-item.is)
        ∙ sym (c.letter.ensures ∙ ap₂ (λ t f. letter_of c.args.self.now.skeleton c.args.self.now.classes (4 * t + f)) (ap (λ (k : Corner). k.tet) c.corner.view_is) (ap (λ (k : Corner). k.c) c.corner.view_is))
