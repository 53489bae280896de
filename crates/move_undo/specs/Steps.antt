-- Steps and kinds of move, as the definitions see them.
use Rattle.move_definitions.specs.MoveText as text
use Rattle.move_undo.specs.declared.reader.Step.{Step}
use Rattle.move_undo.specs.declared.reader.Step.TheVariants.{Play, Undo, Redo}
use Rattle.move_undo.specs.declared.reader.MoveKind.{MoveKind}
use Rattle.move_undo.specs.declared.reader.MoveKind.TheVariants.{OneFour, TwoThree, ThreeTwo, FourOne}

abbrev pub step_value : Step → text.Step
step_value (Play m) = text.play m
step_value Undo = text.undo
step_value Redo = text.redo

abbrev pub kind_value : MoveKind → text.MoveKind
kind_value OneFour = text.one_four
kind_value TwoThree = text.two_three
kind_value ThreeTwo = text.three_two
kind_value FourOne = text.four_one
