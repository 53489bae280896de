use Rattle.std.proofs.Common.{◌≡◌, take}
use Rattle.clap.specs.Walk.{texts}
use Rattle.command_words.specs.Texts.{AreTexts}
use Rattle.command_words.proofs.reader.texts_of.Given as goal

abbrev pub invariant-loop-i : goal.invariant-loop-i
invariant-loop-i l = (texts l.texts.items ≡ take l.i l.words) × AreTexts (take l.i l.words)
