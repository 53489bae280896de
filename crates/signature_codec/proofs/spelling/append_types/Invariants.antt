use Rattle.std.proofs.Common.{◌≡◌, ◌≤◌, ◌+◌, ◌-◌, ◌++◌, map, drop, length}
use Rattle.signature_definitions.specs.Spelling.{character, packed}
use Rattle.signature_codec.proofs.spelling.append_types.Given as goal

abbrev pub invariant-loop-i : goal.invariant-loop-i
invariant-loop-i l = (l.i ≤ length l.types + 2) × (l.text.items ++ map character (packed (drop l.i l.types)) ≡ l.fn.text.items ++ map character (packed l.types))

abbrev pub decreases-loop-i : goal.decreases-loop-i
decreases-loop-i l = length l.types - l.i
