-- A signature of 63 tetrahedra, with two numbers in its head, computed.
use Rattle.std.proofs.Common.{◌≡◌, ℕ, ◌+◌, ◌-◌, ◌%◌, List, ◌++◌, map, replicate, Option, Ok, refl}
use Rattle.std.specs.Prelude.{codes, ◌==◌, nat_lt, if◌then◌else◌}
use Rattle.table_definitions.specs.Lists.{below}
use Rattle.table_definitions.specs.Table.{Gluing, Row}
use Rattle.signature_definitions.specs.Spelling.{spelling}
use Rattle.signature_definitions.specs.SignatureText.{signature_table}
use Rattle.signature_definitions.proofs.Computed.{computed}
use Rattle.table_definitions.proofs.Tables.{by, free, row}

-- `-b-b`, 61 times `e`, and `aa`
chain_text : List ℕ
chain_text = codes "-b-b" ++ replicate 61 101 ++ codes "aa"

up : ℕ → Option Gluing
up t = if nat_lt t 62 then by (t + 1) 0 else free

down : ℕ → Option Gluing
down t = if nat_lt 0 t then by (t - 1) 0 else free

-- tetrahedra t and t + 1 are glued along face 0 if t is even, and along face 1 if t is odd
chain : List Row
chain = map (λ t. if t % 2 == 0 then row (up t) (down t) free free else row (down t) (up t) free free) (below 63)

chain_read : signature_table chain_text ≡ Ok chain
unfolding computed chain_text chain up down
chain_read = refl

chain_spelled : spelling chain ≡ chain_text
unfolding computed chain_text chain up down
chain_spelled = refl
