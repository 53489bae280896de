-- The parts of a signature's text after its number of tetrahedra and its face types.
use Rattle.std.specs.Prelude.{ℕ, ◌+◌, ◌*◌, List, [], length, nat_lt, Result, Ok}
use Rattle.text_definitions.specs.Reading.{◌>>=◌}
use Rattle.table_definitions.specs.Lists.{times_in}
use Rattle.signature_definitions.specs.declared.SigFault.{SigFault}
use Rattle.signature_definitions.specs.declared.SigFault.TheVariants as sig_faults
use Rattle.signature_definitions.specs.SignatureText as signatures

-- no type is read yet
abbrev pub types_begun : ℕ → signatures.Types
types_begun n = record { read = []; left = 4 * n; ones = 0 }

-- what is read after the types
abbrev pub parts_of : List ℕ → signatures.Head → signatures.Types → ℕ → Result signatures.Parts SigFault
parts_of text h s at =
    let twos : ℕ = times_in s.read 2 in
    let gluings_at : ℕ = at + h.width * twos in do
      d ← signatures.unless (nat_lt (s.ones + 1) h.count) sig_faults.Unreached (signatures.numbers_in twos text h.width h.count sig_faults.Destination at)
      g ← signatures.numbers_in twos text 1 24 sig_faults.Gluing gluings_at
      signatures.unless (nat_lt (gluings_at + twos) (length text)) (sig_faults.Trailing (gluings_at + twos)) (Ok (record { types = s.read; destinations = d; gluings = g }))
