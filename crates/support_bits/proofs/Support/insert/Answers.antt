use Rattle.std.proofs.Common.{◌<◌, ap, length, arith}
use Rattle.support_bits.proofs.WordLemmas.{length-spelled}
use Rattle.support_bits.proofs.InsertLemmas.{inserted_padded, inserted_spelled}
use Rattle.support_bits.proofs.Support.insert.Goals as goal

pub set_bit-requires : goal.set_bit-requires
set_bit-requires c =
    let n = length-spelled c.self.inside.columns c.self.inside.words.items in
    let v = ap length c.self.view_is in
    omega (arith, n, v, c.requires, c.self.invariant.count)

pub invariant_of-self : goal.invariant_of-self
invariant_of-self c =
    let n = length-spelled c.self.inside.columns c.self.inside.words.items in
    let v = ap length c.self.view_is in
    inserted_padded c.self.inside.columns c.args.column c.self.inside.words.items c.set_bit.new.words.items (omega (arith, n, v, c.requires)) c.self.invariant
    c.set_bit.ensures.count c.set_bit.ensures.set c.set_bit.ensures.others

pub returns : goal.returns
returns c =
    let n = length-spelled c.self.inside.columns c.self.inside.words.items in
    let v = ap length c.self.view_is in
    let within : c.args.column < c.self.inside.columns = omega (arith, n, v, c.requires) in
    rw (← c.self.view_is)
    (inserted_spelled c.self.inside.columns c.args.column c.self.inside.words.items c.set_bit.new.words.items within c.self.invariant
    c.set_bit.ensures.count c.set_bit.ensures.set c.set_bit.ensures.others)
