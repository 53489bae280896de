-- The summary is that of the table that was made.
use Rattle.std.proofs.Common.{◌≡◌, length, refl, arith}
use Rattle.std.proofs.lemmas.Result.{IfOk-weaker}
use Rattle.certificate_commands.proofs.Summed.{bulk_told, numbers_are}
use Rattle.certificate_commands.proofs.bulk_command.bulk.Goals as goal

pub returns : goal.returns
returns c =
    let moves : c.len.result ≡ length c.in_ok-made.made.certificate.items = (let ok = c.in_ok-made.made.certificate.ok in let reported = c.len.ensures in omega arith) in
    IfOk-weaker c.outcome_of_making.result _ _
    (λ o h. bulk_told c.args.seed c.args.moves c.in_ok-made.made.table c.in_ok-made.made.certificate.items _ o c.in_ok-made.ensures.made c.in_ok-made.ensures.certified
    (numbers_are c.args.seed c.len.result c.len-2.result c.in_ok-made.made.table c.in_ok-made.made.certificate.items _ refl moves c.len-2.ensures.value) h)
    c.outcome_of_making.ensures
