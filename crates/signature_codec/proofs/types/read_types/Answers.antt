use Rattle.std.proofs.Common.{arith}
use Rattle.std.proofs.lemmas.Result.{err_from_is_err_and}
use Rattle.signature_codec.specs.Views.{types_view}
use Rattle.signature_text_laws.proofs.ReadLaws.{reads_on-more, reads_on-done, reads_on-unread, reads_on-wrong}
use Rattle.signature_codec.proofs.types.read_types.Goals as goal

pub returns-in_err-value-clause-reads : goal.returns-in_err-value-clause-reads
returns-in_err-value-clause-reads c =
    let p = err_from_is_err_and c.from_residual.result c.from_residual.ensures.1 in
    rw (p.1, p.2) (reads_on-unread _ _ _ (types_view c.loop-types.types) _ _ c.loop-types-test.true c.in_err-value.ensures.reads c.loop-types.invariant.1)

pub returns-in_err-take_character-clause-reads : goal.returns-in_err-take_character-clause-reads
returns-in_err-take_character-clause-reads c =
    let p = err_from_is_err_and c.from_residual-in_err-take_character.result c.from_residual-in_err-take_character.ensures.1 in
    rw (p.1, p.2) (reads_on-wrong _ _ _ (types_view c.loop-types.types) _ _ _ c.loop-types-test.true c.in_ok-value.ensures.reads c.in_err-take_character.ensures.reads c.loop-types.invariant.1)

pub loop-types-preserved : goal.loop-types-preserved
loop-types-preserved c =
    let on = reads_on-more _ _ c.loop-types.next (types_view c.loop-types.types) (types_view c.take_character.new.types) _ _ c.loop-types-test.true c.in_ok-value.ensures.reads c.in_ok-take_character.ensures.reads c.in_ok-take_character.ensures.less c.loop-types.invariant.1 in
    (omega (arith, c.in_ok-value.ensures.in_text), on)

pub returns-clause-reads : goal.returns-clause-reads
returns-clause-reads c = reads_on-done _ _ _ (types_view c.loop-types.types) _ c.loop-types-test.false c.loop-types.invariant.1
