-- Both directions, word by word.
use Rattle.command_laws.proofs.Accepted.{accepted_spell, spelled_accept, refused_spell_none, none_spelled_refused, spelled_once}
use Rattle.command_laws.proofs.requests_are_accepted.Goals as goal

pub returns-clause-accepted : goal.returns-clause-accepted
returns-clause-accepted c = λ words r. (accepted_spell r words, spelled_accept r words)

pub returns-clause-refused : goal.returns-clause-refused
returns-clause-refused c = λ words. (refused_spell_none words, none_spelled_refused words)

pub returns-clause-once : goal.returns-clause-once
returns-clause-once c = spelled_once
