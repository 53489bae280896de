use Rattle.text_partial_laws.proofs.SoundFaults.{sound_faults_leave_first}
use Rattle.text_partial_laws.proofs.SoundSymbols.{sound_symbols_go_on}
use Rattle.text_partial_laws.proofs.sound_faults_leave_first.Goals as goal

pub returns-clause-symbols : goal.returns-clause-symbols
returns-clause-symbols c = sound_symbols_go_on

pub returns-clause-faults : goal.returns-clause-faults
returns-clause-faults c = sound_faults_leave_first
