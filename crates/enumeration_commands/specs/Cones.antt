-- What reading the document of a cone returns.
use Rattle.std.specs.Prelude.{◌≡◌, Result, Ok, Err}
use Rattle.text_definitions.specs.declared.LexFault.{LexFault}
use Rattle.cone_text_definitions.specs.ConeText.{Cone, system_of}
use Rattle.cone_definitions.specs.Systems.{System}
use Rattle.cone_core.specs.declared.reader.ConeFault.{ConeFault}
use Rattle.cone_core.specs.declared.reader.ConeFault.TheVariants.{Lex, NoMemory}

abbrev pub GivesConeDocument : Result System ConeFault → Result Cone LexFault → Type 0
GivesConeDocument (Ok system) read = (cone : Cone) × (read ≡ Ok cone) × (system ≡ system_of cone)
GivesConeDocument (Err (Lex fault)) read = read ≡ Err fault
GivesConeDocument (Err NoMemory) read = Unit {0}
