-- What the words request, as the code has it.
use Rattle.std.specs.Prelude.{◌≡◌, Option, Some, None, Result, Ok, Err, ⊤}
use Rattle.std.specs.Option.{option_map}
use Rattle.command_definitions.specs.Values as values
use Rattle.command_definitions.specs.declared.Request.{Request}
use Rattle.clap.specs.declared.error.kind.ErrorKind.{ErrorKind}
use Rattle.clap.specs.declared.error.kind.ErrorKind.TheVariants as kinds
use Rattle.command_words.specs.declared.values.Values.{Values}
use Rattle.command_words.specs.declared.WordsFault.{WordsFault}
use Rattle.command_words.specs.declared.WordsFault.TheVariants.{NoMemory, Usage}

-- the option values as texts
abbrev pub texts_of : Values → values.Values
texts_of v = record {
  coords = option_map (λ s. s.now) v.coords;
  order = option_map (λ s. s.now) v.order;
  max_entry = option_map (λ s. s.now) v.max_entry;
  seed = option_map (λ s. s.now) v.seed;
  moves = option_map (λ s. s.now) v.moves;
}

-- the error is the one of the definitions; nothing is stated for out of memory
abbrev pub FailsWords : WordsFault → Option Request → Type 0
FailsWords NoMemory asked = ⊤
FailsWords Usage asked = asked ≡ None

-- the result is the request of the words, or Usage if there is none
abbrev pub AnswersWords : Result Request WordsFault → Option Request → Type 0
AnswersWords (Ok r) asked = asked ≡ Some r
AnswersWords (Err fault) asked = FailsWords fault asked

-- the error for a parser error of this kind
abbrev pub parse_fault : ErrorKind → WordsFault
parse_fault kinds.OutOfMemory = NoMemory
parse_fault _ = Usage
