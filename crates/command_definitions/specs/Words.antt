-- Which words are accepted, and what they ask for. The words are one command and then its options, in any order, each
-- at most once, as `--name value` or `--name=value`.
use Rattle.std.specs.Prelude.{ℕ, List, [], ◌∷◌, Option, None}
use Rattle.std.specs.List.{find}
use Rattle.text_definitions.specs.Reading.{same_word}
use Rattle.command_definitions.specs.declared.Request.{Request}
use Rattle.command_definitions.specs.Commands.{Command, commands, option_names}
use Rattle.command_definitions.specs.Options.{Given, options_of}
use Rattle.command_definitions.specs.Values.{values_of, request_with, ◌>>=◌}

-- the command of this name
abbrev pub command_named : List ℕ → Option Command
command_named w = find (λ c. same_word c.0 w) commands

-- the request of a command and the options that are given to it
abbrev pub request_given : Command → List Given → Option Request
request_given c options = request_with c.1 (values_of options)

-- the request of the words, if they are accepted, that is, in the grammar
abbrev pub accepted_request : List (List ℕ) → Option Request
accepted_request [] = None
accepted_request (w ∷ ws) = do
  command ← command_named w
  options ← options_of (option_names command.1) ws
  request_given command options
