-- The grammar of the command line as given to the parser, and what is read from its matches.
use Rattle.std.specs.Prelude.{true, if◌then◌else◌, List, [], ◌∷◌, map, Option, Some, None, codes}
use Rattle.std.specs.Borrow.{Bor}
use Rattle.clap.specs.Walk.{Row, Rule, Text, first_of}
use Rattle.clap.specs.Simple.{App, Shape, new_rule, new_shape, with_subcommand}
use Rattle.clap.specs.declared.builder.action.ArgAction.TheVariants.{Set}
use Rattle.command_definitions.specs.declared.Request.{Request}
use Rattle.command_definitions.specs.declared.Request.TheVariants.{Verify, Surfaces, Rays, Describe, Make, Bulk, Decompose, Addup}
use Rattle.command_definitions.specs.Requests.{most_moves, most_bulk_moves}
use Rattle.command_definitions.specs.Commands.{Command, Coordinates, PieceCoordinates, RowOrder, Limit, Seed, Moves, Takes, option_names}
use Rattle.command_definitions.specs.Values.{Values, request_with}
use Rattle.text_definitions.specs.Reading.{same_word}
use Rattle.command_definitions.specs.Words.{command_named}

-- the argument of an option
abbrev pub option_argument : Text → Rule
option_argument name = record (new_rule name) { long = Some name; action = Some Set }

-- the subcommand of a command with its options
abbrev pub subcommand_with : Text → List Text → Shape
subcommand_with name options = record (new_shape name) { rules = map option_argument options }

-- the program, without its commands
abbrev pub bare_program : App
bare_program = record {
  top = record (new_shape (codes "trinorm")) {
    no_binary_name = true;
    disable_help_flag = true;
    disable_help_subcommand = true;
    disable_version_flag = true;
  };
  subs = [];
}

-- the program with one command alone
abbrev pub program_with : Command → App
program_with c = with_subcommand bare_program (subcommand_with c.0 (option_names c.1))

-- what the command of a request takes, whatever the values of the request
abbrev pub takes_of : Request → Takes
takes_of (Verify coords) = (Coordinates ∷ [], Verify)
takes_of (Surfaces coords order most) = (Coordinates ∷ RowOrder ∷ Limit ∷ [], Surfaces)
takes_of (Rays order most) = (RowOrder ∷ Limit ∷ [], Rays)
takes_of (Describe coords) = (PieceCoordinates ∷ [], Describe)
takes_of (Make seed moves) = (Seed ∷ Moves most_moves ∷ [], Make)
takes_of (Bulk seed moves) = (Seed ∷ Moves most_bulk_moves ∷ [], Bulk)
takes_of (Decompose coords most) = (Coordinates ∷ Limit ∷ [], Decompose)
takes_of (Addup coords) = (Coordinates ∷ [], Addup)
takes_of request = ([], request)

-- a command as the code lists it: its name, and a request of it
abbrev pub Listed : Type 0
Listed = Bor Text × Request

abbrev pub listed_command : Listed → Command
listed_command row = (row.0.now, takes_of row.1)

-- the first of the commands with this name
abbrev pub command_among : Text → List Listed → Option Command
command_among name [] = None
command_among name (row ∷ rows) = if same_word row.0.now name then Some (listed_command row) else command_among name rows

-- the command that words begin with
abbrev pub command_before : List Text → Option Command
command_before [] = None
command_before (w ∷ ws) = command_named w

-- the values of the options among the matches
abbrev pub values_in : List Row → Values
values_in found = record {
  coords = first_of (codes "coords") found;
  order = first_of (codes "order") found;
  max_entry = first_of (codes "max-entry") found;
  seed = first_of (codes "seed") found;
  moves = first_of (codes "moves") found;
}

-- the request of a command that takes these options, with the values in the matches, if the command occurs
abbrev pub request_in : Takes → Option (Text × List Row) → Option Request
request_in takes None = None
request_in takes (Some p) = request_with takes (values_in p.1)
