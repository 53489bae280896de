-- The commands: the name of each, the options that it takes, and the request that it is by their values.
use Rattle.std.specs.Prelude.{ℕ, List, [], ◌∷◌, map, codes}
use Rattle.cone_definitions.specs.declared.Order.{Order}
use Rattle.surface_definitions.specs.declared.Coords.{Coords}
use Rattle.command_definitions.specs.declared.Request.{Request}
use Rattle.command_definitions.specs.declared.Request.TheVariants.{Verify, Info, Surfaces, Rays, Describe, Lift, Crush, Play, Sig, Same, Group, Check, Descend, Make, Bulk, Decompose, Addup, Cover, Pi1, Csig, Csame}
use Rattle.command_definitions.specs.Requests.{most_moves, most_bulk_moves}

-- The kinds of options. Of coordinates there are any, and those in which surfaces have pieces; of moves, up to a
-- number.
pub data Kind : Type 0 where
  Coordinates : Kind
  PieceCoordinates : Kind
  RowOrder : Kind
  Limit : Kind
  Seed : Kind
  Moves : ℕ → Kind

-- how an option is called
abbrev pub option_name : Kind → List ℕ
option_name Coordinates = codes "coords"
option_name PieceCoordinates = codes "coords"
option_name RowOrder = codes "order"
option_name Limit = codes "max-entry"
option_name Seed = codes "seed"
option_name (Moves most) = codes "moves"

-- what the value of an option is
abbrev pub ValueOf : Kind → Type 0
ValueOf Coordinates = Coords
ValueOf PieceCoordinates = Coords
ValueOf RowOrder = Order
ValueOf Limit = ℕ
ValueOf Seed = ℕ
ValueOf (Moves most) = ℕ

-- a request, by a value of each of these options
abbrev pub RequestBy : List Kind → Type 0
RequestBy [] = Request
RequestBy (kind ∷ kinds) = ValueOf kind → RequestBy kinds

-- what a command takes: options, and the request by their values
abbrev pub Takes : Type 0
Takes = (kinds : List Kind) × RequestBy kinds

-- a command: its name, and what it takes
abbrev pub Command : Type 0
Command = List ℕ × Takes

-- each command
abbrev pub commands : List Command
commands =
    (codes "verify", (Coordinates ∷ [], Verify))
    ∷ (codes "info", ([], Info))
    ∷ (codes "surfaces", (Coordinates ∷ RowOrder ∷ Limit ∷ [], Surfaces))
    ∷ (codes "rays", (RowOrder ∷ Limit ∷ [], Rays))
    ∷ (codes "describe", (PieceCoordinates ∷ [], Describe))
    ∷ (codes "lift", ([], Lift))
    ∷ (codes "crush", ([], Crush))
    ∷ (codes "play", ([], Play))
    ∷ (codes "sig", ([], Sig))
    ∷ (codes "same", ([], Same))
    ∷ (codes "group", ([], Group))
    ∷ (codes "check", ([], Check))
    ∷ (codes "descend", ([], Descend))
    ∷ (codes "make", (Seed ∷ Moves most_moves ∷ [], Make))
    ∷ (codes "bulk", (Seed ∷ Moves most_bulk_moves ∷ [], Bulk))
    ∷ (codes "decompose", (Coordinates ∷ Limit ∷ [], Decompose))
    ∷ (codes "addup", (Coordinates ∷ [], Addup))
    ∷ (codes "cover", ([], Cover))
    ∷ (codes "pi1", ([], Pi1))
    ∷ (codes "csig", ([], Csig))
    ∷ (codes "csame", ([], Csame))
    ∷ []

-- the names of a command's options
abbrev pub option_names : Takes → List (List ℕ)
option_names takes = map option_name takes.0
