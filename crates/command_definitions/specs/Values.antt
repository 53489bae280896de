-- The values that options take, and the request of a command with such values.
use Rattle.std.specs.Prelude.{ℕ, Bool, ◌&&◌, nat_lt, nat_le, List, [], ◌∷◌, length, Option, Some, None, codes, if◌then◌else◌}
use Rattle.std.specs.Option.{option_and_then}
use Rattle.text_definitions.specs.Reading.{same_word}
use Rattle.text_definitions.specs.Text.{is_decimal, digits_value}
use Rattle.text_definitions.specs.Written.{limit}
use Rattle.surface_definitions.specs.Coordinates.{has_triangles}
use Rattle.surface_definitions.specs.declared.Coords.{Coords}
use Rattle.surface_definitions.specs.declared.Coords.TheVariants.{Standard, Quad, Octagon}
use Rattle.command_definitions.specs.Options.{Given, value_of}
use Rattle.cone_definitions.specs.declared.Order.{Order}
use Rattle.cone_definitions.specs.declared.Order.TheVariants as orders
use Rattle.command_definitions.specs.declared.Request.{Request}
use Rattle.command_definitions.specs.Commands.{Kind, Coordinates, PieceCoordinates, RowOrder, Limit, Seed, Moves, Takes, RequestBy, ValueOf}

-- the value of each option, if it is given
pub record Values : Type 0 where
  pub coords : Option (List ℕ)
  pub order : Option (List ℕ)
  pub max_entry : Option (List ℕ)
  pub seed : Option (List ℕ)
  pub moves : Option (List ℕ)

abbrev pub values_of : List Given → Values
values_of options = record {
  coords = value_of (codes "coords") options;
  order = value_of (codes "order") options;
  max_entry = value_of (codes "max-entry") options;
  seed = value_of (codes "seed") options;
  moves = value_of (codes "moves") options;
}

-- the meaning of an option, by a default if it is not given
abbrev pub or_default : {A : Type 0} → A → (List ℕ → Option A) → Option (List ℕ) → Option A
or_default x read None = Some x
or_default x read (Some w) = read w

-- what an option means that has to be named
abbrev pub needed : {A : Type 0} → (List ℕ → Option A) → Option (List ℕ) → Option A
needed read None = None
needed read (Some w) = read w

abbrev pub coordinates_named : List ℕ → Option Coords
coordinates_named w =
    if same_word w (codes "standard") then Some Standard
    else if same_word w (codes "quad") then Some Quad
    else if same_word w (codes "octagon") then Some Octagon
    else None

abbrev pub has_pieces : Coords → Option Coords
has_pieces coords = if has_triangles coords then Some coords else None

-- coordinates in which surfaces have pieces
abbrev pub piece_coordinates_named : List ℕ → Option Coords
piece_coordinates_named w = option_and_then has_pieces (coordinates_named w)

abbrev pub order_named : List ℕ → Option Order
order_named w =
    if same_word w (codes "given") then Some orders.Given
    else if same_word w (codes "short") then Some orders.Short
    else if same_word w (codes "zeros") then Some orders.Zeros
    else None

-- one to 45 digits
abbrev pub is_short_decimal : List ℕ → Bool
is_short_decimal w = is_decimal w && nat_le (length w) 45

-- a decimal up to max
abbrev pub decimal_up_to : ℕ → List ℕ → Option ℕ
decimal_up_to max w =
    if is_short_decimal w then (if nat_lt max (digits_value w) then None else Some (digits_value w)) else None

abbrev pub positive : ℕ → Option ℕ
positive n = if nat_lt 0 n then Some n else None

-- a decimal from 1 up to the limit
abbrev pub limit_named : List ℕ → Option ℕ
limit_named w = option_and_then positive (decimal_up_to limit w)

abbrev pub most_seed : ℕ
most_seed = 18446744073709551615

abbrev pub coordinates_in : Values → Option Coords
coordinates_in v = or_default Standard coordinates_named v.coords

abbrev pub piece_coordinates_in : Values → Option Coords
piece_coordinates_in v = or_default Standard piece_coordinates_named v.coords

abbrev pub order_in : Values → Option Order
order_in v = or_default orders.Given order_named v.order

abbrev pub limit_in : Values → Option ℕ
limit_in v = or_default limit limit_named v.max_entry

abbrev pub seed_in : Values → Option ℕ
seed_in v = needed (decimal_up_to most_seed) v.seed

abbrev pub moves_in : ℕ → Values → Option ℕ
moves_in most v = needed (decimal_up_to most) v.moves

infixl 10 ◌>>=◌
-- the result for a value, if there is one
abbrev pub ◌>>=◌ : {A B : Type 0} → Option A → (A → Option B) → Option B
None >>= f = None
(Some x) >>= f = f x

-- the value of an option of this kind
abbrev pub value_in : (kind : Kind) → Values → Option (ValueOf kind)
value_in Coordinates v = coordinates_in v
value_in PieceCoordinates v = piece_coordinates_in v
value_in RowOrder v = order_in v
value_in Limit v = limit_in v
value_in Seed v = seed_in v
value_in (Moves most) v = moves_in most v

-- the request by the values of these options
abbrev pub request_by : (kinds : List Kind) → RequestBy kinds → Values → Option Request
request_by [] request v = Some request
request_by (kind ∷ kinds) request v = do
  value ← value_in kind v
  request_by kinds (request value) v

-- the request of a command that takes this, with these values
abbrev pub request_with : Takes → Values → Option Request
request_with takes v = request_by takes.0 takes.1 v
