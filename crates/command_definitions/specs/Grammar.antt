-- The grammar of the command line, as a relation between words and the request that they spell: the name of a command,
-- and then options that this command has, in any order, none of them twice. What the request holds are the values of
-- these options, and defaults of options that are not given.
use Rattle.std.specs.Prelude.{◌≡◌, ◌≢◌, ◌⊎◌, ℕ, false, List, [], ◌∷◌, ◌++◌, map, Option, Some, codes}
use Rattle.std.specs.List.{All, AllPairs, AllZip, Contains, flat_map}
use Rattle.text_definitions.specs.Written.{limit}
use Rattle.cone_definitions.specs.declared.Order.TheVariants as orders
use Rattle.surface_definitions.specs.declared.Coords.{Coords}
use Rattle.surface_definitions.specs.declared.Coords.TheVariants.{Standard, Quad}
use Rattle.command_definitions.specs.declared.Request.{Request}
use Rattle.command_definitions.specs.Commands.{Kind, Coordinates, PieceCoordinates, RowOrder, Limit, Seed, Moves, RequestBy, ValueOf, commands, option_name}
use Rattle.command_definitions.specs.Options.{Given, is_hyphened}
use Rattle.command_definitions.specs.Values.{coordinates_named, order_named, limit_named, decimal_up_to, most_seed}

-- The words of an option: `--name=value` in one word, or `--name` and then the value in a word of its own, which does
-- not begin with a hyphen, unless it is a hyphen alone.
abbrev pub IsSpelled : Given → List (List ℕ) → Type 0
IsSpelled option words =
    (words ≡ (codes "--" ++ option.0 ++ codes "=" ++ option.1) ∷ [])
    ⊎ ((words ≡ (codes "--" ++ option.0) ∷ option.1 ∷ []) × (is_hyphened option.1 ≡ false))

-- the option of this name is given by a word that means the value
abbrev pub IsGiven : {A : Type 0} → List ℕ → (List ℕ → Option A) → List Given → A → Type 0
IsGiven name meaning options value = (word : List ℕ) × Contains options (name, word) × (meaning word ≡ Some value)

-- no option of this name is given
abbrev pub IsAbsent : List ℕ → List Given → Type 0
IsAbsent name options = All (λ option. option.0 ≢ name) options

-- the value of the option of this name: by the word that is given, or by default
abbrev pub IsValue : {A : Type 0} → List ℕ → (List ℕ → Option A) → A → List Given → A → Type 0
IsValue name meaning default options value =
    IsGiven name meaning options value ⊎ (IsAbsent name options × (value ≡ default))

abbrev pub HasCoordinates : List Given → Coords → Type 0
HasCoordinates options coords = IsValue (option_name Coordinates) coordinates_named Standard options coords

-- what the value of an option of this kind is
abbrev pub HasValue : (kind : Kind) → List Given → ValueOf kind → Type 0
HasValue Coordinates options coords = HasCoordinates options coords
HasValue PieceCoordinates options coords = HasCoordinates options coords × (coords ≢ Quad)
HasValue RowOrder options order = IsValue (option_name RowOrder) order_named orders.Given options order
HasValue Limit options most = IsValue (option_name Limit) limit_named limit options most
HasValue Seed options seed = IsGiven (option_name Seed) (decimal_up_to most_seed) options seed
HasValue (Moves most) options moves = IsGiven (option_name (Moves most)) (decimal_up_to most) options moves

-- the request is the one by the values of options of these kinds
abbrev pub HasValues : (kinds : List Kind) → RequestBy kinds → List Given → Request → Type 0
HasValues [] request options r = request ≡ r
HasValues (kind ∷ kinds) request options r = (value : ValueOf kind) × HasValue kind options value × HasValues kinds (request value) options r

-- The words are the name of a command, and then the words of options that it takes, no two of one name; the request is
-- the command's by their values.
pub record IsRequest (words : List (List ℕ)) (r : Request) : Type 0 where
  pub name : List ℕ
  pub kinds : List Kind
  pub request : RequestBy kinds
  pub command : Contains commands (name, (kinds, request))
  pub options : List Given
  pub known : All (λ option. Contains (map option_name kinds) option.0) options
  pub separate : AllPairs (λ one other. one.0 ≢ other.0) options
  pub spellings : List (List (List ℕ))
  pub spelled : AllZip IsSpelled options spellings
  pub whole : words ≡ name ∷ flat_map (λ spelling. spelling) spellings
  pub values : HasValues kinds request options r
