-- Words for each request, with all its options as words `--name=value`, and the range of a request that words spell.
use Rattle.std.proofs.Common.{◌≡◌, ◌≢◌, ◌++◌, ℕ, ◌≤◌, true, inl, inr, refl, subst, List, [], ◌∷◌, map, Option, Some, codes, ◌^◌, arith}
use Rattle.std.specs.Prelude.{nat_lt, decimal, ⊤}
use Rattle.std.specs.Option.{unwrap_or}
use Rattle.std.specs.List.{AllByRecursion, AllZip, Contains}
use Rattle.std.proofs.lemmas.List.Elements.{All-from_recursion}
use Rattle.std.proofs.lemmas.List.Kept.{AllPairs-cons}
use Rattle.text_definitions.specs.Written.{limit}
use Rattle.cone_definitions.specs.declared.Order.{Order}
use Rattle.cone_definitions.specs.declared.Order.TheVariants as orders
use Rattle.surface_definitions.specs.declared.Coords.{Coords}
use Rattle.surface_definitions.specs.declared.Coords.TheVariants.{Standard, Quad, Octagon}
use Rattle.command_definitions.specs.declared.Request.{Request}
use Rattle.command_definitions.specs.declared.Request.TheVariants as requests
use Rattle.command_definitions.specs.Commands.{Command, Kind, Coordinates, PieceCoordinates, RowOrder, Limit, Seed, Moves, Takes, RequestBy, ValueOf, commands, option_name, option_names}
use Rattle.command_definitions.specs.Options.{Given}
use Rattle.command_definitions.specs.Requests.{HoldsRange, most_moves, most_bulk_moves}
use Rattle.command_definitions.specs.Values.{coordinates_named, order_named, limit_named, decimal_up_to, most_seed}
use Rattle.command_definitions.specs.Grammar.{IsRequest, IsSpelled, HasValue, HasValues}
use Rattle.command_definitions.proofs.Accepted.{Holds, HoldsAll, accepted_hold_all, holds_range}
use Rattle.command_laws.specs.Laws.{HasShortSeed}
use Rattle.command_laws.proofs.Lookups.{Text, Apart, Member, row_of, apart_by_test, are_apart, contains_of, row_found}
use Rattle.command_laws.proofs.OptionLists.{AreApart, joined}
use Rattle.command_laws.proofs.Decimals.{decimal_read, limit_read}
use Rattle.command_laws.proofs.Accepted.{spelled_accept}

pairs_of : (options : List Given) → Apart options → AreApart options
pairs_of [] separate = λ i j d less limited. absurd (omega arith)
pairs_of (option ∷ options) separate =
    AllPairs-cons (λ (one other : Given). one.0 ≢ other.0) option options (All-from_recursion (λ (other : Given). option.0 ≢ other.0) options separate.0) (pairs_of options separate.1)

-- an option as one word
abbrev in_one_word : Given → List Text
in_one_word option = (codes "--" ++ option.0 ++ codes "=" ++ option.1) ∷ []

all_spelled : (options : List Given) → AllZip IsSpelled options (map in_one_word options)
all_spelled [] = tt
all_spelled (option ∷ options) = (inl refl, all_spelled options)

-- words for a request
abbrev Words : Request → Type 0
Words r = (words : List Text) × IsRequest words r

-- ---- words for values of options

coords_word : Coords → Text
coords_word Standard = codes "standard"
coords_word Quad = codes "quad"
coords_word Octagon = codes "octagon"

coords_read : (coords : Coords) → coordinates_named (coords_word coords) ≡ Some coords
unfolding coords_word
coords_read Standard = refl
coords_read Quad = refl
coords_read Octagon = refl

order_word : Order → Text
order_word orders.Given = codes "given"
order_word orders.Short = codes "short"
order_word orders.Zeros = codes "zeros"
order_word orders.Free = []

order_read : (order : Order) → order ≢ orders.Free → order_named (order_word order) ≡ Some order
unfolding order_word
order_read orders.Given named = refl
order_read orders.Short named = refl
order_read orders.Zeros named = refl
order_read orders.Free named = absurd (named refl)

-- the word means this value of an option of the kind
abbrev Means : (kind : Kind) → Text → ValueOf kind → Type 0
Means Coordinates word coords = coordinates_named word ≡ Some coords
Means PieceCoordinates word coords = (coordinates_named word ≡ Some coords) × (coords ≢ Quad)
Means RowOrder word order = order_named word ≡ Some order
Means Limit word most = limit_named word ≡ Some most
Means Seed word seed = decimal_up_to most_seed word ≡ Some seed
Means (Moves most) word moves = decimal_up_to most word ≡ Some moves

has_value : (kind : Kind) (options : List Given) (word : Text) (value : ValueOf kind) → Contains options (option_name kind, word) → Means kind word value → HasValue kind options value
has_value Coordinates options word coords has means = inl (word, has, means)
has_value PieceCoordinates options word coords has means = (inl (word, has, means.0), means.1)
has_value RowOrder options word order has means = inl (word, has, means)
has_value Limit options word most has means = inl (word, has, means)
has_value Seed options word seed has means = (word, has, means)
has_value (Moves most) options word moves has means = (word, has, means)

-- a word that means this value
abbrev Meant : (kind : Kind) → ValueOf kind → Type 0
Meant kind value = (word : Text) × Means kind word value

coords_meant : (coords : Coords) → Meant Coordinates coords
coords_meant coords = (coords_word coords, coords_read coords)

pieces_meant : (coords : Coords) → coords ≢ Quad → Meant PieceCoordinates coords
pieces_meant coords pieces = (coords_word coords, (coords_read coords, pieces))

order_meant : (order : Order) → order ≢ orders.Free → Meant RowOrder order
order_meant order named = (order_word order, order_read order named)

limit_meant : (most : ℕ) → 1 ≤ most → most ≤ limit → Meant Limit most
limit_meant most some limited = (decimal most, limit_read most some limited)

seed_meant : (seed : ℕ) → seed ≤ most_seed → Meant Seed seed
seed_meant seed limited = (decimal seed, decimal_read most_seed seed refl limited)

moves_meant : (most moves : ℕ) → nat_lt most (10 ^ 45) ≡ true → moves ≤ most → Meant (Moves most) moves
moves_meant most moves less limited = (decimal moves, decimal_read most moves less limited)

-- ---- words for a request

-- a value of each of these options, with a word that means it
abbrev ValuesOf : List Kind → Type 0
ValuesOf [] = ⊤
ValuesOf (kind ∷ kinds) = (value : ValueOf kind) × Meant kind value × ValuesOf kinds

abbrev options_for : (kinds : List Kind) → ValuesOf kinds → List Given
options_for [] values = []
options_for (kind ∷ kinds) values = (option_name kind, values.1.0) ∷ options_for kinds values.2

abbrev request_for : (kinds : List Kind) → RequestBy kinds → ValuesOf kinds → Request
request_for [] request values = request
request_for (kind ∷ kinds) request values = request_for kinds (request values.0) values.2

each_known : (kinds : List Kind) (values : ValuesOf kinds) (names : List Text) → ((name : Text) → Member name (map option_name kinds) → Member name names)
    → AllByRecursion (λ (option : Given). Contains names option.0) (options_for kinds values)
each_known [] values names among = tt
each_known (kind ∷ kinds) values names among =
    (contains_of names (option_name kind) (among (option_name kind) (inl refl)), each_known kinds values.2 names (λ name m. among name (inr m)))

each_has : (kinds : List Kind) (request : RequestBy kinds) (values : ValuesOf kinds) (options : List Given) → ((option : Given) → Member option (options_for kinds values) → Member option options)
    → HasValues kinds request options (request_for kinds request values)
each_has [] request values options among = refl
each_has (kind ∷ kinds) request values options among =
    let option : Given = (option_name kind, values.1.0) in (
      values.0,
      has_value kind options values.1.0 values.0 (contains_of options option (among option (inl refl))) values.1.1,
      each_has kinds (request values.0) values.2 options (λ other m. among other (inr m)),
    )

-- the command of this name, or the command without a name
abbrev command_of : Text → Command
command_of name = unwrap_or (row_of name commands) ([], ([], requests.Info))

module _ (name : Text) (found : row_of name commands ≡ Some (command_of name)) where
  abbrev takes : Takes
  takes = (command_of name).1

  asking : (values : ValuesOf takes.0) → are_apart (options_for takes.0 values) ≡ true → Words (request_for takes.0 takes.1 values)
  asking values separate =
      let options : List Given = options_for takes.0 values in (
        (command_of name).0 ∷ joined (map in_one_word options),
        record {
          name = (command_of name).0;
          kinds = takes.0;
          request = takes.1;
          command = contains_of commands (command_of name) (row_found name commands (command_of name) found).0;
          options = options;
          known = All-from_recursion (λ (option : Given). Contains (option_names takes) option.0) options (each_known takes.0 values (option_names takes) (λ name m. m));
          separate = pairs_of options (apart_by_test options separate);
          spellings = map in_one_word options;
          spelled = all_spelled options;
          whole = refl;
          values = each_has takes.0 takes.1 values options (λ option m. m);
        },
      )

-- a command without options spells its request by its name alone
pub spelled_by_name : (name : Text) (request : Request) → Contains commands (name, ([], request)) → IsRequest (name ∷ []) request
spelled_by_name name request listed = record {
  name = name;
  kinds = [];
  request = request;
  command = listed;
  options = [];
  known = All-from_recursion (λ (option : Given). Contains [] option.0) [] tt;
  separate = pairs_of [] tt;
  spellings = [];
  spelled = tt;
  whole = refl;
  values = refl;
}

-- the request is that of a command without options, with the command's name
abbrev Listed : Request → List Command → Type 0
Listed r rows = (name : Text) × Member (name, ([], r)) rows

by_listing : (r : Request) → Listed r commands → Words r
by_listing r listed = (listed.0 ∷ [], spelled_by_name listed.0 r (contains_of commands (listed.0, ([], r)) listed.1))

here : (name : Text) (r : Request) (rows : List Command) → Listed r ((name, ([], r)) ∷ rows)
here name r rows = (name, inl refl)

later : (r : Request) (row : Command) (rows : List Command) → Listed r rows → Listed r (row ∷ rows)
later r row rows listed = (listed.0, inr listed.1)

-- the requests with values have clauses of their own; each other one is found in the table of commands
pub words_for : (r : Request) → HoldsRange r → HasShortSeed r → Words r
words_for (requests.Verify coords) range seed = asking (codes "verify") refl (coords, coords_meant coords, tt) refl
words_for (requests.Surfaces coords order most) range seed =
    asking (codes "surfaces") refl (coords, coords_meant coords, (order, order_meant order range.named, (most, limit_meant most range.some range.limited, tt))) refl
words_for (requests.Rays order most) range seed =
    asking (codes "rays") refl (order, order_meant order range.named, (most, limit_meant most range.some range.limited, tt)) refl
words_for (requests.Describe coords) range seed = asking (codes "describe") refl (coords, pieces_meant coords range, tt) refl
words_for (requests.Make seed moves) range short =
    asking (codes "make") refl (seed, seed_meant seed short, (moves, moves_meant most_moves moves refl range, tt)) refl
words_for (requests.Bulk seed moves) range short =
    asking (codes "bulk") refl (seed, seed_meant seed short, (moves, moves_meant most_bulk_moves moves refl range, tt)) refl
words_for (requests.Decompose coords most) range seed =
    asking (codes "decompose") refl (coords, coords_meant coords, (most, limit_meant most range.some range.limited, tt)) refl
words_for (requests.Addup coords) range seed = asking (codes "addup") refl (coords, coords_meant coords, tt) refl
words_for r range seed = by_listing r (search (here, later) depth 24)

-- ---- the request that words spell is in range

short_seed : (r : Request) → HoldsAll r → HasShortSeed r
short_seed (requests.Make seed moves) held = held.0
short_seed (requests.Bulk seed moves) held = held.0
short_seed _ held = tt

pub in_range : (r : Request) → Words r → HoldsRange r × HasShortSeed r
in_range r asked =
    let held : HoldsAll r = subst (λ (o : Option Request). Holds HoldsAll o) (spelled_accept r asked.0 asked.1) (accepted_hold_all asked.0) in
    (holds_range r held, short_seed r held)
