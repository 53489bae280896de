-- The values of an accepted request are in range.
use Rattle.std.proofs.Common.{◌≡◌, ◌≢◌, ℕ, ◌≤◌, Bool, true, false, List, [], ◌∷◌, Option, Some, None, refl, subst, arith, nat_lt}
use Rattle.std.proofs.Common.{ltb-false, ltb-true}
use Rattle.std.specs.Prelude.{codes, if◌then◌else◌, ⊤}
use Rattle.std.specs.List.{AllByRecursion, find}
use Rattle.std.specs.Option.{option_and_then}
use Rattle.text_definitions.specs.Text.{digits_value}
use Rattle.text_definitions.specs.Reading.{same_word}
use Rattle.text_definitions.specs.Written.{limit}
use Rattle.cone_definitions.specs.declared.Order.{Order}
use Rattle.cone_definitions.specs.declared.Order.TheVariants.{Given, Short, Zeros, Free}
use Rattle.command_definitions.specs.declared.Request.{Request}
use Rattle.command_definitions.specs.declared.Request.TheVariants.{Make, Bulk}
use Rattle.command_definitions.specs.Requests.{IsLimit, HoldsRange, most_moves, most_bulk_moves}
use Rattle.surface_definitions.specs.declared.Coords.{Coords}
use Rattle.surface_definitions.specs.declared.Coords.TheVariants.{Standard, Quad, Octagon}
use Rattle.command_definitions.specs.Commands.{Command, Kind, Coordinates, PieceCoordinates, RowOrder, Limit, Seed, Moves, RequestBy, ValueOf, commands, option_names}
use Rattle.command_definitions.specs.Values.{Values, has_pieces, coordinates_named, piece_coordinates_named, ◌>>=◌, value_in, request_by, coordinates_in, order_named, limit_named, positive, decimal_up_to, is_short_decimal, most_seed, values_of, or_default, needed}
use Rattle.command_definitions.specs.Options.{options_of}
use Rattle.command_definitions.specs.Words.{command_named, accepted_request}

-- the value of an option, if it has one, satisfies P
abbrev pub Holds : {A : Type 0} → (A → Type 0) → Option A → Type 0
Holds P None = ⊤
Holds P (Some x) = P x

holds_if : {A : Type 0} (P : A → Type 0) (b : Bool) (x y : Option A) → Holds P x → Holds P y → Holds P (if b then x else y)
holds_if P true x y h k = h
holds_if P false x y h k = k

pub holds_bind : {A B : Type 0} (P : A → Type 0) (Q : B → Type 0) (x : Option A) (f : A → Option B) → Holds P x → ((a : A) → P a → Holds Q (f a)) → Holds Q (x >>= f)
holds_bind P Q None f h k = tt
holds_bind P Q (Some a) f h k = k a h

pub weaker : {A : Type 0} (P Q : A → Type 0) (x : Option A) → ((a : A) → P a → Q a) → Holds P x → Holds Q x
weaker P Q None h held = tt
weaker P Q (Some a) h held = h a held

anything : {A : Type 0} (x : Option A) → Holds (λ (a : A). ⊤) x
anything None = tt
anything (Some a) = tt

within_if : (max n : ℕ) (b : Bool) → nat_lt max n ≡ b → Holds (λ (m : ℕ). m ≤ max) (if b then None else Some n)
within_if max n true e = tt
within_if max n false e = ltb-false max n e

pub decimals_within : (max : ℕ) (w : List ℕ) → Holds (λ (m : ℕ). m ≤ max) (decimal_up_to max w)
decimals_within max w = holds_if (λ (m : ℕ). m ≤ max) (is_short_decimal w) _ None (within_if max (digits_value w) (nat_lt max (digits_value w)) refl) tt

needed_within : (max : ℕ) (x : Option (List ℕ)) → Holds (λ (m : ℕ). m ≤ max) (needed (decimal_up_to max) x)
needed_within max None = tt
needed_within max (Some w) = decimals_within max w

positive_if : (n : ℕ) (b : Bool) → nat_lt 0 n ≡ b → n ≤ limit → Holds IsLimit (if b then Some n else None)
positive_if n true e h = record { some = ltb-true 0 n e; limited = h }
positive_if n false e h = tt

and_positive : (x : Option ℕ) → Holds (λ (m : ℕ). m ≤ limit) x → Holds IsLimit (option_and_then positive x)
and_positive None h = tt
and_positive (Some n) h = positive_if n (nat_lt 0 n) refl h

limit_holds : (x : Option (List ℕ)) → Holds IsLimit (or_default limit limit_named x)
limit_holds None = record { some = omega arith; limited = omega arith }
limit_holds (Some w) = and_positive (decimal_up_to limit w) (decimals_within limit w)

-- a word names an order
abbrev pub HasName : Order → Type 0
HasName order = order ≢ Free

given_named : HasName Given
given_named e = cc

short_named : HasName Short
short_named e = cc

zeros_named : HasName Zeros
zeros_named e = cc

word_named : (w : List ℕ) → Holds HasName (order_named w)
word_named w = holds_if HasName (same_word w (codes "given")) _ _ given_named
    (holds_if HasName (same_word w (codes "short")) _ _ short_named (holds_if HasName (same_word w (codes "zeros")) _ _ zeros_named tt))

order_holds : (x : Option (List ℕ)) → Holds HasName (or_default Given order_named x)
order_holds None = given_named
order_holds (Some w) = word_named w

-- coordinates that have triangles
abbrev pub HasPieces : Coords → Type 0
HasPieces coords = coords ≢ Quad

pieces_in : (coords : Coords) → Holds HasPieces (has_pieces coords)
pieces_in Standard = λ e. absurd (let z : Standard ≡ Quad = e in cc)
pieces_in Quad = tt
pieces_in Octagon = λ e. absurd (let z : Octagon ≡ Quad = e in cc)

pieces_within : (x : Option Coords) → Holds HasPieces (option_and_then has_pieces x)
pieces_within None = tt
pieces_within (Some coords) = pieces_in coords

pieces_hold : (x : Option (List ℕ)) → Holds HasPieces (or_default Standard piece_coordinates_named x)
pieces_hold None = λ e. absurd (let z : Standard ≡ Quad = e in cc)
pieces_hold (Some w) = pieces_within (coordinates_named w)

-- ---- what options and requests hold

-- the value of an option of this kind is in range
abbrev pub IsValueInRange : (kind : Kind) → ValueOf kind → Type 0
IsValueInRange Coordinates coords = ⊤
IsValueInRange PieceCoordinates coords = HasPieces coords
IsValueInRange RowOrder order = HasName order
IsValueInRange Limit most = IsLimit most
IsValueInRange Seed seed = seed ≤ most_seed
IsValueInRange (Moves most) moves = moves ≤ most

value_holds : (kind : Kind) (v : Values) → Holds (IsValueInRange kind) (value_in kind v)
value_holds Coordinates v = anything (coordinates_in v)
value_holds PieceCoordinates v = pieces_hold v.coords
value_holds RowOrder v = order_holds v.order
value_holds Limit v = limit_holds v.max_entry
value_holds Seed v = needed_within most_seed v.seed
value_holds (Moves most) v = needed_within most v.moves

-- all values of a request are in range, including the seed
abbrev pub HoldsAll : Request → Type 0
HoldsAll (Make seed moves) = (seed ≤ most_seed) × (moves ≤ most_moves)
HoldsAll (Bulk seed moves) = (seed ≤ most_seed) × (moves ≤ most_bulk_moves)
HoldsAll r = HoldsRange r

pub holds_range : (r : Request) → HoldsAll r → HoldsRange r
holds_range (Make seed moves) h = h.1
holds_range (Bulk seed moves) h = h.1
holds_range r h = h

-- with values of these options in range, the values of the request are in range
abbrev HoldsBy : (kinds : List Kind) → RequestBy kinds → Type 0
HoldsBy [] request = HoldsAll request
HoldsBy (kind ∷ kinds) request = (value : ValueOf kind) → IsValueInRange kind value → HoldsBy kinds (request value)

abbrev CommandHolds : Command → Type 0
CommandHolds c = HoldsBy c.1.0 c.1.1

each_holds : AllByRecursion CommandHolds commands
each_holds = (
  (λ coords u. tt),
  (
    tt,
    (
      (λ coords u order named most h. record { named = named; some = h.some; limited = h.limited }),
      (
        (λ order named most h. record { named = named; some = h.some; limited = h.limited }),
        (
          (λ coords pieces. pieces),
          (
            tt,
            (
              tt,
              (
                tt,
                (
                  tt,
                  (
                    tt,
                    (
                      tt,
                      (
                        tt,
                        (
                          tt,
                          (
                            (λ seed short moves limited. (short, limited)),
                            (
                              (λ seed short moves limited. (short, limited)),
                              (
                                (λ coords u most h. h),
                                (
                                  (λ coords u. tt),
                                  (tt, (tt, (tt, (tt, tt)))),
                                ),
                              ),
                            ),
                          ),
                        ),
                      ),
                    ),
                  ),
                ),
              ),
            ),
          ),
        ),
      ),
    ),
  ),
)

requests_hold : (kinds : List Kind) (request : RequestBy kinds) (v : Values) → HoldsBy kinds request → Holds HoldsAll (request_by kinds request v)
requests_hold [] request v h = h
requests_hold (kind ∷ kinds) request v h =
    holds_bind (IsValueInRange kind) HoldsAll (value_in kind v) _ (value_holds kind v) (λ value is. requests_hold kinds (request value) v (h value is))

command_holds : (cs : List Command) (w : List ℕ) → AllByRecursion CommandHolds cs → Holds CommandHolds (find (λ c. same_word c.0 w) cs)
command_holds [] w all = tt
command_holds (c ∷ cs) w all = holds_if CommandHolds (same_word c.0 w) (Some c) _ all.0 (command_holds cs w all.1)

pub accepted_hold_all : (words : List (List ℕ)) → Holds HoldsAll (accepted_request words)
accepted_hold_all [] = tt
accepted_hold_all (w ∷ ws) =
    holds_bind CommandHolds HoldsAll (command_named w) _ (command_holds commands w each_holds) (λ command held.
    holds_bind (λ a. ⊤) HoldsAll (options_of (option_names command.1) ws) _ (anything (options_of (option_names command.1) ws)) (λ options t.
    requests_hold command.1.0 command.1.1 (values_of options) held))

pub accepted_hold : (words : List (List ℕ)) → Holds HoldsRange (accepted_request words)
accepted_hold words = weaker HoldsAll HoldsRange (accepted_request words) holds_range (accepted_hold_all words)

pub accepted_in_range : (words : List (List ℕ)) (r : Request) → accepted_request words ≡ Some r → HoldsRange r
accepted_in_range words r e = subst (Holds HoldsRange) e (accepted_hold words)
