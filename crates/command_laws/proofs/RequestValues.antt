-- The request for the options of a command holds their values.
use Rattle.std.proofs.Common.{◌≡◌, ◌≢◌, Bool, true, false, inl, inr, refl, sym, ap, ◌∙◌, subst, List, [], ◌∷◌, Option, Some, None, codes}
use Rattle.std.specs.Prelude.{if◌then◌else◌}
use Rattle.std.proofs.lemmas.Bool.{true≢false}
use Rattle.std.specs.List.{Contains}
use Rattle.std.specs.Option.{option_map, option_and_then}
use Rattle.std.proofs.lemmas.List.Elements.{All-from_recursion, recursion_from_All}
use Rattle.basic_lemmas.proofs.Options.{some≢none}
use Rattle.text_definitions.specs.Written.{limit}
use Rattle.cone_definitions.specs.declared.Order.TheVariants as orders
use Rattle.surface_definitions.specs.Coordinates.{has_triangles}
use Rattle.surface_definitions.specs.declared.Coords.{Coords}
use Rattle.surface_definitions.specs.declared.Coords.TheVariants.{Standard, Quad, Octagon}
use Rattle.command_definitions.specs.declared.Request.{Request}
use Rattle.command_definitions.specs.Options.{Given, value_of}
use Rattle.command_definitions.specs.Commands.{Kind, Coordinates, PieceCoordinates, RowOrder, Limit, Seed, Moves, RequestBy, ValueOf}
use Rattle.command_definitions.specs.Values.{Values, values_of, or_default, needed, has_pieces, coordinates_named, piece_coordinates_named, order_named, limit_named, decimal_up_to, most_seed, piece_coordinates_in, value_in, request_by, ◌>>=◌}
use Rattle.command_definitions.specs.Grammar.{IsGiven, IsAbsent, IsValue, HasValue, HasValues}
use Rattle.command_definitions.proofs.Accepted.{Holds, holds_bind, weaker}
use Rattle.command_laws.proofs.Lookups.{Text, Apart, row_of, row_found, row_missed, missed_row, found_row, member_of, contains_of}

-- ---- the value of one option

value_found : (name w : Text) (given : List Given) → value_of name given ≡ Some w → Contains given (name, w)
value_found name w given e = go (row_of name given) refl e
  where
    go : (o : Option Given) → row_of name given ≡ o → option_map (λ (g : Given). g.1) o ≡ Some w → Contains given (name, w)
    go None found e = absurd (some≢none w (sym e))
    go (Some g) found e =
        let same : g.1 ≡ w = cc in
        let row = row_found name given g found in
        subst (λ (x : Given). Contains given x) (λ i. (row.1 i, same i)) (contains_of given g row.0)

value_missed : (name : Text) (given : List Given) → value_of name given ≡ None → IsAbsent name given
value_missed name given e = go (row_of name given) refl e
  where
    go : (o : Option Given) → row_of name given ≡ o → option_map (λ (g : Given). g.1) o ≡ None → IsAbsent name given
    go None found e = All-from_recursion (λ (g : Given). g.0 ≢ name) given (row_missed name given found)
    go (Some g) found e = absurd (some≢none g.1 e)

found_value : (name w : Text) (given : List Given) → Apart given → Contains given (name, w) → value_of name given ≡ Some w
found_value name w given separate has = ap (option_map (λ (g : Given). g.1)) (found_row given (name, w) separate (member_of given (name, w) has))

missed_value : (name : Text) (given : List Given) → IsAbsent name given → value_of name given ≡ None
missed_value name given absent = ap (option_map (λ (g : Given). g.1)) (missed_row name given (recursion_from_All (λ (g : Given). g.0 ≢ name) given absent))

module _ {A : Type 0} (name : Text) (meaning : Text → Option A) (given : List Given) where
  needed_by : (o : Option Text) → value_of name given ≡ o → Holds (λ value. IsGiven name meaning given value) (needed meaning o)
  needed_by None found = tt
  needed_by (Some w) found = holds_of (meaning w) refl
    where
      holds_of : (m : Option A) → meaning w ≡ m → Holds (λ value. IsGiven name meaning given value) m
      holds_of None means = tt
      holds_of (Some value) means = (w, value_found name w given found, means)

  pub needed_right : Holds (λ value. IsGiven name meaning given value) (needed meaning (value_of name given))
  needed_right = needed_by (value_of name given) refl

  pub given_right : (value : A) → Apart given → IsGiven name meaning given value → needed meaning (value_of name given) ≡ Some value
  given_right value separate is = ap (needed meaning) (found_value name is.0 given separate is.1) ∙ is.2

  module _ (default : A) where
    default_by : (o : Option Text) → value_of name given ≡ o → Holds (λ value. IsValue name meaning default given value) (or_default default meaning o)
    default_by None found = inr (value_missed name given found, refl)
    default_by (Some w) found = holds_of (meaning w) refl
      where
        holds_of : (m : Option A) → meaning w ≡ m → Holds (λ value. IsValue name meaning default given value) m
        holds_of None means = tt
        holds_of (Some value) means = inl (w, value_found name w given found, means)

    pub default_right : Holds (λ value. IsValue name meaning default given value) (or_default default meaning (value_of name given))
    default_right = default_by (value_of name given) refl

    pub value_right : (value : A) → Apart given → IsValue name meaning default given value → or_default default meaning (value_of name given) ≡ Some value
    value_right value separate (inl is) = ap (or_default default meaning) (found_value name is.0 given separate is.1) ∙ is.2
    value_right value separate (inr is) = ap (or_default default meaning) (missed_value name given is.0) ∙ ap (λ (x : A). Some x) (sym is.1)

-- ---- coordinates that have triangles

pieces_of : (m : Option Coords) (coords : Coords) → option_and_then has_pieces m ≡ Some coords → (m ≡ Some coords) × (coords ≢ Quad)
pieces_of None coords e = absurd (some≢none coords (sym e))
pieces_of (Some kind) coords e = go (has_triangles kind) refl e
  where
    go : (t : Bool) → has_triangles kind ≡ t → (if t then Some kind else None) ≡ Some coords → (Some kind ≡ Some coords) × (coords ≢ Quad)
    go true has e = (e, λ quad. let same : Some kind ≡ Some Quad = e ∙ ap (λ (c : Coords). Some c) quad in let is : kind ≡ Quad = cc in true≢false (sym has ∙ ap has_triangles is))
    go false none e = absurd (some≢none coords (sym e))

pieces_named : (coords : Coords) (m : Option Coords) → m ≡ Some coords → coords ≢ Quad → option_and_then has_pieces m ≡ Some coords
pieces_named Standard m e named = ap (option_and_then has_pieces) e
pieces_named Quad m e named = absurd (named refl)
pieces_named Octagon m e named = ap (option_and_then has_pieces) e

module _ (given : List Given) where
  pieces_by : (coords : Coords) → IsValue (codes "coords") piece_coordinates_named Standard given coords → HasValue PieceCoordinates given coords
  pieces_by coords (inl is) = let m = pieces_of (coordinates_named is.0) coords is.2 in (inl (is.0, is.1, m.0), m.1)
  pieces_by coords (inr is) = (inr is, λ quad. absurd (let same : Standard ≡ Quad = sym is.1 ∙ quad in cc))

  by_pieces : (coords : Coords) → HasValue PieceCoordinates given coords → IsValue (codes "coords") piece_coordinates_named Standard given coords
  by_pieces coords (inl is, named) = inl (is.0, is.1, pieces_named coords (coordinates_named is.0) is.2 named)
  by_pieces coords (inr is, named) = inr is

  abbrev v : Values
  v = values_of given

  -- ---- the value of an option of each kind

  value_is : (kind : Kind) → Holds (HasValue kind given) (value_in kind v)
  value_is Coordinates = default_right (codes "coords") coordinates_named given Standard
  value_is PieceCoordinates = weaker (IsValue (codes "coords") piece_coordinates_named Standard given) (HasValue PieceCoordinates given) (piece_coordinates_in v) pieces_by
      (default_right (codes "coords") piece_coordinates_named given Standard)
  value_is RowOrder = default_right (codes "order") order_named given orders.Given
  value_is Limit = default_right (codes "max-entry") limit_named given limit
  value_is Seed = needed_right (codes "seed") (decimal_up_to most_seed) given
  value_is (Moves most) = needed_right (codes "moves") (decimal_up_to most) given

  is_value : (kind : Kind) (value : ValueOf kind) → Apart given → HasValue kind given value → value_in kind v ≡ Some value
  is_value Coordinates coords separate has = value_right (codes "coords") coordinates_named given Standard coords separate has
  is_value PieceCoordinates coords separate has = value_right (codes "coords") piece_coordinates_named given Standard coords separate (by_pieces coords has)
  is_value RowOrder order separate has = value_right (codes "order") order_named given orders.Given order separate has
  is_value Limit most separate has = value_right (codes "max-entry") limit_named given limit most separate has
  is_value Seed seed separate has = given_right (codes "seed") (decimal_up_to most_seed) given seed separate has
  is_value (Moves most) moves separate has = given_right (codes "moves") (decimal_up_to most) given moves separate has

  -- ---- the request by the values of options

  values_hold : (kinds : List Kind) (request : RequestBy kinds) → Holds (HasValues kinds request given) (request_by kinds request v)
  values_hold [] request = refl
  values_hold (kind ∷ kinds) request =
      holds_bind (HasValue kind given) (HasValues (kind ∷ kinds) request given) (value_in kind v) _ (value_is kind) (λ value has.
      weaker (HasValues kinds (request value) given) (HasValues (kind ∷ kinds) request given) (request_by kinds (request value) v) (λ r values. (value, has, values))
      (values_hold kinds (request value)))

  pub request_right : (kinds : List Kind) (request : RequestBy kinds) (r : Request) → request_by kinds request v ≡ Some r → HasValues kinds request given r
  request_right kinds request r e = subst (λ (o : Option Request). Holds (HasValues kinds request given) o) e (values_hold kinds request)

  pub values_right : (kinds : List Kind) (request : RequestBy kinds) (r : Request) → Apart given → HasValues kinds request given r → request_by kinds request v ≡ Some r
  values_right [] request r separate is = ap (λ (x : Request). Some x) is
  values_right (kind ∷ kinds) request r separate is =
      ap (λ (o : Option (ValueOf kind)). o >>= λ value. request_by kinds (request value) v) (is_value kind is.0 separate is.1) ∙ values_right kinds (request is.0) r separate is.2
