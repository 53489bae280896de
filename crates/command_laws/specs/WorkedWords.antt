-- The words of each command, of each option and of each value that is a word, and the requests that they ask for.
use Rattle.std.specs.Prelude.{◌≡◌, ℕ, ⊤, List, [], ◌∷◌, Some, None, codes}
use Rattle.std.specs.List.{All}
use Rattle.cone_definitions.specs.declared.Order.TheVariants as orders
use Rattle.surface_definitions.specs.declared.Coords.TheVariants.{Standard, Quad, Octagon}
use Rattle.command_definitions.specs.declared.Request.{Request}
use Rattle.command_definitions.specs.declared.Request.TheVariants.{Verify, Info, Surfaces, Rays, Describe, Make, Bulk, Decompose, Addup}
use Rattle.command_definitions.specs.Commands.{Kind, RequestBy, commands}
use Rattle.command_definitions.specs.Words.{accepted_request}

-- the words are accepted for the request
abbrev pub Asks : List (List ℕ) → Request → Type 0
Asks words r = accepted_request words ≡ Some r

-- the name of a command that takes no options asks for its request
abbrev pub AsksByName : List ℕ → (kinds : List Kind) → RequestBy kinds → Type 0
AsksByName name [] request = Asks (name ∷ []) request
AsksByName name (kind ∷ kinds) request = ⊤

-- each command asks for its own request, and each option and word of a value means its own
pub record WorkedWords : Type 0 where
  -- each command without options, by its row in the table of commands, such as the row of `info`
  pub without_options : All (λ command. AsksByName command.0 command.1.0 command.1.1) commands
  pub info : Asks (codes "info" ∷ []) Info
  pub verify : Asks (codes "verify" ∷ codes "--coords" ∷ codes "quad" ∷ []) (Verify Quad)
  pub addup : Asks (codes "addup" ∷ codes "--coords=quad" ∷ []) (Addup Quad)
  pub make : Asks (codes "make" ∷ codes "--moves=2" ∷ codes "--seed=3" ∷ []) (Make 3 2)
  pub bulk : Asks (codes "bulk" ∷ codes "--seed" ∷ codes "3" ∷ codes "--moves" ∷ codes "2" ∷ []) (Bulk 3 2)
  pub surfaces : Asks (codes "surfaces" ∷ codes "--coords=octagon" ∷ codes "--order=short" ∷ codes "--max-entry=7" ∷ []) (Surfaces Octagon orders.Short 7)
  pub rays : Asks (codes "rays" ∷ codes "--max-entry" ∷ codes "9" ∷ codes "--order" ∷ codes "zeros" ∷ []) (Rays orders.Zeros 9)
  pub describe : Asks (codes "describe" ∷ codes "--coords=octagon" ∷ []) (Describe Octagon)
  pub decompose : Asks (codes "decompose" ∷ codes "--max-entry=5" ∷ codes "--coords" ∷ codes "octagon" ∷ []) (Decompose Octagon 5)
  -- the first words of values, and what is meant if an option is left out
  pub first_values : Asks (codes "surfaces" ∷ codes "--coords=standard" ∷ codes "--order=given" ∷ codes "--max-entry=1" ∷ []) (Surfaces Standard orders.Given 1)
  pub surfaces_alone : Asks (codes "surfaces" ∷ []) (Surfaces Standard orders.Given 170141183460469231731687303715884105727)
  pub rays_alone : Asks (codes "rays" ∷ []) (Rays orders.Given 170141183460469231731687303715884105727)
  pub describe_alone : Asks (codes "describe" ∷ []) (Describe Standard)
  pub decompose_alone : Asks (codes "decompose" ∷ []) (Decompose Standard 170141183460469231731687303715884105727)
  pub verify_alone : Asks (codes "verify" ∷ []) (Verify Standard)
  pub addup_alone : Asks (codes "addup" ∷ []) (Addup Standard)
  -- surfaces in quad coordinates have no pieces
  pub describe_quad : accepted_request (codes "describe" ∷ codes "--coords=quad" ∷ []) ≡ None
