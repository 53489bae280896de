-- The words of each command, option and value are read.
use Rattle.std.proofs.Common.{inl, inr, refl, List, [], ◌∷◌}
use Rattle.std.specs.List.{AllByRecursion, Contains}
use Rattle.std.proofs.lemmas.List.Elements.{All-from_recursion}
use Rattle.command_definitions.specs.Commands.{Command, Kind, RequestBy, commands}
use Rattle.command_definitions.specs.Options.{options_from}
use Rattle.command_laws.specs.WorkedWords.{AsksByName, WorkedWords}
use Rattle.command_laws.proofs.Lookups.{Text, Member, contains_of}
use Rattle.command_laws.proofs.Accepted.{spelled_accept}
use Rattle.command_laws.proofs.Asking.{spelled_by_name}

all_of : {X : Type 0} {P : X → Type 0} (xs : List X) → ((x : X) → Member x xs → P x) → AllByRecursion P xs
all_of [] each = tt
all_of (x ∷ xs) each = (each x (inl refl), all_of xs (λ y m. each y (inr m)))

by_name : (name : Text) (kinds : List Kind) (request : RequestBy kinds) → Contains commands (name, (kinds, request)) → AsksByName name kinds request
by_name name [] request listed = spelled_accept request (name ∷ []) (spelled_by_name name request listed)
by_name name (kind ∷ kinds) request listed = tt

pub worked : WorkedWords
unfolding options_from
worked = record {
  without_options = All-from_recursion (λ (c : Command). AsksByName c.0 c.1.0 c.1.1) commands (all_of commands (λ c m. by_name c.0 c.1.0 c.1.1 (contains_of commands c m)));
  info = refl;
  verify = refl;
  addup = refl;
  make = refl;
  bulk = refl;
  surfaces = refl;
  rays = refl;
  describe = refl;
  decompose = refl;
  first_values = refl;
  surfaces_alone = refl;
  rays_alone = refl;
  describe_alone = refl;
  decompose_alone = refl;
  verify_alone = refl;
  addup_alone = refl;
  describe_quad = refl;
}
