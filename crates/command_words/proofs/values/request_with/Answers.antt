-- The options that the command takes are those of the case.
use Rattle.std.proofs.Common.{◌≡◌, ◌≢◌, ◌∙◌, ℕ, Some, refl, sym, ap}
use Rattle.cone_definitions.specs.declared.Order.{Order}
use Rattle.surface_definitions.specs.declared.Coords.{Coords}
use Rattle.command_definitions.specs.declared.Request.{Request}
use Rattle.command_definitions.specs.declared.Request.TheVariants.{Verify, Surfaces, Rays, Describe, Make, Bulk, Decompose, Addup}
use Rattle.command_definitions.specs.Values.{Values, request_with}
use Rattle.command_words.specs.Apps.{takes_of}
use Rattle.command_words.specs.Requests.{texts_of}
use Rattle.command_words.proofs.values.request_with.Goals as goal

-- the request of a command without options
plain : (r : Request) (v : Values) → ((coords : Coords) → r ≢ Verify coords) → ((coords : Coords) (order : Order) (most : ℕ) → r ≢ Surfaces coords order most)
    → ((order : Order) (most : ℕ) → r ≢ Rays order most) → ((coords : Coords) → r ≢ Describe coords) → ((seed moves : ℕ) → r ≢ Make seed moves)
    → ((seed moves : ℕ) → r ≢ Bulk seed moves) → ((coords : Coords) (most : ℕ) → r ≢ Decompose coords most) → ((coords : Coords) → r ≢ Addup coords)
    → Some r ≡ request_with (takes_of r) v
plain (Verify coords) v a b d e f g h k = absurd (a coords refl)
plain (Surfaces coords order most) v a b d e f g h k = absurd (b coords order most refl)
plain (Rays order most) v a b d e f g h k = absurd (d order most refl)
plain (Describe coords) v a b d e f g h k = absurd (e coords refl)
plain (Make seed moves) v a b d e f g h k = absurd (f seed moves refl)
plain (Bulk seed moves) v a b d e f g h k = absurd (g seed moves refl)
plain (Decompose coords most) v a b d e f g h k = absurd (h coords most refl)
plain (Addup coords) v a b d e f g h k = absurd (k coords refl)
plain r v a b d e f g h k = refl

pub returns-in-Verify : goal.returns-in-Verify
returns-in-Verify c = c.verify_with.ensures ∙ sym (ap (λ r. request_with (takes_of r) (texts_of c.args.values.now)) c.in-Verify.is)

pub returns-in-Surfaces : goal.returns-in-Surfaces
returns-in-Surfaces c = c.surfaces_with.ensures ∙ sym (ap (λ r. request_with (takes_of r) (texts_of c.args.values.now)) c.in-Surfaces.is)

pub returns-in-Rays : goal.returns-in-Rays
returns-in-Rays c = c.rays_with.ensures ∙ sym (ap (λ r. request_with (takes_of r) (texts_of c.args.values.now)) c.in-Rays.is)

pub returns-in-Describe : goal.returns-in-Describe
returns-in-Describe c = c.describe_with.ensures ∙ sym (ap (λ r. request_with (takes_of r) (texts_of c.args.values.now)) c.in-Describe.is)

pub returns-in-Make : goal.returns-in-Make
returns-in-Make c = c.make_with.ensures ∙ sym (ap (λ r. request_with (takes_of r) (texts_of c.args.values.now)) c.in-Make.is)

pub returns-in-Bulk : goal.returns-in-Bulk
returns-in-Bulk c = c.bulk_with.ensures ∙ sym (ap (λ r. request_with (takes_of r) (texts_of c.args.values.now)) c.in-Bulk.is)

pub returns-in-Decompose : goal.returns-in-Decompose
returns-in-Decompose c = c.decompose_with.ensures ∙ sym (ap (λ r. request_with (takes_of r) (texts_of c.args.values.now)) c.in-Decompose.is)

pub returns-in-Addup : goal.returns-in-Addup
returns-in-Addup c = c.addup_with.ensures ∙ sym (ap (λ r. request_with (takes_of r) (texts_of c.args.values.now)) c.in-Addup.is)

pub returns-in_default : goal.returns-in_default
returns-in_default c =
    plain c.args.command (texts_of c.args.values.now) c.in_default.not-Verify c.in_default.not-Surfaces c.in_default.not-Rays c.in_default.not-Describe c.in_default.not-Make
    c.in_default.not-Bulk c.in_default.not-Decompose c.in_default.not-Addup
