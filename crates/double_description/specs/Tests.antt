-- Tests that decide whether a union of supports contains a clashing pair.
use Rattle.std.specs.Prelude.{◌≡◌, ℕ, ◌↔◌, List, Bool, IsTrue, length}
use Rattle.cone_definitions.specs.Surfaces.{Clash}
use Rattle.ray_steps.specs.Clashes.{IsClashFree}
use denote.Ref.{Bor}

-- the test may be called with any two supports of columns columns, and returns true if and only if their union contains
-- no listed pair
pub record DecidesClashes (columns : ℕ) (clashes : List Clash) (pre : Bor (List Bool) → Bor (List Bool) → Type 0) (post : Bor (List Bool) → Bor (List Bool) → Bool → Type 0) : Type 0 where
  pub callable : (a b : Bor (List Bool)) → length a.now ≡ columns → length b.now ≡ columns → pre a b
  pub decides : (a b : Bor (List Bool)) (answer : Bool) → length a.now ≡ columns → length b.now ≡ columns → post a b answer → IsTrue answer ↔ IsClashFree clashes a.now b.now
