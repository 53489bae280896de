-- From the results of the two methods to the list of an enumeration.
use Rattle.std.proofs.Common.{◌≡◌, ℕ, List, subst}
use Rattle.std.specs.Prelude.{Result, Ok, Err, IfOk, IfErr}
use Rattle.std.proofs.lemmas.List.Sorted.{IsPermutation-refl}
use Rattle.out_of_memory.specs.declared.Failure.{Failure}
use Rattle.out_of_memory.specs.declared.Failure.TheVariants.{NoMemory, Fault}
use Rattle.cone_definitions.specs.Surfaces.{Clash, IsSurfaceList}
use Rattle.cone_definitions.specs.Systems.{System}
use Rattle.cone_definitions.specs.Orders.{AreNamed}
use Rattle.cone_definitions.specs.Listings.{Enumeration, IsListed}
use Rattle.cone_definitions.specs.declared.Order.{Order}
use Rattle.cone_definitions.proofs.Next.{one_surface_list_lem}
use Rattle.cone_laws.proofs.Taken.{some_rows_taken}
use Rattle.double_description.specs.declared.engine.PackedRays.{PackedRays}
use Rattle.double_description.specs.declared.engine.LargeStep.{LargeStep}
use Rattle.double_description.specs.Turns.{AreTaken}
use Rattle.double_description.specs.Enumerated.{IsEnumerated, IsRefused}
use Rattle.vertex_enumeration.specs.Lists.{enumeration_of, AreAlwaysWithin, IsOnlyListing, AreRefused}
use denote.Ref.{Bor}

abbrev pub Listed : Enumeration → PackedRays → Type 0
Listed e rays = IsListed e rays.order.items rays.list.items

named_turns : (order : Order) (post : Bor System → Bor (List ℕ) → ℕ → Type 0) (system : System) (taken : List ℕ) → AreTaken order post system taken → AreNamed order system taken
named_turns order post system taken h k l =
    let t = h k l in
    record { left = t.left; left_of = t.left_of; position = t.position; in_range = t.in_range; is = t.is; named = t.named }

-- the order of the engine is the requested one
module _ (limit : ℕ) (system : System) (pairs : List Clash) (order other : Order) (post : Bor System → Bor (List ℕ) → ℕ → Type 0) (same_order : order ≡ other) where
  moved : (P : Enumeration → Type 0) → P (enumeration_of system pairs order limit) → P (enumeration_of system pairs other limit)
  moved P h = subst (λ o. P (enumeration_of system pairs o limit)) same_order h

  pub are_listed : (result : Result PackedRays (Failure LargeStep)) → IfOk result (λ rays. IsEnumerated limit system pairs order post rays.order.items rays.list.items) → IfOk result (Listed (enumeration_of system pairs other limit))
  are_listed (Ok rays) h = moved (λ e. Listed e rays) (record { surfaces = h.surfaces; all = h.all; named = named_turns order post system rays.order.items h.taken; within = h.within })
  are_listed (Err fault) h = tt

  pub are_refused : (result : Result PackedRays (Failure LargeStep)) → IfErr result (IsRefused limit system pairs order post) → IfErr result (AreRefused (enumeration_of system pairs other limit))
  are_refused (Ok rays) h = tt
  are_refused (Err NoMemory) h = tt
  are_refused (Err (Fault large)) h =
      moved (λ e. AreRefused e (Fault large)) (record { step = h.step; count = h.count; named = named_turns order post system large.order.items h.turns; large = h.large })

-- a list of an enumeration is unique
pub only_listing : (e : Enumeration) (taken : List ℕ) (list : List (List ℕ)) → IsListed e taken list → IsOnlyListing e list
only_listing e taken list h = record {
  taken = taken;
  listed = h;
  only = λ others also. one_surface_list_lem e.system.columns e.system.rows e.system.rows e.pairs others list (IsPermutation-refl e.system.rows) also h.surfaces;
}

-- if no number exceeds the limit in any order, each surface list is that of the enumeration
pub found_listing : (e : Enumeration) (list : List (List ℕ)) → AreAlwaysWithin e.limit e.system e.pairs → IsSurfaceList e.system.columns e.system.rows e.pairs list → IsOnlyListing e list
found_listing e list within surfaces =
    let t = some_rows_taken e.order e.system in
    only_listing e t.0 list (record { surfaces = surfaces; all = t.1; named = t.2; within = within t.0 t.1 })
