-- A list that was found from solved rows is that of the system.
use Rattle.std.proofs.Common.{◌≡◌, ℕ, List, subst}
use Rattle.std.specs.Prelude.{Result, Ok, Err, Option, Some, None, IfOk, IfSome}
use Rattle.cone_definitions.specs.Surfaces.{Clash, IsSurfaceList}
use Rattle.cone_definitions.specs.Systems.{System}
use Rattle.cone_row_laws.specs.Solutions.{HaveSameSolutions}
use Rattle.cone_row_laws.proofs.Agreement.{list_kept}

module _ (system solved : System) (pairs : List Clash) (width : solved.columns ≡ system.columns) (same : HaveSameSolutions system.columns system.rows solved.rows) where
  list_of : (list : List (List ℕ)) → IsSurfaceList solved.columns solved.rows pairs list → IsSurfaceList system.columns system.rows pairs list
  list_of list h = (list_kept system.columns system.rows solved.rows pairs list same).1 (subst (λ w. IsSurfaceList w solved.rows pairs list) width h)

  pub list_of_solved : (A E : Type 0) (items : A → List (List ℕ)) (result : Result (Option A) E) →
      IfOk result (λ answer. IfSome answer (λ list. IsSurfaceList solved.columns solved.rows pairs (items list))) →
      IfOk result (λ answer. IfSome answer (λ list. IsSurfaceList system.columns system.rows pairs (items list)))
  list_of_solved A E items (Ok (Some list)) h = list_of (items list) h
  list_of_solved A E items (Ok None) h = tt
  list_of_solved A E items (Err fault) h = tt
