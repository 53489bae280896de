use Rattle.std.proofs.Common.{◌≡◌, ℕ, List, subst, subst₂, sym}
use Rattle.std.proofs.lemmas.Result.{err_from_is_err_and}
use Rattle.out_of_memory.specs.declared.Failure.{Failure}
use Rattle.cone_definitions.specs.Surfaces.{Clash}
use Rattle.cone_definitions.specs.Systems.{System}
use Rattle.cone_definitions.specs.declared.Order.{Order}
use Rattle.double_description.specs.declared.engine.LargeStep.{LargeStep}
use Rattle.double_description.specs.Enumerated.{IsEnumerated, IsOnlyList, IsRefused}
use Rattle.double_description.proofs.engine.eliminate_by.Goals as goal
use denote.Ref.{Bor}

module _ (limit : ℕ) (system : System) (order : Order) (post : Bor System → Bor (List ℕ) → ℕ → Type 0) (pairs others : List Clash) (same : pairs ≡ others) where
  enumerated : (processed : List ℕ) (list wide : List (List ℕ)) → wide ≡ list → IsEnumerated limit system pairs order post processed list → IsEnumerated limit system others order post processed wide
  enumerated processed list wide is h = subst₂ (λ (ps : List Clash) (xs : List (List ℕ)). IsEnumerated limit system ps order post processed xs) same (sym is) h

  refused : (fault : Failure LargeStep) → IsRefused limit system pairs order post fault → IsRefused limit system others order post fault
  refused fault h = subst (λ (ps : List Clash). IsRefused limit system ps order post fault) same h

only_list : (system : System) (pairs others : List Clash) (same : pairs ≡ others) (list wide : List (List ℕ)) → wide ≡ list → IsOnlyList system pairs list → IsOnlyList system others wide
only_list system pairs others same list wide is h = subst₂ (λ (ps : List Clash) (xs : List (List ℕ)). IsOnlyList system ps xs) same (sym is) h

pub returns-clause-ok : goal.returns-clause-ok
returns-clause-ok g c =
    enumerated c.args.limit.number c.args.system.now c.args.picker.now.order _ _ _ c.in_ok-clashes.ensures.pairs c.in_ok-packed.packed.order.items _ c.in_ok-list.list.items c.in_ok-list.ensures c.in_ok-packed.ensures.ok

pub returns-clause-only : goal.returns-clause-only
returns-clause-only g c = only_list c.args.system.now _ _ c.in_ok-clashes.ensures.pairs _ c.in_ok-list.list.items c.in_ok-list.ensures c.in_ok-packed.ensures.only

pub returns-in_err-packed-clause-err : goal.returns-in_err-packed-clause-err
returns-in_err-packed-clause-err g c =
    let p = err_from_is_err_and c.from_residual-in_err-packed.result c.from_residual-in_err-packed.ensures.1 in
    rw (p.1, p.2) (refused c.args.limit.number c.args.system.now c.args.picker.now.order _ _ _ c.in_ok-clashes.ensures.pairs _ c.in_err-packed.ensures.err)
