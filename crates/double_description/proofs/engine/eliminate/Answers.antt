use Rattle.std.proofs.lemmas.Result.{err_from_is_err_and}
use Rattle.std.proofs.Common.{◌≡◌, ◌≢◌, ℕ, ◌+◌, ◌<◌, List, ◌++◌, length, subst, subst₂, sym, ap, ◌∙◌, arith}
use Rattle.std.specs.List.{range_with_len}
use Rattle.std.specs.List.Sorted.{IsPermutation}
use Rattle.std.proofs.lemmas.Bool.{eqb-true}
use Rattle.std.proofs.lemmas.List.Elements.{All-weaker}
use Rattle.std.proofs.lemmas.List.Sorted.{IsPermutation-refl, IsPermutation-more}
use Rattle.cone_definitions.specs.Rows.{Row}
use Rattle.cone_definitions.specs.Surfaces.{Clash, IsSurfaceList}
use Rattle.cone_definitions.specs.Elimination.{in_order}
use Rattle.cone_definitions.specs.Enumeration.{unit_vectors}
use Rattle.cone_definitions.proofs.First.{unit_vectors_list}
use Rattle.cone_definitions.proofs.Next.{order_is_free_lem, one_surface_list_lem}
use Rattle.ray_steps.specs.Rays.{rays_of, AreOfWidth}
use Rattle.double_description.specs.Orders.{AreRowsOf}
use Rattle.ray_steps.specs.Next.{IsNextOf, IsNamedFrom}
use Rattle.ray_steps.specs.Faults.{IfLarge}
use Rattle.ray_steps.specs.Unions.{HaveSmallUnions}
use Rattle.double_description.specs.Turns.{AreTaken}
use Rattle.cone_definitions.specs.Orders.{AreLeft}
use Rattle.cone_definitions.specs.Listings.{AreWithin}
use Rattle.cone_definitions.proofs.PastLimit.{length-in_order}
use Rattle.cone_laws.proofs.LeftRows.{left_none, left_more, taken_row, all_taken}
use Rattle.double_description.proofs.TurnLemmas.{left_rows, taken_more, within_more, in_order-push, widths_from_surfaces, turn_at, large_as_shown}
use Rattle.ray_steps.proofs.UnionLemmas.{small_unions}
use Rattle.ray_steps.proofs.SingleLemmas.{single_pairs}
use Rattle.cone_definitions.proofs.Unordered.{without_order}
use Rattle.double_description.proofs.engine.eliminate.Goals as goal

pub loop-left-init : goal.loop-left-init
loop-left-init g c =
    let system = c.args.system.now in
    let pairs = c.args.clashes.now.pairs in
    let order_is = c.in_ok-order.ensures.items in
    let left_is = c.in_ok-left.ensures ∙ ap (range_with_len 0) c.len.ensures in
    let first = subst₂ (λ xs rows. IsSurfaceList system.columns rows pairs xs) (sym (c.in_ok-rays.ensures ∙ ap unit_vectors c.columns.ensures)) (sym (ap (in_order system.rows) order_is))
    (unit_vectors_list system.columns pairs (All-weaker (λ (pair : Clash). (pair.0 < c.args.clashes.now.columns) × (pair.1 < c.args.clashes.now.columns) × (pair.0 ≢ pair.1)) (λ (pair : Clash). pair.0 ≢ pair.1) (λ pair h. h.2) pairs c.pairs-pairs.ensures.different)) in
    record {
      rows_left = subst₂ (AreLeft (length system.rows)) (sym order_is) (sym left_is) (left_none (length system.rows));
      all = subst₂ (λ a b. IsPermutation (range_with_len 0 (length system.rows)) (a ++ b)) (sym order_is) (sym left_is) (IsPermutation-refl (range_with_len 0 (length system.rows)));
      taken = λ k less. absurd (let e = ap length order_is in omega arith);
      within = λ k less. absurd (let e = ap length order_is in omega arith);
      surfaces = first;
      widths = subst (λ n. AreOfWidth n c.in_ok-rays.rays.items) (sym c.requires.columns) (widths_from_surfaces system.columns (in_order system.rows c.in_ok-order.order.items) pairs c.in_ok-rays.rays.items first);
    }

pub invariant_of-rows_left : goal.invariant_of-rows_left
invariant_of-rows_left g c = record {
  are_rows = subst (AreRowsOf c.args.system.now) (sym c.deref.ensures.value)
      (left_rows c.args.system.now c.loop-left.order.items c.loop-left.left.items c.loop-left.invariant.rows_left (let e : 0 < length c.loop-left.left.items = grind arith in e));
}

pub row-requires : goal.row-requires
row-requires g c =
    taken_row (length c.args.system.now.rows) c.loop-left.order.items c.loop-left.left.items c.pick-position.result c.remove-number.result c.loop-left.invariant.rows_left
    (let e = ap length c.deref.ensures.value in omega (arith, c.pick-position.ensures.within)) c.remove-number.ensures.value

pub next_rays-requires : goal.next_rays-requires
next_rays-requires g c =
    let system = c.args.system.now in
    let taken = c.loop-left.order.items in
    let rows = in_order system.rows taken in
    let pairs = c.args.clashes.now.pairs in
    let rays = rays_of c.loop-left.rays.items in
    record {
      widths = c.loop-left.invariant.widths;
      small = subst₂ (λ columns most. HaveSmallUnions columns most pairs rays) (sym c.requires.columns)
          (let n = length-in_order system.rows taken in let e = c.loop-left.order.ok.0 in let m : length rows + 2 ≡ c.len-in-loop-left.result + 2 = omega (arith, c.len-in-loop-left.ensures) in m)
          (small_unions system.columns rows pairs rays c.loop-left.invariant.surfaces);
      singles = single_pairs system.columns rows pairs rays (without_order system.columns rows pairs rays c.loop-left.invariant.surfaces);
    }

pub loop-left-preserved : goal.loop-left-preserved
loop-left-preserved g c =
    let system = c.args.system.now in
    let pairs = c.args.clashes.now.pairs in
    let taken = c.loop-left.order.items in
    let left = c.loop-left.left.items in
    let number = c.remove-number.result in
    let position = c.pick-position.result in
    let h = c.loop-left.invariant in
    let less : position < length left = (let e = ap length c.deref.ensures.value in omega (arith, c.pick-position.ensures.within)) in
    let more = c.in_ok-push.ensures.items in
    let fewer = c.remove-number.ensures.items in
    let turn = turn_at c.args.picker.now.order _ system taken left c.deref.result.now position number h.rows_left c.deref.ensures.value c.pick-position.ensures.within c.remove-number.ensures.value
    c.pick-position.ensures.named c.pick-position.ensures.promised in
    let next = subst₂ (λ columns row. IsNextOf c.args.limit columns pairs row (rays_of c.loop-left.rays.items) (rays_of c.in-Ok.next.items)) c.requires.columns c.row.ensures.row c.in-Ok.ensures.ok in
    record {
      rows_left = subst₂ (AreLeft (length system.rows)) (sym more) (sym fewer) (left_more (length system.rows) taken left position number h.rows_left less c.remove-number.ensures.value);
      all = subst₂ (λ a b. IsPermutation (range_with_len 0 (length system.rows)) (a ++ b)) (sym more) (sym fewer)
          (IsPermutation-more (range_with_len 0 (length system.rows)) taken left position number less c.remove-number.ensures.value h.all);
      taken = subst (AreTaken c.args.picker.now.order _ system) (sym more) (taken_more c.args.picker.now.order _ system taken number h.taken turn);
      within = subst (AreWithin c.args.limit system pairs) (sym more) (within_more c.args.limit system pairs taken number h.within (next.within (in_order system.rows taken) h.surfaces));
      surfaces = subst (λ rows. IsSurfaceList system.columns rows pairs (rays_of c.in-Ok.next.items)) (sym (ap (in_order system.rows) more ∙ in_order-push system.rows taken number))
          (next.surfaces (in_order system.rows taken) h.surfaces);
      widths = c.in-Ok.ensures.widths;
    }

pub returns-in-Err-Large-clause-err : goal.returns-in-Err-Large-clause-err
returns-in-Err-Large-clause-err g c =
    let system = c.args.system.now in
    let pairs = c.args.clashes.now.pairs in
    let taken = c.loop-left.order.items in
    let left = c.loop-left.left.items in
    let number = c.remove-number.result in
    let position = c.pick-position.result in
    let h = c.loop-left.invariant in
    let turn = turn_at c.args.picker.now.order _ system taken left c.deref.result.now position number h.rows_left c.deref.ensures.value c.pick-position.ensures.within c.remove-number.ensures.value
    c.pick-position.ensures.named c.pick-position.ensures.promised in
    let named = subst₂ (λ columns row. IsNamedFrom c.args.limit columns pairs row (rays_of c.loop-left.rays.items) c.in-Err-Large.kind) c.requires.columns c.row.ensures.row
    (subst (IfLarge (IsNamedFrom c.args.limit c.args.clashes.now.columns pairs c.row.result.now (rays_of c.loop-left.rays.items))) c.in-Err-Large.field-0-is c.in-Err-Large.ensures.err) in
    large_as_shown c.args.limit system pairs c.args.picker.now.order _ taken _ number c.in-Err-Large.kind _ (rays_of c.loop-left.rays.items) h.taken turn h.within h.surfaces named
    c.in_ok-push.ensures.items c.in-Err-Large.kind-is

-- the last list is the surface list in any order of the rows
surfaces_given : (columns : ℕ) (rows : List Row) (order : List ℕ) (pairs : List Clash) (last given : List (List ℕ)) → IsPermutation (range_with_len 0 (length rows)) order →
    IsSurfaceList columns (in_order rows order) pairs last → given ≡ last → IsSurfaceList columns rows pairs given
surfaces_given columns rows order pairs last given all surfaces is = subst (IsSurfaceList columns rows pairs) (sym is) (order_is_free_lem columns rows order pairs last all surfaces)

pub returns-clause-ok : goal.returns-clause-ok
returns-clause-ok g c =
    let system = c.args.system.now in
    let pairs = c.args.clashes.now.pairs in
    let h = c.loop-left.invariant in
    let all = all_taken (length system.rows) c.loop-left.order.items c.loop-left.left.items (sym c.loop-left.left.ok.0 ∙ eqb-true _ 0 (sym c.is_empty.ensures ∙ c.loop-left-test.false)) h.all in
    record {
      surfaces = surfaces_given system.columns system.rows c.loop-left.order.items pairs (rays_of c.loop-left.rays.items) c.in_ok-list.list.items all h.surfaces c.in_ok-list.ensures;
      all = all;
      taken = h.taken;
      within = h.within;
    }

pub returns-clause-only : goal.returns-clause-only
returns-clause-only g c others also =
    let system = c.args.system.now in
    let pairs = c.args.clashes.now.pairs in
    let h = c.loop-left.invariant in
    let all = all_taken (length system.rows) c.loop-left.order.items c.loop-left.left.items (sym c.loop-left.left.ok.0 ∙ eqb-true _ 0 (sym c.is_empty.ensures ∙ c.loop-left-test.false)) h.all in
    one_surface_list_lem system.columns system.rows system.rows pairs others c.in_ok-list.list.items (IsPermutation-refl system.rows) also
    (surfaces_given system.columns system.rows c.loop-left.order.items pairs (rays_of c.loop-left.rays.items) c.in_ok-list.list.items all h.surfaces c.in_ok-list.ensures)

pub returns-in_err-rays-clause-ok : goal.returns-in_err-rays-clause-ok
returns-in_err-rays-clause-ok g c = let p = err_from_is_err_and c.from_residual.result c.from_residual.ensures.1 in rw p.1 tt

pub returns-in_err-rays-clause-only : goal.returns-in_err-rays-clause-only
returns-in_err-rays-clause-only g c = let p = err_from_is_err_and c.from_residual.result c.from_residual.ensures.1 in rw p.1 tt

pub returns-in_err-rays-clause-err : goal.returns-in_err-rays-clause-err
returns-in_err-rays-clause-err g c = let p = err_from_is_err_and c.from_residual.result c.from_residual.ensures.1 in rw (p.1, p.2) tt

pub returns-in_err-left-clause-ok : goal.returns-in_err-left-clause-ok
returns-in_err-left-clause-ok g c = let p = err_from_is_err_and c.from_residual-in_err-left.result c.from_residual-in_err-left.ensures.1 in rw p.1 tt

pub returns-in_err-left-clause-only : goal.returns-in_err-left-clause-only
returns-in_err-left-clause-only g c = let p = err_from_is_err_and c.from_residual-in_err-left.result c.from_residual-in_err-left.ensures.1 in rw p.1 tt

pub returns-in_err-left-clause-err : goal.returns-in_err-left-clause-err
returns-in_err-left-clause-err g c = let p = err_from_is_err_and c.from_residual-in_err-left.result c.from_residual-in_err-left.ensures.1 in rw (p.1, p.2) tt

pub returns-in_err-order-clause-ok : goal.returns-in_err-order-clause-ok
returns-in_err-order-clause-ok g c = let p = err_from_is_err_and c.from_residual-in_err-order.result c.from_residual-in_err-order.ensures.1 in rw p.1 tt

pub returns-in_err-order-clause-only : goal.returns-in_err-order-clause-only
returns-in_err-order-clause-only g c = let p = err_from_is_err_and c.from_residual-in_err-order.result c.from_residual-in_err-order.ensures.1 in rw p.1 tt

pub returns-in_err-order-clause-err : goal.returns-in_err-order-clause-err
returns-in_err-order-clause-err g c = let p = err_from_is_err_and c.from_residual-in_err-order.result c.from_residual-in_err-order.ensures.1 in rw (p.1, p.2) tt

pub returns-in_err-push-clause-ok : goal.returns-in_err-push-clause-ok
returns-in_err-push-clause-ok g c = let p = err_from_is_err_and c.from_residual-in_err-push.result c.from_residual-in_err-push.ensures.1 in rw p.1 tt

pub returns-in_err-push-clause-only : goal.returns-in_err-push-clause-only
returns-in_err-push-clause-only g c = let p = err_from_is_err_and c.from_residual-in_err-push.result c.from_residual-in_err-push.ensures.1 in rw p.1 tt

pub returns-in_err-push-clause-err : goal.returns-in_err-push-clause-err
returns-in_err-push-clause-err g c = let p = err_from_is_err_and c.from_residual-in_err-push.result c.from_residual-in_err-push.ensures.1 in rw (p.1, p.2) tt

pub returns-in_err-list-clause-ok : goal.returns-in_err-list-clause-ok
returns-in_err-list-clause-ok g c = let p = err_from_is_err_and c.from_residual-in_err-list.result c.from_residual-in_err-list.ensures.1 in rw p.1 tt

pub returns-in_err-list-clause-only : goal.returns-in_err-list-clause-only
returns-in_err-list-clause-only g c = let p = err_from_is_err_and c.from_residual-in_err-list.result c.from_residual-in_err-list.ensures.1 in rw p.1 tt

pub returns-in_err-list-clause-err : goal.returns-in_err-list-clause-err
returns-in_err-list-clause-err g c = let p = err_from_is_err_and c.from_residual-in_err-list.result c.from_residual-in_err-list.ensures.1 in rw (p.1, p.2) tt

pub returns-in-Err-Large-clause-ok : goal.returns-in-Err-Large-clause-ok
returns-in-Err-Large-clause-ok g c = tt

pub returns-in-Err-Large-clause-only : goal.returns-in-Err-Large-clause-only
returns-in-Err-Large-clause-only g c = tt

pub returns-in-Err-NoMemory-clause-ok : goal.returns-in-Err-NoMemory-clause-ok
returns-in-Err-NoMemory-clause-ok g c = tt

pub returns-in-Err-NoMemory-clause-only : goal.returns-in-Err-NoMemory-clause-only
returns-in-Err-NoMemory-clause-only g c = tt

pub returns-in-Err-NoMemory-clause-err : goal.returns-in-Err-NoMemory-clause-err
returns-in-Err-NoMemory-clause-err g c = tt

pub returns-clause-err : goal.returns-clause-err
returns-clause-err g c = tt

pub invariant_of-bound : goal.invariant_of-bound
invariant_of-bound g c = record { fits = c.requires.most_limit }

pub pick-position-requires : goal.pick-position-requires
pick-position-requires g c = c.requires.chooses
