-- An enumeration in a named order exceeds the limit at one ray or pair, in one step, and nowhere if it has a list.
use Rattle.std.proofs.Common.{◌≡◌, ◌≢◌, ℕ, ◌<◌, ◌≤◌, ⊎_elim, List, [], Contains, length, length-take, take, drop, get_or, slice_index_or, zero-add, subst, sym, ap, ap₂, ◌∙◌, arith}
use Rattle.std.specs.List.{range_with_len}
use Rattle.std.proofs.lemmas.Bool.{cases_lt}
use Rattle.std.proofs.lemmas.List.{take_all, take-append-drop, take-append-le, get_or-take, take-map, length-map}
use Rattle.std.proofs.lemmas.List.FromFn.{length-range_with_len, get_or-range_with_len}
use Rattle.std.proofs.lemmas.List.Elements.{Contains-get_or}
use Rattle.std.proofs.lemmas.List.Sorted.{Contains-permutation}
use Rattle.cone_definitions.specs.Rows.{Row}
use Rattle.cone_definitions.specs.Surfaces.{Clash}
use Rattle.cone_definitions.specs.Elimination.{Step, step_at, in_order, IsWithin, Named, IsNamedAt, IsLarge}
use Rattle.cone_definitions.specs.Orders.{AreNamed}
use Rattle.cone_definitions.specs.Listings.{Enumeration, IsListed, ExceedsLimit}
use Rattle.cone_definitions.specs.declared.Order.TheVariants.{Free}
use Rattle.cone_definitions.proofs.Large.{one_is_named_lem, none_is_named_lem}
use Rattle.cone_definitions.proofs.NamedOrders.{one_named_order_lem}

pub take_shorter : {A : Type 0} (xs : List A) (n i : ℕ) → i ≤ n → n ≤ length xs → take i (take n xs) ≡ take i xs
take_shorter {A} xs n i less within =
    sym (ap (λ (ys : List A). take i ys) (sym (take-append-drop n xs)) ∙ take-append-le i (take n xs) (drop n xs) (let e = length-take n xs in omega arith))

-- the first n rows have the steps before n
pub step_same : (columns : ℕ) (rows : List Row) (pairs : List Clash) (n i : ℕ) → i < n → n ≤ length rows → step_at columns (take n rows) pairs i ≡ step_at columns rows pairs i
step_same columns rows pairs n i less within =
    let make : List Row → Row → Step = λ before row. record { columns = columns; pairs = pairs; before = before; row = row } in
    ap₂ make (take_shorter rows n i (omega arith) within) (get_or-take n rows i [] less)

large_longer : (limit columns : ℕ) (rows : List Row) (pairs : List Clash) (n k : ℕ) (named : Named) → k < n → n ≤ length rows →
    IsLarge limit columns (take n rows) pairs k named → IsLarge limit columns rows pairs k named
large_longer limit columns rows pairs n k named less within h = record {
  in_range = omega arith;
  earlier = λ i l. subst (IsWithin limit) (step_same columns rows pairs n i (omega arith) within) (h.earlier i l);
  at_step = subst (λ (s : Step). IsNamedAt limit s named) (step_same columns rows pairs n k less within) h.at_step;
}

pub length-in_order : (rows : List Row) (taken : List ℕ) → length (in_order rows taken) ≡ length taken
length-in_order rows taken = length-map taken (λ k. slice_index_or rows k [])

-- what exceeds the limit in the rows that an order names exceeds it in a longer list of them
large_in_longer : (e : Enumeration) (taken others : List ℕ) (one : Named) → e.order ≢ Free → (h : ExceedsLimit e taken one) → AreNamed e.order e.system others →
    length taken ≤ length others → IsLarge e.limit e.system.columns (in_order e.system.rows others) e.pairs h.step one
large_in_longer e taken others one some h named less =
    let same = one_named_order_lem e.order e.system taken others some h.named named less in
    let n = length-in_order e.system.rows others in
    let c = h.count in
    large_longer e.limit e.system.columns (in_order e.system.rows others) e.pairs (length taken) h.step one (omega arith) (omega arith)
    (subst (λ (rows : List Row). IsLarge e.limit e.system.columns rows e.pairs h.step one)
    (ap (in_order e.system.rows) same ∙ sym (take-map (λ number. slice_index_or e.system.rows number []) (length taken) others)) h.large)

one_of_longer : (e : Enumeration) (taken others : List ℕ) (one other : Named) → e.order ≢ Free → ExceedsLimit e taken one → ExceedsLimit e others other →
    length taken ≤ length others → (taken ≡ others) × (one ≡ other)
one_of_longer e taken others one other some h g less =
    let both = one_is_named_lem e.limit e.system.columns (in_order e.system.rows others) e.pairs h.step g.step one other
    (large_in_longer e taken others one some h g.named less) g.large in
    let a = h.count in
    let b = g.count in
    let same = both.0 in (
      one_named_order_lem e.order e.system taken others some h.named g.named less ∙ take_all (length taken) others (omega arith),
      both.1,
    )

pub one_past : (e : Enumeration) (taken others : List ℕ) (one other : Named) → e.order ≢ Free → ExceedsLimit e taken one → ExceedsLimit e others other →
    (taken ≡ others) × (one ≡ other)
one_past e taken others one other some h g = ⊎_elim
    (λ less. one_of_longer e taken others one other some h g (omega arith))
    (λ more. let both = one_of_longer e others taken other one some g h more in (sym both.0, sym both.1))
    (cases_lt (length taken) (length others))

-- no row is left if all are taken
none_left : (e : Enumeration) (all taken : List ℕ) (list : List (List ℕ)) → e.order ≢ Free → IsListed e all list → AreNamed e.order e.system taken →
    length all < length taken → ⊥
none_left e all taken list some r named less =
    let same = one_named_order_lem e.order e.system all taken some r.named named (omega arith) in
    let turn = named (length all) less in
    let z = get_or turn.left turn.position 0 in
    let m = (turn.left_of.members z).0 (Contains-get_or turn.left turn.position 0 turn.in_range) in
    let n = length-range_with_len 0 (length e.system.rows) in
    let below : z < length e.system.rows = m.0 in
    m.1 (subst (λ (xs : List ℕ). Contains xs z) same
    (Contains-permutation (range_with_len 0 (length e.system.rows)) all z r.all (z, omega arith, get_or-range_with_len 0 (length e.system.rows) z z below ∙ zero-add z)))

-- if the enumeration has a list, nothing exceeds the limit
pub none_past : (e : Enumeration) (all taken : List ℕ) (list : List (List ℕ)) (kind : Named) → e.order ≢ Free → IsListed e all list → ¬ ExceedsLimit e taken kind
none_past e all taken list kind some r h = ⊎_elim
    (λ less. none_left e all taken list some r h.named less)
    (λ more. none_is_named_lem e.limit e.system.columns (in_order e.system.rows all) e.pairs
    (λ k l. r.within k (let n = length-in_order e.system.rows all in omega arith)) h.step kind
    (large_in_longer e taken all kind some h r.named more))
    (cases_lt (length all) (length taken))
