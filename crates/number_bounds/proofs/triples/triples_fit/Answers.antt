use Rattle.std.proofs.Common.{◌≡◌, ◌*◌, ◌/◌, ◌^◌, ◌≤◌, ℕ, inr, List, length, subst, ◌∙◌, arith}
use Rattle.cone_bound_laws.specs.Caps.{caps_product}
use Rattle.number_bounds.specs.Triples.{triple_cap, triples_product}
use Rattle.number_bounds.proofs.TripleCaps.{bounded, product_is, no_product}
use Rattle.number_bounds.proofs.Past.{past_limit, past_product, refused}
use Rattle.number_bounds.proofs.triples.triples_fit.Goals as goal

pub returns-in-Some-product_of_triples-clause-bounded : goal.returns-in-Some-product_of_triples-clause-bounded
returns-in-Some-product_of_triples-clause-bounded c fit =
    bounded c.args.system.now c.args.limit c.in-Some-2.squares.items c.in-Some.size c.in-Some-product_of_triples.product c.requires
    (rw c.in-Some-2.is at c.in_ok-squares.ensures.some) c.in-Some.ensures.some
    (subst (λ (squares : List ℕ). c.in-Some-product_of_triples.product ≡ caps_product (triple_cap squares) (length squares / 3)) c.deref.ensures.value c.in-Some-product_of_triples.ensures.some)
    (c.is_product_within.ensures.0 fit)

pub returns-in-Some-product_of_triples-clause-exceeded : goal.returns-in-Some-product_of_triples-clause-exceeded
returns-in-Some-product_of_triples-clause-exceeded c unfit =
    let squares = c.in-Some-2.squares.items in
    let product = c.in-Some-product_of_triples.product in
    let is = subst (λ (squares : List ℕ). product ≡ caps_product (triple_cap squares) (length squares / 3)) c.deref.ensures.value c.in-Some-product_of_triples.ensures.some in
    inr (inr (past_limit c.args.system.now.rows c.args.limit c.in-Some.size product (triples_product c.args.system.now) c.in-Some.ensures.attained
    (is ∙ product_is c.args.system.now squares (rw c.in-Some-2.is at c.in_ok-squares.ensures.some))
    (refused c.is_product_within.result (c.in-Some.size * product) c.args.limit c.is_product_within.ensures unfit)))

pub returns-clause-exceeded : goal.returns-clause-exceeded
returns-clause-exceeded c _ =
    let squares = c.in-Some-2.squares.items in
    let large = subst (λ (squares : List ℕ). 2 ^ 128 ≤ caps_product (triple_cap squares) (length squares / 3)) c.deref.ensures.value c.in-None.ensures.none in
    inr (inr (past_product c.args.system.now.rows c.args.limit c.in-Some.size (2 ^ 128) (triples_product c.args.system.now) c.in-Some.ensures.some c.in-Some.ensures.attained (no_product c.args.system.now)
    (subst (λ whole. 2 ^ 128 ≤ whole) (product_is c.args.system.now squares (rw c.in-Some-2.is at c.in_ok-squares.ensures.some)) large)
    c.ranges.limit.fits (omega arith)))
