use Rattle.std.proofs.Common.{◌≡◌, ◌/◌, length, arith, ap, ◌∙◌}
use Rattle.table_definitions.proofs.Carried.{image_in_range}
use Rattle.signature_definitions.specs.Labellings.{Start}
use Rattle.canonical_labelling.proofs.orbits.carried_number.Goals as goal

pub overflow_mul-result : goal.overflow_mul-result
overflow_mul-result c =
    let tet : c.start.inside.tet ≡ c.args.number / 24 = ap (λ (s : Start). s.tet) (c.start.view_is ∙ c.numbered_start-start.ensures) in
    let low = image_in_range (length c.args.by.now.images) c.args.by.now c.image.ensures.bijection c.start.inside.tet (let r = c.requires.in_range in omega (arith, tet, r)) in
    let is = c.image.ensures.value in
    let limited = c.requires.limited in
    omega (arith, low, is, limited)

pub overflow_add-result : goal.overflow_add-result
overflow_add-result c =
    let tet : c.start.inside.tet ≡ c.args.number / 24 = ap (λ (s : Start). s.tet) (c.start.view_is ∙ c.numbered_start-start.ensures) in
    let low = image_in_range (length c.args.by.now.images) c.args.by.now c.image.ensures.bijection c.start.inside.tet (let r = c.requires.in_range in omega (arith, tet, r)) in
    let is = c.image.ensures.value in
    let limited = c.requires.limited in
    let from = c.from.ensures in
    let index = c.index.ensures.in_range in
    omega (arith, low, is, limited, from, index)

pub returns-clause-in_range : goal.returns-clause-in_range
returns-clause-in_range c =
    let tet : c.start.inside.tet ≡ c.args.number / 24 = ap (λ (s : Start). s.tet) (c.start.view_is ∙ c.numbered_start-start.ensures) in
    let low = image_in_range (length c.args.by.now.images) c.args.by.now c.image.ensures.bijection c.start.inside.tet (let r = c.requires.in_range in omega (arith, tet, r)) in
    let is = c.image.ensures.value in
    let from = c.from.ensures in
    let index = c.index.ensures.in_range in
    omega (arith, low, is, from, index)
