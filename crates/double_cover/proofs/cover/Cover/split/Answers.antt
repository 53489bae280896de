-- The images are those of the split by the stored orientation.
use Rattle.std.proofs.Common.{◌≡◌, ◌*◌, ℕ, Bool, List, length, map, Vec, Global, Option, Some, sym, ap, ◌∙◌, subst, subst₂, arith}
use Rattle.std.specs.Option.{option_map}
use Rattle.table_definitions.specs.Lists.{below}
use Rattle.table_definitions.specs.Table.{Row}
use Rattle.table_definitions.specs.Relabelling.{Relabelling, Carries}
use Rattle.skeleton_definitions.specs.Skeleton.{IsOrientation}
use Rattle.skeleton.specs.Parts.{items_of}
use Rattle.cover_definitions.specs.Cover.{cover, two_copies, IsSplit}
use Rattle.double_cover.proofs.Relabelled.{length-images, parted, split_is, split_relabels, split_moves}
use Rattle.double_cover.proofs.cover.Cover.split.Goals as goal

abbrev AreParted : List ℕ → ℕ → List Bool → Type 0
AreParted images n signs = images ≡ map (parted signs n) (below (2 * n))

pub by_images-requires : goal.by_images-requires
by_images-requires c =
    let o : IsOrientation c.self.inside.base (Some c.in-Some.signs.items) = subst (IsOrientation c.self.inside.base) (ap (λ (o : Option (Vec Bool Global)). option_map items_of o) c.in-Some.is) c.self.invariant.3 in
    split_relabels c.self.inside.base c.in-Some.signs.items c.in_ok-images.images.items
    (subst₂ (AreParted c.in_ok-images.images.items) c.len.ensures.value c.deref.ensures.value c.in_ok-images.ensures) c.self.invariant.1 o.0

pub returns-clause-split : goal.returns-clause-split
returns-clause-split c =
    let o : IsOrientation c.self.inside.base (Some c.in-Some.signs.items) = subst (IsOrientation c.self.inside.base) (ap (λ (o : Option (Vec Bool Global)). option_map items_of o) c.in-Some.is) c.self.invariant.3 in
    subst (λ (rows : List Row). IsSplit rows (Some c.in_ok-by.by)) c.self.view_is (
      c.in-Some.signs.items,
      o,
      c.in_ok-by.ensures
          ∙ split_is c.self.inside.base c.in-Some.signs.items c.in_ok-images.images.items
          (subst₂ (AreParted c.in_ok-images.images.items) c.len.ensures.value c.deref.ensures.value c.in_ok-images.ensures),
    )

pub returns-clause-carries : goal.returns-clause-carries
returns-clause-carries c =
    let o : IsOrientation c.self.inside.base (Some c.in-Some.signs.items) = subst (IsOrientation c.self.inside.base) (ap (λ (o : Option (Vec Bool Global)). option_map items_of o) c.in-Some.is) c.self.invariant.3 in
    subst (λ (rows : List Row). Carries c.in_ok-by.by (cover rows) (two_copies rows)) c.self.view_is
    (subst (λ (by : Relabelling). Carries by (cover c.self.inside.base) (two_copies c.self.inside.base)) (sym c.in_ok-by.ensures)
    (split_moves c.self.inside.base c.in-Some.signs.items c.in_ok-images.images.items
    (subst₂ (AreParted c.in_ok-images.images.items) c.len.ensures.value c.deref.ensures.value c.in_ok-images.ensures) c.self.invariant.1 o.0))

pub returns-clause-size : goal.returns-clause-size
returns-clause-size c =
    let long : length c.in_ok-images.images.items ≡ 2 * c.len.result =
    length-images (2 * c.len.result) (parted c.deref.result.now c.len.result) c.in_ok-images.images.items (c.in_ok-images.ensures) in
    let same : length c.in_ok-by.by.images ≡ length c.in_ok-images.images.items = ap (λ (by : Relabelling). length by.images) c.in_ok-by.ensures in
    let rows : length c.self.inside.base ≡ length c.args.self.now = ap length c.self.view_is in omega (arith, long, same, rows, c.len.ensures.value)
