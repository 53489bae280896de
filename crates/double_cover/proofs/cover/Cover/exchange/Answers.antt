-- The images are those of the deck transformation.
use Rattle.std.proofs.Common.{◌≡◌, ◌*◌, ℕ, List, length, map, sym, ap, ◌∙◌, subst, arith}
use Rattle.table_definitions.specs.Lists.{below}
use Rattle.table_definitions.specs.Table.{Row}
use Rattle.table_definitions.specs.Relabelling.{Relabelling, Carries}
use Rattle.cover_definitions.specs.Cover.{cover, exchange}
use Rattle.double_cover.proofs.Relabelled.{length-images, exchanged, exchange_is, exchange_relabels, exchange_moves}
use Rattle.double_cover.proofs.cover.Cover.exchange.Goals as goal

abbrev AreExchanged : List ℕ → ℕ → Type 0
AreExchanged images n = images ≡ map (exchanged n) (below (2 * n))

pub by_images-requires : goal.by_images-requires
by_images-requires c =
    exchange_relabels c.self.inside.base c.in_ok-images.images.items (subst (AreExchanged c.in_ok-images.images.items) c.len.ensures.value c.in_ok-images.ensures) c.self.invariant.1

pub returns-clause-exchange : goal.returns-clause-exchange
returns-clause-exchange c =
    c.in_ok-by.ensures
    ∙ exchange_is c.self.inside.base c.in_ok-images.images.items (subst (AreExchanged c.in_ok-images.images.items) c.len.ensures.value c.in_ok-images.ensures)
    ∙ ap (λ (rows : List Row). exchange (length rows)) c.self.view_is

pub returns-clause-carries : goal.returns-clause-carries
returns-clause-carries c =
    subst (λ (rows : List Row). Carries c.in_ok-by.by (cover rows) (cover rows)) c.self.view_is
    (subst (λ (by : Relabelling). Carries by (cover c.self.inside.base) (cover c.self.inside.base)) (sym c.in_ok-by.ensures)
    (exchange_moves c.self.inside.base c.in_ok-images.images.items (subst (AreExchanged c.in_ok-images.images.items) c.len.ensures.value c.in_ok-images.ensures) c.self.invariant.1))

pub returns-clause-size : goal.returns-clause-size
returns-clause-size c =
    let long : length c.in_ok-images.images.items ≡ 2 * c.len.result = length-images (2 * c.len.result) (exchanged c.len.result) c.in_ok-images.images.items (c.in_ok-images.ensures) in
    let same : length c.in_ok-by.by.images ≡ length c.in_ok-images.images.items = ap (λ (by : Relabelling). length by.images) c.in_ok-by.ensures in
    let rows : length c.self.inside.base ≡ length c.args.self.now = ap length c.self.view_is in omega (arith, long, same, rows, c.len.ensures.value)
