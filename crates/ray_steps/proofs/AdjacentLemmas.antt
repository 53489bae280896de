-- The rays that are found for all outer rays at once are those that each is combined with.
use Rattle.std.proofs.Common.{◌≡◌, ℕ, ◌<◌, List, Bool, get_or, length, subst, sym, ap, ◌∙◌, arith}
use Rattle.std.specs.List.{All}
use Rattle.std.specs.Prelude.{IfSome}
use Rattle.std.proofs.lemmas.List.{length-map}
use Rattle.std.proofs.lemmas.Option.{IfSome_then}
use Rattle.cone_definitions.specs.Vectors.{ray_at}
use Rattle.support_bits.specs.Columns.{support_of}
use Rattle.support_table.specs.Joins.{AreClashingColumns}
use Rattle.support_table.specs.Parts.{outer_at, AreOuters, AreFoundFor}
use Rattle.support_table.specs.Residuals.{AreMinimalOf}
use Rattle.support_table.specs.Tables.{Table}
use Rattle.support_table.specs.declared.outer.Outer.{Outer}
use Rattle.support_table.specs.declared.parts.Found.{Found}
use Rattle.ray_steps.specs.Adjacent.{IsOuterOf, AreAdjacentPlaces, AreAdjacentLists}
use Rattle.ray_steps.specs.Negatives.{AreNegativeFlags}
use Rattle.ray_steps.specs.CompatibleLists.{HasAllSupports}
use Rattle.ray_steps.specs.Steps.{StepData}
use Rattle.ray_steps.specs.Unions.{HaveSmallUnions}
use Rattle.ray_steps.proofs.FoundLemmas.{found_in_range, found_face, pairs_found}

module _ (step : StepData) (most : ℕ) (table : Table) (selected : List Bool) (supports : HasAllSupports step.rays step.columns table) (tell : AreNegativeFlags step.signs (length step.signs) selected)
    (small : HaveSmallUnions step.columns most step.pairs step.rays) (wide : (i : ℕ) → i < length step.rays → length (ray_at step.rays i) ≡ step.columns) where
  adjacent_places : (it : Outer) (i : ℕ) (places : List ℕ) → IsOuterOf step it → it.place ≡ i → AreMinimalOf table.supports it.support it.joined i most selected places → AreAdjacentPlaces step i places
  adjacent_places it i places o is m =
      let outer_is : it.support ≡ support_of (ray_at step.rays i) = o.support_is ∙ ap (λ j. support_of (ray_at step.rays j)) is in
      let joins = subst (λ s. AreClashingColumns step.pairs s it.joined) outer_is o.joined in
      let within = subst (λ j. j < length step.rays) is o.in_range in
      record {
        in_range = λ k d less. found_in_range step.pairs step.rays i step.columns most it.joined table supports joins it.support outer_is selected places k d m less;
        ascending = m.ascending;
        adjacent = λ k d less. found_face step.pairs step.rays i step.columns most it.joined table supports joins it.support outer_is selected places k d m less;
        complete = pairs_found step.pairs step.rays i step.columns most it.joined table supports joins it.support outer_is small within (wide i within) step.signs selected tell places m;
      }

  pub adjacent_lists : (outers : List Outer) (found : List Found) → All (IsOuterOf step) outers → AreFoundFor table.supports outers selected most found → AreAdjacentLists step found
  adjacent_lists outers found are f = record {
    count = f.count ∙ ap length supports.supports ∙ length-map step.rays support_of;
    each = λ i d within.
        let one : IfSome (get_or found i d).places (λ list. (k : ℕ) × (k < length outers) × ((outer_at outers k).place ≡ i) × AreMinimalOf table.supports (outer_at outers k).support (outer_at outers k).joined i most selected list.items) = f.each i d within in
        IfSome_then (get_or found i d).places one (λ list h. adjacent_places (outer_at outers h.0) i list.items (are h.0 _ h.1) h.2 h.3);
  }

  pub outers_in : (outers : List Outer) → All (IsOuterOf step) outers → AreOuters table.columns (length table.supports) outers
  outers_in outers are = record {
    places = λ k d within. let less = (are k d within).in_range in let n = ap length supports.supports ∙ length-map step.rays support_of in omega (arith, less, n);
    supports = λ k d within. (are k d within).wide ∙ sym supports.width;
    joined = λ k d within. (are k d within).joined.count ∙ (are k d within).wide ∙ sym supports.width;
  }
