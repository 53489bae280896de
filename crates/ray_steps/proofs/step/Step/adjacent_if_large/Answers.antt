use Rattle.std.proofs.Common.{◌≡◌, ℕ, ◌<◌, length, refl, subst, subst₂, sym, ap, ◌∙◌, arith}
use Rattle.std.specs.List.{All}
use Rattle.std.proofs.lemmas.List.{length-map}
use Rattle.cone_definitions.specs.Vectors.{ray_at}
use Rattle.support_bits.specs.Columns.{support_of}
use Rattle.ray_steps.specs.Adjacent.{IsOuterOf}
use Rattle.ray_steps.specs.Negatives.{AreNegativeFlags}
use Rattle.ray_steps.specs.Rays.{rays_of}
use Rattle.ray_steps.specs.CompatibleLists.{HasAllSupports}
use Rattle.ray_steps.specs.Steps.{StepData}
use Rattle.ray_steps.specs.Unions.{HaveSmallUnions}
use Rattle.ray_steps.proofs.AdjacentLemmas.{adjacent_lists, outers_in}
use Rattle.ray_steps.proofs.RayLemmas.{ray_width, length-rays_of}
use Rattle.ray_steps.proofs.ViewLemmas.{place_of_rays}
use Rattle.ray_steps.proofs.step.Step.adjacent_if_large.Goals as goal

pub invariant_of-search : goal.invariant_of-search
invariant_of-search g c =
    let s = c.self.inside in
    let d = c.args.self.now in
    let table = c.in_ok-table.table in
    let flags = c.deref-3.result.now in
    let outers = c.deref-4.result.now in
    let supports = subst (λ (d : StepData). HasAllSupports d.rays d.columns table) c.self.view_is
    (subst₂ (λ rs n. HasAllSupports (rays_of rs) n table) c.deref.ensures.value c.columns.ensures c.in_ok-table.ensures) in
    let tell = subst (λ (d : StepData). AreNegativeFlags d.signs (length d.signs) flags) c.self.view_is
    (subst₂ (λ ss fs. AreNegativeFlags ss (length ss) fs) c.deref-2.ensures.value (sym c.deref-3.ensures.value) c.in_ok-negative.ensures) in
    let small = subst (λ (d : StepData). HaveSmallUnions d.columns s.most d.pairs d.rays) c.self.view_is c.self.invariant.rays.small in
    let wide = subst (λ (d : StepData). (i : ℕ) → i < length d.rays → length (ray_at d.rays i) ≡ d.columns) c.self.view_is
    (λ i less. ray_width s.ray_list.items i s.clashes.now.columns (place_of_rays s.ray_list.items (rays_of s.ray_list.items) i refl less) c.self.invariant.rays.widths) in
    let are = subst (All (IsOuterOf d)) (sym c.deref-4.ensures.value) c.in_ok-outers.ensures in
    let as_many_signs = ap (λ (d : StepData). length d.signs) c.self.view_is in
    let as_many_rays = ap (λ (d : StepData). length d.rays) c.self.view_is in
    let signs = c.self.invariant.count in
    let rays = length-rays_of s.ray_list.items in
    let reported = tell.count in
    let all = ap length supports.supports ∙ length-map d.rays support_of in
    record {
      flags = omega (arith, as_many_signs, as_many_rays, signs, rays, reported, all);
      are_outers = outers_in d s.most table flags supports tell small wide outers are;
    }

pub returns : goal.returns
returns g c =
    let s = c.self.inside in
    let d = c.args.self.now in
    let table = c.in_ok-table.table in
    let flags = c.deref-3.result.now in
    let outers = c.deref-4.result.now in
    let supports = subst (λ (d : StepData). HasAllSupports d.rays d.columns table) c.self.view_is
    (subst₂ (λ rs n. HasAllSupports (rays_of rs) n table) c.deref.ensures.value c.columns.ensures c.in_ok-table.ensures) in
    let tell = subst (λ (d : StepData). AreNegativeFlags d.signs (length d.signs) flags) c.self.view_is
    (subst₂ (λ ss fs. AreNegativeFlags ss (length ss) fs) c.deref-2.ensures.value (sym c.deref-3.ensures.value) c.in_ok-negative.ensures) in
    let small = subst (λ (d : StepData). HaveSmallUnions d.columns s.most d.pairs d.rays) c.self.view_is c.self.invariant.rays.small in
    let wide = subst (λ (d : StepData). (i : ℕ) → i < length d.rays → length (ray_at d.rays i) ≡ d.columns) c.self.view_is
    (λ i less. ray_width s.ray_list.items i s.clashes.now.columns (place_of_rays s.ray_list.items (rays_of s.ray_list.items) i refl less) c.self.invariant.rays.widths) in
    let are = subst (All (IsOuterOf d)) (sym c.deref-4.ensures.value) c.in_ok-outers.ensures in
    adjacent_lists d s.most table flags supports tell small wide outers c.in_ok-found.found.items are c.in_ok-found.ensures
