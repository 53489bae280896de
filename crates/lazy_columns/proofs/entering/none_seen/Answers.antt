use Rattle.std.proofs.Common.{◌≡◌, ◌++◌, [], false, replicate, length, slice_index_or, true, subst₂, sym, ap, ◌∙◌, rules}
use Rattle.std.proofs.lemmas.List.{length-replicate}
use Rattle.ray_steps.specs.Rays.{rays_of}
use Rattle.cone_definitions.specs.Unordered.{HasSurfaces}
use Rattle.lazy_columns.specs.Late.{held_rows}
use Rattle.lazy_columns.proofs.UnitRays.{no_surfaces, untouched_none, unseen_within}
use Rattle.lazy_columns.proofs.entering.none_seen.Goals as goal

pub returns : goal.returns
returns c pairs =
    let is : c.in_ok-seen.seen.items ≡ replicate c.args.columns false = search rules in
    record {
      count = ap length is ∙ length-replicate c.args.columns false;
      untouched = λ j unseen. untouched_none c.args.columns j (unseen_within c.args.columns j (ap (λ xs. slice_index_or xs j true) (sym is) ∙ unseen));
      surfaces = subst₂ (λ seen rays. HasSurfaces c.args.columns ([] ++ held_rows 0 seen) pairs rays) (sym is) (sym (ap rays_of c.new-ray_list.ensures.items)) (no_surfaces c.args.columns pairs);
    }
