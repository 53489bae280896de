use Rattle.std.proofs.Common.{◌≡◌, ℕ, ◌+◌, ◌<◌, List, length, get_or, subst, subst₂, sym, ◌∙◌, ap, arith}
use Rattle.std.proofs.lemmas.Bool.{false≢true}
use Rattle.std.proofs.lemmas.List.{get_or_default}
use Rattle.std.proofs.lemmas.List.Elements.{All-push}
use Rattle.std.proofs.lemmas.Result.{err_from_is_err_and}
use Rattle.cone_definitions.specs.Vectors.{ray_at}
use Rattle.cone_arithmetic.specs.Combinations.{IsReducedBy}
use Rattle.ray_steps.specs.declared.signs.Sign.TheVariants.{Zero}
use Rattle.ray_steps.specs.Faults.{IfLarge}
use Rattle.ray_steps.specs.Rays.{rays_of, AreOfWidth}
use Rattle.ray_steps.specs.Signs.{IsAdjacentPair, IsMadeUpTo}
use Rattle.ray_steps.proofs.LargeLemmas.{first_large, reduced_width}
use Rattle.ray_steps.proofs.RayLemmas.{length-rays_of, ray_read, ray_width, rays_of-push}
use Rattle.ray_steps.proofs.CombinationLemmas.{made_skip, made_push, made_next, made_skip_all}
use Rattle.ray_steps.proofs.PairLemmas.{the_pair, no_pair}
use Rattle.ray_steps.proofs.PlaceLemmas.{taken_none, taken_more, made_at, made_end}
use Rattle.ray_steps.proofs.RivalLemmas.{width_read}
use Rattle.ray_steps.proofs.NearLemmas.{near_taken}
use Rattle.ray_steps.proofs.ReadLemmas.{place_of_kept, read_width}
use Rattle.ray_steps.proofs.JoinLemmas.{joined_width}
use Rattle.ray_steps.specs.declared.combinations.CombinationsSoFar.{CombinationsSoFar}
use Rattle.ray_steps.specs.Steps.{StepData, AreMadeBelow, IsSearchAt, IsFirstLargeOf}
use Rattle.ray_steps.proofs.ViewLemmas.{place_of_rays, place_in_rays, negatives_read}
use Rattle.ray_steps.proofs.step.Step.combine_with.Goals as goal
use Rattle.ray_steps.proofs.step.Step.combine_with.Goals.{in-Negative+in_ok-is_face+then-branch+in_ok-kept+in_ok-push, in-Negative+in_ok-is_face+else-branch, in_default-index}

pub returns-in_default : goal.returns-in_default
returns-in_default g c =
    let s = c.self.inside in
    let signs = s.signs.items in
    let i = c.args.i in
    let made = c.args.made.now in
    let i_in = place_of_rays s.ray_list.items c.args.self.now.rays i (ap (λ (d : StepData). d.rays) c.self.view_is) c.requires.in_range in
    let within = subst (λ n. i < n) (sym c.self.invariant.count) i_in in
    let so_far = subst (λ (d : StepData). AreMadeBelow d i made) (sym c.self.view_is) c.requires.made in
    record {
      ok = subst (λ (d : StepData). AreMadeBelow d (i + 1) made) c.self.view_is (record {
        so_far = made_skip_all s.limit.number s.clashes.now.pairs (rays_of s.ray_list.items) signs i (rays_of made.ray_list.items)
            (λ at_u p. c.in_default.not-Positive at_u (c.index.ensures ∙ get_or_default signs i c.index.result.now Zero within ∙ p)) so_far.so_far;
        widths = so_far.widths;
        compatible_list = so_far.compatible_list;
      });
      err = tt;
    }

pub loop-m-init : goal.loop-m-init
loop-m-init g c =
    let s = c.self.inside in
    let ray_list = s.ray_list.items in
    let signs = s.signs.items in
    let pairs = s.clashes.now.pairs in
    let facts = c.self.invariant in
    let i = c.args.i in
    let made = c.args.made.now in
    let i_in = place_of_rays ray_list c.args.self.now.rays i (ap (λ (d : StepData). d.rays) c.self.view_is) c.requires.in_range in
    let so_far = subst (λ (d : StepData). AreMadeBelow d i made) (sym c.self.view_is) c.requires.made in
    let search = subst (λ (d : StepData). IsSearchAt d i c.in_ok-search.search) (sym c.self.view_is) c.in_ok-search.ensures in
    let near = near_taken s.limit.number pairs ray_list signs i s.clashes.now.columns s.most 0 c.first_not_excluded-m.result c.in_ok-search.search.joined c.args.negatives.now c.index-u.result.now (rays_of made.ray_list.items)
    search.joined facts.rays.small (negatives_read _ _ c.self.view_is _ c.requires.negatives) facts.count i_in facts.rays.widths (ray_read ray_list i c.index-u.result.now i_in c.index-u.ensures) c.first_not_excluded-m.ensures
    (taken_none s.limit.number pairs (rays_of ray_list) signs c.args.negatives.now.places.items i (rays_of made.ray_list.items) so_far.so_far) in
    record { within = near.0; taken = near.1; widths = so_far.widths; search = c.in_ok-search.ensures }

pub is_face-requires-clause-second : goal.is_face-requires-clause-second
is_face-requires-clause-second g c =
    let s = c.self.inside in
    place_in_rays s.ray_list.items c.args.self.now.rays _ (ap (λ (d : StepData). d.rays) c.self.view_is)
    (place_of_kept s.signs.items s.ray_list.items c.args.negatives.now.places.items c.as_slice-places.result.now c.loop-m.m c.self.invariant.count (negatives_read _ _ c.self.view_is _ c.requires.negatives).places c.as_slice-places.ensures.value c.loop-m-test.true)

pub invariant_of-pair-clause-lengths : goal.invariant_of-pair-clause-lengths
invariant_of-pair-clause-lengths g c =
    let s = c.self.inside in
    let ray_list = s.ray_list.items in
    let places = c.as_slice-places.result.now in
    let columns = s.clashes.now.columns in
    let i_in = place_of_rays ray_list c.args.self.now.rays c.args.i (ap (λ (d : StepData). d.rays) c.self.view_is) c.requires.in_range in
    let within = place_of_kept s.signs.items ray_list c.args.negatives.now.places.items places c.loop-m.m c.self.invariant.count (negatives_read _ _ c.self.view_is _ c.requires.negatives).places c.as_slice-places.ensures.value c.loop-m-test.true in
    read_width ray_list c.args.i columns c.index-u.result.now i_in c.index-u.ensures c.self.invariant.rays.widths
    ∙ sym (read_width ray_list (get_or places c.loop-m.m 0) columns c.index-w.result.now within c.index-w.ensures c.self.invariant.rays.widths)

pub returns-in_err-kept-clause-err : goal.returns-in_err-kept-clause-err
returns-in_err-kept-clause-err g c =
    let s = c.self.inside in
    let ray_list = s.ray_list.items in
    let rays = rays_of ray_list in
    let signs = s.signs.items in
    let pairs = s.clashes.now.pairs in
    let facts = c.self.invariant in
    let i = c.args.i in
    let m = c.loop-m.m in
    let places = c.args.negatives.now.places.items in
    let made = rays_of c.loop-m.made.ray_list.items in
    let j = get_or c.as_slice-places.result.now m 0 in
    let t = c.loop-m.invariant.taken in
    let i_in = place_of_rays ray_list c.args.self.now.rays i (ap (λ (d : StepData). d.rays) c.self.view_is) c.requires.in_range in
    let i_signed = subst (λ n. i < n) (sym facts.count) i_in in
    let less : m < length places = let n = ap length c.as_slice-places.ensures.value in omega arith in
    let is : get_or c.as_slice-places.result.now m 0 ≡ get_or places m 0 = ap (λ ps. get_or ps m 0) c.as_slice-places.ensures.value in
    let j_in : j < length signs = subst (λ n. n < length signs) (sym is) ((negatives_read _ _ c.self.view_is _ c.requires.negatives).places.in_range m 0 less) in
    let j_within : j < length ray_list = omega (arith, facts.count) in
    let u = ray_read ray_list i c.index-u.result.now i_in c.index-u.ensures in
    let w = ray_read ray_list j c.index-w.result.now j_within c.index-w.ensures in
    let face = subst (λ (d : StepData). IsAdjacentPair d.pairs d.rays i j) (sym c.self.view_is) (c.in_ok-is_face.ensures.face.0 c.if-branch.true) in
    let p = err_from_is_err_and c.from_residual-in_err-kept.result c.from_residual-in_err-kept.ensures.1 in
    rw (p.1, p.2) (subst (λ (d : StepData). IfLarge (IsFirstLargeOf d) c.in_err-kept.field-0.0) c.self.view_is
    (first_large s.limit.number pairs rays signs i j made
    (subst (λ n. IsMadeUpTo s.limit.number pairs rays signs i n made) (sym is) (made_at s.limit.number pairs rays signs i m t.up_to places made (negatives_read _ _ c.self.view_is _ c.requires.negatives).places less t.reached t.so_far))
    (the_pair pairs ray_list signs i j c.in-Positive.at_u c.in-Negative.at_w facts.count i_in j_in
    (sym (c.index.ensures ∙ get_or_default signs i c.index.result.now Zero i_signed) ∙ c.in-Positive.is)
    (sym (c.index-in-loop-m.ensures ∙ get_or_default signs j c.index-in-loop-m.result.now Zero j_in) ∙ c.in-Negative.is) face)
    c.index-u.result.now.ray c.index-w.result.now.ray u w c.in_err-kept.field-0.0 c.in_err-kept.ensures.err))

pub invariant_of-next-clause-first : goal.invariant_of-next-clause-first
invariant_of-next-clause-first g c =
    let ray_list = c.self.inside.ray_list.items in
    let i_in = place_of_rays ray_list c.args.self.now.rays c.args.i (ap (λ (d : StepData). d.rays) c.self.view_is) c.requires.in_range in
    width_read c.index-u.result.now _ c.self.inside.clashes.now.columns _ (ray_read ray_list c.args.i c.index-u.result.now i_in c.index-u.ensures)
    (ray_width ray_list c.args.i c.self.inside.clashes.now.columns i_in c.self.invariant.rays.widths) (negatives_read _ _ c.self.view_is _ c.requires.negatives).table.width

pub invariant_of-next-clause-second : goal.invariant_of-next-clause-second
invariant_of-next-clause-second g c =
    let s = c.self.inside in
    let ray_list = s.ray_list.items in
    let i = c.args.i in
    let after = c.match-index-2.search in
    let i_in = place_of_rays ray_list c.args.self.now.rays i (ap (λ (d : StepData). d.rays) c.self.view_is) c.requires.in_range in
    let search : IsSearchAt c.args.self.now i after = elim c.match-index-2.branch [
      | in-Negative+in_ok-is_face+then-branch+in_ok-kept+in_ok-push w' ↦ subst (IsSearchAt c.args.self.now i) (sym w'.search-is) w'.in_ok-is_face.ensures.search
      | in-Negative+in_ok-is_face+else-branch w' ↦ subst (IsSearchAt c.args.self.now i) (sym w'.search-is) w'.in_ok-is_face.ensures.search
      | in_default-index w' ↦ subst (IsSearchAt c.args.self.now i) (sym w'.search-is) c.loop-m.invariant.search
    ] in
    joined_width s.clashes.now.pairs ray_list i s.clashes.now.columns after.joined i_in c.self.invariant.rays.widths
    (subst (λ (d : StepData). IsSearchAt d i after) (sym c.self.view_is) search).joined ∙ sym (negatives_read _ _ c.self.view_is _ c.requires.negatives).table.width

pub loop-m-preserved : goal.loop-m-preserved
loop-m-preserved g c =
    let d = c.args.self.now in
    let s = c.self.inside in
    let ray_list = s.ray_list.items in
    let rays = rays_of ray_list in
    let signs = s.signs.items in
    let pairs = s.clashes.now.pairs in
    let columns = s.clashes.now.columns in
    let facts = c.self.invariant in
    let i = c.args.i in
    let m = c.loop-m.m in
    let places = c.args.negatives.now.places.items in
    let j = get_or c.as_slice-places.result.now m 0 in
    let made = c.loop-m.made.ray_list.items in
    let t = c.loop-m.invariant.taken in
    let i_in = place_of_rays ray_list d.rays i (ap (λ (d : StepData). d.rays) c.self.view_is) c.requires.in_range in
    let i_signed = subst (λ n. i < n) (sym facts.count) i_in in
    let less : m < length places = let n = ap length c.as_slice-places.ensures.value in omega arith in
    let is : get_or c.as_slice-places.result.now m 0 ≡ get_or places m 0 = ap (λ ps. get_or ps m 0) c.as_slice-places.ensures.value in
    let j_in : j < length signs = subst (λ n. n < length signs) (sym is) ((negatives_read _ _ c.self.view_is _ c.requires.negatives).places.in_range m 0 less) in
    let j_within : j < length ray_list = omega (arith, facts.count) in
    let sign = c.index-in-loop-m.ensures ∙ get_or_default signs j c.index-in-loop-m.result.now Zero j_in in
    let before = subst (λ n. IsMadeUpTo s.limit.number pairs rays signs i n (rays_of made)) (sym is) (made_at s.limit.number pairs rays signs i m t.up_to places (rays_of made) (negatives_read _ _ c.self.view_is _ c.requires.negatives).places less t.reached t.so_far) in
    let u = ray_read ray_list i c.index-u.result.now i_in c.index-u.ensures in
    let after = c.match-index-2.search in
    let near = λ (xs : List (List ℕ)) (search : IsSearchAt d i after) (h : IsMadeUpTo s.limit.number pairs rays signs i (j + 1) xs).
    near_taken s.limit.number pairs ray_list signs i columns s.most (m + 1) c.first_not_excluded-m-in-loop-m.result after.joined c.args.negatives.now c.index-u.result.now xs
    (subst (λ (d : StepData). IsSearchAt d i after) (sym c.self.view_is) search).joined facts.rays.small (negatives_read _ _ c.self.view_is _ c.requires.negatives) facts.count i_in facts.rays.widths u c.first_not_excluded-m-in-loop-m.ensures
    (taken_more s.limit.number pairs rays signs places i m xs (negatives_read _ _ c.self.view_is _ c.requires.negatives).places less (subst (λ n. IsMadeUpTo s.limit.number pairs rays signs i (n + 1) xs) is h)) in
    elim c.match-index-2.branch [
      | in-Negative+in_ok-is_face+then-branch+in_ok-kept+in_ok-push w' ↦
          let search = subst (IsSearchAt d i) (sym w'.search-is) w'.in_ok-is_face.ensures.search in
          let w = ray_read ray_list j w'.index-w.result.now j_within w'.index-w.ensures in
          let face = subst (λ (d : StepData). IsAdjacentPair d.pairs d.rays i j) (sym c.self.view_is) (w'.in_ok-is_face.ensures.face.0 w'.if-branch.true) in
          let p = the_pair pairs ray_list signs i j c.in-Positive.at_u w'.in-Negative.at_w facts.count i_in j_in
          (sym (c.index.ensures ∙ get_or_default signs i c.index.result.now Zero i_signed) ∙ c.in-Positive.is) (sym sign ∙ w'.in-Negative.is) face in
          let e = ap (λ v. v.ray_list.items) w'.made-is ∙ w'.in_ok-push.ensures.items in
          let reduced = subst₂ (λ a b. IsReducedBy s.limit.number c.in-Positive.at_u w'.in-Negative.at_w a b w'.in_ok-kept.kept.ray) (sym u) (sym w) w'.in_ok-kept.ensures.ok in
          let next = near _ search (subst (IsMadeUpTo s.limit.number pairs rays signs i (j + 1)) (sym (ap rays_of e ∙ rays_of-push made w'.in_ok-kept.kept))
          (made_push s.limit.number pairs rays signs i j (rays_of made) w'.in_ok-kept.kept.ray before p reduced)) in
          record {
            within = next.0;
            taken = next.1;
            widths = subst (AreOfWidth columns) (sym e)
                (All-push (λ kept. length kept.ray ≡ columns) made w'.in_ok-kept.kept c.loop-m.invariant.widths
                (reduced_width s.limit.number c.in-Positive.at_u w'.in-Negative.at_w (ray_at rays i) (ray_at rays j) w'.in_ok-kept.kept.ray reduced
                (ray_width ray_list i columns i_in facts.rays.widths ∙ sym (ray_width ray_list j columns j_within facts.rays.widths))
                ∙ ray_width ray_list j columns j_within facts.rays.widths));
            search = search;
          }
      | in-Negative+in_ok-is_face+else-branch w' ↦
          let search = subst (IsSearchAt d i) (sym w'.search-is) w'.in_ok-is_face.ensures.search in
          let e = ap (λ v. v.ray_list.items) w'.made-is in
          let next = near _ search (subst (λ xs. IsMadeUpTo s.limit.number pairs rays signs i (j + 1) (rays_of xs)) (sym e)
          (made_skip s.limit.number pairs rays signs i j (rays_of made) before
          (no_pair pairs rays signs i j (λ face. false≢true (sym w'.if-branch.false ∙ w'.in_ok-is_face.ensures.face.1 (subst (λ (d : StepData). IsAdjacentPair d.pairs d.rays i j) c.self.view_is face)))))) in
          record { within = next.0; taken = next.1; widths = subst (AreOfWidth columns) (sym e) c.loop-m.invariant.widths; search = search }
      | in_default-index w' ↦
          let search = subst (IsSearchAt d i) (sym w'.search-is) c.loop-m.invariant.search in
          let e = ap (λ v. v.ray_list.items) w'.made-is in
          let next = near _ search (subst (λ xs. IsMadeUpTo s.limit.number pairs rays signs i (j + 1) (rays_of xs)) (sym e)
          (made_skip s.limit.number pairs rays signs i j (rays_of made) before (λ p. w'.in_default-index.not-Negative p.at_w (sign ∙ p.negative)))) in
          record { within = next.0; taken = next.1; widths = subst (AreOfWidth columns) (sym e) c.loop-m.invariant.widths; search = search }
    ]

pub returns-clause-ok : goal.returns-clause-ok
returns-clause-ok g c =
    let s = c.self.inside in
    let ray_list = s.ray_list.items in
    let signs = s.signs.items in
    let facts = c.self.invariant in
    let taken = c.loop-m.invariant.taken in
    let made = c.loop-m.made.ray_list.items in
    let result : CombinationsSoFar = record { ray_list = c.loop-m.made.ray_list; compatible_list = c.loop-m.search.compatible_list } in
    subst (λ (d : StepData). AreMadeBelow d (c.args.i + 1) result) c.self.view_is (record {
      so_far = made_next s.limit.number s.clashes.now.pairs (rays_of ray_list) signs c.args.i (taken.up_to + length signs) (rays_of made)
          (let n = length-rays_of ray_list in omega (arith, facts.count))
          (made_end s.limit.number s.clashes.now.pairs (rays_of ray_list) signs c.args.i c.loop-m.m taken.up_to c.args.negatives.now.places.items (rays_of made)
          (negatives_read _ _ c.self.view_is _ c.requires.negatives).places (let n = ap length c.as_slice-places.ensures.value in omega arith) taken.reached taken.so_far);
      widths = c.loop-m.invariant.widths;
      compatible_list = (subst (λ (d : StepData). IsSearchAt d c.args.i c.loop-m.search) (sym c.self.view_is) c.loop-m.invariant.search).compatible_list;
    })
