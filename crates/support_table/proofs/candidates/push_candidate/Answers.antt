use Rattle.std.proofs.Common.{◌≡◌, [], ◌∷◌, ◌++◌, inr, get_or, length, refl, sym, ap, ◌∙◌, arith}
use Rattle.std.proofs.lemmas.List.{get_or_default}
use Rattle.support_table.specs.Counts.{columns_in_either}
use Rattle.support_table.specs.Residuals.{support_at}
use Rattle.support_table.proofs.candidates.push_candidate.Goals as goal

pub returns-in_ok-push : goal.returns-in_ok-push
returns-in_ok-push c =
    let ray = c.args.ray in
    let part = c.args.part.now in
    let k = c.args.k in
    let place = get_or part.places.items k 0 in
    let read = c.index-place.ensures ∙ get_or_default part.places.items k _ 0 c.requires.k in
    let same = c.requires.copied.each k 0 c.requires.k in
    let size : c.union_count-size.result ≡ columns_in_either ray.support.now (support_at ray.rays.now.supports place) = c.union_count-size.ensures.value ∙ ap (columns_in_either ray.support.now) same in
    inr (
      record { place = place; size = c.union_count-size.result },
      refl,
      record {
        candidate = record {
          in_range = c.requires.in_range k 0 c.requires.k;
          other = λ own. c.if-place-ray.true (read ∙ own);
          separate = λ meets. c.requires.separate (rw same meets);
          near = omega (arith, c.if-size-ray.true, size);
        };
        wide = sym (ap length same) ∙ c.union_count-size.ensures.width ∙ c.requires.copied.columns ∙ sym ray.columns;
        size = size;
      },
      c.in_ok-push.ensures.items ∙ ap (λ p. c.args.list.now.items ++ record { place = p; size = c.union_count-size.result } ∷ []) read,
    )
