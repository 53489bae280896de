-- The signs of the rays so far, with one more ray.
use Rattle.std.proofs.Common.{◌≡◌, ℕ, ◌+◌, ◌<◌, ⊎_elim, List, [], ◌∷◌, ◌++◌, length, take, get_or-take, subst₂, ap, sym, ◌∙◌, arith}
use Rattle.std.proofs.lemmas.List.{length-take-le, length_push, get_or_push, get_or_append_left}
use Rattle.std.proofs.lemmas.List.Elements.{All-more}
use Rattle.std.proofs.lemmas.Bool.{cases_lt}
use Rattle.cone_definitions.specs.Rows.{Row}
use Rattle.cone_definitions.specs.Elimination.{HasPartsWithin}
use Rattle.cone_definitions.specs.Vectors.{ray_at}
use Rattle.ray_steps.specs.declared.signs.Sign.{Sign}
use Rattle.ray_steps.specs.Signs.{IsSignAt, AreSigns}

pub signs_push : (limit : ℕ) (row : Row) (rays : List (List ℕ)) (signs : List Sign) (sign : Sign) (i : ℕ) → i < length rays → AreSigns limit row (take i rays) signs →
    IsSignAt row (ray_at rays i) sign → HasPartsWithin limit row (ray_at rays i) → AreSigns limit row (take (i + 1) rays) (signs ++ sign ∷ [])
signs_push limit row rays signs sign i h before at within = record {
  count = omega (arith, length_push signs sign, count, length-take-le (i + 1) rays (omega arith));
  each = λ k d l. ⊎_elim
      (λ old. subst₂ (IsSignAt row) (get_or-take i rays k [] (omega (arith, count)) ∙ sym (get_or-take (i + 1) rays k [] (omega (arith, count)))) (sym (get_or_append_left signs (sign ∷ []) d k old)) (before.each k d old))
      (λ new. let e : k ≡ i = omega (arith, length_push signs sign, count) in
      subst₂ (IsSignAt row) (ap (ray_at rays) (sym e) ∙ sym (get_or-take (i + 1) rays k [] (omega arith))) (sym (get_or_push signs sign d k (omega (arith, count)))) at)
      (cases_lt k (length signs));
  within = All-more (HasPartsWithin limit row) rays i [] h before.within within;
}
  where
    count : length signs ≡ i
    count = before.count ∙ length-take-le i rays (omega arith)
