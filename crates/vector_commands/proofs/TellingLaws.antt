-- The answers for vectors, one after another.
use Rattle.std.proofs.Common.{◌≡◌, ℕ, zero, suc, ◌<◌, List, [], ◌∷◌, ◌++◌, length, take, Result, Ok, Err, refl, sym, ap, ◌∙◌, subst, arith, append-nil}
use Rattle.std.specs.List.{AllZip, flat_map, slice_index_or}
use Rattle.std.proofs.lemmas.Grind.{flat_map-append}
use Rattle.surface_vector_definitions.specs.declared.Refusal.{Refusal}
use Rattle.surface_vector_definitions.specs.Answers.{IsFirstRefused}
use Rattle.vector_commands.specs.Telling.{AreAnsweredIn}

module _ {A : Type 0} (IsResult : List ℕ → Result A Refusal → Type 0) (line : A → List ℕ) where
  all_more : (vectors : List (List ℕ)) (answers : List A) (xs : List ℕ) (a : A) → AllZip (λ xs a. IsResult xs (Ok a)) vectors answers → IsResult xs (Ok a)
      → AllZip (λ xs a. IsResult xs (Ok a)) (vectors ++ xs ∷ []) (answers ++ a ∷ [])
  all_more [] [] xs a f h = (h, tt)
  all_more [] (b ∷ answers) xs a f h = absurd f
  all_more (ys ∷ vectors) [] xs a f h = absurd f
  all_more (ys ∷ vectors) (b ∷ answers) xs a f h = (f.0, all_more vectors answers xs a f.1 h)

  pub one_more_told : (vectors : List (List ℕ)) (xs : List ℕ) (before now : List ℕ) → AreAnsweredIn IsResult line vectors before → (a : A) × IsResult xs (Ok a) × (now ≡ before ++ line a)
      → AreAnsweredIn IsResult line (vectors ++ xs ∷ []) now
  one_more_told vectors xs before now h k = record {
    answers = h.answers ++ k.0 ∷ [];
    reported = all_more vectors h.answers xs k.0 h.reported k.1;
    lines = k.2 ∙ ap (λ (t : List ℕ). t ++ line k.0) h.lines ∙ ap (λ (t : List ℕ). flat_map line h.answers ++ t) (sym (append-nil (line k.0))) ∙ sym (flat_map-append line h.answers (k.0 ∷ []));
  }

  -- each vector of a list with answers has an answer
  told_at : (vectors : List (List ℕ)) (answers : List A) (v : ℕ) → v < length vectors → AllZip (λ xs a. IsResult xs (Ok a)) vectors answers → (a : A) × IsResult (slice_index_or vectors v []) (Ok a)
  told_at [] answers v l f = absurd (omega arith)
  told_at (xs ∷ vectors) [] v l f = absurd f
  told_at (xs ∷ vectors) (a ∷ answers) zero l f = (a, f.0)
  told_at (xs ∷ vectors) (a ∷ answers) (suc v) l f = told_at vectors answers v (omega arith) f.1

  -- the items before an index are those of the prefix up to it
  in_front : (vectors : List (List ℕ)) (u v : ℕ) → u < v → v < length vectors → (u < length (take v vectors)) × (slice_index_or (take v vectors) u [] ≡ slice_index_or vectors u [])
  in_front [] u v l m = absurd (omega arith)
  in_front (xs ∷ vectors) u zero l m = absurd (omega arith)
  in_front (xs ∷ vectors) zero (suc v) l m = (omega arith, refl)
  in_front (xs ∷ vectors) (suc u) (suc v) l m =
      let rest = in_front vectors u v (omega arith) (omega arith) in
      let shorter : u < length (take v vectors) = rest.0 in (omega arith, rest.1)

  pub first_refused : (vectors : List (List ℕ)) (v : ℕ) (before : List ℕ) (refusal : Refusal) → v < length vectors → AreAnsweredIn IsResult line (take v vectors) before
      → IsResult (slice_index_or vectors v []) (Err refusal) → IsFirstRefused IsResult vectors v refusal
  first_refused vectors v before refusal l h k = record {
    in_range = l;
    refused = k;
    before = λ u less.
        let front = in_front vectors u v less l in
        let a = told_at (take v vectors) h.answers u front.0 h.reported in
        (a.0, subst (λ xs. IsResult xs (Ok a.0)) front.1 a.1);
  }
