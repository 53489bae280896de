-- Text that grows at its end.
use Rattle.std.proofs.Common.{◌≡◌, ℕ, ◌+◌, ◌<◌, List, [], ◌∷◌, ◌++◌, length, take, flat_map, sym, ap, ◌∙◌, append_assoc, append-nil}
use Rattle.std.specs.List.{slice_index_or}
use Rattle.std.proofs.lemmas.List.{take_more}
use Rattle.std.proofs.lemmas.Grind.{flat_map-append}

-- one more piece
pub grown : (old t p q now more : List ℕ) → now ≡ old ++ t → more ≡ now ++ p → p ≡ q → more ≡ old ++ (t ++ q)
grown old t p q now more e f g = f ∙ (λ i. e i ++ g i) ∙ append_assoc old t q

-- the lines of one more item
pub lines_more : {A : Type 0} (F : A → List ℕ) (xs : List A) (i : ℕ) (d : A) (old now more : List ℕ) → i < length xs → now ≡ old ++ flat_map F (take i xs) → more ≡ now ++ F (slice_index_or xs i d) → more ≡ old ++ flat_map F (take (i + 1) xs)
lines_more F xs i d old now more l e f =
    f ∙ ap (λ t. t ++ F (slice_index_or xs i d)) e ∙ append_assoc old (flat_map F (take i xs)) (F (slice_index_or xs i d))
    ∙ ap (λ t. old ++ t) (ap (λ t. flat_map F (take i xs) ++ t) (sym (append-nil (F (slice_index_or xs i d)))) ∙ sym (flat_map-append F (take i xs) (slice_index_or xs i d ∷ [])) ∙ ap (flat_map F) (sym (take_more xs i d l)))
