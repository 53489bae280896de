-- The line of a refused vector determines the reason.
use Rattle.std.proofs.Common.{◌≡◌, ℕ, List, [], ◌∷◌, ◌++◌, length, get_or, Option, Some, None, refl, sym, ap, ap₂, ◌∙◌, append_assoc}
use Rattle.std.specs.Prelude.{codes, decimal, ◌==◌, if◌then◌else◌}
use Rattle.std.proofs.lemmas.List.{append_cancel_left}
use Rattle.text_definitions.specs.Text.{decimal_value}
use Rattle.text_definitions.proofs.Decimals.{decimal_value-decimal}
use Rattle.surface_definitions.specs.declared.VectorFault.TheVariants as faults
use Rattle.surface_definitions.specs.Verdict.{verdict_text}
use Rattle.surface_vector_definitions.specs.declared.SurfaceSum.{SurfaceSum}
use Rattle.surface_vector_definitions.specs.declared.SurfaceSum.TheVariants.{Points, Arcs, PointsAndPieces}
use Rattle.surface_vector_definitions.specs.declared.Refusal.{Refusal}
use Rattle.surface_vector_definitions.specs.declared.Refusal.TheVariants.{Unfit, LargeSum, TooManyPieces, LargeLift, NoLift}
use Rattle.surface_vector_definitions.specs.Texts.{sum_word, fault_text, refusal_line, invalid_edge_line}
use Rattle.outcome_text_laws.specs.Refusals.{IsShortNumber, IsShortRefusal, RefusalTextsDetermine, InvalidEdgeTextsDetermine}
use Rattle.outcome_text_laws.proofs.SplitWords.{AreSplit, split_word, number_is_plain, same_number}
use Rattle.outcome_text_laws.proofs.InformationLines.{Words, ArePlain, line_of, word_at, split_words}

-- ---- a reason as words, and back

words_of : Refusal → Words
words_of (Unfit (faults.Length n)) = (codes "length", decimal n ∷ [])
words_of (Unfit (faults.Large i)) = (codes "large", decimal i ∷ [])
words_of (Unfit (faults.NotSolution i)) = (codes "fails", decimal i ∷ [])
words_of (Unfit (faults.Clash a b)) = (codes "clash", decimal a ∷ decimal b ∷ [])
words_of (LargeSum sum) = (codes "large-sum", sum_word sum ∷ [])
words_of (TooManyPieces n) = (codes "too-many-pieces", decimal n ∷ [])
words_of LargeLift = (codes "large-lift", [])
words_of (NoLift c) = (codes "no-lift", decimal c ∷ [])

sum_is_plain : (sum : SurfaceSum) → ArePlain (codes "large-sum", sum_word sum ∷ [])
sum_is_plain Points = record { first = refl; others = (refl, tt) }
sum_is_plain Arcs = record { first = refl; others = (refl, tt) }
sum_is_plain PointsAndPieces = record { first = refl; others = (refl, tt) }

words_are_plain : (f : Refusal) → ArePlain (words_of f)
unfolding words_of
words_are_plain (Unfit (faults.Length n)) = record { first = refl; others = (number_is_plain n, tt) }
words_are_plain (Unfit (faults.Large i)) = record { first = refl; others = (number_is_plain i, tt) }
words_are_plain (Unfit (faults.NotSolution i)) = record { first = refl; others = (number_is_plain i, tt) }
words_are_plain (Unfit (faults.Clash a b)) = record { first = refl; others = (number_is_plain a, (number_is_plain b, tt)) }
words_are_plain (LargeSum sum) = sum_is_plain sum
words_are_plain (TooManyPieces n) = record { first = refl; others = (number_is_plain n, tt) }
words_are_plain LargeLift = record { first = refl; others = tt }
words_are_plain (NoLift c) = record { first = refl; others = (number_is_plain c, tt) }

clash_words : (a b : ℕ) → codes "clash " ++ decimal a ++ codes " " ++ decimal b ++ 10 ∷ [] ≡ line_of (codes "clash", decimal a ∷ decimal b ∷ [])
clash_words a b = simp append_assoc

text_is : (f : Refusal) → fault_text f ≡ line_of (words_of f)
unfolding words_of verdict_text
text_is (Unfit (faults.Length n)) = refl
text_is (Unfit (faults.Large i)) = refl
text_is (Unfit (faults.NotSolution i)) = refl
text_is (Unfit (faults.Clash a b)) = clash_words a b
text_is (LargeSum sum) = refl
text_is (TooManyPieces n) = refl
text_is LargeLift = refl
text_is (NoLift c) = refl

value_or_zero : Option ℕ → ℕ
value_or_zero None = 0
value_or_zero (Some n) = n

-- the number that a word spells
number_of : List ℕ → ℕ
number_of w = value_or_zero (decimal_value w)

number_is : (n : ℕ) → IsShortNumber n → number_of (decimal n) ≡ n
unfolding number_of value_or_zero
number_is n small = ap value_or_zero (decimal_value-decimal n small)

-- the sum with this word: `arcs` has its own letter, and `points` six
sum_of : List ℕ → SurfaceSum
sum_of w = if get_or w 0 0 == 97 then Arcs else (if length w == 6 then Points else PointsAndPieces)

sum_is : (sum : SurfaceSum) → sum_of (sum_word sum) ≡ sum
unfolding sum_of
sum_is Points = refl
sum_is Arcs = refl
sum_is PointsAndPieces = refl

-- the reason with these words, by letters of the first
reason_of : Words → Refusal
reason_of ws =
    if get_or ws.0 0 0 == 102 then Unfit (faults.NotSolution (number_of (word_at ws 0)))
    else (if get_or ws.0 0 0 == 99 then Unfit (faults.Clash (number_of (word_at ws 0)) (number_of (word_at ws 1)))
    else (if get_or ws.0 0 0 == 116 then TooManyPieces (number_of (word_at ws 0))
    else (if get_or ws.0 0 0 == 110 then NoLift (number_of (word_at ws 0))
    else (if get_or ws.0 1 0 == 101 then Unfit (faults.Length (number_of (word_at ws 0)))
    else (if length ws.0 == 5 then Unfit (faults.Large (number_of (word_at ws 0)))
    else (if length ws.0 == 9 then LargeSum (sum_of (word_at ws 0)) else LargeLift))))))

reason_is : (f : Refusal) → IsShortRefusal f → reason_of (words_of f) ≡ f
unfolding reason_of words_of
reason_is (Unfit (faults.Length n)) h = ap (λ (k : ℕ). Unfit (faults.Length k)) (number_is n h)
reason_is (Unfit (faults.Large i)) h = ap (λ (k : ℕ). Unfit (faults.Large k)) (number_is i h)
reason_is (Unfit (faults.NotSolution i)) h = ap (λ (k : ℕ). Unfit (faults.NotSolution k)) (number_is i h)
reason_is (Unfit (faults.Clash a b)) h = ap₂ (λ (k l : ℕ). Unfit (faults.Clash k l)) (number_is a h.0) (number_is b h.1)
reason_is (LargeSum sum) h = ap (λ (s : SurfaceSum). LargeSum s) (sum_is sum)
reason_is (TooManyPieces n) h = ap (λ (k : ℕ). TooManyPieces k) (number_is n h)
reason_is LargeLift h = refl
reason_is (NoLift c) h = ap (λ (k : ℕ). NoLift k) (number_is c h)

-- ---- lines

parts : (n : ℕ) (text : List ℕ) → ((codes "refused: vector " ++ decimal n) ++ codes " ") ++ text ≡ codes "refused: vector " ++ (decimal n ++ 32 ∷ text)
parts n text = simp append_assoc

-- the number of the vector, and the text of the reason
pub split_refusal : (v w : ℕ) (f g : Refusal) → refusal_line v f ≡ refusal_line w g → AreSplit (decimal v) (decimal w) 32 32 (fault_text f) (fault_text g)
unfolding refusal_line
split_refusal v w f g e =
    split_word (decimal v) (decimal w) 32 32 (fault_text f) (fault_text g) (number_is_plain v) (number_is_plain w) refl refl
    (append_cancel_left (codes "refused: vector ") _ _ (sym (parts v (fault_text f)) ∙ e ∙ parts w (fault_text g)))

pub refusals_told : RefusalTextsDetermine
refusals_told v w f g p q h k e =
    let s : AreSplit (decimal v) (decimal w) 32 32 (fault_text f) (fault_text g) = split_refusal v w f g e in
    let same : (words_of f ≡ words_of g) × (◌≡◌ {A = List ℕ} [] []) =
    split_words (words_of f) (words_of g) [] [] (words_are_plain f) (words_are_plain g) (ap (λ (t : List ℕ). t ++ []) (sym (text_is f) ∙ s.rests ∙ text_is g)) in
    (same_number v w p q s.words, sym (reason_is f h) ∙ ap reason_of same.0 ∙ reason_is g k)

edge_parts : (c : ℕ) → (codes "refused: invalid-edge " ++ decimal c) ++ 10 ∷ [] ≡ codes "refused: invalid-edge " ++ (decimal c ++ 10 ∷ [])
edge_parts c = simp append_assoc

pub invalid_edges_told : InvalidEdgeTextsDetermine
unfolding invalid_edge_line
invalid_edges_told b c p q e =
    let s : AreSplit (decimal b) (decimal c) 10 10 [] [] =
    split_word (decimal b) (decimal c) 10 10 [] [] (number_is_plain b) (number_is_plain c) refl refl
    (append_cancel_left (codes "refused: invalid-edge ") _ _ (sym (edge_parts b) ∙ e ∙ edge_parts c)) in
    same_number b c p q s.words
