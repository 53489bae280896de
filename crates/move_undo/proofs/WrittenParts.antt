-- The text of a written move is its parts, one after another.
use Rattle.std.proofs.Common.{◌≡◌, ℕ, zero, suc, ◌<◌, ◌≤◌, List, [], ◌∷◌, ◌++◌, length, sym, ap, ◌∙◌, subst, arith, append_assoc}
use Rattle.std.specs.Prelude.{not, filter, ◌==◌, if◌then◌else◌, decimal, nat_lt}
use Rattle.std.proofs.lemmas.Bool.{and_parts}
use Rattle.table_definitions.specs.Lists.{has, same_list}
use Rattle.table_definitions.specs.Permutation.{four, digits_of}
use Rattle.table_definitions.proofs.ListFacts.{same_list-true}
use Rattle.text_definitions.specs.Written.{spaced}
use Rattle.move_definitions.specs.Moves.{Move, IsCore}
use Rattle.move_definitions.specs.MoveText.{core_words, move_text}
use Rattle.move_undo.specs.Written.{is_chosen, head_text, core_tail}

-- a core is the list of those of the four vertices that it contains
core_again : (core : List ℕ) → IsCore core → filter (has core) four ≡ core
core_again core h = same_list-true (filter (has core) four) core (and_parts (nat_lt 0 (length core)) (same_list (filter (has core) four) core) h).1

abbrev tail_by : ℕ → List ℕ → List ℕ
tail_by n core = if n == 4 then [] else (32 ∷ digits_of (filter (is_chosen core (not (n == 3))) four))

-- what comes after the kind of a move, in one piece
together : (tet : ℕ) (tail : List ℕ) → decimal tet ++ (tail ++ 10 ∷ []) ≡ (decimal tet ++ tail) ++ 10 ∷ []
together tet tail = sym (append_assoc (decimal tet) tail (10 ∷ []))

parts_by : (n tet : ℕ) (core : List ℕ) → filter (has core) four ≡ core → 0 < n → n ≤ 4
    → spaced ((core_words n core).0 ∷ decimal tet ∷ (core_words n core).1) ≡ (head_text n tet ++ tail_by n core) ++ 10 ∷ []
unfolding head_text
parts_by zero tet core e some most = absurd (omega arith)
parts_by (suc zero) tet core e some most =
    ap (λ (vs : List ℕ). 52 ∷ 49 ∷ 32 ∷ (decimal tet ++ (32 ∷ (digits_of vs ++ 10 ∷ [])))) (sym e)
    ∙ ap (λ (xs : List ℕ). 52 ∷ 49 ∷ 32 ∷ xs) (together tet (32 ∷ digits_of (filter (has core) four)))
parts_by (suc (suc zero)) tet core e some most =
    ap (λ (vs : List ℕ). 51 ∷ 50 ∷ 32 ∷ (decimal tet ++ (32 ∷ (digits_of vs ++ 10 ∷ [])))) (sym e)
    ∙ ap (λ (xs : List ℕ). 51 ∷ 50 ∷ 32 ∷ xs) (together tet (32 ∷ digits_of (filter (has core) four)))
parts_by (suc (suc (suc zero))) tet core e some most = ap (λ (xs : List ℕ). 50 ∷ 51 ∷ 32 ∷ xs) (together tet (32 ∷ digits_of (filter (λ v. not (has core v)) four)))
parts_by (suc (suc (suc (suc zero)))) tet core e some most = ap (λ (xs : List ℕ). 49 ∷ 52 ∷ 32 ∷ xs) (together tet [])
parts_by (suc (suc (suc (suc (suc n))))) tet core e some most = absurd (omega arith)

pub move_parts : (m : Move) → IsCore m.core → 0 < length m.core → length m.core ≤ 4 → move_text m ≡ (head_text (length m.core) m.tet ++ core_tail m.core) ++ 10 ∷ []
unfolding move_text core_tail
move_parts m h some most = parts_by (length m.core) m.tet m.core (core_again m.core h) some most

-- a text to which the parts were appended one after another
pub put_together : (m : Move) (size : ℕ) (core empty head tail whole : List ℕ) (tet : ℕ) → tet ≡ m.tet → core ≡ m.core → size ≡ length core → 0 < size → size ≤ 4 → IsCore core
    → empty ≡ [] → head ≡ empty ++ head_text size tet → tail ≡ head ++ core_tail core → whole ≡ tail ++ 10 ∷ [] → whole ≡ move_text m
put_together m size core empty head tail whole tet t c s some most ascends e h l w =
    let sized : size ≡ length m.core = s ∙ ap (λ (vs : List ℕ). length vs) c in
    let lower : 0 < length m.core = subst (λ k. 0 < k) sized some in
    let upper : length m.core ≤ 4 = subst (λ k. k ≤ 4) sized most in
    let heads : head ≡ head_text (length m.core) m.tet = h ∙ ap (λ (xs : List ℕ). xs ++ head_text size tet) e ∙ ap (λ k. head_text k tet) sized ∙ ap (λ k. head_text (length m.core) k) t in
    let tails : tail ≡ head_text (length m.core) m.tet ++ core_tail m.core = l ∙ ap (λ (xs : List ℕ). xs ++ core_tail core) heads ∙ ap (λ (vs : List ℕ). head_text (length m.core) m.tet ++ core_tail vs) c in
    w ∙ ap (λ (xs : List ℕ). xs ++ 10 ∷ []) tails ∙ sym (move_parts m (subst IsCore c ascends) lower upper)
