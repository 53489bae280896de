-- The text of a list determines the list.
use Rattle.std.proofs.Common.{◌≡◌, ℕ, ◌^◌, ◌<◌, ◌≤◌, List, [], ◌∷◌, ◌++◌, map, length, refl, sym, ap₂, ◌∙◌, arith, append_assoc}
use Rattle.std.specs.Prelude.{codes, decimal}
use Rattle.std.specs.List.{All, AllByRecursion}
use Rattle.std.proofs.lemmas.List.{append_cancel_left}
use Rattle.std.proofs.lemmas.List.Elements.{recursion_from_All}
use Rattle.text_definitions.specs.Written.{limit, line}
use Rattle.cone_text_definitions.specs.VectorText.{vector_text, list_text}
use Rattle.outcome_definitions.specs.Enumerations.{AreUpTo}
use Rattle.outcome_text_laws.specs.Lists.{ListTextsDetermine}
use Rattle.outcome_text_laws.proofs.SplitWords.{IsPlain, AreSplit, split_word, AreLinesSplit, split_line, same_number, number_is_plain, never_empty}

-- numbers of at most 64 digits
abbrev pub AreShort : List ℕ → Type 0
AreShort x = AllByRecursion (λ entry. entry < 10 ^ 64) x

pub entries_are_plain : (x : List ℕ) → AllByRecursion IsPlain (map decimal x)
entries_are_plain [] = tt
entries_are_plain (entry ∷ x) = (number_is_plain entry, entries_are_plain x)

pub same_entries : (x y : List ℕ) → AreShort x → AreShort y → map decimal x ≡ map decimal y → x ≡ y
same_entries [] [] h k e = refl
same_entries [] (b ∷ y) h k e = absurd cc
same_entries (a ∷ x) [] h k e = absurd cc
same_entries (a ∷ x) (b ∷ y) h k e =
    let first : decimal a ≡ decimal b = cc in
    let others : map decimal x ≡ map decimal y = cc in
    ap₂ (λ (z : ℕ) (zs : List ℕ). z ∷ zs) (same_number a b h.0 k.0 first) (same_entries x y h.1 k.1 others)

-- a vector's text and what is after it
pub split_vector : (x y : List ℕ) (r s : List ℕ) → AreShort x → AreShort y → vector_text x ++ r ≡ vector_text y ++ s → (x ≡ y) × (r ≡ s)
split_vector x y r s h k same =
    let p : AreLinesSplit (codes "vec" ∷ map decimal x) (codes "vec" ∷ map decimal y) r s =
    split_line (codes "vec") (map decimal x) (codes "vec") (map decimal y) r s refl (entries_are_plain x) refl (entries_are_plain y) same in
    let entries : map decimal x ≡ map decimal y = (let e : codes "vec" ∷ map decimal x ≡ codes "vec" ∷ map decimal y = p.0 in cc) in
    (same_entries x y h k entries, p.1)

split_list : (list others : List (List ℕ)) → AllByRecursion AreShort list → AllByRecursion AreShort others → list_text list ≡ list_text others → list ≡ others
split_list [] [] h k e = refl
split_list [] (y ∷ others) h k e = absurd (never_empty 118 (101 ∷ 99 ∷ []) (map decimal y) (list_text others) e)
split_list (x ∷ list) [] h k e = absurd (never_empty 118 (101 ∷ 99 ∷ []) (map decimal x) (list_text list) (sym e))
split_list (x ∷ list) (y ∷ others) h k e =
    let p : (x ≡ y) × (list_text list ≡ list_text others) = split_vector x y (list_text list) (list_text others) h.0 k.0 e in
    ap₂ (λ (z : List ℕ) (zs : List (List ℕ)). z ∷ zs) p.0 (split_list list others h.1 k.1 p.1)

-- the first line, and what is after it
first_line : (name list : List ℕ) (n : ℕ) → line (codes "# " ++ name ++ codes " " ++ decimal n) ++ list ≡ (codes "# " ++ name ++ codes " ") ++ (decimal n ++ 10 ∷ list)
first_line name list n = simp append_assoc

short_entries : (x : List ℕ) → AllByRecursion (λ entry. entry ≤ limit) x → AreShort x
short_entries [] h = tt
short_entries (entry ∷ x) h = ((let l : entry ≤ limit = h.0 in omega arith), short_entries x h.1)

short_vectors : (list : List (List ℕ)) → AllByRecursion (λ (x : List ℕ). All (λ entry. entry ≤ limit) x) list → AllByRecursion AreShort list
short_vectors [] h = tt
short_vectors (x ∷ list) h = (short_entries x (recursion_from_All (λ entry. entry ≤ limit) x h.0), short_vectors list h.1)

pub within_limit : (list : List (List ℕ)) → AreUpTo limit list → AllByRecursion AreShort list
within_limit list h = short_vectors list (recursion_from_All (λ (x : List ℕ). All (λ entry. entry ≤ limit) x) list h)

pub lists_told : ListTextsDetermine
lists_told name list others h k e =
    let behind : decimal (length list) ++ 10 ∷ list_text list ≡ decimal (length others) ++ 10 ∷ list_text others =
    append_cancel_left (codes "# " ++ name ++ codes " ") _ _ (sym (first_line name (list_text list) (length list)) ∙ e ∙ first_line name (list_text others) (length others)) in
    let p : AreSplit (decimal (length list)) (decimal (length others)) 10 10 (list_text list) (list_text others) =
    split_word (decimal (length list)) (decimal (length others)) 10 10 (list_text list) (list_text others) (number_is_plain (length list)) (number_is_plain (length others)) refl refl behind in
    split_list list others (within_limit list h) (within_limit others k) p.rests
