-- The entry of a face: a gluing is read from a word if and only if it is spelled by it.
use Rattle.std.proofs.Common.{◌≡◌, ℕ, ◌+◌, ◌-◌, ◌^◌, ◌<◌, ◌≤◌, Bool, true, false, List, [], ◌∷◌, ◌++◌, length, get_or, take, drop, map, Option, Some, None, ◌⊎◌, inl, inr, refl, sym, ap, ◌∙◌, subst, arith, append_assoc}
use Rattle.std.specs.Prelude.{nat_lt, nat_le, ◌==◌, ◌&&◌, not, if◌then◌else◌}
use Rattle.std.specs.List.{before_first, after_first, position_or_len, list_all}
use Rattle.std.specs.Char.{is_ascii_digit}
use Rattle.std.proofs.Math.Seq.{take-append_seam, drop-append_seam, get_or-append_seam}
use Rattle.std.proofs.Math.ListN.{drop_of_length-le, get_or-append, length-append}
use Rattle.std.proofs.lemmas.Bool.{eqb-true, ne_eqb, ltb-true, leb-true, and_parts, not-false, cases_lt}
use Rattle.std.proofs.lemmas.List.Sums.{split_at_first, position_or_len_is, prefix_len_stops, AllPass-from_list_all}
use Rattle.table_definitions.specs.Lists.{same_list}
use Rattle.table_definitions.specs.Permutation.{is_permutation, digits_of, words, IsPermutationOfFour}
use Rattle.table_definitions.specs.Table.{Gluing}
use Rattle.text_definitions.specs.Text.{decimal_value, is_decimal, digits_value}
use Rattle.table_definitions.specs.TableText.{permutation_of, gluing_parts, gluing_of}
use Rattle.table_definitions.specs.Grammar.{IsDecimalUpTo, IsGluingWord}
use Rattle.table_definitions.proofs.Permutations.{by_words, permutation_of-digits}
use Rattle.table_definitions.proofs.ListFacts.{same_list-true}

-- the byte `:`
abbrev is_colon : ℕ → Bool
is_colon b = b == 58

guard_some : {A : Type 0} (b : Bool) (x y : A) → (if b then Some x else None) ≡ Some y → (b ≡ true) × (x ≡ y)
guard_some true x y e = (refl, cc)
guard_some false x y e = absurd cc

-- the digits of the permutation that a word spells are the word
permutation_of-some : (w p : List ℕ) → permutation_of w ≡ Some p → (digits_of p ≡ w) × IsPermutationOfFour p
unfolding permutation_of
permutation_of-some w p e =
    let q : List ℕ = map (λ d. d - 48) w in
    let parts : ((same_list (digits_of q) w && is_permutation q) ≡ true) × (q ≡ p) = guard_some (same_list (digits_of q) w && is_permutation q) q p e in
    let tests : (same_list (digits_of q) w ≡ true) × (is_permutation q ≡ true) = and_parts (same_list (digits_of q) w) (is_permutation q) parts.0 in
    (ap digits_of (sym parts.1) ∙ same_list-true (digits_of q) w tests.0, subst (λ (r : List ℕ). IsPermutationOfFour r) parts.1 tests.1)

-- a permutation has digits
digits_some : (p : List ℕ) → IsPermutationOfFour p → 0 < length (digits_of p)
digits_some p h = ltb-true 0 (length (digits_of p)) (by_words (λ q. nat_lt 0 (length (digits_of q))) tests p h)
  where
    tests : list_all (λ q. nat_lt 0 (length (digits_of q))) words ≡ true
    tests = refl

-- a gluing has both of its parts
parts_some : (t : Option ℕ) (p : Option (List ℕ)) (g : Gluing) → gluing_parts t p ≡ Some g → (t ≡ Some g.tet) × (p ≡ Some g.perm)
parts_some None p g e = absurd cc
parts_some (Some t) None g e = absurd cc
parts_some (Some t) (Some p) g e =
    let h : Gluing = record { tet = t; perm = p } in
    let same : h ≡ g = cc in
    ((λ i. Some (same i).tet), (λ i. Some (same i).perm))

-- a word with text after its first colon is the part before the colon, the colon, and the part after it
at_colon : (w : List ℕ) → 0 < length (after_first is_colon w) → w ≡ before_first is_colon w ++ (58 ∷ after_first is_colon w)
at_colon w some =
    let there : position_or_len is_colon w < length w = inside (cases_lt (position_or_len is_colon w) (length w)) in
    let stops : not (get_or w (position_or_len is_colon w) 0 == 58) ≡ false = prefix_len_stops (λ b. not (b == 58)) w 0 there in
    let is_58 : get_or w (position_or_len is_colon w) 0 ≡ 58 = eqb-true (get_or w (position_or_len is_colon w) 0) 58 (not-false (get_or w (position_or_len is_colon w) 0 == 58) stops) in
    split_at_first is_colon w 0 there ∙ ap (λ k. before_first is_colon w ++ (k ∷ after_first is_colon w)) is_58
  where
    inside : (position_or_len is_colon w < length w) ⊎ (length w ≤ position_or_len is_colon w) → position_or_len is_colon w < length w
    inside (inl l) = l
    inside (inr out) =
        let exceeded : length w ≤ position_or_len is_colon w + 1 = omega arith in
        let none : after_first is_colon w ≡ [] = drop_of_length-le w exceeded in
        let no_length : length (after_first is_colon w) ≡ 0 = ap (λ (xs : List ℕ). length xs) none in
        absurd (omega arith)

pub gluing_of-some : (w : List ℕ) (g : Gluing) → gluing_of w ≡ Some g → g.tet < 2 ^ 32 → IsGluingWord w g
gluing_of-some w g e small =
    let parts : (decimal_value (before_first is_colon w) ≡ Some g.tet) × (permutation_of (after_first is_colon w) ≡ Some g.perm) =
    parts_some (decimal_value (before_first is_colon w)) (permutation_of (after_first is_colon w)) g e in
    let perm : (digits_of g.perm ≡ after_first is_colon w) × IsPermutationOfFour g.perm = permutation_of-some (after_first is_colon w) g.perm parts.1 in
    let lengths : length (digits_of g.perm) ≡ length (after_first is_colon w) = ap (λ (xs : List ℕ). length xs) perm.0 in
    let digits : 0 < length (digits_of g.perm) = digits_some g.perm perm.1 in
    let some : 0 < length (after_first is_colon w) = omega arith in
    record {
      tet = before_first is_colon w;
      number = record { value = parts.0; up_to = omega arith };
      permutes = perm.1;
      spelled = at_colon w some ∙ sym (append_assoc (before_first is_colon w) (58 ∷ []) (after_first is_colon w)) ∙ ap (λ (xs : List ℕ). (before_first is_colon w ++ 58 ∷ []) ++ xs) (sym perm.0);
    }

-- the first colon of a word that begins with digits comes after them
decimal_digits : (t : List ℕ) (n : ℕ) → decimal_value t ≡ Some n → list_all is_ascii_digit t ≡ true
decimal_digits t n e = (and_parts (nat_lt 0 (length t)) (list_all is_ascii_digit t) (guard_some (is_decimal t) (digits_value t) n e).0).1

digit_is_no_colon : (d : ℕ) → is_ascii_digit d ≡ true → is_colon d ≡ false
digit_is_no_colon d e =
    let parts : (nat_le 48 d ≡ true) × (nat_le d 57 ≡ true) = and_parts (nat_le 48 d) (nat_le d 57) e in
    let low : d ≤ 57 = leb-true d 57 parts.1 in
    ne_eqb d 58 (λ s. omega arith)

colon_behind : (t ds : List ℕ) → list_all is_ascii_digit t ≡ true → position_or_len is_colon (t ++ (58 ∷ ds)) ≡ length t
colon_behind t ds all =
    position_or_len_is is_colon (t ++ (58 ∷ ds)) (length t) 0 (omega (arith, length-append t (58 ∷ ds)))
    (λ k h. ap is_colon (get_or-append t (58 ∷ ds) 0 k h) ∙ digit_is_no_colon (get_or t k 0) (AllPass-from_list_all is_ascii_digit t all k 0 h))
    (λ h. ap is_colon (get_or-append_seam t 58 ds 0))

before_is : (t ds : List ℕ) → list_all is_ascii_digit t ≡ true → before_first is_colon (t ++ (58 ∷ ds)) ≡ t
before_is t ds all = ap (λ k. take k (t ++ (58 ∷ ds))) (colon_behind t ds all) ∙ take-append_seam t (58 ∷ ds)

after_is : (t ds : List ℕ) → list_all is_ascii_digit t ≡ true → after_first is_colon (t ++ (58 ∷ ds)) ≡ ds
after_is t ds all =
    let lengths : length t + 1 ≡ length (t ++ 58 ∷ []) = omega (arith, length-append t (58 ∷ [])) in
    ap (λ k. drop (k + 1) (t ++ (58 ∷ ds))) (colon_behind t ds all) ∙ ap (λ k. drop k (t ++ (58 ∷ ds))) lengths
    ∙ ap (λ (xs : List ℕ). drop (length (t ++ 58 ∷ [])) xs) (sym (append_assoc t (58 ∷ []) ds)) ∙ drop-append_seam (t ++ 58 ∷ []) ds

gluing_with : (t : List ℕ) (g : Gluing) → IsDecimalUpTo (2 ^ 32 - 1) t g.tet → IsPermutationOfFour g.perm → gluing_of (t ++ (58 ∷ digits_of g.perm)) ≡ Some g
gluing_with t g n h =
    let all : list_all is_ascii_digit t ≡ true = decimal_digits t g.tet n.value in
    let tets : decimal_value (before_first is_colon (t ++ (58 ∷ digits_of g.perm))) ≡ Some g.tet = ap decimal_value (before_is t (digits_of g.perm) all) ∙ n.value in
    let perms : permutation_of (after_first is_colon (t ++ (58 ∷ digits_of g.perm))) ≡ Some g.perm = ap permutation_of (after_is t (digits_of g.perm) all) ∙ permutation_of-digits g.perm h in
    λ i. gluing_parts (tets i) (perms i)

pub gluing_of-word : (w : List ℕ) (g : Gluing) → IsGluingWord w g → (gluing_of w ≡ Some g) × (g.tet < 2 ^ 32)
gluing_of-word w g r =
    let up : g.tet ≤ 2 ^ 32 - 1 = r.number.up_to in
    (ap gluing_of (r.spelled ∙ append_assoc r.tet (58 ∷ []) (digits_of g.perm)) ∙ gluing_with r.tet g r.number r.permutes, omega arith)
