-- Comparisons by the characters of types.
use Rattle.std.proofs.Common.{◌≡◌, ℕ, ◌+◌, ◌-◌, ◌*◌, ◌/◌, ◌%◌, ◌<◌, ◌≤◌, Bool, true, false, List, [], ◌∷◌, ◌++◌, length, take, map, Option, Some, None, refl, sym, ap, ◌∙◌, subst, arith, append_assoc}
use Rattle.std.specs.Prelude.{◌==◌, ◌||◌, not, slice_get, IfSome, if◌then◌else◌}
use Rattle.std.proofs.lemmas.Bool.{eqb-true, or_parts, not-false}
use Rattle.std.proofs.lemmas.List.{length-append, length-map, map-append}
use Rattle.basic_lemmas.proofs.Truths.{if_false}
use Rattle.basic_lemmas.proofs.Numbers.{positive}
use Rattle.table_definitions.specs.Lists.{is_list_before}
use Rattle.table_definitions.specs.Table.{Row}
use Rattle.table_definitions.specs.Relabelling.{Relabelling}
use Rattle.signature_definitions.specs.Spelling.{character, head_values, packed, Spells}
use Rattle.signature_definitions.specs.Labellings.{Start, IsWalked}
use Rattle.canonical_labelling.specs.Comparisons.{reported, compare_by, compare_full_character, compare_last_character, type_character, head_text, IsFirstDifference, IsDecided}
use Rattle.canonical_labelling.proofs.Telling.{told_here, told_is, differs_by, differs_behind}
use Rattle.canonical_labelling.proofs.Packing.{value_at, packed_last, packed_short}

-- the text up to the characters of these types
abbrev pub begun_text : ℕ → List ℕ → List ℕ
begun_text n types = head_text n ++ map character (packed types)

-- the characters of three types each agree with the bound
abbrev pub Agrees : ℕ → List ℕ → List ℕ → Type 0
Agrees n bound types = (m : ℕ) → 3 * m ≤ length types → reported (begun_text n (take (3 * m) types)) bound ≡ None

pub long_begun : (n m : ℕ) (types : List ℕ) → 3 * m ≤ length types → length (head_text n) + m ≡ length (begun_text n (take (3 * m) types))
long_begun n m types l =
    let a = length-append (head_text n) (map character (packed (take (3 * m) types))) in
    let b = length-map (packed (take (3 * m) types)) character in
    let c = packed_short m types l in
    omega (arith, a, b, c)

-- the characters of up to three more types add one character
pub begun_next : (n m : ℕ) (types : List ℕ) → 3 * m < length types → length types ≤ 3 * m + 3 → begun_text n types ≡ begun_text n (take (3 * m) types) ++ type_character types (3 * m) ∷ []
begun_next n m types l h =
    ap (λ vs. head_text n ++ map character vs) (packed_last m types l h)
    ∙ ap (λ cs. head_text n ++ cs) (map-append character (packed (take (3 * m) types)) (value_at types (3 * m) ∷ []))
    ∙ sym (append_assoc (head_text n) (map character (packed (take (3 * m) types))) (type_character types (3 * m) ∷ []))

-- the last character of the types, at index m, decides as b says, and those before it agree with the bound
record Tells (n m : ℕ) (types bound : List ℕ) (b : Bool) : Type 0 where
  low : 3 * m < length types
  high : length types ≤ 3 * m + 3
  agreed : reported (begun_text n (take (3 * m) types)) bound ≡ None
  told_now : compare_by (slice_get bound (length (head_text n) + m)) (type_character types (3 * m)) ≡ Some b

told_whole : (n m : ℕ) (types bound : List ℕ) (b : Bool) → Tells n m types bound b → reported (begun_text n types) bound ≡ Some b
told_whole n m types bound b h =
    let low = h.low in
    ap (λ t. reported t bound) (begun_next n m types h.low h.high)
    ∙ told_here (begun_text n (take (3 * m) types)) (type_character types (3 * m)) [] bound b (length (head_text n) + m) (long_begun n m types (omega (arith, low))) h.agreed h.told_now

differs_at : (n m i : ℕ) (types bound rest : List ℕ) (b : Bool) → Tells n m types bound b → IsFirstDifference (begun_text n types ++ rest) bound i → i ≡ length (head_text n) + m
differs_at n m i types bound rest b h d =
    let low = h.low in
    let c : ℕ = type_character types (3 * m) in
    let pre : List ℕ = begun_text n (take (3 * m) types) in
    let long = long_begun n m types (omega (arith, low)) in
    let next : begun_text n types ≡ pre ++ c ∷ [] = begun_next n m types h.low h.high in
    let size : length (begun_text n types) ≡ length pre + 1 = ap (λ (t : List ℕ). length t) next ∙ length-append pre (c ∷ []) in
    let early : i < length (begun_text n types) = differs_by (begun_text n types) rest bound b i (told_whole n m types bound b h) d in
    let same : begun_text n types ++ rest ≡ pre ++ c ∷ rest = ap (λ t. t ++ rest) next ∙ append_assoc pre (c ∷ []) rest in
    let late : length pre ≤ i = differs_behind pre (c ∷ rest) bound i h.agreed (subst (λ t. IsFirstDifference t bound i) same d) in
    omega (arith, long, size, early, late)

-- the text of each traversal from the start begins with these types
abbrev pub BeginsWith : List Row → Start → List ℕ → Type 0
BeginsWith rows start types = (by : Relabelling) (new : List Row) (text : List ℕ) → IsWalked rows start by new → Spells text new → (rest : List ℕ) × (text ≡ begun_text (length rows) types ++ rest)

told_of : (rows : List Row) (start : Start) (m reads : ℕ) (types bound : List ℕ) (b : Bool) → Tells (length rows) m types bound b → reads ≤ length types → BeginsWith rows start types → IsDecided rows start bound reads b
told_of rows start m reads types bound b h limited begins = record {
  value = λ by new text w s.
      let r = begins by new text w s in
      sym (ap (λ t. is_list_before t bound) r.1 ∙ told_is (begun_text (length rows) types) r.0 bound b (told_whole (length rows) m types bound b h));
  limited = λ e by new text i w s d l.
      let r = begins by new text w s in
      let at : i ≡ length (head_text (length rows)) + m = differs_at (length rows) m i types bound r.0 b h (subst (λ t. IsFirstDifference t bound i) r.1 d) in
      let long = length-map (head_values (length rows)) character in
      let same : length (head_values (length new)) ≡ length (head_values (length rows)) = ap (λ n. length (head_values n)) w.relabels.1.same_length in
      let high = h.high in
      omega (arith, at, long, same, high, limited);
}

-- if the last three types decide
cond_some : {A : Type 0} (c : Bool) (x : A) (o p : Option A) → (if c then None else o) ≡ Some x → c ≡ false
cond_some true x o p e = absurd cc
cond_some false x o p e = refl

-- for each whole character of types, the characters before it agree with the bound
abbrev pub AgreesShort : ℕ → List ℕ → List ℕ → Type 0
AgreesShort n bound types = (m : ℕ) → 3 * m + 3 ≤ length types → reported (begun_text n (take (3 * m) types)) bound ≡ None

three_tells : (n head : ℕ) (types bound : List ℕ) (b : Bool) → head ≡ length (head_text n) → AgreesShort n bound types → compare_full_character types bound head ≡ Some b → (m : ℕ) × Tells n m types bound b × (length types ≡ 3 * (m + 1))
three_tells n head types bound b long agrees e =
    let c : Bool = (length types == 0) || not (length types % 3 == 0) in
    let o : Option Bool = compare_by (slice_get bound (head + (length types - 3) / 3)) (type_character types (length types - 3)) in
    let off : c ≡ false = cond_some c b o o e in
    let parts = or_parts (length types == 0) (not (length types % 3 == 0)) off in
    let some : 0 < length types = positive (length types) parts.0 in
    let whole : length types % 3 ≡ 0 = eqb-true (length types % 3) 0 (not-false (length types % 3 == 0) parts.1) in
    let m : ℕ = (length types - 3) / 3 in
    let place : length types - 3 ≡ 3 * ((length types - 3) / 3) = omega arith in
    let now : o ≡ Some b = sym (if_false c None o off) ∙ e in (
      m,
      record {
        low = omega arith;
        high = omega arith;
        agreed = agrees m (omega arith);
        told_now = ap (λ j. compare_by (slice_get bound (j + (length types - 3) / 3)) (type_character types (3 * ((length types - 3) / 3)))) (sym long)
            ∙ ap (λ j. compare_by (slice_get bound (head + (length types - 3) / 3)) (type_character types j)) (sym place) ∙ now;
      },
      omega arith,
    )

rest_tells : (n head : ℕ) (types bound : List ℕ) (b : Bool) → head ≡ length (head_text n) → Agrees n bound types → compare_last_character types bound head ≡ Some b → (m : ℕ) × Tells n m types bound b
rest_tells n head types bound b long agrees e =
    let o : Option Bool = compare_by (slice_get bound (head + (length types - length types % 3) / 3)) (type_character types (length types - length types % 3)) in
    let off : (length types % 3 == 0) ≡ false = cond_some (length types % 3 == 0) b o o e in
    let some : 0 < length types % 3 = positive (length types % 3) off in
    let m : ℕ = (length types - length types % 3) / 3 in
    let place : length types - length types % 3 ≡ 3 * ((length types - length types % 3) / 3) = omega arith in
    let now : o ≡ Some b = sym (if_false (length types % 3 == 0) None o off) ∙ e in (
      m,
      record {
        low = omega arith;
        high = omega arith;
        agreed = agrees m (omega arith);
        told_now = ap (λ j. compare_by (slice_get bound (j + (length types - length types % 3) / 3)) (type_character types (3 * ((length types - length types % 3) / 3)))) (sym long)
            ∙ ap (λ j. compare_by (slice_get bound (head + (length types - length types % 3) / 3)) (type_character types j)) (sym place) ∙ now;
      },
    )

pub told_by_three_is : (rows : List Row) (start : Start) (head reads : ℕ) (types bound : List ℕ) (o : Option Bool) → head ≡ length (head_text (length rows)) → AgreesShort (length rows) bound types → o ≡ compare_full_character types bound head
    → reads ≤ length types → ((m : ℕ) → length types ≡ 3 * m → BeginsWith rows start types) → IfSome o (IsDecided rows start bound reads)
told_by_three_is rows start head reads types bound None long agrees e limited begins = tt
told_by_three_is rows start head reads types bound (Some b) long agrees e limited begins =
    let t = three_tells (length rows) head types bound b long agrees (sym e) in told_of rows start t.0 reads types bound b t.1 limited (begins (t.0 + 1) t.2)

pub told_by_rest_is : (rows : List Row) (start : Start) (head reads : ℕ) (types bound : List ℕ) (o : Option Bool) → head ≡ length (head_text (length rows)) → Agrees (length rows) bound types → o ≡ compare_last_character types bound head
    → reads ≤ length types → BeginsWith rows start types → IfSome o (IsDecided rows start bound reads)
told_by_rest_is rows start head reads types bound None long agrees e limited begins = tt
told_by_rest_is rows start head reads types bound (Some b) long agrees e limited begins =
    let t = rest_tells (length rows) head types bound b long agrees (sym e) in told_of rows start t.0 reads types bound b t.1 limited begins
