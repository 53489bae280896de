-- The types that are read are spelled in the text, three to a character, and count the faces.
use Rattle.std.proofs.Common.{◌≡◌, ℕ, zero, suc, ◌+◌, ◌-◌, ◌*◌, ◌/◌, ◌%◌, ◌<◌, ◌≤◌, Bool, true, false, List, [], ◌∷◌, ◌++◌, length, map, refl, sym, ap, ◌∙◌, subst, arith, ◌⊎◌, inl, inr, ⊎_elim, append_assoc}
use Rattle.std.specs.Prelude.{Ok, All, nat_le, nat_lt, not, sum_by, ◌||◌, ◌&&◌, ◌==◌, if◌then◌else◌}
use Rattle.std.proofs.lemmas.Bool.{eqb-true, eq-eqb, or_parts, not-false}
use Rattle.std.proofs.lemmas.List.{length-append}
use Rattle.std.proofs.lemmas.List.Sums.{sum_by-append}
use Rattle.basic_lemmas.proofs.Numbers.{positive}
use borrow.Author.Tests.{ltb-false}
use Rattle.text_definitions.specs.Reading.{◌>>=◌}
use Rattle.text_definitions.proofs.Readers.{bind_ok}
use Rattle.signature_definitions.specs.declared.SigFault.TheVariants as sig_faults
use Rattle.signature_definitions.specs.Spelling.{in_values, packed, joined}
use Rattle.signature_definitions.specs.SignatureText as signatures
use Rattle.signature_definitions.specs.SignatureText.{Types, value_at, types_from, faces_of_type}
use Rattle.signature_text_laws.proofs.ReadLaws.{behind_character}
use Rattle.signature_text_laws.proofs.SlotLaws.{unless_ok, ok_of, ok_same}
use Rattle.signature_text_laws.proofs.Segments.{Holds, holds_more, holds_value, value_at_below}

-- a type that is read: 0 after the last face, and otherwise it counts its faces
pub record Counts (type : ℕ) (s t : Types) : Type 0 where
  pub read : t.read ≡ s.read ++ type ∷ []
  pub some : 0 < s.left
  pub left : s.left ≡ t.left + faces_of_type type

type_counts : (n at type : ℕ) (s t : Types) → signatures.type_at n at type s ≡ Ok t → ((s.left ≡ 0) × (type ≡ 0) × (s ≡ t)) ⊎ Counts type s t
type_counts n at type s t e = cases (s.left == 0) refl e
  where
    none : (s.left == 0) ≡ true → signatures.unless (not (type == 0)) (sig_faults.Leftover at) (Ok s) ≡ Ok t → ((s.left ≡ 0) × (type ≡ 0) × (s ≡ t)) ⊎ Counts type s t
    none b e =
        let u = unless_ok (not (type == 0)) (sig_faults.Leftover at) (Ok s) t e in
        inl (eqb-true s.left 0 b, eqb-true type 0 (not-false (type == 0) u.0), ok_same s t u.1)

    counted : signatures.is_wrong_type n type s ≡ false → (s.left == 0) ≡ false → signatures.counted type s ≡ t → Counts type s t
    counted right b same =
        let enough : faces_of_type type ≤ s.left = ltb-false s.left (faces_of_type type) (or_parts (type == 3) (nat_lt s.left (faces_of_type type)) (or_parts ((type == 3) || nat_lt s.left (faces_of_type type)) ((type == 1) && nat_le (n - 1) s.ones) right).0).1 in
        let ne : s.left ≡ 0 → ⊥ = λ h. (let f = eq-eqb s.left 0 h in cc) in
        subst (Counts type s) same (record { read = refl; some = omega arith; left = omega arith })

    cases : (b : Bool) → (s.left == 0) ≡ b → (if b then signatures.unless (not (type == 0)) (sig_faults.Leftover at) (Ok s) else signatures.unless (signatures.is_wrong_type n type s) (sig_faults.BadType at) (Ok (signatures.counted type s))) ≡ Ok t
        → ((s.left ≡ 0) × (type ≡ 0) × (s ≡ t)) ⊎ Counts type s t
    cases true b e = none b e
    cases false b e =
        let u = unless_ok (signatures.is_wrong_type n type s) (sig_faults.BadType at) (Ok (signatures.counted type s)) t e in
        inr (counted u.0 b (ok_same (signatures.counted type s) t u.1))

-- whole characters of types
abbrev pub Whole : List ℕ → Type 0
Whole xs = (k : ℕ) × (length xs ≡ 3 * k)

pub packed_on : (k : ℕ) (xs ys : List ℕ) → length xs ≡ 3 * k → packed (xs ++ ys) ≡ packed xs ++ packed ys
packed_on zero [] ys e = refl
packed_on zero (x ∷ xs) ys e = absurd (omega arith)
packed_on (suc k) [] ys e = absurd (omega arith)
packed_on (suc k) (a ∷ []) ys e = absurd (omega arith)
packed_on (suc k) (a ∷ b ∷ []) ys e = absurd (omega arith)
packed_on (suc k) (a ∷ b ∷ c ∷ xs) ys e = ap (λ zs. (a + 4 * b + 16 * c) ∷ zs) (packed_on k xs ys (omega arith))

pub faces_some : (type : ℕ) → 1 ≤ faces_of_type type
faces_some type = cases (type == 0)
  where
    cases : (b : Bool) → 1 ≤ (if b then 1 else 2)
    cases true = omega arith
    cases false = omega arith

-- a character of types that is read
pub record CharacterCounts (v : ℕ) (s t : Types) : Type 0 where
  pub types : List ℕ
  pub read : t.read ≡ s.read ++ types
  pub packs : packed types ≡ v ∷ []
  pub more : 0 < t.left → length types ≡ 3
  pub left : s.left ≡ t.left + sum_by faces_of_type types
  pub less : t.left < s.left

one_counts : (v p : ℕ) (s t : Types) → v ≡ p → Counts p s t → t.left ≡ 0 → CharacterCounts v s t
one_counts v p s t e h none = record {
  types = p ∷ [];
  read = h.read;
  packs = ap (λ n. n ∷ []) (sym e);
  more = λ some. absurd (omega arith);
  left = let l = h.left in omega (arith, l);
  less = let l = h.left in let m = faces_some p in omega (arith, l, m);
}

two_count : (v p q : ℕ) (s s0 t : Types) → v ≡ p + 4 * q → Counts p s s0 → Counts q s0 t → t.left ≡ 0 → CharacterCounts v s t
two_count v p q s s0 t e h k none = record {
  types = p ∷ q ∷ [];
  read = k.read ∙ ap (λ xs. xs ++ q ∷ []) h.read ∙ append_assoc s.read (p ∷ []) (q ∷ []);
  packs = ap (λ n. n ∷ []) (sym e);
  more = λ some. absurd (omega arith);
  left = let l = h.left in let m = k.left in omega (arith, l, m);
  less = let l = h.left in let m = k.left in let a = faces_some p in omega (arith, l, m, a);
}

three_count : (v p q r : ℕ) (s s0 s1 t : Types) → v ≡ p + 4 * q + 16 * r → Counts p s s0 → Counts q s0 s1 → Counts r s1 t → CharacterCounts v s t
three_count v p q r s s0 s1 t e h k l = record {
  types = p ∷ q ∷ r ∷ [];
  read = l.read ∙ ap (λ xs. xs ++ r ∷ []) (k.read ∙ ap (λ xs. xs ++ q ∷ []) h.read) ∙ append_assoc (s.read ++ p ∷ []) (q ∷ []) (r ∷ []) ∙ append_assoc s.read (p ∷ []) (q ∷ r ∷ []);
  packs = ap (λ n. n ∷ []) (sym e);
  more = λ some. refl;
  left = let a = h.left in let b = k.left in let c = l.left in omega (arith, a, b, c);
  less = let a = h.left in let b = k.left in let c = l.left in let d = faces_some p in omega (arith, a, b, c, d);
}

character_counts : (n at v : ℕ) (s t : Types) → 0 < s.left → v < 64 → signatures.character_types n at v s ≡ Ok t → CharacterCounts v s t
character_counts n at v s t some small e =
    let a = bind_ok (signatures.type_at n at (v % 4) s) (λ s0. signatures.type_at n at (v / 4 % 4) s0 >>= (λ s1. signatures.type_at n at (v / 16) s1)) t e in
    let b = bind_ok (signatures.type_at n at (v / 4 % 4) a.0) (λ s1. signatures.type_at n at (v / 16) s1) t a.2 in
    ⊎_elim
    (λ (none : (s.left ≡ 0) × (v % 4 ≡ 0) × (s ≡ a.0)). absurd (let z = none.0 in omega (arith, z)))
    (λ (first : Counts (v % 4) s a.0). ⊎_elim
    (λ (none : (a.0.left ≡ 0) × (v / 4 % 4 ≡ 0) × (a.0 ≡ b.0)). last_one a.0 b.0 first none (type_counts n at (v / 16) b.0 t b.2))
    (λ (second : Counts (v / 4 % 4) a.0 b.0). ⊎_elim
    (λ (none : (b.0.left ≡ 0) × (v / 16 ≡ 0) × (b.0 ≡ t)).
    let z = none.1 in
    let sum : v ≡ v % 4 + 4 * (v / 4 % 4) = omega (arith, z) in
    let P : Types → Type 0 = λ u. CharacterCounts v s u in
    subst P none.2 (two_count v (v % 4) (v / 4 % 4) s a.0 b.0 sum first second none.0))
    (λ (third : Counts (v / 16) b.0 t).
    let sum : v ≡ v % 4 + 4 * (v / 4 % 4) + 16 * (v / 16) = omega arith in
    three_count v (v % 4) (v / 4 % 4) (v / 16) s a.0 b.0 t sum first second third)
    (type_counts n at (v / 16) b.0 t b.2))
    (type_counts n at (v / 4 % 4) a.0 b.0 b.1))
    (type_counts n at (v % 4) s a.0 a.1)
  where
    last_one : (s0 s1 : Types) → Counts (v % 4) s s0 → (s0.left ≡ 0) × (v / 4 % 4 ≡ 0) × (s0 ≡ s1) → ((s1.left ≡ 0) × (v / 16 ≡ 0) × (s1 ≡ t)) ⊎ Counts (v / 16) s1 t → CharacterCounts v s t
    last_one s0 s1 first none (inl l) =
        let z = none.1 in let y = l.1 in
        let sum : v ≡ v % 4 = omega (arith, z, y) in
        let P : Types → Type 0 = λ u. CharacterCounts v s u in
        subst P (none.2 ∙ l.2) (one_counts v (v % 4) s s0 sum first none.0)
    last_one s0 s1 first none (inr k) = absurd (let z = none.0 in let same = ap (λ (u : Types). u.left) none.2 in let y = k.some in omega (arith, z, same, y))

-- the types that were read, up to place `at`
pub record TypesHold (text : List ℕ) (base total at : ℕ) (s : Types) : Type 0 where
  pub holds : Holds text base (packed s.read)
  pub next : at ≡ base + length (packed s.read)
  pub whole : 0 < s.left → Whole s.read
  pub counted : total ≡ s.left + sum_by faces_of_type s.read

character_holds : (text : List ℕ) (base total at v : ℕ) (s t : Types) → 0 < s.left → value_at text at ≡ Ok v → TypesHold text base total at s → CharacterCounts v s t → TypesHold text base total (at + 1) t
character_holds text base total at v s t some read h k = record {
  holds = subst (λ (xs : List ℕ). Holds text base xs) (sym packs) (holds_more text base at (packed s.read) (v ∷ []) h.holds h.next (holds_value text at v read));
  next = let long = ap length packs in let l = length-append (packed s.read) (v ∷ []) in let e = h.next in omega (arith, long, l, e);
  whole = λ more. (w.0 + 1, (let l = ap length k.read in let a = length-append s.read k.types in let m = k.more more in let e = w.1 in omega (arith, l, a, m, e)));
  counted = let c = h.counted in let l = k.left in let r = ap (sum_by faces_of_type) k.read in let a = sum_by-append faces_of_type s.read k.types in omega (arith, c, l, r, a);
}
  where
    w : (k : ℕ) × (length s.read ≡ 3 * k)
    w = h.whole some

    packs : packed t.read ≡ packed s.read ++ v ∷ []
    packs = ap packed k.read ∙ packed_on w.0 s.read k.types w.1 ∙ ap (λ xs. packed s.read ++ xs) k.packs

stops : (text : List ℕ) (base total at next : ℕ) (s t : Types) → TypesHold text base total at s → s.left ≡ 0 → ok_of {A = Types × ℕ} (s, at) ≡ ok_of (t, next) → TypesHold text base total next t × (t.left ≡ 0)
stops text base total at next s t h none e =
    let p = ok_same {A = Types × ℕ} (s, at) (t, next) e in
    let same : s ≡ t = λ i. (p i).0 in
    let there : at ≡ next = λ i. (p i).1 in
    (subst (λ (k : ℕ). TypesHold text base total k t) there (subst (λ (u : Types). TypesHold text base total at u) same h), subst (λ (u : Types). u.left ≡ 0) same none)

pub types_hold : (m : ℕ) (text : List ℕ) (n at : ℕ) (s t : Types) (next base total : ℕ) → TypesHold text base total at s → s.left ≤ m → types_from m text n at s ≡ Ok (t, next)
    → TypesHold text base total next t × (t.left ≡ 0)
unfolding types_from
types_hold zero text n at s t next base total h l e = stops text base total at next s t h (omega arith) e
types_hold (suc m) text n at s t next base total h l e = cases (s.left == 0) refl e
    (λ some e. let a = bind_ok (value_at text at) (behind_character text n at m s) (t, next) e in
    let b = bind_ok (signatures.character_types n at a.0 s) (λ u. types_from m text n (at + 1) u) (t, next) a.2 in
    let k = character_counts n at a.0 s b.0 some (value_at_below text at a.0 a.1) b.1 in
    let less = k.less in
    types_hold m text n (at + 1) b.0 t next base total (character_holds text base total at a.0 s b.0 some a.1 h k) (omega (arith, less)) b.2)
  where
    cases : (b : Bool) → (s.left == 0) ≡ b → (if b then Ok (s, at) else (value_at text at >>= behind_character text n at m s)) ≡ Ok (t, next)
        → (0 < s.left → (value_at text at >>= behind_character text n at m s) ≡ Ok (t, next) → TypesHold text base total next t × (t.left ≡ 0)) → TypesHold text base total next t × (t.left ≡ 0)
    cases true z e more = stops text base total at next s t h (eqb-true s.left 0 z) e
    cases false z e more = more (positive s.left z) e

-- numbers of one character
pub single_values : (xs : List (ℕ × ℕ)) → All (λ (p : ℕ × ℕ). p.0 < 24) xs → joined (map (λ (p : ℕ × ℕ). in_values 1 p.0) xs) ≡ map (λ (p : ℕ × ℕ). p.0) xs
single_values [] h = refl
single_values (p ∷ ps) h =
    let l : p.0 < 24 = h 0 p (omega arith) in
    let e : p.0 % 64 ≡ p.0 = omega arith in
    let f = single_values ps (λ k d m. h (suc k) d (omega arith)) in
    cc
