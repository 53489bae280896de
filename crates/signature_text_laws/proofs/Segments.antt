-- What is read from a text is spelled in it at that place.
use Rattle.std.proofs.Common.{◌≡◌, ℕ, zero, suc, ◌+◌, ◌*◌, ◌/◌, ◌%◌, ◌<◌, ◌≤◌, Bool, true, false, List, [], ◌∷◌, ◌++◌, length, drop, map, Option, Some, None, refl, sym, ap, ◌∙◌, subst, arith, append_assoc}
use Rattle.std.specs.Prelude.{Result, Ok, nat_le, nat_lt, not, slice_get, slice_index, ◌||◌, ◌==◌, if◌then◌else◌, cond, All}
use Rattle.std.specs.List.{position_or_len, position}
use Rattle.std.proofs.lemmas.Bool.{eqb-true, eq-eqb, lt-ltb, or_parts, not-false}
use Rattle.std.proofs.lemmas.List.{map-append, length-append}
use Rattle.std.proofs.lemmas.List.Sums.{prefix_len_stops}
use Rattle.basic_lemmas.proofs.Truths.{by_bool}
use borrow.Author.Tests.{ltb-true, ltb-false}
use Rattle.text_definitions.specs.Reading.{◌>>=◌}
use Rattle.text_definitions.proofs.Readers.{bind_ok}
use Rattle.signature_definitions.specs.declared.SigFault.{SigFault}
use Rattle.signature_definitions.specs.declared.SigFault.TheVariants as sig_faults
use Rattle.signature_definitions.specs.Spelling.{alphabet, character, value_of, in_values, head_values, width, joined}
use Rattle.signature_definitions.specs.SignatureText as signatures
use Rattle.signature_definitions.specs.SignatureText.{Head, value_at, number_in, head_of, numbers_in}
use Rattle.signature_text_laws.proofs.SlotLaws.{unless_ok, ok_same}

-- a value is below 64
position_below : (p : ℕ → Bool) (xs : List ℕ) (i : ℕ) → position p xs ≡ Some i → i < length xs
position_below p xs i h = cases (nat_lt (position_or_len p xs) (length xs)) refl h
  where
    cases : (b : Bool) → nat_lt (position_or_len p xs) (length xs) ≡ b → cond b (Some (position_or_len p xs)) None ≡ Some i → i < length xs
    cases true e h = let same : position_or_len p xs ≡ i = cc in let l = ltb-true (position_or_len p xs) (length xs) e in let P : ℕ → Type 0 = λ k. k < length xs in subst P same l
    cases false e h = absurd cc

value_of_below : (b v : ℕ) → value_of b ≡ Some v → v < 64
value_of_below b v h = position_below (λ c. c == b) alphabet v h

pub value_at_below : (text : List ℕ) (at v : ℕ) → signatures.value_at text at ≡ Ok v → v < 64
value_at_below text at v h = cases (slice_get text at) h
  where
    valued : (b : ℕ) (o : Option ℕ) → value_of b ≡ o → signatures.value_or o (sig_faults.BadChar at) ≡ Ok v → v < 64
    valued b None e h = absurd cc
    valued b (Some w) e h = let same : w ≡ v = ok_same w v h in let P : ℕ → Type 0 = λ k. k < 64 in subst P same (value_of_below b w e)

    cases : (o : Option ℕ) → signatures.value_in o (length text) at ≡ Ok v → v < 64
    cases None h = absurd cc
    cases (Some b) h = valued b (value_of b) refl h

-- the characters of the values vs occur in the text from place `at` on
abbrev pub Holds : List ℕ → ℕ → List ℕ → Type 0
Holds text at vs = drop at text ≡ map character vs ++ drop (at + length vs) text

pub holds_nothing : (text : List ℕ) (at : ℕ) → Holds text at []
holds_nothing text at = let e : at ≡ at + 0 = omega arith in ap (λ k. drop k text) e

pub holds_more : (text : List ℕ) (at next : ℕ) (xs ys : List ℕ) → Holds text at xs → next ≡ at + length xs → Holds text next ys → Holds text at (xs ++ ys)
holds_more text at next xs ys h e k =
    let long = length-append xs ys in
    let end : next + length ys ≡ at + length (xs ++ ys) = omega (arith, long, e) in
    h ∙ ap (λ m. map character xs ++ drop m text) (sym e) ∙ ap (λ rest. map character xs ++ rest) k
    ∙ sym (append_assoc (map character xs) (map character ys) (drop (next + length ys) text))
    ∙ ap (λ zs. zs ++ drop (next + length ys) text) (sym (map-append character xs ys))
    ∙ ap (λ m. map character (xs ++ ys) ++ drop m text) end

-- one value
drop_at : (text : List ℕ) (at b : ℕ) → slice_get text at ≡ Some b → drop at text ≡ b ∷ drop (at + 1) text
drop_at [] at b e = absurd cc
drop_at (x ∷ xs) zero b e = ap (λ c. c ∷ xs) (same x b e)
  where
    same : (x b : ℕ) → Some x ≡ Some b → x ≡ b
    same x b e = cc
drop_at (x ∷ xs) (suc at) b e = let one : suc at + 1 ≡ suc (at + 1) = omega arith in rw one (drop_at xs at b e)

spelled_value : (b v : ℕ) → value_of b ≡ Some v → character v ≡ b
spelled_value b v h = cases (nat_lt (position_or_len (λ c. c == b) alphabet) 64) refl h
  where
    cases : (t : Bool) → nat_lt (position_or_len (λ c. c == b) alphabet) 64 ≡ t → cond t (Some (position_or_len (λ c. c == b) alphabet)) None ≡ Some v → character v ≡ b
    cases true e h =
        let same : position_or_len (λ c. c == b) alphabet ≡ v = some_same _ v h in
        let l = ltb-true (position_or_len (λ c. c == b) alphabet) 64 e in
        let stops = prefix_len_stops (λ c. not (c == b)) alphabet 0 l in
        let found = eqb-true (slice_index alphabet (position_or_len (λ c. c == b) alphabet)) b (not_not _ stops) in
        subst (λ (k : ℕ). character k ≡ b) same found
      where
        some_same : (x y : ℕ) → Some x ≡ Some y → x ≡ y
        some_same x y e = cc

        not_not : (t : Bool) → not t ≡ false → t ≡ true
        not_not true e = refl
        not_not false e = cc
    cases false e h = absurd cc

pub holds_value : (text : List ℕ) (at v : ℕ) → value_at text at ≡ Ok v → Holds text at (v ∷ [])
holds_value text at v h = cases (slice_get text at) refl h
  where
    valued : (b : ℕ) (o : Option ℕ) → value_of b ≡ o → slice_get text at ≡ Some b → signatures.value_or o (sig_faults.BadChar at) ≡ Ok v → Holds text at (v ∷ [])
    valued b None e g k = absurd cc
    valued b (Some w) e g k =
        let same : w ≡ v = ok_same w v k in
        let spelled : character v ≡ b = subst (λ (x : ℕ). character x ≡ b) same (spelled_value b w e) in
        drop_at text at b g ∙ ap (λ c. c ∷ drop (at + 1) text) (sym spelled)

    cases : (o : Option ℕ) → slice_get text at ≡ o → signatures.value_in o (length text) at ≡ Ok v → Holds text at (v ∷ [])
    cases None g k = absurd cc
    cases (Some b) g k = valued b (value_of b) refl g k

-- a number
pub length-in_values : (w v : ℕ) → length (in_values w v) ≡ w
length-in_values zero v = refl
length-in_values (suc w) v = ap suc (length-in_values w (v / 64))

pub holds_number : (w : ℕ) (text : List ℕ) (at v : ℕ) → number_in text w at ≡ Ok v → Holds text at (in_values w v)
holds_number zero text at v h = holds_nothing text at
holds_number (suc w) text at v h =
    let a = bind_ok (value_at text at) (λ low. number_in text w (at + 1) >>= (λ high. Ok (low + 64 * high))) v h in
    let b = bind_ok (number_in text w (at + 1)) (λ high. Ok (a.0 + 64 * high)) v a.2 in
    let same : a.0 + 64 * b.0 ≡ v = ok_same (a.0 + 64 * b.0) v b.2 in
    let l = value_at_below text at a.0 a.1 in
    let low : v % 64 ≡ a.0 = omega arith in
    let high : v / 64 ≡ b.0 = omega arith in
    let k = holds_more text at (at + 1) (a.0 ∷ []) (in_values w b.0) (holds_value text at a.0 a.1) refl (holds_number w text (at + 1) b.0 b.1) in
    subst (λ (x : ℕ). Holds text at (x ∷ in_values w (v / 64))) (sym low) (subst (λ (y : ℕ). Holds text at (a.0 ∷ in_values w y)) (sym high) k)

-- the head
pub record HeadHolds (text : List ℕ) (h : Head) : Type 0 where
  pub holds : Holds text 0 (head_values h.count)
  pub next : h.next ≡ length (head_values h.count)
  pub width : h.width ≡ width h.count
  pub limited : h.count ≤ 1000

short_head : (text : List ℕ) (v : ℕ) → value_at text 0 ≡ Ok v → (v == 63) ≡ false → HeadHolds text (record { count = v; width = 1; next = 1 })
short_head text v read separate =
    let l = value_at_below text 0 v read in
    let ne : v ≡ 63 → ⊥ = λ e. (let f = eq-eqb v 63 e in cc) in
    let small : v < 63 = omega arith in
    let head : head_values v ≡ v ∷ [] = rw (lt-ltb v 63 small) refl in
    record {
      holds = subst (λ (xs : List ℕ). Holds text 0 xs) (sym head) (holds_value text 0 v read);
      next = sym (ap length head);
      width = (let lt : v < 64 = omega arith in rw (lt-ltb v 64 lt) refl);
      limited = omega arith;
    }

wide_read : (text : List ℕ) (w : ℕ) (h : Head) → value_at text 0 ≡ Ok 63 → value_at text 1 ≡ Ok w → signatures.wide_head text w ≡ Ok h → HeadHolds text h
wide_read text w h first second e =
    let a = bind_ok (number_in text w 2) (λ n. signatures.unless (nat_lt 1000 n) sig_faults.TooMany (signatures.unless (nat_lt n 63 || not (w == width n)) (sig_faults.Width 1) (Ok (record { count = n; width = w; next = w + 2 })))) h e in
    let n : ℕ = a.0 in
    let made : Head = record { count = n; width = w; next = w + 2 } in
    let b = unless_ok (nat_lt 1000 n) sig_faults.TooMany (signatures.unless (nat_lt n 63 || not (w == width n)) (sig_faults.Width 1) (Ok made)) h a.2 in
    let c = unless_ok (nat_lt n 63 || not (w == width n)) (sig_faults.Width 1) (Ok made) h b.1 in
    let parts = or_parts (nat_lt n 63) (not (w == width n)) c.0 in
    let same : w ≡ width n = eqb-true w (width n) (not-false (w == width n) parts.1) in
    let head : head_values n ≡ 63 ∷ w ∷ in_values w n = rw parts.0 (ap (λ k. 63 ∷ k ∷ in_values k n) (sym same)) in
    let held : Holds text 0 (63 ∷ w ∷ in_values w n) =
    holds_more text 0 1 (63 ∷ []) (w ∷ in_values w n) (holds_value text 0 63 first) refl
    (holds_more text 1 2 (w ∷ []) (in_values w n) (holds_value text 1 w second) refl (holds_number w text 2 n a.1)) in
    subst (HeadHolds text) (ok_same made h c.1) (record {
      holds = subst (λ (xs : List ℕ). Holds text 0 xs) (sym head) held;
      next = (let long = length-in_values w n in let f = ap length head in omega (arith, long, f));
      width = same;
      limited = ltb-false 1000 n b.0;
    })

pub head_holds : (text : List ℕ) (h : Head) → head_of text ≡ Ok h → HeadHolds text h
unfolding head_of
head_holds text h e =
    let a = bind_ok (value_at text 0) (λ v. if v == 63 then signatures.long_head text else Ok (record { count = v; width = 1; next = 1 })) h e in
    by_bool (a.0 == 63)
    (λ long.
    let same : a.0 ≡ 63 = eqb-true a.0 63 long in
    let first : value_at text 0 ≡ Ok 63 = a.1 ∙ ap (λ v. Ok v) same in
    let k = if_first (a.0 == 63) (signatures.long_head text) (Ok (record { count = a.0; width = 1; next = 1 })) h long a.2 in
    let b = bind_ok (value_at text 1) (λ w. signatures.unless (w == 0) (sig_faults.Width 1) (signatures.unless (nat_le 3 w) sig_faults.TooMany (signatures.wide_head text w))) h k in
    let c = unless_ok (b.0 == 0) (sig_faults.Width 1) (signatures.unless (nat_le 3 b.0) sig_faults.TooMany (signatures.wide_head text b.0)) h b.2 in
    let d = unless_ok (nat_le 3 b.0) sig_faults.TooMany (signatures.wide_head text b.0) h c.1 in
    wide_read text b.0 h first b.1 d.1)
    (λ short.
    let made : Head = record { count = a.0; width = 1; next = 1 } in
    let k = if_second (a.0 == 63) (signatures.long_head text) (Ok made) h short a.2 in
    subst (HeadHolds text) (ok_same made h k) (short_head text a.0 a.1 short))
  where
    if_first : {A : Type 0} (b : Bool) (r q : Result A SigFault) (t : A) → b ≡ true → (if b then r else q) ≡ Ok t → r ≡ Ok t
    if_first true r q t e h = h
    if_first false r q t e h = absurd cc

    if_second : {A : Type 0} (b : Bool) (r q : Result A SigFault) (t : A) → b ≡ false → (if b then r else q) ≡ Ok t → q ≡ Ok t
    if_second true r q t e h = absurd cc
    if_second false r q t e h = h

-- the values of numbers, w of each
abbrev pub values_of : ℕ → List (ℕ × ℕ) → List ℕ
values_of w xs = joined (map (λ (p : ℕ × ℕ). in_values w p.0) xs)

-- the k numbers that were read from place `at` on
pub record AreNumbers (k : ℕ) (text : List ℕ) (w bound at : ℕ) (xs : List (ℕ × ℕ)) : Type 0 where
  pub count : length xs ≡ k
  pub small : All (λ (p : ℕ × ℕ). p.0 < bound) xs
  pub holds : Holds text at (values_of w xs)
  pub wide : length (values_of w xs) ≡ w * k

pub numbers_read : (k : ℕ) (text : List ℕ) (w bound : ℕ) (fault : ℕ → SigFault) (at : ℕ) (xs : List (ℕ × ℕ)) → numbers_in k text w bound fault at ≡ Ok xs → AreNumbers k text w bound at xs
unfolding numbers_in
numbers_read zero text w bound fault at xs e =
    let same = ok_same {A = List (ℕ × ℕ)} [] xs e in
    subst (AreNumbers zero text w bound at) same (record { count = refl; small = λ i d l. absurd (omega arith); holds = holds_nothing text at; wide = omega arith })
numbers_read (suc k) text w bound fault at xs e =
    let others : Result (List (ℕ × ℕ)) SigFault = numbers_in k text w bound fault (at + w) in
    let a = bind_ok (number_in text w at) (λ v. signatures.unless (nat_le bound v) (fault at) others >>= (λ ys. Ok ((v, at) ∷ ys))) xs e in
    let b = bind_ok (signatures.unless (nat_le bound a.0) (fault at) others) (λ ys. Ok ((a.0, at) ∷ ys)) xs a.2 in
    let u = unless_ok (nat_le bound a.0) (fault at) others b.0 b.1 in
    let h = numbers_read k text w bound fault (at + w) b.0 u.1 in
    let same : (a.0, at) ∷ b.0 ≡ xs = ok_same {A = List (ℕ × ℕ)} ((a.0, at) ∷ b.0) xs b.2 in
    let wide = length-in_values w a.0 in
    let there : at + w ≡ at + length (in_values w a.0) = ap (λ m. at + m) (sym wide) in
    subst (AreNumbers (suc k) text w bound at) same (record {
      count = ap suc h.count;
      small = both (a.0, at) b.0 (not_le bound a.0 u.0) h.small;
      holds = holds_more text at (at + w) (in_values w a.0) (values_of w b.0) (holds_number w text at a.0 a.1) there h.holds;
      wide = let l = length-append (in_values w a.0) (values_of w b.0) in let m = h.wide in omega (arith, l, m, wide);
    })
  where
    not_le : (a b : ℕ) → nat_le a b ≡ false → b < a
    not_le a b h = grind arith

    both : (p : ℕ × ℕ) (ps : List (ℕ × ℕ)) → p.0 < bound → All (λ (p : ℕ × ℕ). p.0 < bound) ps → All (λ (p : ℕ × ℕ). p.0 < bound) (p ∷ ps)
    both p ps l h zero d m = l
    both p ps l h (suc i) d m = h i d (omega arith)
