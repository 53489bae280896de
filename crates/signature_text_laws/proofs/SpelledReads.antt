-- What is spelled in a text is read from it.
use Rattle.std.proofs.Common.{◌≡◌, ℕ, zero, suc, ◌+◌, ◌-◌, ◌*◌, ◌/◌, ◌%◌, ◌^◌, ◌<◌, ◌≤◌, Bool, true, false, List, [], ◌∷◌, ◌++◌, length, drop, map, Option, Some, None, refl, sym, ap, ◌∙◌, subst, arith, ⊎_elim, append_assoc, append-nil}
use Rattle.std.specs.Prelude.{Result, Ok, Err, All, nat_le, nat_lt, not, slice_get, unwrap_or, sum_by, ◌||◌, ◌&&◌, ◌==◌, if◌then◌else◌, cond}
use Rattle.std.specs.List.{list_all}
use Rattle.std.proofs.Math.Nat.{pow-succ'}
use Rattle.std.proofs.lemmas.Bool.{eqb-true, eq-eqb, lt-ltb, le-ltb, cases_lt, or_from, and_right}
use Rattle.std.proofs.lemmas.List.{map-append, length-append}
use Rattle.std.proofs.lemmas.List.Sums.{sum_by-cons}
use Rattle.basic_lemmas.proofs.Truths.{by_bool, if_false}
use Rattle.text_definitions.specs.Reading.{◌>>=◌}
use Rattle.table_definitions.specs.Lists.{below, times_in}
use Rattle.table_definitions.proofs.ListFacts.{list_all-below}
use Rattle.signature_definitions.specs.declared.SigFault.{SigFault}
use Rattle.signature_definitions.specs.declared.SigFault.TheVariants as sig_faults
use Rattle.signature_definitions.specs.Spelling.{character, value_of, in_values, head_values, width, packed, joined}
use Rattle.signature_definitions.specs.SignatureText as signatures
use Rattle.signature_definitions.specs.SignatureText.{Types, Head, value_at, number_in, numbers_in, types_from, head_of, faces_of_type}
use Rattle.signature_text_laws.proofs.ReadLaws.{behind_character, next_ok, types_from-some, types_from-none}
use Rattle.signature_text_laws.proofs.TextLaws.{drop-drop}
use Rattle.signature_text_laws.proofs.Segments.{Holds, holds_nothing, length-in_values}
use Rattle.signature_text_laws.proofs.TypeSegments.{faces_some}

-- a text after its first values
drop-front : (xs zs : List ℕ) → drop (length xs) (map character xs ++ zs) ≡ zs
drop-front [] zs = refl
drop-front (x ∷ xs) zs = drop-front xs zs

pub holds_split : (text : List ℕ) (at : ℕ) (xs ys : List ℕ) → Holds text at (xs ++ ys) → Holds text at xs × Holds text (at + length xs) ys
holds_split text at xs ys h =
    let rest : List ℕ = drop (at + length (xs ++ ys)) text in
    let whole : drop at text ≡ map character xs ++ (map character ys ++ rest) = h ∙ ap (λ zs. zs ++ rest) (map-append character xs ys) ∙ append_assoc (map character xs) (map character ys) rest in
    let behind : drop (at + length xs) text ≡ map character ys ++ rest = sym (drop-drop at (length xs) text) ∙ ap (drop (length xs)) whole ∙ drop-front xs (map character ys ++ rest) in
    let l = length-append xs ys in
    let end : at + length (xs ++ ys) ≡ at + length xs + length ys = omega (arith, l) in
    (whole ∙ ap (λ zs. map character xs ++ zs) (sym behind), behind ∙ ap (λ m. map character ys ++ drop m text) end)

-- one value
get_front : (text : List ℕ) (at b : ℕ) (rest : List ℕ) → drop at text ≡ b ∷ rest → slice_get text at ≡ Some b
get_front [] zero b rest h = absurd cc
get_front [] (suc at) b rest h = absurd cc
get_front (x ∷ xs) zero b rest h = ap Some (first x b xs rest h)
  where
    first : (x b : ℕ) (xs rest : List ℕ) → x ∷ xs ≡ b ∷ rest → x ≡ b
    first x b xs rest h = cc
get_front (x ∷ xs) (suc at) b rest h = get_front xs at b rest h

all_values : list_all (λ v. unwrap_or (value_of (character v)) 64 == v) (below 64) ≡ true
all_values = refl

value_of-character : (v : ℕ) → v < 64 → value_of (character v) ≡ Some v
value_of-character v l = cases (value_of (character v)) (eqb-true (unwrap_or (value_of (character v)) 64) v (list_all-below (λ v. unwrap_or (value_of (character v)) 64 == v) 64 all_values v l))
  where
    cases : (o : Option ℕ) → unwrap_or o 64 ≡ v → o ≡ Some v
    cases None e = absurd (let f : 64 ≡ v = e in omega arith)
    cases (Some w) e = ap Some e

pub reads_value : (text : List ℕ) (at v : ℕ) (vs : List ℕ) → v < 64 → Holds text at (v ∷ vs) → value_at text at ≡ Ok v
reads_value text at v vs l h =
    let here : slice_get text at ≡ Some (character v) = get_front text at (character v) (map character vs ++ drop (at + length (v ∷ vs)) text) h in
    ap (λ o. signatures.value_in o (length text) at) here ∙ ap (λ o. signatures.value_or o (sig_faults.BadChar at)) (value_of-character v l)

-- a number
pub reads_number : (w : ℕ) (text : List ℕ) (at v : ℕ) → v < 64 ^ w → Holds text at (in_values w v) → number_in text w at ≡ Ok v
reads_number zero text at v l h = let e : 0 ≡ v = omega arith in ap (λ k. Ok k) e
reads_number (suc w) text at v l h =
    let p : 64 ^ suc w ≡ 64 * 64 ^ w = pow-succ' 64 w in
    let high : v / 64 < 64 ^ w = omega (arith, p) in
    let parts = holds_split text at (v % 64 ∷ []) (in_values w (v / 64)) h in
    let first = reads_value text at (v % 64) [] (omega arith) parts.0 in
    let rest = reads_number w text (at + 1) (v / 64) high parts.1 in
    let sum : v % 64 + 64 * (v / 64) ≡ v = omega arith in
    next_ok (value_at text at) (v % 64) (λ low. number_in text w (at + 1) >>= (λ higher. Ok (low + 64 * higher))) first
    ∙ next_ok (number_in text w (at + 1)) (v / 64) (λ higher. Ok (v % 64 + 64 * higher)) rest ∙ ap (λ k. Ok k) sum

-- the head
short_head : (text : List ℕ) (n : ℕ) → n < 63 → Holds text 0 (head_values n) → head_of text ≡ Ok (record { count = n; width = width n; next = length (head_values n) })
unfolding head_of
short_head text n l h =
    let head : head_values n ≡ n ∷ [] = rw (lt-ltb n 63 l) refl in
    let first = reads_value text 0 n [] (omega arith) (subst (λ (xs : List ℕ). Holds text 0 xs) head h) in
    let ne : (n == 63) ≡ false = by_bool (n == 63) (λ e. absurd (let f = eqb-true n 63 e in omega (arith, f))) (λ e. e) in
    let w : 1 ≡ width n = (let m : n < 64 = omega arith in rw (lt-ltb n 64 m) refl) in
    let long : 1 ≡ length (head_values n) = sym (ap (λ (xs : List ℕ). length xs) head) in
    next_ok (value_at text 0) n (λ v. if v == 63 then signatures.long_head text else Ok (record { count = v; width = 1; next = 1 })) first
    ∙ if_false (n == 63) (signatures.long_head text) (Ok (record { count = n; width = 1; next = 1 })) ne
    ∙ (λ i. Ok (record { count = n; width = w i; next = long i }))

pub unless_of : {A : Type 0} (b : Bool) (e : SigFault) (r : Result A SigFault) → b ≡ false → signatures.unless b e r ≡ r
unless_of b e r h = if_false b (Err e) r h

long_head : (text : List ℕ) (n w : ℕ) → 63 ≤ n → n ≤ 1000 → w ≡ width n → 1 ≤ w → w ≤ 2 → n < 64 ^ w → Holds text 0 (63 ∷ w ∷ in_values w n) → head_of text ≡ Ok (record { count = n; width = w; next = w + 2 })
unfolding head_of
long_head text n w low high same some small fits h =
    let a = holds_split text 0 (63 ∷ []) (w ∷ in_values w n) h in
    let b = holds_split text 1 (w ∷ []) (in_values w n) a.1 in
    let first = reads_value text 0 63 [] (omega arith) a.0 in
    let second = reads_value text 1 w [] (omega arith) b.0 in
    let third = reads_number w text 2 n fits b.1 in
    let w0 : (w == 0) ≡ false = by_bool (w == 0) (λ e. absurd (let f = eqb-true w 0 e in omega (arith, f))) (λ e. e) in
    let w3 : nat_le 3 w ≡ false = by_bool (nat_le 3 w) (λ e. absurd (le_three w small e)) (λ e. e) in
    let limited : nat_lt 1000 n ≡ false = le-ltb 1000 n high in
    let right : (nat_lt n 63 || not (w == width n)) ≡ false = or_from (nat_lt n 63) (not (w == width n)) (le-ltb n 63 low) (ap not (eq-eqb w (width n) same)) in
    let made : Head = record { count = n; width = w; next = w + 2 } in
    next_ok (value_at text 0) 63 (λ v. if v == 63 then signatures.long_head text else Ok (record { count = v; width = 1; next = 1 })) first
    ∙ next_ok (value_at text 1) w (λ w. signatures.unless (w == 0) (sig_faults.Width 1) (signatures.unless (nat_le 3 w) sig_faults.TooMany (signatures.wide_head text w))) second
    ∙ unless_of (w == 0) (sig_faults.Width 1) (signatures.unless (nat_le 3 w) sig_faults.TooMany (signatures.wide_head text w)) w0
    ∙ unless_of (nat_le 3 w) sig_faults.TooMany (signatures.wide_head text w) w3
    ∙ next_ok (number_in text w 2) n (λ n. signatures.unless (nat_lt 1000 n) sig_faults.TooMany (signatures.unless (nat_lt n 63 || not (w == width n)) (sig_faults.Width 1) (Ok (record { count = n; width = w; next = w + 2 })))) third
    ∙ unless_of (nat_lt 1000 n) sig_faults.TooMany (signatures.unless (nat_lt n 63 || not (w == width n)) (sig_faults.Width 1) (Ok made)) limited
    ∙ unless_of (nat_lt n 63 || not (w == width n)) (sig_faults.Width 1) (Ok made) right
  where
    le_three : (w : ℕ) → w ≤ 2 → nat_le 3 w ≡ true → ⊥
    le_three w l e = grind arith

-- the width of numbers
pub width_fits : (n : ℕ) → n ≤ 1000 → (1 ≤ width n) × (width n ≤ 2) × (n < 64 ^ width n)
width_fits n l = ⊎_elim
    (λ (a : n < 64). let w : width n ≡ 1 = rw (lt-ltb n 64 a) refl in
    subst (λ (k : ℕ). (1 ≤ k) × (k ≤ 2) × (n < 64 ^ k)) (sym w) (omega arith, omega arith, omega arith))
    (λ (b : 64 ≤ n). let c : n < 4096 = omega arith in let w : width n ≡ 2 = rw (le-ltb n 64 b, lt-ltb n 4096 c) refl in
    subst (λ (k : ℕ). (1 ≤ k) × (k ≤ 2) × (n < 64 ^ k)) (sym w) (omega arith, omega arith, omega arith))
    (cases_lt n 64)

pub reads_head : (text : List ℕ) (n : ℕ) → n ≤ 1000 → Holds text 0 (head_values n) → head_of text ≡ Ok (record { count = n; width = width n; next = length (head_values n) })
reads_head text n limited h = ⊎_elim
    (λ (l : n < 63). short_head text n l h)
    (λ (l : 63 ≤ n).
    let head : head_values n ≡ 63 ∷ width n ∷ in_values (width n) n = rw (le-ltb n 63 l) refl in
    let w = width_fits n limited in
    let long : width n + 2 ≡ length (head_values n) = (let e = ap (λ (xs : List ℕ). length xs) head in let f = length-in_values (width n) n in omega (arith, e, f)) in
    long_head text n (width n) l limited refl w.0 w.1 w.2 (subst (λ (xs : List ℕ). Holds text 0 xs) head h) ∙ (λ i. Ok (record { count = n; width = width n; next = long i })))
    (cases_lt n 63)

-- the types
one_of : ℕ → ℕ
one_of type = if type == 1 then 1 else 0

times_one : (type : ℕ) (ts : List ℕ) → times_in (type ∷ ts) 1 ≡ one_of type + times_in ts 1
unfolding one_of
times_one type ts = sum_by-cons (λ m. cond (m == 1) 1 0) type ts

right_type : (n type : ℕ) (s : Types) → type < 3 → faces_of_type type ≤ s.left → one_of type + s.ones < n → signatures.is_wrong_type n type s ≡ false
unfolding one_of
right_type n type s l enough limited = or_from ((type == 3) || nat_lt s.left (faces_of_type type)) ((type == 1) && nat_le (n - 1) s.ones)
    (or_from (type == 3) (nat_lt s.left (faces_of_type type)) (by_bool (type == 3) (λ e. absurd (let f = eqb-true type 3 e in omega (arith, f))) (λ e. e)) (le-ltb s.left (faces_of_type type) enough))
    (by_bool (type == 1)
    (λ e. let f = rw e at limited in let g : s.ones < n - 1 = omega (arith, f) in and_right (type == 1) (nat_le (n - 1) s.ones) (lt_leb s.ones (n - 1) g))
    (λ e. rw e refl))
  where
    lt_leb : (a b : ℕ) → a < b → nat_le b a ≡ false
    lt_leb a b h = grind arith

type_taken : (n at type : ℕ) (s : Types) → type < 3 → faces_of_type type ≤ s.left → one_of type + s.ones < n → signatures.type_at n at type s ≡ Ok (signatures.counted type s)
type_taken n at type s l enough limited =
    let some = faces_some type in
    let ne : (s.left == 0) ≡ false = by_bool (s.left == 0) (λ e. absurd (let f = eqb-true s.left 0 e in omega (arith, f, some))) (λ e. e) in
    if_false (s.left == 0) (signatures.unless (not (type == 0)) (sig_faults.Leftover at) (Ok s)) (signatures.unless (signatures.is_wrong_type n type s) (sig_faults.BadType at) (Ok (signatures.counted type s))) ne
    ∙ unless_of (signatures.is_wrong_type n type s) (sig_faults.BadType at) (Ok (signatures.counted type s)) (right_type n type s l enough limited)

type_none : (n at : ℕ) (s : Types) → s.left ≡ 0 → signatures.type_at n at 0 s ≡ Ok s
type_none n at s e = let z : (s.left == 0) ≡ true = eq-eqb s.left 0 e in first_of (s.left == 0) (Ok s) (signatures.unless (signatures.is_wrong_type n 0 s) (sig_faults.BadType at) (Ok (signatures.counted 0 s))) z
  where
    first_of : (b : Bool) (r q : Result Types SigFault) → b ≡ true → (if b then r else q) ≡ r
    first_of true r q h = refl
    first_of false r q h = absurd cc

-- three types of a character, one after the other
three_taken : (n at v a b c : ℕ) (s s0 s1 t : Types) → v % 4 ≡ a → v / 4 % 4 ≡ b → v / 16 ≡ c → signatures.type_at n at a s ≡ Ok s0 → signatures.type_at n at b s0 ≡ Ok s1 → signatures.type_at n at c s1 ≡ Ok t
    → signatures.character_types n at v s ≡ Ok t
three_taken n at v a b c s s0 s1 t ea eb ec ha hb hc =
    let fa : signatures.type_at n at (v % 4) s ≡ Ok s0 = ap (λ k. signatures.type_at n at k s) ea ∙ ha in
    let fb : signatures.type_at n at (v / 4 % 4) s0 ≡ Ok s1 = ap (λ k. signatures.type_at n at k s0) eb ∙ hb in
    let fc : signatures.type_at n at (v / 16) s1 ≡ Ok t = ap (λ k. signatures.type_at n at k s1) ec ∙ hc in
    next_ok (signatures.type_at n at (v % 4) s) s0 (λ s0. signatures.type_at n at (v / 4 % 4) s0 >>= (λ s1. signatures.type_at n at (v / 16) s1)) fa
    ∙ next_ok (signatures.type_at n at (v / 4 % 4) s0) s1 (λ s1. signatures.type_at n at (v / 16) s1) fb ∙ fc

-- the state after the spelled types ts are read
abbrev pub behind_types : Types → List ℕ → Types
behind_types s ts = record { read = s.read ++ ts; left = s.left - sum_by faces_of_type ts; ones = s.ones + times_in ts 1 }

same_types : (s t : Types) → s.read ≡ t.read → s.left ≡ t.left → s.ones ≡ t.ones → s ≡ t
same_types s t a b c = λ i. record { read = a i; left = b i; ones = c i }

counted_types : (type : ℕ) (ts : List ℕ) (s : Types) → behind_types (signatures.counted type s) ts ≡ behind_types s (type ∷ ts)
counted_types type ts s = same_types (behind_types (signatures.counted type s) ts) (behind_types s (type ∷ ts)) (append_assoc s.read (type ∷ []) ts)
    (let c = sum_by-cons faces_of_type type ts in omega (arith, c)) (unfold one_of in (let c = times_one type ts in omega (arith, c)))

behind_none : (s : Types) → behind_types s [] ≡ s
behind_none s = same_types (behind_types s []) s (append-nil s.read) (omega arith) (omega arith)

counted_ones : (type : ℕ) (s : Types) → (signatures.counted type s).ones ≡ one_of type + s.ones
unfolding one_of
counted_ones type s = omega arith

abbrev pub Reads : ℕ → List ℕ → ℕ → ℕ → Types → List ℕ → Type 0
Reads m text n at s ts = types_from m text n at s ≡ Ok (behind_types s ts, at + length (packed ts))

character_read : (m : ℕ) (text : List ℕ) (n at v : ℕ) (s t : Types) (ts us : List ℕ) → 0 < s.left → value_at text at ≡ Ok v → signatures.character_types n at v s ≡ Ok t → behind_types t us ≡ behind_types s ts
    → at + 1 + length (packed us) ≡ at + length (packed ts) → Reads m text n (at + 1) t us → Reads (suc m) text n at s ts
character_read m text n at v s t ts us some read taken same long rest =
    types_from-some m text n at s some ∙ next_ok (value_at text at) v (behind_character text n at m s) read
    ∙ next_ok (signatures.character_types n at v s) t (λ u. types_from m text n (at + 1) u) taken ∙ rest ∙ (λ i. Ok (same i, long i))

pub types_reads : (m : ℕ) (text : List ℕ) (n at : ℕ) (s : Types) (ts : List ℕ) → Holds text at (packed ts) → All (λ t. t < 3) ts → s.left ≡ sum_by faces_of_type ts → s.left ≤ m → (0 < s.left → s.ones + times_in ts 1 < n)
    → Reads m text n at s ts
types_reads m text n at s [] h small sum l limited =
    types_from-none m text n at s (omega (arith, sum)) ∙ (let e = behind_none s in let f : at ≡ at + 0 = omega arith in λ i. Ok (sym e i, f i))
types_reads zero text n at s (a ∷ ts) h small sum l limited = absurd (let f = faces_some a in let c = sum_by-cons faces_of_type a ts in omega (arith, f, c, sum))
types_reads (suc m) text n at s (a ∷ []) h small sum l limited =
    let sa : a < 3 = small 0 0 (omega arith) in
    let fa = faces_some a in
    let ca = sum_by-cons faces_of_type a [] in
    let oa = times_one a [] in
    let s0 : Types = signatures.counted a s in
    let some : 0 < s.left = omega (arith, fa, ca, sum) in
    let limit = limited some in
    let none : s0.left ≡ 0 = omega (arith, ca, sum) in
    let first = type_taken n at a s sa (omega (arith, ca, sum)) (omega (arith, limit, oa)) in
    let e : at + 1 + 0 ≡ at + 1 = omega arith in
    character_read m text n at a s s0 (a ∷ []) [] some (reads_value text at a [] (omega (arith, sa)) h)
    (three_taken n at a a 0 0 s s0 s0 s0 (omega (arith, sa)) (omega (arith, sa)) (omega (arith, sa)) first (type_none n at s0 none) (type_none n at s0 none))
    (counted_types a [] s) e (types_reads m text n (at + 1) s0 [] (holds_nothing text (at + 1)) (λ k d m. absurd (omega arith)) none (omega (arith, none)) (λ more. absurd (omega (arith, none))))
types_reads (suc m) text n at s (a ∷ b ∷ []) h small sum l limited =
    let sa : a < 3 = small 0 0 (omega arith) in
    let sb : b < 3 = small 1 0 (omega arith) in
    let fa = faces_some a in
    let ca = sum_by-cons faces_of_type a (b ∷ []) in
    let cb = sum_by-cons faces_of_type b [] in
    let oa = times_one a (b ∷ []) in
    let ob = times_one b [] in
    let s0 : Types = signatures.counted a s in
    let s1 : Types = signatures.counted b s0 in
    let some : 0 < s.left = omega (arith, fa, ca, sum) in
    let limit = limited some in
    let ones = counted_ones a s in
    let none : s1.left ≡ 0 = omega (arith, ca, cb, sum) in
    let first = type_taken n at a s sa (omega (arith, ca, sum)) (omega (arith, limit, oa)) in
    let second = type_taken n at b s0 sb (omega (arith, ca, cb, sum)) (omega (arith, limit, oa, ob, ones)) in
    let e : at + 1 + 0 ≡ at + 1 = omega arith in
    let v : ℕ = a + 4 * b in
    character_read m text n at v s s1 (a ∷ b ∷ []) [] some (reads_value text at v [] (omega (arith, sa, sb)) h)
    (three_taken n at v a b 0 s s0 s1 s1 (omega (arith, sa, sb)) (omega (arith, sa, sb)) (omega (arith, sa, sb)) first second (type_none n at s1 none))
    (counted_types b [] s0 ∙ counted_types a (b ∷ []) s) e (types_reads m text n (at + 1) s1 [] (holds_nothing text (at + 1)) (λ k d m. absurd (omega arith)) none (omega (arith, none)) (λ more. absurd (omega (arith, none))))
types_reads (suc m) text n at s (a ∷ b ∷ c ∷ ts) h small sum l limited =
    let sa : a < 3 = small 0 0 (omega arith) in
    let sb : b < 3 = small 1 0 (omega arith) in
    let sc : c < 3 = small 2 0 (omega arith) in
    let fa = faces_some a in
    let ca = sum_by-cons faces_of_type a (b ∷ c ∷ ts) in
    let cb = sum_by-cons faces_of_type b (c ∷ ts) in
    let cc' = sum_by-cons faces_of_type c ts in
    let oa = times_one a (b ∷ c ∷ ts) in
    let ob = times_one b (c ∷ ts) in
    let oc = times_one c ts in
    let s0 : Types = signatures.counted a s in
    let s1 : Types = signatures.counted b s0 in
    let s2 : Types = signatures.counted c s1 in
    let some : 0 < s.left = omega (arith, fa, ca, sum) in
    let limit = limited some in
    let ones0 = counted_ones a s in
    let ones1 = counted_ones b s0 in
    let ones2 = counted_ones c s1 in
    let first = type_taken n at a s sa (omega (arith, ca, sum)) (omega (arith, limit, oa)) in
    let second = type_taken n at b s0 sb (omega (arith, ca, cb, sum)) (omega (arith, limit, oa, ob, ones0)) in
    let third = type_taken n at c s1 sc (omega (arith, ca, cb, cc', sum)) (omega (arith, limit, oa, ob, oc, ones0, ones1)) in
    let v : ℕ = a + 4 * b + 16 * c in
    let parts = holds_split text at (v ∷ []) (packed ts) h in
    let e : at + 1 + length (packed ts) ≡ at + suc (length (packed ts)) = omega arith in
    let left : s2.left ≡ sum_by faces_of_type ts = omega (arith, ca, cb, cc', sum) in
    let less : s2.left ≤ m = omega (arith, fa, ca, cb, cc', sum, l) in
    let limit' : s2.ones + times_in ts 1 < n = omega (arith, limit, oa, ob, oc, ones0, ones1, ones2) in
    character_read m text n at v s s2 (a ∷ b ∷ c ∷ ts) ts some (reads_value text at v (packed ts) (omega (arith, sa, sb, sc)) h)
    (three_taken n at v a b c s s0 s1 s2 (omega (arith, sa, sb, sc)) (omega (arith, sa, sb, sc)) (omega (arith, sa, sb, sc)) first second third)
    (counted_types c ts s1 ∙ counted_types b (c ∷ ts) s0 ∙ counted_types a (b ∷ c ∷ ts) s) e
    (types_reads m text n (at + 1) s2 ts parts.1 (λ k d q. small (suc (suc (suc k))) d (omega arith)) left less (λ more. limit'))

-- the numbers
pub placed : ℕ → ℕ → List ℕ → List (ℕ × ℕ)
placed w at [] = []
placed w at (v ∷ vs) = (v, at) ∷ placed w (at + w) vs

pub placed_values : (w at : ℕ) (vs : List ℕ) → map (λ (p : ℕ × ℕ). p.0) (placed w at vs) ≡ vs
unfolding placed
placed_values w at [] = refl
placed_values w at (v ∷ vs) = ap (λ xs. v ∷ xs) (placed_values w (at + w) vs)

pub length-placed : (w at : ℕ) (vs : List ℕ) → length (placed w at vs) ≡ length vs
unfolding placed
length-placed w at [] = refl
length-placed w at (v ∷ vs) = ap suc (length-placed w (at + w) vs)

pub placed_below : (w at bound : ℕ) (vs : List ℕ) → All (λ v. v < bound) vs → All (λ (p : ℕ × ℕ). p.0 < bound) (placed w at vs)
unfolding placed
placed_below w at bound [] h = λ k d l. absurd (omega arith)
placed_below w at bound (v ∷ vs) h = both (h 0 0 (omega arith)) (placed_below w (at + w) bound vs (λ k d l. h (suc k) d (omega arith)))
  where
    both : v < bound → All (λ (p : ℕ × ℕ). p.0 < bound) (placed w (at + w) vs) → All (λ (p : ℕ × ℕ). p.0 < bound) ((v, at) ∷ placed w (at + w) vs)
    both l k zero d m = l
    both l k (suc i) d m = k i d (omega arith)

pub numbers_reads : (text : List ℕ) (w bound : ℕ) (fault : ℕ → SigFault) (at : ℕ) (vs : List ℕ) → Holds text at (joined (map (in_values w) vs)) → All (λ v. v < bound) vs → bound ≤ 64 ^ w
    → numbers_in (length vs) text w bound fault at ≡ Ok (placed w at vs)
unfolding numbers_in placed
numbers_reads text w bound fault at [] h small wide = refl
numbers_reads text w bound fault at (v ∷ vs) h small wide =
    let parts = holds_split text at (in_values w v) (joined (map (in_values w) vs)) h in
    let long = length-in_values w v in
    let there : at + length (in_values w v) ≡ at + w = ap (λ m. at + m) long in
    let behind : Holds text (at + w) (joined (map (in_values w) vs)) = subst (λ (k : ℕ). Holds text k (joined (map (in_values w) vs))) there parts.1 in
    let l : v < bound = small 0 0 (omega arith) in
    let others = numbers_reads text w bound fault (at + w) vs behind (λ k d m. small (suc k) d (omega arith)) wide in
    let others' : Result (List (ℕ × ℕ)) SigFault = numbers_in (length vs) text w bound fault (at + w) in
    next_ok (number_in text w at) v (λ v. signatures.unless (nat_le bound v) (fault at) others' >>= (λ ys. Ok ((v, at) ∷ ys))) (reads_number w text at v (omega arith) parts.0)
    ∙ ap (λ r. r >>= (λ ys. Ok ((v, at) ∷ ys))) (unless_of (nat_le bound v) (fault at) others' (not_le bound v l) ∙ others)
  where
    not_le : (a b : ℕ) → b < a → nat_le a b ≡ false
    not_le a b h = grind arith

-- numbers of one character
pub single_spelled : (vs : List ℕ) → All (λ v. v < 24) vs → joined (map (in_values 1) vs) ≡ vs
single_spelled [] h = refl
single_spelled (v ∷ vs) h =
    let l : v < 24 = h 0 0 (omega arith) in
    let e : v % 64 ≡ v = omega arith in
    let f = single_spelled vs (λ k d m. h (suc k) d (omega arith)) in
    cc
