-- The sections of a text that was read.
use Rattle.std.proofs.Common.{◌≡◌, ℕ, zero, suc, ◌+◌, ◌-◌, ◌*◌, ◌/◌, ◌%◌, ◌<◌, ◌≤◌, Bool, true, false, List, [], ◌∷◌, ◌++◌, length, None, refl, sym, ap, ◌∙◌, subst, arith}
use Rattle.std.specs.Prelude.{Result, Ok, Err, All, nat_lt, not, ◌==◌, if◌then◌else◌}
use Rattle.std.proofs.lemmas.Grind.{common_steps}
use Rattle.std.proofs.lemmas.List.{length-replicate}
use Rattle.text_definitions.specs.Reading.{◌>>=◌}
use Rattle.text_definitions.proofs.Readers.{bind_ok}
use Rattle.table_definitions.specs.Lists.{times_in}
use Rattle.table_definitions.specs.Table.{Row}
use Rattle.signature_definitions.specs.declared.SigFault.{SigFault}
use Rattle.signature_definitions.specs.declared.SigFault.TheVariants as sig_faults
use Rattle.signature_definitions.specs.SignatureText as signatures
use Rattle.signature_definitions.specs.SignatureText.{numbers_in, types_from, Types, signature_table}
use Rattle.signature_text_laws.specs.Parts.{parts_of, types_begun}
use Rattle.signature_text_laws.specs.Slots.{IsSlots, slots_begun}
use Rattle.signature_text_laws.proofs.ReadLaws.{behind_character, next_ok}
use Rattle.signature_text_laws.proofs.SlotLaws.{unless_ok, ok_of, ok_same, unless_same}
use Rattle.signature_text_laws.proofs.Segments.{value_at_below, numbers_read}

-- the types that were read
pub record AreTypes (n : ℕ) (s : Types) : Type 0 where
  pub small : All (λ t. t < 3) s.read
  pub ones : s.ones ≡ times_in s.read 1
  pub limited : 0 < n → s.ones < n

times-more : (a b : ℕ) (xs : List ℕ) → times_in (xs ++ a ∷ []) b ≡ times_in xs b + (if a == b then 1 else 0)
times-more a b [] = grind (arith, common_steps)
times-more a b (x ∷ xs) = let h = times-more a b xs in grind (arith, common_steps, h)

small-more : (a : ℕ) (xs : List ℕ) → a < 3 → All (λ t. t < 3) xs → All (λ t. t < 3) (xs ++ a ∷ [])
small-more a [] l h zero d m = l
small-more a [] l h (suc k) d m = absurd (omega arith)
small-more a (x ∷ xs) l h zero d m = h 0 d (omega arith)
small-more a (x ∷ xs) l h (suc k) d m = small-more a xs l (λ j e i. h (suc j) e (omega arith)) k d (omega arith)

right_type : (n type : ℕ) (s : Types) → type < 4 → signatures.is_wrong_type n type s ≡ false → (type < 3) × (type ≡ 1 → s.ones < n - 1)
right_type n type s l h = (grind arith, grind arith)

type_read : (n at type : ℕ) (s t : Types) → AreTypes n s → type < 4 → signatures.type_at n at type s ≡ Ok t → AreTypes n t
type_read n at type s t h l e = cases (s.left == 0) e
  where
    added : signatures.is_wrong_type n type s ≡ false → AreTypes n (signatures.counted type s)
    added right =
        let r = right_type n type s l right in
        record {
          small = small-more type s.read r.0 h.small;
          ones = let e = times-more type 1 s.read in let o = h.ones in omega (arith, e, o);
          limited = λ some. one_more some r.1;
        }
      where
        one_more : 0 < n → (type ≡ 1 → s.ones < n - 1) → s.ones + (if type == 1 then 1 else 0) < n
        one_more some lt = let f = h.limited some in grind (arith, f, lt)

    cases : (b : Bool) → (if b then signatures.unless (not (type == 0)) (sig_faults.Leftover at) (Ok s) else signatures.unless (signatures.is_wrong_type n type s) (sig_faults.BadType at) (Ok (signatures.counted type s))) ≡ Ok t → AreTypes n t
    cases true e = subst (AreTypes n) (unless_same s t (not (type == 0)) (sig_faults.Leftover at) e) h
    cases false e =
        subst (AreTypes n) (unless_same (signatures.counted type s) t (signatures.is_wrong_type n type s) (sig_faults.BadType at) e)
        (added (unless_ok (signatures.is_wrong_type n type s) (sig_faults.BadType at) (Ok (signatures.counted type s)) t e).0)

character_read : (n at v : ℕ) (s t : Types) → AreTypes n s → v < 64 → signatures.character_types n at v s ≡ Ok t → AreTypes n t
character_read n at v s t h l e =
    let a = bind_ok (signatures.type_at n at (v % 4) s) (λ s0. signatures.type_at n at (v / 4 % 4) s0 >>= (λ s1. signatures.type_at n at (v / 16) s1)) t e in
    let b = bind_ok (signatures.type_at n at (v / 4 % 4) a.0) (λ s1. signatures.type_at n at (v / 16) s1) t a.2 in
    let first = type_read n at (v % 4) s a.0 h (omega arith) a.1 in
    let second = type_read n at (v / 4 % 4) a.0 b.0 first (omega arith) b.1 in
    type_read n at (v / 16) b.0 t second (omega arith) b.2

first_same : (s t : Types) (at next : ℕ) → ok_of {A = Types × ℕ} (s, at) ≡ ok_of (t, next) → s ≡ t
first_same s t at next e = let p = ok_same {A = Types × ℕ} (s, at) (t, next) e in λ i. (p i).0

types_read : (m : ℕ) (text : List ℕ) (n at : ℕ) (s t : Types) (next : ℕ) → AreTypes n s → types_from m text n at s ≡ Ok (t, next) → AreTypes n t
unfolding types_from
types_read zero text n at s t next h e = let same : s ≡ t = first_same s t at next e in subst (AreTypes n) same h
types_read (suc m) text n at s t next h e = cases (s.left == 0) (signatures.value_at text at >>= behind_character text n at m s) e
    (λ e'. let a = bind_ok (signatures.value_at text at) (behind_character text n at m s) (t, next) e' in
    let b = bind_ok (signatures.character_types n at a.0 s) (λ t. types_from m text n (at + 1) t) (t, next) a.2 in
    types_read m text n (at + 1) b.0 t next (character_read n at a.0 s b.0 h (value_at_below text at a.0 a.1) b.1) b.2)
  where
    cases : (b : Bool) (r : Result (Types × ℕ) SigFault) → (if b then Ok (s, at) else r) ≡ Ok (t, next) → (r ≡ Ok (t, next) → AreTypes n t) → AreTypes n t
    cases true r e f = let same : s ≡ t = first_same s t at next e in subst (AreTypes n) same h
    cases false r e f = f e

-- the sections that were read can be joined
pub parts_fit : (text : List ℕ) (h : signatures.Head) (s : Types) (at : ℕ) (p : signatures.Parts) → h.count ≤ 1000
    → types_from (4 * h.count) text h.count h.next (types_begun h.count) ≡ Ok (s, at) → parts_of text h s at ≡ Ok p → 0 < h.count → IsSlots h.count (slots_begun h.count p)
parts_fit text h s at p limited types parts some =
    let known = types_read (4 * h.count) text h.count h.next (types_begun h.count) s at begun types in
    let twos : ℕ = times_in s.read 2 in
    let gluings_at : ℕ = at + h.width * twos in
    let ds : Result (List (ℕ × ℕ)) SigFault = numbers_in twos text h.width h.count sig_faults.Destination at in
    let gs : Result (List (ℕ × ℕ)) SigFault = numbers_in twos text 1 24 sig_faults.Gluing gluings_at in
    let late : Bool = nat_lt (s.ones + 1) h.count in
    let more : Bool = nat_lt (gluings_at + twos) (length text) in
    let made : List (ℕ × ℕ) → List (ℕ × ℕ) → signatures.Parts = λ d g. record { types = s.read; destinations = d; gluings = g } in
    let a = bind_ok (signatures.unless late sig_faults.Unreached ds) (λ d. gs >>= (λ g. signatures.unless more (sig_faults.Trailing (gluings_at + twos)) (Ok (made d g)))) p parts in
    let b = bind_ok gs (λ g. signatures.unless more (sig_faults.Trailing (gluings_at + twos)) (Ok (made a.0 g))) p a.2 in
    let same : made a.0 b.0 ≡ p = unless_same (made a.0 b.0) p more (sig_faults.Trailing (gluings_at + twos)) b.2 in
    let d = numbers_read twos text h.width h.count sig_faults.Destination at a.0 (unless_ok late sig_faults.Unreached ds a.0 a.1).1 in
    let g = numbers_read twos text 1 24 sig_faults.Gluing gluings_at b.0 b.1 in
    let P : signatures.Parts → Type 0 = λ q. IsSlots h.count (slots_begun h.count q) in
    subst P same (record {
      size = length-replicate (4 * h.count) None;
      limited = limited;
      small = known.small;
      destinations = d.count;
      gluings = g.count;
      indices = g.small;
      room = let o = known.ones in let l = known.limited some in omega (arith, o, l);
    })
  where
    begun : AreTypes h.count (types_begun h.count)
    begun = record { small = λ k d l. absurd (omega arith); ones = refl; limited = λ l. l }

-- the phases up to the last one

split : {D G P R : Type 0} (r : Result D SigFault) (q : Result G SigFault) (b : Bool) (f : SigFault) (make : D → G → P) (k : P → Result R SigFault)
    → ((r >>= (λ d. q >>= (λ g. signatures.unless b f (Ok (make d g))))) >>= k) ≡ (r >>= (λ d. q >>= (λ g. signatures.unless b f (k (make d g)))))
split (Ok d) (Ok g) true f make k = refl
split (Ok d) (Ok g) false f make k = refl
split (Ok d) (Err e) b f make k = refl
split (Err e) q b f make k = refl

pub after_types-parts : (text : List ℕ) (h : signatures.Head) (s : Types) (at : ℕ) → (parts_of text h s at >>= signatures.table_of h.count) ≡ signatures.after_types text h s at
after_types-parts text h s at =
    let twos : ℕ = times_in s.read 2 in
    let gluings_at : ℕ = at + h.width * twos in
    split (signatures.unless (nat_lt (s.ones + 1) h.count) sig_faults.Unreached (numbers_in twos text h.width h.count sig_faults.Destination at))
    (numbers_in twos text 1 24 sig_faults.Gluing gluings_at) (nat_lt (gluings_at + twos) (length text)) (sig_faults.Trailing (gluings_at + twos))
    (λ d g. record { types = s.read; destinations = d; gluings = g }) (signatures.table_of h.count)

-- what a text spells after its head is read
abbrev pub behind_head : List ℕ → signatures.Head → Result (List Row) SigFault
behind_head text h = types_from (4 * h.count) text h.count h.next (types_begun h.count) >>= (λ s. signatures.after_types text h s.0 s.1)

pub signature_table-head : (text : List ℕ) → signature_table text ≡ (signatures.head_of text >>= behind_head text)
unfolding signature_table
signature_table-head text = refl

pub signature_table-types : (text : List ℕ) (h : signatures.Head) → signatures.head_of text ≡ Ok h → signature_table text ≡ behind_head text h
signature_table-types text h e = signature_table-head text ∙ next_ok (signatures.head_of text) h (behind_head text) e

pub signature_table-parts : (text : List ℕ) (h : signatures.Head) (s : Types) (at : ℕ) → signatures.head_of text ≡ Ok h → types_from (4 * h.count) text h.count h.next (types_begun h.count) ≡ Ok (s, at)
    → (parts_of text h s at >>= signatures.table_of h.count) ≡ signature_table text
signature_table-parts text h s at e f =
    after_types-parts text h s at
    ∙ sym (next_ok (types_from (4 * h.count) text h.count h.next (types_begun h.count)) (s, at) (λ s. signatures.after_types text h s.0 s.1) f)
    ∙ sym (signature_table-types text h e)

pub signature_table-joined : (text : List ℕ) (h : signatures.Head) (s : Types) (at : ℕ) (p : signatures.Parts) (n : ℕ) → signatures.head_of text ≡ Ok h
    → types_from (4 * h.count) text h.count h.next (types_begun h.count) ≡ Ok (s, at) → parts_of text h s at ≡ Ok p → n ≡ h.count → signatures.table_of n p ≡ signature_table text
signature_table-joined text h s at p n e f g same =
    ap (λ k. signatures.table_of k p) same ∙ sym (next_ok (parts_of text h s at) p (signatures.table_of h.count) g) ∙ signature_table-parts text h s at e f
