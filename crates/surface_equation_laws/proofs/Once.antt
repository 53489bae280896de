-- Lists in which no item occurs twice.
use Rattle.std.proofs.Common.{◌≡◌, ℕ, ◌+◌, ◌≤◌, Bool, true, false, cond, List, [], ◌∷◌, inl, inr, refl, sym, ap, subst, arith}
use Rattle.std.specs.Prelude.{◌==◌, count_by}
use Rattle.std.proofs.lemmas.Bool.{eq-eqb, false_from_ne_true}
use Rattle.std.proofs.lemmas.List.Sums.{sum_by-cons}
use Rattle.table_definitions.specs.Lists.{times_in}
use Rattle.table_definitions.proofs.TableLaws.{Among}
use Rattle.surface_laws.proofs.Counting.{sum_by-none}
use Rattle.table_definitions.proofs.DistinctLists.{AreApart}
use Rattle.surface_equation_laws.specs.Entries.{IsOnce}
use Rattle.basic_lemmas.proofs.Truths.{one_if}

-- if any two items that pass are equal, at most one passes
pub count_one : {A : Type 0} (p : A → Bool) (xs : List A) → AreApart xs → ((x y : A) → Among x xs → Among y xs → p x ≡ true → p y ≡ true → x ≡ y) → count_by p xs ≤ 1
count_one p [] once same = omega arith
count_one {A} p (c ∷ cs) once same = go (p c) refl (count_one p cs once.1 (λ a b x y. same a b (inr x) (inr y)))
  where
    none : p c ≡ true → count_by p cs ≡ 0
    none e = sum_by-none (λ d. cond (p d) 1 0) cs (λ d m.
        let off : p d ≡ false = false_from_ne_true (p d) (λ t. once.0 (let s : d ≡ c = same d c (inr m) (inl refl) t e in subst (λ (k : A). Among k cs) s m)) in
        ap (λ b. cond b 1 0) off)

    go : (b : Bool) → p c ≡ b → count_by p cs ≤ 1 → count_by p (c ∷ cs) ≤ 1
    go true e more = let z = none e in let s : one_if (p c) ≡ 1 = ap one_if e in omega (arith, sum_by-cons (λ d. cond (p d) 1 0) c cs)
    go false e more = let s : one_if (p c) ≡ 0 = ap one_if e in omega (arith, sum_by-cons (λ d. cond (p d) 1 0) c cs)

among_times : (c : ℕ) (cs : List ℕ) → Among c cs → 1 ≤ times_in cs c
among_times c [] h = absurd h
among_times c (d ∷ cs) (inl e) =
    let s : one_if (d == c) ≡ 1 = ap one_if (eq-eqb d c (sym e)) in
    omega (arith, sum_by-cons (λ m. cond (m == c) 1 0) d cs)
among_times c (d ∷ cs) (inr h) = let more : 1 ≤ times_in cs c = among_times c cs h in omega (arith, sum_by-cons (λ m. cond (m == c) 1 0) d cs)

once_tail : (c : ℕ) (cs : List ℕ) → IsOnce (c ∷ cs) → IsOnce cs
once_tail c cs once d = let w = once d in omega (arith, sum_by-cons (λ m. cond (m == d) 1 0) c cs)

once_head : (c : ℕ) (cs : List ℕ) → IsOnce (c ∷ cs) → Among c cs → ⊥
once_head c cs once h =
    let w : times_in (c ∷ cs) c ≤ 1 = once c in
    let more : 1 ≤ times_in cs c = among_times c cs h in
    let s : one_if (c == c) ≡ 1 = ap one_if (eq-eqb c c refl) in
    let t : times_in (c ∷ cs) c ≡ one_if (c == c) + times_in cs c = sum_by-cons (λ m. cond (m == c) 1 0) c cs in
    omega arith

pub apart_once : (cs : List ℕ) → IsOnce cs → AreApart cs
apart_once [] once = tt
apart_once (c ∷ cs) once = (once_head c cs once, apart_once cs (once_tail c cs once))
