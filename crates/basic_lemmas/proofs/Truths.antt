-- Facts of truth values.
use Rattle.std.proofs.Common.{◌≡◌, ◌≤◌, ℕ, Bool, true, false, cond, ◌⊎◌, inl, inr, refl, sym, arith}
use Rattle.std.specs.Prelude.{not, if◌then◌else◌, IsTrue}

-- 1 if a truth value is true, and else 0
abbrev pub one_if : Bool → ℕ
one_if b = cond b 1 0

-- a number or 0 is at most the number
pub chosen_at_most : (b : Bool) (n : ℕ) → (if b then n else 0) ≤ n
chosen_at_most true n = omega arith
chosen_at_most false n = omega arith

pub true_or_false : (b : Bool) → (b ≡ true) ⊎ (b ≡ false)
true_or_false true = inl refl
true_or_false false = inr refl

pub by_bool : {P : Type 0} (b : Bool) → (b ≡ true → P) → (b ≡ false → P) → P
by_bool true on off = on refl
by_bool false on off = off refl

pub not_itself : (b : Bool) → b ≡ not b → ⊥
not_itself true e = cc
not_itself false e = cc

-- truth values that are true in the same cases are equal
pub same_truth : (a b : Bool) → (IsTrue a → IsTrue b) → (IsTrue b → IsTrue a) → a ≡ b
same_truth true b f g = sym (f refl)
same_truth false true f g = g refl
same_truth false false f g = refl

-- two truth values that agree, from either side
pub agree_if : (x y : Bool) → (if y then x else not x) ≡ (if x then y else not y)
agree_if true true = refl
agree_if true false = refl
agree_if false true = refl
agree_if false false = refl

pub if_true : {A : Type 0} (b : Bool) (x y : A) → b ≡ true → (if b then x else y) ≡ x
if_true b x y h = rw h refl

pub if_false : {A : Type 0} (b : Bool) (x y : A) → b ≡ false → (if b then x else y) ≡ y
if_false b x y h = rw h refl
