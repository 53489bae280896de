-- Each row that an order names is determined by the rows before it.
use Rattle.std.proofs.Common.{◌≡◌, ◌≢◌, ℕ, zero, suc, ◌≤◌, inl, inr, Bool, List, [], ◌∷◌, ◌++◌, length, take, get_or, add-one, subst, sym, ap₂, refl, ◌∙◌, arith}
use Rattle.std.specs.List.{IsFirstBest}
use Rattle.std.proofs.lemmas.Bool.{false≢true, cases_order}
use Rattle.std.proofs.lemmas.List.{take_all, take_more}
use Rattle.basic_lemmas.proofs.Members.{same_numbers}
use Rattle.basic_lemmas.proofs.Lists.{take_none}
use Rattle.cone_definitions.specs.Systems.{System}
use Rattle.cone_definitions.specs.declared.Order.{Order}
use Rattle.cone_definitions.specs.declared.Order.TheVariants.{Given, Short, Zeros, Free}
use Rattle.cone_definitions.specs.Orders.{prefers, IsNamed, IsNamedTurn, AreNamed}

best_one : {X : Type 0} (beats : X → X → Bool) (xs : List X) (d : X) (n p q : ℕ) → IsFirstBest beats xs n p → IsFirstBest beats xs n q → p ≡ q
best_one beats xs d n p q h k = elim (cases_order p q) [
  | inl e ↦ e
  | inr (inl less) ↦ absurd (false≢true (sym (h.1 q d k.0) ∙ k.2 p d less))
  | inr (inr more) ↦ absurd (false≢true (sym (k.1 p d h.0) ∙ h.2 q d more))
]

-- the position that an order names is unique
named_one : (order : Order) (system : System) (left : List ℕ) (p q : ℕ) → order ≢ Free → IsNamed order system left p → IsNamed order system left q → p ≡ q
named_one Given system left p q some h k = best_one (prefers Given system) left 0 (length left) p q h k
named_one Short system left p q some h k = best_one (prefers Short system) left 0 (length left) p q h k
named_one Zeros system left p q some h k = best_one (prefers Zeros system) left 0 (length left) p q h k
named_one Free system left p q some h k = absurd (some refl)

turn_one : (order : Order) (system : System) (taken : List ℕ) (n m : ℕ) → order ≢ Free → IsNamedTurn order system taken n → IsNamedTurn order system taken m → n ≡ m
turn_one order system taken n m some s t =
    let e = same_numbers s.left t.left s.left_of.ascending t.left_of.ascending
    (λ z c. (t.left_of.members z).1 ((s.left_of.members z).0 c)) (λ z c. (s.left_of.members z).1 ((t.left_of.members z).0 c)) in
    let p = named_one order system t.left s.position t.position some (subst (λ (l : List ℕ). IsNamed order system l s.position) e s.named) t.named in
    sym s.is ∙ ap₂ (λ (l : List ℕ) (k : ℕ). get_or l k 0) e p ∙ t.is

agree : (order : Order) (system : System) (xs ys : List ℕ) → order ≢ Free → AreNamed order system xs → AreNamed order system ys →
    (k : ℕ) → k ≤ length xs → k ≤ length ys → take k xs ≡ take k ys
agree order system xs ys some hx hy zero lx ly = take_none xs ∙ sym (take_none ys)
agree order system xs ys some hx hy (suc k) lx ly =
    let e = agree order system xs ys some hx hy k (omega arith) (omega arith) in
    let number = turn_one order system (take k xs) (get_or xs k 0) (get_or ys k 0) some (hx k (omega arith)) (subst (λ (t : List ℕ). IsNamedTurn order system t (get_or ys k 0)) (sym e) (hy k (omega arith))) in
    subst (λ (n : ℕ). take n xs ≡ take n ys) (add-one k)
    (take_more xs k 0 (omega arith) ∙ ap₂ (λ (front : List ℕ) (last : ℕ). front ++ last ∷ []) e number ∙ sym (take_more ys k 0 (omega arith)))

pub one_named_order_lem : (order : Order) (system : System) (xs ys : List ℕ) → order ≢ Free → AreNamed order system xs → AreNamed order system ys →
    length xs ≤ length ys → xs ≡ take (length xs) ys
one_named_order_lem order system xs ys some hx hy less =
    sym (take_all (length xs) xs (omega arith)) ∙ agree order system xs ys some hx hy (length xs) (omega arith) less
