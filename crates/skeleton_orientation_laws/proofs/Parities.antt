-- Signs of tetrahedra and the order of the vertices of a corner: both change, or neither does, from corner to corner
-- around an edge.
use Rattle.std.proofs.Common.{◌≡◌, ℕ, Bool, true, false, List, [], ◌∷◌, length, Some, refl, sym, ap, ◌∙◌}
use Rattle.std.specs.Prelude.{not, ◌==◌, ◌&&◌, ◌||◌, if◌then◌else◌}
use Rattle.std.specs.Bool.{beq}
use Rattle.std.specs.List.{list_all}
use Rattle.std.proofs.lemmas.Bool.{and_from, eq-eqb}
use Rattle.table_definitions.specs.Lists.{same_list}
use Rattle.table_definitions.specs.Permutation.{IsPermutationOfFour, image, compose, is_odd, inversions, words}
use Rattle.table_definitions.specs.Table.{Gluing, Row, glue, IsTable}
use Rattle.table_definitions.proofs.ListFacts.{same_list-true}
use Rattle.table_definitions.proofs.PermutationLaws.{is_odd-compose}
use Rattle.table_definitions.proofs.Permutations.{by_pairs, compose_permutes}
use Rattle.skeleton_definitions.specs.Corners.{Corner, corner_across}
use Rattle.skeleton_definitions.specs.Orientation.{sign_of, AreSigns}
use Rattle.skeleton_class_laws.specs.Rounds.{corner_word, swap}
use Rattle.skeleton_class_laws.proofs.RoundLemmas.{swap_permutes}
use Rattle.skeleton_orientation_laws.proofs.Reversed.{IsCorner, reversed}

-- the sign of the tetrahedron if the order of the vertices is even, and the opposite sign if it is odd
abbrev pub turning : List Bool → Corner → Bool
turning signs k = if is_odd (corner_word k) then not (sign_of signs k.tet) else sign_of signs k.tet

both_change : (g w s : Bool) → (if (if (if g then not w else w) then not true else true) then not (if g then s else not s) else (if g then s else not s)) ≡ (if w then not s else s)
both_change true true true = refl
both_change true true false = refl
both_change true false true = refl
both_change true false false = refl
both_change false true true = refl
both_change false true false = refl
both_change false false true = refl
both_change false false false = refl

swap_odd : is_odd swap ≡ true
unfolding is_odd inversions
swap_odd = refl

word_across : (k : Corner) (g : Gluing) → corner_word (corner_across k g) ≡ compose (compose g.perm (corner_word k)) swap
unfolding compose
word_across k g = refl

across_order : (k : Corner) (g : Gluing) → IsPermutationOfFour g.perm → IsPermutationOfFour (corner_word k)
    → is_odd (corner_word (corner_across k g)) ≡ (if (if is_odd g.perm then not (is_odd (corner_word k)) else is_odd (corner_word k)) then not true else true)
across_order k g hg hk =
    ap is_odd (word_across k g)
    ∙ is_odd-compose (compose g.perm (corner_word k)) swap (compose_permutes g.perm (corner_word k) hg hk) swap_permutes
    ∙ (λ i. if is_odd-compose g.perm (corner_word k) hg hk i then not (swap_odd i) else swap_odd i)

pub across_turning : (rows : List Row) (signs : List Bool) → IsTable rows → AreSigns rows signs → (k : Corner) (f : ℕ) (g : Gluing) → IsCorner (length rows) k → glue rows (record { tet = k.tet; face = f }) ≡ Some g
    → turning signs (corner_across k g) ≡ turning signs k
across_turning rows signs table are k f g h e =
    (λ i. if across_order k g (table.permutes _ g e) h.four i then not (are.agree _ g e i) else are.agree _ g e i)
    ∙ both_change (is_odd g.perm) (is_odd (corner_word k)) (sign_of signs k.tet)

-- the order of two vertices and whether the order of all four is odd determine the order of the other two
abbrev exchanged : List ℕ
exchanged = 1 ∷ 0 ∷ 3 ∷ 2 ∷ []

is_reversed : List ℕ → List ℕ → Bool
is_reversed p q = not (((image q 0 == image p 1) && (image q 1 == image p 0)) && beq (is_odd p) (is_odd q)) || same_list q (compose p exchanged)

reversed_tests : list_all (λ p. list_all (is_reversed p) words) words ≡ true
unfolding is_reversed is_odd inversions compose
reversed_tests = refl

reversed_orders : (p q : List ℕ) → IsPermutationOfFour p → IsPermutationOfFour q → image q 0 ≡ image p 1 → image q 1 ≡ image p 0 → is_odd p ≡ is_odd q → q ≡ compose p exchanged
unfolding is_reversed
reversed_orders p q hp hq first second odd = same_list-true q (compose p exchanged) (go _ (and_from _ _ (and_from _ _ (eq-eqb _ _ first) (eq-eqb _ _ second)) (equal (is_odd p) (is_odd q) odd)) tests)
  where
    equal : (a b : Bool) → a ≡ b → beq a b ≡ true
    equal true true e = refl
    equal false false e = refl
    equal true false e = sym e
    equal false true e = e

    go : (b : Bool) {c : Bool} → b ≡ true → (not b || c) ≡ true → c ≡ true
    go true e t = t
    go false e t = absurd cc

    tests : is_reversed p q ≡ true
    tests = by_pairs is_reversed reversed_tests p q hp hq

one_order : (a b s : Bool) → (if a then not s else s) ≡ (if b then not s else s) → a ≡ b
one_order true true s e = refl
one_order false false s e = refl
one_order true false true e = sym e
one_order true false false e = e
one_order false true true e = sym e
one_order false true false e = e

at_two : (p : List ℕ) → image (compose p exchanged) 2 ≡ image p 3
unfolding compose
at_two p = refl

at_three : (p : List ℕ) → image (compose p exchanged) 3 ≡ image p 2
unfolding compose
at_three p = refl

pub one_reversed : (n : ℕ) (signs : List Bool) (k l : Corner) → IsCorner n k → IsCorner n l → l.tet ≡ k.tet → l.a ≡ k.b → l.b ≡ k.a → turning signs l ≡ turning signs k → l ≡ reversed k
one_reversed n signs k l hk hl tet first second e =
    let odd : is_odd (corner_word k) ≡ is_odd (corner_word l) =
    one_order (is_odd (corner_word k)) (is_odd (corner_word l)) (sign_of signs k.tet) (sym e ∙ (λ i. if is_odd (corner_word l) then not (sign_of signs (tet i)) else sign_of signs (tet i))) in
    let word : corner_word l ≡ compose (corner_word k) exchanged = reversed_orders (corner_word k) (corner_word l) hk.four hl.four first second odd in
    let third : l.c ≡ k.d = ap (λ w. image w 2) word ∙ at_two (corner_word k) in
    let last : l.d ≡ k.c = ap (λ w. image w 3) word ∙ at_three (corner_word k) in
    λ i. record { tet = tet i; a = first i; b = second i; c = third i; d = last i }
