-- The words of moves and of steps, and the cores that they spell.
use Rattle.std.proofs.Common.{◌≡◌, ℕ, zero, suc, ◌<◌, Bool, true, false, inl, inr, ⊎_elim, List, [], ◌∷◌, Option, Some, None, refl, sym, subst, arith}
use Rattle.std.specs.Prelude.{◌⊎◌, ◌&&◌, nat_lt, find, if◌then◌else◌, codes}
use Rattle.std.specs.List.{list_all}
use Rattle.std.proofs.lemmas.Bool.{and_parts, ltb-true, false≢true}
use Rattle.table_definitions.specs.Lists.{same_list}
use Rattle.table_definitions.specs.Permutation.{digits_of}
use Rattle.table_definitions.specs.Places.{edge_ends}
use Rattle.table_definitions.proofs.ListFacts.{same_list-true}
use Rattle.move_definitions.specs.MoveText.{MoveKind, one_four, two_three, three_two, four_one, move_kind, spelled, single, Step, undo, redo, step_word}

-- the word of each kind
abbrev pub kind_word : MoveKind → List ℕ
kind_word one_four = codes "14"
kind_word two_three = codes "23"
kind_word three_two = codes "32"
kind_word four_one = codes "41"

-- a word is the first name, or one of the others
first_named : {A : Type 0} (w v : List ℕ) (a : A) (rest : Option A) (k : A) → (if same_list w v then Some a else rest) ≡ Some k → ((w ≡ v) × (a ≡ k)) ⊎ (rest ≡ Some k)
first_named {A} w v a rest k e = by_test (same_list w v) refl e
  where
    by_test : (b : Bool) → same_list w v ≡ b → if◌then◌else◌ {A = Option A} b (Some a) rest ≡ Some k → ((w ≡ v) × (a ≡ k)) ⊎ (rest ≡ Some k)
    by_test true t e = inl (same_list-true w v t, cc)
    by_test false t e = inr e

pub kind_named : (w : List ℕ) (k : MoveKind) → move_kind w ≡ Some k → w ≡ kind_word k
kind_named w k e =
    ⊎_elim (named one_four)
    (λ e2. ⊎_elim (named two_three) (λ e3. ⊎_elim (named three_two) (λ e4. ⊎_elim (named four_one) (λ e5. absurd cc) (first_named w (codes "41") four_one None k e4)) (first_named w (codes "32") three_two _ k e3)) (first_named w (codes "23") two_three _ k e2))
    (first_named w (codes "14") one_four _ k e)
  where
    named : (j : MoveKind) → (w ≡ kind_word j) × (j ≡ k) → w ≡ kind_word k
    named j p = subst (λ i. w ≡ kind_word i) p.1 p.0

-- the word of each step other than a move
abbrev pub names_step : Step → List ℕ → Type 0
names_step undo w = w ≡ codes "undo"
names_step redo w = w ≡ codes "redo"
names_step other w = ⊥

pub step_named : (w : List ℕ) (s : Step) → step_word w ≡ Some s → names_step s w
step_named w s e =
    ⊎_elim (λ p. subst (λ t. names_step t w) p.1 p.0)
    (λ e2. ⊎_elim (λ p. subst (λ t. names_step t w) p.1 p.0) (λ e3. absurd cc) (first_named w (codes "redo") redo None s e2))
    (first_named w (codes "undo") undo _ s e)

-- an item that is found passes the test, and each test that all items pass
find_sound : {A : Type 0} (t q : A → Bool) (xs : List A) (x : A) → list_all q xs ≡ true → find t xs ≡ Some x → (t x ≡ true) × (q x ≡ true)
find_sound t q [] x h e = absurd cc
find_sound {A} t q (y ∷ ys) x h e = by_test (t y) refl (λ f. find_sound t q ys x parts.1 f) e
  where
    parts : (q y ≡ true) × (list_all q ys ≡ true)
    parts = and_parts (q y) (list_all q ys) h

    by_test : (b : Bool) → t y ≡ b → (find t ys ≡ Some x → (t x ≡ true) × (q x ≡ true)) → if◌then◌else◌ {A = Option A} b (Some y) (find t ys) ≡ Some x → (t x ≡ true) × (q x ≡ true)
    by_test true g later f = let same : y ≡ x = cc in (subst (λ z. t z ≡ true) same g, subst (λ z. q z ≡ true) same parts.0)
    by_test false g later f = later f

abbrev is_one : List ℕ → Bool
is_one [] = false
is_one (v ∷ []) = nat_lt v 4
is_one (v ∷ w ∷ vs) = false

abbrev is_pair : List ℕ → Bool
is_pair [] = false
is_pair (a ∷ []) = false
is_pair (a ∷ b ∷ []) = nat_lt a b && nat_lt b 4
is_pair (a ∷ b ∷ c ∷ vs) = false

-- a word that spells a vertex, or the ends of an edge
pub vertex_spelled : (w vs : List ℕ) → spelled single w ≡ Some vs → (v : ℕ) × (v < 4) × (vs ≡ v ∷ []) × (w ≡ digits_of (v ∷ []))
vertex_spelled w vs e =
    let found : (same_list (digits_of vs) w ≡ true) × (is_one vs ≡ true) = find_sound (λ us. same_list (digits_of us) w) is_one single vs refl e in
    by_list vs found.0 found.1
  where
    by_list : (us : List ℕ) → same_list (digits_of us) w ≡ true → is_one us ≡ true → (v : ℕ) × (v < 4) × (us ≡ v ∷ []) × (w ≡ digits_of (v ∷ []))
    by_list [] s q = absurd (false≢true q)
    by_list (v ∷ []) s q = (v, ltb-true v 4 q, refl, sym (same_list-true (digits_of (v ∷ [])) w s))
    by_list (v ∷ u ∷ us) s q = absurd (false≢true q)

pub edge_spelled : (w vs : List ℕ) → spelled edge_ends w ≡ Some vs → (a : ℕ) × (b : ℕ) × (a < b) × (b < 4) × (vs ≡ a ∷ b ∷ []) × (w ≡ digits_of (a ∷ b ∷ []))
edge_spelled w vs e =
    let found : (same_list (digits_of vs) w ≡ true) × (is_pair vs ≡ true) = find_sound (λ us. same_list (digits_of us) w) is_pair edge_ends vs refl e in
    by_list vs found.0 found.1
  where
    by_list : (us : List ℕ) → same_list (digits_of us) w ≡ true → is_pair us ≡ true → (a : ℕ) × (b : ℕ) × (a < b) × (b < 4) × (us ≡ a ∷ b ∷ []) × (w ≡ digits_of (a ∷ b ∷ []))
    by_list [] s q = absurd (false≢true q)
    by_list (a ∷ []) s q = absurd (false≢true q)
    by_list (a ∷ b ∷ []) s q = let tests : (nat_lt a b ≡ true) × (nat_lt b 4 ≡ true) = and_parts (nat_lt a b) (nat_lt b 4) q in
        (a, b, ltb-true a b tests.0, ltb-true b 4 tests.1, refl, sym (same_list-true (digits_of (a ∷ b ∷ [])) w s))
    by_list (a ∷ b ∷ c ∷ us) s q = absurd (false≢true q)

-- each vertex, and each edge, is spelled by its digits
pub spelled-vertex : (v : ℕ) → v < 4 → spelled single (digits_of (v ∷ [])) ≡ Some (v ∷ [])
spelled-vertex zero l = refl
spelled-vertex (suc zero) l = refl
spelled-vertex (suc (suc zero)) l = refl
spelled-vertex (suc (suc (suc zero))) l = refl
spelled-vertex (suc (suc (suc (suc n)))) l = absurd (omega arith)

pub spelled-edge : (a b : ℕ) → a < b → b < 4 → spelled edge_ends (digits_of (a ∷ b ∷ [])) ≡ Some (a ∷ b ∷ [])
spelled-edge a zero l m = absurd (omega arith)
spelled-edge zero (suc zero) l m = refl
spelled-edge (suc a) (suc zero) l m = absurd (omega arith)
spelled-edge zero (suc (suc zero)) l m = refl
spelled-edge (suc zero) (suc (suc zero)) l m = refl
spelled-edge (suc (suc a)) (suc (suc zero)) l m = absurd (omega arith)
spelled-edge zero (suc (suc (suc zero))) l m = refl
spelled-edge (suc zero) (suc (suc (suc zero))) l m = refl
spelled-edge (suc (suc zero)) (suc (suc (suc zero))) l m = refl
spelled-edge (suc (suc (suc a))) (suc (suc (suc zero))) l m = absurd (omega arith)
spelled-edge a (suc (suc (suc (suc b)))) l m = absurd (omega arith)
