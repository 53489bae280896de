-- Rows are a table if and only if no error is found in them.
use Rattle.std.proofs.Common.{◌≡◌, ℕ, zero, suc, ◌+◌, ◌<◌, ◌≤◌, Bool, true, false, eqb, List, [], ◌∷◌, ◌++◌, length, map, Option, Some, None, ◌⊎◌, inl, inr, refl, sym, ap, ◌∙◌, subst, arith, ⊎_elim}
use Rattle.std.specs.Prelude.{nat_lt, not, All, if◌then◌else◌}
use Rattle.std.specs.Option.{option_or}
use Rattle.std.specs.List.{range_with_len, slice_index_or}
use Rattle.std.proofs.lemmas.List.{get_or_past}
use Rattle.std.proofs.lemmas.Bool.{eqb-true, ltb-true, ltb-false, lt-ltb, le-ltb, and_parts, and_from, false≢true, cases_eq, cases_lt, not-true, not-false, not_from_false, eq-eqb}
use Rattle.basic_lemmas.proofs.Options.{both_none}
use Rattle.table_definitions.specs.Lists.{below, same_list, first_some, pairs_of}
use Rattle.table_definitions.specs.Permutation.{four, IsPermutationOfFour}
use Rattle.table_definitions.specs.declared.TableFault.TheVariants.{TooMany, NoSuchTet, SelfGlued, NotMutual}
use Rattle.table_definitions.specs.Table.{max_tets, Gluing, Row, Face, glue, other_side, inverse_gluing, faces, same_face, IsTable, is_glued_by, gluing_fault, table_fault}
use Rattle.table_definitions.proofs.ListLaws.{same_list_from}
use Rattle.table_definitions.proofs.ListFacts.{same_list-true}

-- x occurs in the list
abbrev pub Among : {A : Type 0} → A → List A → Type 0
Among x [] = ⊥
Among x (y ∷ ys) = (x ≡ y) ⊎ Among x ys

pub Among-left : {A : Type 0} (x : A) (ys zs : List A) → Among x ys → Among x (ys ++ zs)
Among-left x [] zs h = absurd h
Among-left x (y ∷ ys) zs (inl e) = inl e
Among-left x (y ∷ ys) zs (inr h) = inr (Among-left x ys zs h)

pub Among-right : {A : Type 0} (x : A) (ys zs : List A) → Among x zs → Among x (ys ++ zs)
Among-right x [] zs h = h
Among-right x (y ∷ ys) zs h = inr (Among-right x ys zs h)

pub Among-map : {A B : Type 0} (f : A → B) (x : A) (ys : List A) → Among x ys → Among (f x) (map f ys)
Among-map f x [] h = absurd h
Among-map f x (y ∷ ys) (inl e) = inl (ap f e)
Among-map f x (y ∷ ys) (inr h) = inr (Among-map f x ys h)

pub Among-range : (t a n : ℕ) → a ≤ t → t < a + n → Among t (range_with_len a n)
Among-range t a zero low high = absurd (omega arith)
Among-range t a (suc n) low high =
    ⊎_elim (λ (e : t ≡ a). inl e)
    (λ (separate : t ≡ a → ⊥). let above : a + 1 ≤ t = omega arith in let under : t < a + 1 + n = omega arith in inr (Among-range t (a + 1) n above under))
    (cases_eq t a)

pub Among-below : (t n : ℕ) → t < n → Among t (below n)
Among-below t n h = let low : 0 ≤ t = omega arith in let high : t < 0 + n = omega arith in Among-range t 0 n low high

pub Among-pairs : {A B : Type 0} (x : A) (y : B) (xs : List A) (ys : List B) → Among x xs → Among y ys → Among {A = A × B} (x, y) (pairs_of xs ys)
Among-pairs x y [] ys hx hy = absurd hx
Among-pairs {A} {B} x y (z ∷ xs) ys (inl e) hy =
    let here : Among {A = A × B} (x, y) (map (λ (w : B). (z, w)) ys) = subst (λ (u : A). Among {A = A × B} (u, y) (map (λ (w : B). (z, w)) ys)) (sym e) (Among-map (λ (w : B). (z, w)) y ys hy) in
    Among-left {A = A × B} (x, y) (map (λ (w : B). (z, w)) ys) (pairs_of xs ys) here
Among-pairs {A} {B} x y (z ∷ xs) ys (inr h) hy = Among-right {A = A × B} (x, y) (map (λ (w : B). (z, w)) ys) (pairs_of xs ys) (Among-pairs x y xs ys h hy)

pub Among-four : (f : ℕ) → f < 4 → Among f four
Among-four f h = Among-below f 4 h

pub four-among : (f : ℕ) → Among f four → f < 4
four-among f (inl e) = omega arith
four-among f (inr (inl e)) = omega arith
four-among f (inr (inr (inl e))) = omega arith
four-among f (inr (inr (inr (inl e)))) = omega arith
four-among f (inr (inr (inr (inr h)))) = absurd h

pub Among-faces : (x : Face) (n : ℕ) → x.tet < n → x.face < 4 → Among x (faces n)
Among-faces x n ht hf =
    Among-map (λ (p : ℕ × ℕ). let y : Face = record { tet = p.0; face = p.1 } in y) (x.tet, x.face) (pairs_of (below n) four)
    (Among-pairs x.tet x.face (below n) four (Among-below x.tet n ht) (Among-four x.face hf))

pub first_some-none : {A B : Type 0} (f : A → Option B) (x : A) (ys : List A) → first_some f ys ≡ None → Among x ys → f x ≡ None
first_some-none f x [] e h = absurd h
first_some-none f x (y ∷ ys) e (inl s) = ap f s ∙ (both_none (f y) (first_some f ys) e).0
first_some-none f x (y ∷ ys) e (inr h) = first_some-none f x ys (both_none (f y) (first_some f ys) e).1 h

pub first_some_never : {A B : Type 0} (f : A → Option B) (xs : List A) → ((x : A) → f x ≡ None) → first_some f xs ≡ None
first_some_never f [] never = refl
first_some_never {A} {B} f (x ∷ xs) never = subst (λ (o : Option B). option_or o (first_some f xs) ≡ None) (sym (never x)) (first_some_never f xs never)

-- a face that is glued is in range
row_at-none : (rows : List Row) (t f : ℕ) → length rows ≤ t → slice_index_or (slice_index_or rows t []) f None ≡ None
row_at-none rows t f h = let e : slice_index_or rows t [] ≡ [] = get_or_past rows t [] h in rw e (get_or_past [] f None (omega arith))

pub glued_tet : (rows : List Row) (x : Face) (g : Gluing) → glue rows x ≡ Some g → x.tet < length rows
glued_tet rows x g e =
    ⊎_elim (λ (l : x.tet < length rows). l)
    (λ (out : length rows ≤ x.tet). let n : glue rows x ≡ None = row_at-none rows x.tet x.face out in absurd (let P : Option Gluing → Type 0 = λ o. o ≡ Some g in cc))
    (cases_lt x.tet (length rows))

pub glued_face : (rows : List Row) (x : Face) (g : Gluing) → All (λ (row : Row). length row ≡ 4) rows → glue rows x ≡ Some g → x.face < 4
glued_face rows x g fours e =
    ⊎_elim (λ (l : x.face < 4). l)
    (λ (out : 4 ≤ x.face).
    let four_long : length (slice_index_or rows x.tet []) ≡ 4 = fours x.tet [] (glued_tet rows x g e) in
    let exceeded : length (slice_index_or rows x.tet []) ≤ x.face = omega arith in
    let n : glue rows x ≡ None = get_or_past (slice_index_or rows x.tet []) x.face None exceeded in absurd cc)
    (cases_lt x.face 4)

-- a gluing that passes the test is this one
pub is_glued_by-true : (o : Option Gluing) (g : Gluing) → is_glued_by o g ≡ true → o ≡ Some g
is_glued_by-true None g e = absurd (false≢true e)
is_glued_by-true (Some h) g e =
    let parts : (eqb h.tet g.tet ≡ true) × (same_list h.perm g.perm ≡ true) = and_parts (eqb h.tet g.tet) (same_list h.perm g.perm) e in
    let tets : h.tet ≡ g.tet = eqb-true h.tet g.tet parts.0 in
    let perms : h.perm ≡ g.perm = same_list-true h.perm g.perm parts.1 in
    λ i. Some (record { tet = tets i; perm = perms i })

pub is_glued_by-itself : (g : Gluing) → is_glued_by (Some g) g ≡ true
is_glued_by-itself g = and_from (eqb g.tet g.tet) (same_list g.perm g.perm) (eq-eqb g.tet g.tet refl) (same_list_from g.perm g.perm refl)

is_glued_by-from : (o : Option Gluing) (g : Gluing) → o ≡ Some g → is_glued_by o g ≡ true
is_glued_by-from o g e = subst (λ (p : Option Gluing). is_glued_by p g ≡ true) (sym e) (is_glued_by-itself g)

pub guarded : {A : Type 0} (b : Bool) (f : A) (o : Option A) → (if b then Some f else o) ≡ None → (b ≡ false) × (o ≡ None)
guarded true f o e = absurd cc
guarded false f o e = (refl, e)

allowed : {A : Type 0} (b : Bool) (f : A) → (if b then None else Some f) ≡ None → b ≡ true
allowed true f e = refl
allowed false f e = absurd cc

-- a gluing without an error
record IsFine (rows : List Row) (x : Face) (g : Gluing) : Type 0 where
  in_range : g.tet < length rows
  separate : same_face (other_side x g) x ≡ false
  leads_back : glue rows (other_side x g) ≡ Some (inverse_gluing x g)

fine_at : (rows : List Row) (x : Face) (g : Gluing) → gluing_fault rows x (Some g) ≡ None → IsFine rows x g
fine_at rows x g e =
    let inside : Bool = nat_lt g.tet (length rows) in
    let itself : Bool = same_face (other_side x g) x in
    let back : Bool = is_glued_by (glue rows (other_side x g)) (inverse_gluing x g) in
    let p : (not inside ≡ false) × ((if itself then Some (SelfGlued x.tet x.face) else (if back then None else Some (NotMutual x.tet x.face))) ≡ None) = guarded (not inside) (NoSuchTet x.tet x.face) (if itself then Some (SelfGlued x.tet x.face) else (if back then None else Some (NotMutual x.tet x.face))) e in
    let q : (itself ≡ false) × ((if back then None else Some (NotMutual x.tet x.face)) ≡ None) = guarded itself (SelfGlued x.tet x.face) (if back then None else Some (NotMutual x.tet x.face)) p.1 in
    record {
      in_range = ltb-true g.tet (length rows) (not-false inside p.0);
      separate = q.0;
      leads_back = is_glued_by-true (glue rows (other_side x g)) (inverse_gluing x g) (allowed back (NotMutual x.tet x.face) q.1);
    }

-- rows of four permutations without an error are a table
pub IsTable-no_fault : (rows : List Row) → All (λ (row : Row). length row ≡ 4) rows → ((x : Face) (g : Gluing) → glue rows x ≡ Some g → IsPermutationOfFour g.perm)
    → table_fault rows ≡ None → IsTable rows
unfolding table_fault
IsTable-no_fault rows fours permutes e = record {
  limited = ltb-false max_tets (length rows) parts.0;
  four_faces = fours;
  permutes = permutes;
  in_range = λ x g h. (fine x g h).in_range;
  separate = λ x g h. not_from_false (same_face (other_side x g) x) (fine x g h).separate;
  leads_back = λ x g h. (fine x g h).leads_back;
}
  where
    parts : (nat_lt max_tets (length rows) ≡ false) × (first_some (λ x. gluing_fault rows x (glue rows x)) (faces (length rows)) ≡ None)
    parts = guarded (nat_lt max_tets (length rows)) TooMany (first_some (λ x. gluing_fault rows x (glue rows x)) (faces (length rows))) e

    fine : (x : Face) (g : Gluing) → glue rows x ≡ Some g → IsFine rows x g
    fine x g h =
        let none : gluing_fault rows x (glue rows x) ≡ None =
        first_some-none (λ (y : Face). gluing_fault rows y (glue rows y)) x (faces (length rows)) parts.1 (Among-faces x (length rows) (glued_tet rows x g h) (glued_face rows x g fours h)) in
        fine_at rows x g (subst (λ (o : Option Gluing). gluing_fault rows x o ≡ None) h none)

-- no error is found in a table
fine_fault : (rows : List Row) (x : Face) (g : Gluing) → g.tet < length rows → same_face (other_side x g) x ≡ false → glue rows (other_side x g) ≡ Some (inverse_gluing x g)
    → gluing_fault rows x (Some g) ≡ None
fine_fault rows x g inside separate back =
    rw (lt-ltb g.tet (length rows) inside, separate, is_glued_by-from (glue rows (other_side x g)) (inverse_gluing x g) back) refl

never_wrong : (rows : List Row) → IsTable rows → (x : Face) (o : Option Gluing) → glue rows x ≡ o → gluing_fault rows x o ≡ None
never_wrong rows t x None h = refl
never_wrong rows t x (Some g) h = fine_fault rows x g (t.in_range x g h) (not-true (same_face (other_side x g) x) (t.separate x g h)) (t.leads_back x g h)

pub table_fault-IsTable : (rows : List Row) → IsTable rows → table_fault rows ≡ None
unfolding table_fault
table_fault-IsTable rows t =
    rw (le-ltb max_tets (length rows) t.limited) (first_some_never (λ (x : Face). gluing_fault rows x (glue rows x)) (faces (length rows)) (λ x. never_wrong rows t x (glue rows x) refl))
