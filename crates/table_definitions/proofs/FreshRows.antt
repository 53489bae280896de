-- New rows, and the gluings of retained rows to them.
use Rattle.std.proofs.Common.{◌≡◌, ℕ, zero, suc, ◌<◌, ◌≤◌, Bool, true, false, List, [], ◌∷◌, ◌++◌, length, get_or, map, Option, Some, None, refl, sym, ap, ◌∙◌, subst, arith, inl, inr}
use Rattle.std.specs.Prelude.{◌⊎◌, ◌==◌, option_and_then, if◌then◌else◌}
use Rattle.std.specs.List.{slice_index_or, position_or_len, flat_map}
use Rattle.std.specs.Option.{option_or}
use Rattle.std.proofs.lemmas.List.{get_or-map, get_or_past}
use Rattle.std.proofs.lemmas.List.Elements.{All-get_or}
use Rattle.std.proofs.lemmas.Bool.{eqb-true, cases_lt}
use Rattle.table_definitions.specs.Lists.{has, first_some}
use Rattle.table_definitions.specs.Permutation.{four}
use Rattle.table_definitions.specs.Table.{Gluing, Row, Face, other_side, inverse_gluing, same_face}
use Rattle.table_definitions.specs.Replacing.{Replacement, inverse_if_reached, fresh_faces, fresh_row, back_to_fresh}
use Rattle.table_definitions.proofs.TableLaws.{Among, Among-left, Among-right, Among-map, Among-four}
use Rattle.table_definitions.specs.Replaceable.{fresh_numbers, fresh_glue, CanReplace}
use Rattle.table_definitions.proofs.Faces.{same_face-true, same_face-itself}

abbrev Numbered : Type 0
Numbered = ℕ × Row

abbrev number_is : ℕ → Numbered → Bool
number_is u x = x.0 == u

-- a number that is one of a new row has a row
position_within : (xs : List Numbered) (u : ℕ) → has (map (λ (x : Numbered). x.0) xs) u ≡ true → position_or_len (number_is u) xs < length xs
position_within [] u h = cc
position_within (x ∷ xs) u h = by_test (x.0 == u) refl (position_within xs u)
  where
    by_test : (b : Bool) → (x.0 == u) ≡ b → (has (map (λ (x : Numbered). x.0) xs) u ≡ true → position_or_len (number_is u) xs < length xs) → position_or_len (number_is u) (x ∷ xs) < length (x ∷ xs)
    by_test true e later = rw e (omega arith)
    by_test false e later = let t : has (map (λ (x : Numbered). x.0) xs) u ≡ true = rw e at h in rw e (omega (arith, later t))

-- a number that is not one of a new row has none
no_row : (xs : List Numbered) (u : ℕ) → has (map (λ (x : Numbered). x.0) xs) u ≡ false → slice_index_or (map (λ (x : Numbered). x.1) xs) (position_or_len (number_is u) xs) [] ≡ []
no_row [] u h = refl
no_row (x ∷ xs) u h = by_test (x.0 == u) refl (no_row xs u)
  where
    by_test : (b : Bool) → (x.0 == u) ≡ b
        → (has (map (λ (x : Numbered). x.0) xs) u ≡ false → slice_index_or (map (λ (x : Numbered). x.1) xs) (position_or_len (number_is u) xs) [] ≡ [])
        → slice_index_or (map (λ (x : Numbered). x.1) (x ∷ xs)) (position_or_len (number_is u) (x ∷ xs)) [] ≡ []
    by_test true e later = let t : true ≡ false = rw e at h in cc
    by_test false e later =
        let t : has (map (λ (x : Numbered). x.0) xs) u ≡ false = rw e at h in
        let next : position_or_len (number_is u) (x ∷ xs) ≡ suc (position_or_len (number_is u) xs) = rw e (omega arith) in
        ap (λ k. slice_index_or (x.1 ∷ map (λ (x : Numbered). x.1) xs) k []) next ∙ later t

pub length-fresh_row : (rows : List Row) (r : Replacement) → CanReplace rows r → (u : ℕ) → has (fresh_numbers r) u ≡ true → length (fresh_row r u) ≡ 4
length-fresh_row rows r can u h =
    let i : ℕ = position_or_len (number_is u) r.fresh in
    let l : i < length r.fresh = position_within r.fresh u h in
    let none : Row = [] in
    let nothing : Numbered = (0, none) in
    let at : fresh_row r u ≡ (get_or r.fresh i nothing).1 = get_or-map (λ (x : Numbered). x.1) r.fresh i nothing [] l in
    ap length at ∙ All-get_or (λ (x : Numbered). length x.1 ≡ 4) r.fresh i nothing l can.four_faces

-- an empty row has no gluing
pub nothing_in : (k : ℕ) → (let none : Row = [] in slice_index_or none k None) ≡ None
nothing_in zero = refl
nothing_in (suc k) = refl

-- a gluing of a new row is one of its faces
pub fresh_tet : (r : Replacement) (x : Face) (g : Gluing) → fresh_glue r x ≡ Some g → has (fresh_numbers r) x.tet ≡ true
fresh_tet r x g e = by_test (has (fresh_numbers r) x.tet) refl
  where
    by_test : (b : Bool) → has (fresh_numbers r) x.tet ≡ b → has (fresh_numbers r) x.tet ≡ true
    by_test true h = h
    by_test false h =
        let row : fresh_row r x.tet ≡ [] = no_row r.fresh x.tet h in
        let n : fresh_glue r x ≡ None = ap (λ (w : Row). get_or w x.face None) row ∙ nothing_in x.face in
        absurd cc

pub fresh_face : (rows : List Row) (r : Replacement) → CanReplace rows r → (x : Face) (g : Gluing) → fresh_glue r x ≡ Some g → x.face < 4
fresh_face rows r can x g e = by_size (cases_lt x.face 4)
  where
    by_size : (x.face < 4) ⊎ (4 ≤ x.face) → x.face < 4
    by_size (inl l) = l
    by_size (inr m) =
        let four_long : length (fresh_row r x.tet) ≡ 4 = length-fresh_row rows r can x.tet (fresh_tet r x g e) in
        let exceeded : length (fresh_row r x.tet) ≤ x.face = omega arith in
        let n : fresh_glue r x ≡ None = get_or_past (fresh_row r x.tet) x.face None exceeded in
        absurd cc

-- the first result among the items

pub first_some-finds : {A B : Type 0} (f : A → Option B) (xs : List A) (v : B) → first_some f xs ≡ Some v → (x : A) × (f x ≡ Some v)
first_some-finds f [] v e = absurd cc
first_some-finds {A} {B} f (x ∷ xs) v e = by_head (f x) refl (first_some-finds f xs v)
  where
    by_head : (o : Option B) → f x ≡ o → (first_some f xs ≡ Some v → (y : A) × (f y ≡ Some v)) → (y : A) × (f y ≡ Some v)
    by_head None h later = later (ap (λ o. option_or o (first_some f xs)) (sym h) ∙ e)
    by_head (Some w) h later = let s : Some w ≡ Some v = ap (λ o. option_or o (first_some f xs)) (sym h) ∙ e in (x, h ∙ s)

-- if one of the items gives v, and none gives anything else, v is the first result
pub first_some-only : {A B : Type 0} (f : A → Option B) (xs : List A) (x : A) (v : B) → Among x xs → f x ≡ Some v → ((z : A) (w : B) → f z ≡ Some w → w ≡ v) → first_some f xs ≡ Some v
first_some-only f [] x v a h only = absurd a
first_some-only {A} {B} f (y ∷ ys) x v a h only = by_head (f y) refl a (λ b. first_some-only f ys x v b h only)
  where
    by_head : (o : Option B) → f y ≡ o → (x ≡ y) ⊎ Among x ys → (Among x ys → first_some f ys ≡ Some v) → first_some f (y ∷ ys) ≡ Some v
    by_head None n (inl e) later = let z : None ≡ Some v = sym n ∙ ap f (sym e) ∙ h in absurd cc
    by_head None n (inr b) later = ap (λ o. option_or o (first_some f ys)) n ∙ later b
    by_head (Some w) s b later = ap (λ o. option_or o (first_some f ys)) s ∙ ap (λ u. Some u) (only y w s)

Among-fresh : (xs : List Numbered) (u f : ℕ) → has (map (λ (x : Numbered). x.0) xs) u ≡ true → f < 4
    → Among {A = Face} (record { tet = u; face = f }) (flat_map (λ (x : Numbered). map (λ k. record { tet = x.0; face = k }) four) xs)
Among-fresh [] u f h l = absurd cc
Among-fresh (x ∷ xs) u f h l = by_test (x.0 == u) refl (λ t. Among-fresh xs u f t l)
  where
    at : ℕ → ℕ → Face
    at t k = record { tet = t; face = k }

    later_faces : List Face
    later_faces = flat_map (λ (x : Numbered). map (λ k. record { tet = x.0; face = k }) four) xs

    by_test : (b : Bool) → (x.0 == u) ≡ b → (has (map (λ (x : Numbered). x.0) xs) u ≡ true → Among (at u f) later_faces) → Among (at u f) (map (at x.0) four ++ later_faces)
    by_test true e later =
        let first : Among (at x.0 f) (map (at x.0) four) = Among-map (at x.0) f four (Among-four f l) in
        Among-left (at u f) (map (at x.0) four) later_faces (subst (λ t. Among (at t f) (map (at x.0) four)) (eqb-true x.0 u e) first)
    by_test false e later = Among-right (at u f) (map (at x.0) four) later_faces (later (rw e at h))

-- the gluing from y back to a face of a new row

abbrev pub gives_back : Replacement → Face → Face → Option Gluing
gives_back r y x = option_and_then (inverse_if_reached y x) (fresh_glue r x)

pub record ComesBack (r : Replacement) (y : Face) (v : Gluing) : Type 0 where
  pub from : Face
  pub gluing : Gluing
  pub glued : fresh_glue r from ≡ Some gluing
  pub leads : other_side from gluing ≡ y
  pub back : inverse_gluing from gluing ≡ v

comes_back : (r : Replacement) (y x : Face) (v : Gluing) → gives_back r y x ≡ Some v → ComesBack r y v
comes_back r y x v e = by_glue (fresh_glue r x) refl
  where
    by_test : (g : Gluing) → fresh_glue r x ≡ Some g → (b : Bool) → same_face (other_side x g) y ≡ b → (if b then Some (inverse_gluing x g) else None) ≡ Some v → ComesBack r y v
    by_test g h true t s = record { from = x; gluing = g; glued = h; leads = same_face-true (other_side x g) y t; back = cc }
    by_test g h false t s = absurd cc

    by_glue : (o : Option Gluing) → fresh_glue r x ≡ o → ComesBack r y v
    by_glue None h = let z : None ≡ Some v = ap (option_and_then (inverse_if_reached y x)) (sym h) ∙ e in absurd cc
    by_glue (Some g) h = by_test g h (same_face (other_side x g) y) refl (ap (option_and_then (inverse_if_reached y x)) (sym h) ∙ e)

pub back_comes : (r : Replacement) (y : Face) (v : Gluing) → back_to_fresh r y ≡ Some v → ComesBack r y v
back_comes r y v e = let f = first_some-finds (gives_back r y) (fresh_faces r) v e in comes_back r y f.0 v f.1

pub back_is : (rows : List Row) (r : Replacement) → CanReplace rows r → (x : Face) (g : Gluing) → fresh_glue r x ≡ Some g → has (fresh_numbers r) g.tet ≡ false
    → back_to_fresh r (other_side x g) ≡ Some (inverse_gluing x g)
back_is rows r can x g e kept =
    first_some-only (gives_back r (other_side x g)) (fresh_faces r) x (inverse_gluing x g) (Among-fresh r.fresh x.tet x.face (fresh_tet r x g e) (fresh_face rows r can x g e))
    here (λ z w h. only z w (comes_back r (other_side x g) z w h))
  where
    here : gives_back r (other_side x g) x ≡ Some (inverse_gluing x g)
    here =
        ap (option_and_then (inverse_if_reached (other_side x g) x)) e
        ∙ ap (λ b. if◌then◌else◌ {A = Option Gluing} b (Some (inverse_gluing x g)) None) (same_face-itself (other_side x g))

    only : (z : Face) (w : Gluing) → ComesBack r (other_side x g) w → w ≡ inverse_gluing x g
    only z w c =
        let same : x ≡ c.from = can.one_each x c.from g c.gluing e c.glued kept (sym c.leads) in
        let both : Some c.gluing ≡ Some g = sym c.glued ∙ ap (fresh_glue r) (sym same) ∙ e in
        let gluings : c.gluing ≡ g = cc in
        sym c.back ∙ ap (λ (y : Face). inverse_gluing y c.gluing) (sym same) ∙ ap (inverse_gluing x) gluings
