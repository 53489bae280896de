-- The sections of a text, one character after another.
use Rattle.std.proofs.Common.{◌≡◌, ℕ, zero, suc, ◌+◌, ◌*◌, ◌/◌, ◌%◌, ◌<◌, ◌≤◌, List, [], ◌∷◌, ◌++◌, length, drop, get_or, map, refl, sym, ap, ◌∙◌, arith, append_assoc, append-nil}
use Rattle.std.proofs.lemmas.List.FromFn.{length-map-range_with_len}
use Rattle.signature_text_laws.proofs.Simulation.{faces-places}
use Rattle.std.specs.Prelude.{Bool, true, false, All, slice_index, filter_map, Option, Some, None, if◌then◌else◌}
use Rattle.std.proofs.lemmas.List.{map-append, get_or-drop, length-drop}
use Rattle.table_definitions.specs.Permutation.{index}
use Rattle.table_definitions.specs.Table.{Gluing, Row, Face, glue, other_side, faces, is_face_before}
use Rattle.table_definitions.specs.Places.{face_of}
use Rattle.signature_definitions.specs.Spelling.{character, in_values, packed, joined, head_values, width, type_of, face_types, seen_gluings, spelling, spelling_values}
use Rattle.signature_definitions.specs.WalkOrder.{is_seen}
use Rattle.signature_text_laws.specs.Texts.{number_text, destinations_text, indices_text}
use Rattle.signature_text_laws.proofs.ReadTables.{drop-exceeded}

-- a number in one more character
pub number_text-more : (j k v : ℕ) (text : List ℕ) → j ≡ suc k → (text ++ character (v % 64) ∷ []) ++ number_text k (v / 64) ≡ text ++ number_text j v
number_text-more j k v text e = rw e (append_assoc text (character (v % 64) ∷ []) (number_text k (v / 64)))

pub number_text-none : (j v : ℕ) (text : List ℕ) → j ≡ 0 → text ++ number_text j v ≡ text
number_text-none j v text e = rw e (append-nil text)

-- three more types
packed_front : (ys : List ℕ) → 0 < length ys → packed ys ≡ (get_or ys 0 0 + 4 * get_or ys 1 0 + 16 * get_or ys 2 0) ∷ packed (drop 3 ys)
packed_front [] l = absurd (omega arith)
packed_front (a ∷ []) l = ap (λ n. n ∷ []) (omega arith)
packed_front (a ∷ b ∷ []) l = ap (λ n. n ∷ []) (omega arith)
packed_front (a ∷ b ∷ c ∷ ys) l = refl

abbrev nothing : (A : Type 0) → List A
nothing A = []

drop-nothing : (A : Type 0) (k : ℕ) → drop k (nothing A) ≡ nothing A
drop-nothing A zero = refl
drop-nothing A (suc k) = refl

pub drop-drop : {A : Type 0} (j k : ℕ) (xs : List A) → drop k (drop j xs) ≡ drop (j + k) xs
drop-drop zero k xs = let e : k ≡ 0 + k = omega arith in ap (λ m. drop m xs) e
drop-drop {A} (suc j) k [] = drop-nothing A k ∙ sym (drop-nothing A (suc j + k))
drop-drop (suc j) k (x ∷ xs) = let e : suc j + k ≡ suc (j + k) = omega arith in rw e (drop-drop j k xs)

pub packed-more : (i v : ℕ) (ts text : List ℕ) → i < length ts → v ≡ slice_index ts i + 4 * slice_index ts (i + 1) + 16 * slice_index ts (i + 2)
    → (text ++ character v ∷ []) ++ map character (packed (drop (i + 3) ts)) ≡ text ++ map character (packed (drop i ts))
packed-more i v ts text l e =
    let some : 0 < length (drop i ts) = omega (arith, length-drop {A = ℕ}) in
    let a : get_or (drop i ts) 0 0 ≡ get_or ts i 0 = get_or-drop i ts 0 0 ∙ ap (λ k. get_or ts k 0) (omega arith) in
    let b = get_or-drop i ts 1 0 in
    let c = get_or-drop i ts 2 0 in
    let same : get_or (drop i ts) 0 0 + 4 * get_or (drop i ts) 1 0 + 16 * get_or (drop i ts) 2 0 ≡ v = omega (arith, a, b, c, e) in
    append_assoc text (character v ∷ []) (map character (packed (drop (i + 3) ts)))
    ∙ ap (λ rest. text ++ (character v ∷ map character (packed rest))) (sym (drop-drop i 3 ts))
    ∙ ap (λ n. text ++ (character n ∷ map character (packed (drop 3 (drop i ts))))) (sym same)
    ∙ ap (λ ns. text ++ map character ns) (sym (packed_front (drop i ts) some))

pub packed-none : (i : ℕ) (ts text : List ℕ) → length ts ≤ i → text ++ map character (packed (drop i ts)) ≡ text
packed-none i ts text l = rw (drop-exceeded i ts l) (append-nil text)

-- types are below 3, and there are no more than faces
type_small : (rows : List Row) (x : Face) (o : Option Gluing) (t : ℕ) → type_of rows x o ≡ Some t → t < 3
type_small rows x None t e = let same : 0 ≡ t = cc in omega arith
type_small rows x (Some g) t e = cases (is_face_before (other_side x g) x) (is_seen rows x g.tet) e
  where
    cases : (a b : Bool) → (if a then None else Some (if b then 2 else 1)) ≡ Some t → t < 3
    cases true b e = absurd cc
    cases false true e = let same : 2 ≡ t = cc in omega arith
    cases false false e = let same : 1 ≡ t = cc in omega arith

filter_map-front : (F : Face → Option ℕ) (x : Face) (xs : List Face) (o : Option ℕ) → F x ≡ o → ((t : ℕ) → o ≡ Some t → t < 3) → All (λ t. t < 3) (filter_map F xs) → All (λ t. t < 3) (filter_map F (x ∷ xs))
filter_map-front F x xs None e small h = rw e h
filter_map-front F x xs (Some t) e small h = rw e (front t (filter_map F xs) (small t refl) h)
  where
    front : (t : ℕ) (ts : List ℕ) → t < 3 → All (λ t. t < 3) ts → All (λ t. t < 3) (t ∷ ts)
    front t ts l h zero d m = l
    front t ts l h (suc k) d m = h k d (omega arith)

filter_map-small : (rows : List Row) (xs : List Face) → All (λ t. t < 3) (filter_map (λ x. type_of rows x (glue rows x)) xs)
filter_map-small rows [] = λ k d l. absurd (omega arith)
filter_map-small rows (x ∷ xs) = filter_map-front (λ x. type_of rows x (glue rows x)) x xs (type_of rows x (glue rows x)) refl (type_small rows x (glue rows x)) (filter_map-small rows xs)

pub types_small : (rows : List Row) → All (λ t. t < 3) (face_types rows)
types_small rows = filter_map-small rows (faces (length rows))

filter_map-short : {A : Type 0} (F : Face → Option A) (xs : List Face) → length (filter_map F xs) ≤ length xs
filter_map-short F [] = omega arith
filter_map-short {A} F (x ∷ xs) = cases (F x) (filter_map-short F xs)
  where
    cases : (o : Option A) → length (filter_map F xs) ≤ length xs → length (filter_map F (x ∷ xs)) ≤ suc (length xs)
    cases o l = by_case (F x) refl
      where
        by_case : (o : Option A) → F x ≡ o → length (filter_map F (x ∷ xs)) ≤ suc (length xs)
        by_case None e = rw e (omega arith)
        by_case (Some y) e = rw e (omega arith)

pub bounded_types : (rows : List Row) → length (face_types rows) ≤ 4 * length rows
bounded_types rows = let h = filter_map-short (λ x. type_of rows x (glue rows x)) (faces (length rows)) in let e = ap (λ (xs : List Face). length xs) (faces-places (length rows)) in let f = length-map-range_with_len face_of 0 (4 * length rows) in omega (arith, h, e, f)

-- the whole text
pub whole_text : (rows : List Row) (types : List ℕ) (gs : List Gluing) (n : ℕ) → n ≡ length rows → types ≡ face_types rows → gs ≡ seen_gluings rows
    → ((([] ++ map character (head_values n)) ++ map character (packed types)) ++ destinations_text (width n) gs) ++ indices_text gs ≡ spelling rows
unfolding spelling_values
whole_text rows types gs n e f g =
    rw (e, f, g) (sym (map-append character (head_values (length rows) ++ packed (face_types rows) ++ joined (map (λ (g : Gluing). in_values (width (length rows)) g.tet) (seen_gluings rows))) (map (λ (g : Gluing). index g.perm) (seen_gluings rows))
    ∙ ap (λ t. t ++ indices_text (seen_gluings rows)) (map-append character (head_values (length rows) ++ packed (face_types rows)) (joined (map (λ (g : Gluing). in_values (width (length rows)) g.tet) (seen_gluings rows)))
    ∙ ap (λ t. t ++ destinations_text (width (length rows)) (seen_gluings rows)) (map-append character (head_values (length rows)) (packed (face_types rows))))))
