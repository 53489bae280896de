-- Joined component texts determine the signatures of the components: no signature contains a full stop, and none of a
-- nonempty table begins with an a.
use Rattle.std.proofs.Common.{◌≡◌, ◌≢◌, ℕ, ◌<◌, ◌≤◌, inl, inr, Bool, true, false, List, [], ◌∷◌, ◌++◌, length, map, codes, subst, sym, ap, ap₂, refl, ◌∙◌, arith}
use Rattle.std.specs.Prelude.{nat_lt, ◌==◌, ◌||◌, not, if◌then◌else◌}
use Rattle.std.proofs.lemmas.Bool.{cases_lt}
use Rattle.std.proofs.lemmas.List.{get_or_past}
use Rattle.basic_lemmas.proofs.Numbers.{not_equal}
use Rattle.table_definitions.specs.Permutation.{index}
use Rattle.table_definitions.specs.Table.{Row, Gluing}
use Rattle.signature_definitions.specs.Spelling.{alphabet, character, head_values, width, in_values, packed, face_types, joined, seen_gluings, spelling_values, Spells, IsSignature}
use Rattle.table_definitions.proofs.ListFacts.{list_all-below}
use Rattle.component_definitions.specs.ComponentSignature.{component_text}

-- no byte is a full stop
abbrev pub HasNoStop : List ℕ → Type 0
HasNoStop [] = Unit {0}
HasNoStop (b ∷ text) = (b ≢ 46) × HasNoStop text

-- the signature of a component: it contains no full stop, and does not begin with an a
pub record IsPlain (text : List ℕ) : Type 0 where
  pub no_stop : HasNoStop text
  pub head : ℕ
  pub rest : List ℕ
  pub begins : text ≡ head ∷ rest
  pub not_a : head ≢ 97

abbrev pub ArePlain : List (List ℕ) → Type 0
ArePlain [] = Unit {0}
ArePlain (text ∷ texts) = IsPlain text × ArePlain texts

-- ---- the text of a signature

character_below : (v : ℕ) → v < 64 → not (character v == 46) ≡ true
character_below v l = list_all-below (λ u. not (character u == 46)) 64 refl v l

character_past : (v : ℕ) → 64 ≤ v → character v ≡ 0
character_past v l = get_or_past alphabet v 0 l

no_stop_at : (v : ℕ) → character v ≢ 46
no_stop_at v = elim (cases_lt v 64) [
  | inl l ↦ not_equal (character v) 46 (character_below v l)
  | inr exceeded ↦ λ e. let z : character v ≡ 0 = character_past v exceeded in absurd (omega arith)
]

no_stop_in : (vs : List ℕ) → HasNoStop (map character vs)
no_stop_in [] = tt
no_stop_in (v ∷ vs) = (no_stop_at v, no_stop_in vs)

-- no value from 1 to 63 is written as an a
later_character : (v : ℕ) → 0 < v → v < 64 → character v ≢ 97
later_character v some l = not_equal (character v) 97 (first_or (v == 0) (not (character v == 97)) (zero_no v some) (list_all-below (λ u. (u == 0) || not (character u == 97)) 64 refl v l))
  where
    zero_no : (u : ℕ) → 0 < u → (u == 0) ≡ false
    zero_no u l = grind arith

    first_or : (a b : Bool) → a ≡ false → (a || b) ≡ true → b ≡ true
    first_or a b e t = let f : (false || b) ≡ true = subst (λ c. (c || b) ≡ true) e t in f

-- the values of a nonempty table begin with one from 1 to 63
record BeginsLater (values : List ℕ) : Type 0 where
  head : ℕ
  rest : List ℕ
  begins : values ≡ head ∷ rest
  some : 0 < head
  small : head < 64

head_later : (n : ℕ) → 0 < n → BeginsLater (head_values n)
head_later n some = elim (cases_lt n 63) [
  | inl l ↦ record { head = n; rest = []; begins = ap (λ b. if b then n ∷ [] else 63 ∷ width n ∷ in_values (width n) n) (is_less n l); some = some; small = omega arith }
  | inr exceeded ↦ record { head = 63; rest = width n ∷ in_values (width n) n; begins = ap (λ b. if b then n ∷ [] else 63 ∷ width n ∷ in_values (width n) n) (is_no_less n exceeded); some = omega arith; small = omega arith }
]
  where
    is_less : (m : ℕ) → m < 63 → nat_lt m 63 ≡ true
    is_less m l = grind arith

    is_no_less : (m : ℕ) → 63 ≤ m → nat_lt m 63 ≡ false
    is_no_less m l = grind arith

later_more : (values more : List ℕ) → BeginsLater values → BeginsLater (values ++ more)
later_more values more b = record { head = b.head; rest = b.rest ++ more; begins = ap (λ vs. vs ++ more) b.begins; some = b.some; small = b.small }

pub spelled_plain : (text : List ℕ) (rows : List Row) → 0 < length rows → Spells text rows → IsPlain text
unfolding spelling_values
spelled_plain text rows some s = record {
  no_stop = subst HasNoStop (sym s.spelled) (no_stop_in (spelling_values rows));
  head = character b.head;
  rest = map character b.rest;
  begins = s.spelled ∙ ap (map character) b.begins;
  not_a = later_character b.head b.some b.small;
}
  where
    b : BeginsLater (spelling_values rows)
    b = later_more (head_values (length rows) ++ packed (face_types rows) ++ joined (map (λ (g : Gluing). in_values (width (length rows)) g.tet) (seen_gluings rows))) (map (λ (g : Gluing). index g.perm) (seen_gluings rows))
        (later_more (head_values (length rows) ++ packed (face_types rows)) (joined (map (λ (g : Gluing). in_values (width (length rows)) g.tet) (seen_gluings rows)))
        (later_more (head_values (length rows)) (packed (face_types rows)) (head_later (length rows) some)))

pub signature_plain : (text : List ℕ) (rows : List Row) → 0 < length rows → IsSignature rows text → IsPlain text
signature_plain text rows some s = spelled_plain text s.found.0 (subst (λ n. 0 < n) (sym s.found.1.2.same_length) some) s.found.2

-- ---- joined texts

head_of : List ℕ → ℕ
head_of [] = 0
head_of (x ∷ xs) = x

tail_of : List ℕ → List ℕ
tail_of [] = []
tail_of (x ∷ xs) = xs

first_same : (x y : ℕ) (xs ys : List ℕ) → x ∷ xs ≡ y ∷ ys → x ≡ y
unfolding head_of
first_same x y xs ys e = ap head_of e

rest_same : (x y : ℕ) (xs ys : List ℕ) → x ∷ xs ≡ y ∷ ys → xs ≡ ys
unfolding tail_of
rest_same x y xs ys e = ap tail_of e

-- the text before the first full stop
same_front : (s t more others : List ℕ) → HasNoStop s → HasNoStop t → s ++ 46 ∷ more ≡ t ++ 46 ∷ others → (s ≡ t) × (more ≡ others)
same_front [] [] more others a b e = (refl, rest_same 46 46 more others e)
same_front [] (y ∷ t) more others a b e = absurd (b.0 (sym (first_same 46 y more (t ++ 46 ∷ others) e)))
same_front (x ∷ s) [] more others a b e = absurd (a.0 (first_same x 46 (s ++ 46 ∷ more) others e))
same_front (x ∷ s) (y ∷ t) more others a b e = let r = same_front s t more others a.1 b.1 (rest_same x y (s ++ 46 ∷ more) (t ++ 46 ∷ others) e) in
    (ap₂ (λ z zs. z ∷ zs) (first_same x y (s ++ 46 ∷ more) (t ++ 46 ∷ others) e) r.0, r.1)

no_nil : (x : ℕ) (xs : List ℕ) → [] ≡ x ∷ xs → ⊥
no_nil x xs e = let z : 0 ≡ length (x ∷ xs) = ap length e in absurd (omega arith)

-- a text without a full stop is not one that has a full stop
no_front : (s t more : List ℕ) → HasNoStop s → s ≡ t ++ 46 ∷ more → ⊥
no_front [] [] more a e = no_nil 46 more e
no_front [] (y ∷ t) more a e = no_nil y (t ++ 46 ∷ more) e
no_front (x ∷ s) [] more a e = a.0 (first_same x 46 s more e)
no_front (x ∷ s) (y ∷ t) more a e = no_front s t more a.1 (rest_same x y s (t ++ 46 ∷ more) e)

not_alone : (text : List ℕ) → IsPlain text → codes "a" ≡ text → ⊥
not_alone text p e = p.not_a (sym (first_same 97 p.head [] p.rest (e ∙ p.begins)))

a_no_stop : HasNoStop (codes "a")
a_no_stop = (λ e. absurd (omega arith), tt)

pub texts_apart : (xs ys : List (List ℕ)) → ArePlain xs → ArePlain ys → component_text xs ≡ component_text ys → xs ≡ ys
texts_apart [] [] a b e = refl
texts_apart [] (y ∷ []) a b e = absurd (not_alone y b.0 e)
texts_apart [] (y ∷ z ∷ ys) a b e = absurd (no_front (codes "a") y (component_text (z ∷ ys)) a_no_stop e)
texts_apart (x ∷ []) [] a b e = absurd (not_alone x a.0 (sym e))
texts_apart (x ∷ z ∷ xs) [] a b e = absurd (no_front (codes "a") x (component_text (z ∷ xs)) a_no_stop (sym e))
texts_apart (x ∷ []) (y ∷ []) a b e = ap (λ t. t ∷ []) e
texts_apart (x ∷ []) (y ∷ z ∷ ys) a b e = absurd (no_front x y (component_text (z ∷ ys)) a.0.no_stop e)
texts_apart (x ∷ w ∷ xs) (y ∷ []) a b e = absurd (no_front y x (component_text (w ∷ xs)) b.0.no_stop (sym e))
texts_apart (x ∷ w ∷ xs) (y ∷ z ∷ ys) a b e = let r = same_front x y (component_text (w ∷ xs)) (component_text (z ∷ ys)) a.0.no_stop b.0.no_stop e in
    ap₂ (λ t ts. t ∷ ts) r.0 (texts_apart (w ∷ xs) (z ∷ ys) a.1 b.1 r.1)
