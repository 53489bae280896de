-- Facts on all permutations of four, which are proved by computation for each of the 24 permutations.
use Rattle.std.proofs.Common.{◌≡◌, ℕ, zero, suc, ◌<◌, Bool, true, false, List, [], ◌∷◌, length, map, refl, arith, sym, ap, subst, ◌∙◌}
use Rattle.std.proofs.lemmas.List.{get_or-map}
use Rattle.std.proofs.lemmas.List.{length-map}
use mathlib.Core.Bool.{beq}
use Rattle.std.proofs.lemmas.Bool.{eqb-true}
use borrow.Author.Tests.{ltb-true}
use Rattle.std.specs.Prelude.{nat_lt, ◌↔◌, Contains, ◌%◌, ◌^◌, ◌-◌, ◌*◌, ◌+◌, ◌≢◌, cond, Option, Some, None, ◌==◌, ◌&&◌, ◌||◌, not, ◌⊎◌}
use Rattle.std.proofs.lemmas.Map.Views.{Contains-from_any}
use Rattle.std.specs.Int.{from_bool}
use Rattle.std.specs.List.{list_any, list_all, slice_index_or}
use Rattle.table_definitions.specs.Lists.{has, same_list, below}
use Rattle.table_definitions.specs.Permutation.{four, is_permutation, IsPermutationOfFour, image, preimage, identity, inverse, compose, index, is_odd, inversions, digits_of, words}
use Rattle.table_definitions.specs.TableText.{permutation_of}
use Rattle.table_definitions.proofs.ListFacts.{both_true, list_all-at, list_all-below, same_list-true, same_list-refl}

-- one of four numbers is v
abbrev pub OneIs : ℕ → ℕ → ℕ → ℕ → ℕ → Type 0
OneIs a b c d v = (a ≡ v) ⊎ (b ≡ v) ⊎ (c ≡ v) ⊎ (d ≡ v)

-- if 0 to 3 are among four numbers, all of these are below 4
four_below : (a b c d : ℕ) → OneIs a b c d 0 → OneIs a b c d 1 → OneIs a b c d 2 → OneIs a b c d 3 → (a < 4) × (b < 4) × (c < 4) × (d < 4)
four_below a b c d h0 h1 h2 h3 = (omega arith, omega arith, omega arith, omega arith)

pub one_is : (a b c d v : ℕ) → has (a ∷ b ∷ c ∷ d ∷ []) v ≡ true → OneIs a b c d v
one_is a b c d v h = grind arith

below_four : (test : ℕ → Bool) → list_all test four ≡ true → (a : ℕ) → a < 4 → test a ≡ true
below_four test h zero l = grind arith
below_four test h (suc zero) l = grind arith
below_four test h (suc (suc zero)) l = grind arith
below_four test h (suc (suc (suc zero))) l = grind arith
below_four test h (suc (suc (suc (suc n)))) l = absurd (omega arith)

-- a list of four that is a permutation is one of the 24
abbrev is_found : ℕ → ℕ → ℕ → ℕ → Bool
is_found a b c d = not (is_permutation (a ∷ b ∷ c ∷ d ∷ [])) || list_any (same_list (a ∷ b ∷ c ∷ d ∷ [])) words

all_found : list_all (λ a. list_all (λ b. list_all (λ c. list_all (λ d. is_found a b c d) four) four) four) four ≡ true
unfolding is_permutation
all_found = refl

found_below : (a b c d : ℕ) → (a < 4) × (b < 4) × (c < 4) × (d < 4) → is_found a b c d ≡ true
found_below a b c d l =
    below_four (λ d'. is_found a b c d')
    (below_four (λ c'. list_all (λ d'. is_found a b c' d') four)
    (below_four (λ b'. list_all (λ c'. list_all (λ d'. is_found a b' c' d') four) four)
    (below_four (λ a'. list_all (λ b'. list_all (λ c'. list_all (λ d'. is_found a' b' c' d') four) four) four) all_found
    a l.0) b l.1) c l.2) d l.3

has_each : (a b c d : ℕ) → is_permutation (a ∷ b ∷ c ∷ d ∷ []) ≡ true → (v : ℕ) → v < 4 → has (a ∷ b ∷ c ∷ d ∷ []) v ≡ true
unfolding is_permutation
has_each a b c d h v l = below_four (has (a ∷ b ∷ c ∷ d ∷ [])) (grind arith) v l

four_is_word : (a b c d : ℕ) → is_permutation (a ∷ b ∷ c ∷ d ∷ []) ≡ true → list_any (same_list (a ∷ b ∷ c ∷ d ∷ [])) words ≡ true
four_is_word a b c d h =
    let each : (v : ℕ) → v < 4 → OneIs a b c d v = λ v l. one_is a b c d v (has_each a b c d h v l) in
    let small : (a < 4) × (b < 4) × (c < 4) × (d < 4) = four_below a b c d (each 0 (omega arith)) (each 1 (omega arith)) (each 2 (omega arith)) (each 3 (omega arith)) in
    grind (arith, found_below a b c d small)

pub is_word : (p : List ℕ) → is_permutation p ≡ true → list_any (same_list p) words ≡ true
unfolding is_permutation
is_word [] h = cc
is_word (a ∷ []) h = cc
is_word (a ∷ b ∷ []) h = cc
is_word (a ∷ b ∷ c ∷ []) h = cc
is_word (a ∷ b ∷ c ∷ d ∷ []) h = four_is_word a b c d h
is_word (a ∷ b ∷ c ∷ d ∷ e ∷ p) h = absurd (grind arith)

at_word : (test : List ℕ → Bool) (ws : List (List ℕ)) → list_all test ws ≡ true → (p : List ℕ) → list_any (same_list p) ws ≡ true → test p ≡ true
at_word test [] all p found = cc
at_word test (w ∷ ws) all p found = grind (arith, at_word test ws, same_list-true p w)

-- a test that the 24 permutations pass is passed by each permutation
pub by_words : (test : List ℕ → Bool) → list_all test words ≡ true → (p : List ℕ) → IsPermutationOfFour p → test p ≡ true
by_words test all p h = at_word test words all p (is_word p h)

-- two functions that agree on the 24 permutations agree on each permutation
by_equal : (f g : List ℕ → ℕ) → list_all (λ p. f p == g p) words ≡ true → (p : List ℕ) → IsPermutationOfFour p → f p ≡ g p
by_equal f g all p h = eqb-true (f p) (g p) (by_words (λ p. f p == g p) all p h)

by_same : (f g : List ℕ → List ℕ) → list_all (λ p. same_list (f p) (g p)) words ≡ true → (p : List ℕ) → IsPermutationOfFour p → f p ≡ g p
by_same f g all p h = same_list-true (f p) (g p) (by_words (λ p. same_list (f p) (g p)) all p h)

-- a test of a permutation and a vertex, and of two permutations
by_vertices : (test : List ℕ → ℕ → Bool) → list_all (λ p. list_all (test p) four) words ≡ true → (p : List ℕ) → IsPermutationOfFour p → (v : ℕ) → v < 4 → test p v ≡ true
by_vertices test all p h v l = below_four (test p) (by_words (λ p. list_all (test p) four) all p h) v l

pub by_pairs : (test : List ℕ → List ℕ → Bool) → list_all (λ p. list_all (test p) words) words ≡ true → (p q : List ℕ) → IsPermutationOfFour p → IsPermutationOfFour q → test p q ≡ true
by_pairs test all p q h k = by_words (test p) (by_words (λ p. list_all (test p) words) all p h) q k

pub length-permutation : (p : List ℕ) → IsPermutationOfFour p → length p ≡ 4
length-permutation p h = by_equal length (λ _. 4) refl p h

-- a permutation is the list of its images
pub four_images : (p : List ℕ) → IsPermutationOfFour p → p ≡ image p 0 ∷ image p 1 ∷ image p 2 ∷ image p 3 ∷ []
four_images p h = by_same (λ p. p) (λ p. image p 0 ∷ image p 1 ∷ image p 2 ∷ image p 3 ∷ []) refl p h

pub image_below : (p : List ℕ) → IsPermutationOfFour p → (v : ℕ) → v < 4 → image p v < 4
image_below p h v l = ltb-true (image p v) 4 (by_vertices (λ p v. nat_lt (image p v) 4) refl p h v l)

pub preimage_below : (p : List ℕ) → IsPermutationOfFour p → (v : ℕ) → v < 4 → preimage p v < 4
unfolding preimage
preimage_below p h v l = ltb-true (preimage p v) 4 (by_vertices (λ p v. nat_lt (preimage p v) 4) refl p h v l)

pub image-preimage : (p : List ℕ) → IsPermutationOfFour p → (v : ℕ) → v < 4 → image p (preimage p v) ≡ v
unfolding preimage
image-preimage p h v l = eqb-true _ _ (by_vertices (λ p v. image p (preimage p v) == v) refl p h v l)

pub preimage-image : (p : List ℕ) → IsPermutationOfFour p → (v : ℕ) → v < 4 → preimage p (image p v) ≡ v
unfolding preimage
preimage-image p h v l = eqb-true _ _ (by_vertices (λ p v. preimage p (image p v) == v) refl p h v l)

-- the vertex that is mapped to v is its preimage
pub preimage_at : (p : List ℕ) → IsPermutationOfFour p → (v w : ℕ) → w < 4 → image p w ≡ v → preimage p v ≡ w
preimage_at p h v w l e = rw (← e) (preimage-image p h w l)

pub inverse_permutes : (p : List ℕ) → IsPermutationOfFour p → IsPermutationOfFour (inverse p)
unfolding inverse preimage is_permutation
inverse_permutes p h = by_words (λ p. is_permutation (inverse p)) refl p h

pub image-inverse : (p : List ℕ) (v : ℕ) → v < 4 → image (inverse p) v ≡ preimage p v
unfolding inverse
image-inverse p zero l = refl
image-inverse p (suc zero) l = refl
image-inverse p (suc (suc zero)) l = refl
image-inverse p (suc (suc (suc zero))) l = refl
image-inverse p (suc (suc (suc (suc v)))) l = absurd (omega arith)

pub inverse-inverse : (p : List ℕ) → IsPermutationOfFour p → inverse (inverse p) ≡ p
unfolding inverse preimage
inverse-inverse p h = by_same (λ p. inverse (inverse p)) (λ p. p) refl p h

pub compose_permutes : (p q : List ℕ) → IsPermutationOfFour p → IsPermutationOfFour q → IsPermutationOfFour (compose p q)
unfolding compose is_permutation
compose_permutes p q h k = by_pairs (λ p q. is_permutation (compose p q)) refl p q h k

pub compose-inverse : (p : List ℕ) → IsPermutationOfFour p → compose p (inverse p) ≡ identity
unfolding inverse preimage compose
compose-inverse p h = by_same (λ p. compose p (inverse p)) (λ _. identity) refl p h

pub inverse-compose : (p : List ℕ) → IsPermutationOfFour p → compose (inverse p) p ≡ identity
unfolding inverse preimage compose
inverse-compose p h = by_same (λ p. compose (inverse p) p) (λ _. identity) refl p h

pub compose-identity : (p : List ℕ) → IsPermutationOfFour p → compose p identity ≡ p
unfolding compose
compose-identity p h = by_same (λ p. compose p identity) (λ p. p) refl p h

pub identity-compose : (p : List ℕ) → IsPermutationOfFour p → compose identity p ≡ p
unfolding compose
identity-compose p h = by_same (λ p. compose identity p) (λ p. p) refl p h

-- the inverse of a composition is the composition of the inverses in the other order
pub inverse-of-compose : (p q : List ℕ) → IsPermutationOfFour p → IsPermutationOfFour q → inverse (compose p q) ≡ compose (inverse q) (inverse p)
unfolding inverse preimage compose
inverse-of-compose p q h k = same_list-true _ _ (by_pairs (λ p q. same_list (inverse (compose p q)) (compose (inverse q) (inverse p))) refl p q h k)

pub index_below : (p : List ℕ) → IsPermutationOfFour p → index p < 24
unfolding index
index_below p h = ltb-true _ _ (by_words (λ p. nat_lt (index p) 24) refl p h)

-- the permutation at the index of p is p
pub words_at : (p : List ℕ) → IsPermutationOfFour p → slice_index_or words (index p) [] ≡ p
unfolding index
words_at p h = by_same (λ p. slice_index_or words (index p) []) (λ p. p) refl p h

below_words : (test : ℕ → Bool) → list_all test (below 24) ≡ true → (i : ℕ) → i < 24 → test i ≡ true
below_words test all i l = list_all-below test 24 all i l

pub bool_equal : (a b : Bool) → beq a b ≡ true → a ≡ b
bool_equal true true h = refl
bool_equal true false h = sym h
bool_equal false true h = h
bool_equal false false h = refl

-- the permutation at index i has the index i
pub index-words : (i : ℕ) → i < 24 → index (slice_index_or words i []) ≡ i
unfolding index
index-words i l = eqb-true _ _ (below_words (λ i. index (slice_index_or words i []) == i) refl i l)

pub words_permute : (i : ℕ) → i < 24 → IsPermutationOfFour (slice_index_or words i [])
unfolding is_permutation
words_permute i l = below_words (λ i. is_permutation (slice_index_or words i [])) refl i l

-- the image of an image
pub image-compose : (p q : List ℕ) → IsPermutationOfFour q → (v : ℕ) → v < 4 → image (compose p q) v ≡ image p (image q v)
unfolding compose
image-compose p q h v l =
    let in_range : v < length q = omega (arith, length-permutation q h) in
    get_or-map (image p) q v 0 0 in_range

-- permutations with the same images are equal
pub same_images : (p q : List ℕ) → IsPermutationOfFour p → IsPermutationOfFour q → ((v : ℕ) → v < 4 → image p v ≡ image q v) → p ≡ q
same_images p q h k same =
    let s0 = same 0 (omega arith) in
    let s1 = same 1 (omega arith) in
    let s2 = same 2 (omega arith) in
    let s3 = same 3 (omega arith) in
    let e = four_images p h in
    let f = four_images q k in
    cc

pub compose-compose : (p q r : List ℕ) → IsPermutationOfFour p → IsPermutationOfFour q → IsPermutationOfFour r → compose (compose p q) r ≡ compose p (compose q r)
compose-compose p q r h k l =
    same_images (compose (compose p q) r) (compose p (compose q r)) (compose_permutes _ _ (compose_permutes p q h k) l) (compose_permutes _ _ h (compose_permutes q r k l))
    (λ v m. image-compose (compose p q) r l v m ∙ image-compose p q k (image r v) (image_below r l v m)
    ∙ sym (image-compose p (compose q r) (compose_permutes q r k l) v m ∙ ap (image p) (image-compose q r l v m)))

-- a composition is odd if and only if exactly one of the two permutations is
pub is_odd-compose : (p q : List ℕ) → IsPermutationOfFour p → IsPermutationOfFour q → is_odd (compose p q) ≡ not (beq (is_odd p) (is_odd q))
unfolding is_odd inversions compose
is_odd-compose p q h k = bool_equal _ _ (by_pairs (λ p q. beq (is_odd (compose p q)) (not (beq (is_odd p) (is_odd q)))) refl p q h k)

pub is_odd-inverse : (p : List ℕ) → IsPermutationOfFour p → is_odd (inverse p) ≡ is_odd p
unfolding is_odd inversions inverse preimage
is_odd-inverse p h = bool_equal _ _ (by_words (λ p. beq (is_odd (inverse p)) (is_odd p)) refl p h)

-- whether the images of a pair are in descending order
abbrev backwards : List ℕ → ℕ → ℕ → Bool
backwards p i j = nat_lt (image p j) (image p i)

abbrev unlike : Bool → Bool → Bool
unlike a b = not (beq a b)

pub is_odd_pairs : (p : List ℕ) → IsPermutationOfFour p
    → unlike (unlike (unlike (unlike (unlike (backwards p 0 1) (backwards p 0 2)) (backwards p 0 3)) (backwards p 1 2)) (backwards p 1 3)) (backwards p 2 3) ≡ is_odd p
unfolding is_odd inversions
is_odd_pairs p h = bool_equal _ _ (by_words (λ p. beq (unlike (unlike (unlike (unlike (unlike (backwards p 0 1) (backwards p 0 2)) (backwards p 0 3)) (backwards p 1 2)) (backwards p 1 3)) (backwards p 2 3)) (is_odd p)) refl p h)

-- if v is the image of none of 0 to 2, it is the image of 3
pub preimage_last : (p : List ℕ) → IsPermutationOfFour p → (v : ℕ) → v < 4 → image p 0 ≢ v → image p 1 ≢ v → image p 2 ≢ v → preimage p v ≡ 3
preimage_last p h v l n0 n1 n2 = at_three (preimage p v) (preimage_below p h v l) (image-preimage p h v l)
  where
    at_three : (w : ℕ) → w < 4 → image p w ≡ v → w ≡ 3
    at_three zero l e = absurd (n0 e)
    at_three (suc zero) l e = absurd (n1 e)
    at_three (suc (suc zero)) l e = absurd (n2 e)
    at_three (suc (suc (suc zero))) l e = refl
    at_three (suc (suc (suc (suc w)))) l e = absurd (omega arith)

-- the number of permutations before p in lexicographic order, by the images of p
pub index_places : (p : List ℕ) (s t : ℕ) → IsPermutationOfFour p → s ≡ from_bool (nat_lt (image p 0) (image p 1)) → t ≡ from_bool (nat_lt (image p 3) (image p 2))
    → 6 * image p 0 + 2 * (image p 1 - s) + t ≡ index p
unfolding index
index_places p s t h es et =
    rw (es, et) (eqb-true _ _ (by_words (λ p. 6 * image p 0 + 2 * (image p 1 - from_bool (nat_lt (image p 0) (image p 1))) + from_bool (nat_lt (image p 3) (image p 2)) == index p) refl p h))

-- digits

less-digits : (p : List ℕ) → map (λ d. d - 48) (digits_of p) ≡ p
less-digits [] = refl
less-digits (x ∷ xs) = grind (arith, less-digits xs)

if_some : (b : Bool) (p q : List ℕ) → cond b (Some p) None ≡ Some q → (b ≡ true) × (p ≡ q)
if_some true p q h = (refl, cc)
if_some false p q h = cc

pub permutation_of-digits : (p : List ℕ) → IsPermutationOfFour p → permutation_of (digits_of p) ≡ Some p
unfolding permutation_of
permutation_of-digits p h =
    let e = less-digits p in
    let same : same_list (digits_of p) (digits_of p) ≡ true = same_list-refl (digits_of p) in
    rw e (rw (same, h) refl)

pub permutation_of-some : (w p : List ℕ) → permutation_of w ≡ Some p → IsPermutationOfFour p × (w ≡ digits_of p)
unfolding permutation_of
permutation_of-some w p h =
    let q : List ℕ = map (λ d. d - 48) w in
    let s = if_some (same_list (digits_of q) w && is_permutation q) q p h in
    let t = both_true (same_list (digits_of q) w) (is_permutation q) s.0 in
    let e : digits_of q ≡ w = same_list-true (digits_of q) w t.0 in
    let IsIt : List ℕ → Type 0 = λ r. IsPermutationOfFour r × (w ≡ digits_of r) in
    subst IsIt s.1 (t.1, sym e)

-- a word that spells no permutation
pub permutation_of-none : (w : List ℕ) → ((p : List ℕ) → IsPermutationOfFour p → w ≡ digits_of p → ⊥) → permutation_of w ≡ None
permutation_of-none w never = none_of (permutation_of w) refl
  where
    none_of : (r : Option (List ℕ)) → permutation_of w ≡ r → permutation_of w ≡ None
    none_of None e = e
    none_of (Some p) e = absurd (never p (permutation_of-some w p e).0 (permutation_of-some w p e).1)

-- a byte less 48, modulo 256
abbrev pub digit : ℕ → ℕ
digit b = (b + (2 ^ 8 - 48)) % 2 ^ 8

byte_of_digit : (b : ℕ) → b < 256 → digit b < 4 → b ≡ 48 + digit b
byte_of_digit b small h = omega arith

digit_of_byte : (v : ℕ) → v < 4 → digit (48 + v) ≡ v
digit_of_byte v h = omega arith

-- four bytes whose digits are a permutation spell this permutation
pub permutation_of-four : (a b c d : ℕ) → a < 256 → b < 256 → c < 256 → d < 256 → IsPermutationOfFour (digit a ∷ digit b ∷ digit c ∷ digit d ∷ [])
    → permutation_of (a ∷ b ∷ c ∷ d ∷ []) ≡ Some (digit a ∷ digit b ∷ digit c ∷ digit d ∷ [])
permutation_of-four a b c d la lb lc ld h =
    let p : List ℕ = digit a ∷ digit b ∷ digit c ∷ digit d ∷ [] in
    let ea = byte_of_digit a la (image_below p h 0 (omega arith)) in
    let eb = byte_of_digit b lb (image_below p h 1 (omega arith)) in
    let ec = byte_of_digit c lc (image_below p h 2 (omega arith)) in
    let ed = byte_of_digit d ld (image_below p h 3 (omega arith)) in
    let spelled : a ∷ b ∷ c ∷ d ∷ [] ≡ digits_of p = cc in
    let Spells : List ℕ → Type 0 = λ w. permutation_of w ≡ Some p in
    subst Spells (sym spelled) (permutation_of-digits p h)

-- the digits of four bytes that spell a permutation are a permutation
digits_permute : (a b c d : ℕ) (p : List ℕ) → IsPermutationOfFour p → a ∷ b ∷ c ∷ d ∷ [] ≡ digits_of p → IsPermutationOfFour (digit a ∷ digit b ∷ digit c ∷ digit d ∷ [])
digits_permute a b c d p h e =
    let f = four_images p h in
    let spelled : a ∷ b ∷ c ∷ d ∷ [] ≡ (48 + image p 0) ∷ (48 + image p 1) ∷ (48 + image p 2) ∷ (48 + image p 3) ∷ [] = e ∙ ap digits_of f in
    let e0 : a ≡ 48 + image p 0 = cc in
    let e1 : b ≡ 48 + image p 1 = cc in
    let e2 : c ≡ 48 + image p 2 = cc in
    let e3 : d ≡ 48 + image p 3 = cc in
    let d0 : digit a ≡ image p 0 = ap digit e0 ∙ digit_of_byte (image p 0) (image_below p h 0 (omega arith)) in
    let d1 : digit b ≡ image p 1 = ap digit e1 ∙ digit_of_byte (image p 1) (image_below p h 1 (omega arith)) in
    let d2 : digit c ≡ image p 2 = ap digit e2 ∙ digit_of_byte (image p 2) (image_below p h 2 (omega arith)) in
    let d3 : digit d ≡ image p 3 = ap digit e3 ∙ digit_of_byte (image p 3) (image_below p h 3 (omega arith)) in
    let all : digit a ∷ digit b ∷ digit c ∷ digit d ∷ [] ≡ p = cc in
    subst IsPermutationOfFour (sym all) h

pub permutation_of-no_four : (a b c d : ℕ) → (IsPermutationOfFour (digit a ∷ digit b ∷ digit c ∷ digit d ∷ []) → ⊥) → permutation_of (a ∷ b ∷ c ∷ d ∷ []) ≡ None
permutation_of-no_four a b c d never = permutation_of-none (a ∷ b ∷ c ∷ d ∷ []) (λ p h e. never (digits_permute a b c d p h e))

-- a word of another length spells no permutation
pub permutation_of-length : (w : List ℕ) → (length w ≡ 4 → ⊥) → permutation_of w ≡ None
permutation_of-length w never =
    permutation_of-none w (λ p h e. never (ap length e ∙ length-map p (λ v. 48 + v) ∙ length-permutation p h))

-- four numbers are a permutation if and only if each of 0 to 3 is among them
pub is_permutation-four : (p : List ℕ) → length p ≡ 4 → is_permutation p ≡ (has p 0 && has p 1 && has p 2 && has p 3)
unfolding is_permutation
is_permutation-four p h = grind arith

-- for functions that test the images one by one
pub ruleset permuting = is_permutation-four

pub contains_words : (p : List ℕ) → IsPermutationOfFour p ↔ Contains words p
unfolding is_permutation
contains_words p = (λ h. Contains-from_any same_list-true p words (is_word p h), λ c. subst IsPermutationOfFour c.2 (list_all-at is_permutation words refl c.0 p c.1))

pub index_apart : (p q : List ℕ) → IsPermutationOfFour p → IsPermutationOfFour q → index p ≡ index q → p ≡ q
index_apart p q h k e = let f = words_at p h in let g = words_at q k in cc

-- the permutation at an index
pub words_found : (p : List ℕ) (i : ℕ) → IsPermutationOfFour p → index p ≡ i → slice_index_or words i [] ≡ p
words_found p i h e = rw (← e) (words_at p h)

-- the identity

pub identity_permutes : IsPermutationOfFour identity
unfolding is_permutation
identity_permutes = refl

pub inverse-identity : inverse identity ≡ identity
unfolding inverse preimage
inverse-identity = refl

pub image-identity : (v : ℕ) → v < 4 → image identity v ≡ v
image-identity zero l = refl
image-identity (suc zero) l = refl
image-identity (suc (suc zero)) l = refl
image-identity (suc (suc (suc zero))) l = refl
image-identity (suc (suc (suc (suc v)))) l = absurd (omega arith)

-- the image of a gluing's permutation under one relabelling and then another
pub carried_twice : (s r t u p : List ℕ) → IsPermutationOfFour s → IsPermutationOfFour r → IsPermutationOfFour t → IsPermutationOfFour u → IsPermutationOfFour p
    → compose u (compose (compose r (compose p (inverse s))) (inverse t)) ≡ compose (compose u r) (compose p (inverse (compose t s)))
carried_twice s r t u p hs hr ht hu hp =
    let qs = inverse_permutes s hs in
    let qt = inverse_permutes t ht in
    let a : List ℕ = compose p (inverse s) in
    let ha = compose_permutes p (inverse s) hp qs in
    ap (compose u) (compose-compose r a (inverse t) hr ha qt) ∙ sym (compose-compose u r (compose a (inverse t)) hu hr (compose_permutes a (inverse t) ha qt))
    ∙ ap (compose (compose u r)) (compose-compose p (inverse s) (inverse t) hp qs qt ∙ ap (compose p) (sym (inverse-of-compose t s ht hs)))

-- a composition with a permutation on the right can be cancelled
pub taken_away : (r s a : List ℕ) → IsPermutationOfFour r → IsPermutationOfFour s → IsPermutationOfFour a → compose r a ≡ compose s a → r ≡ s
taken_away r s a hr hs ha e = sym (alone r hr) ∙ ap (λ q. compose q (inverse a)) e ∙ alone s hs
  where
    alone : (q : List ℕ) → IsPermutationOfFour q → compose (compose q a) (inverse a) ≡ q
    alone q hq = compose-compose q a (inverse a) hq ha (inverse_permutes a ha) ∙ ap (compose q) (compose-inverse a ha) ∙ compose-identity q hq
