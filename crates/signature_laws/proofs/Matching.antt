-- The first traversal of the second table that results in the traversed first table gives the least relabelling.
use Rattle.std.proofs.Common.{◌≡◌, ℕ, ◌+◌, ◌*◌, ◌/◌, ◌%◌, ◌<◌, true, false, List, [], length, get_or, refl, sym, ap, ◌∙◌, subst, arith, ⊎_elim}
use Rattle.std.specs.Prelude.{Option, Some, None, IfSome, IfNone, ◌==◌, ◌&&◌, nat_lt, slice_index}
use Rattle.std.specs.List.{slice_index_or}
use Rattle.std.proofs.lemmas.Bool.{or_cases, and_parts, ltb-true, eqb-true}
use Rattle.std.proofs.lemmas.List.{ext_get_or}
use Rattle.std.proofs.lemmas.List.FromFn.{get_or-map-range_with_len, length-map-range_with_len}
use Rattle.basic_lemmas.proofs.Truths.{by_bool}
use Rattle.table_definitions.specs.Permutation.{IsPermutationOfFour, words, index, inverse, compose, identity}
use Rattle.table_definitions.specs.Table.{Gluing, Row, IsTable}
use Rattle.table_definitions.specs.Relabelling.{Relabelling, IsRelabelling, AreIsomorphic, Carries, relabelled_place}
use Rattle.table_definitions.proofs.Permutations.{words_permute, index-words, index_below, words_at, inverse_permutes, inverse-inverse, compose-identity, identity-compose}
use Rattle.table_definitions.proofs.Carried.{image_in_range, length-images, perm_permutes, comes_from}
use Rattle.signature_definitions.specs.Labellings.{IsWalked, Relabels, is_image_before, IsLeastRelabelling}
use Rattle.signature_laws.specs.Starts.{numbered_start, numbered_start_back, IsNoMatch, IsFirstMatch}
use Rattle.signature_laws.specs.Between.{inverted, after, between, images_between, perms_between}
use Rattle.signature_laws.proofs.Back.{inverted_stands, inverted_relabelling, carries_back, after_stands, after_relabelling, carries_on}

-- the start with number i, as a gluing
abbrev start_gluing : ℕ → Gluing
start_gluing i = record { tet = i / 24; perm = slice_index_or words (i % 24) [] }

module _ (first second new : List Row) (by : Relabelling) (table : IsTable first) (table2 : IsTable second) (some : 0 < length first) (equal : length first ≡ length second) (w : IsWalked first (numbered_start 0) by new) where
  abbrev n : ℕ
  n = length first

  -- a relabelling `other` of the first table to the second gives a traversal of the second: by its inverse, and then by
  -- that of the first
  back_walk : (other : Relabelling) → Relabels first second other → (k : ℕ) → k ≡ 24 * slice_index other.images 0 + index (slice_index_or other.perms 0 [])
      → IsWalked second (numbered_start_back k) (after n by (inverted n other)) new
  back_walk other r k e = record { relabels = (second_relabelling, carried); begins = begun; ordered = w.ordered }
    where
      p : List ℕ
      p = slice_index_or other.perms 0 []

      hp : IsPermutationOfFour (slice_index_or other.perms 0 [])
      hp = perm_permutes n other r.0 0 some

      second_relabelling : IsRelabelling (length second) (after n by (inverted n other))
      second_relabelling = subst (λ m. IsRelabelling m (after n by (inverted n other))) equal (after_relabelling n by (inverted n other) w.relabels.0 (inverted_relabelling n other r.0))

      carried : Carries (after n by (inverted n other)) second new
      carried =
          let P : ℕ → Type 0 = λ m. Carries (after m by (inverted n other)) second new in
          subst P (sym equal) (carries_on second first new by (inverted n other) table2 (subst (λ m. IsRelabelling m by) equal w.relabels.0) (subst (λ m. IsRelabelling m (inverted n other)) equal (inverted_relabelling n other r.0))
          (carries_back first second other table r.0 r.1) w.relabels.1)

      begun : relabelled_place (after n by (inverted n other)) (k / 24) ≡ record { tet = 0; perm = inverse (slice_index_or words (k % 24) []) }
      begun =
          let under = index_below (slice_index_or other.perms 0 []) hp in
          let q : k / 24 ≡ slice_index other.images 0 = omega (arith, e, under) in
          let i : k % 24 ≡ index (slice_index_or other.perms 0 []) = omega (arith, e, under) in
          let word : slice_index_or words (k % 24) [] ≡ slice_index_or other.perms 0 [] = ap (λ j. slice_index_or words j []) i ∙ words_at (slice_index_or other.perms 0 []) hp in
          let low : slice_index other.images 0 < n = image_in_range n other r.0 0 some in
          let home : relabelled_place (inverted n other) (slice_index other.images 0) ≡ record { tet = 0; perm = inverse (slice_index_or other.perms 0 []) } = inverted_stands n other r.0 0 some in
          let tets : slice_index (inverted n other).images (slice_index other.images 0) ≡ 0 = ap (λ (g : Gluing). g.tet) home in
          let perms : slice_index_or (inverted n other).perms (slice_index other.images 0) [] ≡ inverse (slice_index_or other.perms 0 []) = ap (λ (g : Gluing). g.perm) home in
          let on : relabelled_place by 0 ≡ record { tet = 0; perm = identity } = w.begins in
          let to : slice_index by.images (slice_index (inverted n other).images (slice_index other.images 0)) ≡ 0 = ap (slice_index by.images) tets ∙ ap (λ (g : Gluing). g.tet) on in
          let by_perm : slice_index_or by.perms (slice_index (inverted n other).images (slice_index other.images 0)) [] ≡ identity = ap (λ t. slice_index_or by.perms t []) tets ∙ ap (λ (g : Gluing). g.perm) on in
          let whole : compose (slice_index_or by.perms (slice_index (inverted n other).images (slice_index other.images 0)) []) (slice_index_or (inverted n other).perms (slice_index other.images 0) []) ≡ inverse (slice_index_or words (k % 24) []) =
          ap (λ a. compose a (slice_index_or (inverted n other).perms (slice_index other.images 0) [])) by_perm ∙ ap (compose identity) perms ∙ identity-compose (inverse (slice_index_or other.perms 0 [])) (inverse_permutes (slice_index_or other.perms 0 []) hp)
          ∙ ap inverse (sym word) in
          ap (relabelled_place (after n by (inverted n other))) q ∙ after_stands n by (inverted n other) (slice_index other.images 0) low ∙ (λ j. record { tet = to j; perm = whole j })

  -- if no traversal of the second table matches, the tables are not isomorphic
  pub no_relabelling : ((i : ℕ) → i < 24 * length second → IsNoMatch second new i) → AreIsomorphic first second → ⊥
  no_relabelling none r =
      let k : ℕ = 24 * slice_index r.0.images 0 + index (slice_index_or r.0.perms 0 []) in
      let low : slice_index r.0.images 0 < n = image_in_range n r.0 r.1 0 some in
      let under = index_below (slice_index_or r.0.perms 0 []) (perm_permutes n r.0 r.1 0 some) in
      none k (omega (arith, low, under, equal)) (after n by (inverted n r.0)) (back_walk r.0 (r.1, r.2) k refl)

  -- the image of tetrahedron 0 under the relabelling that a matching traversal gives
  module _ (back : Relabelling) (i : ℕ) (in_range : i < 24 * length second) (m : IsWalked second (numbered_start_back i) back new) where
    back_relabelling : IsRelabelling n back
    back_relabelling = subst (λ l. IsRelabelling l back) (sym equal) m.relabels.0

    stands_by : relabelled_place (between n by back) 0 ≡ start_gluing i
    stands_by =
        let low : i / 24 < n = omega (arith, equal) in
        let p : List ℕ = slice_index_or words (i % 24) [] in
        let hp = words_permute (i % 24) (omega arith) in
        let home = inverted_stands n back back_relabelling (i / 24) low in
        let on : relabelled_place by 0 ≡ record { tet = 0; perm = identity } = w.begins in
        let there : relabelled_place back (i / 24) ≡ record { tet = 0; perm = inverse p } = m.begins in
        let at : slice_index by.images 0 ≡ slice_index back.images (i / 24) = ap (λ (g : Gluing). g.tet) on ∙ sym (ap (λ (g : Gluing). g.tet) there) in
        let tets : slice_index (inverted n back).images (slice_index by.images 0) ≡ i / 24 = ap (slice_index (inverted n back).images) at ∙ ap (λ (g : Gluing). g.tet) home in
        let perms : slice_index_or (inverted n back).perms (slice_index by.images 0) [] ≡ p =
        ap (λ t. slice_index_or (inverted n back).perms t []) at ∙ ap (λ (g : Gluing). g.perm) home ∙ ap (λ (g : Gluing). inverse g.perm) there ∙ inverse-inverse p hp in
        let whole : compose (slice_index_or (inverted n back).perms (slice_index by.images 0) []) (slice_index_or by.perms 0 []) ≡ p =
        ap (λ a. compose a (slice_index_or by.perms 0 [])) perms ∙ ap (λ (g : Gluing). compose p g.perm) on ∙ compose-identity p hp in
        after_stands n (inverted n back) by 0 some ∙ (λ j. record { tet = tets j; perm = whole j })

    relabels_between : Relabels first second (between n by back)
    relabels_between =
        let c : Carries (inverted n back) new second = subst (λ l. Carries (inverted l back) new second) (sym equal) (carries_back second new back table2 m.relabels.0 m.relabels.1) in (
          after_relabelling n (inverted n back) by (inverted_relabelling n back back_relabelling) w.relabels.0,
          carries_on first new second (inverted n back) by table (inverted_relabelling n back back_relabelling) w.relabels.0 w.relabels.1 c,
        )

    -- the start of an earlier relabelling has a smaller number
    earlier : (other : Relabelling) → Relabels first second other → is_image_before (relabelled_place other 0) (start_gluing i) ≡ true → 24 * slice_index other.images 0 + index (slice_index_or other.perms 0 []) < i
    earlier other r h =
        let q : List ℕ = slice_index_or other.perms 0 [] in
        let under = index_below q (perm_permutes n other r.0 0 some) in
        let here : index (slice_index_or words (i % 24) []) ≡ i % 24 = index-words (i % 24) (omega arith) in
        ⊎_elim (λ (a : nat_lt (slice_index other.images 0) (i / 24) ≡ true). let l = ltb-true (slice_index other.images 0) (i / 24) a in omega (arith, l, under))
        (λ (b : ((slice_index other.images 0 == i / 24) && nat_lt (index q) (index (slice_index_or words (i % 24) []))) ≡ true).
        let both = and_parts (slice_index other.images 0 == i / 24) (nat_lt (index q) (index (slice_index_or words (i % 24) []))) b in
        let same = eqb-true (slice_index other.images 0) (i / 24) both.0 in
        let l = ltb-true (index q) (index (slice_index_or words (i % 24) [])) both.1 in
        omega (arith, same, l, here))
        (or_cases (nat_lt (slice_index other.images 0) (i / 24)) ((slice_index other.images 0 == i / 24) && nat_lt (index q) (index (slice_index_or words (i % 24) []))) h)

    pub least_between : ((k : ℕ) → k < i → IsNoMatch second new k) → IsLeastRelabelling first second (between n by back)
    least_between none = record { relabels = relabels_between; least = λ other r. not_before other r }
      where
        not_before : (other : Relabelling) → Relabels first second other → is_image_before (relabelled_place other 0) (relabelled_place (between n by back) 0) ≡ false
        not_before other r = by_bool (is_image_before (relabelled_place other 0) (relabelled_place (between n by back) 0))
            (λ b.
            let h : is_image_before (relabelled_place other 0) (start_gluing i) ≡ true = ap (is_image_before (relabelled_place other 0)) (sym stands_by) ∙ b in
            let k : ℕ = 24 * slice_index other.images 0 + index (slice_index_or other.perms 0 []) in
            absurd (none k (earlier other r h) (after n by (inverted n other)) (back_walk other r k refl)))
            (λ b. b)

  pub first_match_is_least : (back : Relabelling) → IsFirstMatch second new back → IsLeastRelabelling first second (between n by back)
  first_match_is_least back f = least_between back f.found.0 f.found.1 f.found.2 f.found.3

-- the lists of images and permutations are those of the relabelling between
module _ (n : ℕ) (first second : Relabelling) (h : IsRelabelling n first) (h2 : IsRelabelling n second) (olds : List ℕ) (long : length olds ≡ n)
    (home : (t : ℕ) → t < n → slice_index olds (slice_index second.images t) ≡ t) where
  long_first : length first.images ≡ n
  long_first = length-images n first h

  abbrev images : List ℕ
  images = images_between first olds

  abbrev perms : List (List ℕ)
  perms = perms_between first second images

  pub length-images_between : length images ≡ n
  length-images_between = length-map-range_with_len (λ t. slice_index olds (slice_index first.images t)) 0 (length first.images) ∙ long_first

  image_at : (t : ℕ) → t < n → get_or images t 0 ≡ slice_index olds (slice_index first.images t)
  image_at t l = get_or-map-range_with_len (λ t. slice_index olds (slice_index first.images t)) 0 (length first.images) t t 0 (let e = long_first in omega (arith, e)) (omega arith)

  perm_at : (t : ℕ) → t < n → get_or perms t [] ≡ compose (inverse (slice_index_or second.perms (slice_index images t) [])) (slice_index_or first.perms t [])
  perm_at t l = get_or-map-range_with_len (λ t. compose (inverse (slice_index_or second.perms (slice_index images t) [])) (slice_index_or first.perms t [])) 0 (length first.images) t t [] (let e = long_first in omega (arith, e)) (omega arith)

  -- the tetrahedron u that the second maps to the image of t under the first
  second_image : (t : ℕ) → t < n → (u : ℕ) × (u < n) × (slice_index second.images u ≡ slice_index first.images t) × (slice_index images t ≡ u)
  second_image t l =
      let a = comes_from n second h2 (slice_index first.images t) (image_in_range n first h t l) in
      (a.0, a.1, a.2, image_at t l ∙ ap (slice_index olds) (sym a.2) ∙ home a.0 a.1)

  pub images_in_range : (t : ℕ) → t < n → slice_index images t < n
  images_in_range t l = let a = second_image t l in let b = a.1 in let c = a.3 in omega (arith, b, c)

  occurs : (t : ℕ) → t < n → relabelled_place (record { images = images; perms = perms }) t ≡ relabelled_place (between n first second) t
  occurs t l =
      let a = second_image t l in
      let there : relabelled_place (inverted n second) (slice_index second.images a.0) ≡ record { tet = a.0; perm = inverse (slice_index_or second.perms a.0 []) } = inverted_stands n second h2 a.0 a.1 in
      let tet : slice_index images t ≡ slice_index (inverted n second).images (slice_index first.images t) = a.3 ∙ sym (ap (λ (g : Gluing). g.tet) there) ∙ ap (slice_index (inverted n second).images) a.2 in
      let back : slice_index_or (inverted n second).perms (slice_index first.images t) [] ≡ inverse (slice_index_or second.perms (slice_index images t) []) =
      ap (λ v. slice_index_or (inverted n second).perms v []) (sym a.2) ∙ ap (λ (g : Gluing). g.perm) there ∙ ap (λ v. inverse (slice_index_or second.perms v [])) (sym a.3) in
      let perm : get_or perms t [] ≡ compose (slice_index_or (inverted n second).perms (slice_index first.images t) []) (slice_index_or first.perms t []) = perm_at t l ∙ ap (λ q. compose q (slice_index_or first.perms t [])) (sym back) in
      (λ i. record { tet = tet i; perm = perm i }) ∙ sym (after_stands n (inverted n second) first t l)

  made_long : length (between n first second).images ≡ n
  made_long = length-images n (between n first second) (after_relabelling n (inverted n second) first (inverted_relabelling n second h2) h)

  pub is_between : record { images = images; perms = perms } ≡ between n first second
  is_between =
      let r = after_relabelling n (inverted n second) first (inverted_relabelling n second h2) h in
      let long_perms : length perms ≡ n = length-map-range_with_len (λ t. compose (inverse (slice_index_or second.perms (slice_index images t) [])) (slice_index_or first.perms t [])) 0 (length first.images) ∙ long_first in
      let a : images ≡ (between n first second).images = ext_get_or 0 images (between n first second).images (length-images_between ∙ sym made_long) (λ t l. ap (λ (g : Gluing). g.tet) (occurs t (let e = length-images_between in omega (arith, e)))) in
      let b : perms ≡ (between n first second).perms = ext_get_or [] perms (between n first second).perms (long_perms ∙ sym r.perms) (λ t l. ap (λ (g : Gluing). g.perm) (occurs t (omega (arith, long_perms)))) in
      λ i. record { images = a i; perms = b i }

  pub between_relabelling : IsRelabelling n (record { images = images; perms = perms })
  between_relabelling = subst (IsRelabelling n) (sym is_between) (after_relabelling n (inverted n second) first (inverted_relabelling n second h2) h)

-- `olds` is the inverse of the images of `second`
pub record AreOlds (n : ℕ) (second : Relabelling) (olds : List ℕ) : Type 0 where
  pub long : length olds ≡ n
  pub home : (t : ℕ) → t < n → slice_index olds (slice_index second.images t) ≡ t

pub olds_by : (n : ℕ) (second : Relabelling) (items olds : List ℕ) → IsRelabelling n second → olds ≡ items → length items ≡ length second.images
    → ((t : ℕ) → t < length second.images → slice_index items (slice_index second.images t) ≡ t) → AreOlds n second olds
olds_by n second items olds h e long back = record {
  long = ap length e ∙ long ∙ length-images n second h;
  home = λ t l. ap (λ (o : List ℕ). slice_index o (slice_index second.images t)) e ∙ back t (let m = length-images n second h in omega (arith, m));
}

-- what the functions return is the relabelling by the first and back by the second
pub listed_range : (first second : Relabelling) (olds images : List ℕ) → IsRelabelling (length first.images) first → IsRelabelling (length first.images) second → AreOlds (length first.images) second olds
    → images ≡ images_between first olds → (length images ≡ length first.images) × ((t : ℕ) → t < length images → slice_index images t < length second.images)
listed_range first second olds images h h2 o e =
    let n : ℕ = length first.images in
    let P : List ℕ → Type 0 = λ xs. (length xs ≡ n) × ((t : ℕ) → t < length xs → slice_index xs t < length second.images) in
    let long = length-images_between n first second h h2 olds o.long o.home in
    let long2 = length-images n second h2 in
    subst P (sym e) (long, λ t l. let a = images_in_range n first second h h2 olds o.long o.home t (omega (arith, long)) in omega (arith, a, long2))

pub listed_between : (first second : Relabelling) (olds images : List ℕ) (perms : List (List ℕ)) → IsRelabelling (length first.images) first → IsRelabelling (length first.images) second → AreOlds (length first.images) second olds
    → images ≡ images_between first olds → perms ≡ perms_between first second images
    → IsRelabelling (length images) (record { images = images; perms = perms }) × (record { images = images; perms = perms } ≡ between (length first.images) first second)
listed_between first second olds images perms h h2 o e f =
    let n : ℕ = length first.images in
    let xs : List ℕ = images_between first olds in
    let ys : List (List ℕ) = perms_between first second xs in
    let same : perms ≡ ys = f ∙ ap (perms_between first second) e in
    let long : length images ≡ n = ap length e ∙ length-images_between n first second h h2 olds o.long o.home in
    let made : record { images = images; perms = perms } ≡ record { images = xs; perms = ys } = λ i. record { images = e i; perms = same i } in
    let r : IsRelabelling n (record { images = images; perms = perms }) = subst (IsRelabelling n) (sym made) (between_relabelling n first second h h2 olds o.long o.home) in
    (subst (λ m. IsRelabelling m (record { images = images; perms = perms })) (sym long) r, made ∙ is_between n first second h h2 olds o.long o.home)

-- a statement on an option of known form
pub from_none : {X : Type 0} (o : Option X) (P : Type 0) → o ≡ None → IfNone o P → P
from_none None P e h = h
from_none (Some x) P e h = absurd cc

pub from_some : {X : Type 0} (o : Option X) (x : X) (P : X → Type 0) → o ≡ Some x → IfSome o P → P x
from_some {X} o x P e h = subst (λ (q : Option X). IfSome q P) e h
