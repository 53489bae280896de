-- Masks of columns, and the clashing pairs that they find.
use Rattle.std.proofs.Common.{◌≡◌, ◌≢◌, ℕ, zero, suc, ◌+◌, ◌-◌, ◌*◌, ◌/◌, ◌%◌, ◌<◌, ◌≤◌, Bool, true, false, cond, List, [], ◌∷◌, ◌++◌, length, get_or, Vec, ⊎_elim, sym, ◌∙◌, ap, refl, subst, subst₂, ◌⊎◌, inl, inr, arith}
use Rattle.std.specs.Prelude.{◌==◌, ◌&&◌, not, nat_lt, nat_le, IsTrue, ◌↔◌}
use Rattle.std.specs.List.{All}
use Rattle.std.specs.declared.alloc.Global.{Global}
use Rattle.std.proofs.lemmas.List.{length_push, get_or_push, get_or_append_left}
use Rattle.std.proofs.lemmas.Bool.{cases_lt, eqb-true, eq-eqb, ltb-true, lt-ltb, le-ltb, leb-true, le-leb, and_parts, and_from, and_left, or_left, or_right, cases_eq, cases_order, false≢true, false_from_ne_true, or_cases, and_right}
use Rattle.std.proofs.lemmas.Nat.{div-mul-add}
use Rattle.std.proofs.Math.Nat.{div-add-mod, mod-lt, mod-eq_of_lt, mul_comm, mul-add-mod_self_left}
use Rattle.support_bits.specs.Words.{bit_of, AreWordsOf}
use Rattle.surface_definitions.specs.Coordinates.{before_octagons, columns, columns_each, triangles_each, is_octagon, is_quad_or_octagon, clash_test, clash_list}
use Rattle.surface_definitions.specs.declared.Coords.{Coords}
use Rattle.surface_definitions.proofs.ColumnCounts.{index_below, tet_below, column_of_index}
use Rattle.ray_steps.specs.Clashes.{AreClashes, IsInUnion, IsClashFree}
use Rattle.surface_definitions.specs.ClashPairs.{is_clash}
use Rattle.quad_condition.specs.Partners.{partners}
use Rattle.quad_condition.specs.Bits.{IsOfEither, IsMarkedIn, HasTwo}
use Rattle.quad_condition.specs.Marks.{is_marked, AreMarks, AreDistanceMasks, AreMasks, HasPairAtDistance}
use Rattle.quad_condition.proofs.Pairs.{Pairs, IsPrefix, prefix_by, pairs_prefix, partners_before, partners_more, pairs_before, all_pairs}
use Rattle.surface_definitions.proofs.Ranges.{flat_map-more}
use Rattle.surface_definitions.proofs.ClashPairs.{all_of_pairs}

-- one more column
below_other : (k column : ℕ) → k ≢ column → nat_lt k (column + 1) ≡ nat_lt k column
below_other k column other = go (cases_order k column)
  where
    go : (k ≡ column) ⊎ ((k < column) ⊎ (column < k)) → nat_lt k (column + 1) ≡ nat_lt k column
    go (inl same) = absurd (other same)
    go (inr (inl less)) = lt-ltb k (column + 1) (omega arith) ∙ sym (lt-ltb k column less)
    go (inr (inr more)) = le-ltb k (column + 1) (omega arith) ∙ sym (le-ltb k column (omega arith))

abbrev pub MarkedBelow : (ℕ → Bool) → ℕ → List ℕ → Type 0
MarkedBelow marked column words = (k : ℕ) → bit_of words k ≡ (nat_lt k column && marked k)

pub marks_set : (marked : ℕ → Bool) (column : ℕ) (old new : List ℕ) → MarkedBelow marked column old → marked column ≡ true → bit_of new column ≡ true → ((k : ℕ) → k ≢ column → bit_of new k ≡ bit_of old k)
    → MarkedBelow marked (column + 1) new
marks_set marked column old new before is set others k =
    ⊎_elim
    (λ same. ap (bit_of new) same ∙ set ∙ sym (and_from (nat_lt k (column + 1)) (marked k) (lt-ltb k (column + 1) (omega arith)) (ap marked same ∙ is)))
    (λ other. others k other ∙ before k ∙ ap (λ b. b && marked k) (sym (below_other k column other)))
    (cases_eq k column)

pub marks_skip : (marked : ℕ → Bool) (column : ℕ) (old : List ℕ) → MarkedBelow marked column old → marked column ≡ false → MarkedBelow marked (column + 1) old
marks_skip marked column old before is_not k =
    ⊎_elim
    (λ same. before k ∙ and_left (nat_lt k column) (marked k) (le-ltb k column (omega arith)) ∙ sym (and_right (nat_lt k (column + 1)) (marked k) (ap marked same ∙ is_not)))
    (λ other. before k ∙ ap (λ b. b && marked k) (sym (below_other k column other)))
    (cases_eq k column)

-- a fact of all pairs of a list
all_prefix : {X : Type 0} (P : X → Type 0) (xs ys : List X) → All P (xs ++ ys) → All P xs
all_prefix P [] ys h k d l = absurd (omega arith)
all_prefix P (x ∷ xs) ys h zero d l = h 0 d (omega arith)
all_prefix P (x ∷ xs) ys h (suc k) d l = all_prefix P xs ys (λ j e m. h (suc j) e (omega arith)) k d (omega arith)

all_suffix : {X : Type 0} (P : X → Type 0) (xs ys : List X) → All P (xs ++ ys) → All P ys
all_suffix P [] ys h = h
all_suffix P (x ∷ xs) ys h = all_suffix P xs ys (λ j e m. h (suc j) e (omega arith))

all_of_prefix : (P : ℕ × ℕ → Type 0) (xs ys : Pairs) → IsPrefix xs ys → All P ys → All P xs
all_of_prefix P xs ys p h = all_prefix P xs p.rest (subst (All P) p.is h)

pub pair_of_all : (P : ℕ × ℕ → Type 0) (coords : Coords) (n : ℕ) → All P (clash_list coords n) → (c e : ℕ) → c < e → e < columns coords n → clash_test coords c e ≡ true → P (c, e)
unfolding partners
pair_of_all P coords n h c e less within clashes =
    let all : (c + 1) + (columns coords n - (c + 1)) ≡ columns coords n = omega arith in
    let rows : All P (pairs_before coords n ((c + 1) + (columns coords n - (c + 1)))) = subst (All P) (sym (all_pairs coords n) ∙ ap (pairs_before coords n) (sym all)) h in
    let upto : All P (pairs_before coords n (c + 1)) = all_of_prefix P _ _ (pairs_prefix coords n (c + 1) (columns coords n - (c + 1))) rows in
    let row : All P (partners coords n c) = all_suffix P (pairs_before coords n c) (partners coords n c) (subst (All P) (flat_map-more (partners coords n) c) upto) in
    let whole : (e + 1) + (columns coords n - (e + 1)) ≡ columns coords n = omega arith in
    let cut : All P (partners_before coords c (e + 1)) = all_of_prefix P _ _ (prefix_by coords c (e + 1) (columns coords n - (e + 1))) (subst (λ k. All P (partners_before coords c k)) (sym whole) row) in
    let is : is_clash coords (c, e) ≡ true = and_from (nat_lt c e) (clash_test coords c e) (lt-ltb c e less) clashes in
    let last : All P (partners_before coords c e ++ (c, e) ∷ []) = subst (All P) (partners_more coords c e ∙ ap (λ b. partners_before coords c e ++ cond b ((c, e) ∷ []) []) is) cut in
    all_suffix P (partners_before coords c e) ((c, e) ∷ []) last 0 (c, e) (omega arith)

-- what the mark of a column says
record IsAt (coords : Coords) (n least distance column : ℕ) : Type 0 where
  within : column < columns coords n
  low : least ≤ column % columns_each coords
  room : column % columns_each coords + distance < columns_each coords

marked_is_at : (coords : Coords) (n least distance column : ℕ) (words : List ℕ) → AreMarks coords n least distance words → bit_of words column ≡ true → IsAt coords n least distance column
marked_is_at coords n least distance column words marks set =
    let place : ℕ = column % columns_each coords in
    let p : (nat_lt column (columns coords n) ≡ true) × (is_marked coords least distance column ≡ true) = and_parts (nat_lt column (columns coords n)) (is_marked coords least distance column) (sym (marks.bits column) ∙ set) in
    let q : (nat_le least place ≡ true) × (nat_lt (place + distance) (columns_each coords) ≡ true) = and_parts (nat_le least place) (nat_lt (place + distance) (columns_each coords)) p.1 in
    record { within = ltb-true column (columns coords n) p.0; low = leb-true least place q.0; room = ltb-true (place + distance) (columns_each coords) q.1 }

at_is_marked : (coords : Coords) (n least distance column : ℕ) (words : List ℕ) → AreMarks coords n least distance words → IsAt coords n least distance column → bit_of words column ≡ true
at_is_marked coords n least distance column words marks h =
    let place : ℕ = column % columns_each coords in
    marks.bits column ∙ and_from (nat_lt column (columns coords n)) (is_marked coords least distance column) (lt-ltb column (columns coords n) h.within)
    (and_from (nat_le least place) (nat_lt (place + distance) (columns_each coords)) (le-leb least place h.low) (lt-ltb (place + distance) (columns_each coords) h.room))

-- two columns of one tetrahedron
record IsPairOfOne (coords : Coords) (n c e : ℕ) : Type 0 where
  within : e < columns coords n
  same : c / columns_each coords ≡ e / columns_each coords
  low : triangles_each coords ≤ e % columns_each coords

-- columns that are d apart in one row of w
row_ahead : (w c d : ℕ) → c % w + d < w → (c / w ≡ (c + d) / w) × ((c + d) % w ≡ c % w + d)
row_ahead w c d room =
    let some : 0 < w = omega arith in
    let at : w * (c / w) + (c % w + d) ≡ c + d = let whole = div-add-mod c w in omega (arith, whole) in
    let negated : c / w * w ≡ w * (c / w) = mul_comm (c / w) w in (
      sym (subst (λ k. k / w ≡ c / w) (ap (λ k. k + (c % w + d)) negated ∙ at) (div-mul-add (c / w) w (c % w + d) room)),
      subst (λ k. k % w ≡ c % w + d) at (mul-add-mod_self_left w (c / w) (c % w + d) ∙ mod-eq_of_lt room),
    )

room_ahead : (w c e k : ℕ) → 0 < w → c / w ≡ e / w → e ≡ c + (k + 1) → c % w + (k + 1) < w
room_ahead w c e k some same is =
    let first : w * (c / w) + c % w ≡ c = div-add-mod c w in
    let second : w * (e / w) + e % w ≡ e = div-add-mod e w in
    let rows : w * (c / w) ≡ w * (e / w) = ap (λ q. w * q) same in
    let below : e % w < w = mod-lt e some in
    omega (arith, first, second, rows, below, is)

pair_ahead : (coords : Coords) (n c d : ℕ) → IsAt coords n (triangles_each coords) d c → IsPairOfOne coords n c (c + d)
pair_ahead coords n c d h =
    let w : ℕ = columns_each coords in
    let ahead = row_ahead w c d h.room in
    let place : (c + d) % w ≡ c % w + d = ahead.1 in
    let at : w * (c / w) + (c % w + d) ≡ c + d = let whole = div-add-mod c w in omega (arith, whole) in
    record {
      within = subst (λ k. k < columns coords n) at (column_of_index coords n (c / w) (c % w + d) (tet_below coords n c h.within) h.room);
      same = ahead.0;
      low = let low = h.low in omega (arith, low, place);
    }

ahead_of_pair : (coords : Coords) (n c e k : ℕ) → c < e → e < columns coords n → c / columns_each coords ≡ e / columns_each coords → triangles_each coords ≤ c % columns_each coords → e ≡ c + (k + 1)
    → IsAt coords n (triangles_each coords) (k + 1) c × (k + 2 ≤ columns_each coords - triangles_each coords)
ahead_of_pair coords n c e k less within same low is =
    let room : c % columns_each coords + (k + 1) < columns_each coords = room_ahead (columns_each coords) c e k (omega arith) same is in
    (record { within = omega arith; low = low; room = room }, omega (arith, room, low))

-- clashes
near_clash : (coords : Coords) (c e : ℕ) → c / columns_each coords ≡ e / columns_each coords → triangles_each coords ≤ c % columns_each coords → triangles_each coords ≤ e % columns_each coords → clash_test coords c e ≡ true
near_clash coords c e same low_c low_e =
    or_right (is_octagon coords c && is_octagon coords e) (((c / columns_each coords == e / columns_each coords) && is_quad_or_octagon coords c) && is_quad_or_octagon coords e)
    (and_from ((c / columns_each coords == e / columns_each coords) && is_quad_or_octagon coords c) (is_quad_or_octagon coords e)
    (and_from (c / columns_each coords == e / columns_each coords) (is_quad_or_octagon coords c) (eq-eqb (c / columns_each coords) (e / columns_each coords) same) (le-leb (triangles_each coords) (c % columns_each coords) low_c))
    (le-leb (triangles_each coords) (e % columns_each coords) low_e))

octagon_clash : (coords : Coords) (c e : ℕ) → before_octagons coords ≤ c % columns_each coords → before_octagons coords ≤ e % columns_each coords → clash_test coords c e ≡ true
octagon_clash coords c e low_c low_e =
    or_left (is_octagon coords c && is_octagon coords e) (((c / columns_each coords == e / columns_each coords) && is_quad_or_octagon coords c) && is_quad_or_octagon coords e)
    (and_from (is_octagon coords c) (is_octagon coords e) (le-leb (before_octagons coords) (c % columns_each coords) low_c) (le-leb (before_octagons coords) (e % columns_each coords) low_e))

-- supports and their words
in_union : (sa sb : List Bool) (a b : List ℕ) (column : ℕ) → AreWordsOf sa a → AreWordsOf sb b → IsOfEither a b column → IsInUnion sa sb column
in_union sa sb a b column p q (inl h) = inl (sym (p.bits column) ∙ h)
in_union sa sb a b column p q (inr h) = inr (sym (q.bits column) ∙ h)

of_either : (sa sb : List Bool) (a b : List ℕ) (column : ℕ) → AreWordsOf sa a → AreWordsOf sb b → IsInUnion sa sb column → IsOfEither a b column
of_either sa sb a b column p q (inl h) = inl (p.bits column ∙ h)
of_either sa sb a b column p q (inr h) = inr (q.bits column ∙ h)

pub near_is_clash : (coords : Coords) (n : ℕ) (near : List (Vec ℕ Global)) (sa sb : List Bool) (a b : List ℕ) → AreDistanceMasks coords n near → AreWordsOf sa a → AreWordsOf sb b → HasPairAtDistance near a b
    → IsClashFree (clash_list coords n) sa sb → ⊥
near_is_clash coords n near sa sb a b marks p q h free =
    let c : ℕ = h.pair.column in
    let d : ℕ = h.place + 1 in
    let words : AreMarks coords n (triangles_each coords) d h.mask.items = subst (λ (v : Vec ℕ Global). AreMarks coords n (triangles_each coords) d v.items) (sym (h.is_mask h.mask)) (marks.each h.place h.mask h.in_range) in
    let at : IsAt coords n (triangles_each coords) d c = marked_is_at coords n (triangles_each coords) d c h.mask.items words h.pair.marked in
    let pair : IsPairOfOne coords n c (c + d) = pair_ahead coords n c d at in
    pair_of_all (λ x. ¬ (IsInUnion sa sb x.0 × IsInUnion sa sb x.1)) coords n free c (c + d) (omega arith) pair.within (near_clash coords c (c + d) pair.same at.low pair.low)
    (in_union sa sb a b c p q h.pair.here, in_union sa sb a b (c + d) p q h.pair.ahead)

pub two_is_clash : (coords : Coords) (n : ℕ) (mask : List ℕ) (sa sb : List Bool) (a b : List ℕ) → AreMarks coords n (before_octagons coords) 0 mask → AreWordsOf sa a → AreWordsOf sb b → HasTwo mask a b
    → IsClashFree (clash_list coords n) sa sb → ⊥
two_is_clash coords n mask sa sb a b marks p q h free = go (cases_order h.first h.second)
  where
    at : (column : ℕ) → IsMarkedIn mask a b column → IsAt coords n (before_octagons coords) 0 column
    at column m = marked_is_at coords n (before_octagons coords) 0 column mask marks m.marked

    pair : (c e : ℕ) → c < e → IsMarkedIn mask a b c → IsMarkedIn mask a b e → ⊥
    pair c e less one other =
        pair_of_all (λ x. ¬ (IsInUnion sa sb x.0 × IsInUnion sa sb x.1)) coords n free c e less (at e other).within (octagon_clash coords c e (at c one).low (at e other).low)
        (in_union sa sb a b c p q one.here, in_union sa sb a b e p q other.here)

    go : (h.first ≡ h.second) ⊎ ((h.first < h.second) ⊎ (h.second < h.first)) → ⊥
    go (inl same) = h.separate same
    go (inr (inl less)) = pair h.first h.second less h.first_in h.second_in
    go (inr (inr more)) = pair h.second h.first more h.second_in h.first_in

element_at : {X : Type 0} (xs : List X) (k : ℕ) → k < length xs → (x : X) × ((d : X) → x ≡ get_or xs k d)
element_at [] k l = absurd (omega arith)
element_at (x ∷ xs) zero l = (x, λ d. refl)
element_at (x ∷ xs) (suc k) l = element_at xs k (omega arith)

pub free_of_clashes : (coords : Coords) (n : ℕ) (near : List (Vec ℕ Global)) (mask : List ℕ) (sa sb : List Bool) (a b : List ℕ) → AreMasks coords n near mask → AreWordsOf sa a → AreWordsOf sb b
    → (HasPairAtDistance near a b → ⊥) → (HasTwo mask a b → ⊥) → IsClashFree (clash_list coords n) sa sb
free_of_clashes coords n near mask sa sb a b marks p q no_near no_two =
    all_of_pairs (λ x. ¬ (IsInUnion sa sb x.0 × IsInUnion sa sb x.1)) coords n (λ c e less within clashes both.
    ⊎_elim (octagon c e less within both) (one_tet c e less within both)
    (or_cases (is_octagon coords c && is_octagon coords e) (((c / columns_each coords == e / columns_each coords) && is_quad_or_octagon coords c) && is_quad_or_octagon coords e) clashes))
  where
    octagon : (c e : ℕ) → c < e → e < columns coords n → IsInUnion sa sb c × IsInUnion sa sb e → (is_octagon coords c && is_octagon coords e) ≡ true → ⊥
    octagon c e less within both h =
        let parts : (is_octagon coords c ≡ true) × (is_octagon coords e ≡ true) = and_parts (is_octagon coords c) (is_octagon coords e) h in
        let at : (column : ℕ) → column < columns coords n → is_octagon coords column ≡ true → bit_of mask column ≡ true =
        λ column l t. at_is_marked coords n (before_octagons coords) 0 column mask marks.octagon_marks (record { within = l; low = leb-true (before_octagons coords) (column % columns_each coords) t; room = let b : column % columns_each coords < columns_each coords = index_below coords column in omega (arith, b) }) in
        no_two (record {
          first = c;
          second = e;
          separate = λ same. omega arith;
          first_in = record { marked = at c (omega arith) parts.0; here = of_either sa sb a b c p q both.0 };
          second_in = record { marked = at e within parts.1; here = of_either sa sb a b e p q both.1 };
        })

    one_tet : (c e : ℕ) → c < e → e < columns coords n → IsInUnion sa sb c × IsInUnion sa sb e
        → (((c / columns_each coords == e / columns_each coords) && is_quad_or_octagon coords c) && is_quad_or_octagon coords e) ≡ true → ⊥
    one_tet c e less within both h =
        let outer = and_parts ((c / columns_each coords == e / columns_each coords) && is_quad_or_octagon coords c) (is_quad_or_octagon coords e) h in
        let inner = and_parts (c / columns_each coords == e / columns_each coords) (is_quad_or_octagon coords c) outer.0 in
        let same : c / columns_each coords ≡ e / columns_each coords = eqb-true (c / columns_each coords) (e / columns_each coords) inner.0 in
        let low : triangles_each coords ≤ c % columns_each coords = leb-true (triangles_each coords) (c % columns_each coords) inner.1 in
        let k : ℕ = e - (c + 1) in
        let is : e ≡ c + (k + 1) = omega arith in
        let at : IsAt coords n (triangles_each coords) (k + 1) c × (k + 2 ≤ columns_each coords - triangles_each coords) = ahead_of_pair coords n c e k less within same low is in
        let in_range : k < length near = omega (arith, marks.near_marks.reach, at.1) in
        let found : (v : Vec ℕ Global) × ((d : Vec ℕ Global) → v ≡ get_or near k d) = element_at near k in_range in
        let words : AreMarks coords n (triangles_each coords) (k + 1) (found.0).items =
        subst (λ (v : Vec ℕ Global). AreMarks coords n (triangles_each coords) (k + 1) v.items) (sym (found.1 found.0)) (marks.near_marks.each k found.0 in_range) in
        no_near (record {
          place = k;
          in_range = in_range;
          mask = found.0;
          is_mask = found.1;
          pair = record {
            column = c;
            marked = at_is_marked coords n (triangles_each coords) (k + 1) c (found.0).items words at.0;
            here = of_either sa sb a b c p q both.0;
            ahead = subst (IsOfEither a b) is (of_either sa sb a b e p q both.1);
          };
        })

-- an entry within the list is the same for each default
pub any_default : {X : Type 0} (xs : List X) (k : ℕ) (x : X) → k < length xs → x ≡ get_or xs k x → (d : X) → x ≡ get_or xs k d
any_default [] k x l e d = absurd (omega arith)
any_default (y ∷ ys) zero x l e d = e
any_default (y ∷ ys) (suc k) x l e d = any_default ys k x (omega arith) e d

pub decides_two : (coords : Coords) (n : ℕ) (near : List (Vec ℕ Global)) (mask : List ℕ) (sa sb : List Bool) (a b : List ℕ) (r : Bool) → AreMasks coords n near mask → AreWordsOf sa a → AreWordsOf sb b
    → (HasPairAtDistance near a b → ⊥) → (IsTrue r ↔ HasTwo mask a b) → IsTrue (not r) ↔ IsClashFree (clash_list coords n) sa sb
decides_two coords n near mask sa sb a b r marks p q no_near two = (
  (λ t. free_of_clashes coords n near mask sa sb a b marks p q no_near (λ h. false≢true (sym (ap not (two.1 h)) ∙ t))),
  (λ free. ap not (false_from_ne_true r (λ t. two_is_clash coords n mask sa sb a b marks.octagon_marks p q (two.0 t) free))),
)

pub decides_near : (coords : Coords) (n : ℕ) (near : List (Vec ℕ Global)) (mask : List ℕ) (sa sb : List Bool) (a b : List ℕ) (r : Bool) → AreMasks coords n near mask → AreWordsOf sa a → AreWordsOf sb b
    → r ≡ true → (IsTrue r ↔ HasPairAtDistance near a b) → IsTrue (not r) ↔ IsClashFree (clash_list coords n) sa sb
decides_near coords n near mask sa sb a b r marks p q is close = (
  (λ t. absurd (false≢true (sym (ap not is) ∙ t))),
  (λ free. absurd (near_is_clash coords n near sa sb a b marks.near_marks p q (close.0 is) free)),
)

-- the listed pairs are of two different columns
pub are_clashes : (coords : Coords) (n : ℕ) → AreClashes (columns coords n) (clash_list coords n)
are_clashes coords n =
    all_of_pairs (λ pair. (pair.0 < columns coords n) × (pair.1 < columns coords n) × (pair.0 ≢ pair.1)) coords n
    (λ c e less within clashes. let low : c < columns coords n = omega arith in let separate : c ≢ e = λ same. omega arith in (low, within, separate))

-- each tetrahedron has columns after those of its triangles
pub some_quads : (coords : Coords) → triangles_each coords + 1 ≤ columns_each coords
some_quads coords = omega arith

-- the masks with one more distance
pub marks_more : (coords : Coords) (n least distance : ℕ) (near new : List (Vec ℕ Global)) (mask : Vec ℕ Global) → new ≡ near ++ mask ∷ [] → least ≡ triangles_each coords → length near + 1 ≡ distance → AreMarks coords n least distance mask.items
    → ((k : ℕ) (d : Vec ℕ Global) → k < length near → AreMarks coords n (triangles_each coords) (k + 1) (get_or near k d).items)
    → (k : ℕ) (d : Vec ℕ Global) → k < length new → AreMarks coords n (triangles_each coords) (k + 1) (get_or new k d).items
marks_more coords n least distance near new mask is first so_far last old k d l =
    let size = ap length is ∙ length_push near mask in
    let read = ap (λ (xs : List (Vec ℕ Global)). get_or xs k d) is in
    ⊎_elim
    (λ before. subst (λ (v : Vec ℕ Global). AreMarks coords n (triangles_each coords) (k + 1) v.items) (sym (read ∙ get_or_append_left near (mask ∷ []) d k before)) (old k d before))
    (λ after.
    let at : length near ≡ k = omega (arith, size, after, l) in
    let ahead : distance ≡ k + 1 = omega (arith, at, so_far) in
    subst (λ (v : Vec ℕ Global). AreMarks coords n (triangles_each coords) (k + 1) v.items) (sym (read ∙ get_or_push near mask d k at))
    (subst₂ (λ first ahead. AreMarks coords n first ahead mask.items) first ahead last))
    (cases_lt k (length near))
