-- A table has one list of components; a connected one has itself as its only component.
use Rattle.std.proofs.Common.{◌≡◌, ℕ, zero, suc, ◌<◌, ◌≤◌, ◌↔◌, List, [], ◌∷◌, length, map, Contains, Option, Some, None, option_map, slice_index, slice_index_or, codes, IsPermutation, subst, subst₂, sym, ap, refl, ◌∙◌, arith, ext_get_or}
use Rattle.std.specs.List.{AllZip}
use Rattle.std.proofs.lemmas.List.{get_or-map, length-map}
use Rattle.std.proofs.lemmas.List.FromFn.{length-range_with_len, get_or-range_with_len}
use Rattle.std.proofs.lemmas.List.Sorted.{IsPermutation-refl, length_permutation, Contains-permutation}
use Rattle.basic_lemmas.proofs.Members.{Within, same_numbers, contains_at, Ascends}
use Rattle.table_definitions.specs.Lists.{below}
use Rattle.table_definitions.specs.Table.{Gluing, Row, IsTable, glue}
use Rattle.table_definitions.specs.Places.{Place, whole, across, SameComponent, IsConnected}
use Rattle.table_definitions.proofs.ChainLaws.{kept_along, joined_refl, joined_trans, crossed}
use Rattle.signature_definitions.specs.Spelling.{IsSignature}
use Rattle.signature_definitions.proofs.Computed.{computed}
use Rattle.signature_laws.proofs.Least.{empty_signature}
use Rattle.signature_laws.proofs.Uniqueness.{one_signature}
use Rattle.component_definitions.specs.Parts.{Part, place_in, renumbered, rows_of, first_of, IsPart, AreParts}
use Rattle.component_definitions.specs.ComponentSignature.{component_text, IsComponentSignature}
use Rattle.component_laws.proofs.Numbers.{place_at, place_of, entry_of}
use Rattle.component_laws.proofs.Members.{part_at, numbers_at, no_part, part_is, stands_at, member_of, member_below, first_member, first_least, joined_member, glued_member, joins, length-part, glue-part}

-- ---- one list of components

module _ (rows : List Row) (table : IsTable rows) where
  same_part : (p q : Part) → IsPart rows p → IsPart rows q → first_of p ≡ first_of q → p ≡ q
  same_part p q hp hq e = λ i. record { rows = same_rows i; numbers = numbers i }
    where
      numbers : p.numbers ≡ q.numbers
      numbers = same_numbers p.numbers q.numbers hp.ascending hq.ascending
          (λ t c. (hq.members t).1 (subst (λ f. (t < length rows) × SameComponent rows f t) e ((hp.members t).0 c)))
          (λ t c. (hp.members t).1 (subst (λ f. (t < length rows) × SameComponent rows f t) (sym e) ((hq.members t).0 c)))

      same_rows : p.rows ≡ q.rows
      same_rows = hp.renumbers ∙ ap (rows_of rows) numbers ∙ sym hq.renumbers

  abbrev firsts : List Part → List ℕ
  firsts parts = map first_of parts

  first_at : (parts : List Part) (i : ℕ) → i < length parts → slice_index (firsts parts) i ≡ first_of (part_at parts i)
  first_at parts i l = get_or-map first_of parts i no_part 0 l

  firsts_long : (parts : List Part) → length (firsts parts) ≡ length parts
  firsts_long parts = length-map parts first_of

  firsts_ascend : (parts : List Part) → AreParts rows parts → Ascends (firsts parts)
  firsts_ascend parts h i j d less l = let m : j < length parts = subst (λ n. j < n) (firsts_long parts) l in
      subst₂ (λ a b. a < b) (sym (get_or-map first_of parts i no_part d (omega arith))) (sym (get_or-map first_of parts j no_part d m)) (h.ascending i j no_part less m)

  firsts_within : (P Q : List Part) → AreParts rows P → AreParts rows Q → Within (firsts P) (firsts Q)
  firsts_within P Q hp hq t c =
      let l : c.0 < length P = subst (λ n. c.0 < n) (firsts_long P) c.1 in
      let e : first_of (part_at P c.0) ≡ t = sym (first_at P c.0 l) ∙ entry_of (firsts P) t c in
      let p = part_is rows table P hp c.0 l in
      let member : Contains (numbers_at P c.0) t = subst (Contains (numbers_at P c.0)) e (first_member rows table (part_at P c.0) p) in
      let below : t < length rows = member_below rows table (part_at P c.0) p t member in
      let s = stands_at rows table Q hq t below in
      let q = part_is rows table Q hq s.i s.in_parts in
      let there : Contains (numbers_at Q s.i) t = member_of rows table Q hq t s in
      let first_q : Contains (numbers_at Q s.i) (first_of (part_at Q s.i)) = first_member rows table (part_at Q s.i) q in
      let one : first_of (part_at Q s.i) ≤ t = first_least rows table (part_at Q s.i) q t there in
      let two : first_of (part_at P c.0) ≤ first_of (part_at Q s.i) = first_least rows table (part_at P c.0) p (first_of (part_at Q s.i))
      (joined_member rows table (part_at P c.0) p t (first_of (part_at Q s.i)) member (joins rows table (part_at Q s.i) q t (first_of (part_at Q s.i)) there first_q)
      (member_below rows table (part_at Q s.i) q (first_of (part_at Q s.i)) first_q)) in
      contains_at (firsts Q) s.i t (subst (λ n. s.i < n) (sym (firsts_long Q)) s.in_parts) (first_at Q s.i s.in_parts ∙ omega arith)

  pub one_list_of_parts : (P Q : List Part) → AreParts rows P → AreParts rows Q → P ≡ Q
  one_list_of_parts P Q hp hq = ext_get_or no_part P Q long (λ i l. let m : i < length Q = subst (λ n. i < n) long l in
      same_part (part_at P i) (part_at Q i) (part_is rows table P hp i l) (part_is rows table Q hq i m) (sym (first_at P i l) ∙ ap (λ fs. slice_index fs i) same ∙ first_at Q i m))
    where
      same : firsts P ≡ firsts Q
      same = same_numbers (firsts P) (firsts Q) (firsts_ascend P hp) (firsts_ascend Q hq) (firsts_within P Q hp hq) (firsts_within Q P hq hp)

      long : length P ≡ length Q
      long = sym (firsts_long P) ∙ ap length same ∙ firsts_long Q

  -- ---- a component is connected

  module _ (part : Part) (h : IsPart rows part) where
    place : ℕ → ℕ
    place t = place_in part.numbers t

    lifted_step : (t f : ℕ) (g : Gluing) → Contains part.numbers t → glue rows (record { tet = t; face = f }) ≡ Some g → SameComponent part.rows (place t) (place g.tet)
    unfolding place
    lifted_step t f g c e = let w = place_of part.numbers h.ascending t c in
        let there : glue part.rows (record { tet = place_in part.numbers t; face = f }) ≡ Some (renumbered part.numbers g) = glue-part rows table part h (place_in part.numbers t) f w.0
        ∙ ap (λ u. option_map (renumbered part.numbers) (glue rows (record { tet = u; face = f }))) w.1 ∙ ap (option_map (renumbered part.numbers)) e in
        (f ∷ [], rw there refl)

    lifted : (t u : ℕ) → Contains part.numbers t → SameComponent rows t u → SameComponent part.rows (place t) (place u)
    lifted t u c j = (kept_along rows P step j.0 (whole t) (whole u) (refl, c, joined_refl part.rows (whole (place t))) j.1).2
      where
        P : Place → Type 0
        P p = (p.vertices ≡ []) × Contains part.numbers p.tet × SameComponent part.rows (place t) (place p.tet)

        step : (p : Place) (f : ℕ) (q : Place) → P p → across rows p f ≡ Some q → P q
        step p f q k e = let s = crossed rows p f q k.0 e in (
          s.bare,
          subst (Contains part.numbers) s.to (glued_member rows table part h p.tet f s.g k.1 s.glued),
          subst (λ v. SameComponent part.rows (place t) (place v)) s.to (joined_trans part.rows (whole (place t)) (whole (place p.tet)) (whole (place s.g.tet)) k.2 (lifted_step p.tet f s.g k.1 s.glued)),
        )

    pub part_is_connected : IsConnected part.rows
    unfolding place
    part_is_connected k m lk lm =
        let ck = contains_at part.numbers k (slice_index part.numbers k) (subst (λ n. k < n) (length-part rows table part h) lk) refl in
        let cm = contains_at part.numbers m (slice_index part.numbers m) (subst (λ n. m < n) (length-part rows table part h) lm) refl in
        subst₂ (SameComponent part.rows) (place_at part.numbers h.ascending k (subst (λ n. k < n) (length-part rows table part h) lk)) (place_at part.numbers h.ascending m (subst (λ n. m < n) (length-part rows table part h) lm))
        (lifted (slice_index part.numbers k) (slice_index part.numbers m) ck (joins rows table part h (slice_index part.numbers k) (slice_index part.numbers m) ck cm))

  -- ---- a connected table

  abbrev n : ℕ
  n = length rows

  abbrev alone : Part
  alone = record { rows = rows; numbers = below n }

  below_long : length (below n) ≡ n
  below_long = length-range_with_len 0 n

  below_at : (k d : ℕ) → k < n → slice_index_or (below n) k d ≡ k
  below_at k d l = get_or-range_with_len 0 n k d l ∙ omega arith

  below_ascends : Ascends (below n)
  below_ascends i j d less l = let m : j < n = subst (λ k. j < k) below_long l in subst₂ (λ a b. a < b) (sym (below_at i d (omega arith))) (sym (below_at j d m)) less

  below_place : (t : ℕ) → t < n → place_in (below n) t ≡ t
  below_place t l = ap (place_in (below n)) (sym (below_at t 0 l)) ∙ place_at (below n) below_ascends t (subst (λ k. t < k) (sym below_long) l)

  unmoved : rows ≡ rows_of rows (below n)
  unmoved = ext_get_or [] rows (rows_of rows (below n)) (sym (length-map (below n) (λ t. map (option_map (renumbered (below n))) (slice_index_or rows t [])) ∙ below_long))
      (λ k l. row_same k l ∙ sym (get_or-map (λ t. map (option_map (renumbered (below n))) (slice_index_or rows t [])) (below n) k 0 [] (subst (λ m. k < m) (sym below_long) l)
      ∙ ap (λ t. map (option_map (renumbered (below n))) (slice_index_or rows t [])) (below_at k 0 l)))
    where
      entry_same : (o : Option Gluing) → ((g : Gluing) → o ≡ Some g → g.tet < n) → o ≡ option_map (renumbered (below n)) o
      entry_same None h = refl
      entry_same (Some g) h = ap (λ t. Some (record { tet = t; perm = g.perm })) (sym (below_place g.tet (h g refl)))

      row_same : (k : ℕ) → k < n → slice_index_or rows k [] ≡ map (option_map (renumbered (below n))) (slice_index_or rows k [])
      row_same k l = ext_get_or None (slice_index_or rows k []) (map (option_map (renumbered (below n))) (slice_index_or rows k [])) (sym (length-map (slice_index_or rows k []) (option_map (renumbered (below n)))))
          (λ f m. entry_same (slice_index_or (slice_index_or rows k []) f None) (λ g e. table.in_range (record { tet = k; face = f }) g e)
          ∙ sym (get_or-map (option_map (renumbered (below n))) (slice_index_or rows k []) f None None m))

  module _ (connected : IsConnected rows) (some : 0 < n) where
    alone_is_part : IsPart rows alone
    alone_is_part = record {
      some = subst (λ k. 0 < k) (sym below_long) some;
      ascending = below_ascends;
      members = λ t. (
        λ c. let l : t < n = subst (λ u. u < n) (sym (below_at c.0 0 (subst (λ k. c.0 < k) below_long c.1)) ∙ entry_of (below n) t c) (subst (λ k. c.0 < k) below_long c.1) in
            (l, subst (λ u. SameComponent rows u t) (sym (below_at 0 0 some)) (connected 0 t some l)),
        λ w. contains_at (below n) t t (subst (λ k. t < k) (sym below_long) w.0) (below_at t 0 w.0),
      );
      renumbers = unmoved;
    }

    pub alone_is_parts : AreParts rows (alone ∷ [])
    alone_is_parts = record {
      each = λ i d l. subst (IsPart rows) (alone_at i d l) alone_is_part;
      ascending = λ i j d less l. absurd (omega arith);
      whole = λ t l. (alone, (0, omega arith, refl), contains_at (below n) t t (subst (λ k. t < k) (sym below_long) l) (below_at t 0 l));
    }
      where
        alone_at : (i : ℕ) (d : Part) → i < 1 → alone ≡ slice_index_or (alone ∷ []) i d
        alone_at zero d l = refl
        alone_at (suc i) d l = absurd (omega arith)

    one_text : (signatures : List (List ℕ)) → AllZip (λ (part : Part) signature. IsSignature part.rows signature) (alone ∷ []) signatures → (text : List ℕ) × (signatures ≡ text ∷ []) × IsSignature rows text
    one_text [] z = absurd z
    one_text (text ∷ []) z = (text, refl, z.0)
    one_text (text ∷ next ∷ texts) z = absurd z.1

    one_ordered : (text : List ℕ) (ordered : List (List ℕ)) → IsPermutation (text ∷ []) ordered → component_text ordered ≡ text
    one_ordered text [] p = let e : 0 ≡ length (text ∷ []) = length_permutation (text ∷ []) [] p in absurd (omega arith)
    one_ordered text (o ∷ []) p = let c = Contains-permutation (text ∷ []) (o ∷ []) text p (0, omega arith, refl) in here c.0 c.1 c.2
      where
        here : (k : ℕ) → k < 1 → slice_index_or (o ∷ []) k text ≡ text → o ≡ text
        here zero l e = e
        here (suc k) l e = absurd (omega arith)
    one_ordered text (o ∷ next ∷ texts) p = let e : length (o ∷ next ∷ texts) ≡ length (text ∷ []) = length_permutation (text ∷ []) (o ∷ next ∷ texts) p in absurd (omega arith)

    pub connected_to : (text : List ℕ) → IsComponentSignature rows text → IsSignature rows text
    connected_to text a = subst (IsSignature rows) (sym (a.joined ∙ one_ordered w.0 a.ordered (subst (λ ts. IsPermutation ts a.ordered) w.1 a.same))) w.2
      where
        w : (t : List ℕ) × (a.signatures ≡ t ∷ []) × IsSignature rows t
        w = one_text a.signatures (subst (λ ps. AllZip (λ (part : Part) signature. IsSignature part.rows signature) ps a.signatures) (one_list_of_parts a.parts (alone ∷ []) a.are_parts alone_is_parts) a.of_parts)

    pub connected_from : (text : List ℕ) → IsSignature rows text → IsComponentSignature rows text
    connected_from text s = record {
      parts = alone ∷ [];
      are_parts = alone_is_parts;
      signatures = text ∷ [];
      of_parts = (s, tt);
      ordered = text ∷ [];
      same = IsPermutation-refl (text ∷ []);
      in_order = λ i j d less l. absurd (omega arith);
      joined = refl;
    }

-- ---- the empty table

no_parts : (parts : List Part) → AreParts [] parts → parts ≡ []
no_parts [] h = refl
no_parts (p ∷ ps) h = let q : IsPart [] p = h.each 0 p (omega arith) in let c = (q.members (first_of p)).0 (contains_at p.numbers 0 (first_of p) q.some refl) in absurd (omega (arith, c.0))

a_signature : IsTable [] → IsSignature [] (codes "a")
unfolding computed
a_signature table = empty_signature [] (codes "a") refl (record { table = table; ordered = refl; spelled = refl })

empty_to : (text : List ℕ) → IsTable [] → IsComponentSignature [] text → IsSignature [] text
empty_to text table a = subst (IsSignature []) (sym (a.joined ∙ nothing a.signatures a.ordered z a.same)) (a_signature table)
  where
    z : AllZip (λ (part : Part) signature. IsSignature part.rows signature) [] a.signatures
    z = subst (λ ps. AllZip (λ (part : Part) signature. IsSignature part.rows signature) ps a.signatures) (no_parts a.parts a.are_parts) a.of_parts

    nothing : (signatures ordered : List (List ℕ)) → AllZip (λ (part : Part) signature. IsSignature part.rows signature) [] signatures → IsPermutation signatures ordered → component_text ordered ≡ codes "a"
    nothing [] [] y p = refl
    nothing [] (o ∷ os) y p = let e : length (o ∷ os) ≡ 0 = length_permutation [] (o ∷ os) p in absurd (omega arith)
    nothing (t ∷ ts) ordered y p = absurd y

empty_from : (text : List ℕ) → IsTable [] → IsSignature [] text → IsComponentSignature [] text
empty_from text table s = record {
  parts = [];
  are_parts = record { each = λ i d l. absurd (omega arith); ascending = λ i j d less l. absurd (omega arith); whole = λ t l. absurd (omega arith) };
  signatures = [];
  of_parts = tt;
  ordered = [];
  same = IsPermutation-refl [];
  in_order = λ i j d less l. absurd (omega arith);
  joined = one_signature [] text (codes "a") s (a_signature table);
}

pub connected_has_signature : (rows : List Row) (text : List ℕ) → IsTable rows → IsConnected rows → IsComponentSignature rows text ↔ IsSignature rows text
connected_has_signature [] text table connected = (empty_to text table, empty_from text table)
connected_has_signature (row ∷ rows) text table connected = (connected_to (row ∷ rows) table connected (omega arith) text, connected_from (row ∷ rows) table connected (omega arith) text)
