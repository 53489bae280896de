-- The relabelling that is returned for two tables, component by component, is unique.
use Rattle.std.proofs.Common.{◌≡◌, ℕ, suc, ◌<◌, inl, inr, true, List, [], ◌∷◌, length, Contains, IsPermutation, slice_index, slice_index_or, subst, subst₂, sym, ap, ap₂, refl, ◌∙◌, arith, ext_get_or}
use Rattle.std.specs.List.{AllZip}
use Rattle.std.proofs.lemmas.Bool.{false≢true}
use Rattle.std.proofs.lemmas.List.{get_or_default}
use Rattle.std.proofs.lemmas.List.Sorted.{IsPermutation-sym, IsPermutation-trans, Contains-permutation}
use Rattle.std.proofs.lemmas.Slice.Zip.{AllZip-long}
use Rattle.basic_lemmas.proofs.Members.{Within, contains_nil, contains_head, contains_tail, contains_cases}
use Rattle.table_definitions.specs.Lists.{below, is_list_before}
use Rattle.table_definitions.specs.Table.{Row, IsTable}
use Rattle.table_definitions.specs.Relabelling.{Relabelling, relabelled_place}
use Rattle.table_definitions.proofs.ListLaws.{not_before_itself}
use Rattle.signature_definitions.specs.Spelling.{IsSignature}
use Rattle.signature_definitions.specs.Labellings.{IsLeastRelabelling}
use Rattle.signature_laws.proofs.Uniqueness.{one_signature, one_least, before_before}
use Rattle.signature_laws.proofs.Standing.{same_relabelling}
use Rattle.component_definitions.specs.Parts.{Part, first_of}
use Rattle.component_definitions.specs.SameParts.{PrecedesPart, GoesBy, ArePartsInOrder, IsSameParts}
use Rattle.component_laws.proofs.Members.{part_at, numbers_at, StandsAt, part_is, part_is_table, stands_at}
use Rattle.component_laws.proofs.Alone.{one_list_of_parts, part_is_connected}
use Rattle.component_laws.proofs.Permuted.{text_at}
use Rattle.component_laws.proofs.Signatures.{zip_at}
use Rattle.component_laws.proofs.SameParts.{order_long, order_holds, order_below}

-- ---- lists in a strict order

module _ (R : ℕ → ℕ → Type 0) (asymmetric : (x y : ℕ) → R x y → R y x → ⊥) where
  abbrev InOrder : List ℕ → Type 0
  InOrder xs = (i j : ℕ) → i < j → j < length xs → R (slice_index xs i) (slice_index xs j)

  head_before : (x y : ℕ) (xs : List ℕ) → InOrder (x ∷ xs) → Contains xs y → R x y
  head_before x y xs h c = subst (R x) (get_or_default xs c.0 0 y c.1 ∙ c.2) (h 0 (suc c.0) (omega arith) (omega (arith, c.1)))

  tail_in_order : (x : ℕ) (xs : List ℕ) → InOrder (x ∷ xs) → InOrder xs
  tail_in_order x xs h i j less l = h (suc i) (suc j) (omega arith) (omega arith)

  same_heads : (x y : ℕ) (xs ys : List ℕ) → InOrder (x ∷ xs) → InOrder (y ∷ ys) → Within (x ∷ xs) (y ∷ ys) → Within (y ∷ ys) (x ∷ xs) → x ≡ y
  same_heads x y xs ys hx hy into back = elim (contains_cases y x ys (into x (contains_head x xs))) [
    | inl e ↦ sym e
    | inr c ↦ elim (contains_cases x y xs (back y (contains_head y ys))) [
      | inl e ↦ e
      | inr d ↦ absurd (asymmetric x y (head_before x y xs hx d) (head_before y x ys hy c))
    ]
  ]

  tail_within : (x y : ℕ) (xs ys : List ℕ) → x ≡ y → InOrder (x ∷ xs) → Within (x ∷ xs) (y ∷ ys) → Within xs ys
  tail_within x y xs ys e hx into t c = elim (contains_cases y t ys (into t (contains_tail x t xs c))) [
    | inl f ↦ let r : R x t = head_before x t xs hx c in let s : R x x = subst (R x) (sym (e ∙ f)) r in absurd (asymmetric x x s s)
    | inr d ↦ d
  ]

  pub same_order : (xs ys : List ℕ) → InOrder xs → InOrder ys → Within xs ys → Within ys xs → xs ≡ ys
  same_order [] [] hx hy into back = refl
  same_order [] (y ∷ ys) hx hy into back = absurd (contains_nil y (back y (contains_head y ys)))
  same_order (x ∷ xs) [] hx hy into back = absurd (contains_nil x (into x (contains_head x xs)))
  same_order (x ∷ xs) (y ∷ ys) hx hy into back = let e : x ≡ y = same_heads x y xs ys hx hy into back in
      ap₂ (λ z zs. z ∷ zs) e (same_order xs ys (tail_in_order x xs hx) (tail_in_order y ys hy) (tail_within x y xs ys e hx into) (tail_within y x ys xs (sym e) hy back))

-- ---- the order of components

not_both : (x y : List ℕ) → is_list_before x y ≡ true → is_list_before y x ≡ true → ⊥
not_both x y a b = false≢true (sym (not_before_itself x) ∙ before_before x y x a b)

before_asymmetric : (parts : List Part) (signatures : List (List ℕ)) (i j : ℕ) → PrecedesPart parts signatures i j → PrecedesPart parts signatures j i → ⊥
before_asymmetric parts signatures i j (inl a) (inl b) = not_both (text_at signatures i) (text_at signatures j) a b
before_asymmetric parts signatures i j (inl a) (inr b) = not_both (text_at signatures i) (text_at signatures j) a (subst (λ t. is_list_before t (text_at signatures i) ≡ true) (sym b.0) (subst (λ t. is_list_before (text_at signatures i) t ≡ true) b.0 a))
before_asymmetric parts signatures i j (inr a) (inl b) = not_both (text_at signatures j) (text_at signatures i) b (subst (λ t. is_list_before t (text_at signatures j) ≡ true) (sym a.0) (subst (λ t. is_list_before (text_at signatures j) t ≡ true) a.0 b))
before_asymmetric parts signatures i j (inr a) (inr b) = let l : first_of (part_at parts i) < first_of (part_at parts j) = a.1 in let m : first_of (part_at parts j) < first_of (part_at parts i) = b.1 in absurd (omega arith)

one_signatures : (parts : List Part) (xs ys : List (List ℕ)) → AllZip (λ (part : Part) signature. IsSignature part.rows signature) parts xs → AllZip (λ (part : Part) signature. IsSignature part.rows signature) parts ys → xs ≡ ys
one_signatures parts xs ys a b = ext_get_or [] xs ys (long xs a ∙ sym (long ys b)) (λ i l. let m : i < length parts = subst (λ n. i < n) (long xs a) l in
    one_signature (part_at parts i).rows (text_at xs i) (text_at ys i) (zip_at (λ (part : Part) signature. IsSignature part.rows signature) parts xs a i m) (zip_at (λ (part : Part) signature. IsSignature part.rows signature) parts ys b i m))
  where
    long : (zs : List (List ℕ)) → AllZip (λ (part : Part) signature. IsSignature part.rows signature) parts zs → length zs ≡ length parts
    long zs z = AllZip-long (λ (part : Part) signature. IsSignature part.rows signature) parts zs z

pub one_order_of_parts : (rows : List Row) (parts : List Part) (order other : List ℕ) → ArePartsInOrder rows parts order → ArePartsInOrder rows parts other → order ≡ other
one_order_of_parts rows parts order other a b = same_order (PrecedesPart parts a.signatures) (before_asymmetric parts a.signatures) order other a.in_order
    (subst (λ ts. (i j : ℕ) → i < j → j < length other → PrecedesPart parts ts (slice_index other i) (slice_index other j)) (one_signatures parts b.signatures a.signatures b.of_parts a.of_parts) b.in_order)
    (λ t c. Contains-permutation order other t p c) (λ t c. Contains-permutation other order t (IsPermutation-sym order other p) c)
  where
    p : IsPermutation order other
    p = IsPermutation-trans order (below (length parts)) other a.permutes (IsPermutation-sym other (below (length parts)) b.permutes)

-- ---- one relabelling

module _ (first second : List Row) (by by' : Relabelling) (tf : IsTable first) (ts : IsTable second) (a : IsSameParts first second by) (b : IsSameParts first second by') where
  same_parts : a.parts ≡ b.parts
  same_parts = one_list_of_parts first tf a.parts b.parts a.in_order.are_parts b.in_order.are_parts

  same_others : a.others ≡ b.others
  same_others = one_list_of_parts second ts a.others b.others a.others_in_order.are_parts b.others_in_order.are_parts

  same_orders : a.order ≡ b.order
  same_orders = one_order_of_parts first b.parts a.order b.order (subst (λ ps. ArePartsInOrder first ps a.order) same_parts a.in_order) b.in_order

  same_other_orders : a.other_order ≡ b.other_order
  same_other_orders = one_order_of_parts second b.others a.other_order b.other_order (subst (λ ps. ArePartsInOrder second ps a.other_order) same_others a.others_in_order) b.others_in_order

  abbrev Each : Relabelling → List Part → List ℕ → List Part → List ℕ → Type 0
  Each r parts order others other_order = (i : ℕ) → i < length order → (s : Relabelling)
      × IsLeastRelabelling (part_at parts (slice_index order i)).rows (part_at others (slice_index other_order i)).rows s
      × GoesBy r (part_at parts (slice_index order i)) (part_at others (slice_index other_order i)) s

  each_b : Each by' a.parts a.order a.others a.other_order
  each_b = subst₂ (λ ps os. Each by' ps os a.others a.other_order) (sym same_parts) (sym same_orders) (subst₂ (λ ps os. Each by' b.parts b.order ps os) (sym same_others) (sym same_other_orders) b.each)

  same_stand : (t : ℕ) → t < length first → relabelled_place by t ≡ relabelled_place by' t
  same_stand t l = ap (relabelled_place by) (sym is) ∙ one.2 k lk ∙ ap (λ (r : Relabelling). record { tet = slice_index (numbers_at a.others (slice_index a.other_order i)) (slice_index r.images k); perm = slice_index_or r.perms k [] }) same
      ∙ sym (other.2 k lk) ∙ ap (relabelled_place by') is
    where
      s : StandsAt a.parts t
      s = stands_at first tf a.parts a.in_order.are_parts t l

      w : (i : ℕ) × (i < length a.parts) × (slice_index a.order i ≡ s.i)
      w = order_holds (length a.parts) a.order a.in_order.permutes s.i s.in_parts

      i : ℕ
      i = w.0

      k : ℕ
      k = s.k

      li : i < length a.order
      li = subst (λ n. i < n) (sym (order_long (length a.parts) a.order a.in_order.permutes)) w.1

      lk : k < length (numbers_at a.parts (slice_index a.order i))
      lk = subst (λ c. k < length (numbers_at a.parts c)) (sym w.2) s.in_numbers

      is : slice_index (numbers_at a.parts (slice_index a.order i)) k ≡ t
      is = ap (λ c. slice_index (numbers_at a.parts c) k) w.2 ∙ s.is

      one : (r : Relabelling) × IsLeastRelabelling (part_at a.parts (slice_index a.order i)).rows (part_at a.others (slice_index a.other_order i)).rows r × GoesBy by (part_at a.parts (slice_index a.order i)) (part_at a.others (slice_index a.other_order i)) r
      one = a.each i li

      other : (r : Relabelling) × IsLeastRelabelling (part_at a.parts (slice_index a.order i)).rows (part_at a.others (slice_index a.other_order i)).rows r × GoesBy by' (part_at a.parts (slice_index a.order i)) (part_at a.others (slice_index a.other_order i)) r
      other = each_b i li

      in_range : slice_index a.order i < length a.parts
      in_range = order_below (length a.parts) a.order a.in_order.permutes i w.1

      same : one.0 ≡ other.0
      same = one_least (part_at a.parts (slice_index a.order i)).rows (part_at a.others (slice_index a.other_order i)).rows one.0 other.0
          (part_is_table first tf (part_at a.parts (slice_index a.order i)) (part_is first tf a.parts a.in_order.are_parts (slice_index a.order i) in_range))
          (part_is_connected first tf (part_at a.parts (slice_index a.order i)) (part_is first tf a.parts a.in_order.are_parts (slice_index a.order i) in_range)) one.1 other.1

  pub one_same_parts : by ≡ by'
  one_same_parts = same_relabelling (length first) by by' a.relabelling b.relabelling same_stand
