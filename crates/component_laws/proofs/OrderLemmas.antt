-- The signatures of components in order are those of the component signature, and their numbers are the order of the
-- components.
use Rattle.std.proofs.Common.{◌≡◌, ℕ, zero, suc, ◌<◌, ◌≤◌, inl, inr, Bool, true, false, List, [], ◌∷◌, length, All, IsPermutation, slice_index, slice_index_or, subst, subst₂, sym, ap, refl, ◌∙◌, arith, nat_cmp, is_lt}
use Rattle.std.specs.declared.cmp.Ordering.{Ordering}
use Rattle.std.specs.declared.cmp.Ordering.TheVariants.{Less, Equal, Greater}
use Rattle.std.specs.Ordering.{ordering_then}
use Rattle.std.specs.Cmp.Lexicographic.{slice_cmp}
use Rattle.std.specs.List.{AllZip}
use Rattle.std.proofs.lemmas.Bool.{cases_order}
use Rattle.std.proofs.lemmas.Bool.Decides.{nat_tests}
use Rattle.std.proofs.lemmas.Cmp.{same_from_slice_cmp, tied_itself, nat_list_cmp_total, nat_cmp_total, then_total, on_total}
use Rattle.std.proofs.lemmas.List.{get_or-map, length-map}
use Rattle.std.proofs.lemmas.List.FromFn.{length-range_with_len, get_or-range_with_len}
use Rattle.std.proofs.lemmas.List.Sorted.{IsPermutation-map, IsPermutation-sym, length_permutation, All-permutation, ranks_by, sorted_far}
use Rattle.table_definitions.specs.Lists.{below, is_list_before}
use Rattle.table_definitions.specs.Table.{Row}
use Rattle.table_definitions.proofs.Carried.{permutation_below, permutation_apart}
use Rattle.signature_definitions.specs.Spelling.{IsSignature}
use Rattle.signature_laws.proofs.Uniqueness.{neither_before}
use Rattle.component_definitions.specs.Parts.{Part, first_of, AreParts}
use Rattle.component_definitions.specs.SameParts.{part_at, PrecedesPart, ArePartsInOrder}
use Rattle.component_definitions.specs.ComponentSignature.{component_text, IsInOrder, IsComponentSignature}
use Rattle.component_laws.specs.Ordered.{Entry, texts_of, numbers_of, compared, AreInOrder}

-- ---- the order of texts

pub before_is : (xs ys : List ℕ) → is_lt (slice_cmp nat_cmp xs ys) ≡ is_list_before xs ys
before_is xs ys = same_from_slice_cmp nat_cmp is_lt is_list_before refl (λ _ _. refl) (λ _ _. refl) (λ x y xs ys o h. grind (arith, nat_tests)) xs ys (slice_cmp nat_cmp xs ys) refl

-- the order is not before, by the first comparison or by both
first_not : (a b : Ordering) → is_lt (ordering_then a b) ≡ false → is_lt a ≡ false
first_not Less b e = e
first_not Equal b e = refl
first_not Greater b e = refl

second_not : (a b : Ordering) → a ≡ Equal → is_lt (ordering_then a b) ≡ false → is_lt b ≡ false
second_not a b e h = subst (λ o. is_lt (ordering_then o b) ≡ false) e h

not_less : (m n : ℕ) → is_lt (nat_cmp m n) ≡ false → n ≤ m
not_less m n e = grind (arith, nat_tests)

zip_from : (ps : List Part) (ts : List (List ℕ)) → length ts ≡ length ps → ((i : ℕ) → i < length ps → IsSignature (part_at ps i).rows (slice_index_or ts i [])) → AllZip (λ (part : Part) signature. IsSignature part.rows signature) ps ts
zip_from [] [] e h = tt
zip_from [] (t ∷ ts) e h = absurd (omega (arith, e))
zip_from (p ∷ ps) [] e h = absurd (omega (arith, e))
zip_from (p ∷ ps) (t ∷ ts) e h = (h 0 (omega arith), zip_from ps ts (omega (arith, e)) (λ i l. h (suc i) (omega arith)))

module _ (parts : List Part) (entries : List Entry) (o : AreInOrder parts entries) where
  abbrev at : List Entry → ℕ → Entry
  at es i = slice_index_or es i (record { text = []; number = 0 })

  -- a later entry is not before an earlier one
  later : (i j : ℕ) → i ≤ j → j < length entries → is_lt (compared (at entries j) (at entries i)) ≡ false
  later i j l m = sorted_far (λ x y. is_lt (compared x y)) (ranks_by (then_total (on_total (λ (e : Entry). e.text) nat_list_cmp_total) (on_total (λ (e : Entry). e.number) nat_cmp_total)) (λ (e : Entry). e)) entries o.sorted i j (record { text = []; number = 0 }) l m

  made_long : length o.made ≡ length parts
  made_long = sym (length-map o.made (λ (e : Entry). e.number)) ∙ ap length o.are_signed.numbers ∙ length-range_with_len 0 (length parts)

  pub entries_long : length entries ≡ length parts
  entries_long = length_permutation o.made entries o.same ∙ made_long

  pub text_at_map : (es : List Entry) (i : ℕ) → slice_index_or (texts_of es) i [] ≡ (at es i).text
  text_at_map [] i = refl
  text_at_map (e ∷ es) zero = refl
  text_at_map (e ∷ es) (suc i) = text_at_map es i

  pub number_at_map : (es : List Entry) (i : ℕ) → slice_index (numbers_of es) i ≡ (at es i).number
  number_at_map [] i = refl
  number_at_map (e ∷ es) zero = refl
  number_at_map (e ∷ es) (suc i) = number_at_map es i

  made_number : (i : ℕ) → i < length o.made → (at o.made i).number ≡ i
  made_number i l = sym (number_at_map o.made i) ∙ ap (λ (ns : List ℕ). slice_index ns i) o.are_signed.numbers ∙ get_or-range_with_len 0 (length parts) i 0 (omega (arith, made_long)) ∙ omega arith

  -- the text of each entry is the one with the entry's number among the texts of all components
  at_number : All (λ (e : Entry). slice_index_or (texts_of o.made) e.number [] ≡ e.text) entries
  at_number = All-permutation (λ (e : Entry). slice_index_or (texts_of o.made) e.number [] ≡ e.text) o.made entries o.same
      (λ i d l. subst (λ (e : Entry). slice_index_or (texts_of o.made) e.number [] ≡ e.text) (get_or_same o.made i (record { text = []; number = 0 }) d l)
      (ap (λ n. slice_index_or (texts_of o.made) n []) (made_number i l) ∙ text_at_map o.made i))
    where
      get_or_same : (es : List Entry) (i : ℕ) (a b : Entry) → i < length es → slice_index_or es i a ≡ slice_index_or es i b
      get_or_same [] i a b l = absurd (omega arith)
      get_or_same (e ∷ es) zero a b l = refl
      get_or_same (e ∷ es) (suc i) a b l = get_or_same es i a b (omega arith)

  pub each : All (λ (e : Entry). IsSignature (part_at parts e.number).rows e.text) entries
  each = All-permutation (λ (e : Entry). IsSignature (part_at parts e.number).rows e.text) o.made entries o.same o.are_signed.each

  pub of_parts : AllZip (λ (part : Part) signature. IsSignature part.rows signature) parts (texts_of o.made)
  of_parts = zip_from parts (texts_of o.made) (length-map o.made (λ (e : Entry). e.text) ∙ made_long) (λ i l. let m : i < length o.made = omega (arith, made_long) in
      subst₂ (λ n t. IsSignature (part_at parts n).rows t) (made_number i m) (sym (text_at_map o.made i)) (o.are_signed.each i (record { text = []; number = 0 }) m))

  pub same_texts : IsPermutation (texts_of o.made) (texts_of entries)
  same_texts = IsPermutation-map (λ (e : Entry). e.text) o.made entries o.same

  texts_later : (i j : ℕ) → i ≤ j → j < length entries → is_list_before (at entries j).text (at entries i).text ≡ false
  texts_later i j l m = sym (before_is (at entries j).text (at entries i).text)
      ∙ first_not (slice_cmp nat_cmp (at entries j).text (at entries i).text) (nat_cmp (at entries j).number (at entries i).number) (later i j l m)

  pub texts_in_order : IsInOrder (texts_of entries)
  texts_in_order i j d less l = let m : j < length entries = omega (arith, length-map entries (λ (e : Entry). e.text)) in
      subst₂ (λ x y. is_list_before x y ≡ false) (sym (get_or-map (λ (e : Entry). e.text) entries j (record { text = []; number = 0 }) d m)) (sym (get_or-map (λ (e : Entry). e.text) entries i (record { text = []; number = 0 }) d (omega arith)))
      (texts_later i j (omega arith) m)

  -- ---- the component signature

  abbrev pub signs : (rows : List Row) (text : List ℕ) → AreParts rows parts → text ≡ component_text (texts_of entries) → IsComponentSignature rows text
  signs rows text h e = record { parts = parts; are_parts = h; signatures = texts_of o.made; of_parts = of_parts; ordered = texts_of entries; same = same_texts; in_order = texts_in_order; joined = e }

  -- ---- the order of the components

  pub permutes : IsPermutation (numbers_of entries) (below (length parts))
  permutes = subst (IsPermutation (numbers_of entries)) o.are_signed.numbers (IsPermutation-sym (numbers_of o.made) (numbers_of entries) (IsPermutation-map (λ (e : Entry). e.number) o.made entries o.same))

  pub numbers_long : length (numbers_of entries) ≡ length entries
  numbers_long = length-map entries (λ (e : Entry). e.number)

  text_there : (i : ℕ) → i < length entries → slice_index_or (texts_of o.made) (slice_index (numbers_of entries) i) [] ≡ (at entries i).text
  text_there i l = ap (λ n. slice_index_or (texts_of o.made) n []) (number_at_map entries i) ∙ at_number i (record { text = []; number = 0 }) l

  pub number_below : (i : ℕ) → i < length entries → slice_index (numbers_of entries) i < length parts
  number_below i l = permutation_below (length parts) (numbers_of entries) permutes i (omega (arith, numbers_long))

  module _ (rows : List Row) (h : AreParts rows parts) where
    -- entries with the same text are in the order of their least tetrahedra
    tied : (i j : ℕ) → i < j → j < length entries → (at entries i).text ≡ (at entries j).text → first_of (part_at parts (slice_index (numbers_of entries) i)) < first_of (part_at parts (slice_index (numbers_of entries) j))
    tied i j less l same = h.ascending (slice_index (numbers_of entries) i) (slice_index (numbers_of entries) j) (record { rows = []; numbers = [] }) rises (number_below j l)
      where
        equal : slice_cmp nat_cmp (at entries j).text (at entries i).text ≡ Equal
        equal = subst (λ t. slice_cmp nat_cmp (at entries j).text t ≡ Equal) (sym same) (tied_itself nat_list_cmp_total (at entries j).text)

        at_most : (at entries i).number ≤ (at entries j).number
        at_most = not_less (at entries j).number (at entries i).number (second_not (slice_cmp nat_cmp (at entries j).text (at entries i).text) (nat_cmp (at entries j).number (at entries i).number) equal (later i j (omega arith) l))

        rises : slice_index (numbers_of entries) i < slice_index (numbers_of entries) j
        rises = elim (cases_order (slice_index (numbers_of entries) i) (slice_index (numbers_of entries) j)) [
          | inl e ↦ absurd (permutation_apart (length parts) (numbers_of entries) permutes i j less (omega (arith, numbers_long)) e)
          | inr (inl under) ↦ under
          | inr (inr over) ↦ let a = number_at_map entries i in let b = number_at_map entries j in absurd (omega (arith, a, b, at_most, over))
        ]

    occurs : (i j : ℕ) → i < j → j < length entries → PrecedesPart parts (texts_of o.made) (slice_index (numbers_of entries) i) (slice_index (numbers_of entries) j)
    occurs i j less l = go (is_list_before (at entries i).text (at entries j).text) refl
      where
        li : i < length entries
        li = omega arith

        go : (b : Bool) → is_list_before (at entries i).text (at entries j).text ≡ b → PrecedesPart parts (texts_of o.made) (slice_index (numbers_of entries) i) (slice_index (numbers_of entries) j)
        go true e = inl (subst₂ (λ x y. is_list_before x y ≡ true) (sym (text_there i li)) (sym (text_there j l)) e)
        go false e = let same : (at entries i).text ≡ (at entries j).text = neither_before (at entries i).text (at entries j).text e (texts_later i j (omega arith) l) in
            inr (text_there i li ∙ same ∙ sym (text_there j l), tied i j less l same)

    pub parts_in_order : ArePartsInOrder rows parts (numbers_of entries)
    parts_in_order = record { are_parts = h; signatures = texts_of o.made; of_parts = of_parts; permutes = permutes; in_order = λ i j less l. occurs i j less (omega (arith, numbers_long)) }
