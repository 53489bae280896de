-- The signatures of the components are computed one after another, and put in order.
use Rattle.std.proofs.Common.{◌≡◌, ℕ, ◌<◌, ◌+◌, List, [], ◌∷◌, ◌++◌, length, All, slice_index_or, get_or, IsPermutation, IsSorted, subst, subst₂, sym, ap, refl, ◌∙◌, arith, add-one, is_lt, false}
use Rattle.std.proofs.lemmas.List.{get_or-map, length-map, map-append, get_or_default}
use Rattle.std.proofs.lemmas.List.Elements.{All-push}
use Rattle.std.proofs.lemmas.List.Sorted.{IsPermutation-map}
use Rattle.table_definitions.specs.Lists.{below}
use Rattle.table_definitions.specs.Table.{Row, IsTable}
use Rattle.table_definitions.specs.Places.{IsConnected}
use Rattle.table_definitions.proofs.Bijections.{below-push}
use Rattle.signature_definitions.specs.Spelling.{IsSignature}
use Rattle.component_definitions.specs.Parts.{Part, AreParts}
use Rattle.component_definitions.specs.SameParts.{part_at}
use Rattle.component_laws.proofs.Alone.{part_is_connected}
use Rattle.component_signature.specs.declared.order.PartSignature.{PartSignature}
use Rattle.component_laws.specs.Ordered.{Entry, numbers_of, AreSigned, compared, AreInOrder}
use Rattle.component_signature.specs.Entries.{entry_of, entries_of}

-- the signatures of the first i components
pub record AreSignedUpTo (parts : List Part) (i : ℕ) (entries : List Entry) : Type 0 where
  pub each : All (λ (e : Entry). IsSignature (part_at parts e.number).rows e.text) entries
  pub numbers : numbers_of entries ≡ below i

pub none_signed : (parts : List Part) (signed : List PartSignature) → signed ≡ [] → AreSignedUpTo parts 0 (entries_of signed)
none_signed parts signed e = subst (λ (ss : List PartSignature). AreSignedUpTo parts 0 (entries_of ss)) (sym e) (record { each = λ i d l. absurd (omega arith); numbers = refl })

pub one_signed : (parts : List Part) (i : ℕ) (part : Part) (before now : List PartSignature) (s : PartSignature) → i < length parts → part ≡ get_or parts i part → IsSignature part.rows s.signature.items → s.part ≡ i → now ≡ before ++ s ∷ []
    → AreSignedUpTo parts i (entries_of before) → AreSignedUpTo parts (i + 1) (entries_of now)
one_signed parts i part before now s l is signature number grown a = subst (AreSignedUpTo parts (i + 1)) (sym (ap entries_of grown ∙ map-append entry_of before (s ∷ []))) (record {
  each = All-push (λ (e : Entry). IsSignature (part_at parts e.number).rows e.text) (entries_of before) (entry_of s) a.each
      (subst (λ n. IsSignature (part_at parts n).rows s.signature.items) (sym number) (subst (λ (p : Part). IsSignature p.rows s.signature.items) (is ∙ sym (get_or_default parts i (record { rows = []; numbers = [] }) part l)) signature));
  numbers = map-append (λ (e : Entry). e.number) (entries_of before) (entry_of s ∷ []) ∙ ap (λ (ns : List ℕ). ns ++ s.part ∷ []) a.numbers ∙ ap (λ n. below i ++ n ∷ []) number ∙ below-push i ∙ ap below (sym (add-one i));
})

pub all_signed : (parts : List Part) (i : ℕ) (entries : List Entry) → i ≡ length parts → AreSignedUpTo parts i entries → AreSigned parts entries
all_signed parts i entries whole a = record { each = a.each; numbers = a.numbers ∙ ap below whole }

-- ---- in order

sorted_entries : (signed : List PartSignature) → IsSorted (λ s r. compared (entry_of s) (entry_of r)) signed → IsSorted compared (entries_of signed)
sorted_entries [] sorted k d low h = absurd (omega arith)
sorted_entries (s ∷ signed) sorted k d low h =
    let n = length-map (s ∷ signed) entry_of in
    subst₂ (λ x y. is_lt (compared x y) ≡ false)
    (sym (get_or-map entry_of (s ∷ signed) (k + 1) s d (omega (arith, n, h)))) (sym (get_or-map entry_of (s ∷ signed) k s d (omega (arith, n, h))))
    (sorted k s low (omega (arith, n, h)))

pub put_in_order : (parts : List Part) (before now : List PartSignature) → AreSigned parts (entries_of before) → IsPermutation before now → IsSorted (λ s r. compared (entry_of s) (entry_of r)) now → AreInOrder parts (entries_of now)
put_in_order parts before now a p sorted = record { made = entries_of before; are_signed = a; same = IsPermutation-map entry_of before now p; sorted = sorted_entries now sorted }

pub all_connected : (rows : List Row) (parts : List Part) → IsTable rows → AreParts rows parts → All (λ (part : Part). IsConnected part.rows) parts
all_connected rows parts table h i d l = part_is_connected rows table (slice_index_or parts i d) (h.each i d l)
