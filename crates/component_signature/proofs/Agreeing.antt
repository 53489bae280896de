-- Lists of equal signatures, index by index.
use Rattle.std.proofs.Common.{◌≡◌, ℕ, zero, suc, ◌<◌, ◌+◌, inl, inr, Bool, true, false, List, [], ◌∷◌, length, slice_index_or, get_or, sym, ap, refl, ◌∙◌, arith}
use Rattle.std.specs.Prelude.{nat_eq, not}
use Rattle.std.specs.Cmp.Lexicographic.{same_text, other_text}
use lib.Pointwise.{pointwise}
use Rattle.std.proofs.lemmas.Bool.{cases_order}
use Rattle.std.proofs.lemmas.List.{length-map, ext_get_or}
use Rattle.component_signature.specs.declared.order.PartSignature.{PartSignature}
use Rattle.component_signature.specs.Entries.{entries_of}
use Rattle.component_signature.proofs.JoinedText.{texts}

pub texts_count : (S : List PartSignature) → length (texts S) ≡ length S
texts_count S = length-map (entries_of S) _ ∙ length-map S _

text_here : (S : List PartSignature) (i : ℕ) (s : PartSignature) → i < length S → s ≡ get_or S i s → slice_index_or (texts S) i [] ≡ s.signature.items
text_here [] i s l is = absurd (omega arith)
text_here (x ∷ S) zero s l is = ap (λ (r : PartSignature). r.signature.items) (sym is)
text_here (x ∷ S) (suc i) s l is = text_here S i s (omega arith) is

abbrev pub AgreeUpTo : List PartSignature → List PartSignature → ℕ → Type 0
AgreeUpTo S T i = (k : ℕ) → k < i → slice_index_or (texts S) k [] ≡ slice_index_or (texts T) k []

pub agree_more : (S T : List PartSignature) (i : ℕ) (s t : PartSignature) → i < length S → length S ≡ length T → s ≡ get_or S i s → t ≡ get_or T i t → false ≡ not (pointwise nat_eq s.signature.items t.signature.items) → AgreeUpTo S T i → AgreeUpTo S T (i + 1)
agree_more S T i s t l same is is' e a k m = elim (cases_order k i) [
  | inl here ↦ ap (λ n. slice_index_or (texts S) n []) here ∙ text_here S i s l is ∙ same_text s.signature.items t.signature.items (unnot (pointwise nat_eq s.signature.items t.signature.items) e)
      ∙ sym (text_here T i t (omega (arith, same)) is') ∙ ap (λ n. slice_index_or (texts T) n []) (sym here)
  | inr (inl less) ↦ a k less
  | inr (inr exceeded) ↦ absurd (omega arith)
]
  where
    unnot : (b : Bool) → false ≡ not b → true ≡ b
    unnot true e = refl
    unnot false e = absurd cc

pub agree_not : (S T : List PartSignature) (i : ℕ) (s t : PartSignature) → i < length S → length S ≡ length T → s ≡ get_or S i s → t ≡ get_or T i t → true ≡ not (pointwise nat_eq s.signature.items t.signature.items) → texts S ≡ texts T → ⊥
agree_not S T i s t l same is is' e f = other_text s.signature.items t.signature.items (unnot (pointwise nat_eq s.signature.items t.signature.items) e)
    (sym (text_here S i s l is) ∙ ap (λ (ts : List (List ℕ)). slice_index_or ts i []) f ∙ text_here T i t (omega (arith, same)) is')
  where
    unnot : (b : Bool) → true ≡ not b → false ≡ b
    unnot false e = refl
    unnot true e = absurd cc

pub agree_all : (S T : List PartSignature) (i : ℕ) → i ≡ length S → length S ≡ length T → AgreeUpTo S T i → texts S ≡ texts T
agree_all S T i whole same a = ext_get_or [] (texts S) (texts T) (texts_count S ∙ same ∙ sym (texts_count T)) (λ k l. a k (let e = texts_count S in omega (arith, whole, e, l)))
