-- Texts that are joined one after another.
use Rattle.std.proofs.Common.{◌≡◌, ℕ, zero, suc, ◌<◌, ◌≤◌, ◌+◌, List, [], ◌∷◌, ◌++◌, length, take, codes, get_or, sym, ap, refl, ◌∙◌, arith, append_assoc}
use Rattle.std.proofs.lemmas.List.{take_more, map-append}
use Rattle.component_definitions.specs.ComponentSignature.{component_text}
use Rattle.component_signature.specs.declared.order.PartSignature.{PartSignature}
use Rattle.component_signature.specs.Entries.{entries_of}
use Rattle.component_laws.specs.Ordered.{texts_of}

text_more : (xs : List (List ℕ)) (y : List ℕ) → 0 < length xs → component_text (xs ++ y ∷ []) ≡ component_text xs ++ (codes "." ++ y)
text_more [] y l = absurd (omega arith)
text_more (x ∷ []) y l = refl
text_more (x ∷ z ∷ xs) y l = ap (λ (t : List ℕ). x ++ (codes "." ++ t)) (text_more (z ∷ xs) y (omega arith))
    ∙ ap (λ (t : List ℕ). x ++ t) (sym (append_assoc (codes ".") (component_text (z ∷ xs)) (codes "." ++ y)))
    ∙ sym (append_assoc x (codes "." ++ component_text (z ∷ xs)) (codes "." ++ y))

abbrev pub texts : List PartSignature → List (List ℕ)
texts signed = texts_of (entries_of signed)

texts_more : (signed : List PartSignature) (i : ℕ) (s : PartSignature) → i < length signed → s ≡ get_or signed i s → texts (take (i + 1) signed) ≡ texts (take i signed) ++ s.signature.items ∷ []
texts_more signed i s l is = ap texts (take_more signed i s l ∙ ap (λ (r : PartSignature). take i signed ++ r ∷ []) (sym is))
    ∙ ap texts_of (map-append _ (take i signed) (s ∷ [])) ∙ map-append _ (entries_of (take i signed)) (entries_of (s ∷ []))

texts_long : (signed : List PartSignature) (i : ℕ) → 0 < i → i < length signed → 0 < length (texts (take i signed))
texts_long signed i p l = go signed i p l
  where
    go : (xs : List PartSignature) (i : ℕ) → 0 < i → i < length xs → 0 < length (texts (take i xs))
    go [] i p l = absurd (omega arith)
    go (x ∷ xs) zero p l = absurd (omega arith)
    go (x ∷ xs) (suc i) p l = omega arith

pub one_joined : (signed : List PartSignature) (i : ℕ) (s : PartSignature) (before stop now : List ℕ) → 0 < i → i < length signed → s ≡ get_or signed i s → before ≡ component_text (texts (take i signed)) → stop ≡ before ++ codes "." → now ≡ stop ++ s.signature.items
    → now ≡ component_text (texts (take (i + 1) signed))
one_joined signed i s before stop now p l is so_far a b =
    b ∙ ap (λ (t : List ℕ). t ++ s.signature.items) (a ∙ ap (λ (t : List ℕ). t ++ codes ".") so_far) ∙ append_assoc (component_text (texts (take i signed))) (codes ".") s.signature.items
    ∙ sym (text_more (texts (take i signed)) s.signature.items (texts_long signed i p l)) ∙ ap component_text (sym (texts_more signed i s l is))

pub first_joined : (signed : List PartSignature) (s : PartSignature) → 0 < length signed → s ≡ get_or signed 0 s → s.signature.items ≡ component_text (texts (take 1 signed))
first_joined [] s l is = absurd (omega arith)
first_joined (x ∷ signed) s l is = ap (λ (r : PartSignature). r.signature.items) is

pub all_joined : (signed : List PartSignature) (i : ℕ) (now : List ℕ) → length signed ≤ i → i ≤ length signed → now ≡ component_text (texts (take i signed)) → now ≡ component_text (texts signed)
all_joined signed i now l m e = e ∙ ap (λ n. component_text (texts (take n signed))) (the_end i (length signed) l m) ∙ ap (λ (ss : List PartSignature). component_text (texts ss)) (take_whole signed)
  where
    the_end : (a b : ℕ) → b ≤ a → a ≤ b → a ≡ b
    the_end a b l m = omega arith

    take_whole : (xs : List PartSignature) → take (length xs) xs ≡ xs
    take_whole [] = refl
    take_whole (x ∷ xs) = ap (λ (ys : List PartSignature). x ∷ ys) (take_whole xs)
