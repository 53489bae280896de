-- Texts without full stops, joined by full stops, are the sections between these.
use Rattle.std.proofs.Common.{◌≡◌, ◌≢◌, ℕ, ◌<◌, Bool, true, false, List, [], ◌∷◌, ◌++◌, length, subst, sym, ap, refl, ◌∙◌, arith}
use Rattle.std.specs.Prelude.{◌==◌}
use Rattle.std.specs.List.{onto_first}
use Rattle.std.proofs.lemmas.Bool.{eqb-true}
use Rattle.std.proofs.lemmas.List.Sorted.{length_permutation}
use Rattle.std.proofs.lemmas.List.Splits.{slice_split-cons_no}
use Rattle.std.proofs.lemmas.Slice.Zip.{AllZip-long}
use Rattle.table_definitions.specs.Table.{Row, IsTable}
use Rattle.signature_definitions.specs.Spelling.{IsSignature}
use Rattle.component_definitions.specs.Parts.{Part}
use Rattle.component_definitions.specs.ComponentSignature.{component_text, IsComponentSignature}
use Rattle.component_laws.proofs.Members.{stands_at}
use Rattle.component_laws.proofs.Texts.{HasNoStop, ArePlain}
use Rattle.component_laws.proofs.Signatures.{ordered_plain}
use Rattle.outcome_existence_laws.specs.Splits.{between_stops, ArePartSignatures}

no_stop : (b : ℕ) → b ≢ 46 → (b == 46) ≡ false
no_stop b n = go (b == 46) refl
  where
    go : (c : Bool) → (b == 46) ≡ c → (b == 46) ≡ false
    go true e = absurd (n (eqb-true b 46 e))
    go false e = e

-- a text without a full stop is a single section
alone : (text : List ℕ) → HasNoStop text → between_stops text ≡ text ∷ []
alone [] h = refl
alone (b ∷ text) h = slice_split-cons_no (λ c. c == 46) b text (no_stop b h.0) ∙ ap (onto_first b) (alone text h.1)

-- a text without a full stop, before a full stop, is the first section
front : (text more : List ℕ) → HasNoStop text → between_stops (text ++ 46 ∷ more) ≡ text ∷ between_stops more
front [] more h = refl
front (b ∷ text) more h = slice_split-cons_no (λ c. c == 46) b (text ++ 46 ∷ more) (no_stop b h.0) ∙ ap (onto_first b) (front text more h.1)

pub split_joined : (texts : List (List ℕ)) → 0 < length texts → ArePlain texts → between_stops (component_text texts) ≡ texts
split_joined [] l h = absurd (omega arith)
split_joined (text ∷ []) l h = alone text h.0.no_stop
split_joined (text ∷ next ∷ texts) l h = front text (component_text (next ∷ texts)) h.0.no_stop ∙ ap (λ (ts : List (List ℕ)). text ∷ ts) (split_joined (next ∷ texts) (omega arith) h.1)

-- a table that is not empty has a component
pub some_texts : (rows : List Row) (text : List ℕ) → IsTable rows → 0 < length rows → (a : IsComponentSignature rows text) → 0 < length a.ordered
some_texts rows text table some a =
    let s = stands_at rows table a.parts a.are_parts 0 some in
    let in_parts : s.i < length a.parts = s.in_parts in
    let long : length a.signatures ≡ length a.parts = AllZip-long (λ (part : Part) signature. IsSignature part.rows signature) a.parts a.signatures a.of_parts in
    let same : length a.ordered ≡ length a.signatures = length_permutation a.signatures a.ordered a.same in
    omega (arith, in_parts, long, same)

pub signatures_split : (rows : List Row) (text : List ℕ) → IsTable rows → 0 < length rows → IsComponentSignature rows text → ArePartSignatures rows (between_stops text)
signatures_split rows text table some a = subst (ArePartSignatures rows) (sym (ap between_stops a.joined ∙ split_joined a.ordered (some_texts rows text table some a) (ordered_plain rows text table a)))
    (record { parts = a.parts; are_parts = a.are_parts; signatures = a.signatures; of_parts = a.of_parts; same = a.same; in_order = a.in_order })
