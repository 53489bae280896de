-- A seed and a number of moves have a unique answer: one table with one certificate, and one summary of its surfaces.
use Rattle.std.proofs.Common.{◌≡◌, ◌≢◌, ◌⊎◌, ℕ, List, length, inl, inr, refl, sym, ap₂, ◌∙◌, subst}
use Rattle.std.proofs.Math.Nat.{le_antisymm}
use Rattle.std.proofs.lemmas.List.Sorted.{IsPermutation-refl}
use Rattle.text_definitions.specs.Written.{limit}
use Rattle.cone_definitions.specs.Rows.{Row as EquationRow}
use Rattle.cone_definitions.specs.Listings.{Enumeration}
use Rattle.cone_definitions.specs.declared.Order.TheVariants.{Given, Free}
use Rattle.cone_definitions.proofs.Next.{one_surface_list_lem}
use Rattle.cone_definitions.proofs.PastLimit.{none_past}
use Rattle.table_definitions.specs.Table.{Row}
use Rattle.surface_definitions.specs.declared.Coords.TheVariants.{Standard}
use Rattle.surface_definitions.specs.TableSurfaces.{table_enumeration}
use Rattle.move_definitions.specs.Moves.{Move}
use Rattle.certificate_laws.proofs.Made.{tables_are_made_lem, one_is_made_lem}
use Rattle.outcome_definitions.specs.Outcomes.{Outcome}
use Rattle.outcome_definitions.specs.Enumerations.{IsLargeAnswered}
use Rattle.outcome_definitions.specs.Makings.{make_outcome, IsMakeAnswer, IsGreatestEntry, Numbers, summary_outcome, AreSummedUp, IsSummary, IsBulkAnswer}
use Rattle.surface_definitions.proofs.OneSystem.{one_equations}
use Rattle.outcome_laws.proofs.Enumerated.{one_past_told}

pub one_make : (seed moves : ℕ) (o p : Outcome) → IsMakeAnswer seed moves o → IsMakeAnswer seed moves p → o ≡ p
one_make seed moves o p h k =
    let same : (h.table ≡ k.table) × (h.certificate ≡ k.certificate) = one_is_made_lem seed moves h.table k.table h.certificate k.certificate h.made k.made in
    h.outcome ∙ ap₂ make_outcome same.0 same.1 ∙ sym k.outcome

-- each seed and number of moves have a table and a certificate
pub some_make : (seed moves : ℕ) → (o : Outcome) × IsMakeAnswer seed moves o
some_make seed moves =
    let made = tables_are_made_lem seed moves in
    (make_outcome made.0 made.1, record { table = made.0; certificate = made.1; made = made.2; outcome = refl })

-- the greatest entry, and so the summary of a table, is unique

one_greatest : (list : List (List ℕ)) (a b : ℕ) → IsGreatestEntry list a → IsGreatestEntry list b → a ≡ b
one_greatest list a b h k = le_antisymm (h.least b k.up_to) (k.least a h.up_to)

given_named : (e : Enumeration) → e.order ≡ Given → e.order ≢ Free
given_named e g f = cc

one_told : (n : Numbers) (e : Enumeration) (o p : Outcome) → e.order ≢ Free → AreSummedUp n e o ⊎ IsLargeAnswered e o → AreSummedUp n e p ⊎ IsLargeAnswered e p → o ≡ p
one_told n e o p some (inl h) (inl k) =
    let list : h.list ≡ k.list = one_surface_list_lem e.system.columns e.system.rows e.system.rows e.pairs h.list k.list (IsPermutation-refl e.system.rows) h.listed.surfaces k.listed.surfaces in
    let greatest : h.greatest ≡ k.greatest = one_greatest k.list h.greatest k.greatest (subst (λ (xs : List (List ℕ)). IsGreatestEntry xs h.greatest) list h.is_greatest) k.is_greatest in
    h.outcome ∙ ap₂ (summary_outcome n) list greatest ∙ sym k.outcome
one_told n e o p some (inl h) (inr k) = absurd (none_past e h.taken k.0 h.list k.1 some h.listed k.2)
one_told n e o p some (inr h) (inl k) = absurd (none_past e k.taken h.0 k.list h.1 some k.listed h.2)
one_told n e o p some (inr h) (inr k) = one_past_told e o p some h k

pub one_summary : (n : Numbers) (table : List Row) (o p : Outcome) → IsSummary n table o → IsSummary n table p → o ≡ p
one_summary n table o p h k =
    let e : h.equations ≡ k.equations = one_equations Standard table h.equations k.equations h.of_table k.of_table in
    let there = subst (λ (q : List EquationRow). AreSummedUp n (table_enumeration Standard Given limit table q) p ⊎ IsLargeAnswered (table_enumeration Standard Given limit table q) p) (sym e) k.reported in
    one_told n (table_enumeration Standard Given limit table h.equations) o p (given_named (table_enumeration Standard Given limit table h.equations) refl) h.reported there

pub one_bulk : (seed moves : ℕ) (o p : Outcome) → IsBulkAnswer seed moves o → IsBulkAnswer seed moves p → o ≡ p
one_bulk seed moves o p h k =
    let same : (h.table ≡ k.table) × (h.certificate ≡ k.certificate) = one_is_made_lem seed moves h.table k.table h.certificate k.certificate h.made k.made in
    let there : IsSummary (numbers h.table h.certificate) h.table p = subst (λ (t : List Row). IsSummary (numbers t h.certificate) t p) (sym same.0) (subst (λ (ms : List Move). IsSummary (numbers k.table ms) k.table p) (sym same.1) k.summary) in
    one_summary (numbers h.table h.certificate) h.table o p h.summary there
  where
    numbers : List Row → List Move → Numbers
    numbers table certificate = record { seed = seed; moves = length certificate; tetrahedra = length table }
