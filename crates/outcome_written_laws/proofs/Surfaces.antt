-- The text of a table and the answer of `surfaces` is read as the table and the surfaces, and `verify` finds solutions
-- in it.
use Rattle.std.proofs.Common.{◌≡◌, ◌≤◌, ℕ, List, ◌++◌, inl, inr, sym, ap, ◌∙◌, arith}
use Rattle.std.specs.Prelude.{codes}
use Rattle.text_definitions.specs.Written.{limit}
use Rattle.cone_definitions.specs.Rows.{Row as EquationRow}
use Rattle.cone_definitions.specs.Elimination.{Named}
use Rattle.cone_definitions.specs.Listings.{IsListed}
use Rattle.cone_definitions.specs.declared.Order.{Order}
use Rattle.table_definitions.specs.Table.{Row, IsTable}
use Rattle.table_definitions.specs.TableText.{table_text}
use Rattle.surface_definitions.specs.declared.Coords.{Coords}
use Rattle.surface_definitions.specs.QuadEquations.{AreEquations}
use Rattle.surface_definitions.specs.TableSurfaces.{table_enumeration}
use Rattle.surface_definitions.proofs.OneSystem.{one_equations}
use Rattle.text_document_definitions.specs.Documents.{table_document, vectors_document}
use Rattle.command_definitions.specs.declared.Request.TheVariants.{Surfaces, Verify}
use Rattle.command_definitions.proofs.Accepted.{accepted_in_range}
use Rattle.outcome_definitions.specs.declared.Status.TheVariants.{Done, Large}
use Rattle.outcome_definitions.specs.Outcomes.{Outcome}
use Rattle.outcome_definitions.specs.Enumerations.{list_outcome, large_outcome, IsSurfacesAnswer}
use Rattle.outcome_definitions.specs.Answers.{verify_outcome, IsVerdictsAnswer}
use Rattle.outcome_laws.proofs.Certified.{table_alone}
use Rattle.outcome_written_laws.proofs.WrittenDocuments.{written_answer_read}
use Rattle.outcome_answer_laws.proofs.Asked.{answer_to, answer_to_value}
use Rattle.outcome_written_laws.specs.Surfaces.{IsReadAsSurfaces, SurfacesAreRead, AreVerified, ListedAreVerified}
use Rattle.outcome_written_laws.proofs.Entries.{listed_within}
use Rattle.outcome_written_laws.proofs.Verdicts.{surfaces_are_solutions}

-- an outcome that names a number above the limit has not the status of success
large_not_done : (o : Outcome) (taken : List ℕ) (kind : Named) → o ≡ large_outcome taken kind → o.status ≡ Done → ⊥
large_not_done o taken kind e done = let same : Large ≡ Done = sym (ap (λ (q : Outcome). q.status) e) ∙ done in cc

module _ (coords : Coords) (order : Order) (most : ℕ) (rows : List Row) (table : IsTable rows) (limited : most ≤ limit) (o : Outcome) where
  listed_read : (equations : List EquationRow) → AreEquations coords rows equations → (taken : List ℕ) (list : List (List ℕ))
      → IsListed (table_enumeration coords order most rows equations) taken list → o ≡ list_outcome (codes "surfaces") list → IsReadAsSurfaces coords rows o.text
  listed_read equations of_table taken list listed reported = record {
    equations = equations;
    list = list;
    all = record { of_table = of_table; surfaces = listed.surfaces };
    read = ap (λ (q : Outcome). vectors_document (table_text rows ++ q.text)) reported
        ∙ written_answer_read rows list table (listed_within (table_enumeration coords order most rows equations) taken list limit listed limited (omega arith));
  }

  answer_read : IsSurfacesAnswer coords order most rows o → o.status ≡ Done → IsReadAsSurfaces coords rows o.text
  answer_read h done = elim h.2 [
    | inl g ↦ listed_read h.0 h.1 g.0 g.1 g.2 g.3
    | inr g ↦ absurd (large_not_done o g.0 g.1 g.3 done)
  ]

pub surfaces_are_read_lem : SurfacesAreRead
surfaces_are_read_lem words bytes o coords order most rows asked spelled done =
    let range = accepted_in_range words (Surfaces coords order most) asked.accepted in
    answer_read coords order most rows (table_alone bytes rows spelled) range.limited o
    (answer_to_value (table_document bytes) rows (IsSurfacesAnswer coords order most) o spelled (answer_to (Surfaces coords order most) words bytes o asked)) done

module _ (coords : Coords) (rows : List Row) (text : List ℕ) (read : IsReadAsSurfaces coords rows text) (p : Outcome) where
  -- the equations of a table are unique
  verified : IsVerdictsAnswer coords (rows, read.list) p → AreVerified coords rows p
  verified h = record {
    equations = read.equations;
    list = read.list;
    all = read.all;
    verdicts = λ i d l. surfaces_are_solutions coords rows read.equations _ (read.all.surfaces.vertex_surfaces i d l);
    outcome = h.2 ∙ ap (λ (es : List EquationRow). verify_outcome coords rows es read.list) (one_equations coords rows h.0 read.equations h.1 read.all.of_table);
  }

pub listed_are_verified_lem : ListedAreVerified
listed_are_verified_lem words asked bytes o p coords order most rows listed spelled done verify =
    let read = surfaces_are_read_lem words bytes o coords order most rows listed spelled done in
    verified coords rows o.text read p
    (answer_to_value (vectors_document (table_text rows ++ o.text)) (rows, read.list) (IsVerdictsAnswer coords) p read.read (answer_to (Verify coords) asked (table_text rows ++ o.text) p verify))
