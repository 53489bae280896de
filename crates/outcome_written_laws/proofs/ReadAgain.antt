-- The answer of `decompose` is read by `addup` as the table and the sums.
use Rattle.std.proofs.Common.{◌≡◌, ℕ, ◌+◌, ◌≤◌, inl, inr, ◌↔◌, List, length, Result, Ok, Err, refl, sym, ap, ◌∙◌, subst, arith}
use Rattle.std.specs.List.{All, AllByRecursion}
use Rattle.std.proofs.lemmas.List.Elements.{All-from_recursion}
use Rattle.text_definitions.specs.Text.{pieces, lines_from}
use Rattle.text_definitions.specs.Written.{limit}
use Rattle.text_definitions.specs.Reading.{Reading, ◌>>=◌, start_of}
use Rattle.text_definitions.proofs.Readers.{bind_ok}
use Rattle.cone_definitions.specs.Rows.{Row as EquationRow}
use Rattle.cone_definitions.specs.Listings.{Enumeration, IsListed}
use Rattle.cone_definitions.specs.declared.Order.TheVariants.{Given}
use Rattle.cone_text_definitions.specs.VectorText.{vector_at}
use Rattle.table_definitions.specs.Table.{Row, IsTable}
use Rattle.signature_definitions.specs.declared.InputFault.{InputFault}
use Rattle.surface_definitions.specs.declared.Coords.{Coords}
use Rattle.surface_definitions.specs.declared.Coords.TheVariants.{Standard, Quad, Octagon}
use Rattle.surface_definitions.specs.declared.VectorFault.{VectorFault}
use Rattle.surface_definitions.specs.declared.VectorFault.TheVariants.{Length, Large, NotSolution, Clash}
use Rattle.surface_definitions.specs.Coordinates.{columns}
use Rattle.surface_definitions.specs.QuadEquations.{AreEquations}
use Rattle.surface_definitions.specs.TableSurfaces.{table_enumeration}
use Rattle.surface_vector_definitions.specs.Answers.{IsFit}
use Rattle.sum_definitions.specs.declared.LargeTurn.{LargeTurn}
use Rattle.text_document_definitions.specs.Documents.{worded, next_table_at, each_line_from, table_and_lines, vectors_document}
use Rattle.text_document_definitions.specs.Blocks.{Block, most_terms, blocks_text, blocks_document}
use Rattle.text_document_laws.proofs.SumDocuments.{blocks_document_read}
use Rattle.outcome_written_laws.proofs.WrittenTables.{BeginsWithTable, table_lines}
use Rattle.outcome_definitions.specs.declared.Status.TheVariants as statuses
use Rattle.outcome_definitions.specs.Outcomes.{Outcome, IsReadOutcome}
use Rattle.outcome_definitions.specs.Sums.{IsVerdict, IsSummed, AreAnswered, IsDecomposed, IsDecomposeAnswer, IsAddupAnswer, unfit_status, sums_text, sums_outcome}
use Rattle.outcome_laws.proofs.Summed.{verdicts_fit}
use Rattle.outcome_laws.proofs.ReadPairs.{next_read}
use Rattle.outcome_written_laws.specs.Sums.{AreAnsweredAsSums, DecompositionsAreAnswered, WrittenSumsAreRead, IsReadAgain, IsAcceptedUnlessLarge, DecomposedAreReadAgain}
use Rattle.outcome_written_laws.proofs.WrittenBlocks.{FitsBlock, only_blocks}
use Rattle.outcome_written_laws.proofs.SmallNumbers.{block_fits}
use Rattle.outcome_written_laws.proofs.AddedUp.{fit_has_rays, of_each, sums_accepted}

-- ---- the answer of `decompose`

-- the status of an unfit vector is not that of success
unfit_is_not_done : (fault : VectorFault) → unfit_status fault ≡ statuses.Done → ⊥
unfit_is_not_done (Length n) e = absurd cc
unfit_is_not_done (Large i) e = absurd cc
unfit_is_not_done (NotSolution i) e = absurd cc
unfit_is_not_done (Clash a b) e = absurd cc

module _ (coords : Coords) (most : ℕ) (rows : List Row) (equations : List EquationRow) (vectors : List (List ℕ)) (o : Outcome) (e : AreEquations coords rows equations) (done : o.status ≡ statuses.Done) where
  abbrev Listing : Enumeration
  Listing = table_enumeration coords Given most rows equations

  told_sums : All (IsFit coords rows equations) vectors → (taken : List ℕ) (list : List (List ℕ)) → IsListed Listing taken list → (reported : Result (List Block) (ℕ × LargeTurn)) → AreAnswered (IsSummed most list) vectors reported
      → o ≡ sums_outcome rows reported → AreAnsweredAsSums coords most rows vectors o.text
  told_sums fit taken list listed (Ok blocks) sums same = record {
    equations = equations;
    blocks = blocks;
    sums = record { of_table = e; fit = fit; taken = taken; list = list; listed = listed; sums = sums };
    text_is = ap (λ (p : Outcome). p.text) same;
  }
  told_sums fit taken list listed (Err large) sums same = (let z : statuses.Large ≡ statuses.Done = sym (ap (λ (p : Outcome). p.status) same) ∙ done in absurd cc)

  reported : (checked : Result (List (Unit {0})) (ℕ × VectorFault)) → AreAnswered (IsVerdict coords rows equations) vectors checked → IsDecomposed most Listing rows vectors checked o → AreAnsweredAsSums coords most rows vectors o.text
  reported (Ok passed) v (inl h) = told_sums (All-from_recursion (IsFit coords rows equations) vectors (verdicts_fit coords rows equations vectors passed v)) h.taken h.list h.listed h.reported h.sums h.outcome
  reported (Ok passed) v (inr h) = (let z : statuses.Large ≡ statuses.Done = sym (ap (λ (p : Outcome). p.status) h.3) ∙ done in absurd cc)
  reported (Err unfit) v h = absurd (unfit_is_not_done unfit.1 (sym (ap (λ (p : Outcome). p.status) h) ∙ done))

pub decomposed_told : DecompositionsAreAnswered
decomposed_told coords most rows vectors o h done = reported coords most rows h.equations vectors o h.of_table done h.checked h.verdicts h.reported

-- ---- the sums are read again

few_columns : (coords : Coords) (rows : List Row) → IsTable rows → columns coords (length rows) ≤ most_terms
few_columns Standard rows table = let limited = table.limited in omega arith
few_columns Quad rows table = let limited = table.limited in omega arith
few_columns Octagon rows table = let limited = table.limited in omega arith

pub written_sums_read : WrittenSumsAreRead
written_sums_read coords most rows equations vectors blocks table low h =
    let b : BeginsWithTable rows table (sums_text rows blocks) (blocks_text blocks) = table_lines rows table (blocks_text blocks) in
    let fit : AllByRecursion FitsBlock blocks = of_each coords most rows equations vectors blocks h FitsBlock
    (λ block f s. block_fits (columns coords (length rows)) equations h.list most block (fit_has_rays coords most rows equations h.list h.listed.surfaces block.vector f) low (few_columns coords rows table) s) in
    (blocks_document_read (sums_text rows blocks) rows blocks).1 (
      b.lines,
      lines_from (2 + length rows) (pieces (blocks_text blocks)),
      b.split,
      inl b.are,
      only_blocks (2 + length rows) blocks fit,
    )

-- ---- both

table_of : (bytes : List ℕ) (rows : List Row) (vectors : List (List ℕ)) → vectors_document bytes ≡ Ok (rows, vectors) → IsTable rows
unfolding table_and_lines
table_of bytes rows vectors e =
    let first = bind_ok (next_table_at (start_of bytes)) (λ (t : List Row × Reading). worded (each_line_from vector_at t.1.later t.1) >>= λ (ls : List (List ℕ) × Reading). Ok (t.0, ls.0)) (rows, vectors) e in
    let second = bind_ok (worded (each_line_from vector_at (first.0).1.later (first.0).1)) (λ (ls : List (List ℕ) × Reading). Ok ((first.0).0, ls.0)) (rows, vectors) first.2 in
    subst IsTable (same_table (first.0).0 (second.0).0 second.2) (next_read (start_of bytes) first.0 first.1)
  where
    same_table : (a : List Row) (b : List (List ℕ)) → ◌≡◌ {A = Result (List Row × List (List ℕ)) InputFault} (Ok (a, b)) (Ok (rows, vectors)) → a ≡ rows
    same_table a b e = let same : (a, b) ≡ (rows, vectors) = cc in ap (λ (p : List Row × List (List ℕ)). p.0) same

read_again : (coords : Coords) (most : ℕ) (bytes : List ℕ) (rows : List Row) (vectors : List (List ℕ)) (text : List ℕ) → most ≤ limit → vectors_document bytes ≡ Ok (rows, vectors)
    → AreAnsweredAsSums coords most rows vectors text → IsReadAgain coords most bytes text
read_again coords most bytes rows vectors text low document t =
    let read : blocks_document text ≡ Ok (rows, t.blocks) =
    ap (λ (bs : List ℕ). blocks_document bs) t.text_is ∙ written_sums_read coords most rows t.equations vectors t.blocks (table_of bytes rows vectors document) low t.sums in
    record {
      rows = rows;
      vectors = vectors;
      document = document;
      equations = t.equations;
      blocks = t.blocks;
      sums = t.sums;
      read = read;
      answered = λ o. subst (λ (d : Result (List Row × List Block) InputFault). IsReadOutcome d (IsAddupAnswer coords) o ↔ IsAcceptedUnlessLarge t.equations t.blocks o) (sym read)
          (sums_accepted coords most rows t.equations vectors t.blocks low t.sums o);
    }

-- the status of an input that is no document is not that of success
pub decomposed_read_again : DecomposedAreReadAgain
decomposed_read_again coords most bytes o low h done = by_document (vectors_document bytes) refl h
  where
    by_document : (d : Result (List Row × List (List ℕ)) InputFault) → vectors_document bytes ≡ d → IsReadOutcome d (IsDecomposeAnswer coords most) o → IsReadAgain coords most bytes o.text
    by_document (Ok (rows, vectors)) e a = read_again coords most bytes rows vectors o.text low e (decomposed_told coords most rows vectors o a done)
    by_document (Err fault) e a = (let z : statuses.Input ≡ statuses.Done = sym (ap (λ (p : Outcome). p.status) a) ∙ done in absurd cc)
