-- The lines of a summary, and the summary of a table.
use Rattle.std.proofs.Common.{◌≡◌, ℕ, List, [], ◌++◌, length, inl, inr, ap, ◌∙◌, subst, append_assoc}
use Rattle.std.specs.Prelude.{codes, count_by}
use Rattle.text_definitions.specs.Written.{limit}
use Rattle.cone_definitions.specs.declared.Order.TheVariants.{Given}
use Rattle.double_description.specs.declared.engine.LargeStep.{LargeStep}
use Rattle.out_of_memory.specs.declared.Failure.TheVariants.{Fault}
use Rattle.table_definitions.specs.Table.{Row}
use Rattle.surface_definitions.specs.declared.Coords.TheVariants.{Standard}
use Rattle.surface_definitions.specs.Characteristic.{is_linking}
use Rattle.surface_list.specs.Surfaces.{AreTableSurfaces, IsTableRefused}
use Rattle.move_definitions.specs.Moves.{Move}
use Rattle.move_definitions.specs.Certificates.{IsCertificate}
use Rattle.certificate_definitions.specs.Makings.{IsMade}
use Rattle.outcome_definitions.specs.Lines.{number_line}
use Rattle.outcome_definitions.specs.Outcomes.{Outcome}
use Rattle.outcome_definitions.specs.Enumerations.{large_outcome}
use Rattle.outcome_definitions.specs.Makings.{IsGreatestEntry, Numbers, summary_text, summary_outcome, IsSummary, IsBulkAnswer}

seven_lines : (t0 t1 t2 t3 t4 t5 t6 t7 a b c d e f g : List ℕ) → t0 ≡ [] → t1 ≡ t0 ++ a → t2 ≡ t1 ++ b → t3 ≡ t2 ++ c → t4 ≡ t3 ++ d → t5 ≡ t4 ++ e → t6 ≡ t5 ++ f → t7 ≡ t6 ++ g
    → t7 ≡ a ++ b ++ c ++ d ++ e ++ f ++ g
seven_lines t0 t1 t2 t3 t4 t5 t6 t7 a b c d e f g e0 e1 e2 e3 e4 e5 e6 e7 = simp append_assoc (simp append_assoc at all)
  where
    all : t7 ≡ ((((((([] ++ a) ++ b) ++ c) ++ d) ++ e) ++ f) ++ g)
    all = e7 ∙ ap (λ t. t ++ g) (e6 ∙ ap (λ t. t ++ f) (e5 ∙ ap (λ t. t ++ e) (e4 ∙ ap (λ t. t ++ d) (e3 ∙ ap (λ t. t ++ c) (e2 ∙ ap (λ t. t ++ b) (e1 ∙ ap (λ t. t ++ a) e0))))))

pub summary_lines : (n : Numbers) (list : List (List ℕ)) (greatest : ℕ) (t0 t1 t2 t3 t4 t5 t6 t7 : List ℕ) (seed moves tetrahedra linking : ℕ) → seed ≡ n.seed → moves ≡ n.moves → tetrahedra ≡ n.tetrahedra → linking ≡ count_by (is_linking Standard) list
    → t0 ≡ [] → t1 ≡ t0 ++ number_line (codes "seed ") seed → t2 ≡ t1 ++ number_line (codes "moves ") moves → t3 ≡ t2 ++ number_line (codes "tetrahedra ") tetrahedra
    → t4 ≡ t3 ++ number_line (codes "certificate accepted ") moves → t5 ≡ t4 ++ number_line (codes "surfaces ") (length list) → t6 ≡ t5 ++ number_line (codes "largest ") greatest → t7 ≡ t6 ++ number_line (codes "linking ") linking
    → t7 ≡ summary_text n list greatest
unfolding summary_text
summary_lines n list greatest t0 t1 t2 t3 t4 t5 t6 t7 seed moves tetrahedra linking s m t l e0 e1 e2 e3 e4 e5 e6 e7 =
    seven_lines t0 t1 t2 t3 t4 t5 t6 t7 (number_line (codes "seed ") seed) (number_line (codes "moves ") moves) (number_line (codes "tetrahedra ") tetrahedra) (number_line (codes "certificate accepted ") moves)
    (number_line (codes "surfaces ") (length list)) (number_line (codes "largest ") greatest) (number_line (codes "linking ") linking) e0 e1 e2 e3 e4 e5 e6 e7
    ∙ (λ i. number_line (codes "seed ") (s i) ++ number_line (codes "moves ") (m i) ++ number_line (codes "tetrahedra ") (t i) ++ number_line (codes "certificate accepted ") (m i)
    ++ number_line (codes "surfaces ") (length list) ++ number_line (codes "largest ") greatest ++ number_line (codes "linking ") (l i))

-- the surfaces are listed
pub listed_told : (n : Numbers) (rows : List Row) (list : List (List ℕ)) (greatest : ℕ) (o : Outcome) → AreTableSurfaces limit Standard rows Given list → IsGreatestEntry list greatest → o ≡ summary_outcome n list greatest → IsSummary n rows o
listed_told n rows list greatest o a g same =
    record { equations = a.0; of_table = a.1; reported = inl (record { taken = (a.2).taken; list = list; listed = (a.2).listed; greatest = greatest; is_greatest = g; outcome = same }) }

-- a number exceeds the limit
pub large_told : (n : Numbers) (rows : List Row) (large : LargeStep) (o : Outcome) → IsTableRefused limit Standard rows Given (Fault large) → o ≡ large_outcome large.order.items large.kind → IsSummary n rows o
large_told n rows large o a same = record { equations = a.0; of_table = a.1; reported = inr (large.order.items, large.kind, a.2, same) }

-- the summary of the table that was made is the answer of `bulk`
pub bulk_told : (seed moves : ℕ) (table : List Row) (certificate : List Move) (n : Numbers) (o : Outcome) → IsMade seed moves table certificate → IsCertificate table certificate
    → n ≡ record { seed = seed; moves = length certificate; tetrahedra = length table } → IsSummary n table o → IsBulkAnswer seed moves o
bulk_told seed moves table certificate n o made accepted e h = record {
  table = table;
  certificate = certificate;
  made = made;
  accepted = accepted;
  summary = subst (λ (k : Numbers). IsSummary k table o) e h;
}

pub numbers_are : (seed moves tetrahedra : ℕ) (table : List Row) (certificate : List Move) (n : Numbers) → n ≡ record { seed = seed; moves = moves; tetrahedra = tetrahedra } → moves ≡ length certificate → tetrahedra ≡ length table
    → n ≡ record { seed = seed; moves = length certificate; tetrahedra = length table }
numbers_are seed moves tetrahedra table certificate n e m t = e ∙ (λ i. record { seed = seed; moves = m i; tetrahedra = t i })
