-- A certificate has as many moves as the request asks for, and no number exceeds the limit after at most five moves.
use Rattle.std.proofs.Common.{◌≡◌, ◌≤◌, ◌*◌, ◌+◌, ℕ, List, length, inl, inr, subst, arith}
use Rattle.text_definitions.specs.Written.{limit}
use Rattle.cone_definitions.specs.Listings.{Enumeration}
use Rattle.cone_definitions.specs.declared.Order.TheVariants.{Given}
use Rattle.table_definitions.specs.Table.{Row}
use Rattle.surface_definitions.specs.declared.Coords.TheVariants.{Standard}
use Rattle.surface_definitions.specs.TableSurfaces.{table_enumeration}
use Rattle.move_definitions.specs.Moves.{Move}
use Rattle.move_definitions.specs.Certificates.{standard_sphere}
use Rattle.certificate_definitions.specs.Makings.{IsMade}
use Rattle.command_definitions.specs.Requests.{most_bulk_moves}
use Rattle.command_definitions.specs.declared.Request.TheVariants.{Make, Bulk}
use Rattle.command_definitions.proofs.Accepted.{accepted_in_range}
use Rattle.outcome_definitions.specs.Outcomes.{Outcome}
use Rattle.outcome_definitions.specs.Enumerations.{IsLargeAnswered}
use Rattle.outcome_definitions.specs.Makings.{IsMakeAnswer, IsBulkAnswer, AreSummedUp}
use Rattle.certificate_laws.proofs.Sphere.{sphere_table}
use Rattle.certificate_laws.proofs.Made.{made_are_certified_lem, made_table, making_leads}
use Rattle.certificate_laws.proofs.Makings.{certificates_have_most, making_short, plays_add_few}
use Rattle.surface_equation_laws.specs.BoundedTables.{most_tetrahedra}
use Rattle.surface_equation_laws.proofs.BoundedTables.{few_not_past}
use Rattle.outcome_answer_laws.specs.Makings.{IsTableWithMoves, IsSummaryWithMoves, AllMovesAreMade, AllMovesAreSummedUp}
use Rattle.outcome_answer_laws.proofs.Asked.{answer_to}

pub made_with_moves : (seed moves : ℕ) (o : Outcome) → moves ≤ 333 → IsMakeAnswer seed moves o → IsTableWithMoves moves o
made_with_moves seed moves o limited a = record {
  table = a.table;
  certificate = a.certificate;
  certified = made_are_certified_lem seed moves a.table a.certificate a.made;
  count = certificates_have_most seed moves a.table a.certificate limited a.made;
  outcome = a.outcome;
}

pub all_moves_made : AllMovesAreMade
all_moves_made words bytes o seed moves h limited = made_with_moves seed moves o limited (answer_to (Make seed moves) words bytes o h)

-- the generator begins with one tetrahedron, and each move adds at most three
made_tetrahedra : (seed moves : ℕ) (table : List Row) (certificate : List Move) → IsMade seed moves table certificate
    → length table ≤ 1 + 3 * moves
made_tetrahedra seed moves table certificate (played, making, back) =
    let short : length played ≤ moves = making_short moves seed standard_sphere played table making in
    let leads = making_leads moves seed standard_sphere played table sphere_table making in
    let few : length table ≤ length standard_sphere + 3 * length played =
    (plays_add_few standard_sphere played table (omega arith) leads).1 in
    omega arith

module _ (seed moves : ℕ) (o : Outcome) (limited : moves ≤ most_bulk_moves) (a : IsBulkAnswer seed moves o) where
  abbrev enumeration : Enumeration
  enumeration = table_enumeration Standard Given limit a.table a.summary.equations

  abbrev SummedUpWith : ℕ → Type 0
  SummedUpWith n = AreSummedUp (record { seed = seed; moves = n; tetrahedra = length a.table }) enumeration o

  not_large : ¬ IsLargeAnswered enumeration o
  not_large large =
      let most : length a.table ≤ 1 + 3 * moves = made_tetrahedra seed moves a.table a.certificate a.made in
      let few : length a.table ≤ most_tetrahedra Standard = omega arith in
      let table = made_table seed moves a.table a.certificate a.made in
      few_not_past Standard Given a.table a.summary.equations table a.summary.of_table few large.0 large.1 large.2

  summed : SummedUpWith (length a.certificate)
  summed = elim a.summary.reported [
    | inl summed_up ↦ summed_up
    | inr large ↦ absurd (not_large large)
  ]

  pub summed_up_with_moves : IsSummaryWithMoves seed moves o
  summed_up_with_moves =
      let count : length a.certificate ≡ moves =
      certificates_have_most seed moves a.table a.certificate (omega arith) a.made in
      record {
        table = a.table;
        certificate = a.certificate;
        certified = a.accepted;
        count = count;
        equations = a.summary.equations;
        of_table = a.summary.of_table;
        summed_up = subst SummedUpWith count summed;
        never_exceeded = not_large;
      }

pub all_moves_summed_up : AllMovesAreSummedUp
all_moves_summed_up words bytes o seed moves h =
    let limited = accepted_in_range words (Bulk seed moves) h.accepted in
    summed_up_with_moves seed moves o limited (answer_to (Bulk seed moves) words bytes o h)
