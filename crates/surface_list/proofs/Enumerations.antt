-- From the list of an enumeration to the surfaces of a table.
use Rattle.std.proofs.Common.{◌≡◌, ◌≤◌, ℕ, List, length, subst}
use Rattle.std.specs.Prelude.{Result, Ok, Err, IfOk, IfErr}
use Rattle.out_of_memory.specs.declared.Failure.{Failure}
use Rattle.out_of_memory.specs.declared.Failure.TheVariants.{NoMemory, Fault}
use Rattle.table_definitions.specs.Table.{Row, IsTable}
use Rattle.surface_definitions.specs.Coordinates.{columns, clash_list}
use Rattle.surface_definitions.specs.declared.Coords.{Coords}
use Rattle.surface_definitions.specs.QuadEquations.{AreEquations}
use Rattle.surface_definitions.specs.TableSurfaces.{table_enumeration}
use Rattle.cone_definitions.specs.Surfaces.{Clash}
use Rattle.cone_definitions.specs.Systems.{System}
use Rattle.cone_definitions.specs.Listings.{ExceedsLimit}
use Rattle.cone_definitions.specs.declared.Order.{Order}
use Rattle.double_description.specs.declared.engine.LargeStep.{LargeStep}
use Rattle.vertex_enumeration.specs.Lists.{enumeration_of, AreAlwaysWithin, IsOnlyListing, AreRefused}
use Rattle.surface_equation_laws.specs.Bounds.{number_bound}
use Rattle.surface_equation_laws.proofs.Bounds.{within}
use Rattle.std.specs.Prelude.{Contains}
use Rattle.std.proofs.Common.{◌/◌, ◌<◌, inl, inr, false, arith, sym}
use Rattle.std.proofs.lemmas.Bool.Decides.{nat_tests}
use Rattle.surface_definitions.specs.declared.Coords.TheVariants.{Quad}
use Rattle.surface_equation_laws.specs.Caps.{is_free}
use Rattle.surface_equation_laws.proofs.Caps.{has_caps}
use Rattle.number_bounds.specs.Triples.{triple_cap, DoTriplesClash, AreTriplesBounded}
use Rattle.cone_square_laws.proofs.Numbers.{are_within}
use Rattle.surface_list.specs.Bounded.{AreNumbersBounded}
use Rattle.surface_list.specs.Surfaces.{AreTableSurfaces, IsTableRefused}

no_triangles : (column : ℕ) → is_free Quad column ≡ false
no_triangles column = grind (arith, nat_tests)

-- the quads of a tetrahedron clash, so their equations bound all numbers if the sums of squares are within the bound
module _ (limit : ℕ) (rows : List Row) (system : System) (pairs : List Clash) (width : system.columns ≡ columns Quad (length rows)) (clashing : pairs ≡ clash_list Quad (length rows))
    (equations : AreEquations Quad rows system.rows) (table : IsTable rows) where
  quads_clash : DoTriplesClash system pairs
  quads_clash i j less l same = subst (λ (all : List Clash). Contains all (i, j)) (sym clashing)
      ((has_caps Quad rows system.rows table equations).clash i j less (subst (λ n. j < n) width l) (no_triangles i) (no_triangles j) same)

  quads_within : AreTriplesBounded system limit → AreAlwaysWithin limit system pairs
  quads_within h = are_within limit system pairs (λ column. column / 3) (triple_cap h.squares) (system.columns / 3) h.size (h.caps pairs quads_clash) h.most

-- the equations of a table are its system
module _ (limit : ℕ) (coords : Coords) (rows : List Row) (system : System) (pairs : List Clash) (order : Order) (width : system.columns ≡ columns coords (length rows))
    (clashing : pairs ≡ clash_list coords (length rows)) (equations : AreEquations coords rows system.rows) where
  same : enumeration_of system pairs order limit ≡ table_enumeration coords order limit rows system.rows
  same = λ i. record { system = record { columns = width i; rows = system.rows }; pairs = clashing i; order = order; limit = limit }

  pub surfaces_listed : (A : Type 0) (items : A → List (List ℕ)) (result : Result A (Failure LargeStep)) → IfOk result (λ list. IsOnlyListing (enumeration_of system pairs order limit) (items list))
      → IfOk result (λ list. AreTableSurfaces limit coords rows order (items list))
  surfaces_listed A items (Ok list) h = (system.rows, equations, subst (λ e. IsOnlyListing e (items list)) same h)
  surfaces_listed A items (Err fault) h = tt

  pub table_refused : (A : Type 0) (result : Result A (Failure LargeStep)) → IfErr result (AreRefused (enumeration_of system pairs order limit)) → IfErr result (IsTableRefused limit coords rows order)
  table_refused A (Ok list) h = tt
  table_refused A (Err NoMemory) h = tt
  table_refused A (Err (Fault large)) h = (system.rows, equations, subst (λ e. ExceedsLimit e large.order.items large.kind) same h)

  -- if the bound is within the limit, so are all numbers
  pub numbers_within : (n : ℕ) → n ≡ length rows → IsTable rows → number_bound coords n ≤ limit → AreAlwaysWithin limit system pairs
  numbers_within n count table room =
      within coords rows (enumeration_of system pairs order limit) (record { table = table; equations = equations; columns = width; pairs = clashing })
      (subst (λ m. number_bound coords m ≤ limit) count room)

  -- if the sums of squares in quad coordinates are within the bound, all numbers are within the limit
  pub bounded_within : (n : ℕ) → n ≡ length rows → IsTable rows → AreNumbersBounded coords n system limit → AreAlwaysWithin limit system pairs
  bounded_within n count table (inl room) = numbers_within n count table room
  bounded_within n count table (inr h) =
      quads_within limit rows system pairs (subst (λ c. system.columns ≡ columns c (length rows)) h.0 width) (subst (λ c. pairs ≡ clash_list c (length rows)) h.0 clashing)
      (subst (λ c. AreEquations c rows system.rows) h.0 equations) table h.1
