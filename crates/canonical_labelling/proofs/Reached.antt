-- All tetrahedra of a table that is known to be connected are reached.
use Rattle.std.proofs.Common.{◌≡◌, ◌<◌, ◌≤◌, ◌*◌, ℕ, true, List, length, sym, subst}
use Rattle.std.proofs.Math.Logic.{∥∥₁_elim}
use Rattle.std.proofs.Props.{props}
use Rattle.table_definitions.specs.Permutation.{IsPermutationOfFour}
use Rattle.table_definitions.specs.Table.{Row, IsTable}
use Rattle.table_definitions.specs.Places.{IsConnected}
use Rattle.table_definitions.specs.Relabelling.{Relabelling, IsRelabelling, Carries}
use Rattle.signature_definitions.specs.Labellings.{Start, IsWalked}
use Rattle.signature_laws.specs.Orders.{IsWholeOrder, Numbers, start_at, is_visited, whole_order}
use Rattle.signature_laws.proofs.Growing.{met_from, met_at}
use Rattle.signature_laws.proofs.Sound.{IsOrder, order_holds}
use Rattle.signature_laws.proofs.Reaching.{whole_order_holds, order_few}
use Rattle.signature_laws.proofs.Labelled.{labelled_is_walked}
use Rattle.signature_laws.proofs.Walks.{relabelled_exist_lem}

-- a tetrahedron of a whole order is visited
whole_visits : (n : ℕ) (order : List Start) (t : ℕ) → IsWholeOrder n order → t < n → is_visited order t ≡ true
whole_visits n order t h l = let at = h.all t l in met_from order t at.0 at.1 at.2

pub whole_order_known : (rows : List Row) (start : Start) → IsTable rows → ∥ IsConnected rows ∥₁ → start.tet < length rows → IsPermutationOfFour start.perm → IsWholeOrder (length rows) (whole_order rows start)
whole_order_known rows start table connected low permutes =
    let h : IsOrder rows start (whole_order rows start) = order_holds rows start (4 * length rows) table low permutes in
    record {
      in_range = h.in_range;
      separate = h.separate;
      all = λ t l. met_at (whole_order rows start) t (visited t l);
    }
  where
    visited : (t : ℕ) → t < length rows → is_visited (whole_order rows start) t ≡ true
    visited t l = ∥∥₁_elim connected (hlevel props) (λ known. whole_visits (length rows) (whole_order rows start) t (whole_order_holds rows start table known low permutes) l)

-- what is known of the order of a traversal
pub record IsTraversed (n : ℕ) (order : List Start) : Type 0 where
  pub whole : IsWholeOrder n order
  pub limited : length order ≤ n
  pub permute : (i : ℕ) → i < length order → IsPermutationOfFour (start_at order i).perm

pub traversed : (rows : List Row) (start : Start) (order : List Start) → IsTable rows → ∥ IsConnected rows ∥₁ → start.tet < length rows → IsPermutationOfFour start.perm → order ≡ whole_order rows start → IsTraversed (length rows) order
traversed rows start order table connected low permutes is =
    let h : IsOrder rows start (whole_order rows start) = order_holds rows start (4 * length rows) table low permutes in
    subst (IsTraversed (length rows)) (sym is) (record {
      whole = whole_order_known rows start table connected low permutes;
      limited = order_few rows start (whole_order rows start) h;
      permute = h.permutes;
    })

-- the relabelling numbers a table that is known to be connected by its traversal from the start
pub record IsByTraversal (rows : List Row) (start : Start) (by : Relabelling) : Type 0 where
  pub table : IsTable rows
  pub connected : ∥ IsConnected rows ∥₁
  pub in_range : start.tet < length rows
  pub permutes : IsPermutationOfFour start.perm
  pub bijection : IsRelabelling (length rows) by
  pub numbers : Numbers (whole_order rows start) by

-- the table to which such a relabelling carries the table is that of the traversal
pub walked_by : (rows : List Row) (start : Start) (by : Relabelling) (new : List Row) → IsByTraversal rows start by → Carries by rows new → IsWalked rows start by new
walked_by rows start by new h carries = labelled_is_walked rows start by new (record {
  table = h.table;
  order = order_holds rows start (4 * length rows) h.table h.in_range h.permutes;
  whole = whole_order_known rows start h.table h.connected h.in_range h.permutes;
  bijection = h.bijection;
  numbers = h.numbers;
  carries = carries;
})

-- such a relabelling carries the table to some table, whether or not it is made
pub walk_exists : (rows : List Row) (start : Start) (by : Relabelling) → IsByTraversal rows start by → (new : List Row) × IsWalked rows start by new
walk_exists rows start by h =
    let carried = relabelled_exist_lem rows by h.table h.bijection in
    (carried.0, walked_by rows start by carried.0 h carried.1)
