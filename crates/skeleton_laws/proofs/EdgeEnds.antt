-- An edge by its tetrahedron and its two ends.
use Rattle.std.proofs.Common.{◌≡◌, ◌≢◌, ℕ, ◌+◌, ◌*◌, ◌/◌, ◌%◌, ◌<◌, List, inl, inr, refl, sym, ap, ◌∙◌, subst₂, arith}
use Rattle.table_definitions.specs.Table.{Row}
use Rattle.table_definitions.specs.Places.{Place, edge, edge_number, backwards, IsJoined, IsInvalidEdge}
use Rattle.table_definitions.proofs.ChainLaws.{joined_turned}
use Rattle.skeleton_class_laws.specs.Crossings.{pair}
use Rattle.skeleton_class_laws.proofs.Cases.{are_ends, ends-edge_number, low, high}
use Rattle.skeleton_class_laws.proofs.EdgeTies.{edge_pair, pair_either}

-- an edge by its ends
pub record EdgeAt (i : ℕ) : Type 0 where
  pub t : ℕ
  pub a : ℕ
  pub b : ℕ
  pub low_a : a < 4
  pub low_b : b < 4
  pub separate : a ≢ b
  pub tet : t ≡ i / 6
  pub is : edge i ≡ pair t a b

pub edge_ends_at : (i : ℕ) → EdgeAt i
edge_ends_at i =
    let small : i % 6 < 6 = omega arith in
    let e = are_ends (i % 6) small in
    record { t = i / 6; a = low (i % 6); b = high (i % 6); low_a = e.lower; low_b = e.higher; separate = e.separate; tet = refl; is = edge_pair i }

pub edge_below : (t a b n : ℕ) → a < 4 → b < 4 → a ≢ b → t < n → 6 * t + edge_number a b < 6 * n
edge_below t a b n la lb ne lt = let s = (ends-edge_number a b la lb ne).0 in omega arith

-- a chain joins the directed edge to its own reverse
abbrev pub Reverses : List Row → ℕ → ℕ → ℕ → Type 0
Reverses rows t a b = IsJoined rows (pair t a b) (pair t b a)

pub reverses_edge : (rows : List Row) (t a b : ℕ) → a < 4 → b < 4 → a ≢ b → Reverses rows t a b → IsInvalidEdge rows (6 * t + edge_number a b)
reverses_edge rows t a b la lb ne j = elim (pair_either t a b la lb ne) [
  | inl e ↦ subst₂ (IsJoined rows) e (ap backwards e) j
  | inr e ↦ subst₂ (IsJoined rows) (back e) e (joined_turned rows (pair t a b) (pair t b a) j)
]
  where
    back : pair t a b ≡ backwards (edge (6 * t + edge_number a b)) → pair t b a ≡ edge (6 * t + edge_number a b)
    back e = ap backwards e ∙ ap (λ (p : Place). backwards (backwards p)) (edge_pair (6 * t + edge_number a b)) ∙ sym (edge_pair (6 * t + edge_number a b))
