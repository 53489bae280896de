-- The marks that are cleared after a traversal.
use Rattle.std.proofs.Common.{◌≡◌, ℕ, ◌<◌, ◌≤◌, Bool, true, false, List, length, sym, ◌∙◌, arith}
use Rattle.std.specs.List.{slice_index_or}
use Rattle.signature_definitions.specs.Labellings.{Start}
use Rattle.signature_laws.specs.Orders.{start_at, AreVisited}
use Rattle.signature_laws.proofs.Growing.{met_at}

-- the marked tetrahedra are those of the order from index i on
abbrev pub AreLeft : List Start → ℕ → List Bool → Type 0
AreLeft order i marks = (t : ℕ) → slice_index_or marks t false ≡ true → (j : ℕ) × (i ≤ j) × (j < length order) × ((start_at order j).tet ≡ t)

pub left_begins : (order : List Start) (marks : List Bool) → AreVisited order marks → AreLeft order 0 marks
left_begins order marks h t e = let m = met_at order t (sym (h t) ∙ e) in (m.0, omega arith, m.1, m.2)

-- the marks that are set lie from index i on, and below a limit
abbrev pub AreBetween : ℕ → ℕ → List Bool → Type 0
AreBetween i limit marks = (p : ℕ) → slice_index_or marks p false ≡ true → (i ≤ p) × (p < limit)
