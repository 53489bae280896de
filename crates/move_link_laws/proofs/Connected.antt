-- A table is connected if a move on it results in a connected table, so a table with a certificate is connected.
use Rattle.std.proofs.Common.{◌≡◌, ℕ, ◌<◌, true, List, [], ◌∷◌, length, map, inl, inr, refl, sym, ap, subst, subst₂, arith}
use Rattle.std.proofs.lemmas.Bool.{false≢true}
use Rattle.table_definitions.specs.Lists.{has}
use Rattle.table_definitions.specs.Places.{Place, whole, IsJoined, IsConnected}
use Rattle.table_definitions.specs.Table.{Row, IsTable}
use Rattle.table_definitions.proofs.ChainLaws.{joined_refl}
use Rattle.move_definitions.specs.Certificates.{IsCertificate}
use Rattle.move_definitions.specs.Moves.{Move, IsMoved, PlaysAll, vertex_of}
use Rattle.move_link_laws.proofs.Buried.{tied_or_buried}
use Rattle.move_link_laws.proofs.JoinedBack.{joined_under}
use Rattle.move_link_laws.proofs.Ties.{Ties, some}
use Rattle.move_link_laws.proofs.Valid.{tie_range}

none_there : (g : ℕ → ℕ) (ls : List ℕ) (j : ℕ) → [] ≡ map g ls → has ls j ≡ true → ⊥
none_there g [] j e t = false≢true t
none_there g (l ∷ ls) j e t = cc

module _ (old : List Row) (m : Move) (new : List Row) (table : IsTable old) (h : IsMoved old m new) where
  -- each tetrahedron has an image
  tied : (t : ℕ) → t < length old → (q : Place) × Ties old m new table h (whole t) q
  tied t l = elim (tied_or_buried old m new table h (whole t) l tt (0, omega arith, refl)) [
    | inl w ↦ w
    | inr w ↦ absurd (none_there (vertex_of w.1.f) w.0 0 (ap (λ (p : Place). p.vertices) w.1.from) (w.1.all 0 (some old m new table h)))
  ]

  pub connected_back : IsConnected new → IsConnected old
  connected_back connected t u lt lu =
      let a = tied t lt in
      let b = tied u lu in
      joined_under old m new table h (whole t) (whole u) a.0 b.0 a.1 b.1
      (subst₂ (IsJoined new) (sym a.1.is) (sym b.1.is) (connected a.1.by.tet b.1.by.tet (tie_range old m new table h (whole t) a.0 a.1) (tie_range old m new table h (whole u) b.0 b.1)))

plays_connected_back : (rows : List Row) (moves : List Move) (last : List Row) → PlaysAll rows moves last → IsConnected last → IsConnected rows
plays_connected_back rows [] last p connected = subst IsConnected (sym p) connected
plays_connected_back rows (m ∷ ms) last (next, p, rest) connected = connected_back rows m next p.table p.moved (plays_connected_back next ms last rest connected)

-- a table of one tetrahedron
one_connected : (rows : List Row) → length rows ≡ 1 → IsConnected rows
one_connected rows one t u lt lu =
    let e : t ≡ u = omega arith in
    subst (λ v. IsJoined rows (whole t) (whole v)) e (joined_refl rows (whole t))

pub certified_connected : (rows : List Row) (moves : List Move) → IsCertificate rows moves → IsConnected rows
certified_connected rows moves (last, p, (by, is, carries)) = plays_connected_back rows moves last p (one_connected last (sym carries.same_length))
