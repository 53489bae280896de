-- The tables that result from a move and from the corresponding one: a relabelling carries the former to the latter.
use Rattle.std.proofs.Common.{◌≡◌, ℕ, ◌<◌, List, length, sym, ap, ◌∙◌, subst, arith, inl, inr}
use Rattle.std.specs.Prelude.{◌⊎◌, option_map}
use Rattle.table_definitions.specs.Table.{Row, Face, glue, IsTable}
use Rattle.table_definitions.specs.Relabelling.{Relabelling, IsRelabelling, Carries, relabelled_place, face_under, gluing_under}
use Rattle.move_definitions.specs.Moves.{Move, new_length, IsMoved}
use Rattle.certificate_definitions.specs.CarriedMoves.{move_under, CarriesAfterMove}
use Rattle.move_laws.proofs.Legal.{no_fault}
use Rattle.move_laws.proofs.Covered.{StandsForOld, IsInner, covered}
use Rattle.move_laws.proofs.LedOn.{legal_moves_lead_on_lem}
use Rattle.certificate_laws.specs.Laws.{MovesGoOn, MovesGoOnOnce}
use Rattle.signature_laws.proofs.Standing.{same_relabelling}
use Rattle.certificate_laws.proofs.CarriedFacets.{IsCarried, other_table, other_core, other_size}
use Rattle.certificate_laws.proofs.CarriedLegal.{carried_legal}
use Rattle.certificate_laws.proofs.CarriedPlaces.{IsKeptNumber, IsNewNumber, number_cases, kept_same, on, on_relabelling, on_goes_on}
use Rattle.certificate_laws.proofs.InnerOn.{inner_on}
use Rattle.certificate_laws.proofs.OuterOn.{outer_on}

-- the relabelling carries any result of the move to any result of the corresponding one
pub carried_on : (by : Relabelling) (old other : List Row) (m : Move) (new next : List Row) → IsCarried by old other m → IsMoved old m new → IsMoved other (move_under by m) next → Carries (on by old other m) new next
carried_on by old other m new next h moved moved' = record {
  same_length = moved'.length_is ∙ long ∙ sym moved.length_is;
  four_faces = moved'.four_faces;
  glued = λ y lt lf. glued_at y lf (covered old m y h.table h.fine h.core (rw (← moved.length_is) lt) lf);
}
  where
    R : Relabelling
    R = on by old other m

    long : new_length other (move_under by m) ≡ new_length old m
    long = omega (arith, kept_same by old other m h, other_size by old other m h)

    glued_at : (y : Face) → y.face < 4 → StandsForOld old m y ⊎ IsInner old m y → glue next (face_under (relabelled_place R y.tet) y) ≡ option_map (λ g. gluing_under (relabelled_place R y.tet) (relabelled_place R g.tet) g) (glue new y)
    glued_at y lf (inl o) = subst (λ (z : Face). glue next (face_under (relabelled_place R z.tet) z) ≡ option_map (λ g. gluing_under (relabelled_place R z.tet) (relabelled_place R g.tet) g) (glue new z)) o.is (outer_on by old other m new next h moved moved' o.old o.by o.tet o.face o.occurs)
    glued_at y lf (inr n) = inner_on by old other m new next h moved moved' y n

pub is_carried : (by : Relabelling) (old other : List Row) (m : Move) (new : List Row) → IsTable old → IsRelabelling (length old) by → Carries by old other → IsMoved old m new → IsCarried by old other m
is_carried by old other m new table r k moved = record { table = table; core = moved.core; fine = no_fault old m moved.legal; relabels = r; carries = k }

pub moves_go_on_lem : MovesGoOn
moves_go_on_lem by old other m new table r k moved =
    let h : IsCarried by old other m = is_carried by old other m new table r k moved in
    let led = legal_moves_lead_on_lem other (move_under by m) (other_table by old other m h) (other_core by old other m h) (carried_legal by old other m h) in
    (led.0, on by old other m, led.1, on_goes_on by old other m h, subst (λ n. IsRelabelling n (on by old other m)) (sym moved.length_is) (on_relabelling by old other m h), carried_on by old other m new led.0 h moved led.1)

-- such a relabelling is the only one
pub goes_on_once : (by : Relabelling) (old other : List Row) (m : Move) (r r' : Relabelling) → IsCarried by old other m → IsRelabelling (new_length old m) r → IsRelabelling (new_length old m) r' → CarriesAfterMove by old m other r → CarriesAfterMove by old m other r' → r ≡ r'
goes_on_once by old other m r r' h k k' g g' = same_relabelling (new_length old m) r r' k k' (λ u l. at u (number_cases old m h.table h.fine h.core u l))
  where
    at : (u : ℕ) → IsKeptNumber old m u ⊎ IsNewNumber old m u → relabelled_place r u ≡ relabelled_place r' u
    at u (inl n) = ap (relabelled_place r) (sym n.is) ∙ g.kept n.tet n.in_range n.stays ∙ sym (g'.kept n.tet n.in_range n.stays) ∙ ap (relabelled_place r') n.is
    at u (inr n) = ap (relabelled_place r) (sym n.is) ∙ g.put_in n.label n.small ∙ sym (g'.put_in n.label n.small) ∙ ap (relabelled_place r') n.is

pub moves_go_on_once_lem : MovesGoOnOnce
moves_go_on_once_lem by old other m new r r' table relabels carries moved k k' g g' =
    goes_on_once by old other m r r' (is_carried by old other m new table relabels carries moved) (subst (λ n. IsRelabelling n r) moved.length_is k) (subst (λ n. IsRelabelling n r') moved.length_is k') g g'
