-- The labels of a step, and the corresponding labels of the inverse move.
use Rattle.std.proofs.Common.{◌≡◌, ℕ, ◌<◌, List, [], ◌∷◌, length, map, refl, ap, ◌∙◌, arith}
use Rattle.table_definitions.specs.Lists.{below}
use Rattle.table_definitions.specs.Table.{Row}
use Rattle.table_definitions.specs.Relabelling.{Relabelling}
use Rattle.move_definitions.specs.Moves.{Move, inverse_move}
use Rattle.certificate_definitions.specs.CarriedMoves.{label_under}
use Rattle.certificate_definitions.specs.CarriedBack.{Correspond, move_back}
use Rattle.move_laws.proofs.Renamed.{renamed, renamed_below}
use Rattle.move_laws.proofs.InverseFacets.{inverse_of}
use Rattle.certificate_laws.proofs.Names.{named}
use Rattle.certificate_laws.proofs.CarriedCores.{naming, label_under-named}
use Rattle.certificate_laws.proofs.CarriedFacets.{IsCarried, perm_at, own_fine, naming_fine}
use Rattle.certificate_laws.proofs.BackLabels.{IsSteppedOn, carried_inverse, back_labels, each_once, held}
use Rattle.tri_build.specs.Steps.{PlayedMove}
use Rattle.tri_build.specs.Standing.{inverse_label, label_back}

-- the labels of the inverse, as the definitions compute them

pub back_corresponds : (old : List Row) (m : Move) (new now : List Row) (on : Relabelling) → IsSteppedOn old m new now on → Correspond old m now (move_back old m on) on (back_labels old m on)
back_corresponds old m new now on h = record {
  each_once = each_once (length m.core) (naming (perm_at on (inverse_of old m).tet) (inverse_of old m).core) h.played.limited (naming_fine on new now (inverse_of old m) (carried_inverse old m new now on h));
  held = λ j l. held old m new now on h j l;
}

inverse_label-renamed : (size l : ℕ) → inverse_label size l ≡ renamed size l
unfolding renamed
inverse_label-renamed size l = refl

five_same : (f g : ℕ → ℕ) → ((l : ℕ) → l < 5 → f l ≡ g l) → map f (below 5) ≡ map g (below 5)
five_same f g same = λ i. same 0 (omega arith) i ∷ same 1 (omega arith) i ∷ same 2 (omega arith) i ∷ same 3 (omega arith) i ∷ same 4 (omega arith) i ∷ []

pub labels_are : (old : List Row) (step : PlayedMove) (new now : List Row) (on : Relabelling) → IsSteppedOn old step.played new now on → step.tets ≡ length old → map (label_back step on) (below 5) ≡ back_labels old step.played on
labels_are old step new now on h tets = five_same (label_back step on) (λ l. named (naming (perm_at on inverse.tet) inverse.core) (renamed size l)) at
  where
    size : ℕ
    size = length step.played.core

    inverse : Move
    inverse = inverse_of old step.played

    k : IsCarried on new now inverse
    k = carried_inverse old step.played new now on h

    at : (l : ℕ) → l < 5 → label_back step on l ≡ named (naming (perm_at on inverse.tet) inverse.core) (renamed size l)
    at l small =
        ap (λ n. label_under on (inverse_move n step.played) (inverse_label size l)) tets
        ∙ ap (label_under on inverse) (inverse_label-renamed size l)
        ∙ label_under-named on inverse (own_fine on new now inverse k) k.core (renamed size l) (renamed_below size l h.played.limited small)
