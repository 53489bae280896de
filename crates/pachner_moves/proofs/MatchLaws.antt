-- Facets that are glued to each other.
use Rattle.std.proofs.Common.{◌≡◌, ℕ, Bool, List, map, sym, ap, ◌∙◌, Option, Some}
use Rattle.std.specs.Prelude.{◌&&◌}
use Rattle.std.proofs.lemmas.Bool.{eq-eqb}
use Rattle.table_definitions.specs.Lists.{same_list, substitute}
use Rattle.table_definitions.specs.Permutation.{compose}
use Rattle.table_definitions.specs.Table.{Gluing}
use Rattle.move_definitions.specs.Moves.{Facet, is_matched}

pub matched : (f g : Facet) (o : Option Gluing) (p : Gluing) (t : ℕ) (perm reached expected : List ℕ) (b : Bool) → Some p ≡ o → t ≡ p.tet → perm ≡ p.perm → t ≡ g.tet → reached ≡ compose g.labels perm
    → expected ≡ map (substitute g.missing f.missing) f.labels → b ≡ same_list reached expected → b ≡ is_matched f g o
matched f g o p t perm reached expected b e et ep same er ew eb =
    eb ∙ ap (λ (xs : List ℕ). same_list xs expected) (er ∙ ap (compose g.labels) ep) ∙ ap (same_list (compose g.labels p.perm)) ew
    ∙ ap (λ c. c && same_list (compose g.labels p.perm) (map (substitute g.missing f.missing) f.labels)) (sym (eq-eqb p.tet g.tet (sym et ∙ same)))
    ∙ ap (is_matched f g) e
