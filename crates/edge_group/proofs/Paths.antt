-- The way along a path of tree faces.
use Rattle.std.proofs.Common.{◌≡◌, ℕ, ◌+◌, ◌<◌, Bool, true, false, not, List, [], ◌∷◌, length, Option, Some, None, subst, sym, ap, refl, ◌∙◌, arith}
use Rattle.std.specs.Bool.{beq}
use Rattle.table_definitions.specs.Table.{Row, Face, IsTable, glue}
use Rattle.table_definitions.proofs.TableLaws.{glued_tet}
use Rattle.presentation_definitions.specs.Trees.{IsTreeFace, IsTreePath, is_even_gluing, evens, is_odd_number}
use Rattle.presentation_laws.proofs.Parity.{differs, differs_assoc, differs_false, odd_more}
use Rattle.edge_group.specs.Searches.{mark_of, AreDistances}
use Rattle.edge_group.specs.Turns.{IsPathOdd}

-- each path to t extends to a path to `end`, and `odd` says whether this adds an odd number of even gluings
abbrev pub IsPathOn : List Row → ℕ → ℕ → Bool → Type 0
IsPathOn rows end t odd = (xs : List Face) → IsTreePath rows t xs → (ys : List Face) × IsTreePath rows end ys × (is_odd_number (evens rows ys) ≡ differs odd (is_odd_number (evens rows xs)))

-- a distance, and 0 if there is none
abbrev pub distance_or : Option ℕ → ℕ
distance_or None = 0
distance_or (Some d) = d

pub differ_is : (a b : Bool) → not (beq a b) ≡ differs a b
differ_is true true = refl
differ_is true false = refl
differ_is false true = refl
differ_is false false = refl

module _ (rows : List Row) where
  pub path_steps : (end t : ℕ) (x : Face) (odd even new : Bool) → IsTreeFace rows t x → even ≡ is_even_gluing (glue rows x) → new ≡ differs odd even → IsPathOn rows end t odd → IsPathOn rows end x.tet new
  path_steps end t x odd even new h e f on xs p =
      let more = on (x ∷ xs) (h, p) in (
        more.0,
        more.1,
        more.2 ∙ ap (differs odd) (odd_more (λ y. is_even_gluing (glue rows y)) x xs ∙ ap (λ b. differs b (is_odd_number (evens rows xs))) (sym e))
            ∙ sym (differs_assoc odd even (is_odd_number (evens rows xs))) ∙ ap (λ b. differs b (is_odd_number (evens rows xs))) (sym f),
      )

  pub path_ends : (end t : ℕ) (odd : Bool) → t ≡ 0 → IsPathOn rows end t odd → IsPathOdd rows end odd
  path_ends end t odd z on = let p = on [] z in record { path = p.0; is_path = p.1; reported = sym (p.2 ∙ differs_false odd) }

  -- the distance decreases
  pub path_falls : (marks : List (Option ℕ)) (t : ℕ) (x : Face) → IsTable rows → AreDistances rows marks → IsTreeFace rows t x → distance_or (mark_of marks x.tet) < distance_or (mark_of marks t)
  path_falls marks t x table a h =
      let here : mark_of marks x.tet ≡ Some h.leads.distance = (a.reported x.tet h.leads.distance (glued_tet rows x h.leads.gluing h.leads.glued)).1 h.leads.here in
      let inside : t < length rows = subst (λ u. u < length rows) h.leads.to (table.in_range x h.leads.gluing h.leads.glued) in
      let there : mark_of marks t ≡ Some (h.leads.distance + 1) = (a.reported t (h.leads.distance + 1) inside).1 h.leads.there in
      let m : distance_or (mark_of marks x.tet) ≡ h.leads.distance = ap distance_or here in
      let n : distance_or (mark_of marks t) ≡ h.leads.distance + 1 = ap distance_or there in
      omega arith
