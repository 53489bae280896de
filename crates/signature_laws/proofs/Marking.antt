-- The marks of a traversal: which tetrahedra are visited.
use Rattle.std.proofs.Common.{◌≡◌, ℕ, ◌<◌, ◌≤◌, Bool, true, false, List, [], ◌∷◌, ◌++◌, length, get_or, refl, sym, ap, ◌∙◌, arith, ⊎_elim}
use Rattle.std.specs.Prelude.{◌==◌, ◌||◌}
use Rattle.std.specs.List.{slice_set}
use Rattle.std.proofs.lemmas.Bool.{eqb-true, eq-eqb, cases_lt, cases_eq, or_right}
use Rattle.std.proofs.lemmas.List.{length-set, get_or_past, get_or_default}
use Rattle.std.proofs.lemmas.List.Folds.{list_any-append}
use Rattle.basic_lemmas.proofs.Truths.{by_bool}
use Rattle.table_definitions.specs.Table.{Gluing, Row}
use Rattle.signature_definitions.specs.Labellings.{Start}
use Rattle.table_definitions.proofs.Marked.{mark_same, mark_other, or-false as or_false}
use Rattle.signature_laws.specs.Orders.{start_at, is_visited, start_across, follow, IsWalking, AreVisited}
use Rattle.signature_laws.proofs.Growing.{met_from}

-- the tetrahedra of the order have marks
pub met_inside : (order : List Start) (marks : List Bool) (i : ℕ) → AreVisited order marks → i < length order → (start_at order i).tet < length marks
met_inside order marks i h l = ⊎_elim
    (λ (m : (start_at order i).tet < length marks). m)
    (λ (m : length marks ≤ (start_at order i).tet).
    absurd (let a : get_or marks (start_at order i).tet false ≡ true = h (start_at order i).tet ∙ met_from order (start_at order i).tet i l refl in
    let b : get_or marks (start_at order i).tet false ≡ false = get_or_past marks (start_at order i).tet false m in cc))
    (cases_lt (start_at order i).tet (length marks))

pub met_below : (rows : List Row) (order : List Start) (marks : List Bool) (i : ℕ) → IsWalking rows order marks → i < length order → (start_at order i).tet < length rows
met_below rows order marks i h l = let m = met_inside order marks i h.visited l in let s = h.size in omega (arith, m, s)

is_face_read-push : (order : List Start) (s : Start) (t : ℕ) → is_visited (order ++ s ∷ []) t ≡ (is_visited order t || (s.tet == t))
is_face_read-push order s t = list_any-append (λ (r : Start). r.tet == t) order (s ∷ []) ∙ ap (λ b. is_visited order t || b) (or_false (s.tet == t))

-- the marks after one more tetrahedron is visited
pub push_marks : (order : List Start) (s : Start) (marks : List Bool) → s.tet < length marks → AreVisited order marks → AreVisited (order ++ s ∷ []) (slice_set marks s.tet true)
push_marks order s marks l h t = ⊎_elim
    (λ (e : t ≡ s.tet).
    let there : get_or (slice_set marks s.tet true) t false ≡ true = rw e (mark_same marks s.tet l) in
    let here : (s.tet == t) ≡ true = eq-eqb s.tet t (sym e) in
    there ∙ sym (is_face_read-push order s t ∙ or_right (is_visited order t) (s.tet == t) here))
    (λ (d : t ≡ s.tet → ⊥).
    let away : (s.tet == t) ≡ false = by_bool (s.tet == t) (λ e. absurd (d (sym (eqb-true s.tet t e)))) (λ e. e) in
    mark_other marks s.tet t d ∙ h t ∙ sym (is_face_read-push order s t ∙ ap (λ b. is_visited order t || b) away ∙ or_false (is_visited order t)))
    (cases_eq t s.tet)

-- the marks after a gluing is followed
pub follow_met : (from : Start) (g : Gluing) (order : List Start) (marks : List Bool) → AreVisited order marks → g.tet < length marks → AreVisited (follow (get_or marks g.tet false) from g order) (slice_set marks g.tet true)
follow_met from g order marks h l = by_bool (get_or marks g.tet false) (λ e. old e) (λ e. fresh e)
  where
    old : get_or marks g.tet false ≡ true → AreVisited (follow (get_or marks g.tet false) from g order) (slice_set marks g.tet true)
    old e t = rw e (⊎_elim
        (λ (same : t ≡ g.tet). rw same (mark_same marks g.tet l ∙ sym e ∙ h g.tet))
        (λ (d : t ≡ g.tet → ⊥). mark_other marks g.tet t d ∙ h t)
        (cases_eq t g.tet))

    fresh : get_or marks g.tet false ≡ false → AreVisited (follow (get_or marks g.tet false) from g order) (slice_set marks g.tet true)
    fresh e = rw e (push_marks order (start_across from g) marks l h)

pub follow_marks : (rows : List Row) (from : Start) (g : Gluing) (order new : List Start) (marks marked : List Bool) → IsWalking rows order marks → g.tet < length marks
    → new ≡ follow (get_or marks g.tet false) from g order → marked ≡ slice_set marks g.tet true → IsWalking rows new marked
follow_marks rows from g order new marks marked h l made set = record {
  size = ap length set ∙ length-set marks g.tet true ∙ h.size;
  visited = rw (made, set) (follow_met from g order marks h.visited l);
}

-- an item of the order that is read is the start there
pub start_is : (order : List Start) (i : ℕ) (s : Start) → i < length order → s ≡ get_or order i s → s ≡ start_at order i
start_is order i s l e = e ∙ get_or_default order i s (record { tet = 0; perm = [] }) l
