-- A move keeps a table connected.
use Rattle.std.proofs.Common.{◌≡◌, ℕ, zero, suc, ◌+◌, ◌<◌, ◌≤◌, Bool, true, false, List, [], ◌∷◌, length, Option, Some, Ok, Err, None, refl, sym, ap, ◌∙◌, subst, arith, inl, inr}
use Rattle.std.specs.Prelude.{◌⊎◌, ◌≢◌, option_map, option_and_then, if◌then◌else◌}
use Rattle.std.proofs.lemmas.Bool.{cases_lt}
use Rattle.table_definitions.specs.Lists.{has, rank_without}
use Rattle.table_definitions.specs.Permutation.{image}
use Rattle.table_definitions.specs.Table.{Gluing, Row, Face, glue, other_side, IsTable}
use Rattle.table_definitions.specs.Relabelling.{face_under, gluing_under}
use Rattle.table_definitions.specs.Places.{Place, whole, across, SameComponent, IsConnected}
use Rattle.table_definitions.proofs.TableLaws.{glued_tet, glued_face}
use Rattle.table_definitions.proofs.ChainLaws.{kept_along, joined_refl, joined_trans, Crossed, crossed, gluing_joins, joins_back, one_unreached, connected_or_not}
use Rattle.move_definitions.specs.Moves.{Move, IsCore, Facet, own_facet, opposite, facet, new_facet, kept, old_labels, old_tets, facet_place_after, place_after, moved_gluing, IsMoved, facet_gluing}
use Rattle.certificate_definitions.specs.Answers.{Descended}
use Rattle.signature_laws.proofs.Connected.{connected_or_unreached_lem}
use Rattle.table_definitions.proofs.Permutations.{image_below}
use Rattle.table_definitions.proofs.Faces.{face_at}
use Rattle.move_definitions.proofs.CoreTests.{core_size}
use Rattle.move_definitions.proofs.StandIns.{facet_image_after-new, image_after-kept}
use Rattle.move_laws.proofs.Labels.{HasLabel, label_at}
use Rattle.move_laws.proofs.ListedFacets.{same_some, has_tet}
use Rattle.move_laws.proofs.Legal.{IsFacet, facet_is, facet-four, HasNoFault, no_fault, old_facet, old_label, OldFacet, old_tet_facet}
use Rattle.move_laws.proofs.Covered.{image_after-old}
use Rattle.move_laws.proofs.Matched.{AreGlued, old_glued}
use Rattle.move_laws.proofs.SecondStand.{other_stands}
use Rattle.move_laws.proofs.Shapes.{shape}
use Rattle.move_laws.proofs.Played.{played_table}
use Rattle.certificate_laws.specs.Laws.{MovesKeepConnected, WaysKeepConnected, DescentAnswersExist, DescentAnswersAgree}
use Rattle.certificate_laws.proofs.CarriedPlaces.{IsKeptNumber, IsNewNumber, number_cases}
use Rattle.certificate_laws.proofs.Descents.{one_descent_lem}
use Rattle.certificate_laws.proofs.Answered.{descents_exist_lem}

-- a table, a move on it, and the resulting table
record IsStep (old : List Row) (m : Move) (new : List Row) : Type 0 where
  table : IsTable old
  core : IsCore m.core
  fine : HasNoFault old m
  moved : IsMoved old m new
  new_table : IsTable new

-- a tetrahedron of the new table for each old one: for all removed ones the first new one
unfoldable where_then : List Row → Move → ℕ → ℕ
where_then old m t = if has (old_tets old m) t then kept old m else rank_without (old_tets old m) t

then_kept : (old : List Row) (m : Move) (t : ℕ) → has (old_tets old m) t ≡ false → where_then old m t ≡ rank_without (old_tets old m) t
unfolding where_then
then_kept old m t e = ap (λ (b : Bool). if b then kept old m else rank_without (old_tets old m) t) e

then_taken : (old : List Row) (m : Move) (t : ℕ) → has (old_tets old m) t ≡ true → where_then old m t ≡ kept old m
unfolding where_then
then_taken old m t e = ap (λ (b : Bool). if b then kept old m else rank_without (old_tets old m) t) e

go_on : (rows : List Row) (t u v : ℕ) → SameComponent rows t u → SameComponent rows u v → SameComponent rows t v
go_on rows t u v j k = joined_trans rows (whole t) (whole u) (whole v) j k

same_place : (rows : List Row) (t u : ℕ) → t ≡ u → SameComponent rows t u
same_place rows t u e = subst (λ v. SameComponent rows t v) e (joined_refl rows (whole t))

-- the new tetrahedra are joined
new_joined : (old : List Row) (m : Move) (new : List Row) → IsStep old m new → (j : ℕ) → j < length m.core → SameComponent new (kept old m + j) (kept old m)
new_joined old m new h zero l = same_place new (kept old m + 0) (kept old m) (omega arith)
new_joined old m new h (suc j) l =
    let to : SameComponent new (kept old m + suc j) (kept old m + 0) = gluing_joins new (opposite (new_facet old m (suc j)) 0) _ (h.moved.inner (suc j) 0 l (omega arith) (λ e. absurd (omega arith))) in
    go_on new (kept old m + suc j) (kept old m + 0) (kept old m) to (same_place new (kept old m + 0) (kept old m) (omega arith))

-- the replacement of a face is joined to the tetrahedron for the one of the face
stands_then : (old : List Row) (m : Move) (new : List Row) → IsStep old m new → (x : Face) (s : Gluing) → x.tet < length old → x.face < 4 → place_after old m x ≡ Some s → SameComponent new s.tet (where_then old m x.tet)
stands_then old m new h x s lt lf occurs = elim (shape old m h.table h.fine h.core x s lt lf occurs) [
  | inl k ↦ same_place new s.tet (where_then old m x.tet) (ap (λ (g : Gluing). g.tet) k.by ∙ sym (then_kept old m x.tet k.stays))
  | inr f ↦ (let at : s.tet ≡ kept old m + f.j = ap (λ (g : Gluing). g.tet) f.by in
      let tet : f.facet_of.tet ≡ x.tet = ap (λ (y : Face). y.tet) f.old_is in
      let taken : has (old_tets old m) x.tet ≡ true = ap (has (old_tets old m)) (sym tet) ∙ has_tet (facet old m) (old_labels m) f.i f.facet_of (old_label (length m.core) f.i (core_size m.core h.core).1 f.low f.high) f.found in
      go_on new s.tet (kept old m + f.j) (where_then old m x.tet) (same_place new s.tet (kept old m + f.j) at)
      (go_on new (kept old m + f.j) (kept old m) (where_then old m x.tet) (new_joined old m new h f.j f.less) (same_place new (kept old m) (where_then old m x.tet) (sym (then_taken old m x.tet taken)))))
]

-- a face that is not replaced lies between removed tetrahedra
both_taken : (old : List Row) (m : Move) (new : List Row) → IsStep old m new → (x : Face) (g : Gluing) → x.tet < length old → x.face < 4 → glue old x ≡ Some g → place_after old m x ≡ None → (has (old_tets old m) x.tet ≡ true) × (has (old_tets old m) g.tet ≡ true)
both_taken old m new h x g lt lf e none = by_test (has (old_tets old m) x.tet) refl
  where
    never : (o : Option Gluing) (k : Gluing) → o ≡ Some k → o ≡ None → ⊥
    never o k a b = cc

    by_facet : OldFacet old m x.tet → (has (old_tets old m) x.tet ≡ true) → (has (old_tets old m) x.tet ≡ true) × (has (old_tets old m) g.tet ≡ true)
    by_facet o taken =
        let f : Facet = o.facet_of in
        let is : IsFacet old o.label f = facet_is old m o.label f h.table h.core h.fine.in_range o.high o.is in
        let l : ℕ = image f.labels x.face in
        let here : HasLabel o.label f.labels x.face = label_at o.label f.labels is.labels x.face lf in
        let face : face_at f.tet x.face ≡ x = ap (λ t. face_at t x.face) o.tet in
        by_size f l here.small here.present is face (ap (face_at f.tet) here.vertex ∙ face) refl (cases_lt l (length m.core)) o.is
      where
        by_size : (f : Facet) (l : ℕ) → l < 5 → l ≢ o.label → IsFacet old o.label f → face_at f.tet x.face ≡ x → opposite f l ≡ x → image f.labels x.face ≡ l → (l < length m.core) ⊎ (length m.core ≤ l) → facet old m o.label ≡ Some f
            → (has (old_tets old m) x.tet ≡ true) × (has (old_tets old m) g.tet ≡ true)
        by_size f l small separate is face at label (inl less) found =
            absurd (never (place_after old m x) (facet_gluing old m f l) (ap (place_after old m) (sym face) ∙ image_after-old old m o.label f x.face h.fine h.core o.low o.high found ∙ ap (facet_place_after old m f) label ∙ facet_image_after-new old m f l less) none)
        by_size f l small separate is face at label (inr more) found =
            let other = old_facet old m l h.fine h.core more small in
            let a : AreGlued old o.label l f other.0 = old_glued old m o.label l f other.0 h.table h.fine h.core o.low o.high more small (λ e. separate (sym e)) found other.1 in
            let same : a.by ≡ g = same_some (glue old x) a.by g (ap (glue old) (sym at) ∙ a.glued) e in
            let tet : other.0.tet ≡ g.tet = sym a.tet ∙ ap (λ (k : Gluing). k.tet) same in
            (taken, ap (has (old_tets old m)) (sym tet) ∙ has_tet (facet old m) (old_labels m) l other.0 (old_label (length m.core) l (core_size m.core h.core).1 more small) other.1)

    by_test : (b : Bool) → has (old_tets old m) x.tet ≡ b → (has (old_tets old m) x.tet ≡ true) × (has (old_tets old m) g.tet ≡ true)
    by_test false s = absurd (never (place_after old m x) _ (image_after-kept old m x s) none)
    by_test true s = by_facet (old_tet_facet old m x.tet h.core s) s

-- the tetrahedra for the two sides of a gluing are joined
step_then : (old : List Row) (m : Move) (new : List Row) → IsStep old m new → (x : Face) (g : Gluing) → glue old x ≡ Some g → SameComponent new (where_then old m x.tet) (where_then old m g.tet)
step_then old m new h x g e = by_stand (place_after old m x) refl
  where
    lt : x.tet < length old
    lt = glued_tet old x g e

    lf : x.face < 4
    lf = glued_face old x g h.table.four_faces e

    by_stand : (o : Option Gluing) → place_after old m x ≡ o → SameComponent new (where_then old m x.tet) (where_then old m g.tet)
    by_stand None none =
        let both = both_taken old m new h x g lt lf e none in
        same_place new (where_then old m x.tet) (where_then old m g.tet) (then_taken old m x.tet both.0 ∙ sym (then_taken old m g.tet both.1))
    by_stand (Some s) occurs =
        let reached = other_stands old m h.table h.fine h.core x s g lf occurs e in
        let r : Gluing = reached.0 in
        let glued : glue new (face_under s x) ≡ Some _ = h.moved.outer x s lt lf occurs ∙ ap (option_and_then (moved_gluing old m x s)) e ∙ ap (option_map (λ (r : Gluing). gluing_under s r g)) reached.1 in
        let near : SameComponent new s.tet (where_then old m x.tet) = stands_then old m new h x s lt lf occurs in
        let far : SameComponent new r.tet (where_then old m g.tet) = stands_then old m new h (other_side x g) r (h.table.in_range x g e) (image_below g.perm (h.table.permutes x g e) x.face lf) reached.1 in
        go_on new (where_then old m x.tet) s.tet (where_then old m g.tet) (joins_back new s.tet (where_then old m x.tet) h.new_table near) (go_on new s.tet r.tet (where_then old m g.tet) (gluing_joins new (face_under s x) (gluing_under s r g) glued) far)

abbrev Then : List Row → Move → List Row → ℕ → Place → Type 0
Then old m new t p = (p.vertices ≡ []) × SameComponent new (where_then old m t) (where_then old m p.tet)

chain_then : (old : List Row) (m : Move) (new : List Row) → IsStep old m new → (t u : ℕ) → SameComponent old t u → SameComponent new (where_then old m t) (where_then old m u)
chain_then old m new h t u j = (kept_along old (Then old m new t) step j.0 (whole t) (whole u) (refl, joined_refl new (whole (where_then old m t))) j.1).1
  where
    step : (p : Place) (f : ℕ) (q : Place) → Then old m new t p → across old p f ≡ Some q → Then old m new t q
    step p f q k e =
        let c : Crossed old p f q = crossed old p f q k.0 e in
        (c.bare, go_on new (where_then old m t) (where_then old m p.tet) (where_then old m q.tet) k.1 (subst (λ v. SameComponent new (where_then old m p.tet) (where_then old m v)) c.to (step_then old m new h (record { tet = p.tet; face = f }) c.g c.glued)))

-- each new tetrahedron is joined to one for an old tetrahedron
from_old : (old : List Row) (m : Move) (new : List Row) → IsStep old m new → (u : ℕ) → IsKeptNumber old m u ⊎ IsNewNumber old m u → (t : ℕ) × (t < length old) × SameComponent new u (where_then old m t)
from_old old m new h u (inl k) = (k.tet, k.in_range, same_place new u (where_then old m k.tet) (sym k.is ∙ sym (then_kept old m k.tet k.stays)))
from_old old m new h u (inr n) =
    let taken : has (old_tets old m) m.tet ≡ true = has_tet (facet old m) (old_labels m) 4 (own_facet m) (old_label (length m.core) 4 (core_size m.core h.core).1 (let limited = (core_size m.core h.core).1 in omega arith) (omega arith)) (facet-four old m) in
    (m.tet, h.fine.in_range, go_on new u (kept old m) (where_then old m m.tet) (go_on new u (kept old m + n.label) (kept old m) (same_place new u (kept old m + n.label) (sym n.is)) (new_joined old m new h n.label n.small)) (same_place new (kept old m) (where_then old m m.tet) (sym (then_taken old m m.tet taken))))

pub moves_keep_connected_lem : MovesKeepConnected
moves_keep_connected_lem old m new p connected t u lt lu =
    let h : IsStep old m new = record { table = p.table; core = p.moved.core; fine = no_fault old m p.moved.legal; moved = p.moved; new_table = played_table old m new p } in
    let long = p.moved.length_is in
    let a = from_old old m new h t (number_cases old m h.table h.fine h.core t (omega (arith, long))) in
    let b = from_old old m new h u (number_cases old m h.table h.fine h.core u (omega (arith, long))) in
    go_on new t (where_then old m a.0) u a.2 (go_on new (where_then old m a.0) (where_then old m b.0) u (chain_then old m new h a.0 b.0 (connected a.0 b.0 a.1 b.1)) (joins_back new u (where_then old m b.0) h.new_table b.2))

pub ways_keep_connected_lem : WaysKeepConnected
ways_keep_connected_lem rows [] last table e connected = subst (λ (t : List Row). IsConnected t) e connected
ways_keep_connected_lem rows (m ∷ ms) last table (next, first, rest) connected = ways_keep_connected_lem next ms last (played_table rows m next first) rest (moves_keep_connected_lem rows m next first connected)

pub descent_answers_exist_lem : DescentAnswersExist
descent_answers_exist_lem rows table = elim (connected_or_unreached_lem rows table) [
  | inl c ↦ (let d = descents_exist_lem rows table in (Ok d.0, (c, d.1)))
  | inr u ↦ (Err u.0, u.1)
]

pub descent_answers_agree_lem : DescentAnswersAgree
descent_answers_agree_lem rows (Ok d) (Ok d') table (c, h) (c', h') = ap (λ (z : Descended). Ok z) (one_descent_lem rows d d' table h h')
descent_answers_agree_lem rows (Ok d) (Err t) table (c, h) u = absurd (connected_or_not rows t c u)
descent_answers_agree_lem rows (Err t) (Ok d) table u (c, h) = absurd (connected_or_not rows t c u)
descent_answers_agree_lem rows (Err t) (Err t') table u u' = ap (λ z. Err z) (one_unreached rows t t' u u')
