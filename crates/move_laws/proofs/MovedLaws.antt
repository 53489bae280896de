-- The exchange of a legal move results in the table that the move defines.
use Rattle.std.proofs.Common.{◌≡◌, ℕ, ◌+◌, ◌<◌, ◌≤◌, Bool, true, false, cond, List, length, Option, Some, None, refl, sym, ap, ◌∙◌, subst, arith, inl, inr}
use Rattle.std.specs.Prelude.{◌⊎◌, nat_lt, option_map, option_and_then, All}
use Rattle.std.specs.Option.{option_or}
use Rattle.std.proofs.lemmas.Bool.{lt-ltb, le-ltb, cases_lt}
use Rattle.basic_lemmas.proofs.Options.{both_none}
use Rattle.table_definitions.specs.Lists.{has, rank_without}
use Rattle.table_definitions.specs.Permutation.{image, IsPermutationOfFour}
use Rattle.table_definitions.specs.Table.{max_tets, Gluing, Row, Face, glue, other_side, inverse_gluing, IsTable}
use Rattle.table_definitions.specs.Replacing.{Replacement, replaced, number_of_kept, kept_gluing, back_to_fresh}
use Rattle.table_definitions.specs.Relabelling.{face_under, gluing_under}
use Rattle.table_definitions.proofs.Permutations.{image_below, identity_permutes, image-identity}
use Rattle.table_definitions.proofs.TableLaws.{glued_tet}
use Rattle.table_definitions.proofs.Faces.{there_and_back, back_again}
use Rattle.table_definitions.specs.Replaceable.{fresh_numbers, fresh_glue, CanReplace}
use Rattle.table_definitions.proofs.Retained.{IsKeptAs, kept_as, length-replaced, glue-fresh, glue-kept}
use Rattle.table_definitions.proofs.FreshRows.{back_is}
use Rattle.table_definitions.proofs.Replaced.{replaced_is_table}
use Rattle.move_definitions.specs.declared.MoveFault.TheVariants.{TooMany}
use Rattle.move_definitions.specs.Moves.{Move, Facet, old_facets, old_tets, vertex_of, opposite, move_fault, IsCore, kept, new_length, new_facet, kept_place_after, place_after, moved_gluing, IsMoved, Plays, facet_gluing}
use Rattle.move_definitions.proofs.StandIns.{image_after-kept}
use Rattle.move_laws.specs.Facets.{IsOldFacet, AreOldFacets, CanPlay, put_rows, exchange}
use Rattle.move_laws.proofs.LegalLaws.{IsLegal, legal_from}
use Rattle.move_laws.proofs.ListedLaws.{old_of_tet, taken-has, are_old}
use Rattle.move_laws.proofs.NumberLaws.{picked-within}
use Rattle.move_definitions.specs.Undos.{taken_numbers}
use Rattle.move_laws.proofs.StandLaws.{side_under, way_under, under_kept, closes, StandsKept, StandsPut, occurs, stand_put, put_permutes, put_face, face_at, outer_label}
use Rattle.move_laws.proofs.PutLaws.{put-length, is-put, not-put, glue-inner, glue-outer}
use Rattle.move_laws.proofs.ExchangeLaws.{number-kept, can_exchange}

-- a table on which a move can be played
pub record CanMove (rows : List Row) (m : Move) : Type 0 where
  pub legal : IsLegal rows m
  pub fault : move_fault rows m ≡ None
  pub fits : new_length rows m ≤ max_tets

abbrev changed : List Row → Move → List Row
changed rows m = replaced rows (exchange rows m)

put_in : (rows : List Row) (m : Move) (j v : ℕ) → IsLegal rows m → j < length m.core → glue (changed rows m) (record { tet = kept rows m + j; face = v }) ≡ fresh_glue (exchange rows m) (record { tet = kept rows m + j; face = v })
put_in rows m j v legal l =
    let n = put-length rows m legal in
    glue-fresh rows (exchange rows m) (record { tet = kept rows m + j; face = v }) (omega arith) (is-put rows m (kept rows m + j) (omega arith) (omega arith))

-- the face, in the new table, of a tetrahedron that is retained
abbrev pub kept_place : List Row → Move → Face → Face
kept_place rows m x = record { tet = rank_without (old_tets rows m) x.tet; face = x.face }

pub kept_under : (rows : List Row) (m : Move) (x : Face) → x.face < 4 → face_under (kept_place_after rows m x.tet) x ≡ kept_place rows m x
kept_under rows m x l = ap (λ v. record { tet = rank_without (old_tets rows m) x.tet; face = v }) (image-identity x.face l)

to_old : (rows : List Row) (m : Move) (x : Face) (g : Gluing) (i j : ℕ) (f : Facet) → IsLegal rows m → CanReplace rows (exchange rows m) → x.face < 4 → has (old_tets rows m) x.tet ≡ false → glue rows x ≡ Some g
    → IsOldFacet rows m i f → j < length m.core → other_side x g ≡ opposite f j
    → back_to_fresh (exchange rows m) (kept_place rows m x) ≡ moved_gluing rows m x (kept_place_after rows m x.tet) g
to_old rows m x g i j f legal can l free glued F new at =
    let s : Gluing = kept_place_after rows m x.tet in
    let r : Gluing = facet_gluing rows m f j in
    let permutes = legal.table.permutes x g glued in
    let back : glue rows (opposite f j) ≡ Some (inverse_gluing x g) = ap (glue rows) (sym at) ∙ legal.table.leads_back x g glued in
    let home : other_side (opposite f j) (inverse_gluing x g) ≡ x = ap (λ (y : Face). other_side y (inverse_gluing x g)) (sym at) ∙ there_and_back x g permutes l in
    let hr = put_permutes rows m i j f legal F new in
    let small : (opposite f j).face < 4 = subst (λ (y : Face). y.face < 4) at (image_below g.perm permutes x.face l) in
    let back_permutes = legal.table.permutes (opposite f j) (inverse_gluing x g) back in
    let own : Face = opposite (new_facet rows m j) i in
    let carried : Gluing = gluing_under r s (inverse_gluing x g) in
    let represented : place_after rows m x ≡ Some s = image_after-kept rows m x free in
    let fresh : fresh_glue (exchange rows m) own ≡ Some carried =
    glue-outer rows m i j f legal F new ∙ ap (option_and_then (moved_gluing rows m (opposite f j) r)) back
    ∙ ap (λ (y : Face). option_map (λ t. gluing_under r t (inverse_gluing x g)) (place_after rows m y)) home ∙ ap (option_map (λ t. gluing_under r t (inverse_gluing x g))) represented in
    let place : own ≡ face_under r (opposite f j) = sym (put_face rows m i j f legal F new) in
    let side : other_side own carried ≡ kept_place rows m x =
    ap (λ (y : Face). other_side y carried) place ∙ side_under r s (inverse_gluing x g) (opposite f j) hr identity_permutes back_permutes small ∙ ap (face_under s) home ∙ kept_under rows m x l in
    let again : inverse_gluing (opposite f j) (inverse_gluing x g) ≡ g = ap (λ (y : Face). inverse_gluing y (inverse_gluing x g)) (sym at) ∙ back_again x g permutes in
    let way : inverse_gluing own carried ≡ gluing_under s r g =
    ap (λ (y : Face). inverse_gluing y carried) place ∙ way_under r s (inverse_gluing x g) (opposite f j) hr identity_permutes back_permutes ∙ ap (gluing_under s r) again in
    let fewer = (closes rows m x.tet legal (glued_tet rows x g glued) free).fewer in
    let to_kept : has (fresh_numbers (exchange rows m)) carried.tet ≡ false = not-put rows m (rank_without (old_tets rows m) x.tet) fewer in
    ap (back_to_fresh (exchange rows m)) (sym side) ∙ back_is rows (exchange rows m) can own carried fresh to_kept ∙ ap (λ (k : Gluing). Some k) way
    ∙ ap (option_map (λ t. gluing_under s t g)) (sym (stand_put rows m i j f legal F new)) ∙ ap (λ (y : Face). option_map (λ t. gluing_under s t g) (place_after rows m y)) (sym at)

kept_moved : (rows : List Row) (m : Move) (x : Face) (o : Option Gluing) → IsLegal rows m → CanReplace rows (exchange rows m) → x.tet < length rows → x.face < 4 → has (old_tets rows m) x.tet ≡ false → glue rows x ≡ o
    → kept_gluing rows (exchange rows m) (kept_place rows m x) o ≡ option_and_then (moved_gluing rows m x (kept_place_after rows m x.tet)) o
kept_moved rows m x None legal can lt l free e = refl
kept_moved rows m x (Some g) legal can lt l free e = by_test (has (old_tets rows m) g.tet) refl
  where
    s : Gluing
    s = kept_place_after rows m x.tet

    inside : g.tet < length rows
    inside = legal.table.in_range x g e

    permutes : IsPermutationOfFour g.perm
    permutes = legal.table.permutes x g e

    shown : (b : Bool) → has (old_tets rows m) g.tet ≡ b → kept_gluing rows (exchange rows m) (kept_place rows m x) (Some g)
        ≡ cond b (back_to_fresh (exchange rows m) (kept_place rows m x)) (Some (record { tet = number_of_kept rows (exchange rows m) g.tet; perm = g.perm }))
    shown b h = ap (λ c. cond c (back_to_fresh (exchange rows m) (kept_place rows m x)) (Some (record { tet = number_of_kept rows (exchange rows m) g.tet; perm = g.perm }))) (taken-has rows m g.tet inside ∙ h)

    by_test : (b : Bool) → has (old_tets rows m) g.tet ≡ b → kept_gluing rows (exchange rows m) (kept_place rows m x) (Some g) ≡ moved_gluing rows m x (kept_place_after rows m x.tet) g
    by_test true h =
        let q = old_of_tet rows m g.tet legal h in
        let i : ℕ = q.0 in
        let f : Facet = q.1 in
        let y : Face = other_side x g in
        let ly : y.face < 4 = image_below g.perm permutes x.face l in
        let new : image f.labels y.face < length m.core = outer_label rows m i f y (inverse_gluing x g) legal q.2 (sym q.3) ly (legal.table.leads_back x g e) free in
        shown true h ∙ to_old rows m x g i (image f.labels y.face) f legal can l free e q.2 new (face_at f y q.2.labelled (sym q.3) ly)
    by_test false h =
        let there : place_after rows m (other_side x g) ≡ Some (kept_place_after rows m g.tet) = image_after-kept rows m (other_side x g) h in
        shown false h ∙ ap (λ n. Some (record { tet = n; perm = g.perm })) (number-kept rows m g.tet legal inside h)
        ∙ ap (λ (k : Gluing). Some k) (sym (under_kept (rank_without (old_tets rows m) x.tet) (rank_without (old_tets rows m) g.tet) g permutes))
        ∙ ap (option_map (λ t. gluing_under (kept_place_after rows m x.tet) t g)) (sym there)

pub moves : (rows : List Row) (m : Move) → CanMove rows m → IsMoved rows m (replaced rows (exchange rows m))
moves rows m c = record {
  core = c.legal.core;
  legal = c.fault;
  length_is = length-replaced rows (exchange rows m) ∙ put-length rows m c.legal;
  four_faces = (replaced_is_table rows (exchange rows m) c.legal.table can).four_faces;
  inner = λ j l hj hl separate. put_in rows m j (vertex_of (new_facet rows m j) l) c.legal hj ∙ glue-inner rows m j l c.legal hj hl (λ e. separate (sym e));
  outer = λ x s lt l e. outer_at x s lt l (occurs rows m x s c.legal l e);
}
  where
    can : CanReplace rows (exchange rows m)
    can = can_exchange rows m c.legal c.fits

    outer_at : (x : Face) (s : Gluing) → x.tet < length rows → x.face < 4 → StandsKept rows m x s ⊎ StandsPut rows m x s
        → glue (changed rows m) (face_under s x) ≡ option_and_then (moved_gluing rows m x s) (glue rows x)
    outer_at x s lt l (inl k) =
        let kept : IsKeptAs rows (exchange rows m) x.tet (rank_without (old_tets rows m) x.tet) =
        subst (λ u. IsKeptAs rows (exchange rows m) x.tet u) (number-kept rows m x.tet c.legal lt k.free) (kept_as rows (exchange rows m) can x.tet lt (taken-has rows m x.tet lt ∙ k.free)) in
        ap (λ (t : Gluing). glue (changed rows m) (face_under t x)) k.is ∙ ap (glue (changed rows m)) (kept_under rows m x l)
        ∙ glue-kept rows (exchange rows m) x.tet (rank_without (old_tets rows m) x.tet) x.face kept l ∙ kept_moved rows m x (glue rows x) c.legal can lt l k.free refl
        ∙ ap (λ (t : Gluing). option_and_then (moved_gluing rows m x t) (glue rows x)) (sym k.is)
    outer_at x s lt l (inr p) =
        ap (λ (t : Gluing). glue (changed rows m) (face_under t x)) p.is ∙ ap (λ (y : Face). glue (changed rows m) (face_under (facet_gluing rows m p.f p.j) y)) p.at
        ∙ ap (glue (changed rows m)) (put_face rows m p.i p.j p.f c.legal p.old p.new) ∙ put_in rows m p.j (vertex_of (new_facet rows m p.j) p.i) c.legal p.new ∙ glue-outer rows m p.i p.j p.f c.legal p.old p.new
        ∙ ap (λ (y : Face). option_and_then (moved_gluing rows m y (facet_gluing rows m p.f p.j)) (glue rows y)) (sym p.at)
        ∙ ap (λ (t : Gluing). option_and_then (moved_gluing rows m x t) (glue rows x)) (sym p.is)

-- a move that can be played has no error
pub can_move : (rows : List Row) (m : Move) → CanPlay rows m → CanMove rows m
can_move rows m can =
    let b = both_none (move_fault rows m) (cond (nat_lt max_tets (new_length rows m)) (Some TooMany) None) can.playable in
    record { legal = legal_from rows m can.table can.core b.0; fault = b.0; fits = by_size (cases_lt max_tets (new_length rows m)) b.1 }
  where
    by_size : (max_tets < new_length rows m) ⊎ (new_length rows m ≤ max_tets) → cond (nat_lt max_tets (new_length rows m)) (Some TooMany) None ≡ None → new_length rows m ≤ max_tets
    by_size (inl l) e = let z : Some TooMany ≡ None = sym (ap (λ t. cond t (Some TooMany) None) (lt-ltb max_tets (new_length rows m) l)) ∙ e in absurd cc
    by_size (inr l) e = l

pub can_be_replaced : (rows : List Row) (m : Move) → CanPlay rows m → CanReplace rows (exchange rows m)
can_be_replaced rows m can = let c = can_move rows m can in can_exchange rows m c.legal c.fits

pub plays : (rows : List Row) (m : Move) → CanPlay rows m → Plays rows m (replaced rows (exchange rows m))
plays rows m can = record { table = can.table; moved = moves rows m (can_move rows m can); accepted = can.playable }

-- what the functions that play a move return is the table that the move defines

abbrev replacement : List ℕ → List (ℕ × Row) → Replacement
replacement removed fresh = record { removed = removed; fresh = fresh }

pub is_exchange : (rows : List Row) (m : Move) (removed : List ℕ) (fresh : List (ℕ × Row)) → removed ≡ taken_numbers rows m → fresh ≡ put_rows rows m → exchange rows m ≡ replacement removed fresh
is_exchange rows m removed fresh er ef = sym (ap (λ ns. replacement ns fresh) er ∙ ap (replacement (taken_numbers rows m)) ef)

pub can_replace_by : (rows : List Row) (m : Move) (removed : List ℕ) (fresh : List (ℕ × Row)) → CanPlay rows m → removed ≡ taken_numbers rows m → fresh ≡ put_rows rows m → CanReplace rows (record { removed = removed; fresh = fresh })
can_replace_by rows m removed fresh can er ef = subst (λ (r : Replacement). CanReplace rows r) (is_exchange rows m removed fresh er ef) (can_be_replaced rows m can)

pub plays_by : (rows : List Row) (m : Move) (removed : List ℕ) (fresh : List (ℕ × Row)) (new : List Row) → CanPlay rows m → removed ≡ taken_numbers rows m → fresh ≡ put_rows rows m
    → new ≡ replaced rows (record { removed = removed; fresh = fresh }) → Plays rows m new
plays_by rows m removed fresh new can er ef e =
    subst (λ (xs : List Row). Plays rows m xs) (ap (replaced rows) (is_exchange rows m removed fresh er ef) ∙ sym e) (plays rows m can)

pub taken_in : (rows : List Row) (m : Move) (removed : List ℕ) → removed ≡ taken_numbers rows m → All (λ t. t < length rows) removed
taken_in rows m removed e = subst (λ (ns : List ℕ). All (λ t. t < length rows) ns) (sym e) (picked-within (has (old_tets rows m)) (length rows) (length rows) (omega arith))

pub can_play : (rows : List Row) (m : Move) → IsTable rows → IsCore m.core → move_fault rows m ≡ None → new_length rows m ≤ max_tets → CanPlay rows m
can_play rows m table core none fits = record {
  table = table;
  core = core;
  playable = ap (λ o. option_or o (cond (nat_lt max_tets (new_length rows m)) (Some TooMany) None)) none ∙ ap (λ t. cond t (Some TooMany) None) (le-ltb max_tets (new_length rows m) fits);
}

pub are_old_by : (rows : List Row) (m : Move) (facets found : List Facet) → IsTable rows → IsCore m.core → move_fault rows m ≡ None → facets ≡ found → found ≡ old_facets rows m → AreOldFacets rows m facets
are_old_by rows m facets found table core none e are = are_old rows m facets (legal_from rows m table core none) (e ∙ are)
