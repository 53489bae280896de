-- The exchange of a legal move can be made: its old facets can be removed, and the new ones added.
use Rattle.std.proofs.Common.{◌≡◌, ℕ, ◌+◌, ◌-◌, ◌<◌, ◌≤◌, true, false, List, length, get_or, Some, refl, sym, ap, ◌∙◌, subst, arith, inl, inr}
use Rattle.std.specs.Prelude.{◌⊎◌, ◌≢◌, not, option_map, option_and_then, All}
use Rattle.std.specs.List.{range_with_len}
use Rattle.std.specs.List.Sorted.{IsStrictlyIncreasing}
use Rattle.std.proofs.lemmas.List.{length-map}
use Rattle.std.proofs.lemmas.List.Elements.{All-map}
use Rattle.std.proofs.lemmas.List.FromFn.{length-range_with_len, get_or-range_with_len}
use Rattle.std.proofs.lemmas.List.Kept.{AllPairs-from_increasing}
use Rattle.table_definitions.specs.Lists.{has, rank_without}
use Rattle.table_definitions.specs.Permutation.{image, IsPermutationOfFour}
use Rattle.table_definitions.specs.Table.{max_tets, Gluing, Row, Face, glue, other_side, inverse_gluing, same_face, IsTable}
use Rattle.table_definitions.specs.Replacing.{replaced_length, number_of_kept, free_numbers}
use Rattle.table_definitions.specs.Relabelling.{face_under, gluing_under}
use Rattle.table_definitions.proofs.Permutations.{identity_permutes, image-identity, image_below}
use Rattle.table_definitions.proofs.InPlace.{in_place-same}
use Rattle.table_definitions.proofs.Faces.{there_and_back}
use Rattle.table_definitions.specs.Replaceable.{fresh_numbers, fresh_glue, IsFreed, CanReplace}
use Rattle.table_definitions.proofs.Ranks.{rank, stays, closed_up-rank, at_rank, rank_all}
use Rattle.table_definitions.proofs.Carried.{not_from, same_from, same_to}
use Rattle.move_definitions.specs.Moves.{Move, Facet, vertex_of, opposite, kept, new_length, new_facet, label_by_label, place_after, moved_gluing, facet_gluing, old_tets}
use Rattle.move_definitions.specs.Undos.{taken_numbers}
use Rattle.move_laws.specs.Facets.{IsOldFacet, fresh_gluing, put_row, put_rows, exchange}
use Rattle.move_laws.proofs.LabelLaws.{by_permutes, by_back, vertex_by}
use Rattle.move_laws.proofs.FacetLaws.{new_is_facet, core_few}
use Rattle.move_laws.proofs.LegalLaws.{IsLegal, same_facet, label_in}
use Rattle.move_laws.proofs.NumberLaws.{range-up, range-within, picked-up, picked-within}
use Rattle.move_laws.proofs.ListedLaws.{tet_of_old, taken-has}
use Rattle.move_laws.proofs.StandLaws.{side_under, way_under, under_permutes, closes, closed-separate, StandsKept, StandsPut, occurs, vertex_small, stand_put, put_permutes, put_face}
use Rattle.move_laws.proofs.PutLaws.{put-numbers, put-length, is-put, put-is, not-put, glue-inner, glue-outer, LeadsIn, LeadsOut, leads, Leads}

-- the new number of a tetrahedron that is retained
pub number-kept : (rows : List Row) (m : Move) (t : ℕ) → IsLegal rows m → t < length rows → has (old_tets rows m) t ≡ false → number_of_kept rows (exchange rows m) t ≡ rank_without (old_tets rows m) t
number-kept rows m t legal l free =
    let c = closes rows m t legal l free in
    let r = c.rank_is in
    let fewer = c.fewer in
    let u : ℕ = rank_without (old_tets rows m) t in
    let up = AllPairs-from_increasing (taken_numbers rows m) (picked-up (has (old_tets rows m)) (length rows)) in
    let place : rank_without (taken_numbers rows m) t ≡ rank (stays (fresh_numbers (exchange rows m))) u =
    closed_up-rank (taken_numbers rows m) t up ∙ r ∙ sym (rank_all (stays (fresh_numbers (exchange rows m))) u (λ v q. ap not (not-put rows m v (omega arith)))) in
    let n = put-length rows m legal in
    ap (λ i. get_or (free_numbers rows (exchange rows m)) i 0) place
    ∙ (at_rank (stays (fresh_numbers (exchange rows m))) (replaced_length rows (exchange rows m)) u (omega arith) (ap not (not-put rows m u (omega arith)))).is

-- glued faces of new facets that replace faces of old facets

record Outer (rows : List Row) (m : Move) (x : Face) (g : Gluing) : Type 0 where
  i : ℕ
  j : ℕ
  f : Facet
  before : Gluing
  there : Gluing
  old : IsOldFacet rows m i f
  own : j < length m.core
  at : x ≡ face_under (facet_gluing rows m f j) (opposite f j)
  is : g ≡ gluing_under (facet_gluing rows m f j) there before
  glued : glue rows (opposite f j) ≡ Some before
  occurs : place_after rows m (other_side (opposite f j) before) ≡ Some there
  small : vertex_of f j < 4
  permutes : IsPermutationOfFour before.perm
  here_permutes : IsPermutationOfFour (facet_gluing rows m f j).perm
  there_permutes : IsPermutationOfFour there.perm
  there_small : (other_side (opposite f j) before).face < 4
  there_in_range : before.tet < length rows
  side : other_side x g ≡ face_under there (other_side (opposite f j) before)
  back : inverse_gluing x g ≡ gluing_under there (facet_gluing rows m f j) (inverse_gluing (opposite f j) before)

there_is : (rows : List Row) (m : Move) (y : Face) (r : Gluing) → IsLegal rows m → StandsKept rows m y r ⊎ StandsPut rows m y r → IsPermutationOfFour r.perm
there_is rows m y r legal (inl k) = subst (λ (s : Gluing). IsPermutationOfFour s.perm) (sym k.is) identity_permutes
there_is rows m y r legal (inr p) = subst (λ (s : Gluing). IsPermutationOfFour s.perm) (sym p.is) (put_permutes rows m p.i p.j p.f legal p.old p.new)

outer : (rows : List Row) (m : Move) (x : Face) (g : Gluing) → IsLegal rows m → LeadsOut rows m x g → Outer rows m x g
outer rows m x g legal o =
    let s : Gluing = facet_gluing rows m o.f o.j in
    let a : Face = opposite o.f o.j in
    let small = vertex_small rows m o.i o.j o.f legal o.old o.own in
    let h = legal.table.permutes a o.before o.glued in
    let hs = put_permutes rows m o.i o.j o.f legal o.old o.own in
    let there_small = image_below o.before.perm h a.face small in
    let hr = there_is rows m (other_side a o.before) o.there legal (occurs rows m (other_side a o.before) o.there legal there_small o.occurs) in
    let at : x ≡ face_under s a = o.at ∙ sym (put_face rows m o.i o.j o.f legal o.old o.own) in
    record {
      i = o.i;
      j = o.j;
      f = o.f;
      before = o.before;
      there = o.there;
      old = o.old;
      own = o.own;
      at = at;
      is = o.is;
      glued = o.glued;
      occurs = o.occurs;
      small = small;
      permutes = h;
      here_permutes = hs;
      there_permutes = hr;
      there_small = there_small;
      there_in_range = legal.table.in_range a o.before o.glued;
      side = ap (λ (y : Face). other_side y g) at ∙ ap (other_side (face_under s a)) o.is ∙ side_under s o.there o.before a hs hr h small;
      back = ap (λ (y : Face). inverse_gluing y g) at ∙ ap (inverse_gluing (face_under s a)) o.is ∙ way_under s o.there o.before a hs hr h;
    }

-- such a face is glued to a retained tetrahedron, or to a face that replaces one of an old facet
outer_stands : (rows : List Row) (m : Move) (x : Face) (g : Gluing) → IsLegal rows m → (o : Outer rows m x g) → StandsKept rows m (other_side (opposite o.f o.j) o.before) o.there ⊎ StandsPut rows m (other_side (opposite o.f o.j) o.before) o.there
outer_stands rows m x g legal o = occurs rows m (other_side (opposite o.f o.j) o.before) o.there legal o.there_small o.occurs

tet_of : (g h : Gluing) → g ≡ h → g.tet ≡ h.tet
tet_of g h e = ap (λ (k : Gluing). k.tet) e

-- the tetrahedron of a face of a new facet
own_tet : (rows : List Row) (m : Move) (x : Face) (g : Gluing) (o : Outer rows m x g) → x.tet ≡ kept rows m + o.j
own_tet rows m x g o = ap (λ (y : Face). y.tet) o.at

kept_tet : (rows : List Row) (m : Move) (x : Face) (g : Gluing) → IsLegal rows m → (o : Outer rows m x g) → StandsKept rows m (other_side (opposite o.f o.j) o.before) o.there → (g.tet ≡ rank_without (old_tets rows m) o.before.tet) × (rank_without (old_tets rows m) o.before.tet < kept rows m)
kept_tet rows m x g legal o k = (tet_of g _ o.is ∙ tet_of o.there _ k.is, (closes rows m o.before.tet legal o.there_in_range k.free).fewer)

put_tet : (rows : List Row) (m : Move) (x : Face) (g : Gluing) → (o : Outer rows m x g) → (p : StandsPut rows m (other_side (opposite o.f o.j) o.before) o.there) → g.tet ≡ kept rows m + p.j
put_tet rows m x g o p = tet_of g _ o.is ∙ tet_of o.there _ p.is

-- the face on the other side replaces one of an old facet
put_side : (rows : List Row) (m : Move) (x : Face) (g : Gluing) → IsLegal rows m → (o : Outer rows m x g) → (p : StandsPut rows m (other_side (opposite o.f o.j) o.before) o.there) → other_side x g ≡ opposite (new_facet rows m p.j) p.i
put_side rows m x g legal o p = o.side ∙ ap (face_under o.there) p.at ∙ ap (λ (s : Gluing). face_under s (opposite p.f p.j)) p.is ∙ put_face rows m p.i p.j p.f legal p.old p.new

-- the other side of a gluing between new facets
in_side : (rows : List Row) (m : Move) (x : Face) (g : Gluing) → IsLegal rows m → (i : LeadsIn rows m x g) → other_side x g ≡ opposite (new_facet rows m i.l) i.j
in_side rows m x g legal i =
    let limited = core_few m.core legal.core in
    let own = i.own in
    let new = i.new in
    let N = new_is_facet rows m i.j (omega arith) in
    let at : image (label_by_label (new_facet rows m i.j) (new_facet rows m i.l)) (vertex_of (new_facet rows m i.j) i.l) ≡ vertex_of (new_facet rows m i.l) i.j =
    vertex_by (new_facet rows m i.j) (new_facet rows m i.l) i.l N (omega arith) i.other ∙ ap (vertex_of (new_facet rows m i.l)) (in_place-same i.l i.j i.l refl) in
    ap (λ (y : Face). other_side y g) i.at ∙ ap (other_side (opposite (new_facet rows m i.j) i.l)) i.is ∙ ap (λ v. record { tet = (new_facet rows m i.l).tet; face = v }) at

in_permutes : (rows : List Row) (m : Move) (j l : ℕ) → IsLegal rows m → j < length m.core → l < length m.core → l ≢ j → IsPermutationOfFour (label_by_label (new_facet rows m j) (new_facet rows m l))
in_permutes rows m j l legal own new other =
    let limited = core_few m.core legal.core in
    by_permutes (new_facet rows m j) (new_facet rows m l) (new_is_facet rows m j (omega arith)) (new_is_facet rows m l (omega arith)) (λ e. other (sym e))

-- the conditions of an exchange, one by one

put_gluing_permutes : (rows : List Row) (m : Move) (x : Face) (g : Gluing) → IsLegal rows m → Leads rows m x g → IsPermutationOfFour g.perm
put_gluing_permutes rows m x g legal (inl i) = subst (λ (h : Gluing). IsPermutationOfFour h.perm) (sym i.is) (in_permutes rows m i.j i.l legal i.own i.new i.other)
put_gluing_permutes rows m x g legal (inr l) =
    let o = outer rows m x g legal l in
    subst (λ (h : Gluing). IsPermutationOfFour h.perm) (sym o.is) (under_permutes (facet_gluing rows m o.f o.j) o.there o.before o.here_permutes o.there_permutes o.permutes)

put_in_range : (rows : List Row) (m : Move) (x : Face) (g : Gluing) → IsLegal rows m → Leads rows m x g → g.tet < replaced_length rows (exchange rows m)
put_in_range rows m x g legal (inl i) = let t : g.tet ≡ kept rows m + i.l = tet_of g _ i.is in let n = put-length rows m legal in let b = i.new in omega arith
put_in_range rows m x g legal (inr l) = by_stand (outer_stands rows m x g legal o)
  where
    o : Outer rows m x g
    o = outer rows m x g legal l

    by_stand : StandsKept rows m (other_side (opposite o.f o.j) o.before) o.there ⊎ StandsPut rows m (other_side (opposite o.f o.j) o.before) o.there → g.tet < replaced_length rows (exchange rows m)
    by_stand (inl k) = let t = kept_tet rows m x g legal o k in let t0 = t.0 in let t1 = t.1 in let n = put-length rows m legal in omega arith
    by_stand (inr p) = let t = put_tet rows m x g o p in let n = put-length rows m legal in let b = p.new in omega arith

pub face_tet : (x y : Face) → x ≡ y → x.tet ≡ y.tet
face_tet x y e = ap (λ (z : Face). z.tet) e

face_vertex : (x y : Face) → x ≡ y → x.face ≡ y.face
face_vertex x y e = ap (λ (z : Face). z.face) e

-- faces of new facets are equal only if their labels are
same_new : (rows : List Row) (m : Move) (i j k l : ℕ) → j < 5 → i < 5 → k < 5 → i ≢ j → k ≢ l → opposite (new_facet rows m j) i ≡ opposite (new_facet rows m l) k → (j ≡ l) × (i ≡ k)
same_new rows m i j k l bj bi bk ij kl e =
    let t : kept rows m + j ≡ kept rows m + l = face_tet (opposite (new_facet rows m j) i) (opposite (new_facet rows m l) k) e in
    let s : j ≡ l = omega arith in
    let N = new_is_facet rows m j bj in
    let v : vertex_of (new_facet rows m j) i ≡ vertex_of (new_facet rows m j) k =
    face_vertex (opposite (new_facet rows m j) i) (opposite (new_facet rows m l) k) e ∙ ap (λ n. vertex_of (new_facet rows m n) k) (sym s) in
    (s, sym (N.label_back i bi ij) ∙ ap (image (new_facet rows m j).labels) v ∙ N.label_back k bk (λ q. kl (q ∙ s)))

not_old : (rows : List Row) (m : Move) (i j : ℕ) (f : Facet) → IsOldFacet rows m i f → j < length m.core → i ≢ j
not_old rows m i j f F l e = let low = F.old_label in absurd (omega arith)

put_apart : (rows : List Row) (m : Move) (x : Face) (g : Gluing) → IsLegal rows m → Leads rows m x g → other_side x g ≡ x → ⊥
put_apart rows m x g legal (inl i) e =
    let a : g.tet ≡ kept rows m + i.l = tet_of g _ i.is in
    let b : x.tet ≡ kept rows m + i.j = face_tet x _ i.at in
    let c : g.tet ≡ x.tet = face_tet (other_side x g) x e in
    let s : i.l ≡ i.j = omega arith in
    i.other s
put_apart rows m x g legal (inr l) e = by_stand (outer_stands rows m x g legal o)
  where
    o : Outer rows m x g
    o = outer rows m x g legal l

    limited : length m.core < 5
    limited = core_few m.core legal.core

    by_stand : StandsKept rows m (other_side (opposite o.f o.j) o.before) o.there ⊎ StandsPut rows m (other_side (opposite o.f o.j) o.before) o.there → ⊥
    by_stand (inl k) =
        let t = kept_tet rows m x g legal o k in
        let t0 = t.0 in
        let t1 = t.1 in
        let b = own_tet rows m x g o in
        let c : g.tet ≡ x.tet = face_tet (other_side x g) x e in
        absurd (omega arith)
    by_stand (inr p) =
        let at : x ≡ opposite (new_facet rows m o.j) o.i = o.at ∙ put_face rows m o.i o.j o.f legal o.old o.own in
        let both : opposite (new_facet rows m p.j) p.i ≡ opposite (new_facet rows m o.j) o.i = sym (put_side rows m x g legal o p) ∙ e ∙ at in
        let pn = p.new in
        let s = same_new rows m p.i p.j o.i o.j (let q = limited in omega arith) (label_in rows m p.i p.f p.old) (label_in rows m o.i o.f o.old) (not_old rows m p.i p.j p.f p.old p.new) (not_old rows m o.i o.j o.f o.old o.own) both in
        let f : p.f ≡ o.f = same_facet rows m o.i p.f o.f (subst (λ n. IsOldFacet rows m n p.f) s.1 p.old) o.old in
        let itself : other_side (opposite o.f o.j) o.before ≡ opposite o.f o.j = p.at ∙ ap (λ (h : Facet). opposite h p.j) f ∙ ap (opposite o.f) s.0 in
        let never = legal.table.separate (opposite o.f o.j) o.before o.glued in
        let z : false ≡ true = ap not (sym (same_refl (other_side (opposite o.f o.j) o.before) (opposite o.f o.j) itself)) ∙ never in
        absurd cc
      where
        same_refl : (a b : Face) → a ≡ b → same_face a b ≡ true
        same_refl a b q = same_to a.tet b.tet a.face b.face (face_tet a b q) (face_vertex a b q)

-- gluings between new facets have their inverses
back_in : (rows : List Row) (m : Move) (x : Face) (g : Gluing) → IsLegal rows m → Leads rows m x g → has (fresh_numbers (exchange rows m)) g.tet ≡ true → fresh_glue (exchange rows m) (other_side x g) ≡ Some (inverse_gluing x g)
back_in rows m x g legal (inl i) h =
    let limited = core_few m.core legal.core in
    let own = i.own in
    let new = i.new in
    let way : inverse_gluing x g ≡ facet_gluing rows m (new_facet rows m i.l) i.j =
    ap (λ (y : Face). inverse_gluing y g) i.at ∙ ap (inverse_gluing (opposite (new_facet rows m i.j) i.l)) i.is
    ∙ ap (λ (p : List ℕ). record { tet = kept rows m + i.j; perm = p }) (by_back (new_facet rows m i.j) (new_facet rows m i.l) (new_is_facet rows m i.j (omega arith)) (new_is_facet rows m i.l (omega arith)) (λ e. i.other (sym e))) in
    ap (fresh_glue (exchange rows m)) (in_side rows m x g legal i) ∙ glue-inner rows m i.l i.j legal i.new i.own (λ e. i.other (sym e)) ∙ ap (λ (k : Gluing). Some k) (sym way)
back_in rows m x g legal (inr l) h = by_stand (outer_stands rows m x g legal o)
  where
    o : Outer rows m x g
    o = outer rows m x g legal l

    by_stand : StandsKept rows m (other_side (opposite o.f o.j) o.before) o.there ⊎ StandsPut rows m (other_side (opposite o.f o.j) o.before) o.there → fresh_glue (exchange rows m) (other_side x g) ≡ Some (inverse_gluing x g)
    by_stand (inl k) =
        let t = kept_tet rows m x g legal o k in
        let t0 = t.0 in
        let t1 = t.1 in
        let r = put-is rows m g.tet h in
        let r0 = r.0 in
        absurd (omega arith)
    by_stand (inr p) =
        let a : Face = opposite o.f o.j in
        let s : Gluing = facet_gluing rows m o.f o.j in
        let r : Gluing = facet_gluing rows m p.f p.j in
        let back : glue rows (opposite p.f p.j) ≡ Some (inverse_gluing a o.before) = ap (glue rows) (sym p.at) ∙ legal.table.leads_back a o.before o.glued in
        let home : other_side (opposite p.f p.j) (inverse_gluing a o.before) ≡ a = ap (λ (y : Face). other_side y (inverse_gluing a o.before)) (sym p.at) ∙ there_and_back a o.before o.permutes o.small in
        let carried : moved_gluing rows m (opposite p.f p.j) r (inverse_gluing a o.before) ≡ Some (gluing_under r s (inverse_gluing a o.before)) =
        ap (λ (y : Face). option_map (λ t. gluing_under r t (inverse_gluing a o.before)) (place_after rows m y)) home ∙ ap (option_map (λ t. gluing_under r t (inverse_gluing a o.before))) (stand_put rows m o.i o.j o.f legal o.old o.own) in
        let way : inverse_gluing x g ≡ gluing_under r s (inverse_gluing a o.before) = o.back ∙ ap (λ (t : Gluing). gluing_under t s (inverse_gluing a o.before)) p.is in
        ap (fresh_glue (exchange rows m)) (put_side rows m x g legal o p) ∙ glue-outer rows m p.i p.j p.f legal p.old p.new ∙ ap (option_and_then (moved_gluing rows m (opposite p.f p.j) r)) back ∙ carried
        ∙ ap (λ (k : Gluing). Some k) (sym way)

-- a gluing of a new facet to a retained tetrahedron
not_in : (rows : List Row) (m : Move) (x : Face) (g : Gluing) → IsLegal rows m → Leads rows m x g → has (fresh_numbers (exchange rows m)) g.tet ≡ false
    → (o : Outer rows m x g) × StandsKept rows m (other_side (opposite o.f o.j) o.before) o.there
not_in rows m x g legal (inl i) h =
    let t : g.tet ≡ kept rows m + i.l = tet_of g _ i.is in
    let b = i.new in
    let z : false ≡ true = sym h ∙ is-put rows m g.tet (omega arith) (omega arith) in
    absurd cc
not_in rows m x g legal (inr l) h = by_stand (outer_stands rows m x g legal o)
  where
    o : Outer rows m x g
    o = outer rows m x g legal l

    by_stand : StandsKept rows m (other_side (opposite o.f o.j) o.before) o.there ⊎ StandsPut rows m (other_side (opposite o.f o.j) o.before) o.there → (o : Outer rows m x g) × StandsKept rows m (other_side (opposite o.f o.j) o.before) o.there
    by_stand (inl k) = (o, k)
    by_stand (inr p) =
        let t = put_tet rows m x g o p in
        let b = p.new in
        let z : false ≡ true = sym h ∙ is-put rows m g.tet (omega arith) (omega arith) in
        absurd cc

kept_side : (rows : List Row) (m : Move) (x : Face) (g : Gluing) (o : Outer rows m x g) → StandsKept rows m (other_side (opposite o.f o.j) o.before) o.there
    → other_side x g ≡ record { tet = rank_without (old_tets rows m) o.before.tet; face = (other_side (opposite o.f o.j) o.before).face }
kept_side rows m x g o k =
    o.side ∙ ap (λ (s : Gluing). face_under s (other_side (opposite o.f o.j) o.before)) k.is
    ∙ ap (λ v. record { tet = rank_without (old_tets rows m) o.before.tet; face = v }) (image-identity (other_side (opposite o.f o.j) o.before).face o.there_small)

freed_by : (rows : List Row) (m : Move) (x : Face) (g : Gluing) → IsLegal rows m → Leads rows m x g → has (fresh_numbers (exchange rows m)) g.tet ≡ false → IsFreed rows (exchange rows m) (other_side x g)
freed_by rows m x g legal kind h =
    let p = not_in rows m x g legal kind h in
    let o : Outer rows m x g = p.0 in
    let k = p.1 in
    let a : Face = opposite o.f o.j in
    let y : Face = other_side a o.before in
    let at : other_side x g ≡ record { tet = rank_without (old_tets rows m) o.before.tet; face = y.face } = kept_side rows m x g o k in
    let inside = o.old.in_range in
    record {
      old = o.before.tet;
      gluing = inverse_gluing a o.before;
      in_range = o.there_in_range;
      is_kept = taken-has rows m o.before.tet o.there_in_range ∙ k.free;
      number = number-kept rows m o.before.tet legal o.there_in_range k.free ∙ sym (face_tet (other_side x g) _ at);
      glued = ap (λ v. glue rows (record { tet = o.before.tet; face = v })) (face_vertex (other_side x g) _ at) ∙ legal.table.leads_back a o.before o.glued;
      led_to_removed = taken-has rows m o.f.tet inside ∙ tet_of_old rows m o.i o.f legal o.old;
    }

-- two faces of a table that are glued to one face are equal
pub one_face : (rows : List Row) → IsTable rows → (a b : Face) (g h : Gluing) → glue rows a ≡ Some g → glue rows b ≡ Some h → a.face < 4 → b.face < 4 → other_side a g ≡ other_side b h → a ≡ b
one_face rows table a b g h ga gb la lb e =
    let back : Some (inverse_gluing a g) ≡ Some (inverse_gluing b h) = sym (table.leads_back a g ga) ∙ ap (glue rows) e ∙ table.leads_back b h gb in
    let way : inverse_gluing a g ≡ inverse_gluing b h = cc in
    sym (there_and_back a g (table.permutes a g ga) la) ∙ ap (λ (y : Face). other_side y (inverse_gluing a g)) e ∙ ap (other_side (other_side b h)) way ∙ there_and_back b h (table.permutes b h gb) lb

one_by : (rows : List Row) (m : Move) (x z : Face) (g h : Gluing) → IsLegal rows m → Leads rows m x g → Leads rows m z h → has (fresh_numbers (exchange rows m)) g.tet ≡ false → other_side x g ≡ other_side z h → x ≡ z
one_by rows m x z g h legal kx kz kept_x e =
    let limited = core_few m.core legal.core in
    let kept_z : has (fresh_numbers (exchange rows m)) h.tet ≡ false = ap (has (fresh_numbers (exchange rows m))) (sym (face_tet (other_side x g) (other_side z h) e)) ∙ kept_x in
    let p = not_in rows m x g legal kx kept_x in
    let q = not_in rows m z h legal kz kept_z in
    let o : Outer rows m x g = p.0 in
    let u : Outer rows m z h = q.0 in
    let a : Face = opposite o.f o.j in
    let b : Face = opposite u.f u.j in
    let mk : ℕ → ℕ → Face = λ t v. record { tet = t; face = v } in
    let both : mk (rank_without (old_tets rows m) o.before.tet) (other_side a o.before).face ≡ mk (rank_without (old_tets rows m) u.before.tet) (other_side b u.before).face = sym (kept_side rows m x g o p.1) ∙ e ∙ kept_side rows m z h u q.1 in
    let t : o.before.tet ≡ u.before.tet = closed-separate rows m o.before.tet u.before.tet legal o.there_in_range u.there_in_range p.1.free q.1.free (face_tet _ _ both) in
    let sides : other_side a o.before ≡ other_side b u.before = ap (λ n. mk n (other_side a o.before).face) t ∙ ap (mk u.before.tet) (face_vertex _ _ both) in
    let faces : a ≡ b = one_face rows legal.table a b o.before u.before o.glued u.glued o.small u.small sides in
    let i : o.i ≡ u.i = legal.separate o.i u.i o.f u.f o.old u.old (face_tet a b faces) in
    let f : o.f ≡ u.f = same_facet rows m u.i o.f u.f (subst (λ n. IsOldFacet rows m n o.f) i o.old) u.old in
    let jo = o.own in
    let ju = u.own in
    let v : vertex_of u.f o.j ≡ vertex_of u.f u.j = ap (λ (k : Facet). vertex_of k o.j) (sym f) ∙ face_vertex a b faces in
    let um = u.old.missing_is in
    let ul = u.old.old_label in
    let j : o.j ≡ u.j = sym (u.old.labelled.label_back o.j (omega arith) (λ s. absurd (omega arith))) ∙ ap (image u.f.labels) v ∙ u.old.labelled.label_back u.j (omega arith) (λ s. absurd (omega arith)) in
    o.at ∙ ap (λ (k : Facet). face_under (facet_gluing rows m k o.j) (opposite k o.j)) f ∙ ap (λ n. face_under (facet_gluing rows m u.f n) (opposite u.f n)) j ∙ sym u.at

pub can_exchange : (rows : List Row) (m : Move) → IsLegal rows m → new_length rows m ≤ max_tets → CanReplace rows (exchange rows m)
can_exchange rows m legal fits = record {
  removed_ascend = picked-up (has (old_tets rows m)) (length rows);
  removed_in_range = picked-within (has (old_tets rows m)) (length rows) (length rows) (omega arith);
  fresh_ascend = subst (λ (ns : List ℕ). IsStrictlyIncreasing ns) (sym (put-numbers rows m)) (range-up (kept rows m) (length m.core));
  fresh_in_range = subst (λ (ns : List ℕ). All (λ u. u < replaced_length rows (exchange rows m)) ns) (sym (put-numbers rows m))
      (range-within (kept rows m) (length m.core) (replaced_length rows (exchange rows m)) (let n = put-length rows m legal in omega arith));
  limited = (let n = put-length rows m legal in omega arith);
  four_faces = four_long;
  permutes = λ x g e. put_gluing_permutes rows m x g legal (leads rows m x g legal e);
  in_range = λ x g e. put_in_range rows m x g legal (leads rows m x g legal e);
  separate = λ x g e. not_from (same_face (other_side x g) x) (λ s. put_apart rows m x g legal (leads rows m x g legal e) (same_true (other_side x g) x s));
  leads_back = λ x g e h. back_in rows m x g legal (leads rows m x g legal e) h;
  freed = λ x g e h. freed_by rows m x g legal (leads rows m x g legal e) h;
  one_each = λ x z g h e k free s. one_by rows m x z g h legal (leads rows m x g legal e) (leads rows m z h legal k) free s;
}
  where
    same_true : (a b : Face) → same_face a b ≡ true → a ≡ b
    same_true a b h =
        let p = same_from a.tet b.tet a.face b.face h in
        let mk : ℕ → ℕ → Face = λ t v. record { tet = t; face = v } in
        ap (λ t. mk t a.face) p.0 ∙ ap (mk b.tet) p.1

    four_long : All (λ (x : ℕ × Row). length x.1 ≡ 4) (put_rows rows m)
    four_long =
        All-map (λ (x : ℕ × Row). length x.1 ≡ 4) (λ u. (u, put_row rows m (u - kept rows m))) (range_with_len (kept rows m) (length m.core))
        (λ k d l. (let limited = core_few m.core legal.core in let b : k < length m.core = rw length-range_with_len at l in let at = get_or-range_with_len (kept rows m) (length m.core) k d b in long (get_or (range_with_len (kept rows m) (length m.core)) k d - kept rows m) (omega arith)))
      where
        long : (j : ℕ) → j < 5 → length (put_row rows m j) ≡ 4
        long j b = length-map (new_facet rows m j).labels (fresh_gluing rows m j) ∙ (new_is_facet rows m j b).four_labels
