-- Two traversals of a table from the same start result in the same relabelling and table.
use Rattle.std.proofs.Common.{◌≡◌, ℕ, zero, suc, ◌+◌, ◌*◌, ◌/◌, ◌%◌, ◌<◌, ◌≤◌, List, [], length, get_or, Option, Some, None, refl, sym, ap, ◌∙◌, subst, arith, ⊎_elim}
use Rattle.std.specs.Prelude.{option_map, slice_index}
use Rattle.std.specs.List.{slice_index_or}
use Rattle.std.proofs.lemmas.Bool.{cases_lt}
use Rattle.std.proofs.lemmas.List.{ext_get_or}
use Rattle.table_definitions.specs.Permutation.{IsPermutationOfFour, preimage, inverse, compose}
use Rattle.table_definitions.specs.Table.{Gluing, Row, Face, IsTable, glue}
use Rattle.table_definitions.specs.Relabelling.{Relabelling, IsRelabelling, Carries, relabelled_place, face_under, gluing_under}
use Rattle.table_definitions.proofs.Carried.{stands_for, image_in_range, perm_permutes, images_apart, RepresentsFacet}
use Rattle.table_definitions.proofs.Permutations.{preimage_below, image-preimage, inverse_permutes, compose_permutes}
use Rattle.signature_definitions.specs.Labellings.{Start, IsWalked}
use Rattle.table_definitions.proofs.Permutations.{taken_away}
use Rattle.table_definitions.specs.Places.{face_of}
use Rattle.signature_laws.proofs.Standing.{same_relabelling}
use Rattle.signature_laws.proofs.Seen.{SeenBelow, tet_below, seen_begun, at_boundary, to_seen, to_next}

-- a gluing and its image determine the image of the tetrahedron across it
pub one_behind : (s r r' g : Gluing) → IsPermutationOfFour s.perm → IsPermutationOfFour r.perm → IsPermutationOfFour r'.perm → IsPermutationOfFour g.perm → gluing_under s r g ≡ gluing_under s r' g → r ≡ r'
one_behind s r r' g hs hr hr' hg e =
    let a : List ℕ = compose g.perm (inverse s.perm) in
    let tet : r.tet ≡ r'.tet = ap (λ (k : Gluing). k.tet) e in
    let perm : r.perm ≡ r'.perm = taken_away r.perm r'.perm a hr hr' (compose_permutes g.perm (inverse s.perm) hg (inverse_permutes s.perm hs)) (ap (λ (k : Gluing). k.perm) e) in
    λ i. record { tet = tet i; perm = perm i }

-- a relabelling carries a table to only one table
pub one_table : (rows new other : List Row) (by : Relabelling) → IsRelabelling (length rows) by → Carries by rows new → Carries by rows other → new ≡ other
one_table rows new other by h c d = ext_get_or [] new other (c.same_length ∙ sym d.same_length) row
  where
    row : (v : ℕ) → v < length new → get_or new v [] ≡ get_or other v []
    row v l =
        let long = c.same_length in
        let long' = d.same_length in
        let m : v < length rows = omega (arith, long) in
        let m' : v < length other = omega (arith, long') in
        let a : length (get_or new v []) ≡ 4 = c.four_faces v [] l in
        let b : length (get_or other v []) ≡ 4 = d.four_faces v [] m' in
        ext_get_or None (get_or new v []) (get_or other v []) (a ∙ sym b) (λ f q. face v f m (omega (arith, a)))
      where
        face : (v f : ℕ) → v < length rows → f < 4 → get_or (get_or new v []) f None ≡ get_or (get_or other v []) f None
        face v f m q =
            let y : Face = record { tet = v; face = f } in
            let x : (x : Face) × RepresentsFacet rows new by y x = stands_for rows new by h c y m q in
            x.1.glued ∙ sym (d.glued x.0 x.1.tet x.1.face) ∙ ap (glue other) x.1.is

module _ (rows new other : List Row) (by others : Relabelling) (table : IsTable rows) (start : Start) (in_range : start.tet < length rows) (w : IsWalked rows start by new) (w' : IsWalked rows start others other) where
  abbrev n : ℕ
  n = length rows

  -- before the face at k is read, both traversals have seen the tetrahedra below s, with the same preimages
  record Agree (k s : ℕ) : Type 0 where
    first : SeenBelow new k s
    second : SeenBelow other k s
    both : (v : ℕ) → v < s → (t : ℕ) × (t < n) × (slice_index by.images t ≡ v) × (relabelled_place by t ≡ relabelled_place others t)

  begun : Agree 0 1
  begun = record {
    first = seen_begun new;
    second = seen_begun other;
    both = λ v l. (start.tet, in_range, ap (λ (g : Gluing). g.tet) w.begins ∙ omega arith, w.begins ∙ sym w'.begins);
  }

  inside : (k : ℕ) → k < 4 * n → k < 4 * length new
  inside k l = let e = w.relabels.1.same_length in omega (arith, e)

  inside' : (k : ℕ) → k < 4 * n → k < 4 * length other
  inside' k l = let e = w'.relabels.1.same_length in omega (arith, e)

  same_at : (t u : ℕ) → t < n → u < n → slice_index by.images t ≡ slice_index by.images u → relabelled_place by t ≡ relabelled_place others t → relabelled_place by u ≡ relabelled_place others u
  same_at t u l m e same = let one : t ≡ u = images_apart n by w.relabels.0 t u l m e in subst (λ v. relabelled_place by v ≡ relabelled_place others v) one same

  -- a face that is glued
  glued_on : (k s t : ℕ) (x : Face) (g : Gluing) → k < 4 * n → Agree k s → x.tet < n → glue rows x ≡ Some g → relabelled_place by x.tet ≡ relabelled_place others x.tet
      → glue new (face_of k) ≡ Some (gluing_under (relabelled_place by x.tet) (relabelled_place by g.tet) g) → glue other (face_of k) ≡ Some (gluing_under (relabelled_place others x.tet) (relabelled_place others g.tet) g) → (s' : ℕ) × Agree (k + 1) s'
  glued_on k s t x g l a m e same there there' = ⊎_elim old next (cases_lt (slice_index by.images g.tet) s)
    where
      behind : g.tet < n
      behind = table.in_range x g e

      old : slice_index by.images g.tet < s → (s' : ℕ) × Agree (k + 1) s'
      old b =
          let p = a.both (slice_index by.images g.tet) b in
          let one : relabelled_place by g.tet ≡ relabelled_place others g.tet = same_at p.0 g.tet p.1 behind p.2 p.3 in
          let images : slice_index by.images g.tet ≡ slice_index others.images g.tet = ap (λ (q : Gluing). q.tet) one in
          let b' : slice_index others.images g.tet < s = omega arith in (
            s,
            record {
              first = to_seen new k s (gluing_under (relabelled_place by x.tet) (relabelled_place by g.tet) g) (inside k l) a.first there b;
              second = to_seen other k s (gluing_under (relabelled_place others x.tet) (relabelled_place others g.tet) g) (inside' k l) a.second there' b';
              both = a.both;
            },
          )

      not_old : s ≤ slice_index by.images g.tet → slice_index others.images g.tet < s → ⊥
      not_old b b' =
          let p = a.both (slice_index others.images g.tet) b' in
          let images : slice_index by.images p.0 ≡ slice_index others.images p.0 = ap (λ (q : Gluing). q.tet) p.3 in
          let one : p.0 ≡ g.tet = images_apart n others w'.relabels.0 p.0 g.tet p.1 behind (sym images ∙ p.2) in
          let here : slice_index by.images g.tet ≡ slice_index others.images g.tet = ap (slice_index by.images) (sym one) ∙ p.2 in
          omega arith

      next : s ≤ slice_index by.images g.tet → (s' : ℕ) × Agree (k + 1) s'
      next b =
          let b' : s ≤ slice_index others.images g.tet = ⊎_elim (λ (c : slice_index others.images g.tet < s). absurd (not_old b c)) (λ (c : s ≤ slice_index others.images g.tet). c) (cases_lt (slice_index others.images g.tet) s) in
          let on = to_next new k s (gluing_under (relabelled_place by x.tet) (relabelled_place by g.tet) g) w.ordered (inside k l) a.first there b in
          let on' = to_next other k s (gluing_under (relabelled_place others x.tet) (relabelled_place others g.tet) g) w'.ordered (inside' k l) a.second there' b' in
          let tets : slice_index by.images g.tet ≡ slice_index others.images g.tet = on.next ∙ sym on'.next in
          let perms = on.identical ∙ sym on'.identical in
          let whole : gluing_under (relabelled_place by x.tet) (relabelled_place by g.tet) g ≡ gluing_under (relabelled_place others x.tet) (relabelled_place others g.tet) g = λ i. record { tet = tets i; perm = perms i } in
          let alike : gluing_under (relabelled_place by x.tet) (relabelled_place by g.tet) g ≡ gluing_under (relabelled_place by x.tet) (relabelled_place others g.tet) g = whole ∙ ap (λ (q : Gluing). gluing_under q (relabelled_place others g.tet) g) (sym same) in
          let one : relabelled_place by g.tet ≡ relabelled_place others g.tet =
          one_behind (relabelled_place by x.tet) (relabelled_place by g.tet) (relabelled_place others g.tet) g (perm_permutes n by w.relabels.0 x.tet m) (perm_permutes n by w.relabels.0 g.tet behind)
          (perm_permutes n others w'.relabels.0 g.tet behind) (table.permutes x g e) alike in
          (s + 1, record { first = on.seen; second = on'.seen; both = λ v c. at v c on.next one })
        where
          at : (v : ℕ) → v < s + 1 → slice_index by.images g.tet ≡ s → relabelled_place by g.tet ≡ relabelled_place others g.tet → (t : ℕ) × (t < n) × (slice_index by.images t ≡ v) × (relabelled_place by t ≡ relabelled_place others t)
          at v c is one = ⊎_elim (λ (d : v < s). a.both v d) (λ (d : s ≤ v). (g.tet, behind, is ∙ omega arith, one)) (cases_lt v s)

  -- a further face
  agree_on : (k s : ℕ) → k < 4 * n → Agree k s → (s' : ℕ) × Agree (k + 1) s'
  agree_on k s l a = at (a.both (k / 4) (tet_below new w.ordered (k / 4) k s (let e = w.relabels.1.same_length in omega (arith, e)) (omega arith) (let m = inside k l in omega (arith, m)) a.first))
    where
      at : (t : ℕ) × (t < n) × (slice_index by.images t ≡ k / 4) × (relabelled_place by t ≡ relabelled_place others t) → (s' : ℕ) × Agree (k + 1) s'
      at (t, m, e, same) = cases (glue rows x) refl
        where
          p : List ℕ
          p = slice_index_or by.perms t []

          hp : IsPermutationOfFour p
          hp = perm_permutes n by w.relabels.0 t m

          x : Face
          x = record { tet = t; face = preimage p (k % 4) }

          lf : preimage p (k % 4) < 4
          lf = preimage_below p hp (k % 4) (omega arith)

          is : face_under (relabelled_place by t) x ≡ face_of k
          is = let f = image-preimage p hp (k % 4) (omega arith) in λ i. record { tet = e i; face = f i }

          here : glue new (face_of k) ≡ option_map (λ g. gluing_under (relabelled_place by t) (relabelled_place by g.tet) g) (glue rows x)
          here = ap (glue new) (sym is) ∙ w.relabels.1.glued x m lf

          here' : glue other (face_of k) ≡ option_map (λ g. gluing_under (relabelled_place others t) (relabelled_place others g.tet) g) (glue rows x)
          here' = ap (glue other) (sym is) ∙ ap (λ (q : Gluing). glue other (face_under q x)) same ∙ w'.relabels.1.glued x m lf

          cases : (o : Option Gluing) → glue rows x ≡ o → (s' : ℕ) × Agree (k + 1) s'
          cases None g = (
            s,
            record {
              first = at_boundary new k s (inside k l) a.first (here ∙ ap (option_map (λ g. gluing_under (relabelled_place by t) (relabelled_place by g.tet) g)) g);
              second = at_boundary other k s (inside' k l) a.second (here' ∙ ap (option_map (λ g. gluing_under (relabelled_place others t) (relabelled_place others g.tet) g)) g);
              both = a.both;
            },
          )
          cases (Some g) f = glued_on k s t x g l a m f same (here ∙ ap (option_map (λ g. gluing_under (relabelled_place by t) (relabelled_place by g.tet) g)) f) (here' ∙ ap (option_map (λ g. gluing_under (relabelled_place others t) (relabelled_place others g.tet) g)) f)

  agree_upto : (k : ℕ) → k ≤ 4 * n → (s : ℕ) × Agree k s
  agree_upto zero l = (1, begun)
  agree_upto (suc k) l =
      let before = agree_upto k (omega arith) in
      let on = agree_on k before.0 (omega arith) before.1 in
      let e : k + 1 ≡ suc k = omega arith in
      (on.0, subst (λ j. Agree j on.0) e on.1)

  pub one_relabelling : by ≡ others
  one_relabelling = same_relabelling n by others w.relabels.0 w'.relabels.0 (λ t l. at t l)
    where
      at : (t : ℕ) → t < n → relabelled_place by t ≡ relabelled_place others t
      at t l =
          let end = agree_upto (4 * n) (omega arith) in
          let m : slice_index by.images t < n = image_in_range n by w.relabels.0 t l in
          let long = w.relabels.1.same_length in
          let b = tet_below new w.ordered (slice_index by.images t) (4 * n) end.0 (omega (arith, long)) (omega arith) (omega (arith, long)) end.1.first in
          let p = end.1.both (slice_index by.images t) b in
          same_at p.0 t p.1 l p.2 p.3

  pub one_walk : (by ≡ others) × (new ≡ other)
  one_walk = (one_relabelling, one_table rows new other by w.relabels.0 w.relabels.1 (subst (λ (b : Relabelling). Carries b rows other) (sym one_relabelling) w'.relabels.1))
