-- The crushed table of a table and a vector is unique, and is a table.
use Rattle.std.proofs.Common.{◌≡◌, ℕ, zero, suc, ◌*◌, ◌<◌, ◌≤◌, Bool, true, not, List, [], length, Option, Some, None, option_map, refl, sym, ap, ◌∙◌, subst, arith, ext_get_or}
use Rattle.std.specs.Prelude.{◌==◌, if◌then◌else◌}
use Rattle.std.specs.List.{slice_index_or}
use Rattle.std.proofs.lemmas.Bool.{eqb-true, and_parts, not-true, not_from_false, false_from_ne_true}
use Rattle.std.proofs.lemmas.List.{get_or-map, length-map}
use Rattle.table_definitions.specs.Permutation.{four, IsPermutationOfFour, image, inverse}
use Rattle.table_definitions.specs.Table.{Gluing, Row, Face, glue, other_side, inverse_gluing, same_face, IsTable}
use Rattle.table_definitions.proofs.TableLaws.{glued_tet, glued_face}
use Rattle.table_definitions.proofs.Permutations.{image-identity}
use Rattle.table_definitions.proofs.Ranks.{rank, rank_fits, StandsAt, at_rank, of_rank, ranks_apart, length-picked, picked}
use Rattle.table_definitions.proofs.Faces.{face_at, gluing_to}
use Rattle.surface_definitions.specs.Crushing.{is_removed, number_kept, CrushesTo, IsCrushed, ChainEnds, passed, renumbered}
use Rattle.surface_laws.specs.CrushingLaws.{IsKeptFace, HasOneEnd}
use Rattle.surface_definitions.proofs.SurfaceEvaluators.{followed, crushed, crushed_gluing, crushed_row}
use Rattle.surface_laws.proofs.Chains.{one_end, has_one_end, HasChain, has_chain}
use Rattle.surface_laws.proofs.ChainsBack.{IsReadBack, chain_back}
use Rattle.surface_laws.proofs.NoReturn.{chain_elsewhere}

abbrev pub stays : List ℕ → ℕ → Bool
stays xs t = not (is_removed xs t)

module _ (rows : List Row) (xs : List ℕ) (table : IsTable rows) where
  -- a face of the crushed table, and the kept face of which it is the image
  record ComesFrom (t f : ℕ) : Type 0 where
    was : ℕ
    kept : IsKeptFace rows xs (face_at was f)
    number : number_kept xs was ≡ t
    end : Option Gluing
    chain : CrushesTo rows xs (face_at was f) end

  comes_from : (t f : ℕ) → t < number_kept xs (length rows) → f < 4 → ComesFrom t f
  comes_from t f lt lf =
      let r : (u : ℕ) × (u < length rows) × (stays xs u ≡ true) × (rank (stays xs) u ≡ t) = of_rank (stays xs) (length rows) t lt in
      let k : IsKeptFace rows xs (face_at r.0 f) = record { in_range = r.1; face = lf; kept = r.2 } in
      let e : HasOneEnd rows xs (face_at r.0 f) = has_one_end rows xs table (face_at r.0 f) k in
      record { was = r.0; kept = k; number = r.3; end = e.end; chain = e.there }

  glue_from : (new : List Row) → IsCrushed rows xs new → (t f : ℕ) (c : ComesFrom t f) → glue new (face_at t f) ≡ option_map (renumbered xs) c.end
  glue_from new h t f c =
      ap (λ u. glue new (face_at u f)) (sym c.number) ∙ h.glued (face_at c.was f) c.end (c.kept).in_range (c.kept).face (c.kept).kept c.chain

  -- so two crushed tables have the same rows
  same_rows : (a b : List Row) → IsCrushed rows xs a → IsCrushed rows xs b → (t : ℕ) → t < length a → slice_index_or a t [] ≡ slice_index_or b t []
  same_rows a b f g t l =
      let lb : t < length b = omega (arith, f.length_is, g.length_is) in
      let fa : length (slice_index_or a t []) ≡ 4 = f.four_faces t [] l in
      let fb : length (slice_index_or b t []) ≡ 4 = g.four_faces t [] lb in
      let inside : t < number_kept xs (length rows) = omega (arith, f.length_is) in
      ext_get_or None (slice_index_or a t []) (slice_index_or b t []) (fa ∙ sym fb)
      (λ i m. let li : i < 4 = omega arith in
      let c : ComesFrom t i = comes_from t i inside li in
      glue_from a f t i c ∙ sym (glue_from b g t i c))

  pub crushed_once : (a b : List Row) → IsCrushed rows xs a → IsCrushed rows xs b → a ≡ b
  crushed_once a b f g = ext_get_or [] a b (f.length_is ∙ sym g.length_is) (same_rows a b f g)

  -- a glued face of the crushed table, and the face of which it is the image
  record GluedFrom (t f : ℕ) (h : Gluing) : Type 0 where
    was : ℕ
    g : Gluing
    kept : IsKeptFace rows xs (face_at was f)
    chain : CrushesTo rows xs (face_at was f) (Some g)
    number : number_kept xs was ≡ t
    other : number_kept xs g.tet ≡ h.tet
    perm : g.perm ≡ h.perm

  module _ (new : List Row) (c : IsCrushed rows xs new) where
    glued_from : (x : Face) (h : Gluing) → glue new x ≡ Some h → GluedFrom x.tet x.face h
    glued_from x h e =
        let lt : x.tet < length new = glued_tet new x h e in
        let lf : x.face < 4 = glued_face new x h c.four_faces e in
        let k : ComesFrom x.tet x.face = comes_from x.tet x.face (omega (arith, c.length_is)) lf in
        by_end k k.end k.chain (sym (glue_from new c x.tet x.face k) ∙ e)
      where
        by_end : (k : ComesFrom x.tet x.face) (o : Option Gluing) → CrushesTo rows xs (face_at k.was x.face) o → option_map (renumbered xs) o ≡ Some h → GluedFrom x.tet x.face h
        by_end k None d s = absurd cc
        by_end k (Some g) d s =
            let same : gluing_to (number_kept xs g.tet) g.perm ≡ h = cc in
            record { was = k.was; g = g; kept = k.kept; chain = d; number = k.number; other = ap (λ (q : Gluing). q.tet) same; perm = ap (λ (q : Gluing). q.perm) same }

    back_from : (x : Face) (h : Gluing) (s : GluedFrom x.tet x.face h) → IsReadBack rows xs (face_at s.was x.face) s.g
    back_from x h s = chain_back rows xs (face_at s.was x.face) s.g table s.kept s.chain

    crushed_permutes : (x : Face) (h : Gluing) → glue new x ≡ Some h → IsPermutationOfFour h.perm
    crushed_permutes x h e =
        let s : GluedFrom x.tet x.face h = glued_from x h e in
        subst IsPermutationOfFour s.perm (back_from x h s).permutes

    crushed_in_range : (x : Face) (h : Gluing) → glue new x ≡ Some h → h.tet < length new
    crushed_in_range x h e =
        let s : GluedFrom x.tet x.face h = glued_from x h e in
        let b : IsReadBack rows xs (face_at s.was x.face) s.g = back_from x h s in
        let fewer : number_kept xs (s.g).tet < number_kept xs (length rows) = (at_rank (stays xs) (length rows) (s.g).tet (b.kept_there).in_range (b.kept_there).kept).fewer in
        omega (arith, c.length_is, s.other)

    never_itself : (x : Face) (h : Gluing) → glue new x ≡ Some h → same_face (other_side x h) x ≡ true → ⊥
    never_itself x h e t =
        let s : GluedFrom x.tet x.face h = glued_from x h e in
        let b : IsReadBack rows xs (face_at s.was x.face) s.g = back_from x h s in
        let parts : ((h.tet == x.tet) ≡ true) × ((image h.perm x.face == x.face) ≡ true) = and_parts (h.tet == x.tet) (image h.perm x.face == x.face) t in
        let numbers : number_kept xs (s.g).tet ≡ number_kept xs s.was = s.other ∙ eqb-true h.tet x.tet parts.0 ∙ sym s.number in
        let tets : (s.g).tet ≡ s.was = ranks_apart (stays xs) (length rows) (s.g).tet s.was (b.kept_there).in_range (s.kept).in_range (b.kept_there).kept (s.kept).kept numbers in
        let faces : image (s.g).perm x.face ≡ x.face = ap (λ p. image p x.face) s.perm ∙ eqb-true (image h.perm x.face) x.face parts.1 in
        chain_elsewhere rows xs table (face_at s.was x.face) s.g (s.kept).face s.chain (λ i. face_at (tets i) (faces i))

    crushed_leads_back : (x : Face) (h : Gluing) → glue new x ≡ Some h → glue new (other_side x h) ≡ Some (inverse_gluing x h)
    crushed_leads_back x h e =
        let s : GluedFrom x.tet x.face h = glued_from x h e in
        let b : IsReadBack rows xs (face_at s.was x.face) s.g = back_from x h s in
        let there : glue new (face_at (number_kept xs (s.g).tet) (image (s.g).perm x.face)) ≡ Some (gluing_to (number_kept xs s.was) (inverse (s.g).perm)) =
        c.glued (other_side (face_at s.was x.face) s.g) (Some (inverse_gluing (face_at s.was x.face) s.g)) (b.kept_there).in_range (b.kept_there).face (b.kept_there).kept b.back in
        (λ i. glue new (face_at (sym s.other i) (image (sym s.perm i) x.face))) ∙ there ∙ (λ i. Some (gluing_to (s.number i) (inverse (s.perm i))))

    pub crushed_is_table : IsTable new
    crushed_is_table = record {
      limited = omega (arith, c.length_is, rank_fits (stays xs) (length rows), table.limited);
      four_faces = c.four_faces;
      permutes = crushed_permutes;
      in_range = crushed_in_range;
      separate = λ x h e. not_from_false (same_face (other_side x h) x) (false_from_ne_true (same_face (other_side x h) x) (never_itself x h e));
      leads_back = crushed_leads_back;
    }

-- a chain is followed to its end by as many steps as it has, or more
follow : (rows : List Row) (xs : List ℕ) (x : Face) (fuel n : ℕ) (o end : Option Gluing) → n ≤ fuel → ChainEnds rows xs x n o end → followed fuel rows xs x o ≡ end
follow rows xs x zero zero None end l h = sym h
follow rows xs x zero zero (Some g) end l h = sym h.1
follow rows xs x zero (suc n) o end l h = absurd (omega arith)
follow rows xs x (suc fuel) zero None end l h = sym h
follow rows xs x (suc fuel) zero (Some g) end l h =
    ap (λ b. if b then followed fuel rows xs x (passed rows xs x g) else Some g) (not-true (is_removed xs g.tet) h.0) ∙ sym h.1
follow rows xs x (suc fuel) (suc n) None end l h = absurd h
follow rows xs x (suc fuel) (suc n) (Some g) end l h =
    ap (λ b. if b then followed fuel rows xs x (passed rows xs x g) else Some g) h.0 ∙ follow rows xs x fuel n (passed rows xs x g) end (omega arith) h.1

-- the rows that are computed in this way are the crushed table
pub crushed_are : (rows : List Row) (xs : List ℕ) → IsTable rows → IsCrushed rows xs (crushed rows xs)
crushed_are rows xs table = record {
  length_is = length-map kept (crushed_row rows xs) ∙ length-picked (stays xs) (length rows);
  four_faces = λ k d l.
      let lk : k < length kept = omega (arith, length-map kept (crushed_row rows xs)) in
      subst (λ (row : Row). length row ≡ 4) (sym (get_or-map (crushed_row rows xs) kept k 0 d lk)) refl;
  glued = λ x end lt lf k c.
      let s : StandsAt (stays xs) (length rows) x.tet = at_rank (stays xs) (length rows) x.tet lt k in
      let there : number_kept xs x.tet < length kept = omega (arith, length-picked (stays xs) (length rows), s.fewer) in
      let row : slice_index_or (crushed rows xs) (number_kept xs x.tet) [] ≡ crushed_row rows xs x.tet = get_or-map (crushed_row rows xs) kept (number_kept xs x.tet) 0 [] there ∙ ap (crushed_row rows xs) s.is in
      let entry : slice_index_or (crushed_row rows xs x.tet) x.face None ≡ crushed_gluing rows xs x.tet x.face = get_or-map (crushed_gluing rows xs x.tet) four x.face 0 None lf ∙ ap (crushed_gluing rows xs x.tet) (image-identity x.face lf) in
      let chain : HasChain rows xs table x = has_chain rows xs table x (record { in_range = lt; face = lf; kept = k }) in
      let ends : followed (4 * length rows) rows xs x (glue rows x) ≡ end =
      follow rows xs x (4 * length rows) chain.count (glue rows x) chain.end (let l = chain.limited in omega arith) chain.ends ∙ one_end rows xs x chain.count c.0 (glue rows x) chain.end end chain.ends c.1 in
      ap (λ (row : Row). slice_index_or row x.face None) row ∙ entry ∙ ap (option_map (renumbered xs)) ends;
}
  where
    kept : List ℕ
    kept = picked (stays xs) (length rows)
