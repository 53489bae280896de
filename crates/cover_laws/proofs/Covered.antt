-- The cover of a table is a table, and is oriented by its sheets.
use Rattle.std.proofs.Common.{◌≡◌, ℕ, ◌*◌, ◌<◌, ◌≤◌, inl, inr, Bool, true, false, List, [], length, Some, option_map, slice_index_or, subst, sym, ap, ap₂, refl, ◌∙◌, arith, not}
use Rattle.std.specs.Prelude.{◌==◌, if◌then◌else◌}
use Rattle.std.proofs.lemmas.List.{length-map}
use Rattle.std.proofs.lemmas.List.Elements.{All-from_get_or, All-get_or}
use Rattle.std.proofs.lemmas.List.FromFn.{get_or-map-range_with_len, length-map-range_with_len}
use Rattle.table_definitions.specs.Permutation.{IsPermutationOfFour, image, is_odd, inverse}
use Rattle.table_definitions.specs.Table.{max_tets, Gluing, Row, Face, IsTable, glue, other_side, inverse_gluing, same_face}
use Rattle.skeleton_definitions.specs.Orientation.{sign_of, sign_across, AreSigns}
use Rattle.table_definitions.proofs.Carried.{not_from, same_from, same_to}
use Rattle.cover_definitions.specs.Cover.{over, sheet, above, other_sheet, sheet_across, lifted, cover, face_below, sheet_signs}
use Rattle.cover_laws.specs.Laws.{ProjectsTo}
use Rattle.cover_laws.proofs.Sheets.{over_below, sheet_small, above_over, over_above, sheet_above, above_below, behind_small, behind_back, cases_sheet, length-cover, row-cover, glue-cover, GluedBelow, glued_below}

module _ (rows : List Row) (table : IsTable rows) where
  abbrev n : ℕ
  n = length rows

  below_n : (x : Face) (h : Gluing) (d : GluedBelow rows x h) → d.g.tet < n
  below_n x h d = table.in_range (face_below n x) d.g d.glued

  pub behind_over : (x : Face) (h : Gluing) (d : GluedBelow rows x h) → over n h.tet ≡ d.g.tet
  behind_over x h d = ap (λ (b : Gluing). over n b.tet) (sym d.is) ∙ over_above n d.g.tet (sheet_across d.g (sheet n x.tet)) (below_n x h d) (behind_small d.g (sheet n x.tet) (sheet_small n x.tet))

  pub behind_sheet : (x : Face) (h : Gluing) (d : GluedBelow rows x h) → sheet n h.tet ≡ sheet_across d.g (sheet n x.tet)
  behind_sheet x h d = ap (λ (b : Gluing). sheet n b.tet) (sym d.is) ∙ sheet_above n d.g.tet (sheet_across d.g (sheet n x.tet)) (below_n x h d) (behind_small d.g (sheet n x.tet) (sheet_small n x.tet))

  pub same_perm : (x : Face) (h : Gluing) (d : GluedBelow rows x h) → h.perm ≡ d.g.perm
  same_perm x h d = ap (λ (b : Gluing). b.perm) (sym d.is)

  pub behind_below : (x : Face) (h : Gluing) → glue (cover rows) x ≡ Some h → h.tet < 2 * n
  behind_below x h e = let d = glued_below rows x h e in subst (λ (b : Gluing). b.tet < 2 * n) d.is (above_below n d.g.tet (sheet_across d.g (sheet n x.tet)) (below_n x h d) (behind_small d.g (sheet n x.tet) (sheet_small n x.tet)))

  cover_apart : (x : Face) (h : Gluing) → glue (cover rows) x ≡ Some h → same_face (other_side x h) x ≡ true → ⊥
  cover_apart x h e s =
      let d = glued_below rows x h e in
      let same = same_from h.tet x.tet (image h.perm x.face) x.face s in
      let tet : d.g.tet ≡ over n x.tet = sym (behind_over x h d) ∙ ap (over n) same.0 in
      let backwards : image d.g.perm x.face ≡ x.face = ap (λ p. image p x.face) (sym (same_perm x h d)) ∙ same.1 in
      let itself : same_face (other_side (face_below n x) d.g) (face_below n x) ≡ true = same_to d.g.tet (over n x.tet) (image d.g.perm x.face) x.face tet backwards in
      let never : not (same_face (other_side (face_below n x) d.g) (face_below n x)) ≡ true = table.separate (face_below n x) d.g d.glued in cc

  cover_back : (x : Face) (h : Gluing) → glue (cover rows) x ≡ Some h → glue (cover rows) (other_side x h) ≡ Some (inverse_gluing x h)
  cover_back x h e =
      let d = glued_below rows x h e in
      let p : IsPermutationOfFour d.g.perm = table.permutes (face_below n x) d.g d.glued in
      glue-cover rows (other_side x h) (behind_below x h e)
      ∙ ap₂ (λ s t. option_map (lifted n s) (glue rows (record { tet = t; face = image h.perm x.face }))) (behind_sheet x h d) (behind_over x h d)
      ∙ ap (λ q. option_map (lifted n (sheet_across d.g (sheet n x.tet))) (glue rows (record { tet = d.g.tet; face = image q x.face }))) (same_perm x h d)
      ∙ ap (option_map (lifted n (sheet_across d.g (sheet n x.tet)))) (table.leads_back (face_below n x) d.g d.glued)
      ∙ ap₂ (λ s q. Some (record { tet = above n (over n x.tet) s; perm = inverse q })) (behind_back d.g (over n x.tet) (sheet n x.tet) p (sheet_small n x.tet)) (sym (same_perm x h d))
      ∙ ap (λ t. Some (record { tet = t; perm = inverse h.perm })) (above_over n x.tet)

  pub cover_is_table : 2 * length rows ≤ max_tets → IsTable (cover rows)
  cover_is_table l = record {
    limited = subst (λ m. m ≤ max_tets) (sym (length-cover rows)) l;
    four_faces = All-from_get_or (λ (row : Row). length row ≡ 4) (cover rows) [] (λ u k. let m : u < 2 * n = subst (λ a. u < a) (length-cover rows) k in
        ap length (row-cover rows u m) ∙ length-map (slice_index_or rows (over n u) []) (option_map (lifted n (sheet n u))) ∙ All-get_or (λ (row : Row). length row ≡ 4) rows (over n u) [] (over_below n u m) table.four_faces);
    permutes = λ x h e. let d = glued_below rows x h e in subst IsPermutationOfFour (sym (same_perm x h d)) (table.permutes (face_below n x) d.g d.glued);
    in_range = λ x h e. subst (λ a. h.tet < a) (sym (length-cover rows)) (behind_below x h e);
    separate = λ x h e. not_from (same_face (other_side x h) x) (cover_apart x h e);
    leads_back = cover_back;
  }

  -- ---- the signs of the sheets

  sign_at : (u : ℕ) → u < 2 * n → sign_of (sheet_signs n) u ≡ (sheet n u == 0)
  unfolding sheet_signs
  sign_at u l = get_or-map-range_with_len (λ v. sheet n v == 0) 0 (2 * n) u u false l (omega arith)

  sign_by_gluing : (b : Bool) (s : ℕ) → s ≤ 1 → ((if b then s else other_sheet s) == 0) ≡ (if b then (s == 0) else not (s == 0))
  sign_by_gluing true s l = refl
  sign_by_gluing false s l = elim (cases_sheet s l) [
    | inl z ↦ subst (λ r. (other_sheet r == 0) ≡ not (r == 0)) (sym z) refl
    | inr o ↦ subst (λ r. (other_sheet r == 0) ≡ not (r == 0)) (sym o) refl
  ]

  pub cover_signs : AreSigns (cover rows) (sheet_signs n)
  unfolding sheet_signs
  cover_signs = record { one_each = long ∙ sym (length-cover rows); agree = agree }
    where
      long : length (sheet_signs n) ≡ 2 * n
      long = length-map-range_with_len (λ v. sheet n v == 0) 0 (2 * n)

      agree : (x : Face) (h : Gluing) → glue (cover rows) x ≡ Some h → sign_of (sheet_signs n) h.tet ≡ sign_across h (sign_of (sheet_signs n) x.tet)
      agree x h e = let d = glued_below rows x h e in
          sign_at h.tet (behind_below x h e) ∙ ap (λ s. s == 0) (behind_sheet x h d) ∙ sign_by_gluing (is_odd d.g.perm) (sheet n x.tet) (sheet_small n x.tet)
          ∙ ap₂ (λ p b. if is_odd p then b else not b) (sym (same_perm x h d)) (sym (sign_at x.tet d.in_range))

  pub projects : (x : Face) (h : Gluing) → glue (cover rows) x ≡ Some h → ProjectsTo rows x h
  projects x h e = let d = glued_below rows x h e in record { g = d.g; glued = d.glued; perm = same_perm x h d; tet = behind_over x h d; sheets = behind_sheet x h d }
