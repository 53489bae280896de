-- How often the surface meets an edge: the arcs of a face around one end of the edge, and those around the other. The
-- number is the same along the whole edge class.
use Rattle.std.proofs.Common.{◌≡◌, ◌≢◌, ℕ, zero, suc, ◌+◌, ◌/◌, ◌%◌, ◌<◌, true, false, List, [], ◌∷◌, length, map, Some, ◌⊎◌, inl, inr, refl, sym, ap, ◌∙◌, subst, arith}
use Rattle.std.specs.Prelude.{slice_index}
use Rattle.table_definitions.specs.Lists.{has}
use Rattle.table_definitions.specs.Permutation.{image}
use Rattle.table_definitions.specs.Places.{Place, across, carried, edge, backwards, IsJoined}
use Rattle.table_definitions.proofs.ChainLaws.{Steps, steps_across, face_crossed, kept_along}
use Rattle.table_definitions.proofs.Faces.{face_at}
use Rattle.table_definitions.proofs.PermutationLaws.{image_below, images_apart}
use Rattle.table_definitions.specs.Table.{Row, glue}
use Rattle.table_definitions.proofs.Listed.{among_has}
use Rattle.table_definitions.proofs.TableLaws.{Among}
use Rattle.surface_definitions.specs.Coordinates.{tri_column, quad_column, keeping}
use Rattle.surface_definitions.specs.Characteristic.{weight}
use Rattle.surface_definitions.specs.declared.Coords.{Coords}
use Rattle.surface_definitions.specs.Pieces.{arcs_around}
use Rattle.surface_laws.specs.PieceLaws.{IsSurface, first_nonzero}
use Rattle.surface_laws.proofs.ArcPieces.{arcs_are}
use Rattle.surface_laws.proofs.Glued.{IsGlued, glued_is}
use Rattle.surface_laws.proofs.MeetingArcs.{as_many}
use Rattle.skeleton_class_laws.specs.Crossings.{pair}
use Rattle.skeleton_class_laws.proofs.Cases.{low, high}
use Rattle.skeleton_class_laws.proofs.EdgeTies.{edge_pair}
use Rattle.surface_euler_laws.proofs.Four.{Four, first_two, middle_two, last_two, opposite, one_of_rest}
use Rattle.surface_euler_laws.proofs.Shapes.{octagons_are, behind_type}
use Rattle.surface_agreement_laws.proofs.EdgeArcs.{face_by, at_edge}

abbrev pub fourth_by : ℕ → ℕ
fourth_by zero = 3
fourth_by (suc zero) = 3
fourth_by (suc (suc zero)) = 2
fourth_by (suc (suc (suc zero))) = 3
fourth_by (suc (suc (suc (suc zero)))) = 2
fourth_by (suc (suc (suc (suc (suc e))))) = 1

pub four_by : (e : ℕ) → e < 6 → Four (low e) (high e) (face_by e) (fourth_by e)
four_by zero l = record { lv = omega arith; lu = omega arith; lf = omega arith; lw = omega arith; vu = λ e. omega arith; vf = λ e. omega arith; vw = λ e. omega arith; uf = λ e. omega arith; uw = λ e. omega arith; fw = λ e. omega arith }
four_by (suc zero) l = record { lv = omega arith; lu = omega arith; lf = omega arith; lw = omega arith; vu = λ e. omega arith; vf = λ e. omega arith; vw = λ e. omega arith; uf = λ e. omega arith; uw = λ e. omega arith; fw = λ e. omega arith }
four_by (suc (suc zero)) l = record { lv = omega arith; lu = omega arith; lf = omega arith; lw = omega arith; vu = λ e. omega arith; vf = λ e. omega arith; vw = λ e. omega arith; uf = λ e. omega arith; uw = λ e. omega arith; fw = λ e. omega arith }
four_by (suc (suc (suc zero))) l = record { lv = omega arith; lu = omega arith; lf = omega arith; lw = omega arith; vu = λ e. omega arith; vf = λ e. omega arith; vw = λ e. omega arith; uf = λ e. omega arith; uw = λ e. omega arith; fw = λ e. omega arith }
four_by (suc (suc (suc (suc zero)))) l = record { lv = omega arith; lu = omega arith; lf = omega arith; lw = omega arith; vu = λ e. omega arith; vf = λ e. omega arith; vw = λ e. omega arith; uf = λ e. omega arith; uw = λ e. omega arith; fw = λ e. omega arith }
four_by (suc (suc (suc (suc (suc zero))))) l = record { lv = omega arith; lu = omega arith; lf = omega arith; lw = omega arith; vu = λ e. omega arith; vf = λ e. omega arith; vw = λ e. omega arith; uf = λ e. omega arith; uw = λ e. omega arith; fw = λ e. omega arith }
four_by (suc (suc (suc (suc (suc (suc e)))))) l = absurd (omega arith)

module _ (rows : List Row) (coords : Coords) (xs : List ℕ) (s : IsSurface rows coords xs) where
  -- the arcs around v in face f
  pub arcs_by_type : (t f v : ℕ) → t < length rows → f < 4 → v < 4 → v ≢ f → arcs_around coords xs t f v ≡ slice_index xs (tri_column coords t v) + slice_index xs (behind_type coords xs t (keeping v f))
  arcs_by_type t f v lt lf lv off =
      arcs_are coords (length rows) xs s.triangles s.admissible t f v lt lf lv off xs (λ c z. z)
      ∙ ap (λ os. slice_index xs (tri_column coords t v) + slice_index xs (first_nonzero xs os (quad_column coords t (keeping v f)))) (octagons_are coords t f v)

  -- the arcs of face f that end on the edge from v to u
  abbrev pub width : ℕ → ℕ → ℕ → ℕ → ℕ
  width t f v u = arcs_around coords xs t f v + arcs_around coords xs t f u

  pub width_by_type : (t v u f w : ℕ) → t < length rows → Four v u f w → width t f v u ≡ slice_index xs (tri_column coords t v) + slice_index xs (tri_column coords t u)
      + (slice_index xs (behind_type coords xs t (keeping v f)) + slice_index xs (behind_type coords xs t (keeping u f)))
  width_by_type t v u f w lt h = omega (arith, arcs_by_type t f v lt h.lf h.lv h.vf, arcs_by_type t f u lt h.lf h.lu h.uf)

  pub either_face : (t v u f w : ℕ) → t < length rows → Four v u f w → width t f v u ≡ width t w v u
  either_face t v u f w lt h =
      let g : Four v u w f = last_two v u f w h in
      let one : keeping v f ≡ keeping u w = opposite v f u w (middle_two v u f w h) in
      let two : keeping v w ≡ keeping u f = opposite v w u f (middle_two v u w f g) in
      let e = ap (λ k. slice_index xs (behind_type coords xs t k)) one in
      let d = ap (λ k. slice_index xs (behind_type coords xs t k)) two in
      omega (arith, width_by_type t v u f w lt h, width_by_type t v u w f lt g)

  -- a pair of two vertices, on the edge between which the surface has m points
  record IsWide (m : ℕ) (p : Place) : Type 0 where
    v : ℕ
    u : ℕ
    f : ℕ
    w : ℕ
    is : p.vertices ≡ v ∷ u ∷ []
    tet : p.tet < length rows
    four : Four v u f w
    wide : width p.tet f v u ≡ m

  by_face : (m : ℕ) (p : Place) (y : ℕ) → y < 4 → has p.vertices y ≡ false → IsWide m p → (h : IsWide m p) × (h.f ≡ y)
  by_face m p y ly off h = elim (one_of_rest h.v h.u h.f h.w y h.four ly (λ e. absurd (let both : true ≡ false = sym (in_first (sym e)) ∙ off in cc)) (λ e. absurd (let both : true ≡ false = sym (in_second (sym e)) ∙ off in cc))) [
    | inl e ↦ (h, sym e)
    | inr e ↦ (record { v = h.v; u = h.u; f = h.w; w = h.f; is = h.is; tet = h.tet; four = last_two h.v h.u h.f h.w h.four; wide = sym (either_face p.tet h.v h.u h.f h.w h.tet h.four) ∙ h.wide }, sym e)
  ]
    where
      in_first : h.v ≡ y → has p.vertices y ≡ true
      in_first e = among_has p.vertices y (subst (λ (vs : List ℕ). Among y vs) (sym h.is) (inl (sym e)))

      in_second : h.u ≡ y → has p.vertices y ≡ true
      in_second e = among_has p.vertices y (subst (λ (vs : List ℕ). Among y vs) (sym h.is) (inr (inl (sym e))))

  carried_on : (m : ℕ) (p : Place) (y : ℕ) (q : Place) → IsWide m p → across rows p y ≡ Some q → IsWide m q
  carried_on m p y q h e =
      let x : Steps rows p y q = steps_across rows p y q e in
      let ly : y < 4 = face_crossed rows p y q s.table e in
      let j = by_face m p y ly x.off h in
      let i : IsWide m p = j.0 in
      let at : i.f ≡ y = j.1 in
      let glued = ap (λ z. glue rows (face_at p.tet z)) at ∙ x.glued in
      let g : IsGlued rows (face_at p.tet i.f) x.gluing = glued_is rows (face_at p.tet i.f) x.gluing s.table glued in
      let a = i.four in
      let perm = (x.gluing).perm in
      let one = as_many rows coords xs s (face_at p.tet i.f) x.gluing i.v glued a.lv a.vf in
      let two = as_many rows coords xs s (face_at p.tet i.f) x.gluing i.u glued a.lu a.uf in
      let wide = i.wide in
      let r : IsWide m (carried x.gluing p) = record {
        v = image perm i.v;
        u = image perm i.u;
        f = image perm i.f;
        w = image perm i.w;
        is = ap (map (image perm)) i.is;
        tet = g.other_tet;
        four = record {
          lv = image_below perm i.v g.permutes a.lv;
          lu = image_below perm i.u g.permutes a.lu;
          lf = image_below perm i.f g.permutes a.lf;
          lw = image_below perm i.w g.permutes a.lw;
          vu = images_apart perm i.v i.u g.permutes a.lv a.lu a.vu;
          vf = images_apart perm i.v i.f g.permutes a.lv a.lf a.vf;
          vw = images_apart perm i.v i.w g.permutes a.lv a.lw a.vw;
          uf = images_apart perm i.u i.f g.permutes a.lu a.lf a.uf;
          uw = images_apart perm i.u i.w g.permutes a.lu a.lw a.uw;
          fw = images_apart perm i.f i.w g.permutes a.lf a.lw a.fw;
        };
        wide = omega arith;
      } in
      subst (IsWide m) (sym x.lands) r

  wide_weight : (m i : ℕ) → IsWide m (edge i) ⊎ IsWide m (backwards (edge i)) → weight coords xs i ≡ m
  wide_weight m i h =
      let le : i % 6 < 6 = omega arith in
      let four : Four (low (i % 6)) (high (i % 6)) (face_by (i % 6)) (fourth_by (i % 6)) = four_by (i % 6) le in
      let t : ℕ = i / 6 in
      let a : ℕ = low (i % 6) in
      let b : ℕ = high (i % 6) in
      at_edge xs t coords s.triangles (i % 6) le ∙ elim h [
        | inl x ↦ by_places x a b (ap (λ (p : Place). p.vertices) (edge_pair i)) four
        | inr x ↦ (let z : width t (face_by (i % 6)) b a ≡ m = by_places x b a (ap (λ (p : Place). p.vertices) (ap backwards (edge_pair i))) (first_two a b (face_by (i % 6)) (fourth_by (i % 6)) four) in omega arith)
      ]
    where
      by_places : {p : Place} → IsWide m p → (a b : ℕ) → p.vertices ≡ a ∷ b ∷ [] → {f w : ℕ} → Four a b f w → width p.tet f a b ≡ m
      by_places {p} x a b e {f} {w} four =
          let one : x.v ≡ a = ap (λ vs. slice_index vs 0) (sym x.is ∙ e) in
          let two : x.u ≡ b = ap (λ vs. slice_index vs 1) (sym x.is ∙ e) in
          let same : width p.tet x.f a b ≡ m = (λ k. width p.tet x.f (sym one k) (sym two k)) ∙ x.wide in
          let xf : Four a b x.f x.w = subst (λ z. Four a z x.f x.w) two (subst (λ z. Four z x.u x.f x.w) one x.four) in
          elim (one_of_rest a b f w x.f four xf.lf (λ q. xf.vf (sym q)) (λ q. xf.uf (sym q))) [
            | inl q ↦ ap (λ z. width p.tet z a b) (sym q) ∙ same
            | inr q ↦ either_face p.tet a b f w x.tet four ∙ ap (λ z. width p.tet z a b) (sym q) ∙ same
          ]

  -- an edge that is joined to edge i, in either direction, has as many points as edge i
  pub width_is : (t v u f w i : ℕ) → t < length rows → Four v u f w → IsJoined rows (pair t v u) (edge i) ⊎ IsJoined rows (pair t v u) (backwards (edge i)) → weight coords xs i ≡ width t f v u
  width_is t v u f w i lt h j =
      let start : IsWide (width t f v u) (pair t v u) = record { v = v; u = u; f = f; w = w; is = refl; tet = lt; four = h; wide = refl } in
      wide_weight (width t f v u) i (elim j [
        | inl x ↦ inl (kept_along rows (IsWide (width t f v u)) (carried_on (width t f v u)) x.0 (pair t v u) (edge i) start x.1)
        | inr x ↦ inr (kept_along rows (IsWide (width t f v u)) (carried_on (width t f v u)) x.0 (pair t v u) (backwards (edge i)) start x.1)
      ])
