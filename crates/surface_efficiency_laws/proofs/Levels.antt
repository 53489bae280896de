-- If each vertex of a class has more than j triangles, those with index j meet only one another, and are joined: they
-- are a component, the link of the class.
use Rattle.std.proofs.Common.{◌≡◌, ℕ, ◌+◌, ◌-◌, ◌*◌, ◌%◌, ◌<◌, ◌≤◌, List, [], ◌∷◌, ◌++◌, length, Some, inl, inr, refl, sym, ap, ◌∙◌, subst, subst₂, arith}
use Rattle.std.specs.Prelude.{slice_index}
use Rattle.std.proofs.lemmas.Bool.{cases_lt}
use Rattle.table_definitions.specs.Permutation.{image}
use Rattle.table_definitions.specs.Table.{Gluing, glue}
use Rattle.table_definitions.specs.Places.{Place, across, IsJoined, SameVertex}
use Rattle.table_definitions.proofs.ChainLaws.{kept_along}
use Rattle.table_definitions.proofs.Faces.{face_at}
use Rattle.table_definitions.proofs.PermutationLaws.{image_below, images_apart}
use Rattle.skeleton_definitions.specs.Links.{vertex_number}
use Rattle.skeleton_definitions.specs.Skeleton.{Skeleton, IsSkeleton}
use Rattle.surface_definitions.specs.Coordinates.{columns, columns_each, tri_column, quad_column, keeping, octagon_arcs}
use Rattle.surface_definitions.specs.declared.Coords.{Coords}
use Rattle.surface_definitions.specs.Pieces.{NormalDisc, Arc, Meets, disc_of, arcs_around, arc_across, ArcsLead}
use Rattle.surface_laws.specs.PieceLaws.{IsSurface, IsPieceOf, first_nonzero, face_of_arc}
use Rattle.surface_laws.proofs.ArcPieces.{arcs_are, triangle_piece, behind_piece, in_width}
use Rattle.surface_laws.proofs.Glued.{IsGlued, glued_is}
use Rattle.surface_laws.proofs.PieceChains.{leads_further}
use Rattle.surface_laws.proofs.PieceNumbers.{piece_at}
use Rattle.surface_laws.proofs.Vertices.{one_vertex, vertex_is, IsCrossed, crossed_is, class_across}
use Rattle.surface_laws.proofs.MeetingArcs.{arc_at}
use Rattle.surface_laws.proofs.ColumnKinds.{high_behind, low_triangle, one_triangle}

-- vertex v of tetrahedron t is in class c
pub record IsOfClass (s : Skeleton) (c t v : ℕ) : Type 0 where
  pub tet : t < length s.rows
  pub below_four : v < 4
  pub chosen : slice_index s.vertices.classes (vertex_number t v) ≡ c

-- there are more than j triangles at each vertex of class c
abbrev pub IsDeep : Skeleton → Coords → List ℕ → ℕ → ℕ → Type 0
IsDeep s coords xs c j = (t v : ℕ) → IsOfClass s c t v → j < slice_index xs (tri_column coords t v)

-- the triangle with index j around a vertex
abbrev pub triangle_at : Coords → ℕ → ℕ → ℕ → NormalDisc
triangle_at coords j t v = piece_at (tri_column coords t v) j

-- the piece is the triangle with index j around a vertex of class c
pub record IsLevel (s : Skeleton) (coords : Coords) (c j : ℕ) (p : NormalDisc) : Type 0 where
  pub tet : ℕ
  pub vertex : ℕ
  pub of_class : IsOfClass s c tet vertex
  pub is : p ≡ triangle_at coords j tet vertex

module _ (s : Skeleton) (k : IsSkeleton s) (coords : Coords) (xs : List ℕ) (w : IsSurface s.rows coords xs) (c j : ℕ) (deep : IsDeep s coords xs c j) where
  abbrev n : ℕ
  n = length s.rows

  abbrev level : ℕ → ℕ → NormalDisc
  level t v = triangle_at coords j t v

  pub width : length xs ≡ columns coords n
  width = w.solves.width

  pub level_there : (t v : ℕ) → IsOfClass s c t v → IsPieceOf xs (level t v)
  level_there t v m =
      let l : j < slice_index xs (tri_column coords t v) = deep t v m in
      record { column = in_width xs (tri_column coords t v) j l; number = l }

  -- ---- arcs

  pub of_class_across : (t f v : ℕ) (g : Gluing) → IsOfClass s c t v → (v ≡ f → ⊥) → glue s.rows (face_at t f) ≡ Some g → IsOfClass s c g.tet (image g.perm v)
  of_class_across t f v g m off e =
      let i : IsGlued s.rows (face_at t f) g = glued_is s.rows (face_at t f) g k.table e in
      record {
        tet = i.other_tet;
        below_four = image_below g.perm v i.permutes m.below_four;
        chosen = sym (class_across s.rows k.table s.vertices.classes s.vertices.count k.vertices (face_at t f) g v e m.below_four off) ∙ m.chosen;
      }

  -- an arc of a triangle with index j has index j, and so has the arc that it meets
  arc_of_level : (t f v : ℕ) → f < 4 → (v ≡ f → ⊥) → IsOfClass s c t v → disc_of coords xs (arc_at t f v j) ≡ level t v
  arc_of_level t f v lf off m = triangle_piece coords n xs w.triangles w.admissible t f v m.tet lf m.below_four off j (deep t v m)

  record IsLevelArc (a : Arc) : Type 0 where
    of_class : IsOfClass s c a.tet a.vertex
    place : a.place ≡ j

  level_arc : (a : Arc) (g : Gluing) → Meets s.rows coords xs a g → IsLevel s coords c j (disc_of coords xs a) → IsLevelArc a
  level_arc a g m h =
      let i : IsGlued s.rows (face_of_arc a) g = glued_is s.rows (face_of_arc a) g k.table m.glued in
      let q : ℕ = slice_index xs (tri_column coords a.tet a.vertex) in
      elim (cases_lt a.place q) [
        | inl low ↦ (let e : piece_at (tri_column coords a.tet a.vertex) a.place ≡ level h.tet h.vertex =
            sym (triangle_piece coords n xs w.triangles w.admissible a.tet a.face a.vertex m.in_range i.face m.is_vertex m.off_vertex a.place low) ∙ h.is in
            let o = one_triangle coords a.tet a.vertex h.tet h.vertex w.triangles m.is_vertex h.of_class.below_four (ap (λ (p : NormalDisc). p.column) e) in
            record { of_class = subst₂ (IsOfClass s c) (sym o.0) (sym o.1) h.of_class; place = ap (λ (p : NormalDisc). p.number) e })
        | inr high ↦ absurd (let again : q + (a.place - q) ≡ a.place = omega arith in
            let b : ℕ = first_nonzero xs (octagon_arcs coords a.tet a.face a.vertex) (quad_column coords a.tet (keeping a.vertex a.face)) in
            let e : b ≡ tri_column coords h.tet h.vertex =
            ap (λ (p : NormalDisc). p.column) (sym (behind_piece coords n xs w.triangles w.admissible a.tet a.face a.vertex m.in_range i.face m.is_vertex m.off_vertex (a.place - q))
            ∙ ap (λ y. disc_of coords xs (arc_at a.tet a.face a.vertex y)) again ∙ h.is) in
            let high : 4 ≤ b % columns_each coords = high_behind coords xs a.tet a.face a.vertex w.triangles i.face m.is_vertex m.off_vertex in
            let low : tri_column coords h.tet h.vertex % columns_each coords < 4 = low_triangle coords h.tet h.vertex w.triangles h.of_class.below_four in
            let same : b % columns_each coords ≡ tri_column coords h.tet h.vertex % columns_each coords = ap (λ y. y % columns_each coords) e in
            omega arith)
      ]

  level_across : (a : Arc) (g : Gluing) → Meets s.rows coords xs a g → IsLevelArc a → disc_of coords xs (arc_across g a) ≡ level g.tet (image g.perm a.vertex)
  level_across a g m h =
      let i : IsGlued s.rows (face_of_arc a) g = glued_is s.rows (face_of_arc a) g k.table m.glued in
      ap (λ y. disc_of coords xs (arc_at g.tet (image g.perm a.face) (image g.perm a.vertex) y)) h.place
      ∙ arc_of_level g.tet (image g.perm a.face) (image g.perm a.vertex) i.other_face (images_apart g.perm a.vertex a.face i.permutes m.is_vertex i.face m.off_vertex)
      (of_class_across a.tet a.face a.vertex g h.of_class m.off_vertex m.glued)

  -- no chain of arcs leaves the triangles with index j
  pub stays : (p q : NormalDisc) (arcs : List Arc) → IsLevel s coords c j p → ArcsLead s.rows coords xs p arcs q → IsLevel s coords c j q
  stays p q [] h e = subst (IsLevel s coords c j) e h
  stays p q (a ∷ arcs) h (g, m, e, rest) =
      let l : IsLevelArc a = level_arc a g m (subst (IsLevel s coords c j) (sym e) h) in
      stays (disc_of coords xs (arc_across g a)) q arcs
      (record { tet = g.tet; vertex = image g.perm a.vertex; of_class = of_class_across a.tet a.face a.vertex g l.of_class m.off_vertex m.glued; is = level_across a g m l }) rest

  -- ---- chains of gluings join the triangles with index j to one another

  -- arcs join piece p to the triangle with index j at a vertex
  record LedTo (p : NormalDisc) (q : Place) : Type 0 where
    v : ℕ
    is : q.vertices ≡ v ∷ []
    of_class : IsOfClass s c q.tet v
    arcs : List Arc
    lead : ArcsLead s.rows coords xs p arcs (level q.tet v)

  led_across : (p : NormalDisc) (q : Place) (f : ℕ) (r : Place) → LedTo p q → across s.rows q f ≡ Some r → LedTo p r
  led_across p q f r l e =
      let x : IsCrossed s.rows q.tet l.v f r = crossed_is s.rows q.tet l.v f r (ap (λ (vs : List ℕ). across s.rows (record { tet = q.tet; vertices = vs }) f) (sym l.is) ∙ e) in
      let i : IsGlued s.rows (face_at q.tet f) x.g = glued_is s.rows (face_at q.tet f) x.g k.table x.glued in
      let m : IsOfClass s c q.tet l.v = l.of_class in
      let a : Arc = arc_at q.tet f l.v j in
      let whole = arcs_are coords n xs w.triangles w.admissible q.tet f l.v m.tet i.face m.below_four x.off xs (λ c z. z) in
      let there : j < arcs_around coords xs q.tet f l.v = let d : j < slice_index xs (tri_column coords q.tet l.v) = deep q.tet l.v m in omega arith in
      let meets : Meets s.rows coords xs a x.g = record { in_range = m.tet; is_vertex = m.below_four; off_vertex = x.off; there = there; glued = x.glued } in
      let step : ArcsLead s.rows coords xs (level q.tet l.v) (a ∷ []) (level x.g.tet (image x.g.perm l.v)) =
      (x.g, meets, arc_of_level q.tet f l.v i.face x.off m, level_across a x.g meets (record { of_class = m; place = refl })) in
      let to : LedTo p (one_vertex x.g.tet (image x.g.perm l.v)) = record {
        v = image x.g.perm l.v;
        is = refl;
        of_class = of_class_across q.tet f l.v x.g m x.off x.glued;
        arcs = l.arcs ++ a ∷ [];
        lead = leads_further s.rows coords xs p (level q.tet l.v) (level x.g.tet (image x.g.perm l.v)) l.arcs (a ∷ []) l.lead step;
      } in
      subst (LedTo p) x.is to

  level_led : (p : NormalDisc) (u y : ℕ) → LedTo p (one_vertex u y) → (arcs : List Arc) × ArcsLead s.rows coords xs p arcs (level u y)
  level_led p u y l =
      let at : l.v ≡ y = ap (λ (vs : List ℕ). slice_index vs 0) (sym l.is) in
      (l.arcs, subst (λ x. ArcsLead s.rows coords xs p l.arcs (level u x)) at l.lead)

  pub levels_led : (t v u y : ℕ) → IsOfClass s c t v → IsOfClass s c u y → (arcs : List Arc) × ArcsLead s.rows coords xs (level t v) arcs (level u y)
  levels_led t v u y a b =
      let la : vertex_number t v < 4 * n = let x = a.tet in let z = a.below_four in omega arith in
      let lb : vertex_number u y < 4 * n = let x = b.tet in let z = b.below_four in omega arith in
      let same : SameVertex s.rows (vertex_number t v) (vertex_number u y) = ((k.vertices).together (vertex_number t v) (vertex_number u y) la lb).0 (a.chosen ∙ sym b.chosen) in
      let joined : IsJoined s.rows (one_vertex t v) (one_vertex u y) = subst₂ (IsJoined s.rows) (vertex_is t v a.below_four) (vertex_is u y b.below_four) same in
      let start : LedTo (level t v) (one_vertex t v) = record { v = v; is = refl; of_class = a; arcs = []; lead = refl } in
      level_led (level t v) u y (kept_along s.rows (LedTo (level t v)) (led_across (level t v)) joined.0 (one_vertex t v) (one_vertex u y) start joined.1)
