-- The list with the signs of the vertices of a class, and false elsewhere.
use Rattle.std.proofs.Common.{◌≡◌, ◌≢◌, ℕ, ◌*◌, ◌<◌, ◌≤◌, Bool, false, List, [], length, map, Some, ◌⊎◌, inl, inr, sym, ap, ◌∙◌, arith}
use Rattle.std.specs.Prelude.{slice_index}
use Rattle.std.proofs.lemmas.Bool.{cases_eq, cases_lt}
use Rattle.std.proofs.lemmas.List.{length-map}
use Rattle.std.proofs.lemmas.List.FromFn.{length-range_with_len, get_or-map-range_with_len}
use Rattle.table_definitions.specs.Lists.{has, below}
use Rattle.table_definitions.specs.Permutation.{image, is_odd}
use Rattle.table_definitions.specs.Table.{Gluing, Row, glue}
use Rattle.table_definitions.specs.Places.{Place, carried, vertex}
use Rattle.table_definitions.proofs.Faces.{face_at}
use Rattle.skeleton_definitions.specs.Orientation.{sign_of}
use Rattle.skeleton_definitions.specs.Links.{vertex_number, AreLinkSigns, IsOrientableLink}
use Rattle.skeleton_class_laws.specs.Crossings.{vertex_at}
use Rattle.move_laws.proofs.Parities.{behind}
use Rattle.move_link_laws.proofs.Labelled.{head_off}
use Rattle.skeleton_laws.proofs.Spots.{class_of, IsSpot, spot_below, vertex_spot, spot_again, vertex_number_again}
use Rattle.surface_laws.proofs.Vertices.{one_vertex}

abbrev pub S : List Bool → Place → Bool
S signs p = sign_of signs (vertex_at p)

-- the sign of a vertex across a face
pub agree_at : (rows : List Row) (vs : List ℕ) (c : ℕ) (signs : List Bool) → AreLinkSigns rows vs c signs → (n : ℕ) (p : Place) → IsSpot n p → (f : ℕ) (g : Gluing) → f < 4 → has p.vertices f ≡ false → class_of vs p ≡ c
    → glue rows (face_at p.tet f) ≡ Some g → S signs (carried g p) ≡ behind (is_odd g.perm) (S signs p)
agree_at rows vs c signs are n p s f g lf off e glued =
    let ne : s.v ≢ f = head_off s.v [] f (ap (λ (r : Place). has r.vertices f) (sym s.is) ∙ off) in
    let at : slice_index vs (vertex_number p.tet s.v) ≡ c = ap (class_of vs) (sym s.is) ∙ e in
    ap (λ (r : Place). S signs (carried g r)) s.is ∙ are p.tet s.v f g s.low lf ne at glued ∙ ap (λ (r : Place). behind (is_odd g.perm) (S signs r)) (sym s.is)

-- the list with the signs of the vertices of a class, and false elsewhere
module _ (rows : List Row) (vs : List ℕ) (c : ℕ) (long : length vs ≡ 4 * length rows) (value : (p : Place) → IsSpot (length rows) p → class_of vs p ≡ c → Bool)
    (one : (p q : Place) (s : IsSpot (length rows) p) (t : IsSpot (length rows) q) (e : class_of vs p ≡ c) (f : class_of vs q ≡ c) → p ≡ q → value p s e ≡ value q t f) where
  chosen : (i : ℕ) → (i < 4 * length rows) ⊎ (4 * length rows ≤ i) → (slice_index vs i ≡ c) ⊎ (slice_index vs i ≢ c) → Bool
  chosen i (inl l) (inl e) = value (vertex i) (vertex_spot (length rows) i l) (ap (slice_index vs) (vertex_number_again i) ∙ e)
  chosen i (inl l) (inr ne) = false
  chosen i (inr m) d = false

  sign : ℕ → Bool
  sign i = chosen i (cases_lt i (4 * length rows)) (cases_eq (slice_index vs i) c)

  pub listed : List Bool
  listed = map sign (below (length vs))

  pub listed_at : (p : Place) (s : IsSpot (length rows) p) (e : class_of vs p ≡ c) → S listed p ≡ value p s e
  unfolding listed sign
  listed_at p s e =
      let l = spot_below (length rows) p s in
      get_or-map-range_with_len sign 0 (length vs) (vertex_at p) (vertex_at p) false (omega (arith, l, long)) (omega arith)
      ∙ at (cases_lt (vertex_at p) (4 * length rows)) (cases_eq (slice_index vs (vertex_at p)) c)
    where
      at : (a : (vertex_at p < 4 * length rows) ⊎ (4 * length rows ≤ vertex_at p)) (b : (slice_index vs (vertex_at p) ≡ c) ⊎ (slice_index vs (vertex_at p) ≢ c)) → chosen (vertex_at p) a b ≡ value p s e
      at (inr m) b = absurd (let l = spot_below (length rows) p s in omega arith)
      at (inl l) (inr ne) = absurd (ne e)
      at (inl l) (inl f) = unfold chosen in one (vertex (vertex_at p)) p (vertex_spot (length rows) (vertex_at p) l) s (ap (slice_index vs) (vertex_number_again (vertex_at p)) ∙ f) e (spot_again (length rows) p s)

  pub signs_from : ((t v f : ℕ) (g : Gluing) → v < 4 → f < 4 → (v ≡ f → ⊥) → slice_index vs (vertex_number t v) ≡ c → glue rows (record { tet = t; face = f }) ≡ Some g
      → S listed (one_vertex g.tet (image g.perm v)) ≡ behind (is_odd g.perm) (S listed (one_vertex t v))) → IsOrientableLink rows vs c
  unfolding listed
  signs_from agree = (listed, length-map (below (length vs)) sign ∙ length-range_with_len 0 (length vs), agree)
