-- A chain of gluings that carries an edge to an edge is a number of steps of the tour around it, one way or the other.
use Rattle.std.proofs.Common.{◌≡◌, ◌≢◌, ℕ, zero, suc, ◌<◌, List, [], ◌∷◌, length, Option, Some, None, Bool, true, false, ◌⊎◌, inl, inr, refl, sym, ap, ◌∙◌, arith}
use Rattle.std.specs.Prelude.{option_map, option_and_then, ◌==◌, ◌||◌, if◌then◌else◌}
use Rattle.std.proofs.lemmas.Bool.{eq-eqb}
use Rattle.table_definitions.specs.Lists.{has}
use Rattle.table_definitions.specs.Permutation.{image, preimage}
use Rattle.table_definitions.specs.Table.{Gluing, Row, glue, IsTable}
use Rattle.table_definitions.specs.Places.{Place, carried, across, along}
use Rattle.table_definitions.proofs.ChainLaws.{first_step as along_first}
use Rattle.table_definitions.proofs.Permutations.{preimage_below, image-preimage}
use Rattle.table_definitions.proofs.TableLaws.{glued_face}
use Rattle.skeleton_definitions.specs.Corners.{Corner, came_through, corner_across, step, steps}
use Rattle.skeleton_definitions.specs.Orientation.{AreSigns}
use Rattle.skeleton_class_laws.specs.Rounds.{corner_word}
use Rattle.skeleton_class_laws.proofs.Rounds.{first_step, steps_more}
use Rattle.skeleton_orientation_laws.proofs.Parities.{turning, across_turning}
use Rattle.skeleton_orientation_laws.proofs.Reversed.{IsCorner, across_corner, across_back, one_before, last_step, steps_corner}

-- the edge of a corner
abbrev pub edge_of : Corner → Place
edge_of k = record { tet = k.tet; vertices = k.a ∷ k.b ∷ [] }

-- a face that contains vertices a and b is across neither
not_either : (a b f : ℕ) → has (a ∷ b ∷ []) f ≡ false → (f ≢ a) × (f ≢ b)
not_either a b f e = (λ same. first (a == f) _ (eq-eqb a f (sym same)) e, λ same. second (a == f) (b == f) (eq-eqb b f (sym same)) e)
  where
    first : (x y : Bool) → x ≡ true → (x || y) ≡ false → ⊥
    first true y h n = absurd cc
    first false y h n = absurd cc

    second : (x y : Bool) → y ≡ true → (x || (y || false)) ≡ false → ⊥
    second true y h n = absurd cc
    second false true h n = absurd cc
    second false false h n = absurd cc

-- a face that contains the edge of a corner is one of the two that meet in it
one_of_two : (n : ℕ) (k : Corner) (f : ℕ) → IsCorner n k → f < 4 → has (k.a ∷ k.b ∷ []) f ≡ false → (k.c ≡ f) ⊎ (k.d ≡ f)
one_of_two n k f h l e =
    pick (preimage (corner_word k) f) (preimage_below (corner_word k) h.four f l) (image-preimage (corner_word k) h.four f l)
  where
    pick : (v : ℕ) → v < 4 → image (corner_word k) v ≡ f → (k.c ≡ f) ⊎ (k.d ≡ f)
    pick zero m s = absurd ((not_either k.a k.b f e).0 (sym s))
    pick (suc zero) m s = absurd ((not_either k.a k.b f e).1 (sym s))
    pick (suc (suc zero)) m s = inl s
    pick (suc (suc (suc zero))) m s = inr s
    pick (suc (suc (suc (suc v)))) m s = absurd (omega arith)

-- the crossing of a face
record IsCrossed (rows : List Row) (p q : Place) (f : ℕ) : Type 0 where
  contains : has p.vertices f ≡ false
  g : Gluing
  glued : glue rows (record { tet = p.tet; face = f }) ≡ Some g
  is : carried g p ≡ q

crossed_of : (rows : List Row) (p q : Place) (f : ℕ) → across rows p f ≡ Some q → IsCrossed rows p q f
crossed_of rows p q f e = go (has p.vertices f) (glue rows (record { tet = p.tet; face = f })) refl refl e
  where
    go : (b : Bool) (o : Option Gluing) → has p.vertices f ≡ b → glue rows (record { tet = p.tet; face = f }) ≡ o → (if b then None else option_map (λ g. carried g p) o) ≡ Some q → IsCrossed rows p q f
    go true o hb ho s = absurd cc
    go false None hb ho s = absurd cc
    go false (Some g) hb ho s = record { contains = hb; g = g; glued = ho; is = cc }

-- steps of the tour lead from one corner to the other, or from the other to the one
abbrev pub AreOnTour : List Row → Corner → Corner → Type 0
AreOnTour rows k l = (n : ℕ) × ((steps rows n k ≡ Some l) ⊎ (steps rows n l ≡ Some k))

module _ (rows : List Row) (table : IsTable rows) (signs : List Bool) (are : AreSigns rows signs) where
  -- a corner at the end of a chain, as far around the edge
  pub record IsFollowed (k : Corner) (q : Place) : Type 0 where
    pub l : Corner
    pub corner : IsCorner (length rows) l
    pub edge : edge_of l ≡ q
    pub turning : turning signs l ≡ turning signs k
    pub on_tour : AreOnTour rows k l

  -- if the chain begins with a step, or with a step back
  step_first : (k m l : Corner) → IsCorner (length rows) k → IsCorner (length rows) l → step rows k ≡ Some m → AreOnTour rows m l → AreOnTour rows k l
  step_first k m l hk hl e (n, inl s) = (suc n, inl (ap (option_and_then (λ x. steps rows n x)) e ∙ s))
  step_first k m l hk hl e (zero, inr s) = (1, inl (ap (option_and_then (λ x. steps rows 0 x)) e ∙ sym s))
  step_first k m l hk hl e (suc n, inr s) =
      let p = last_step rows table n l m s in
      let same : p.0 ≡ k = one_before rows table p.0 k m (steps_corner rows table n l p.0 hl p.1) hk p.2 e in
      (n, inr (p.1 ∙ ap Some same))

  step_back_first : (k m l : Corner) → step rows m ≡ Some k → AreOnTour rows m l → AreOnTour rows k l
  step_back_first k m l e (zero, inl s) = let same : m ≡ l = cc in (1, inr (ap (λ x. option_and_then (λ y. steps rows 0 y) (step rows x)) (sym same) ∙ ap (option_and_then (λ x. steps rows 0 x)) e))
  step_back_first k m l e (suc n, inl s) =
      let f = first_step rows n l (step rows m) s in
      let same : f.0 ≡ k = let both : Some f.0 ≡ Some k = sym f.1 ∙ e in cc in
      (n, inl (ap (steps rows n) (sym same) ∙ f.2))
  step_back_first k m l e (n, inr s) = (suc n, inr (steps_more rows n l m k s e))

  pub followed : (fs : List ℕ) (k : Corner) (q : Place) → IsCorner (length rows) k → along rows (edge_of k) fs ≡ Some q → IsFollowed k q
  followed [] k q h e = record { l = k; corner = h; edge = cc; turning = refl; on_tour = (0, inl refl) }
  followed (f ∷ fs) k q h e =
      let c = along_first rows fs q (across rows (edge_of k) f) e in
      let w = crossed_of rows (edge_of k) c.0 f c.1 in
      let m : Corner = corner_across k w.g in
      let hm = across_corner rows table k w.g (record { tet = k.tet; face = f }) h w.glued in
      let r = followed fs (corner_across k w.g) q hm (ap (λ p. along rows p fs) w.is ∙ c.2) in
      let same : turning signs (corner_across k w.g) ≡ turning signs k = across_turning rows signs table are k f w.g h w.glued in
      record {
        l = r.l;
        corner = r.corner;
        edge = r.edge;
        turning = r.turning ∙ same;
        on_tour = elim (one_of_two (length rows) k f h (glued_face rows (record { tet = k.tet; face = f }) w.g table.four_faces w.glued) w.contains) [
          | inl s ↦ step_first k (corner_across k w.g) r.l h r.corner (ap (option_map (corner_across k)) ((λ i. glue rows (record { tet = k.tet; face = s i })) ∙ w.glued)) r.on_tour
          | inr s ↦ step_back_first k (corner_across k w.g) r.l (back f w.g s w.glued) r.on_tour
        ];
      }
    where
      -- from the corner across face d, the next corner is the corner itself
      back : (x : ℕ) (g : Gluing) → k.d ≡ x → glue rows (record { tet = k.tet; face = x }) ≡ Some g → step rows (corner_across k g) ≡ Some k
      back x g s glued =
          let there : glue rows (came_through k) ≡ Some g = (λ i. glue rows (record { tet = k.tet; face = s i })) ∙ glued in
          ap (option_map (corner_across (corner_across k g))) (table.leads_back (came_through k) g there)
          ∙ ap Some (across_back rows table k g h (table.permutes (came_through k) g there))
