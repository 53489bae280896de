-- The lift from its parts, and the quads of a standard vector.
use Rattle.std.proofs.Common.{◌≡◌, ℕ, suc, ◌+◌, ◌-◌, ◌*◌, ◌/◌, ◌%◌, ◌<◌, ◌≤◌, List, [], ◌∷◌, ◌++◌, length, sym, ap, ◌∙◌, subst, arith, inl, inr, append_assoc}
use Rattle.std.specs.Prelude.{slice_index, if◌then◌else◌}
use Rattle.std.specs.List.{flat_map}
use Rattle.std.proofs.lemmas.List.Concat.{flat_map-append}
use Rattle.std.proofs.lemmas.Bool.{cases_lt, lt-ltb, le-ltb}
use Rattle.table_definitions.proofs.Bijections.{below-push}
use Rattle.table_definitions.specs.Lists.{below}
use Rattle.table_definitions.specs.Permutation.{image}
use Rattle.table_definitions.specs.Table.{glue}
use Rattle.skeleton_definitions.specs.Links.{vertex_number}
use Rattle.skeleton_definitions.specs.Skeleton.{Skeleton, IsSkeleton}
use Rattle.surface_definitions.specs.declared.Coords.TheVariants.{Quad, Standard}
use Rattle.surface_definitions.specs.Coordinates.{quad_column, keeping}
use Rattle.surface_definitions.specs.Lift.{projected}
use Rattle.surface_vector_definitions.specs.Lifting.{HasLiftAt, IsLeastWithoutLift}
use Rattle.surface_laws.specs.LiftLaws.{AreHeights, IsLiftOf, IsSurfaceOver}
use Rattle.surface_laws.proofs.Glued.{IsGlued, glued_is}
use Rattle.surface_laws.proofs.Heights.{heights_give, lift_gives, entry_of, vector_is, entry_low, entry_high}
use Rattle.surface_laws.proofs.LiftLemmas.{lift_solves, lift_projects, quads_admissible}
use Rattle.surface_laws.proofs.Lowered.{IsLow, lowered_lift}
use Rattle.quad_lift.specs.Spreads.{AreAllSpread}
use Rattle.quad_lift.specs.Agreements.{AgreesAround, IsLeastWrong, IsLeastHeight, AreLeastHeights, lifted_entry}
use Rattle.quad_lift.proofs.CrossingLemmas.{crossed_to, IsCrossedTo}
use Rattle.surface_laws.proofs.Quads.{quads_of}

module _ (s : Skeleton) (k : IsSkeleton s) (xs : List ℕ) (w : length xs ≡ 3 * length s.rows) (heights : List ℕ) (a : AreAllSpread s xs heights) where
  abbrev class_of : ℕ → ℕ
  class_of i = slice_index s.vertices.classes i

  -- heights that agree around each vertex of a class are heights of the class
  pub agreed : (c : ℕ) → ((i : ℕ) → i < 4 * length s.rows → class_of i ≡ c → AgreesAround s xs heights i) → AreHeights s xs c (slice_index heights)
  agreed c all x g v e lv off ch =
      let into : IsGlued s.rows x g = glued_is s.rows x g k.table e in
      let i : ℕ = vertex_number x.tet v in
      let li : i < 4 * length s.rows = omega (arith, into.tet) in
      let d : i / 4 ≡ x.tet = omega arith in
      let m : i % 4 ≡ v = omega arith in
      all i li ch x.face into.face (vertex_number g.tet (image g.perm v)) (slice_index xs (quad_column Quad x.tet (keeping v x.face))) (slice_index xs (quad_column Quad g.tet (keeping (image g.perm v) (image g.perm x.face))))
      (record {
        gluing = g;
        glued = ap (λ t. glue s.rows (record { tet = t; face = x.face })) d ∙ e;
        off = λ same. off (sym m ∙ same);
        other_is = ap (λ u. vertex_number g.tet (image g.perm u)) (sym m);
        up_is = λ j. slice_index xs (quad_column Quad (sym d j) (keeping (sym m j) x.face));
        down_is = λ j. slice_index xs (quad_column Quad g.tet (keeping (image g.perm (sym m j)) (image g.perm x.face)));
      })

  -- if the class has any heights, the computed ones agree
  heights_agree : (h : ℕ → ℕ) (i : ℕ) → i < 4 * length s.rows → AreHeights s xs (class_of i) h → AgreesAround s xs heights i
  heights_agree h i li b f lf other up down x =
      let t : IsCrossedTo s xs i f other up down = crossed_to s k xs i f other up down li x in
      let rises : h i + up ≡ h other + down = t.forced h b in
      let both : slice_index heights i + h other ≡ slice_index heights other + h i = a.forced i other h li t.in_range t.class b in
      omega arith

  pub no_lift_there : (i : ℕ) → i < 4 * length s.rows → (AgreesAround s xs heights i → ⊥) → HasLiftAt s xs (class_of i) → ⊥
  no_lift_there i li out lift = let h : (h : ℕ → ℕ) × AreHeights s xs (class_of i) h = lift_gives s k xs w (class_of i) lift in out (heights_agree h.0 i li h.1)

  module _ (least : ℕ) (l : IsLeastWrong s xs heights least) where
    heights_before : (c : ℕ) → c < least → AreHeights s xs c (slice_index heights)
    heights_before c lc = agreed c (λ i li e. l.before i li (subst (λ d. d < least) (sym e) lc))

    pub least_without : least < s.vertices.count → IsLeastWithoutLift s xs least
    least_without inside =
        let r : (i : ℕ) × (i < 4 * length s.rows) × (class_of i ≡ least) × (AgreesAround s xs heights i → ⊥) = l.wrong inside in
        record {
          in_range = inside;
          none = λ lift. no_lift_there r.0 r.1 r.3 (subst (HasLiftAt s xs) (sym r.2) lift);
          before = λ c lc. heights_give s k xs w c (omega arith) (slice_index heights) (heights_before c lc);
        }

    pub lift_is : (lows ys : List ℕ) → s.vertices.count ≤ least → AreLeastHeights s heights lows → length ys ≡ 7 * length s.rows
        → ((i : ℕ) → i < 7 * length s.rows → slice_index ys i ≡ lifted_entry s xs heights lows i) → IsLiftOf s xs ys
    lift_is lows ys all low size entries =
        subst (IsLiftOf s xs) (sym (vector_is (length s.rows) higher xs ys size (λ i m. entries i m ∙ entry_there i)))
        (lowered_lift s k xs w (slice_index heights) (slice_index lows) (λ c lc. heights_before c (omega arith)) (λ c lc. low_there c (low.each c lc)))
      where
        higher : ℕ → ℕ
        higher i = slice_index heights i - slice_index lows (class_of i)

        low_there : (c : ℕ) → IsLeastHeight s heights c (slice_index lows c) → IsLow s (slice_index heights) c (slice_index lows c)
        low_there c m = record { member = m.member; within = m.within; in_class = m.in_class; reached = m.reached; least = m.least }

        entry_there : (i : ℕ) → lifted_entry s xs heights lows i ≡ entry_of higher xs i
        entry_there i = elim (cases_lt (i % 7) 4) [
          | inl less ↦ ap (λ b. if b then higher (vertex_number (i / 7) (i % 7)) else slice_index xs (3 * (i / 7) + (i % 7 - 4))) (lt-ltb (i % 7) 4 less) ∙ sym (entry_low higher xs i less)
          | inr more ↦ ap (λ b. if b then higher (vertex_number (i / 7) (i % 7)) else slice_index xs (3 * (i / 7) + (i % 7 - 4))) (le-ltb (i % 7) 4 more) ∙ sym (entry_high higher xs i more)
        ]

-- a lift is a surface over its quads
pub surface_over : (s : Skeleton) (k : IsSkeleton s) (xs : List ℕ) → length xs ≡ 3 * length s.rows → (ys : List ℕ) → IsLiftOf s xs ys → IsSurfaceOver s xs ys
surface_over s k xs w ys f =
    let projects : projected (length s.rows) ys ≡ xs = lift_projects s.rows k.table s.vertices.classes s.vertices.count k.vertices xs ys w f in
    record {
      solves = lift_solves s.rows k.table s.vertices.classes s.vertices.count k.vertices xs ys f;
      admissible = quads_admissible (length s.rows) xs ys projects;
      projects = projects;
    }

-- the quads of one more tetrahedron
pub project_more : (ys : List ℕ) (t : ℕ) (before one two more : List ℕ) (a b c : ℕ) → before ≡ projected t ys → one ≡ before ++ a ∷ [] → two ≡ one ++ b ∷ [] → more ≡ two ++ c ∷ []
    → a ≡ slice_index ys (7 * t + 4) → b ≡ slice_index ys (7 * t + 5) → c ≡ slice_index ys (7 * t + 6) → more ≡ projected (t + 1) ys
project_more ys t before one two more a b c h e f g ea eb ec =
    let e' : one ≡ projected t ys ++ a ∷ [] = e ∙ ap (λ l. l ++ a ∷ []) h in
    let f' : two ≡ projected t ys ++ a ∷ b ∷ [] = f ∙ ap (λ l. l ++ b ∷ []) e' ∙ append_assoc (projected t ys) (a ∷ []) (b ∷ []) in
    let g' : more ≡ projected t ys ++ a ∷ b ∷ c ∷ [] = g ∙ ap (λ l. l ++ c ∷ []) f' ∙ append_assoc (projected t ys) (a ∷ b ∷ []) (c ∷ []) in
    let same : a ∷ b ∷ c ∷ [] ≡ quads_of ys t = λ i. ea' i ∷ eb' i ∷ ec' i ∷ [] in
    g' ∙ ap (λ l. projected t ys ++ l) same ∙ sym more_quads
  where
    ea' : a ≡ slice_index ys (quad_column Standard t 0)
    ea' = ea ∙ ap (slice_index ys) (omega arith)

    eb' : b ≡ slice_index ys (quad_column Standard t 1)
    eb' = eb ∙ ap (slice_index ys) (omega arith)

    ec' : c ≡ slice_index ys (quad_column Standard t 2)
    ec' = ec ∙ ap (slice_index ys) (omega arith)

    more_quads : projected (t + 1) ys ≡ projected t ys ++ quads_of ys t
    more_quads =
        let e : t + 1 ≡ suc t = omega arith in
        ap (λ n. projected n ys) e ∙ ap (flat_map (quads_of ys)) (sym (below-push t)) ∙ flat_map-append (quads_of ys) (below t) (t ∷ [])
