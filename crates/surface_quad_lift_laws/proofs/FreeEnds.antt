-- The ends of sides in boundary faces are at most as many as these sides: each is the end of two.
use Rattle.std.proofs.Common.{◌≡◌, ℕ, ◌+◌, ◌*◌, ◌/◌, ◌%◌, ◌<◌, ◌≤◌, List, [], ◌∷◌, ◌++◌, length, map, filter, None, inl, inr, refl, sym, ap, ◌∙◌, subst, arith}
use Rattle.std.specs.Prelude.{◌==◌, ◌&&◌, slice_index}
use Rattle.std.proofs.lemmas.List.{length-map, length-append}
use Rattle.table_definitions.specs.Classes.{IsNumbering, is_least}
use Rattle.table_definitions.specs.Lists.{below, has}
use Rattle.table_definitions.specs.Table.{glue}
use Rattle.table_definitions.proofs.Listed.{Among-filter, filter-among, map-among, appended-among, has_among, among_has}
use Rattle.table_definitions.proofs.TableLaws.{Among, Among-map, Among-left, Among-right}
use Rattle.skeleton_definitions.specs.Corners.{Corner, left_through}
use Rattle.skeleton_definitions.specs.Links.{SameDirected, vertex_number}
use Rattle.skeleton_definitions.specs.Skeleton.{Skeleton}
use Rattle.table_definitions.proofs.DistinctLists.{AreApart, apart_filter, apart_below, apart_short}
use Rattle.surface_quad_lift_laws.proofs.Ends.{end_of, link_vertex_list, end_listed}
use Rattle.surface_quad_lift_laws.proofs.Flags.{IsVertexClass, IsFlag, turn_in, side, turn}
use Rattle.surface_quad_lift_laws.proofs.FreeSides.{free_sides, IsFreeSide, listed_free, free_listed}
use Rattle.surface_quad_lift_laws.proofs.FreeWalks.{code, code_tells, HasPartner, partner_of}
use Rattle.surface_quad_lift_laws.proofs.SideLists.{flag_of, flag_is}

-- the flag of a side, by number
abbrev flag_at : ℕ → Corner
flag_at x = flag_of (x / 16) ((x / 4) % 4) (x % 4)

module _ (s : Skeleton) (c : ℕ) (z : IsVertexClass s c) (directions : List ℕ) (count : ℕ) (numbered : IsNumbering (12 * length s.rows) (SameDirected s.rows) directions count) where
  abbrev end : Corner → ℕ
  end k = end_of s c z directions count numbered k

  -- a flag of a boundary side
  pub record IsFreeFlag (k : Corner) : Type 0 where
    pub flag : IsFlag s c z k
    pub free : glue s.rows (left_through k) ≡ None

  free_flags : List Corner
  free_flags = map flag_at (free_sides s c z) ++ map (λ x. turn (flag_at x)) (free_sides s c z)

  length-free : length free_flags ≡ length (free_sides s c z) + length (free_sides s c z)
  unfolding free_flags
  length-free = length-append (map flag_at (free_sides s c z)) (map (λ x. turn (flag_at x)) (free_sides s c z)) ∙ (λ i. length-map (free_sides s c z) flag_at i + length-map (free_sides s c z) (λ x. turn (flag_at x)) i)

  -- the flag of a flag's side
  at_side : (k : Corner) → IsFlag s c z k → flag_at (side k) ≡ flag_of k.tet k.a k.c
  at_side k h =
      let la : k.a < 4 = (h.four).a in
      let lc : k.c < 4 = (h.four).c in
      let t : side k / 16 ≡ k.tet = omega arith in
      let a : (side k / 4) % 4 ≡ k.a = omega arith in
      let f : side k % 4 ≡ k.c = omega arith in
      λ i. flag_of (t i) (a i) (f i)

  free_in : (k : Corner) → IsFreeFlag k → Among k free_flags
  unfolding free_flags
  free_in k h =
      let a : Among (side k) (free_sides s c z) = free_listed s c z k h.flag h.free in
      elim (flag_is s c z k h.flag) [
        | inl e ↦ Among-left k (map flag_at (free_sides s c z)) (map (λ x. turn (flag_at x)) (free_sides s c z))
            (subst (λ (u : Corner). Among u (map flag_at (free_sides s c z))) (at_side k h.flag ∙ sym e) (Among-map flag_at (side k) (free_sides s c z) a))
        | inr e ↦ Among-right k (map flag_at (free_sides s c z)) (map (λ x. turn (flag_at x)) (free_sides s c z))
            (subst (λ (u : Corner). Among u (map (λ x. turn (flag_at x)) (free_sides s c z))) (ap turn (at_side k h.flag) ∙ sym e) (Among-map (λ x. turn (flag_at x)) (side k) (free_sides s c z) a))
      ]

  of_side : (x : ℕ) → Among x (free_sides s c z) → IsFreeFlag (flag_at x)
  of_side x a =
      let f : IsFreeSide s c z x = listed_free s c z x a in
      let same : flag_of (f.k).tet (f.k).a (f.k).c ≡ flag_at x = sym (at_side f.k f.flag) ∙ ap flag_at f.is in
      subst IsFreeFlag same (elim (flag_is s c z f.k f.flag) [
        | inl e ↦ record { flag = subst (IsFlag s c z) e f.flag; free = f.free }
        | inr e ↦ record { flag = subst (IsFlag s c z) (ap turn e) (turn_in s c z f.k f.flag); free = f.free }
      ])

  free_is : (k : Corner) → Among k free_flags → IsFreeFlag k
  unfolding free_flags
  free_is k h = elim (appended-among k (map flag_at (free_sides s c z)) (map (λ x. turn (flag_at x)) (free_sides s c z)) h) [
    | inl a ↦ (let m = map-among flag_at k (free_sides s c z) a in subst IsFreeFlag (sym m.2) (of_side m.0 m.1))
    | inr a ↦ (let m = map-among (λ x. turn (flag_at x)) k (free_sides s c z) a in let f = of_side m.0 m.1 in subst IsFreeFlag (sym m.2) (record { flag = turn_in s c z (flag_at m.0) f.flag; free = f.free }))
  ]

  -- the ends of boundary sides
  pub free_end_list : List ℕ
  free_end_list = filter (λ i. has (map end free_flags) i) (link_vertex_list s c z directions count numbered)

  pub free_end_apart : AreApart free_end_list
  unfolding free_end_list
  free_end_apart = apart_filter (λ i. has (map end free_flags) i) (link_vertex_list s c z directions count numbered)
      (apart_filter (λ i. is_least directions i && (slice_index s.vertices.classes (vertex_number (i / 12) ((i % 12) / 3)) == c)) (below (length directions)) (apart_below (length directions)))

  pub free_end_within : (x : ℕ) → Among x free_end_list → Among x (link_vertex_list s c z directions count numbered)
  unfolding free_end_list
  free_end_within x a = (filter-among (λ i. has (map end free_flags) i) x (link_vertex_list s c z directions count numbered) a).0

  pub free_end_listed : (k : Corner) → IsFlag s c z k → glue s.rows (left_through k) ≡ None → Among (end k) free_end_list
  unfolding free_end_list
  free_end_listed k h e = Among-filter (λ i. has (map end free_flags) i) (end k) (link_vertex_list s c z directions count numbered) (end_listed s c z directions count numbered k h)
      (among_has (map end free_flags) (end k) (Among-map end k free_flags (free_in k (record { flag = h; free = e }))))

  of_end : (p : ℕ) → Among p free_end_list → (k : Corner) × IsFreeFlag k × (end k ≡ p)
  unfolding free_end_list
  of_end p a =
      let h = (filter-among (λ i. has (map end free_flags) i) p (link_vertex_list s c z directions count numbered) a).1 in
      let m = map-among end p free_flags (has_among (map end free_flags) p h) in
      (m.0, free_is m.0 m.1, sym m.2)

  -- two flags for each of some ends, all different
  record AreDoubled (ps : List ℕ) : Type 0 where
    codes : List ℕ
    separate : AreApart codes
    twice : length codes ≡ length ps + length ps
    from : (x : ℕ) → Among x codes → (k : Corner) × IsFreeFlag k × (code k ≡ x) × Among (end k) ps

  doubled : (ps : List ℕ) → AreApart ps → ((p : ℕ) → Among p ps → (k : Corner) × IsFreeFlag k × (end k ≡ p)) → AreDoubled ps
  doubled [] separate each = record { codes = []; separate = tt; twice = refl; from = λ x a. absurd a }
  doubled (p ∷ ps) separate each = join (each p (inl refl)) (doubled ps separate.1 (λ q a. each q (inr a)))
    where
      join : (k : Corner) × IsFreeFlag k × (end k ≡ p) → AreDoubled ps → AreDoubled (p ∷ ps)
      join k more =
          let f : IsFreeFlag k.0 = k.1 in
          let w : HasPartner s c z directions count numbered k.0 = partner_of s c z directions count numbered k.0 f.flag f.free in
          let end_w : end w.w ≡ p = w.same_end ∙ k.2 in
          let new : (l : Corner) → IsFreeFlag l → end l ≡ p → Among (code l) more.codes → ⊥ = λ l g e a.
          let m = more.from (code l) a in
          let one : m.0 ≡ l = code_tells s c z m.0 l (m.1).flag g.flag m.2 in
          separate.0 (subst (λ i. Among i ps) (ap end one ∙ e) m.3) in
          record {
            codes = code k.0 ∷ code w.w ∷ more.codes;
            separate = (
              (λ a. elim a [ inl q ↦ w.other (sym q) | inr b ↦ new k.0 f k.2 b ]),
              ((λ b. new w.w (record { flag = w.flag; free = w.free }) end_w b), more.separate),
            );
            twice = (let t = more.twice in omega arith);
            from = λ x a. elim a [
              | inl q ↦ (k.0, f, sym q, inl k.2)
              | inr b ↦ elim b [
                | inl q ↦ (w.w, record { flag = w.flag; free = w.free }, sym q, inl end_w)
                | inr d ↦ (let m = more.from x d in (m.0, m.1, m.2, inr m.3))
              ]
            ];
          }

  pub few_ends : length free_end_list ≤ length (free_sides s c z)
  few_ends =
      let d : AreDoubled free_end_list = doubled free_end_list free_end_apart of_end in
      let short : length d.codes ≤ length (map code free_flags) = apart_short d.codes (map code free_flags) d.separate
      (λ x a. let m = d.from x a in subst (λ i. Among i (map code free_flags)) m.2 (Among-map code m.0 free_flags (free_in m.0 m.1))) in
      let size : length (map code free_flags) ≡ length free_flags = length-map free_flags code in
      let both : length free_flags ≡ length (free_sides s c z) + length (free_sides s c z) = length-free in
      let t = d.twice in
      omega arith
