-- All sides of the triangles of a vertex class, each as a flag.
use Rattle.std.proofs.Common.{◌≡◌, ◌≢◌, ℕ, ◌*◌, ◌/◌, ◌%◌, ◌<◌, Bool, true, false, not, List, ◌++◌, length, map, filter, flat_map, ◌⊎◌, inl, inr, refl, sym, ap, ◌∙◌, subst, arith}
use Rattle.std.specs.Prelude.{◌==◌, ◌&&◌, ◌||◌, nat_lt, slice_index}
use Rattle.std.specs.List.{list_all}
use Rattle.std.proofs.lemmas.Bool.{eqb-true, eq-eqb, ne_eqb, ltb-true, and_parts, or_cases}
use Rattle.basic_lemmas.proofs.Numbers.{not_equal}
use Rattle.table_definitions.specs.Lists.{below}
use Rattle.table_definitions.specs.Classes.{members}
use Rattle.table_definitions.specs.Permutation.{four, others}
use Rattle.table_definitions.proofs.ListFacts.{list_all-below}
use Rattle.table_definitions.proofs.Listed.{Among-filter, filter-among, below-among, Among-flat_map, flat_map-among, map-among, appended-among, Among-others}
use Rattle.table_definitions.proofs.TableLaws.{Among, Among-below, Among-map, Among-left, Among-right}
use Rattle.skeleton_definitions.specs.Corners.{Corner}
use Rattle.skeleton_definitions.specs.Links.{vertex_number}
use Rattle.skeleton_definitions.specs.Skeleton.{Skeleton}
use Rattle.surface_laws.proofs.Solved.{other_is}
use Rattle.surface_quad_lift_laws.proofs.Flags.{IsVertexClass, IsFlag, triangle_of, turn, turn_in}

-- the other two vertices
abbrev pub rest : ℕ → ℕ → List ℕ
rest a f = filter (λ v. not (v == a) && not (v == f)) four

-- the flag of the side in face f of the triangle at a
abbrev pub flag_of : ℕ → ℕ → ℕ → Corner
flag_of t a f = record { tet = t; a = a; b = slice_index (rest a f) 0; c = f; d = slice_index (rest a f) 1 }

rest_test : ℕ → ℕ → Bool
rest_test a f =
    (a == f) || ((nat_lt (slice_index (rest a f) 0) 4 && nat_lt (slice_index (rest a f) 1) 4)
    && ((not (a == slice_index (rest a f) 0) && not (a == slice_index (rest a f) 1))
    && ((not (f == slice_index (rest a f) 0) && not (f == slice_index (rest a f) 1)) && not (slice_index (rest a f) 0 == slice_index (rest a f) 1))))

-- two different vertices and the other two
pub record AreFour (a f x y : ℕ) : Type 0 where
  pub lx : x < 4
  pub ly : y < 4
  pub ax : a ≢ x
  pub ay : a ≢ y
  pub fx : f ≢ x
  pub fy : f ≢ y
  pub xy : x ≢ y

pub rest_is : (a f : ℕ) → a < 4 → f < 4 → a ≢ f → AreFour a f (slice_index (rest a f) 0) (slice_index (rest a f) 1)
unfolding rest_test
rest_is a f la lf ne = by_test (or_cases (a == f) _ (list_all-below (rest_test a) 4 (list_all-below (λ x. list_all (rest_test x) (below 4)) 4 refl a la) f lf))
  where
    x : ℕ
    x = slice_index (rest a f) 0

    y : ℕ
    y = slice_index (rest a f) 1

    by_test : ((a == f) ≡ true) ⊎ (((nat_lt (slice_index (rest a f) 0) 4 && nat_lt (slice_index (rest a f) 1) 4)
        && ((not (a == slice_index (rest a f) 0) && not (a == slice_index (rest a f) 1))
        && ((not (f == slice_index (rest a f) 0) && not (f == slice_index (rest a f) 1)) && not (slice_index (rest a f) 0 == slice_index (rest a f) 1)))) ≡ true)
        → AreFour a f (slice_index (rest a f) 0) (slice_index (rest a f) 1)
    by_test (inl e) = absurd (ne (eqb-true a f e))
    by_test (inr e) =
        let p = and_parts _ _ e in
        let small = and_parts (nat_lt (slice_index (rest a f) 0) 4) (nat_lt (slice_index (rest a f) 1) 4) p.0 in
        let q = and_parts _ _ p.1 in
        let off_a = and_parts (not (a == slice_index (rest a f) 0)) (not (a == slice_index (rest a f) 1)) q.0 in
        let r = and_parts _ _ q.1 in
        let off_f = and_parts (not (f == slice_index (rest a f) 0)) (not (f == slice_index (rest a f) 1)) r.0 in
        record {
          lx = ltb-true (slice_index (rest a f) 0) 4 small.0;
          ly = ltb-true (slice_index (rest a f) 1) 4 small.1;
          ax = not_equal a (slice_index (rest a f) 0) off_a.0;
          ay = not_equal a (slice_index (rest a f) 1) off_a.1;
          fx = not_equal f (slice_index (rest a f) 0) off_f.0;
          fy = not_equal f (slice_index (rest a f) 1) off_f.1;
          xy = not_equal (slice_index (rest a f) 0) (slice_index (rest a f) 1) r.1;
        }

-- two vertices that are neither of two others are the rest, in one order or the other
pair_test : ℕ → ℕ → ℕ → ℕ → Bool
pair_test a f b d =
    ((a == f) || ((a == b) || ((a == d) || ((f == b) || ((f == d) || (b == d))))))
    || (((b == slice_index (rest a f) 0) && (d == slice_index (rest a f) 1)) || ((b == slice_index (rest a f) 1) && (d == slice_index (rest a f) 0)))

pub pair_is : (a f b d : ℕ) → a < 4 → f < 4 → b < 4 → d < 4 → a ≢ f → a ≢ b → a ≢ d → f ≢ b → f ≢ d → b ≢ d
    → ((b ≡ slice_index (rest a f) 0) × (d ≡ slice_index (rest a f) 1)) ⊎ ((b ≡ slice_index (rest a f) 1) × (d ≡ slice_index (rest a f) 0))
unfolding pair_test
pair_is a f b d la lf lb ld af ab ad fb fd bd =
    by_test (or_cases _ _ (list_all-below (pair_test a f b) 4 (list_all-below (λ x. list_all (pair_test a f x) (below 4)) 4 (list_all-below (λ w. list_all (λ x. list_all (pair_test a w x) (below 4)) (below 4)) 4
    (list_all-below (λ v. list_all (λ w. list_all (λ x. list_all (pair_test v w x) (below 4)) (below 4)) (below 4)) 4 refl a la) f lf) b lb) d ld))
  where
    no : (x y : ℕ) → x ≢ y → (x == y) ≡ false
    no x y e = ne_eqb x y e

    clash : ((a == f) || ((a == b) || ((a == d) || ((f == b) || ((f == d) || (b == d)))))) ≡ false
    clash = let p : (a == f) ≡ false = ne_eqb a f af in let q : (a == b) ≡ false = ne_eqb a b ab in let r : (a == d) ≡ false = ne_eqb a d ad in
        let t : (f == b) ≡ false = ne_eqb f b fb in let u : (f == d) ≡ false = ne_eqb f d fd in let v : (b == d) ≡ false = ne_eqb b d bd in rw (p, q, r, t, u, v) refl

    by_order : (((b == slice_index (rest a f) 0) && (d == slice_index (rest a f) 1)) ≡ true) ⊎ (((b == slice_index (rest a f) 1) && (d == slice_index (rest a f) 0)) ≡ true)
        → ((b ≡ slice_index (rest a f) 0) × (d ≡ slice_index (rest a f) 1)) ⊎ ((b ≡ slice_index (rest a f) 1) × (d ≡ slice_index (rest a f) 0))
    by_order (inl e) = let p = and_parts (b == slice_index (rest a f) 0) (d == slice_index (rest a f) 1) e in inl (eqb-true b (slice_index (rest a f) 0) p.0, eqb-true d (slice_index (rest a f) 1) p.1)
    by_order (inr e) = let p = and_parts (b == slice_index (rest a f) 1) (d == slice_index (rest a f) 0) e in inr (eqb-true b (slice_index (rest a f) 1) p.0, eqb-true d (slice_index (rest a f) 0) p.1)

    by_test : (((a == f) || ((a == b) || ((a == d) || ((f == b) || ((f == d) || (b == d)))))) ≡ true)
        ⊎ ((((b == slice_index (rest a f) 0) && (d == slice_index (rest a f) 1)) || ((b == slice_index (rest a f) 1) && (d == slice_index (rest a f) 0))) ≡ true)
        → ((b ≡ slice_index (rest a f) 0) × (d ≡ slice_index (rest a f) 1)) ⊎ ((b ≡ slice_index (rest a f) 1) × (d ≡ slice_index (rest a f) 0))
    by_test (inl e) = absurd (let w : false ≡ true = sym clash ∙ e in cc)
    by_test (inr e) = by_order (or_cases _ _ e)

module _ (s : Skeleton) (c : ℕ) (z : IsVertexClass s c) where
  abbrev n : ℕ
  n = length s.rows

  abbrev class_of : ℕ → ℕ
  class_of i = slice_index s.vertices.classes i

  pub flag_in : (t a f : ℕ) → t < n → a < 4 → f < 4 → a ≢ f → class_of (vertex_number t a) ≡ c → IsFlag s c z (flag_of t a f)
  flag_in t a f lt la lf ne ch =
      let r = rest_is a f la lf ne in
      record {
        four = record { tet = lt; a = la; b = r.lx; c = lf; d = r.ly; ab = r.ax; ac = ne; ad = r.ay; bc = λ e. r.fx (sym e); bd = r.xy; cd = r.fy };
        chosen = ch;
      }

  -- a flag with the end b
  abbrev pub flag_to : ℕ → ℕ → ℕ → Corner
  flag_to t a b = record { tet = t; a = a; b = b; c = slice_index (rest a b) 0; d = slice_index (rest a b) 1 }

  pub flag_to_in : (t a b : ℕ) → t < n → a < 4 → b < 4 → a ≢ b → class_of (vertex_number t a) ≡ c → IsFlag s c z (flag_to t a b)
  flag_to_in t a b lt la lb ne ch =
      let r = rest_is a b la lb ne in
      record {
        four = record { tet = lt; a = la; b = lb; c = r.lx; d = r.ly; ab = ne; ac = r.ax; ad = r.ay; bc = r.fx; bd = r.fy; cd = r.xy };
        chosen = ch;
      }

  -- a flag is that of its side, or the other end's
  pub flag_is : (k : Corner) → IsFlag s c z k → (k ≡ flag_of k.tet k.a k.c) ⊎ (k ≡ turn (flag_of k.tet k.a k.c))
  flag_is k h =
      let f = h.four in
      elim (pair_is k.a k.c k.b k.d f.a f.c f.b f.d f.ac f.ab f.ad (λ e. f.bc (sym e)) f.cd f.bd) [
        | inl e ↦ inl (λ i. record { tet = k.tet; a = k.a; b = e.0 i; c = k.c; d = e.1 i })
        | inr e ↦ inr (λ i. record { tet = k.tet; a = k.a; b = e.0 i; c = k.c; d = e.1 i })
      ]

  -- one flag for each side
  abbrev pub flags_at : ℕ → List Corner
  flags_at i = map (flag_of (i / 4) (i % 4)) (others (i % 4))

  abbrev pub side_flags : List Corner
  side_flags = flat_map flags_at (members s.vertices.classes c)

  pub member_listed : (i : ℕ) → i < 4 * n → class_of i ≡ c → Among i (members s.vertices.classes c)
  member_listed i l e = Among-filter (λ i. slice_index s.vertices.classes i == c) i (below (length s.vertices.classes))
      (Among-below i (length s.vertices.classes) (let o = (z.skeleton).vertices.one_each in omega arith)) (eq-eqb (class_of i) c e)

  pub listed_member : (i : ℕ) → Among i (members s.vertices.classes c) → (i < 4 * n) × (class_of i ≡ c)
  listed_member i h =
      let m = filter-among (λ i. slice_index s.vertices.classes i == c) i (below (length s.vertices.classes)) h in
      let l : i < 4 * n = let b = below-among i (length s.vertices.classes) m.0 in let o = (z.skeleton).vertices.one_each in omega arith in
      (l, eqb-true (class_of i) c m.1)

  pub flag_listed : (k : Corner) → IsFlag s c z k → Among (flag_of k.tet k.a k.c) side_flags
  flag_listed k h =
      let f = h.four in
      let i : ℕ = triangle_of k in
      let li : i < 4 * n = let a = f.a in let t = f.tet in omega arith in
      let d : i / 4 ≡ k.tet = let a = f.a in omega arith in
      let m : i % 4 ≡ k.a = let a = f.a in omega arith in
      let off : k.c ≡ i % 4 → ⊥ = λ e. f.ac (sym (e ∙ m)) in
      subst (λ l. Among l side_flags) (λ j. flag_of (d j) (m j) k.c)
      (Among-flat_map flags_at i (flag_of (i / 4) (i % 4) k.c) (members s.vertices.classes c) (member_listed i li h.chosen) (Among-map (flag_of (i / 4) (i % 4)) k.c (others (i % 4)) (Among-others (i % 4) k.c f.c off)))

  pub listed_flag : (k : Corner) → Among k side_flags → IsFlag s c z k
  listed_flag k h =
      let m = flat_map-among flags_at k (members s.vertices.classes c) h in
      let w = map-among (flag_of (m.0 / 4) (m.0 % 4)) k (others (m.0 % 4)) m.2 in
      let o = other_is (m.0 % 4) w.0 w.1 in
      let i = listed_member m.0 m.1 in
      let li : m.0 < 4 * n = i.0 in
      let whole : m.0 ≡ vertex_number (m.0 / 4) (m.0 % 4) = omega arith in
      subst (IsFlag s c z) (sym w.2) (flag_in (m.0 / 4) (m.0 % 4) w.0 (omega arith) (omega arith) o.0 (λ e. o.1 (sym e)) (ap class_of (sym whole) ∙ i.1))

  -- all flags, at both ends of each side
  abbrev pub every_flag : List Corner
  every_flag = side_flags ++ map turn side_flags

  pub flag_everywhere : (k : Corner) → IsFlag s c z k → Among k every_flag
  flag_everywhere k h = elim (flag_is k h) [
    | inl e ↦ Among-left k side_flags (map turn side_flags) (subst (λ l. Among l side_flags) (sym e) (flag_listed k h))
    | inr e ↦ Among-right k side_flags (map turn side_flags) (subst (λ l. Among l (map turn side_flags)) (sym e) (Among-map turn (flag_of k.tet k.a k.c) side_flags (flag_listed k h)))
  ]

  pub everywhere_flag : (k : Corner) → Among k every_flag → IsFlag s c z k
  everywhere_flag k h = elim (appended-among k side_flags (map turn side_flags) h) [
    | inl a ↦ listed_flag k a
    | inr a ↦ (let m = map-among turn k side_flags a in subst (IsFlag s c z) (sym m.2) (turn_in s c z m.0 (listed_flag m.0 m.1)))
  ]
