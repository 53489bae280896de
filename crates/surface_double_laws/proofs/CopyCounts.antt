-- The components of m times a connected surface: one for each sheet if it is two-sided, and otherwise one for each two
-- sheets that are equally far from the two ends.
use Rattle.std.proofs.Common.{◌≡◌, ℕ, ◌+◌, ◌-◌, ◌*◌, ◌/◌, ◌<◌, ◌≤◌, Bool, true, false, not, List, [], ◌∷◌, length, map, inl, inr, refl, sym, ap, ◌∙◌, subst, subst₂, arith}
use Rattle.std.specs.Prelude.{slice_index, if◌then◌else◌}
use Rattle.std.specs.List.{slice_index_or}
use Rattle.std.proofs.lemmas.Bool.{cases_lt, cases_eq}
use Rattle.std.proofs.lemmas.List.{length-map}
use Rattle.std.proofs.lemmas.List.FromFn.{length-range_with_len}
use Rattle.basic_lemmas.proofs.Truths.{not_itself}
use Rattle.cone_definitions.specs.Vectors.{multiple}
use Rattle.cone_definitions.proofs.Entries.{entry-multiple}
use Rattle.table_definitions.specs.Lists.{below}
use Rattle.table_definitions.specs.Table.{Row}
use Rattle.table_definitions.proofs.TableLaws.{Among, Among-map, Among-below}
use Rattle.table_definitions.proofs.Listed.{map-among, below-among}
use Rattle.table_definitions.proofs.DistinctLists.{map_apart, apart_below, apart_short}
use Rattle.skeleton_definitions.specs.Skeleton.{Skeleton}
use Rattle.surface_definitions.specs.declared.Coords.{Coords}
use Rattle.surface_definitions.specs.Pieces.{NormalDisc, discs_of, disc_number, Arc, arc_across, disc_of, ArcsLead, AreComponents, keeps_sides, IsTwoSided}
use Rattle.surface_laws.specs.PieceLaws.{IsSurface, IsPieceOf, HasComponents}
use Rattle.surface_laws.proofs.ArcPieces.{from_end, from_end_below}
use Rattle.surface_laws.proofs.ComponentsFound.{components_found}
use Rattle.surface_laws.proofs.PieceNumbers.{no_piece, IsFound, piece_found, listed_piece, number-piece}
use Rattle.surface_laws.proofs.SignedSteps.{arc_found}
use Rattle.surface_efficiency_laws.specs.Laws.{IsConnectedSurface}
use Rattle.surface_double_laws.specs.Copies.{HasComponentCount}
use Rattle.surface_double_laws.proofs.Darts.{turned_on as both}
use Rattle.surface_double_laws.proofs.CopiedDiscs.{copy, copies_surface}
use Rattle.surface_double_laws.proofs.CopyChains.{Leads, leads_somehow, copied_chain, HasChainUnder, chain_under, copy_piece, under_piece, under, sheet, under_copy, sheet_copy, sheet_below, copy_under}
use Rattle.surface_double_laws.proofs.DoublePieces.{double_connected}

-- numbers below h that are carried to different numbers below a count, and to each of them, are as many
as_many : (h count : ℕ) (f : ℕ → ℕ) → ((r : ℕ) → r < h → f r < count) → ((r t : ℕ) → r < h → t < h → f r ≡ f t → r ≡ t) → ((c : ℕ) → c < count → (r : ℕ) × (r < h) × (f r ≡ c)) → count ≡ h
as_many h count f within separate each =
    let a : length (map f (below h)) ≡ h = length-map (below h) f ∙ length-range_with_len 0 h in
    let b : length (below count) ≡ count = length-range_with_len 0 count in
    let limited : length (map f (below h)) ≤ length (below count) = apart_short (map f (below h)) (below count)
    (map_apart f (below h) (apart_below h) (λ r t ar at e. separate r t (below-among r h ar) (below-among t h at) e))
    (λ c m. let r = map-among f c (below h) m in subst (λ z. Among z (below count)) (sym r.2) (Among-below (f r.0) count (within r.0 (below-among r.0 h r.1)))) in
    let many : length (below count) ≤ length (map f (below h)) = apart_short (below count) (map f (below h)) (apart_below count)
    (λ c m. let r = each c (below-among c count m) in subst (λ z. Among z (map f (below h))) r.2 (Among-map f r.0 (below h) (Among-below r.0 h r.1))) in
    omega arith

some_of_two : 1 ≤ 2
some_of_two = omega arith

signs_both : (a b x : Bool) → (if b then if a then x else not x else not (if a then x else not x)) ≡ (if both a b then x else not x)
signs_both true b x = refl
signs_both false true x = refl
signs_both false false true = refl
signs_both false false false = refl

kept_by_sign : (b x : Bool) → x ≡ (if b then x else not x) → b ≡ true
kept_by_sign true x e = refl
kept_by_sign false x e = absurd (not_itself x e)

module _ (rows : List Row) (coords : Coords) (xs : List ℕ) (w : IsSurface rows coords xs) (components : List ℕ) (one : AreComponents rows coords xs components 1) where
  abbrev pub first : NormalDisc
  first = slice_index_or (discs_of xs) (one.none_empty 0 (omega arith)).0 no_piece

  pub first_piece : IsPieceOf xs first
  first_piece = listed_piece xs (one.none_empty 0 (omega arith)).0 no_piece (one.none_empty 0 (omega arith)).1

  -- any two discs of the surface are joined
  pub chain_between : (p q : NormalDisc) → IsPieceOf xs p → IsPieceOf xs q → (arcs : List Arc) × (b : Bool) × Leads rows coords xs p arcs q b
  chain_between p q hp hq =
      let f : IsFound xs p = piece_found xs p hp in
      let g : IsFound xs q = piece_found xs q hq in
      let a : slice_index components (disc_number xs p) < 1 = one.in_range (disc_number xs p) f.in_range in
      let b : slice_index components (disc_number xs q) < 1 = one.in_range (disc_number xs q) g.in_range in
      let c = (one.together (disc_number xs p) (disc_number xs q) f.in_range g.in_range).0 (omega arith) in
      let l = leads_somehow rows coords xs p q c.0 (subst₂ (λ a b. ArcsLead rows coords xs a c.0 b) f.there g.there c.1) in
      (c.0, l.0, l.1)

  -- along a chain of a two-sided surface its sign changes if sides are exchanged
  module _ (sides : IsTwoSided rows coords xs components 0) where
    sign : NormalDisc → Bool
    sign p = sides.0 (disc_number xs p)

    sign_along : (p q : NormalDisc) (arcs : List Arc) (b : Bool) → Leads rows coords xs p arcs q b → sign q ≡ (if b then sign p else not (sign p))
    unfolding sign
    sign_along p q [] b (e, z) = ap sign (sym e) ∙ sym (ap (λ c. if c then sign p else not (sign p)) z)
    sign_along p q (a ∷ arcs) b (g, c, h, e, z, more) =
        let f : IsFound xs (disc_of coords xs a) = arc_found rows coords xs w a g h in
        let l : slice_index components (disc_number xs (disc_of coords xs a)) < 1 = one.in_range (disc_number xs (disc_of coords xs a)) f.in_range in
        sign_along (disc_of coords xs (arc_across g a)) q arcs c more
        ∙ ap (λ x. if c then x else not x) (sides.1 a g h (omega arith) ∙ ap (λ d. if keeps_sides coords xs a g then sign d else not (sign d)) e)
        ∙ signs_both (keeps_sides coords xs a g) c (sign p) ∙ sym (ap (λ t. if t then sign p else not (sign p)) z)

    pub loop_keeps : (arcs : List Arc) (b : Bool) → Leads rows coords xs first arcs first b → b ≡ true
    loop_keeps arcs b c = kept_by_sign b (sign first) (sign_along first first arcs b c)

  module _ (m : ℕ) (some : 1 ≤ m) (classes : List ℕ) (count : ℕ) (are : AreComponents rows coords (multiple m xs) classes count) where
    abbrev ys : List ℕ
    ys = multiple m xs

    abbrev pub class_of : NormalDisc → ℕ
    class_of p = slice_index classes (disc_number (multiple m xs) p)

    -- the component of the copy of the first disc on a sheet
    pub sheet_class : ℕ → ℕ
    sheet_class r = class_of (copy m first r)

    first_copy : (r : ℕ) → r < m → IsPieceOf (multiple m xs) (copy m first r)
    first_copy r l = copy_piece m some rows coords xs w first r l first_piece

    pub within : (r : ℕ) → r < m → sheet_class r < count
    unfolding sheet_class
    within r l = are.in_range (disc_number ys (copy m first r)) (piece_found ys (copy m first r) (first_copy r l)).in_range

    -- a chain from p to the first disc leads from a copy of p to a copy of the first disc
    pub joined : (p : NormalDisc) (k : ℕ) → k < m → IsPieceOf xs p → (arcs : List Arc) (b : Bool) → Leads rows coords xs p arcs first b → class_of (copy m p k) ≡ sheet_class (from_end m b k)
    unfolding sheet_class
    joined p k l h arcs b c =
        let r = copied_chain m some rows coords xs w p first arcs b k l c in
        let f : IsFound ys (copy m p k) = piece_found ys (copy m p k) (copy_piece m some rows coords xs w p k l h) in
        let g : IsFound ys (copy m first (from_end m b k)) = piece_found ys (copy m first (from_end m b k)) (first_copy (from_end m b k) (from_end_below m b k l)) in
        (are.together (disc_number ys (copy m p k)) (disc_number ys (copy m first (from_end m b k))) f.in_range g.in_range).1
        (r.0, subst₂ (λ a d. ArcsLead rows coords ys a r.0 d) (sym f.there) (sym g.there) r.1)

    -- each component contains a copy of the first disc
    pub each : (c : ℕ) → c < count → (r : ℕ) × (r < m) × (sheet_class r ≡ c)
    each c l =
        let a = are.none_empty c l in
        let q : NormalDisc = slice_index_or (discs_of ys) a.0 no_piece in
        let h : IsPieceOf ys (slice_index_or (discs_of ys) a.0 no_piece) = listed_piece ys a.0 no_piece a.1 in
        let u : IsPieceOf xs (under m (slice_index_or (discs_of ys) a.0 no_piece)) = under_piece m some rows coords xs w (slice_index_or (discs_of ys) a.0 no_piece) h in
        let lk : sheet m (slice_index_or (discs_of ys) a.0 no_piece) < m = sheet_below m (slice_index_or (discs_of ys) a.0 no_piece) some in
        let ch = chain_between (under m (slice_index_or (discs_of ys) a.0 no_piece)) first u first_piece in (
          from_end m ch.1 (sheet m q),
          from_end_below m ch.1 (sheet m q) lk,
          sym (joined (under m q) (sheet m q) lk u ch.0 ch.1 ch.2) ∙ ap class_of (copy_under m q) ∙ ap (slice_index classes) (number-piece ys a.0 no_piece a.1) ∙ a.2,
        )

    -- two copies of the first disc in one component are joined by a chain of the surface
    pub loop : (r t : ℕ) → r < m → t < m → sheet_class r ≡ sheet_class t → (arcs : List Arc) × (b : Bool) × Leads rows coords xs first arcs first b × (t ≡ from_end m b r)
    unfolding sheet_class
    loop r t lr lt e =
        let f : IsFound ys (copy m first r) = piece_found ys (copy m first r) (first_copy r lr) in
        let g : IsFound ys (copy m first t) = piece_found ys (copy m first t) (first_copy t lt) in
        let c = (are.together (disc_number ys (copy m first r)) (disc_number ys (copy m first t)) f.in_range g.in_range).0 e in
        let u : HasChainUnder m some rows coords xs w (copy m first r) (copy m first t) =
        chain_under m some rows coords xs w (copy m first r) (copy m first t) c.0 (subst₂ (λ a b. ArcsLead rows coords ys a c.0 b) f.there g.there c.1) in (
          u.arcs,
          u.keeps,
          subst₂ (λ a b. Leads rows coords xs a u.arcs b u.keeps) (under_copy m first r lr) (under_copy m first t lt) u.leads,
          sym (sheet_copy m first t lt) ∙ u.sheets ∙ ap (from_end m u.keeps) (sheet_copy m first r lr),
        )

    pub two_sided_count : IsTwoSided rows coords xs components 0 → count ≡ m
    two_sided_count sides = as_many m count sheet_class within
        (λ r t lr lt e. let c = loop r t lr lt e in sym (c.3 ∙ ap (λ b. from_end m b r) (loop_keeps sides c.0 c.1 c.2))) each

    -- a chain that exchanges sides joins each sheet to the one from the other end
    module _ (arcs : List Arc) (odd : Leads rows coords xs first arcs first false) where
      pub other_end : (r : ℕ) → r < m → sheet_class r ≡ sheet_class (m - 1 - r)
      unfolding sheet_class
      other_end r l = joined first r l first_piece arcs false odd

      one_of_two : (b : Bool) (r t : ℕ) → r < (m + 1) / 2 → t < (m + 1) / 2 → t ≡ from_end m b r → r ≡ t
      one_of_two true r t lr lt e = sym e
      one_of_two false r t lr lt e = omega arith

      pub one_sided_count : count ≡ (m + 1) / 2
      one_sided_count = as_many ((m + 1) / 2) count sheet_class (λ r l. within r (omega arith))
          (λ r t lr lt e. let c = loop r t (omega arith) (omega arith) e in one_of_two c.1 r t lr lt c.3) (λ c l. from_middle (each c l))
        where
          from_middle : {c : ℕ} → (r : ℕ) × (r < m) × (sheet_class r ≡ c) → (r : ℕ) × (r < (m + 1) / 2) × (sheet_class r ≡ c)
          from_middle (r, l, e) = elim (cases_lt r ((m + 1) / 2)) [
            | inl low ↦ (r, low, e)
            | inr high ↦ (m - 1 - r, (let h : (m + 1) / 2 ≤ r = high in omega arith), sym (other_end r l) ∙ e)
          ]

  -- if the double is connected, some chain exchanges sides
  pub exchange : (double : List ℕ) → AreComponents rows coords (multiple 2 xs) double 1 → (arcs : List Arc) × Leads rows coords xs first arcs first false
  exchange double h =
      let a : sheet_class 2 some_of_two double 1 h 0 < 1 = within 2 some_of_two double 1 h 0 (omega arith) in
      let b : sheet_class 2 some_of_two double 1 h 1 < 1 = within 2 some_of_two double 1 h 1 (omega arith) in
      let c = loop 2 some_of_two double 1 h 0 1 (omega arith) (omega arith) (omega arith) in
      (c.0, subst (λ t. Leads rows coords xs first c.0 first t) (exchanged c.1 c.3) c.2)
    where
      exchanged : (b : Bool) → 1 ≡ from_end 2 b 0 → b ≡ false
      exchanged true e = absurd (omega arith)
      exchanged false e = refl

-- no copy of a surface has no component
pub none_of_none : (rows : List Row) (coords : Coords) (xs classes : List ℕ) (count : ℕ) → AreComponents rows coords (multiple 0 xs) classes count → count ≡ 0
none_of_none rows coords xs classes count are = elim (cases_lt 0 count) [
  | inr none ↦ omega arith
  | inl some ↦ absurd (
      let a = are.none_empty 0 some in
      let h : IsPieceOf (multiple 0 xs) (slice_index_or (discs_of (multiple 0 xs)) a.0 no_piece) = listed_piece (multiple 0 xs) a.0 no_piece a.1 in
      let p : NormalDisc = slice_index_or (discs_of (multiple 0 xs)) a.0 no_piece in
      let l : p.number < slice_index (multiple 0 xs) p.column = h.number in
      let e : slice_index (multiple 0 xs) p.column ≡ 0 * slice_index xs p.column = entry-multiple 0 xs p.column in
      omega arith)
]

pub with_count : (s : Skeleton) (coords : Coords) (ys : List ℕ) (n : ℕ) → IsSurface s.rows coords ys → ((classes : List ℕ) (count : ℕ) → AreComponents s.rows coords ys classes count → count ≡ n) → HasComponentCount s coords ys n
with_count s coords ys n w only =
    let f : HasComponents s.rows coords ys = components_found s.rows coords ys w in
    record { components = f.components; are = subst (AreComponents s.rows coords ys f.components) (only f.components f.count f.are) f.are; only = only }

module _ (s : Skeleton) (coords : Coords) (xs : List ℕ) (m : ℕ) (c : IsConnectedSurface s coords xs) where
  counted : (n : ℕ) → (m ≡ 0 → n ≡ 0) → (1 ≤ m → (classes : List ℕ) (count : ℕ) → AreComponents s.rows coords (multiple m xs) classes count → count ≡ n) → HasComponentCount s coords (multiple m xs) n
  counted n none some = with_count s coords (multiple m xs) n (copies_surface m s.rows coords xs c.surface) (λ classes count are. elim (cases_eq m 0) [
    | inl z ↦ none_of_none s.rows coords xs classes count (subst (λ k. AreComponents s.rows coords (multiple k xs) classes count) z are) ∙ sym (none z)
    | inr nz ↦ some (omega arith) classes count are
  ])

  pub copies_two_sided : IsTwoSided s.rows coords xs c.components 0 → HasComponentCount s coords (multiple m xs) m
  copies_two_sided sides = counted m (λ z. z) (λ some classes count are. two_sided_count s.rows coords xs c.surface c.components c.one m some classes count are sides)

  pub copies_one_sided : ¬ IsTwoSided s.rows coords xs c.components 0 → HasComponentCount s coords (multiple m xs) ((m + 1) / 2)
  copies_one_sided sides =
      let double : IsConnectedSurface s coords (multiple 2 xs) = double_connected s coords xs c sides in
      let odd = exchange s.rows coords xs c.surface c.components c.one double.components double.one in
      counted ((m + 1) / 2) (λ z. let e : m ≡ 0 = z in omega arith) (λ some classes count are. one_sided_count s.rows coords xs c.surface c.components c.one m some classes count are odd.0 odd.1)
