-- Chains of arcs of a surface and of m times it: each chain has a copy on each of the m sheets, which changes to the
-- sheet from the other end if sides are exchanged along the chain.
use Rattle.std.proofs.Common.{◌≡◌, ℕ, ◌+◌, ◌*◌, ◌/◌, ◌%◌, ◌<◌, ◌≤◌, Bool, true, false, List, [], ◌∷◌, refl, sym, ap, ◌∙◌, subst, subst₂, arith}
use Rattle.std.specs.Prelude.{slice_index}
use Rattle.std.proofs.Math.Nat.{div-add-mod, mul-add-mod_self_left, mul-add-div, div-eq_of_lt, div-lt_iff_lt-mul, mod-lt, mod-eq_of_lt}
use Rattle.cone_definitions.specs.Vectors.{multiple}
use Rattle.cone_definitions.proofs.Entries.{length-multiple, entry-multiple}
use Rattle.table_definitions.specs.Permutation.{image}
use Rattle.table_definitions.specs.Table.{Gluing, Row}
use Rattle.table_definitions.proofs.PermutationLaws.{image_below, images_apart}
use Rattle.surface_definitions.specs.declared.Coords.{Coords}
use Rattle.surface_definitions.specs.Pieces.{NormalDisc, Arc, arcs_around, arc_across, disc_of, Meets, ArcsLead, looks_positive, keeps_sides}
use Rattle.surface_laws.specs.PieceLaws.{IsSurface, IsPieceOf, MeetsBack, face_of_arc}
use Rattle.surface_laws.proofs.ArcPieces.{from_end, from_end_below, from_end_twice}
use Rattle.surface_laws.proofs.Glued.{IsGlued, glued_is}
use Rattle.surface_laws.proofs.MeetingArcs.{arc_at, meets_back}
use Rattle.surface_laws.proofs.PieceNumbers.{piece_at}
use Rattle.surface_double_laws.proofs.Darts.{turned_on as both}
use Rattle.surface_double_laws.proofs.CopiedDiscs.{copy, copied, arcs_many, below_copies}

-- ---- sheets

-- two changes of side are one, if exactly one of them exchanges sides
pub from_end_both : (m : ℕ) (a b : Bool) (k : ℕ) → k < m → from_end m b (from_end m a k) ≡ from_end m (both a b) k
from_end_both m true b k l = refl
from_end_both m false true k l = refl
from_end_both m false false k l = omega arith

-- an arc on a sheet, seen from the discs on its two sides
from_end_across : (m : ℕ) (p q : Bool) (i : ℕ) → i < m → from_end m q i ≡ from_end m (both p q) (from_end m p i)
from_end_across m true q i l = refl
from_end_across m false true i l = omega arith
from_end_across m false false i l = refl

-- the disc of the surface whose copy q is, and the sheet of q
abbrev pub under : ℕ → NormalDisc → NormalDisc
under m q = piece_at q.column (q.number / m)

abbrev pub sheet : ℕ → NormalDisc → ℕ
sheet m q = q.number % m

pub under_copy : (m : ℕ) (p : NormalDisc) (k : ℕ) → k < m → under m (copy m p k) ≡ p
under_copy m p k l = ap (piece_at p.column) (let e : (m * p.number + k) / m ≡ p.number + k / m = mul-add-div (omega arith) p.number k in
    let z : k / m ≡ 0 = div-eq_of_lt l in let y : (m * p.number + k) / m ≡ p.number = omega arith in y)

pub sheet_copy : (m : ℕ) (p : NormalDisc) (k : ℕ) → k < m → sheet m (copy m p k) ≡ k
sheet_copy m p k l = mul-add-mod_self_left m p.number k ∙ mod-eq_of_lt l

pub copy_under : (m : ℕ) (q : NormalDisc) → copy m (under m q) (sheet m q) ≡ q
copy_under m q = ap (piece_at q.column) (div-add-mod q.number m)

quotient_below : (m n a : ℕ) → 1 ≤ m → n < m * a → n / m < a
quotient_below m n a some l = (div-lt_iff_lt-mul (omega arith)).1 (let e : m * a ≡ a * m = omega arith in omega arith)

pub sheet_below : (m : ℕ) (q : NormalDisc) → 1 ≤ m → sheet m q < m
sheet_below m q some = mod-lt q.number (omega arith)

module _ (rows : List Row) (coords : Coords) (xs : List ℕ) where
  -- a chain of arcs from p to q, along which sides are kept or exchanged
  abbrev pub Leads : NormalDisc → List Arc → NormalDisc → Bool → Type 0
  Leads p [] q b = (p ≡ q) × (b ≡ true)
  Leads p (a ∷ more) q b =
      (g : Gluing) × (c : Bool) × Meets rows coords xs a g × (disc_of coords xs a ≡ p) × (b ≡ both (keeps_sides coords xs a g) c)
      × Leads (disc_of coords xs (arc_across g a)) more q c

  pub leads_somehow : (p q : NormalDisc) (arcs : List Arc) → ArcsLead rows coords xs p arcs q → (b : Bool) × Leads p arcs q b
  leads_somehow p q [] e = (true, (e, refl))
  leads_somehow p q (a ∷ arcs) (g, h, e, more) =
      let r = leads_somehow (disc_of coords xs (arc_across g a)) q arcs more in
      (both (keeps_sides coords xs a g) r.0, (g, r.0, h, e, refl, r.1))

module _ (m : ℕ) (some : 1 ≤ m) (rows : List Row) (coords : Coords) (xs : List ℕ) (w : IsSurface rows coords xs) where
  abbrev ys : List ℕ
  ys = multiple m xs

  -- ---- from the surface to its copies

  -- the copy of an arc that begins at a copy of its disc
  record IsCrossing (a : Arc) (g : Gluing) (k : ℕ) : Type 0 where
    arc : Arc
    meets : Meets rows coords (multiple m xs) arc g
    here : disc_of coords (multiple m xs) arc ≡ copy m (disc_of coords xs a) k
    there : disc_of coords (multiple m xs) (arc_across g arc) ≡ copy m (disc_of coords xs (arc_across g a)) (from_end m (keeps_sides coords xs a g) k)

  crossing : (a : Arc) (g : Gluing) (k : ℕ) → k < m → Meets rows coords xs a g → IsCrossing a g k
  crossing a g k l h =
      let x : IsGlued rows (face_of_arc a) g = glued_is rows (face_of_arc a) g w.table h.glued in
      let back : MeetsBack rows coords xs a g = meets_back rows coords xs w a g h in
      let f : ℕ = image g.perm a.face in
      let v : ℕ = image g.perm a.vertex in
      let p : Bool = looks_positive coords xs a in
      let q : Bool = looks_positive coords xs (arc_across g a) in
      let i : ℕ = from_end m (looks_positive coords xs a) k in
      let li : from_end m (looks_positive coords xs a) k < m = from_end_below m (looks_positive coords xs a) k l in
      record {
        arc = arc_at a.tet a.face a.vertex (m * a.place + i);
        meets = record {
          in_range = h.in_range;
          is_vertex = h.is_vertex;
          off_vertex = h.off_vertex;
          there = subst (λ z. m * a.place + i < z) (sym (arcs_many m rows coords xs w a.tet a.face a.vertex)) (below_copies m a.place (arcs_around coords xs a.tet a.face a.vertex) i h.there li);
          glued = h.glued;
        };
        here = copied m rows coords xs w some a.tet a.face a.vertex h.in_range x.face h.is_vertex h.off_vertex a.place i h.there li ∙ ap (copy m (disc_of coords xs a)) (from_end_twice m p k l);
        there = copied m rows coords xs w some g.tet f v x.other_tet x.other_face (image_below g.perm a.vertex x.permutes h.is_vertex) (images_apart g.perm a.vertex a.face x.permutes h.is_vertex x.face h.off_vertex) a.place i (back.meets).there li
            ∙ ap (copy m (disc_of coords xs (arc_across g a))) (from_end_both m p q k l);
      }

  pub copied_chain : (p q : NormalDisc) (arcs : List Arc) (b : Bool) (k : ℕ) → k < m → Leads rows coords xs p arcs q b
      → (copies : List Arc) × ArcsLead rows coords (multiple m xs) (copy m p k) copies (copy m q (from_end m b k))
  copied_chain p q [] b k l (e, z) = ([], ap (λ d. copy m d k) e ∙ ap (λ c. copy m q (from_end m c k)) (sym z))
  copied_chain p q (a ∷ arcs) b k l (g, c, h, e, z, more) =
      let x : IsCrossing a g k = crossing a g k l h in
      let r = copied_chain (disc_of coords xs (arc_across g a)) q arcs c (from_end m (keeps_sides coords xs a g) k) (from_end_below m (keeps_sides coords xs a g) k l) more in (
        x.arc ∷ r.0,
        (
          g,
          x.meets,
          x.here ∙ ap (λ d. copy m d k) e,
          subst₂ (λ d i. ArcsLead rows coords (multiple m xs) d r.0 (copy m q i)) (sym x.there) (from_end_both m (keeps_sides coords xs a g) c k l ∙ ap (λ t. from_end m t k) (sym z)) r.1,
        ),
      )

  -- ---- and back

  -- an arc of the copies: the arc whose copy it is, and its sheet, seen from either side
  record IsUnder (a : Arc) (g : Gluing) : Type 0 where
    arc : Arc
    meets : Meets rows coords xs arc g
    on : ℕ
    low : on < m
    here : disc_of coords (multiple m xs) a ≡ copy m (disc_of coords xs arc) on
    there : disc_of coords (multiple m xs) (arc_across g a) ≡ copy m (disc_of coords xs (arc_across g arc)) (from_end m (keeps_sides coords xs arc g) on)

  arc_under : (a : Arc) (g : Gluing) → Meets rows coords (multiple m xs) a g → IsUnder a g
  arc_under a g h =
      let x : IsGlued rows (face_of_arc a) g = glued_is rows (face_of_arc a) g w.table h.glued in
      let j : ℕ = a.place / m in
      let i : ℕ = a.place % m in
      let li : a.place % m < m = mod-lt a.place (omega arith) in
      let e : m * (a.place / m) + a.place % m ≡ a.place = div-add-mod a.place m in
      let b : Arc = arc_at a.tet a.face a.vertex (a.place / m) in
      let there : a.place / m < arcs_around coords xs a.tet a.face a.vertex =
      quotient_below m a.place (arcs_around coords xs a.tet a.face a.vertex) some (subst (λ z. a.place < z) (arcs_many m rows coords xs w a.tet a.face a.vertex) h.there) in
      let meets : Meets rows coords xs (arc_at a.tet a.face a.vertex (a.place / m)) g = record { in_range = h.in_range; is_vertex = h.is_vertex; off_vertex = h.off_vertex; there = there; glued = h.glued } in
      let back : MeetsBack rows coords xs (arc_at a.tet a.face a.vertex (a.place / m)) g = meets_back rows coords xs w (arc_at a.tet a.face a.vertex (a.place / m)) g meets in
      let f : ℕ = image g.perm a.face in
      let v : ℕ = image g.perm a.vertex in
      let p : Bool = looks_positive coords xs (arc_at a.tet a.face a.vertex (a.place / m)) in
      let q : Bool = looks_positive coords xs (arc_across g (arc_at a.tet a.face a.vertex (a.place / m))) in
      record {
        arc = b;
        meets = meets;
        on = from_end m p i;
        low = from_end_below m p i li;
        here = ap (λ z. disc_of coords ys (arc_at a.tet a.face a.vertex z)) (sym e) ∙ copied m rows coords xs w some a.tet a.face a.vertex h.in_range x.face h.is_vertex h.off_vertex j i there li;
        there = ap (λ z. disc_of coords ys (arc_at g.tet f v z)) (sym e)
            ∙ copied m rows coords xs w some g.tet f v x.other_tet x.other_face (image_below g.perm a.vertex x.permutes h.is_vertex) (images_apart g.perm a.vertex a.face x.permutes h.is_vertex x.face h.off_vertex) j i (back.meets).there li
            ∙ ap (copy m (disc_of coords xs (arc_across g b))) (from_end_across m p q i li);
      }

  pub record HasChainUnder (p q : NormalDisc) : Type 0 where
    pub keeps : Bool
    pub arcs : List Arc
    pub leads : Leads rows coords xs (under m p) arcs (under m q) keeps
    pub sheets : sheet m q ≡ from_end m keeps (sheet m p)

  pub chain_under : (p q : NormalDisc) (arcs : List Arc) → ArcsLead rows coords (multiple m xs) p arcs q → HasChainUnder p q
  chain_under p q [] e = record { keeps = true; arcs = []; leads = (ap (under m) e, refl); sheets = ap (sheet m) (sym e) }
  chain_under p q (a ∷ arcs) (g, h, e, more) =
      let u : IsUnder a g = arc_under a g h in
      let r : HasChainUnder (disc_of coords (multiple m xs) (arc_across g a)) q = chain_under (disc_of coords (multiple m xs) (arc_across g a)) q arcs more in
      let t : Bool = keeps_sides coords xs u.arc g in
      let lt : from_end m (keeps_sides coords xs u.arc g) u.on < m = from_end_below m (keeps_sides coords xs u.arc g) u.on u.low in
      let here : disc_of coords xs u.arc ≡ under m p = sym (under_copy m (disc_of coords xs u.arc) u.on u.low) ∙ ap (under m) (sym u.here ∙ e) in
      let on : u.on ≡ sheet m p = sym (sheet_copy m (disc_of coords xs u.arc) u.on u.low) ∙ ap (sheet m) (sym u.here ∙ e) in
      let there : under m (disc_of coords (multiple m xs) (arc_across g a)) ≡ disc_of coords xs (arc_across g u.arc) = ap (under m) u.there ∙ under_copy m (disc_of coords xs (arc_across g u.arc)) (from_end m t u.on) lt in
      let other : sheet m (disc_of coords (multiple m xs) (arc_across g a)) ≡ from_end m t u.on = ap (sheet m) u.there ∙ sheet_copy m (disc_of coords xs (arc_across g u.arc)) (from_end m t u.on) lt in
      record {
        keeps = both t r.keeps;
        arcs = u.arc ∷ r.arcs;
        leads = (g, r.keeps, u.meets, here, refl, subst (λ d. Leads rows coords xs d r.arcs (under m q) r.keeps) there r.leads);
        sheets = r.sheets ∙ ap (from_end m r.keeps) other ∙ from_end_both m t r.keeps u.on u.low ∙ ap (from_end m (both t r.keeps)) on;
      }

  -- ---- the discs of the copies

  pub copy_piece : (p : NormalDisc) (k : ℕ) → k < m → IsPieceOf xs p → IsPieceOf (multiple m xs) (copy m p k)
  copy_piece p k l h = record {
    column = subst (λ z. p.column < z) (sym (length-multiple m xs)) h.column;
    number = subst (λ z. m * p.number + k < z) (sym (entry-multiple m xs p.column)) (below_copies m p.number (slice_index xs p.column) k h.number l);
  }

  pub under_piece : (q : NormalDisc) → IsPieceOf (multiple m xs) q → IsPieceOf xs (under m q)
  under_piece q h = record {
    column = subst (λ z. q.column < z) (length-multiple m xs) h.column;
    number = quotient_below m q.number (slice_index xs q.column) some (subst (λ z. q.number < z) (entry-multiple m xs q.column) h.number);
  }
