-- Crush chains: no two chains from one face have different ends, and a chain starts at each kept face.
use Rattle.std.proofs.Common.{◌≡◌, ℕ, zero, suc, ◌+◌, ◌*◌, ◌/◌, ◌%◌, ◌<◌, Bool, true, false, not, List, length, Option, Some, None, option_map, if◌then◌else◌, IsTrue, inl, inr, refl, sym, ap, ◌∙◌, subst, arith}
use Rattle.std.proofs.lemmas.Bool.{false≢true}
use Rattle.basic_lemmas.proofs.Options.{none_or_some}
use Rattle.table_walk_laws.specs.Walks.{after, IsSource}
use Rattle.table_walk_laws.specs.Laws.{HasEnd}
use Rattle.table_walk_laws.proofs.ChainLemmas.{chain_ends}
use Rattle.table_walk_laws.proofs.Steps.{after_first, after_none}
use Rattle.table_definitions.specs.Permutation.{IsPermutationOfFour, image, compose}
use Rattle.table_definitions.specs.Places.{face_of}
use Rattle.table_definitions.specs.Table.{Gluing, Row, Face, glue, other_side, IsTable}
use Rattle.table_definitions.proofs.Permutations.{image-compose, compose_permutes}
use Rattle.table_definitions.proofs.Faces.{face_at}
use Rattle.surface_definitions.specs.Crushing.{is_removed, partner_in, exchange, passed, ChainEnds}
use Rattle.surface_laws.specs.CrushingLaws.{IsKeptFace, HasOneEnd}
use Rattle.surface_laws.proofs.Glued.{IsGlued, glued_is, glued_once}
use Rattle.surface_laws.proofs.Turns.{IsTurned, turned_at, IsExchange, exchange_is}

-- a tetrahedron is not both kept and taken out
pub kept_or_gone : (b : Bool) → IsTrue (not b) → IsTrue b → ⊥
kept_or_gone true k r = false≢true k
kept_or_gone false k r = false≢true r

pub one_end : (rows : List Row) (xs : List ℕ) (x : Face) (n m : ℕ) (o e f : Option Gluing) → ChainEnds rows xs x n o e → ChainEnds rows xs x m o f → e ≡ f
one_end rows xs x zero zero None e f a b = a ∙ sym b
one_end rows xs x zero zero (Some g) e f a b = a.1 ∙ sym b.1
one_end rows xs x zero (suc m) None e f a b = absurd b
one_end rows xs x zero (suc m) (Some g) e f a b = absurd (kept_or_gone (is_removed xs g.tet) a.0 b.0)
one_end rows xs x (suc n) m None e f a b = absurd a
one_end rows xs x (suc n) zero (Some g) e f a b = absurd (kept_or_gone (is_removed xs g.tet) b.0 a.0)
one_end rows xs x (suc n) (suc m) (Some g) e f a b = one_end rows xs x n m (passed rows xs x g) e f a.1 b.1

-- the face of the partner
abbrev pub turned_face : List ℕ → Face → Face
turned_face xs y = face_at y.tet (partner_in xs y.tet y.face)

-- faces by numbers
abbrev pub number : Face → ℕ
number y = 4 * y.tet + y.face

pub face_of-number : (y : Face) → y.face < 4 → face_of (number y) ≡ y
face_of-number y l =
    let t : number y / 4 ≡ y.tet = omega arith in
    let f : number y % 4 ≡ y.face = omega arith in
    λ i. record { tet = t i; face = f i }

pub number-face_of : (i : ℕ) → number (face_of i) ≡ i
number-face_of i = omega arith

-- the faces by which a chain leaves, one after another
abbrev pub leave_if : Bool → ℕ → Option ℕ
leave_if b i = if b then Some i else None

abbrev pub leave : List ℕ → Face → Option Gluing → Option ℕ
leave xs y None = None
leave xs y (Some g) = leave_if (is_removed xs g.tet) (number (turned_face xs (other_side y g)))

abbrev pub leaves : List Row → List ℕ → ℕ → Option ℕ
leaves rows xs i = leave xs (face_of i) (glue rows (face_of i))

-- a step of leaving
record LeavesBy (rows : List Row) (xs : List ℕ) (y : Face) (j : ℕ) : Type 0 where
  g : Gluing
  glued : glue rows y ≡ Some g
  gone : is_removed xs g.tet ≡ true
  is : j ≡ number (turned_face xs (other_side y g))

left_by : (rows : List Row) (xs : List ℕ) (y : Face) (j : ℕ) (o : Option Gluing) → glue rows y ≡ o → leave xs y o ≡ Some j → LeavesBy rows xs y j
left_by rows xs y j None e h = absurd cc
left_by rows xs y j (Some g) e h = go (is_removed xs g.tet) refl h
  where
    go : (b : Bool) → is_removed xs g.tet ≡ b → leave_if b (number (turned_face xs (other_side y g))) ≡ Some j → LeavesBy rows xs y j
    go true r k = record { g = g; glued = e; gone = r; is = cc }
    go false r k = absurd cc

module _ (rows : List Row) (xs : List ℕ) (table : IsTable rows) where
  pub turn_below : (z : Face) → is_removed xs z.tet ≡ true → z.face < 4 → (turned_face xs z).face < 4
  turn_below z r l = (turned_at xs z.tet z.face r l).below

  pub turn_back : (z : Face) → is_removed xs z.tet ≡ true → z.face < 4 → turned_face xs (turned_face xs z) ≡ z
  turn_back z r l = ap (face_at z.tet) (turned_at xs z.tet z.face r l).back

  number_once : (y z : Face) → y.face < 4 → z.face < 4 → number y ≡ number z → y ≡ z
  number_once y z ly lz e = sym (face_of-number y ly) ∙ ap face_of e ∙ face_of-number z lz

  within : (i j : ℕ) → i < 4 * length rows → leaves rows xs i ≡ Some j → j < 4 * length rows
  within i j l h =
      let s : LeavesBy rows xs (face_of i) j = left_by rows xs (face_of i) j (glue rows (face_of i)) refl h in
      let a : IsGlued rows (face_of i) s.g = glued_is rows (face_of i) s.g table s.glued in
      let t : IsTurned xs s.g.tet (image s.g.perm (i % 4)) = turned_at xs s.g.tet (image s.g.perm (i % 4)) s.gone a.other_face in
      let is : j ≡ 4 * s.g.tet + partner_in xs s.g.tet (image s.g.perm (i % 4)) = s.is in
      omega (arith, a.other_tet, t.below)

  injective : (i j k : ℕ) → i < 4 * length rows → j < 4 * length rows → leaves rows xs i ≡ Some k → leaves rows xs j ≡ Some k → i ≡ j
  injective i j k li lj hi hj =
      let s : LeavesBy rows xs (face_of i) k = left_by rows xs (face_of i) k (glue rows (face_of i)) refl hi in
      let t : LeavesBy rows xs (face_of j) k = left_by rows xs (face_of j) k (glue rows (face_of j)) refl hj in
      let a : IsGlued rows (face_of i) s.g = glued_is rows (face_of i) s.g table s.glued in
      let b : IsGlued rows (face_of j) t.g = glued_is rows (face_of j) t.g table t.glued in
      let y : Face = other_side (face_of i) s.g in
      let z : Face = other_side (face_of j) t.g in
      let backwards : turned_face xs y ≡ turned_face xs z =
      number_once (turned_face xs y) (turned_face xs z) (turn_below y s.gone a.other_face) (turn_below z t.gone b.other_face) (sym s.is ∙ t.is) in
      let same : y ≡ z = sym (turn_back y s.gone a.other_face) ∙ ap (turned_face xs) backwards ∙ turn_back z t.gone b.other_face in
      let faces : face_of i ≡ face_of j = glued_once rows (face_of i) (face_of j) s.g t.g table s.glued t.glued same in
      sym (number-face_of i) ∙ ap number faces ∙ number-face_of j

  is_source : (x : Face) → IsKeptFace rows xs x → IsSource (4 * length rows) (leaves rows xs) (number x)
  is_source x k = record {
    below = omega (arith, k.in_range, k.face);
    none_before = λ i l h.
        let s : LeavesBy rows xs (face_of i) (number x) = left_by rows xs (face_of i) (number x) (glue rows (face_of i)) refl h in
        let a : IsGlued rows (face_of i) s.g = glued_is rows (face_of i) s.g table s.glued in
        let y : Face = other_side (face_of i) s.g in
        let same : x ≡ turned_face xs y = number_once x (turned_face xs y) k.face (turn_below y s.gone a.other_face) s.is in
        let tets : x.tet ≡ s.g.tet = ap (λ (z : Face). z.tet) same in
        kept_or_gone (is_removed xs x.tet) k.kept (ap (is_removed xs) tets ∙ s.gone);
  }

  -- the chain of x leaves by face y next, and o is the gluing by which it has come there
  abbrev pub Stands : Face → Face → Option Gluing → Type 0
  Stands x y None = glue rows y ≡ None
  Stands x y (Some g) = (h : Gluing) × (glue rows y ≡ Some h) × (g.tet ≡ h.tet) × IsPermutationOfFour g.perm × (image g.perm x.face ≡ image h.perm y.face)

  -- if so, it holds of the next face too
  pub stands_on : (x y : Face) (g h : Gluing) → x.face < 4 → glue rows y ≡ Some h → g.tet ≡ h.tet → IsPermutationOfFour g.perm → image g.perm x.face ≡ image h.perm y.face
      → is_removed xs h.tet ≡ true → Stands x (turned_face xs (other_side y h)) (passed rows xs x g)
  stands_on x y g h l e tets permutes images gone = go (glue rows z) refl
    where
      v : ℕ
      v = image g.perm x.face

      w : ℕ
      w = partner_in xs g.tet v

      z : Face
      z = face_at g.tet w

      is_next : z ≡ turned_face xs (other_side y h)
      is_next = λ i. face_at (tets i) (partner_in xs (tets i) (images i))

      into : IsGlued rows y h
      into = glued_is rows y h table e

      v_below : v < 4
      v_below = subst (λ n. n < 4) (sym images) into.other_face

      at_v : IsTurned xs g.tet v
      at_v = turned_at xs g.tet v (ap (is_removed xs) tets ∙ gone) v_below

      turning : IsExchange v w
      turning = exchange_is v w v_below at_v.below

      inner : IsPermutationOfFour (compose (exchange v w) g.perm)
      inner = compose_permutes (exchange v w) g.perm turning.permutes permutes

      onward : Option Gluing → Option Gluing
      onward = option_map (λ (k : Gluing). record { tet = k.tet; perm = compose k.perm (compose (exchange v w) g.perm) })

      go : (o : Option Gluing) → glue rows z ≡ o → Stands x (turned_face xs (other_side y h)) (onward (glue rows z))
      go None f = subst (λ p. Stands x (turned_face xs (other_side y h)) (onward p)) (sym f) (ap (glue rows) (sym is_next) ∙ f)
      go (Some k) f =
          let a : IsGlued rows z k = glued_is rows z k table f in
          let goes : image (compose k.perm (compose (exchange v w) g.perm)) x.face ≡ image k.perm w =
          image-compose k.perm (compose (exchange v w) g.perm) inner x.face l ∙ ap (image k.perm) (image-compose (exchange v w) g.perm permutes x.face l ∙ turning.leads) in
          subst (λ p. Stands x (turned_face xs (other_side y h)) (onward p)) (sym f)
          (k, ap (glue rows) (sym is_next) ∙ f, refl, compose_permutes k.perm (compose (exchange v w) g.perm) a.permutes inner, goes ∙ ap (λ (u : Face). image k.perm u.face) is_next)

  leaves_at : (y : Face) → y.face < 4 → leaves rows xs (number y) ≡ leave xs y (glue rows y)
  leaves_at y l = ap (λ (z : Face). leave xs z (glue rows z)) (face_of-number y l)

  stays_if : (b : Bool) (i : ℕ) → leave_if b i ≡ None → IsTrue (not b)
  stays_if true i e = absurd cc
  stays_if false i e = refl

  -- if there is no further step, the chain ends
  ended : (x y : Face) (o : Option Gluing) → y.face < 4 → Stands x y o → leaves rows xs (number y) ≡ None → (end : Option Gluing) × ChainEnds rows xs x zero o end
  ended x y None l s h = (None, refl)
  ended x y (Some g) l s h =
      let none : leave xs y (Some s.0) ≡ None = sym (leaves_at y l ∙ ap (leave xs y) s.1) ∙ h in
      let stays : IsTrue (not (is_removed xs (s.0).tet)) = stays_if (is_removed xs (s.0).tet) (number (turned_face xs (other_side y s.0))) none in
      (Some g, (subst (λ (t : ℕ). IsTrue (not (is_removed xs t))) (sym s.2) stays, refl))

  goes_nowhere : (i k e : ℕ) → leaves rows xs i ≡ None → after (leaves rows xs) i (suc k) ≡ Some e → ⊥
  goes_nowhere i k e none h =
      let more : k + 1 ≡ suc k = omega arith in
      let exceeded : after (leaves rows xs) i (k + 1) ≡ None = after_none (leaves rows xs) i 1 k none in
      let exceeded' : after (leaves rows xs) i (suc k) ≡ None = ap (after (leaves rows xs) i) (sym more) ∙ exceeded in
      cc

  -- the chain continues as long as there are further steps
  chain_from : (count : ℕ) (x y : Face) (o : Option Gluing) (e : ℕ) → x.face < 4 → y.face < 4 → Stands x y o
      → after (leaves rows xs) (number y) count ≡ Some e → leaves rows xs e ≡ None → (end : Option Gluing) × ChainEnds rows xs x count o end
  chain_from zero x y o e lx ly s h none = let is : number y ≡ e = cc in ended x y o ly s (ap (leaves rows xs) is ∙ none)
  chain_from (suc k) x y None e lx ly s h none = absurd (goes_nowhere (number y) k e (leaves_at y ly ∙ ap (leave xs y) s) h)
  chain_from (suc k) x y (Some g) e lx ly s h none = elim (none_or_some (leaves rows xs (number y))) [
    | inl stop ↦ absurd (goes_nowhere (number y) k e stop h)
    | inr on ↦ (let b : LeavesBy rows xs y on.0 = left_by rows xs y on.0 (glue rows y) refl (sym (leaves_at y ly) ∙ on.1) in
        let same : Some b.g ≡ Some s.0 = sym b.glued ∙ s.1 in
        let one : b.g ≡ s.0 = cc in
        let gone : is_removed xs (s.0).tet ≡ true = ap (λ (q : Gluing). is_removed xs q.tet) (sym one) ∙ b.gone in
        let next : Face = turned_face xs (other_side y s.0) in
        let is_next : on.0 ≡ number next = b.is ∙ ap (λ (q : Gluing). number (turned_face xs (other_side y q))) one in
        let into : IsGlued rows y s.0 = glued_is rows y s.0 table s.1 in
        let r : (end : Option Gluing) × ChainEnds rows xs x k (passed rows xs x g) end =
        chain_from k x next (passed rows xs x g) e lx (turn_below (other_side y s.0) gone into.other_face) (stands_on x y g s.0 lx s.1 s.2 s.3 s.4 gone)
        (ap (λ i. after (leaves rows xs) i k) (sym is_next) ∙ sym (after_first (leaves rows xs) (number y) on.0 k on.1) ∙ h) none in
        (r.0, (ap (is_removed xs) s.2 ∙ gone, r.1)))
  ]

  pub starts : (x : Face) (o : Option Gluing) → glue rows x ≡ o → Stands x x o
  starts x None e = e
  starts x (Some g) e = (g, e, refl, table.permutes x g e, refl)

  -- the chain of a kept face, through fewer tetrahedra than there are faces
  pub record HasChain (x : Face) : Type 0 where
    pub count : ℕ
    pub limited : count < 4 * length rows
    pub end : Option Gluing
    pub ends : ChainEnds rows xs x count (glue rows x) end

  pub has_chain : (x : Face) → IsKeptFace rows xs x → HasChain x
  has_chain x k =
      let f : HasEnd (4 * length rows) (leaves rows xs) (number x) =
      chain_ends (4 * length rows) (leaves rows xs) (number x) (record { within = within; injective = injective }) (is_source x k) in
      let r : (end : Option Gluing) × ChainEnds rows xs x f.count (glue rows x) end =
      chain_from f.count x x (glue rows x) f.end k.face k.face (starts x (glue rows x) refl) f.there f.nowhere in
      record { count = f.count; limited = f.limited; end = r.0; ends = r.1 }

  pub has_one_end : (x : Face) → IsKeptFace rows xs x → HasOneEnd rows xs x
  has_one_end x k =
      let c : HasChain x = has_chain x k in
      record {
        end = c.end;
        there = (c.count, c.ends);
        only = λ other d. one_end rows xs x d.0 c.count (glue rows x) other c.end d.1 c.ends;
      }
