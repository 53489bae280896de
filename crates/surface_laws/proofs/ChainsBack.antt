-- A chain from one kept face to another can be read backwards.
use Rattle.std.proofs.Common.{◌≡◌, ℕ, zero, suc, ◌<◌, true, not, List, length, Option, Some, None, option_map, IsTrue, refl, sym, ap, ◌∙◌, subst}
use Rattle.table_definitions.specs.Permutation.{IsPermutationOfFour, image, inverse, compose, identity}
use Rattle.table_definitions.specs.Table.{Gluing, Row, Face, glue, other_side, inverse_gluing, IsTable}
use Rattle.table_definitions.proofs.Permutations.{image-compose, compose_permutes, inverse_permutes, inverse-of-compose, compose-compose, compose-identity, image_below, identity_permutes, image-identity}
use Rattle.table_definitions.proofs.PermutationLaws.{image-of_inverse}
use Rattle.table_definitions.proofs.Faces.{face_at, gluing_to}
use Rattle.surface_definitions.specs.Crushing.{is_removed, partner_in, exchange, ChainEnds, CrushesTo}
use Rattle.surface_laws.specs.CrushingLaws.{IsKeptFace}
use Rattle.surface_laws.proofs.Glued.{IsGlued, glued_is}
use Rattle.surface_laws.proofs.Turns.{IsTurned, turned_at, IsExchange, exchange_is}

-- the gluing by which a chain that has come by q continues across the next gluing
abbrev pub onward_by : List ℕ → Option Gluing → Option Gluing
onward_by q o = option_map (λ (k : Gluing). gluing_to k.tet (compose k.perm q)) o

-- the inverse of the way across g, the transposition e and h
back_perm : (g e h q : List ℕ) → IsPermutationOfFour g → IsPermutationOfFour e → IsPermutationOfFour h → IsPermutationOfFour q → inverse e ≡ e
    → compose (inverse g) (compose e (compose (inverse h) q)) ≡ compose (inverse (compose h (compose e g))) q
back_perm g e h q hg he hh hq itself =
    let ig : IsPermutationOfFour (inverse g) = inverse_permutes g hg in
    let ih : IsPermutationOfFour (inverse h) = inverse_permutes h hh in
    let whole : inverse (compose h (compose e g)) ≡ compose (inverse (compose e g)) (inverse h) = inverse-of-compose h (compose e g) hh (compose_permutes e g he hg) in
    let part : inverse (compose e g) ≡ compose (inverse g) e = inverse-of-compose e g he hg ∙ ap (compose (inverse g)) itself in
    sym (ap (λ p. compose p q) (whole ∙ ap (λ p. compose p (inverse h)) part)
    ∙ compose-compose (compose (inverse g) e) (inverse h) q (compose_permutes (inverse g) e ig he) ih hq
    ∙ compose-compose (inverse g) e (compose (inverse h) q) ig he (compose_permutes (inverse h) q ih hq))

module _ (rows : List Row) (xs : List ℕ) (table : IsTable rows) (x : Face) (lx : x.face < 4) (kept : IsTrue (not (is_removed xs x.tet))) where
  -- the chain of x has reached a face by g; any chain that comes to this face by q continues to x, by the inverse of g
  record Returns (m : ℕ) (g : Gluing) : Type 0 where
    in_range : g.tet < length rows
    permutes : IsPermutationOfFour g.perm
    leads : (z : Face) (q : List ℕ) → z.face < 4 → IsPermutationOfFour q → image q z.face ≡ image g.perm x.face
        → ChainEnds rows xs z m (onward_by q (glue rows (face_at g.tet (image g.perm x.face)))) (Some (gluing_to x.tet (compose (inverse g.perm) q)))

  -- it holds after the first gluing
  returns_first : (g : Gluing) → glue rows x ≡ Some g → Returns 0 g
  returns_first g e =
      let a : IsGlued rows x g = glued_is rows x g table e in
      record {
        in_range = a.other_tet;
        permutes = a.permutes;
        leads = λ z q lz hq same.
            subst (λ o. ChainEnds rows xs z 0 (onward_by q o) (Some (gluing_to x.tet (compose (inverse g.perm) q)))) (sym a.back) (kept, refl);
      }

  -- the vertex of the face that a chain has reached
  abbrev reached : Gluing → ℕ
  reached g = image g.perm x.face

  abbrev partner_there : Gluing → ℕ
  partner_there g = partner_in xs g.tet (reached g)

  abbrev further : Gluing → Gluing → Gluing
  further g h = gluing_to h.tet (compose h.perm (compose (exchange (reached g) (partner_there g)) g.perm))

  -- it holds after each further gluing
  returns_on : (m : ℕ) (g h : Gluing) → Returns m g → is_removed xs g.tet ≡ true → glue rows (face_at g.tet (partner_there g)) ≡ Some h → Returns (suc m) (further g h)
  returns_on m g h r gone e = record { in_range = a.other_tet; permutes = whole; leads = leads }
    where
      v : ℕ
      v = reached g

      w : ℕ
      w = partner_there g

      ex : List ℕ
      ex = exchange v w

      a : IsGlued rows (face_at g.tet w) h
      a = glued_is rows (face_at g.tet w) h table e

      lv : v < 4
      lv = image_below g.perm r.permutes x.face lx

      at_v : IsTurned xs g.tet v
      at_v = turned_at xs g.tet v gone lv

      turning : IsExchange v w
      turning = exchange_is v w lv at_v.below

      inner : IsPermutationOfFour (compose ex g.perm)
      inner = compose_permutes ex g.perm turning.permutes r.permutes

      whole : IsPermutationOfFour (compose h.perm (compose ex g.perm))
      whole = compose_permutes h.perm (compose ex g.perm) a.permutes inner

      goes : image (compose h.perm (compose ex g.perm)) x.face ≡ image h.perm w
      goes = image-compose h.perm (compose ex g.perm) inner x.face lx ∙ ap (image h.perm) (image-compose ex g.perm r.permutes x.face lx ∙ turning.leads)

      back : glue rows (face_at h.tet (image (compose h.perm (compose ex g.perm)) x.face)) ≡ Some (gluing_to g.tet (inverse h.perm))
      back = ap (λ f. glue rows (face_at h.tet f)) goes ∙ a.back

      leads : (z : Face) (q : List ℕ) → z.face < 4 → IsPermutationOfFour q → image q z.face ≡ image (compose h.perm (compose ex g.perm)) x.face
          → ChainEnds rows xs z (suc m) (onward_by q (glue rows (face_at h.tet (image (compose h.perm (compose ex g.perm)) x.face)))) (Some (gluing_to x.tet (compose (inverse (compose h.perm (compose ex g.perm))) q)))
      leads z q lz hq same =
          let q1 : List ℕ = compose (inverse h.perm) q in
          let hq1 : IsPermutationOfFour q1 = compose_permutes (inverse h.perm) q (inverse_permutes h.perm a.permutes) hq in
          let v1 : ℕ = image q1 z.face in
          let w1 : ℕ = partner_in xs g.tet v1 in
          let to_w : v1 ≡ w = image-compose (inverse h.perm) q hq z.face lz ∙ ap (image (inverse h.perm)) (same ∙ goes) ∙ image-of_inverse h.perm w a.permutes at_v.below in
          let to_v : w1 ≡ v = ap (partner_in xs g.tet) to_w ∙ at_v.back in
          let swaps : exchange v1 w1 ≡ ex = (λ i. exchange (to_w i) (to_v i)) ∙ sym turning.either_way in
          let back_turn : IsExchange w v = exchange_is w v at_v.below lv in
          let same' : image (compose ex q1) z.face ≡ v =
          image-compose ex q1 hq1 z.face lz ∙ ap (image ex) to_w ∙ ap (λ p. image p w) turning.either_way ∙ back_turn.leads in
          let hex : IsPermutationOfFour (compose ex q1) = compose_permutes ex q1 turning.permutes hq1 in
          let then : ChainEnds rows xs z m (onward_by (compose ex q1) (glue rows (face_at g.tet v))) (Some (gluing_to x.tet (compose (inverse g.perm) (compose ex q1)))) =
          r.leads z (compose ex q1) lz hex same' in
          let ends : compose (inverse g.perm) (compose ex q1) ≡ compose (inverse (compose h.perm (compose ex g.perm))) q =
          back_perm g.perm ex h.perm q r.permutes turning.permutes a.permutes hq turning.itself in
          let here : ChainEnds rows xs z m (onward_by (compose (exchange v1 w1) q1) (glue rows (face_at g.tet w1))) (Some (gluing_to x.tet (compose (inverse (compose h.perm (compose ex g.perm))) q))) =
          subst (λ p. ChainEnds rows xs z m (onward_by (compose (exchange v1 w1) q1) (glue rows (face_at g.tet w1))) (Some (gluing_to x.tet p))) ends
          (subst (λ o. ChainEnds rows xs z m o (Some (gluing_to x.tet (compose (inverse g.perm) (compose ex q1)))))
          (sym (λ i. onward_by (compose (swaps i) q1) (glue rows (face_at g.tet (to_v i))))) then) in
          subst (λ o. ChainEnds rows xs z (suc m) (onward_by q o) (Some (gluing_to x.tet (compose (inverse (compose h.perm (compose ex g.perm))) q)))) (sym back) (gone, here)

  -- if the chain of x ends at a kept face, chains return to x from there
  record ComesBack (e : Gluing) : Type 0 where
    kept_there : IsTrue (not (is_removed xs e.tet))
    count : ℕ
    returns : Returns count e

  no_end : (n : ℕ) (e : Gluing) → ChainEnds rows xs x n None (Some e) → ⊥
  no_end zero e h = cc
  no_end (suc n) e h = h

  comes_back : (n m : ℕ) (g e : Gluing) → Returns m g → ChainEnds rows xs x n (Some g) (Some e) → ComesBack e
  comes_back zero m g e r h = let same : g ≡ e = (let s : Some e ≡ Some g = h.1 in cc) in
      record { kept_there = subst (λ (k : Gluing). IsTrue (not (is_removed xs k.tet))) same h.0; count = m; returns = subst (Returns m) same r }
  comes_back (suc n) m g e r h = go (glue rows (face_at g.tet (partner_there g))) refl h.1 (λ k g' s c. comes_back n k g' e s c)
    where
      onward : Option Gluing → Option Gluing
      onward = onward_by (compose (exchange (reached g) (partner_there g)) g.perm)

      go : (o : Option Gluing) → glue rows (face_at g.tet (partner_there g)) ≡ o → ChainEnds rows xs x n (onward (glue rows (face_at g.tet (partner_there g)))) (Some e)
          → ((k : ℕ) (g' : Gluing) → Returns k g' → ChainEnds rows xs x n (Some g') (Some e) → ComesBack e) → ComesBack e
      go None f c rest = absurd (no_end n e (subst (λ o. ChainEnds rows xs x n (onward o) (Some e)) f c))
      go (Some h') f c rest = rest (suc m) (further g h') (returns_on m g h' r h.0 f) (subst (λ o. ChainEnds rows xs x n (onward o) (Some e)) f c)

unturned : (o : Option Gluing) → ((k : Gluing) → o ≡ Some k → IsPermutationOfFour k.perm) → onward_by identity o ≡ o
unturned None h = refl
unturned (Some k) h = ap (λ p. Some (gluing_to k.tet p)) (compose-identity k.perm (h k refl))

-- a chain that ends at a kept face, and the chain back from there
pub record IsReadBack (rows : List Row) (xs : List ℕ) (x : Face) (e : Gluing) : Type 0 where
  pub permutes : IsPermutationOfFour e.perm
  pub kept_there : IsKeptFace rows xs (other_side x e)
  pub back : CrushesTo rows xs (other_side x e) (Some (inverse_gluing x e))

pub chain_back : (rows : List Row) (xs : List ℕ) (x : Face) (e : Gluing) → IsTable rows → IsKeptFace rows xs x → CrushesTo rows xs x (Some e) → IsReadBack rows xs x e
chain_back rows xs x e table k c =
    let b : ComesBack rows xs table x k.face k.kept e = go (glue rows x) refl c.1 in
    let r : Returns rows xs table x k.face k.kept b.count e = b.returns in
    let z : Face = other_side x e in
    let lz : z.face < 4 = image_below e.perm r.permutes x.face k.face in
    let chain : ChainEnds rows xs z b.count (onward_by identity (glue rows z)) (Some (gluing_to x.tet (compose (inverse e.perm) identity))) =
    r.leads z identity lz identity_permutes (image-identity z.face lz) in
    let same : onward_by identity (glue rows z) ≡ glue rows z = unturned (glue rows z) (λ g f. table.permutes z g f) in
    let ends : compose (inverse e.perm) identity ≡ inverse e.perm = compose-identity (inverse e.perm) (inverse_permutes e.perm r.permutes) in
    record {
      permutes = r.permutes;
      kept_there = record { in_range = r.in_range; face = lz; kept = b.kept_there };
      back = (b.count, subst (λ o. ChainEnds rows xs z b.count o (Some (inverse_gluing x e))) same (subst (λ p. ChainEnds rows xs z b.count (onward_by identity (glue rows z)) (Some (gluing_to x.tet p))) ends chain));
    }
  where
    go : (o : Option Gluing) → glue rows x ≡ o → ChainEnds rows xs x c.0 (glue rows x) (Some e) → ComesBack rows xs table x k.face k.kept e
    go None f h = absurd (no_end rows xs table x k.face k.kept c.0 e (subst (λ o. ChainEnds rows xs x c.0 o (Some e)) f h))
    go (Some g) f h = comes_back rows xs table x k.face k.kept c.0 0 g e (returns_first rows xs table x k.face k.kept g f) (subst (λ o. ChainEnds rows xs x c.0 o (Some e)) f h)
