-- No chain returns to its first face: read from both ends, it would meet itself in one gluing or in one tetrahedron.
use Rattle.std.proofs.Common.{◌≡◌, ℕ, zero, suc, ◌<◌, true, List, Option, Some, None, refl, sym, ap, ◌∙◌, subst}
use Rattle.std.specs.Prelude.{◌==◌}
use Rattle.std.proofs.lemmas.Bool.{and_from, eq-eqb}
use Rattle.table_definitions.specs.Permutation.{image}
use Rattle.table_definitions.specs.Table.{Gluing, Row, Face, glue, other_side, inverse_gluing, same_face, IsTable}
use Rattle.table_definitions.proofs.Faces.{face_at}
use Rattle.surface_definitions.specs.Crushing.{is_removed, passed, ChainEnds, CrushesTo}
use Rattle.surface_laws.proofs.Chains.{kept_or_gone, turned_face, turn_back, Stands, stands_on, starts}
use Rattle.surface_laws.proofs.Glued.{IsGlued, glued_is}
use Rattle.surface_laws.proofs.Turns.{turned_at}

module _ (rows : List Row) (xs : List ℕ) (table : IsTable rows) where
  -- from face y, through the given number of tetrahedra that are taken out, to face z
  abbrev Leads : ℕ → Face → Face → Type 0
  Leads zero y z = (g : Gluing) × (glue rows y ≡ Some g) × (other_side y g ≡ z)
  Leads (suc k) y z = (g : Gluing) × (glue rows y ≡ Some g) × (is_removed xs g.tet ≡ true) × Leads k (turned_face xs (other_side y g)) z

  -- the last of these tetrahedra
  record LeadsLast (k : ℕ) (y z : Face) : Type 0 where
    last : Face
    leads : Leads k y last
    gone : is_removed xs last.tet ≡ true
    below : last.face < 4
    glued : Leads zero (turned_face xs last) z

  leads_last : (k : ℕ) (y z : Face) → Leads (suc k) y z → LeadsLast k y z
  leads_last zero y z (g, e, r, h) = record { last = other_side y g; leads = (g, e, refl); gone = r; below = (glued_is rows y g table e).other_face; glued = h }
  leads_last (suc k) y z (g, e, r, h) =
      let s : LeadsLast k (turned_face xs (other_side y g)) z = leads_last k (turned_face xs (other_side y g)) z h in
      record { last = s.last; leads = (g, e, r, s.leads); gone = s.gone; below = s.below; glued = s.glued }

  -- gluing is symmetric: if y is glued to u, u is glued to y
  other_way : (y u : Face) (g h : Gluing) → glue rows y ≡ Some g → glue rows u ≡ Some h → other_side u h ≡ y → other_side y g ≡ u
  other_way y u g h e f same =
      let a : IsGlued rows u h = glued_is rows u h table f in
      let k : Some g ≡ Some (inverse_gluing u h) = sym e ∙ ap (glue rows) (sym same) ∙ a.back in
      let one : g ≡ inverse_gluing u h = cc in
      (λ i. other_side (sym same i) (one i)) ∙ a.returns

  no_return : (k : ℕ) (y : Face) → Leads k y y → ⊥
  no_return zero y (g, e, same) =
      let t : same_face (other_side y g) y ≡ true = and_from (g.tet == y.tet) (image g.perm y.face == y.face) (eq-eqb g.tet y.tet (ap (λ (z : Face). z.tet) same)) (eq-eqb (image g.perm y.face) y.face (ap (λ (z : Face). z.face) same)) in
      kept_or_gone (same_face (other_side y g) y) (table.separate y g e) t
  no_return (suc zero) y (g, e, r, (h, f, same)) =
      let z : Face = other_side y g in
      let back : z ≡ turned_face xs z = other_way y (turned_face xs z) g h e f same in
      (turned_at xs z.tet z.face r (glued_is rows y g table e).other_face).other (sym (ap (λ (u : Face). u.face) back))
  no_return (suc (suc k)) y (g, e, r, h) =
      let z : Face = other_side y g in
      let s : LeadsLast k (turned_face xs z) y = leads_last k (turned_face xs z) y h in
      let back : z ≡ turned_face xs s.last = other_way y (turned_face xs s.last) g (s.glued).0 e (s.glued).1 (s.glued).2 in
      let same : s.last ≡ turned_face xs z = sym (turn_back rows xs table s.last s.gone s.below) ∙ sym (ap (turned_face xs) back) in
      no_return k (turned_face xs z) (subst (Leads k (turned_face xs z)) same s.leads)

  -- a crush chain from one face to another is such a path
  leads_from : (n : ℕ) (x y : Face) (o : Option Gluing) (e : Gluing) → x.face < 4 → Stands rows xs table x y o → ChainEnds rows xs x n o (Some e) → Leads n y (other_side x e)
  leads_from zero x y None e l s h = absurd cc
  leads_from zero x y (Some g) e l s h =
      let same : e ≡ g = (let k : Some e ≡ Some g = h.1 in cc) in
      (s.0, s.1, sym (λ i. face_at (s.2 i) (s.4 i)) ∙ ap (other_side x) (sym same))
  leads_from (suc n) x y None e l s h = absurd h
  leads_from (suc n) x y (Some g) e l s h =
      let gone : is_removed xs (s.0).tet ≡ true = ap (is_removed xs) (sym s.2) ∙ h.0 in
      (s.0, s.1, gone, leads_from n x (turned_face xs (other_side y s.0)) (passed rows xs x g) e l (stands_on rows xs table x y g s.0 l s.1 s.2 s.3 s.4 gone) h.1)

  pub chain_elsewhere : (x : Face) (e : Gluing) → x.face < 4 → CrushesTo rows xs x (Some e) → other_side x e ≡ x → ⊥
  chain_elsewhere x e l c same =
      no_return c.0 x (subst (Leads c.0 x) same (leads_from c.0 x x (glue rows x) e l (starts rows xs table x (glue rows x) refl) c.1))
