-- Chains of meeting arcs can be joined and read backwards.
use Rattle.std.proofs.Common.{ℕ, List, [], ◌∷◌, ◌++◌, refl, sym, ap, ◌∙◌, subst}
use Rattle.table_definitions.specs.Table.{Row, inverse_gluing}
use Rattle.surface_definitions.specs.declared.Coords.{Coords}
use Rattle.surface_definitions.specs.Pieces.{NormalDisc, Arc, arc_across, disc_of, ArcsLead}
use Rattle.surface_laws.specs.PieceLaws.{IsSurface, face_of_arc, MeetsBack, ChainsOfArcs}
use Rattle.surface_laws.proofs.MeetingArcs.{meets_back}

module _ (rows : List Row) (coords : Coords) (xs : List ℕ) where
  pub leads_further : (p q r : NormalDisc) (one other : List Arc) → ArcsLead rows coords xs p one q → ArcsLead rows coords xs q other r → ArcsLead rows coords xs p (one ++ other) r
  leads_further p q r [] other h k = subst (λ (u : NormalDisc). ArcsLead rows coords xs u other r) (sym h) k
  leads_further p q r (a ∷ one) other (g, m, e, h) k = (g, m, e, leads_further (disc_of coords xs (arc_across g a)) q r one other h k)

  pub leads_back : IsSurface rows coords xs → (p q : NormalDisc) (arcs : List Arc) → ArcsLead rows coords xs p arcs q → (back : List Arc) × ArcsLead rows coords xs q back p
  leads_back s p q [] h = ([], sym h)
  leads_back s p q (a ∷ arcs) (g, m, e, h) =
      let next : NormalDisc = disc_of coords xs (arc_across g a) in
      let rest : (back : List Arc) × ArcsLead rows coords xs q back next = leads_back s next q arcs h in
      let b : MeetsBack rows coords xs a g = meets_back rows coords xs s a g m in
      let step : ArcsLead rows coords xs next (arc_across g a ∷ []) p = (inverse_gluing (face_of_arc a) g, b.meets, refl, ap (disc_of coords xs) b.same ∙ e) in
      (rest.0 ++ arc_across g a ∷ [], leads_further q next p rest.0 (arc_across g a ∷ []) rest.1 step)

  pub chains_of_arcs : IsSurface rows coords xs → ChainsOfArcs rows coords xs
  chains_of_arcs s = record {
    itself = λ i. ([], refl);
    further = λ i j k f g. (f.0 ++ g.0, leads_further _ _ _ f.0 g.0 f.1 g.1);
    back = λ i j f. leads_back s _ _ f.0 f.1;
  }
