-- From one old facet to another: the gluing, the images of places, and the parities on both sides.
use Rattle.std.proofs.Common.{◌≡◌, ◌≢◌, ℕ, ◌<◌, false, List, length, Some, sym, ap, ◌∙◌, arith}
use Rattle.table_definitions.specs.Lists.{has}
use Rattle.table_definitions.specs.Permutation.{IsPermutationOfFour, compose, is_odd}
use Rattle.table_definitions.specs.Table.{Gluing, Row, glue, IsTable}
use Rattle.table_definitions.specs.Places.{carried}
use Rattle.table_definitions.proofs.ChainLaws.{Steps, steps_across}
use Rattle.move_definitions.specs.Moves.{Move, Facet, IsMoved, opposite, vertex_of}
use Rattle.move_laws.proofs.ListedFacets.{same_some}
use Rattle.move_laws.proofs.Labels as Labels
use Rattle.move_laws.proofs.Matched.{AreGlued, old_glued}
use Rattle.move_laws.proofs.SecondStand.{crossing}
use Rattle.move_laws.proofs.Parities.{behind}
use Rattle.move_link_laws.proofs.Labelled.{in_facet, Below5}
use Rattle.move_link_laws.proofs.Ties.{fine, small_label, IsOld, old_step}
use Rattle.move_link_laws.proofs.Parity.{old_parity}

module _ (old : List Row) (m : Move) (new : List Row) (table : IsTable old) (h : IsMoved old m new) where
  abbrev Old : ℕ → Facet → Type 0
  Old i f = IsOld old m new table h i f

  pub core_apart : (i j : ℕ) (f : Facet) → Old i f → j < length m.core → j ≢ i
  core_apart i j f a l e = (let low = a.low in absurd (omega arith))

  -- the step across the face between two facets
  pub record FacetStep (i k : ℕ) (f g : Facet) (ls : List ℕ) : Type 0 where
    pub by : Gluing
    pub glued : glue old (opposite f k) ≡ Some by
    pub low : vertex_of f k < 4
    pub off : has (in_facet f ls).vertices (vertex_of f k) ≡ false
    pub lands : carried by (in_facet f ls) ≡ in_facet g ls
    pub parity : (j : ℕ) → j < length m.core → is_odd (crossing k j g.labels) ≡ behind (is_odd by.perm) (is_odd (crossing i j f.labels))

  pub facet_step : (i k : ℕ) (f g : Facet) (ls : List ℕ) → Old i f → Old k g → i ≢ k → Below5 ls → has ls i ≡ false → has ls k ≡ false → FacetStep i k f g ls
  facet_step i k f g ls a b ne small oi ok =
      let st : Steps old (in_facet f ls) (vertex_of f k) (in_facet g ls) = steps_across old (in_facet f ls) (vertex_of f k) (in_facet g ls) (old_step old m new table h i k f g ls a b ne small oi ok) in
      let e : AreGlued old i k f g = old_glued old m i k f g table (fine old m new table h) h.core a.low a.high b.low b.high ne a.found b.found in
      let same : e.by ≡ st.gluing = same_some (glue old (opposite f k)) e.by st.gluing e.glued st.glued in
      let hp : IsPermutationOfFour st.gluing.perm = table.permutes (opposite f k) st.gluing st.glued in
      record {
        by = st.gluing;
        glued = st.glued;
        off = st.off;
        lands = sym st.lands;
        low = (Labels.vertex_at i f.labels a.is.labels k b.high (λ z. ne (sym z))).small;
        parity = λ j l. old_parity i k j f.labels g.labels st.gluing.perm a.is.labels b.is.labels hp b.high (small_label old m new table h j l) (λ z. ne (sym z)) (core_apart i j f a l) (core_apart k j g b l)
            (ap (λ (q : Gluing). compose g.labels q.perm) (sym same) ∙ e.labels);
      }
