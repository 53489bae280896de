use Rattle.std.proofs.Common.{◌≡◌, ◌↔◌, ◌+◌, ◌<◌, ◌++◌, ◌∷◌, [], ℕ, List, length, length-append, get_or, sym, ap, subst, ◌∙◌, arith}
use Rattle.std.specs.Prelude.{◌==◌, slice_index, IsTrue}
use Rattle.std.proofs.lemmas.List.{get_or_default}
use Rattle.skeleton_definitions.specs.Links.{IsLink, IsOrientableLink}
use Rattle.skeleton_definitions.specs.declared.Link.{Link}
use Rattle.skeleton_definitions.specs.Skeleton.{AreLinksUpTo}
use Rattle.skeleton_class_laws.proofs.TallyLemmas.{each_more}
use Rattle.vertex_links.proofs.link.links.Goals as goal

-- an element that the code read
read : (xs : List ℕ) (k x n : ℕ) → x ≡ get_or xs k x → k < n → length xs ≡ n → x ≡ slice_index xs k
read xs k x n e l size = e ∙ get_or_default xs k x 0 (omega arith)

pub loop-class-preserved : goal.loop-class-preserved
loop-class-preserved c = record {
  one_each = ap (λ (xs : List Link). length xs) items ∙ length-append c.loop-class.links.items (c.link_of.result ∷ []) ∙ ap (λ n. n + 1) c.loop-class.invariant.one_each;
  reported = rw items (each_more (λ (n : ℕ) (k : Link). IsLink c.args.skeleton.now.rows c.args.skeleton.now.vertices.classes c.in_ok-tallies.tallies.directions.classes.items n k)
      c.loop-class.links.items c.link_of.result c.loop-class.class c.loop-class.invariant.one_each c.loop-class.invariant.reported new);
}
  where
    items : c.push.new.self.items ≡ c.loop-class.links.items ++ c.link_of.result ∷ []
    items = c.in_ok-push.ensures.items

    inside : c.loop-class.class < c.args.skeleton.now.vertices.count
    inside = omega (arith, c.vertices-count.ensures.count)

    new : IsLink c.args.skeleton.now.rows c.args.skeleton.now.vertices.classes c.in_ok-tallies.tallies.directions.classes.items c.loop-class.class c.link_of.result
    new = record {
      triangles = c.link_of.ensures.triangles ∙ c.vertex_degree.ensures;
      edges = c.link_of.ensures.edges ∙ read _ _ _ _ c.index.ensures inside c.in_ok-tallies.ensures.sides ∙ c.in_ok-tallies.ensures.edges c.loop-class.class inside;
      vertices = c.link_of.ensures.vertices ∙ read _ _ _ _ c.index-in-loop-class.ensures inside c.in_ok-tallies.ensures.corners ∙ c.in_ok-tallies.ensures.vertices c.loop-class.class inside;
      closed = c.link_of.ensures.closed ∙ ap (λ k. k == 0) (read _ _ _ _ c.index-in-loop-class-2.ensures inside c.in_ok-tallies.ensures.unglued) ∙ c.in_ok-tallies.ensures.closed c.loop-class.class inside;
      euler = c.link_of.ensures.euler;
      orientable = subst (λ b. IsTrue b ↔ IsOrientableLink c.args.skeleton.now.rows c.args.skeleton.now.vertices.classes c.loop-class.class)
          (sym (c.link_of.ensures.orientable ∙ ap (λ k. k == 0) (read _ _ _ _ c.index-in-loop-class-3.ensures inside c.in_ok-tallies.ensures.backwards)))
          (c.in_ok-tallies.ensures.orientable c.loop-class.class inside);
      kind = c.link_of.ensures.kind;
    }

pub returns-clause-links : goal.returns-clause-links
returns-clause-links c = (
  c.in_ok-tallies.tallies.directions.classes.items,
  length c.in_ok-tallies.tallies.directions.firsts.items,
  c.in_ok-tallies.ensures.directions.numbering,
  subst (λ n. AreLinksUpTo c.args.skeleton.now c.in_ok-tallies.tallies.directions.classes.items n c.loop-class.links.items) (sym c.loop-class.invariant.one_each) c.loop-class.invariant,
)
