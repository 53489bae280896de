-- Directed edges and their images.
use Rattle.std.proofs.Common.{◌≡◌, ℕ, ◌<◌, List, [], ◌∷◌, length, sym, ap, ◌∙◌, subst}
use Rattle.std.specs.Prelude.{slice_index}
use Rattle.table_definitions.specs.Lists.{has}
use Rattle.table_definitions.specs.Permutation.{image}
use Rattle.table_definitions.specs.Table.{Row, IsTable}
use Rattle.table_definitions.specs.Places.{Place, IsPlace, carried}
use Rattle.table_definitions.proofs.Permutations.{image_below}
use Rattle.table_definitions.proofs.PermutationLaws.{images_apart}
use Rattle.move_definitions.specs.Moves.{Move, IsMoved}
use Rattle.skeleton_class_laws.specs.Crossings.{pair}
use Rattle.move_link_laws.proofs.Labelled.{head_off}
use Rattle.move_link_laws.proofs.Ties.{Ties, tie_permutes}
use Rattle.move_link_laws.proofs.Valid.{tie_range, two_of}
use Rattle.move_link_laws.proofs.StarLabels.{off_one}
use Rattle.skeleton_laws.proofs.Arrows.{IsArrow, tail_of}

module _ (old : List Row) (m : Move) (new : List Row) (table : IsTable old) (h : IsMoved old m new) where
  abbrev Tie : Place → Place → Type 0
  Tie p q = Ties old m new table h p q

  -- the tail of the image of a directed edge is the image of its tail
  pub tie_tails : (p q : Place) → IsArrow (length old) p → (z : Tie p q) → Tie (tail_of p) (tail_of q)
  tie_tails p q a z = record {
    face = z.face;
    by = z.by;
    tet = z.tet;
    low = z.low;
    occurs = z.occurs;
    place = (subst (λ (r : Place). slice_index r.vertices 0 < 4) (sym a.is) a.low_v, tt);
    off = (λ i. has (slice_index (a.is i).vertices 0 ∷ []) z.face) ∙ off_one a.v z.face (head_off a.v (a.w ∷ []) z.face (ap (λ (r : Place). has r.vertices z.face) (sym a.is) ∙ z.off));
    is = ap tail_of (z.is ∙ ap (carried z.by) a.is) ∙ ap (λ (r : Place). carried z.by (tail_of r)) (sym a.is);
  }

  pub tie_arrow : (p q : Place) → IsArrow (length old) p → Tie p q → IsArrow (length new) q
  tie_arrow p q a z =
      let hp = tie_permutes old m new table h p q z in
      let is : q ≡ pair z.by.tet (image z.by.perm a.v) (image z.by.perm a.w) = z.is ∙ ap (carried z.by) a.is in
      record {
        v = image z.by.perm a.v;
        w = image z.by.perm a.w;
        is = is ∙ (λ i. pair ((sym is i).tet) (image z.by.perm a.v) (image z.by.perm a.w));
        below = subst (λ (r : Place). r.tet < length new) (sym z.is) (tie_range old m new table h p q z);
        low_v = image_below z.by.perm hp a.v a.low_v;
        low_w = image_below z.by.perm hp a.w a.low_w;
        separate = images_apart z.by.perm a.v a.w hp a.low_v a.low_w a.separate;
      }

  -- a directed edge whose image is given
  pub pulled_arrow : (p q : Place) → IsArrow (length new) q → Tie p q → IsArrow (length old) p
  pulled_arrow p q a z =
      let w = two_of z.by.perm p.vertices a.v a.w (ap (λ (r : Place). r.vertices) (sym z.is ∙ a.is)) in
      let place = subst (λ (vs : List ℕ). IsPlace (record { tet = p.tet; vertices = vs })) w.2 z.place in
      record {
        v = w.0;
        w = w.1;
        is = (λ i. record { tet = p.tet; vertices = w.2 i });
        below = z.tet;
        low_v = place.0;
        low_w = place.1.0;
        separate = λ e. a.separate (sym w.3 ∙ ap (image z.by.perm) e ∙ w.4);
      }
