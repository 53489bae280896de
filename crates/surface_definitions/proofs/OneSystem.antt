-- The equations of a table are unique.
use Rattle.std.proofs.Common.{◌≡◌, ℕ, ◌+◌, ◌*◌, cond, List, [], ◌∷◌, length, map, ◌⊎◌, inl, inr, ⊎_elim, refl, sym, ap, ◌∙◌, subst, subst₂, arith, zero-add}
use Rattle.std.specs.Prelude.{ℤ, pos, ◌-ℤ◌, ◌==◌, Option, Some, None, if◌then◌else◌}
use Rattle.std.specs.List.{AllZip, filter_map}
use Rattle.std.proofs.lemmas.List.Sums.{sum_by-cons}
use Rattle.table_definitions.specs.Lists.{below, times_in}
use Rattle.table_definitions.specs.Table.{Row}
use Rattle.table_definitions.specs.Classes.{IsNumbering, least}
use Rattle.table_definitions.specs.Places.{SameEdge}
use Rattle.table_definitions.proofs.ClassLaws.{one_count}
use Rattle.table_definitions.proofs.TableLaws.{Among}
use Rattle.table_definitions.proofs.Listed.{among_contains, contains_among}
use Rattle.table_definitions.proofs.DistinctLists.{AreApart, apart_from}
use Rattle.skeleton_definitions.specs.Corners.{Corner, AreCorners, first_corner, internal_edges}
use Rattle.cone_definitions.specs.Rows.{Row as EquationRow}
use Rattle.surface_definitions.specs.Coordinates.{columns}
use Rattle.surface_definitions.specs.declared.Coords.{Coords}
use Rattle.surface_definitions.specs.declared.Coords.TheVariants.{Standard, Quad, Octagon}
use Rattle.surface_definitions.specs.Equations.{Equation, row_of}
use Rattle.surface_definitions.specs.QuadEquations.{quad_equation, IsQuadRow, AreQuadRows, AreQuadEquations, AreEquations}
use Rattle.skeleton_definitions.proofs.OneSkeleton.{one_classes}

-- a list without one of its corners
record IsWithout (y : Corner) (ys zs : List Corner) : Type 0 where
  pub separate : AreApart zs
  pub within : (k : Corner) → Among k zs → Among k ys
  pub gone : Among y zs → ⊥
  pub others : (k : Corner) → Among k ys → (k ≡ y) ⊎ Among k zs
  pub counts : (f : Corner → ℕ) (x : ℕ) → times_in (map f ys) x ≡ times_in (map f (y ∷ zs)) x

-- one more number
times_more : (x m : ℕ) (ms : List ℕ) → times_in (m ∷ ms) x ≡ times_in (m ∷ []) x + times_in ms x
times_more x m ms = sum_by-cons (λ (n : ℕ). cond (n == x) 1 0) m ms ∙ ap (λ k. k + times_in ms x) (sym (zero-add (cond (m == x) 1 0)))

exchanged : (a b c d : ℕ) → d ≡ b + c → a + d ≡ b + (a + c)
exchanged a b c d e = omega arith

taken_out : (y : Corner) (ys : List Corner) → Among y ys → AreApart ys → (zs : List Corner) × IsWithout y ys zs
taken_out y [] h a = absurd h
taken_out y (l ∷ ls) (inl e) a = (
  ls,
  record {
    separate = a.1;
    within = λ k h. inr h;
    gone = λ h. a.0 (subst (λ k. Among k ls) e h);
    others = λ k h. ⊎_elim (λ q. inl (q ∙ sym e)) (λ g. inr g) h;
    counts = λ f x. ap (λ k. times_in (map f (k ∷ ls)) x) (sym e);
  },
)
taken_out y (l ∷ ls) (inr h) a =
    let r = taken_out y ls h a.1 in
    let w = r.1 in (
      l ∷ r.0,
      record {
        separate = ((λ b. a.0 (w.within l b)), w.separate);
        within = λ k b. ⊎_elim (λ q. inl q) (λ g. inr (w.within k g)) b;
        gone = λ b. ⊎_elim (λ q. a.0 (subst (λ k. Among k ls) q h)) (λ g. w.gone g) b;
        others = λ k b. ⊎_elim (λ q. inr (inl q)) (λ g. ⊎_elim (λ q. inl q) (λ d. inr (inr d)) (w.others k g)) b;
        counts = λ f x. times_more x (f l) (map f ls)
            ∙ exchanged (times_in (map f (l ∷ [])) x) (times_in (map f (y ∷ [])) x) (times_in (map f r.0) x) (times_in (map f ls) x) (w.counts f x ∙ times_more x (f y) (map f r.0))
            ∙ ap (λ n. times_in (map f (y ∷ [])) x + n) (sym (times_more x (f l) (map f r.0))) ∙ sym (times_more x (f y) (map f (l ∷ r.0)));
      },
    )

-- two lists of the same different corners have the same numbers, each as often
same_counts : (xs ys : List Corner) → AreApart xs → AreApart ys → ((k : Corner) → Among k xs → Among k ys) → ((k : Corner) → Among k ys → Among k xs) → (f : Corner → ℕ) (x : ℕ) →
    times_in (map f xs) x ≡ times_in (map f ys) x
same_counts [] [] a b to back f x = refl
same_counts [] (y ∷ ys) a b to back f x = absurd (back y (inl refl))
same_counts (k ∷ ks) ys a b to back f x =
    let r = taken_out k ys (to k (inl refl)) b in
    let w = r.1 in
    times_more x (f k) (map f ks) ∙ ap (λ n. times_in (map f (k ∷ [])) x + n) (same_counts ks r.0 a.1 w.separate
    (λ m h. ⊎_elim (λ q. absurd (a.0 (subst (λ n. Among n ks) q h))) (λ d. d) (w.others m (to m (inr h))))
    (λ m h. ⊎_elim (λ q. absurd (w.gone (subst (λ n. Among n r.0) q h))) (λ d. d) (back m (w.within m h)))
    f x) ∙ sym (times_more x (f k) (map f r.0)) ∙ sym (w.counts f x)

corners_count : (rows : List Row) (first : Corner) (xs ys : List Corner) → AreCorners rows first xs → AreCorners rows first ys → (f : Corner → ℕ) (x : ℕ) → times_in (map f xs) x ≡ times_in (map f ys) x
corners_count rows first xs ys a b = same_counts xs ys (apart_from first xs a.once) (apart_from first ys b.once)
    (λ k h. among_contains k ys ((b.reached k).1 ((a.reached k).0 (contains_among k xs h))))
    (λ k h. among_contains k xs ((a.reached k).1 ((b.reached k).0 (contains_among k ys h))))

-- how often each column occurs on both sides determines an equation's row
abbrev term_by : ℕ → ℕ → ℕ → Option (ℕ × ℤ)
term_by left right c = if left == right then None else Some (c, pos left -ℤ pos right)

same_row : (n : ℕ) (e f : Equation) → ((c : ℕ) → times_in e.left c ≡ times_in f.left c) → ((c : ℕ) → times_in e.right c ≡ times_in f.right c) → row_of n e ≡ row_of n f
same_row n e f left right = λ i. filter_map (λ c. term_by (left c i) (right c i) c) (below n)

one_row : (rows : List Row) (classes : List ℕ) (c : ℕ) (row other : EquationRow) → IsQuadRow rows classes c row → IsQuadRow rows classes c other → row ≡ other
one_row rows classes c row other h k =
    let count = corners_count rows (first_corner (least classes c)) h.0 k.0 h.1 k.1 in
    h.2 ∙ same_row (columns Quad (length rows)) (quad_equation h.0) (quad_equation k.0) (λ x. count _ x) (λ x. count _ x) ∙ sym k.2

one_rows : (rows : List Row) (classes cs : List ℕ) (one other : List EquationRow) → AllZip (IsQuadRow rows classes) cs one → AllZip (IsQuadRow rows classes) cs other → one ≡ other
one_rows rows classes [] [] [] h k = refl
one_rows rows classes [] [] (y ∷ ys) h k = absurd k
one_rows rows classes [] (x ∷ xs) other h k = absurd h
one_rows rows classes (c ∷ cs) [] other h k = absurd h
one_rows rows classes (c ∷ cs) (x ∷ xs) [] h k = absurd k
one_rows rows classes (c ∷ cs) (x ∷ xs) (y ∷ ys) h k = λ i. one_row rows classes c x y h.0 k.0 i ∷ one_rows rows classes cs xs ys h.1 k.1 i

one_quad_list : (rows : List Row) (one other : List EquationRow) → AreQuadEquations rows one → AreQuadEquations rows other → one ≡ other
one_quad_list rows one other h k = one_rows rows k.classes (internal_edges rows k.classes k.count) one other moved k.each
  where
    classes : h.classes ≡ k.classes
    classes = one_classes (6 * length rows) (SameEdge rows) h.classes k.classes h.count k.count h.numbered k.numbered

    count : h.count ≡ k.count
    count = one_count (6 * length rows) (SameEdge rows) k.classes h.count k.count (subst (λ (xs : List ℕ). IsNumbering (6 * length rows) (SameEdge rows) xs h.count) classes h.numbered) k.numbered

    moved : AreQuadRows rows k.classes k.count one
    moved = subst₂ (λ (xs : List ℕ) (n : ℕ). AreQuadRows rows xs n one) classes count h.each

pub one_equations : (coords : Coords) (rows : List Row) (one other : List EquationRow) → AreEquations coords rows one → AreEquations coords rows other → one ≡ other
one_equations Standard rows one other h k = h ∙ sym k
one_equations Quad rows one other h k = one_quad_list rows one other h k
one_equations Octagon rows one other h k = h ∙ sym k
