-- First entries of rows are sound so far if and only if they are those of a table: each face that a given face is glued
-- to is glued back to it, and all others are boundary faces.
use Rattle.std.proofs.Common.{◌≡◌, ℕ, ◌<◌, ◌≤◌, Bool, true, false, List, [], length, map, get_or, Option, Some, None, refl, sym, ap, ◌∙◌, subst, arith, ⊎_elim}
use Rattle.std.specs.Prelude.{not, option_and_then, IsTrue, All, if◌then◌else◌}
use Rattle.std.specs.List.{slice_index_or}
use Rattle.std.proofs.lemmas.Bool.{ltb-true, lt-ltb, cases_lt}
use Rattle.std.proofs.lemmas.List.{get_or_past}
use Rattle.std.proofs.lemmas.List.Elements.{All-from_get_or}
use Rattle.std.proofs.lemmas.List.FromFn.{get_or-map-range_with_len, length-map-range_with_len}
use Rattle.table_definitions.specs.Lists.{below, first_some}
use Rattle.table_definitions.specs.Permutation.{four, IsPermutationOfFour}
use Rattle.table_definitions.specs.Replacing.{inverse_if_reached}
use Rattle.table_definitions.specs.Table.{Gluing, Row, Face, glue, other_side, inverse_gluing, faces, same_face, IsTable}
use Rattle.table_definitions.proofs.Permutations.{image_below, inverse_permutes}
use Rattle.table_definitions.proofs.Faces.{same_face-true, same_face-itself, there_and_back, back_again, face_at}
use Rattle.table_definitions.proofs.TableLaws.{Among-faces, glued_tet, glued_face}
use Rattle.table_definitions.proofs.Carried.{IsGood, not_from}
use Rattle.table_definitions.proofs.FreshRows.{first_some-finds, first_some-only}
use Rattle.table_definitions.proofs.Retained.{of_four}
use Rattle.text_partial_laws.specs.Partial.{is_given, IsPartialTable, Completes}
use Rattle.text_partial_laws.specs.Laws.{PartialTablesAreCompleted}

-- a given entry is in a row
pub given_face : (rows : List Row) (x : Face) → is_given rows x ≡ true → x.face < length (slice_index_or rows x.tet [])
given_face rows x h = ltb-true x.face (length (slice_index_or rows x.tet [])) h

pub given_tet : (rows : List Row) (x : Face) → is_given rows x ≡ true → x.tet < length rows
given_tet rows x h =
    ⊎_elim (λ (l : x.tet < length rows). l)
    (λ (out : length rows ≤ x.tet).
    let none : length (slice_index_or rows x.tet []) ≡ 0 = ap length (get_or_past rows x.tet [] out) in
    let some : x.face < length (slice_index_or rows x.tet []) = given_face rows x h in
    absurd (omega (arith, none, some)))
    (cases_lt x.tet (length rows))

-- a glued face has a given entry
pub glued_given : (rows : List Row) (x : Face) (g : Gluing) → glue rows x ≡ Some g → is_given rows x ≡ true
glued_given rows x g e =
    ⊎_elim (λ (l : x.face < length (slice_index_or rows x.tet [])). lt-ltb x.face (length (slice_index_or rows x.tet [])) l)
    (λ (out : length (slice_index_or rows x.tet []) ≤ x.face). let n : glue rows x ≡ None = get_or_past (slice_index_or rows x.tet []) x.face None out in absurd cc)
    (cases_lt x.face (length (slice_index_or rows x.tet [])))

-- the first entries of a table are sound
module _ (n : ℕ) (rows table : List Row) (c : Completes n rows table) where
  glued_too : (x : Face) (g : Gluing) → glue rows x ≡ Some g → glue table x ≡ Some g
  glued_too x g e = c.agrees x (glued_given rows x g e) ∙ e

  only_one : (x z : Face) (g h : Gluing) → glue rows x ≡ Some g → glue rows z ≡ Some h → other_side x g ≡ other_side z h → x ≡ z
  only_one x z g h e f same =
      let t : IsTable table = c.is_table in
      let back : (y : Face) (k : Gluing) → glue rows y ≡ Some k → other_side (other_side y k) (inverse_gluing y k) ≡ y =
      λ y k q. there_and_back y k (t.permutes y k (glued_too y k q)) (glued_face table y k t.four_faces (glued_too y k q)) in
      let there : Some (inverse_gluing x g) ≡ Some (inverse_gluing z h) = sym (t.leads_back x g (glued_too x g e)) ∙ ap (glue table) same ∙ t.leads_back z h (glued_too z h f) in
      let ways : inverse_gluing x g ≡ inverse_gluing z h = cc in
      sym (back x g e) ∙ ap (λ (y : Face). other_side y (inverse_gluing x g)) same ∙ ap (other_side (other_side z h)) ways ∙ back z h f

  pub partial_of_table : IsPartialTable n rows
  partial_of_table = (let t : IsTable table = c.is_table in record {
    limited = rw (← c.count) t.limited;
    many = c.many;
    four_faces = c.four_faces;
    permutes = λ x g e. t.permutes x g (glued_too x g e);
    in_range = λ x g e. rw (← c.count) (t.in_range x g (glued_too x g e));
    separate = λ x g e. t.separate x g (glued_too x g e);
    leads_back = λ x g e h. sym (c.agrees (other_side x g) h) ∙ t.leads_back x g (glued_too x g e);
    one_each = only_one;
  })

-- the table that completes the first entries
module _ (rows : List Row) where
  abbrev pub gives_back : Face → Face → Option Gluing
  gives_back y x = option_and_then (inverse_if_reached y x) (glue rows x)

  abbrev pub back_at : Face → Option Gluing
  back_at y = first_some (gives_back y) (faces (length rows))

  abbrev pub entry : Face → Option Gluing
  entry y = if is_given rows y then glue rows y else back_at y

  abbrev pub row_of : ℕ → Row
  row_of t = map (λ f. entry (face_at t f)) four

  abbrev pub completed : ℕ → List Row
  completed n = map row_of (below n)

  entry_given : (y : Face) → is_given rows y ≡ true → entry y ≡ glue rows y
  entry_given y h = ap (λ b. if◌then◌else◌ {A = Option Gluing} b (glue rows y) (back_at y)) h

  entry_back : (y : Face) → is_given rows y ≡ false → entry y ≡ back_at y
  entry_back y h = ap (λ b. if◌then◌else◌ {A = Option Gluing} b (glue rows y) (back_at y)) h

  pub completed_row : (n t : ℕ) → t < n → get_or (completed n) t [] ≡ row_of t
  completed_row n t l = get_or-map-range_with_len row_of 0 n t t [] l (omega arith)

  pub length-completed : (n : ℕ) → length (completed n) ≡ n
  length-completed n = length-map-range_with_len row_of 0 n

  pub glue-completed : (n : ℕ) (x : Face) → x.tet < n → x.face < 4 → glue (completed n) x ≡ entry x
  glue-completed n x lt lf = ap (λ (row : Row). get_or row x.face None) (completed_row n x.tet lt) ∙ of_four (λ f. entry (face_at x.tet f)) x.face lf

  -- a given face is glued to y, with the inverse v
  record LeadsTo (y : Face) (v : Gluing) : Type 0 where
    from : Face
    gluing : Gluing
    glued : glue rows from ≡ Some gluing
    leads : other_side from gluing ≡ y
    back : inverse_gluing from gluing ≡ v

  comes_back : (y x : Face) (v : Gluing) → gives_back y x ≡ Some v → LeadsTo y v
  comes_back y x v e = by_glue (glue rows x) refl
    where
      by_test : (g : Gluing) → glue rows x ≡ Some g → (b : Bool) → same_face (other_side x g) y ≡ b → (if b then Some (inverse_gluing x g) else None) ≡ Some v → LeadsTo y v
      by_test g h true t s = record { from = x; gluing = g; glued = h; leads = same_face-true (other_side x g) y t; back = cc }
      by_test g h false t s = absurd cc

      by_glue : (o : Option Gluing) → glue rows x ≡ o → LeadsTo y v
      by_glue None h = let z : None ≡ Some v = ap (option_and_then (inverse_if_reached y x)) (sym h) ∙ e in absurd cc
      by_glue (Some g) h = by_test g h (same_face (other_side x g) y) refl (ap (option_and_then (inverse_if_reached y x)) (sym h) ∙ e)

  leads_back_at : (y : Face) (v : Gluing) → back_at y ≡ Some v → LeadsTo y v
  leads_back_at y v e = let f = first_some-finds (gives_back y) (faces (length rows)) v e in comes_back y f.0 v f.1

  module _ (n : ℕ) (p : IsPartialTable n rows) where
    glued_below : (x : Face) (g : Gluing) → glue rows x ≡ Some g → x.face < 4
    glued_below x g e =
        let some : x.face < length (slice_index_or rows x.tet []) = given_face rows x (glued_given rows x g e) in
        let four_long : length (slice_index_or rows x.tet []) ≤ 4 = p.four_faces x.tet [] (glued_tet rows x g e) in
        omega (arith, some, four_long)

    glued_in : (x : Face) (g : Gluing) → glue rows x ≡ Some g → x.tet < n
    glued_in x g e = (let l : x.tet < length rows = glued_tet rows x g e in let many : length rows ≤ n = p.many in omega (arith, l, many))

    back_is : (x : Face) (g : Gluing) → glue rows x ≡ Some g → back_at (other_side x g) ≡ Some (inverse_gluing x g)
    back_is x g e =
        first_some-only (gives_back (other_side x g)) (faces (length rows)) x (inverse_gluing x g) (Among-faces x (length rows) (glued_tet rows x g e) (glued_below x g e)) here
        (λ z w h. only w (comes_back (other_side x g) z w h))
      where
        here : gives_back (other_side x g) x ≡ Some (inverse_gluing x g)
        here =
            ap (option_and_then (inverse_if_reached (other_side x g) x)) e
            ∙ ap (λ b. if◌then◌else◌ {A = Option Gluing} b (Some (inverse_gluing x g)) None) (same_face-itself (other_side x g))

        only : (w : Gluing) → LeadsTo (other_side x g) w → w ≡ inverse_gluing x g
        only w c =
            let same : x ≡ c.from = p.one_each x c.from g c.gluing e c.glued (sym c.leads) in
            let both : Some c.gluing ≡ Some g = sym c.glued ∙ ap (glue rows) (sym same) ∙ e in
            let gluings : c.gluing ≡ g = cc in
            sym c.back ∙ ap (λ (y : Face). inverse_gluing y c.gluing) (sym same) ∙ ap (inverse_gluing x) gluings

    abbrev Good : Face → Gluing → Type 0
    Good y v = IsGood n (completed n) y v

    -- in the completed table, the other side of a given gluing is glued by its inverse
    answered : (x : Face) (g : Gluing) → glue rows x ≡ Some g → entry (other_side x g) ≡ Some (inverse_gluing x g)
    answered x g e = by_test (is_given rows (other_side x g)) refl
      where
        by_test : (b : Bool) → is_given rows (other_side x g) ≡ b → entry (other_side x g) ≡ Some (inverse_gluing x g)
        by_test true h = entry_given (other_side x g) h ∙ p.leads_back x g e h
        by_test false h = entry_back (other_side x g) h ∙ back_is x g e

    good_given : (x : Face) (g : Gluing) → glue rows x ≡ Some g → Good x g
    good_given x g e = record {
      permutes = p.permutes x g e;
      in_range = p.in_range x g e;
      separate = p.separate x g e;
      leads_back = glue-completed n (other_side x g) (p.in_range x g e) (image_below g.perm (p.permutes x g e) x.face (glued_below x g e)) ∙ answered x g e;
    }

    good_back : (x : Face) (g : Gluing) → glue rows x ≡ Some g → Good (other_side x g) (inverse_gluing x g)
    good_back x g e =
        let permutes : IsPermutationOfFour g.perm = p.permutes x g e in
        let back : other_side (other_side x g) (inverse_gluing x g) ≡ x = there_and_back x g permutes (glued_below x g e) in
        let again : inverse_gluing (other_side x g) (inverse_gluing x g) ≡ g = back_again x g permutes in
        record {
          permutes = inverse_permutes g.perm permutes;
          in_range = glued_in x g e;
          separate =
              not_from (same_face (other_side (other_side x g) (inverse_gluing x g)) (other_side x g))
              (λ s. (let same : x ≡ other_side x g = sym back ∙ same_face-true (other_side (other_side x g) (inverse_gluing x g)) (other_side x g) s in
              let one : same_face (other_side x g) x ≡ true = ap (same_face (other_side x g)) same ∙ same_face-itself (other_side x g) in
              let never : IsTrue (not (same_face (other_side x g) x)) = p.separate x g e in
              cc));
          leads_back =
              ap (glue (completed n)) back ∙ glue-completed n x (glued_in x g e) (glued_below x g e) ∙ entry_given x (glued_given rows x g e) ∙ e
              ∙ ap (λ (k : Gluing). Some k) (sym again);
        }

    pub good : (y : Face) (v : Gluing) → entry y ≡ Some v → Good y v
    good y v e = by_test (is_given rows y) refl
      where
        by_back : LeadsTo y v → Good y v
        by_back c =
            let there : Good (other_side c.from c.gluing) (inverse_gluing c.from c.gluing) = good_back c.from c.gluing c.glued in
            let here : Good y (inverse_gluing c.from c.gluing) = subst (λ (z : Face). Good z (inverse_gluing c.from c.gluing)) c.leads there in
            subst (λ (k : Gluing). Good y k) c.back here

        by_test : (b : Bool) → is_given rows y ≡ b → Good y v
        by_test true h = good_given y v (sym (entry_given y h) ∙ e)
        by_test false h = by_back (leads_back_at y v (sym (entry_back y h) ∙ e))

    fours : All (λ (row : Row). length row ≡ 4) (completed n)
    fours = All-from_get_or (λ (row : Row). length row ≡ 4) (completed n) [] (λ u l. ap length (completed_row n u (rw (← length-completed n) l)))

    glued_good : (y : Face) (v : Gluing) → glue (completed n) y ≡ Some v → Good y v
    glued_good y v e =
        let lt : y.tet < n = rw (← length-completed n) (glued_tet (completed n) y v e) in
        good y v (sym (glue-completed n y lt (glued_face (completed n) y v fours e)) ∙ e)

    pub completed_is_table : IsTable (completed n)
    completed_is_table = record {
      limited = rw (length-completed n) p.limited;
      four_faces = fours;
      permutes = λ y v e. (glued_good y v e).permutes;
      in_range = λ y v e. rw (length-completed n) (glued_good y v e).in_range;
      separate = λ y v e. (glued_good y v e).separate;
      leads_back = λ y v e. (glued_good y v e).leads_back;
    }

    agrees : (x : Face) → is_given rows x ≡ true → glue (completed n) x ≡ glue rows x
    agrees x h =
        let lt : x.tet < length rows = given_tet rows x h in
        let many : length rows ≤ n = p.many in
        let lf : x.face < length (slice_index_or rows x.tet []) = given_face rows x h in
        let four_long : length (slice_index_or rows x.tet []) ≤ 4 = p.four_faces x.tet [] lt in
        glue-completed n x (omega (arith, lt, many)) (omega (arith, lf, four_long)) ∙ entry_given x h

    pub completes : Completes n rows (completed n)
    completes = record { is_table = completed_is_table; count = length-completed n; many = p.many; four_faces = p.four_faces; agrees = agrees }

pub partial_tables_are_completed : PartialTablesAreCompleted
partial_tables_are_completed n rows = (λ p. (completed rows n, completes rows n p), λ h. partial_of_table n rows h.0 h.1)
