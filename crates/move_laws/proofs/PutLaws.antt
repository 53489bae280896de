-- The rows that a legal move adds.
use Rattle.std.proofs.Common.{◌≡◌, ℕ, ◌+◌, ◌-◌, ◌<◌, ◌≤◌, true, false, List, length, get_or, Option, Some, None, refl, sym, ap, ◌∙◌, arith, inl, inr}
use Rattle.std.specs.Prelude.{◌⊎◌, ◌≢◌, option_map, option_and_then, if◌then◌else◌}
use Rattle.std.specs.List.{range_with_len}
use Rattle.std.proofs.lemmas.Bool.{cases_lt, lt-ltb, le-ltb}
use Rattle.std.proofs.lemmas.List.{get_or-map, length-map, get_or_past}
use Rattle.std.proofs.lemmas.List.FromFn.{length-range_with_len}
use Rattle.table_definitions.specs.Lists.{has}
use Rattle.table_definitions.specs.Permutation.{image}
use Rattle.table_definitions.specs.Table.{Gluing, Row, Face, glue, other_side}
use Rattle.table_definitions.specs.Replacing.{replaced_length, fresh_row}
use Rattle.table_definitions.specs.Relabelling.{gluing_under}
use Rattle.table_definitions.specs.Replaceable.{fresh_numbers, fresh_glue}
use Rattle.table_definitions.proofs.FreshRows.{fresh_tet}
use Rattle.move_definitions.specs.Moves.{Move, Facet, vertex_of, opposite, facet, kept, new_length, new_facet, place_after, moved_gluing, facet_gluing}
use Rattle.move_definitions.specs.Undos.{taken_numbers}
use Rattle.move_laws.specs.Facets.{IsFacet, IsOldFacet, outer_gluing, fresh_gluing, put_row, put_rows, exchange}
use Rattle.move_laws.proofs.FacetLaws.{new_is_facet, core_few}
use Rattle.move_laws.proofs.LegalLaws.{IsLegal, label_in}
use Rattle.move_laws.proofs.NumberLaws.{numbers-of, row-of, has-range, range-has, not-has}
use Rattle.move_laws.proofs.ListedLaws.{length-taken}

abbrev row_at : List Row → Move → ℕ → Row
row_at rows m u = put_row rows m (u - kept rows m)

pub put-numbers : (rows : List Row) (m : Move) → fresh_numbers (exchange rows m) ≡ range_with_len (kept rows m) (length m.core)
put-numbers rows m = numbers-of (row_at rows m) (range_with_len (kept rows m) (length m.core))

pub put-length : (rows : List Row) (m : Move) → IsLegal rows m → replaced_length rows (exchange rows m) ≡ new_length rows m
put-length rows m legal =
    let a = length-taken rows m legal in
    let t : ℕ → ℕ × Row = λ u. (u, row_at rows m u) in
    let b : length (put_rows rows m) ≡ length m.core = length-map (range_with_len (kept rows m) (length m.core)) t ∙ length-range_with_len (kept rows m) (length m.core) in
    omega arith

pub is-put : (rows : List Row) (m : Move) (u : ℕ) → kept rows m ≤ u → u < new_length rows m → has (fresh_numbers (exchange rows m)) u ≡ true
is-put rows m u low high = ap (λ (ns : List ℕ). has ns u) (put-numbers rows m) ∙ has-range (kept rows m) (length m.core) u low high

pub put-is : (rows : List Row) (m : Move) (u : ℕ) → has (fresh_numbers (exchange rows m)) u ≡ true → (kept rows m ≤ u) × (u < new_length rows m)
put-is rows m u h = range-has (kept rows m) (length m.core) u (ap (λ (ns : List ℕ). has ns u) (sym (put-numbers rows m)) ∙ h)

pub not-put : (rows : List Row) (m : Move) (u : ℕ) → u < kept rows m → has (fresh_numbers (exchange rows m)) u ≡ false
not-put rows m u l = not-has (fresh_numbers (exchange rows m)) u (λ h. (let p = put-is rows m u h in let q = p.0 in absurd (omega arith)))

row-is : (rows : List Row) (m : Move) (j : ℕ) → j < length m.core → fresh_row (exchange rows m) (kept rows m + j) ≡ put_row rows m j
row-is rows m j l =
    let e : kept rows m + j - kept rows m ≡ j = omega arith in
    row-of (taken_numbers rows m) (row_at rows m) (range_with_len (kept rows m) (length m.core)) (kept rows m + j) (has-range (kept rows m) (length m.core) (kept rows m + j) (omega arith) (omega arith))
    ∙ ap (put_row rows m) e

-- the gluing of a face of a new facet
pub glue-put : (rows : List Row) (m : Move) (j v : ℕ) → j < length m.core → length m.core < 5 → v < 4 → fresh_glue (exchange rows m) (record { tet = kept rows m + j; face = v }) ≡ fresh_gluing rows m j (image (new_facet rows m j).labels v)
glue-put rows m j v l limited small =
    ap (λ (row : Row). get_or row v None) (row-is rows m j l)
    ∙ get_or-map (fresh_gluing rows m j) (new_facet rows m j).labels v 0 None (let q = (new_is_facet rows m j (omega arith)).four_labels in omega arith)

pub glue-opposite : (rows : List Row) (m : Move) (j l : ℕ) → j < length m.core → length m.core < 5 → l < 5 → l ≢ j → fresh_glue (exchange rows m) (opposite (new_facet rows m j) l) ≡ fresh_gluing rows m j l
glue-opposite rows m j l new limited small other =
    let N = new_is_facet rows m j (omega arith) in
    glue-put rows m j (vertex_of (new_facet rows m j) l) new limited (N.vertex_below l small other) ∙ ap (fresh_gluing rows m j) (N.label_back l small other)

pub glue-inner : (rows : List Row) (m : Move) (j l : ℕ) → IsLegal rows m → j < length m.core → l < length m.core → l ≢ j → fresh_glue (exchange rows m) (opposite (new_facet rows m j) l) ≡ Some (facet_gluing rows m (new_facet rows m j) l)
glue-inner rows m j l legal nj nl other =
    let limited = core_few m.core legal.core in
    glue-opposite rows m j l nj limited (omega arith) other
    ∙ ap (λ b. if◌then◌else◌ {A = Option Gluing} b (Some (facet_gluing rows m (new_facet rows m j) l)) (option_and_then (λ f. outer_gluing rows m f j) (facet rows m l))) (lt-ltb l (length m.core) nl)

pub glue-outer : (rows : List Row) (m : Move) (i j : ℕ) (f : Facet) → IsLegal rows m → IsOldFacet rows m i f → j < length m.core → fresh_glue (exchange rows m) (opposite (new_facet rows m j) i) ≡ outer_gluing rows m f j
glue-outer rows m i j f legal F nj =
    let limited = core_few m.core legal.core in
    let low = F.old_label in
    glue-opposite rows m j i nj limited (label_in rows m i f F) (λ e. absurd (omega arith))
    ∙ ap (λ b. if◌then◌else◌ {A = Option Gluing} b (Some (facet_gluing rows m (new_facet rows m j) i)) (option_and_then (λ f. outer_gluing rows m f j) (facet rows m i))) (le-ltb i (length m.core) low)
    ∙ ap (option_and_then (λ f. outer_gluing rows m f j)) F.found

-- a glued face of a new facet: it is glued to a new facet, or replaces a face of an old facet

pub record LeadsIn (rows : List Row) (m : Move) (x : Face) (g : Gluing) : Type 0 where
  pub j : ℕ
  pub l : ℕ
  pub own : j < length m.core
  pub new : l < length m.core
  pub other : l ≢ j
  pub at : x ≡ opposite (new_facet rows m j) l
  pub is : g ≡ facet_gluing rows m (new_facet rows m j) l

pub record LeadsOut (rows : List Row) (m : Move) (x : Face) (g : Gluing) : Type 0 where
  pub i : ℕ
  pub j : ℕ
  pub f : Facet
  pub before : Gluing
  pub there : Gluing
  pub old : IsOldFacet rows m i f
  pub own : j < length m.core
  pub at : x ≡ opposite (new_facet rows m j) i
  pub glued : glue rows (opposite f j) ≡ Some before
  pub occurs : place_after rows m (other_side (opposite f j) before) ≡ Some there
  pub is : g ≡ gluing_under (facet_gluing rows m f j) there before

abbrev pub Leads : List Row → Move → Face → Gluing → Type 0
Leads rows m x g = LeadsIn rows m x g ⊎ LeadsOut rows m x g

leads_by : (rows : List Row) (m : Move) (x : Face) (g : Gluing) (j l : ℕ) → IsLegal rows m → fresh_glue (exchange rows m) x ≡ Some g → IsFacet (new_facet rows m j) → j < length m.core → l < 5 → l ≢ j → x ≡ opposite (new_facet rows m j) l → Leads rows m x g
leads_by rows m x g j l legal e N own small other at = by_label (cases_lt l (length m.core))
  where
    by_stand : (f : Facet) (h : Gluing) (o : Option Gluing) → IsOldFacet rows m l f → glue rows (opposite f j) ≡ Some h → place_after rows m (other_side (opposite f j) h) ≡ o
        → option_map (λ r. gluing_under (facet_gluing rows m f j) r h) o ≡ Some g → Leads rows m x g
    by_stand f h None F glued q s = absurd cc
    by_stand f h (Some r) F glued q s =
        inr (record { i = l; j = j; f = f; before = h; there = r; old = F; own = own; at = at; glued = glued; occurs = q; is = cc })

    by_glue : (f : Facet) (o : Option Gluing) → IsOldFacet rows m l f → glue rows (opposite f j) ≡ o → option_and_then (moved_gluing rows m (opposite f j) (facet_gluing rows m f j)) o ≡ Some g → Leads rows m x g
    by_glue f None F q s = absurd cc
    by_glue f (Some h) F q s = by_stand f h (place_after rows m (other_side (opposite f j) h)) F q refl s

    by_label : (l < length m.core) ⊎ (length m.core ≤ l) → Leads rows m x g
    by_label (inl new) =
        let z : Some (facet_gluing rows m (new_facet rows m j) l) ≡ Some g = sym (glue-inner rows m j l legal own new other) ∙ ap (fresh_glue (exchange rows m)) (sym at) ∙ e in
        inl (record { j = j; l = l; own = own; new = new; other = other; at = at; is = cc })
    by_label (inr old) =
        let o = legal.facet_at l old small in
        let f : Facet = o.0 in
        by_glue f (glue rows (opposite f j)) o.1 refl (sym (glue-outer rows m l j f legal o.1 own) ∙ ap (fresh_glue (exchange rows m)) (sym at) ∙ e)

leads_own : (rows : List Row) (m : Move) (x : Face) (g : Gluing) (j : ℕ) → IsLegal rows m → fresh_glue (exchange rows m) x ≡ Some g → IsFacet (new_facet rows m j) → j < length m.core → x.tet ≡ kept rows m + j → Leads rows m x g
leads_own rows m x g j legal e N own tet = by_size (cases_lt x.face 4)
  where
    by_size : (x.face < 4) ⊎ (4 ≤ x.face) → Leads rows m x g
    by_size (inl b) =
        let mk : ℕ → ℕ → Face = λ t v. record { tet = t; face = v } in
        leads_by rows m x g j (image (new_facet rows m j).labels x.face) legal e N own (N.label_below x.face b) (N.label_other x.face b) (ap (λ t. mk t x.face) tet ∙ ap (mk (kept rows m + j)) (sym (N.vertex_back x.face b)))
    by_size (inr b) =
        let long : length (put_row rows m j) ≡ 4 = length-map (new_facet rows m j).labels (fresh_gluing rows m j) ∙ N.four_labels in
        let row : fresh_row (exchange rows m) x.tet ≡ put_row rows m j = ap (fresh_row (exchange rows m)) tet ∙ row-is rows m j own in
        let exceeded : get_or (put_row rows m j) x.face None ≡ None = get_or_past (put_row rows m j) x.face None (omega arith) in
        let n : fresh_glue (exchange rows m) x ≡ None = ap (λ (w : Row). get_or w x.face None) row ∙ exceeded in
        absurd cc

pub leads : (rows : List Row) (m : Move) (x : Face) (g : Gluing) → IsLegal rows m → fresh_glue (exchange rows m) x ≡ Some g → Leads rows m x g
leads rows m x g legal e =
    let limited = core_few m.core legal.core in
    let range = put-is rows m x.tet (fresh_tet (exchange rows m) x g e) in
    let low = range.0 in
    let high = range.1 in
    leads_own rows m x g (x.tet - kept rows m) legal e (new_is_facet rows m (x.tet - kept rows m) (omega arith)) (omega arith) (omega arith)
