-- The members of components: closed under gluings and joins, and each in one component.
use Rattle.std.proofs.Common.{◌≡◌, ℕ, ◌<◌, ◌≤◌, inl, inr, true, List, [], length, Contains, Option, Some, None, option_map, slice_index, slice_index_or, subst, sym, ap, refl, ◌∙◌, arith}
use Rattle.std.specs.Prelude.{not}
use Rattle.std.proofs.lemmas.Bool.{cases_order, cases_eq}
use Rattle.std.proofs.lemmas.List.{get_or_default}
use Rattle.std.proofs.lemmas.List.Elements.{All-from_get_or, All-get_or}
use Rattle.basic_lemmas.proofs.Members.{contains_at}
use Rattle.table_definitions.specs.Permutation.{IsPermutationOfFour, image, inverse}
use Rattle.table_definitions.specs.Table.{Gluing, Row, Face, IsTable, glue, other_side, inverse_gluing, same_face}
use Rattle.table_definitions.specs.Places.{whole, SameComponent}
use Rattle.table_definitions.proofs.TableLaws.{glued_tet}
use Rattle.table_definitions.proofs.ChainLaws.{joined_trans, joins_back, gluing_joins}
use Rattle.table_definitions.proofs.Carried.{not_from, same_from, same_to}
use Rattle.component_definitions.specs.Parts.{Part, place_in, renumbered, first_of, IsPart, AreParts}
use Rattle.component_laws.proofs.Numbers.{stands_once, place_at, place_of, entry_of, glue-rows_of, length-rows_of, length-row_of, fits}

face : ℕ → ℕ → Face
face t f = record { tet = t; face = f }

module _ (rows : List Row) (table : IsTable rows) (part : Part) (h : IsPart rows part) where
  pub member_below : (t : ℕ) → Contains part.numbers t → t < length rows
  member_below t c = ((h.members t).0 c).0

  pub first_member : Contains part.numbers (first_of part)
  first_member = contains_at part.numbers 0 (first_of part) h.some refl

  pub joined_member : (t u : ℕ) → Contains part.numbers t → SameComponent rows t u → u < length rows → Contains part.numbers u
  joined_member t u c j l = (h.members u).1 (l, joined_trans rows (whole (first_of part)) (whole t) (whole u) ((h.members t).0 c).1 j)

  -- two members of a component are joined
  pub joins : (t u : ℕ) → Contains part.numbers t → Contains part.numbers u → SameComponent rows t u
  joins t u a b = joined_trans rows (whole t) (whole (first_of part)) (whole u) (joins_back rows (first_of part) t table ((h.members t).0 a).1) ((h.members u).0 b).1

  pub glued_member : (t f : ℕ) (g : Gluing) → Contains part.numbers t → glue rows (record { tet = t; face = f }) ≡ Some g → Contains part.numbers g.tet
  glued_member t f g c e = joined_member t g.tet c (gluing_joins rows (record { tet = t; face = f }) g e) (table.in_range (record { tet = t; face = f }) g e)

  pub first_least : (t : ℕ) → Contains part.numbers t → first_of part ≤ t
  first_least t c = elim (cases_eq c.0 0) [
    | inl z ↦ let e : slice_index part.numbers c.0 ≡ t = entry_of part.numbers t c in let f : slice_index part.numbers c.0 ≡ slice_index part.numbers 0 = ap (slice_index part.numbers) z in omega arith
    | inr n ↦ let e : slice_index part.numbers c.0 ≡ t = entry_of part.numbers t c in let l : slice_index part.numbers 0 < slice_index part.numbers c.0 = h.ascending 0 c.0 0 (omega arith) c.1 in omega arith
  ]

  pub length-part : length part.rows ≡ length part.numbers
  length-part = ap length h.renumbers ∙ length-rows_of rows part.numbers

  pub glue-part : (k f : ℕ) → k < length part.numbers → glue part.rows (record { tet = k; face = f }) ≡ option_map (renumbered part.numbers) (glue rows (record { tet = slice_index part.numbers k; face = f }))
  glue-part k f l = ap (λ (all : List Row). glue all (record { tet = k; face = f })) h.renumbers ∙ glue-rows_of rows part.numbers k f l

  -- ---- a component is a table

  limited : length part.numbers ≤ length rows
  limited = fits (length part.numbers) (length rows) (slice_index part.numbers) (λ i l. member_below (slice_index part.numbers i) (contains_at part.numbers i (slice_index part.numbers i) l refl))
      (λ i j li lj e. stands_once part.numbers h.ascending i j li lj e)

  -- the gluing of the whole table that is renumbered
  record GluedIn (k f : ℕ) (g' : Gluing) : Type 0 where
    in_part : k < length part.numbers
    g : Gluing
    glued : glue rows (face (slice_index part.numbers k) f) ≡ Some g
    is : renumbered part.numbers g ≡ g'
    member : Contains part.numbers g.tet

  glued_in : (k f : ℕ) (g' : Gluing) → glue part.rows (record { tet = k; face = f }) ≡ Some g' → GluedIn k f g'
  unfolding face
  glued_in k f g' e = cases (glue rows (face (slice_index part.numbers k) f)) refl
    where
      l : k < length part.numbers
      l = subst (λ n. k < n) length-part (glued_tet part.rows (record { tet = k; face = f }) g' e)

      cases : (o : Option Gluing) → glue rows (face (slice_index part.numbers k) f) ≡ o → GluedIn k f g'
      cases None n = let z : None ≡ Some g' = sym (ap (option_map (renumbered part.numbers)) n) ∙ sym (glue-part k f l) ∙ e in absurd cc
      cases (Some g) n =
          let z : Some (renumbered part.numbers g) ≡ Some g' = sym (ap (option_map (renumbered part.numbers)) n) ∙ sym (glue-part k f l) ∙ e in
          let same : renumbered part.numbers g ≡ g' = cc in
          record { in_part = l; g = g; glued = n; is = same; member = glued_member (slice_index part.numbers k) f g (contains_at part.numbers k (slice_index part.numbers k) l refl) n }

  part_apart : (k f : ℕ) (g' : Gluing) → glue part.rows (record { tet = k; face = f }) ≡ Some g' → same_face (other_side (record { tet = k; face = f }) g') (record { tet = k; face = f }) ≡ true → ⊥
  unfolding face
  part_apart k f g' e s =
      let d = glued_in k f g' e in
      let p = place_of part.numbers h.ascending d.g.tet d.member in
      let same = same_from g'.tet k (image g'.perm f) f s in
      let there : slice_index part.numbers k ≡ d.g.tet = ap (slice_index part.numbers) (sym same.0 ∙ ap (λ (g : Gluing). g.tet) (sym d.is)) ∙ p.1 in
      let backwards : image d.g.perm f ≡ f = ap (λ (g : Gluing). image g.perm f) d.is ∙ same.1 in
      let not_itself : not (same_face (other_side (face (slice_index part.numbers k) f) d.g) (face (slice_index part.numbers k) f)) ≡ true = table.separate (face (slice_index part.numbers k) f) d.g d.glued in
      let itself : same_face (other_side (face (slice_index part.numbers k) f) d.g) (face (slice_index part.numbers k) f) ≡ true = same_to d.g.tet (slice_index part.numbers k) (image d.g.perm f) f (sym there) backwards in cc

  part_back : (k f : ℕ) (g' : Gluing) → glue part.rows (record { tet = k; face = f }) ≡ Some g' → glue part.rows (other_side (record { tet = k; face = f }) g') ≡ Some (inverse_gluing (record { tet = k; face = f }) g')
  unfolding face
  part_back k f g' e =
      let d = glued_in k f g' e in
      let p = place_of part.numbers h.ascending d.g.tet d.member in
      subst (λ (b : Gluing). glue part.rows (other_side (record { tet = k; face = f }) b) ≡ Some (inverse_gluing (record { tet = k; face = f }) b)) d.is
      (glue-part (place_in part.numbers d.g.tet) (image d.g.perm f) p.0
      ∙ ap (λ t. option_map (renumbered part.numbers) (glue rows (record { tet = t; face = image d.g.perm f }))) p.1
      ∙ ap (option_map (renumbered part.numbers)) (table.leads_back (face (slice_index part.numbers k) f) d.g d.glued)
      ∙ ap (λ t. Some (record { tet = t; perm = inverse d.g.perm })) (place_at part.numbers h.ascending k d.in_part))

  pub part_is_table : IsTable part.rows
  unfolding face
  part_is_table = record {
    limited = let a : length part.numbers ≤ length rows = limited in let b : length rows ≤ 1000 = table.limited in let c : length part.rows ≡ length part.numbers = length-part in omega arith;
    four_faces = All-from_get_or (λ (row : Row). length row ≡ 4) part.rows [] (λ k l. let m : k < length part.numbers = subst (λ n. k < n) length-part l in
        ap (λ (all : List Row). length (slice_index_or all k [])) h.renumbers ∙ length-row_of rows part.numbers k m ∙
        All-get_or (λ (row : Row). length row ≡ 4) rows (slice_index part.numbers k) [] (member_below (slice_index part.numbers k) (contains_at part.numbers k (slice_index part.numbers k) m refl)) table.four_faces);
    permutes = λ x g' e. let d = glued_in x.tet x.face g' e in subst (λ (b : Gluing). IsPermutationOfFour b.perm) d.is (table.permutes (face (slice_index part.numbers x.tet) x.face) d.g d.glued);
    in_range = λ x g' e. let d = glued_in x.tet x.face g' e in subst (λ n. g'.tet < n) (sym length-part) (subst (λ (b : Gluing). b.tet < length part.numbers) d.is (place_of part.numbers h.ascending d.g.tet d.member).0);
    separate = λ x g' e. not_from (same_face (other_side x g') x) (part_apart x.tet x.face g' e);
    leads_back = λ x g' e. part_back x.tet x.face g' e;
  }

-- ---- one component for each tetrahedron

abbrev pub no_part : Part
no_part = record { rows = []; numbers = [] }

abbrev pub part_at : List Part → ℕ → Part
part_at parts i = slice_index_or parts i no_part

abbrev pub numbers_at : List Part → ℕ → List ℕ
numbers_at parts i = (part_at parts i).numbers

-- the component of a tetrahedron, and the tetrahedron's index in it
pub record StandsAt (parts : List Part) (t : ℕ) : Type 0 where
  pub i : ℕ
  pub in_parts : i < length parts
  pub k : ℕ
  pub in_numbers : k < length (numbers_at parts i)
  pub is : slice_index (numbers_at parts i) k ≡ t

module _ (rows : List Row) (table : IsTable rows) (parts : List Part) (h : AreParts rows parts) where
  pub part_is : (i : ℕ) → i < length parts → IsPart rows (part_at parts i)
  part_is i l = h.each i no_part l

  pub stands_at : (t : ℕ) → t < length rows → StandsAt parts t
  stands_at t l = from (h.whole t l)
    where
      from : (part : Part) × Contains parts part × Contains part.numbers t → StandsAt parts t
      from (part, c, d) = let e : part_at parts c.0 ≡ part = get_or_default parts c.0 no_part part c.1 ∙ c.2 in
          let d' : Contains (numbers_at parts c.0) t = subst (λ (p : Part). Contains p.numbers t) (sym e) d in
          record { i = c.0; in_parts = c.1; k = d'.0; in_numbers = d'.1; is = entry_of (numbers_at parts c.0) t d' }

  pub member_of : (t : ℕ) (s : StandsAt parts t) → Contains (numbers_at parts s.i) t
  member_of t s = contains_at (numbers_at parts s.i) s.k t s.in_numbers s.is

  -- a component that shares a member with another contains the first tetrahedron of the other
  lower : (i j t : ℕ) → i < length parts → j < length parts → Contains (numbers_at parts i) t → Contains (numbers_at parts j) t → first_of (part_at parts i) ≤ first_of (part_at parts j)
  lower i j t li lj ci cj = let p = part_is i li in let q = part_is j lj in
      first_least rows table (part_at parts i) p (first_of (part_at parts j))
      (joined_member rows table (part_at parts i) p t (first_of (part_at parts j)) ci
      (joins_back rows (first_of (part_at parts j)) t table ((q.members t).0 cj).1)
      (member_below rows table (part_at parts j) q (first_of (part_at parts j)) (first_member rows table (part_at parts j) q)))

  pub one_part : (i j t : ℕ) → i < length parts → j < length parts → Contains (numbers_at parts i) t → Contains (numbers_at parts j) t → i ≡ j
  one_part i j t li lj ci cj = elim (cases_order i j) [
    | inl same ↦ same
    | inr (inl less) ↦ let a : first_of (part_at parts j) ≤ first_of (part_at parts i) = lower j i t lj li cj ci in
        let b : first_of (part_at parts i) < first_of (part_at parts j) = h.ascending i j no_part less lj in absurd (omega arith)
    | inr (inr more) ↦ let a : first_of (part_at parts i) ≤ first_of (part_at parts j) = lower i j t li lj ci cj in
        let b : first_of (part_at parts j) < first_of (part_at parts i) = h.ascending j i no_part more li in absurd (omega arith)
  ]

  pub one_place : (t : ℕ) (a b : StandsAt parts t) → (a.i ≡ b.i) × (a.k ≡ b.k)
  one_place t a b = (
    parts_same,
    stands_once (numbers_at parts b.i) (part_is b.i b.in_parts).ascending a.k b.k (subst (λ i. a.k < length (numbers_at parts i)) parts_same a.in_numbers) b.in_numbers
        (subst (λ i. slice_index (numbers_at parts i) a.k ≡ t) parts_same a.is ∙ sym b.is),
  )
    where
      parts_same : a.i ≡ b.i
      parts_same = one_part a.i b.i t a.in_parts b.in_parts (member_of t a) (member_of t b)
