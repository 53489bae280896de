-- The parts of a table are its components.
use Rattle.std.proofs.Common.{◌≡◌, ℕ, ◌<◌, ◌≤◌, ◌+◌, List, [], ◌∷◌, ◌++◌, length, map, Contains, slice_index, slice_index_or, subst, subst₂, sym, ap, refl, ◌∙◌, arith}
use Rattle.std.specs.Prelude.{◌==◌}
use Rattle.std.proofs.lemmas.Bool.{eqb-true, eq-eqb}
use Rattle.std.proofs.lemmas.List.{length-map}
use Rattle.std.proofs.lemmas.List.FromFn.{length-range_with_len, map-range_with_len_more, get_or-map-range_with_len}
use Rattle.basic_lemmas.proofs.Members.{contains_at}
use Rattle.table_definitions.specs.Lists.{below}
use Rattle.table_definitions.specs.Table.{Row, IsTable}
use Rattle.table_definitions.proofs.Bijections.{below_contains}
use Rattle.table_definitions.specs.Places.{SameComponent}
use Rattle.table_definitions.specs.Classes.{IsNumbering, members}
use Rattle.component_definitions.specs.Parts.{Part, first_of, IsPart, AreParts}
use Rattle.component_laws.proofs.Members.{first_least}
use Rattle.component_signature.specs.Components.{part_of}
use Rattle.component_signature.proofs.Filtered.{passes, keeps, ascends, below_holds}

-- one more component
pub one_more : (rows : List Row) (classes : List ℕ) (c : ℕ) (parts new : List Part) → parts ≡ map (part_of rows classes) (below c) → new ≡ parts ++ part_of rows classes c ∷ [] →
    new ≡ map (part_of rows classes) (below (c + 1))
one_more rows classes c parts new made e = e ∙ ap (λ (ps : List Part). ps ++ part_of rows classes c ∷ []) made ∙ sym (map-range_with_len_more (part_of rows classes) 0 c c (omega arith))

module _ (rows : List Row) (classes : List ℕ) (count : ℕ) (h : IsNumbering (length rows) (SameComponent rows) classes count) where
  member_in : (c t : ℕ) → Contains (members classes c) t → (t < length rows) × (slice_index classes t ≡ c)
  member_in c t m = let w = passes (λ u. slice_index classes u == c) (below (length classes)) t m in
      (subst (λ n. t < n) h.one_each (below_holds (length classes) t w.0), eqb-true (slice_index classes t) c w.1)

  member_from : (c t : ℕ) → t < length rows → slice_index classes t ≡ c → Contains (members classes c) t
  member_from c t l e = keeps (λ u. slice_index classes u == c) (below (length classes)) t (below_contains (length classes) t (subst (λ n. t < n) (sym h.one_each) l)) (eq-eqb (slice_index classes t) c e)

  -- a class with a member is a component
  module _ (c y : ℕ) (l : y < length rows) (e : slice_index classes y ≡ c) where
    some : 0 < length (members classes c)
    some = let m = member_from c y l e in let b : m.0 < length (members classes c) = m.1 in omega arith

    first_in : (first_of (part_of rows classes c) < length rows) × (slice_index classes (first_of (part_of rows classes c)) ≡ c)
    first_in = member_in c (first_of (part_of rows classes c)) (contains_at (members classes c) 0 (first_of (part_of rows classes c)) some refl)

    pub part_is : IsPart rows (part_of rows classes c)
    part_is = record {
      some = some;
      ascending = ascends (λ u. slice_index classes u == c) (length classes);
      members = λ t. (
        λ m. let w = member_in c t m in (w.0, (h.together (first_of (part_of rows classes c)) t first_in.0 w.0).0 (first_in.1 ∙ sym w.1)),
        λ w. member_from c t w.0 (sym ((h.together (first_of (part_of rows classes c)) t first_in.0 w.0).1 w.1) ∙ first_in.1),
      );
      renumbers = refl;
    }

    least : IsTable rows → (t : ℕ) → t < length rows → slice_index classes t ≡ c → first_of (part_of rows classes c) ≤ t
    least table t m f = first_least rows table (part_of rows classes c) part_is t (member_from c t m f)

  -- each class has a member, and so is a component
  pub component_is : (c : ℕ) → c < count → IsPart rows (part_of rows classes c)
  component_is c l = let y = h.none_empty c l in part_is c y.0 y.1 y.2

  module _ (table : IsTable rows) (parts : List Part) (made : parts ≡ map (part_of rows classes) (below count)) where
    long : length parts ≡ count
    long = ap (λ (ps : List Part). length ps) made ∙ length-map (below count) (part_of rows classes) ∙ length-range_with_len 0 count

    at : (c : ℕ) (d : Part) → c < count → slice_index_or parts c d ≡ part_of rows classes c
    at c d l = ap (λ (ps : List Part). slice_index_or ps c d) made ∙ get_or-map-range_with_len (part_of rows classes) 0 count c c d l (omega arith)

    ascend : (c d : ℕ) → c < d → d < count → first_of (part_of rows classes c) < first_of (part_of rows classes d)
    ascend c d less l =
        let v = h.none_empty d l in
        let f = first_in d v.0 v.1 v.2 in
        let w = h.ascending (first_of (part_of rows classes d)) c f.0 (subst (λ n. c < n) (sym f.1) less) in
        let under : w.0 < first_of (part_of rows classes d) = w.1 in
        let fl : first_of (part_of rows classes d) < length rows = f.0 in
        let b : first_of (part_of rows classes c) ≤ w.0 = least c w.0 (omega arith) w.2 table w.0 (omega arith) w.2 in omega arith

    pub are_parts : AreParts rows parts
    are_parts = record {
      each = λ c d l. let m : c < count = omega (arith, long) in subst (IsPart rows) (sym (at c d m)) (component_is c m);
      ascending = λ c e d less l. let m : e < count = omega (arith, long) in
          subst₂ (λ (p q : Part). first_of p < first_of q) (sym (at c d (omega arith))) (sym (at e d m)) (ascend c e less m);
      whole = λ t l. let m : slice_index classes t < count = h.in_range t l in (
        part_of rows classes (slice_index classes t),
        (slice_index classes t, omega (arith, long), at (slice_index classes t) (part_of rows classes (slice_index classes t)) m),
        member_from (slice_index classes t) t l refl,
      );
    }
