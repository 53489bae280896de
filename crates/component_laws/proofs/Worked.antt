-- The component signature of two tetrahedra without gluings.
use Rattle.std.proofs.Common.{◌≡◌, ℕ, zero, suc, ◌<◌, false, List, [], ◌∷◌, length, Contains, Option, Some, None, option_map, slice_index_or, codes, subst, sym, ap, refl, ◌∙◌, arith, lit<, lit≤, option_and_then, ext_get_or}
use Rattle.std.proofs.lemmas.List.Sorted.{IsPermutation-refl}
use Rattle.table_definitions.specs.Lists.{is_list_before}
use Rattle.table_definitions.specs.Permutation.{identity, IsPermutationOfFour}
use Rattle.table_definitions.specs.Table.{Row, IsTable, glue}
use Rattle.table_definitions.specs.Places.{Place, whole, across, along, SameComponent}
use Rattle.table_definitions.specs.Relabelling.{Relabelling, AreIsomorphic, relabelled_place, gluing_under}
use Rattle.table_definitions.proofs.Tests.{Carries-passed}
use Rattle.table_definitions.proofs.Carried.{stands_for}
use Rattle.table_definitions.proofs.ChainLaws.{crossed}
use Rattle.table_definitions.proofs.ListLaws.{not_before_itself}
use Rattle.signature_definitions.specs.Spelling.{Spells, spelling, IsSignature}
use Rattle.signature_definitions.proofs.Computed.{computed}
use Rattle.component_definitions.specs.Parts.{Part, IsPart, AreParts, first_of, rows_of}
use Rattle.component_laws.specs.WorkedParts.{free_row, TwoFreeTets}

abbrev one : List Row
one = free_row ∷ []

abbrev two : List Row
two = free_row ∷ free_row ∷ []

free_face : (f : ℕ) → slice_index_or free_row f None ≡ None
free_face zero = refl
free_face (suc zero) = refl
free_face (suc (suc zero)) = refl
free_face (suc (suc (suc zero))) = refl
free_face (suc (suc (suc (suc f)))) = refl

one_free : (t f : ℕ) → glue one (record { tet = t; face = f }) ≡ None
one_free zero f = free_face f
one_free (suc t) f = refl

two_free : (t f : ℕ) → glue two (record { tet = t; face = f }) ≡ None
two_free zero f = free_face f
two_free (suc zero) f = free_face f
two_free (suc (suc t)) f = refl

-- ---- one tetrahedron

one_table : IsTable one
one_table = record {
  limited = lit≤ tt;
  four_faces = four;
  permutes = λ x g e. let z : None ≡ Some g = sym (one_free x.tet x.face) ∙ e in absurd cc;
  in_range = λ x g e. let z : None ≡ Some g = sym (one_free x.tet x.face) ∙ e in absurd cc;
  separate = λ x g e. let z : None ≡ Some g = sym (one_free x.tet x.face) ∙ e in absurd cc;
  leads_back = λ x g e. let z : None ≡ Some g = sym (one_free x.tet x.face) ∙ e in absurd cc;
}
  where
    four : (k : ℕ) (d : Row) → k < 1 → length (slice_index_or one k d) ≡ 4
    four zero d l = refl
    four (suc k) d l = absurd (omega arith)

same : Relabelling
same = record { images = 0 ∷ []; perms = identity ∷ [] }

same_relabels : AreIsomorphic one one
unfolding computed same
same_relabels = (same, record { images = IsPermutation-refl (0 ∷ []); perms = refl; permutes = permutes }, Carries-passed same one one refl refl refl)
  where
    permutes : (k : ℕ) (d : List ℕ) → k < 1 → IsPermutationOfFour (slice_index_or (identity ∷ []) k d)
    permutes zero d l = refl
    permutes (suc k) d l = absurd (omega arith)

-- a table that is isomorphic to it is equal to it
only_one : (new : List Row) → AreIsomorphic one new → new ≡ one
only_one new r = ext_get_or [] new one r.2.same_length (λ k l. row_at k (subst (λ n. k < n) r.2.same_length l))
  where
    free : (f : ℕ) → f < 4 → slice_index_or (slice_index_or new 0 []) f None ≡ None
    free f l = let w = stands_for one new r.0 r.1 r.2 (record { tet = 0; face = f }) (lit< tt) l in
        w.1.glued ∙ ap (option_map (λ g. gluing_under (relabelled_place r.0 w.0.tet) (relabelled_place r.0 g.tet) g)) (one_free w.0.tet w.0.face)

    row_at : (k : ℕ) → k < 1 → slice_index_or new k [] ≡ slice_index_or one k []
    row_at zero l = ext_get_or None (slice_index_or new 0 []) free_row (r.2.four_faces 0 [] (subst (λ n. 0 < n) (sym r.2.same_length) (lit< tt)))
        (λ f m. free f (subst (λ n. f < n) (r.2.four_faces 0 [] (subst (λ n. 0 < n) (sym r.2.same_length) (lit< tt))) m) ∙ sym (free_face f))
    row_at (suc k) l = absurd (omega arith)

one_spelled : Spells (codes "baa") one
unfolding computed
one_spelled = record { table = one_table; ordered = refl; spelled = refl }

one_signature : IsSignature one (codes "baa")
one_signature = record {
  found = (one, same_relabels, one_spelled);
  least = λ new other r s. ap (λ t. is_list_before t (codes "baa")) (s.spelled ∙ ap spelling (only_one new r) ∙ sym one_spelled.spelled) ∙ not_before_itself (codes "baa");
}

-- ---- two tetrahedra

never_joined : (t u : ℕ) → SameComponent two t u → t ≡ u
never_joined t u j = go j.0 j.1
  where
    go : (fs : List ℕ) → along two (whole t) fs ≡ Some (whole u) → t ≡ u
    go [] e = let z : Some (whole t) ≡ Some (whole u) = e in let same : whole t ≡ whole u = cc in ap (λ (p : Place). p.tet) same
    go (f ∷ fs) e = by_step (across two (whole t) f) refl
      where
        by_step : (o : Option Place) → across two (whole t) f ≡ o → t ≡ u
        by_step None d = let z : None ≡ Some (whole u) = ap (option_and_then (λ q. along two q fs)) (sym d) ∙ e in absurd cc
        by_step (Some q) d = let s = crossed two (whole t) f q refl d in let z : None ≡ Some s.g = sym (two_free t f) ∙ s.glued in absurd cc

abbrev part : ℕ → Part
part t = record { rows = one; numbers = t ∷ [] }

part_is_right : (t : ℕ) → t < 2 → IsPart two (part t)
part_is_right t l = record { some = lit< tt; ascending = λ i j d less m. absurd (omega arith); members = λ u. (there u, back u); renumbers = renumbers t l }
  where
    there : (u : ℕ) → Contains (t ∷ []) u → (u < 2) × SameComponent two t u
    there u c = here c.0 c.1 c.2
      where
        here : (k : ℕ) → k < 1 → slice_index_or (t ∷ []) k u ≡ u → (u < 2) × SameComponent two t u
        here zero m e = (subst (λ v. v < 2) e l, subst (SameComponent two t) e ([], refl))
        here (suc k) m e = absurd (omega arith)

    back : (u : ℕ) → (u < 2) × SameComponent two t u → Contains (t ∷ []) u
    back u h = (0, lit< tt, never_joined t u h.1)

    renumbers : (v : ℕ) → v < 2 → one ≡ rows_of two (v ∷ [])
    renumbers zero m = refl
    renumbers (suc zero) m = refl
    renumbers (suc (suc v)) m = absurd (omega arith)

two_parts : AreParts two (part 0 ∷ part 1 ∷ [])
two_parts = record { each = each; ascending = ascending; whole = holds }
  where
    each : (k : ℕ) (d : Part) → k < 2 → IsPart two (slice_index_or (part 0 ∷ part 1 ∷ []) k d)
    each zero d l = part_is_right 0 (lit< tt)
    each (suc zero) d l = part_is_right 1 (lit< tt)
    each (suc (suc k)) d l = absurd (omega arith)

    ascending : (i j : ℕ) (d : Part) → i < j → j < 2 → first_of (slice_index_or (part 0 ∷ part 1 ∷ []) i d) < first_of (slice_index_or (part 0 ∷ part 1 ∷ []) j d)
    ascending zero zero d less l = absurd (omega arith)
    ascending zero (suc zero) d less l = lit< tt
    ascending (suc i) zero d less l = absurd (omega arith)
    ascending (suc i) (suc zero) d less l = absurd (omega arith)
    ascending i (suc (suc j)) d less l = absurd (omega arith)

    holds : (t : ℕ) → t < 2 → (p : Part) × Contains (part 0 ∷ part 1 ∷ []) p × Contains p.numbers t
    holds zero l = (part 0, (0, lit< tt, refl), (0, lit< tt, refl))
    holds (suc zero) l = (part 1, (1, lit< tt, refl), (0, lit< tt, refl))
    holds (suc (suc t)) l = absurd (omega arith)

pub two_free_tets : TwoFreeTets
two_free_tets = record {
  parts = part 0 ∷ part 1 ∷ [];
  are_parts = two_parts;
  signatures = codes "baa" ∷ codes "baa" ∷ [];
  of_parts = (one_signature, (one_signature, tt));
  ordered = codes "baa" ∷ codes "baa" ∷ [];
  same = IsPermutation-refl (codes "baa" ∷ codes "baa" ∷ []);
  in_order = in_order;
  joined = refl;
}
  where
    in_order : (i j : ℕ) (d : List ℕ) → i < j → j < 2 → is_list_before (slice_index_or (codes "baa" ∷ codes "baa" ∷ []) j d) (slice_index_or (codes "baa" ∷ codes "baa" ∷ []) i d) ≡ false
    in_order zero zero d less l = absurd (omega arith)
    in_order zero (suc zero) d less l = refl
    in_order (suc i) zero d less l = absurd (omega arith)
    in_order (suc i) (suc zero) d less l = absurd (omega arith)
    in_order i (suc (suc j)) d less l = absurd (omega arith)
