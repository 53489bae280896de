-- A table has at most one signature, and two tables at most one least relabelling; what follows from them.
use Rattle.std.proofs.Common.{◌≡◌, ℕ, ◌<◌, ◌≤◌, Bool, true, false, List, [], ◌∷◌, length, Some, refl, sym, ap, ◌∙◌, subst, arith, inl, inr}
use Rattle.std.specs.Prelude.{◌⊎◌, ◌==◌, ◌||◌, ◌&&◌, ◌↔◌, nat_lt, option_map}
use Rattle.std.proofs.lemmas.Bool.{eqb-true, eq-eqb, ltb-true, ltb-false, lt-ltb, and_parts, or_cases, or_parts}
use Rattle.table_definitions.specs.Lists.{is_list_before}
use Rattle.table_definitions.specs.Permutation.{IsPermutationOfFour, index}
use Rattle.table_definitions.specs.Table.{Gluing, Row, Face, IsTable, glue}
use Rattle.table_definitions.specs.Places.{Place, whole, across, IsConnected}
use Rattle.table_definitions.specs.Relabelling.{Relabelling, AreIsomorphic, relabelled_place, face_under, gluing_under}
use Rattle.table_definitions.proofs.TableLaws.{glued_face, glued_tet}
use Rattle.table_definitions.proofs.ChainLaws.{kept_along, crossed}
use Rattle.signature_definitions.specs.Spelling.{Spells, IsSignature}
use Rattle.signature_text_laws.proofs.SlotLaws.{ok_same}
use Rattle.signature_text_laws.proofs.SpelledTables.{spelled_read}
use Rattle.table_definitions.proofs.Permutations.{index_apart}
use Rattle.table_definitions.proofs.Carried.{perm_permutes}
use Rattle.signature_definitions.specs.Labellings.{Relabels, is_image_before, IsLeastRelabelling}
use Rattle.signature_laws.proofs.Standing.{same_relabelling}
use Rattle.signature_laws.proofs.Invariance.{relabels_back, relabels_on}
use Rattle.signature_laws.proofs.Agreeing.{one_behind}

open_and : (p q : Bool) → p ≡ true → (p && q) ≡ q
open_and p q h = rw h refl

-- if neither of two lists is before the other, they are equal
pub neither_before : (xs ys : List ℕ) → is_list_before xs ys ≡ false → is_list_before ys xs ≡ false → xs ≡ ys
neither_before [] [] e f = refl
neither_before [] (y ∷ ys) e f = absurd cc
neither_before (x ∷ xs) [] e f = absurd cc
neither_before (x ∷ xs) (y ∷ ys) e f =
    let a = or_parts (nat_lt x y) ((x == y) && is_list_before xs ys) e in
    let b = or_parts (nat_lt y x) ((y == x) && is_list_before ys xs) f in
    let low : y ≤ x = ltb-false x y a.0 in
    let high : x ≤ y = ltb-false y x b.0 in
    let same : x ≡ y = omega arith in
    let rest : xs ≡ ys = neither_before xs ys (sym (open_and (x == y) (is_list_before xs ys) (eq-eqb x y same)) ∙ a.1) (sym (open_and (y == x) (is_list_before ys xs) (eq-eqb y x (sym same))) ∙ b.1) in
    λ i. same i ∷ rest i

-- being before is transitive
pub before_before : (xs ys zs : List ℕ) → is_list_before xs ys ≡ true → is_list_before ys zs ≡ true → is_list_before xs zs ≡ true
before_before xs [] zs e f = absurd (never xs e)
  where
    never : (xs : List ℕ) → is_list_before xs [] ≡ true → ⊥
    never [] e = cc
    never (x ∷ xs) e = cc
before_before xs (y ∷ ys) [] e f = absurd cc
before_before [] (y ∷ ys) (z ∷ zs) e f = refl
before_before (x ∷ xs) (y ∷ ys) (z ∷ zs) e f =
    both (before_before xs ys zs) (or_cases (nat_lt x y) ((x == y) && is_list_before xs ys) e) (or_cases (nat_lt y z) ((y == z) && is_list_before ys zs) f)
  where
    less : x < z → is_list_before (x ∷ xs) (z ∷ zs) ≡ true
    less l = rw (lt-ltb x z l) refl

    both : (is_list_before xs ys ≡ true → is_list_before ys zs ≡ true → is_list_before xs zs ≡ true) → (nat_lt x y ≡ true) ⊎ (((x == y) && is_list_before xs ys) ≡ true) → (nat_lt y z ≡ true) ⊎ (((y == z) && is_list_before ys zs) ≡ true) → is_list_before (x ∷ xs) (z ∷ zs) ≡ true
    both rest (inl a) (inl b) = let l = ltb-true x y a in let m = ltb-true y z b in less (omega (arith, l, m))
    both rest (inl a) (inr b) = let l = ltb-true x y a in let m = eqb-true y z (and_parts (y == z) (is_list_before ys zs) b).0 in less (omega (arith, l, m))
    both rest (inr a) (inl b) = let l = eqb-true x y (and_parts (x == y) (is_list_before xs ys) a).0 in let m = ltb-true y z b in less (omega (arith, l, m))
    both rest (inr a) (inr b) =
        let p = and_parts (x == y) (is_list_before xs ys) a in
        let q = and_parts (y == z) (is_list_before ys zs) b in
        let l = eqb-true x y p.0 in
        let m = eqb-true y z q.0 in
        let same : x ≡ z = omega (arith, l, m) in
        behind (nat_lt x z) (x == z) (is_list_before xs zs) (eq-eqb x z same) (rest p.1 q.1)
      where
        behind : (a b c : Bool) → b ≡ true → c ≡ true → (a || (b && c)) ≡ true
        behind true b c h k = refl
        behind false b c h k = rw (h, k) refl

-- a table has one signature
pub one_signature : (rows : List Row) (text other : List ℕ) → IsSignature rows text → IsSignature rows other → text ≡ other
one_signature rows text other s t =
    neither_before text other (t.least s.found.0 text s.found.1 s.found.2) (s.least t.found.0 other t.found.1 t.found.2)

-- two tables have the same signature if and only if they are isomorphic
pub tells_tables : (first second : List Row) (text other : List ℕ) → IsTable first → IsTable second → IsSignature first text → IsSignature second other → (text ≡ other) ↔ AreIsomorphic first second
tells_tables first second text other a b s t = (there, back)
  where
    there : text ≡ other → AreIsomorphic first second
    there e =
        let one : s.found.0 ≡ t.found.0 = ok_same s.found.0 t.found.0 (sym (spelled_read text s.found.0 s.found.2) ∙ spelled_read text t.found.0 (subst (λ (w : List ℕ). Spells w t.found.0) (sym e) t.found.2)) in
        let to : AreIsomorphic first t.found.0 = subst (AreIsomorphic first) one s.found.1 in
        relabels_on first t.found.0 second a to (relabels_back second t.found.0 b t.found.1)

    back : AreIsomorphic first second → text ≡ other
    back r = neither_before text other
        (t.least s.found.0 text (relabels_on second first s.found.0 b (relabels_back first second a r) s.found.1) s.found.2)
        (s.least t.found.0 other (relabels_on first second t.found.0 a r t.found.1) t.found.2)

-- if neither of two gluings is before the other, they are equal
neither_stand_in : (s r : Gluing) → IsPermutationOfFour s.perm → IsPermutationOfFour r.perm → is_image_before s r ≡ false → is_image_before r s ≡ false → s ≡ r
neither_stand_in s r hs hr e f =
    let a = or_parts (nat_lt s.tet r.tet) ((s.tet == r.tet) && nat_lt (index s.perm) (index r.perm)) e in
    let b = or_parts (nat_lt r.tet s.tet) ((r.tet == s.tet) && nat_lt (index r.perm) (index s.perm)) f in
    let low : r.tet ≤ s.tet = ltb-false s.tet r.tet a.0 in
    let high : s.tet ≤ r.tet = ltb-false r.tet s.tet b.0 in
    let same : s.tet ≡ r.tet = omega arith in
    let below : index r.perm ≤ index s.perm = ltb-false (index s.perm) (index r.perm) (sym (open_and (s.tet == r.tet) (nat_lt (index s.perm) (index r.perm)) (eq-eqb s.tet r.tet same)) ∙ a.1) in
    let above : index s.perm ≤ index r.perm = ltb-false (index r.perm) (index s.perm) (sym (open_and (r.tet == s.tet) (nat_lt (index r.perm) (index s.perm)) (eq-eqb r.tet s.tet (sym same))) ∙ b.1) in
    let places : index s.perm ≡ index r.perm = omega arith in
    let perms : s.perm ≡ r.perm = index_apart s.perm r.perm hs hr places in
    λ i. record { tet = same i; perm = perms i }

-- relabellings of a connected table that agree at tetrahedron 0 are equal
module _ (first second : List Row) (by other : Relabelling) (table : IsTable first) (r : Relabels first second by) (r' : Relabels first second other) where
  abbrev Agrees : Place → Type 0
  Agrees p = (p.vertices ≡ []) × (p.tet < length first) × (relabelled_place by p.tet ≡ relabelled_place other p.tet)

  agrees_on : (p : Place) (f : ℕ) (q : Place) → Agrees p → across first p f ≡ Some q → Agrees q
  agrees_on p f q a e =
      let s = crossed first p f q a.0 e in
      let x : Face = record { tet = p.tet; face = f } in
      let m : s.g.tet < length first = table.in_range x s.g s.glued in
      let lt = glued_tet first x s.g s.glued in
      let lf = glued_face first x s.g table.four_faces s.glued in
      let here : glue second (face_under (relabelled_place by p.tet) x) ≡ Some (gluing_under (relabelled_place by p.tet) (relabelled_place by s.g.tet) s.g) = r.1.glued x lt lf ∙ ap (option_map (λ k. gluing_under (relabelled_place by p.tet) (relabelled_place by k.tet) k)) s.glued in
      let here' : glue second (face_under (relabelled_place other p.tet) x) ≡ Some (gluing_under (relabelled_place other p.tet) (relabelled_place other s.g.tet) s.g) = r'.1.glued x lt lf ∙ ap (option_map (λ k. gluing_under (relabelled_place other p.tet) (relabelled_place other k.tet) k)) s.glued in
      let both : Some (gluing_under (relabelled_place by p.tet) (relabelled_place by s.g.tet) s.g) ≡ Some (gluing_under (relabelled_place by p.tet) (relabelled_place other s.g.tet) s.g) =
      sym here ∙ ap (λ (b : Gluing). glue second (face_under b x)) a.2 ∙ here' ∙ ap (λ (b : Gluing). Some (gluing_under b (relabelled_place other s.g.tet) s.g)) (sym a.2) in
      let one : relabelled_place by s.g.tet ≡ relabelled_place other s.g.tet =
      one_behind (relabelled_place by p.tet) (relabelled_place by s.g.tet) (relabelled_place other s.g.tet) s.g (perm_permutes (length first) by r.0 p.tet lt) (perm_permutes (length first) by r.0 s.g.tet m)
      (perm_permutes (length first) other r'.0 s.g.tet m) (table.permutes x s.g s.glued) cc in
      (s.bare, subst (λ t. t < length first) s.to m, subst (λ t. relabelled_place by t ≡ relabelled_place other t) s.to one)

  pub agree_everywhere : IsConnected first → (0 < length first → relabelled_place by 0 ≡ relabelled_place other 0) → by ≡ other
  agree_everywhere connected begins = same_relabelling (length first) by other r.0 r'.0 (λ t l. at t l)
    where
      at : (t : ℕ) → t < length first → relabelled_place by t ≡ relabelled_place other t
      at t l =
          let some : 0 < length first = omega arith in
          let chain = connected 0 t some l in
          (kept_along first Agrees agrees_on chain.0 (whole 0) (whole t) (refl, some, begins some) chain.1).2

pub one_least : (first second : List Row) (by other : Relabelling) → IsTable first → IsConnected first → IsLeastRelabelling first second by → IsLeastRelabelling first second other → by ≡ other
one_least first second by other table connected a b = agree_everywhere first second by other table a.relabels b.relabels connected
    (λ some. neither_stand_in (relabelled_place by 0) (relabelled_place other 0) (perm_permutes (length first) by a.relabels.0 0 some) (perm_permutes (length first) other b.relabels.0 0 some) (b.least by a.relabels) (a.least other b.relabels))
