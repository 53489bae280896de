-- The facets that a legal move removes.
use Rattle.std.proofs.Common.{◌≡◌, ℕ, ◌<◌, ◌≤◌, Bool, true, false, List, length, map, Option, Some, None, refl, sym, ap, ◌∙◌, subst, arith, inl, inr}
use Rattle.std.specs.Prelude.{◌⊎◌, ◌==◌, ◌≢◌, nat_lt, filter, if◌then◌else◌}
use Rattle.std.proofs.lemmas.Bool.{eqb-true, lt-ltb, cases_lt, cases_eq}
use Rattle.std.proofs.lemmas.List.{get_or-map}
use Rattle.table_definitions.specs.Lists.{has, substitute, same_list, pairs_of}
use Rattle.table_definitions.specs.Permutation.{image, compose}
use Rattle.table_definitions.specs.Table.{Gluing, Row, glue, other_side, inverse_gluing, IsTable}
use Rattle.table_definitions.proofs.TableLaws.{Among, Among-map, Among-pairs, first_some-none}
use Rattle.table_definitions.proofs.Listed.{Among-filter, among_has, has_among, map-among}
use Rattle.table_definitions.proofs.InPlace.{in_place-same}
use Rattle.table_definitions.proofs.ListFacts.{both_true, same_list-true}
use Rattle.table_definitions.proofs.Permutations.{image_below, image-compose}
use Rattle.move_definitions.specs.declared.MoveFault.TheVariants.{NotMatched}
use Rattle.move_definitions.specs.Moves.{Move, Facet, IsCore, own_facet, vertex_of, opposite, facet, facet_across, found_labels, pair_fault, is_matched, move_fault, label_by_label}
use Rattle.move_laws.specs.Facets.{IsFacet, IsOldFacet}
use Rattle.move_laws.proofs.Legal.{HasNoFault, no_fault as without_fault, found_label, old_facet, apart_before, behind_some, facet-found}
use Rattle.move_laws.proofs.LabelLaws.{by_back, by_is, vertex_by}
use Rattle.move_laws.proofs.FacetLaws.{core_few, own_is_facet, behind_is_facet, behind_glued}

pub record IsLegal (rows : List Row) (m : Move) : Type 0 where
  pub table : IsTable rows
  pub core : IsCore m.core
  pub facet_at : (i : ℕ) → length m.core ≤ i → i < 5 → (f : Facet) × IsOldFacet rows m i f
  pub separate : (i k : ℕ) (f g : Facet) → IsOldFacet rows m i f → IsOldFacet rows m k g → f.tet ≡ g.tet → i ≡ k
  pub inner : (i k : ℕ) (f g : Facet) → IsOldFacet rows m i f → IsOldFacet rows m k g → i ≢ k → glue rows (opposite f k) ≡ Some (record { tet = g.tet; perm = label_by_label f g })

-- lists of facets

pub has-among : (fs : List Facet) (f : Facet) → Among f fs → has (map (λ (f : Facet). f.tet) fs) f.tet ≡ true
has-among fs f a = among_has (map (λ (f : Facet). f.tet) fs) f.tet (Among-map (λ (f : Facet). f.tet) f fs a)

pub among-has : (fs : List Facet) (t : ℕ) → has (map (λ (f : Facet). f.tet) fs) t ≡ true → (f : Facet) × Among f fs × (f.tet ≡ t)
among-has fs t h =
    let m : (f : Facet) × Among f fs × (t ≡ f.tet) = map-among (λ (f : Facet). f.tet) t fs (has_among (map (λ (f : Facet). f.tet) fs) t h) in
    (m.0, m.1, sym m.2)

-- the facet across a face of the move's tetrahedron

pub found_behind : (rows : List Row) (m : Move) (i : ℕ) (f : Facet) → i < 4 → facet rows m i ≡ Some f
    → (g : Gluing) × (glue rows (opposite (own_facet m) i) ≡ Some g) × (facet_across (own_facet m) i g ≡ f)
found_behind rows m i f small e = behind_some (own_facet m) i (glue rows (opposite (own_facet m) i)) f (sym (facet-found rows m i small) ∙ e)

pub same_facet : (rows : List Row) (m : Move) (i : ℕ) (f g : Facet) → IsOldFacet rows m i f → IsOldFacet rows m i g → f ≡ g
same_facet rows m i f g a b = let z : Some f ≡ Some g = sym a.found ∙ b.found in cc

pub label_in : (rows : List Row) (m : Move) (i : ℕ) (f : Facet) → IsOldFacet rows m i f → i < 5
label_in rows m i f a = let b = a.labelled.missing_below in let e = a.missing_is in omega arith

-- if f is glued to g label by label, g is glued to f label by label
pub leads_by : (rows : List Row) → IsTable rows → (f g : Facet) → IsFacet f → IsFacet g → f.missing ≢ g.missing → glue rows (opposite f g.missing) ≡ Some (record { tet = g.tet; perm = label_by_label f g })
    → glue rows (opposite g f.missing) ≡ Some (record { tet = f.tet; perm = label_by_label g f })
leads_by rows table f g F G separate e =
    let to : Gluing = record { tet = g.tet; perm = label_by_label f g } in
    let back : glue rows (other_side (opposite f g.missing) to) ≡ Some (inverse_gluing (opposite f g.missing) to) = table.leads_back (opposite f g.missing) to e in
    let at : image (label_by_label f g) (vertex_of f g.missing) ≡ vertex_of g f.missing =
    vertex_by f g g.missing F G.missing_below (λ q. separate (sym q)) ∙ ap (vertex_of g) (in_place-same g.missing f.missing g.missing refl) in
    ap (λ v. glue rows (record { tet = g.tet; face = v })) (sym at) ∙ back ∙ ap (λ (p : List ℕ). Some (record { tet = f.tet; perm = p })) (by_back f g F G separate)

own_old : (rows : List Row) (m : Move) → IsCore m.core → HasNoFault rows m → IsOldFacet rows m 4 (own_facet m)
own_old rows m core no_fault = record {
  found = refl;
  missing_is = refl;
  old_label = (let b = core_few m.core core in omega arith);
  labelled = own_is_facet m core;
  in_range = no_fault.in_range;
}

behind_old : (rows : List Row) (m : Move) (i : ℕ) (f : Facet) → IsTable rows → IsCore m.core → length m.core ≤ i → i < 4 → facet rows m i ≡ Some f → IsOldFacet rows m i f
behind_old rows m i f table core low high e =
    let b = found_behind rows m i f high e in
    let permutes = table.permutes (opposite (own_facet m) i) b.0 b.1 in
    record {
      found = e;
      missing_is = ap (λ (x : Facet). x.missing) (sym b.2);
      old_label = low;
      labelled = subst (λ (x : Facet). IsFacet x) b.2 (behind_is_facet (own_facet m) i b.0 (own_is_facet m core) refl high permutes);
      in_range = subst (λ (x : Facet). x.tet < length rows) b.2 (table.in_range (opposite (own_facet m) i) b.0 b.1);
    }

-- the move's tetrahedron is glued label by label to the facet across its face
own_glued : (rows : List Row) (m : Move) (k : ℕ) (g : Facet) → IsTable rows → IsCore m.core → k < 4 → IsOldFacet rows m k g → glue rows (opposite (own_facet m) k) ≡ Some (record { tet = g.tet; perm = label_by_label (own_facet m) g })
own_glued rows m k g table core small G =
    let b = found_behind rows m k g small G.found in
    let permutes = table.permutes (opposite (own_facet m) k) b.0 b.1 in
    let mk : ℕ → List ℕ → Option Gluing = λ t p. Some (record { tet = t; perm = p }) in
    let p : b.0.perm ≡ label_by_label (own_facet m) g = behind_glued (own_facet m) k b.0 (own_is_facet m core) refl small permutes ∙ ap (label_by_label (own_facet m)) b.2 in
    let t : b.0.tet ≡ g.tet = ap (λ (x : Facet). x.tet) b.2 in
    b.1 ∙ ap (λ t. mk t b.0.perm) t ∙ ap (mk g.tet) p

-- two facets that were found are glued to each other label by label
pair_matched : (rows : List Row) (f g : Facet) → pair_fault rows (Some f) (Some g) ≡ None → is_matched f g (glue rows (opposite f g.missing)) ≡ true
pair_matched rows f g h = by_test (is_matched f g (glue rows (opposite f g.missing))) h
  where
    by_test : (b : Bool) → (if b then None else Some (NotMatched f.missing g.missing)) ≡ None → b ≡ true
    by_test true h = refl
    by_test false h = absurd cc

matched_by : (rows : List Row) (f g : Facet) → IsTable rows → IsFacet f → IsFacet g → f.missing ≢ g.missing → (o : Option Gluing) → glue rows (opposite f g.missing) ≡ o → is_matched f g o ≡ true
    → o ≡ Some (record { tet = g.tet; perm = label_by_label f g })
matched_by rows f g table F G separate None e h = absurd cc
matched_by rows f g table F G separate (Some p) e h =
    let b = both_true (p.tet == g.tet) (same_list (compose g.labels p.perm) (map (substitute g.missing f.missing) f.labels)) h in
    let labels : compose g.labels p.perm ≡ map (substitute g.missing f.missing) f.labels = same_list-true (compose g.labels p.perm) (map (substitute g.missing f.missing) f.labels) b.1 in
    let permutes = table.permutes (opposite f g.missing) p e in
    let perm : p.perm ≡ label_by_label f g =
    by_is f g p.perm F G separate permutes (λ v l. image_below p.perm permutes v l) (λ v l. sym (image-compose g.labels p.perm permutes v l) ∙ ap (λ (xs : List ℕ). image xs v) labels ∙ image-labels v l) in
    let mk : ℕ → List ℕ → Option Gluing = λ t q. Some (record { tet = t; perm = q }) in
    ap (λ t. mk t p.perm) (eqb-true p.tet g.tet b.0) ∙ ap (mk g.tet) perm
  where
    image-labels : (v : ℕ) → v < 4 → image (map (substitute g.missing f.missing) f.labels) v ≡ substitute g.missing f.missing (image f.labels v)
    image-labels v l = get_or-map (substitute g.missing f.missing) f.labels v 0 0 (let q = F.four_labels in omega arith)

found_glued : (rows : List Row) (m : Move) (i k : ℕ) (f g : Facet) → IsTable rows → IsCore m.core → HasNoFault rows m → i < k → k < 4 → IsOldFacet rows m i f → IsOldFacet rows m k g
    → glue rows (opposite f k) ≡ Some (record { tet = g.tet; perm = label_by_label f g })
found_glued rows m i k f g table core no_fault less small F G =
    let low = F.old_label in
    let fm = F.missing_is in
    let gm = G.missing_is in
    let among : Among {A = ℕ × ℕ} (i, k) (filter (λ p. nat_lt p.0 p.1) (pairs_of (found_labels m) (found_labels m))) =
    Among-filter (λ p. nat_lt p.0 p.1) (i, k) (pairs_of (found_labels m) (found_labels m))
    (Among-pairs i k (found_labels m) (found_labels m) (found_label (length m.core) i (core_few m.core core) low (omega arith)) (found_label (length m.core) k (core_few m.core core) (omega arith) small)) (lt-ltb i k less) in
    let none : pair_fault rows (facet rows m i) (facet rows m k) ≡ None =
    first_some-none (λ p. pair_fault rows (facet rows m p.0) (facet rows m p.1)) (i, k) (filter (λ p. nat_lt p.0 p.1) (pairs_of (found_labels m) (found_labels m))) no_fault.pairs among in
    let there : pair_fault rows (Some f) (Some g) ≡ None = ap (λ o. pair_fault rows (Some f) o) (sym G.found) ∙ ap (λ o. pair_fault rows o (facet rows m k)) (sym F.found) ∙ none in
    ap (λ l. glue rows (opposite f l)) (sym gm)
    ∙ matched_by rows f g table F.labelled G.labelled (λ e. absurd (omega arith)) (glue rows (opposite f g.missing)) refl (pair_matched rows f g there)

glued_below : (rows : List Row) (m : Move) (i k : ℕ) (f g : Facet) → IsTable rows → IsCore m.core → HasNoFault rows m → i < k → IsOldFacet rows m i f → IsOldFacet rows m k g
    → (glue rows (opposite f k) ≡ Some (record { tet = g.tet; perm = label_by_label f g })) × (glue rows (opposite g i) ≡ Some (record { tet = f.tet; perm = label_by_label g f }))
glued_below rows m i k f g table core no_fault less F G = by_last (cases_eq k 4)
  where
    separate : f.missing ≢ g.missing
    separate e = let fm = F.missing_is in let gm = G.missing_is in absurd (omega arith)

    backwards : (a b : Facet) → IsFacet a → IsFacet b → a.missing ≢ b.missing → (x y : ℕ) → a.missing ≡ x → b.missing ≡ y → glue rows (opposite a y) ≡ Some (record { tet = b.tet; perm = label_by_label a b })
        → glue rows (opposite b x) ≡ Some (record { tet = a.tet; perm = label_by_label b a })
    backwards a b A B d x y ax by e = ap (λ l. glue rows (opposite b l)) (sym ax) ∙ leads_by rows table a b A B d (ap (λ l. glue rows (opposite a l)) by ∙ e)

    by_last : (k ≡ 4) ⊎ (k ≢ 4) → (glue rows (opposite f k) ≡ Some (record { tet = g.tet; perm = label_by_label f g })) × (glue rows (opposite g i) ≡ Some (record { tet = f.tet; perm = label_by_label g f }))
    by_last (inl e) =
        let mine : own_facet m ≡ g = same_facet rows m 4 (own_facet m) g (own_old rows m core no_fault) (subst (λ j. IsOldFacet rows m j g) e G) in
        let there : glue rows (opposite g i) ≡ Some (record { tet = f.tet; perm = label_by_label g f }) =
        subst (λ (x : Facet). glue rows (opposite x i) ≡ Some (record { tet = f.tet; perm = label_by_label x f })) mine (own_glued rows m i f table core (omega arith) F) in
        (backwards g f G.labelled F.labelled (λ q. separate (sym q)) k i G.missing_is F.missing_is there, there)
    by_last (inr d) =
        let small : k < 4 = (let b = label_in rows m k g G in grind arith) in
        let there = found_glued rows m i k f g table core no_fault less small F G in
        (there, backwards f g F.labelled G.labelled separate i k F.missing_is G.missing_is there)

pub legal_from : (rows : List Row) (m : Move) → IsTable rows → IsCore m.core → move_fault rows m ≡ None → IsLegal rows m
legal_from rows m table core none = record {
  table = table;
  core = core;
  facet_at = at;
  separate = λ i k f g F G e. pick_apart i k f g F G e (cases_lt i k);
  inner = λ i k f g F G d. pick_inner i k f g F G d (cases_lt i k);
}
  where
    no_fault : HasNoFault rows m
    no_fault = without_fault rows m none

    at : (i : ℕ) → length m.core ≤ i → i < 5 → (f : Facet) × IsOldFacet rows m i f
    at i low high = by_last (cases_eq i 4)
      where
        by_last : (i ≡ 4) ⊎ (i ≢ 4) → (f : Facet) × IsOldFacet rows m i f
        by_last (inl e) = (own_facet m, subst (λ j. IsOldFacet rows m j (own_facet m)) (sym e) (own_old rows m core no_fault))
        by_last (inr d) =
            let small : i < 4 = grind arith in
            let s = old_facet rows m i no_fault core low high in
            (s.0, behind_old rows m i s.0 table core low small s.1)

    pick_apart : (i k : ℕ) (f g : Facet) → IsOldFacet rows m i f → IsOldFacet rows m k g → f.tet ≡ g.tet → (i < k) ⊎ (k ≤ i) → i ≡ k
    pick_apart i k f g F G e (inl l) = absurd (apart_before rows m no_fault core i k f g F.old_label l (label_in rows m k g G) F.found G.found e)
    pick_apart i k f g F G e (inr l) = further (cases_eq i k)
      where
        further : (i ≡ k) ⊎ (i ≢ k) → i ≡ k
        further (inl s) = s
        further (inr d) = let less : k < i = grind arith in absurd (apart_before rows m no_fault core k i g f G.old_label less (label_in rows m i f F) G.found F.found (sym e))

    pick_inner : (i k : ℕ) (f g : Facet) → IsOldFacet rows m i f → IsOldFacet rows m k g → i ≢ k → (i < k) ⊎ (k ≤ i) → glue rows (opposite f k) ≡ Some (record { tet = g.tet; perm = label_by_label f g })
    pick_inner i k f g F G d (inl l) = (glued_below rows m i k f g table core no_fault l F G).0
    pick_inner i k f g F G d (inr l) = let less : k < i = grind arith in (glued_below rows m k i g f table core no_fault less G F).1
