-- Chains of gluings: they can be concatenated, applied to the reverse of a place and, in a table, reversed.
use Rattle.std.proofs.Common.{◌≡◌, ℕ, ◌<◌, Bool, true, false, List, [], ◌∷◌, ◌++◌, map, reverse, Option, Some, None, refl, sym, ap, ◌∙◌, subst, arith, inl, inr}
use Rattle.std.specs.Prelude.{◌==◌, ◌||◌, option_map, option_and_then, if◌then◌else◌}
use Rattle.std.specs.List.{AllByRecursion}
use Rattle.std.proofs.Math.Bool.{or_comm}
use Rattle.std.proofs.lemmas.List.{reverse-append, map-append}
use Rattle.std.proofs.lemmas.List.Folds.{list_any-append}
use Rattle.std.proofs.lemmas.Bool.{cases_order}
use Rattle.table_definitions.specs.Lists.{has}
use Rattle.table_definitions.specs.Permutation.{image, inverse, IsPermutationOfFour}
use Rattle.table_definitions.specs.Table.{Gluing, Row, Face, glue, inverse_gluing, IsTable}
use Rattle.table_definitions.specs.Places.{Place, IsPlace, carried, across, along, IsJoined, backwards, whole, SameComponent, IsConnected, IsLeastUnreached}
use Rattle.table_definitions.proofs.PermutationLaws.{image_below, image-of_inverse, image_same}
use Rattle.table_definitions.proofs.TableLaws.{glued_face}

-- a chain followed by a further one
step_append : (rows : List Row) (fs gs : List ℕ) → ((q : Place) → along rows q (fs ++ gs) ≡ option_and_then (λ r. along rows r gs) (along rows q fs)) → (o : Option Place)
    → option_and_then (λ q. along rows q (fs ++ gs)) o ≡ option_and_then (λ q. along rows q gs) (option_and_then (λ q. along rows q fs) o)
step_append rows fs gs tails None = refl
step_append rows fs gs tails (Some q) = tails q

pub along-append : (rows : List Row) (p : Place) (fs gs : List ℕ) → along rows p (fs ++ gs) ≡ option_and_then (λ q. along rows q gs) (along rows p fs)
along-append rows p [] gs = refl
along-append rows p (f ∷ fs) gs = step_append rows fs gs (λ q. along-append rows q fs gs) (across rows p f)

-- a place is joined to itself, and chains can be concatenated
pub joined_refl : (rows : List Row) (p : Place) → IsJoined rows p p
joined_refl rows p = ([], refl)

pub joined_trans : (rows : List Row) (p q r : Place) → IsJoined rows p q → IsJoined rows q r → IsJoined rows p r
joined_trans rows p q r a b = (a.0 ++ b.0, along-append rows p a.0 b.0 ∙ ap (λ (o : Option Place). option_and_then (λ x. along rows x b.0) o) a.1 ∙ b.1)

pub images_below : (g : List ℕ) (vs : List ℕ) → IsPermutationOfFour g → AllByRecursion (λ v. v < 4) vs → AllByRecursion (λ v. v < 4) (map (image g) vs)
images_below g [] h a = tt
images_below g (v ∷ vs) h a = (image_below g v h a.0, images_below g vs h a.1)

pub images_back : (g : List ℕ) (vs : List ℕ) → IsPermutationOfFour g → AllByRecursion (λ v. v < 4) vs → map (image (inverse g)) (map (image g) vs) ≡ vs
images_back g [] h a = refl
images_back g (v ∷ vs) h a = λ i. image-of_inverse g v h a.0 i ∷ images_back g vs h a.1 i

pub has-images : (g : List ℕ) (vs : List ℕ) (f : ℕ) → IsPermutationOfFour g → AllByRecursion (λ v. v < 4) vs → f < 4 → has (map (image g) vs) (image g f) ≡ has vs f
has-images g [] f h a l = refl
has-images g (v ∷ vs) f h a l = λ i. image_same g v f h a.0 l i || has-images g vs f h a.1 l i

-- a step across a gluing, and the step back
pub record Steps (rows : List Row) (p : Place) (f : ℕ) (q : Place) : Type 0 where
  pub gluing : Gluing
  pub glued : glue rows (record { tet = p.tet; face = f }) ≡ Some gluing
  pub off : has p.vertices f ≡ false
  pub lands : q ≡ carried gluing p

step_of : (rows : List Row) (p : Place) (f : ℕ) (q : Place) (o : Option Gluing) (b : Bool) → glue rows (record { tet = p.tet; face = f }) ≡ o → has p.vertices f ≡ b
    → if◌then◌else◌ {A = Option Place} b None (option_map (λ g. carried g p) o) ≡ Some q → Steps rows p f q
step_of rows p f q o true e h s = absurd cc
step_of rows p f q None false e h s = absurd cc
step_of rows p f q (Some g) false e h s = record { gluing = g; glued = e; off = h; lands = let same : carried g p ≡ q = cc in sym same }

pub steps_across : (rows : List Row) (p : Place) (f : ℕ) (q : Place) → across rows p f ≡ Some q → Steps rows p f q
steps_across rows p f q e = step_of rows p f q (glue rows (record { tet = p.tet; face = f })) (has p.vertices f) refl refl e

pub across_by : (rows : List Row) (p : Place) (f : ℕ) (g : Gluing) → glue rows (record { tet = p.tet; face = f }) ≡ Some g → has p.vertices f ≡ false → across rows p f ≡ Some (carried g p)
across_by rows p f g e h =
    ap (λ (b : Bool). if◌then◌else◌ {A = Option Place} b None (option_map (λ k. carried k p) (glue rows (record { tet = p.tet; face = f })))) h
    ∙ ap (λ (o : Option Gluing). option_map (λ k. carried k p) o) e

-- a step crosses one of the four faces
pub face_crossed : (rows : List Row) (p : Place) (f : ℕ) (q : Place) → IsTable rows → across rows p f ≡ Some q → f < 4
face_crossed rows p f q t e = let s = steps_across rows p f q e in glued_face rows (record { tet = p.tet; face = f }) s.gluing t.four_faces s.glued

-- in a table, each step has a step back
pub step_back : (rows : List Row) (p : Place) (f : ℕ) (q : Place) → IsTable rows → IsPlace p → across rows p f ≡ Some q → (g : ℕ) × (g < 4) × (across rows q g ≡ Some p)
step_back rows p f q t a e = (image s.gluing.perm f, image_below s.gluing.perm f h l, subst (λ (r : Place). across rows r (image s.gluing.perm f) ≡ Some p) (sym s.lands) back)
  where
    s : Steps rows p f q
    s = steps_across rows p f q e

    x : Face
    x = record { tet = p.tet; face = f }

    h : IsPermutationOfFour s.gluing.perm
    h = t.permutes x s.gluing s.glued

    l : f < 4
    l = glued_face rows x s.gluing t.four_faces s.glued

    home : carried (inverse_gluing x s.gluing) (carried s.gluing p) ≡ p
    home = λ i. record { tet = p.tet; vertices = images_back s.gluing.perm p.vertices h a i }

    back : across rows (carried s.gluing p) (image s.gluing.perm f) ≡ Some p
    back = across_by rows (carried s.gluing p) (image s.gluing.perm f) (inverse_gluing x s.gluing) (t.leads_back x s.gluing s.glued) (has-images s.gluing.perm p.vertices f h a l ∙ s.off)
        ∙ ap (λ (r : Place). Some r) home

pub across_back : (rows : List Row) (p : Place) (f : ℕ) (q : Place) → IsTable rows → IsPlace p → across rows p f ≡ Some q → IsPlace q × IsJoined rows q p
across_back rows p f q t a e =
    let s : Steps rows p f q = steps_across rows p f q e in
    let h : IsPermutationOfFour s.gluing.perm = t.permutes (record { tet = p.tet; face = f }) s.gluing s.glued in
    let back : (g : ℕ) × (g < 4) × (across rows q g ≡ Some p) = step_back rows p f q t a e in (
      subst (λ (r : Place). IsPlace r) (sym s.lands) (images_below s.gluing.perm p.vertices h a),
      (back.0 ∷ [], ap (λ (o : Option Place). option_and_then (λ r. Some r) o) back.2),
    )

-- in a table, a chain can be reversed
pub first_step : (rows : List Row) (fs : List ℕ) (r : Place) (o : Option Place) → option_and_then (λ q. along rows q fs) o ≡ Some r → (q : Place) × (o ≡ Some q) × (along rows q fs ≡ Some r)
first_step rows fs r None e = absurd cc
first_step rows fs r (Some q) e = (q, refl, e)

back_along : (rows : List Row) (fs : List ℕ) (p r : Place) → IsTable rows → IsPlace p → along rows p fs ≡ Some r → IsPlace r × IsJoined rows r p
back_along rows [] p r t a e =
    let same : p ≡ r = cc in
    (subst (λ (x : Place). IsPlace x) same a, subst (λ (x : Place). IsJoined rows x p) same (joined_refl rows p))
back_along rows (f ∷ fs) p r t a e =
    let s : (q : Place) × (across rows p f ≡ Some q) × (along rows q fs ≡ Some r) = first_step rows fs r (across rows p f) e in
    let one : IsPlace s.0 × IsJoined rows s.0 p = across_back rows p f s.0 t a s.1 in
    let more : IsPlace r × IsJoined rows r s.0 = back_along rows fs s.0 r t one.0 s.2 in
    (more.0, joined_trans rows r s.0 p more.1 one.1)

pub joined_sym : (rows : List Row) (p q : Place) → IsTable rows → IsPlace p → IsJoined rows p q → IsJoined rows q p
joined_sym rows p q t a j = (back_along rows j.0 p q t a j.1).1

pub joined_place : (rows : List Row) (p q : Place) → IsTable rows → IsPlace p → IsJoined rows p q → IsPlace q
joined_place rows p q t a j = (back_along rows j.0 p q t a j.1).0

-- a chain carries the reverse of a place to the reverse of its end
reverse-cons : (v : ℕ) (vs : List ℕ) → reverse (v ∷ vs) ≡ reverse vs ++ v ∷ []
reverse-cons v vs = reverse-append (v ∷ []) vs

has-reverse : (vs : List ℕ) (f : ℕ) → has (reverse vs) f ≡ has vs f
has-reverse [] f = refl
has-reverse (v ∷ vs) f =
    ap (λ (us : List ℕ). has us f) (reverse-cons v vs) ∙ list_any-append (λ m. m == f) (reverse vs) (v ∷ []) ∙ or_comm (has (reverse vs) f) ((v == f) || false)
    ∙ regroup (v == f) (has (reverse vs) f) ∙ ap (λ (b : Bool). (v == f) || b) (has-reverse vs f)
  where
    regroup : (a b : Bool) → ((a || false) || b) ≡ (a || b)
    regroup true b = refl
    regroup false b = refl

map-reverse : (g : List ℕ) (vs : List ℕ) → map (image g) (reverse vs) ≡ reverse (map (image g) vs)
map-reverse g [] = refl
map-reverse g (v ∷ vs) =
    ap (λ (us : List ℕ). map (image g) us) (reverse-cons v vs) ∙ map-append (image g) (reverse vs) (v ∷ []) ∙ ap (λ (us : List ℕ). us ++ image g v ∷ []) (map-reverse g vs)
    ∙ sym (reverse-cons (image g v) (map (image g) vs))

negated_step : (rows : List Row) (p : Place) (f : ℕ) (q : Place) → across rows p f ≡ Some q → across rows (backwards p) f ≡ Some (backwards q)
negated_step rows p f q e =
    let s : Steps rows p f q = steps_across rows p f q e in
    let over : across rows (backwards p) f ≡ Some (carried s.gluing (backwards p)) = across_by rows (backwards p) f s.gluing s.glued (has-reverse p.vertices f ∙ s.off) in
    let same : carried s.gluing (backwards p) ≡ backwards (carried s.gluing p) = λ i. record { tet = s.gluing.tet; vertices = map-reverse s.gluing.perm p.vertices i } in
    over ∙ ap (λ (r : Place). Some r) same ∙ ap (λ (r : Place). Some (backwards r)) (sym s.lands)

turned_along : (rows : List Row) (fs : List ℕ) (p r : Place) → along rows p fs ≡ Some r → along rows (backwards p) fs ≡ Some (backwards r)
turned_along rows [] p r e = let same : p ≡ r = cc in ap (λ (x : Place). Some (backwards x)) same
turned_along rows (f ∷ fs) p r e =
    let s : (q : Place) × (across rows p f ≡ Some q) × (along rows q fs ≡ Some r) = first_step rows fs r (across rows p f) e in
    ap (λ (o : Option Place). option_and_then (λ x. along rows x fs) o) (negated_step rows p f s.0 s.1) ∙ turned_along rows fs s.0 r s.2

pub joined_turned : (rows : List Row) (p q : Place) → IsJoined rows p q → IsJoined rows (backwards p) (backwards q)
joined_turned rows p q j = (j.0, turned_along rows j.0 p q j.1)

-- a property that each step keeps holds of each place that is joined to a place with the property
pub kept_along : (rows : List Row) (P : Place → Type 0) → ((p : Place) (f : ℕ) (q : Place) → P p → across rows p f ≡ Some q → P q) → (fs : List ℕ) (p q : Place) → P p → along rows p fs ≡ Some q → P q
kept_along rows P kept [] p q h e = let same : p ≡ q = cc in subst P same h
kept_along rows P kept (f ∷ fs) p q h e =
    let s : (r : Place) × (across rows p f ≡ Some r) × (along rows r fs ≡ Some q) = first_step rows fs q (across rows p f) e in
    kept_along rows P kept fs s.0 q (kept p f s.0 h s.1) s.2

-- a step joins two places, and a chain can be extended by a step
pub joined_step : (rows : List Row) (p : Place) (f : ℕ) (q : Place) → across rows p f ≡ Some q → IsJoined rows p q
joined_step rows p f q e = (f ∷ [], ap (λ (o : Option Place). option_and_then (λ r. Some r) o) e)

pub joined_more : (rows : List Row) (p q : Place) (f : ℕ) (r : Place) → IsJoined rows p q → across rows q f ≡ Some r → IsJoined rows p r
joined_more rows p q f r j e = joined_trans rows p q r j (joined_step rows q f r e)

-- a step of a whole tetrahedron crosses a glued face
pub record Crossed (rows : List Row) (p : Place) (f : ℕ) (q : Place) : Type 0 where
  pub g : Gluing
  pub glued : glue rows (record { tet = p.tet; face = f }) ≡ Some g
  pub to : g.tet ≡ q.tet
  pub bare : q.vertices ≡ []

pub crossed : (rows : List Row) (p : Place) (f : ℕ) (q : Place) → p.vertices ≡ [] → across rows p f ≡ Some q → Crossed rows p f q
crossed rows p f q h e = cases (glue rows (record { tet = p.tet; face = f })) refl
  where
    cases : (o : Option Gluing) → glue rows (record { tet = p.tet; face = f }) ≡ o → Crossed rows p f q
    cases None n = let z : None ≡ Some q = sym (rw (h, n) refl) ∙ e in absurd cc
    cases (Some g) n =
        let z : Some (carried g p) ≡ Some q = sym (rw (h, n) refl) ∙ e in
        let same : carried g p ≡ q = cc in
        record { g = g; glued = n; to = ap (λ (r : Place). r.tet) same; bare = ap (λ (r : Place). r.vertices) (sym same) ∙ rw h refl }

-- a gluing joins its tetrahedra, and in a table being joined is symmetric
pub gluing_joins : (rows : List Row) (x : Face) (g : Gluing) → glue rows x ≡ Some g → SameComponent rows x.tet g.tet
gluing_joins rows x g e = (x.face ∷ [], rw e refl)

pub joins_back : (rows : List Row) (t u : ℕ) → IsTable rows → SameComponent rows t u → SameComponent rows u t
joins_back rows t u table j = joined_sym rows (whole t) (whole u) table tt j

-- at most one tetrahedron is the least that is not reached; in a connected table none is
pub one_unreached : (rows : List Row) (t u : ℕ) → IsLeastUnreached rows t → IsLeastUnreached rows u → t ≡ u
one_unreached rows t u a b = elim (cases_order t u) [
  | inl e ↦ e
  | inr (inl less) ↦ absurd (a.unreached (b.reached_before t less))
  | inr (inr more) ↦ absurd (b.unreached (a.reached_before u more))
]

pub connected_or_not : (rows : List Row) (t : ℕ) → IsConnected rows → IsLeastUnreached rows t → ⊥
connected_or_not rows t connected a = let h = a.in_range in a.unreached (connected 0 t (omega arith) h)
