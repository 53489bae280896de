-- The text of `info` as lines of words.
use Rattle.std.proofs.Common.{◌≡◌, ℕ, zero, suc, ◌<◌, inl, inr, Bool, true, false, List, [], ◌∷◌, ◌++◌, length, refl, sym, ap, ap₂, ◌∙◌, subst, arith, append_assoc}
use Rattle.std.specs.Prelude.{codes, decimal, ◌==◌, if◌then◌else◌}
use Rattle.std.specs.Fmt.{signed_decimal}
use Rattle.std.specs.List.{AllByRecursion, slice_index_or, flat_map}
use Rattle.std.proofs.lemmas.Bool.{cases_lt}
use Rattle.table_definitions.specs.Classes.{degree}
use Rattle.table_definitions.specs.Places.{is_closed, is_boundary_edge}
use Rattle.skeleton_definitions.specs.declared.LinkKind.{LinkKind}
use Rattle.skeleton_definitions.specs.declared.LinkKind.TheVariants.{Sphere, Disc, Torus, Klein, Other}
use Rattle.skeleton_definitions.specs.declared.Link.{Link}
use Rattle.text_definitions.specs.Written.{spaced, yes_or_no}
use Rattle.outcome_definitions.specs.Information.{Information, kind_word, place_word, characteristic, vertex_line, edge_line, vertex_text, edge_text, classes_text, information_text, no_link}
use Rattle.outcome_text_laws.proofs.SplitWords.{IsPlain, AreLinesSplit, split_line, number_is_plain, signed_is_plain}

-- ---- words

pub yes_or_no_is_plain : (b : Bool) → IsPlain (yes_or_no b)
yes_or_no_is_plain true = refl
yes_or_no_is_plain false = refl

pub same_answer : (a b : Bool) → yes_or_no a ≡ yes_or_no b → a ≡ b
same_answer true true e = refl
same_answer true false e = (let z : ◌≡◌ {A = ℕ} 121 110 = ap (λ (w : List ℕ). slice_index_or w 0 0) e in absurd (omega arith))
same_answer false true e = (let z : ◌≡◌ {A = ℕ} 110 121 = ap (λ (w : List ℕ). slice_index_or w 0 0) e in absurd (omega arith))
same_answer false false e = refl

place_is_plain : (b : Bool) → IsPlain (place_word b)
place_is_plain true = refl
place_is_plain false = refl

pub same_place : (a b : Bool) → place_word a ≡ place_word b → a ≡ b
same_place true true e = refl
same_place true false e = (let z : ◌≡◌ {A = ℕ} 98 105 = ap (λ (w : List ℕ). slice_index_or w 0 0) e in absurd (omega arith))
same_place false true e = (let z : ◌≡◌ {A = ℕ} 105 98 = ap (λ (w : List ℕ). slice_index_or w 0 0) e in absurd (omega arith))
same_place false false e = refl

kind_is_plain : (k : LinkKind) → IsPlain (kind_word k)
kind_is_plain Sphere = refl
kind_is_plain Disc = refl
kind_is_plain Torus = refl
kind_is_plain Klein = refl
kind_is_plain Other = refl

-- the kind whose word begins with this letter
kind_of_letter : ℕ → LinkKind
kind_of_letter b = if b == 115 then Sphere else (if b == 100 then Disc else (if b == 116 then Torus else (if b == 107 then Klein else Other)))

kind_by_letter : (k : LinkKind) → kind_of_letter (slice_index_or (kind_word k) 0 0) ≡ k
unfolding kind_of_letter
kind_by_letter Sphere = refl
kind_by_letter Disc = refl
kind_by_letter Torus = refl
kind_by_letter Klein = refl
kind_by_letter Other = refl

pub same_kind : (k l : LinkKind) → kind_word k ≡ kind_word l → k ≡ l
same_kind k l e = sym (kind_by_letter k) ∙ ap (λ (w : List ℕ). kind_of_letter (slice_index_or w 0 0)) e ∙ kind_by_letter l

-- ---- lines, as their first word and the others

abbrev pub Words : Type 0
Words = List ℕ × List (List ℕ)

abbrev pub line_of : Words → List ℕ
line_of ws = spaced (ws.0 ∷ ws.1)

pub record ArePlain (ws : Words) : Type 0 where
  pub first : IsPlain ws.0
  pub others : AllByRecursion IsPlain ws.1

abbrev pub word_at : Words → ℕ → List ℕ
word_at ws k = slice_index_or ws.1 k []

same_words : (ws vs : Words) → ws.0 ∷ ws.1 ≡ vs.0 ∷ vs.1 → ws ≡ vs
same_words ws vs e =
    let first : ws.0 ≡ vs.0 = cc in
    let others : ws.1 ≡ vs.1 = cc in
    λ i. (first i, others i)

pub split_words : (ws vs : Words) (r s : List ℕ) → ArePlain ws → ArePlain vs → line_of ws ++ r ≡ line_of vs ++ s → (ws ≡ vs) × (r ≡ s)
split_words ws vs r s h k e =
    let p : AreLinesSplit (ws.0 ∷ ws.1) (vs.0 ∷ vs.1) r s = split_line ws.0 ws.1 vs.0 vs.1 r s h.first h.others k.first k.others e in
    (same_words ws vs p.0, p.1)

-- as many lines, and what is after them
pub split_lines : (wss vss : List Words) (r s : List ℕ) → length wss ≡ length vss → AllByRecursion ArePlain wss → AllByRecursion ArePlain vss → flat_map line_of wss ++ r ≡ flat_map line_of vss ++ s
    → (wss ≡ vss) × (r ≡ s)
split_lines [] [] r s same h k e = (refl, e)
split_lines [] (vs ∷ vss) r s same h k e = absurd (omega arith)
split_lines (ws ∷ wss) [] r s same h k e = absurd (omega arith)
split_lines (ws ∷ wss) (vs ∷ vss) r s same h k e =
    let p : (ws ≡ vs) × (flat_map line_of wss ++ r ≡ flat_map line_of vss ++ s) =
    split_words ws vs (flat_map line_of wss ++ r) (flat_map line_of vss ++ s) h.0 k.0
    (sym (append_assoc (line_of ws) (flat_map line_of wss) r) ∙ e ∙ append_assoc (line_of vs) (flat_map line_of vss) s) in
    let more : (wss ≡ vss) × (r ≡ s) = split_lines wss vss r s (omega arith) h.1 k.1 p.1 in
    (ap₂ (λ (x : Words) (xs : List Words). x ∷ xs) p.0 more.0, more.1)

-- a line for each class below n, and what is after them
pub split_classes : (f g : ℕ → List ℕ) (ws vs : ℕ → Words) (n : ℕ) (r s : List ℕ) → ((c : ℕ) → f c ≡ line_of (ws c)) → ((c : ℕ) → g c ≡ line_of (vs c)) → ((c : ℕ) → ArePlain (ws c)) → ((c : ℕ) → ArePlain (vs c))
    → classes_text f n ++ r ≡ classes_text g n ++ s → ((c : ℕ) → c < n → ws c ≡ vs c) × (r ≡ s)
unfolding classes_text
split_classes f g ws vs zero r s fw gv h k e = (λ c l. absurd (omega arith), e)
split_classes f g ws vs (suc n) r s fw gv h k e =
    let more : ((c : ℕ) → c < n → ws c ≡ vs c) × (f n ++ r ≡ g n ++ s) =
    split_classes f g ws vs n (f n ++ r) (g n ++ s) fw gv h k (sym (append_assoc (classes_text f n) (f n) r) ∙ e ∙ append_assoc (classes_text g n) (g n) s) in
    let last : (ws n ≡ vs n) × (r ≡ s) = split_words (ws n) (vs n) r s (h n) (k n) (ap (λ (t : List ℕ). t ++ r) (sym (fw n)) ∙ more.1 ∙ ap (λ (t : List ℕ). t ++ s) (gv n)) in (
      λ c l. elim (cases_lt c n) [
        | inl less ↦ more.0 c less
        | inr exceeded ↦ let is : n ≡ c = omega arith in subst (λ m. ws m ≡ vs m) is last.0
      ],
      last.1,
    )

-- ---- the lines of `info`

abbrev pub header : Information → List Words
header i =
    (codes "tetrahedra", decimal (length i.skeleton.rows) ∷ [])
    ∷ (codes "connected", yes_or_no i.connected ∷ [])
    ∷ (codes "orientable", yes_or_no i.orientable ∷ [])
    ∷ (codes "closed", yes_or_no (is_closed i.skeleton.rows) ∷ [])
    ∷ (codes "vertices", decimal i.skeleton.vertices.count ∷ [])
    ∷ (codes "edges", decimal i.skeleton.edges.count ∷ [])
    ∷ (codes "faces", decimal i.skeleton.faces.count ∷ [])
    ∷ (codes "euler", signed_decimal (characteristic i.skeleton) ∷ [])
    ∷ []

pub header_is_plain : (i : Information) → AllByRecursion ArePlain (header i)
header_is_plain i = (record { first = refl; others = (number_is_plain (length i.skeleton.rows), tt) }, (record { first = refl; others = (yes_or_no_is_plain i.connected, tt) }, (record { first = refl; others = (yes_or_no_is_plain i.orientable, tt) }, (record { first = refl; others = (yes_or_no_is_plain (is_closed i.skeleton.rows), tt) }, (record { first = refl; others = (number_is_plain i.skeleton.vertices.count, tt) }, (record { first = refl; others = (number_is_plain i.skeleton.edges.count, tt) }, (record { first = refl; others = (number_is_plain i.skeleton.faces.count, tt) }, (record { first = refl; others = (signed_is_plain (characteristic i.skeleton), tt) }, tt))))))))

abbrev pub vertex_words : Information → ℕ → Words
vertex_words i c = (
  codes "vertex",
  decimal c ∷ codes "degree" ∷ decimal (degree i.skeleton.vertices.classes c) ∷ codes "euler" ∷ signed_decimal (slice_index_or i.links c no_link).euler
      ∷ codes "closed" ∷ yes_or_no (slice_index_or i.links c no_link).closed ∷ codes "kind" ∷ kind_word (slice_index_or i.links c no_link).kind ∷ [],
)

pub vertex_is_plain : (i : Information) (c : ℕ) → ArePlain (vertex_words i c)
vertex_is_plain i c = record {
  first = refl;
  others = (number_is_plain c, (refl, (number_is_plain (degree i.skeleton.vertices.classes c), (refl, (signed_is_plain (slice_index_or i.links c no_link).euler, (refl, (yes_or_no_is_plain (slice_index_or i.links c no_link).closed, (refl, (kind_is_plain (slice_index_or i.links c no_link).kind, tt)))))))));
}

vertex_line_is : (c members : ℕ) (link : Link) → vertex_line c members link ≡ line_of (
  codes "vertex",
  decimal c ∷ codes "degree" ∷ decimal members ∷ codes "euler" ∷ signed_decimal link.euler
      ∷ codes "closed" ∷ yes_or_no link.closed ∷ codes "kind" ∷ kind_word link.kind ∷ [],
)
vertex_line_is c members link = simp append_assoc

pub vertex_text_is : (i : Information) (c : ℕ) → vertex_text i.skeleton i.links c ≡ line_of (vertex_words i c)
vertex_text_is i c = vertex_line_is c (degree i.skeleton.vertices.classes c) (slice_index_or i.links c no_link)

abbrev pub edge_words : Information → ℕ → Words
edge_words i c = (
  codes "edge",
  decimal c ∷ codes "degree" ∷ decimal (degree i.skeleton.edges.classes c) ∷ codes "place" ∷ place_word (is_boundary_edge i.skeleton.rows i.skeleton.edges.classes c)
      ∷ codes "valid" ∷ yes_or_no (slice_index_or i.valid c false) ∷ [],
)

pub edge_is_plain : (i : Information) (c : ℕ) → ArePlain (edge_words i c)
edge_is_plain i c = record {
  first = refl;
  others = (number_is_plain c, (refl, (number_is_plain (degree i.skeleton.edges.classes c), (refl, (place_is_plain (is_boundary_edge i.skeleton.rows i.skeleton.edges.classes c), (refl, (yes_or_no_is_plain (slice_index_or i.valid c false), tt)))))));
}

edge_line_is : (c members : ℕ) (in_boundary valid : Bool) → edge_line c members in_boundary valid
    ≡ line_of (codes "edge", decimal c ∷ codes "degree" ∷ decimal members ∷ codes "place" ∷ place_word in_boundary ∷ codes "valid" ∷ yes_or_no valid ∷ [])
edge_line_is c members in_boundary valid = simp append_assoc

pub edge_text_is : (i : Information) (c : ℕ) → edge_text i.skeleton i.valid c ≡ line_of (edge_words i c)
edge_text_is i c = edge_line_is c (degree i.skeleton.edges.classes c) (is_boundary_edge i.skeleton.rows i.skeleton.edges.classes c) (slice_index_or i.valid c false)

abbrev pub vertices_text : Information → List ℕ
vertices_text i = classes_text (vertex_text i.skeleton i.links) i.skeleton.vertices.count

abbrev pub edges_text : Information → List ℕ
edges_text i = classes_text (edge_text i.skeleton i.valid) i.skeleton.edges.count

-- eight lines, and what is after them
eight : (a b c d e f g h v w : List ℕ) → ((((a ++ b) ++ c) ++ d) ++ (((e ++ f) ++ g) ++ h) ++ v) ++ w ≡ (a ++ (b ++ (c ++ (d ++ (e ++ (f ++ (g ++ (h ++ [])))))))) ++ (v ++ w)
eight a b c d e f g h v w = simp append_assoc

pub information_lines : (i : Information) → information_text i ≡ flat_map line_of (header i) ++ (vertices_text i ++ edges_text i)
information_lines i =
    eight (line_of (codes "tetrahedra", decimal (length i.skeleton.rows) ∷ [])) (line_of (codes "connected", yes_or_no i.connected ∷ []))
    (line_of (codes "orientable", yes_or_no i.orientable ∷ [])) (line_of (codes "closed", yes_or_no (is_closed i.skeleton.rows) ∷ []))
    (line_of (codes "vertices", decimal i.skeleton.vertices.count ∷ [])) (line_of (codes "edges", decimal i.skeleton.edges.count ∷ []))
    (line_of (codes "faces", decimal i.skeleton.faces.count ∷ [])) (line_of (codes "euler", signed_decimal (characteristic i.skeleton) ∷ [])) (vertices_text i) (edges_text i)
