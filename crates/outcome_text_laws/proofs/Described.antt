-- The text of `describe` determines what it says of the vectors.
use Rattle.std.proofs.Common.{◌≡◌, ℕ, Bool, true, false, List, [], ◌∷◌, ◌++◌, length, get_or, map, drop, Ok, refl, sym, ap, ap₂, ◌∙◌, arith, append_assoc}
use Rattle.std.specs.Prelude.{codes, decimal}
use Rattle.std.specs.Fmt.{signed_decimal}
use Rattle.std.specs.List.{AllByRecursion, AllZip, flat_map, slice_index_or}
use Rattle.text_definitions.specs.Written.{yes_or_no}
use Rattle.cone_definitions.specs.Rows.{Row as EquationRow}
use Rattle.cone_text_definitions.specs.VectorText.{vector_text}
use Rattle.skeleton_definitions.specs.Skeleton.{Skeleton}
use Rattle.surface_definitions.specs.declared.Coords.{Coords}
use Rattle.surface_vector_definitions.specs.declared.Properties.{Properties}
use Rattle.surface_vector_definitions.specs.Properties.{characteristic}
use Rattle.surface_vector_definitions.specs.Components.{Component}
use Rattle.surface_vector_definitions.specs.Answers.{Description, IsDescription}
use Rattle.surface_vector_definitions.specs.Texts.{sides_word, properties_line, component_line, description_text}
use Rattle.outcome_definitions.specs.Outcomes.{Outcome}
use Rattle.outcome_text_laws.specs.Descriptions.{AreSameComponents, AreSameDescriptions, DescriptionTextsDetermine}
use Rattle.outcome_text_laws.proofs.SplitWords.{IsPlain, number_is_plain, signed_is_plain, same_number, same_integer, never_empty, first_byte}
use Rattle.outcome_text_laws.proofs.Listings.{entries_are_plain, same_entries, split_vector}
use Rattle.outcome_text_laws.proofs.InformationLines.{Words, ArePlain, line_of, word_at, split_words, same_answer, yes_or_no_is_plain}
use Rattle.outcome_text_laws.proofs.DescribedBounds.{IsShortComponent, IsShortDescription, short_description}

-- ---- lines

sides_are_plain : (b : Bool) → IsPlain (sides_word b)
sides_are_plain true = refl
sides_are_plain false = refl

same_sides : (a b : Bool) → sides_word a ≡ sides_word b → a ≡ b
same_sides true true e = refl
same_sides true false e = (let z : ◌≡◌ {A = ℕ} 116 111 = ap (λ (w : List ℕ). slice_index_or w 0 0) e in absurd (omega arith))
same_sides false true e = (let z : ◌≡◌ {A = ℕ} 111 116 = ap (λ (w : List ℕ). slice_index_or w 0 0) e in absurd (omega arith))
same_sides false false e = refl

abbrev property_words : Properties → ℕ → Words
property_words p n = (codes "euler", signed_decimal p.euler ∷ codes "linking" ∷ yes_or_no p.linking ∷ codes "boundary" ∷ yes_or_no p.boundary ∷ codes "components" ∷ decimal n ∷ [])

properties_are_plain : (p : Properties) (n : ℕ) → ArePlain (property_words p n)
properties_are_plain p n = record {
  first = refl;
  others = (signed_is_plain p.euler, (refl, (yes_or_no_is_plain p.linking, (refl, (yes_or_no_is_plain p.boundary, (refl, (number_is_plain n, tt)))))));
}

properties_line_is : (p : Properties) (n : ℕ) → properties_line p n ≡ line_of (property_words p n)
properties_line_is p n = simp append_assoc

module _ (s : Skeleton) (coords : Coords) where
  abbrev pub component_words : Component → Words
  component_words c = (
    codes "component",
    codes "euler" ∷ signed_decimal (characteristic s coords c.vector) ∷ codes "sides" ∷ sides_word c.two_sided ∷ codes "orientable" ∷ yes_or_no c.orientable
        ∷ codes "vec" ∷ map decimal c.vector,
  )

  components_are_plain : (c : Component) → ArePlain (component_words c)
  components_are_plain c = record {
    first = refl;
    others = (refl, (signed_is_plain (characteristic s coords c.vector), (refl, (sides_are_plain c.two_sided, (refl, (yes_or_no_is_plain c.orientable, (refl, entries_are_plain c.vector)))))));
  }

  component_line_is : (c : Component) → component_line s coords c ≡ line_of (component_words c)
  component_line_is c = simp append_assoc

  -- a described vector in three parts, and what is after it
  description_parts : (d : Description) (r : List ℕ) → description_text s coords d ++ r ≡ vector_text d.vector ++ (line_of (property_words d.properties (length d.components)) ++ (flat_map (component_line s coords) d.components ++ r))
  unfolding description_text
  description_parts d r =
      append_assoc (vector_text d.vector ++ properties_line d.properties (length d.components)) (flat_map (component_line s coords) d.components) r
      ∙ append_assoc (vector_text d.vector) (properties_line d.properties (length d.components)) (flat_map (component_line s coords) d.components ++ r)
      ∙ ap (λ (t : List ℕ). vector_text d.vector ++ (t ++ (flat_map (component_line s coords) d.components ++ r))) (properties_line_is d.properties (length d.components))

-- ---- two texts

module _ (s t : Skeleton) (coords other : Coords) where
  same_component : (c d : Component) → IsShortComponent s coords c → IsShortComponent t other d → component_words s coords c ≡ component_words t other d → AreSameComponents s t coords other c d
  same_component c d h k e = record {
    vectors = same_entries c.vector d.vector h.vector k.vector (ap (λ (ws : Words). drop 7 ws.1) e);
    euler = same_integer (characteristic s coords c.vector) (characteristic t other d.vector) h.euler k.euler (ap (λ (ws : Words). word_at ws 1) e);
    two_sided = same_sides c.two_sided d.two_sided (ap (λ (ws : Words). word_at ws 3) e);
    orientable = same_answer c.orientable d.orientable (ap (λ (ws : Words). word_at ws 5) e);
  }

  split_components : (cs ds : List Component) (r q : List ℕ) → length cs ≡ length ds → AllByRecursion (IsShortComponent s coords) cs → AllByRecursion (IsShortComponent t other) ds
      → flat_map (component_line s coords) cs ++ r ≡ flat_map (component_line t other) ds ++ q → AllZip (AreSameComponents s t coords other) cs ds × (r ≡ q)
  split_components [] [] r q same h k e = (tt, e)
  split_components [] (d ∷ ds) r q same h k e = absurd (omega arith)
  split_components (c ∷ cs) [] r q same h k e = absurd (omega arith)
  split_components (c ∷ cs) (d ∷ ds) r q same h k e =
      let left : List ℕ = flat_map (component_line s coords) cs ++ r in
      let right : List ℕ = flat_map (component_line t other) ds ++ q in
      let p : (component_words s coords c ≡ component_words t other d) × (left ≡ right) =
      split_words (component_words s coords c) (component_words t other d) left right (components_are_plain s coords c) (components_are_plain t other d)
      (ap (λ (x : List ℕ). x ++ left) (sym (component_line_is s coords c)) ∙ sym (append_assoc (component_line s coords c) (flat_map (component_line s coords) cs) r)
      ∙ e ∙ append_assoc (component_line t other d) (flat_map (component_line t other) ds) q ∙ ap (λ (x : List ℕ). x ++ right) (component_line_is t other d)) in
      let more : AllZip (AreSameComponents s t coords other) cs ds × (r ≡ q) = split_components cs ds r q (omega arith) h.1 k.1 p.1 in
      ((same_component c d h.0 k.0 p.0, more.0), more.1)

  split_description : (d e : Description) (r q : List ℕ) → IsShortDescription s coords d → IsShortDescription t other e → description_text s coords d ++ r ≡ description_text t other e ++ q
      → AreSameDescriptions s t coords other d e × (r ≡ q)
  split_description d e r q h k same =
      let left : List ℕ = flat_map (component_line s coords) d.components ++ r in
      let right : List ℕ = flat_map (component_line t other) e.components ++ q in
      let first : (d.vector ≡ e.vector) × (line_of (property_words d.properties (length d.components)) ++ left ≡ line_of (property_words e.properties (length e.components)) ++ right) =
      split_vector d.vector e.vector (line_of (property_words d.properties (length d.components)) ++ left) (line_of (property_words e.properties (length e.components)) ++ right) h.vector k.vector
      (sym (description_parts s coords d r) ∙ same ∙ description_parts t other e q) in
      let second : (property_words d.properties (length d.components) ≡ property_words e.properties (length e.components)) × (left ≡ right) =
      split_words (property_words d.properties (length d.components)) (property_words e.properties (length e.components)) left right (properties_are_plain d.properties (length d.components))
      (properties_are_plain e.properties (length e.components)) first.1 in
      let many : length d.components ≡ length e.components = same_number (length d.components) (length e.components) h.components k.components (ap (λ (ws : Words). word_at ws 6) second.0) in
      let third : AllZip (AreSameComponents s t coords other) d.components e.components × (r ≡ q) = split_components d.components e.components r q many h.each k.each second.1 in (
        record {
          vectors = first.0;
          euler = same_integer d.properties.euler e.properties.euler h.euler k.euler (ap (λ (ws : Words). word_at ws 0) second.0);
          linking = same_answer d.properties.linking e.properties.linking (ap (λ (ws : Words). word_at ws 2) second.0);
          boundary = same_answer d.properties.boundary e.properties.boundary (ap (λ (ws : Words). word_at ws 4) second.0);
          components = third.0;
        },
        third.1,
      )

  starts : (u : Skeleton) (c : Coords) (d : Description) (r : List ℕ) → [] ≡ description_text u c d ++ r → ⊥
  starts u c d r e = never_empty 118 (101 ∷ 99 ∷ []) (map decimal d.vector) _ (e ∙ description_parts u c d r)

  split_descriptions : (ds es : List Description) → AllByRecursion (IsShortDescription s coords) ds → AllByRecursion (IsShortDescription t other) es
      → flat_map (description_text s coords) ds ≡ flat_map (description_text t other) es → AllZip (AreSameDescriptions s t coords other) ds es
  split_descriptions [] [] h k same = tt
  split_descriptions [] (e ∷ es) h k same = absurd (starts t other e (flat_map (description_text t other) es) same)
  split_descriptions (d ∷ ds) [] h k same = absurd (starts s coords d (flat_map (description_text s coords) ds) (sym same))
  split_descriptions (d ∷ ds) (e ∷ es) h k same =
      let p : AreSameDescriptions s t coords other d e × (flat_map (description_text s coords) ds ≡ flat_map (description_text t other) es) =
      split_description d e (flat_map (description_text s coords) ds) (flat_map (description_text t other) es) h.0 k.0 same in
      (p.0, split_descriptions ds es h.1 k.1 p.1)

-- a text of descriptions does not begin with `r`
pub first_bytes : (s : Skeleton) (coords : Coords) (ds : List Description) → get_or (flat_map (description_text s coords) ds) 0 0 ≡ 114 → ⊥
first_bytes s coords [] e = omega arith
first_bytes s coords (d ∷ ds) e =
    let first : get_or (description_text s coords d ++ flat_map (description_text s coords) ds) 0 0 ≡ 118 =
    ap (λ (t : List ℕ). get_or t 0 0) (description_parts s coords d (flat_map (description_text s coords) ds)) ∙ first_byte 118 (101 ∷ 99 ∷ []) (map decimal d.vector) _ in
    omega arith

-- ---- answers

short_descriptions : (s : Skeleton) (coords : Coords) (equations : List EquationRow) (vectors : List (List ℕ)) (ds : List Description)
    → AllZip (λ xs d. IsDescription s coords equations xs (Ok d)) vectors ds → AllByRecursion (IsShortDescription s coords) ds
short_descriptions s coords equations [] [] z = tt
short_descriptions s coords equations [] (d ∷ ds) z = absurd z
short_descriptions s coords equations (xs ∷ vectors) [] z = absurd z
short_descriptions s coords equations (xs ∷ vectors) (d ∷ ds) z = (short_description s coords equations xs d z.0, short_descriptions s coords equations vectors ds z.1)

-- the described vectors are the given ones
given : (s : Skeleton) (coords : Coords) (equations : List EquationRow) (vectors : List (List ℕ)) (ds : List Description)
    → AllZip (λ xs d. IsDescription s coords equations xs (Ok d)) vectors ds → vectors ≡ map (λ (d : Description). d.vector) ds
given s coords equations [] [] z = refl
given s coords equations [] (d ∷ ds) z = absurd z
given s coords equations (xs ∷ vectors) [] z = absurd z
given s coords equations (xs ∷ vectors) (d ∷ ds) z = ap₂ (λ (y : List ℕ) (ys : List (List ℕ)). y ∷ ys) (sym z.0.1) (given s coords equations vectors ds z.1)

same_vectors : (s t : Skeleton) (coords other : Coords) (ds es : List Description) → AllZip (AreSameDescriptions s t coords other) ds es → map (λ (d : Description). d.vector) ds ≡ map (λ (d : Description). d.vector) es
same_vectors s t coords other [] [] z = refl
same_vectors s t coords other [] (e ∷ es) z = absurd z
same_vectors s t coords other (d ∷ ds) [] z = absurd z
same_vectors s t coords other (d ∷ ds) (e ∷ es) z = ap₂ (λ (y : List ℕ) (ys : List (List ℕ)). y ∷ ys) z.0.vectors (same_vectors s t coords other ds es z.1)

pub descriptions_told : DescriptionTextsDetermine
descriptions_told coords other d e o p h k same =
    let zipped : AllZip (AreSameDescriptions h.skeleton k.skeleton coords other) h.descriptions k.descriptions =
    split_descriptions h.skeleton k.skeleton coords other h.descriptions k.descriptions
    (short_descriptions h.skeleton coords h.equations d.1 h.descriptions h.described) (short_descriptions k.skeleton other k.equations e.1 k.descriptions k.described)
    (sym (ap (λ (q : Outcome). q.text) h.outcome) ∙ same ∙ ap (λ (q : Outcome). q.text) k.outcome) in (
      given h.skeleton coords h.equations d.1 h.descriptions h.described ∙ same_vectors h.skeleton k.skeleton coords other h.descriptions k.descriptions zipped
          ∙ sym (given k.skeleton other k.equations e.1 k.descriptions k.described),
      zipped,
    )
