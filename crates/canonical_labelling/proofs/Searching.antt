-- The search for the least text, start after start.
use Rattle.std.proofs.Common.{◌≡◌, ℕ, ◌+◌, ◌*◌, ◌/◌, ◌<◌, Bool, true, false, List, [], ◌∷◌, ◌++◌, length, refl, sym, ap, ◌∙◌, subst, arith, inl, inr, replicate}
use Rattle.std.specs.Prelude.{All, slice_set}
use Rattle.std.specs.List.{slice_index_or}
use Rattle.std.proofs.lemmas.List.{length-set, length-replicate}
use Rattle.std.proofs.lemmas.List.Elements.{All-push}
use Rattle.table_definitions.specs.Lists.{is_list_before}
use Rattle.table_definitions.specs.Table.{Row, IsTable}
use Rattle.table_definitions.specs.Relabelling.{Relabelling, IsRelabelling}
use Rattle.table_definitions.proofs.ListLaws.{not_before_itself}
use Rattle.table_definitions.proofs.Carried.{length-images, carried_is_table}
use Rattle.signature_definitions.specs.Spelling.{Spells, spelling}
use Rattle.signature_definitions.specs.Labellings.{Start, IsWalked}
use Rattle.signature_laws.specs.Between.{between}
use Rattle.signature_laws.specs.Starts.{numbered_start, IsTextFrom, IsSmallerFrom}
use Rattle.signature_laws.proofs.Least.{one_text, least_begun, least_better}
use Rattle.signature_automorphism_laws.specs.Automorphisms.{IsAutomorphism, HasNoSmallerText, MarkedHaveNoSmallerText}
use Rattle.signature_automorphism_laws.proofs.Ties.{one_spelled, between_is_automorphism}
use Rattle.signature_automorphism_laws.proofs.Marks.{marked_more, no_walk, lesser_has_none}
use Rattle.table_walk_laws.proofs.SearchLemmas.{none_marked}
use Rattle.canonical_labelling.specs.declared.orbits.Orbits.{Orbits}
use Rattle.canonical_labelling.specs.Marks.{MarksFollow}
use Rattle.canonical_labelling.proofs.Reached.{IsByTraversal, walk_exists}
use Rattle.canonical_labelling.specs.Orbits.{AreOrbitsOf, SparesFollow, IsTextBy, IsFound, IsSearch}

pub text_is_from : (rows : List Row) (start : Start) (by : Relabelling) (text : List ℕ) → IsTextBy rows start by text → IsTextFrom rows start text
text_is_from rows start by text h = (by, h.0, h.1, h.2)

-- a relabelling that is found has as many images as the table has tetrahedra
pub found_relabels : (rows : List Row) (by : Relabelling) (text : List ℕ) → IsFound rows by text → IsRelabelling (length rows) by
found_relabels rows by text h = let t : IsTextBy rows h.0 by text = h.1 in t.1.relabels.0

pub found_size : (rows : List Row) (by : Relabelling) (text : List ℕ) → IsFound rows by text → length by.images ≡ length rows
found_size rows by text h = length-images (length rows) by (found_relabels rows by text h)

-- a start with an equal text gives an automorphism
pub tie_is : (rows : List Row) (start : Start) (first second : Relabelling) (new : List Row) (text : List ℕ) → IsTable rows → IsFound rows first text → IsWalked rows start second new
    → ((other : List ℕ) → IsTextFrom rows start other → other ≡ text) → IsAutomorphism rows (between (length rows) first second)
tie_is rows start first second new text table found w equal =
    let spells : Spells (spelling new) new = record { table = carried_is_table rows new second table w.relabels.0 w.relabels.1; ordered = w.ordered; spelled = refl } in
    let same : spelling new ≡ text = equal (spelling new) (second, new, w, spells) in
    let t : IsTextBy rows found.0 first text = found.1 in
    let one : new ≡ t.0 = one_spelled text new t.0 (subst (λ (x : List ℕ). Spells x new) same spells) t.2 in
    between_is_automorphism rows t.0 found.0 start first second table t.1 (subst (λ (r : List Row). IsWalked rows start second r) one w)

-- no text of the start is less than the smaller of the two
pub lesser_here : (rows : List Row) (start : Start) (best new : List ℕ) → IsTable rows → start.tet < length rows → IsSmallerFrom rows start best new → HasNoSmallerText rows new start
lesser_here rows start best new table l (inl (t, b)) = λ other f. ap (λ xs. is_list_before xs new) (one_text rows start other new table l f t) ∙ not_before_itself new
lesser_here rows start best new table l (inr (e, none)) = λ other f. ap (is_list_before other) e ∙ none other f

-- no text of a marked start is less than the smaller of the two
pub lesser_marks : (rows : List Row) (start : Start) (best new : List ℕ) (marks : List Bool) → IsSmallerFrom rows start best new → MarkedHaveNoSmallerText rows best marks → MarkedHaveNoSmallerText rows new marks
lesser_marks rows start best new marks (inl (t, b)) h = λ i m. lesser_has_none rows best new (numbered_start i) b (h i m)
lesser_marks rows start best new marks (inr (e, none)) h = subst (λ (text : List ℕ). MarkedHaveNoSmallerText rows text marks) (sym e) h

-- a marked start is skipped
pub search_passes : (rows : List Row) (k : ℕ) (by : Relabelling) (text : List ℕ) (orbits : Orbits) → IsSearch rows k by text orbits → slice_index_or orbits.marked.items k false ≡ true → IsSearch rows (k + 1) by text orbits
search_passes rows k by text orbits h m = record { least = no_walk rows text k (h.marks k m) h.least; found = h.found; orbits = h.orbits; marks = h.marks }

-- a start is traversed and marked
pub search_walks : (rows : List Row) (k : ℕ) (by by' : Relabelling) (text text' : List ℕ) (orbits between last : Orbits) → IsTable rows → k < 24 * length rows → IsSearch rows k by text orbits
    → IsSmallerFrom rows (numbered_start k) text text' → IsFound rows by' text' → AreOrbitsOf rows between → SparesFollow rows orbits.marked.items between.marked.items
    → AreOrbitsOf rows last → MarksFollow between.automorphisms.items (slice_set between.marked.items k true) last.marked.items → IsSearch rows (k + 1) by' text' last
search_walks rows k by by' text text' orbits between last table low h lesser found are kept now follow =
    let tet : k / 24 < length rows = omega (arith, low) in
    let here = lesser_here rows (numbered_start k) text text' table tet lesser in
    let before = lesser_marks rows (numbered_start k) text text' between.marked.items lesser (kept text h.marks) in
    record {
      least = least_better rows k text text' table low h.least lesser;
      found = found;
      orbits = now;
      marks = follow rows text' table are.automorphisms (sym are.size ∙ sym (length-set between.marked.items k true)) (marked_more rows text' between.marked.items k here before);
    }

-- the orbits of the table after a mark
pub orbits_marked : (rows : List Row) (orbits last : Orbits) → AreOrbitsOf rows orbits → length last.marked.items ≡ length orbits.marked.items → last.automorphisms.items ≡ orbits.automorphisms.items → AreOrbitsOf rows last
orbits_marked rows orbits last h long same = record { size = long ∙ h.size; automorphisms = subst (All (IsAutomorphism rows)) (sym same) h.automorphisms }

-- the relabelling that is made from a start with an equal text
pub tie_by : (rows : List Row) (start : Start) (first second by : Relabelling) (text : List ℕ) → IsByTraversal rows start second → IsFound rows first text
    → ((other : List ℕ) → IsTextFrom rows start other → other ≡ text) → by ≡ between (length first.images) first second → IsAutomorphism rows by
tie_by rows start first second by text h found equal is =
    let w = walk_exists rows start second h in
    subst (IsAutomorphism rows) (sym (is ∙ ap (λ n. between n first second) (found_size rows first text found))) (tie_is rows start first second w.0 text h.table found w.1 equal)

-- the orbits of the table after an automorphism is added
pub orbits_added : (rows : List Row) (by : Relabelling) (orbits last : Orbits) → AreOrbitsOf rows orbits → IsAutomorphism rows by → length last.marked.items ≡ length orbits.marked.items
    → last.automorphisms.items ≡ orbits.automorphisms.items ++ by ∷ [] → AreOrbitsOf rows last
orbits_added rows by orbits last h auto long same = record {
  size = long ∙ h.size;
  automorphisms = subst (All (IsAutomorphism rows)) (sym same) (All-push (IsAutomorphism rows) orbits.automorphisms.items by h.automorphisms auto);
}

-- the report of a comparison decides which text is less
pub lesser_equal : (rows : List Row) (start : Start) (best : List ℕ) → ((text : List ℕ) → IsTextFrom rows start text → text ≡ best) → IsSmallerFrom rows start best best
lesser_equal rows start best equal = inr (refl, λ other f. ap (λ xs. is_list_before xs best) (equal other f) ∙ not_before_itself best)

pub lesser_before : (rows : List Row) (start : Start) (best text : List ℕ) (by : Relabelling) (before : Bool) → before ≡ true → ((text : List ℕ) → IsTextFrom rows start text → before ≡ is_list_before text best)
    → IsTextBy rows start by text → IsSmallerFrom rows start best text
lesser_before rows start best text by before e value h = let t = text_is_from rows start by text h in inl (t, sym (value text t) ∙ e)

pub lesser_behind : (rows : List Row) (start : Start) (best : List ℕ) (before : Bool) → before ≡ false → ((text : List ℕ) → IsTextFrom rows start text → before ≡ is_list_before text best) → IsSmallerFrom rows start best best
lesser_behind rows start best before e value = inr (refl, λ other f. sym (value other f) ∙ e)

-- the reports, for equal arguments
pub equal_by : (rows rows' : List Row) (start : Start) (best best' : List ℕ) → rows' ≡ rows → best' ≡ best → ((text : List ℕ) → IsTextFrom rows' start text → text ≡ best')
    → (text : List ℕ) → IsTextFrom rows start text → text ≡ best
equal_by rows rows' start best best' e f h = λ text t. h text (subst (λ (r : List Row). IsTextFrom r start text) (sym e) t) ∙ f

pub value_by : (rows rows' : List Row) (start : Start) (best best' : List ℕ) (before : Bool) → rows' ≡ rows → best' ≡ best → ((text : List ℕ) → IsTextFrom rows' start text → before ≡ is_list_before text best')
    → (text : List ℕ) → IsTextFrom rows start text → before ≡ is_list_before text best
value_by rows rows' start best best' before e f h = λ text t. h text (subst (λ (r : List Row). IsTextFrom r start text) (sym e) t) ∙ ap (is_list_before text) f

-- the search begins with the first start
pub search_begins : (rows : List Row) (by : Relabelling) (text : List ℕ) (first last : Orbits) → IsTable rows → 0 < length rows → IsTextBy rows (numbered_start 0) by text
    → first.marked.items ≡ replicate (24 * length rows) false → first.automorphisms.items ≡ [] → length last.marked.items ≡ length first.marked.items
    → last.automorphisms.items ≡ first.automorphisms.items → MarksFollow first.automorphisms.items (slice_set first.marked.items 0 true) last.marked.items → IsSearch rows 1 by text last
search_begins rows by text first last table some h blank none long same follow =
    let t = text_is_from rows (numbered_start 0) by text h in
    let size : length first.marked.items ≡ 24 * length rows = ap length blank ∙ length-replicate (24 * length rows) false in
    let no_autos : All (IsAutomorphism rows) first.automorphisms.items = subst (All (IsAutomorphism rows)) (sym none) (λ k d l. absurd (omega arith)) in
    let here : HasNoSmallerText rows text (numbered_start 0) = λ other f. ap (λ xs. is_list_before xs text) (one_text rows (numbered_start 0) other text table some f t) ∙ not_before_itself text in
    let before : MarkedHaveNoSmallerText rows text first.marked.items = λ i m. absurd (let z = sym (none_marked (24 * length rows) i) ∙ ap (λ (xs : List Bool). slice_index_or xs i false) (sym blank) ∙ m in cc) in
    record {
      least = least_begun rows text table some t;
      found = (numbered_start 0, h);
      orbits = record { size = long ∙ size; automorphisms = subst (All (IsAutomorphism rows)) (sym same) no_autos };
      marks = follow rows text table no_autos (sym size ∙ sym (length-set first.marked.items 0 true)) (marked_more rows text first.marked.items 0 here before);
    }
