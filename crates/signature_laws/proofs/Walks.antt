-- Each relabelling carries a table to some table, and a connected table has its traversals and its signature.
use Rattle.std.proofs.Common.{◌≡◌, ℕ, zero, suc, ◌+◌, ◌-◌, ◌*◌, ◌%◌, ◌<◌, Bool, true, false, List, [], length, map, refl, sym, ap, ◌∙◌, subst, arith, inl, inr}
use Rattle.std.specs.Prelude.{◌⊎◌, ◌==◌, slice_index}
use Rattle.std.specs.List.{position_or_len}
use Rattle.std.proofs.lemmas.Bool.{eqb-true, eq-eqb, cases_eq}
use Rattle.std.proofs.lemmas.List.{get_or-map, length-map}
use Rattle.std.proofs.lemmas.List.FromFn.{length-range_with_len, get_or-map-range_with_len}
use Rattle.std.proofs.lemmas.List.Sums.{position_or_len_is}
use Rattle.table_definitions.specs.Lists.{below, is_list_before}
use Rattle.table_definitions.specs.Table.{Gluing, Row, IsTable}
use Rattle.table_definitions.specs.Places.{IsConnected}
use Rattle.table_definitions.specs.Relabelling.{Relabelling, IsRelabelling, Carries}
use Rattle.signature_definitions.specs.Spelling.{spelling, IsSignature}
use Rattle.signature_definitions.specs.Labellings.{Start}
use Rattle.table_definitions.proofs.Permutations.{words_permute}
use Rattle.table_definitions.specs.Moved.{moved_row}
use Rattle.table_definitions.proofs.Moves.{carries_from}
use Rattle.table_definitions.proofs.Carried.{image_in_range, carried_is_table}
use Rattle.signature_laws.specs.Between.{made, place_of}
use Rattle.signature_laws.specs.Orders.{start_at, whole_order, IsWholeOrder, Numbers}
use Rattle.signature_laws.specs.Starts.{numbered_start, IsTextFrom, IsLeastText}
use Rattle.signature_laws.proofs.Standing.{made_stands, HasFacetImage, made_relabelling, place_of-image}
use Rattle.signature_laws.proofs.Least.{least_begun, least_better, one_text, least_is_signature, empty_ordered, empty_signature}
use Rattle.signature_laws.specs.Laws.{RelabelledExist, WalksExist, SignaturesExist}
use Rattle.signature_laws.proofs.Sound.{IsOrder, order_holds}
use Rattle.signature_laws.proofs.Reaching.{order_few, whole_order_holds}
use Rattle.signature_laws.proofs.Labelled.{labelled_is_walked}

-- the table that a relabelling carries a table to
pub relabelled_exist_lem : RelabelledExist
relabelled_exist_lem rows by table h = (new, carries_from rows new by olds h (length-map olds (moved_row rows by) ∙ size) (λ k l. get_or-map (moved_row rows by) olds k 0 [] (rw size l)) back)
  where
    olds : List ℕ
    olds = map (place_of by) (below (length rows))

    new : List Row
    new = map (moved_row rows by) olds

    size : length olds ≡ length rows
    size = length-map (below (length rows)) (place_of by) ∙ length-range_with_len 0 (length rows)

    back : (t : ℕ) → t < length rows → slice_index olds (slice_index by.images t) ≡ t
    back t l =
        get_or-map-range_with_len (place_of by) 0 (length rows) (slice_index by.images t) (slice_index by.images t) 0 (image_in_range (length rows) by h t l) (omega arith)
        ∙ place_of-image (length rows) by h t l

-- the index of each tetrahedron in the order
abbrev place_in : List Start → ℕ → ℕ
place_in order t = position_or_len (λ (s : Start). s.tet == t) order

abbrev stands_by : List Start → ℕ → Gluing
stands_by order t = record { tet = place_in order t; perm = (start_at order (place_in order t)).perm }

place_at : (rows : List Row) (start : Start) → IsOrder rows start (whole_order rows start) → (i : ℕ) → i < length (whole_order rows start) → place_in (whole_order rows start) (start_at (whole_order rows start) i).tet ≡ i
place_at rows start h i l =
    position_or_len_is (λ (s : Start). s.tet == (start_at (whole_order rows start) i).tet) (whole_order rows start) i (record { tet = 0; perm = [] }) (omega arith)
    (λ k m. other k m) (λ _. eq-eqb (start_at (whole_order rows start) i).tet (start_at (whole_order rows start) i).tet refl)
  where
    other : (k : ℕ) → k < i → ((start_at (whole_order rows start) k).tet == (start_at (whole_order rows start) i).tet) ≡ false
    other k m = by_test ((start_at (whole_order rows start) k).tet == (start_at (whole_order rows start) i).tet) refl
      where
        by_test : (b : Bool) → ((start_at (whole_order rows start) k).tet == (start_at (whole_order rows start) i).tet) ≡ b → ((start_at (whole_order rows start) k).tet == (start_at (whole_order rows start) i).tet) ≡ false
        by_test false e = e
        by_test true e = absurd (h.separate k i m l (eqb-true (start_at (whole_order rows start) k).tet (start_at (whole_order rows start) i).tet e))

pub walks_exist_lem : WalksExist
walks_exist_lem rows start table connected l p = (by, carried.0, labelled_is_walked rows start by carried.0 (record { table = table; order = order; whole = whole; bijection = bijection; numbers = numbers; carries = carried.1 }))
  where
    n : ℕ
    n = length rows

    all : List Start
    all = whole_order rows start

    order : IsOrder rows start (whole_order rows start)
    order = order_holds rows start (4 * length rows) table l p

    whole : IsWholeOrder (length rows) (whole_order rows start)
    whole = whole_order_holds rows start table connected l p

    by : Relabelling
    by = made (length rows) (stands_by (whole_order rows start))

    at : (t : ℕ) → t < length rows → (place_in (whole_order rows start) t < length (whole_order rows start)) × ((start_at (whole_order rows start) (place_in (whole_order rows start) t)).tet ≡ t)
    at t m =
        let w = whole.all t m in
        let here : place_in (whole_order rows start) t ≡ w.0 = ap (place_in (whole_order rows start)) (sym w.2) ∙ place_at rows start order w.0 w.1 in
        (let q = w.1 in omega arith, ap (λ i. (start_at (whole_order rows start) i).tet) here ∙ w.2)

    can : HasFacetImage (length rows) (stands_by (whole_order rows start))
    can = record {
      in_range = λ t m. (let q = (at t m).0 in let limited = order_few rows start (whole_order rows start) order in omega arith);
      separate = λ t u m k e. sym (at t m).1 ∙ ap (λ i. (start_at (whole_order rows start) i).tet) e ∙ (at u k).1;
      permutes = λ t m. order.permutes (place_in (whole_order rows start) t) (at t m).0;
    }

    bijection : IsRelabelling (length rows) by
    bijection = made_relabelling (length rows) (stands_by (whole_order rows start)) can

    numbers : Numbers (whole_order rows start) by
    numbers i m =
        let here : place_in (whole_order rows start) (start_at (whole_order rows start) i).tet ≡ i = place_at rows start order i m in
        made_stands (length rows) (stands_by (whole_order rows start)) (start_at (whole_order rows start) i).tet (order.in_range i m)
        ∙ (λ j. record { tet = here j; perm = (start_at (whole_order rows start) (here j)).perm })

    carried : (new : List Row) × Carries by rows new
    carried = relabelled_exist_lem rows by table bijection

-- a text from each start
text_from : (rows : List Row) (i : ℕ) → IsTable rows → IsConnected rows → i < 24 * length rows → (text : List ℕ) × IsTextFrom rows (numbered_start i) text
text_from rows i table connected l =
    let w = walks_exist_lem rows (numbered_start i) table connected (omega arith) (words_permute (i % 24) (omega arith)) in
    (spelling w.1, (w.0, w.1, w.2, record { table = carried_is_table rows w.1 w.0 table w.2.relabels.0 w.2.relabels.1; ordered = w.2.ordered; spelled = refl }))

-- the less of the least text of some starts and a text of the next one, the former if they are equal
one_more : (rows : List Row) (k : ℕ) (best new : List ℕ) → IsTable rows → k < 24 * length rows → IsLeastText rows k best → IsTextFrom rows (numbered_start k) new → (b : Bool) → is_list_before new best ≡ b
    → (text : List ℕ) × IsLeastText rows (k + 1) text
one_more rows k best new table l among h true e = (new, least_better rows k best new table l among (inl (h, e)))
one_more rows k best new table l among h false e = (best, least_better rows k best best table l among (inr (refl, none)))
  where
    none : (other : List ℕ) → IsTextFrom rows (numbered_start k) other → is_list_before other best ≡ false
    none other f = subst (λ (text : List ℕ). is_list_before text best ≡ false) (one_text rows (numbered_start k) new other table (omega arith) h f) e

-- the first k + 1 starts have a least text
least_up_to : (rows : List Row) (k : ℕ) → IsTable rows → IsConnected rows → 0 < length rows → k < 24 * length rows → (text : List ℕ) × IsLeastText rows (k + 1) text
least_up_to rows zero table connected some l =
    let t = text_from rows 0 table connected (omega arith) in
    (t.0, least_begun rows t.0 table some t.1)
least_up_to rows (suc k) table connected some l =
    let before = least_up_to rows k table connected some (omega arith) in
    let t = text_from rows (suc k) table connected l in
    let e : k + 1 ≡ suc k = omega arith in
    one_more rows (suc k) before.0 t.0 table l (subst (λ n. IsLeastText rows n before.0) e before.1) t.1 (is_list_before t.0 before.0) refl

pub signatures_exist_lem : SignaturesExist
signatures_exist_lem rows table connected = by_size (cases_eq (length rows) 0)
  where
    by_size : (length rows ≡ 0) ⊎ (length rows ≡ 0 → ⊥) → (text : List ℕ) × IsSignature rows text
    by_size (inl none) = (spelling rows, empty_signature rows (spelling rows) none (record { table = table; ordered = empty_ordered rows none; spelled = refl }))
    by_size (inr some) =
        let t = least_up_to rows (24 * length rows - 1) table connected (omega arith) (omega arith) in
        let e : 24 * length rows - 1 + 1 ≡ 24 * length rows = omega arith in
        (t.0, least_is_signature rows t.0 (subst (λ n. IsLeastText rows n t.0) e t.1))
