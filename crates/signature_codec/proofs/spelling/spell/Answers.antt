use Rattle.std.proofs.Common.{◌≡◌, ◌<◌, ◌++◌, [], length, map, arith, sym, ap, subst, ◌∙◌, List, ℕ}
use Rattle.std.specs.Prelude.{All}
use Rattle.table_definitions.specs.Table.{Gluing, Row}
use Rattle.signature_definitions.specs.Spelling as spellings
use Rattle.signature_text_laws.specs.Texts.{destinations_text, indices_text}
use Rattle.signature_text_laws.proofs.TextLaws.{types_small, bounded_types, whole_text}
use Rattle.signature_text_laws.proofs.SpelledTables.{spelled_read}
use Rattle.signature_codec.proofs.spelling.spell.Goals as goal

pub append_types-requires-clause-small : goal.append_types-requires-clause-small
append_types-requires-clause-small c =
    let P : List ℕ → Type 0 = λ ts. All (λ t. t < 3) ts in
    subst P (sym (c.deref.ensures.value ∙ c.in_ok-walk.ensures.whole.types)) (types_small c.args.table.now)

pub append_types-requires-clause-limited : goal.append_types-requires-clause-limited
append_types-requires-clause-limited c =
    let limited = bounded_types c.args.table.now in
    let most = c.rows.ensures.is_table.limited in
    let same = ap (λ (ts : List ℕ). length ts) (c.deref.ensures.value ∙ c.in_ok-walk.ensures.whole.types) in
    omega (arith, limited, most, same)

pub returns-clause-spells : goal.returns-clause-spells
returns-clause-spells c =
    let n : ℕ = length c.rows.result.now in
    let types : List ℕ = c.in_ok-walk.walk.types.items in
    let gs : List Gluing = c.in_ok-walk.walk.gluings.items in
    let head : List ℕ = map spellings.character (spellings.head_values n) in
    let a : c.append_head.new.text.items ≡ [] ++ head = c.in_ok-append_head.ensures ∙ ap (λ t. t ++ head) c.new-text.ensures.items in
    let b : c.append_types.new.text.items ≡ ([] ++ head) ++ map spellings.character (spellings.packed types) =
    c.in_ok-append_types.ensures ∙ ap (λ ts. c.append_head.new.text.items ++ map spellings.character (spellings.packed ts)) c.deref.ensures.value
    ∙ ap (λ t. t ++ map spellings.character (spellings.packed types)) a in
    let d : c.append_destinations.new.text.items ≡ (([] ++ head) ++ map spellings.character (spellings.packed types)) ++ destinations_text (spellings.width n) gs =
    c.in_ok-append_destinations.ensures ∙ ap (λ hs. c.append_types.new.text.items ++ destinations_text c.width.result hs) c.deref-2.ensures.value
    ∙ ap (λ w. c.append_types.new.text.items ++ destinations_text w gs) c.width.ensures.value
    ∙ ap (λ t. t ++ destinations_text (spellings.width n) gs) b in
    let whole : c.append_indices.new.text.items ≡ ((([] ++ head) ++ map spellings.character (spellings.packed types)) ++ destinations_text (spellings.width n) gs) ++ indices_text gs =
    c.in_ok-append_indices.ensures ∙ ap (λ hs. c.append_destinations.new.text.items ++ indices_text hs) c.deref-3.ensures.value ∙ ap (λ t. t ++ indices_text gs) d in
    record {
      table = c.rows.ensures.is_table;
      ordered = c.in_ok-walk.ensures.whole.ordered;
      spelled = whole ∙ whole_text c.args.table.now types gs n (ap (λ (rows : List Row). length rows) c.rows.ensures.rows) c.in_ok-walk.ensures.whole.types c.in_ok-walk.ensures.whole.gluings;
    }

pub returns-clause-read_back : goal.returns-clause-read_back
returns-clause-read_back c = spelled_read c.append_indices.new.text.items c.args.table.now (returns-clause-spells c)
