-- A word that names no form of tables.
use Rattle.std.proofs.Common.{◌≡◌, ℕ, false, List, refl, sym, ap, ◌∙◌, eqb}
use Rattle.std.specs.Prelude.{codes, Ok, Err}
use lib.Pointwise.{pointwise}
use Rattle.table_definitions.proofs.ListFacts.{pointwise-same_list}
use Rattle.text_definitions.specs.declared.LexKind.TheVariants.{BadWord}
use Rattle.text_definitions.specs.Reading.{Reading, word_at, word_fault}
use Rattle.table_definitions.specs.Lists.{same_list}
use Rattle.table_definitions.specs.declared.TextFault.TheVariants.{Lex}
use Rattle.signature_definitions.specs.declared.InputFault.TheVariants.{Text}
use Rattle.signature_definitions.specs.SignatureText.{any_table_at}

pub other_word : (c d : Reading) (w tri sig : List ℕ) → word_at c ≡ Ok (w, d) → tri ≡ codes "tri" → sig ≡ codes "sig" → false ≡ pointwise eqb w tri → false ≡ pointwise eqb w sig
    → any_table_at c ≡ Err (Text (Lex (word_fault d BadWord)))
unfolding any_table_at
other_word c d w tri sig e a b f g =
    let no_tri : same_list w (codes "tri") ≡ false = ap (same_list w) (sym a) ∙ sym (pointwise-same_list w tri) ∙ sym f in
    let no_sig : same_list w (codes "sig") ≡ false = ap (same_list w) (sym b) ∙ sym (pointwise-same_list w sig) ∙ sym g in
    rw (e, no_tri, no_sig) refl
