-- A list of tables has one census.
use Rattle.std.proofs.Common.{◌≡◌, ℕ, ◌<◌, List, [], length, sym, ap, ◌∙◌, subst, arith, ext_get_or}
use Rattle.std.specs.Prelude.{slice_index}
use Rattle.table_definitions.specs.Table.{Row}
use Rattle.table_definitions.specs.Classes.{IsNumbering}
use Rattle.table_definitions.proofs.ClassLaws.{numberings_agree, one_count}
use Rattle.signature_definitions.specs.Spelling.{IsSignature}
use Rattle.signature_definitions.specs.Census.{table_in, signature_in, AreRelabelled, IsCensus}

module _ (one : (rows : List Row) (text other : List ℕ) → IsSignature rows text → IsSignature rows other → text ≡ other) where
  module _ (tables : List (List Row)) (classes others : List ℕ) (signatures texts : List (List ℕ)) (a : IsCensus tables classes signatures)
      (b : IsCensus tables others texts) where
    same_classes : classes ≡ others
    same_classes = ext_get_or 0 classes others (a.numbering.one_each ∙ sym b.numbering.one_each)
        (λ i h. numberings_agree (length tables) (AreRelabelled tables) classes others (length signatures) (length texts) a.numbering b.numbering i
        (let n = a.numbering.one_each in omega arith))

    same_count : length signatures ≡ length texts
    same_count = one_count (length tables) (AreRelabelled tables) others (length signatures) (length texts)
        (subst (λ (cs : List ℕ). IsNumbering (length tables) (AreRelabelled tables) cs (length signatures)) same_classes a.numbering) b.numbering

    same_signature : (c : ℕ) → c < length signatures → signature_in signatures c ≡ signature_in texts c
    same_signature c h =
        let k = a.numbering.none_empty c h in
        let first : IsSignature (table_in tables k.0) (signature_in signatures c) =
        subst (λ (d : ℕ). IsSignature (table_in tables k.0) (signature_in signatures d)) k.2 (a.signed k.0 k.1) in
        let second : IsSignature (table_in tables k.0) (signature_in texts c) =
        subst (λ (d : ℕ). IsSignature (table_in tables k.0) (signature_in texts d)) (sym (ap (λ (cs : List ℕ). slice_index cs k.0) same_classes) ∙ k.2) (b.signed k.0 k.1) in
        one (table_in tables k.0) (signature_in signatures c) (signature_in texts c) first second

    pub one_census : (classes ≡ others) × (signatures ≡ texts)
    one_census = (same_classes, ext_get_or [] signatures texts same_count same_signature)
