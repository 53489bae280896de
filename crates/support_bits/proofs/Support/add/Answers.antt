use Rattle.std.proofs.Common.{subst, sym, ◌∙◌, ap, length}
use Rattle.support_bits.specs.Words.{AreEither}
use Rattle.support_bits.proofs.WordLemmas.{same_columns, same_count}
use Rattle.support_bits.proofs.EitherLemmas.{either_padded, union_spelled}
use Rattle.support_bits.proofs.Support.add.Goals as goal

pub add_bits-requires : goal.add_bits-requires
add_bits-requires c = ap length c.deref.ensures.value ∙ same_count _ _ _ _ _ _ c.other.invariant c.self.invariant c.other.view_is c.self.view_is c.requires

pub invariant_of-self : goal.invariant_of-self
invariant_of-self c =
    either_padded c.self.inside.columns c.other.inside.columns c.self.inside.words.items c.other.inside.words.items c.add_bits.new.words.items
    (sym (same_columns _ _ _ _ _ _ c.other.view_is c.self.view_is c.requires)) c.self.invariant c.other.invariant
    (subst (λ ws. AreEither c.self.inside.words.items ws c.add_bits.new.words.items) c.deref.ensures.value c.add_bits.ensures)

pub returns : goal.returns
returns c = rw (← c.self.view_is, ← c.other.view_is)
    (union_spelled c.self.inside.columns c.other.inside.columns c.self.inside.words.items c.other.inside.words.items c.add_bits.new.words.items
    (sym (same_columns _ _ _ _ _ _ c.other.view_is c.self.view_is c.requires)) c.self.invariant c.other.invariant
    (subst (λ ws. AreEither c.self.inside.words.items ws c.add_bits.new.words.items) c.deref.ensures.value c.add_bits.ensures))
