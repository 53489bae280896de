-- The lemmas are the laws.
use Rattle.cover_relabelling_laws.proofs.Deck.{exchange_lies_over_lem, exchange_fixes_none_lem, exchange_is_involution_lem, deck_transformations_are_two_lem}
use Rattle.cover_relabelling_laws.proofs.deck_transformations_are_two.Goals as goal

pub returns : goal.returns
returns c = record { over = exchange_lies_over_lem; moves = exchange_fixes_none_lem; twice = exchange_is_involution_lem; two = deck_transformations_are_two_lem }
