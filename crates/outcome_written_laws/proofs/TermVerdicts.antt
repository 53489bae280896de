-- Terms and blocks of which no part of an equation exceeds the limit, or the first of which one does.
use Rattle.std.proofs.Common.{◌⊎◌, ℕ, inl, inr, List}
use Rattle.std.specs.List.{All}
use Rattle.cone_definitions.specs.Rows.{Row as EquationRow}
use Rattle.sum_definitions.specs.Sums.{Term}
use Rattle.text_document_definitions.specs.Blocks.{Block}
use Rattle.outcome_written_laws.specs.Sums.{IsSmallTerm, IsSmallBlock, IsLargeTerm, IsLargeBlock, AreLarge}
use Rattle.outcome_written_laws.proofs.Verdicts.{all_or_first, small_or_large}

module _ (equations : List EquationRow) where
  term_or_large : (term : Term) → IsSmallTerm equations term ⊎ ((row : ℕ) × IsLargeTerm equations row term)
  term_or_large term = small_or_large equations term.vector

  block_or_large : (block : Block) → IsSmallBlock equations block ⊎ ((at : ℕ × ℕ) × IsLargeBlock equations at block)
  block_or_large block = elim (all_or_first (IsSmallTerm equations) (IsLargeTerm equations) term_or_large block.terms) [
    | inl all ↦ inl all
    | inr f ↦ inr ((f.0, f.1), f.2)
  ]

  pub blocks_or_large : (blocks : List Block) → All (IsSmallBlock equations) blocks ⊎ ((v : ℕ) × (at : ℕ × ℕ) × AreLarge equations blocks v at)
  blocks_or_large blocks = all_or_first (IsSmallBlock equations) (IsLargeBlock equations) block_or_large blocks
