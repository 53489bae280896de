-- Blocks of sums: what comes before an error can be continued to a block.
use Rattle.std.proofs.Common.{ℕ, zero, suc, [], ◌∷◌, refl}
use Rattle.std.specs.Prelude.{codes}
use Rattle.text_definitions.specs.Written.{limit}
use Rattle.text_definitions.specs.Reading.{numbers_at}
use Rattle.cone_text_definitions.specs.VectorText.{vector_at}
use Rattle.text_document_definitions.specs.Blocks.{most_terms, term_at, terms_at, times_at, block_at}
use Rattle.text_document_laws.proofs.LocalForms.{exact_test}
use Rattle.text_document_laws.proofs.Chains.{Ends, Opens, made, ends_named, ends_number, ends_numbers, ends_line, ends_made, ends_join, opens_line, opens_pure, opens_made, opens_join}

pub ends_vector : Ends vector_at
unfolding vector_at exact_test
ends_vector = ends_named (codes "vec") (numbers_at limit) refl ends_numbers

opens_term : Opens term_at
unfolding term_at exact_test
opens_term = opens_line _ (ends_named (codes "term") _ refl (ends_number limit _ (λ n. ends_made (λ xs. record { count = n; vector = xs }) (numbers_at limit) ends_numbers)))

opens_terms : (n : ℕ) → Opens (terms_at n)
unfolding terms_at
opens_terms zero = opens_pure []
opens_terms (suc n) = opens_join (λ x xs. x ∷ xs) term_at (terms_at n) (opens_terms n) opens_term

opens_times : Opens times_at
unfolding times_at exact_test
opens_times =
    opens_line _ (ends_named (codes "times") _ refl (ends_number limit _ (λ s. ends_number most_terms _ (λ n. ends_line (made (λ ts. (s, ts)) (terms_at n)) (opens_made (λ ts. (s, ts)) (terms_at n) (opens_terms n))))))

pub ends_block : Ends block_at
unfolding block_at
ends_block = ends_join (λ v s. record { vector = v; times = s.0; terms = s.1 }) vector_at times_at opens_times ends_vector
