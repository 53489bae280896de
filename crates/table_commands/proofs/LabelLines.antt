-- The lines of a relabelling.
use Rattle.std.proofs.Common.{◌≡◌, ℕ, List, [], length, sym, ap₂, ◌∙◌}
use Rattle.std.specs.Prelude.{slice_index}
use Rattle.std.specs.List.{slice_index_or}
use Rattle.std.proofs.lemmas.List.FromFn.{length-range_with_len}
use Rattle.std.proofs.lemmas.List.Sorted.{length_permutation}
use Rattle.table_definitions.specs.Lists.{below}
use Rattle.table_definitions.specs.Table.{Row}
use Rattle.table_definitions.specs.Relabelling.{Relabelling, relabelled_place}
use Rattle.signature_definitions.specs.Labellings.{IsLeastRelabelling}
use Rattle.outcome_definitions.specs.Canonical.{image_line}

pub image_same : (by : Relabelling) (tet image : ℕ) (perm : List ℕ) → image ≡ slice_index by.images tet → perm ≡ slice_index_or by.perms tet []
    → image_line tet (record { tet = image; perm = perm }) ≡ image_line tet (relabelled_place by tet)
image_same by tet image perm e f = ap₂ (λ (i : ℕ) (p : List ℕ). image_line tet (record { tet = i; perm = p })) e f

-- each tetrahedron of the first table has an image
pub one_image_each : (first second : List Row) (by : Relabelling) → IsLeastRelabelling first second by → length first ≡ length by.images
one_image_each first second by h = sym (sym (length_permutation by.images (below (length first)) h.relabels.0.images) ∙ length-range_with_len 0 (length first))
