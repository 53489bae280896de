-- The columns along an edge are columns of the vector.
use Rattle.std.proofs.Common.{◌≡◌, ◌<◌, ◌/◌, ◌%◌, List, ℕ, length, sym, ap, ◌∙◌, subst, arith}
use Rattle.std.specs.Prelude.{All, sum_by, slice_index}
use Rattle.table_definitions.specs.Places.{ends}
use Rattle.surface_definitions.specs.Characteristic.{crossings}
use Rattle.surface_properties.specs.Capped.{capped}
use Rattle.surface_properties.proofs.ColumnsInRange.{crossings_inside}
use Rattle.surface_properties.proofs.vectors.DiscVector.weight.Goals as goal

pub sum_at-requires : goal.sum_at-requires
sum_at-requires c =
    subst (λ (cs : List ℕ). All (λ k. k < length c.args.self.now.entries.now) cs) (sym columns)
    (crossings_inside c.args.self.now.coords.system (c.args.edge / 6) (c.args.edge % 6) (length c.args.self.now.table.now) c.args.self.now.entries.now c.args.self.now.coords.triangles (omega (arith, c.requires)) c.args.self.now.width (omega arith))
  where
    columns : c.as_slice.result.now ≡ crossings c.args.self.now.coords.system (c.args.edge / 6) (slice_index (ends (c.args.edge % 6)) 0) (slice_index (ends (c.args.edge % 6)) 1)
    columns = c.as_slice.ensures.value ∙ c.edge_columns-columns.ensures
        ∙ sym (ap (λ (es : List ℕ). crossings c.args.self.now.coords.system (c.args.edge / 6) (slice_index es 0) (slice_index es 1)) c.edge_ends-lower.ensures.ends)

pub returns : goal.returns
returns c = c.sum_at.ensures ∙ ap (λ (cs : List ℕ). capped (sum_by (slice_index c.args.self.now.entries.now) cs)) columns
  where
    columns : c.as_slice.result.now ≡ crossings c.args.self.now.coords.system (c.args.edge / 6) (slice_index (ends (c.args.edge % 6)) 0) (slice_index (ends (c.args.edge % 6)) 1)
    columns = c.as_slice.ensures.value ∙ c.edge_columns-columns.ensures
        ∙ sym (ap (λ (es : List ℕ). crossings c.args.self.now.coords.system (c.args.edge / 6) (slice_index es 0) (slice_index es 1)) c.edge_ends-lower.ensures.ends)
