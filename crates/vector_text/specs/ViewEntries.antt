-- The entries of a view of a vector.
use Rattle.std.specs.Prelude.{ℕ, List}
use Rattle.vector_text.specs.declared.view.EntryView.{EntryView}
use Rattle.vector_text.specs.declared.view.EntryView.TheVariants.{Bytes, Wide}

-- the entries as a list of numbers, whether stored in 8 or in 128 bits
abbrev pub view_numbers : EntryView → List ℕ
view_numbers (Bytes bytes) = bytes.now
view_numbers (Wide wide) = wide.now
