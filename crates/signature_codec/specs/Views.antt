-- What the calls store and return, as the definitions see it.
use Rattle.std.specs.Prelude.{◌≡◌, ℕ, List, drop, Option, Some, None, Result, Ok, Err}
use Rattle.table_definitions.specs.Table as gluings
use Rattle.table_definitions.specs.Table.{Row, Face}
use Rattle.signature_definitions.specs.declared.SigFault.{SigFault}
use Rattle.signature_definitions.specs.declared.SigFault.TheVariants.{Destination, Gluing}
use Rattle.signature_definitions.specs.SignatureText as signatures
use Rattle.signature_definitions.specs.WalkOrder.{first_unordered, IsWalkOrdered}
use Rattle.signature_definitions.specs.Spelling.{face_types, seen_gluings}
use Rattle.signature_text_laws.specs.Slots.{Slots, meet_at}
use Rattle.signature_text_laws.specs.Walks.{Walking}
use Rattle.signature_codec.specs.declared.numbers.Segment.{Segment}
use Rattle.signature_codec.specs.declared.numbers.Segment.TheVariants.{Destinations, Gluings}
use Rattle.signature_codec.specs.declared.read.Head.{Head}
use Rattle.signature_codec.specs.declared.read.Types.{Types}
use Rattle.signature_codec.specs.declared.read.TypesRead.{TypesRead}
use Rattle.signature_codec.specs.declared.read.Parts.{Parts}
use Rattle.signature_codec.specs.declared.joining.Joining.{Joining}
use Rattle.signature_codec.specs.declared.walk.TraversalSoFar.{TraversalSoFar}
use Rattle.signature_codec.specs.declared.walk.NotOrdered.{NotOrdered}
use Rattle.out_of_memory.specs.declared.Failure.{Failure}
use Rattle.out_of_memory.specs.declared.Failure.TheVariants.{NoMemory, Fault}
use Rattle.out_of_memory.specs.Failures.{IfFault}

-- the error of a number that is not below its bound
abbrev pub fault_of_segment : Segment → ℕ → SigFault
fault_of_segment Destinations at = Destination at
fault_of_segment Gluings at = Gluing at

abbrev pub head_view : Head → signatures.Head
head_view h = record { count = h.count; width = h.width; next = h.next }

abbrev pub types_view : Types → signatures.Types
types_view t = record { read = t.read.items; left = t.left; ones = t.ones }

-- the types, and the position after them
abbrev pub read_after : TypesRead → signatures.Types × ℕ
read_after t = (types_view t.types, t.next)

abbrev pub parts_view : Parts → signatures.Parts
parts_view p = record { types = p.types.items; destinations = p.destinations.items; gluings = p.gluings.items }

-- what a call stores, as the definitions see it
abbrev pub slots_view : Joining → Slots
slots_view j = record {
  read_faces = j.read_faces.items;
  seen = j.seen;
  parts = record { types = drop j.types_used j.parts.now.types.items; destinations = drop j.seen_used j.parts.now.destinations.items; gluings = drop j.seen_used j.parts.now.gluings.items };
}

-- the state after face x is glued by g to a tetrahedron already seen
abbrev pub glued_at : Slots → Face → gluings.Gluing → Slots
glued_at s x g = record s { read_faces = meet_at s.read_faces x g; parts = record s.parts { destinations = drop 1 s.parts.destinations; gluings = drop 1 s.parts.gluings } }

-- what a call stores, as the definitions see it
abbrev pub walk_view : TraversalSoFar → Walking
walk_view w = record { seen = w.seen; types = w.types.items; gluings = w.gluings.items }

-- the face that the error names
abbrev pub named_face : NotOrdered → Face
named_face f = record { tet = f.tet; face = f.face }

-- the call visits face x, or returns that it is not in order
abbrev pub TakesFace : {X : Type 0} → Walking → Face → Result X (Failure NotOrdered) → Option Walking → Type 0
TakesFace new x (Ok u) taken = taken ≡ Some new
TakesFace new x (Err NoMemory) taken = Unit {0}
TakesFace new x (Err (Fault f)) taken = (taken ≡ None) × (named_face f ≡ x)

-- the visit of all faces of rows, which are walk-ordered
pub record IsWholeWalk (rows : List Row) (w : TraversalSoFar) : Type 0 where
  pub ordered : IsWalkOrdered rows
  pub types : w.types.items ≡ face_types rows
  pub gluings : w.gluings.items ≡ seen_gluings rows

-- the face is the first that is not in order
abbrev pub StopsAt : List Row → Failure NotOrdered → Type 0
StopsAt rows failure = IfFault failure (λ f. first_unordered rows ≡ Some (named_face f))
