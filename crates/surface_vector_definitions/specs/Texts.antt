-- What is written of the vectors of a document, and the line for one that is refused.
use Rattle.std.specs.Prelude.{ℕ, Bool, true, false, List, ◌++◌, length, Err, codes, decimal, sum}
use Rattle.std.specs.Fmt.{signed_decimal}
use Rattle.std.specs.List.{flat_map}
use Rattle.cone_text_definitions.specs.VectorText.{vector_text}
use Rattle.skeleton_definitions.specs.Skeleton.{Skeleton}
use Rattle.surface_definitions.specs.declared.Coords.{Coords}
use Rattle.surface_definitions.specs.Verdict.{verdict_text}
use Rattle.surface_definitions.specs.Characteristic.{points, arcs}
use Rattle.text_definitions.specs.Written.{line, yes_or_no}
use Rattle.surface_vector_definitions.specs.declared.Properties.{Properties}
use Rattle.surface_vector_definitions.specs.declared.SurfaceSum.{SurfaceSum}
use Rattle.surface_vector_definitions.specs.declared.SurfaceSum.TheVariants.{Points, Arcs, PointsAndPieces}
use Rattle.surface_vector_definitions.specs.Properties.{characteristic}
use Rattle.surface_vector_definitions.specs.Components.{Component}
use Rattle.surface_vector_definitions.specs.Answers.{Description}
use Rattle.surface_vector_definitions.specs.declared.Refusal.{Refusal}
use Rattle.surface_vector_definitions.specs.declared.Refusal.TheVariants.{Unfit, LargeSum, TooManyPieces, LargeLift, NoLift}

abbrev pub sides_word : Bool → List ℕ
sides_word true = codes "two"
sides_word false = codes "one"

-- the line of a vector's properties, with the number of its components
abbrev pub properties_line : Properties → ℕ → List ℕ
properties_line p components = line (codes "euler " ++ signed_decimal p.euler ++ codes " linking " ++ yes_or_no p.linking ++ codes " boundary " ++ yes_or_no p.boundary
    ++ codes " components " ++ decimal components)

-- the line of a component, with the Euler characteristic of its vector
abbrev pub component_line : Skeleton → Coords → Component → List ℕ
component_line s coords c = codes "component euler " ++ signed_decimal (characteristic s coords c.vector) ++ codes " sides " ++ sides_word c.two_sided
    ++ codes " orientable " ++ yes_or_no c.orientable ++ codes " " ++ vector_text c.vector

-- the lines of a described vector
unfoldable pub description_text : Skeleton → Coords → Description → List ℕ
description_text s coords d =
    vector_text d.vector ++ properties_line d.properties (length d.components) ++ flat_map (component_line s coords) d.components

-- a line for each lift
unfoldable pub lifts_text : List (List ℕ) → List ℕ
lifts_text lifts = flat_map vector_text lifts

abbrev pub sum_word : SurfaceSum → List ℕ
sum_word Points = codes "points"
sum_word Arcs = codes "arcs"
sum_word PointsAndPieces = codes "points-and-pieces"

-- why a vector is refused, as the end of a line
abbrev pub fault_text : Refusal → List ℕ
fault_text (Unfit fault) = verdict_text (Err fault)
fault_text (LargeSum sum) = line (codes "large-sum " ++ sum_word sum)
fault_text (TooManyPieces n) = line (codes "too-many-pieces " ++ decimal n)
fault_text LargeLift = line (codes "large-lift")
fault_text (NoLift c) = line (codes "no-lift " ++ decimal c)

-- the line for the vector of this number
unfoldable pub refusal_line : ℕ → Refusal → List ℕ
refusal_line v fault = codes "refused: vector " ++ decimal v ++ codes " " ++ fault_text fault

-- the line for the least edge class that is invalid
unfoldable pub invalid_edge_line : ℕ → List ℕ
invalid_edge_line c = line (codes "refused: invalid-edge " ++ decimal c)
