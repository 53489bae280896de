-- Readers that may be called at the end of a line.
use Rattle.std.specs.Prelude.{◌≡◌, ◌≢◌, [], Option, Some, None, Result, Ok, Err}
use Rattle.text_definitions.specs.declared.LexFault.{LexFault}
use Rattle.text_definitions.specs.Reading.{Reading}

-- What a call at old returned, as view sees it, and what it left. It is None and old if no token of the line is left,
-- and otherwise the value or the error that read is. At an error nothing is said of what is left.
abbrev pub GivesOrEnds : {X A : Type 0} → (X → A) → Result (Option X) LexFault → Reading → Reading → Result (A × Reading) LexFault → Type 0
GivesOrEnds view (Ok None) old left read = (old.current.tokens ≡ []) × (left ≡ old)
GivesOrEnds view (Ok (Some x)) old left read = (old.current.tokens ≢ []) × (read ≡ Ok (view x, left))
GivesOrEnds view (Err e) old left read = (old.current.tokens ≢ []) × (read ≡ Err e)
