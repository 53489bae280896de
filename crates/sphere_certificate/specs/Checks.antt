-- The errors of a check.
use Rattle.std.specs.Prelude.{ℕ, List, Vec}
use Rattle.std.specs.declared.alloc.Global.{Global}
use Rattle.certificate_definitions.specs.declared.CheckFault.{CheckFault}
use Rattle.certificate_definitions.specs.declared.CheckFault.TheVariants.{Illegal, NotConnected, NotStandard}

-- the error, with its signature as the list of its bytes
abbrev pub reported : CheckFault (Vec ℕ Global) → CheckFault (List ℕ)
reported (Illegal step fault) = Illegal step fault
reported (NotConnected t) = NotConnected t
reported (NotStandard text) = NotStandard text.items
