-- A table with the signature of the standard sphere is isomorphic to it.
use Rattle.std.proofs.Common.{◌∙◌, sym}
use Rattle.certificate_laws.proofs.Checked.{text_standard}
use Rattle.sphere_certificate.proofs.checking.judge.Goals as goal

pub returns-in-Ok-clause-standard : goal.returns-in-Ok-clause-standard
returns-in-Ok-clause-standard c =
    text_standard c.args.last.now c.in-Ok.text.items c.requires c.in-Ok.ensures.signature (sym c.deref.ensures.value ∙ c.is_sphere.ensures.0 c.if-is_sphere.true)
