-- The signature determines whether the table is standard.
use Rattle.std.proofs.Common.{◌≡◌, List, ℕ, subst}
use Rattle.std.specs.Prelude.{◌↔◌, true}
use Rattle.certificate_definitions.specs.Answers.{sphere_text}
use Rattle.sphere_certificate.proofs.Descents.{told_by_text}
use Rattle.sphere_certificate.proofs.descending.is_standard.Goals as goal

pub returns-in-Ok : goal.returns-in-Ok
returns-in-Ok c =
    told_by_text c.args.table.now c.in-Ok.text.items c.is_sphere.result c.len.ensures.is_table c.in-Ok.ensures.signature
    (subst (λ (text : List ℕ). (c.is_sphere.result ≡ true) ↔ (text ≡ sphere_text)) c.deref.ensures.value c.is_sphere.ensures)
