-- A boundary face, with its arcs.
use Rattle.std.proofs.Common.{◌<◌, ◌≤◌, sym, subst}
use Rattle.std.proofs.lemmas.Bool.{ltb-true, ltb-false}
use Rattle.surface_properties.proofs.CappedSums.{capped_some, capped_none}
use Rattle.surface_properties.proofs.vectors.VectorFace.has_free_arcs.Goals as goal

pub returns-in-None-clause-some : goal.returns-in-None-clause-some
returns-in-None-clause-some c = λ t. (sym c.in-None.ensures.value, capped_some _ (subst (λ n. 0 < n) c.arcs_in.ensures (ltb-true 0 c.arcs_in.result t)))

pub returns-in-None-clause-none : goal.returns-in-None-clause-none
returns-in-None-clause-none c = λ t free. capped_none _ (subst (λ n. n ≤ 0) c.arcs_in.ensures (ltb-false 0 c.arcs_in.result t))
