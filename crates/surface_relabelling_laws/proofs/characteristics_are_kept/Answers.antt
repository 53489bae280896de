-- Tables with the same signature are isomorphic.
use Rattle.std.proofs.Common.{refl}
use Rattle.signature_laws.proofs.Uniqueness.{tells_tables}
use Rattle.surface_relabelling_laws.specs.Vectors.{relabelled_vector}
use Rattle.surface_relabelling_laws.proofs.Columns.{relabelled_is}
use Rattle.surface_relabelling_laws.proofs.Efficiency.{surface_carried, euler_relabelled, characteristics_permute}
use Rattle.surface_relabelling_laws.proofs.PropertiesKept.{properties_kept}
use Rattle.surface_relabelling_laws.proofs.characteristics_are_kept.Goals as goal
use Rattle.std.specs.Prelude.{length}

pub returns : goal.returns
returns c = record {
  surfaces = λ coords rows new by xs relabels s.
      surface_carried rows new by s.table relabels.0 relabels.1 coords s.triangles xs (relabelled_vector coords by xs) (relabelled_is coords (length rows) by relabels.0 xs s.solves.width) s;
  each = λ s other coords by xs k k' relabels surface. euler_relabelled s other k k' by relabels.0 relabels.1 coords surface.triangles xs surface;
  properties = λ s other coords by xs p k k' relabels surface h. properties_kept s other k k' by relabels.0 relabels.1 coords xs surface p h;
  isomorphic = λ s other coords list listed k k' h isomorphic one two. characteristics_permute s other coords list listed k k' h isomorphic one two;
  signature = λ s other coords text list listed k k' h a b one two.
      characteristics_permute s other coords list listed k k' h ((tells_tables s.rows other.rows text text k.table k'.table a b).0 refl) one two;
}
