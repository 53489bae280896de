-- The lemmas are the laws.
use Rattle.table_walk_laws.proofs.OrbitLemmas.{orbit_exists, one_orbit, orbit_holds_reached}
use Rattle.table_walk_laws.proofs.orbits.Goals as goal

pub returns : goal.returns
returns c = record {
  exists = λ n step start. orbit_exists step start n;
  only_one = one_orbit;
  holds = orbit_holds_reached;
}
