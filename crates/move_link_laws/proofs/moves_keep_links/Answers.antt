-- The lemmas are the laws.
use Rattle.move_link_laws.proofs.ClassesCorrespond.{moves_keep_links_lem}
use Rattle.move_link_laws.proofs.TakenAway.{taken_away_are_spheres, put_in_are_spheres}
use Rattle.move_link_laws.proofs.moves_keep_links.Goals as goal

pub returns : goal.returns
returns c = record { correspond = moves_keep_links_lem; taken_away = taken_away_are_spheres; put_in = put_in_are_spheres }
