-- Tables have the same signature if and only if they are isomorphic.
use Rattle.signature_laws.proofs.Uniqueness.{tells_tables}
use Rattle.signature_definitions.proofs.CensusLaws.{census_extends}
use Rattle.signature_laws.proofs.census_extends.Goals as goal

pub returns : goal.returns
returns c = λ tables a classes before text class now are_tables table census signature placed.
    census_extends tells_tables tables a classes before text class now
    (record { are_tables = are_tables; table = table; census = census; signature = signature; placed = placed })
