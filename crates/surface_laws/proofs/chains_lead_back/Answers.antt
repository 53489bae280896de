-- A chain can be read backwards, and no chain returns to its first face.
use Rattle.surface_laws.proofs.ChainsBack.{IsReadBack, chain_back}
use Rattle.surface_laws.proofs.NoReturn.{chain_elsewhere}
use Rattle.surface_laws.proofs.chains_lead_back.Goals as goal

pub returns : goal.returns
returns c = λ rows xs x e table k d.
    let b : IsReadBack rows xs x e = chain_back rows xs x e table k d in
    record { permutes = b.permutes; kept_there = b.kept_there; back = b.back; elsewhere = chain_elsewhere rows xs table x e k.face d }
