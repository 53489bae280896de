-- Tables and replaced rows, computed.
use Rattle.table_definitions.proofs.Computed.{computed}
use Rattle.std.proofs.Common.{◌≡◌, [], ◌∷◌, None, refl}
use Rattle.table_definitions.specs.Table.{table_fault}
use Rattle.table_definitions.proofs.Tables.{sphere, other_sphere, table_gb, table_jj, table_id, figure_eight, invalid, four_tets, row, free, by}
use Rattle.table_definitions.specs.Replacing.{replaced}

-- the tables of the examples are tables
tables : (table_fault sphere ≡ None) × (table_fault other_sphere ≡ None) × (table_fault table_gb ≡ None) × (table_fault table_jj ≡ None)
    × (table_fault table_id ≡ None) × (table_fault figure_eight ≡ None) × (table_fault invalid ≡ None) × (table_fault four_tets ≡ None)
unfolding computed
tables = (refl, refl, refl, refl, refl, refl, refl, refl)

-- rows of the table of four that are removed and added: without the last one, with it again, and with the first one as
-- the last
replacing : (replaced four_tets (record { removed = 3 ∷ []; fresh = [] })
    ≡ row (by 1 0) (by 2 6) free (by 1 0) ∷ row (by 0 0) (by 2 0) free (by 0 0) ∷ row (by 0 6) (by 1 0) free free ∷ [])
    × (replaced four_tets (record { removed = 3 ∷ []; fresh = (3, row (by 0 12) (by 1 2) (by 2 0) (by 2 12)) ∷ [] }) ≡ four_tets)
    × (replaced four_tets (record { removed = 0 ∷ []; fresh = (3, row (by 0 0) (by 1 6) (by 2 8) (by 0 0)) ∷ [] })
    ≡ row (by 3 0) (by 1 0) (by 2 2) (by 3 0) ∷ row (by 3 6) (by 0 0) (by 2 0) (by 2 8) ∷ row (by 3 12) (by 0 2) (by 1 0) (by 1 12) ∷ row (by 0 0) (by 1 6) (by 2 8) (by 0 0) ∷ [])
unfolding computed
replacing = (refl, refl, refl)
