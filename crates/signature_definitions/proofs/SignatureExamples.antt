-- Spellings and signatures, computed.
use Rattle.std.proofs.Common.{◌≡◌, ℕ, true, false, List, [], ◌∷◌, length, map, Option, Some, None, Ok, Err, refl}
use Rattle.std.specs.Prelude.{codes, filter, is_none, option_map, if◌then◌else◌}
use Rattle.std.specs.Option.{option_flatten}
use Rattle.std.specs.List.{list_any}
use Rattle.table_definitions.specs.Lists.{below, same_list, is_list_before, first_some}
use Rattle.table_definitions.specs.Permutation.{four, words}
use Rattle.table_definitions.specs.Table.{Gluing, Row, Face, glue, faces, same_face}
use Rattle.table_definitions.specs.Relabelling.{Relabelling, relabelled_place, face_under, gluing_under}
use Rattle.signature_definitions.specs.WalkOrder.{first_unordered}
use Rattle.signature_definitions.specs.Spelling.{spelling}
use Rattle.signature_definitions.specs.declared.SigFault.TheVariants as sig_faults
use Rattle.signature_definitions.specs.declared.SigFault.TheVariants.{BadChar, Short, BadType, Leftover, Destination, FaceTaken, Trailing, TooMany, Unreached, Width}
use Rattle.signature_definitions.specs.SignatureText.{signature_table}
use Rattle.signature_definitions.proofs.Computed.{computed}
use Rattle.table_definitions.proofs.Tables.{sphere, other_sphere, table_gb, table_jj, table_id, figure_eight, four_tets, by}

spellings : (spelling sphere ≡ codes "bkaagj") × (spelling other_sphere ≡ codes "bkaagn") × (spelling table_gb ≡ codes "bkaagb")
    × (spelling table_jj ≡ codes "bkaajj") × (spelling table_id ≡ codes "bkaaid") × (spelling figure_eight ≡ codes "cPcbbbiht") × (spelling [] ≡ codes "a")
unfolding computed
spellings = (refl, refl, refl, refl, refl, refl, refl)

read_again : (signature_table (codes "bkaagj") ≡ Ok sphere) × (signature_table (codes "bkaaid") ≡ Ok table_id)
    × (signature_table (codes "cPcbbbiht") ≡ Ok figure_eight) × (signature_table (codes "a") ≡ Ok [])
unfolding computed
read_again = (refl, refl, refl, refl)

ordered : (first_unordered figure_eight ≡ None) × (first_unordered four_tets ≡ Some (record { tet = 0; face = 1 }))
unfolding computed
ordered = (refl, refl)

faults : (signature_table (codes "bkaag") ≡ Err (Short 5)) × (signature_table (codes "bkaagjx") ≡ Err (Trailing 6)) × (signature_table (codes "blaagj") ≡ Err (BadType 1))
    × (signature_table (codes "bAaagj") ≡ Err (Leftover 1)) × (signature_table (codes "bkbagj") ≡ Err (Destination 2)) × (signature_table (codes "bkaayj") ≡ Err (sig_faults.Gluing 4))
    × (signature_table (codes "bkaaga") ≡ Err (FaceTaken 5)) × (signature_table (codes "cQc") ≡ Err Unreached) × (signature_table (codes "b.aagj") ≡ Err (BadChar 1))
unfolding computed
faults = (refl, refl, refl, refl, refl, refl, refl, refl, refl)

-- texts of 63 and more tetrahedra
long_faults : (signature_table (codes "-") ≡ Err (Short 1)) × (signature_table (codes "-a") ≡ Err (Width 1)) × (signature_table (codes "-b") ≡ Err (Short 2))
    × (signature_table (codes "-b9") ≡ Err (Width 1)) × (signature_table (codes "-cba") ≡ Err (Width 1)) × (signature_table (codes "-c-a") ≡ Err (Width 1))
    × (signature_table (codes "-d") ≡ Err TooMany) × (signature_table (codes "-c+p") ≡ Err TooMany) × (signature_table (codes "-cOp") ≡ Err (Short 4))
unfolding computed
long_faults = (refl, refl, refl, refl, refl, refl, refl, refl, refl)

-- the image of a table of one tetrahedron under a relabelling
carried_face : Relabelling → List Row → Face → Face → Option (Option Gluing)
carried_face by rows y x =
    if same_face (face_under (relabelled_place by x.tet) x) y then Some (option_map (λ g. gluing_under (relabelled_place by x.tet) (relabelled_place by g.tet) g) (glue rows x)) else None

relabelled : Relabelling → List Row → List Row
relabelled by rows = map (λ t. map (λ f. option_flatten (first_some (carried_face by rows (record { tet = t; face = f })) (faces (length rows)))) four) (below (length rows))

-- the texts of all walk-ordered tables to which one tetrahedron can be relabelled
texts : List Row → List (List ℕ)
texts rows = map spelling (filter (λ new. is_none (first_unordered new)) (map (λ p. relabelled (record { images = 0 ∷ []; perms = p ∷ [] }) rows) words))

-- `bkaagj` is the least text of both spheres: it is one of the texts, and none is before it
least : (list_any (same_list (codes "bkaagj")) (texts other_sphere) ≡ true) × (list_any (λ text. is_list_before text (codes "bkaagj")) (texts other_sphere) ≡ false)
    × (list_any (same_list (codes "bkaagj")) (texts sphere) ≡ true) × (list_any (λ text. is_list_before text (codes "bkaagj")) (texts sphere) ≡ false)
    × (list_any (same_list (codes "bkaagb")) (texts table_gb) ≡ true) × (list_any (λ text. is_list_before text (codes "bkaagb")) (texts table_gb) ≡ false)
unfolding computed carried_face relabelled texts
least = (refl, refl, refl, refl, refl, refl)
