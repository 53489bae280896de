-- A face of type 2, whose tetrahedron is seen or not.
use Rattle.std.proofs.Common.{◌≡◌, ℕ, ◌<◌, ◌≤◌, Bool, true, false, List, [], ◌∷◌, length, drop, refl, sym, ap, ◌∙◌, subst₂, arith, length-drop}
use Rattle.std.specs.Prelude.{Result, Err, Ok, All, is_some, ◌||◌}
use Rattle.std.specs.List.{slice_index_or}
use Rattle.std.proofs.lemmas.Bool.{le-leb, lt-leb}
use Rattle.table_definitions.specs.Lists.{times_in}
use Rattle.table_definitions.specs.Permutation.{words}
use Rattle.table_definitions.specs.Table.{Gluing, Face, other_side, same_face}
use Rattle.signature_definitions.specs.declared.SigFault.{SigFault}
use Rattle.signature_definitions.specs.declared.SigFault.TheVariants as sig_faults
use Rattle.signature_definitions.specs.SignatureText as signatures
use Rattle.signature_text_laws.specs.Slots.{Slots, slot, meet_at, slot_glued, slot_seen}
use Rattle.signature_text_laws.proofs.SlotLaws.{times-same}
use Rattle.signature_codec.specs.Views.{glued_at}

-- the destination and the gluing are the next ones
module _ (x : Face) (s : Slots) (d i : ℕ × ℕ) (d_is : d ≡ signatures.first_pair s.parts.destinations) (i_is : i ≡ signatures.first_pair s.parts.gluings) where
  abbrev used : Slots
  used = record s { parts = record s.parts { destinations = drop 1 s.parts.destinations; gluings = drop 1 s.parts.gluings } }

  abbrev glue : Gluing
  glue = record { tet = d.0; perm = slice_index_or words i.0 [] }

  abbrev taken_by : Face → Bool
  taken_by other = same_face other x || is_some (slot s.read_faces other)

  abbrev taken : Bool
  taken = taken_by (other_side x glue)

  read : slot_seen x s ≡ slot_glued x d i used
  read = subst₂ (λ e j. slot_seen x s ≡ slot_glued x e j used) (sym d_is) (sym i_is) refl

  abbrev joined : Result Slots SigFault
  joined = Ok (record used { read_faces = meet_at s.read_faces x glue })

  pub too_far : s.seen ≤ d.0 → slot_seen x s ≡ Err (sig_faults.Destination d.1)
  too_far far = read ∙ ap (λ wrong. signatures.unless wrong (sig_faults.Destination d.1) (signatures.unless taken (sig_faults.FaceTaken i.1) joined)) (le-leb s.seen d.0 far)

  -- the tetrahedron is seen, and `other` is the other side of the gluing
  module _ (near : d.0 < s.seen) (p : List ℕ) (other : Face) (p_is : p ≡ slice_index_or words i.0 []) (other_is : other ≡ other_side x (record { tet = d.0; perm = p })) where
    seen : slot_seen x s ≡ signatures.unless taken (sig_faults.FaceTaken i.1) joined
    seen = read ∙ ap (λ wrong. signatures.unless wrong (sig_faults.Destination d.1) (signatures.unless taken (sig_faults.FaceTaken i.1) joined)) (lt-leb s.seen d.0 near)

    made : other ≡ other_side x glue
    made = other_is ∙ ap (λ q. other_side x (record { tet = d.0; perm = q })) p_is

    pub face_taken : taken_by other ≡ true → slot_seen x s ≡ Err (sig_faults.FaceTaken i.1)
    face_taken h = seen ∙ ap (λ wrong. signatures.unless wrong (sig_faults.FaceTaken i.1) joined) (sym (ap taken_by made) ∙ h)

    pub face_met : taken_by other ≡ false → slot_seen x s ≡ Ok (glued_at s x (record { tet = d.0; perm = p }))
    face_met h =
        seen ∙ ap (λ wrong. signatures.unless wrong (sig_faults.FaceTaken i.1) joined) (sym (ap taken_by made) ∙ h)
        ∙ ap (λ q. Ok (record used { read_faces = meet_at s.read_faces x (record { tet = d.0; perm = q }) })) (sym p_is)

-- if type 2 was used, a destination and a gluing remain
pub some_left : (u : ℕ) (types : List ℕ) (ps : List (ℕ × ℕ)) → length (drop u ps) ≡ times_in (2 ∷ types) 2 → u < length ps
some_left u types ps h = omega (arith, times-same 2 types, length-drop u ps)

pub first_small : (ps : List (ℕ × ℕ)) → All (λ (i : ℕ × ℕ). i.0 < 24) ps → (signatures.first_pair ps).0 < 24
first_small [] h = omega arith
first_small (p ∷ ps) h = h 0 (0, 0) (omega arith)

-- if one test fails, the next one decides
pub or_next : (a b r : Bool) → a ≡ false → b ≡ r → (a || b) ≡ r
or_next a b r h k = ap (λ q. q || b) h ∙ k
