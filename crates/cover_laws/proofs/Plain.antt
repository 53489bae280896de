-- Relabellings that keep all vertices.
use Rattle.std.proofs.Common.{◌≡◌, ℕ, zero, suc, ◌+◌, ◌<◌, List, ◌∷◌, length, map, replicate, All, Option, Some, None, option_map, subst, sym, ap, ap₂, refl, ◌∙◌}
use Rattle.std.specs.List.{range_with_len}
use Rattle.table_definitions.specs.Lists.{below}
use Rattle.table_definitions.specs.Permutation.{IsPermutationOfFour, compose, identity}
use Rattle.table_definitions.specs.Table.{Gluing, Row, Face, glue}
use Rattle.table_definitions.specs.Relabelling.{Relabelling, IsRelabelling, Carries, relabelled_place, face_under, gluing_under}
use Rattle.table_definitions.proofs.Permutations.{compose-identity, identity-compose, identity_permutes, inverse-identity, image-identity}
use Rattle.signature_laws.specs.Between.{made}
use Rattle.signature_laws.proofs.Standing.{made_stands, made_relabelling}

map-same : (n a : ℕ) → map (λ (_ : ℕ). identity) (range_with_len a n) ≡ replicate n identity
map-same zero a = refl
map-same (suc n) a = ap (λ ps. identity ∷ ps) (map-same n (a + 1))

-- tetrahedron t maps to f t, and its vertices keep their numbers
abbrev pub by_numbers : ℕ → (ℕ → ℕ) → Relabelling
by_numbers n f = record { images = map f (below n); perms = replicate n identity }

stands_plain : (ℕ → ℕ) → ℕ → Gluing
stands_plain f t = record { tet = f t; perm = identity }

plain_is_made : (n : ℕ) (f : ℕ → ℕ) → made n (stands_plain f) ≡ by_numbers n f
unfolding made stands_plain
plain_is_made n f = ap (λ ps. record { images = map f (below n); perms = ps }) (map-same n 0)

-- the gluing to the image of its tetrahedron
abbrev pub moved_to : (ℕ → ℕ) → Gluing → Gluing
moved_to f g = record { tet = f g.tet; perm = g.perm }

module _ (old new : List Row) (f : ℕ → ℕ) (small : (t : ℕ) → t < length old → f t < length old) (separate : (t u : ℕ) → t < length old → u < length old → f t ≡ f u → t ≡ u)
    (same_length : length new ≡ length old) (four_faces : All (λ (row : Row). length row ≡ 4) new)
    (permutes : (x : Face) (g : Gluing) → glue old x ≡ Some g → IsPermutationOfFour g.perm) (in_range : (x : Face) (g : Gluing) → glue old x ≡ Some g → g.tet < length old)
    (moved : (t v : ℕ) → t < length old → glue new (record { tet = f t; face = v }) ≡ option_map (moved_to f) (glue old (record { tet = t; face = v }))) where
  pub plain_relabelling : IsRelabelling (length old) (by_numbers (length old) f)
  unfolding stands_plain
  plain_relabelling = subst (IsRelabelling (length old)) (plain_is_made (length old) f)
      (made_relabelling (length old) (stands_plain f) (record { in_range = small; separate = separate; permutes = λ t l. identity_permutes }))

  abbrev whole : Relabelling
  whole = made (length old) (stands_plain f)

  occurs : (t : ℕ) → t < length old → relabelled_place whole t ≡ stands_plain f t
  occurs t l = made_stands (length old) (stands_plain f) t l

  plain_under : (t u : ℕ) (g : Gluing) → IsPermutationOfFour g.perm → gluing_under (stands_plain f t) (stands_plain f g.tet) g ≡ moved_to f g
  unfolding stands_plain
  plain_under t u g h = ap (λ p. record { tet = f g.tet; perm = compose identity (compose g.perm p) }) inverse-identity
      ∙ ap (λ p. record { tet = f g.tet; perm = compose identity p }) (compose-identity g.perm h) ∙ ap (λ p. record { tet = f g.tet; perm = p }) (identity-compose g.perm h)

  plain_glued : (x : Face) → x.tet < length old → x.face < 4 → glue new (face_under (relabelled_place whole x.tet) x) ≡ option_map (λ g. gluing_under (relabelled_place whole x.tet) (relabelled_place whole g.tet) g) (glue old x)
  unfolding stands_plain
  plain_glued x lt lf = ap (λ (b : Gluing). glue new (face_under b x)) (occurs x.tet lt) ∙ ap (λ v. glue new (record { tet = f x.tet; face = v })) (image-identity x.face lf)
      ∙ moved x.tet x.face lt ∙ cases (glue old x) refl
    where
      cases : (o : Option Gluing) → glue old x ≡ o → option_map (moved_to f) (glue old x) ≡ option_map (λ (g : Gluing). gluing_under (relabelled_place whole x.tet) (relabelled_place whole g.tet) g) (glue old x)
      cases None e = rw e refl
      cases (Some g) e = rw e (ap (λ (b : Gluing). Some b) (sym (plain_under x.tet x.tet g (permutes x g e)) ∙ ap₂ (λ (b c : Gluing). gluing_under b c g) (sym (occurs x.tet lt)) (sym (occurs g.tet (in_range x g e)))))

  pub plain_carries : Carries (by_numbers (length old) f) old new
  plain_carries = subst (λ (by : Relabelling). Carries by old new) (plain_is_made (length old) f) (record { same_length = same_length; four_faces = four_faces; glued = plain_glued })
