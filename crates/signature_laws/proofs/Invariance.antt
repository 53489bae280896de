-- What relabellings keep: tables, and whether they are connected.
use Rattle.std.proofs.Common.{◌≡◌, ℕ, List, [], ◌∷◌, length, Some, refl, sym, ap, ◌∙◌, subst, arith}
use Rattle.std.specs.Prelude.{option_map, slice_index}
use Rattle.std.specs.List.{slice_index_or}
use Rattle.table_definitions.specs.Permutation.{image}
use Rattle.table_definitions.specs.Table.{Row, Face, IsTable, glue}
use Rattle.table_definitions.specs.Places.{Place, whole, across, along, IsJoined, IsConnected}
use Rattle.table_definitions.specs.Relabelling.{Relabelling, IsRelabelling, AreIsomorphic, Carries, relabelled_place, gluing_under}
use Rattle.table_definitions.proofs.TableLaws.{glued_face, glued_tet}
use Rattle.table_definitions.proofs.ChainLaws.{kept_along, joined_refl, joined_trans, crossed}
use Rattle.table_definitions.proofs.Carried.{comes_from, carried_is_table}
use Rattle.signature_laws.specs.Between.{inverted, after}
use Rattle.signature_laws.proofs.Back.{inverted_relabelling, carries_back, after_relabelling, carries_on}

pub relabels_back : (rows new : List Row) → IsTable rows → AreIsomorphic rows new → AreIsomorphic new rows
relabels_back rows new table r = (
  inverted (length rows) r.0,
  subst (λ m. IsRelabelling m (inverted (length rows) r.0)) (sym r.2.same_length) (inverted_relabelling (length rows) r.0 r.1),
  carries_back rows new r.0 table r.1 r.2,
)

pub relabels_on : (rows next last : List Row) → IsTable rows → AreIsomorphic rows next → AreIsomorphic next last → AreIsomorphic rows last
relabels_on rows next last table a b =
    let second : IsRelabelling (length rows) b.0 = subst (λ m. IsRelabelling m b.0) a.2.same_length b.1 in (
      after (length rows) b.0 a.0,
      after_relabelling (length rows) b.0 a.0 second a.1,
      carries_on rows next last b.0 a.0 table second a.1 a.2 b.2,
    )

pub relabels_table : (rows new : List Row) → IsTable rows → AreIsomorphic rows new → IsTable new
relabels_table rows new table r = carried_is_table rows new r.0 table r.1 r.2

-- the images of the tetrahedra along a chain are joined
module _ (rows new : List Row) (by : Relabelling) (table : IsTable rows) (c : Carries by rows new) where
  abbrev Led : Place → Place → Type 0
  Led start p = (p.vertices ≡ []) × IsJoined new (whole (slice_index by.images start.tet)) (whole (slice_index by.images p.tet))

  led_on : (start p : Place) (f : ℕ) (q : Place) → Led start p → across rows p f ≡ Some q → Led start q
  led_on start p f q h e =
      let s = crossed rows p f q h.0 e in
      let x : Face = record { tet = p.tet; face = f } in
      let f' : ℕ = image (slice_index_or by.perms p.tet []) f in
      let there : glue new (record { tet = slice_index by.images p.tet; face = f' }) ≡ Some (gluing_under (relabelled_place by p.tet) (relabelled_place by s.g.tet) s.g) =
      c.glued x (glued_tet rows x s.g s.glued) (glued_face rows x s.g table.four_faces s.glued) ∙ ap (option_map (λ k. gluing_under (relabelled_place by p.tet) (relabelled_place by k.tet) k)) s.glued in
      let step : along new (whole (slice_index by.images p.tet)) (f' ∷ []) ≡ Some (whole (slice_index by.images s.g.tet)) = rw there refl in
      (s.bare, joined_trans new (whole (slice_index by.images start.tet)) (whole (slice_index by.images p.tet)) (whole (slice_index by.images q.tet)) h.1 (f' ∷ [], step ∙ ap (λ t. Some (whole (slice_index by.images t))) s.to))

  pub led : (t u : ℕ) → IsJoined rows (whole t) (whole u) → IsJoined new (whole (slice_index by.images t)) (whole (slice_index by.images u))
  led t u j = (kept_along rows (Led (whole t)) (led_on (whole t)) j.0 (whole t) (whole u) (refl, joined_refl new (whole (slice_index by.images t))) j.1).1

pub relabels_connected : (rows new : List Row) → IsTable rows → AreIsomorphic rows new → IsConnected rows → IsConnected new
relabels_connected rows new table r connected t u lt lu =
    let same = r.2.same_length in
    let a = comes_from (length rows) r.0 r.1 t (omega (arith, same)) in
    let b = comes_from (length rows) r.0 r.1 u (omega (arith, same)) in
    let j = led rows new r.0 table r.2 a.0 b.0 (connected a.0 b.0 a.1 b.1) in
    subst (λ v. IsJoined new (whole t) (whole v)) b.2 (subst (λ v. IsJoined new (whole v) (whole (slice_index r.0.images b.0))) a.2 j)
