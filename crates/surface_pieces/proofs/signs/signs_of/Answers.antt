-- Signs by the classes of pieces with signs.
use Rattle.std.proofs.Common.{ℕ, ◌*◌, ◌<◌, ◌↔◌, List, length, ap, sym, subst, arith}
use Rattle.table_walk_laws.specs.Joined.{IsJoined, neighbours_of}
use Rattle.table_definitions.specs.Classes.{IsNumbering}
use Rattle.surface_definitions.specs.Pieces.{discs_of, HasSigns}
use Rattle.surface_pieces.specs.declared.joined.SearchKind.TheVariants.{Signed}
use Rattle.surface_pieces.specs.Searches.{stays_at, HasClasses, IsFree}
use Rattle.surface_pieces.proofs.Held.{held}
use Rattle.surface_pieces.proofs.SignsFound.{free_is}
use Rattle.surface_pieces.proofs.signs.signs_of.Goals as goal

pub invariant_of-by-clause-two_each : goal.invariant_of-by-clause-two_each
invariant_of-by-clause-two_each g c =
    let h : HasClasses (Signed c.args.signs) c.args.joined.now.surface.table.now c.args.joined.now.surface.coords.system c.args.joined.now.surface.entries.now c.in_ok-signed.signed.classes.items c.in_ok-signed.signed.count = c.in_ok-signed.ensures in
    omega (arith, ap (λ (ks : List ℕ). length ks) c.deref.ensures.value, (h.numbered).one_each, (h.are).size, (c.requires.components).one_each)

pub returns : goal.returns
returns g c = record {
  size = c.in_ok-free.ensures.size;
  each = λ i l. (
    (λ t. (reported i l).0 (subst (λ (ks : List ℕ). IsFree ks c.args.components.now.classes.items i) c.deref.ensures.value ((c.in_ok-free.ensures.each i l).0 t))),
    (λ h. (c.in_ok-free.ensures.each i l).1 (subst (λ (ks : List ℕ). IsFree ks c.args.components.now.classes.items i) (sym c.deref.ensures.value) ((reported i l).1 h))),
  );
}
  where
    signed : HasClasses (Signed c.args.signs) c.args.joined.now.surface.table.now c.args.joined.now.surface.coords.system c.args.joined.now.surface.entries.now c.in_ok-signed.signed.classes.items c.in_ok-signed.signed.count
    signed = c.in_ok-signed.ensures

    numbered : IsNumbering (2 * length (discs_of c.args.joined.now.surface.entries.now)) (IsJoined (neighbours_of signed.listed)) c.in_ok-signed.signed.classes.items c.in_ok-signed.signed.count
    numbered = subst (λ n. IsNumbering n (IsJoined (neighbours_of signed.listed)) c.in_ok-signed.signed.classes.items c.in_ok-signed.signed.count) (signed.are).size signed.numbered

    reported : (i : ℕ) → i < c.args.components.now.count → IsFree c.in_ok-signed.signed.classes.items c.args.components.now.classes.items i
        ↔ HasSigns c.args.joined.now.surface.table.now c.args.joined.now.surface.coords.system c.args.joined.now.surface.entries.now c.args.components.now.classes.items i (stays_at c.args.signs c.args.joined.now.surface.coords.system c.args.joined.now.surface.entries.now)
    reported = λ i l. free_is c.args.joined.now.surface.table.now c.args.joined.now.surface.coords.system c.args.joined.now.surface.entries.now (held c.args.joined.now.surface.table.now c.args.joined.now.surface.coords.system c.args.joined.now.surface.entries.now c.args.joined.now.surface.normal) c.args.signs
        signed.listed signed.are c.in_ok-signed.signed.classes.items c.in_ok-signed.signed.count numbered c.args.components.now.classes.items c.args.components.now.count c.requires.components i l
