-- The lists printed in standard, quad and octagon coordinates agree, and `verify` finds solutions in them.
use Rattle.std.proofs.Common.{◌≡◌, ℕ, List, ◌++◌, length, map, filter, All, Contains, sym, ap, ◌∙◌, subst}
use Rattle.std.specs.List.{AllZip, slice_index_or}
use Rattle.std.proofs.lemmas.List.Elements.{All-contains, All-contains_itself, Contains-get_or}
use Rattle.cone_definitions.specs.Rows.{Row as EquationRow}
use Rattle.cone_definitions.specs.Surfaces.{IsVertexSurface}
use Rattle.table_definitions.specs.Table.{Row}
use Rattle.table_definitions.specs.TableText.{table_text}
use Rattle.table_definitions.proofs.Listed.{among_contains, contains_among}
use Rattle.surface_definitions.specs.Coordinates.{columns, clash_list}
use Rattle.surface_definitions.specs.declared.Coords.TheVariants.{Standard, Quad, Octagon}
use Rattle.surface_definitions.specs.Equations.{matching_rows}
use Rattle.surface_definitions.proofs.OneSystem.{one_equations}
use Rattle.skeleton_definitions.specs.Skeleton.{Skeleton, IsSkeleton}
use Rattle.surface_laws.specs.LiftLaws.{IsLiftOf}
use Rattle.surface_laws.specs.PieceLaws.{IsSurface}
use Rattle.text_document_definitions.specs.Documents.{vectors_document}
use Rattle.command_definitions.specs.declared.Request.TheVariants.{Verify}
use Rattle.outcome_definitions.specs.Answers.{verify_outcome, IsVerdictsAnswer}
use Rattle.outcome_answer_laws.proofs.Asked.{answer_to, answer_to_value}
use Rattle.outcome_written_laws.proofs.Verdicts.{surfaces_are_solutions, solutions_are_told}
use Rattle.skeleton_laws.proofs.Skeletons.{some_skeleton}
use Rattle.surface_agreement_laws.specs.VertexSurfaces.{IsVertexSurfaceBy, IsSurfaceListBy, in_octagons, has_no_octagon}
use Rattle.surface_agreement_laws.proofs.LiftedSurfaces.{lift_vertex}
use Rattle.surface_agreement_laws.proofs.Lists.{lists_agree}
use Rattle.outcome_laws.proofs.Certified.{table_alone}
use Rattle.outcome_written_laws.specs.Surfaces.{IsReadAsSurfaces, IsSolutionUnlessLarge}
use Rattle.outcome_written_laws.specs.Lifts.{IsReadAsLifts}
use Rattle.outcome_written_laws.proofs.Surfaces.{surfaces_are_read_lem}
use Rattle.outcome_written_laws.proofs.Lifts.{lifts_are_read_lem}
use Rattle.outcome_list_laws.specs.Runs.{LiftRun, IsLiftRun}
use Rattle.outcome_list_laws.specs.Lists.{LiftedInputsAreListed, LiftedListsAreListed, ListedInputsAreVerified, LiftedInputsAreVerified, OctagonListsHaveStandard}
use Rattle.outcome_list_laws.proofs.Runs.{read_or, listed_by, listed_of}
use Rattle.outcome_list_laws.proofs.ReadLists.{list_by, list_of, equations_of}
use Rattle.outcome_list_laws.proofs.Zipped.{zip_back}

-- the lifts that a run prints are those of its vectors, and surfaces
pub record AreLiftsRead (rows : List Row) (r : LiftRun) : Type 0 where
  pub skeleton : Skeleton
  pub of_rows : skeleton.rows ≡ rows
  pub is_skeleton : IsSkeleton skeleton
  pub are : AllZip (IsLiftOf skeleton) r.run.vectors r.lifts
  pub surfaces : All (IsSurface rows Standard) r.lifts

pub run_lifts : (rows : List Row) (r : LiftRun) → IsLiftRun rows r → AreLiftsRead rows r
run_lifts rows r is =
    let read : IsReadAsLifts rows r.run.vectors r.run.outcome.text = lifts_are_read_lem r.run.words r.run.input r.run.outcome rows r.run.vectors is.done.asked is.done.read is.done.done in
    let same : read.lifts ≡ r.lifts = ap (read_or read.lifts) (sym read.read ∙ is.printed) in
    record {
      skeleton = read.skeleton;
      of_rows = read.of_rows;
      is_skeleton = read.is_skeleton;
      are = subst (AllZip (IsLiftOf read.skeleton) r.run.vectors) same read.are;
      surfaces = subst (All (IsSurface rows Standard)) same read.surfaces;
    }

-- the lifts of vectors of the quad list are in the standard list
pub lifted_inputs_lem : LiftedInputsAreListed
lifted_inputs_lem rows quads standard r listed all is among i d l =
    let lift : List ℕ = slice_index_or r.lifts i d in
    let lifts : AreLiftsRead rows r = run_lifts rows r is in
    let s : Skeleton = lifts.skeleton in
    let m = zip_back (IsLiftOf s) r.run.vectors r.lifts lifts.are lift (among_contains lift r.lifts (Contains-get_or r.lifts i d l)) in
    let by = listed_by Quad rows quads listed in
    let surfaces : IsSurfaceListBy s Quad by.0 quads = list_by s Quad rows lifts.of_rows by.0 quads by.1.surfaces in
    let vertex = All-contains (IsVertexSurfaceBy s Quad by.0) quads m.0 surfaces.vertex_surfaces (All-contains (Contains quads) r.run.vectors m.0 among (contains_among m.0 r.run.vectors m.1)) in
    let equations = equations_of s Quad rows lifts.of_rows by.0 quads by.1.surfaces by.1.of_table in
    (listed_of Standard rows standard all s lifts.of_rows tt).complete lift (lift_vertex s lifts.is_skeleton by.0 equations m.0 lift vertex m.2)

pub lifted_lists_lem : LiftedListsAreListed
lifted_lists_lem words lifting asked bytes more quads lifts standard order other most greatest rows listed spelled done lifted finished all again ended =
    let q : IsReadAsSurfaces Quad rows quads.text = surfaces_are_read_lem words bytes quads Quad order most rows listed spelled done in
    let z : IsReadAsSurfaces Standard rows standard.text = surfaces_are_read_lem asked more standard Standard other greatest rows all again ended in
    let l : IsReadAsLifts rows q.list lifts.text = lifts_are_read_lem lifting (table_text rows ++ quads.text) lifts rows q.list lifted q.read finished in
    record {
      vectors = l.lifts;
      read = l.read;
      list = z.list;
      list_read = z.read;
      among = lifted_inputs_lem rows q.list z.list (record { run = record { words = lifting; input = table_text rows ++ quads.text; vectors = q.list; outcome = lifts }; lifts = l.lifts })
          (record { words = words; input = bytes; order = order; most = most; outcome = quads; asked = listed; read = spelled; done = done; printed = q.read })
          (record { words = asked; input = more; order = other; most = greatest; outcome = standard; asked = all; read = again; done = ended; printed = z.read })
          (record { done = record { read = q.read; asked = lifted; done = finished }; printed = l.read }) (All-contains_itself q.list);
    }

pub inputs_verified_lem : ListedInputsAreVerified
inputs_verified_lem coords rows list run listed read asked among =
    let by = listed_by coords rows list listed in
    let answer : IsVerdictsAnswer coords (rows, run.vectors) run.outcome =
    answer_to_value (vectors_document run.input) (rows, run.vectors) (IsVerdictsAnswer coords) run.outcome read (answer_to (Verify coords) run.words run.input run.outcome asked) in
    record {
      equations = by.0;
      of_table = by.1.of_table;
      verdicts = λ i d l. surfaces_are_solutions coords rows by.0 _ (All-contains (IsVertexSurface (columns coords (length rows)) by.0 (clash_list coords (length rows))) list (slice_index_or run.vectors i d) by.1.surfaces.vertex_surfaces (among i d l));
      outcome = answer.2 ∙ ap (λ (es : List EquationRow). verify_outcome coords rows es run.vectors) (one_equations coords rows answer.0 by.0 answer.1 by.1.of_table);
    }

pub lifts_verified_lem : LiftedInputsAreVerified
lifts_verified_lem rows r run is read asked among =
    let lifts : AreLiftsRead rows r = run_lifts rows r is in
    let answer : IsVerdictsAnswer Standard (rows, run.vectors) run.outcome =
    answer_to_value (vectors_document run.input) (rows, run.vectors) (IsVerdictsAnswer Standard) run.outcome read (answer_to (Verify Standard) run.words run.input run.outcome asked) in
    record {
      equations = answer.0;
      of_table = answer.1;
      verdicts = λ i d l. (let surface = All-contains (IsSurface rows Standard) r.lifts (slice_index_or run.vectors i d) lifts.surfaces (among i d l) in
          subst (λ (es : List EquationRow). IsSolutionUnlessLarge Standard rows es (slice_index_or run.vectors i d)) (sym answer.1)
          (solutions_are_told Standard rows (matching_rows Standard rows) (slice_index_or run.vectors i d) surface.solves surface.admissible));
      outcome = answer.2;
    }

pub octagon_lists_lem : OctagonListsHaveStandard
octagon_lists_lem words asked bytes more standard octagon order other most greatest rows listed spelled done all again ended =
    let a : IsReadAsSurfaces Standard rows standard.text = surfaces_are_read_lem words bytes standard Standard order most rows listed spelled done in
    let b : IsReadAsSurfaces Octagon rows octagon.text = surfaces_are_read_lem asked more octagon Octagon other greatest rows all again ended in
    let k = some_skeleton rows (table_alone bytes rows spelled) in
    let same : map (in_octagons (length k.0.rows)) a.list ≡ filter has_no_octagon b.list =
    lists_agree k.0 k.2 a.list b.list (list_of k.0 Standard rows k.1 a.equations a.list a.all.surfaces tt a.all.of_table) (list_of k.0 Octagon rows k.1 b.equations b.list b.all.surfaces tt b.all.of_table) in
    record {
      standard = a.list;
      read = a.read;
      octagon = b.list;
      octagon_read = b.read;
      part = subst (λ (r : List Row). map (in_octagons (length r)) a.list ≡ filter has_no_octagon b.list) k.1 same;
    }
