-- One run of `describe` on all listed surfaces decides what parts of them do.
use Rattle.std.proofs.Common.{◌≡◌, ℕ, List, [], ◌∷◌, ◌++◌, map, Ok, All, sym, ap, ◌∙◌, subst, append-nil}
use Rattle.std.proofs.lemmas.List.Elements.{All-nil, All-cons, All-contains_itself}
use Rattle.table_definitions.specs.Table.{Row}
use Rattle.table_definitions.specs.TableText.{table_text}
use Rattle.skeleton_definitions.specs.Skeleton.{Skeleton}
use Rattle.surface_definitions.specs.declared.Coords.{Coords}
use Rattle.surface_definitions.specs.declared.Coords.TheVariants.{Octagon}
use Rattle.surface_vector_definitions.specs.Answers.{Description}
use Rattle.command_definitions.specs.declared.Request.TheVariants.{Describe}
use Rattle.outcome_definitions.specs.declared.Status.TheVariants.{Done}
use Rattle.outcome_definitions.specs.Outcomes.{Outcome}
use Rattle.outcome_definitions.specs.Vectors.{describe_outcome}
use Rattle.surface_agreement_laws.specs.VertexSurfaces.{IsSurfaceListOf}
use Rattle.outcome_answer_laws.specs.Requests.{IsOutcomeTo}
use Rattle.outcome_written_laws.specs.Surfaces.{IsReadAsSurfaces}
use Rattle.outcome_written_laws.proofs.Surfaces.{surfaces_are_read_lem}
use Rattle.outcome_written_laws.proofs.Joined.{joined_are_read_lem}
use Rattle.outcome_list_laws.specs.Runs.{IsListInput, ListRun, IsDoneRun, HaveSameVectors, vectors_of}
use Rattle.outcome_list_laws.specs.Efficiency.{DescribedInputsDecide, DescribedFilesDecide, DescribedListsDecide, OctagonInputsDecide, OctagonFilesDecide, DescribedOctagonsDecide}
use Rattle.outcome_list_laws.specs.Parts.{ArePrinted, PartsDecideLinks, PartsDecideAlmostNormal}
use Rattle.outcome_list_laws.proofs.Runs.{joined, texts_of}
use Rattle.outcome_list_laws.proofs.Parts.{parts_decide_lem}
use Rattle.outcome_list_laws.proofs.Spheres.{spheres_decide_lem}

-- the outcome of one run is the text of its one part
one_text : (s : Skeleton) (coords : Coords) (o : Outcome) (parts : List (List Description)) → o ∷ [] ≡ texts_of s coords parts → o ≡ describe_outcome s coords (Ok (joined parts))
one_text s coords o [] e = cc
one_text s coords o (reported ∷ []) e =
    let first : o ≡ describe_outcome s coords (Ok reported) = cc in
    first ∙ ap (λ (ds : List Description). describe_outcome s coords (Ok ds)) (sym (append-nil reported))
one_text s coords o (reported ∷ next ∷ parts) e = cc

module _ (coords : Coords) (rows : List Row) (list asked : List (List ℕ)) (input : List ℕ) (p : Outcome) (read : IsListInput rows input list) (described : IsOutcomeTo (Describe coords) asked input p)
    (done : p.status ≡ Done) where
  abbrev run : ListRun
  run = record { words = asked; input = input; vectors = list; outcome = p }

  one_done : All (IsDoneRun (Describe coords) rows) (run ∷ [])
  one_done = All-cons (IsDoneRun (Describe coords) rows) run [] (record { read = read; asked = described; done = done }) (All-nil (IsDoneRun (Describe coords) rows))

  all_vectors : vectors_of (run ∷ []) ≡ list
  all_vectors = append-nil list

  same_vectors : HaveSameVectors list (vectors_of (run ∷ []))
  same_vectors = subst (HaveSameVectors list) (sym all_vectors) (All-contains_itself list, All-contains_itself list)

  one_outcome : (s : Skeleton) (reported : List Description) → ArePrinted s coords (run ∷ []) reported → p ≡ describe_outcome s coords (Ok reported)
  one_outcome s reported t = one_text s coords p t.parts t.outcomes ∙ ap (λ (ds : List Description). describe_outcome s coords (Ok ds)) t.joined

  one_list : (s : Skeleton) (reported : List Description) → ArePrinted s coords (run ∷ []) reported → IsSurfaceListOf s coords list → IsSurfaceListOf s coords (map (λ (d : Description). d.vector) reported)
  one_list s reported t surfaces = subst (IsSurfaceListOf s coords) (sym (t.vectors ∙ all_vectors)) surfaces

pub inputs_decide_lem : DescribedInputsDecide
inputs_decide_lem coords rows list asked input p triangles listed read described done =
    let h : PartsDecideLinks coords rows list (run coords rows list asked input p read described done ∷ []) =
    parts_decide_lem coords rows list _ triangles listed (one_done coords rows list asked input p read described done) (same_vectors coords rows list asked input p read described done) in
    record {
      skeleton = h.skeleton;
      of_rows = h.of_rows;
      is_skeleton = h.is_skeleton;
      reported = h.printed;
      outcome = one_outcome coords rows list asked input p read described done h.skeleton h.printed h.are_printed;
      surfaces = one_list coords rows list asked input p read described done h.skeleton h.printed h.are_printed h.surfaces;
      decides = h.decides;
    }

pub octagon_inputs_decide_lem : OctagonInputsDecide
octagon_inputs_decide_lem rows list asked input p listed read described done =
    let h : PartsDecideAlmostNormal rows list (run Octagon rows list asked input p read described done ∷ []) =
    spheres_decide_lem rows list _ [] listed (one_done Octagon rows list asked input p read described done) (same_vectors Octagon rows list asked input p read described done) in
    record {
      skeleton = h.skeleton;
      of_rows = h.of_rows;
      is_skeleton = h.is_skeleton;
      reported = h.printed;
      outcome = one_outcome Octagon rows list asked input p read described done h.skeleton h.printed h.are_printed;
      surfaces = one_list Octagon rows list asked input p read described done h.skeleton h.printed h.are_printed h.surfaces;
      decides = h.decides;
    }

pub files_decide_lem : DescribedFilesDecide
files_decide_lem coords front rows list asked p listed triangles file described done =
    inputs_decide_lem coords rows list asked (front ++ 10 ∷ listed.outcome.text) p triangles listed (joined_are_read_lem front listed.outcome.text rows list file listed.printed) described done

pub octagon_files_decide_lem : OctagonFilesDecide
octagon_files_decide_lem front rows list asked p listed file described done =
    octagon_inputs_decide_lem rows list asked (front ++ 10 ∷ listed.outcome.text) p listed (joined_are_read_lem front listed.outcome.text rows list file listed.printed) described done

-- the table as it is written, and what was printed, are such an input
pub described_lists_decide_lem : DescribedListsDecide
described_lists_decide_lem words asked bytes o p coords order most rows triangles listed spelled done described finished =
    let read : IsReadAsSurfaces coords rows o.text = surfaces_are_read_lem words bytes o coords order most rows listed spelled done in
    inputs_decide_lem coords rows read.list asked (table_text rows ++ o.text) p triangles
    (record { words = words; input = bytes; order = order; most = most; outcome = o; asked = listed; read = spelled; done = done; printed = read.read }) read.read described finished

pub described_octagons_decide_lem : DescribedOctagonsDecide
described_octagons_decide_lem words asked bytes o p order most rows listed spelled done described finished =
    let read : IsReadAsSurfaces Octagon rows o.text = surfaces_are_read_lem words bytes o Octagon order most rows listed spelled done in
    octagon_inputs_decide_lem rows read.list asked (table_text rows ++ o.text) p
    (record { words = words; input = bytes; order = order; most = most; outcome = o; asked = listed; read = spelled; done = done; printed = read.read }) read.read described finished
