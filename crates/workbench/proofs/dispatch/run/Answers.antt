-- What holds of each run, and what follows for each command.
use Rattle.std.proofs.Common.{refl}
use Rattle.command_definitions.proofs.Accepted.{accepted_in_range}
use Rattle.command_definitions.specs.declared.Request.TheVariants.{Play, Same, Group, Make, Bulk, Decompose, Addup, Cover, Csame}
use Rattle.text_document_definitions.specs.Documents.{table_document, two_tables_document, tables_document, vectors_document, steps_document}
use Rattle.text_document_definitions.specs.Blocks.{blocks_document}
use Rattle.outcome_answer_laws.specs.Makings.{IsTableWithMoves, IsSummaryWithMoves}
use Rattle.outcome_answer_laws.specs.Comparisons.{IsComparison, IsComponentComparison, IsGrouping}
use Rattle.outcome_answer_laws.specs.Sums.{IsDecomposition, IsAddition}
use Rattle.outcome_answer_laws.specs.Covers.{IsCovering}
use Rattle.outcome_answer_laws.specs.Scripts.{IsPlayed}
use Rattle.outcome_answer_laws.proofs.Makings.{made_with_moves, summed_up_with_moves}
use Rattle.outcome_answer_laws.proofs.Comparisons.{connected_compared, tables_grouped}
use Rattle.outcome_answer_laws.proofs.Components.{components_compared}
use Rattle.outcome_answer_laws.proofs.Sums.{vectors_decomposed, true_sums_accepted}
use Rattle.outcome_answer_laws.proofs.Covers.{covers_told}
use Rattle.outcome_answer_laws.proofs.Scripts.{scripts_played}
use Rattle.workbench.proofs.Headlines.{told_surfaces, told_rays, told_verdicts, done_answered}
use Rattle.workbench.proofs.Completeness.{all_surfaces, all_rays}
use Rattle.workbench.proofs.FewSurfaces.{few_surfaces}
use Rattle.workbench.proofs.Meant.{all_lifts, checks_told, alone_told, writes_of}
use Rattle.workbench.proofs.dispatch.run.Goals as goal

pub returns-clause-usage : goal.returns-clause-usage
returns-clause-usage g c = c.run_request.ensures.usage

pub returns-clause-usage_alone : goal.returns-clause-usage_alone
returns-clause-usage_alone g c = c.run_request.ensures.usage_alone

pub returns-clause-usage_line : goal.returns-clause-usage_line
returns-clause-usage_line g c = c.run_request.ensures.usage_reported

pub returns-clause-read_fault : goal.returns-clause-read_fault
returns-clause-read_fault g c = c.run_request.ensures.read_fault

pub returns-clause-read_fault_alone : goal.returns-clause-read_fault_alone
returns-clause-read_fault_alone g c = c.run_request.ensures.read_fault_alone

pub returns-clause-read_fault_line : goal.returns-clause-read_fault_line
returns-clause-read_fault_line g c = c.run_request.ensures.read_fault_reported

pub returns-clause-write_fault : goal.returns-clause-write_fault
returns-clause-write_fault g c = c.run_request.ensures.write_fault

pub returns-clause-prefix : goal.returns-clause-prefix
returns-clause-prefix g c = c.run_request.ensures.prefix

pub returns-clause-no_memory : goal.returns-clause-no_memory
returns-clause-no_memory g c = c.run_request.ensures.no_memory

pub returns-clause-no_memory_calm : goal.returns-clause-no_memory_calm
returns-clause-no_memory_calm g c = c.run_request.ensures.no_memory_calm

pub returns-clause-no_memory_within : goal.returns-clause-no_memory_within
returns-clause-no_memory_within g c = c.run_request.ensures.no_memory_within

pub returns-clause-outcome : goal.returns-clause-outcome
returns-clause-outcome g c = c.run_request.ensures.outcome

pub returns-clause-end : goal.returns-clause-end
returns-clause-end g c = c.run_request.ensures.end

pub returns-clause-untouched : goal.returns-clause-untouched
returns-clause-untouched g c = c.run_request.ensures.untouched

pub returns-clause-words_alone : goal.returns-clause-words_alone
returns-clause-words_alone g c = c.run_request.ensures.words_alone

pub returns-clause-answered : goal.returns-clause-answered
returns-clause-answered g c = c.run_request.ensures.answered

pub returns-clause-surfaces : goal.returns-clause-surfaces
returns-clause-surfaces g c = λ done. told_surfaces c.args.words.now c.run_request.result _ _ (g.S.Source.left c.args.source.now) done (c.run_request.ensures.outcome (done_answered c.run_request.result done))

pub returns-clause-rays : goal.returns-clause-rays
returns-clause-rays g c = λ done. told_rays c.args.words.now c.run_request.result _ _ (g.S.Source.left c.args.source.now) done (c.run_request.ensures.outcome (done_answered c.run_request.result done))

pub returns-clause-verify : goal.returns-clause-verify
returns-clause-verify g c = λ done. told_verdicts c.args.words.now c.run_request.result _ _ (g.S.Source.left c.args.source.now) done (c.run_request.ensures.outcome (done_answered c.run_request.result done))

pub returns-clause-all_surfaces : goal.returns-clause-all_surfaces
returns-clause-all_surfaces g c = all_surfaces c.args.words.now c.run_request.result _ _ (g.S.Source.left c.args.source.now) c.run_request.ensures.outcome

pub returns-clause-all_rays : goal.returns-clause-all_rays
returns-clause-all_rays g c = all_rays c.args.words.now c.run_request.result _ _ (g.S.Source.left c.args.source.now) c.run_request.ensures.outcome

pub returns-clause-few_surfaces : goal.returns-clause-few_surfaces
returns-clause-few_surfaces g c = few_surfaces c.args.words.now c.run_request.result _ _ (g.S.Source.left c.args.source.now) c.run_request.ensures.outcome

pub returns-clause-lifts : goal.returns-clause-lifts
returns-clause-lifts g c = all_lifts c.args.words.now c.run_request.result _ _ (g.S.Source.left c.args.source.now) c.run_request.ensures.outcome

pub returns-clause-makes : goal.returns-clause-makes
returns-clause-makes g c = λ seed moves e limited.
    alone_told (IsTableWithMoves moves) (Make seed moves) refl (λ p. made_with_moves seed moves p limited) c.run_request.result _ _ (c.run_request.ensures.words_alone (Make seed moves) e refl)

pub returns-clause-sums_up : goal.returns-clause-sums_up
returns-clause-sums_up g c = λ seed moves e.
    let limited = accepted_in_range c.args.words.now (Bulk seed moves) e in
    alone_told (IsSummaryWithMoves seed moves) (Bulk seed moves) refl (λ p. summed_up_with_moves seed moves p limited) c.run_request.result _ _ (c.run_request.ensures.words_alone (Bulk seed moves) e refl)

pub returns-clause-checks : goal.returns-clause-checks
returns-clause-checks g c = λ answered. checks_told c.args.words.now c.run_request.result _ _ (g.S.Source.left c.args.source.now) (c.run_request.ensures.outcome answered)

pub returns-clause-same : goal.returns-clause-same
returns-clause-same g c = λ e. writes_of c.args.words.now c.run_request.result _ _ Same two_tables_document IsComparison connected_compared e (g.S.Source.left c.args.source.now) c.run_request.ensures.outcome

pub returns-clause-csame : goal.returns-clause-csame
returns-clause-csame g c = λ e. writes_of c.args.words.now c.run_request.result _ _ Csame two_tables_document IsComponentComparison components_compared e (g.S.Source.left c.args.source.now) c.run_request.ensures.outcome

pub returns-clause-group : goal.returns-clause-group
returns-clause-group g c = λ e. writes_of c.args.words.now c.run_request.result _ _ Group tables_document IsGrouping tables_grouped e (g.S.Source.left c.args.source.now) c.run_request.ensures.outcome

pub returns-clause-cover : goal.returns-clause-cover
returns-clause-cover g c = λ e. writes_of c.args.words.now c.run_request.result _ _ Cover table_document IsCovering covers_told e (g.S.Source.left c.args.source.now) c.run_request.ensures.outcome

pub returns-clause-play : goal.returns-clause-play
returns-clause-play g c = λ e. writes_of c.args.words.now c.run_request.result _ _ Play steps_document IsPlayed scripts_played e (g.S.Source.left c.args.source.now) c.run_request.ensures.outcome

pub returns-clause-decompose : goal.returns-clause-decompose
returns-clause-decompose g c = λ coords most e.
    writes_of c.args.words.now c.run_request.result _ _ (Decompose coords most) vectors_document (IsDecomposition coords most) (vectors_decomposed coords most) e (g.S.Source.left c.args.source.now) c.run_request.ensures.outcome

pub returns-clause-addup : goal.returns-clause-addup
returns-clause-addup g c = λ coords e. writes_of c.args.words.now c.run_request.result _ _ (Addup coords) blocks_document (IsAddition coords) (true_sums_accepted coords) e (g.S.Source.left c.args.source.now) c.run_request.ensures.outcome
