-- What a binary search of ascending numbers found.
use Rattle.std.proofs.Common.{◌<◌, ℕ, List, Ok, Err, sym, ap, subst, ◌∙◌}
use Rattle.std.specs.List.{AllPairs}
use Rattle.std.proofs.lemmas.List.Sorted.{searched}
use Rattle.presentation_laws.specs.Classes.{generator_number}
use Rattle.edge_group.specs.Generators.{Generators}
use Rattle.edge_group.proofs.Relating.{ascending_le, number_found, number_missing}
use Rattle.edge_group.proofs.generators.Generators.number_of.Goals as goal

pub returns-in-Ok : goal.returns-in-Ok
returns-in-Ok c =
    let up : AllPairs (λ d e. d < e) c.deref.result.now = subst (AllPairs (λ d e. d < e)) (sym c.deref.ensures.value) c.self.invariant.generators.ascending in
    let s = searched c.deref.result.now c.args.class (Ok c.in-Ok.place) c.in-Ok.ensures.position (ascending_le c.deref.result.now up) in
    number_found c.deref.result.now c.args.class c.in-Ok.place up s.0 s.1
    ∙ ap (λ (xs : List ℕ). generator_number xs c.args.class) (c.deref.ensures.value ∙ ap (λ (g : Generators). g.classes) c.self.view_is)

pub returns-in-Err : goal.returns-in-Err
returns-in-Err c =
    let up : AllPairs (λ d e. d < e) c.deref.result.now = subst (AllPairs (λ d e. d < e)) (sym c.deref.ensures.value) c.self.invariant.generators.ascending in
    let s = searched c.deref.result.now c.args.class (Err c.in-Err.field-0) c.in-Err.ensures.position (ascending_le c.deref.result.now up) in
    number_missing c.deref.result.now c.args.class c.in-Err.field-0 s.1 s.2
    ∙ ap (λ (xs : List ℕ). generator_number xs c.args.class) (c.deref.ensures.value ∙ ap (λ (g : Generators). g.classes) c.self.view_is)
