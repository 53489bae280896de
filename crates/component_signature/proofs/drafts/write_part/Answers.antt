-- One more tetrahedron.
use Rattle.std.proofs.Common.{◌≡◌, ◌<◌, ℕ, List, length, slice_index, slice_index_or, sym, ap, subst, ◌∙◌, arith}
use Rattle.std.proofs.lemmas.List.{get_or_default}
use Rattle.component_definitions.specs.Parts.{Part}
use Rattle.component_signature.proofs.Writing.{none_written, one_written, others_kept, entry_below}
use Rattle.component_signature.proofs.drafts.write_part.Goals as goal

pub loop-place-init : goal.loop-place-init
loop-place-init c = none_written c.args.draft.now c.args.part.now c.args.other.now c.args.by.now

pub write-requires-clause-images : goal.write-requires-clause-images
write-requires-clause-images c =
    let e : c.deref-tet-items.result.now ≡ c.args.part.now.numbers = c.deref-tet-items.ensures.value ∙ ap (λ (p : Part). p.numbers) c.part.view_is in
    subst (λ n. slice_index_or c.deref-tet-items.result.now c.loop-place.place 0 < n) (sym c.loop-place.invariant.images)
    (entry_below c.deref-tet-items.result.now c.args.part.now.numbers (length c.args.draft.now.images) c.loop-place.place e c.requires.tets c.loop-place-test.true)

pub write-requires-clause-perms : goal.write-requires-clause-perms
write-requires-clause-perms c =
    let e : c.deref-tet-items.result.now ≡ c.args.part.now.numbers = c.deref-tet-items.ensures.value ∙ ap (λ (p : Part). p.numbers) c.part.view_is in
    subst (λ n. slice_index_or c.deref-tet-items.result.now c.loop-place.place 0 < n) (sym (c.loop-place.invariant.perms ∙ c.requires.perms))
    (entry_below c.deref-tet-items.result.now c.args.part.now.numbers (length c.args.draft.now.images) c.loop-place.place e c.requires.tets c.loop-place-test.true)

pub loop-place-preserved : goal.loop-place-preserved
loop-place-preserved c =
    let e : c.deref-tet-items.result.now ≡ c.args.part.now.numbers = c.deref-tet-items.ensures.value ∙ ap (λ (p : Part). p.numbers) c.part.view_is in
    let li : slice_index_or c.deref-tet-items.result.now c.loop-place.place 0 < length c.loop-place.draft.images = subst (λ n. slice_index_or c.deref-tet-items.result.now c.loop-place.place 0 < n) (sym c.loop-place.invariant.images)
    (entry_below c.deref-tet-items.result.now c.args.part.now.numbers (length c.args.draft.now.images) c.loop-place.place e c.requires.tets c.loop-place-test.true) in
    let lp : slice_index_or c.deref-tet-items.result.now c.loop-place.place 0 < length c.loop-place.draft.perms = subst (λ n. slice_index_or c.deref-tet-items.result.now c.loop-place.place 0 < n) (sym (c.loop-place.invariant.perms ∙ c.requires.perms ∙ sym c.loop-place.invariant.images)) li in
    let inside : c.loop-place.place < length c.args.part.now.numbers = subst (λ (ns : List ℕ). c.loop-place.place < length ns) e c.loop-place-test.true in
    let there : c.image.result < length c.args.other.now.numbers = subst (λ n. n < length c.args.other.now.numbers) (sym c.image.ensures.value) (c.requires.there c.loop-place.place inside) in
    let numbers : c.other.inside.numbers.items ≡ c.args.other.now.numbers = ap (λ (p : Part). p.numbers) c.other.view_is in
    let to : c.index-image.result.now ≡ slice_index c.args.other.now.numbers (slice_index c.args.by.now.images c.loop-place.place) =
    c.index-image.ensures ∙ ap (λ (ns : List ℕ). slice_index_or ns c.image.result c.index-image.result.now) numbers ∙ sym (get_or_default c.args.other.now.numbers c.image.result 0 c.index-image.result.now there)
    ∙ ap (slice_index c.args.other.now.numbers) c.image.ensures.value in
    one_written c.args.draft.now c.loop-place.draft c.write.new.self c.args.part.now c.args.other.now c.args.by.now c.loop-place.place (slice_index_or c.deref-tet-items.result.now c.loop-place.place 0) c.index-image.result.now c.perm.result
    c.requires.ascending inside (ap (λ (ns : List ℕ). slice_index_or ns c.loop-place.place 0) e) li lp to c.perm.ensures c.write.ensures c.loop-place.invariant

pub returns-clause-goes : goal.returns-clause-goes
returns-clause-goes c k l =
    let e : c.deref-tet-items.result.now ≡ c.args.part.now.numbers = c.deref-tet-items.ensures.value ∙ ap (λ (p : Part). p.numbers) c.part.view_is in
    c.loop-place.invariant.goes k (let same = ap length e in omega (arith, c.loop-place-test.false, l, same))

pub returns-clause-others : goal.returns-clause-others
returns-clause-others c =
    let e : c.deref-tet-items.result.now ≡ c.args.part.now.numbers = c.deref-tet-items.ensures.value ∙ ap (λ (p : Part). p.numbers) c.part.view_is in
    let all : c.loop-place.place ≡ length c.args.part.now.numbers = (let same = ap length e in omega (arith, c.loop-place-test.false, c.loop-place.auto.place-end, same)) in
    others_kept c.args.draft.now c.loop-place.draft c.args.part.now c.args.other.now c.args.by.now c.loop-place.place all c.loop-place.invariant

pub returns-clause-images : goal.returns-clause-images
returns-clause-images c = c.loop-place.invariant.images

pub returns-clause-perms : goal.returns-clause-perms
returns-clause-perms c = c.loop-place.invariant.perms
